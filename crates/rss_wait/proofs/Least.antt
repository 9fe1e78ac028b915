-- The least of the queues.
use Rattle.std.proofs.Common.{Bor, ◌≡◌, ◌≢◌, inl, inr, ℕ, suc, ◌<◌, ◌≤◌, true, cond, List, [], ◌∷◌, ◌++◌, length, get_or, refl, sym, ◌∙◌, ap, subst, arith}
use Rattle.std.specs.Prelude.{Option, Some, None, is_some, slice_get, option_copied, IfSome, IfNone}
use Rattle.std.proofs.lemmas.Bool.{cases_Bool, cond-false, true≢false}
use Rattle.rss_wait.specs.declared.wait.Wait.{Wait}
use Rattle.rss_wait.specs.declared.held.Held.{Held}
use Rattle.rss_wait.specs.Waits.{holder_of}
use Rattle.rss_wait.specs.Held.{AllWait, IsLeastFree}
use Rattle.rss_wait.specs.Queues.{Each, in_order, lines_of, held_in, number_of, free_owner, IsQueue, AreQueues, IsLeast}
use Rattle.rss_wait.proofs.Loops.{some_is}
use Rattle.rss_wait.proofs.Lines.{each_both, each_parts, each_so, each_and, each_all, each_order, put_least}
use Rattle.rss_wait.proofs.Changed.{defaults}
use Rattle.rss_wait.proofs.Queues.{At, at_place, others, owned, lines_at, others_apart, held_at, first_at, rising_of}

some_none : {n : ℕ} → Some n ≡ None → ⊥
some_none is = true≢false (ap is_some is)

-- ---- the oldest

pub oldest_none : (queues : List (List Held)) → Each IsQueue queues → IsLeast number_of queues (length queues) None → slice_get (held_in queues) 0 ≡ None
oldest_none [] each none = refl
oldest_none (queue ∷ queues) each none = absurd (some_none (sym (ap number_of each.0.is) ∙ none 0 (omega arith) (omega arith)))

all_higher : (m : ℕ) (queues : List (List Held)) → Each IsQueue queues → ((k n : ℕ) → k < length queues → number_of (get_or queues k []) ≡ Some n → m ≤ n) → Each (λ (x : Held). m ≤ x.number) (lines_of queues)
all_higher m [] each least = tt
all_higher m (queue ∷ queues) each least =
    let first = each.0.first in
    let rest = each.0.rest in
    let here : m ≤ first.number = least 0 first.number (omega arith) (ap number_of each.0.is) in
    let rising = rising_of first rest (subst IsQueue each.0.is each.0) in
    let mine : Each (λ (x : Held). m ≤ x.number) (first ∷ rest) = (here, each_so (λ (x : Held). first.number < x.number) (λ (x : Held). m ≤ x.number) (λ x less. omega (arith, here, less)) rest rising.1) in
    each_both (λ (x : Held). m ≤ x.number) queue (lines_of queues) (subst (Each (λ (x : Held). m ≤ x.number)) (sym each.0.is) mine)
    (all_higher m queues each.1 (λ k n low has. least (suc k) n (omega (arith, low)) has))

pub oldest_at : {queues : List (List Held)} {place : ℕ} (are : AreQueues queues) (at : At queues place) → ((k n : ℕ) → k < length queues → number_of (get_or queues k []) ≡ Some n → at.first.number ≤ n) → slice_get (held_in queues) 0 ≡ Some at.first
oldest_at {queues} are at least =
    let number = at.first.number in
    let before = lines_of at.before in
    let after = at.rest ++ lines_of at.after in
    let higher = each_parts (λ (x : Held). number ≤ x.number) before (at.first ∷ after) (subst (Each (λ (x : Held). number ≤ x.number)) (lines_at at) (all_higher number queues are.each least)) in
    let later : Each (λ (x : Held). number < x.number) (others at) =
    each_and (λ (x : Held). number ≤ x.number) (λ (x : Held). x.number ≢ number) (λ (x : Held). number < x.number) (λ x low differ. omega (arith, low, differ)) (others at)
    (each_both (λ (x : Held). number ≤ x.number) before after higher.0 higher.1.1) (others_apart are at) in
    ap (λ (l : List Held). slice_get l 0) (held_at are at ∙ put_least at.first (in_order (others at)) (each_order (λ (x : Held). number < x.number) (others at) later))

-- ---- the least that doesn't wait

free_is : (o : Option ℕ) (t u : ℕ) → cond (is_some o) None (Some u) ≡ Some t → (u ≡ t) × (o ≡ None)
free_is None t u is = (some_is is, refl)
free_is (Some n) t u is = absurd (some_none (sym is))

free_all : (waits : List Wait) (queues : List (List Held)) → Each IsQueue queues → ((k : ℕ) → k < length queues → free_owner waits (get_or queues k []) ≡ None) → Each (λ (x : Held). is_some (holder_of waits x.owner) ≡ true) (lines_of queues)
free_all waits [] each none = tt
free_all waits (queue ∷ queues) each none =
    let first = each.0.first in
    let rest = each.0.rest in
    let waits_on : is_some (holder_of waits first.owner) ≡ true = elim (cases_Bool (is_some (holder_of waits first.owner))) [
      | inl yes_waits ↦ yes_waits
      | inr free ↦ absurd (some_none (sym (cond-false (is_some (holder_of waits first.owner)) None (Some first.owner) free) ∙ sym (ap (free_owner waits) each.0.is) ∙ none 0 (omega arith)))
    ] in
    let mine = owned first.owner (first ∷ rest) (rising_of first rest (subst IsQueue each.0.is each.0)) in
    each_both (λ (x : Held). is_some (holder_of waits x.owner) ≡ true) queue (lines_of queues)
    (subst (Each (λ (x : Held). is_some (holder_of waits x.owner) ≡ true)) (sym each.0.is)
    (each_so (λ (x : Held). x.owner ≡ first.owner) (λ (x : Held). is_some (holder_of waits x.owner) ≡ true) (λ x same. ap (λ (t : ℕ). is_some (holder_of waits t)) same ∙ waits_on) (first ∷ rest) mine))
    (free_all waits queues each.1 (λ k low. none (suc k) (omega (arith, low))))

pub none_free : (waits : List Wait) (queues : List (List Held)) → Each IsQueue queues → IsLeast (free_owner waits) queues (length queues) None → AllWait waits (held_in queues)
none_free waits queues each none =
    each_all (λ (x : Held). is_some (holder_of waits x.owner) ≡ true) (held_in queues)
    (each_order (λ (x : Held). is_some (holder_of waits x.owner) ≡ true) (lines_of queues) (free_all waits queues each (λ k low. none k low low)))

free_higher : (waits : List Wait) (t : ℕ) (queues : List (List Held)) → Each IsQueue queues → ((k n : ℕ) → k < length queues → free_owner waits (get_or queues k []) ≡ Some n → t ≤ n) → Each (λ (x : Held). holder_of waits x.owner ≡ None → t ≤ x.owner) (lines_of queues)
free_higher waits t [] each least = tt
free_higher waits t (queue ∷ queues) each least =
    let first = each.0.first in
    let rest = each.0.rest in
    let mine = owned first.owner (first ∷ rest) (rising_of first rest (subst IsQueue each.0.is each.0)) in
    let higher : (x : Held) → x.owner ≡ first.owner → holder_of waits x.owner ≡ None → t ≤ x.owner = λ x same free.
    let low : t ≤ first.owner = least 0 first.owner (omega arith) (ap (free_owner waits) each.0.is ∙ ap (λ (o : Option ℕ). cond (is_some o) None (Some first.owner)) (ap (holder_of waits) (sym same) ∙ free)) in
    omega (arith, low, same) in
    each_both (λ (x : Held). holder_of waits x.owner ≡ None → t ≤ x.owner) queue (lines_of queues)
    (subst (Each (λ (x : Held). holder_of waits x.owner ≡ None → t ≤ x.owner)) (sym each.0.is)
    (each_so (λ (x : Held). x.owner ≡ first.owner) (λ (x : Held). holder_of waits x.owner ≡ None → t ≤ x.owner) higher (first ∷ rest) mine))
    (free_higher waits t queues each.1 (λ k n low has. least (suc k) n (omega (arith, low)) has))

pub least_free : {queues : List (List Held)} {place : ℕ} (waits : List Wait) (t : ℕ) (are : AreQueues queues) (at : At queues place) → free_owner waits (get_or queues place []) ≡ Some t → ((k n : ℕ) → k < length queues → free_owner waits (get_or queues k []) ≡ Some n → t ≤ n) → IsLeastFree waits (held_in queues) at.first
least_free {queues} waits t are at is least =
    let parts = free_is (holder_of waits at.first.owner) t at.first.owner (sym (ap (free_owner waits) at.here) ∙ is) in
    let higher = free_higher waits t queues are.each least in
    record {
      free = parts.1;
      first = first_at are at;
      least = each_all (λ (x : Held). holder_of waits x.owner ≡ None → at.first.owner ≤ x.owner) (held_in queues)
          (each_order (λ (x : Held). holder_of waits x.owner ≡ None → at.first.owner ≤ x.owner) (lines_of queues)
          (each_so (λ (x : Held). holder_of waits x.owner ≡ None → t ≤ x.owner) (λ (x : Held). holder_of waits x.owner ≡ None → at.first.owner ≤ x.owner) (λ x low free. omega (arith, low free, parts.0)) (lines_of queues) higher));
    }

-- ---- what is found

abbrev line_or : Held → Option Held → Held
line_or line None = line
line_or line (Some other) = other

some_line : {x y : Held} → Some x ≡ Some y → x ≡ y
some_line {x} same = ap (line_or x) same

pub oldest_found : (queues : List (List Held)) (m place : ℕ) (got : List Held) → AreQueues queues → IsLeast number_of queues (length queues) (Some (m, place)) → got ≡ get_or queues place got → slice_get got 0 ≡ slice_get (held_in queues) 0
oldest_found queues m place got are least is =
    let at = at_place queues place are.each least.0 in
    let same : at.first.number ≡ m = some_is (sym (ap number_of at.here) ∙ least.1) in
    ap (λ (q : List Held). slice_get q 0) (is ∙ defaults queues place got [] least.0 ∙ at.here)
    ∙ sym (oldest_at are at (λ k n low has. omega (arith, same, least.2 k n low low has)))

pub free_found : (waits : List Wait) (queues : List (List Held)) (t place : ℕ) (got : List Held) → AreQueues queues → IsLeast (free_owner waits) queues (length queues) (Some (t, place)) → got ≡ get_or queues place got → (line : Held) → slice_get got 0 ≡ Some line → IsLeastFree waits (held_in queues) line
free_found waits queues t place got are least is line first =
    let at = at_place queues place are.each least.0 in
    let same : at.first ≡ line = some_line (sym (ap (λ (q : List Held). slice_get q 0) (is ∙ defaults queues place got [] least.0 ∙ at.here)) ∙ first) in
    subst (IsLeastFree waits (held_in queues)) same (least_free waits t are at least.1 (λ k n low has. least.2 k n low low has))

pub if_copied : (r : Option (Bor Held)) (P : Held → Type 0) → ((line : Held) → option_copied r ≡ Some line → P line) → IfSome r (λ line. P line.now)
if_copied None P so = tt
if_copied (Some line) P so = so line.now refl

pub if_none : {X : Type 0} (r : Option X) {P : Type 0} → P → IfNone r P
if_none None is = is
if_none (Some x) is = tt
