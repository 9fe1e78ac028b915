-- The queues of owners, and one of them.
use Rattle.std.proofs.Common.{◌≡◌, ◌≢◌, ℕ, zero, suc, ◌<◌, true, false, List, [], ◌∷◌, ◌++◌, length, get_or, refl, sym, ◌∙◌, ap, subst, arith}
use Rattle.std.specs.Prelude.{◌==◌, Some, slice_set, remove}
use Rattle.std.proofs.lemmas.Bool.{eq-eqb, eqb-true, or_from, or_parts}
use Rattle.std.proofs.lemmas.List.{append-nil, append_assoc}
use Rattle.rss_wait.specs.declared.held.Held.{Held}
use Rattle.rss_wait.specs.Waits.{is_in, IsOnce}
use Rattle.rss_wait.specs.Held.{first_of, without_line}
use Rattle.rss_wait.specs.Queues.{Each, put_line, in_order, lines_of, held_in, owner_of, AreRising, IsQueue, owners, numbers, AreQueues}
use Rattle.rss_wait.proofs.Members.{in_both, apart_in, not_in, once_around}
use Rattle.rss_wait.proofs.Lines.{each_both, each_parts, each_so, each_order, order_each, bring, pushed, put_out, put_found, numbers_both, numbers_apart}

-- ---- lists

pub lines_both : (ks ls : List (List Held)) → lines_of (ks ++ ls) ≡ lines_of ks ++ lines_of ls
lines_both [] ls = refl
lines_both (k ∷ ks) ls = ap (λ (l : List Held). k ++ l) (lines_both ks ls) ∙ sym (append_assoc k (lines_of ks) (lines_of ls))

owners_both : (ks ls : List (List Held)) → owners (ks ++ ls) ≡ owners ks ++ owners ls
owners_both [] ls = refl
owners_both ([] ∷ ks) ls = owners_both ks ls
owners_both ((x ∷ xs) ∷ ks) ls = ap (λ (l : List ℕ). x.owner ∷ l) (owners_both ks ls)

once_off : (xs : List ℕ) (n : ℕ) (ys : List ℕ) → IsOnce (xs ++ n ∷ ys) → IsOnce (xs ++ ys)
once_off [] n ys once = once.1
once_off (x ∷ xs) n ys once =
    let parts = or_parts (is_in xs x) (is_in (n ∷ ys) x) (sym (in_both x xs (n ∷ ys)) ∙ once.0) in
    (in_both x xs ys ∙ or_from (is_in xs x) (is_in ys x) parts.0 (apart_in x n ys parts.1).1, once_off xs n ys once.1)

once_put : (xs : List ℕ) (n : ℕ) (ys : List ℕ) → is_in (xs ++ ys) n ≡ false → IsOnce (xs ++ ys) → IsOnce (xs ++ n ∷ ys)
once_put [] n ys away once = (away, once)
once_put (x ∷ xs) n ys away once =
    let apart = apart_in n x (xs ++ ys) away in
    let parts = or_parts (is_in xs x) (is_in ys x) (sym (in_both x xs ys) ∙ once.0) in
    (in_both x xs (n ∷ ys) ∙ or_from (is_in xs x) (is_in (n ∷ ys) x) parts.0 (not_in x n ys (λ same. apart.0 (sym same)) parts.1), once_put xs n ys apart.1 once.1)

-- ---- owners

pub owned : (t : ℕ) (queue : List Held) → AreRising t queue → Each (λ (x : Held). x.owner ≡ t) queue
owned t [] rising = tt
owned t (x ∷ queue) rising = (rising.0, owned t queue rising.2)

pub head_is : {x y : Held} {xs ys : List Held} → x ∷ xs ≡ y ∷ ys → x ≡ y
head_is {x} same = ap (λ (l : List Held). get_or l 0 x) same

pub rising_of : (x : Held) (xs : List Held) → IsQueue (x ∷ xs) → AreRising x.owner (x ∷ xs)
rising_of x xs queue = subst (λ (y : Held). AreRising y.owner (x ∷ xs)) (sym (head_is queue.is)) queue.rising

-- no line is of an owner that has no queue
pub not_owned : (t : ℕ) (queues : List (List Held)) → Each IsQueue queues → is_in (owners queues) t ≡ false → Each (λ (x : Held). x.owner ≢ t) (lines_of queues)
not_owned t [] each away = tt
not_owned t ([] ∷ queues) each away = not_owned t queues each.1 away
not_owned t ((x ∷ xs) ∷ queues) each away =
    let parts = apart_in t x.owner (owners queues) away in
    let rising : AreRising x.owner (x ∷ xs) = rising_of x xs each.0 in
    each_both (λ (y : Held). y.owner ≢ t) (x ∷ xs) (lines_of queues)
    (each_so (λ (y : Held). y.owner ≡ x.owner) (λ (y : Held). y.owner ≢ t) (λ y is same. parts.0 (sym is ∙ same)) (x ∷ xs) (owned x.owner (x ∷ xs) rising))
    (not_owned t queues each.1 parts.1)

pub queue_of : (x : Held) (xs : List Held) → AreRising x.owner (x ∷ xs) → IsQueue (x ∷ xs)
queue_of x xs rising = record { first = x; rest = xs; is = refl; rising = rising }

rising_more : (t : ℕ) (line : Held) (lines : List Held) → AreRising t lines → line.owner ≡ t → Each (λ (x : Held). x.number < line.number) lines → AreRising t (lines ++ line ∷ [])
rising_more t line [] rising own below = (own, tt, tt)
rising_more t line (x ∷ lines) rising own below =
    (rising.0, each_both (λ (y : Held). x.number < y.number) lines (line ∷ []) rising.1 (below.0, tt), rising_more t line lines rising.2 own below.1)

-- no line has a greater number than all
not_numbered : (n : ℕ) (lines : List Held) → Each (λ (x : Held). x.number < n) lines → is_in (numbers lines) n ≡ false
not_numbered n [] below = refl
not_numbered n (x ∷ lines) below = not_in n x.number (numbers lines) (λ same. omega (arith, same, below.0)) (not_numbered n lines below.1)

once_last : (xs : List ℕ) (n : ℕ) → is_in xs n ≡ false → IsOnce xs → IsOnce (xs ++ n ∷ [])
once_last xs n away once = once_put xs n [] (ap (λ (l : List ℕ). is_in l n) (append-nil xs) ∙ away) (subst IsOnce (sym (append-nil xs)) once)

-- a transaction has no queue where no place has one
pub no_owner : (t : ℕ) (queues : List (List Held)) → ((k : ℕ) → k < length queues → owner_of (get_or queues k []) ≢ Some t) → is_in (owners queues) t ≡ false
no_owner t [] none = refl
no_owner t ([] ∷ queues) none = no_owner t queues (λ k low. none (suc k) (omega (arith, low)))
no_owner t ((x ∷ xs) ∷ queues) none =
    not_in t x.owner (owners queues) (λ same. none 0 (omega arith) (ap (λ (n : ℕ). Some n) same)) (no_owner t queues (λ k low. none (suc k) (omega (arith, low))))

-- ---- the queue in a place

pub record At (queues : List (List Held)) (place : ℕ) : Type 0 where
  pub before : List (List Held)
  pub first : Held
  pub rest : List Held
  pub after : List (List Held)
  pub is : queues ≡ before ++ (first ∷ rest) ∷ after
  pub long : length before ≡ place
  pub here : get_or queues place [] ≡ first ∷ rest

pub at_place : (queues : List (List Held)) (place : ℕ) → Each IsQueue queues → place < length queues → At queues place
at_place [] place each low = absurd (omega (arith, low))
at_place (queue ∷ queues) zero each low =
    record { before = []; first = each.0.first; rest = each.0.rest; after = queues; is = ap (λ (q : List Held). q ∷ queues) each.0.is; long = refl; here = each.0.is }
at_place (queue ∷ queues) (suc place) each low =
    let at = at_place queues place each.1 (omega (arith, low)) in
    record { before = queue ∷ at.before; first = at.first; rest = at.rest; after = at.after; is = ap (λ (l : List (List Held)). queue ∷ l) at.is; long = omega (arith, at.long); here = at.here }

-- all lines but the first of this queue
abbrev pub others : {queues : List (List Held)} {place : ℕ} → At queues place → List Held
others at = lines_of at.before ++ (at.rest ++ lines_of at.after)

pub lines_at : {queues : List (List Held)} {place : ℕ} (at : At queues place) → lines_of queues ≡ lines_of at.before ++ at.first ∷ (at.rest ++ lines_of at.after)
lines_at at = ap lines_of at.is ∙ lines_both at.before ((at.first ∷ at.rest) ∷ at.after)

module _ {queues : List (List Held)} {place : ℕ} (are : AreQueues queues) (at : At queues place) where
  abbrev before_lines : List Held
  before_lines = lines_of at.before

  abbrev after_lines : List Held
  after_lines = at.rest ++ lines_of at.after

  numbers_at : IsOnce (numbers before_lines ++ at.first.number ∷ numbers after_lines)
  numbers_at = subst IsOnce (ap numbers (lines_at at) ∙ numbers_both before_lines (at.first ∷ after_lines)) are.numbers_once

  pub others_apart : Each (λ (x : Held). x.number ≢ at.first.number) (others at)
  others_apart =
      let apart = once_around at.first.number (numbers before_lines) (numbers after_lines) numbers_at in
      each_both (λ (x : Held). x.number ≢ at.first.number) before_lines after_lines
      (numbers_apart at.first.number before_lines apart.0) (numbers_apart at.first.number after_lines apart.1)

  pub held_at : held_in queues ≡ put_line at.first (in_order (others at))
  held_at =
      ap in_order (lines_at at)
      ∙ bring before_lines at.first after_lines (each_parts (λ (x : Held). x.number ≢ at.first.number) before_lines after_lines others_apart).0

  queues_at : Each IsQueue at.before × Each IsQueue ((at.first ∷ at.rest) ∷ at.after)
  queues_at = each_parts IsQueue at.before ((at.first ∷ at.rest) ∷ at.after) (subst (Each IsQueue) at.is are.each)

  pub rising_at : AreRising at.first.owner (at.first ∷ at.rest)
  rising_at = rising_of at.first at.rest queues_at.1.0

  owners_at : IsOnce (owners at.before ++ at.first.owner ∷ owners at.after)
  owners_at = subst IsOnce (ap owners at.is ∙ owners_both at.before ((at.first ∷ at.rest) ∷ at.after)) are.owners_once

  -- all other lines of its owner have greater numbers
  others_later : Each (λ (x : Held). (x.owner == at.first.owner) ≡ true → at.first.number < x.number) (others at)
  others_later =
      let apart = once_around at.first.owner (owners at.before) (owners at.after) owners_at in
      let off : (x : Held) → x.owner ≢ at.first.owner → (x.owner == at.first.owner) ≡ true → at.first.number < x.number =
      λ x differ same. absurd (differ (eqb-true x.owner at.first.owner same)) in
      each_both (λ (x : Held). (x.owner == at.first.owner) ≡ true → at.first.number < x.number) before_lines after_lines
      (each_so (λ (x : Held). x.owner ≢ at.first.owner) (λ (x : Held). (x.owner == at.first.owner) ≡ true → at.first.number < x.number) off before_lines (not_owned at.first.owner at.before queues_at.0 apart.0))
      (each_both (λ (x : Held). (x.owner == at.first.owner) ≡ true → at.first.number < x.number) at.rest (lines_of at.after)
      (each_so (λ (x : Held). at.first.number < x.number) (λ (x : Held). (x.owner == at.first.owner) ≡ true → at.first.number < x.number) (λ x less same. less) at.rest rising_at.1)
      (each_so (λ (x : Held). x.owner ≢ at.first.owner) (λ (x : Held). (x.owner == at.first.owner) ≡ true → at.first.number < x.number) off (lines_of at.after) (not_owned at.first.owner at.after queues_at.1.1 apart.1)))

  pub first_at : first_of (held_in queues) at.first.owner ≡ Some at.first
  first_at =
      ap (λ (l : List Held). first_of l at.first.owner) held_at
      ∙ put_found (λ line. line.owner == at.first.owner) at.first (in_order (others at)) (eq-eqb at.first.owner at.first.owner refl)
      (each_order (λ (x : Held). (x.owner == at.first.owner) ≡ true → at.first.number < x.number) (others at) others_later)

  -- ---- the first line taken out

  pub out_at : in_order (others at) ≡ without_line at.first.number (held_in queues)
  out_at = sym (ap (without_line at.first.number) held_at ∙ put_out at.first (in_order (others at)) (each_order (λ (x : Held). x.number ≢ at.first.number) (others at) others_apart))

  numbers_out : IsOnce (numbers (others at))
  numbers_out = subst IsOnce (sym (numbers_both before_lines after_lines)) (once_off (numbers before_lines) at.first.number (numbers after_lines) numbers_at)

  -- the queues with the others of that owner, or without it
  pub more_left : (second : Held) (rest : List Held) → at.rest ≡ second ∷ rest → AreQueues (at.before ++ at.rest ∷ at.after)
  more_left second rest is =
      let rising : AreRising at.first.owner (second ∷ rest) = subst (AreRising at.first.owner) is rising_at.2 in
      let queue : IsQueue at.rest = record { first = second; rest = rest; is = is; rising = subst (λ (t : ℕ). AreRising t at.rest) (sym rising.0) rising_at.2 } in
      let same : owners (at.before ++ at.rest ∷ at.after) ≡ owners at.before ++ at.first.owner ∷ owners at.after =
      owners_both at.before (at.rest ∷ at.after)
      ∙ ap (λ (q : List Held). owners at.before ++ owners (q ∷ at.after)) is
      ∙ ap (λ (t : ℕ). owners at.before ++ t ∷ owners at.after) rising.0 in
      record {
        each = each_both IsQueue at.before (at.rest ∷ at.after) queues_at.0 (queue, queues_at.1.1);
        owners_once = subst IsOnce (sym same) owners_at;
        numbers_once = subst IsOnce (sym (ap numbers (lines_both at.before (at.rest ∷ at.after)))) numbers_out;
      }

  pub none_left : at.rest ≡ [] → AreQueues (at.before ++ at.after)
  none_left is = record {
    each = each_both IsQueue at.before at.after queues_at.0 queues_at.1.1;
    owners_once = subst IsOnce (sym (owners_both at.before at.after)) (once_off (owners at.before) at.first.owner (owners at.after) owners_at);
    numbers_once = subst IsOnce (ap numbers (ap (λ (q : List Held). before_lines ++ (q ++ lines_of at.after)) is ∙ sym (lines_both at.before at.after))) numbers_out;
  }

  -- one more line of that owner
  pub pushed_at : (line : Held) → Each (λ (x : Held). x.number < line.number) (held_in queues) → held_in (at.before ++ ((at.first ∷ at.rest) ++ line ∷ []) ∷ at.after) ≡ held_in queues ++ line ∷ []
  pushed_at line below =
      let front = before_lines ++ (at.first ∷ at.rest) in
      let all : lines_of queues ≡ front ++ lines_of at.after = lines_at at ∙ sym (append_assoc before_lines (at.first ∷ at.rest) (lines_of at.after)) in
      let now : lines_of (at.before ++ ((at.first ∷ at.rest) ++ line ∷ []) ∷ at.after) ≡ front ++ line ∷ lines_of at.after =
      lines_both at.before (((at.first ∷ at.rest) ++ line ∷ []) ∷ at.after)
      ∙ ap (λ (l : List Held). before_lines ++ l) (append_assoc (at.first ∷ at.rest) (line ∷ []) (lines_of at.after))
      ∙ sym (append_assoc before_lines (at.first ∷ at.rest) (line ∷ lines_of at.after)) in
      ap in_order now
      ∙ pushed front line (lines_of at.after) (subst (Each (λ (x : Held). x.number < line.number)) all (order_each (λ (x : Held). x.number < line.number) (lines_of queues) below))
      ∙ ap (λ (l : List Held). in_order l ++ line ∷ []) (sym all)

  pub more_at : (line : Held) → line.owner ≡ at.first.owner → Each (λ (x : Held). x.number < line.number) (held_in queues) → AreQueues (at.before ++ ((at.first ∷ at.rest) ++ line ∷ []) ∷ at.after)
  more_at line own below =
      let front = before_lines ++ (at.first ∷ at.rest) in
      let all : lines_of queues ≡ front ++ lines_of at.after = lines_at at ∙ sym (append_assoc before_lines (at.first ∷ at.rest) (lines_of at.after)) in
      let now : lines_of (at.before ++ ((at.first ∷ at.rest) ++ line ∷ []) ∷ at.after) ≡ front ++ line ∷ lines_of at.after =
      lines_both at.before (((at.first ∷ at.rest) ++ line ∷ []) ∷ at.after)
      ∙ ap (λ (l : List Held). before_lines ++ l) (append_assoc (at.first ∷ at.rest) (line ∷ []) (lines_of at.after))
      ∙ sym (append_assoc before_lines (at.first ∷ at.rest) (line ∷ lines_of at.after)) in
      let lower : Each (λ (x : Held). x.number < line.number) (lines_of queues) = order_each (λ (x : Held). x.number < line.number) (lines_of queues) below in
      let mine = each_parts (λ (x : Held). x.number < line.number) before_lines (at.first ∷ after_lines) (subst (Each (λ (x : Held). x.number < line.number)) (lines_at at) lower) in
      let rest = each_parts (λ (x : Held). x.number < line.number) (at.first ∷ at.rest) (lines_of at.after) mine.1 in
      let rising : AreRising at.first.owner ((at.first ∷ at.rest) ++ line ∷ []) = rising_more at.first.owner line (at.first ∷ at.rest) rising_at own rest.0 in
      let numbers_now : numbers (front ++ line ∷ lines_of at.after) ≡ numbers front ++ line.number ∷ numbers (lines_of at.after) = numbers_both front (line ∷ lines_of at.after) in
      let numbers_were : numbers (lines_of queues) ≡ numbers front ++ numbers (lines_of at.after) = ap numbers all ∙ numbers_both front (lines_of at.after) in
      record {
        each = each_both IsQueue at.before (((at.first ∷ at.rest) ++ line ∷ []) ∷ at.after) queues_at.0 (queue_of at.first (at.rest ++ line ∷ []) rising, queues_at.1.1);
        owners_once = subst IsOnce (sym (owners_both at.before (((at.first ∷ at.rest) ++ line ∷ []) ∷ at.after))) owners_at;
        numbers_once = subst IsOnce (sym (ap numbers now ∙ numbers_now)) (once_put (numbers front) line.number (numbers (lines_of at.after))
            (ap (λ (l : List ℕ). is_in l line.number) (sym numbers_were) ∙ not_numbered line.number (lines_of queues) lower)
            (subst IsOnce numbers_were are.numbers_once));
      }

-- ---- a queue of its own

pub pushed_last : (queues : List (List Held)) (line : Held) → Each (λ (x : Held). x.number < line.number) (held_in queues) → held_in (queues ++ (line ∷ []) ∷ []) ≡ held_in queues ++ line ∷ []
pushed_last queues line below =
    let lower : Each (λ (x : Held). x.number < line.number) (lines_of queues) = order_each (λ (x : Held). x.number < line.number) (lines_of queues) below in
    ap in_order (lines_both queues ((line ∷ []) ∷ []))
    ∙ pushed (lines_of queues) line [] (subst (Each (λ (x : Held). x.number < line.number)) (sym (append-nil (lines_of queues))) lower)
    ∙ ap (λ (l : List Held). in_order l ++ line ∷ []) (append-nil (lines_of queues))

pub one_more : (queues : List (List Held)) (line : Held) → AreQueues queues → is_in (owners queues) line.owner ≡ false → Each (λ (x : Held). x.number < line.number) (held_in queues) → AreQueues (queues ++ (line ∷ []) ∷ [])
one_more queues line are away below =
    let lower : Each (λ (x : Held). x.number < line.number) (lines_of queues) = order_each (λ (x : Held). x.number < line.number) (lines_of queues) below in
    record {
      each = each_both IsQueue queues ((line ∷ []) ∷ []) are.each (queue_of line [] (refl, tt, tt), tt);
      owners_once = subst IsOnce (sym (owners_both queues ((line ∷ []) ∷ []))) (once_last (owners queues) line.owner away are.owners_once);
      numbers_once = subst IsOnce (sym (ap numbers (lines_both queues ((line ∷ []) ∷ [])) ∙ numbers_both (lines_of queues) (line ∷ [])))
          (once_last (numbers (lines_of queues)) line.number (not_numbered line.number (lines_of queues) lower) are.numbers_once);
    }

-- ---- the list of queues

pub put_at : (before : List (List Held)) (old new : List Held) (after : List (List Held)) (place : ℕ) → length before ≡ place → slice_set (before ++ old ∷ after) place new ≡ before ++ new ∷ after
put_at [] old new after zero long = refl
put_at [] old new after (suc place) long = absurd (omega (arith, long))
put_at (q ∷ before) old new after zero long = absurd (omega (arith, long))
put_at (q ∷ before) old new after (suc place) long = ap (λ (l : List (List Held)). q ∷ l) (put_at before old new after place (omega (arith, long)))

pub remove_at : (before : List (List Held)) (old : List Held) (after : List (List Held)) (place : ℕ) → length before ≡ place → remove (before ++ old ∷ after) place ≡ before ++ after
remove_at [] old after zero long = refl
remove_at [] old after (suc place) long = absurd (omega (arith, long))
remove_at (q ∷ before) old after zero long = absurd (omega (arith, long))
remove_at (q ∷ before) old after (suc place) long = ap (λ (l : List (List Held)). q ∷ l) (remove_at before old after place (omega (arith, long)))
