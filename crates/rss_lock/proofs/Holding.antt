-- The places of transactions, and the mode that each of them has on an item.
use Rattle.std.proofs.Common.{◌≡◌, ◌⊎◌, inl, inr, ℕ, zero, suc, ◌+◌, ◌<◌, ◌≤◌, Bool, true, false, cond, List, [], ◌∷◌, length, get_or, set, refl, sym, ◌∙◌, ap, subst, arith}
use Rattle.std.proofs.Common.{◌||◌, eqb-true, eq-eqb}
use Rattle.std.specs.Prelude.{Option, Some, None, is_none, nat_le, ◌==◌}
use Rattle.std.proofs.Common.{replicate}
use Rattle.std.proofs.lemmas.List.{get_or-replicate, get_or_past, length-replicate}
use Rattle.std.proofs.lemmas.Bool.{cases_lt}
use borrow.Author.Tests.{le-leb, lt-leb}
use mathlib.Core.Bool.{true≢false}
use Rattle.std.specs.List.{list_any, AllByRecursion}
use Rattle.rss_base.specs.declared.need.Mode.{Mode}
use Rattle.rss_lock.specs.declared.places.Holder.{Holder}
use Rattle.rss_lock.specs.Table.{AreAllOf, is_of, counted, first, rest, held, current_modes, IsAlone, HasBegun}

-- ---- tests

cases : (b : Bool) → (b ≡ true) ⊎ (b ≡ false)
cases true = inl refl
cases false = inr refl

if_true : {A : Type 0} (b : Bool) (x y : A) → b ≡ true → cond b x y ≡ x
if_true true x y e = refl
if_true false x y e = cc

if_false : {A : Type 0} (b : Bool) (x y : A) → b ≡ false → cond b x y ≡ y
if_false false x y e = refl
if_false true x y e = cc

-- ---- a place's mode

first_at : (modes : List (Option Mode)) → get_or modes 0 None ≡ first modes
first_at [] = refl
first_at (m ∷ ms) = refl

rest_at : (modes : List (Option Mode)) (k : ℕ) → get_or modes (suc k) None ≡ get_or (rest modes) k None
rest_at [] k = refl
rest_at (m ∷ ms) k = refl

-- what has this mode in each place is the list of them
pub current_is : (holders : List (Option Holder)) (as_of : ℕ) (modes found : List (Option Mode)) → length found ≡ length holders → ((k : ℕ) → k < length holders → get_or found k None ≡ counted (get_or holders k None) as_of (get_or modes k None)) → found ≡ current_modes holders as_of modes
current_is [] as_of modes [] long each = refl
current_is [] as_of modes (f ∷ fs) long each = absurd (omega arith)
current_is (h ∷ hs) as_of modes [] long each = absurd (omega arith)
current_is (h ∷ hs) as_of modes (f ∷ fs) long each =
    let here : f ≡ counted h as_of (first modes) = each 0 (omega arith) ∙ ap (counted h as_of) (first_at modes) in
    let others : fs ≡ current_modes hs as_of (rest modes) =
    current_is hs as_of (rest modes) fs (omega arith)
    (λ k below. each (suc k) (omega arith) ∙ ap (counted (get_or hs k None) as_of) (rest_at modes k)) in
    λ i. here i ∷ others i

pub length-current_modes : (holders : List (Option Holder)) (as_of : ℕ) (modes : List (Option Mode)) → length (current_modes holders as_of modes) ≡ length holders
length-current_modes [] as_of modes = refl
length-current_modes (h ∷ hs) as_of modes = ap suc (length-current_modes hs as_of (rest modes))

-- ---- whose place it is

refuted : {A : Type 0} → false ≡ true → A
refuted e = absurd (true≢false (sym e))

any_here : {A : Type 0} (p : A → Bool) (x : A) (xs : List A) → p x ≡ true → list_any p (x ∷ xs) ≡ true
any_here p x xs e = ap (λ (b : Bool). b || list_any p xs) e

any_later : {A : Type 0} (p : A → Bool) (x : A) (xs : List A) → list_any p xs ≡ true → list_any p (x ∷ xs) ≡ true
any_later p x xs e = elim (cases (p x)) [ inl t ↦ any_here p x xs t | inr f ↦ ap (λ (b : Bool). b || list_any p xs) f ∙ e ]

none_here : {A : Type 0} (p : A → Bool) (x : A) (xs : List A) → list_any p (x ∷ xs) ≡ false → p x ≡ false
none_here p x xs e = elim (cases (p x)) [ inl t ↦ absurd (true≢false (sym (any_here p x xs t) ∙ e)) | inr f ↦ f ]

none_later : {A : Type 0} (p : A → Bool) (x : A) (xs : List A) → list_any p (x ∷ xs) ≡ false → list_any p xs ≡ false
none_later p x xs e = elim (cases (list_any p xs)) [ inl t ↦ absurd (true≢false (sym (any_later p x xs t) ∙ e)) | inr f ↦ f ]

none_of : {A : Type 0} (p : A → Bool) (x : A) (xs : List A) → p x ≡ false → list_any p xs ≡ false → list_any p (x ∷ xs) ≡ false
none_of p x xs here later = ap (λ (b : Bool). b || list_any p xs) here ∙ later

pub none_set : {A : Type 0} (p : A → Bool) (xs : List A) (k : ℕ) (y : A) → list_any p xs ≡ false → p y ≡ false → list_any p (set xs k y) ≡ false
none_set p [] k y none new = none
none_set p (x ∷ xs) zero y none new = none_of p y xs new (none_later p x xs none)
none_set p (x ∷ xs) (suc k) y none new = none_of p x (set xs k y) (none_here p x xs none) (none_set p xs k y (none_later p x xs none) new)

-- t has a place if one is t's
pub some_of : (t : ℕ) (holders : List (Option Holder)) (p : ℕ) → is_of t (get_or holders p None) ≡ true → list_any (is_of t) holders ≡ true
some_of t [] p here = here
some_of t (h ∷ hs) zero here = any_here (is_of t) h hs here
some_of t (h ∷ hs) (suc p) here = any_later (is_of t) h hs (some_of t hs p here)

-- and where none is, no place is t's
pub none_at : (t : ℕ) (holders : List (Option Holder)) (p : ℕ) → list_any (is_of t) holders ≡ false → is_of t (get_or holders p None) ≡ false
none_at t holders p none = elim (cases (is_of t (get_or holders p None))) [ inl here ↦ absurd (true≢false (sym (some_of t holders p here) ∙ none)) | inr off ↦ off ]

-- a transaction that has a place has one of those
pub place_in : (t : ℕ) (holders : List (Option Holder)) → list_any (is_of t) holders ≡ true → (p : ℕ) × (is_of t (get_or holders p None) ≡ true)
place_in t [] has = refuted has
place_in t (h ∷ hs) has = elim (cases (is_of t h)) [
  | inl here ↦ (0, here)
  | inr off ↦ let later = place_in t hs (sym (ap (λ (b : Bool). b || list_any (is_of t) hs) off) ∙ has) in (suc later.0, later.1)
]

-- all places are t's, where those below an end are, and those from there on are free
pub all_of : (t : ℕ) (holders : List (Option Holder)) (end : ℕ) → ((k : ℕ) → end ≤ k → get_or holders k None ≡ None) → ((k : ℕ) (h : Holder) → k < end → get_or holders k None ≡ Some h → h.transaction ≡ t) → AreAllOf t holders
all_of t holders end free used u has = let at = place_in u holders has in by at.0 (get_or holders at.0 None) refl at.1
  where
    by : (p : ℕ) (o : Option Holder) → get_or holders p None ≡ o → is_of u o ≡ true → u ≡ t
    by p None there its = refuted its
    by p (Some h) there its = elim (cases_lt p end) [
      | inl below ↦ sym (eqb-true h.transaction u its) ∙ used p h below there
      | inr past ↦ absurd (let two : None ≡ Some h = sym (free p past) ∙ there in cc)
    ]

-- one place isn't that of two transactions
pub one_of : (t u : ℕ) (holder : Option Holder) → is_of t holder ≡ true → is_of u holder ≡ true → u ≡ t
one_of t u None a b = refuted a
one_of t u (Some h) a b = sym (eqb-true h.transaction u b) ∙ eqb-true h.transaction t a

later_alone : (h : Option Holder) (hs : List (Option Holder)) → IsAlone (h ∷ hs) → IsAlone hs
later_alone None hs alone = alone
later_alone (Some h) hs alone = alone.1

-- who has a later place hasn't the first
first_apart : (t : ℕ) (h : Option Holder) (hs : List (Option Holder)) → IsAlone (h ∷ hs) → list_any (is_of t) hs ≡ true → is_of t h ≡ false
first_apart t None hs alone later = refl
first_apart t (Some h) hs alone later = elim (cases (h.transaction == t)) [
  | inl same ↦ absurd (true≢false (sym later ∙ ap (λ (u : ℕ). list_any (is_of u) hs) (sym (eqb-true h.transaction t same)) ∙ alone.0))
  | inr off ↦ off
]

-- ---- the mode of a transaction

pub held_at : (t : ℕ) (holders : List (Option Holder)) (as_of : ℕ) (modes : List (Option Mode)) (p : ℕ) → IsAlone holders → is_of t (get_or holders p None) ≡ true → held t holders as_of modes ≡ counted (get_or holders p None) as_of (get_or modes p None)
held_at t [] as_of modes p alone here = refuted here
held_at t (h ∷ hs) as_of modes zero alone here = if_true (is_of t h) _ _ here ∙ ap (counted h as_of) (sym (first_at modes))
held_at t (h ∷ hs) as_of modes (suc p) alone here =
    if_false (is_of t h) _ _ (first_apart t h hs alone (some_of t hs p here))
    ∙ held_at t hs as_of (rest modes) p (later_alone h hs alone) here
    ∙ ap (counted (get_or hs p None) as_of) (sym (rest_at modes p))

pub held_none : (t : ℕ) (holders : List (Option Holder)) (as_of : ℕ) (modes : List (Option Mode)) → list_any (is_of t) holders ≡ false → held t holders as_of modes ≡ None
held_none t [] as_of modes none = refl
held_none t (h ∷ hs) as_of modes none = if_false (is_of t h) _ _ (none_here (is_of t) h hs none) ∙ held_none t hs as_of (rest modes) (none_later (is_of t) h hs none)

-- a transaction that holds something has a place
pub held_place : (t : ℕ) (holders : List (Option Holder)) (as_of : ℕ) (modes : List (Option Mode)) (mode : Mode) → held t holders as_of modes ≡ Some mode → (p : ℕ) × (p < length holders) × (is_of t (get_or holders p None) ≡ true) × (counted (get_or holders p None) as_of (get_or modes p None) ≡ Some mode)
held_place t [] as_of modes mode e = absurd (cc)
held_place t (h ∷ hs) as_of modes mode e = elim (cases (is_of t h)) [
  | inl here ↦ (0, omega arith, here, ap (counted h as_of) (first_at modes) ∙ sym (if_true (is_of t h) _ _ here) ∙ e)
  | inr off ↦
      let later = held_place t hs as_of (rest modes) mode (sym (if_false (is_of t h) _ _ off) ∙ e) in
      (suc later.0, omega (arith, later.1), later.2, ap (counted (get_or hs later.0 None) as_of) (rest_at modes later.0) ∙ later.3)
]

count_again : (h : Option Holder) (firsts as_of : ℕ) (mode : Option Mode) → HasBegun firsts h → counted h firsts (counted h as_of mode) ≡ counted h as_of mode
count_again None firsts as_of mode begun = refl
count_again (Some h) firsts as_of mode begun = if_true (nat_le h.since firsts) _ _ (le-leb h.since firsts begun)

-- what counts goes on to count
pub held_current : (t : ℕ) (holders : List (Option Holder)) (firsts as_of : ℕ) (modes : List (Option Mode)) → AllByRecursion (HasBegun firsts) holders → held t holders firsts (current_modes holders as_of modes) ≡ held t holders as_of modes
held_current t [] firsts as_of modes begun = refl
held_current t (h ∷ hs) firsts as_of modes begun =
    λ i. cond (is_of t h) (count_again h firsts as_of (first modes) begun.0 i) (held_current t hs firsts as_of (rest modes) begun.1 i)

-- ---- changes of a mode

pub held_set_other : (u : ℕ) (holders : List (Option Holder)) (as_of : ℕ) (modes : List (Option Mode)) (p : ℕ) (mode : Option Mode) → is_of u (get_or holders p None) ≡ false → held u holders as_of (set modes p mode) ≡ held u holders as_of modes
held_set_other u [] as_of modes p mode off = refl
held_set_other u (h ∷ hs) as_of [] p mode off = refl
held_set_other u (h ∷ hs) as_of (m ∷ ms) zero mode off = if_false (is_of u h) _ _ off ∙ sym (if_false (is_of u h) _ _ off)
held_set_other u (h ∷ hs) as_of (m ∷ ms) (suc p) mode off = ap (λ (o : Option Mode). cond (is_of u h) (counted h as_of m) o) (held_set_other u hs as_of ms p mode off)

-- ---- changes of a place

pub freed_other : (u : ℕ) (holders : List (Option Holder)) (as_of : ℕ) (modes : List (Option Mode)) (p : ℕ) → is_of u (get_or holders p None) ≡ false → held u (set holders p None) as_of modes ≡ held u holders as_of modes
freed_other u [] as_of modes p off = refl
freed_other u (h ∷ hs) as_of modes zero off = sym (if_false (is_of u h) _ _ off)
freed_other u (h ∷ hs) as_of modes (suc p) off = ap (λ (o : Option Mode). cond (is_of u h) (counted h as_of (first modes)) o) (freed_other u hs as_of (rest modes) p off)

pub freed_own : (t : ℕ) (holders : List (Option Holder)) (p : ℕ) → IsAlone holders → is_of t (get_or holders p None) ≡ true → list_any (is_of t) (set holders p None) ≡ false
freed_own t [] p alone here = refuted here
freed_own t (h ∷ hs) zero alone here = elim (cases (list_any (is_of t) hs)) [
  | inl later ↦ absurd (true≢false (sym here ∙ first_apart t h hs alone later))
  | inr none ↦ none
]
freed_own t (h ∷ hs) (suc p) alone here = none_of (is_of t) h (set hs p None) (first_apart t h hs alone (some_of t hs p here)) (freed_own t hs p (later_alone h hs alone) here)

pub freed_alone : (holders : List (Option Holder)) (p : ℕ) → IsAlone holders → IsAlone (set holders p None)
freed_alone [] p alone = alone
freed_alone (h ∷ hs) zero alone = later_alone h hs alone
freed_alone (None ∷ hs) (suc p) alone = freed_alone hs p alone
freed_alone (Some h ∷ hs) (suc p) alone = (none_set (is_of h.transaction) hs p None alone.0 refl, freed_alone hs p alone.1)

-- a place that is free goes to a transaction that has none, and its first lock is newer
pub given_held : (u : ℕ) (holders : List (Option Holder)) (as_of : ℕ) (modes : List (Option Mode)) (p : ℕ) (h : Holder) → get_or holders p None ≡ None → list_any (is_of h.transaction) holders ≡ false → as_of < h.since → held u (set holders p (Some h)) as_of modes ≡ held u holders as_of modes
given_held u [] as_of modes p h free none newer = refl
given_held u (x ∷ xs) as_of modes zero h free none newer = elim (cases (h.transaction == u)) [
  | inl same ↦
      if_true (h.transaction == u) _ _ same ∙ if_false (nat_le h.since as_of) _ _ (lt-leb h.since as_of newer)
      ∙ sym (held_none u (x ∷ xs) as_of modes (subst (λ (v : ℕ). list_any (is_of v) (x ∷ xs) ≡ false) (eqb-true h.transaction u same) none))
  | inr off ↦ if_false (h.transaction == u) _ _ off ∙ sym (if_false (is_of u x) _ _ (ap (is_of u) free))
]
given_held u (x ∷ xs) as_of modes (suc p) h free none newer = ap (λ (o : Option Mode). cond (is_of u x) (counted x as_of (first modes)) o) (given_held u xs as_of (rest modes) p h free (none_later (is_of h.transaction) x xs none) newer)

pub given_alone : (holders : List (Option Holder)) (p : ℕ) (h : Holder) → list_any (is_of h.transaction) holders ≡ false → IsAlone holders → IsAlone (set holders p (Some h))
given_alone [] p h none alone = alone
given_alone (x ∷ xs) zero h none alone = (none_later (is_of h.transaction) x xs none, later_alone x xs alone)
given_alone (None ∷ xs) (suc p) h none alone = given_alone xs p h none alone
given_alone (Some x ∷ xs) (suc p) h none alone =
    let off : (h.transaction == x.transaction) ≡ false = elim (cases (h.transaction == x.transaction)) [
      | inl same ↦ absurd (true≢false (sym (eq-eqb x.transaction h.transaction (sym (eqb-true h.transaction x.transaction same))) ∙ none_here (is_of h.transaction) (Some x) xs none))
      | inr apart ↦ apart
    ] in
    (none_set (is_of x.transaction) xs p (Some h) alone.0 off, given_alone xs p h (none_later (is_of h.transaction) (Some x) xs none) alone.1)

pub all_set : {A : Type 0} (P : A → Type 0) (xs : List A) (k : ℕ) (y : A) → AllByRecursion P xs → P y → AllByRecursion P (set xs k y)
all_set P [] k y all new = all
all_set P (x ∷ xs) zero y all new = (new, all.1)
all_set P (x ∷ xs) (suc k) y all new = (all.0, all_set P xs k y all.1 new)

later_begun : (firsts : ℕ) (h : Option Holder) → HasBegun firsts h → HasBegun (firsts + 1) h
later_begun firsts None begun = tt
later_begun firsts (Some h) begun = omega arith

pub all_later : (firsts : ℕ) (holders : List (Option Holder)) → AllByRecursion (HasBegun firsts) holders → AllByRecursion (HasBegun (firsts + 1)) holders
all_later firsts [] all = all
all_later firsts (h ∷ hs) all = (later_begun firsts h all.0, all_later firsts hs all.1)

pub begun_at : (firsts : ℕ) (holders : List (Option Holder)) (p : ℕ) → AllByRecursion (HasBegun firsts) holders → HasBegun firsts (get_or holders p None)
begun_at firsts [] p all = tt
begun_at firsts (h ∷ hs) zero all = all.0
begun_at firsts (h ∷ hs) (suc p) all = begun_at firsts hs p all.1

-- what is in a set of modes for a place is what the place's transaction holds
pub current_at : (holders : List (Option Holder)) (as_of : ℕ) (modes : List (Option Mode)) (p : ℕ) → get_or (current_modes holders as_of modes) p None ≡ counted (get_or holders p None) as_of (get_or modes p None)
current_at [] as_of modes p = refl
current_at (h ∷ hs) as_of modes zero = ap (counted h as_of) (sym (first_at modes))
current_at (h ∷ hs) as_of modes (suc p) = current_at hs as_of (rest modes) p ∙ ap (counted (get_or hs p None) as_of) (sym (rest_at modes p))

pub none_anywhere : (t : ℕ) (holders : List (Option Holder)) → ((k : ℕ) → k < length holders → is_of t (get_or holders k None) ≡ false) → list_any (is_of t) holders ≡ false
none_anywhere t [] each = refl
none_anywhere t (h ∷ hs) each = none_of (is_of t) h hs (each 0 (omega arith)) (none_anywhere t hs (λ k below. each (suc k) (omega arith)))

pub nothing_in : {A : Type 0} (n k : ℕ) → get_or {A = Option A} (replicate n None) k None ≡ None
nothing_in {A} n k = elim (cases_lt k n) [
  | inl below ↦ get_or-replicate {A = Option A} n k None None below
  | inr above ↦ get_or_past {X = Option A} (replicate n None) k None (let long : length {A = Option A} (replicate n None) ≡ n = length-replicate n None in omega arith)
]

pub all_full : (holders : List (Option Holder)) → ((k : ℕ) → k < length holders → is_none (get_or holders k None) ≡ false) → list_any is_none holders ≡ false
all_full [] each = refl
all_full (h ∷ hs) each = none_of is_none h hs (each 0 (omega arith)) (all_full hs (λ k below. each (suc k) (omega arith)))
