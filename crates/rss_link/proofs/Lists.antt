-- Lists of tuples, and the places in them.
use Rattle.std.proofs.Common.{◌≡◌, ◌⊎◌, inl, inr, ℕ, Bool, true, false, eqb, List, [], ◌∷◌, ◌++◌, length, take, drop, Option, Some, None, refl, sym, ◌∙◌, ap, arith}
use Rattle.std.specs.Prelude.{◌&&◌, not}
use Rattle.std.specs.Bool.{Decides}
use Rattle.std.specs.Option.{option_eq}
use Rattle.std.proofs.lemmas.Bool.{cases_Bool, eqb-true, cond-true, cond-false}
use Rattle.std.proofs.lemmas.List.{take_at, drop_at}
use Rattle.rss_base.specs.declared.tid.Tid.{Tid}
use Rattle.rss_base.specs.Prefixes.{first_of, last_of}
use Rattle.rss_base.proofs.Equal.{same_tid, tid_decides}
use Rattle.rss_tuple.specs.Directory.{is_same_tid}
use Rattle.rss_link.specs.Chains.{Lists, is_same_place, with_list, Stands}

-- ---- whether two are one

both_true : (a b : Bool) → (a && b) ≡ true → (a ≡ true) × (b ≡ true)
both_true true b is = (refl, is)
both_true false b is = absurd cc

pub false_true : (a : Bool) → a ≡ false → a ≡ true → ⊥
false_true a one other = let never : true ≡ false = sym other ∙ one in cc

pub false_where : (a : Bool) → (a ≡ true → ⊥) → a ≡ false
false_where true never = absurd (never refl)
false_where false never = refl

pub eqb_itself : (n : ℕ) → eqb n n ≡ true
eqb_itself n = search (arith)

pub is_same_tid-itself : (a : Tid) → is_same_tid a a ≡ true
is_same_tid-itself a = rw (eqb_itself a.page, eqb_itself a.slot) refl

pub is_same_tid-true : (a b : Tid) → is_same_tid a b ≡ true → a ≡ b
is_same_tid-true a b is =
    let parts = both_true (eqb a.page b.page) (eqb a.slot b.slot) is in
    let pages : a.page ≡ b.page = eqb-true _ _ parts.0 in
    let slots : a.slot ≡ b.slot = eqb-true _ _ parts.1 in
    λ i. record { page = pages i; slot = slots i }

pub tid_cases : (a b : Tid) → (a ≡ b) ⊎ (a ≡ b → ⊥)
tid_cases a b = elim (cases_Bool (is_same_tid a b)) [
  | inl same ↦ inl (is_same_tid-true a b same)
  | inr differ ↦ inr (λ is. false_true (is_same_tid a b) differ (ap (λ (t : Tid). is_same_tid a t) (sym is) ∙ is_same_tid-itself a))
]

pub is_same_place-itself : (a : Option Tid) → is_same_place a a ≡ true
is_same_place-itself None = refl
is_same_place-itself (Some a) = is_same_tid-itself a

is_same_place-true : (a b : Option Tid) → is_same_place a b ≡ true → a ≡ b
is_same_place-true None None is = refl
is_same_place-true None (Some b) is = absurd cc
is_same_place-true (Some a) None is = absurd cc
is_same_place-true (Some a) (Some b) is = ap Some (is_same_tid-true a b is)

pub place_cases : (a b : Option Tid) → (a ≡ b) ⊎ (a ≡ b → ⊥)
place_cases a b = elim (cases_Bool (is_same_place a b)) [
  | inl same ↦ inl (is_same_place-true a b same)
  | inr differ ↦ inr (λ is. false_true (is_same_place a b) differ (ap (λ (t : Option Tid). is_same_place a t) (sym is) ∙ is_same_place-itself a))
]

places_decide : (a b : Option Tid) → Decides (option_eq same_tid a b) (a ≡ b)
places_decide None None = (λ is. refl, λ is. refl)
places_decide (Some a) (Some b) = (λ is. ap Some ((tid_decides a b).0 is), λ is. (tid_decides a b).1 (cc))
places_decide None (Some b) = (λ is. absurd (false_true false refl is), λ is. absurd (cc))
places_decide (Some a) None = (λ is. absurd (false_true false refl is), λ is. absurd (cc))

-- what `!=` says of two
pub same_places : (a b : Option Tid) (differ : Bool) → differ ≡ not (option_eq same_tid a b) → differ ≡ false → a ≡ b
same_places a b differ is never = elim (cases_Bool (option_eq same_tid a b)) [
  | inl same ↦ (places_decide a b).0 same
  | inr other ↦ absurd (false_true differ never (is ∙ ap not other))
]

pub other_places : (a b : Option Tid) (differ : Bool) → differ ≡ not (option_eq same_tid a b) → differ ≡ true → a ≡ b → ⊥
other_places a b differ is so same = false_true false refl (sym (is ∙ ap not ((places_decide a b).1 same)) ∙ so)

-- ---- one of the lists

pub list_here : (lists : Lists) (parent other : Option Tid) (list : List Tid) → other ≡ parent → with_list lists parent list other ≡ list
list_here lists parent other list is = cond-true (is_same_place other parent) list (lists other) (ap (λ (t : Option Tid). is_same_place t parent) is ∙ is_same_place-itself parent)

pub list_off : (lists : Lists) (parent other : Option Tid) (list : List Tid) → (other ≡ parent → ⊥) → with_list lists parent list other ≡ lists other
list_off lists parent other list off = elim (cases_Bool (is_same_place other parent)) [
  | inl same ↦ absurd (off (is_same_place-true other parent same))
  | inr differ ↦ cond-false (is_same_place other parent) list (lists other) differ
]

-- ---- first and last

-- the last of a list, or this where it is empty
abbrev pub last_from : Option Tid → List Tid → Option Tid
last_from place [] = place
last_from place (tid ∷ tids) = last_from (Some tid) tids

pub last_is_from : (xs : List Tid) → last_of xs ≡ last_from None xs
last_is_from [] = refl
last_is_from (x ∷ []) = refl
last_is_from (x ∷ y ∷ xs) = last_is_from (y ∷ xs)

pub last_from-append : (place : Option Tid) (xs ys : List Tid) → last_from place (xs ++ ys) ≡ last_from (last_from place xs) ys
last_from-append place [] ys = refl
last_from-append place (x ∷ xs) ys = last_from-append (Some x) xs ys

-- the last of a list with more behind it
pub last_behind : (xs ys : List Tid) (t : Tid) → last_of (xs ++ t ∷ ys) ≡ last_from (Some t) ys
last_behind xs ys t = last_is_from (xs ++ t ∷ ys) ∙ last_from-append None xs (t ∷ ys)

pub record IsLast (place : Option Tid) (xs : List Tid) : Type 0 where
  pub front : List Tid
  pub tid : Tid
  pub is : xs ≡ front ++ tid ∷ []
  pub last : last_from place xs ≡ Some tid

pub last_cases : (place : Option Tid) (xs : List Tid) → (xs ≡ []) ⊎ IsLast place xs
last_cases place [] = inl refl
last_cases place (x ∷ xs) = elim (last_cases (Some x) xs) [
  | inl none ↦ inr (record { front = []; tid = x; is = ap (λ (l : List Tid). x ∷ l) none; last = ap (last_from (Some x)) none })
  | inr some ↦ inr (record { front = x ∷ some.front; tid = some.tid; is = ap (λ (l : List Tid). x ∷ l) some.is; last = some.last })
]

pub some_one : {A : Type 0} (a b : A) → Some a ≡ Some b → a ≡ b
some_one a b is = cc

pub never_some : {A : Type 0} (a : A) (p : Option A) → p ≡ None → p ≡ Some a → ⊥
never_some a p none some = let never : Some a ≡ None = sym some ∙ none in cc

pub last_is : (xs : List Tid) (t : Tid) → last_of xs ≡ Some t → (front : List Tid) × (xs ≡ front ++ t ∷ [])
last_is xs t is = elim (last_cases None xs) [
  | inl none ↦ absurd (never_some t (last_of xs) (ap last_of none) is)
  | inr some ↦ (some.front, some.is ∙ ap (λ (x : Tid). some.front ++ x ∷ []) (some_one some.tid t (sym some.last ∙ sym (last_is_from xs) ∙ is)))
]

pub first_is : (xs : List Tid) (t : Tid) → first_of xs ≡ Some t → (rest : List Tid) × (xs ≡ t ∷ rest)
first_is [] t is = absurd cc
first_is (x ∷ xs) t is = (xs, ap (λ (y : Tid). y ∷ xs) (some_one x t is))

-- ---- parts of a list

pub same_parts : {A : Type 0} (a b x y : List A) → length a ≡ length b → a ++ x ≡ b ++ y → (a ≡ b) × (x ≡ y)
same_parts a b x y long same = (
  sym (take_at a x (length a) refl) ∙ ap (take (length a)) same ∙ take_at b y (length a) (sym long),
  sym (drop_at a x (length a) refl) ∙ ap (drop (length a)) same ∙ drop_at b y (length a) (sym long),
)

-- the place of a tuple in two lists, one behind the other: in the first, or in the second
pub data Cut (xs ys before after : List Tid) (t : Tid) : Type 0 where
  early : (m : List Tid) → xs ≡ before ++ t ∷ m → after ≡ m ++ ys → Cut xs ys before after t
  late : (m : List Tid) → ys ≡ m ++ t ∷ after → before ≡ xs ++ m → Cut xs ys before after t

cut_more : (x c : Tid) (xs ys before after : List Tid) (t : Tid) → c ≡ x → Cut xs ys before after t → Cut (x ∷ xs) ys (c ∷ before) after t
cut_more x c xs ys before after t is (early m here rest) = early m (λ i. sym is i ∷ here i) rest
cut_more x c xs ys before after t is (late m here rest) = late m here (λ i. is i ∷ rest i)

pub cut : (xs ys before after : List Tid) (t : Tid) → before ++ t ∷ after ≡ xs ++ ys → Cut xs ys before after t
cut [] ys before after t is = late before (sym is) refl
cut (x ∷ xs) ys [] after t is =
    let heads : x ≡ t = cc in
    let tails : after ≡ xs ++ ys = cc in
    early xs (ap (λ (y : Tid). y ∷ xs) heads) tails
cut (x ∷ xs) ys (c ∷ before) after t is =
    let heads : c ≡ x = cc in
    let tails : before ++ t ∷ after ≡ xs ++ ys = cc in
    cut_more x c xs ys before after t heads (cut xs ys before after t tails)

-- the same place of the same list
pub same_place : (lists : Lists) (t : Tid) (one other : Stands lists t) → other.parent ≡ one.parent → length other.before ≡ length one.before → (other.before ≡ one.before) × (other.after ≡ one.after)
same_place lists t one other parents long =
    let parts = same_parts other.before one.before (t ∷ other.after) (t ∷ one.after) long (sym other.is ∙ ap lists parents ∙ one.is) in
    let tails : t ∷ other.after ≡ t ∷ one.after = parts.1 in
    (parts.0, ap (λ (l : List Tid). drop 1 l) tails)
