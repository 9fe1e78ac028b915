-- In a list of pairs that rises a key stands twice only if one is repeated, and the other way round.
use Rattle.std.proofs.Common.{◌≡◌, ◌≢◌, inl, inr, ℕ, ◌≤◌, true, false, List, [], ◌∷◌, length, take, drop, refl, sym, ◌∙◌, ap, subst, length-take-le}
use Rattle.std.specs.Prelude.{Option, Some, None}
use Rattle.std.specs.Ordering.{nat_cmp, is_eq, ordering_then}
use Rattle.std.specs.Cmp.Lexicographic.{slice_cmp}
use Rattle.std.specs.FinMap.{slice_cmp-IsAntisymmetric, nat_cmp-IsAntisymmetric}
use Rattle.std.specs.declared.cmp.Ordering.{Ordering}
use Rattle.std.specs.declared.cmp.Ordering.TheVariants.{Less, Equal, Greater}
use Rattle.std.proofs.lemmas.Cmp.{nat_list_cmp_total, tied_itself}
use Rattle.std.proofs.lemmas.List.{take-append-drop}
use Rattle.rss_base.specs.declared.tid.Tid.{Tid}
use Rattle.rss_base.specs.Entries.{IsLess}
use Rattle.rss_levels.specs.Entries.{Each, Pairwise}
use Rattle.rss_base.proofs.Entries.{less_never, less_trans}
use Rattle.rss_value.proofs.Orders.{slice_cmp-append}
use Rattle.rss_node.specs.Pairs.{key_from, tid_from}
use Rattle.rss_image.specs.Checking.{first_repeat}
use Rattle.rss_model.proofs.LogLists.{by_test, none_some}
use Rattle.rss_model.proofs.Mixing.{In}
use Rattle.rss_entries.proofs.Orders.{Rise, each_in}

-- ---- keys in a list that rises

-- a pair has bytes for a key of this width
abbrev pub IsWide : ℕ → List ℕ → Type 0
IsWide width pair = width ≤ length pair

-- pairs with other keys have their order
key_less : (width : ℕ) (p q : List ℕ) → IsWide width p → IsWide width q → IsLess p q → key_from width p ≢ key_from width q → IsLess (key_from width p) (key_from width q)
key_less width p q one other less apart = by (slice_cmp nat_cmp (key_from width p) (key_from width q)) refl
  where
    split : slice_cmp nat_cmp p q ≡ ordering_then (slice_cmp nat_cmp (take width p) (take width q)) (slice_cmp nat_cmp (drop width p) (drop width q))
    split = (λ i. slice_cmp nat_cmp (sym (take-append-drop width p) i) (sym (take-append-drop width q) i))
        ∙ slice_cmp-append nat_cmp (take width p) (take width q) (drop width p) (drop width q) (length-take-le width p one ∙ sym (length-take-le width q other))

    by : (o : Ordering) → slice_cmp nat_cmp (key_from width p) (key_from width q) ≡ o → IsLess (key_from width p) (key_from width q)
    by Less is = record { is = is }
    by Equal is = absurd (apart (slice_cmp-IsAntisymmetric nat_cmp-IsAntisymmetric (take width p) (take width q) is))
    by Greater is = let never : Greater ≡ Less = sym (split ∙ ap (λ (o : Ordering). ordering_then o (slice_cmp nat_cmp (drop width p) (drop width q))) is) ∙ less.is in absurd (cc)

same_keys : (width : ℕ) (p q : List ℕ) → is_eq (slice_cmp nat_cmp (key_from width p) (key_from width q)) ≡ true → key_from width p ≡ key_from width q
same_keys width p q is = slice_cmp-IsAntisymmetric nat_cmp-IsAntisymmetric (take width p) (take width q) (equal_of (slice_cmp nat_cmp (key_from width p) (key_from width q)) is)
  where
    equal_of : (o : Ordering) → is_eq o ≡ true → o ≡ Equal
    equal_of Less is = absurd (cc)
    equal_of Equal is = refl
    equal_of Greater is = absurd (cc)

-- where none is repeated, the keys rise
pub keys_rise : (width : ℕ) (pairs : List (List ℕ)) → Each (IsWide width) pairs → Rise pairs → first_repeat width pairs ≡ None → Pairwise (λ p q. IsLess (key_from width p) (key_from width q)) pairs
keys_rise width [] wide rises none = tt
keys_rise width (p ∷ []) wide rises none = (tt, tt)
keys_rise width (p ∷ q ∷ pairs) wide rises none = by_test (is_eq (slice_cmp nat_cmp (key_from width p) (key_from width q)))
    (λ same. let is : first_repeat width (p ∷ q ∷ pairs) ≡ Some (tid_from width q) = rw same refl in none_some (sym none ∙ is))
    (λ other.
    let is : first_repeat width (p ∷ q ∷ pairs) ≡ first_repeat width (q ∷ pairs) = rw other refl in
    let rest = keys_rise width (q ∷ pairs) wide.1 rises.1 (sym is ∙ none) in
    let first = key_less width p q wide.0 wide.1.0 rises.0.0 (λ is. apart p q other is) in
    ((first, later first pairs rest.0), rest))
  where
    apart : (p q : List ℕ) → is_eq (slice_cmp nat_cmp (key_from width p) (key_from width q)) ≡ false → key_from width p ≡ key_from width q → ⊥
    apart p q other is = let never : true ≡ false = sym (ap is_eq (ap (λ (k : List ℕ). slice_cmp nat_cmp k (key_from width q)) is ∙ tied_itself nat_list_cmp_total (key_from width q))) ∙ other in cc

    later : IsLess (key_from width p) (key_from width q) → (rs : List (List ℕ)) → Each (λ r. IsLess (key_from width q) (key_from width r)) rs → Each (λ r. IsLess (key_from width p) (key_from width r)) rs
    later first [] all = tt
    later first (r ∷ rs) all = (less_trans first all.0, later first rs all.1)

-- and a key has one pair
pub one_of_key : (width : ℕ) (pairs : List (List ℕ)) → Pairwise (λ p q. IsLess (key_from width p) (key_from width q)) pairs → (a b : List ℕ) → In a pairs → In b pairs → key_from width a ≡ key_from width b → a ≡ b
one_of_key width [] rises a b one other same = absurd one
one_of_key width (p ∷ pairs) rises a b (inl here) (inl there) same = sym here ∙ there
one_of_key width (p ∷ pairs) rises a b (inl here) (inr there) same = absurd (less_never (subst (λ (k : List ℕ). IsLess k (key_from width b)) (ap (key_from width) here ∙ same) (each_in (λ q. IsLess (key_from width p) (key_from width q)) pairs rises.0 b there)))
one_of_key width (p ∷ pairs) rises a b (inr here) (inl there) same = absurd (less_never (subst (λ (k : List ℕ). IsLess k (key_from width a)) (ap (key_from width) there ∙ sym same) (each_in (λ q. IsLess (key_from width p) (key_from width q)) pairs rises.0 a here)))
one_of_key width (p ∷ pairs) rises a b (inr here) (inr there) same = one_of_key width pairs rises.1 a b here there same

-- a repeat is of two pairs
pub record IsRepeat (width : ℕ) (pairs : List (List ℕ)) : Type 0 where
  pub one : List ℕ
  pub other : List ℕ
  pub one_in : In one pairs
  pub other_in : In other pairs
  pub less : IsLess one other
  pub same : key_from width one ≡ key_from width other

pub repeat_of : (width : ℕ) (pairs : List (List ℕ)) → Rise pairs → (first_repeat width pairs ≡ None → ⊥) → IsRepeat width pairs
repeat_of width [] rises some = absurd (some refl)
repeat_of width (p ∷ []) rises some = absurd (some refl)
repeat_of width (p ∷ q ∷ pairs) rises some = by_test (is_eq (slice_cmp nat_cmp (key_from width p) (key_from width q)))
    (λ same. record { one = p; other = q; one_in = inl refl; other_in = inr (inl refl); less = rises.0.0; same = same_keys width p q same })
    (λ off.
    let is : first_repeat width (p ∷ q ∷ pairs) ≡ first_repeat width (q ∷ pairs) = rw off refl in
    let rest = repeat_of width (q ∷ pairs) rises.1 (λ none. some (is ∙ none)) in
    record { one = rest.one; other = rest.other; one_in = inr rest.one_in; other_in = inr rest.other_in; less = rest.less; same = rest.same })

pub none_repeated : (width : ℕ) (pairs : List (List ℕ)) → ((first_repeat width pairs ≡ None → ⊥) → ⊥) → first_repeat width pairs ≡ None
none_repeated width pairs not = by (first_repeat width pairs) refl
  where
    by : (found : Option Tid) → first_repeat width pairs ≡ found → first_repeat width pairs ≡ None
    by None is = is
    by (Some tid) is = absurd (not (λ none. none_some (sym none ∙ is)))
