-- What stands under nodes of the same names is the same.
use Rattle.std.proofs.Common.{◌≡◌, ℕ, suc, List, [], ◌∷◌, ◌++◌, length, refl, sym, ◌∙◌, ap, subst}
use Rattle.rss_base.specs.Entries.{Entry, no_page}
use Rattle.rss_levels.specs.Entries.{zeros}
use Rattle.rss_levels.specs.Rows.{Part, Row, Cells, HoldsAt, HasHead, Begins, first, name, names, stored}
use Rattle.rss_levels.specs.Nested.{IsUnder, AreUnder, leaf_under, inner_under, none_under, more_under}
use Rattle.rss_node.specs.Nodes.{NodeView}
use Rattle.rss_node.specs.declared.pair.Nodes.{Nodes}
use Rattle.rss_image.specs.Trees.{spells}
use Rattle.rss_image.specs.Fitting.{IsFine}
use Rattle.rss_image.specs.Checking.{with_bound}
use Rattle.rss_image.proofs.Insertion.{same_node}

-- an inner node's entries by its bound, and as they are stored
pub named_stored : (width level : ℕ) (low : List ℕ) (es : List Entry) → Begins low es → with_bound low (stored width (suc level) es) ≡ es
named_stored width level low [] begins = absurd begins
named_stored width level low (e ∷ es) begins = let back = sym begins in λ i. record { pair = back i; child = e.child } ∷ es

pub stored_named : (width level : ℕ) (low : List ℕ) (es : List Entry) → Begins (zeros width) es → stored width (suc level) (with_bound low es) ≡ es
stored_named width level low [] begins = absurd begins
stored_named width level low (e ∷ es) begins = let back = sym begins in λ i. record { pair = back i; child = e.child } ∷ es

pub named_begins : (low first : List ℕ) (es : List Entry) → Begins first es → Begins low (with_bound low es)
named_begins low first [] begins = absurd begins
named_begins low first (e ∷ es) begins = refl

pub named_long : (low : List ℕ) (es : List Entry) → length (with_bound low es) ≡ length es
named_long low [] = refl
named_long low (e ∷ es) = refl

module _ (of : Nodes) (slots : ℕ) (cells : Cells) where
  abbrev Holds : ℕ → ℕ → ℕ → List Entry → Type 0
  Holds level number next es = HoldsAt (IsFine of slots) cells level number next es

  plain : (level number next : ℕ) (es : List Entry) → Holds level number next es → HoldsAt (spells of) cells level number next es
  plain level number next es holds = record { bytes = holds.bytes; held = holds.held; spells = holds.spells.spelled }

  pub same_entries : (level number next other : ℕ) (es ds : List Entry) → Holds level number next es → Holds level number other ds → es ≡ ds
  same_entries level number next other es ds one two = ap (λ (n : NodeView). n.entries) (same_node of cells level number next other es ds (plain level number next es one) (plain level number other ds two))

  pub same_next : (level number next other : ℕ) (es ds : List Entry) → Holds level number next es → Holds level number other ds → next ≡ other
  same_next level number next other es ds one two = ap (λ (n : NodeView). n.next) (same_node of cells level number next other es ds (plain level number next es one) (plain level number other ds two))

  pub record AreAlike (ns ms : List ℕ) (leaves others : Row) : Type 0 where
    pub ns_are : ns ≡ ms
    pub leaves_are : leaves ≡ others

  same_items : (level : ℕ) (p q : Part) (a b : ℕ) → name p ≡ name q → Holds (suc level) p.number a (stored of.width (suc level) p.items) → Holds (suc level) q.number b (stored of.width (suc level) q.items) → HasHead p → HasHead q → p.items ≡ q.items
  same_items level p q a b is one two head other =
      let number : q.number ≡ p.number = ap (λ (e : Entry). e.child) (sym is) in
      let same = same_entries (suc level) p.number a b (stored of.width (suc level) p.items) (stored of.width (suc level) q.items) one (subst (λ (n : ℕ). Holds (suc level) n b (stored of.width (suc level) q.items)) number two) in
      sym (named_stored of.width level p.low p.items head)
      ∙ (λ i. with_bound ((is i).pair) (same i))
      ∙ named_stored of.width level q.low q.items other

  mutual
    pub same_under : (level : ℕ) (p q : Part) (ns ms : List ℕ) (leaves others : Row) (a b : ℕ) → name p ≡ name q → IsUnder (IsFine of slots) cells of.width level p ns leaves a → IsUnder (IsFine of slots) cells of.width level q ms others b → AreAlike ns ms leaves others
    same_under _ p q _ _ _ _ a b is (leaf_under one) (leaf_under two) =
        let items : p.items ≡ q.items = same_entries 0 p.number a b p.items q.items one (subst (λ (n : ℕ). Holds 0 n b q.items) (ap (λ (e : Entry). e.child) (sym is)) two) in
        record { ns_are = λ i. (is i).child ∷ []; leaves_are = λ i. record { number = (is i).child; low = (is i).pair; items = items i } ∷ [] }
    same_under _ p q _ _ leaves others a b is (inner_under {level = level} {row = row} {ns = ns} one head are full under) (inner_under {row = other} {ns = ms} two head_two are_two full_two under_two) =
        let rest = same_row level row other ns ms leaves others a b (sym are ∙ same_items level p q no_page no_page is one two head head_two ∙ are_two) under under_two in
        record { ns_are = λ i. (is i).child ∷ rest.ns_are i; leaves_are = rest.leaves_are }

    pub same_row : (level : ℕ) (row other : Row) (ns ms : List ℕ) (leaves others : Row) (a b : ℕ) → names row ≡ names other → AreUnder (IsFine of slots) cells of.width level row ns leaves a → AreUnder (IsFine of slots) cells of.width level other ms others b → AreAlike ns ms leaves others
    same_row level [] [] _ _ _ _ a b is none_under none_under = record { ns_are = refl; leaves_are = refl }
    same_row level [] (q ∷ other) _ _ _ _ a b is none_under (more_under two rest) = absurd (cc)
    same_row level (p ∷ row) [] _ _ _ _ a b is (more_under one rest) none_under = absurd (cc)
    same_row level (p ∷ row) (q ∷ other) _ _ _ _ a b is (more_under {ns = ns} {ms = ns_rest} {leaves = leaves} {more = leaves_rest} one one_rest) (more_under {ns = ms} {ms = ms_rest} {leaves = others} {more = others_rest} two two_rest) =
        let here : name p ≡ name q = cc in
        let tail : names row ≡ names other = cc in
        let first_alike = same_under level p q ns ms leaves others (first leaves_rest a) (first others_rest b) here one two in
        let rest_alike = same_row level row other ns_rest ms_rest leaves_rest others_rest a b tail one_rest two_rest in
        record { ns_are = λ i. first_alike.ns_are i ++ rest_alike.ns_are i; leaves_are = λ i. first_alike.leaves_are i ++ rest_alike.leaves_are i }
