-- What was done to a node, as what stands in its place in the row.
use Rattle.std.proofs.Common.{⊎_elim, ◌≡◌, ◌<◌, ◌≤◌, ℕ, suc, zero, List, [], ◌∷◌, ◌++◌, length, refl, sym, ◌∙◌, ap, subst, arith}
use Rattle.std.proofs.lemmas.List.{append-nil}
use Rattle.rss_base.specs.Entries.{Entry}
use Rattle.rss_base.specs.Nodes.{node_most}
use Rattle.rss_levels.specs.Entries.{zeros}
use Rattle.rss_levels.specs.Rows.{Part, Cells, HoldsAt, link, stored}
use Rattle.rss_levels.proofs.Replacing.{Replaces}
use Rattle.rss_levels.proofs.Spotted.{stored_long}
use Rattle.rss_node.specs.declared.pair.Nodes.{Nodes}
use Rattle.rss_image.specs.Trees.{spells}
use Rattle.rss_image.specs.Grown.{Whole, Halved, left_next, right_next}

with_items : Part → List Entry → Part
with_items p es = record p { items = es }

module _ (of : Nodes) (old new : Cells) (here : Part) (next : ℕ) where
  pub whole_replaces : (level : ℕ) (entries : List Entry) → 0 < length entries → length here.items ≤ length entries → length entries ≤ node_most of.width → Whole of level here.number (link level [] next) (stored of.width level entries) old new
      → Replaces (spells of) old new of.width level here next entries (record here { items = entries }) []
  whole_replaces level entries some more few whole = record {
    number_is = refl;
    low_is = refl;
    entries_are = append-nil entries;
    some = some;
    heads = tt;
    few_extra = omega arith;
    held = (whole.held, tt);
    few = (few, tt);
    full = λ n low was. ((⊎_elim (λ (long : n ≤ length here.items). let le : n ≤ length entries = omega arith in le) (λ (more : 0 < 0). absurd (omega arith)) was), tt);
    split_full = λ more. absurd (omega arith);
    fresh = tt;
    keeps = whole.keeps;
    loses_none = whole.loses_none;
  }

-- the entries that were stored, by the first of them that stay
pub record Unstored (width level : ℕ) (entries left right : List Entry) : Type 0 where
  pub own : List Entry
  pub entries_are : entries ≡ own ++ right
  pub stored_is : stored width level own ≡ left
  pub long : length own ≡ length left

pub unstore : (width level : ℕ) (entries left right : List Entry) → stored width level entries ≡ left ++ right → 0 < length left → Unstored width level entries left right
unstore width zero entries left right is some = record { own = left; entries_are = is; stored_is = refl; long = refl }
unstore width (suc level) entries [] right is some = absurd (omega arith)
unstore width (suc level) [] (l ∷ left) right is some = absurd (cc)
unstore width (suc level) (e ∷ entries) (l ∷ left) right is some =
    let first : record { pair = zeros width; child = e.child } ≡ l = cc in
    let rest : entries ≡ left ++ right = cc in
    record { own = e ∷ left; entries_are = λ i. e ∷ rest i; stored_is = λ i. first i ∷ left; long = refl }

left_link : (level next : ℕ) (q : Part) → left_next level (link level [] next) q.number ≡ link level (q ∷ []) next
left_link zero next q = refl
left_link (suc level) next q = refl

right_link : (level next : ℕ) → right_next level (link level [] next) ≡ link level [] next
right_link zero next = refl
right_link (suc level) next = refl

module _ (of : Nodes) (old new : Cells) (here : Part) (next : ℕ) (level : ℕ) (entries : List Entry) (pair : List ℕ) (other : ℕ) (halved : Halved of level here.number (link level [] next) (stored of.width level entries) pair other old new) where
  pub cut : Unstored of.width level entries halved.left halved.right
  cut = unstore of.width level entries halved.left halved.right halved.entries_are (omega (arith, halved.left_full))

  abbrev pub left_part : Part
  left_part = record here { items = cut.own }

  abbrev pub right_part : Part
  right_part = record { number = other; low = pair; items = halved.right }

  pub halved_replaces : Replaces (spells of) old new of.width level here next entries left_part (right_part ∷ [])
  halved_replaces = record {
    number_is = refl;
    low_is = refl;
    entries_are = ap (λ (l : List Entry). cut.own ++ l) (append-nil halved.right) ∙ sym cut.entries_are;
    some = omega (arith, cut.long, halved.left_full);
    heads = (halved.begins, tt);
    few_extra = omega arith;
    held = (
      subst (λ (n : ℕ). HoldsAt (spells of) new level here.number n (stored of.width level cut.own)) (left_link level next right_part) (subst (λ (l : List Entry). HoldsAt (spells of) new level here.number (left_next level (link level [] next) other) l) (sym cut.stored_is) halved.left_held),
      (subst (λ (n : ℕ). HoldsAt (spells of) new level other n (stored of.width level halved.right)) (right_link level next) halved.right_held, tt),
    );
    few = (omega (arith, cut.long, halved.left_few), (halved.right_few, tt));
    full = λ n low was. (omega (arith, cut.long, halved.left_full, low), (omega (arith, halved.right_full, low), tt));
    split_full = λ more. omega (arith, halved.many, stored_long of.width level entries);
    fresh = (halved.fresh, tt);
    keeps = halved.keeps;
    loses_none = halved.loses_none;
  }
