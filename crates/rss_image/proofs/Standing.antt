-- A tree of an image, as what a check sees of it.
use Rattle.std.proofs.Common.{◌≡◌, ◌<◌, ◌≤◌, ◌-◌, ℕ, suc, zero, List, [], ◌∷◌, length, map, true, is_some, refl, sym, ◌∙◌, ap, subst, arith}
use Rattle.std.proofs.lemmas.List.{append-nil}
use Rattle.rss_base.specs.PageMap.{IsKey}
use Rattle.rss_base.specs.Paged.{Held, page_key}
use Rattle.rss_base.specs.Steps.{PagesView}
use Rattle.rss_base.specs.declared.key.PageKey.{PageKey}
use Rattle.rss_base.specs.declared.key.Space.TheVariants.{Image as ImageSpace}
use Rattle.rss_base.specs.Entries.{Entry, no_page}
use Rattle.rss_levels.specs.Entries.{Each, Pairwise, zeros}
use Rattle.rss_levels.specs.Rows.{Part, Row, Cells, HoldsRow, HasHead, Begins, IsBefore, IsStack, first, items, link, marks, pages, stored, leaf_entry}
use Rattle.rss_levels.specs.Nested.{IsUnder, AreUnder, leaf_under, inner_under, more_under, none_under}
use Rattle.rss_levels.specs.Spots.{IsMade, AreMade}
use Rattle.rss_levels.proofs.Lists.{each_left, each_right, each_weaker}
use Rattle.rss_levels.proofs.Nesting.{each_among, stack_under}
use Rattle.rss_levels.proofs.Pages.{IsHeld, stack_held}
use Rattle.rss_node.specs.declared.pair.Nodes.{Nodes}
use Rattle.rss_image.specs.Trees.{cells_of, spells}
use Rattle.rss_image.specs.Images.{nodes_of, has_slot, has_page}
use Rattle.rss_image.specs.Fitting.{IsBranch, IsFine, IsFineEntry}
use Rattle.rss_image.specs.Checking.{HasSoundImage, StandsBefore}
use Rattle.rss_image.specs.declared.image.Image.{Image}
use Rattle.rss_image.proofs.Calls.{held_mapped}
use Rattle.rss_image.proofs.Once.{few_numbers}
use Rattle.rss_image.proofs.Putting.{zeros_slot}

module _ (of : Nodes) (slots : ℕ) (cells : Cells) (first_page : has_page of.width slots (zeros of.width) ≡ true) where
  abbrev HasSlots : List Entry → Type 0
  HasSlots es = Each (λ e. has_slot of.width e.pair ≡ true) es

  abbrev HasPages : List Entry → Type 0
  HasPages es = Each (λ e. has_page of.width slots e.pair ≡ true) es

  abbrev AreChildless : ℕ → List Entry → Type 0
  AreChildless level es = level ≡ 0 → Each (λ e. e.child ≡ 0) es

  all_fine : (level : ℕ) (es : List Entry) → HasSlots es → HasPages es → AreChildless level es → Each (IsFineEntry of.width slots level) es
  all_fine level [] one two none = tt
  all_fine level (e ∷ es) one two none = (record { slot = one.0; page = two.0; childless = λ is. (none is).0 }, all_fine level es one.1 two.1 (λ is. (none is).1))

  stored_fine : (level : ℕ) (es : List Entry) → HasSlots es → HasPages es → AreChildless level es → Each (IsFineEntry of.width slots level) (stored of.width level es)
  stored_fine zero es one two none = all_fine zero es one two none
  stored_fine (suc level) [] one two none = tt
  stored_fine (suc level) (e ∷ es) one two none = (record { slot = zeros_slot of.width; page = first_page; childless = λ is. absurd (omega (arith, is)) }, all_fine (suc level) es one.1 two.1 (λ is. absurd (omega (arith, is))))

  stored_branch : (level next : ℕ) (low : List ℕ) (es : List Entry) → (0 < level → Begins low es) → (0 < level → next ≡ no_page) → 0 < level → IsBranch of.width next (stored of.width level es)
  stored_branch zero next low es begins last inner = absurd (omega (arith, inner))
  stored_branch (suc level) next low [] begins last inner = absurd (begins inner)
  stored_branch (suc level) next low (e ∷ es) begins last inner = record { last = last inner; begins = refl }

  link_last : (level : ℕ) (row : Row) (end : ℕ) → 0 < level → link level row end ≡ no_page
  link_last zero row end inner = absurd (omega (arith, inner))
  link_last (suc level) row end inner = refl

  fine_row : (level : ℕ) (row : Row) (end : ℕ) → Each (IsMade (has_slot of.width)) row → Each (IsMade (has_page of.width slots)) row → (level ≡ 0 → Each (λ e. e.child ≡ 0) (items row)) → (0 < level → Each HasHead row) → HoldsRow (spells of) cells of.width level row end → HoldsRow (IsFine of slots) cells of.width level row end
  fine_row level [] end one two none heads held = tt
  fine_row level (p ∷ row) end one two none heads held = (
    record {
      bytes = held.0.bytes;
      held = held.0.held;
      spells = record {
        spelled = held.0.spells;
        fit = record {
          entries_are = stored_fine level p.items one.0.1 two.0.1 (λ is. each_left (λ e. e.child ≡ 0) p.items (items row) (none is));
          branch = stored_branch level (link level row end) p.low p.items (λ inner. (heads inner).0) (link_last level row end);
        };
      };
    },
    fine_row level row end one.1 two.1 (λ is. each_right (λ e. e.child ≡ 0) p.items (items row) (none is)) (λ inner. (heads inner).1) held.1,
  )

  leaf_childless : (pairs : List (List ℕ)) → Each (λ e. e.child ≡ 0) (map leaf_entry pairs)
  leaf_childless [] = tt
  leaf_childless (p ∷ pairs) = (refl, leaf_childless pairs)

  pub fine_stack : (pairs : List (List ℕ)) (row : Row) (lower : List Row) → AreMade (has_slot of.width) (row ∷ lower) → AreMade (has_page of.width slots) (row ∷ lower) → IsStack (spells of) cells of.width pairs (row ∷ lower) → IsStack (IsFine of slots) cells of.width pairs (row ∷ lower)
  fine_stack pairs row [] one two stack = (
    record { held = fine_row 0 row no_page one.0 two.0 (λ is. subst (Each (λ e. e.child ≡ 0)) (sym stack.1.pairs_are) (leaf_childless pairs)) (λ inner. absurd (omega (arith, inner))) stack.0.held; few = stack.0.few },
    stack.1,
  )
  fine_stack pairs row (l ∷ lower) one two stack = (
    record { held = fine_row (suc (length lower)) row no_page one.0 two.0 (λ is. absurd (omega (arith, is))) (λ inner. stack.1.heads) stack.0.held; few = stack.0.few },
    stack.1,
    fine_stack pairs l lower one.1 two.1 stack.2,
  )

pub record HasRoot (of : Nodes) (slots : ℕ) (held : Held) (level root : ℕ) (low : List ℕ) (fewest : ℕ) : Type 0 where
  pub stands : StandsBefore of slots held level root low fewest []
  pub room : length stands.ns ≤ slots

root_stands : (of : Nodes) (slots : ℕ) (held : Held) (level root : ℕ) (low : List ℕ) (fewest : ℕ) (p : Part) (ns : List ℕ) (leaves : Row) → p.number ≡ root → p.low ≡ low → fewest ≤ length p.items → Pairwise IsBefore (marks leaves) → length ns ≤ slots → AreUnder (IsFine of slots) (cells_of of held) of.width level (p ∷ []) ns leaves no_page → HasRoot of slots held level root low fewest
root_stands of slots held level root low fewest p _ _ number_is low_is filled rises room (more_under {ns = ns} {leaves = leaves} here none_under) = record {
  stands = record { part = p; ns = ns; leaves = leaves; number_is = number_is; low_is = low_is; filled = filled; under = here; rises = rises };
  room = subst (λ (l : List ℕ). length l ≤ slots) (append-nil ns) room;
}

-- a page's number is below the number of slots
pub below_slots : (view : PagesView) → ((key : PageKey) → is_some (view.held key) ≡ view.mapped key) → ((key : PageKey) → view.mapped key ≡ true → IsKey view.slots key) → (of : Nodes) (number : ℕ) → IsHeld (cells_of of view.held) number → number < view.slots
below_slots view holds allowed of number is = (allowed (page_key of.segment ImageSpace number) (held_mapped view holds (page_key of.segment ImageSpace number) is.bytes is.held)).number

-- the page of what stands there is mapped
pub stands_held : (of : Nodes) (slots : ℕ) (held : Held) (level number : ℕ) (low : List ℕ) (fewest : ℕ) (row : Row) → StandsBefore of slots held level number low fewest row → IsHeld (cells_of of held) number
stands_held of slots held level number low fewest row stands = subst (IsHeld (cells_of of held)) stands.number_is (at level stands.part stands.ns stands.leaves (first row no_page) stands.under)
  where
    at : (level : ℕ) (p : Part) (ns : List ℕ) (leaves : Row) (end : ℕ) → IsUnder (IsFine of slots) (cells_of of held) of.width level p ns leaves end → IsHeld (cells_of of held) p.number
    at _ p _ _ end (leaf_under holds) = record { bytes = holds.bytes; held = holds.held }
    at _ p _ leaves end (inner_under holds head are full under) = record { bytes = holds.bytes; held = holds.held }

pub sound_stands : (image : Image) (view : PagesView) (fewest : ℕ) → ((key : PageKey) → is_some (view.held key) ≡ view.mapped key) → ((key : PageKey) → view.mapped key ≡ true → IsKey view.slots key) → (image.levels ≡ 1 → fewest ≡ 0) → (1 < image.levels → fewest ≡ 2)
    → HasSoundImage image view → HasRoot (nodes_of image) view.slots view.held (image.levels - 1) image.root (zeros image.width) fewest
sound_stands image view fewest holds allowed one two has =
    let of : Nodes = nodes_of image in
    let tree = has.tree.tree in
    let first_page : has_page image.width view.slots (zeros image.width) ≡ true = sym (ap (has_page image.width view.slots) tree.low) ∙ has.within.0.0.0 in
    let stack = fine_stack of view.slots (cells_of of view.held) first_page has.pairs (has.tree.top ∷ []) has.tree.lower has.tree.made has.within tree.stack in
    let all = stack_under (IsFine of view.slots) (cells_of of view.held) image.width has.pairs (has.tree.top ∷ []) has.tree.lower stack in
    let held = stack_held (spells of) image.width (cells_of of view.held) has.pairs (has.tree.top ∷ []) has.tree.lower tree.stack in
    let ns = all.whole.ns in
    let own : List ℕ = pages ((has.tree.top ∷ []) ∷ has.tree.lower) in
    let below : Each (λ n. n < view.slots) ns = each_among (λ n. n < view.slots) ns own all.whole.same.into (each_weaker (IsHeld (cells_of of view.held)) (λ n. n < view.slots) own (λ n is. below_slots view holds allowed of n is) held) in
    let room = few_numbers ns view.slots (all.whole.same.distinct tree.distinct) below in
    let level : length has.tree.lower ≡ image.levels - 1 = omega (arith, tree.high) in
    root_stands of view.slots view.held (image.levels - 1) image.root (zeros image.width) fewest has.tree.top ns all.leaves tree.at_root tree.low (filled has.tree.lower (length has.tree.top.items) tree.high tree.branches) all.leaves_are.rises room
    (subst (λ (l : ℕ). AreUnder (IsFine of view.slots) (cells_of of view.held) image.width l (has.tree.top ∷ []) ns all.leaves no_page) level all.whole.under)
  where
    filled : (lower : List Row) (n : ℕ) → image.levels ≡ suc (length lower) → (0 < length lower → 2 ≤ n) → fewest ≤ n
    filled [] n high many = let none = one high in omega (arith, none)
    filled (l ∷ lower) n high many = let more = two (omega (arith, high)) in let some = many (omega arith) in omega (arith, more, some)
