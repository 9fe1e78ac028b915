-- The pages that a check marks: those under a node, child by child, and so those of a tree.
use Rattle.std.proofs.Common.{◌≡◌, inl, inr, ⊎_elim, ◌<◌, ◌≤◌, ◌-◌, ℕ, suc, List, [], ◌∷◌, ◌++◌, length, map, drop, true, refl, sym, ◌∙◌, ap, subst, arith}
use Rattle.std.proofs.lemmas.List.{append-nil}
use Rattle.rss_base.specs.Paged.{Held, Mapped, page_key}
use Rattle.rss_base.specs.Steps.{PagesView}
use Rattle.rss_base.specs.declared.key.Space.TheVariants.{Image as ImageSpace}
use Rattle.rss_base.specs.Entries.{Entry, no_page}
use Rattle.rss_levels.specs.Entries.{IsIn, zeros}
use Rattle.rss_levels.specs.Rows.{Part, Row, Cells, HoldsAt, first, names, numbers, stored}
use Rattle.rss_levels.specs.Nested.{IsUnder, AreUnder, leaf_under, inner_under, none_under, more_under}
use Rattle.rss_levels.proofs.Nesting.{stack_under}
use Rattle.rss_levels.proofs.Pages.{in_left, in_right, in_append}
use Rattle.rss_levels.proofs.Spotted.{at_place}
use Rattle.rss_node.specs.declared.pair.Nodes.{Nodes}
use Rattle.rss_image.specs.Trees.{cells_of}
use Rattle.rss_image.specs.Images.{nodes_of, has_page, pages_of}
use Rattle.rss_image.specs.Fitting.{IsFine}
use Rattle.rss_image.specs.Checking.{HasSoundImage}
use Rattle.rss_image.specs.Marks.{IsMarked, MarksOnly, MarksAll, MarksUnder, MarksImage, IsMappedIn}
use Rattle.rss_image.specs.declared.image.Image.{Image}
use Rattle.rss_image.proofs.Alike.{same_entries}
use Rattle.rss_image.proofs.Putting.{spell_one}
use Rattle.rss_image.proofs.Sighted.{drop_before, drop_length, drop_none}
use Rattle.rss_image.proofs.Standing.{fine_stack}

-- ---- marks one after the other

pub only_none : (these : ℕ → Type 0) (marks : List ℕ) → MarksOnly these marks marks
only_none these marks = record { size = refl; kept = λ number is. is; only = λ number is. inl is }

pub only_wider : (these more : ℕ → Type 0) (old new : List ℕ) → ((number : ℕ) → these number → more number) → MarksOnly these old new → MarksOnly more old new
only_wider these more old new wider is = record {
  size = is.size;
  kept = is.kept;
  only = λ number marked. ⊎_elim (λ (was : IsMarked old number). inl was) (λ (there : these number). inr (wider number there)) (is.only number marked);
}

only_then : (these : ℕ → Type 0) (old mid new : List ℕ) → MarksOnly these old mid → MarksOnly these mid new → MarksOnly these old new
only_then these old mid new one two = record {
  size = two.size ∙ one.size;
  kept = λ number is. two.kept number (one.kept number is);
  only = λ number is. ⊎_elim (λ (was : IsMarked mid number). one.only number was) (λ (there : these number). inr there) (two.only number is);
}

-- a page's own mark, those of nodes to the right of a child, and those of the child
all_before : (own : ℕ) (ns ms old mid new : List ℕ) → MarksAll (own ∷ ms) old mid → MarksAll ns mid new → MarksAll (own ∷ (ns ++ ms)) old new
all_before own ns ms old mid new one two =
    let both : List ℕ = own ∷ (ns ++ ms) in
    record {
      only = only_then (IsIn both) old mid new
          (only_wider (IsIn (own ∷ ms)) (IsIn both) old mid (λ number is. ⊎_elim (λ (here : own ≡ number). inl here) (λ (there : IsIn ms number). inr (in_right ns ms number there)) is) one.only)
          (only_wider (IsIn ns) (IsIn both) mid new (λ number is. inr (in_left ns ms number is)) two.only);
      all = λ number is low. ⊎_elim
          (λ (here : own ≡ number). two.only.kept number (one.all number (inl here) low))
          (λ (there : IsIn (ns ++ ms) number). ⊎_elim
          (λ (mine : IsIn ns number). two.all number mine (omega (arith, low, one.only.size)))
          (λ (right : IsIn ms number). two.only.kept number (one.all number (inr right) low))
          (in_append ns ms number there))
          is;
    }

-- the same numbers, in whatever order
pub same_marked : (ns ms old new : List ℕ) → ((number : ℕ) → IsIn ns number → IsIn ms number) → ((number : ℕ) → IsIn ms number → IsIn ns number) → MarksAll ns old new → MarksAll ms old new
same_marked ns ms old new into back marks = record {
  only = only_wider (IsIn ns) (IsIn ms) old new into marks.only;
  all = λ number is low. marks.all number (back number is) low;
}

-- a page that is mapped was marked
pub one_reached : (of : Nodes) (view : PagesView) (number : ℕ) (old new : List ℕ) → IsMappedIn of view number → MarksAll (number ∷ []) old new → MarksOnly (IsMappedIn of view) old new
one_reached of view number old new mapped marks =
    only_wider (IsIn (number ∷ [])) (IsMappedIn of view) old new (λ other is. ⊎_elim (λ (same : number ≡ other). subst (IsMappedIn of view) same mapped) (λ (none : ⊥). absurd none) is) marks.only

pub reached_then : (of : Nodes) (view now : PagesView) (old mid new : List ℕ) → now.mapped ≡ view.mapped → MarksOnly (IsMappedIn of view) old mid → MarksOnly (IsMappedIn of now) mid new → MarksOnly (IsMappedIn of view) old new
reached_then of view now old mid new same one two =
    only_then (IsMappedIn of view) old mid new one
    (only_wider (IsMappedIn of now) (IsMappedIn of view) mid new (λ number is. sym (ap (λ (m : Mapped). m (page_key of.segment ImageSpace number)) same) ∙ is) two)

-- ---- what stands under a node

abbrev pub children : List Entry → List ℕ
children es = map (λ e. e.child) es

names_numbers : (row : Row) → children (names row) ≡ numbers row
names_numbers [] = refl
names_numbers (p ∷ row) = ap (λ (l : List ℕ). p.number ∷ l) (names_numbers row)

stored_children : (width level : ℕ) (es : List Entry) → children (stored width (suc level) es) ≡ children es
stored_children width level [] = refl
stored_children width level (e ∷ es) = refl

module _ (of : Nodes) (slots : ℕ) (held : Held) where
  abbrev cells : Cells
  cells = cells_of of held

  abbrev Holds : ℕ → ℕ → ℕ → List Entry → Type 0
  Holds level number next es = HoldsAt (IsFine of slots) cells level number next es

  abbrev Under : ℕ → Part → List ℕ → Row → ℕ → Type 0
  Under level p ns leaves end = IsUnder (IsFine of slots) cells of.width level p ns leaves end

  -- the same as `MarksUnder`, by what is seen of the pages
  abbrev pub MarksNode : ℕ → ℕ → List ℕ → List ℕ → Type 0
  MarksNode level number old new = (part : Part) (ns : List ℕ) (leaves : Row) (end : ℕ) → part.number ≡ number → Under level part ns leaves end → MarksAll ns old new

  -- a node's own page is marked, and whatever stands under these children
  abbrev pub MarksChildren : ℕ → ℕ → List ℕ → List ℕ → List ℕ → Type 0
  MarksChildren level own nodes old new = (row : Row) (ns : List ℕ) (leaves : Row) (end : ℕ) → numbers row ≡ nodes → AreUnder (IsFine of slots) cells of.width level row ns leaves end → MarksAll (own ∷ ns) old new

  none_marked : (level own : ℕ) (old new : List ℕ) → MarksAll (own ∷ []) old new → MarksChildren level own [] old new
  none_marked level own old new marks [] _ _ end are none_under = marks
  none_marked level own old new marks (p ∷ row) ns leaves end are under = absurd (cc)

  one_marked : (level own child : ℕ) (nodes old mid new : List ℕ) → MarksChildren level own nodes old mid → MarksNode level child mid new → MarksChildren level own (child ∷ nodes) old new
  one_marked level own child nodes old mid new before here [] ns leaves end are under = absurd (cc)
  one_marked level own child nodes old mid new before here (p ∷ row) _ _ end are (more_under {ns = ns} {ms = ms} {leaves = leaves} {more = more} one others) =
      let mine : p.number ≡ child = cc in
      let rest : numbers row ≡ nodes = cc in
      all_before own ns ms old mid new (before row ms more end rest others) (here p ns leaves (first more end) mine one)

  -- no child was looked at yet
  pub begins_marked : (level own at : ℕ) (es : List Entry) (old new : List ℕ) → at ≡ length es → MarksAll (own ∷ []) old new → MarksChildren level own (children (drop at es)) old new
  begins_marked level own at es old new is marks = subst (λ (l : List ℕ). MarksChildren level own l old new) (sym (ap children (drop_length es at is))) (none_marked level own old new marks)

  -- one child more
  pub more_marked : (level own child at : ℕ) (es : List Entry) (old mid new : List ℕ) → 0 < at → at ≤ length es → child ≡ (at_place es (at - 1)).child → MarksChildren level own (children (drop at es)) old mid → MarksNode level child mid new → MarksChildren level own (children (drop (at - 1) es)) old new
  more_marked level own child at es old mid new some within child_is before here =
      subst (λ (l : List ℕ). MarksChildren level own l old new) (sym (ap children (drop_before es at some within)))
      (one_marked level own (at_place es (at - 1)).child (children (drop at es)) old mid new before (λ part ns leaves end same under. here part ns leaves end (same ∙ sym child_is) under))

  -- all of them were
  pub node_marked : (level number next at : ℕ) (es : List Entry) (old new : List ℕ) → 0 < level → at ≡ 0 → Holds level number next es → MarksChildren (level - 1) number (children (drop at es)) old new → MarksNode level number old new
  node_marked level number next at es old new inner none holds marks =
      down level (subst (λ (l : List Entry). MarksChildren (level - 1) number (children l) old new) (drop_none es at none) marks) inner holds
    where
      down : (level : ℕ) → MarksChildren (level - 1) number (children es) old new → 0 < level → Holds level number next es → MarksNode level number old new
      down _ all inner holds p _ _ end same (leaf_under there) = absurd (omega (arith, inner))
      down _ all inner holds p _ leaves end same (inner_under {level = l} {row = row} {ns = ns} there head are full under) =
          let mine : Holds (suc l) number no_page (stored of.width (suc l) p.items) = subst (λ (n : ℕ). Holds (suc l) n no_page (stored of.width (suc l) p.items)) same there in
          let as_stored : stored of.width (suc l) p.items ≡ es = same_entries of slots cells (suc l) number no_page next (stored of.width (suc l) p.items) es mine holds in
          let nodes : numbers row ≡ children es = sym (names_numbers row) ∙ ap children (sym are) ∙ sym (stored_children of.width l p.items) ∙ ap children as_stored in
          let level_is : l ≡ suc l - 1 = omega arith in
          subst (λ (n : ℕ). MarksAll (n ∷ ns) old new) (sym same) (all row ns leaves end nodes (subst (λ (k : ℕ). AreUnder (IsFine of slots) cells of.width k row ns leaves end) level_is under))

  pub leaf_marked : (level number : ℕ) (old new : List ℕ) → level ≡ 0 → MarksAll (number ∷ []) old new → MarksNode level number old new
  leaf_marked _ number old new leaf marks p _ _ end same (leaf_under there) = subst (λ (n : ℕ). MarksAll (n ∷ []) old new) (sym same) marks
  leaf_marked _ number old new leaf marks p _ leaves end same (inner_under there head are full under) = absurd (omega (arith, leaf))

-- by pages that are the same
pub node_then : (of : Nodes) (slots slots_now : ℕ) (held held_now : Held) (level number : ℕ) (old new : List ℕ) → slots_now ≡ slots → held_now ≡ held → MarksNode of slots_now held_now level number old new → MarksNode of slots held level number old new
node_then of slots slots_now held held_now level number old new one two marks part ns leaves end same under =
    marks part ns leaves end same
    (subst (λ (n : ℕ). IsUnder (IsFine of n) (cells_of of held_now) of.width level part ns leaves end) (sym one)
    (subst (λ (h : Held). IsUnder (IsFine of slots) (cells_of of h) of.width level part ns leaves end) (sym two) under))

-- ---- a tree

pub image_marked : (image : Image) (view : PagesView) (old new : List ℕ) → HasSoundImage image view → MarksUnder (nodes_of image) view (image.levels - 1) image.root old new → MarksImage image view.held old new
image_marked image view old new has marks pairs other =
    let of : Nodes = nodes_of image in
    let tree = has.tree.tree in
    let first_page : has_page image.width view.slots (zeros image.width) ≡ true = sym (ap (has_page image.width view.slots) tree.low) ∙ has.within.0.0.0 in
    let stack = fine_stack of view.slots (cells_of of view.held) first_page has.pairs (has.tree.top ∷ []) has.tree.lower has.tree.made has.within tree.stack in
    let all = stack_under (IsFine of view.slots) (cells_of of view.held) image.width has.pairs (has.tree.top ∷ []) has.tree.lower stack in
    let level : length has.tree.lower ≡ image.levels - 1 = omega (arith, tree.high) in
    let under = subst (λ (l : ℕ). AreUnder (IsFine of view.slots) (cells_of of view.held) image.width l (has.tree.top ∷ []) all.whole.ns all.leaves no_page) level all.whole.under in
    let mine = same_marked all.whole.ns (pages_of has.tree) old new all.whole.same.into all.whole.same.back (top has.tree.top all.whole.ns all.leaves tree.at_root under) in
    subst (λ (l : List ℕ). MarksAll l old new) (spell_one image view.held has.pairs pairs has.tree other).pages_are mine
  where
    top : (p : Part) (ns : List ℕ) (leaves : Row) → p.number ≡ image.root → AreUnder (IsFine (nodes_of image) view.slots) (cells_of (nodes_of image) view.held) image.width (image.levels - 1) (p ∷ []) ns leaves no_page → MarksAll ns old new
    top p _ _ at (more_under {ns = ns} {leaves = leaves} here none_under) = subst (λ (l : List ℕ). MarksAll l old new) (sym (append-nil ns)) (marks p ns leaves no_page at here)
