-- The pages under a node, given one child after another.
use Rattle.std.proofs.Common.{◌≡◌, ◌≢◌, inl, inr, ⊎_elim, ◌<◌, ◌≤◌, ◌+◌, ◌-◌, ◌*◌, ℕ, suc, zero, List, [], ◌∷◌, ◌++◌, length, map, drop, refl, sym, ◌∙◌, ap, subst, arith, append_assoc, None}
use Rattle.std.proofs.lemmas.List.{append-nil}
use Rattle.std.proofs.Math.Nat.{mul-le-mul_left}
use Rattle.std.proofs.Common.{mul_comm}
use Rattle.rss_base.specs.Paged.{Held}
use Rattle.rss_base.specs.Steps.{PagesView}
use Rattle.rss_base.specs.Entries.{Entry, no_page}
use Rattle.rss_base.specs.Nodes.{node_most}
use Rattle.rss_levels.specs.Entries.{Each, Pairwise, IsIn}
use Rattle.rss_levels.specs.Rows.{Part, Row, Cells, HoldsAt, first, name, names, numbers, stored}
use Rattle.rss_levels.specs.Spots.{IsOwn}
use Rattle.rss_levels.specs.Nested.{IsUnder, AreUnder, AreSameNumbers, leaf_under, inner_under, none_under, more_under}
use Rattle.rss_levels.proofs.Lists.{each_left, each_right, pairwise_left, pairwise_right}
use Rattle.rss_levels.proofs.Pages.{in_left, in_right, in_append, not_in, keeps_then}
use Rattle.rss_levels.proofs.Nesting.{kept_row, StackUnder, stack_under}
use Rattle.rss_node.specs.Nodes.{NodeView, entry_at}
use Rattle.rss_node.specs.declared.pair.Nodes.{Nodes}
use Rattle.rss_image.specs.Trees.{cells_of, spells, HoldsNode, HasNode}
use Rattle.rss_image.specs.Emptied.{inner_most, StandsAt, HasUnder, Gives, GivesUnder}
use Rattle.rss_image.specs.Images.{nodes_of, ImageTree, pages_of, HasImage, Destroys}
use Rattle.rss_image.specs.declared.image.Image.{Image}
use Rattle.rss_image.proofs.Insertion.{same_node}
use Rattle.rss_image.proofs.Putting.{StillCounted}

abbrev pub children : List Entry → List ℕ
children es = map (λ e. e.child) es

pub inner_up : (width level : ℕ) → 0 < level → inner_most width level ≡ 1 + node_most width * inner_most width (level - 1)
inner_up width zero some = absurd (omega arith)
inner_up width (suc level) some = let down : level ≡ suc level - 1 = omega arith in ap (λ (n : ℕ). 1 + node_most width * inner_most width n) down

pub times_up : (width count m : ℕ) → count ≤ node_most width → count * m ≤ node_most width * m
times_up width count m few = subst (λ (n : ℕ). n ≤ node_most width * m) (mul_comm m count) (subst (λ (n : ℕ). m * count ≤ n) (mul_comm m (node_most width)) (mul-le-mul_left m few))

-- an inner node that was read, with what stands under it
pub record Opened (of : Nodes) (cells : Cells) (below number : ℕ) (entries : List Entry) (ns : List ℕ) : Type 0 where
  pub row : Row
  pub leaves : Row
  pub end : ℕ
  pub under : AreUnder (spells of) cells of.width below row ns leaves end
  pub are : numbers row ≡ children entries
  pub distinct : Pairwise (λ a b. a ≢ b) ns
  pub off : Each (λ n. number ≢ n) ns

pub record OpenedAs (of : Nodes) (cells : Cells) (below number : ℕ) (entries : List Entry) (all : List ℕ) : Type 0 where
  pub ns : List ℕ
  pub all_is : all ≡ number ∷ ns
  pub opened : Opened of cells below number entries ns

named_children : (row : Row) (es : List Entry) → es ≡ names row → children es ≡ numbers row
named_children [] es is = ap children is
named_children (p ∷ row) [] is = absurd (cc)
named_children (p ∷ row) (e ∷ es) is =
    let here : e ≡ name p = cc in
    let rest : es ≡ names row = cc in
    λ i. (ap (λ (x : Entry). x.child) here) i ∷ named_children row es rest i

stored_children : (width level : ℕ) (es : List Entry) → children (stored width level es) ≡ children es
stored_children width zero es = refl
stored_children width (suc level) [] = refl
stored_children width (suc level) (e ∷ es) = refl

opened_under : (of : Nodes) (cells : Cells) (level number : ℕ) (p : Part) (all : List ℕ) (leaves : Row) (end : ℕ) (node : NodeView) → 0 < level → p.number ≡ number → HoldsAt (spells of) cells level number node.next node.entries → IsUnder (spells of) cells of.width level p all leaves end → Pairwise (λ a b. a ≢ b) all → OpenedAs of cells (level - 1) number node.entries all
opened_under of cells _ number p _ _ end node inner is holds (leaf_under held) distinct = absurd (omega arith)
opened_under of cells _ number p _ leaves end node inner is holds (inner_under {level = level} {row = row} {ns = ns} held head are full under) distinct =
    let there = subst (λ (n : ℕ). HoldsAt (spells of) cells (suc level) n no_page (stored of.width (suc level) p.items)) is held in
    let same : node.entries ≡ stored of.width (suc level) p.items = ap (λ (n : NodeView). n.entries) (same_node of cells (suc level) number node.next no_page node.entries (stored of.width (suc level) p.items) holds there) in
    let down : level ≡ suc level - 1 = omega arith in
    record {
      ns = ns;
      all_is = ap (λ (n : ℕ). n ∷ ns) is;
      opened = subst (λ (n : ℕ). Opened of cells n number node.entries ns) down (record {
        row = row;
        leaves = leaves;
        end = end;
        under = under;
        are = sym (ap children same ∙ stored_children of.width (suc level) p.items ∙ named_children row p.items are);
        distinct = distinct.1;
        off = subst (λ (n : ℕ). Each (λ m. n ≢ m) ns) is distinct.0;
      });
    }

pub open_node : (of : Nodes) (held : Held) (level number : ℕ) (all : List ℕ) (node : NodeView) → 0 < level → HoldsNode of held level number node.next node.entries → StandsAt of held level number all → OpenedAs of (cells_of of held) (level - 1) number node.entries all
open_node of held level number all node inner holds at = opened_under of (cells_of of held) level number at.part all at.leaves at.end node inner at.number_is holds at.under at.distinct

-- what stands at a page is held there
holds_under : (of : Nodes) (cells : Cells) (level number : ℕ) (p : Part) (all : List ℕ) (leaves : Row) (end : ℕ) → p.number ≡ number → IsUnder (spells of) cells of.width level p all leaves end → (next : ℕ) × (es : List Entry) × HoldsAt (spells of) cells level number next es
holds_under of cells _ number p _ _ end is (leaf_under held) = (end, p.items, subst (λ (n : ℕ). HoldsAt (spells of) cells 0 n end p.items) is held)
holds_under of cells _ number p _ leaves end is (inner_under {level = level} held head are full under) = (no_page, stored of.width (suc level) p.items, subst (λ (n : ℕ). HoldsAt (spells of) cells (suc level) n no_page (stored of.width (suc level) p.items)) is held)

pub under_node : (of : Nodes) (held : Held) (level number : ℕ) → HasUnder of held level number → HasNode of held level number
under_node of held level number has =
    let there = holds_under of (cells_of of held) level number has.stands.part has.pages has.stands.leaves has.stands.end has.stands.number_is has.stands.under in
    record { next = there.0; entries = there.1; holds = there.2 }

-- ---- one child after another

-- the pages under so many children were given, and under the others all is as it was
pub record Emptying (of : Nodes) (below : ℕ) (entries : List Entry) (at : ℕ) (ns : List ℕ) (old now : PagesView) : Type 0 where
  pub gone : List ℕ
  pub rest : List ℕ
  pub ns_is : ns ≡ gone ++ rest
  pub row : Row
  pub leaves : Row
  pub end : ℕ
  pub under : AreUnder (spells of) (cells_of of now.held) of.width below row rest leaves end
  pub are : numbers row ≡ drop at (children entries)
  pub distinct : Pairwise (λ a b. a ≢ b) rest
  pub gives : Gives of gone old now

pub gives_nothing : (of : Nodes) (old now : PagesView) → cells_of of now.held ≡ cells_of of old.held → Gives of [] old now
gives_nothing of old now same = record {
  keeps = record { same = λ n bytes off was. ap (λ (cs : Cells). cs n) same ∙ was };
  loses_none = λ n is. ⊎_elim (λ (none : ⊥). absurd none) (λ (none : cells_of of old.held n ≡ None). inr (ap (λ (cs : Cells). cs n) same ∙ none)) is;
}

pub gives_then : (of : Nodes) (ns ms : List ℕ) (old mid new : PagesView) → Gives of ns old mid → Gives of ms mid new → Gives of (ns ++ ms) old new
gives_then of ns ms old mid new one two = record {
  keeps = keeps_then ns ms (ns ++ ms) (cells_of of old.held) (cells_of of mid.held) (cells_of of new.held) (in_left ns ms) (in_right ns ms) one.keeps two.keeps;
  loses_none = λ n is. ⊎_elim
      (λ (there : IsIn (ns ++ ms) n). ⊎_elim (λ (left : IsIn ns n). from n (one.loses_none n (inl left))) (λ (right : IsIn ms n). two.loses_none n (inl right)) (in_append ns ms n there))
      (λ (none : cells_of of old.held n ≡ None). from n (one.loses_none n (inr none))) is;
}
  where
    from : (n : ℕ) → IsOwn [] (cells_of of mid.held) n → IsOwn [] (cells_of of new.held) n
    from n is = ⊎_elim (λ (none : ⊥). absurd none) (λ (none : cells_of of mid.held n ≡ None). two.loses_none n (inr none)) is

pub empty_first : (of : Nodes) (below number : ℕ) (entries : List Entry) (ns : List ℕ) (old now : PagesView) → Opened of (cells_of of old.held) below number entries ns → cells_of of now.held ≡ cells_of of old.held → Emptying of below entries 0 ns old now
empty_first of below number entries ns old now opened same = record {
  gone = [];
  rest = ns;
  ns_is = refl;
  row = opened.row;
  leaves = opened.leaves;
  end = opened.end;
  under = subst (λ (cs : Cells). AreUnder (spells of) cs of.width below opened.row ns opened.leaves opened.end) (sym same) opened.under;
  are = opened.are;
  distinct = opened.distinct;
  gives = gives_nothing of old now same;
}

drop_child : (es : List Entry) (at : ℕ) → at < length es → drop at (children es) ≡ (entry_at es at).child ∷ drop (suc at) (children es)
drop_child [] at low = absurd (omega arith)
drop_child (e ∷ es) zero low = refl
drop_child (e ∷ es) (suc at) low = drop_child es at (omega arith)

drop_none : (es : List Entry) (at : ℕ) → length es ≤ at → drop at (children es) ≡ []
drop_none [] zero low = refl
drop_none [] (suc at) low = refl
drop_none (e ∷ es) zero low = absurd (omega arith)
drop_none (e ∷ es) (suc at) low = drop_none es at (omega arith)

-- the next child
pub record NextChild (of : Nodes) (cells : Cells) (below number : ℕ) (later rest : List ℕ) (end : ℕ) (leaves : Row) : Type 0 where
  pub part : Part
  pub row : Row
  pub ns : List ℕ
  pub ms : List ℕ
  pub own : Row
  pub more : Row
  pub number_is : part.number ≡ number
  pub rest_is : rest ≡ ns ++ ms
  pub here : IsUnder (spells of) cells of.width below part ns own (first more end)
  pub others : AreUnder (spells of) cells of.width below row ms more end
  pub later_is : numbers row ≡ later

next_child : (of : Nodes) (cells : Cells) (below number : ℕ) (later : List ℕ) (row : Row) (rest : List ℕ) (leaves : Row) (end : ℕ) → AreUnder (spells of) cells of.width below row rest leaves end → numbers row ≡ number ∷ later → NextChild of cells below number later rest end leaves
next_child of cells below number later [] _ _ end none_under is = absurd (cc)
next_child of cells below number later (p ∷ row) _ _ end (more_under {ns = ns} {ms = ms} {leaves = own} {more = more} here others) is = record { part = p; row = row; ns = ns; ms = ms; own = own; more = more; number_is = cc; rest_is = refl; here = here; others = others; later_is = cc }

module _ (of : Nodes) (below : ℕ) (entries : List Entry) (at : ℕ) (ns : List ℕ) (old now : PagesView) (state : Emptying of below entries at ns old now) (low : at < length entries) where
  pub next : NextChild of (cells_of of now.held) below (entry_at entries at).child (drop (suc at) (children entries)) state.rest state.end state.leaves
  next = next_child of (cells_of of now.held) below (entry_at entries at).child (drop (suc at) (children entries)) state.row state.rest state.leaves state.end state.under (state.are ∙ drop_child entries at low)

  pub rest_distinct : Pairwise (λ a b. a ≢ b) (next.ns ++ next.ms)
  rest_distinct = subst (Pairwise (λ a b. a ≢ b)) next.rest_is state.distinct

  abbrev pub child_stands : StandsAt of now.held below (entry_at entries at).child next.ns
  child_stands = record { part = next.part; leaves = next.own; end = first next.more state.end; number_is = next.number_is; under = next.here; distinct = pairwise_left (λ a b. a ≢ b) next.ns next.ms rest_distinct }

  pub child_under : HasUnder of now.held below (entry_at entries at).child
  child_under = record { pages = next.ns; stands = child_stands }

  pub empty_next : (new : PagesView) → GivesUnder of below (entry_at entries at).child now new → Emptying of below entries (at + 1) ns old new
  empty_next new gives =
      let given = gives next.ns child_stands in
      let one_more : suc at ≡ at + 1 = omega arith in
      let far : Each (λ n. IsIn next.ns n → ⊥) next.ms = far_from next.ns next.ms rest_distinct in
      record {
        gone = state.gone ++ next.ns;
        rest = next.ms;
        ns_is = state.ns_is ∙ ap (λ (l : List ℕ). state.gone ++ l) next.rest_is ∙ sym (append_assoc state.gone next.ns next.ms);
        row = next.row;
        leaves = next.more;
        end = state.end;
        under = kept_row (spells of) (cells_of of now.held) (cells_of of new.held) of.width next.ns given.keeps below next.row next.ms next.more state.end next.others far;
        are = next.later_is ∙ ap (λ (n : ℕ). drop n (children entries)) one_more;
        distinct = pairwise_right (λ a b. a ≢ b) next.ns next.ms rest_distinct;
        gives = gives_then of state.gone next.ns old now new state.gives given;
      }
    where
      far_from : (xs ys : List ℕ) → Pairwise (λ a b. a ≢ b) (xs ++ ys) → Each (λ n. IsIn xs n → ⊥) ys
      far_from [] ys all = every ys
        where
          every : (zs : List ℕ) → Each (λ n. IsIn [] n → ⊥) zs
          every [] = tt
          every (z ∷ zs) = ((λ is. is), every zs)
      far_from (x ∷ xs) ys all = both ys (each_right (λ n. x ≢ n) xs ys all.0) (far_from xs ys all.1)
        where
          both : (zs : List ℕ) → Each (λ n. x ≢ n) zs → Each (λ n. IsIn xs n → ⊥) zs → Each (λ n. IsIn (x ∷ xs) n → ⊥) zs
          both [] far near = tt
          both (z ∷ zs) far near = ((λ is. ⊎_elim (λ (same : x ≡ z). far.0 same) (λ (more : IsIn xs z). near.0 more) is), both zs far.1 near.1)

no_rest : (of : Nodes) (cells : Cells) (below : ℕ) (row : Row) (rest : List ℕ) (leaves : Row) (end : ℕ) → AreUnder (spells of) cells of.width below row rest leaves end → numbers row ≡ [] → rest ≡ []
no_rest of cells below [] _ _ end none_under is = refl
no_rest of cells below (p ∷ row) _ _ end (more_under here others) is = absurd (cc)

-- all of them
pub empty_last : (of : Nodes) (below : ℕ) (entries : List Entry) (at : ℕ) (ns : List ℕ) (old now : PagesView) → Emptying of below entries at ns old now → length entries ≤ at → Gives of ns old now
empty_last of below entries at ns old now state all =
    let none = no_rest of (cells_of of now.held) below state.row state.rest state.leaves state.end state.under (state.are ∙ drop_none entries at all) in
    let is : state.gone ≡ ns = sym (state.ns_is ∙ ap (λ (l : List ℕ). state.gone ++ l) none ∙ append-nil state.gone) in
    subst (λ (l : List ℕ). Gives of l old now) is state.gives

-- a page that isn't under the children is there at each time
pub still_there : (of : Nodes) (below number behind at : ℕ) (entries own : List Entry) (ns : List ℕ) (old now : PagesView) → Emptying of below entries at ns old now → Each (λ n. number ≢ n) ns → (level : ℕ) → HoldsNode of old.held level number behind own → HoldsNode of now.held level number behind own
still_there of below number behind at entries own ns old now state off level holds =
    let far = each_left (λ n. number ≢ n) state.gone state.rest (subst (Each (λ n. number ≢ n)) state.ns_is off) in
    record { bytes = holds.bytes; held = state.gives.keeps.same number holds.bytes (λ is. not_in state.gone number far is) holds.held; spells = holds.spells }

-- with the node's own page
pub gives_node : (of : Nodes) (number : ℕ) (ns : List ℕ) (old mid new : PagesView) → Gives of ns old mid → Gives of (number ∷ []) mid new → Gives of (number ∷ ns) old new
gives_node of number ns old mid new one two =
    let both = gives_then of ns (number ∷ []) old mid new one two in
    record {
      keeps = record { same = λ n bytes off was. both.keeps.same n bytes (λ is. off (⊎_elim (λ (left : IsIn ns n). inr left) (λ (right : IsIn (number ∷ []) n). ⊎_elim (λ (same : number ≡ n). inl same) (λ (none : ⊥). absurd none) right) (in_append ns (number ∷ []) n is))) was };
      loses_none = λ n is. both.loses_none n (⊎_elim (λ (there : IsIn (number ∷ ns) n). inl (⊎_elim (λ (same : number ≡ n). in_right ns (number ∷ []) n (inl same)) (λ (more : IsIn ns n). in_left ns (number ∷ []) n more) there)) (λ (none : cells_of of old.held n ≡ None). inr none) is);
    }

-- a leaf has its own page alone
leaf_pages : (of : Nodes) (cells : Cells) (level number : ℕ) (p : Part) (all : List ℕ) (leaves : Row) (end : ℕ) → level ≡ 0 → p.number ≡ number → IsUnder (spells of) cells of.width level p all leaves end → all ≡ number ∷ []
leaf_pages of cells _ number p _ _ end zero_is is (leaf_under held) = ap (λ (n : ℕ). n ∷ []) is
leaf_pages of cells _ number p _ leaves end zero_is is (inner_under held head are full under) = absurd (omega (arith, zero_is))

pub gives_leaf : (of : Nodes) (level number : ℕ) (old new : PagesView) → level ≡ 0 → Gives of (number ∷ []) old new → GivesUnder of level number old new
gives_leaf of level number old new is gives ns at =
    subst (λ (l : List ℕ). Gives of l old new) (sym (leaf_pages of (cells_of of old.held) level number at.part ns at.leaves at.end is at.number_is at.under)) gives

-- ---- an image

one_under : (of : Nodes) (cells : Cells) (level : ℕ) (p : Part) (ns : List ℕ) (leaves : Row) (end : ℕ) → AreUnder (spells of) cells of.width level (p ∷ []) ns leaves end → (some : Row) × IsUnder (spells of) cells of.width level p ns some end
one_under of cells level p _ _ end (more_under {ns = ns} {ms = ms} {leaves = leaves} {more = more} here rest) = last ms more rest here
  where
    last : (ms : List ℕ) (more : Row) → AreUnder (spells of) cells of.width level [] ms more end → IsUnder (spells of) cells of.width level p ns leaves (first more end) → (some : Row) × IsUnder (spells of) cells of.width level p (ns ++ ms) some end
    last _ _ none_under under = (leaves, subst (λ (l : List ℕ). IsUnder (spells of) cells of.width level p l leaves end) (sym (append-nil ns)) under)

pub gives_same : (of : Nodes) (ns ms : List ℕ) (old new : PagesView) → AreSameNumbers ns ms → Gives of ns old new → Gives of ms old new
gives_same of ns ms old new same gives = record {
  keeps = record { same = λ n bytes off was. gives.keeps.same n bytes (λ is. off (same.into n is)) was };
  loses_none = λ n is. gives.loses_none n (⊎_elim (λ (there : IsIn ms n). inl (same.back n there)) (λ (none : cells_of of old.held n ≡ None). inr none) is);
}

module _ (image : Image) (held : Held) (pairs : List (List ℕ)) (tree : ImageTree image held pairs) where
  pub rows_under : StackUnder (spells (nodes_of image)) (cells_of (nodes_of image) held) image.width pairs (tree.top ∷ []) tree.lower
  rows_under = stack_under (spells (nodes_of image)) (cells_of (nodes_of image) held) image.width pairs (tree.top ∷ []) tree.lower tree.tree.stack

  pub image_stands : StandsAt (nodes_of image) held (image.levels - 1) image.root rows_under.whole.ns
  image_stands =
      let one = one_under (nodes_of image) (cells_of (nodes_of image) held) (length tree.lower) tree.top rows_under.whole.ns rows_under.leaves no_page rows_under.whole.under in
      let level : length tree.lower ≡ image.levels - 1 = omega (arith, tree.tree.high) in
      record {
        part = tree.top;
        leaves = one.0;
        end = no_page;
        number_is = tree.tree.at_root;
        under = subst (λ (l : ℕ). IsUnder (spells (nodes_of image)) (cells_of (nodes_of image) held) image.width l tree.top rows_under.whole.ns one.0 no_page) level one.1;
        distinct = rows_under.whole.same.distinct tree.tree.distinct;
      }

pub has_under : (image : Image) (held : Held) → HasImage image held → HasUnder (nodes_of image) held (image.levels - 1) image.root
has_under image held has = record { pages = (rows_under image held has.pairs has.tree).whole.ns; stands = image_stands image held has.pairs has.tree }

pub destroyed : (image : Image) (old new : PagesView) (pairs : List (List ℕ)) (tree : ImageTree image old.held pairs) → GivesUnder (nodes_of image) (image.levels - 1) image.root old new → StillCounted (nodes_of image) old new (pages_of tree) → Destroys image old new (pages_of tree)
destroyed image old new pairs tree gives counted =
    let all = gives_same (nodes_of image) (rows_under image old.held pairs tree).whole.ns (pages_of tree) old new (rows_under image old.held pairs tree).whole.same (gives (rows_under image old.held pairs tree).whole.ns (image_stands image old.held pairs tree)) in
    let more = counted [] tt tt tt all.keeps all.loses_none in
    record { gives = all; spare = omega (arith, more) }
