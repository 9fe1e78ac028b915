-- An image of the catalog stands in its pages by its nodes where they spell its list by rows of pairs, and the other way round.
use Rattle.std.proofs.Common.{◌≡◌, ◌<◌, ℕ, zero, suc, true, List, [], ◌∷◌, length, map as list_map, refl, sym, ◌∙◌, ap, subst, arith, inl, inr, ⊎_elim}
use Rattle.std.specs.Prelude.{is_some, Contains}
use Rattle.std.proofs.lemmas.List.{length-append}
use Rattle.rss_base.specs.PageMap.{IsKey, number_limit}
use Rattle.rss_base.specs.Paged.{Held}
use Rattle.rss_base.specs.Steps.{PagesView}
use Rattle.rss_base.specs.Trees.{Pair, IsImage}
use Rattle.rss_base.specs.LogRecords.{tid_bytes}
use Rattle.rss_base.specs.Listings.{with_root}
use Rattle.rss_base.specs.declared.key.PageKey.{PageKey}
use Rattle.rss_base.specs.declared.key.Space.{Space}
use Rattle.rss_base.specs.declared.key.Space.TheVariants.{Home, Overflow, Image, System}
use Rattle.rss_base.specs.declared.image.ImageEntry.{ImageEntry}
use Rattle.rss_base.specs.declared.relation.RelationEntry.{RelationEntry}
use Rattle.rss_levels.specs.Entries.{Each, IsIn}
use Rattle.rss_levels.specs.Rows.{Row, Cells, HoldsRow, IsStack, items, leaf_entry, link}
use Rattle.rss_levels.specs.Nested.{AreSameNumbers}
use Rattle.rss_levels.proofs.Lists.{each_append, each_unmap}
use Rattle.rss_node.specs.Nodes.{AreNodes}
use Rattle.rss_base.specs.Tids.{IsSpelledTid}
use Rattle.rss_node.specs.Pairs.{IsWhole, pair_bytes, pair_from}
use Rattle.rss_node.specs.declared.pair.Nodes.{Nodes}
use Rattle.rss_node.proofs.Agreed.{whole_page, pair_said}
use Rattle.rss_image.specs.Trees.{cells_of, spells, node_of}
use Rattle.rss_image.specs.Images.{nodes_of, ImageTree, pages_of}
use Rattle.rss_image.specs.Agreement.{AreNumbered, base_of, IsSameImage, HasSameTree}
use Rattle.rss_image.specs.declared.image.Image.{Image as SomeImage}
use Rattle.rss_image.proofs.Nested.{same_image}
use Rattle.rss_image.proofs.Rowed.{same_tree}
use Rattle.rss_model.specs.Tables.{Tables}
use Rattle.rss_model.specs.Images.{Entry, image_list}
use Rattle.rss_stored.specs.Store.{SpellsImage, image_definition, pair_spelled}
use Rattle.rss_model.proofs.Mixing.{In}
use Rattle.rss_entries.specs.Images.{image_of}
use Rattle.rss_entries.proofs.Lists.{byte_list}

-- ---- numbers of pages

-- no page has the number that stands for no next leaf, or a greater one
abbrev pub AreLow : Held → Type 0
AreLow held = (key : PageKey) → is_some (held key) ≡ true → key.number < 4294967295

pub low_cells : (held : Held) → AreLow held → (of : Nodes) → AreNumbered (cells_of of held)
low_cells held low of number bytes is = low _ (ap is_some is)

-- a page's number is below the number of slots
pub low_held : (view : PagesView) → view.slots < 4294967296 → ((key : PageKey) → is_some (view.held key) ≡ view.mapped key) → ((key : PageKey) → view.mapped key ≡ true → IsKey view.slots key) → AreLow view.held
low_held view few holds allowed key there = below key.space (allowed key (sym (holds key) ∙ there)).number
  where
    below : (space : Space) → key.number < number_limit view.slots space → key.number < 4294967295
    below Home low = omega (arith, low, few)
    below Overflow low = omega (arith, low, few)
    below Image low = omega (arith, low, few)
    below System low = omega (arith, low)

-- ---- members of a list of numbers

pub contained : (ns : List ℕ) (n : ℕ) → Contains ns n → IsIn ns n
contained [] n (k, low, at) = absurd (omega (arith, low))
contained (m ∷ ns) n (zero, low, at) = inl at
contained (m ∷ ns) n (suc k, low, at) = inr (contained ns n (k, omega (arith, low), at))

pub containing : (ns : List ℕ) (n : ℕ) → IsIn ns n → Contains ns n
containing [] n is = absurd is
containing (m ∷ ns) n is = ⊎_elim
    (λ (here : m ≡ n). (0, omega arith, here))
    (λ (more : IsIn ns n). let at = containing ns n more in (suc at.0, omega (arith, at.1), at.2)) is

-- ---- the pairs of a tree

module _ (of : Nodes) (cells : Cells) where
  row_whole : (row : Row) (end : ℕ) → HoldsRow (spells of) cells of.width 0 row end → Each (λ e. IsWhole of.width e.pair) (items row)
  row_whole [] end held = tt
  row_whole (p ∷ row) end held = each_append (λ e. IsWhole of.width e.pair) p.items (items row)
      (whole_page held.0.bytes (node_of of 0 p.number (link 0 row end) p.items) held.0.spells) (row_whole row end held.1)

  pub pairs_whole : (pairs : List (List ℕ)) (row : Row) (lower : List Row) → IsStack (spells of) cells of.width pairs (row ∷ lower) → Each (IsWhole of.width) pairs
  pairs_whole pairs row [] stack = each_unmap (λ e. IsWhole of.width e.pair) leaf_entry pairs (subst (Each (λ e. IsWhole of.width e.pair)) stack.1.pairs_are (row_whole row _ stack.0.held))
  pairs_whole pairs row (next ∷ lower) stack = pairs_whole pairs next lower stack.2

-- each pair says its key and its identifier
said : (width : ℕ) (pairs : List Pair) → Each (IsWhole width) (list_map (λ (p : Pair). pair_bytes p.key p.tid) pairs) → Each (λ (p : Pair). IsSpelledTid p.tid) pairs
    → list_map (pair_from width) (list_map (λ (p : Pair). pair_bytes p.key p.tid) pairs) ≡ pairs
said width [] whole tids = refl
said width (p ∷ pairs) whole tids =
    let long : length p.key ≡ width = omega (arith, whole.0.long, length-append p.key (tid_bytes p.tid)) in
    λ i. pair_said width p long tids.0 i ∷ said width pairs whole.1 tids.1 i

-- the identifiers of an image's entries can be spelled
abbrev pub AreSpelledIn : Tables → ImageEntry → RelationEntry → Type 0
AreSpelledIn tables image relation = (e : Entry) → In e (image_list tables (image_definition image relation)) → IsSpelledTid e.tid

spelled_tids : (image : ImageEntry) (relation : RelationEntry) (entries : List Entry) → ((e : Entry) → In e entries → IsSpelledTid e.tid) → Each (λ (p : Pair). IsSpelledTid p.tid) (list_map (pair_spelled image relation) entries)
spelled_tids image relation [] all = tt
spelled_tids image relation (e ∷ entries) all = (all e (inl refl), spelled_tids image relation entries (λ f is. all f (inr is)))

-- ---- by rows

-- the rows spell the image's list, in these pages
pub record IsRowed (held : Held) (tables : Tables) (number : ℕ) (image : ImageEntry) (relation : RelationEntry) (pages : List ℕ) : Type 0 where
  pub tree : ImageTree (image_of number image relation) held (byte_list tables image relation)
  pub same : AreSameNumbers (pages_of tree) pages

pub rowed : {held : Held} {tables : Tables} {number : ℕ} {image : ImageEntry} {relation : RelationEntry} {pages : List ℕ} → AreLow held → AreNodes (nodes_of (image_of number image relation)) → SpellsImage held tables number image relation pages → IsRowed held tables number image relation pages
rowed {held = held} {tables = tables} {number = number} {image = image} {relation = relation} {pages = pages} low fit spelled =
    let has : HasSameTree (image_of number image relation) held pages (list_map (pair_spelled image relation) (image_list tables (image_definition image relation))) =
    subst (HasSameTree (image_of number image relation) held pages) spelled.list (same_tree (image_of number image relation) held fit (low_cells held low (nodes_of (image_of number image relation))) pages spelled.pairs spelled.tree spelled.once) in
    record { tree = has.tree; same = has.same }

-- ---- and back

-- the image stands in some pages, which are those of a tree by rows
pub record StandsIn (held : Held) (tables : Tables) (number : ℕ) (image : ImageEntry) (relation : RelationEntry) (own : List ℕ) : Type 0 where
  pub pages : List ℕ
  pub spells : SpellsImage held tables number image relation pages
  pub same : AreSameNumbers pages own

pub stands_in : (held : Held) (tables : Tables) (number : ℕ) (image : ImageEntry) (relation : RelationEntry) → AreLow held → (after : SomeImage) → nodes_of after ≡ nodes_of (image_of number image relation) → AreSpelledIn tables image relation
    → (tree : ImageTree after held (byte_list tables image relation)) → StandsIn held tables number (with_root after.root after.levels image) relation (pages_of tree)
stands_in held tables number image relation low after nodes tids tree =
    let pairs : List Pair = list_map (pair_spelled image relation) (image_list tables (image_definition image relation)) in
    let same : IsSameImage tree = same_image after held (low_cells held low (nodes_of after)) (byte_list tables image relation) tree in
    let whole = pairs_whole (nodes_of after) (cells_of (nodes_of after) held) (byte_list tables image relation) (tree.top ∷ []) tree.lower tree.tree.stack in
    let list : list_map (pair_from after.width) (byte_list tables image relation) ≡ pairs = said after.width pairs whole (spelled_tids image relation (image_list tables (image_definition image relation)) tids) in
    record {
      pages = same.pages;
      spells = record {
        pairs = list_map (pair_from after.width) (byte_list tables image relation);
        tree = subst (λ (of : Nodes). IsImage held (base_of of) after.root after.levels same.pages (list_map (pair_from after.width) (byte_list tables image relation))) nodes same.is;
        once = same.once;
        list = list;
      };
      same = same.same;
    }
