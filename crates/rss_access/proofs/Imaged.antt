-- The images that pages show, where other pages change, a count does, or a tuple of another relation.
use Rattle.std.proofs.Common.{◌≡◌, ◌≢◌, inl, inr, ℕ, ◌<◌, List, refl, sym, ◌∙◌, ap, subst}
use Rattle.std.specs.Prelude.{All, Option, Some, is_some, option_map, map as list_map}
use Rattle.std.proofs.lemmas.Bool.{cases_eq}
use Rattle.std.proofs.lemmas.Option.{same_Some}
use Rattle.rss_base.specs.Paged.{Held, page_key}
use Rattle.rss_base.specs.Nodes.{NodeEntry, Node, NodesOf}
use Rattle.rss_base.specs.Trees.{Pair, Reached, IsNodeAt, IsTree, is_leaf, is_inner, AreTrees, no_child, one_more, IsImage}
use Rattle.rss_base.specs.Listings.{Listing, ListingFits, relation_at, with_relation, with_count}
use Rattle.rss_base.specs.declared.key.PageKey.{PageKey}
use Rattle.rss_base.specs.declared.key.Space.TheVariants.{Image as ImageSpace}
use Rattle.rss_base.specs.declared.tid.Tid.{Tid}
use Rattle.rss_base.specs.declared.item.Item.TheVariants.{Tuple as TupleItem}
use Rattle.rss_base.specs.declared.value.Value.{Value}
use Rattle.rss_base.specs.declared.image.ImageEntry.{ImageEntry}
use Rattle.rss_base.specs.declared.relation.RelationEntry.{RelationEntry}
use Rattle.rss_catalog.specs.Catalogs.{HasImageOf}
use Rattle.rss_entries.specs.Images.{with_tuple}
use Rattle.rss_model.specs.Items.{Values}
use Rattle.rss_model.specs.Images.{image_list}
use Rattle.rss_model.specs.Tables.{Tables}
use Rattle.rss_stored.specs.Store.{AreNodesWithin, IsListedImage, SpellsImage, SpellsImages, IsReached, nodes_of, image_definition, pair_spelled}
use Rattle.rss_model.proofs.Contents.{content_elsewhere}
use Rattle.rss_model.proofs.Putting.{same_parts}
use Rattle.rss_model.proofs.SeenAlike.{entries_same}
use Rattle.rss_access.proofs.Numbered.{names_apart, counted_here, counted_else, counted_or_old}

-- ---- other pages change

-- the pages of images hold the same
abbrev pub SameImages : (old new : Held) → Type 0
SameImages old new = (key : PageKey) → key.space ≡ ImageSpace → new key ≡ old key

module _ {old new : Held} (same : SameImages old new) (of : NodesOf) where
  node_kept : {number : ℕ} {node : Node} → IsNodeAt old of number node → IsNodeAt new of number node
  node_kept {number = number} at = record { bytes = at.bytes; there = same (page_key of.segment ImageSpace number) refl ∙ at.there; is = at.is }

  mutual
    tree_kept : {least level number : ℕ} {reached : Reached} → IsTree old of least level number reached → IsTree new of least level number reached
    tree_kept (is_leaf at few) = is_leaf (node_kept at) few
    tree_kept (is_inner at few first trees) = is_inner (node_kept at) few first (trees_kept trees)

    trees_kept : {level : ℕ} {least : Option Pair} {entries : List NodeEntry} {reached : Reached} → AreTrees old of level least entries reached → AreTrees new of level least entries reached
    trees_kept no_child = no_child
    trees_kept (one_more tree between rest) = one_more (tree_kept tree) between (trees_kept rest)

  image_kept : {root levels : ℕ} {pages : List ℕ} {pairs : List Pair} → IsImage old of root levels pages pairs → IsImage new of root levels pages pairs
  image_kept is = record { some = is.some; reached = is.reached; tree = tree_kept is.tree; chained = is.chained; pages_are = is.pages_are; pairs_are = is.pairs_are; rising = is.rising }

module _ {old new : Held} (same : SameImages old new) where
  one_kept : {tables : Tables} {number : ℕ} {image : ImageEntry} {relation : RelationEntry} {pages : List ℕ} → SpellsImage old tables number image relation pages → SpellsImage new tables number image relation pages
  one_kept {number = number} {image = image} {relation = relation} is = record { pairs = is.pairs; tree = image_kept same (nodes_of number image relation) is.tree; once = is.once; list = is.list }

  -- they show the same
  pub images_kept : {listing : Listing} {tables : Tables} → SpellsImages old listing tables → SpellsImages new listing tables
  images_kept images = record {
    each = λ number image relation l. let shown = images.each number image relation l in (shown.0, one_kept shown.1);
    reached = λ key is there.
        let of = images.reached key is (ap is_some (sym (same key is)) ∙ there) in
        record { number = of.number; image = of.image; relation = of.relation; pages = of.pages; at = of.at; spells = one_kept of.spells; segment = of.segment; among = of.among };
  }

  -- and their nodes have the same identifiers
  pub nodes_kept : {listing : Listing} {slots : ℕ} → AreNodesWithin slots old listing → AreNodesWithin slots new listing
  nodes_kept within number image relation l page node at = within number image relation l page node (node_kept (λ key image_page. sym (same key image_page)) (nodes_of number image relation) at)

-- ---- a relation has another count

one_counted : {held : Held} {tables : Tables} {number : ℕ} {image : ImageEntry} {relation : RelationEntry} {pages : List ℕ} (live : ℕ) → SpellsImage held tables number image relation pages → SpellsImage held tables number image (with_count live relation) pages
one_counted live is = record { pairs = is.pairs; tree = is.tree; once = is.once; list = is.list }

module _ (listing : Listing) (number live : ℕ) (relation : RelationEntry) (at : relation_at listing number ≡ Some relation) where
  abbrev counted : Listing
  counted = with_relation listing number (Some (with_count live relation))

  -- the same images are shown
  pub images_counted : {held : Held} {tables : Tables} → SpellsImages held listing tables → SpellsImages held counted tables
  images_counted {held = held} {tables = tables} images = record {
    each = λ k image entry l. elim (counted_or_old listing number live relation at image.relation entry l.within) [
      | inl here ↦
          let shown = images.each k image relation (record { at = l.at; within = ap (relation_at listing) here.0 ∙ at }) in
          (shown.0, subst (λ (e : RelationEntry). SpellsImage held tables k image e shown.0) here.1 (one_counted live shown.1))
      | inr was ↦ images.each k image entry (record { at = l.at; within = was.1 })
    ];
    reached = λ key is there. still key (images.reached key is there);
  }
    where
      still : (key : PageKey) → IsReached held listing tables key → IsReached held counted tables key
      still key of = elim (cases_eq of.image.relation number) [
        | inl same ↦
            let one : of.relation ≡ relation = same_Some _ _ (sym of.at.within ∙ ap (relation_at listing) same ∙ at) in
            record {
              number = of.number;
              image = of.image;
              relation = with_count live relation;
              pages = of.pages;
              at = record { at = of.at.at; within = ap (relation_at counted) same ∙ counted_here listing number live relation at };
              spells = one_counted live (subst (λ (e : RelationEntry). SpellsImage held tables of.number of.image e of.pages) one of.spells);
              segment = of.segment ∙ ap (λ (e : RelationEntry). e.segment) one;
              among = of.among;
            }
        | inr other ↦ record {
          number = of.number;
          image = of.image;
          relation = of.relation;
          pages = of.pages;
          at = record { at = of.at.at; within = counted_else listing number live relation at of.image.relation other ∙ of.at.within };
          spells = of.spells;
          segment = of.segment;
          among = of.among;
        }
      ]

  pub nodes_counted : {held : Held} {slots : ℕ} → AreNodesWithin slots held listing → AreNodesWithin slots held counted
  nodes_counted {held = held} {slots = slots} within k image entry l = elim (counted_or_old listing number live relation at image.relation entry l.within) [
    | inl here ↦ subst (λ (r : RelationEntry). (page : ℕ) (node : Node) → IsNodeAt held (nodes_of k image r) page node → All (λ e. e.tid.page < slots) node.entries) here.1
        (within k image relation (record { at = l.at; within = ap (relation_at listing) here.0 ∙ at }))
    | inr was ↦ within k image entry (record { at = l.at; within = was.1 })
  ]

-- ---- a tuple of a relation without images changes

module _ {listing : Listing} (fits : ListingFits listing) (number : ℕ) (relation : RelationEntry) (at : relation_at listing number ≡ Some relation) (none : HasImageOf listing number → ⊥) (tid : Tid) (next : Option (List Value)) where
  abbrev after : Tables → Tables
  after tables = with_tuple tables relation.name tid next

  -- a listed image is one of another relation
  of_another : (k : ℕ) (image : ImageEntry) (entry : RelationEntry) → IsListedImage listing k image entry → entry.name ≢ relation.name
  of_another k image entry l = names_apart fits image.relation number entry relation l.within at (λ same. none (record { number = k; image = image; at = l.at; of = same }))

  one_beside : {held : Held} {tables : Tables} {k : ℕ} {image : ImageEntry} {entry : RelationEntry} {pages : List ℕ} → entry.name ≢ relation.name → SpellsImage held tables k image entry pages → SpellsImage held (after tables) k image entry pages
  one_beside {tables = tables} {image = image} {entry = entry} other is = record { pairs = is.pairs; tree = is.tree; once = is.once; list = is.list ∙ ap (list_map (pair_spelled image entry)) (sym same_list) }
    where
      same_list : image_list (after tables) (image_definition image entry) ≡ image_list tables (image_definition image entry)
      same_list = entries_same tables.definitions entry.name (image_definition image entry).fields (after tables).contents tables.contents (λ t. content_elsewhere tables.contents (TupleItem relation.name tid) (option_map Values next) (TupleItem entry.name t) (λ is_it. other (same_parts entry.name relation.name t tid is_it).0))

  -- the images show the tables after that too
  pub images_beside : {held : Held} {tables : Tables} → SpellsImages held listing tables → SpellsImages held listing (after tables)
  images_beside images = record {
    each = λ k image entry l. let shown = images.each k image entry l in (shown.0, one_beside (of_another k image entry l) shown.1);
    reached = λ key is there.
        let of = images.reached key is there in
        record { number = of.number; image = of.image; relation = of.relation; pages = of.pages; at = of.at; spells = one_beside (of_another of.number of.image of.relation of.at) of.spells; segment = of.segment; among = of.among };
  }
