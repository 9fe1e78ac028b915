-- Where each image is sound and each image page is one of theirs, the identifiers in all nodes of the images name pages of the store.
use Rattle.std.proofs.Common.{◌≡◌, ◌<◌, ℕ, List, refl, sym, ◌∙◌, ap, subst}
use Rattle.std.specs.Prelude.{All, Some, is_some}
use Rattle.rss_base.specs.Nodes.{Node, IsNodePage}
use Rattle.rss_base.specs.Paged.{Held, page_key}
use Rattle.rss_base.specs.Trees.{IsNodeAt}
use Rattle.rss_base.specs.Listings.{Listing, ListingFits}
use Rattle.rss_base.specs.declared.image.ImageEntry.{ImageEntry}
use Rattle.rss_base.specs.declared.relation.RelationEntry.{RelationEntry}
use Rattle.rss_base.specs.declared.key.Space.TheVariants.{Image as ImageSpace}
use Rattle.rss_levels.specs.Entries.{IsIn}
use Rattle.rss_node.specs.Nodes.{AreNodes}
use Rattle.rss_image.specs.Images.{nodes_of as image_nodes, pages_of}
use Rattle.rss_image.proofs.Putting.{spell_one}
use Rattle.rss_model.specs.Tables.{Tables}
use Rattle.rss_stored.specs.Store.{IsListedImage, IsReached, SpellsImage, SpellsImages, nodes_of}
use Rattle.rss_entries.specs.Images.{image_of}
use Rattle.rss_entries.proofs.Fitting.{fitting_nodes}
use Rattle.rss_entries.proofs.Kept.{HoldsNode, image_node, one_image}
use Rattle.rss_entries.proofs.Lists.{byte_list}
use Rattle.rss_entries.proofs.Showing.{same_entry, at_same}
use Rattle.rss_entries.proofs.Standing.{AreLow, IsRowed, contained, containing, rowed}
use Rattle.rss_access.specs.Checking.{AreWithin}

-- an image has the same pages wherever it shows the tables
within_others : {held : Held} {tables : Tables} {number : ℕ} {image : ImageEntry} {relation : RelationEntry} {own others : List ℕ} (slots : ℕ) → AreLow held → AreNodes (image_nodes (image_of number image relation))
    → SpellsImage held tables number image relation own → AreWithin slots held number image relation own → SpellsImage held tables number image relation others → AreWithin slots held number image relation others
within_others {held = held} {tables = tables} {number = number} {image = image} {relation = relation} {own = own} {others = others} slots low fit one within other page node among at =
    let first : IsRowed held tables number image relation own = rowed low fit one in
    let second : IsRowed held tables number image relation others = rowed low fit other in
    let pairs : List (List ℕ) = byte_list tables image relation in
    let same : pages_of first.tree ≡ pages_of second.tree = (spell_one (image_of number image relation) held pairs pairs first.tree second.tree).pages_are in
    let there : IsIn (pages_of first.tree) page = subst (λ (ns : List ℕ). IsIn ns page) (sym same) (second.same.back page (contained others page among)) in
    within page node (containing own page (first.same.into page there)) at

-- an image shows the tables in these pages, with identifiers below the number of slots
pub record IsWithinIn (slots : ℕ) (held : Held) (tables : Tables) (number : ℕ) (image : ImageEntry) (relation : RelationEntry) : Type 0 where
  pub pages : List ℕ
  pub spells : SpellsImage held tables number image relation pages
  pub within : AreWithin slots held number image relation pages

module _ {slots : ℕ} {held : Held} {listing : Listing} {tables : Tables} (low : AreLow held) (fits : ListingFits listing) (images : SpellsImages held listing tables)
    (each : (number : ℕ) (image : ImageEntry) (relation : RelationEntry) → IsListedImage listing number image relation → IsWithinIn slots held tables number image relation) where
  pub all_within : (number : ℕ) (image : ImageEntry) (relation : RelationEntry) → IsListedImage listing number image relation
      → (page : ℕ) (node : Node) → IsNodeAt held (nodes_of number image relation) page node → All (λ entry. entry.tid.page < slots) node.entries
  all_within number image relation its page node at =
      let reached : IsReached held listing tables (page_key relation.segment ImageSpace page) = images.reached (page_key relation.segment ImageSpace page) refl (ap is_some at.there) in
      let other : HoldsNode held (nodes_of reached.number reached.image reached.relation) page = image_node reached.spells.tree page (contained reached.pages page reached.among) in
      let bytes : other.at.bytes ≡ at.bytes = some_same (sym other.at.there ∙ ap (λ (segment : ℕ). held (page_key segment ImageSpace page)) (sym reached.segment) ∙ at.there) in
      let same : reached.number ≡ number = one_image (subst (λ (l : List ℕ). IsNodePage (nodes_of reached.number reached.image reached.relation) page l other.node) bytes other.at.is) at.is in
      let spells : SpellsImage held tables number image relation reached.pages = at_same (λ n e r. SpellsImage held tables n e r reached.pages) same (same_entry reached.at its same) reached.spells in
      let own = each number image relation its in
      within_others slots low (fitting_nodes listing fits number image relation its) own.spells own.within spells page node reached.among at
    where
      some_same : {a b : List ℕ} → Some a ≡ Some b → a ≡ b
      some_same same = cc
