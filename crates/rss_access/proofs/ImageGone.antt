-- The tree of an image was given, and the image isn't listed any longer: the pages spell the tables without it.
use Rattle.std.proofs.Common.{◌≡◌, ◌≢◌, ◌<◌, ◌≤◌, inl, inr, ⊎_elim, ℕ, List, length, refl, sym, ◌∙◌, ap, subst, arith}
use Rattle.std.specs.Prelude.{Option, Some, None, All}
use Rattle.std.specs.FinMap as map
use Rattle.std.proofs.lemmas.Option.{none-some}
use Rattle.rss_base.specs.DiskRule.{IsTold}
use Rattle.rss_base.specs.Nodes.{Node}
use Rattle.rss_base.specs.Paged.{page_key}
use Rattle.rss_base.specs.Sizes.{system_pages}
use Rattle.rss_base.specs.Steps.{PagesStep, pages_in}
use Rattle.rss_base.specs.Trees.{IsNodeAt}
use Rattle.rss_base.specs.Listings.{Listing, ListingFits, image_at, relation_at}
use Rattle.rss_base.specs.declared.key.Space.TheVariants.{Image as ImageSpace}
use Rattle.rss_base.specs.declared.image.ImageEntry.{ImageEntry}
use Rattle.rss_base.specs.declared.relation.RelationEntry.{RelationEntry}
use Rattle.rss_levels.specs.Entries.{IsIn}
use Rattle.rss_levels.proofs.Pages.{in_or_not}
use Rattle.rss_image.specs.Emptied.{Gives}
use Rattle.rss_image.specs.Images.{DestroysImage, nodes_of as image_nodes, pages_of}
use Rattle.rss_model.specs.Tables.{Tables}
use Rattle.rss_model.specs.Defining.{with_definitions}
use Rattle.rss_stored.specs.Store.{AreNodesWithin, IsListedImage, SpellsImage, SpellsTables, nodes_of}
use Rattle.rss_stored.proofs.ImageMade.{image_gone_spells}
use Rattle.rss_model.proofs.LogLists.{by_same}
use Rattle.rss_stored.proofs.Relisted.{number_set, number_kept, number_within_list}
use Rattle.rss_entries.specs.Images.{image_of}
use Rattle.rss_entries.proofs.Fitting.{fitting_nodes}
use Rattle.rss_entries.proofs.LostImage.{loses_image}
use Rattle.rss_entries.proofs.NewImage.{TouchesImages, segment_kept}
use Rattle.rss_entries.proofs.Shown.{byte_list}
use Rattle.rss_entries.proofs.Standing.{IsRowed, rowed}
use Rattle.rss_access.specs.Changes.{AccessView, CanAlter, HasTables}
use Rattle.rss_access.specs.Trees.{TakesImage}
use Rattle.rss_access.specs.Written.{AreWritten}
use Rattle.rss_access.proofs.ImageTouched.{AreLawful, are_low, touches, system_stays, written_beside, tables_imaged, can_imaged}

-- ---- what was done

-- The image of this number was listed, its pages were given, and its definition was taken away.
pub record Taken (old new : AccessView) (number : ℕ) (image : ImageEntry) (relation : RelationEntry) : Type 0 where
  pub at : IsListedImage old.catalog.listing number image relation
  pub takes : TakesImage number old new
  pub asks : ℕ
  pub outs : ℕ
  pub step : PagesStep (pages_in relation.segment ImageSpace) asks outs old.pages new.pages
  pub before : AreLawful old.pages
  pub after : AreLawful new.pages

module _ {old new : AccessView} {number : ℕ} {image : ImageEntry} {relation : RelationEntry} (taken : Taken old new number image relation) where
  touched : IsTold old.pages.disk → TouchesImages relation.segment old.pages new.pages
  touched told = touches taken.step taken.before taken.after told

  bounds : (1 ≤ number) × (number ≤ length old.catalog.listing.images)
  bounds = number_within_list old.catalog.listing.images number image taken.at.at

  -- ---- the listing

  none_now : image_at new.catalog.listing number ≡ None
  none_now = ap (λ (l : Listing). image_at l number) taken.takes.lists.is ∙ number_set old.catalog.listing.images number None bounds.0 bounds.1

  -- what is listed is another image, and was listed so
  is_other : {k : ℕ} {other : ImageEntry} {its : RelationEntry} → IsListedImage new.catalog.listing k other its → k ≢ number
  is_other {other = other} l same = none-some other (sym none_now ∙ ap (image_at new.catalog.listing) (sym same) ∙ l.at)

  listed_back : {k : ℕ} {other : ImageEntry} {its : RelationEntry} → IsListedImage new.catalog.listing k other its → IsListedImage old.catalog.listing k other its
  listed_back {k = k} {other = other} l = record {
    at = sym (ap (λ (l : Listing). image_at l k) taken.takes.lists.is ∙ number_kept old.catalog.listing.images number None bounds.0 k (is_other l)) ∙ l.at;
    within = sym (ap (λ (l : Listing). relation_at l other.relation) taken.takes.lists.is) ∙ l.within;
  }

  -- the pages of the catalog
  pub taken_written : ListingFits old.catalog.listing → IsTold old.pages.disk → length old.catalog.pending ≡ system_pages → AreWritten old.pages.held old.catalog → AreWritten new.pages.held new.catalog
  taken_written fit told places written = written_beside number None taken.takes.lists (omega (arith, bounds.1, fit.paths.image_places)) places old.pages.held new.pages.held (system_stays taken.step told) written

  -- ---- the tables

  module _ (told : IsTold old.pages.disk) {tables : Tables} (spells : SpellsTables old.pages.held old.catalog.listing tables) where
    abbrev tables_now : Tables
    tables_now = with_definitions (record tables.definitions { images = map.remove tables.definitions.images image.name }) tables

    destroys : DestroysImage (image_of number image relation) old.pages new.pages
    destroys = taken.takes.destroys told image relation taken.at

    -- The pages spell the tables without the image.
    pub taken_spells : SpellsTables new.pages.held new.catalog.listing (with_definitions (record tables.definitions { images = map.remove tables.definitions.images image.name }) tables)
    taken_spells =
        let lists = taken.takes.lists in
        subst (λ (l : Listing). SpellsTables new.pages.held l tables_now) (sym lists.is)
        (image_gone_spells spells number image taken.at.at (subst ListingFits lists.is (taken.takes.fits spells.listed)) (loses_image number image relation spells.listed taken.at spells.images (touched told) destroys))

    -- its tree
    stood : (pages : List ℕ) × SpellsImage old.pages.held tables number image relation pages
    stood = spells.images.each number image relation taken.at

    rows : IsRowed old.pages.held tables number image relation stood.0
    rows = rowed (are_low taken.before told) (fitting_nodes old.catalog.listing spells.listed number image relation taken.at) stood.1

    -- ---- identifiers in nodes

    -- a page that is there holds what it held
    was_there : (page : ℕ) (bytes : List ℕ) → new.pages.held (page_key relation.segment ImageSpace page) ≡ Some bytes → old.pages.held (page_key relation.segment ImageSpace page) ≡ Some bytes
    was_there page bytes there = by (old.pages.held (page_key relation.segment ImageSpace page)) refl
      where
        gives : Gives (image_nodes (image_of number image relation)) (pages_of rows.tree) old.pages new.pages
        gives = (destroys (byte_list tables image relation) rows.tree).gives

        gone : new.pages.held (page_key relation.segment ImageSpace page) ≡ None → ⊥
        gone none = none-some bytes (sym none ∙ there)

        by : (was : Option (List ℕ)) → old.pages.held (page_key relation.segment ImageSpace page) ≡ was → old.pages.held (page_key relation.segment ImageSpace page) ≡ Some bytes
        by None is = absurd (⊎_elim (λ (own : ⊥). own) gone (gives.loses_none page (inr is)))
        by (Some before) is = ⊎_elim
            (λ (own : IsIn (pages_of rows.tree) page). absurd (⊎_elim (λ (own : ⊥). own) gone (gives.loses_none page (inl own))))
            (λ (off : IsIn (pages_of rows.tree) page → ⊥). is ∙ sym (gives.keeps.same page before off is) ∙ there)
            (in_or_not (pages_of rows.tree) page)

    node_back : (k : ℕ) (other : ImageEntry) (its : RelationEntry) (page : ℕ) (node : Node) → IsNodeAt new.pages.held (nodes_of k other its) page node → IsNodeAt old.pages.held (nodes_of k other its) page node
    node_back k other its page node at = record { bytes = at.bytes; there = there; is = at.is }
      where
        there : old.pages.held (page_key its.segment ImageSpace page) ≡ Some at.bytes
        there = by_same its.segment relation.segment
            (λ same. ap (λ (s : ℕ). old.pages.held (page_key s ImageSpace page)) same ∙ was_there page at.bytes (ap (λ (s : ℕ). new.pages.held (page_key s ImageSpace page)) (sym same) ∙ at.there))
            (λ off. sym (segment_kept (touched told) (page_key its.segment ImageSpace page) off) ∙ at.there)

    -- The identifiers in the nodes of images have pages below the number of slots.
    pub taken_nodes : AreNodesWithin old.pages.slots old.pages.held old.catalog.listing → AreNodesWithin new.pages.slots new.pages.held new.catalog.listing
    taken_nodes within k other its l page node at =
        subst (λ (slots : ℕ). All (λ e. e.tid.page < slots) node.entries) (sym taken.step.passes.slots) (within k other its (listed_back l) page node (node_back k other its page node at))

  -- ---- where pages spell tables

  -- They spell some without the image.
  pub taken_tables : IsTold old.pages.disk → HasTables old → HasTables new
  taken_tables told has = tables_imaged (map.remove has.tables.definitions.images image.name) taken.step.passes.slots has (taken_spells told has.spells) (taken_nodes told has.spells has.nodes)

  -- The pages may be changed on.
  pub taken_can : CanAlter old → CanAlter new
  taken_can can = can_imaged taken.step taken_tables can
