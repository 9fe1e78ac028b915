-- How a look through all pages of a store ends: which place is named, and what is passed where none is.
use Rattle.std.proofs.Common.{◌≡◌, ℕ, ◌<◌, true, [], subst, arith}
use Rattle.std.specs.Prelude.{Result, Option, Some, None, is_some}
use Rattle.rss_base.specs.DiskRule.{Pages, IsTold}
use Rattle.rss_base.specs.Listings.{Listing, image_at, link_at}
use Rattle.rss_base.specs.Paged.{Held}
use Rattle.rss_base.specs.Steps.{PagesView}
use Rattle.rss_base.specs.Looking.{ChecksPages}
use Rattle.rss_base.specs.declared.fault.PageFault.{PageFault}
use Rattle.rss_base.specs.declared.place.Place.{Place}
use Rattle.rss_base.specs.declared.place.Place.TheVariants.{Room}
use Rattle.rss_page.specs.Slotted.{IsHeapKey}
use Rattle.rss_catalog.specs.Catalogs.{CatalogView}
use Rattle.rss_catalog.specs.Defined.{IsCatalogOf, LoadsDefined}
use Rattle.rss_catalog.proofs.Same.{same_listable, listable_of}
use Rattle.rss_access.specs.Changes.{both}
use Rattle.rss_check.specs.Checks.{ChecksLinks}
use Rattle.rss_check.specs.Faults.{IsFirstFault, ArePassed}
use Rattle.rss_check.specs.Lines.{Line, Links, IsFirst, IsLeast}
use Rattle.rss_check.specs.Looks.{FindsNone}
use Rattle.rss_check.specs.Passed.{IsViewOf, PassesTuples, OfWrongImage, OfWrongLink}
use Rattle.rss_check.specs.Rows.{HasImages}
use Rattle.rss_check.specs.Tuples.{BreaksPaths, image_in, unused_in, link_in, PathsOf}
use Rattle.rss_check.proofs.NamedImages.{images_unbroken, no_wrong_image}
use Rattle.rss_check.proofs.NamedLinks.{lists_of, links_unbroken, no_wrong_link, least_first}
use Rattle.rss_check.proofs.PathFaults.{path_fault, paths_pass}
use Rattle.rss_check.proofs.SameHeld.{held_back}
use Rattle.rss_check.proofs.SpelledPaths.{none_paths}

-- none of these places is that of the room
not_room : {held : Held} {slots : ℕ} {listing : Listing} {line : Line} {place : Place}
    → BreaksPaths held slots listing line place → place ≡ Room → ⊥
not_room (image_in number image relation its not) room = cc (room)
not_room (unused_in key space there not) room = cc (room)
not_room (link_in number link at not) room = cc (room)

module _ {old : PagesView} {catalog : CatalogView} {image link : Option ℕ}
    (loads : LoadsDefined old catalog image link) where
  -- so of each listing that has this catalog
  abbrev pub OfCatalog : (Listing → Type 0) → Type 0
  OfCatalog property = (listing : Listing) → IsCatalogOf listing catalog image link → property listing

  -- it is the first place of all
  pub fault_first : {place : Place}
      → (IsTold old.disk → (pages : Pages) → IsViewOf pages old → PassesTuples pages catalog image link)
      → (IsTold old.disk → OfCatalog (λ listing. IsFirst (PathsOf old listing) place)) → IsTold old.disk
      → (pages : Pages) → IsViewOf pages old → IsFirstFault pages place
  fault_first passes first told pages of =
      let pass = passes told pages of in
      path_fault of pass (first told pass.at.listing pass.of)

  -- and the pages spell no tables
  pub none_first : {place : Place} → old.slots < 4294967296
      → (IsTold old.disk → OfCatalog (λ listing. IsFirst (PathsOf old listing) place)) → FindsNone old place
  none_first {place} small first = record {
    none = λ told listing tables system spells nodes fit.
        let named = first told loads.listing loads.of in
        let same : loads.listing ≡ listing = same_listable old.held loads.listing listing
        (loads.spells told) system loads.are.listable (listable_of listing spells.listed) in
        none_paths (both old (record { listing = listing; pending = [] })) small spells fit nodes
        (subst (λ (l : Listing). BreaksPaths old.held old.slots l named.line place) same named.breaks);
    elsewhere = λ told room. not_room (first told loads.listing loads.of).breaks room;
  }

  -- ---- what was found of pages that hold the same

  module _ {U : Type 0} {asks : ℕ} {seen : PagesView} {second : Result U PageFault}
      (did : ChecksPages IsHeapKey asks old seen second) where
    told_seen : IsTold old.disk → IsTold seen.disk
    told_seen told = did.looks.step.passes.leaves.told.0 told

    -- an image isn't right, or a page is that of none
    pub first_image : {place : Place}
        → (IsTold seen.disk → OfWrongImage catalog image (λ listing. IsFirst (PathsOf seen listing) place))
        → IsTold old.disk → OfCatalog (λ listing. IsFirst (PathsOf old listing) place)
    first_image {place} first told listing of = held_back did told (λ h n. IsFirst (BreaksPaths h n listing) place)
        (first (told_seen told) listing link of)

    -- a link isn't right
    pub first_link : {place : Place} → (IsTold old.disk → HasImages old.held old.slots catalog.listing)
        → ((number : ℕ) → is_some (image_at catalog.listing number) ≡ true → image ≡ Some number → ⊥)
        → (IsTold seen.disk → OfWrongLink catalog link (λ listing. IsLeast (PathsOf seen listing Links) place))
        → IsTold old.disk → OfCatalog (λ listing. IsFirst (PathsOf old listing) place)
    first_link {place} images right least told listing of =
        least_first (λ line at low is. images_unbroken of (no_wrong_image of right) (images told) low is)
        (held_back did told (λ h n. IsLeast (BreaksPaths h n listing Links) place)
        (least (told_seen told) listing image of))

  -- ---- all are right

  module _ (right : (number : ℕ) → is_some (image_at catalog.listing number) ≡ true → image ≡ Some number → ⊥)
      (right_links : (number : ℕ) → is_some (link_at catalog.listing number) ≡ true → link ≡ Some number → ⊥) where
    pub no_image : image ≡ None
    no_image = no_wrong_image loads.of right

    pub no_link : link ≡ None
    no_link = no_wrong_link loads.of right_links

    module _ (told : IsTold old.disk) (images : HasImages old.held old.slots catalog.listing)
        (chains : ChecksLinks (both old catalog)) where
      none_broken : {listing : Listing} → IsCatalogOf listing catalog image link → {line : Line} {place : Place}
          → BreaksPaths old.held old.slots listing line place → ⊥
      none_broken of (image_in number entry relation its not) = images_unbroken of no_image images (omega arith)
          (image_in number entry relation its not)
      none_broken of (unused_in key space there not) = images_unbroken of no_image images (omega arith)
          (unused_in key space there not)
      none_broken of (link_in number entry at not) =
          links_unbroken of no_link (λ n l is. lists_of {at = both old catalog} (chains n l is)) {slots = old.slots}
          (link_in number entry at not)

      pub links_passed : (IsTold old.disk → (pages : Pages) → IsViewOf pages old
          → PassesTuples pages catalog image link) → (pages : Pages) → IsViewOf pages old → ArePassed pages Links
      links_passed passes pages of =
          let pass = passes told pages of in
          paths_pass of pass (λ line place is. none_broken pass.of is)
