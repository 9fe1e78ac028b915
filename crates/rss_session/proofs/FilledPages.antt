-- The pages for an image that is to be made: there are as many spare, and room for a checkpoint once they are taken.
use Rattle.std.proofs.Common.{◌≡◌, ◌≢◌, ℕ, ◌+◌, ◌-◌, ◌*◌, ◌≤◌, length, get_or, sym, ◌∙◌, ap, subst, arith}
use Rattle.std.specs.Prelude.{Some, None}
use Rattle.std.proofs.lemmas.List.Sums.{sum_by-set}
use Rattle.rss_base.specs.Listings.{Listing, IsLeastUnused, relation_at, image_at, with_image, with_root}
use Rattle.rss_base.specs.Paged.{mapped_of, page_key}
use Rattle.rss_base.specs.declared.image.ImageEntry.{ImageEntry}
use Rattle.rss_base.specs.declared.key.Space.{Space}
use Rattle.rss_base.specs.declared.key.Space.TheVariants.{Home, Overflow, Image as ImageSpace}
use Rattle.rss_base.specs.declared.refusal.Kind.TheVariants.{Image as ImageKind}
use Rattle.rss_base.specs.declared.relation.RelationEntry.{RelationEntry}
use Rattle.rss_catalog.specs.Catalogs.{CatalogView, Lists, page_of}
use Rattle.rss_catalog.proofs.Numbered.{numbered_at}
use Rattle.rss_model.specs.Meter.{bound_of}
use Rattle.rss_model.specs.Spares.{bound_by, bound_at, listed_bound, live_of, page_counts}
use Rattle.rss_stored.specs.Store.{IsListedImage}
use Rattle.rss_model.proofs.MappedKeys.{same_mapped_of}
use Rattle.rss_model.proofs.Saving.{more_bound}
use Rattle.rss_stored.proofs.StorePages.{pages_split}
use Rattle.rss_entries.specs.Rooms.{width_of}
use Rattle.rss_access.specs.Written.{heap_now}
use Rattle.rss_session.specs.Filling.{pages_for, RoomsImage, HasFewPages, TouchesImages, ListsImage}
use Rattle.rss_session.specs.Sessions.{SessionView, IsReady}
use Rattle.rss_session.specs.Weighing.{survived_now, saved_most, saved_images_with}
use Rattle.rss_session.proofs.FilledLists.{image_free, listed_once, number_high}
use Rattle.rss_session.proofs.Traffic.{live_is}

-- ---- before it is built

-- the last checkpoint keeps half of the slots at most
saved_half : {view : SessionView} → IsReady view → 2 * (page_counts view.store.pages).saved ≤ view.store.pages.slots
saved_half ready = omega (arith, ready.room, ready.saved, ready.pages.made.before)

module _ {view : SessionView} {entry : ImageEntry} (ready : IsReady view) (room : RoomsImage view entry) (few : HasFewPages view) where
  -- the other half is for the pages that are mapped, with those of the image
  pub mapped_half : 2 * ((page_counts view.store.pages).mapped + pages_for view entry) ≤ view.store.pages.slots
  mapped_half = omega (arith, room.slots, few, pages_split view.store.pages.mapped view.store.pages.slots ready.store.system, ready.store.size)

  pub spare_for : pages_for view entry ≤ view.store.pages.spare
  spare_for = omega (arith, saved_half ready, mapped_half, ready.pages.made.all)

  -- so it can be built of no more entries than its relation has tuples
  pub spare_for_image : (relation : RelationEntry) (count : ℕ) → relation_at view.store.catalog.listing entry.relation ≡ Some relation → count ≤ relation.live
      → bound_of (width_of entry relation) count ≤ view.store.pages.spare
  spare_for_image relation count at fewer =
      let most : count ≤ saved_most view entry.relation = omega (arith, fewer, live_is view.store.catalog.listing entry.relation relation at) in
      let bound : pages_for view entry ≡ bound_of (width_of entry relation) (saved_most view entry.relation) = ap (bound_by (saved_most view) entry) at in
      omega (arith, more_bound (width_of entry relation) count (saved_most view entry.relation) most, bound, spare_for)

  -- also once it is listed, wherever its tree is to begin
  pub spare_listed : {mid : CatalogView} {number : ℕ} (root levels : ℕ) → IsLeastUnused ImageKind view.store.catalog.listing number → Lists (with_image view.store.catalog.listing number (Some (with_root root levels entry))) (page_of ImageKind number) view.store.catalog mid
      → (count : ℕ) → ((relation : RelationEntry) → relation_at view.store.catalog.listing entry.relation ≡ Some relation → count ≤ relation.live)
      → (image : ImageEntry) (relation : RelationEntry) → IsListedImage mid.listing number image relation → bound_of (width_of image relation) count ≤ view.store.pages.spare
  spare_listed root levels least lists count few image relation at =
      let once = listed_once least lists at in
      subst (λ (i : ImageEntry). bound_of (width_of i relation) count ≤ view.store.pages.spare) (sym once.0) (spare_for_image relation count once.1 (few relation once.1))

-- ---- once it is listed

-- the images of the listing may have as many pages more as it may
bound_more : (listing : Listing) (number : ℕ) (image : ImageEntry) (most : ℕ → ℕ) → 1 ≤ number → number ≤ length listing.images → image_at listing number ≡ None
    → listed_bound (with_image listing number (Some image)) most ≡ listed_bound listing most + bound_at listing most (Some image)
bound_more listing number image most low high free =
    let none : get_or listing.images (number - 1) None ≡ None = sym (numbered_at listing.images number low high) ∙ free in
    let set = sum_by-set (bound_at listing most) listing.images (number - 1) (Some image) None (omega (arith, low, high)) in
    omega (arith, ap (bound_at listing most) none, set)

module _ {old new : SessionView} (touches : TouchesImages old new) where
  -- other pages are as many as they were
  pub spaces_same : (space : Space) → space ≢ ImageSpace → mapped_of new.store.pages.mapped space new.store.pages.slots ≡ mapped_of old.store.pages.mapped space old.store.pages.slots
  spaces_same space other =
      ap (mapped_of new.store.pages.mapped space) touches.step.passes.slots
      ∙ same_mapped_of old.store.pages.mapped new.store.pages.mapped space old.store.pages.slots (λ segment number. touches.step.mapped_off (page_key segment space number) other)

  heap_same : heap_now new.store.pages ≡ heap_now old.store.pages
  heap_same = λ i. spaces_same Home (λ same. absurd (cc (same))) i + spaces_same Overflow (λ same. absurd (cc (same))) i

  module _ {entry : ImageEntry} (lists : ListsImage entry old.store.catalog new.store.catalog) where
    abbrev listing : Listing
    listing = old.store.catalog.listing

    pub images_more : saved_images_with new None ≡ saved_images_with old None + pages_for old entry
    images_more =
        (λ i. listed_bound (lists.lists.is i) (λ number. live_of (lists.lists.is i) number + survived_now (touches.opened i) number))
        ∙ bound_more listing lists.number (with_root lists.root lists.levels entry) (saved_most old) lists.least.low (number_high lists.least) (image_free lists.least)
