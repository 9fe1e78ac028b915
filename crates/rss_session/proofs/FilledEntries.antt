-- The entries of a planned image are such as its tree may be built of, once it is listed.
use Rattle.std.proofs.Common.{◌≡◌, ℕ, ◌<◌, List, sym, ◌∙◌, ap}
use Rattle.std.specs.Prelude.{Some, All}
use Rattle.rss_base.specs.Listings.{IsLeastUnused, field_numbers, relation_at, with_image, with_root}
use Rattle.rss_base.specs.Sizes.{page_entries}
use Rattle.rss_base.specs.TupleTypes.{key_width}
use Rattle.rss_base.specs.declared.image.ImageEntry.{ImageEntry}
use Rattle.rss_base.specs.declared.refusal.Kind.TheVariants.{Image as ImageKind}
use Rattle.rss_base.specs.declared.relation.RelationEntry.{RelationEntry}
use Rattle.rss_base.specs.declared.tid.Tid.{Tid}
use Rattle.rss_catalog.specs.Catalogs.{CatalogView, Lists, page_of}
use Rattle.rss_stored.specs.Store.{IsListedImage}
use Rattle.rss_stored.proofs.ImageFields.{chosen_kinds}
use Rattle.rss_entries.specs.Rooms.{width_of}
use Rattle.rss_access.specs.Imaging.{IsKeyLong}
use Rattle.rss_session.specs.Filling.{AreImageEntries}
use Rattle.rss_session.specs.Sessions.{SessionView}
use Rattle.rss_session.proofs.FilledLists.{image_listed, listed_once}

module _ {view : SessionView} {entry : ImageEntry} {entries : List (List ℕ × Tid)} (are : AreImageEntries view entry entries) where
  pub slots_low : (relation : RelationEntry) → relation_at view.store.catalog.listing entry.relation ≡ Some relation → All (λ e. e.1.slot < page_entries) entries
  slots_low relation at k d low = ((are.of relation at).long k d low).1

  module _ {mid : CatalogView} {number : ℕ} (root levels : ℕ) (least : IsLeastUnused ImageKind view.store.catalog.listing number) (lists : Lists (with_image view.store.catalog.listing number (Some (with_root root levels entry))) (page_of ImageKind number) view.store.catalog mid) where
    pub keys_long : All (λ e. IsKeyLong mid.listing number e.0) entries
    keys_long k d low image relation its =
        let once = listed_once least lists its in
        ((are.of relation once.1).long k d low).0
        ∙ ap key_width (chosen_kinds (field_numbers entry) relation.fields)
        ∙ ap (λ (i : ImageEntry). width_of i relation) (sym once.0)

    -- it is listed with its relation
    pub listed_within : (relation : RelationEntry) → relation_at view.store.catalog.listing entry.relation ≡ Some relation → IsListedImage mid.listing number (with_root root levels entry) relation
    listed_within relation at = record { at = image_listed least lists; within = ap (λ l. relation_at l entry.relation) lists.is ∙ at }
