-- Looks into the images of tables that the pages spell.
use Rattle.std.proofs.Common.{◌≡◌, ℕ, ◌<◌, true, List, length, sym, ◌∙◌, ap, arith}
use Rattle.std.specs.Prelude.{Option, Some, None, is_some, IfSome}
use Rattle.std.proofs.lemmas.Option.{same_Some}
use Rattle.rss_base.specs.DiskRule.{IsTold}
use Rattle.rss_base.specs.PageMap.{IsKey}
use Rattle.rss_base.specs.Steps.{PagesView, PagesStep, no_page}
use Rattle.rss_base.specs.TupleTypes.{chosen, key_width}
use Rattle.rss_base.specs.Listings.{Listing, image_at}
use Rattle.rss_base.specs.declared.key.PageKey.{PageKey}
use Rattle.rss_base.specs.declared.name.Name.{Name}
use Rattle.rss_base.specs.declared.tid.Tid.{Tid}
use Rattle.rss_base.specs.declared.image.ImageEntry.{ImageEntry}
use Rattle.rss_base.specs.declared.relation.RelationEntry.{RelationEntry}
use Rattle.rss_tuple.specs.Heaps.{AreHeaps}
use Rattle.rss_image.specs.declared.image.Image.{Image}
use Rattle.rss_image.specs.Images.{HasImage}
use Rattle.rss_model.specs.Tables.{Tables}
use Rattle.rss_model.specs.Fits.{Fits, IsLive, IsIdentifier}
use Rattle.rss_stored.specs.Store.{SpellsTables, IsListedImage, image_definition}
use Rattle.rss_entries.specs.Moving.{KeyKinds}
use Rattle.rss_entries.specs.Rooms.{width_of}
use Rattle.rss_entries.specs.Images.{AreTuples, image_of, key_of}
use Rattle.rss_entries.specs.Seeking.{ShowsImage, AreSingle}
use Rattle.rss_entries.proofs.Telling.{has_shown}
use Rattle.rss_access.specs.Changes.{AccessView, HasTables}
use Rattle.rss_access.specs.Imaging.{ListsImage, IsKeyLong}
use Rattle.rss_access.proofs.Bodied.{values_storable}
use Rattle.rss_access.proofs.Heaped.{heaps_alike}
use Rattle.rss_access.proofs.ImageKeys.{width_is}

-- ---- images of tables

module _ (view : PagesView) {listing : Listing} {tables : Tables} (spells : SpellsTables view.held listing tables) {number : ℕ} {image : ImageEntry} {relation : RelationEntry} (at : IsListedImage listing number image relation) where
  -- an image shows the tables that the pages spell
  shows_these : view.slots < 4294967296 → AreTuples tables → ((name : Name) (tid : Tid) → IsLive tables name tid → IsIdentifier view.slots tid) → ShowsImage view.held listing tables number image relation
  shows_these small tuples tids =
      let each = spells.images.each number image relation at in
      record {
        at = at;
        fits = spells.listed;
        defines = spells.defines;
        tuples = tuples;
        storable = values_storable spells.contents;
        tids = λ name tid there. let id = tids name tid there in record { page = omega (arith, id.page, small); slot = omega (arith, id.slot) };
        pages = each.0;
        spells = each.1;
      }

  pub shows_fit : view.slots < 4294967296 → Fits view.slots tables → ShowsImage view.held listing tables number image relation
  shows_fit small fit = shows_these small fit.tuples fit.tids

  -- a unique image has each key once
  pub single : Fits view.slots tables → image.is_unique ≡ true → AreSingle tables (image_definition image relation)
  single fit unique one other key = fit.keys image.name (image_definition image relation) one other key (spells.defines.paths.images number image relation at) unique

-- where the pages spell tables, they have each image
pub has_image : {at : AccessView} → at.pages.slots < 4294967296 → ((key : PageKey) → is_some (at.pages.held key) ≡ at.pages.mapped key) → ((key : PageKey) → at.pages.mapped key ≡ true → IsKey at.pages.slots key)
    → {number : ℕ} {image : ImageEntry} {relation : RelationEntry} → IsListedImage at.catalog.listing number image relation → HasTables at → HasImage (image_of number image relation) at.pages.held
has_image {at = at} small holds allowed listed has = has_shown at.pages (shows_these at.pages has.spells listed small has.tuples has.tids) small holds allowed

-- ---- no page is touched

pub heaps_looked : {asks outs : ℕ} {old new : PagesView} → PagesStep no_page asks outs old new → IsTold old.disk → AreHeaps old → AreHeaps new
heaps_looked step told heaps = heaps_alike (λ key heap. step.held_off told key (λ none. none)) (λ key heap. step.notes_off key (λ none. none)) heaps

-- ---- the image of the catalog's entry

module _ {listing : Listing} {number : ℕ} (listed : ListsImage listing number) {passed : Image} (is : (image : ImageEntry) (relation : RelationEntry) → IsListedImage listing number image relation → passed ≡ image_of number image relation) where
  pub width_passed : passed.width ≡ width_of listed.image listed.relation
  width_passed = ap (λ (i : Image). i.width) (is listed.image listed.relation listed.at)

  pub key_width_passed : {key : KeyKinds} → ((image : ImageEntry) (relation : RelationEntry) → IsListedImage listing number image relation → key ≡ key_of image relation) → passed.width ≡ key_width (chosen key.which key.fields)
  key_width_passed keyed = width_passed ∙ sym (width_is listed.image listed.relation)
      ∙ ap (λ (k : KeyKinds). key_width (chosen k.which k.fields)) (sym (keyed listed.image listed.relation listed.at))

  pub levels_passed : {image : ImageEntry} → image_at listing number ≡ Some image → passed.levels ≡ image.levels
  levels_passed at = ap (λ (i : Image). i.levels) (is listed.image listed.relation listed.at) ∙ ap (λ (e : ImageEntry). e.levels) (same_Some _ _ (sym listed.at.at ∙ at))

  -- a key is as long as its keys
  pub key_long : (key : List ℕ) → IsKeyLong listing number key → length key ≡ passed.width
  key_long key long = long listed.image listed.relation listed.at ∙ sym width_passed

  pub pair_long : (pair : Option (List ℕ × Tid)) → IfSome pair (λ p. IsKeyLong listing number p.0) → IfSome pair (λ p. length p.0 ≡ passed.width)
  pair_long None long = tt
  pair_long (Some pair) long = key_long pair.0 long

  -- and what is as long as the image's keys is so by the listing
  pub pair_wide : (pair : Option (List ℕ × Tid)) → IfSome pair (λ p. length p.0 ≡ passed.width) → IfSome pair (λ p. IsKeyLong listing number p.0)
  pair_wide None wide = tt
  pair_wide (Some pair) wide = λ image relation its. wide ∙ ap (λ (i : Image). i.width) (is image relation its)
