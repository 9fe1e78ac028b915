-- The listing of an image that is made: it is listed first, and then where its tree begins.
use Rattle.std.proofs.Common.{◌≡◌, ℕ, ◌-◌, ◌≤◌, true, Bool, List, length, sym, ◌∙◌, ap, arith}
use Rattle.std.specs.Prelude.{Option, Some, None, is_some, slice_set}
use Rattle.std.proofs.lemmas.List.{length-map, set-set}
use Rattle.std.proofs.lemmas.Option.{same_Some}
use Rattle.rss_base.specs.Listings.{Listing, ListingFits, IsLeastUnused, relation_at, image_at, with_image, with_root}
use Rattle.rss_base.specs.declared.image.ImageEntry.{ImageEntry}
use Rattle.rss_base.specs.declared.name.Name.{Name}
use Rattle.rss_base.specs.declared.refusal.Kind.TheVariants.{Image as ImageKind}
use Rattle.rss_base.specs.declared.relation.RelationEntry.{RelationEntry}
use Rattle.rss_catalog.specs.Catalogs.{CatalogView, Lists, page_of}
use Rattle.rss_catalog.proofs.Numbered.{unused_none, with_same}
use Rattle.rss_stored.specs.Store.{IsListedImage}
use Rattle.rss_access.proofs.ImageRooms.{image_used}
use Rattle.rss_session.specs.Filling.{ListsImage}

-- a number that is not in use is that of no image, and a place of the listing
module _ {listing : Listing} {number : ℕ} (least : IsLeastUnused ImageKind listing number) where
  pub image_free : image_at listing number ≡ None
  image_free = unused_none _ (sym (image_used listing number) ∙ ap is_some least.free)

  pub number_high : number ≤ length listing.images
  number_high = omega (arith, least.high, length-map listing.images (λ (o : Option ImageEntry). elim o as (λ other. Option Name) [ None ↦ None | Some image ↦ Some image.name ]))

-- ---- once it is listed

module _ {old mid : CatalogView} {number : ℕ} {image : ImageEntry} (least : IsLeastUnused ImageKind old.listing number) (lists : Lists (with_image old.listing number (Some image)) (page_of ImageKind number) old mid) where
  pub image_listed : image_at mid.listing number ≡ Some image
  image_listed = ap (λ (l : Listing). image_at l number) lists.is ∙ with_same old.listing.images number (Some image) least.low (number_high least)

  -- whichever image is listed by its number is it, with its relation
  pub listed_once : {other : ImageEntry} {relation : RelationEntry} → IsListedImage mid.listing number other relation → (other ≡ image) × (relation_at old.listing image.relation ≡ Some relation)
  listed_once at =
      let same = same_Some _ _ (sym at.at ∙ image_listed) in
      (same, sym (ap (λ (l : Listing). relation_at l image.relation) lists.is) ∙ ap (λ (i : ImageEntry). relation_at mid.listing i.relation) (sym same) ∙ at.within)

-- ---- and then where its tree begins

-- what is set twice has the second
pub set_again : {entry : ImageEntry} {old mid new : CatalogView} (number root levels first_root first_levels : ℕ) → IsLeastUnused ImageKind old.listing number
    → Lists (with_image old.listing number (Some (with_root first_root first_levels entry))) (page_of ImageKind number) old mid
    → Lists (with_image mid.listing number (Some (with_root root levels entry))) (page_of ImageKind number) mid new
    → (ListingFits old.listing → ListingFits new.listing) → ListsImage entry old new
set_again {entry = entry} {old = old} {mid = mid} {new = new} number root levels first_root first_levels least first second fits = record {
  number = number;
  root = root;
  levels = levels;
  least = least;
  lists = record { is = is; pending = pending };
  fits = fits;
}
  where
    is : new.listing ≡ with_image old.listing number (Some (with_root root levels entry))
    is =
        second.is
        ∙ ap (λ (l : Listing). with_image l number (Some (with_root root levels entry))) first.is
        ∙ ap (λ images. record old.listing { images = images }) (set-set old.listing.images (number - 1) (Some (with_root first_root first_levels entry)) (Some (with_root root levels entry)))

    pending : new.pending ≡ slice_set old.pending (page_of ImageKind number) true
    pending =
        second.pending
        ∙ ap (λ (l : List Bool). slice_set l (page_of ImageKind number) true) first.pending
        ∙ set-set old.pending (page_of ImageKind number) true true
