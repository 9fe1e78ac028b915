-- The catalog, while changes are made: what is kept of it.
use Rattle.std.proofs.Common.{◌≡◌, inl, inr, ℕ, Some, refl, sym, ◌∙◌, ap}
use Rattle.std.specs.Prelude.{Result, Ok, Err, List, Option, map, option_map}
use Rattle.rss_base.specs.DiskRule.{IsTold}
use Rattle.rss_base.specs.Paged.{page_key}
use Rattle.rss_base.specs.Steps.{PagesStep}
use Rattle.rss_base.specs.Listings.{Listing, ListingFits}
use Rattle.rss_base.specs.declared.link.LinkEntry.{LinkEntry}
use Rattle.rss_base.specs.declared.fault.PageFault.{PageFault}
use Rattle.rss_base.specs.declared.key.Space.TheVariants.{System, Image}
use Rattle.rss_base.specs.declared.change.Change as told
use Rattle.rss_model.specs.Meanings.{endless}
use Rattle.rss_access.specs.Changes.{AccessView, Makes}
use Rattle.rss_access.specs.Relisted.{KeepsSpelled}
use Rattle.rss_access.specs.Written.{content_of}
use Rattle.rss_access.proofs.Rerooting.{unrooted}
use Rattle.rss_access.proofs.Writing.{off_system}
use Rattle.rss_restart.specs.Restarting.{KeepsCatalog}

-- links without the ends of their chains
abbrev unended : List (Option LinkEntry) → List (Option LinkEntry)
unended links = map (option_map endless) links

pub keeps_itself : (view : AccessView) → KeepsCatalog view view
keeps_itself view = record { fits = λ fits. fits; images = refl; links = refl; places = refl; written = λ told places written. written }

pub keeps_then : {old mid new : AccessView} → KeepsCatalog old mid → (IsTold old.pages.disk → IsTold mid.pages.disk) → KeepsCatalog mid new → KeepsCatalog old new
keeps_then one still two = record {
  fits = λ fits. two.fits (one.fits fits);
  images = two.images ∙ one.images;
  links = two.links ∙ one.links;
  places = two.places ∙ one.places;
  written = λ told places written. two.written (still told) (one.places ∙ places) (one.written told places written);
}

module _ {asks outs : ℕ} (old new : AccessView) {listing : Listing} (step : PagesStep (content_of listing) asks outs old.pages new.pages) where
  content_off : (page : ℕ) → content_of listing (page_key 0 System page) → ⊥
  content_off page (inl heap) = off_system (page_key 0 System page) heap refl
  content_off page (inr image) = absurd (let one : System ≡ Image = image.0 in cc)

  -- no page of the system space was touched
  system_same : IsTold old.pages.disk → (page : ℕ) → new.pages.held (page_key 0 System page) ≡ old.pages.held (page_key 0 System page)
  system_same told page = step.held_off told (page_key 0 System page) (content_off page)

  keeps_spelled : (ListingFits old.catalog.listing → ListingFits new.catalog.listing) → unrooted new.catalog.listing.images ≡ unrooted old.catalog.listing.images → unended new.catalog.listing.links ≡ unended old.catalog.listing.links → KeepsSpelled old.catalog new.catalog → KeepsCatalog old new
  keeps_spelled fits images links keeps = record {
    fits = fits;
    images = images;
    links = links;
    places = keeps.places;
    written = λ told places written page low not.
        system_same told page ∙ written page low (λ was. not (keeps.still page was)) ∙ ap Some (sym (keeps.same places page low not));
  }

  pub keeps_made : {T : Type 0} {change : told.Change} (result : Result T PageFault) → Makes change old new result → KeepsCatalog old new
  keeps_made (Ok value) makes = keeps_spelled makes.relists.fits makes.relists.images makes.relists.links makes.relists.keeps
  keeps_made (Err fault) makes = keeps_spelled makes.rerooted.fits makes.rerooted.images (ap unended makes.rerooted.links) makes.rerooted.keeps
