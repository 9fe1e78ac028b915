-- The ends of a link's one chain, as the catalog lists them.
use Rattle.std.proofs.Common.{◌≡◌, ℕ, ◌-◌, List, Option, Some, None, refl, sym, ◌∙◌, ap, set, inl, inr}
use Rattle.std.proofs.lemmas.List.{set-get_or}
use Rattle.std.proofs.lemmas.Option.{same_Some}
use Rattle.rss_base.specs.Listings.{ListingFits, numbered, link_at, with_number, with_link}
use Rattle.rss_base.specs.Prefixes.{Ends}
use Rattle.rss_base.specs.declared.link.LinkEntry.{LinkEntry}
use Rattle.rss_base.specs.declared.refusal.Kind.TheVariants.{Link}
use Rattle.rss_catalog.specs.Catalogs.{CatalogView, Lists, page_of, with_ends}
use Rattle.rss_catalog.proofs.Numbered.{place_has}
use Rattle.rss_members.specs.Members.{listed_ends}
use Rattle.rss_members.specs.Calls.{SetsEnds}

-- a link that is listed anew as it was
same_links : (links : List (Option LinkEntry)) (number : ℕ) (link : LinkEntry) → numbered links number ≡ Some link → with_number links number (Some link) ≡ links
same_links links number link at = ap (set links (number - 1)) (sym (place_has links number link at)) ∙ set-get_or links (number - 1) None

-- these ends were listed before
pub ends_stay : (catalog : CatalogView) (number : ℕ) (found : LinkEntry) → link_at catalog.listing number ≡ Some found → (ends : Ends) → listed_ends found ≡ ends → SetsEnds number ends catalog catalog
ends_stay catalog number found found_at ends same link at =
    let one : found ≡ link = same_Some _ _ (sym found_at ∙ at) in
    let ends_are : listed_ends link ≡ ends = ap listed_ends (sym one) ∙ same in (
      record {
        first = link.first;
        last = link.last;
        is = λ i. record catalog.listing { links = sym (same_links catalog.listing.links number link at) i };
        lists = inl refl;
        fits = λ fits. fits;
      },
      ap (λ (e : Ends). e.first) ends_are,
      ap (λ (e : Ends). e.last) ends_are,
    )

-- they are listed now
pub ends_set : (old new : CatalogView) (number : ℕ) (ends : Ends) → ((link : LinkEntry) → link_at old.listing number ≡ Some link → Lists (with_link old.listing number (Some (with_ends ends.first ends.last link))) (page_of Link number) old new)
    → (ListingFits old.listing → ListingFits new.listing) → SetsEnds number ends old new
ends_set old new number ends lists fits link at =
    let listed = lists link at in
    (record { first = ends.first; last = ends.last; is = listed.is; lists = inr (record { is = refl; pending = listed.pending }); fits = fits }, refl, refl)
