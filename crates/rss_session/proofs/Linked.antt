-- Links by the numbers of a listing: the parts that a relation has in them, their page, and those that are defined.
use Rattle.std.proofs.Common.{◌≡◌, ◌≢◌, inl, inr, ℕ, zero, suc, ◌+◌, ◌-◌, ◌<◌, ◌≤◌, Bool, true, false, cond, List, [], ◌∷◌, length, get_or, refl, sym, ◌∙◌, ap, arith}
use Rattle.std.specs.Prelude.{Option, Some, None, is_some, option_map, nat_le, count_by, flat_map, ◌==◌}
use Rattle.std.specs.FinMap as map
use Rattle.std.proofs.lemmas.Bool.{cases_lt, le-leb, false_from_ne_true}
use Rattle.std.proofs.lemmas.List.{length-map}
use Rattle.std.proofs.lemmas.Option.{none-some}
use Rattle.std.proofs.lemmas.List.Sums.{sum_by-cons, get_or-le-sum_by}
use Rattle.rss_base.specs.Sizes.{page_bytes, links_most, system_pages}
use Rattle.rss_base.specs.Listings.{Listing, ListingFits, IsNumberOf, IsUnlisted, IsLeastUnused, AreAllUsed, names_of, link_at, has_role, roles_of, with_number, with_link, padded, segment_spelled, relation_spelled, relations_on, image_spelled, images_on, link_spelled, relation_pages, image_pages, catalog_page}
use Rattle.rss_base.specs.declared.link.LinkEntry.{LinkEntry}
use Rattle.rss_base.specs.declared.name.Name.{Name}
use Rattle.rss_base.specs.declared.refusal.Kind.TheVariants.{Link as LinkKind}
use Rattle.rss_catalog.specs.Catalogs.{HasLinkOf, link_page}
use Rattle.rss_stored.specs.Store.{Defines}
use Rattle.rss_model.specs.Tables.{Definitions}
use Rattle.rss_stored.proofs.ByNumber.{used_up, some_left}
use Rattle.rss_model.proofs.Counts.{one_if}
use Rattle.rss_stored.proofs.Listed.{at_place}
use Rattle.rss_stored.proofs.Prefixes.{links_listed}
use Rattle.rss_stored.proofs.Relisted.{number_at, number_within_list}
use Rattle.rss_stored.proofs.Spelled.{listed_link, name_numbered, named_link}

-- ---- parts in links

none_in : (p : Option LinkEntry → Bool) (items : List (Option LinkEntry)) → ((k : ℕ) → p (get_or items k None) ≡ false) → count_by p items ≡ 0
none_in p [] each = refl
none_in p (item ∷ items) each = omega (arith, sum_by-cons (λ (o : Option LinkEntry). one_if (p o)) item items, ap one_if (each zero), none_in p items (λ k. each (suc k)))

module _ {listing : Listing} {number : ℕ} where
  -- a relation that has a part in a link is in one at least
  pub role_there : HasLinkOf listing number → 1 ≤ roles_of listing number
  role_there has =
      let within = number_within_list listing.links has.number has.link has.at in
      let at : get_or listing.links (has.number - 1) None ≡ Some has.link = sym (number_at listing.links has.number within.0) ∙ has.at in
      let one : one_if (has_role number (get_or listing.links (has.number - 1) None)) ≡ 1 = ap (λ (o : Option LinkEntry). one_if (has_role number o)) at ∙ ap one_if has.of in
      omega (arith, one, get_or-le-sum_by (λ (o : Option LinkEntry). one_if (has_role number o)) listing.links (has.number - 1) None (omega (arith, within.0, within.1)))

  pub role_absent : (HasLinkOf listing number → ⊥) → roles_of listing number ≡ 0
  role_absent none = none_in (has_role number) listing.links each
    where
      each : (k : ℕ) → has_role number (get_or listing.links k None) ≡ false
      each k = by (get_or listing.links k None) refl
        where
          by : (o : Option LinkEntry) → get_or listing.links k None ≡ o → has_role number o ≡ false
          by None is = refl
          by (Some link) is = false_from_ne_true _ (λ yes. none (record { number = suc k; link = link; at = at_place listing.links k ∙ is; of = yes }))

-- ---- a number that is not in use

module _ {listing : Listing} {number : ℕ} (least : IsLeastUnused LinkKind listing number) where
  -- it is that of no link
  pub link_free : link_at listing number ≡ None
  link_free = by (link_at listing number) refl
    where
      by : (o : Option LinkEntry) → link_at listing number ≡ o → o ≡ None
      by None is = refl
      by (Some link) is = absurd (none-some link.name (sym least.free ∙ name_numbered (λ (l : LinkEntry). l.name) listing.links number link is))

  pub link_high : ListingFits listing → number ≤ links_most
  link_high fits = omega (arith, least.high, length-map listing.links (option_map (λ (l : LinkEntry). l.name)), fits.paths.link_places)

-- ---- the page of the links

-- no other page has any
pub link_pages : (listing : Listing) (number : ℕ) (link : Option LinkEntry) (k : ℕ) → k < system_pages → k ≢ link_page → catalog_page (with_link listing number link) k ≡ catalog_page listing k
link_pages listing number link k low other = without (with_number listing.links number link) ∙ sym (without listing.links)
  where
    before : k ≤ relation_pages + image_pages
    before = elim (cases_lt k link_page) [
      | inl less ↦ omega (arith, less)
      | inr from ↦ absurd (other (omega (arith, low, from)))
    ]

    without : (links : List (Option LinkEntry)) → catalog_page (record listing { links = links }) k
        ≡ padded page_bytes (cond (k == 0) (flat_map segment_spelled listing.segments) (cond (nat_le k relation_pages) (flat_map relation_spelled (relations_on listing k)) (flat_map image_spelled (images_on listing k))))
    without links = ap (λ (b : Bool). padded page_bytes (cond (k == 0) (flat_map segment_spelled listing.segments) (cond (nat_le k relation_pages) (flat_map relation_spelled (relations_on listing k)) (cond b (flat_map image_spelled (images_on listing k)) (flat_map link_spelled links))))) (le-leb k (relation_pages + image_pages) before)

-- ---- the links that are defined

module _ {listing : Listing} {definitions : Definitions} (fits : ListingFits listing) (defines : Defines listing definitions) where
  pub link_named : (name : Name) (number : ℕ) → IsNumberOf LinkKind listing name number → is_some (map.get definitions.links name) ≡ true
  link_named name number is =
      let has = named_link listing name (number, is) in
      let so = listed_link fits has.number has.link has.at in
      ap (λ (n : Name). is_some (map.get definitions.links n)) (sym has.named) ∙ ap is_some (defines.paths.links has.number has.link so.0 so.1)

  pub link_unnamed : (name : Name) → IsUnlisted LinkKind listing name → is_some (map.get definitions.links name) ≡ false
  link_unnamed name none = false_from_ne_true _ (λ there. let has = defines.paths.only_links name there in none has.0 has.1)

  places : length (names_of LinkKind listing) ≡ links_most
  places = length-map listing.links (option_map (λ (l : LinkEntry). l.name)) ∙ fits.paths.link_places

  pub links_full : AreAllUsed LinkKind listing → nat_le links_most (map.len definitions.links) ≡ true
  links_full all = used_up (names_of LinkKind listing) definitions.links (links_listed fits defines) links_most places all

  pub links_left : (AreAllUsed LinkKind listing → ⊥) → nat_le links_most (map.len definitions.links) ≡ false
  links_left left = some_left (names_of LinkKind listing) definitions.links (links_listed fits defines) links_most places left
