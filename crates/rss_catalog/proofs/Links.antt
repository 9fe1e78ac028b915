-- What changes of a listing leave of its links: it fits a store as before.
use Rattle.std.proofs.Common.{◌≡◌, ℕ, ◌-◌, ◌≤◌, true, List, length, Option, Some, None, refl, sym, ◌∙◌, ap, subst, inl, inr, arith}
use Rattle.std.specs.Prelude.{is_some, option_map, IfSome}
use Rattle.std.proofs.lemmas.Option.{none-some, same_Some}
use Rattle.std.proofs.lemmas.List.{length-set, length-map}
use Rattle.rss_base.specs.Sizes.{links_most}
use Rattle.rss_base.specs.Listings.{Listing, numbered, with_number, relation_at, link_at, has_role, names_of, IsNumberOf, IsUnlisted, IsLeastUnused, LinkFits, IsSpelled, ListingFits, with_relation, with_link, with_count}
use Rattle.rss_base.specs.declared.tid.Tid.{Tid}
use Rattle.rss_base.specs.declared.relation.RelationEntry.{RelationEntry}
use Rattle.rss_base.specs.declared.link.LinkEntry.{LinkEntry}
use Rattle.rss_base.specs.declared.refusal.Kind.{Kind}
use Rattle.rss_base.specs.declared.refusal.Kind.TheVariants.{Link}
use Rattle.rss_catalog.specs.Catalogs.{HasLinkOf, HasRoleLeft, IsSafeLink, with_ends}
use Rattle.rss_catalog.specs.Checking.{AreOnce, AreSafeLinks, HaveFewRoles, link_names}
use Rattle.rss_catalog.proofs.Numbered.{numbered_within, numbered_map, with_cases}
use Rattle.rss_catalog.proofs.Roles.{link_stays, safe_link_moves, role_listed, roles_added, roles_dropped, roles_kept}
use Rattle.rss_catalog.proofs.Listed.{once_put, once_dropped, names_put, fits_again, image_stays, some_with, some_off, used_within}

-- ---- names

pub link_named : (listing : Listing) (number : ℕ) (link : LinkEntry) → link_at listing number ≡ Some link → IsNumberOf Link listing link.name number
link_named listing number link is = numbered_map (λ (entry : LinkEntry). entry.name) listing.links number ∙ ap (option_map (λ (entry : LinkEntry). entry.name)) is

-- no link has a number that has no name
none_where : (o : Option LinkEntry) → ((link : LinkEntry) → o ≡ Some link → ⊥) → o ≡ None
none_where None not = refl
none_where (Some link) not = absurd (not link refl)

free_link : (listing : Listing) (number : ℕ) → numbered (names_of Link listing) number ≡ None → link_at listing number ≡ None
free_link listing number free = none_where (link_at listing number) (λ link is. none-some link.name (sym free ∙ link_named listing number link is))

-- ---- a listing with other links

fits_with_links : (listing : Listing) (links : List (Option LinkEntry)) → ListingFits listing → length links ≡ links_most → AreOnce (link_names links) → ((number : ℕ) (link : LinkEntry) → numbered links number ≡ Some link → LinkFits listing link) → HaveFewRoles links → ListingFits (record listing { links = links })
fits_with_links listing links fits places once each few =
    let new : Listing = record listing { links = links } in
    fits_again listing new refl refl fits (record {
      image_places = fits.paths.image_places;
      link_places = places;
      images_once = fits.paths.images_once;
      links_once = once;
      images = λ number image is. image_stays listing new image refl (fits.paths.images number image is);
      links = λ number link is. link_stays listing new link refl (each number link is);
      few_roles = few;
    })

-- a link is put at a place
fits_with_link : (listing : Listing) (number : ℕ) (link : LinkEntry) → ListingFits listing → 1 ≤ number → number ≤ length listing.links → LinkFits listing link → ((k : ℕ) → IsNumberOf Link listing link.name k → k ≡ number) → HaveFewRoles (with_number listing.links number (Some link)) → ListingFits (with_link listing number (Some link))
fits_with_link listing number link fits low high link_fits only few =
    fits_with_links listing (with_number listing.links number (Some link)) fits (length-set listing.links (number - 1) (Some link) ∙ fits.paths.link_places)
    (subst AreOnce (sym (names_put (λ (entry : LinkEntry). entry.name) listing.links number (Some link)))
    (once_put (link_names listing.links) number link.name low (omega (arith, high, length-map listing.links (option_map (λ (entry : LinkEntry). entry.name)))) fits.paths.links_once only))
    (λ k found is. elim (with_cases listing.links number k (Some link) found low high is) [
      | inl here ↦ subst (LinkFits listing) (same_Some link found here.1) link_fits
      | inr off ↦ fits.paths.links k found off.1
    ]) few

fits_without_link : (listing : Listing) (number : ℕ) → ListingFits listing → 1 ≤ number → number ≤ length listing.links → ListingFits (with_link listing number None)
fits_without_link listing number fits low high =
    fits_with_links listing (with_number listing.links number None) fits (length-set listing.links (number - 1) None ∙ fits.paths.link_places)
    (subst AreOnce (sym (names_put (λ (entry : LinkEntry). entry.name) listing.links number None))
    (once_dropped (link_names listing.links) number low (omega (arith, high, length-map listing.links (option_map (λ (entry : LinkEntry). entry.name)))) fits.paths.links_once))
    (λ k found is. elim (with_cases listing.links number k None found low high is) [
      | inl here ↦ absurd (none-some found here.1)
      | inr off ↦ fits.paths.links k found off.1
    ]) (roles_dropped listing.links number low high fits.paths.few_roles)

-- a link is safe with other ends, too
pub safe_ends : (listing : Listing) (first last : Option Tid) (link : LinkEntry) → IsSafeLink listing link → IfSome first IsSpelled → IfSome last IsSpelled → IsSafeLink listing (with_ends first last link)
safe_ends listing first last link safe is_first is_last = record { child = safe.child; parent = safe.parent; first = is_first; last = is_last }

pub fits_with_ends : (listing : Listing) (number : ℕ) (first last : Option Tid) (link : LinkEntry) → ListingFits listing → link_at listing number ≡ Some link → IfSome first IsSpelled → IfSome last IsSpelled → ListingFits (with_link listing number (Some (with_ends first last link)))
fits_with_ends listing number first last link fits is is_first is_last =
    let within = numbered_within listing.links number link is in
    let fit = fits.paths.links number link is in
    fits_with_link listing number (with_ends first last link) fits within.0 within.1 (record { name = fit.name; child = fit.child; parent = fit.parent; first = is_first; last = is_last; early = fit.early })
    (λ k named. fits.paths.links_once k number link.name named (link_named listing number link is))
    (roles_kept listing.links number (with_ends first last link) link is (λ relation. refl) fits.paths.few_roles)

-- a link was added, by the least number that was free
pub added_link : (old new : Listing) (link : LinkEntry) (number : ℕ) (least : Option ℕ) → IfSome least (IsLeastUnused Link old) → least ≡ Some number → LinkFits old link → IsUnlisted Link old link.name → HasRoleLeft old link → new ≡ with_link old number (Some link) → ListingFits old → ListingFits new
added_link old new link number least is found fit unlisted left now fits =
    let free = subst (λ (o : Option ℕ). IfSome o (IsLeastUnused Link old)) found is in
    let high : number ≤ length old.links = omega (arith, free.high, length-map old.links (option_map (λ (entry : LinkEntry). entry.name))) in
    subst ListingFits (sym now) (fits_with_link old number link fits free.low high fit (λ k named. absurd (unlisted k named))
    (roles_added old number link free.low high (free_link old number free.free) left fits.paths.few_roles))

-- and one was taken away
pub removed_link : (old new : Listing) (kind : Kind) (number : ℕ) → kind ≡ Link → is_some (numbered (names_of kind old) number) ≡ true → new ≡ with_link old number None → ListingFits old → ListingFits new
removed_link old new kind number is used now fits =
    let within = used_within old kind Link number is used in
    subst ListingFits (sym now) (fits_without_link old number fits within.0 (omega (arith, within.1, length-map old.links (option_map (λ (entry : LinkEntry). entry.name)))))

-- ---- links that are kept beside their relations

-- each link of a listing is safe
abbrev pub HasSafeLinks : Listing → Type 0
HasSafeLinks listing = (number : ℕ) (link : LinkEntry) → link_at listing number ≡ Some link → IsSafeLink listing link

safe_stays : (old new : Listing) (link : LinkEntry) → new.relations ≡ old.relations → IsSafeLink old link → IsSafeLink new link
safe_stays old new link same safe = safe_link_moves old new link safe (λ number has listed. ap (λ (l : List (Option RelationEntry)). is_some (numbered l number)) same ∙ listed)

pub safe_links_all : (listing : Listing) → AreSafeLinks listing.relations listing.links → HasSafeLinks listing
safe_links_all listing each number link is = safe_stays _ listing link refl (each number link is)

pub safe_links_kept : (listing : Listing) → HasSafeLinks listing → AreSafeLinks listing.relations listing.links
safe_links_kept listing safe number link is = safe_stays listing _ link refl (safe number link is)

pub safe_links_off : (listing : Listing) (number : ℕ) (item : Option RelationEntry) → 1 ≤ number → (HasLinkOf listing number → ⊥) → HasSafeLinks listing → HasSafeLinks (with_relation listing number item)
safe_links_off listing number item low none safe k link is = safe_link_moves listing (with_relation listing number item) link (safe k link is) (some_off listing number item low none k link is)

pub safe_links_counted : (listing : Listing) (number live : ℕ) (relation : RelationEntry) → relation_at listing number ≡ Some relation → HasSafeLinks listing → HasSafeLinks (with_relation listing number (Some (with_count live relation)))
safe_links_counted listing number live relation is safe k link at =
    let within = numbered_within listing.relations number relation is in
    safe_link_moves listing (with_relation listing number (Some (with_count live relation))) link (safe k link at) (λ other has. some_with listing number (with_count live relation) within.0 within.1 other)

pub safe_links_put : (listing : Listing) (number : ℕ) (item : Option LinkEntry) → 1 ≤ number → number ≤ length listing.links → IfSome item (IsSafeLink listing) → HasSafeLinks listing → HasSafeLinks (with_link listing number item)
safe_links_put listing number item low high fine safe k link is =
    let was : IsSafeLink listing link = elim (with_cases listing.links number k item link low high is) [
      | inl here ↦ subst (λ (o : Option LinkEntry). IfSome o (IsSafeLink listing)) here.1 fine
      | inr off ↦ safe k link off.1
    ] in
    safe_stays listing (with_link listing number item) link refl was

-- no link has a relation that isn't listed
pub no_link_of : (listing now : Listing) (number n : ℕ) → listing ≡ now → n ≡ number → HasSafeLinks listing → (is_some (relation_at now number) ≡ true → HasLinkOf now number → ⊥) → HasLinkOf listing n → ⊥
no_link_of listing now number n same same_number safe none has =
    let of : has_role number (Some has.link) ≡ true = ap (λ (k : ℕ). has_role k (Some has.link)) (sym same_number) ∙ has.of in
    let listed = role_listed listing has.link number (safe has.number has.link has.at) of in
    none (ap (λ (l : Listing). is_some (relation_at l number)) (sym same) ∙ listed)
    (record { number = has.number; link = has.link; at = ap (λ (l : Listing). link_at l has.number) (sym same) ∙ has.at; of = of })
