-- What was read in a row are definitions, or the first page that is none was named.
use Rattle.std.proofs.Common.{length, sym, ◌∙◌, ap, subst, arith}
use Rattle.rss_base.proofs.Looking.{passed_on, checks_then}
use Rattle.rss_catalog.specs.Checking.{listing_of, IsFirstBad}
use Rattle.rss_catalog.specs.Defined.{AreDefinitions, up_to, IsFirstFlaw}
use Rattle.rss_base.specs.Listings.{Listing}
use Rattle.rss_catalog.proofs.Tested.{if_none}
use Rattle.rss_catalog.proofs.Read.{has_relations, has_images, has_links}
use Rattle.rss_catalog.proofs.Flawed.{first_unheld, all_there, names_page, catalog_place}
use Rattle.rss_catalog.proofs.Completed.{loads_of}
use Rattle.rss_catalog.proofs.PagesRead.{looked, there_after, all_after, bad_page, all_right, all_held, checks_ends, no_device, no_fault}
use Rattle.rss_catalog.proofs.catalog.Catalog.load.Goals as goal

-- ---- the pages are there

pub returns-in-Some-clause-first : goal.returns-in-Some-clause-first
returns-in-Some-clause-first g c = λ place is told. names_page c.damaged.result place c.in-Some.page c.damaged.ensures is (first_unheld (g.P.Pages.view c.args.pages.now) c.in-Some.page (g.met.P.Pages.holds c.args.pages.now) told c.in-Some.ensures.some)

pub returns-in-Some-clause-named : goal.returns-in-Some-clause-named
returns-in-Some-clause-named g c = λ place is. catalog_place c.damaged.result place c.in-Some.page c.damaged.ensures c.in-Some.ensures.some.within is

-- ---- they are read

pub load_segments-requires : goal.load_segments-requires
load_segments-requires g c = record { mapped = if_none c.first_unmapped.result c.in_default.not-Some c.first_unmapped.ensures.none }

pub load_entries-requires-clause-form : goal.load_entries-requires-clause-form
load_entries-requires-clause-form g c = has_relations

pub load_entries-requires-clause-mapped : goal.load_entries-requires-clause-mapped
load_entries-requires-clause-mapped g c = there_after (looked c.in_ok-segments.ensures.did) (if_none c.first_unmapped.result c.in_default.not-Some c.first_unmapped.ensures.none)

pub load_entries-requires-clause-before : goal.load_entries-requires-clause-before
load_entries-requires-clause-before g c = c.in_ok-segments.ensures.loads.high

pub load_entries-requires-2-clause-form : goal.load_entries-requires-2-clause-form
load_entries-requires-2-clause-form g c = has_images

pub load_entries-requires-2-clause-mapped : goal.load_entries-requires-2-clause-mapped
load_entries-requires-2-clause-mapped g c = there_after (looked (checks_then c.in_ok-segments.ensures.did c.in_ok-relations.ensures.did)) (if_none c.first_unmapped.result c.in_default.not-Some c.first_unmapped.ensures.none)

pub load_entries-requires-2-clause-before : goal.load_entries-requires-2-clause-before
load_entries-requires-2-clause-before g c = c.in_ok-relations.ensures.loads.high

pub load_entries-requires-3-clause-form : goal.load_entries-requires-3-clause-form
load_entries-requires-3-clause-form g c = has_links

pub load_entries-requires-3-clause-mapped : goal.load_entries-requires-3-clause-mapped
load_entries-requires-3-clause-mapped g c = there_after (looked (checks_then (checks_then c.in_ok-segments.ensures.did c.in_ok-relations.ensures.did) c.in_ok-images.ensures.did)) (if_none c.first_unmapped.result c.in_default.not-Some c.first_unmapped.ensures.none)

pub load_entries-requires-3-clause-before : goal.load_entries-requires-3-clause-before
load_entries-requires-3-clause-before g c = c.in_ok-images.ensures.loads.high

pub returns-in_err-segments-clause-first : goal.returns-in_err-segments-clause-first
returns-in_err-segments-clause-first g c = λ place is told. absurd ((c.in_err-segments.ensures.unread place (passed_on _ c.from_residual.ensures.1 is)).untold told)

pub returns-in_err-segments-clause-named : goal.returns-in_err-segments-clause-named
returns-in_err-segments-clause-named g c = λ place is. (c.in_err-segments.ensures.unread place (passed_on _ c.from_residual.ensures.1 is)).named

pub returns-in_err-relations-clause-first : goal.returns-in_err-relations-clause-first
returns-in_err-relations-clause-first g c = λ place is told. absurd ((c.in_err-relations.ensures.unread place (passed_on _ c.from_residual-in_err-relations.ensures.1 is)).untold ((looked c.in_ok-segments.ensures.did).told.0 told))

pub returns-in_err-relations-clause-named : goal.returns-in_err-relations-clause-named
returns-in_err-relations-clause-named g c = λ place is. (c.in_err-relations.ensures.unread place (passed_on _ c.from_residual-in_err-relations.ensures.1 is)).named

pub returns-in_err-relations-clause-did : goal.returns-in_err-relations-clause-did
returns-in_err-relations-clause-did g c = checks_ends _ (omega arith) (passed_on _ c.from_residual-in_err-relations.ensures.1) c.in_ok-segments.ensures.did c.in_err-relations.ensures.did

pub returns-in_err-images-clause-first : goal.returns-in_err-images-clause-first
returns-in_err-images-clause-first g c = λ place is told. absurd ((c.in_err-images.ensures.unread place (passed_on _ c.from_residual-in_err-images.ensures.1 is)).untold ((looked (checks_then c.in_ok-segments.ensures.did c.in_ok-relations.ensures.did)).told.0 told))

pub returns-in_err-images-clause-named : goal.returns-in_err-images-clause-named
returns-in_err-images-clause-named g c = λ place is. (c.in_err-images.ensures.unread place (passed_on _ c.from_residual-in_err-images.ensures.1 is)).named

pub returns-in_err-images-clause-did : goal.returns-in_err-images-clause-did
returns-in_err-images-clause-did g c = checks_ends _ (omega arith) (passed_on _ c.from_residual-in_err-images.ensures.1) (checks_then c.in_ok-segments.ensures.did c.in_ok-relations.ensures.did) c.in_err-images.ensures.did

pub returns-in_err-links-clause-first : goal.returns-in_err-links-clause-first
returns-in_err-links-clause-first g c = λ place is told. absurd ((c.in_err-links.ensures.unread place (passed_on _ c.from_residual-in_err-links.ensures.1 is)).untold ((looked (checks_then (checks_then c.in_ok-segments.ensures.did c.in_ok-relations.ensures.did) c.in_ok-images.ensures.did)).told.0 told))

pub returns-in_err-links-clause-named : goal.returns-in_err-links-clause-named
returns-in_err-links-clause-named g c = λ place is. (c.in_err-links.ensures.unread place (passed_on _ c.from_residual-in_err-links.ensures.1 is)).named

pub returns-in_err-links-clause-did : goal.returns-in_err-links-clause-did
returns-in_err-links-clause-did g c = checks_ends _ (omega arith) (passed_on _ c.from_residual-in_err-links.ensures.1) (checks_then (checks_then c.in_ok-segments.ensures.did c.in_ok-relations.ensures.did) c.in_ok-images.ensures.did) c.in_err-links.ensures.did

-- ---- they are tested

pub first_bad-requires-clause-segment_places : goal.first_bad-requires-clause-segment_places
first_bad-requires-clause-segment_places g c = ap length c.deref.ensures.value ∙ c.in_ok-segments.ensures.loads.places

pub first_bad-requires-clause-relation_places : goal.first_bad-requires-clause-relation_places
first_bad-requires-clause-relation_places g c = ap length c.deref-2.ensures.value ∙ c.in_ok-relations.ensures.loads.places

pub first_bad-requires-clause-image_places : goal.first_bad-requires-clause-image_places
first_bad-requires-clause-image_places g c = ap length c.deref-3.ensures.value ∙ c.in_ok-images.ensures.loads.places

pub first_bad-requires-clause-link_places : goal.first_bad-requires-clause-link_places
first_bad-requires-clause-link_places g c = ap length c.deref-4.ensures.value ∙ c.in_ok-links.ensures.loads.places

pub returns-then-page-lt-PAGE_COUNT-clause-first : goal.returns-then-page-lt-PAGE_COUNT-clause-first
returns-then-page-lt-PAGE_COUNT-clause-first g c = λ place is told.
    let holds = g.met.P.Pages.holds c.args.pages.now in
    let first = bad_page (all_after _ _ _ _ c.in_ok-segments.ensures.loads c.in_ok-segments.ensures.did c.in_ok-relations.ensures.loads c.in_ok-relations.ensures.did c.in_ok-images.ensures.loads c.in_ok-images.ensures.did c.in_ok-links.ensures.loads) c.first_bad.result (subst (λ (l : Listing). IsFirstBad (λ p. AreDefinitions (up_to p l)) 10 c.first_bad.result) (λ i. listing_of (c.deref.ensures.value i) (c.deref-2.ensures.value i) (c.deref-3.ensures.value i) (c.deref-4.ensures.value i)) c.first_bad.ensures) told (all_there (g.P.Pages.view c.args.pages.now) holds told (if_none c.first_unmapped.result c.in_default.not-Some c.first_unmapped.ensures.none)) (omega arith) in
    names_page c.damaged-then-page-lt-PAGE_COUNT.result place _ c.damaged-then-page-lt-PAGE_COUNT.ensures is (subst (IsFirstFlaw (g.P.Pages.view c.args.pages.now).held) (sym c.min-page.ensures) first)

pub returns-then-page-lt-PAGE_COUNT-clause-named : goal.returns-then-page-lt-PAGE_COUNT-clause-named
returns-then-page-lt-PAGE_COUNT-clause-named g c = λ place is. catalog_place c.damaged-then-page-lt-PAGE_COUNT.result place _ c.damaged-then-page-lt-PAGE_COUNT.ensures (omega arith) is

pub returns-then-page-lt-PAGE_COUNT-clause-did : goal.returns-then-page-lt-PAGE_COUNT-clause-did
returns-then-page-lt-PAGE_COUNT-clause-did g c = checks_ends _ (omega arith) (no_device c.damaged-then-page-lt-PAGE_COUNT.ensures) (checks_then (checks_then c.in_ok-segments.ensures.did c.in_ok-relations.ensures.did) c.in_ok-images.ensures.did) c.in_ok-links.ensures.did

-- ---- they are definitions

pub completed-requires : goal.completed-requires
completed-requires g c = all_right (all_after _ _ _ _ c.in_ok-segments.ensures.loads c.in_ok-segments.ensures.did c.in_ok-relations.ensures.loads c.in_ok-relations.ensures.did c.in_ok-images.ensures.loads c.in_ok-images.ensures.did c.in_ok-links.ensures.loads) c.first_bad.result (subst (λ (l : Listing). IsFirstBad (λ p. AreDefinitions (up_to p l)) 10 c.first_bad.result) (λ i. listing_of (c.deref.ensures.value i) (c.deref-2.ensures.value i) (c.deref-3.ensures.value i) (c.deref-4.ensures.value i)) c.first_bad.ensures) (omega arith)

pub returns-clause-finds : goal.returns-clause-finds
returns-clause-finds g c =
    let all = (all_after _ _ _ _ c.in_ok-segments.ensures.loads c.in_ok-segments.ensures.did c.in_ok-relations.ensures.loads c.in_ok-relations.ensures.did c.in_ok-images.ensures.loads c.in_ok-images.ensures.did c.in_ok-links.ensures.loads) in
    record {
      mapped = (if_none c.first_unmapped.result c.in_default.not-Some c.first_unmapped.ensures.none);
      listing = listing_of c.in_ok-segments.segments.items c.in_ok-relations.relations.items c.in_ok-images.images.items c.in_ok-links.links.items;
      are = all_right all c.first_bad.result (subst (λ (l : Listing). IsFirstBad (λ p. AreDefinitions (up_to p l)) 10 c.first_bad.result) (λ i. listing_of (c.deref.ensures.value i) (c.deref-2.ensures.value i) (c.deref-3.ensures.value i) (c.deref-4.ensures.value i)) c.first_bad.ensures) (omega arith);
      spells = λ told. all_held all (omega arith) told;
      of = c.completed.ensures;
    }

pub returns-clause-loaded : goal.returns-clause-loaded
returns-clause-loaded g c =
    let all = (all_after _ _ _ _ c.in_ok-segments.ensures.loads c.in_ok-segments.ensures.did c.in_ok-relations.ensures.loads c.in_ok-relations.ensures.did c.in_ok-images.ensures.loads c.in_ok-images.ensures.did c.in_ok-links.ensures.loads) in
    loads_of _ _ _ _ (record {
      mapped = (if_none c.first_unmapped.result c.in_default.not-Some c.first_unmapped.ensures.none);
      listing = listing_of c.in_ok-segments.segments.items c.in_ok-relations.relations.items c.in_ok-images.images.items c.in_ok-links.links.items;
      are = all_right all c.first_bad.result (subst (λ (l : Listing). IsFirstBad (λ p. AreDefinitions (up_to p l)) 10 c.first_bad.result) (λ i. listing_of (c.deref.ensures.value i) (c.deref-2.ensures.value i) (c.deref-3.ensures.value i) (c.deref-4.ensures.value i)) c.first_bad.ensures) (omega arith);
      spells = λ told. all_held all (omega arith) told;
      of = c.completed.ensures;
    })

pub returns-clause-did : goal.returns-clause-did
returns-clause-did g c = checks_ends _ (omega arith) (λ is. absurd (no_fault _ is)) (checks_then (checks_then c.in_ok-segments.ensures.did c.in_ok-relations.ensures.did) c.in_ok-images.ensures.did) c.in_ok-links.ensures.did
