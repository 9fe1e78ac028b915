use Rattle.rss_base.proofs.Looking.{checks_as, passed_on}
use Rattle.rss_catalog.proofs.Completed.{catalog_fits}
use Rattle.rss_check.proofs.Looked.{looks_on, noted_on, links_old, images_old, pages_old, heaps_seen, finds_tables, did_all}
use Rattle.rss_check.proofs.Refused.{early_paths}
use Rattle.rss_check.proofs.LookedThrough.{fault_first, none_first, first_image, first_link, no_image, no_link, links_passed}
use Rattle.rss_check.proofs.checking.look_through.Goals as goal

-- ---- the catalog and the tuples

pub returns-in_err-catalog-clause-first : goal.returns-in_err-catalog-clause-first
returns-in_err-catalog-clause-first g c = λ place is. c.in_err-catalog.ensures.first place (passed_on _ c.from_residual.ensures.1 is)

pub returns-in_err-catalog-clause-early : goal.returns-in_err-catalog-clause-early
returns-in_err-catalog-clause-early g c = λ place is.
    c.in_err-catalog.ensures.early place (passed_on _ c.from_residual.ensures.1 is)

pub returns-in_err-catalog-clause-none : goal.returns-in_err-catalog-clause-none
returns-in_err-catalog-clause-none g c = λ place is. c.in_err-catalog.ensures.none place (passed_on _ c.from_residual.ensures.1 is)

pub returns-in_err-catalog-clause-did : goal.returns-in_err-catalog-clause-did
returns-in_err-catalog-clause-did g c = (_, checks_as _ (passed_on _ c.from_residual.ensures.1) c.in_err-catalog.ensures.did)

-- ---- images

pub look_at_images-requires-clause-fits : goal.look_at_images-requires-clause-fits
look_at_images-requires-clause-fits g c = catalog_fits _ _ _ _ c.in_ok-catalog.ensures.finds

pub look_at_images-requires-clause-heaps : goal.look_at_images-requires-clause-heaps
look_at_images-requires-clause-heaps g c =
    heaps_seen (g.met.P.Pages.holds c.args.tuples.now.pages) (g.met.P.Pages.allowed c.args.tuples.now.pages) c.in_ok-catalog.ensures.finds c.in_ok-catalog.ensures.did
    c.in_ok-catalog.ensures.listed c.in_ok-catalog.ensures.checks

pub returns-in_err-look_at_images-clause-first : goal.returns-in_err-look_at_images-clause-first
returns-in_err-look_at_images-clause-first g c = λ place is.
    fault_first c.in_ok-catalog.ensures.finds c.in_ok-catalog.ensures.passes
    (first_image c.in_ok-catalog.ensures.finds c.in_ok-catalog.ensures.did (c.in_err-look_at_images.ensures.first place (passed_on _ c.from_residual-in_err-look_at_images.ensures.1 is)))

pub returns-in_err-look_at_images-clause-early : goal.returns-in_err-look_at_images-clause-early
returns-in_err-look_at_images-clause-early g c = λ place is told.
    let loads = c.in_ok-catalog.ensures.finds in
    let failed = passed_on _ c.from_residual-in_err-look_at_images.ensures.1 is in
    early_paths (first_image loads c.in_ok-catalog.ensures.did (c.in_err-look_at_images.ensures.first place failed)
    told loads.listing loads.of)

pub returns-in_err-look_at_images-clause-none : goal.returns-in_err-look_at_images-clause-none
returns-in_err-look_at_images-clause-none g c = λ place is.
    none_first c.in_ok-catalog.ensures.finds (g.met.P.Pages.few_slots c.args.tuples.now.pages)
    (first_image c.in_ok-catalog.ensures.finds c.in_ok-catalog.ensures.did (c.in_err-look_at_images.ensures.first place (passed_on _ c.from_residual-in_err-look_at_images.ensures.1 is)))

pub returns-in_err-look_at_images-clause-did : goal.returns-in_err-look_at_images-clause-did
returns-in_err-look_at_images-clause-did g c =
    did_all (g.met.P.Pages.holds c.args.tuples.now.pages) (g.met.P.Pages.allowed c.args.tuples.now.pages) c.in_ok-catalog.ensures.finds c.in_ok-catalog.ensures.did
    c.in_err-look_at_images.ensures.did.1 _ (passed_on _ c.from_residual-in_err-look_at_images.ensures.1)

-- ---- links

pub look_at_links-requires : goal.look_at_links-requires
look_at_links-requires g c = record {
  heaps = heaps_seen (g.met.P.Pages.holds c.args.tuples.now.pages) (g.met.P.Pages.allowed c.args.tuples.now.pages) c.in_ok-catalog.ensures.finds
      (looks_on c.in_ok-catalog.ensures.did c.in_ok-look_at_images.ensures.did.1) c.in_ok-catalog.ensures.listed
      (noted_on (λ told. c.in_ok-catalog.ensures.did.looks.step.passes.leaves.told.0 told) c.in_ok-look_at_images.ensures.did.1 c.in_ok-catalog.ensures.checks);
}

pub returns-in_err-look_at_links-clause-first : goal.returns-in_err-look_at_links-clause-first
returns-in_err-look_at_links-clause-first g c = λ place is.
    fault_first c.in_ok-catalog.ensures.finds c.in_ok-catalog.ensures.passes
    (first_link c.in_ok-catalog.ensures.finds (looks_on c.in_ok-catalog.ensures.did c.in_ok-look_at_images.ensures.did.1)
    (images_old (g.met.P.Pages.holds c.args.tuples.now.pages) (g.met.P.Pages.allowed c.args.tuples.now.pages) c.in_ok-catalog.ensures.finds c.in_ok-catalog.ensures.did c.in_ok-look_at_images.ensures.has)
    c.in_ok-look_at_images.ensures.right (c.in_err-look_at_links.ensures.first place (passed_on _ c.from_residual-in_err-look_at_links.ensures.1 is)))

pub returns-in_err-look_at_links-clause-early : goal.returns-in_err-look_at_links-clause-early
returns-in_err-look_at_links-clause-early g c = λ place is told.
    let loads = c.in_ok-catalog.ensures.finds in
    let failed = passed_on _ c.from_residual-in_err-look_at_links.ensures.1 is in
    early_paths (first_link loads (looks_on c.in_ok-catalog.ensures.did c.in_ok-look_at_images.ensures.did.1)
    (images_old (g.met.P.Pages.holds c.args.tuples.now.pages) (g.met.P.Pages.allowed c.args.tuples.now.pages) loads
    c.in_ok-catalog.ensures.did c.in_ok-look_at_images.ensures.has)
    c.in_ok-look_at_images.ensures.right (c.in_err-look_at_links.ensures.first place failed) told loads.listing loads.of)

pub returns-in_err-look_at_links-clause-none : goal.returns-in_err-look_at_links-clause-none
returns-in_err-look_at_links-clause-none g c = λ place is.
    none_first c.in_ok-catalog.ensures.finds (g.met.P.Pages.few_slots c.args.tuples.now.pages)
    (first_link c.in_ok-catalog.ensures.finds (looks_on c.in_ok-catalog.ensures.did c.in_ok-look_at_images.ensures.did.1)
    (images_old (g.met.P.Pages.holds c.args.tuples.now.pages) (g.met.P.Pages.allowed c.args.tuples.now.pages) c.in_ok-catalog.ensures.finds c.in_ok-catalog.ensures.did c.in_ok-look_at_images.ensures.has)
    c.in_ok-look_at_images.ensures.right (c.in_err-look_at_links.ensures.first place (passed_on _ c.from_residual-in_err-look_at_links.ensures.1 is)))

pub returns-in_err-look_at_links-clause-did : goal.returns-in_err-look_at_links-clause-did
returns-in_err-look_at_links-clause-did g c =
    did_all (g.met.P.Pages.holds c.args.tuples.now.pages) (g.met.P.Pages.allowed c.args.tuples.now.pages) c.in_ok-catalog.ensures.finds
    (looks_on c.in_ok-catalog.ensures.did c.in_ok-look_at_images.ensures.did.1) c.in_err-look_at_links.ensures.did.1 _ (passed_on _ c.from_residual-in_err-look_at_links.ensures.1)

-- ---- all is found

pub returns-clause-finds : goal.returns-clause-finds
returns-clause-finds g c =
    finds_tables (g.met.P.Pages.holds c.args.tuples.now.pages) (g.met.P.Pages.allowed c.args.tuples.now.pages) c.in_ok-catalog.ensures.finds
    (looks_on c.in_ok-catalog.ensures.did c.in_ok-look_at_images.ensures.did.1) c.in_ok-catalog.ensures.listed
    (noted_on (λ told. c.in_ok-catalog.ensures.did.looks.step.passes.leaves.told.0 told) c.in_ok-look_at_images.ensures.did.1 c.in_ok-catalog.ensures.checks)
    c.in_ok-look_at_links.ensures.did.1 (g.met.P.Pages.few_slots c.args.tuples.now.pages)
    (pages_old (g.met.P.Pages.holds c.args.tuples.now.pages) (g.met.P.Pages.allowed c.args.tuples.now.pages) c.in_ok-catalog.ensures.finds c.in_ok-catalog.ensures.did c.in_ok-look_at_images.ensures.listed)
    (links_old (g.met.P.Pages.holds c.args.tuples.now.pages) (g.met.P.Pages.allowed c.args.tuples.now.pages) c.in_ok-catalog.ensures.finds
    (looks_on c.in_ok-catalog.ensures.did c.in_ok-look_at_images.ensures.did.1) c.in_ok-look_at_links.ensures.checks)
    (images_old (g.met.P.Pages.holds c.args.tuples.now.pages) (g.met.P.Pages.allowed c.args.tuples.now.pages) c.in_ok-catalog.ensures.finds c.in_ok-catalog.ensures.did c.in_ok-look_at_images.ensures.has)
    (c.in_ok-catalog.ensures.loaded (no_image c.in_ok-catalog.ensures.finds c.in_ok-look_at_images.ensures.right c.in_ok-look_at_links.ensures.right)
    (no_link c.in_ok-catalog.ensures.finds c.in_ok-look_at_images.ensures.right c.in_ok-look_at_links.ensures.right))

pub returns-clause-passes : goal.returns-clause-passes
returns-clause-passes g c = λ told.
    links_passed c.in_ok-catalog.ensures.finds c.in_ok-look_at_images.ensures.right c.in_ok-look_at_links.ensures.right told
    (images_old (g.met.P.Pages.holds c.args.tuples.now.pages) (g.met.P.Pages.allowed c.args.tuples.now.pages) c.in_ok-catalog.ensures.finds c.in_ok-catalog.ensures.did c.in_ok-look_at_images.ensures.has told)
    (links_old (g.met.P.Pages.holds c.args.tuples.now.pages) (g.met.P.Pages.allowed c.args.tuples.now.pages) c.in_ok-catalog.ensures.finds
    (looks_on c.in_ok-catalog.ensures.did c.in_ok-look_at_images.ensures.did.1) c.in_ok-look_at_links.ensures.checks told)
    c.in_ok-catalog.ensures.passes

pub returns-clause-did : goal.returns-clause-did
returns-clause-did g c =
    did_all (g.met.P.Pages.holds c.args.tuples.now.pages) (g.met.P.Pages.allowed c.args.tuples.now.pages) c.in_ok-catalog.ensures.finds
    (looks_on c.in_ok-catalog.ensures.did c.in_ok-look_at_images.ensures.did.1) c.in_ok-look_at_links.ensures.did.1 _ (λ is. absurd (cc))
