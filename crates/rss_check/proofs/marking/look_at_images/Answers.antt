use Rattle.std.proofs.Common.{◌≡◌, arith}
use Rattle.rss_base.specs.declared.place.Place.TheVariants.{Page as PagePlace}
use Rattle.rss_base.proofs.Looking.{checks_none, checks_as, passed_on}
use Rattle.rss_check.proofs.Marks.{zeros_rows, zeros_blank}
use Rattle.rss_check.proofs.LookedImages.{page_wrong, has_images, has_listed}
use Rattle.rss_check.proofs.marking.look_at_images.Goals as goal

pub mark_images-requires-clause-rows : goal.mark_images-requires-clause-rows
mark_images-requires-clause-rows g c = zeros_rows c.words_for.result
    (omega (arith, c.words_for.ensures, c.slots.ensures)) c.in-Ok.ensures

pub mark_images-requires-clause-blank : goal.mark_images-requires-clause-blank
mark_images-requires-clause-blank g c = zeros_blank c.words_for.result c.in-Ok.rows.items c.in-Ok.ensures

pub returns-in_default-clause-did : goal.returns-in_default-clause-did
returns-in_default-clause-did g c = (0, checks_none (g.P.Pages.view c.args.tuples.now.pages) _ (λ is. absurd (cc)))

-- ---- an image isn't right

pub returns-in_err-mark_images-clause-first : goal.returns-in_err-mark_images-clause-first
returns-in_err-mark_images-clause-first g c = λ place is. c.in_err-mark_images.ensures.first place
    (passed_on _ c.from_residual.ensures.1 is)

pub returns-in_err-mark_images-clause-did : goal.returns-in_err-mark_images-clause-did
returns-in_err-mark_images-clause-did g c = (
  _,
  checks_as _
      (passed_on _ c.from_residual.ensures.1) c.in_err-mark_images.ensures.did.1,
)

-- ---- a page is that of no image

pub returns-in-Some-clause-first : goal.returns-in-Some-clause-first
returns-in-Some-clause-first g c = λ place is.
    let same : PagePlace c.in-Some.key ≡ place = cc (is) in
    page_wrong c.in_ok-mark_images.ensures.did.1 c.as_slice.ensures.value c.args.catalog.now
    (g.met.P.Pages.holds c.args.tuples.now.pages) c.in_ok-mark_images.ensures.marked
    c.args.wrong c.in_ok-mark_images.ensures.right c.in-Some.ensures.some same

pub returns-in-Some-clause-did : goal.returns-in-Some-clause-did
returns-in-Some-clause-did g c = (_, checks_as _ (λ is. absurd (cc)) c.in_ok-mark_images.ensures.did.1)

-- ---- all are right

pub returns-clause-has : goal.returns-clause-has
returns-clause-has g c =
    has_images c.in_ok-mark_images.ensures.did.1 c.as_slice.ensures.value c.args.catalog.now
    (g.met.P.Pages.holds c.args.tuples.now.pages) c.in_ok-mark_images.ensures.marked c.in-None.ensures.none

pub returns-clause-listed : goal.returns-clause-listed
returns-clause-listed g c = has_listed c.in_ok-mark_images.ensures.did.1 c.as_slice.ensures.value c.args.catalog.now.listing c.in-None.ensures.none c.in_ok-mark_images.ensures.own

pub returns-clause-did : goal.returns-clause-did
returns-clause-did g c = (_, checks_as _ (λ is. absurd (cc)) c.in_ok-mark_images.ensures.did.1)
