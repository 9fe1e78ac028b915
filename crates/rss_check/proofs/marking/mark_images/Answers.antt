use Rattle.std.proofs.Common.{inl, inr, ◌+◌, sym, ◌∙◌, subst, arith}
use Rattle.rss_base.proofs.Looking.{checks_as, passed_on}
use Rattle.rss_access.proofs.ImageRooms.{image_used}
use Rattle.rss_check.proofs.LookedImages.{ImagesLooked, images_none, images_past, images_more, did_images, image_wrong, marked_all, none_named}
use Rattle.rss_check.proofs.marking.mark_images.Goals as goal
use Rattle.rss_check.proofs.marking.mark_images.Goals.{then-used+in_ok-check_marked, else-used}

pub loop-place-init : goal.loop-place-init
loop-place-init g c = images_none c.args.catalog.now c.args.wrong
    (g.P.Pages.view c.args.tuples.now.pages) c.args.rows.now.items c.requires.heaps c.requires.rows c.requires.blank

pub check_marked-requires-clause-there : goal.check_marked-requires-clause-there
check_marked-requires-clause-there g c = sym (image_used c.args.catalog.now.listing (c.loop-place.place + 1))
    ∙ sym c.used.ensures ∙ c.if-used.true

-- ---- an image isn't right

pub returns-then-is_named-clause-first : goal.returns-then-is_named-clause-first
returns-then-is_named-clause-first g c = λ place is.
    image_wrong c.loop-place.invariant (λ told. cc (is)) (λ told. inl (c.is_named.ensures.yes c.if-is_named.true))

pub returns-then-is_named-clause-did : goal.returns-then-is_named-clause-did
returns-then-is_named-clause-did g c = (_, checks_as _ (λ is. absurd (cc)) c.loop-place.invariant.did)

pub returns-in_err-check_marked-clause-first : goal.returns-in_err-check_marked-clause-first
returns-in_err-check_marked-clause-first g c = λ place is.
    let failed = passed_on _ c.from_residual.ensures.1 is in
    image_wrong c.loop-place.invariant (c.in_err-check_marked.ensures.place place failed) (λ told.
    inr (
      sym (image_used c.args.catalog.now.listing (c.loop-place.place + 1)) ∙ sym c.used.ensures
          ∙ c.if-used.true,
      c.in_err-check_marked.ensures.none place failed told,
    ))

pub returns-in_err-check_marked-clause-did : goal.returns-in_err-check_marked-clause-did
returns-in_err-check_marked-clause-did g c = did_images c.loop-place.invariant c.in_err-check_marked.ensures.did _
    (passed_on _ c.from_residual.ensures.1)

-- ---- one image more

pub loop-place-preserved : goal.loop-place-preserved
loop-place-preserved g c = elim c.if-used.branch [
  | then-used+in_ok-check_marked w ↦
      subst (λ (t : _). ImagesLooked c.args.catalog.now c.args.wrong (c.loop-place.place + 1) c.if-used.rows.items
      (g.P.Pages.view c.args.tuples.now.pages) (g.P.Pages.view t.pages)) (sym w.tuples-is)
      (subst (λ (r : _). ImagesLooked c.args.catalog.now c.args.wrong (c.loop-place.place + 1) r.items
      (g.P.Pages.view c.args.tuples.now.pages) (g.P.Pages.view w.check_marked.new.tuples.pages)) (sym w.rows-is)
      (images_more c.loop-place.invariant w.in_ok-check_marked.ensures.did c.requires.fits
      (g.met.P.Pages.holds c.args.tuples.now.pages) (g.met.P.Pages.allowed c.args.tuples.now.pages)
      (c.is_named.ensures.no c.if-is_named.false) w.in_ok-check_marked.ensures.heaps
      (sym (image_used c.args.catalog.now.listing (c.loop-place.place + 1)) ∙ sym c.used.ensures
      ∙ w.if-used.true) w.in_ok-check_marked.ensures.kept w.in_ok-check_marked.ensures.rows))
  | else-used w ↦
      subst (λ (t : _). ImagesLooked c.args.catalog.now c.args.wrong (c.loop-place.place + 1) c.if-used.rows.items
      (g.P.Pages.view c.args.tuples.now.pages) (g.P.Pages.view t.pages)) (sym w.tuples-is)
      (subst (λ (r : _). ImagesLooked c.args.catalog.now c.args.wrong (c.loop-place.place + 1) r.items
      (g.P.Pages.view c.args.tuples.now.pages) (g.P.Pages.view c.loop-place.tuples.pages)) (sym w.rows-is)
      (images_past c.loop-place.invariant (c.is_named.ensures.no c.if-is_named.false)
      (sym c.used.ensures ∙ w.if-used.false)))
]

-- ---- they were all looked at

pub returns-clause-marked : goal.returns-clause-marked
returns-clause-marked g c = marked_all c.loop-place.invariant
    (λ number past. c.last_image-last.ensures.none number (omega (arith, past, c.loop-place-test.false)))

pub returns-clause-right : goal.returns-clause-right
returns-clause-right g c = none_named c.loop-place.invariant
    (λ number past. c.last_image-last.ensures.none number (omega (arith, past, c.loop-place-test.false)))
