use Rattle.std.proofs.Common.{◌≡◌, inl, Option, ◌+◌, ◌-◌, sym, ◌∙◌, subst, arith}
use Rattle.rss_base.specs.declared.place.Place.{Place}
use Rattle.rss_base.specs.declared.place.Place.TheVariants.{Page as PagePlace}
use Rattle.rss_base.proofs.Looking.{passed_on, checks_within, checks_as}
use Rattle.rss_check.specs.Lines.{IsFirst}
use Rattle.rss_check.specs.Tuples.{BreaksOf}
use Rattle.rss_check.proofs.Looked.{LookedAt, eight_most, looked_none, looked_past, looked_more, looked_all, listed_looked, first_looked, misses_one, foreign_before, page_named, foreign_named, did_more}
use Rattle.rss_check.proofs.checking.look_at_segments.Goals as goal
use Rattle.rss_check.proofs.checking.look_at_segments.Goals.{then-used+in_ok-found, else-used}

pub loop-segment-init : goal.loop-segment-init
loop-segment-init g c = looked_none c.args.catalog.now.listing (g.P.Pages.view c.args.pages.now) c.requires (g.met.P.Pages.holds c.args.pages.now) (g.met.P.Pages.allowed c.args.pages.now)

-- ---- a page of a segment that isn't right

pub returns-in_err-found-clause-misses : goal.returns-in_err-found-clause-misses
returns-in_err-found-clause-misses g c = λ place is.
    inl (misses_one (omega arith) c.loop-segment.invariant (sym c.used.ensures ∙ c.if-used.true) (c.in_err-found.ensures.misses place (passed_on _ c.from_residual.ensures.1 is)))

pub returns-in_err-found-clause-first : goal.returns-in_err-found-clause-first
returns-in_err-found-clause-first g c = λ place is told few.
    page_named (omega arith) c.loop-segment.invariant (c.in_err-found.ensures.page place (passed_on _ c.from_residual.ensures.1 is)) told

pub returns-in_err-found-clause-did : goal.returns-in_err-found-clause-did
returns-in_err-found-clause-did g c =
    checks_within (λ key is. is) (eight_most (c.loop-segment.segment + 1 - 1) (g.P.Pages.view c.args.pages.now).slots (omega arith))
    (did_more (omega arith) c.loop-segment.invariant c.in_err-found.ensures.did _ (passed_on _ c.from_residual.ensures.1))

-- ---- a page of a segment that isn't listed

pub returns-in-Some-clause-misses : goal.returns-in-Some-clause-misses
returns-in-Some-clause-misses g c = λ place is.
    foreign_before (omega arith) c.loop-segment.invariant c.in-Some.key c.in-Some.ensures.some.0 c.in-Some.ensures.some.1 (λ room. cc)

pub returns-in-Some-clause-first : goal.returns-in-Some-clause-first
returns-in-Some-clause-first g c = λ place is told few.
    let same : PagePlace c.in-Some.key ≡ place = cc (is) in
    subst (IsFirst (BreaksOf (g.P.Pages.view c.args.pages.now) c.args.catalog.now.listing)) same
    (foreign_named (omega arith) c.loop-segment.invariant c.in-Some.ensures.unlisted (g.met.P.Pages.holds c.loop-segment.pages) c.in-Some.ensures.first told)

pub returns-in-Some-clause-did : goal.returns-in-Some-clause-did
returns-in-Some-clause-did g c = checks_as _ (λ is. absurd (cc)) (checks_within (λ key is. is) (eight_most (c.loop-segment.segment - 1) (g.P.Pages.view c.args.pages.now).slots (omega arith)) c.loop-segment.invariant.did)

-- ---- one segment more

pub loop-segment-preserved : goal.loop-segment-preserved
loop-segment-preserved g c = elim c.if-used.branch [
  | then-used+in_ok-found w ↦
      subst (λ (p : _). LookedAt c.args.catalog.now.listing (c.loop-segment.segment + 1) c.if-used.wrong (g.P.Pages.view c.args.pages.now) (g.P.Pages.view p)) (sym w.pages-is)
      (subst (λ (o : Option Place). LookedAt c.args.catalog.now.listing (c.loop-segment.segment + 1) o (g.P.Pages.view c.args.pages.now) (g.P.Pages.view w.look_at_segment.new.pages)) (sym (w.wrong-is ∙ w.earlier-wrong.ensures))
      (looked_more (omega arith) c.loop-segment.invariant w.in_ok-found.ensures.did w.in_ok-found.found (sym c.used.ensures ∙ w.if-used.true)
      w.in_ok-found.ensures.checks w.in_ok-found.ensures.wrong w.in_ok-found.ensures.formed w.in_ok-found.ensures.first))
  | else-used w ↦
      subst (λ (p : _). LookedAt c.args.catalog.now.listing (c.loop-segment.segment + 1) c.if-used.wrong (g.P.Pages.view c.args.pages.now) (g.P.Pages.view p)) (sym w.pages-is)
      (subst (λ (o : Option Place). LookedAt c.args.catalog.now.listing (c.loop-segment.segment + 1) o (g.P.Pages.view c.args.pages.now) (g.P.Pages.view c.loop-segment.pages)) (sym w.wrong-is)
      (looked_past (omega arith) c.loop-segment.invariant c.requires (sym c.used.ensures ∙ w.if-used.false) (g.met.P.Pages.holds c.loop-segment.pages) (c.in_default.ensures.none (sym c.used.ensures ∙ w.if-used.false))))
]

-- ---- all are right

pub returns-in-None-clause-checks : goal.returns-in-None-clause-checks
returns-in-None-clause-checks g c = looked_all c.requires (omega arith)
    (subst (λ (o : Option Place). LookedAt c.args.catalog.now.listing c.loop-segment.segment o (g.P.Pages.view c.args.pages.now) (g.P.Pages.view c.loop-segment.pages)) c.in-None.is c.loop-segment.invariant)

pub returns-in-None-clause-listed : goal.returns-in-None-clause-listed
returns-in-None-clause-listed g c = listed_looked (omega arith) (g.met.P.Pages.allowed c.args.pages.now) c.loop-segment.invariant

pub returns-in-None-clause-passed : goal.returns-in-None-clause-passed
returns-in-None-clause-passed g c = first_looked c.requires (omega arith) (g.met.P.Pages.holds c.args.pages.now) (g.met.P.Pages.allowed c.args.pages.now)
    (subst (λ (o : Option Place). LookedAt c.args.catalog.now.listing c.loop-segment.segment o (g.P.Pages.view c.args.pages.now) (g.P.Pages.view c.loop-segment.pages)) c.in-None.is c.loop-segment.invariant)

pub returns-in-None-clause-did : goal.returns-in-None-clause-did
returns-in-None-clause-did g c = checks_within (λ key is. is) (eight_most (c.loop-segment.segment - 1) (g.P.Pages.view c.args.pages.now).slots (omega arith)) c.loop-segment.invariant.did

-- ---- something else is wrong

pub returns-in-Some-wrong-clause-first : goal.returns-in-Some-wrong-clause-first
returns-in-Some-wrong-clause-first g c = λ place is told few.
    let same : c.in-Some-wrong.place ≡ place = cc (is) in
    subst (IsFirst (BreaksOf (g.P.Pages.view c.args.pages.now) c.args.catalog.now.listing)) same
    (first_looked c.requires (omega arith) (g.met.P.Pages.holds c.args.pages.now) (g.met.P.Pages.allowed c.args.pages.now)
    (subst (λ (o : Option Place). LookedAt c.args.catalog.now.listing c.loop-segment.segment o (g.P.Pages.view c.args.pages.now) (g.P.Pages.view c.loop-segment.pages)) c.in-Some-wrong.is c.loop-segment.invariant) told few)

pub returns-in-Some-wrong-clause-did : goal.returns-in-Some-wrong-clause-did
returns-in-Some-wrong-clause-did g c = checks_as _ (λ is. absurd (cc)) (checks_within (λ key is. is) (eight_most (c.loop-segment.segment - 1) (g.P.Pages.view c.args.pages.now).slots (omega arith)) c.loop-segment.invariant.did)
