use Rattle.std.proofs.Common.{⊎_elim, sym, subst, arith}
use Rattle.rss_base.proofs.Looking.{checks_as, checks_within, passed_on}
use Rattle.rss_check.specs.Refused.{IsEarlyPlace}
use Rattle.rss_check.proofs.Looked.{none_listed, none_met, none_sound, fault_then, passed_then, listed_then, segments_then, did_two}
use Rattle.rss_check.proofs.Refused.{early_tuples}
use Rattle.rss_check.proofs.TupleFaults.{load_fault, few_loaded}
use Rattle.rss_check.proofs.checking.look_at_tuples.Goals as goal

-- ---- the catalog

pub returns-in_err-loaded-clause-first : goal.returns-in_err-loaded-clause-first
returns-in_err-loaded-clause-first g c = λ place is told device of. load_fault of (c.in_err-loaded.ensures.first place (passed_on _ c.from_residual.ensures.1 is) told)

pub returns-in_err-loaded-clause-early : goal.returns-in_err-loaded-clause-early
returns-in_err-loaded-clause-early g c = λ place is told.
    subst IsEarlyPlace (sym (c.in_err-loaded.ensures.named place (passed_on _ c.from_residual.ensures.1 is)).is) tt

pub returns-in_err-loaded-clause-none : goal.returns-in_err-loaded-clause-none
returns-in_err-loaded-clause-none g c = λ place is.
    let failed = passed_on _ c.from_residual.ensures.1 is in
    none_listed (c.in_err-loaded.ensures.first place failed) (c.in_err-loaded.ensures.named place failed)

pub returns-in_err-loaded-clause-did : goal.returns-in_err-loaded-clause-did
returns-in_err-loaded-clause-did g c = checks_as _ (passed_on _ c.from_residual.ensures.1) (checks_within (λ key none. absurd none) (omega arith) c.in_err-loaded.ensures.did)

-- ---- segments

pub returns-in_err-look_at_segments-clause-first : goal.returns-in_err-look_at_segments-clause-first
returns-in_err-look_at_segments-clause-first g c = λ place is.
    fault_then (g.met.P.Pages.holds c.args.pages.now) (g.met.P.Pages.allowed c.args.pages.now) c.in_ok-loaded.ensures.finds c.in_ok-loaded.ensures.did
    (c.in_err-look_at_segments.ensures.first place (passed_on _ c.from_residual-in_err-look_at_segments.ensures.1 is))

pub returns-in_err-look_at_segments-clause-early : goal.returns-in_err-look_at_segments-clause-early
returns-in_err-look_at_segments-clause-early g c = λ place is told.
    let failed = passed_on _ c.from_residual-in_err-look_at_segments.ensures.1 is in
    early_tuples (c.in_err-look_at_segments.ensures.first place failed
    (c.in_ok-loaded.ensures.did.looks.step.passes.leaves.told.0 told) (few_loaded c.in_ok-loaded.ensures.finds))

pub returns-in_err-look_at_segments-clause-none : goal.returns-in_err-look_at_segments-clause-none
returns-in_err-look_at_segments-clause-none g c = λ place is.
    ⊎_elim
    (none_sound (g.met.P.Pages.holds c.args.pages.now) (g.met.P.Pages.allowed c.args.pages.now) c.in_ok-loaded.ensures.finds c.in_ok-loaded.ensures.did)
    (none_met (g.met.P.Pages.holds c.args.pages.now) (g.met.P.Pages.allowed c.args.pages.now) c.in_ok-loaded.ensures.finds c.in_ok-loaded.ensures.did)
    (c.in_err-look_at_segments.ensures.misses place (passed_on _ c.from_residual-in_err-look_at_segments.ensures.1 is))

pub returns-in_err-look_at_segments-clause-did : goal.returns-in_err-look_at_segments-clause-did
returns-in_err-look_at_segments-clause-did g c =
    did_two (g.met.P.Pages.holds c.args.pages.now) (g.met.P.Pages.allowed c.args.pages.now) c.in_ok-loaded.ensures.finds c.in_ok-loaded.ensures.did
    c.in_err-look_at_segments.ensures.did _ (passed_on _ c.from_residual-in_err-look_at_segments.ensures.1)

-- ---- all are right

pub returns-clause-checks : goal.returns-clause-checks
returns-clause-checks g c = segments_then (g.met.P.Pages.holds c.args.pages.now) (g.met.P.Pages.allowed c.args.pages.now) c.in_ok-loaded.ensures.finds c.in_ok-loaded.ensures.did c.in_ok-look_at_segments.ensures.checks

pub returns-clause-listed : goal.returns-clause-listed
returns-clause-listed g c = listed_then (g.met.P.Pages.holds c.args.pages.now) (g.met.P.Pages.allowed c.args.pages.now) c.in_ok-loaded.ensures.finds c.in_ok-loaded.ensures.did c.in_ok-look_at_segments.ensures.listed

pub returns-clause-passes : goal.returns-clause-passes
returns-clause-passes g c = passed_then (g.met.P.Pages.holds c.args.pages.now) (g.met.P.Pages.allowed c.args.pages.now) c.in_ok-loaded.ensures.finds c.in_ok-loaded.ensures.did c.in_ok-look_at_segments.ensures.passed

pub returns-clause-did : goal.returns-clause-did
returns-clause-did g c =
    did_two (g.met.P.Pages.holds c.args.pages.now) (g.met.P.Pages.allowed c.args.pages.now) c.in_ok-loaded.ensures.finds c.in_ok-loaded.ensures.did c.in_ok-look_at_segments.ensures.did _ (λ is. absurd (cc))
