use Rattle.std.proofs.Common.{◌+◌, List, drop, get_or, sym, subst, arith, Ok}
use Rattle.std.specs.Prelude.{map}
use Rattle.rss_base.specs.DiskRule.{IsTold}
use Rattle.rss_access.specs.Changes.{both}
use Rattle.rss_restart.specs.Walks.{Turn, turn, Leads, NoWalk, Counted}
use Rattle.rss_restart.specs.Walks.Counted.{counts_none}
use Rattle.rss_restart.proofs.Leading.{counted_more, leads_nowhere, leads_more, leads_no_more, turns_more, turns_all, walks_nothing, walks_then, walks_fail, walks_within, passed_on}
use Rattle.rss_restart.proofs.restarting.walk.Goals as goal

pub loop-position-init : goal.loop-position-init
loop-position-init g c = record {
  leads = leads_nowhere (both (g.P.Pages.view c.args.tuples.now.pages) c.args.catalog.now);
  counted = counts_none;
  still = c.requires.may;
  went = walks_nothing (both (g.P.Pages.view c.args.tuples.now.pages) c.args.catalog.now);
}

pub loop-position-preserved : goal.loop-position-preserved
loop-position-preserved g c =
    let old = both (g.P.Pages.view c.args.tuples.now.pages) c.args.catalog.now in
    let mid = both (g.P.Pages.view c.loop-position.tuples.pages) c.loop-position.catalog in
    let new = both (g.P.Pages.view c.make.new.tuples.pages) c.make.new.catalog in
    let still : IsTold old.pages.disk → IsTold mid.pages.disk = c.loop-position.invariant.went.step.passes.leaves.told.0 in
    record {
      leads = subst (λ (turns : List Turn). Leads c.args.log.now turns old new) (sym (turns_more c.args.way c.args.positions.now c.loop-position.position-index c.loop-position-test.true))
          (leads_more c.loop-position.invariant.leads still c.in_ok-make.ensures.steps c.in_ok-make.ensures.did.step.passes.slots);
      counted = subst (λ (turns : List Turn). Counted c.args.log.now turns c.args.catalog.now c.make.new.catalog) (sym (turns_more c.args.way c.args.positions.now c.loop-position.position-index c.loop-position-test.true))
          (counted_more c.loop-position.invariant.counted c.in_ok-make.ensures.steps);
      still = c.in_ok-make.ensures.still;
      went = walks_then {result = Ok tt} c.loop-position.invariant.went c.in_ok-make.ensures.did;
    }

pub returns-in_err-make-clause-sound : goal.returns-in_err-make-clause-sound
returns-in_err-make-clause-sound g c = λ place is told.
    let old = both (g.P.Pages.view c.args.tuples.now.pages) c.args.catalog.now in
    let next = turn c.args.way (get_or c.args.positions.now c.loop-position.position-index 0) in
    let after : List Turn = map (turn c.args.way) (drop (c.loop-position.position-index + 1) c.args.positions.now) in
    subst (λ (turns : List Turn). NoWalk c.args.log.now turns old) (sym (turns_all c.args.way c.args.positions.now c.loop-position.position-index c.loop-position-test.true))
    (leads_no_more after next c.loop-position.invariant.leads told (c.in_err-make.ensures.sound place (passed_on c.from_residual.ensures.1 is) (c.loop-position.invariant.went.step.passes.leaves.told.0 told)))

pub returns-in_err-make-clause-did : goal.returns-in_err-make-clause-did
returns-in_err-make-clause-did g c = walks_fail _ c.from_residual.ensures.1 (walks_within (omega (arith, c.loop-position-test.true)) (walks_then c.loop-position.invariant.went c.in_err-make.ensures.did))
