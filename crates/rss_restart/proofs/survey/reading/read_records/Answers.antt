use Rattle.std.proofs.Common.{◌≡◌, List, [], ◌∷◌, ◌++◌, sym, subst, arith}
use Rattle.std.proofs.lemmas.Grind.{common_steps}
use Rattle.rss_restart.specs.declared.survey.walk.Placed.{Placed}
use Rattle.rss_restart.specs.Reading.{Reads}
use Rattle.rss_restart.proofs.Standing.{read_more, none_from, read_fault}
use Rattle.rss_restart.proofs.survey.reading.read_records.Goals as goal

pub returns-in_err-event-clause-sound : goal.returns-in_err-event-clause-sound
returns-in_err-event-clause-sound c place is ps stand = none_from c.args.log.now c.args.from c.loop-at.at c.args.until c.loop-at.events.items c.requires.low c.loop-at.invariant.high c.loop-at.invariant.read c.in_err-event.ensures.sound ps stand

pub returns-in_err-event-clause-fault : goal.returns-in_err-event-clause-fault
returns-in_err-event-clause-fault c = read_fault c.args.log.now c.loop-at.at c.args.until (omega (arith, c.requires.low, c.loop-at.invariant.low)) c.loop-at.invariant.high c.requires.high c.from_residual.result c.from_residual.ensures.1 c.in_err-event.ensures.fault

pub loop-at-preserved : goal.loop-at-preserved
loop-at-preserved c =
    let grown : c.push.new.self.items ≡ c.loop-at.events.items ++ c.in_ok-event.event ∷ [] = grind (arith, common_steps) in
    record {
      low = omega (arith, c.loop-at.invariant.low, c.in_ok-event.ensures.later);
      high = c.in_ok-event.ensures.within;
      read = subst (λ (events : List Placed). Reads c.args.log.now c.args.from c.in_ok-event.next events) (sym grown) (read_more c.args.log.now c.args.from c.loop-at.at c.in_ok-event.next c.loop-at.events.items c.in_ok-event.event c.loop-at.invariant.read c.in_ok-event.ensures.found);
    }
