use Rattle.std.proofs.Common.{arith}
use Rattle.rss_restart.specs.Reading.{none_begins, goes_beyond}
use Rattle.rss_restart.proofs.Standing.{no_record, too_long}
use Rattle.rss_restart.proofs.survey.reading.next_record.Goals as goal

pub returns-in_default-clause-sound : goal.returns-in_default-clause-sound
returns-in_default-clause-sound c ps stand = no_record c.args.log.now c.args.at c.args.until ps c.requires.low c.requires.some c.in_default.ensures.none stand

pub returns-then-until-next-clause-sound : goal.returns-then-until-next-clause-sound
returns-then-until-next-clause-sound c ps stand = too_long c.args.log.now c.args.at c.in-Some.next c.args.until c.in-Some.found ps c.requires.low c.requires.some c.if-until-next.true c.in-Some.ensures.next c.in-Some.ensures.found stand

pub returns-in_default-clause-fault : goal.returns-in_default-clause-fault
returns-in_default-clause-fault c = none_begins c.in_default.ensures.none

pub returns-then-until-next-clause-fault : goal.returns-then-until-next-clause-fault
returns-then-until-next-clause-fault c = goes_beyond c.in-Some.found _ c.in-Some.ensures.found (omega (arith, c.if-until-next.true, c.in-Some.ensures.next))
