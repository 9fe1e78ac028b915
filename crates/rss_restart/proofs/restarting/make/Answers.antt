use Rattle.std.proofs.Common.{sym, ◌∙◌, ap, subst, Err}
use Rattle.rss_base.specs.declared.fault.PageFault.{PageFault}
use Rattle.rss_access.specs.Changes.{both}
use Rattle.rss_restart.specs.Walks.{turn, Walks}
use Rattle.rss_restart.proofs.Leading.{walks_made, walks_recorded, walks_refused, none_told, none_recorded, steps_made}
use Rattle.rss_restart.proofs.restarting.make.Goals as goal

pub returns-in_default-clause-sound : goal.returns-in_default-clause-sound
returns-in_default-clause-sound g c = λ place is on. none_told (turn c.args.way c.args.position) c.in_default.ensures.none

pub returns-in-Ok-clause-steps : goal.returns-in-Ok-clause-steps
returns-in-Ok-clause-steps g c = steps_made (turn c.args.way c.args.position) tt c.in-Some.ensures.some c.in-Ok.ensures

pub returns-in-Ok-clause-did : goal.returns-in-Ok-clause-did
returns-in-Ok-clause-did g c = walks_made tt c.in-Ok.ensures

pub returns-in-Err-clause-sound : goal.returns-in-Err-clause-sound
returns-in-Err-clause-sound g c = λ place is on. none_recorded (turn c.args.way c.args.position) c.in-Err.fault place c.requires.may c.in-Some.ensures.some c.in-Err.ensures (ap (λ (fault : PageFault). Err fault) (sym c.at_record.ensures) ∙ is) on

pub returns-in-Err-clause-did : goal.returns-in-Err-clause-did
returns-in-Err-clause-did g c = subst (λ (fault : PageFault). Walks c.args.log.now 1 (both (g.P.Pages.view c.args.tuples.now.pages) c.args.catalog.now) (both (g.P.Pages.view c.direct.new.tuples.pages) c.direct.new.catalog) (Err fault)) (sym c.at_record.ensures) (walks_recorded c.args.position c.in-Err.fault c.requires.low c.requires.high c.in-Err.ensures)

pub returns-in_default-clause-did : goal.returns-in_default-clause-did
returns-in_default-clause-did g c = walks_refused c.args.position (both (g.P.Pages.view c.args.tuples.now.pages) c.args.catalog.now) c.requires.low c.requires.high
