use Rattle.std.proofs.Common.{subst}
use Rattle.rss_base.specs.declared.change.Change as told
use Rattle.rss_access.specs.Changes.{both, Makes}
use Rattle.rss_access.proofs.Altering.{applies_by}
use Rattle.rss_access.proofs.Telling.{none_applies}
use Rattle.rss_access.proofs.applying.apply.Goals as goal

pub returns-clause-makes : goal.returns-clause-makes
returns-clause-makes g c = subst (λ (t : told.Change). Makes t (both (g.P.Pages.view c.args.tuples.now.pages) c.args.catalog.now) (both (g.P.Pages.view c.make.new.tuples.pages) c.make.new.catalog) c.make.result) c.of.ensures c.make.ensures

pub returns-clause-applies : goal.returns-clause-applies
returns-clause-applies g c = applies_by c.args.change.now c.make.result (returns-clause-makes g c)

pub returns-clause-sound : goal.returns-clause-sound
returns-clause-sound g c = λ place is on room. none_applies c.requires.may on ((returns-clause-makes g c).damaged place is on) room
