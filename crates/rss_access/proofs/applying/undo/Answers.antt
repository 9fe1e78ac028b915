use Rattle.std.proofs.Common.{◌∙◌, ap, subst}
use Rattle.rss_base.specs.declared.change.Change as told
use Rattle.rss_access.specs.Told.{reversed}
use Rattle.rss_access.specs.Changes.{both, Makes}
use Rattle.rss_access.proofs.Altering.{undoes_by, none_undoes}
use Rattle.rss_access.proofs.applying.undo.Goals as goal

pub returns-clause-makes : goal.returns-clause-makes
returns-clause-makes g c = subst (λ (t : told.Change). Makes t (both (g.P.Pages.view c.args.tuples.now.pages) c.args.catalog.now) (both (g.P.Pages.view c.make.new.tuples.pages) c.make.new.catalog) c.make.result) (c.reversed.ensures.is ∙ ap reversed c.of.ensures) c.make.ensures

pub returns-clause-undoes : goal.returns-clause-undoes
returns-clause-undoes g c = undoes_by c.args.change.now c.make.result (returns-clause-makes g c)

pub returns-clause-sound : goal.returns-clause-sound
returns-clause-sound g c = λ place is on room. none_undoes c.requires.may on ((returns-clause-makes g c).damaged place is on) room
