use Rattle.std.proofs.Common.{sym, ◌∙◌}
use Rattle.std.proofs.lemmas.Result.{IfOk-weaker}
use Rattle.rss_base.proofs.Steps.{done, rests}
use Rattle.rss_access.specs.Changes.{both}
use Rattle.rss_access.proofs.ChainMade.{may_relink}
use Rattle.rss_draft.specs.Views.{said}
use Rattle.rss_draft.proofs.StandingsNow.{standing_said, standing_saved}
use Rattle.rss_draft.proofs.places.standing_now.Goals as goal

pub returns-in-Some-clause-is : goal.returns-in-Some-clause-is
returns-in-Some-clause-is g c =
    standing_said (both (g.P.Pages.view c.args.tuples.now.pages) c.args.catalog.now) (said c.args.draft.now) c.args.link c.link.result.now c.link.ensures.is c.args.child c.in-Some.said (sym c.standing.ensures ∙ c.in-Some.is)

pub returns-in-Some-clause-did : goal.returns-in-Some-clause-did
returns-in-Some-clause-did g c = done _ (rests _)

pub saved_standing-requires-clause-may : goal.saved_standing-requires-clause-may
saved_standing-requires-clause-may g c = may_relink (both (g.P.Pages.view c.args.tuples.now.pages) c.args.catalog.now) (g.met.P.Pages.few_slots c.args.tuples.now.pages) c.requires.may

pub returns-in-None-clause-is : goal.returns-in-None-clause-is
returns-in-None-clause-is g c = IfOk-weaker c.saved_standing.result _ _ (λ found on_pages.
    standing_saved (both (g.P.Pages.view c.args.tuples.now.pages) c.args.catalog.now) (said c.args.draft.now) c.args.link c.link.result.now c.link.ensures.is c.args.child (g.met.P.Pages.few_slots c.args.tuples.now.pages)
    (sym c.standing.ensures ∙ c.in-None.is) found on_pages) c.saved_standing.ensures.is

pub returns-in-None-clause-did : goal.returns-in-None-clause-did
returns-in-None-clause-did g c = c.saved_standing.ensures.did.below
