use Rattle.std.proofs.Common.{◌≡◌, Option, Some}
use Rattle.std.proofs.lemmas.Result.{IfOk-weaker}
use Rattle.rss_base.specs.declared.tid.Tid.{Tid}
use Rattle.rss_model.specs.Chains.{chain_with}
use Rattle.rss_link.specs.Calls.{IsTheOne, IsChildOf}
use Rattle.rss_members.specs.Calls.{both, above_in}
use Rattle.rss_members.proofs.Asked.{may_below, answers_below, parent_is}
use Rattle.rss_members.proofs.reading.parent_of.Goals as goal

pub parent-requires : goal.parent-requires
parent-requires g c = may_below (both (g.T.Tuples.view c.args.tuples.now) c.args.catalog.now) c.args.link c.chains_of.result c.chains_of.ensures.is c.args.child c.requires

pub returns-clause-parent : goal.returns-clause-parent
returns-clause-parent g c = IfOk-weaker c.parent.result _ _ (λ (found : Option Tid) answers.
    answers_below (both (g.T.Tuples.view c.args.tuples.now) c.args.catalog.now) c.args.link c.chains_of.result c.chains_of.ensures.is c.args.child (λ lists. IsTheOne (λ parent. IsChildOf lists (Some parent) c.args.child) found) (λ contents name. found ≡ above_in (chain_with contents name c.args.child))
    (λ tables links name says. parent_is tables.contents name c.args.child (λ p q. links.alone name p q c.args.child) found says) answers) c.parent.ensures.parent
