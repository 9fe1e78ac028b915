use Rattle.std.proofs.Common.{Option}
use Rattle.std.proofs.lemmas.Result.{IfOk-weaker}
use Rattle.rss_base.specs.declared.tid.Tid.{Tid}
use Rattle.rss_model.specs.Chains.{chain}
use Rattle.rss_link.specs.Calls.{IsTheOne, Follows}
use Rattle.rss_members.specs.Calls.{both}
use Rattle.rss_members.proofs.Asked.{may_below, answers_below}
use Rattle.rss_members.proofs.reading.right_of.Goals as goal

pub after-requires : goal.after-requires
after-requires g c = may_below (both (g.T.Tuples.view c.args.tuples.now) c.args.catalog.now) c.args.link c.chains_of.result c.chains_of.ensures.is c.args.child c.requires

pub returns-clause-right : goal.returns-clause-right
returns-clause-right g c = IfOk-weaker c.after.result _ _ (λ (found : Option Tid) answers.
    answers_below (both (g.T.Tuples.view c.args.tuples.now) c.args.catalog.now) c.args.link c.chains_of.result c.chains_of.ensures.is c.args.child (λ lists. IsTheOne (λ right. Follows lists c.args.child right) found) (λ contents name. IsTheOne (λ right. Follows (chain contents name) c.args.child right) found)
    (λ tables links name says. says) answers) c.after.ensures.after
