use Rattle.rss_model.specs.Chains.{chain}
use Rattle.rss_link.specs.Calls.{IsTheOne, Follows}
use Rattle.rss_members.specs.Calls.{both}
use Rattle.rss_members.proofs.Asked.{may_below, answers_below}
use Rattle.rss_members.proofs.reading.left_of.Goals as goal

pub before-requires : goal.before-requires
before-requires g c = may_below (both (g.T.Tuples.view c.args.tuples.now) c.args.catalog.now) c.args.link c.chains_of.result c.chains_of.ensures.is c.args.child c.requires

pub returns-clause-left : goal.returns-clause-left
returns-clause-left g c =
    answers_below (both (g.T.Tuples.view c.args.tuples.now) c.args.catalog.now) c.args.link c.chains_of.result c.chains_of.ensures.is c.args.child (λ lists. IsTheOne (λ left. Follows lists left c.args.child) c.in_ok-left.left) (λ contents name. IsTheOne (λ left. Follows (chain contents name) left c.args.child) c.in_ok-left.left)
    (λ tables links name says. says) c.in_ok-left.ensures.before
