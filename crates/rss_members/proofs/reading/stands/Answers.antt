use Rattle.std.proofs.Common.{◌≡◌, ◌↔◌, true, Bool}
use Rattle.std.specs.Prelude.{is_some}
use Rattle.std.proofs.lemmas.Result.{IfOk-weaker}
use Rattle.rss_model.specs.Chains.{chain_with}
use Rattle.rss_link.specs.Chains.{Stands}
use Rattle.rss_members.specs.Calls.{both}
use Rattle.rss_members.proofs.Asked.{may_below, answers_below, stands_is}
use Rattle.rss_members.proofs.reading.stands.Goals as goal

pub stands-requires : goal.stands-requires
stands-requires g c = may_below (both (g.T.Tuples.view c.args.tuples.now) c.args.catalog.now) c.args.link c.chains_of.result c.chains_of.ensures.is c.args.child c.requires

pub returns-clause-stands : goal.returns-clause-stands
returns-clause-stands g c = IfOk-weaker c.stands.result _ _ (λ (found : Bool) answers.
    answers_below (both (g.T.Tuples.view c.args.tuples.now) c.args.catalog.now) c.args.link c.chains_of.result c.chains_of.ensures.is c.args.child (λ lists. (found ≡ true) ↔ Stands lists c.args.child) (λ contents name. found ≡ is_some (chain_with contents name c.args.child))
    (λ tables links name says. stands_is tables.contents name c.args.child found says) answers) c.stands.ensures.stands
