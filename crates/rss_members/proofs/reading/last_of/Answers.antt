use Rattle.std.proofs.Common.{◌≡◌, Option, List}
use Rattle.std.proofs.lemmas.Result.{IfOk-weaker}
use Rattle.rss_base.specs.Prefixes.{last_of as last_in}
use Rattle.rss_base.specs.declared.tid.Tid.{Tid}
use Rattle.rss_members.specs.Calls.{both}
use Rattle.rss_members.proofs.Asked.{may_above, answers_above}
use Rattle.rss_members.proofs.reading.last_of.Goals as goal

pub last-requires : goal.last-requires
last-requires g c = may_above (both (g.T.Tuples.view c.args.tuples.now) c.args.catalog.now) c.args.link c.chains_of.result c.chains_of.ensures.is c.args.parent c.ends_of-ends.result c.link.result.now c.link.ensures.is c.ends_of-ends.ensures c.requires

pub returns-clause-last : goal.returns-clause-last
returns-clause-last g c = IfOk-weaker c.last.result _ _ (λ (found : Option Tid) answers.
    answers_above (both (g.T.Tuples.view c.args.tuples.now) c.args.catalog.now) c.args.link c.chains_of.result c.chains_of.ensures.is c.args.parent c.ends_of-ends.result c.link.result.now c.link.ensures.is c.ends_of-ends.ensures (λ (chain : List Tid). found ≡ last_in chain) answers) c.last.ensures.last
