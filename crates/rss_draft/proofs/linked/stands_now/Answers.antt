use Rattle.std.proofs.Common.{◌∙◌, ap}
use Rattle.rss_base.proofs.Steps.{done}
use Rattle.rss_draft.specs.Lookups.{chain_at}
use Rattle.rss_draft.proofs.LinkedNow.{stands_off, stands_in_some}
use Rattle.rss_draft.proofs.linked.stands_now.Goals as goal

pub returns-in-Off-clause-is : goal.returns-in-Off-clause-is
returns-in-Off-clause-is g c = λ saved tables over looks entry at. stands_off tables.contents entry.name c.args.child (c.in_ok-standing.ensures.is saved tables over looks entry at ∙ ap (chain_at entry.name) c.in-Off.is)

pub returns-in-Off-clause-did : goal.returns-in-Off-clause-did
returns-in-Off-clause-did g c = done _ c.in_ok-standing.ensures.did.step

pub returns-in-In-clause-is : goal.returns-in-In-clause-is
returns-in-In-clause-is g c = λ saved tables over looks entry at. stands_in_some tables.contents entry.name c.args.child c.in-In._parent (c.in_ok-standing.ensures.is saved tables over looks entry at ∙ ap (chain_at entry.name) c.in-In.is)

pub returns-in-In-clause-did : goal.returns-in-In-clause-did
returns-in-In-clause-did g c = done _ c.in_ok-standing.ensures.did.step
