use Rattle.rss_link.proofs.TupleSteps.{stepped, done}
use Rattle.rss_model.specs.Chains.{chain}
use Rattle.std.specs.Prelude.{Some}
use Rattle.rss_draft.proofs.LinkedNow.{first_whole, first_none}
use Rattle.rss_draft.proofs.linked.has_saved_chain.Goals as goal

pub returns-in-Some-clause-has : goal.returns-in-Some-clause-has
returns-in-Some-clause-has g c = λ told tables link spells at. first_whole (chain tables.contents link.name (Some c.args.parent)) c.in_ok-found.found c.in-Some._first (c.in_ok-found.ensures.next told tables link spells at) c.in-Some.ensures.some

pub returns-in-Some-clause-did : goal.returns-in-Some-clause-did
returns-in-Some-clause-did g c = done _ (stepped c.in_ok-found.ensures.did)

pub returns-in-None-clause-has : goal.returns-in-None-clause-has
returns-in-None-clause-has g c = λ told tables link spells at. first_none (chain tables.contents link.name (Some c.args.parent)) c.in_ok-found.found (c.in_ok-found.ensures.next told tables link spells at) c.in-None.ensures.none

pub returns-in-None-clause-did : goal.returns-in-None-clause-did
returns-in-None-clause-did g c = done _ (stepped c.in_ok-found.ensures.did)
