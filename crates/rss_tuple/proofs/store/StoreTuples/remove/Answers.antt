use Rattle.rss_tuple.proofs.Seen.{on_ok_then}
use Rattle.rss_tuple.proofs.Changes.{changed_call, bodies_now}
use Rattle.rss_tuple.proofs.store.StoreTuples.remove.Goals as goal

pub returns-clause-gone : goal.returns-clause-gone
returns-clause-gone g c = on_ok_then c.remove.result (λ changed told. bodies_now c.remove.ensures.did.step told (c.requires.heaps told) (changed told)) c.remove.ensures.changed

pub returns-clause-did : goal.returns-clause-did
returns-clause-did g c = changed_call _ c.requires.heaps c.remove.ensures.did c.remove.ensures.changed
