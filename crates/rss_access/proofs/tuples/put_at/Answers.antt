use Rattle.std.proofs.Common.{arith}
use Rattle.rss_base.proofs.Steps.{widens}
use Rattle.rss_tuple.proofs.Checked.{heap_key}
use Rattle.rss_access.proofs.TupleChanges.{longer_new, longer_ok, changes_put}
use Rattle.rss_access.proofs.tuples.put_at.Goals as goal

pub returns-clause-changes : goal.returns-clause-changes
returns-clause-changes g c =
    let old = g.P.Pages.view c.args.tuples.now.pages in
    let new = g.P.Pages.view c.insert_at.new.self.pages in
    changes_put c.insert_at.result (λ told. c.requires.slot) c.requires.may.length.most
    (longer_ok c.insert_at.result (longer_new old new c.args.segment c.args.tid c.args.body.now c.requires.may.length.some c.requires.absent)) c.insert_at.ensures

pub returns-clause-did : goal.returns-clause-did
returns-clause-did g c = widens (heap_key c.args.segment c.args.tid) (omega arith) (omega arith) c.insert_at.ensures.did.below
