use Rattle.std.proofs.Common.{arith}
use Rattle.rss_base.proofs.Steps.{widens}
use Rattle.rss_tuple.proofs.Checked.{heap_key}
use Rattle.rss_access.proofs.TupleChanges.{longer_put, changes_put, live_low}
use Rattle.rss_access.proofs.tuples.update.Goals as goal

pub returns-clause-changes : goal.returns-clause-changes
returns-clause-changes g c =
    let old = g.P.Pages.view c.args.tuples.now.pages in
    let new = g.P.Pages.view c.replace.new.self.pages in
    changes_put c.replace.result (λ told. live_low old c.args.segment c.args.tid (c.requires.live told)) c.requires.put.length.most
    (longer_put old new c.args.segment c.args.tid c.args.body.now c.replace.result c.requires.live c.replace.ensures.no_page) c.replace.ensures.puts

pub returns-clause-did : goal.returns-clause-did
returns-clause-did g c = widens (heap_key c.args.segment c.args.tid) (omega arith) (omega arith) c.replace.ensures.puts.did.below
