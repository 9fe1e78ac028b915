use Rattle.std.proofs.Common.{arith}
use Rattle.rss_log.proofs.LogReads.{tail_read, tail_put}
use Rattle.rss_log.proofs.log.read_log.Goals as goal

pub returns-clause-kept : goal.returns-clause-kept
returns-clause-kept g c = λ pages told. tail_read pages c.args.first_page c.args.log_pages c.args.head c.args.end _ _ c.args.tail.now c.requires.log.ring.order c.requires.log.tail_long (omega (arith, c.requires.log.ring.room)) (c.in_ok-read_pieces.ensures.ring pages told) c.put.ensures

pub returns-clause-tail : goal.returns-clause-tail
returns-clause-tail g c = tail_put c.args.end _ _ c.args.tail.now c.requires.log.tail_long c.put.ensures
