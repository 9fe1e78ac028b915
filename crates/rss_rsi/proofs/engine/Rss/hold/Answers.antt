use Rattle.rss_lock.specs.Table.{told}
use Rattle.rss_rsi.proofs.Taken.{few_hold, ready_granted}
use Rattle.rss_rsi.proofs.engine.Rss.hold.Goals as goal

pub take-requires-clause-few : goal.take-requires-clause-few
take-requires-clause-few g c = few_hold c.args.transaction c.open_count-count.result c.requires.«open» c.open_count-count.ensures.is c.open_count-count.ensures.most (c.args.self.now.ready c.requires.up)

pub invariant_of-self : goal.invariant_of-self
invariant_of-self g c = record { ready = λ up. ready_granted c.args.transaction c.args.needs.items (told c.take.new.self) c.requires.«open» c.take.ensures.taken (c.args.self.now.ready up) }
