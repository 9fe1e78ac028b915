use Rattle.std.proofs.Common.{arith}
use Rattle.rss_rsi.proofs.Ways.{ready_counted}
use Rattle.rss_rsi.proofs.engine.Rss.ask.Goals as goal

pub invariant_of-self : goal.invariant_of-self
invariant_of-self g c = record { ready = λ up. ready_counted (omega arith) (c.args.self.now.ready up) }
