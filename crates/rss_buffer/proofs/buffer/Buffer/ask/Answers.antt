use Rattle.std.proofs.Common.{arith}
use Rattle.rss_buffer.proofs.Changed.{asked}
use Rattle.rss_buffer.proofs.Turns.{IsBuffer-beside}
use Rattle.rss_buffer.proofs.buffer.Buffer.ask.Goals as goal

pub invariant_of-self : goal.invariant_of-self
invariant_of-self g c = record { saved_area = c.args.self.now.saved_area; holds = IsBuffer-beside c.args.self.now.holds c.args.self.now.holds.noted }

pub returns-clause-idle : goal.returns-clause-idle
returns-clause-idle g c = λ there. let idle = c.bring.ensures.idle there in record { device = idle.device; in_memory = idle.in_memory }

pub returns-clause-did : goal.returns-clause-did
returns-clause-did g c = asked c.args.self.now.holds c.bring.ensures.did c.one_more-self.ensures.more (omega (arith, c.one_more-self.ensures.is)) (λ are. returns-clause-idle g c (are.each c.args.key c.requires))
