use Rattle.rss_rsi.proofs.engine.Rss.tuple_at.Goals as goal

pub returns-clause-comes : goal.returns-clause-comes
returns-clause-comes g c = c.read_at-read.ensures

pub invariant_of-self : goal.invariant_of-self
invariant_of-self g c = record { ready = λ up. c.args.self.now.ready c.requires.up }
