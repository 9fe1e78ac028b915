use Rattle.rss_plain.proofs.Puts.{still_sorted, put_done}
use Rattle.rss_plain.proofs.sorted.Sorted.put.Goals as goal

pub invariant_of-self : goal.invariant_of-self
invariant_of-self g c =
    still_sorted g.K.Keyed.order g.met.K.Keyed.total c.args.key c.args.value c.self.inside.list.items
    c.put_in.new.list.items c.self.invariant c.put_in.result c.put_in.ensures.ok c.put_in.ensures.err

pub returns-clause-ok : goal.returns-clause-ok
returns-clause-ok g c =
    put_done g.K.Keyed.order g.met.K.Keyed.total c.args.key c.args.value c.self.inside.list.items
    c.put_in.new.list.items c.self.invariant c.put_in.result c.args.self.now c.self.view_is c.put_in.ensures.ok
