use Rattle.std.specs.Prelude.{Some}
use Rattle.rss_shadow.proofs.Mapped.{AreTold-put}
use Rattle.rss_shadow.proofs.column.Column.put.Goals as goal

pub invariant_of-self : goal.invariant_of-self
invariant_of-self c = AreTold-put c.self.invariant c.args.number (Some c.args.slot) _ _ c.insert.ensures c.remove.ensures
