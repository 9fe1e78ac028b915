use Rattle.std.specs.Prelude.{None}
use Rattle.rss_shadow.proofs.Mapped.{AreTold-put}
use Rattle.rss_shadow.proofs.column.Column.clear.Goals as goal

pub invariant_of-self : goal.invariant_of-self
invariant_of-self c = AreTold-put c.self.invariant c.args.number None _ _ c.remove.ensures c.insert.ensures
