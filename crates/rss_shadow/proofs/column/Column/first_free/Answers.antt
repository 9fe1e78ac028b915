use Rattle.rss_shadow.proofs.Mapped.{first_free_told, none_free_told}
use Rattle.rss_shadow.proofs.column.Column.first_free.Goals as goal

pub returns : goal.returns
returns c = rw (← c.self.view_is) (record {
  some = first_free_told c.self.invariant c.args.from _ c.first_absent.ensures.some;
  none = none_free_told c.self.invariant c.args.from _ c.first_absent.ensures.none;
})
