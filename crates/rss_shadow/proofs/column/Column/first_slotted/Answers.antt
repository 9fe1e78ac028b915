use Rattle.rss_shadow.proofs.Mapped.{first_slotted_told, none_slotted_told}
use Rattle.rss_shadow.proofs.column.Column.first_slotted.Goals as goal

pub returns : goal.returns
returns c = rw (← c.self.view_is) (record {
  some = first_slotted_told c.self.invariant c.args.from _ c.first_absent.ensures.some;
  none = none_slotted_told c.self.invariant c.args.from _ c.first_absent.ensures.none;
})
