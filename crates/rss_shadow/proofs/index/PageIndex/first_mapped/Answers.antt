use Rattle.rss_shadow.proofs.Columns.{first_indexed_told, none_indexed_told}
use Rattle.rss_shadow.proofs.index.PageIndex.first_mapped.Goals as goal

pub returns : goal.returns
returns c = rw (← c.self.view_is) (record {
  some = first_indexed_told c.self.invariant c.requires.low c.requires.high c.requires.space c.column_at.ensures.place c.index.ensures c.args.from _ c.first_slotted.ensures.some;
  none = none_indexed_told c.self.invariant c.requires.low c.requires.high c.requires.space c.column_at.ensures.place c.index.ensures c.args.from _ c.first_slotted.ensures.none;
})
