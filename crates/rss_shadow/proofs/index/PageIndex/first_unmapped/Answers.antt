use Rattle.rss_shadow.proofs.Columns.{first_unindexed_told, none_unindexed_told}
use Rattle.rss_shadow.proofs.index.PageIndex.first_unmapped.Goals as goal

pub returns : goal.returns
returns c = rw (← c.self.view_is) (record {
  some = first_unindexed_told c.self.invariant c.requires.low c.requires.high c.requires.space c.column_at.ensures.place c.index.ensures c.args.from _ c.first_free.ensures.some;
  none = none_unindexed_told c.self.invariant c.requires.low c.requires.high c.requires.space c.column_at.ensures.place c.index.ensures c.args.from _ c.first_free.ensures.none;
})
