use Rattle.rss_shadow.proofs.Columns.{first_unindexed_told, none_unindexed_told, free_within, free_lacks, lesser_indexed, none_full}
use Rattle.rss_shadow.proofs.index.PageIndex.least_free.Goals as goal

pub returns : goal.returns
returns c =
    let first = first_unindexed_told c.self.invariant c.requires.low c.requires.high c.requires.space c.column_at.ensures.place c.index.ensures 0 _ c.first_free.ensures.some in
    let none = none_unindexed_told c.self.invariant c.requires.low c.requires.high c.requires.space c.column_at.ensures.place c.index.ensures 0 _ c.first_free.ensures.none in
    rw (← c.self.view_is) (record {
      within = free_within _ _ _ _ first;
      free = free_lacks _ _ _ _ first;
      lesser = lesser_indexed _ _ _ _ first;
      none = none_full _ _ _ c.self.invariant c.requires.low c.requires.high c.requires.space _ none;
    })
