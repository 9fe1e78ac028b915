use Rattle.std.proofs.Common.{Some}
use Rattle.rss_shadow.proofs.Columns.{PutsSlot-put}
use Rattle.rss_shadow.proofs.index.PageIndex.put.Goals as goal

pub returns : goal.returns
returns c = PutsSlot-put _ _ c.args.key (Some c.args.slot) _ _ _ c.self.view_is c.self.invariant c.requires c.column_at.ensures.place c.index_mut-column.ensures.value c.put.ensures
