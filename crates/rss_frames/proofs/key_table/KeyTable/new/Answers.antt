use Rattle.std.proofs.Common.{sym, ◌∙◌}
use Rattle.rss_frames.proofs.Moves.{past_same}
use Rattle.rss_frames.proofs.Table.{empty}
use Rattle.rss_frames.proofs.key_table.KeyTable.new.Goals as goal

pub invariant_of-table : goal.invariant_of-table
invariant_of-table c =
    let n = c.row_of-keys.ensures in let p = c.row_of-links.ensures in
    (empty _ _ _ _ n.items p.items, (n.seated, p.seated, p.at ∙ n.rest.0 ∙ past_same (sym n.at) (sym n.units)))
