use Rattle.std.proofs.Common.{sym, get_or}
use Rattle.rss_frames.proofs.Ring.{length-walk}
use Rattle.rss_frames.proofs.recency.Order.len.Goals as goal

pub returns : goal.returns
returns c =
    let o = c.self.inside in
    rw (← c.self.view_is) (sym (length-walk o.next.items o.len (get_or o.next.items o.room 0)))
