use Rattle.std.proofs.Common.{◌∙◌, sym}
use Rattle.rss_session.proofs.Weighed.{log_room_same}
use Rattle.rss_rsi.proofs.engine.Rss.log_free.Goals as goal

pub returns : goal.returns
returns g c = λ up state shown. c.log_free.ensures.free ∙ sym (log_room_same (c.args.self.now.ready up).session shown.shows)
