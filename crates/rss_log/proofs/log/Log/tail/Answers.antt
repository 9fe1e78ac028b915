use Rattle.std.proofs.Common.{sym, ◌∙◌, ap}
use Rattle.rss_log.specs.Logs.{tail_of}
use Rattle.rss_log.proofs.LogViews.{tail_in}
use Rattle.rss_log.proofs.log.Log.tail.Goals as goal

pub returns : goal.returns
returns c = c.from_slice.ensures ∙ (rw c.deref.ensures.value at c.copy_front.ensures) ∙ sym (tail_in c.self.inside c.self.invariant.ring.order) ∙ ap tail_of c.self.view_is
