use Rattle.std.proofs.Common.{sym, ◌∙◌}
use Rattle.rss_frames.specs.contracts.frames.Frames.{the_view}
use Rattle.rss_frames.proofs.Entries.{length_entries}
use Rattle.rss_frames.proofs.frames.Frames.len.Goals as goal

pub returns : goal.returns
returns c = rw (← c.self.view_is) (c.len.ensures ∙ sym (length_entries (the_view c.self.inside)))
