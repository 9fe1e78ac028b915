use Rattle.rss_buffer.proofs.Lookups.{none_shown}
use Rattle.rss_buffer.proofs.buffer.new_parts.Goals as goal

pub returns-clause-frames : goal.returns-clause-frames
returns-clause-frames c = none_shown c.in_ok-frames.ensures
