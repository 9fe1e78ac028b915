use Rattle.std.proofs.Common.{refl}
use Rattle.rss_buffer.proofs.Turns.{WritesPages-none}
use Rattle.rss_buffer.proofs.buffer.Buffer.flush_slot.Goals as goal

pub returns-in-None-clause-did : goal.returns-in-None-clause-did
returns-in-None-clause-did g c = WritesPages-none _ refl
