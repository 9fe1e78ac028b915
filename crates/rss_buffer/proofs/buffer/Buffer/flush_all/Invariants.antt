use Rattle.std.specs.Prelude.{Ok}
use Rattle.rss_buffer.specs.Buffered.{WritesPages}
use Rattle.rss_buffer.specs.Devices.{buffer_view}
use Rattle.rss_buffer.specs.Saved.{AreWritten}
use Rattle.rss_buffer.proofs.buffer.Buffer.flush_all.Given as goal

abbrev pub invariant-loop-slot : goal.invariant-loop-slot
invariant-loop-slot g l = record {
  written : AreWritten (buffer_view l.initial.self).maps.current (buffer_view l.self).frames l.slot;
  did : WritesPages {T = Unit {0}} (buffer_view l.initial.self) (buffer_view l.self) (Ok tt);
}
