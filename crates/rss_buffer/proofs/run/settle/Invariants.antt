use Rattle.std.proofs.Common.{◌≡◌, ◌-◌}
use Rattle.rss_frames.specs.Entries.{room}
use Rattle.rss_frames.specs.Frames.{frame_in}
use Rattle.rss_buffer.specs.Gathered.{AreSettled}
use Rattle.rss_buffer.proofs.run.settle.Given as goal

abbrev pub invariant-loop-at : goal.invariant-loop-at
invariant-loop-at l = record {
  settled : AreSettled l.owners l.slot (l.at - l.slot) (frame_in l.initial.frames) (frame_in l.frames);
  room : room l.frames ≡ room l.initial.frames;
}
