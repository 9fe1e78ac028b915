use Rattle.std.proofs.Common.{◌≡◌, length}
use Rattle.rss_base.specs.Runs.{run_pages}
use Rattle.rss_frames.specs.Frames.{frame_in}
use Rattle.rss_buffer.specs.Gathered.{IsGathered}
use Rattle.rss_buffer.proofs.run.Run.gather.Given as goal

abbrev pub invariant-loop-count : goal.invariant-loop-count
invariant-loop-count l = record {
  room : length l.self.pages.items ≡ run_pages;
  gathered : IsGathered l.owners (frame_in l.frames) l.slot l.count l.self.pages.items;
}
