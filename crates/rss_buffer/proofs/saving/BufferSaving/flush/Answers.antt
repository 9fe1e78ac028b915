use Rattle.std.proofs.lemmas.Result.{on_ok_weaker}
use Rattle.rss_frames.specs.Frames.{frame_in}
use Rattle.rss_buffer.proofs.Saves.{flushed_from, backing_kept, saving_flushed}
use Rattle.rss_buffer.proofs.Waits.{none-waits}
use Rattle.rss_buffer.proofs.saving.BufferSaving.flush.Goals as goal

pub returns-clause-stand : goal.returns-clause-stand
returns-clause-stand g c =
    on_ok_weaker c.flush_all.result (λ none told. flushed_from c.flush_all.new.self.holds c.flush_all.ensures.did.keeps none told) c.flush_all.ensures.none_changed

pub returns-clause-none_wait : goal.returns-clause-none_wait
returns-clause-none_wait g c = on_ok_weaker c.flush_all.result (λ none. none-waits (frame_in c.flush_all.new.self.frames) none) c.flush_all.ensures.none_changed

pub returns-clause-backing : goal.returns-clause-backing
returns-clause-backing g c = backing_kept c.flush_all.ensures.did.keeps

pub returns-clause-did : goal.returns-clause-did
returns-clause-did g c = saving_flushed c.flush_all.result c.flush_all.ensures.did
