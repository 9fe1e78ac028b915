-- A generated script: its lines are written to a sink.
use Rattle.std.specs.Prelude.{◌≡◌, ◌⊎◌, ◌↔◌, ◌≤◌, ℕ, List, ◌++◌, Option}
use Rattle.rss_base.specs.DiskRule.{Pages}
use Rattle.rss_base.specs.Faults.{Rises}
use Rattle.rss_base.specs.Streams.{Stream, Takes, TakesFront}
use Rattle.rss_model.specs.Generator.{generated}
use Rattle.rss_model.specs.Script.{joined}
use Rattle.rss_top.specs.Run.{World}
use Rattle.rss_top.specs.declared.status.Status.{Status}
use Rattle.rss_top.specs.declared.status.Status.TheVariants.{Ok as Done, WriteFault, NoMemory}

-- the first of these lines were added, each with its end
pub record TakesLines (old : Option (List ℕ)) (lines : List (List ℕ)) (new : Option (List ℕ))
    : Type 0 where
  pub first : List (List ℕ)
  pub others : List (List ℕ)
  pub parts : lines ≡ first ++ others
  pub takes : Takes old (joined first) new

-- How the writing of lines ends, by its status. A fault of the sink may leave the front of a line,
-- want of memory leaves whole lines.
abbrev pub IsWrittenOut : List (List ℕ) → Stream → Stream → Status → Type 0
IsWrittenOut lines old new Done = Takes old.bytes (joined lines) new.bytes
IsWrittenOut lines old new WriteFault =
    TakesFront old.bytes (joined lines) new.bytes × Rises old.faults new.faults
IsWrittenOut lines old new NoMemory = TakesLines old.bytes lines new.bytes
IsWrittenOut lines old new status = ⊥

pub record WritesLines (lines : List (List ℕ)) (status : Status) (old new : Stream)
    : Type 0 where
  pub later : old.faults ≤ new.faults
  pub ends : IsWrittenOut lines old new status

-- the device of the world, as far as it is seen, is as it was
pub record IsUntouched (old new : World) : Type 0 where
  pub contents : new.disk.contents ≡ old.disk.contents
  pub moment : new.disk.moment ≡ old.disk.moment
  pub images : (t : ℕ) (image : Pages) → new.disk.images t image ↔ old.disk.images t image
  pub writes : new.writes ≡ old.writes
  pub faults : new.faults ≡ old.faults

-- The script of this number and so many employees was written, and nothing else was done.
pub record IsGenerated (number count : ℕ) (status : Status) (old new : World)
    (source_old source_new : Stream) : Type 0 where
  pub writes : WritesLines (generated number count) status old.sink new.sink
  pub device : IsUntouched old new
  pub unread : source_new ≡ source_old
  -- Where nothing fails, all is written, or memory ran out.
  pub complete : (Rises old.sink.faults new.sink.faults → ⊥)
      → (status ≡ Done) ⊎ (status ≡ NoMemory)
