-- Lines that are written to a sink.
use Rattle.std.specs.Prelude.{◌≡◌, ◌≤◌, ℕ, List, Result, Ok, Err}
use Rattle.rss_base.specs.Faults.{Rises}
use Rattle.rss_base.specs.Streams.{Stream, Takes, TakesFront, TakesLast}
use Rattle.rss_base.specs.declared.place.Place.{Place}
use Rattle.rss_model.specs.ReplyText.{damaged_line}
use Rattle.rss_top.specs.Run.{ByStop}
use Rattle.rss_top.specs.declared.status.Status.{Status}
use Rattle.rss_top.specs.declared.status.Status.TheVariants.{WriteFault, Damaged, NoMemory}

-- The line was written, or the sink failed with its front.
abbrev pub IsWritten : {T : Type 0} → List ℕ → Stream → Stream → Result T Status → Type 0
IsWritten line old new (Ok done) = Takes old.bytes line new.bytes
IsWritten line old new (Err status) =
    ByStop ⊥ (TakesFront old.bytes line new.bytes × Rises old.faults new.faults) ⊥ ⊥ status

pub record Writes {T : Type 0} (line : List ℕ) (old new : Stream) (result : Result T Status)
    : Type 0 where
  pub later : old.faults ≤ new.faults
  pub outcome : IsWritten line old new result

-- The run ends with the status that was meant, and its line is written; or the sink failed with its
-- front; or memory ran out before.
pub data IsSaid (meant : Status) (line : List ℕ) (status : Status) (old new : Stream)
    : Type 0 where
  said : status ≡ meant → Takes old.bytes line new.bytes → IsSaid meant line status old new
  cut : status ≡ WriteFault → TakesFront old.bytes line new.bytes → Rises old.faults new.faults
      → IsSaid meant line status old new
  unsaid : status ≡ NoMemory → new ≡ old → IsSaid meant line status old new

pub record Says (meant : Status) (line : List ℕ) (status : Status) (old new : Stream)
    : Type 0 where
  pub later : old.faults ≤ new.faults
  pub how : IsSaid meant line status old new

-- Damage is told last, behind the replies that were written before.
pub record TellsDamage (status : Status) (old new : Stream) : Type 0 where
  pub last : (place : Place) → status ≡ Damaged place
      → TakesLast old.bytes (damaged_line place) new.bytes
