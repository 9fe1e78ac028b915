-- What a layer above sees of an order of frames.
use Rattle.std.specs.Prelude.{ℕ, List}
use denote.RawPtr.{Ptr}

-- so many frames, and those of them that are in the order, the one that was used last first
pub record Recency : Type 0 where
  pub frames : List ℕ
  pub room : ℕ
  -- where its links lie: so many units from here on
  pub start : Ptr
  pub units : ℕ
