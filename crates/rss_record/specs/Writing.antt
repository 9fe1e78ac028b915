-- Bytes put into a buffer.
use Rattle.std.specs.Prelude.{◌≡◌, ℕ, ◌+◌, List, ◌++◌, length, take, drop}

-- the bytes stand from a place on, and all others are as they were
pub record Puts (at : ℕ) (bytes old new : List ℕ) : Type 0 where
  pub is : new ≡ take at old ++ (bytes ++ drop (at + length bytes) old)
