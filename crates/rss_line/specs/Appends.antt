-- Bytes that are appended to a buffer.
use Rattle.std.specs.Prelude.{◌≡◌, ℕ, ◌+◌, ◌<◌, ◌≤◌, List, ◌++◌, length, Vec, vec_len, vec_capacity, Result, OnOk, OnErr}

-- These bytes are appended; or there was no room for them, and memory ran out. The buffer's room
-- never shrinks.
pub record Appends {Z T E : Type 0} (bytes : List ℕ) (old new : Vec ℕ Z) (result : Result T E)
    : Type 0 where
  pub ok : OnOk result (new.items ≡ old.items ++ bytes)
  pub full : OnErr result (vec_capacity old < vec_len old + length bytes)
  pub capacity : vec_capacity old ≤ vec_capacity new
