-- What there is to see of a source and of a sink, and what a read or a write passes on.
use Rattle.std.specs.Prelude.{◌≡◌, ℕ, ◌<◌, ◌≤◌, List, [], ◌++◌, length, take, Option, Some, Result, Ok, IfOk, OnErr}
use Rattle.rss_base.specs.Faults.{HasCause}
use Rattle.rss_base.specs.declared.fault.Failed.{Failed}

-- bytes: those that a source has left, or that were written to a sink, where it tells them.
-- faults: how often it has failed, counted up to 2 ^ 64 - 1.
pub record Stream : Type 0 where
  pub bytes : Option (List ℕ)
  pub faults : ℕ

-- ---- what is read

-- the source of old gave these bytes, and those of new are left, where it tells them
pub record Gives (old : Option (List ℕ)) (bytes : List ℕ) (new : Option (List ℕ)) : Type 0 where
  pub moves : (all : List ℕ) → old ≡ Some all
      → (rest : List ℕ) × (new ≡ Some rest) × (all ≡ bytes ++ rest)

-- these bytes are all that the source tells
abbrev pub IsAllOf : Option (List ℕ) → List ℕ → Type 0
IsAllOf source bytes = (all : List ℕ) → source ≡ Some all → all ≡ bytes

-- A read of at most so many bytes, by its result: the next bytes are at the front of the buffer.
-- None, where some were asked for, is the end. A failure gives nothing.
pub record ReadsBytes (most : ℕ) (buffer : List ℕ) (old new : Stream) (result : Result ℕ Failed) : Type 0 where
  pub within : IfOk result (λ n. n ≤ most)
  pub gives : IfOk result (λ n. Gives old.bytes (take n buffer) new.bytes)
  pub end : result ≡ Ok 0 → 0 < most → IsAllOf old.bytes []
  pub failed : OnErr result (Gives old.bytes [] new.bytes)
  pub cause : HasCause old.faults new.faults result

-- ---- what is written

-- these bytes were added, where the sink tells what was written
pub record Takes (old : Option (List ℕ)) (bytes : List ℕ) (new : Option (List ℕ)) : Type 0 where
  pub appends : (all : List ℕ) → old ≡ Some all → new ≡ Some (all ++ bytes)

-- the front of these bytes was added
pub record TakesFront (old : Option (List ℕ)) (bytes : List ℕ) (new : Option (List ℕ)) : Type 0 where
  pub front : List ℕ
  pub back : List ℕ
  pub parts : bytes ≡ front ++ back
  pub takes : Takes old front new

-- some bytes were added
pub record TakesSome (old new : Option (List ℕ)) : Type 0 where
  pub said : List ℕ
  pub takes : Takes old said new

-- some bytes were added, and these behind them
pub record TakesLast (old : Option (List ℕ)) (bytes : List ℕ) (new : Option (List ℕ)) : Type 0 where
  pub before : List ℕ
  pub takes : Takes old (before ++ bytes) new

-- A write of these bytes, by its result: their front was added, at least a byte where there is one.
-- A failure adds nothing.
pub record WritesBytes (bytes : List ℕ) (old new : Stream) (result : Result ℕ Failed) : Type 0 where
  pub within : IfOk result (λ n. n ≤ length bytes)
  pub some : IfOk result (λ n. 0 < length bytes → 0 < n)
  pub takes : IfOk result (λ n. Takes old.bytes (take n bytes) new.bytes)
  pub failed : OnErr result (Takes old.bytes [] new.bytes)
  pub cause : HasCause old.faults new.faults result
