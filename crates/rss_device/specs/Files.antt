-- What there is to see of an open file, and what a call leaves of the bytes that it is known to hold.
-- A file of the system tells nothing of its bytes, of its lock and of the disk.
use Rattle.std.specs.Prelude.{◌≡◌, ◌≢◌, ◌⊎◌, ℕ, ℤ, ◌+◌, ◌-◌, ◌*◌, ◌/◌, ◌%◌, ◌^◌, ◌<◌, ◌≤◌, max, Bool, List, length, slice_index, Option, Some, None, ⊤}
use Rattle.rss_base.specs.Sizes.{page_bytes, head_pages}
use Rattle.rss_base.specs.DiskRule.{Pages, page}

-- bytes: what it holds, where that is known.
-- descriptor: the number of its descriptor.
-- is_locked: no other opening of it that asks for its lock has it.
-- is_synced: what it holds outlasts a stop.
pub record FileView : Type 0 where
  pub bytes : Option (List ℕ)
  pub descriptor : ℤ
  pub is_locked : Bool
  pub is_synced : Bool

-- it has this descriptor still, and its lock if it had it
pub record IsSameOpening (old new : FileView) : Type 0 where
  pub descriptor : new.descriptor ≡ old.descriptor
  pub locked : new.is_locked ≡ old.is_locked

-- bytes that are known stay known, and P says what a call did to them
abbrev pub Turns : (List ℕ → List ℕ → Type 0) → Option (List ℕ) → Option (List ℕ) → Type 0
Turns P None new = ⊤
Turns P (Some before) None = ⊥
Turns P (Some before) (Some after) = P before after

-- these bytes stand in a file, from this place on
pub record Holds (at : ℕ) (bytes held : List ℕ) : Type 0 where
  pub within : (k : ℕ) → k < length bytes → at + k < length held
  pub each : (k : ℕ) → k < length bytes → slice_index held (at + k) ≡ slice_index bytes k

-- All bytes but so many, from this place on, are as they were, and none is gone. The file grows no
-- further than these, and what is new in front of them is zeros, as a byte past the end reads.
pub record IsWrittenIn (at count : ℕ) (before after : List ℕ) : Type 0 where
  pub others : (q : ℕ) → (q < at) ⊎ (at + count ≤ q) → slice_index after q ≡ slice_index before q
  pub longer : length before ≤ length after
  pub within : length after ≤ max (length before) (at + count)

-- the bytes that a file has are those that it had, and zeros behind its old end
abbrev pub IsCutFrom : List ℕ → List ℕ → Type 0
IsCutFrom before after = (q : ℕ) → q < length after → slice_index after q ≡ slice_index before q

-- ---- a file of pages

-- the file holds this page at this place
abbrev pub HoldsPage : ℕ → List ℕ → List ℕ → Type 0
HoldsPage at bytes held = Holds (at * page_bytes) bytes held

-- and these pages, one behind the other
abbrev pub HoldsPages : ℕ → Pages → List ℕ → Type 0
HoldsPages at run held = (k : ℕ) → k < length run → HoldsPage (at + k) (page run k) held

-- so many pages, from this place on, may have been written, and no others
abbrev pub ArePagesWritten : ℕ → ℕ → List ℕ → List ℕ → Type 0
ArePagesWritten at count before after = IsWrittenIn (at * page_bytes) (count * page_bytes) before after

-- How many pages a file of this length holds. One that holds pages enough for a store and ends
-- within a page has 2 ^ 64 - 1, which is the size of no store.
pub record IsPageCount (bytes pages : ℕ) : Type 0 where
  pub whole : bytes % page_bytes ≡ 0 → pages * page_bytes ≡ bytes
  pub few : bytes < head_pages * page_bytes → pages ≡ bytes / page_bytes
  pub torn : head_pages * page_bytes ≤ bytes → bytes % page_bytes ≢ 0 → pages ≡ 2 ^ 64 - 1
