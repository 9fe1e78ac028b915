-- The disk rule: what a device tells of its pages, and what a stop may leave of them.
use Rattle.std.specs.Prelude.{◌≡◌, ◌↔◌, ℕ, ◌+◌, ◌<◌, ◌≤◌, List, [], length, slice_index_or, Option, Some, ⊤}

-- a list of pages, each a list of bytes
abbrev pub Pages : Type 0
Pages = List (List ℕ)

-- the page at a place
abbrev pub page : Pages → ℕ → List ℕ
page pages at = slice_index_or pages at []

-- What a device tells: what a read gives, where it tells that, the number of this moment, and the
-- images that a stop at each moment may leave.
pub record Disk : Type 1 where
  pub contents : Option Pages
  pub moment : ℕ
  pub images : ℕ → Pages → Type 0

-- a fact on what a read gives, where the device tells it
abbrev pub Told : Disk → (Pages → Type 0) → Type 0
Told disk P = (pages : Pages) → disk.contents ≡ Some pages → P pages

-- the device tells what a read gives
pub record IsTold (disk : Disk) : Type 0 where
  pub pages : Pages
  pub is : disk.contents ≡ Some pages

-- a stop now may leave these pages
abbrev pub Leaves : Disk → Pages → Type 0
Leaves disk pages = disk.images disk.moment pages

-- a stop now leaves these pages and no others
abbrev pub LeavesOnly : Disk → Pages → Type 0
LeavesOnly disk pages = (image : Pages) → Leaves disk image → image ≡ pages

-- a set of places
abbrev pub Places : Type 1
Places = ℕ → Type 0

-- this place alone
abbrev pub IsAt : ℕ → Places
IsAt at q = q ≡ at

-- so many places, from one on
abbrev pub IsWithin : ℕ → ℕ → Places
IsWithin first count q = (first ≤ q) × (q < first + count)

-- the same pages outside these places
pub record SameOff (places : Places) (old new : Pages) : Type 0 where
  pub size : length new ≡ length old
  pub others : (q : ℕ) → (places q → ⊥) → page new q ≡ page old q

-- pages that have P, with any bytes in these places
pub record TornIn (places : Places) (P : Pages → Type 0) (image : Pages) : Type 0 where
  pub before : Pages
  pub was : P before
  pub same : SameOff places before image

-- Time goes on from old to new: the past stays as it was, and each new moment's images have P.
pub record Passes (old new : Disk) (P : Pages → Type 0) : Type 0 where
  pub later : old.moment ≤ new.moment
  pub past : (t : ℕ) (image : Pages) → t ≤ old.moment → new.images t image ↔ old.images t image
  pub each : (t : ℕ) (image : Pages) → old.moment < t → t ≤ new.moment → new.images t image
      → P image

-- time goes on, whatever its moments leave
abbrev pub Continues : Disk → Disk → Type 0
Continues old new = Passes old new (λ _. ⊤)

-- what a read gives now is the same outside these places
pub record IsRewrittenIn (places : Places) (before : Pages) (contents : Option Pages) : Type 0 where
  pub after : Pages
  pub told : contents ≡ Some after
  pub same : SameOff places before after

-- the pages that stood there and still do are the same
pub record IsResized (before : Pages) (contents : Option Pages) : Type 0 where
  pub after : Pages
  pub told : contents ≡ Some after
  pub same : (q : ℕ) → q < length before → q < length after → page after q ≡ page before q

-- ---- what calls of a device have in common

-- the device tells its contents as before, and time goes on
pub record GoesOn (old new : Disk) : Type 0 where
  pub told : IsTold old ↔ IsTold new
  pub history : IsTold old → Continues old new

-- A call that writes at most in these places: a device that tells its contents tells them as before,
-- the other pages read as they did, and a stop within it leaves what was left before, with any bytes
-- in these places.
pub record WritesIn (places : Places) (old new : Disk) : Type 0 where
  pub told : IsTold old ↔ IsTold new
  pub kept : Told old (λ pages. IsRewrittenIn places pages new.contents)
  pub moments : IsTold old → Passes old new (TornIn places (Leaves old))
