-- The bytes of the log on a device: full pieces in a ring of log pages, and the last part in the root.
use Rattle.std.specs.Prelude.{◌≡◌, ℕ, ◌+◌, ◌-◌, ◌*◌, ◌/◌, ◌%◌, ◌<◌, ◌≤◌, zero, suc, List, [], ◌++◌, length, take, drop}
use Rattle.rss_base.specs.Sizes.{piece_bytes}
use Rattle.rss_base.specs.DiskRule.{Pages, page}
use Rattle.rss_base.specs.Layout.{log_at}
use Rattle.rss_base.specs.declared.root.Root.{Root}

-- Piece k of the log, where the log pages begin at first and are so many. A log page has 96 bytes more, which mean nothing.
abbrev pub piece : Pages → ℕ → ℕ → ℕ → List ℕ
piece pages first ring k = take piece_bytes (page pages (first + k % ring))

-- so many pieces, from piece k on
abbrev pub pieces : Pages → ℕ → ℕ → ℕ → ℕ → List ℕ
pieces pages first ring k zero = []
pieces pages first ring k (suc n) = piece pages first ring k ++ pieces pages first ring (k + 1) n

-- the bytes from the start of the piece with the head up to the end, with the last part as the root has it
abbrev pub kept_from : Pages → ℕ → ℕ → ℕ → ℕ → List ℕ → List ℕ
kept_from pages first ring head end tail = pieces pages first ring (head / piece_bytes) (end / piece_bytes - head / piece_bytes) ++ tail

-- the bytes from the head up to the end
abbrev pub log_from : Pages → ℕ → ℕ → ℕ → ℕ → List ℕ → List ℕ
log_from pages first ring head end tail = drop (head % piece_bytes) (kept_from pages first ring head end tail)

abbrev pub log_bytes : Pages → Root → List ℕ
log_bytes pages root = log_from pages (log_at root.slots) root.log_pages root.head root.end root.tail

-- ---- the log grows

-- one of so many pieces, from piece k on, has this page
pub record IsPiecePage (first ring k count q : ℕ) : Type 0 where
  pub index : ℕ
  pub low : k ≤ index
  pub high : index < k + count
  pub is : q ≡ first + index % ring

-- a page of a piece that becomes full where the log grows up to a new end
abbrev pub IsNewPiece : Root → ℕ → ℕ → Type 0
IsNewPiece root end q = IsPiecePage (log_at root.slots) root.log_pages (root.end / piece_bytes) (end / piece_bytes - root.end / piece_bytes) q

-- the log may grow up to this end: the pieces from the one with the head on have all log pages and the root's tail
abbrev pub HasRoom : Root → ℕ → Type 0
HasRoom root end = end < (root.head / piece_bytes + root.log_pages + 1) * piece_bytes

-- The bytes of full pieces, from piece k on, stand in their pages.
pub record HoldsPieces (pages : Pages) (first ring k count : ℕ) (bytes : List ℕ) : Type 0 where
  pub each : (i : ℕ) → i < count → piece pages first ring (k + i) ≡ take piece_bytes (drop (piece_bytes * i) bytes)
  pub enough : piece_bytes * count ≤ length bytes

-- The log of a root with these bytes behind it, up to a new end: the pieces that became full stand in their pages, and the rest is the new tail.
pub record Grows (root : Root) (more : List ℕ) (pages : Pages) (end : ℕ) (tail : List ℕ) : Type 0 where
  pub end_is : end ≡ root.end + length more
  pub full : HoldsPieces pages (log_at root.slots) root.log_pages (root.end / piece_bytes) (end / piece_bytes - root.end / piece_bytes) (root.tail ++ more)
  pub tail_is : tail ≡ drop (piece_bytes * (end / piece_bytes - root.end / piece_bytes)) (root.tail ++ more)
