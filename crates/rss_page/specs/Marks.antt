-- Bytes of a page that are marked, because they belong to bodies.
use Rattle.std.specs.Prelude.{◌≡◌, ◌⊎◌, ℕ, ◌+◌, ◌<◌, ◌≤◌, ◌*◌, ◌/◌, ◌%◌, List, length, slice_index_or}
use Rattle.std.specs.Int.{bit_at}
use Rattle.rss_base.specs.Sizes.{page_bytes}
use Rattle.rss_page.specs.declared.entry_form.Entry.{Entry}
use Rattle.rss_page.specs.Slotted.{place_of, length_of, IsInBody}

-- the bit of a byte, in words of 64 bits
abbrev pub mark_at : List ℕ → ℕ → ℕ
mark_at marks byte = bit_at (slice_index_or marks (byte / 64) 0) (byte % 64)

-- of the 64 bytes of a word, the bits of those from a place up to an end are set, and no others
pub record AreBits (word place end bits : ℕ) : Type 0 where
  pub inside : (bit : ℕ) → bit < 64 → place ≤ 64 * word + bit → 64 * word + bit < end → bit_at bits bit ≡ 1
  pub outside : (bit : ℕ) → bit < 64 → (64 * word + bit < place) ⊎ (end ≤ 64 * word + bit) → bit_at bits bit ≡ 0

-- the body, if there is one, lies within the page
abbrev pub IsWithin : Entry → Type 0
IsWithin entry = place_of entry + length_of entry ≤ page_bytes

-- the bytes of the body weren't marked, and now they are, beside those that were
pub record Claims (old : List ℕ) (entry : Entry) (new : List ℕ) : Type 0 where
  pub size : length new ≡ length old
  pub fresh : (byte : ℕ) → IsInBody entry byte → mark_at old byte ≡ 0
  pub marked : (byte : ℕ) → IsInBody entry byte → mark_at new byte ≡ 1
  pub kept : (byte : ℕ) → mark_at old byte ≡ 1 → mark_at new byte ≡ 1
  pub only : (byte : ℕ) → mark_at new byte ≡ 1 → (mark_at old byte ≡ 1) ⊎ IsInBody entry byte

-- a byte of the body is marked already
pub record IsClaimed (marks : List ℕ) (entry : Entry) : Type 0 where
  pub byte : ℕ
  pub inside : IsInBody entry byte
  pub marked : mark_at marks byte ≡ 1
