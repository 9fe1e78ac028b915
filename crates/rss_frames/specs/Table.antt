-- The frames of pages.
use Rattle.std.specs.Prelude.{◌≡◌, ℕ, ◌+◌, ◌*◌, ◌/◌, ◌%◌, ◌^◌, ◌<◌, Bool, false, List, length, slice_index_or, Option, Some, None, bit_and}
use Rattle.rss_base.specs.PageMap.{space_code}
use Rattle.rss_base.specs.Paged.{is_same}
use Rattle.rss_base.specs.declared.key.PageKey.{PageKey}

-- the page of a frame
abbrev pub key_at : List (Option PageKey) → ℕ → Option PageKey
key_at keys frame = slice_index_or keys frame None

-- what a frame has is this page
abbrev pub is_of : PageKey → Option PageKey → Bool
is_of key None = false
is_of key (Some held) = is_same held key

-- no frame has the page
abbrev pub IsAbsent : List (Option PageKey) → PageKey → Type 0
IsAbsent keys key = (frame : ℕ) → key_at keys frame ≡ Some key → ⊥

-- this frame alone has the page
pub record IsFound (keys : List (Option PageKey)) (key : PageKey) (frame : ℕ) : Type 0 where
  pub at : key_at keys frame ≡ Some key
  pub within : frame < length keys
  pub only : (other : ℕ) → key_at keys other ≡ Some key → other ≡ frame

-- the bucket of a page among one more than mask
unfoldable pub bucket_of : ℕ → PageKey → ℕ
bucket_of mask key =
    let word = (space_code key.space * 2 ^ 8 + key.segment) * 2 ^ 32 + key.number in
    bit_and (word * 0x9e37_79b9_7f4a_7c15 % 2 ^ 64 / 2 ^ 32) mask
