-- What holds of every set of frames.
use Rattle.std.specs.Prelude.{◌≡◌, ℕ, ◌+◌, ◌<◌, length, Some, None}
use Rattle.rss_frames.specs.Lists.{Has, Apart}
use Rattle.rss_base.specs.declared.key.PageKey.{PageKey}
use Rattle.rss_frames.specs.Table.{key_at}
use Rattle.rss_frames.specs.Recency.{Recency}
use Rattle.rss_frames.specs.State.{State}

pub record IsFrames (s : State) (used_room : ℕ) (free : Recency) : Type 0 where
  pub some : 0 < length s.keys
  pub room : used_room ≡ length s.keys
  pub free_room : free.room ≡ length s.keys
  pub pages_len : length s.pages ≡ length s.keys
  pub marks_len : length s.marks ≡ length s.keys
  pub used_has : (i : ℕ) → Has i s.used → (key : PageKey) × (key_at s.keys i ≡ Some key)
  pub has_used : (i : ℕ) (key : PageKey) → key_at s.keys i ≡ Some key → Has i s.used
  pub free_none : (i : ℕ) → Has i free.frames → key_at s.keys i ≡ None
  pub count : length s.used + length free.frames ≡ length s.keys
  pub apart : Apart s.used
  pub sole : (i j : ℕ) (key : PageKey) → key_at s.keys i ≡ Some key → key_at s.keys j ≡ Some key → i ≡ j
