-- What a contract sees of the frames.
use Rattle.std.specs.Prelude.{ℕ, Bool, List, Option}
use Rattle.rss_base.specs.declared.key.PageKey.{PageKey}

-- Each frame's page, bytes and mark, and the frames that have a page, the one that was used last first. What callers speak of is `entries` and `room` of it.
pub record State : Type 0 where
  pub keys : List (Option PageKey)
  pub used : List ℕ
  pub pages : List (List ℕ)
  pub marks : List Bool
