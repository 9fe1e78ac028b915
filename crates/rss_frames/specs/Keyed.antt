-- What a layer above sees of the table of keys.
use Rattle.std.specs.Prelude.{ℕ, List, Option}
use denote.RawPtr.{Ptr}
use Rattle.rss_base.specs.declared.key.PageKey.{PageKey}

-- the page of each frame
pub record Keyed : Type 0 where
  pub keys : List (Option PageKey)
  -- where its rows lie: so many units from here on
  pub start : Ptr
  pub units : ℕ
