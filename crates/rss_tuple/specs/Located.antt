-- Where bodies stand in pages.
use Rattle.std.specs.Prelude.{◌≡◌, ℕ, ◌≤◌, true, List, Option, Some, None, option_map, MatchOption}
use Rattle.rss_base.specs.Paged.{Held}
use Rattle.rss_base.specs.Steps.{PagesView}
use Rattle.rss_base.specs.declared.key.PageKey.{PageKey}
use Rattle.rss_page.specs.Slotted.{part, IsBody}
use Rattle.rss_tuple.specs.declared.body_at.BodyAt.{BodyAt}
use Rattle.rss_tuple.specs.Heaps.{body_most}

-- so many bytes of the page of a key, from a place on
abbrev pub place_in : PageKey → ℕ → ℕ → BodyAt
place_in key place length = record { key = key; place = place; length = length }

-- the bytes that stand there, where the page is mapped
abbrev pub body_there : Held → BodyAt → Option (List ℕ)
body_there held at = option_map (λ (page : List ℕ). part page at.place at.length) (held at.key)

-- The page is in memory, and the body of a tuple may stand there.
pub record IsInMemory (view : PagesView) (at : BodyAt) : Type 0 where
  pub there : view.in_memory at.key ≡ true
  pub stands : IsBody at.place at.length
  pub short : at.length ≤ body_most

-- This is said of the bytes that stand there.
pub record StandsAt (held : Held) (says : List ℕ → Type 0) (at : BodyAt) : Type 0 where
  pub bytes : List ℕ
  pub there : body_there held at ≡ Some bytes
  pub so : says bytes

-- There is no body, or this is where it stands.
abbrev pub IsLocated : Held → Option (List ℕ) → Option BodyAt → Type 0
IsLocated held body found =
    MatchOption found (body ≡ None) (StandsAt held (λ bytes. body ≡ Some bytes))
