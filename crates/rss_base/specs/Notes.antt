-- Notes: numbers that a caller puts on mapped pages, so that it finds the next page that may do.
use Rattle.std.specs.Prelude.{◌≡◌, ℕ, ◌≤◌, Bool, true, false, if◌then◌else◌, Option, IfSome}
use Rattle.rss_base.specs.Paged.{Mapped, is_same, page_key}
use Rattle.rss_base.specs.declared.key.Space.{Space}
use Rattle.rss_base.specs.declared.key.Space.TheVariants.{Home, Overflow, Image, System}
use Rattle.rss_base.specs.declared.key.PageKey.{PageKey}

-- the number that was noted on a page, where there is one
abbrev pub Noted : Type 0
Noted = PageKey → Option ℕ

-- the same notes, but that this page has this one, or none
abbrev pub with_note : Noted → PageKey → Option ℕ → Noted
with_note notes key note other = if is_same other key then note else notes other

-- the pages of these spaces are noted
abbrev pub is_noted_space : Space → Bool
is_noted_space Home = true
is_noted_space Overflow = true
is_noted_space Image = false
is_noted_space System = false

-- the greatest note
abbrev pub note_most : ℕ
note_most = 65533

-- the page of this number is mapped, and has no note or one that is at least so great
pub record MayDo (is_mapped : Mapped) (noted : Noted) (least segment : ℕ) (space : Space) (number : ℕ) : Type 0 where
  pub mapped : is_mapped (page_key segment space number) ≡ true
  pub note : IfSome (noted (page_key segment space number)) (λ note. least ≤ note)
