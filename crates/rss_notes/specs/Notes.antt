-- Notes on pages, and which pages are mapped.
use Rattle.std.specs.Prelude.{◌≡◌, ℕ, Bool, if◌then◌else◌, Option, Some, None}
use Rattle.rss_base.specs.Paged.{Mapped, with_mapped}
use Rattle.rss_base.specs.Notes.{Noted, with_note}
use Rattle.rss_base.specs.declared.key.PageKey.{PageKey}

-- slots: how many slots the store has for pages.
-- mapped: which home and overflow pages are mapped.
-- notes: what was noted on them.
pub record NotesView : Type 0 where
  pub slots : ℕ
  pub mapped : Mapped
  pub notes : Noted

-- the page is mapped now, or isn't, and has this note, or none; and every other page is as before
pub record Marks (old new : NotesView) (key : PageKey) (is_mapped : Bool) (note : Option ℕ)
    : Type 0 where
  pub slots : new.slots ≡ old.slots
  pub mapped : new.mapped ≡ with_mapped old.mapped key is_mapped
  pub notes : new.notes ≡ with_note old.notes key note

-- the note of a page once this number is noted on it, which it isn't where the page isn't mapped
abbrev pub noted_on : NotesView → PageKey → ℕ → Option ℕ
noted_on view key number = if view.mapped key then Some number else None
