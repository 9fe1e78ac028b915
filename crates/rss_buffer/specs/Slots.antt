-- The slots of pages on a device, and what they hold.
use Rattle.std.specs.Prelude.{ℕ, ◌+◌, ◌-◌, Bool, ◌&&◌, not, nat_le, if◌then◌else◌, List, [], length, Option, Some, None, is_some, option_map, unwrap_or}
use Rattle.rss_base.specs.DiskRule.{Pages, page}
use Rattle.rss_base.specs.PageMap.{owner_of}
use Rattle.rss_base.specs.Paged.{Held, Fixed}
use Rattle.rss_base.specs.StoredPages.{slot_of}
use Rattle.rss_base.specs.declared.key.PageKey.{PageKey}
use Rattle.rss_frames.specs.Frames.{Frame, FrameOf}

-- what a read gives where the device tells it, and else no pages
abbrev pub told_pages : Option Pages → Pages
told_pages contents = unwrap_or contents []

-- what a page holds: what is in its frame, and else what is in its slot
abbrev pub held_in : Option Frame → List ℕ → List ℕ
held_in None slot = slot
held_in (Some frame) slot = frame.page

-- what each page of the map holds. The data slots begin at first.
abbrev pub held_by : ℕ → List (Option PageKey) → FrameOf → Option Pages → Held
held_by first owners frames contents key =
    option_map (λ slot. held_in (frames key) (page (told_pages contents) (first + slot)))
    (slot_of owners key)

-- a data slot that the shadow map doesn't use
abbrev pub is_loose : ℕ → List (Option PageKey) → ℕ → Bool
is_loose first shadow q = nat_le first q && not (is_some (owner_of shadow (q - first)))

-- what is fixed: all but those slots
abbrev pub fixed_by : ℕ → List (Option PageKey) → Option Pages → Fixed
fixed_by first shadow contents = record {
  size = length (told_pages contents);
  held_at = λ q. if is_loose first shadow q then None else Some (page (told_pages contents) q);
}
