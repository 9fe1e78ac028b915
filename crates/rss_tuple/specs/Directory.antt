-- What the home and the overflow pages of a store say: what each of their entries holds, and which body stands at each identifier.
use Rattle.std.specs.Prelude.{ℕ, Bool, ◌&&◌, ◌==◌, if◌then◌else◌, List, [], Option, Some, None}
use Rattle.rss_base.specs.Paged.{Held, page_key}
use Rattle.rss_base.specs.declared.tid.Tid.{Tid}
use Rattle.rss_base.specs.declared.key.PageKey.{PageKey}
use Rattle.rss_base.specs.declared.key.Space.TheVariants.{Home, Overflow}
use Rattle.rss_page.specs.Content.{Content, Empty, Here, Forward}
use Rattle.rss_page.specs.Slotted.{entries}
use Rattle.rss_page.specs.Surveyed.{held_at}

-- ---- entries

-- what the entries of a page hold, of which there are none where it isn't mapped
abbrev pub contents_in : Option (List ℕ) → List Content
contents_in None = []
contents_in (Some bytes) = entries bytes

abbrev pub contents : Held → PageKey → List Content
contents held key = contents_in (held key)

-- what the entry of a slot holds: nothing where the page isn't mapped, and nothing from slot 128 on
abbrev pub content_at : Held → PageKey → ℕ → Content
content_at held key slot = held_at (contents held key) slot

-- the entries of one space of a segment, by the numbers of pages and by slots
abbrev pub Entries : Type 0
Entries = ℕ → ℕ → Content

abbrev pub homes : Held → ℕ → Entries
homes held segment page slot = content_at held (page_key segment Home page) slot

abbrev pub overflows : Held → ℕ → Entries
overflows held segment page slot = content_at held (page_key segment Overflow page) slot

-- ---- bodies

-- the body that stands in an entry
abbrev pub body_in : Content → Option (List ℕ)
body_in Empty = None
body_in (Here body) = Some body
body_in (Forward page slot) = None

-- the body that an entry of a home page has or leads to
abbrev pub body_by : Entries → Content → Option (List ℕ)
body_by overflow Empty = None
body_by overflow (Here body) = Some body
body_by overflow (Forward page slot) = body_in (overflow page slot)

-- the identifier of a page and a slot
abbrev pub tid_at : ℕ → ℕ → Tid
tid_at page slot = record { page = page; slot = slot }

-- the body at each identifier of each segment, where there is one
abbrev pub Bodies : Type 0
Bodies = ℕ → Tid → Option (List ℕ)

abbrev pub bodies_of : Held → Bodies
bodies_of held segment tid = body_by (overflows held segment) (homes held segment tid.page tid.slot)

abbrev pub is_same_tid : Tid → Tid → Bool
is_same_tid a b = (a.page == b.page) && (a.slot == b.slot)

-- the same bodies, but that this identifier of this segment has this one, or none
abbrev pub with_body : Bodies → ℕ → Tid → Option (List ℕ) → Bodies
with_body bodies segment tid body other_segment other =
    if (other_segment == segment) && is_same_tid other tid then body else bodies other_segment other
