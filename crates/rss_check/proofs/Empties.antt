-- Segments that have no page: their entries are empty, and so they are linked.
use Rattle.std.proofs.Common.{◌≡◌, ℕ, List, None, Option, ap}
use Rattle.rss_base.specs.Paged.{Held, page_key}
use Rattle.rss_base.specs.declared.key.Space.{Space}
use Rattle.rss_page.specs.Content.{Empty}
use Rattle.rss_page.specs.Surveyed.{held_at}
use Rattle.rss_tuple.specs.Directory.{Entries, contents_in, content_at}
use Rattle.rss_tuple.specs.Heaps.{AreLinked}

-- an entry of a page that isn't mapped
pub entry_none : (held : Held) (segment : ℕ) (space : Space) (page slot : ℕ) → held (page_key segment space page) ≡ None → content_at held (page_key segment space page) slot ≡ Empty
entry_none held segment space page slot none = ap (λ (b : Option (List ℕ)). held_at (contents_in b) slot) none

pub linked_none : (home overflow : Entries) → ((page slot : ℕ) → home page slot ≡ Empty) → ((page slot : ℕ) → overflow page slot ≡ Empty) → AreLinked home overflow
linked_none home overflow none free = record {
  leads = λ page slot to_page to_slot is. let empty = none page slot in absurd (cc);
  led = λ page slot some. absurd (some (free page slot));
  once = λ page slot other_page other_slot to_page to_slot is other. let empty = none page slot in absurd (cc);
}
