-- That there is always room: two spare pages for each change that is made, undone or made again, beside those that images may need.
use Rattle.std.specs.Prelude.{◌≡◌, ℕ, ◌+◌, ◌-◌, ◌*◌, ◌≤◌, sum_by, Option, Some, None, option_map, unwrap_or}
use Rattle.std.specs.FinMap.{values}
use Rattle.rss_base.specs.PageMap.{page_count}
use Rattle.rss_base.specs.Paged.{mapped_of, mapped_pages}
use Rattle.rss_base.specs.Sizes.{system_pages}
use Rattle.rss_base.specs.Steps.{PagesView}
use Rattle.rss_base.specs.StoredPages.{mapped_by}
use Rattle.rss_base.specs.TupleTypes.{kinds, chosen, key_width}
use Rattle.rss_base.specs.Listings.{Listing, field_numbers, relation_at}
use Rattle.rss_base.specs.declared.key.Space.TheVariants.{Image}
use Rattle.rss_base.specs.declared.image.ImageEntry.{ImageEntry}
use Rattle.rss_base.specs.declared.relation.RelationEntry.{RelationEntry}
use Rattle.rss_model.specs.Tables.{Definitions}
use Rattle.rss_model.specs.Meter.{Meter, bound_of, pages_of_image, room_number}

-- ---- pages of the images of a listing

-- how many pages an image of this relation may have, where a relation's number gives how many entries its images have
abbrev pub bound_by : (ℕ → ℕ) → ImageEntry → Option RelationEntry → ℕ
bound_by entries image None = 0
bound_by entries image (Some relation) =
    bound_of (key_width (kinds (chosen (field_numbers image) relation.fields))) (entries image.relation)

abbrev pub bound_at : Listing → (ℕ → ℕ) → Option ImageEntry → ℕ
bound_at listing entries None = 0
bound_at listing entries (Some image) = bound_by entries image (relation_at listing image.relation)

-- and all images
abbrev pub listed_bound : Listing → (ℕ → ℕ) → ℕ
listed_bound listing entries = sum_by (bound_at listing entries) listing.images

-- how many tuples the relation of a number has
abbrev pub live_of : Listing → ℕ → ℕ
live_of listing number = unwrap_or (option_map (λ relation. relation.live) (relation_at listing number)) 0

-- ---- what is counted

-- heap: how many home and overflow pages there were at the last checkpoint.
-- surviving: how many changes of open transactions survived there.
-- since: how many changes were made since then, undone ones included.
-- images: how many pages images may have, by their entries at the last checkpoint and these changes.
pub record ChangeCounts : Type 0 where
  pub heap : ℕ
  pub surviving : ℕ
  pub since : ℕ
  pub images : ℕ

abbrev pub change_counts : Definitions → Meter → ChangeCounts
change_counts definitions meter = record {
  heap = meter.heap;
  surviving = meter.surviving;
  since = meter.since;
  images = sum_by (pages_of_image definitions meter) (values definitions.images);
}

-- slots: how many the store has.
-- saved: how many pages the last checkpoint has, each in a slot that is kept for it.
-- saved_images: how many of these are images'.
-- mapped: how many pages there are now, each in a slot of its own.
-- images: how many of these are images'.
-- spare: how many more can be taken.
pub record PageCounts : Type 0 where
  pub slots : ℕ
  pub saved : ℕ
  pub saved_images : ℕ
  pub mapped : ℕ
  pub images : ℕ
  pub spare : ℕ

abbrev pub page_counts : PagesView → PageCounts
page_counts pages = record {
  slots = pages.slots;
  saved = page_count pages.backing.shadow;
  saved_images = mapped_of (mapped_by pages.backing.shadow) Image pages.slots;
  mapped = mapped_pages pages.slots pages.mapped;
  images = mapped_of pages.mapped Image pages.slots;
  spare = pages.spare;
}

-- each slot is spare, or one page's
abbrev pub AreAllCounted : PageCounts → Type 0
AreAllCounted pages = pages.spare + pages.mapped + pages.saved ≡ pages.slots

-- there are as many slots as these changes may need
abbrev pub HasRoomFor : ChangeCounts → PageCounts → Type 0
HasRoomFor counts pages =
    2 * (counts.heap + 2 * counts.surviving + 4 * counts.since + counts.images + system_pages)
    ≤ pages.slots

-- Since the checkpoint, changes were made, undone or made again so many times, and each time took two home or overflow pages at most.
pub record HasMade (counts : ChangeCounts) (times : ℕ) (pages : PageCounts) : Type 0 where
  pub before : pages.saved ≤ counts.heap + system_pages + pages.saved_images
  pub now : pages.mapped ≤ counts.heap + system_pages + 2 * times + pages.images
  pub all : AreAllCounted pages

-- A restart undoes each change or makes it again, once at most.
abbrev pub times_in_restart : ChangeCounts → ℕ
times_in_restart counts = counts.surviving + counts.since

-- A session makes the changes since the checkpoint, and takes back each of these and of those that survived there, once at most.
abbrev pub times_in_session : ChangeCounts → ℕ
times_in_session counts = counts.since + (counts.surviving + counts.since)

-- Once more two home or overflow pages are taken at most. The checkpoint's pages keep their slots.
pub record TakesTwo (old new : PageCounts) : Type 0 where
  pub slots : new.slots ≡ old.slots
  pub saved : new.saved ≡ old.saved
  pub saved_images : new.saved_images ≡ old.saved_images
  pub mapped : new.mapped + old.images ≤ old.mapped + 2 + new.images
  pub all : AreAllCounted new

-- ---- laws

-- the room number is large enough
abbrev pub NumberLeavesRoom : Type 0
NumberLeavesRoom = (definitions : Definitions) (meter : Meter) (pages : PageCounts)
    → room_number definitions meter ≤ pages.slots → HasRoomFor (change_counts definitions meter) pages

-- There are two pages for each time that is still to come, and as many as images may need, their own among them, where at the checkpoint they had no more.
abbrev pub SparesTwo : (ChangeCounts → ℕ) → Type 0
SparesTwo most = (counts : ChangeCounts) (pages : PageCounts) (times more : ℕ)
    → HasRoomFor counts pages → HasMade counts times pages → pages.saved_images ≤ counts.images
    → times + more ≤ most counts → 2 * more + counts.images ≤ pages.spare + pages.images

-- and each time leaves it so
abbrev pub MakesOnceMore : Type 0
MakesOnceMore = (counts : ChangeCounts) (times : ℕ) (old new : PageCounts)
    → HasMade counts times old → TakesTwo old new → HasMade counts (times + 1) new

-- ---- what a session keeps

-- one change more since the checkpoint, with which images may need so many pages
abbrev pub with_one : ℕ → ChangeCounts → ChangeCounts
with_one images counts = record counts { since = counts.since + 1; images = images }

-- So many changes are listed, each of which may still be taken back. Without these a session has made the others of its times at most.
pub record IsInSession (counts : ChangeCounts) (listed : ℕ) (pages : PageCounts) : Type 0 where
  pub most : listed ≤ times_in_session counts
  pub made : HasMade counts (times_in_session counts - listed) pages

-- It begins at a checkpoint; a change is made; one is taken back; or some are listed no more.
abbrev pub SessionBegins : Type 0
SessionBegins = (counts : ChangeCounts) (pages : PageCounts) → HasMade counts 0 pages
    → IsInSession counts counts.surviving pages

abbrev pub SessionChanges : Type 0
SessionChanges = (counts : ChangeCounts) (images listed : ℕ) (old new : PageCounts)
    → IsInSession counts listed old → TakesTwo old new → IsInSession (with_one images counts) (listed + 1) new

abbrev pub SessionGoesBack : Type 0
SessionGoesBack = (counts : ChangeCounts) (listed : ℕ) (old new : PageCounts)
    → IsInSession counts (listed + 1) old → TakesTwo old new → IsInSession counts listed new

abbrev pub SessionForgets : Type 0
SessionForgets = (counts : ChangeCounts) (listed fewer : ℕ) (pages : PageCounts)
    → IsInSession counts listed pages → fewer ≤ listed → IsInSession counts fewer pages

-- there is room for taking back all that are listed
abbrev pub SparesForAll : Type 0
SparesForAll = (counts : ChangeCounts) (listed : ℕ) (pages : PageCounts)
    → HasRoomFor counts pages → IsInSession counts listed pages → pages.saved_images ≤ counts.images
    → 2 * listed + counts.images ≤ pages.spare + pages.images

-- and, where the next change is allowed, for it, and for taking back it and all that are listed
abbrev pub SparesForNext : Type 0
SparesForNext = (counts : ChangeCounts) (images listed : ℕ) (pages : PageCounts)
    → HasRoomFor (with_one images counts) pages → IsInSession counts listed pages → pages.saved_images ≤ images
    → 2 * (1 + (listed + 1)) + images ≤ pages.spare + pages.images
