-- Restart: the pages have the tables of the log's last checkpoint before it, and those that the log recovers after it.
use Rattle.std.specs.Prelude.{◌≡◌, ℕ, ◌+◌, ◌*◌, ◌≤◌, ◌&&◌, if◌then◌else◌, List, [], ◌∷◌, map, length, option_map, unwrap_or, Result, Err, IsErrOf, OnOk}
use Rattle.rss_base.specs.DiskRule.{IsTold}
use Rattle.rss_base.specs.Faults.{Rises}
use Rattle.rss_base.specs.Sizes.{system_pages}
use Rattle.rss_base.specs.Steps.{PagesStep, no_page}
use Rattle.rss_base.specs.Listings.{Listing, ListingFits, relation_at}
use Rattle.rss_base.specs.declared.fault.PageFault.{PageFault}
use Rattle.rss_base.specs.declared.fault.PageFault.TheVariants.{Device as DeviceFailed, Damaged, NoMemory}
use Rattle.rss_base.specs.declared.name.Name.{Name}
use Rattle.rss_base.specs.declared.place.Place.{Place}
use Rattle.rss_log.specs.Logs.{LogView}
use Rattle.rss_model.specs.Tables.{Contents, Tables}
use Rattle.rss_model.specs.Meter.{changes_of}
use Rattle.rss_model.specs.Records.{changes_in}
use Rattle.rss_model.specs.Restart.{losers}
use Rattle.rss_model.specs.Recovers.{lists_at, Recovers, WayFits}
use Rattle.rss_model.specs.Meanings.{Logged, as_entries, is_redone, is_change_of, rootless, endless, IsLogged}
use Rattle.rss_model.specs.Spares.{listed_bound}
use Rattle.rss_stored.specs.Store.{SpellsTables}
use Rattle.rss_access.specs.Changes.{AccessView, alter_cost, Takes}
use Rattle.rss_entries.specs.Rooms.{image_places}
use Rattle.rss_access.specs.Written.{content_of, AreWritten}
use Rattle.rss_restart.specs.Surveys.{IsLogOf, IsLogPlace, redone_at}

-- saved: the tables of the checkpoint.
-- older, newer: the records of the log up to the checkpoint, and those from it on.
-- base: the contents that are recovered.
pub record Recovery : Type 0 where
  pub saved : Tables
  pub older : List Logged
  pub newer : List Logged
  pub base : Contents

-- the tables that are recovered
abbrev pub recovered_tables : Recovery → Tables
recovered_tables r = record r.saved { contents = r.base }

-- how many changes of these records are undone or done again
abbrev pub changes_made : List Logged → List Logged → ℕ
changes_made older newer =
    length (losers (as_entries newer) (lists_at (as_entries older))) + length (redone_at newer)

-- how many changes of a relation's tuples are done again, and how many are undone or done again
abbrev pub redone_of : List Logged → Name → ℕ
redone_of [] relation = 0
redone_of (l ∷ later) relation =
    if is_redone l.is l.at later && is_change_of relation l.is then redone_of later relation + 1
    else redone_of later relation

abbrev pub made_of : List Logged → List Logged → Name → ℕ
made_of older newer relation =
    changes_of (changes_in (losers (as_entries newer) (lists_at (as_entries older)))) relation
    + redone_of newer relation

-- how many entries the images of the relation of a number may come to have, with so many changes of its tuples
abbrev pub entries_with : Listing → (Name → ℕ) → ℕ → ℕ
entries_with listing changes number =
    unwrap_or (option_map (λ relation. relation.live + changes relation.name) (relation_at listing number)) 0

-- The pages spell the tables of the checkpoint by the catalog's listing, the log over these tables recovers the contents, all tables on the way fit, and there is room for two pages more at each change, beside those that images may come to have.
pub record CanRestart (at : AccessView) (log : LogView) (checkpoint : ℕ) (r : Recovery) : Type 0 where
  pub spells : SpellsTables at.pages.held at.catalog.listing r.saved
  pub records : IsLogOf at.catalog.listing log checkpoint r.older r.newer
  pub means : IsLogged at.catalog.listing (lists_at (as_entries r.older)) r.older r.newer
  pub recovers : Recovers r.saved.contents (as_entries r.older) (as_entries r.newer) r.base
  pub way : WayFits at.pages.slots r.saved (as_entries r.older) (as_entries r.newer)
  pub room : 2 * changes_made r.older r.newer
      + listed_bound at.catalog.listing (entries_with at.catalog.listing (made_of r.older r.newer))
      ≤ image_places at.pages

-- whatever the log recovers over the old pages, the new pages spell it
abbrev pub Recovered : LogView → ℕ → AccessView → AccessView → Type 0
Recovered log checkpoint old new =
    IsTold old.pages.disk → (r : Recovery) → CanRestart old log checkpoint r
    → SpellsTables new.pages.held new.catalog.listing (recovered_tables r)

-- it recovers nothing
abbrev pub NoneRecovered : LogView → ℕ → AccessView → Type 0
NoneRecovered log checkpoint at = (r : Recovery) → CanRestart at log checkpoint r → ⊥

-- What is kept of the catalog, whatever was done: its listing is sound still, it lists the same images, but for where their trees begin and how many levels they have, and the same links, but for the ends of their chains, and each of its pages that isn't to be written is as it spells it.
pub record KeepsCatalog (old new : AccessView) : Type 0 where
  pub fits : ListingFits old.catalog.listing → ListingFits new.catalog.listing
  pub images : map (option_map rootless) new.catalog.listing.images
      ≡ map (option_map rootless) old.catalog.listing.images
  pub links : map (option_map endless) new.catalog.listing.links
      ≡ map (option_map endless) old.catalog.listing.links
  pub places : length new.catalog.pending ≡ length old.catalog.pending
  pub written : IsTold old.pages.disk → length old.catalog.pending ≡ system_pages
      → AreWritten old.pages.held old.catalog → AreWritten new.pages.held new.catalog

-- What a restart passes on, by its result: it made so many changes in the pages of tuples and images, and no more than the log has to undo and to do again. At success it took two home or overflow pages at most for each. Each failure of the device has its cause, memory runs out only while nothing is changed yet, and what is damaged is a position of the log.
pub record RestartPasses {T : Type 0} (log : LogView) (checkpoint : ℕ) (old new : AccessView)
    (result : Result T PageFault) : Type 0 where
  pub made : ℕ
  pub most : (older newer : List Logged) → IsLogOf old.catalog.listing log checkpoint older newer
      → made ≤ changes_made older newer
  pub step : PagesStep (content_of old.catalog.listing) (made * alter_cost old.pages.slots)
      (made * alter_cost old.pages.slots) old.pages new.pages
  pub takes : OnOk result (Takes (2 * made) old.pages new.pages)
  pub keeps : KeepsCatalog old new
  pub failed : IsErrOf result DeviceFailed → Rises old.pages.faults new.pages.faults
  pub unmade : IsErrOf result NoMemory → PagesStep no_page 0 0 old.pages new.pages
  pub same : IsErrOf result NoMemory → new.catalog ≡ old.catalog
  pub place : (place : Place) → result ≡ Err (Damaged place) → IsLogPlace log place
