-- What comes of a change by the rules on room and on the log, as a session weighs it.
use Rattle.std.specs.Prelude.{◌≡◌, ℕ, ◌+◌, ◌*◌, ◌≤◌, ◌==◌, ◌&&◌, nat_le, nat_lt, Bool, true, false, if◌then◌else◌, List, length, Option, Some, None, Result, Ok, Err}
use Rattle.std.specs.FinMap.{entries, values}
use Rattle.rss_base.specs.DiskRule.{IsTold}
use Rattle.rss_base.specs.Sizes.{system_pages}
use Rattle.rss_base.specs.LogRecords.{record_size}
use Rattle.rss_base.specs.Paged.{mapped_of}
use Rattle.rss_base.specs.declared.key.Space.TheVariants.{Image}
use Rattle.rss_base.specs.declared.log_record.LogRecord.TheVariants as records
use Rattle.rss_base.specs.declared.refusal.Refusal.{Refusal}
use Rattle.rss_base.specs.declared.refusal.Refusal.TheVariants.{Full, LogFull}
use Rattle.rss_log.specs.Logs.{free_of}
use Rattle.rss_model.specs.Changes.{Change}
use Rattle.rss_model.specs.Machine.{State}
use Rattle.rss_model.specs.Meter.{change_size, free_between}
use Rattle.rss_model.specs.Rules.{Verdict, GoesOn, SavesFirst, NoRoom, NoLogRoom, ruling}
use Rattle.rss_model.specs.Spares.{listed_bound, live_of}
use Rattle.rss_trans.specs.Told.{IsNumbered}
use Rattle.rss_trans.specs.Transactions.{OpenView, transaction_in, of_relation, sums_of, marks_of}
use Rattle.rss_access.specs.Written.{heap_now}
use Rattle.rss_store.specs.Commits.{least_mark}
use Rattle.rss_session.specs.Sessions.{SessionView, few, most_in, sums_in, owed_for, owed_by}
use Rattle.rss_session.specs.Shown.{Shows}

-- ---- as it is

-- how many slots may be needed: by the pages of the heap at the last checkpoint, the changes that survived there, those since then, and the pages that images may have
abbrev pub room_of : ℕ → ℕ → ℕ → ℕ → ℕ
room_of heap surviving since images = 2 * (heap + 2 * surviving + 4 * since + images + system_pages)

-- how many entries images may have by the numbers of their relations, with a change more where it is one of a tuple: of the relation of this number
abbrev pub most_with : Option ℕ → (ℕ → ℕ) → ℕ → ℕ
most_with None most other = most other
most_with (Some number) most other = if number == other then most other + 2 else most other

-- how many pages images may have then
abbrev pub images_with : SessionView → Option ℕ → ℕ
images_with view number = listed_bound view.store.catalog.listing (most_with number (most_in view))

-- and how many slots may be needed
abbrev pub room_with : SessionView → Option ℕ → ℕ
room_with view number = room_of view.heap view.surviving (view.opened.since + 1) (images_with view number)

-- how many transactions have changes with one of t more
abbrev pub changers_with : OpenView → ℕ → ℕ
changers_with opened t =
    if nat_lt 0 (length (transaction_in opened t).changes) then (sums_in opened).q else (sums_in opened).q + 1

-- how many bytes of the log a change of t needs whose record has this size, with what is owed then
abbrev pub needed_with : SessionView → ℕ → ℕ → ℕ
needed_with view t size = size + owed_for ((sums_in view.opened).p + 1) (changers_with view.opened t)

-- ---- behind a checkpoint

-- what its record names
abbrev pub named : OpenView → List (ℕ × ℕ)
named opened = marks_of (entries opened.transactions)

-- the position from which on the log is kept, and the next one
abbrev pub saved_head : SessionView → ℕ
saved_head view = least_mark view.store.log.end (named view.opened)

abbrev pub saved_end : SessionView → ℕ
saved_end view = view.store.log.end + record_size (records.Checkpoint (named view.opened))

-- how many bytes the log has room for
abbrev pub saved_free : SessionView → ℕ
saved_free view = free_between view.store.log.pages (saved_head view) (saved_end view)

-- how many changes of a relation's tuples survive
abbrev pub survived_now : OpenView → ℕ → ℕ
survived_now opened number = few (sums_of (of_relation number) 0 (values opened.transactions)).p

-- how many entries an image of a relation may have
abbrev pub saved_most : SessionView → ℕ → ℕ
saved_most view number = live_of view.store.catalog.listing number + survived_now view.opened number

-- how many pages images may have, with a change more where it is one of a tuple
abbrev pub saved_images_with : SessionView → Option ℕ → ℕ
saved_images_with view number = listed_bound view.store.catalog.listing (most_with number (saved_most view))

-- how many slots may be needed, and how many with a change more
abbrev pub saved_room : SessionView → ℕ
saved_room view = room_of (heap_now view.store.pages) (sums_in view.opened).p 0 (saved_images_with view None)

abbrev pub saved_room_with : SessionView → Option ℕ → ℕ
saved_room_with view number = room_of (heap_now view.store.pages) (sums_in view.opened).p 1 (saved_images_with view number)

-- There are as many slots as may be needed, and images have no more pages than they may.
pub record HasSavedRoom (view : SessionView) : Type 0 where
  pub slots : saved_room view ≤ view.store.root.slots
  pub images : mapped_of view.store.pages.mapped Image view.store.pages.slots ≤ saved_images_with view None

-- a checkpoint leaves room in the log for what is owed
abbrev pub MaySave : SessionView → Type 0
MaySave view = owed_by view.opened ≤ saved_free view

-- ---- what comes of a change

abbrev pub goes_on : SessionView → ℕ → Option ℕ → ℕ → Bool
goes_on view t number size =
    nat_le (room_with view number) view.store.root.slots
    && nat_le (needed_with view t size) (free_of view.store.log)

-- It goes on as it is, or behind a checkpoint; or it is refused, with what is there and what is needed.
abbrev pub weighed_saved : SessionView → ℕ → Option ℕ → ℕ → Result Bool Refusal
weighed_saved view t number size =
    if nat_lt view.store.root.slots (saved_room_with view number)
    then Err (Full view.store.root.slots (saved_room_with view number))
    else (if nat_le (needed_with view t size) (saved_free view) then Ok true
    else Err (LogFull (saved_free view) (needed_with view t size)))

abbrev pub weighed : SessionView → ℕ → Option ℕ → ℕ → Result Bool Refusal
weighed view t number size = if goes_on view t number size then Ok false else weighed_saved view t number size

-- the same of a verdict of the machine: whether a checkpoint comes first
abbrev pub outcome : Verdict → Result Bool Refusal
outcome GoesOn = Ok false
outcome SavesFirst = Ok true
outcome (NoRoom slots needed) = Err (Full slots needed)
outcome (NoLogRoom free needed) = Err (LogFull free needed)

-- On a device that tells its contents this is how the machine rules on each change of t whose record has this size, of a tuple of the relation of this number where there is one, in each state in which the session may be.
abbrev pub RulesSo : SessionView → ℕ → Option ℕ → ℕ → Result Bool Refusal → Type 0
RulesSo view t number size result =
    IsTold view.store.pages.disk → (state : State) (change : Change)
    → change.by ≡ t → IsNumbered view.store.catalog.listing change.item number
    → change_size state.base.definitions change ≡ size → Shows view state → outcome (ruling state change) ≡ result
