-- How the calls of a store that is open end.
use Rattle.std.specs.Prelude.{◌≡◌, ◌⊎◌, ◌+◌, ◌-◌, ◌^◌, ◌<◌, ◌≤◌, ◌/◌, ◌%◌, ℕ, List, [], length, Option, Some, None, Result, Ok, Err, true, false}
use Rattle.std.specs.Simd.{first_chunks}
use Rattle.rss_base.specs.DiskRule.{Pages, Told, page}
use Rattle.rss_base.specs.Faults.{Rises}
use Rattle.rss_base.specs.Listings.{IsUnlisted}
use Rattle.rss_base.specs.Sizes.{page_bytes}
use Rattle.rss_base.specs.Streams.{Stream}
use Rattle.rss_base.specs.declared.fault.OpenFault.TheVariants.{Device as DeviceFailed, NotAStore, WrongSize, NoMemory}
use Rattle.rss_base.specs.declared.name.Name.{Name}
use Rattle.rss_base.specs.declared.place.Place.TheVariants.{Size}
use Rattle.rss_base.specs.declared.refusal.Kind.TheVariants.{Image}
use Rattle.rss_buffer.specs.Devices.{device_of, buffer_view}
use Rattle.rss_buffer.specs.Views.{pages_view}
use Rattle.rss_device.specs.StepDevice.{view_of, steps_of, gone_of, IsFresh}
use Rattle.rss_device.specs.Steps.{IsStep}
use Rattle.rss_device.specs.declared.step.Step.{Step}
use Rattle.rss_device.specs.declared.step_device.StepDevice.{StepDevice}
use Rattle.rss_stored.specs.Calls.{calls_most}
use Rattle.rss_model.specs.Machine.{State}
use Rattle.rss_model.specs.Meter.{room_number, log_room}
use Rattle.rss_model.specs.Script.{IsNameWord}
use Rattle.rss_model.specs.Tables.{no_tables}
use Rattle.rss_stored.specs.Store.{OpensTo}
use Rattle.rss_check.specs.Refused.{IsRefused}
use Rattle.rss_store.specs.Formatted.{AreSizes, HoldsFormatted}
use Rattle.rss_store.specs.Opening.{HasFrames}
use Rattle.rss_rsi.specs.Opening.{OpensOver}
use Rattle.rss_rsi.specs.Parts.{pages_below, session_of, view}
use Rattle.rss_rsi.specs.Scanning.{IsOfLevels}
use Rattle.rss_top.specs.Lines.{View, seen_with, RunsLine}
use Rattle.rss_top.specs.Tellings.{told_by, plainly}
use Rattle.rss_top.specs.Says.{Says}
use Rattle.rss_top.specs.declared.status.Status.{Status}
use Rattle.rss_top.specs.declared.status.Status.TheVariants.{DeviceFault, TooLong}
use Rattle.rss_c.specs.Ends.{line_of}
use Rattle.rss_c.specs.Steps.{HasStep}
use Rattle.rss_c.specs.Texts.{empty_text}
use Rattle.rss_c.specs.declared.counts.RssCounts.{RssCounts}
use Rattle.rss_c.specs.declared.ended.Ended.{Ended}
use Rattle.rss_c.specs.declared.ended.Ended.TheVariants.{As, Stopped}
use Rattle.rss_c.specs.declared.open_store.OpenStore.{OpenStore}
use Rattle.rss_c.specs.declared.open_store.Refused.{Refused}
use Rattle.rss_c.specs.declared.page.RssPage.{RssPage}
use Rattle.rss_c.specs.declared.step.RssStep.{RssStep}

-- the device under a store
abbrev pub device_in : OpenStore → StepDevice
device_in store = device_of (pages_below store.engine)

-- ---- an opening

-- how many pages of a store are in memory at most (`MOST_FRAMES`)
abbrev pub most_frames : ℕ
most_frames = 1024

-- A store that was just opened over a device. It answers lines, no variable stands for anything, and no
-- step was taken.
pub record IsOver (device : StepDevice) (store : OpenStore) : Type 0 where
  pub opened : OpensOver (view_of device) (view_of (device_in store)) (view store.engine)
  pub frames : HasFrames most_frames (pages_view (buffer_view (pages_below store.engine)))
  pub up : store.up ≡ true
  pub names : store.names.variables ≡ []
  pub next : store.next ≡ 0

-- these bytes are whole pages
abbrev pub AreWhole : List ℕ → Type 0
AreWhole bytes = length bytes % page_bytes ≡ 0

-- the pages of which they are
abbrev pub pages_in : List ℕ → Pages
pages_in bytes = first_chunks page_bytes (length bytes / page_bytes) bytes

-- It was opened over a device of these bytes, all synced.
pub record IsOpenedOn (bytes : List ℕ) (store : OpenStore) : Type 0 where
  pub whole : AreWhole bytes
  pub device : StepDevice
  pub fresh : IsFresh (pages_in bytes) device
  pub over : IsOver device store

-- The device that was handed back has failed: its count of faults rose, from so many on, or a step of it is gone, of which none was taken.
abbrev pub HasFailed : ℕ → Option StepDevice → Type 0
HasFailed faults None = ⊥
HasFailed faults (Some back) = Rises faults (view_of back).faults ⊎ (0 < gone_of back)

-- a fault of a device is told only if this one has failed
abbrev pub FailsFor : StepDevice → Refused → Type 0
FailsFor device why = why.fault ≡ DeviceFailed → HasFailed (view_of device).faults why.device

-- These bytes don't open, and why. The device of their pages began with no faults.
pub record AreRefused (bytes : List ℕ) (why : Refused) : Type 0 where
  pub torn : (AreWhole bytes → ⊥) → why.fault ≡ NotAStore Size
  pub refused : AreWhole bytes → IsRefused (pages_in bytes) why.fault
  pub right_size : why.fault ≡ WrongSize → ⊥
  pub cause : why.fault ≡ DeviceFailed → HasFailed 0 why.device

-- It was opened over a device that was made an empty store of these sizes.
pub record IsMadeOf (slots log_pages : ℕ) (store : OpenStore) : Type 0 where
  pub sizes : AreSizes slots log_pages
  pub device : StepDevice
  pub formatted : HoldsFormatted slots log_pages (view_of device).disk
  pub opens : Told (view_of device).disk (λ pages.
      OpensTo pages (record { slots = slots; log_pages = log_pages }) no_tables)
  pub over : IsOver device store

-- No store was made, and why: no store has these sizes; or one has, and memory ran out, or the device failed, which began with no faults.
pub record IsUnmade (slots log_pages : ℕ) (why : Refused) : Type 0 where
  pub wrong : (AreSizes slots log_pages → ⊥) → why.fault ≡ WrongSize
  pub right : AreSizes slots log_pages → (why.fault ≡ NoMemory) ⊎ (why.fault ≡ DeviceFailed)
  pub cause : why.fault ≡ DeviceFailed → HasFailed 0 why.device

-- ---- a line

-- each step of its device is kept that wasn't taken
abbrev pub HasSteps : OpenStore → Type 0
HasSteps store = gone_of (device_in store) ≤ store.next

-- what there is to see of a store, with a text
abbrev pub seen_in : OpenStore → Stream → View (told_by plainly)
seen_in store text = seen_with store.names.variables (view store.engine) text

-- A line was run; or it failed, and the program's line about that was written; or a step is gone that wasn't taken, which is told as a fault of the device; or the store was asked for as many calls as it may be; or an earlier line has failed.
pub data IsLineEnd (old new : OpenStore) (line : List ℕ) (text : Stream) (result : Result (Unit {0}) Ended) : Type 0 where
  ran : result ≡ Ok tt → new.up ≡ true
      → RunsLine {T = Unit {0}} (seen_in old empty_text) (seen_in new text) line (Ok tt)
      → IsLineEnd old new line text result
  failed : (meant status : Status) (between : Stream) → result ≡ Err (As status) → new.up ≡ false
      → RunsLine {T = Unit {0}} (seen_in old empty_text) (seen_in new between) line (Err meant)
      → Says meant (line_of meant) status between text
      → HasSteps new
      → IsLineEnd old new line text result
  lost : result ≡ Err (As DeviceFault) → new.up ≡ false
      → (HasSteps new → ⊥) → text ≡ empty_text
      → IsLineEnd old new line text result
  too_many : result ≡ Err (As TooLong) → calls_most ≤ (view old.engine).calls
      → new ≡ old → text ≡ empty_text
      → IsLineEnd old new line text result
  stopped : result ≡ Err Stopped → old.up ≡ false
      → new ≡ old → text ≡ empty_text
      → IsLineEnd old new line text result

-- ---- a step

-- The step that was to be taken next is this one, and then the one behind it is.
pub record TakesStep (old new : OpenStore) (step : RssStep) : Type 0 where
  pub taken : Step
  pub there : IsStep (steps_of (device_in old)) old.next taken
  pub given : HasStep taken step
  pub next : new.next ≡ old.next + 1
  pub engine : new.engine ≡ old.engine
  pub names : new.names ≡ old.names
  pub up : new.up ≡ old.up

-- There is no next step: all were taken; or the store answers no lines, and it isn't kept; or its number is too large.
abbrev pub HasNoStep : OpenStore → Type 0
HasNoStep store =
    (length (steps_of (device_in store)) ≤ store.next)
    ⊎ (((store.up ≡ false) × (store.next < gone_of (device_in store))) ⊎ (store.next ≡ 2 ^ 64 - 1))

-- ---- what there is of it

-- its device reads so at this place
pub record HasPage (store : OpenStore) (at : ℕ) (found : RssPage) : Type 0 where
  pub within : at < (view_of (device_in store)).size
  pub bytes : Told (view_of (device_in store)).disk (λ pages. found.bytes ≡ page pages at)

-- what is counted of a store, by the clauses of its engine
pub record HasCounts (store : OpenStore) (counts : RssCounts) : Type 0 where
  pub pages : counts.pages ≡ (view_of (device_in store)).size
  pub calls : counts.calls ≡ (view store.engine).calls
  pub slots : counts.slots ≡ (view store.engine).slots
  pub room : (state : State) → (view store.engine).shows state
      → counts.room ≡ room_number state.base.definitions state.meter
  pub log_free : (view store.engine).is_up → (state : State) → (view store.engine).shows state
      → counts.log_free ≡ log_room state.size.log_pages state.meter

-- an image of the name that is written so has this many levels; or none is defined, and they are 0
pub data IsLevelsOf (store : OpenStore) (word : List ℕ) (levels : ℕ) : Type 0 where
  defined : (name : Name) → IsNameWord word name
      → IsOfLevels (session_of store.engine).store.catalog.listing name levels
      → IsLevelsOf store word levels
  none : ((name : Name) → IsNameWord word name
      → IsUnlisted Image (session_of store.engine).store.catalog.listing name) → levels ≡ 0
      → IsLevelsOf store word levels
