-- What C's calls do to a handle.
use Rattle.std.specs.Prelude.{◌≡◌, ◌⊎◌, ℕ, ◌≤◌, Bool, true, false, List, length, slice_get, Option, None, Some, IfSome, IsSome, Result, Ok, Err}
use Rattle.rss_base.specs.Faults.{Rises}
use Rattle.rss_base.specs.Streams.{Stream, TakesFront}
use Rattle.rss_device.specs.StepDevice.{view_of}
use Rattle.rss_model.specs.Generator.{generated, most_employees}
use Rattle.rss_top.specs.Exit.{exit_status}
use Rattle.rss_top.specs.Says.{Says}
use Rattle.rss_top.specs.declared.status.Status.{Status}
use Rattle.rss_top.specs.declared.status.Status.TheVariants.{Ok as Made, WriteFault, NoMemory}
use Rattle.rss_c.specs.Ends.{end_number, fault_status, line_of}
use Rattle.rss_c.specs.Texts.{empty_text}
use Rattle.rss_c.specs.Stores.{device_in, AreRefused, HasCounts, HasNoStep, HasPage, IsLevelsOf, IsLineEnd, IsMadeOf, IsOpenedOn, IsUnmade, TakesStep}
use Rattle.rss_c.specs.declared.counts.RssCounts.{RssCounts}
use Rattle.rss_c.specs.declared.ended.Ended.{Ended}
use Rattle.rss_c.specs.declared.ended.Ended.TheVariants.{NotOpen, AlreadyOpen, NoLine}
use Rattle.rss_c.specs.declared.open_store.OpenStore.{OpenStore}
use Rattle.rss_c.specs.declared.open_store.Refused.{Refused}
use Rattle.rss_c.specs.declared.handle.RssStore.{RssStore}
use Rattle.rss_c.specs.declared.page.RssPage.{RssPage}
use Rattle.rss_c.specs.declared.step.RssStep.{RssStep}

-- the store that is open in a handle
abbrev pub held : RssStore → Option OpenStore
held handle = handle.kept.store

-- the number of a call's end
abbrev pub number_of : Result (Unit {0}) Ended → ℕ
number_of (Ok done) = 0
number_of (Err end) = end_number end

-- A store was made where none was open; or none was, with a fault; or one is open already.
pub data FormatsIn (slots log_pages number : ℕ) (before after : Option OpenStore) : Type 0 where
  made : (new : OpenStore) → before ≡ None → after ≡ Some new → IsMadeOf slots log_pages new
      → number ≡ exit_status Made
      → FormatsIn slots log_pages number before after
  unmade : (why : Refused) → before ≡ None → after ≡ None → IsUnmade slots log_pages why
      → number ≡ exit_status (fault_status why.fault)
      → FormatsIn slots log_pages number before after
  already : IsSome before → after ≡ before → number ≡ end_number AlreadyOpen
      → FormatsIn slots log_pages number before after

-- A store was opened where none was open; or none was, with a fault, and the program's line about it
-- was written; or one is open already.
pub data OpensIn (bytes : List ℕ) (text : Stream) (number : ℕ) (before after : Option OpenStore) : Type 0 where
  opened : (new : OpenStore) → before ≡ None → after ≡ Some new → IsOpenedOn bytes new
      → text ≡ empty_text → number ≡ exit_status Made
      → OpensIn bytes text number before after
  refused : (why : Refused) (status : Status) → before ≡ None → after ≡ None
      → AreRefused bytes why
      → Says (fault_status why.fault) (line_of (fault_status why.fault)) status empty_text text
      → number ≡ exit_status status
      → OpensIn bytes text number before after
  already : IsSome before → after ≡ before → text ≡ empty_text
      → number ≡ end_number AlreadyOpen
      → OpensIn bytes text number before after

-- A line was run over the store that is open, and the answer is the number of its end; or none is
-- open.
pub data RunsIn (line : List ℕ) (text : Stream) (number : ℕ) (before after : Option OpenStore) : Type 0 where
  over : (old new : OpenStore) (result : Result (Unit {0}) Ended)
      → before ≡ Some old → after ≡ Some new
      → IsLineEnd old new line text result → number ≡ number_of result
      → RunsIn line text number before after
  none : before ≡ None → after ≡ None → text ≡ empty_text → number ≡ end_number NotOpen
      → RunsIn line text number before after

-- a store is open that answers lines
abbrev pub is_up : Option OpenStore → Bool
is_up None = false
is_up (Some store) = store.up

-- A step was taken of the store that is open; or there was none, or none is open.
pub data TakesIn (step : RssStep) (found : Bool) (before after : Option OpenStore) : Type 0 where
  taken : (old new : OpenStore) → before ≡ Some old → after ≡ Some new → TakesStep old new step
      → found ≡ true
      → TakesIn step found before after
  none : after ≡ before → IfSome before HasNoStep → found ≡ false
      → TakesIn step found before after

-- A page is read where a store is open that has it.
abbrev pub ReadsIn : ℕ → RssPage → Bool → Option OpenStore → Type 0
ReadsIn at found there None = there ≡ false
ReadsIn at found true (Some store) = HasPage store at found
ReadsIn at found false (Some store) = (view_of (device_in store)).size ≤ at

-- A store is counted where one is open, and else nothing is changed.
abbrev pub CountsIn : RssCounts → RssCounts → Bool → Option OpenStore → Type 0
CountsIn old new found None = (found ≡ false) × (new ≡ old)
CountsIn old new found (Some store) = (found ≡ true) × HasCounts store new

-- the levels of an image, where a store is open
abbrev pub LevelsIn : List ℕ → ℕ → Option OpenStore → Type 0
LevelsIn name levels None = levels ≡ 0
LevelsIn name levels (Some store) = IsLevelsOf store name levels

-- a script is generated with so many employees
abbrev pub AreEmployees : ℕ → Type 0
AreEmployees count = (1 ≤ count) × (count ≤ most_employees)

-- a script with so many employees has so many lines, or there is none
pub record CountsGenerated (employees lines : ℕ) : Type 0 where
  pub some : AreEmployees employees → (number : ℕ) → lines ≡ length (generated number employees)
  pub none : (AreEmployees employees → ⊥) → lines ≡ 0

-- it is the line at this place of the script that is generated so
abbrev pub IsGeneratedLine : ℕ → ℕ → ℕ → List ℕ → Type 0
IsGeneratedLine number employees at line = slice_get (generated number employees) at ≡ Some line

-- A line of a generated script was written; or the text had no room behind its front; or memory ran out for it; or there is none.
pub data GeneratesAs (number employees at : ℕ) (text : Stream) (end : ℕ) : Type 0 where
  written : (line : List ℕ) → IsGeneratedLine number employees at line
      → text.bytes ≡ Some line → end ≡ exit_status Made
      → GeneratesAs number employees at text end
  cut : (line : List ℕ) → IsGeneratedLine number employees at line
      → TakesFront empty_text.bytes line text.bytes → Rises empty_text.faults text.faults
      → end ≡ exit_status WriteFault
      → GeneratesAs number employees at text end
  lacking : AreEmployees employees → text ≡ empty_text → end ≡ exit_status NoMemory
      → GeneratesAs number employees at text end
  none : (AreEmployees employees → slice_get (generated number employees) at ≡ None)
      → text ≡ empty_text → end ≡ end_number NoLine
      → GeneratesAs number employees at text end
