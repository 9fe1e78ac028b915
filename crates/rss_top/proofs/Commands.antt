-- What the words ask for, and how it ends.
use Rattle.std.proofs.Common.{◌≡◌, ◌⊎◌, inl, inr, ℕ, List, [], refl, sym, ◌∙◌, ap, subst, arith}
use Rattle.std.specs.Prelude.{Some, slice_index_or}
use Rattle.std.proofs.lemmas.Fmt.{decimal_injective}
use Rattle.rss_base.specs.Devices.{DeviceView}
use Rattle.rss_base.specs.Faults.{Rises}
use Rattle.rss_base.specs.Streams.{Stream}
use Rattle.rss_base.proofs.Flows.{takes_none}
use Rattle.rss_base.proofs.Moments.{reads_none}
use Rattle.rss_model.specs.Generator.{generated}
use Rattle.rss_model.specs.Script.{joined}
use Rattle.rss_check.proofs.Refused.{unopened_memory}
use Rattle.rss_store.specs.Formatted.{AreSizes}
use Rattle.rss_store.proofs.Unopened.{handed_back}
use Rattle.rss_words.specs.Words.{AreFormat, AskFor, IsCommand}
use Rattle.rss_words.specs.declared.command.Command.{Command}
use Rattle.rss_words.specs.declared.command.Command.TheVariants.{OnFile, Format, Generate, Trial}
use Rattle.rss_words.specs.declared.task.Task.TheVariants.{Run, Talk}
use Rattle.rss_top.specs.Lines.{on}
use Rattle.rss_top.specs.Generated.{WritesLines, IsUntouched}
use Rattle.rss_top.specs.Manners.{Manner}
use Rattle.rss_top.specs.Tellings.{told_by, plainly, talking}
use Rattle.rss_top.specs.Programs.{IsScriptRun, IsUnread, IsProgram}
use Rattle.rss_top.specs.Programs.IsProgram.{runs, talks, formats, generates, tries}
use Rattle.rss_top.specs.declared.status.Status.{Status}
use Rattle.rss_top.specs.declared.status.Status.TheVariants.{Ok, WriteFault, NoMemory, WrongSize}
use Rattle.rss_top.proofs.Openings.{lacked_opening}

-- ---- one command

-- they ask for one size
pub sizes_once : {words : List (List ℕ)} {slots log_pages n g : ℕ} → AreFormat words slots log_pages → AreFormat words n g → (slots ≡ n) × (log_pages ≡ g)
sizes_once {slots = slots} {log_pages = log_pages} {n = n} {g = g} one other =
    let same = sym one.spelled ∙ other.spelled in (
      decimal_injective slots n one.slots_fit other.slots_fit (ap (λ (w : List (List ℕ)). slice_index_or w 3 []) same),
      decimal_injective log_pages g one.log_pages_fit other.log_pages_fit (ap (λ (w : List (List ℕ)). slice_index_or w 4 []) same),
    )

-- ---- the device is as it was

pub untouched : (device : DeviceView) (old new : Stream) → IsUntouched (on device old) (on device new)
untouched device old new = record { contents = refl; moment = refl; images = λ t image. ((λ left. left), (λ left. left)); writes = refl; faults = refl }

-- ---- a script that is generated

pub all_written : {lines : List (List ℕ)} {old new : Stream} (status : Status) → WritesLines lines status old new → (Rises old.faults new.faults → ⊥) → (status ≡ Ok) ⊎ (status ≡ NoMemory)
all_written Ok writes sink = inl refl
all_written NoMemory writes sink = inr refl
all_written WriteFault writes sink = absurd (sink writes.ends.1)
all_written status writes sink = absurd writes.ends

-- ---- words that memory ran out for

-- a size that a store can have is no other
pub size_fits : {words : List (List ℕ)} {slots log_pages : ℕ} → AreFormat words slots log_pages → AreSizes slots log_pages → IsUnread words NoMemory
size_fits {log_pages = log_pages} are sizes n g other =
    let same = sizes_once are other in
    subst (λ (m : ℕ). AreSizes n m) same.1 (subst (λ (m : ℕ). AreSizes m log_pages) same.0 sizes)

module _ (words : List (List ℕ)) (device : DeviceView) (sink source : Stream) where
  -- no store was opened, and no script read
  unopened : (manner : Manner) (sink source : Stream) → IsScriptRun manner NoMemory (on device sink) (on device sink) source source
  unopened manner sink source = lacked_opening manner (handed_back (unopened_memory device) (λ is. absurd (cc)) (reads_none device)) sink sink source refl

  -- the device, the sink and the source are as they were
  abbrev ends_with : Status → Type 0
  ends_with status = IsProgram words status (on device sink) (on device sink) source source

  lacked : (command : Command) → AskFor words command → IsUnread words NoMemory → ends_with NoMemory
  lacked (OnFile Run) are unread = runs are (unopened (told_by plainly) sink source)
  lacked (OnFile Talk) are unread = talks are (unopened (told_by talking) sink source)
  lacked (Format slots log_pages) are unread = formats are (record {
    ends = refl;
    told = ((λ told. told), (λ told. told));
    wrong = λ not. absurd (not (unread slots log_pages are));
    complete = λ fit sink device. inr refl;
  })
  lacked (Generate number count) are unread = generates are (record {
    writes = record { later = omega arith; ends = record { first = []; others = generated number count; parts = refl; takes = takes_none sink.bytes } };
    device = untouched device sink sink;
    unread = refl;
    complete = λ sink. inr refl;
  })
  lacked (Trial number count) are unread =
      let script : Stream = record { bytes = Some (joined (generated number count)); faults = 0 } in
      let replies : Stream = record { bytes = Some []; faults = 0 } in
      tries are (record {
        source_old = script;
        source_new = script;
        sink_old = replies;
        sink_new = replies;
        script = refl;
        none = refl;
        replies = [];
        kept = refl;
        ran = NoMemory;
        runs = unopened (told_by plainly) replies script;
        tells = record { same_status = refl; silent = refl };
        complete = λ size tables pages told opens sink device. inr refl;
      }) refl

  pub unread_ends : (status : Status) → IsCommand words → IsUnread words status → ends_with status
  unread_ends NoMemory good unread = lacked good.command good.asked unread
  unread_ends WrongSize good unread = formats unread.2 (record {
    ends = (unread.3, refl);
    told = ((λ told. told), (λ told. told));
    wrong = λ not. refl;
    complete = λ fit sink device. absurd (unread.3 fit);
  })
  unread_ends status good unread = absurd unread
