-- A change, a way back, an abort and an end keep the tie of a state to an engine's log.
use Rattle.std.proofs.Common.{◌≡◌, ◌+◌, List, [], ◌∷◌, ◌++◌, append_assoc, append-nil, refl, sym, ◌∙◌, ap, subst}
use Rattle.rss_base.specs.declared.log_record.LogRecord.{LogRecord}
use Rattle.rss_base.specs.declared.log_record.LogRecord.TheVariants as records
use Rattle.rss_base.specs.LogRecords.{record_size}
use Rattle.rss_record.proofs.Parsing.{some_bytes}
use Rattle.rss_model.specs.Tables.{Contents}
use Rattle.rss_model.specs.Changes.{own, others, theirs, kept_to, after}
use Rattle.rss_model.specs.Steps.{stamp_by}
use Rattle.rss_model.specs.Records.{LogEntry, Changed, Restore, End, Abort, Placed}
use Rattle.rss_model.specs.Meanings.{Logged, as_entries, says_change, says_restore, says_end, says_abort}
use Rattle.rss_model.specs.Ties.{pushed, saved, cut_own, Ties}
use Rattle.rss_model.specs.EngineLogs.{EngineLog, newer_logged, entries_of, lists_now, appended, written_out, HaveFields}
use Rattle.rss_stored.specs.LogLaws.{noted, ChangeTies, gone_back, all_back, RestoreTies, AbortTies, committed_now, EndTies}
use Rattle.rss_stored.proofs.LogPlaced.{entries_append}
use Rattle.rss_model.proofs.LogTying.{falls_last, ties_change, ties_restore, ties_abort, ties_end}
use Rattle.rss_stored.proofs.LogGrowing.{ties_grown}
use Rattle.rss_model.proofs.LogKeeping.{stamps_others}
use Rattle.rss_stored.proofs.LogCounting.{change_told_size, stamps_cut, meter_plain, meter_change}

module _ (log : EngineLog) (told : LogRecord) (entry : LogEntry) where
  abbrev last : Logged
  last = record { at = log.end; told = told; is = entry }

  entries_pushed : entries_of (appended log told entry) ≡ pushed (entries_of log) entry (record_size told)
  entries_pushed = λ i. record {
    head = log.head;
    older = as_entries log.older;
    written = as_entries log.written;
    pending = entries_append log.pending (last ∷ []) i;
    end = log.end + record_size told;
  }

  entries_saved : entries_of (written_out (appended log told entry)) ≡ saved (pushed (entries_of log) entry (record_size told))
  entries_saved = λ i. record {
    head = log.head;
    older = as_entries log.older;
    written = (entries_append log.written (log.pending ++ last ∷ []) ∙ ap (λ (ps : List Placed). as_entries log.written ++ ps) (entries_append log.pending (last ∷ []))) i;
    pending = [];
    end = log.end + record_size told;
  }

  grown : log.written ++ (log.pending ++ last ∷ []) ≡ newer_logged log ++ last ∷ []
  grown = sym (append_assoc log.written log.pending (last ∷ []))

  grown_out : (log.written ++ (log.pending ++ last ∷ [])) ++ [] ≡ newer_logged log ++ last ∷ []
  grown_out = append-nil (log.written ++ (log.pending ++ last ∷ [])) ∙ grown

pub change_ties : ChangeTies
change_ties listing at_checkpoint log state told_change change over is told_by tells only fit =
    let told : LogRecord = records.Change change.by told_change in
    let entry : LogEntry = Changed change in
    let ties : Ties state.base.contents (change ∷ state.changes) at_checkpoint.contents (entries_of (appended log told entry)) =
    subst (Ties state.base.contents (change ∷ state.changes) at_checkpoint.contents) (sym (entries_pushed log told entry))
    (ties_change is.ties change (record_size told) (some_bytes told) tells only) in
    ties_grown log told entry log.written (log.pending ++ last log told entry ∷ []) (grown log told entry)
    listing at_checkpoint state (noted change over state) is ties is.definitions refl fit told_by.spellable (says_change told_by.tells) told_by.means
    (meter_change log told change log.written (log.pending ++ last log told entry ∷ []) (grown log told entry) at_checkpoint.contents state.meter is.meter state.base.definitions over
    (change_told_size listing state.base.definitions (subst (HaveFields listing) (sym is.definitions) is.fields) change.by told_change change told_by.tells told_by.means))

pub restore_ties : RestoreTies
restore_ties listing at_checkpoint log state t n first over is stands formed fit =
    let told : LogRecord = records.Restore t first in
    let entry : LogEntry = Restore t first in
    let ties : Ties state.base.contents (cut_own t n state.changes) at_checkpoint.contents (entries_of (appended log told entry)) =
    subst (Ties state.base.contents (cut_own t n state.changes) at_checkpoint.contents) (sym (entries_pushed log told entry))
    (ties_restore is.ties t n first (record_size told) (some_bytes told) stands) in
    ties_grown log told entry log.written (log.pending ++ last log told entry ∷ []) (grown log told entry)
    listing at_checkpoint state (gone_back t n over state) is ties is.definitions refl fit formed says_restore tt
    (meter_plain log told entry log.written (log.pending ++ last log told entry ∷ []) (grown log told entry) at_checkpoint.contents state.meter is.meter
    (kept_to stamp_by t n state.meter.stamps) over refl (λ relation. refl)
    (ap (kept_to stamp_by t n) is.meter.stamps ∙ sym (stamps_cut t n first (lists_now log) (falls_last is.ties) stands)))

pub abort_ties : AbortTies
abort_ties listing at_checkpoint log state t over is formed fit =
    let told : LogRecord = records.Abort t in
    let entry : LogEntry = Abort t in
    let ties : Ties state.base.contents (others t state.changes) at_checkpoint.contents (entries_of (appended log told entry)) =
    subst (Ties state.base.contents (others t state.changes) at_checkpoint.contents) (sym (entries_pushed log told entry))
    (ties_abort is.ties t (record_size told) (some_bytes told)) in
    ties_grown log told entry log.written (log.pending ++ last log told entry ∷ []) (grown log told entry)
    listing at_checkpoint state (all_back t over state) is ties is.definitions refl fit formed says_abort tt
    (meter_plain log told entry log.written (log.pending ++ last log told entry ∷ []) (grown log told entry) at_checkpoint.contents state.meter is.meter
    (theirs stamp_by t state.meter.stamps) over refl (λ relation. refl)
    (ap (theirs stamp_by t) is.meter.stamps ∙ sym (stamps_others t (lists_now log))))

pub end_ties : EndTies
end_ties listing at_checkpoint log state t is formed fit =
    let told : LogRecord = records.End t in
    let entry : LogEntry = End t in
    let base : Contents = after state.base.contents (own t state.changes) in
    let written : List Logged = log.written ++ (log.pending ++ last log told entry ∷ []) in
    let ties : Ties base (others t state.changes) at_checkpoint.contents (entries_of (written_out (appended log told entry))) =
    subst (Ties base (others t state.changes) at_checkpoint.contents) (sym (entries_saved log told entry))
    (ties_end is.ties t (record_size told) (some_bytes told)) in
    ties_grown log told entry written [] (grown_out log told entry)
    listing at_checkpoint state (committed_now t state) is ties is.definitions refl fit formed says_end tt
    (meter_plain log told entry written [] (grown_out log told entry) at_checkpoint.contents state.meter is.meter
    (theirs stamp_by t state.meter.stamps) state.meter.over refl (λ relation. refl)
    (ap (theirs stamp_by t) is.meter.stamps ∙ sym (stamps_others t (lists_now log))))
