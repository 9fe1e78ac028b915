-- What survives is done again.
use Rattle.std.proofs.Common.{◌≡◌, ℕ, ◌+◌, ◌≤◌, List, [], ◌∷◌, refl, arith}
use Rattle.std.specs.Prelude.{Bool, true, false, ◌&&◌, if◌then◌else◌, map}
use Rattle.std.specs.List.{AllByRecursion}
use Rattle.rss_base.specs.LogRecords.{BeginsWith, record_size}
use Rattle.rss_base.specs.declared.name.Name.{Name}
use Rattle.rss_base.specs.declared.change.Change as told
use Rattle.rss_base.specs.declared.log_record.LogRecord.{LogRecord}
use Rattle.rss_base.specs.declared.log_record.LogRecord.TheVariants as records
use Rattle.rss_log.specs.Logs.{bytes_from}
use Rattle.rss_model.specs.Tables.{Contents, Tables, content}
use Rattle.rss_model.specs.Changes.{Change, apply}
use Rattle.rss_model.specs.Meter.{counts_for}
use Rattle.rss_model.specs.Records.{LogEntry}
use Rattle.rss_model.specs.Restart.{FindsOld, FitWith, RedoFinds, RedoFits, redo, redone, survives}
use Rattle.rss_model.specs.Meanings.{Logged, Says, MeansIt, IsChangeTold, Means, RedoneMean, is_change_of, is_redone, as_entries}
use Rattle.rss_model.specs.Meanings.Says.{says_change, says_restore, says_end, says_abort, says_checkpoint}
use Rattle.rss_model.proofs.Counts.{one_if}
use Rattle.rss_restart.specs.declared.restarting.Way.TheVariants.{Again}
use Rattle.rss_restart.specs.Surveys.{redone_at}
use Rattle.rss_restart.specs.Restarting.{redone_of}
use Rattle.rss_restart.specs.Walks.{turn}
use Rattle.rss_restart.proofs.Runs.{Ground, Runs, runs_none, runs_more}
use Rattle.rss_restart.proofs.Sources.{Stands}

abbrev with : Tables → Contents → Tables
with saved contents = record saved { contents = contents }

-- one more where it counts
one_counted : (b : Bool) (n : ℕ) → one_if b + n ≤ (if b then n + 1 else n)
one_counted true n = omega arith
one_counted false n = omega arith

module _ (ground : Ground) (saved : Tables) where
  -- a change that survives or doesn't
  redo_change : (next : Tables) (contents : Contents) (at by : ℕ) (told_change : told.Change) (change : Change) (rest : List ℕ) (positions : List ℕ) (counts : Name → ℕ) → BeginsWith (bytes_from ground.log at) (records.Change by told_change) rest → IsChangeTold ground.listing by told_change change
      → (does : Bool) → (does ≡ true → Means ground.listing told_change change) → (does ≡ true → content contents change.item ≡ change.old) → FitWith ground.slots saved contents
      → Runs ground (with saved (if does then apply contents change else contents)) next (map (turn Again) positions) counts
      → Runs ground (with saved contents) next (map (turn Again) (if does then at ∷ positions else positions)) (λ relation. if does && counts_for change.item relation then counts relation + 1 else counts relation)
  redo_change next contents at by told_change change rest positions counts begins tells true means finds fit runs =
      runs_more counts (λ relation. if counts_for change.item relation then counts relation + 1 else counts relation) (record { next = turn Again at; told_change = told_change; change = change })
      (record {
        tells = record { by = by; rest = rest; begins = begins };
        is = record { maker = refl; item = tells.item };
        means = means refl;
      })
      (finds refl) fit (λ relation. one_counted (counts_for change.item relation) (counts relation)) runs
  redo_change next contents at by told_change change rest positions counts begins tells false means finds fit runs = runs

  redo_one : (next : Tables) (contents : Contents) (at : ℕ) {r : LogRecord} {entry : LogEntry} (later : List Logged) (rest : List ℕ) → BeginsWith (bytes_from ground.log at) r rest → Says ground.listing r entry → (is_redone entry at later ≡ true → MeansIt ground.listing r entry)
      → FindsOld contents at entry (as_entries later) → FitWith ground.slots saved contents
      → Runs ground (with saved (redo contents at entry (as_entries later))) next (map (turn Again) (redone_at later)) (redone_of later)
      → Runs ground (with saved contents) next (map (turn Again) (if is_redone entry at later then at ∷ redone_at later else redone_at later)) (λ relation. if is_redone entry at later && is_change_of relation entry then redone_of later relation + 1 else redone_of later relation)
  redo_one next contents at later rest begins (says_change {by = by} {told_change = told_change} {made = made} tells) means finds fit runs =
      redo_change next contents at by told_change made rest (redone_at later) (redone_of later) begins tells (survives made.by at (as_entries later)) means finds fit runs
  redo_one next contents at later rest begins says_restore means finds fit runs = runs
  redo_one next contents at later rest begins says_end means finds fit runs = runs
  redo_one next contents at later rest begins says_abort means finds fit runs = runs
  redo_one next contents at later rest begins says_checkpoint means finds fit runs = runs

  -- each redo is a change that is made
  pub redo_runs : (contents : Contents) (newer : List Logged) → AllByRecursion (Stands ground.log) newer → AllByRecursion (λ l. Says ground.listing l.told l.is) newer → RedoneMean ground.listing newer
      → RedoFinds contents (as_entries newer) → RedoFits ground.slots saved contents (as_entries newer)
      → Runs ground (with saved contents) (with saved (redone contents (as_entries newer))) (map (turn Again) (redone_at newer)) (redone_of newer)
  redo_runs contents [] stand say mean finds fit = runs_none fit
  redo_runs contents (l ∷ later) stand say mean finds fit =
      redo_one (with saved (redone contents (as_entries (l ∷ later)))) contents l.at later (bytes_from ground.log (l.at + record_size l.told)) stand.0 say.0 mean.0 finds.0 fit.0
      (redo_runs (redo contents l.at l.is (as_entries later)) later stand.1 say.1 mean.1 finds.1 fit.1)
