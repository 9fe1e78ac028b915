-- What is read from a log, and what is to be done by it.
use Rattle.std.proofs.Common.{◌≡◌, ℕ, ◌+◌, ◌≤◌, List, [], ◌∷◌, ◌++◌, map, reverse, sym, ◌∙◌, ap, subst, arith}
use Rattle.std.specs.Prelude.{Bool, true, false, if◌then◌else◌, nat_le, nat_lt, All}
use Rattle.std.specs.List.{AllByRecursion}
use Rattle.std.proofs.lemmas.List.{map-append}
use Rattle.std.proofs.lemmas.List.Elements.{All-from_recursion, All-head, All-tail, All-map, All-filter}
use Rattle.std.proofs.lemmas.List.Sorted.{All-permutation, IsPermutation-reverse}
use Rattle.rss_base.specs.Listings.{Listing}
use Rattle.rss_base.specs.declared.log_record.LogRecord.{LogRecord}
use Rattle.rss_base.specs.declared.log_record.LogRecord.TheVariants as records
use Rattle.rss_base.specs.LogRecords.{record_size, Placed, BeginsWith}
use Rattle.rss_log.specs.Logs.{LogView, IsLog, HasRecords, bytes_from}
use Rattle.rss_record.proofs.Parsing.{placed_length}
use Rattle.rss_model.specs.Meanings.{Logged, Says, as_bytes}
use Rattle.rss_model.proofs.LogLists.{all_front, all_back, all_append}
use Rattle.rss_restart.specs.declared.survey.walk.Placed.{Placed as PlacedEvent}
use Rattle.rss_restart.specs.declared.survey.walk.Kept.{Kept}
use Rattle.rss_restart.specs.Events.{every, front, kept_at, kept_in, lost, position, surviving_in, surviving_below, listed_in, undone_in, redone_in}
use Rattle.rss_restart.specs.Reading.{Stand, Reads, event_told, event_at}
use Rattle.rss_restart.specs.Surveys.{IsLogOf, Surveys, IsChangeAt}
use Rattle.rss_restart.proofs.Standing.{first_begins, rest_stand, older_stand, later_stand, stand_once}
use Rattle.rss_restart.proofs.Deciding.{all_low, undone_are, redone_are}

by_recursion : {X : Type 0} (P : X → Type 0) (xs : List X) → All P xs → AllByRecursion P xs
by_recursion P [] all = tt
by_recursion P (x ∷ xs) all = (All-head P x xs all, by_recursion P xs (All-tail P x xs all))

-- ---- where changes stand

module _ (log : LogView) where
  abbrev Stands : Kept → Type 0
  Stands k = IsChangeAt log k.at

  if_kept : (b : Bool) (k : Kept) → Stands k → AllByRecursion Stands (if b then k ∷ [] else [])
  if_kept true k is = (is, tt)
  if_kept false k is = tt

  change_stands : (at : ℕ) (r : LogRecord) (rest : List ℕ) (f : ℕ → ℕ) → log.head ≤ at → at ≤ log.end → BeginsWith (bytes_from log at) r rest → AllByRecursion Stands (kept_at at (event_told r) f)
  change_stands at (records.Change by change) rest f low high begins = if_kept (nat_lt at (f by)) (record { at = at; by = by }) (record { low = low; high = high; by = by; change = change; rest = rest; begins = begins })
  change_stands at (records.Restore by first) rest f low high begins = tt
  change_stands at (records.End by) rest f low high begins = tt
  change_stands at (records.Abort by) rest f low high begins = tt
  change_stands at (records.Checkpoint marks) rest f low high begins = tt

  changes_stand : (ended : ℕ) (behind : ℕ → ℕ) (from until : ℕ) (ps : List Placed) → log.head ≤ from → until ≤ log.end → Stand log from ps until → AllByRecursion Stands (kept_in ended behind (map event_at ps))
  changes_stand ended behind from until [] low high stand = tt
  changes_stand ended behind from until (p ∷ ps) low high stand =
      let rest = rest_stand log from until p ps low stand in
      let at : from ≡ p.at = sym stand.placed.0 in
      all_append Stands (kept_in ended behind (map event_at ps)) (kept_at p.at (event_told p.is) (front ended behind (map event_at ps)))
      (changes_stand ended behind (from + record_size p.is) until ps (omega (arith, low)) high rest)
      (subst (λ (n : ℕ). AllByRecursion Stands (kept_at n (event_told p.is) (front ended behind (map event_at ps)))) at
      (change_stands from p.is (bytes_from log (from + record_size p.is)) (front ended behind (map event_at ps)) low (omega (arith, high, placed_length (from + record_size p.is) until ps stand.placed.2)) (first_begins log from until p ps low stand)))

  kept_stand : (ended : ℕ) (behind : ℕ → ℕ) (from until : ℕ) (es : List PlacedEvent) → log.head ≤ from → until ≤ log.end → Reads log from until es → All Stands (kept_in ended behind es)
  kept_stand ended behind from until es low high reads =
      All-from_recursion Stands (kept_in ended behind es) (subst (λ (fs : List PlacedEvent). AllByRecursion Stands (kept_in ended behind fs)) (sym reads.is) (changes_stand ended behind from until reads.ps low high reads.stand))

  pub undone_stand : (from until : ℕ) (es fs : List PlacedEvent) → log.head ≤ from → until ≤ log.end → Reads log from until es → All (IsChangeAt log) (undone_in es fs)
  undone_stand from until es fs low high reads =
      All-map (IsChangeAt log) position (lost (surviving_below fs) (listed_in es)) (All-filter (λ k. nat_le (surviving_below fs k.by) k.at) Stands (listed_in es) (kept_stand 0 (λ t. every) from until es low high reads))

  pub redone_stand : (from until : ℕ) (fs : List PlacedEvent) → log.head ≤ from → until ≤ log.end → Reads log from until fs → All (IsChangeAt log) (redone_in fs)
  redone_stand from until fs low high reads =
      All-map (IsChangeAt log) position (reverse (surviving_in fs)) (All-permutation Stands (surviving_in fs) (reverse (surviving_in fs)) (IsPermutation-reverse (surviving_in fs)) (kept_stand every (λ t. 0) from until fs low high reads))

-- ---- what is to be done

module _ (listing : Listing) (log : LogView) (checkpoint : ℕ) (older newer : List Logged) (is : IsLog log) (low : log.head ≤ checkpoint) (high : checkpoint ≤ log.end) (of : IsLogOf listing log checkpoint older newer) where
  parted : HasRecords log (as_bytes older ++ as_bytes newer)
  parted = subst (HasRecords log) (map-append (λ (l : Logged). record { at = l.at; is = l.told }) older newer) of.records

  pub older_stands : Stand log log.head (as_bytes older) checkpoint
  older_stands = older_stand log (as_bytes older) (as_bytes newer) checkpoint is parted of.placed

  pub newer_stands : Stand log checkpoint (as_bytes newer) log.end
  newer_stands = later_stand log (as_bytes older) (as_bytes newer) checkpoint is parted of.placed

  told : AllByRecursion (λ l. Says listing l.told l.is) (older ++ newer)
  told = by_recursion (λ l. Says listing l.told l.is) (older ++ newer) of.say

  events_once : (from until : ℕ) (es : List PlacedEvent) (ps : List Placed) → log.head ≤ from → Reads log from until es → Stand log from ps until → es ≡ map event_at ps
  events_once from until es ps above reads stand = reads.is ∙ ap (map event_at) (sym (stand_once log from until reads.ps ps above reads.stand stand))

  pub surveyed : (es fs : List PlacedEvent) → Reads log log.head checkpoint es → Reads log checkpoint log.end fs → Surveys older newer (undone_in es fs) (redone_in fs)
  surveyed es fs first second =
      let olds : es ≡ map event_at (as_bytes older) = events_once log.head checkpoint es (as_bytes older) (omega arith) first older_stands in
      let news : fs ≡ map event_at (as_bytes newer) = events_once checkpoint log.end fs (as_bytes newer) low second newer_stands in
      let old_told = all_front (λ l. Says listing l.told l.is) older newer told in
      let new_told = all_back (λ l. Says listing l.told l.is) older newer told in
      let old_low = all_low log.head checkpoint older of.placed (omega (arith, high, is.ring.limit)) in
      let new_low = all_low checkpoint log.end newer newer_stands.placed (omega (arith, is.ring.limit)) in
      record {
        undone_is = (λ i. undone_in (olds i) (news i)) ∙ undone_are listing older newer old_told new_told old_low;
        redone_is = ap redone_in news ∙ redone_are listing newer new_told new_low;
      }
