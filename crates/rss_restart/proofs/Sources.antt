-- The records that tell the changes of a log, each at its position.
use Rattle.std.proofs.Common.{◌≡◌, ℕ, ◌+◌, List, [], ◌∷◌, ◌++◌, append_assoc, refl, sym, subst}
use Rattle.std.specs.Prelude.{Bool, true, false, not, ◌==◌, ◌||◌, ⊤}
use Rattle.std.specs.List.{AllByRecursion}
use Rattle.std.proofs.lemmas.Bool.{eq-eqb}
use Rattle.std.proofs.lemmas.List.{map-append}
use Rattle.rss_base.specs.Listings.{Listing}
use Rattle.rss_base.specs.LogRecords as bytes
use Rattle.rss_base.specs.LogRecords.{BeginsWith, record_size}
use Rattle.rss_base.specs.declared.change.Change as told
use Rattle.rss_base.specs.declared.log_record.LogRecord.{LogRecord}
use Rattle.rss_base.specs.declared.log_record.LogRecord.TheVariants as records
use Rattle.rss_log.specs.Logs.{LogView, HasRecords, bytes_from}
use Rattle.rss_log.proofs.LogViews.{listed as listed_stands}
use Rattle.rss_model.specs.Records.{LogEntry, Changed, Restore, End, Abort, Checkpoint, Listed, is_by, is_cut, listed, list_after}
use Rattle.rss_model.specs.Recovers.{lists_at}
use Rattle.rss_model.specs.Meanings.{Logged, Says, MeansIt, IsChangeTold, Means, is_listed, as_bytes, as_entries}
use Rattle.rss_model.specs.Meanings.Says.{says_change, says_restore, says_end, says_abort, says_checkpoint}
use Rattle.rss_model.proofs.LogLists.{all_filter, all_weaker}

-- ---- records where they stand

abbrev pub Stands : LogView → Logged → Type 0
Stands log l = BeginsWith (bytes_from log l.at) l.told (bytes_from log (l.at + record_size l.told))

abbrev placed_of : Logged → bytes.Placed
placed_of l = record { at = l.at; is = l.told }

stand_behind : (log : LogView) (before ls : List Logged) → HasRecords log (as_bytes (before ++ ls)) → AllByRecursion (Stands log) ls
stand_behind log before [] has = tt
stand_behind log before (l ∷ ls) has = (
  listed_stands log (as_bytes before) (as_bytes ls) (placed_of l) (subst (HasRecords log) (map-append placed_of before (l ∷ ls)) has),
  stand_behind log (before ++ l ∷ []) ls (subst (λ (ks : List Logged). HasRecords log (as_bytes ks)) (sym (append_assoc before (l ∷ []) ls)) has),
)

pub stand_all : (log : LogView) (ls : List Logged) → HasRecords log (as_bytes ls) → AllByRecursion (Stands log) ls
stand_all log ls has = stand_behind log [] ls has

-- ---- a change that is listed

-- the record at its position tells it, and means it
pub record IsSource (listing : Listing) (log : LogView) (l : Listed) : Type 0 where
  pub by : ℕ
  pub told_change : told.Change
  pub rest : List ℕ
  pub begins : BeginsWith (bytes_from log l.at) (records.Change by told_change) rest
  pub is : IsChangeTold listing by told_change l.change
  pub means : Means listing told_change l.change

-- what is said of the change of a record
abbrev pub OfChange : (Listed → Type 0) → ℕ → LogEntry → Type 0
OfChange P at (Changed c) = P (record { at = at; change = c })
OfChange P at (Restore t first) = ⊤
OfChange P at (End t) = ⊤
OfChange P at (Abort t) = ⊤
OfChange P at (Checkpoint named) = ⊤

module _ (P : Listed → Type 0) where
  listed_one : (ls : List Listed) (at : ℕ) (entry : LogEntry) → AllByRecursion P ls → OfChange P at entry → AllByRecursion P (listed ls at entry)
  listed_one ls at (Changed c) all here = (here, all)
  listed_one ls at (Restore t first) all here = all_filter P P (λ l. not (is_cut t first l)) ls (λ l off is. is) all
  listed_one ls at (End t) all here = all_filter P P (λ l. not (is_by t l)) ls (λ l off is. is) all
  listed_one ls at (Abort t) all here = all_filter P P (λ l. not (is_by t l)) ls (λ l off is. is) all
  listed_one ls at (Checkpoint named) all here = all

  -- what holds of each change of the records holds of each that is listed
  listed_all : (ls : List Listed) (older : List Logged) → AllByRecursion P ls → AllByRecursion (λ l. OfChange P l.at l.is) older → AllByRecursion P (list_after ls (as_entries older))
  listed_all ls [] all of = all
  listed_all ls (l ∷ older) all of = listed_all (listed ls l.at l.is) older (listed_one ls l.at l.is all of.0) of.1

-- what is in the lists, is in them
or_first : (a b : Bool) → a ≡ true → (a || b) ≡ true
or_first a b is = rw is

or_second : (a b : Bool) → b ≡ true → (a || b) ≡ true
or_second true b is = refl
or_second false b is = is

in_itself : (ls : List Listed) → AllByRecursion (λ l. is_listed l.at ls ≡ true) ls
in_itself [] = tt
in_itself (l ∷ ls) = (
  or_first (l.at == l.at) (is_listed l.at ls) (eq-eqb l.at l.at refl),
  all_weaker (λ k. is_listed k.at ls ≡ true) (λ k. is_listed k.at (l ∷ ls) ≡ true) ls (λ k is. or_second (l.at == k.at) (is_listed k.at ls) is) (in_itself ls),
)

all_given : (P Q : Listed → Type 0) (ls : List Listed) → AllByRecursion (λ l. Q l → P l) ls → AllByRecursion Q ls → AllByRecursion P ls
all_given P Q [] from all = tt
all_given P Q (l ∷ ls) from all = (from.0 all.0, all_given P Q ls from.1 all.1)

module _ (listing : Listing) (log : LogView) (ls : List Listed) where
  source_of : (at : ℕ) {r : LogRecord} {entry : LogEntry} (rest : List ℕ) → BeginsWith (bytes_from log at) r rest → Says listing r entry → (is_listed at ls ≡ true → MeansIt listing r entry) → OfChange (λ l. is_listed l.at ls ≡ true → IsSource listing log l) at entry
  source_of at rest begins (says_change {by = by} {told_change = told_change} tells) means = λ listed. record { by = by; told_change = told_change; rest = rest; begins = begins; is = tells; means = means listed }
  source_of at rest begins says_restore means = tt
  source_of at rest begins says_end means = tt
  source_of at rest begins says_abort means = tt
  source_of at rest begins says_checkpoint means = tt

  of_changes : (older : List Logged) → AllByRecursion (Stands log) older → AllByRecursion (λ l. Says listing l.told l.is) older → AllByRecursion (λ l. is_listed l.at ls ≡ true → MeansIt listing l.told l.is) older
      → AllByRecursion (λ l. OfChange (λ k. is_listed k.at ls ≡ true → IsSource listing log k) l.at l.is) older
  of_changes [] stand say mean = tt
  of_changes (l ∷ older) stand say mean = (source_of l.at (bytes_from log (l.at + record_size l.told)) stand.0 say.0 mean.0, of_changes older stand.1 say.1 mean.1)

-- each change that is listed has its record
pub sources : (listing : Listing) (log : LogView) (older : List Logged) → AllByRecursion (Stands log) older → AllByRecursion (λ l. Says listing l.told l.is) older → AllByRecursion (λ l. is_listed l.at (lists_at (as_entries older)) ≡ true → MeansIt listing l.told l.is) older
    → AllByRecursion (IsSource listing log) (lists_at (as_entries older))
sources listing log older stand say mean =
    let ls : List Listed = lists_at (as_entries older) in
    all_given (IsSource listing log) (λ l. is_listed l.at ls ≡ true) ls
    (listed_all (λ l. is_listed l.at ls ≡ true → IsSource listing log l) [] older tt (of_changes listing log ls older stand say mean))
    (in_itself ls)
