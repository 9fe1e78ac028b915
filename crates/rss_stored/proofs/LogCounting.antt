-- What a meter counts of a log with one record more.
use Rattle.std.proofs.Common.{◌≡◌, ℕ, suc, ◌+◌, ◌<◌, ◌≤◌, Bool, true, false, nat_le, if◌then◌else◌, List, [], ◌∷◌, ◌++◌, length, map, Option, refl, sym, ◌∙◌, ap, arith}
use Rattle.std.specs.Prelude.{count_by, unwrap_or, None}
use Rattle.std.proofs.lemmas.List.{length-append}
use Rattle.std.proofs.lemmas.List.Sums.{sum_by-append, sum_by-cons}
use Rattle.std.proofs.lemmas.Bool.{eq-eqb}
use Rattle.std.proofs.lemmas.Bool.Decides.{nat_tests}
use Rattle.rss_base.specs.declared.name.Name.{Name}
use Rattle.rss_base.specs.declared.item.Item.{Item}
use Rattle.rss_base.specs.declared.change.Change as told
use Rattle.rss_base.specs.declared.change.Change.TheVariants.{Insert, Delete, Update, Connect, Disconnect}
use Rattle.rss_base.specs.declared.log_record.LogRecord.{LogRecord}
use Rattle.rss_base.specs.declared.log_record.LogRecord.TheVariants as records
use Rattle.rss_base.specs.LogRecords.{tid_bytes, place_bytes, sized_bytes, record_size}
use Rattle.rss_base.specs.Listings.{Listing}
use Rattle.rss_model.specs.Items.{Content}
use Rattle.rss_model.specs.Tables.{Contents, Definitions, fields_in}
use Rattle.rss_model.specs.Changes.{Change, mine, own, kept_to}
use Rattle.rss_model.specs.Meter.{Stamp, Traffic, Meter, told_size, change_size, counts_for, counted, with_record}
use Rattle.rss_model.specs.Steps.{stamp_by}
use Rattle.rss_model.specs.Records.{LogEntry, Changed, Listed, changes_in, is_by, cut, listed}
use Rattle.rss_model.specs.Meanings.{IsChangeTold, TellsValues, Means, Logged, is_change, is_change_of, traffic_of, name_at, nameless}
use Rattle.rss_model.specs.Ties.{StandsAt, here, older}
use Rattle.rss_model.specs.EngineLogs.{EngineLog, newer_logged, lists_saved, lists_now, stamp_of, IsMeterOf, HaveFields}
use Rattle.rss_model.proofs.Counts.{one_if}
use Rattle.rss_stored.proofs.Places.{length-place_bytes}
use Rattle.rss_model.proofs.Surviving.{Falls}
use Rattle.rss_model.proofs.LogLists.{by_test}
use Rattle.rss_model.proofs.LogRedoing.{below_more}
use Rattle.rss_model.proofs.LogKeeping.{cut_below, stands_below, stands_count}
use Rattle.rss_stored.proofs.LogGrowing.{with_newer, lists_grown}
use Rattle.rss_base.specs.TupleTypes.{kinds, tuple_bytes}
use Rattle.rss_base.specs.declared.relation.RelationEntry.{RelationEntry}
use Rattle.rss_base.specs.declared.value.FieldForm.{FieldForm}
use Rattle.rss_base.specs.declared.refusal.Kind.TheVariants.{Relation as RelationKind}
use Rattle.rss_stored.proofs.Spelled.{name_numbered}

-- ---- sizes

module _ (listing : Listing) (definitions : Definitions) (fields : HaveFields listing definitions) where
  size_at : (change : Change) (item : Item) → change.item ≡ item → change_size definitions change ≡ change_size definitions (record change { item = item })
  size_at change item is = ap (λ (i : Item). change_size definitions (record change { item = i })) is

  told_none : (number : ℕ) (held : Option Content) → held ≡ None → told_size definitions (name_at RelationKind listing number) held ≡ 0
  told_none number held is = ap (told_size definitions (name_at RelationKind listing number)) is

  told_values : {number : ℕ} {spelled : List ℕ} {held : Option Content} → TellsValues listing number spelled held → told_size definitions (name_at RelationKind listing number) held ≡ 2 + length spelled
  told_values {number = number} is =
      let named : name_at RelationKind listing number ≡ is.relation.name =
      ap (λ (o : Option Name). unwrap_or o (nameless number)) (name_numbered (λ (r : RelationEntry). r.name) listing.relations number is.relation is.at) in
      let kinds_are = ap (λ (n : Name). kinds (fields_in definitions n)) named ∙ ap kinds (fields number is.relation is.at) in
      omega (arith, ap (told_size definitions (name_at RelationKind listing number)) is.is, ap (λ (f : List FieldForm). length (tuple_bytes f is.values)) kinds_are, ap length is.spells.same)

  -- the record of a change has as many bytes as the meter counts
  pub change_told_size : (by : ℕ) (told_change : told.Change) (change : Change) → IsChangeTold listing by told_change change → Means listing told_change change
      → record_size (records.Change by told_change) ≡ change_size definitions change
  change_told_size by (Insert relation tid values) change tells means =
      omega (arith, size_at change _ tells.item, told_none relation change.old means.0, told_values means.1)
  change_told_size by (Delete relation tid values) change tells means =
      omega (arith, size_at change _ tells.item, told_none relation change.new means.1, told_values means.0)
  change_told_size by (Update relation tid values next) change tells means =
      omega (arith, size_at change _ tells.item, told_values means.0, told_values means.1, length-append values (sized_bytes next))
  change_told_size by (Connect link parent child left) change tells means =
      omega (arith, size_at change _ tells.item, length-append (place_bytes parent) (tid_bytes child ++ place_bytes left), length-place_bytes parent, length-place_bytes left)
  change_told_size by (Disconnect link parent child left) change tells means =
      omega (arith, size_at change _ tells.item, length-append (place_bytes parent) (tid_bytes child ++ place_bytes left), length-place_bytes parent, length-place_bytes left)

-- ---- stamps

mine_stamps : (t : ℕ) (ls : List Listed) → length (mine stamp_by t (map stamp_of ls)) ≡ length (own t (changes_in ls))
mine_stamps t [] = refl
mine_stamps t (l ∷ ls) = by_test (is_by t l)
    (λ e. rw e (ap suc (mine_stamps t ls)))
    (λ e. rw e (mine_stamps t ls))

kept_all : (t n : ℕ) (ls : List Listed) → length (own t (changes_in ls)) ≤ n → kept_to stamp_by t n (map stamp_of ls) ≡ map stamp_of ls
kept_all t n [] few = refl
kept_all t n (l ∷ ls) few = by_test (is_by t l)
    (λ e. let less : suc (length (own t (changes_in ls))) ≤ n = rw e at few in
    let mine_few : length (mine stamp_by t (map stamp_of ls)) ≡ length (own t (changes_in ls)) = mine_stamps t ls in
    let no : nat_le n (length (mine stamp_by t (map stamp_of ls))) ≡ false = grind (arith, nat_tests) in
    simp (e, no) (ap (λ (ss : List Stamp). stamp_of l ∷ ss) (kept_all t n ls (omega arith))))
    (λ e. let less : length (own t (changes_in ls)) ≤ n = rw e at few in simp e (ap (λ (ss : List Stamp). stamp_of l ∷ ss) (kept_all t n ls less)))

-- a cut at a position is one by a count
pub stamps_cut : (t n at : ℕ) (ls : List Listed) → Falls ls → StandsAt t n at ls → map stamp_of (cut t at ls) ≡ kept_to stamp_by t n (map stamp_of ls)
stamps_cut t n at [] falls none = elim none [ ]
stamps_cut t n at (l ∷ ls) falls (here _ _ by count is) =
    let e : is_by t l ≡ true = eq-eqb l.change.by t by in
    let f : nat_le at l.at ≡ true = grind (arith, nat_tests) in
    let same : length (mine stamp_by t (map stamp_of ls)) ≡ length (own t (changes_in ls)) = mine_stamps t ls in
    let g : nat_le n (length (mine stamp_by t (map stamp_of ls))) ≡ true = grind (arith, nat_tests) in
    let whole : cut t at ls ≡ ls = cut_below t at ls (below_more l.at at ls (omega arith) falls.0) in
    simp (e, f, g) (ap (map stamp_of) whole ∙ sym (kept_all t n ls (omega (arith, count))))
stamps_cut t n at (l ∷ ls) falls (older _ _ rest) =
    let later : at < l.at = stands_below t n at l.at ls rest falls.0 in
    let more : suc n ≤ length (own t (changes_in ls)) = stands_count t n at ls rest in
    let same : length (mine stamp_by t (map stamp_of ls)) ≡ length (own t (changes_in ls)) = mine_stamps t ls in
    let f : nat_le at l.at ≡ true = grind (arith, nat_tests) in
    let g : nat_le n (length (mine stamp_by t (map stamp_of ls))) ≡ true = grind (arith, nat_tests) in
    by_test (is_by t l)
    (λ e. simp (e, f, g) (stamps_cut t n at ls falls.1 rest))
    (λ e. simp e (ap (λ (ss : List Stamp). stamp_of l ∷ ss) (stamps_cut t n at ls falls.1 rest)))

-- ---- one record more

pub count_more : {X : Type 0} (p : X → Bool) (xs : List X) (x : X) → count_by p (xs ++ x ∷ []) ≡ count_by p xs + one_if (p x)
count_more p xs x = omega (arith, sum_by-append (λ y. one_if (p y)) xs (x ∷ []), sum_by-cons (λ y. one_if (p y)) x [])

traffic_more : (b : Bool) (t : Traffic) → (if b then record { entries = t.entries; surviving = t.surviving; since = t.since + 1 } else t) ≡ record { entries = t.entries; surviving = t.surviving; since = t.since + one_if b }
traffic_more true t = refl
traffic_more false t = let same : t.since ≡ t.since + 0 = omega arith in λ i. record { entries = t.entries; surviving = t.surviving; since = same i }

module _ (log : EngineLog) (told_record : LogRecord) (entry : LogEntry) (written pending : List Logged) (grown : written ++ pending ≡ newer_logged log ++ record { at = log.end; told = told_record; is = entry } ∷ []) (contents : Contents) (meter : Meter) (is : IsMeterOf contents log meter) where
  abbrev last : Logged
  last = record { at = log.end; told = told_record; is = entry }

  abbrev next : EngineLog
  next = with_newer log written pending (log.end + record_size told_record)

  count_grown : (p : LogEntry → Bool) → count_by (λ l. p l.is) (newer_logged next) ≡ count_by (λ l. p l.is) (newer_logged log) + one_if (p entry)
  count_grown p = ap (λ (ls : List Logged). count_by (λ l. p l.is) ls) grown ∙ count_more (λ (l : Logged). p l.is) (newer_logged log) last

  -- one that is no change
  pub meter_plain : (stamps : List Stamp) (over : ℕ) → is_change entry ≡ false → ((relation : Name) → is_change_of relation entry ≡ false)
      → stamps ≡ map stamp_of (listed (lists_now log) log.end entry) → IsMeterOf contents next (with_record (record_size told_record) stamps over meter)
  meter_plain stamps over plain off stamped = record {
    surviving = is.surviving;
    since = omega (arith, is.since, count_grown is_change, ap one_if plain);
    traffic = λ relation.
        let same : count_by (λ l. is_change_of relation l.is) (newer_logged log) ≡ count_by (λ l. is_change_of relation l.is) (newer_logged next) =
        omega (arith, count_grown (is_change_of relation), ap one_if (off relation)) in
        is.traffic relation ∙ (λ i. record {
          entries = (traffic_of contents (lists_saved log) (newer_logged log) relation).entries;
          surviving = (traffic_of contents (lists_saved log) (newer_logged log) relation).surviving;
          since = same i;
        });
    stamps = stamped ∙ ap (map stamp_of) (sym (lists_grown log told_record entry written pending grown));
    head = is.head;
    end = ap (λ (n : ℕ). n + record_size told_record) is.end;
  }

-- a change more
module _ (log : EngineLog) (told_record : LogRecord) (change : Change) (written pending : List Logged) (grown : written ++ pending ≡ newer_logged log ++ record { at = log.end; told = told_record; is = Changed change } ∷ []) (contents : Contents) (meter : Meter) (is : IsMeterOf contents log meter) where
  abbrev after_it : EngineLog
  after_it = with_newer log written pending (log.end + record_size told_record)

  pub meter_change : (definitions : Definitions) (over : ℕ) → record_size told_record ≡ change_size definitions change → IsMeterOf contents after_it (counted definitions change over meter)
  meter_change definitions over size = record {
    surviving = is.surviving;
    since = omega (arith, is.since, count_grown log told_record (Changed change) written pending grown contents meter is is_change);
    traffic = λ relation.
        let counts : Bool = counts_for change.item relation in
        let more : count_by (λ l. is_change_of relation l.is) (newer_logged log) + one_if counts ≡ count_by (λ l. is_change_of relation l.is) (newer_logged after_it) =
        sym (count_grown log told_record (Changed change) written pending grown contents meter is (is_change_of relation)) in
        traffic_more counts (meter.traffic relation)
        ∙ (λ i. record {
          entries = (is.traffic relation i).entries;
          surviving = (is.traffic relation i).surviving;
          since = (is.traffic relation i).since + one_if counts;
        })
        ∙ (λ i. record {
          entries = (traffic_of contents (lists_saved log) (newer_logged log) relation).entries;
          surviving = (traffic_of contents (lists_saved log) (newer_logged log) relation).surviving;
          since = more i;
        });
    stamps = (λ i. record { by = change.by; at = is.end i } ∷ is.stamps i) ∙ ap (map stamp_of) (sym (lists_grown log told_record (Changed change) written pending grown));
    head = is.head;
    end = omega (arith, is.end, size);
  }
