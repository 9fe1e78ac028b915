-- An opening: the state at rest is tied to the log of its store.
use Rattle.std.proofs.Common.{◌≡◌, ℕ, ◌+◌, List, [], ◌∷◌, ◌++◌, length, map, refl, sym, ◌∙◌, ap, subst, arith}
use Rattle.std.specs.Prelude.{Bool, true, false, All, count_by}
use Rattle.std.proofs.lemmas.List.Elements.{recursion_from_All, All-from_recursion}
use Rattle.std.proofs.lemmas.List.Sums.{sum_by-cons}
use Rattle.rss_base.specs.declared.name.Name.{Name}
use Rattle.rss_base.specs.declared.log_record.LogRecord.{LogRecord}
use Rattle.rss_base.specs.LogRecords.{ArePlaced}
use Rattle.rss_base.specs.Listings.{Listing}
use Rattle.rss_base.specs.DiskRule.{Pages}
use Rattle.rss_model.specs.Tables.{Contents, Tables, tuple_count}
use Rattle.rss_model.specs.Changes.{Change, undone}
use Rattle.rss_model.specs.Fits.{Fits}
use Rattle.rss_model.specs.Meter.{Meter, changes_of}
use Rattle.rss_model.specs.Machine.{StoreSize, State, IsAtRest}
use Rattle.rss_model.specs.Records.{LogEntry, Checkpoint, Placed, Listed, changes_in, listed, committed_by, Rise}
use Rattle.rss_model.specs.Recovers.{IsCheckpointOf, base_at, Recovers}
use Rattle.rss_model.specs.Meanings.{Logged, as_bytes, as_entries, Says, says_change, says_restore, says_end, says_abort, says_checkpoint, MeansIt, is_listed, is_change, is_change_of}
use Rattle.rss_model.specs.Ties.{Log, Ties}
use Rattle.rss_model.specs.EngineLogs.{EngineLog, entries_of, lists_now, FitsMixed, AreOwn, IsMeterOf, TiesState, stamp_of, HaveFields}
use Rattle.rss_stored.specs.Store.{Stored, listed_at, IsStore, size_of}
use Rattle.rss_stored.specs.LogLaws.{IsRested, rested_log, RestTies, RestartTies}
use Rattle.rss_model.proofs.Counts.{one_if}
use Rattle.rss_model.proofs.LogLists.{all_back}
use Rattle.rss_model.proofs.LogAppending.{list_after-append}
use Rattle.rss_model.proofs.LogTying.{at_it, commits_none, ties_rest, ties_opened}
use Rattle.rss_stored.proofs.LogPlaced.{placed_rise, entries_append}
use Rattle.rss_stored.proofs.Listed.{fields_listed}

-- ---- a Checkpoint record

checkpoint_means : {listing : Listing} {told : LogRecord} {entry : LogEntry} (ls : List Listed) → Says listing told entry → IsCheckpointOf ls entry → MeansIt listing told entry
checkpoint_means ls (says_change tells) is = elim is [ ]
checkpoint_means ls says_restore is = elim is [ ]
checkpoint_means ls says_end is = elim is [ ]
checkpoint_means ls says_abort is = elim is [ ]
checkpoint_means ls says_checkpoint is = tt

checkpoint_counts : (ls : List Listed) (entry : LogEntry) → IsCheckpointOf ls entry → (is_change entry ≡ false) × ((relation : Name) → is_change_of relation entry ≡ false)
checkpoint_counts ls (Checkpoint named) is = (refl, λ relation. refl)
checkpoint_counts ls entry is = elim is [ ]

count_one : {X : Type 0} (p : X → Bool) (x : X) → p x ≡ false → 0 ≡ count_by p (x ∷ [])
count_one p x off = omega (arith, sum_by-cons (λ y. one_if (p y)) x [], ap one_if off)

-- ---- a store at rest

module _ (pages : Pages) (stored : Stored) (state : State) (store : IsStore pages stored) (rested : IsRested stored) (rest : IsAtRest (size_of stored.root) stored.tables state) where
  abbrev only : Logged
  only = rested.record_only

  abbrev p : Placed
  p = record { at = only.at; is = only.is }

  abbrev ls : List Listed
  ls = listed_at stored

  abbrev start : Contents
  start = base_at stored.saved.contents (as_entries stored.older)

  -- its log, with its one record behind the checkpoint
  abbrev log : EngineLog
  log = record { head = stored.root.head; older = stored.older; written = only ∷ []; pending = []; end = stored.root.end }

  placed : ArePlaced stored.root.head (as_bytes (stored.older ++ only ∷ [])) stored.root.end
  placed = subst (λ (newer : List Logged). ArePlaced stored.root.head (as_bytes (stored.older ++ newer)) stored.root.end) rested.alone store.log.parses.placed

  recovers : Recovers stored.saved.contents (as_entries stored.older) (p ∷ []) stored.tables.contents
  recovers = subst (λ (newer : List Logged). Recovers stored.saved.contents (as_entries stored.older) (as_entries newer) stored.tables.contents) rested.alone store.log.recovers

  rise : Rise stored.root.head (as_entries stored.older ++ p ∷ []) stored.root.end
  rise = subst (λ (ps : List Placed). Rise stored.root.head ps stored.root.end) (entries_append stored.older (only ∷ [])) (placed_rise stored.root.head stored.root.end (stored.older ++ only ∷ []) placed)

  tied : (stored.saved.contents ≡ stored.tables.contents) × Ties stored.tables.contents [] stored.saved.contents (entries_of log)
  tied = ties_rest stored.root.head stored.root.end stored.saved.contents stored.tables.contents (as_entries stored.older) p rise recovers rested.none_listed

  same_tables : stored.saved ≡ stored.tables
  same_tables = λ i. record { definitions = sym store.log.definitions i; contents = tied.0 i }

  ties : Ties state.base.contents state.changes stored.saved.contents (entries_of log)
  ties =
      subst (λ (b : Contents). Ties b state.changes stored.saved.contents (entries_of log)) (ap (λ (t : Tables). t.contents) (sym rest.idle.committed))
      (subst (λ (cs : List Change). Ties stored.tables.contents cs stored.saved.contents (entries_of log)) (sym rest.idle.none_changed) tied.1)

  -- no list is open
  none_listed : listed ls p.at p.is ≡ []
  none_listed = at_it ls p.at p.is recovers.begins.0 ∙ rested.none_listed

  fits_none : (lists : List Listed) → lists ≡ [] → (base : Contents) → base ≡ stored.saved.contents → FitsMixed state.size.slots stored.saved base (changes_in lists)
  fits_none lists none base is =
      subst (λ (l : List Listed). FitsMixed state.size.slots stored.saved base (changes_in l)) (sym none)
      (subst (λ (b : Contents). FitsMixed state.size.slots stored.saved b []) (sym is)
      (λ counts. subst (λ (s : StoreSize). Fits s.slots stored.saved) (sym rest.idle.same_size) store.fit))

  start_is : start ≡ stored.saved.contents
  start_is = ap (λ (l : List Listed). undone stored.saved.contents (changes_in l)) rested.none_listed

  abbrev says : Logged → Type 0
  says l = Says stored.listing l.told l.is

  abbrev means : Logged → Type 0
  means l = MeansIt stored.listing l.told l.is

  own : AreOwn stored.listing log
  own =
      let say : All says (stored.older ++ only ∷ []) = subst (λ (newer : List Logged). All says (stored.older ++ newer)) rested.alone store.log.logged.say in
      let it_says : says only = (all_back says stored.older (only ∷ []) (recursion_from_All says (stored.older ++ only ∷ []) say)).0 in
      record {
        say = say;
        newer = All-from_recursion means (only ∷ []) (checkpoint_means ls it_says recovers.begins.0, tt);
        listed = store.log.logged.listed;
      }

  lists_none : lists_now log ≡ []
  lists_none = list_after-append [] (as_entries stored.older) (p ∷ []) ∙ none_listed

  meter : state.meter.head ≡ stored.root.head → state.meter.end ≡ stored.root.end → IsMeterOf stored.saved.contents log state.meter
  meter head end =
      let counts = checkpoint_counts ls only.is recovers.begins.0 in
      record {
        surviving = ap (λ (m : Meter). m.surviving) rest.meter ∙ sym (ap (λ (l : List Listed). length l) rested.none_listed);
        since = ap (λ (m : Meter). m.since) rest.meter ∙ count_one (λ (l : Logged). is_change l.is) only counts.0;
        traffic = λ relation.
            let none : 0 ≡ changes_of (changes_in ls) relation = sym (ap (λ (l : List Listed). changes_of (changes_in l) relation) rested.none_listed) in
            let since : 0 ≡ count_by (λ l. is_change_of relation l.is) (only ∷ []) = count_one (λ (l : Logged). is_change_of relation l.is) only (counts.1 relation) in
            ap (λ (m : Meter). m.traffic relation) rest.meter
            ∙ (λ i. record { entries = tuple_count (sym tied.0 i) relation; surviving = none i; since = since i });
        stamps = ap (λ (m : Meter). m.stamps) rest.meter ∙ sym (ap (map stamp_of) lists_none);
        head = head;
        end = end;
      }

  at_rest_tied : state.meter.head ≡ stored.root.head → state.meter.end ≡ stored.root.end → TiesState stored.listing stored.saved log state
  at_rest_tied head end = record {
    ties = ties;
    definitions = ap (λ (t : Tables). t.definitions) rest.idle.committed ∙ store.log.definitions;
    fields = fields_listed store.spells.listed store.spells.defines;
    fits = (
      fits_none ls rested.none_listed start start_is,
      fits_none (listed ls p.at p.is) none_listed (committed_by start ls p.is) ((commits_none start ls p.is recovers.begins.0).0 ∙ start_is),
    );
    placed = placed;
    own = own;
    meter = meter head end;
  }

pub rest_ties : RestTies
rest_ties pages stored state store rested rest head end = (
  same_tables pages stored state store rested rest,
  subst (λ (newer : List Logged). TiesState stored.listing stored.saved (record { head = stored.root.head; older = stored.older; written = newer; pending = []; end = stored.root.end }) state)
      (sym rested.alone) (at_rest_tied pages stored state store rested rest head end),
)

-- ---- behind a restart

module _ (listing : Listing) (tables : Tables) (state : State) (head : ℕ) (fields : HaveFields listing tables.definitions) (rest : IsAtRest state.size tables state) (fit : Fits state.size.slots tables) (head_is : state.meter.head ≡ head) (end_is : state.meter.end ≡ head + 2) where
  abbrev entries : Log
  entries = entries_of (rested_log head)

  abbrev says_it : Logged → Type 0
  says_it l = Says listing l.told l.is

  abbrev means_it : Logged → Type 0
  means_it l = MeansIt listing l.told l.is

  restarted : TiesState listing tables (rested_log head) state
  restarted = record {
    ties =
        subst (λ (b : Contents). Ties b state.changes tables.contents entries) (ap (λ (t : Tables). t.contents) (sym rest.idle.committed))
        (subst (λ (cs : List Change). Ties tables.contents cs tables.contents entries) (sym rest.idle.none_changed) (ties_opened tables.contents head 2 (omega arith)));
    definitions = ap (λ (t : Tables). t.definitions) rest.idle.committed;
    fields = fields;
    fits = ((λ counts. fit), (λ counts. fit));
    placed = (refl, record { bounded = omega arith; fits = tt }, refl);
    own = record {
      say = All-from_recursion says_it (rested_log head).written (says_checkpoint, tt);
      newer = All-from_recursion means_it (rested_log head).written (tt, tt);
      listed = All-from_recursion (λ (l : Logged). is_listed l.at [] ≡ true → MeansIt listing l.told l.is) [] tt;
    };
    meter = record {
      surviving = ap (λ (m : Meter). m.surviving) rest.meter;
      since = ap (λ (m : Meter). m.since) rest.meter;
      traffic = λ relation. ap (λ (m : Meter). m.traffic relation) rest.meter;
      stamps = ap (λ (m : Meter). m.stamps) rest.meter;
      head = head_is;
      end = end_is;
    };
  }

pub restart_ties : RestartTies
restart_ties listing tables state head fields rest fit head_is end_is = restarted listing tables state head fields rest fit head_is end_is
