-- What is on the disk, by the tie of the state to an engine's log.
use Rattle.std.proofs.Common.{◌≡◌, ℕ, ◌+◌, ◌*◌, ◌≤◌, List, [], ◌∷◌, ◌++◌, length, append_assoc, sym, ◌∙◌, ap, subst, arith}
use Rattle.std.specs.Prelude.{Bool, count_by}
use Rattle.std.specs.List.{AllByRecursion}
use Rattle.std.specs.FinMap as finite
use Rattle.std.proofs.lemmas.List.Elements.{recursion_from_All, All-from_recursion}
use Rattle.std.proofs.lemmas.List.Sums.{sum_by-append, sum_by-le-sum_by}
use Rattle.rss_base.specs.declared.name.Name.{Name}
use Rattle.rss_base.specs.Listings.{Listing}
use Rattle.rss_model.specs.Tables.{Definitions, Contents, Tables}
use Rattle.rss_model.specs.Changes.{after, undone, Chained}
use Rattle.rss_model.specs.Meter.{Traffic, changes_of, room_number, pages_of_image}
use Rattle.rss_model.specs.Machine.{StoreSize, State}
use Rattle.rss_model.specs.Records.{LogEntry, Placed, Listed, changes_in, listed, committed_by, Rise}
use Rattle.rss_model.specs.Restart.{losers, UndoFits, RedoFits, LoneAlong}
use Rattle.rss_model.specs.Recovers.{lists_at, base_at, Recovers, WayFits}
use Rattle.rss_model.specs.Meanings.{Logged, as_entries, Says, MeansIt, RedoneMean, IsLogged, is_change, is_change_of}
use Rattle.rss_model.specs.EngineLogs.{EngineLog, newer_logged, all_logged, lists_saved, FitsAlong, AreOwn, TiesState}
use Rattle.rss_stored.specs.Store.{meter_of}
use Rattle.rss_stored.specs.LogLaws.{DiskHasLog, DiskHasRoom}
use Rattle.rss_model.proofs.Counts.{one_if}
use Rattle.rss_model.proofs.Saving.{more_pages}
use Rattle.rss_model.proofs.Surviving.{winners, Falls}
use Rattle.rss_model.proofs.LogLists.{all_front}
use Rattle.rss_model.proofs.LogChanging.{after_undone, chained_undone}
use Rattle.rss_model.proofs.LogUndoing.{undo_losers}
use Rattle.rss_model.proofs.LogRedoing.{lone_now}
use Rattle.rss_model.proofs.LogAppending.{lone_front, lone_back, below_after, falls_after, rise_front, rise_split}
use Rattle.rss_model.proofs.LogTying.{ties_recovers}
use Rattle.rss_stored.proofs.LogGrowing.{fits_first}
use Rattle.rss_model.proofs.LogWay.{undo_fits, redo_fits}

-- ---- the way of restart

fits_front : (slots : ℕ) (saved : Tables) (base : Contents) (ls : List Listed) (ps qs : List Placed) → FitsAlong slots saved base ls (ps ++ qs) → FitsAlong slots saved base ls ps
fits_front slots saved base ls [] qs along = fits_first slots saved base ls qs along
fits_front slots saved base ls (p ∷ ps) qs along = (along.0, fits_front slots saved (committed_by base ls p.is) (listed ls p.at p.is) ps qs along.1)

-- with what is in memory alone left off
way_fits : (listing : Listing) (saved : Tables) (log : EngineLog) (state : State) → TiesState listing saved log state → WayFits state.size.slots saved (as_entries log.older) (as_entries log.written)
way_fits listing saved log state is =
    let slots : ℕ = state.size.slots in
    let older : List Placed = as_entries log.older in
    let written : List Placed = as_entries log.written in
    let pending : List Placed = as_entries log.pending in
    let ls : List Listed = lists_at older in
    let start : Contents = base_at saved.contents older in
    let chained : Chained start (changes_in ls) = chained_undone saved.contents (changes_in ls) is.ties.undoes in
    let falls : Falls ls = falls_after log.head log.end [] older tt tt (rise_front log.head log.end older (written ++ pending) is.ties.rise) in
    let lone : LoneAlong ls written = lone_front ls written pending (lone_back [] older (written ++ pending) is.ties.lone) in
    let along : FitsAlong slots saved start ls written = fits_front slots saved start ls written pending is.fits in
    let back : after start (changes_in ls) ≡ saved.contents = after_undone saved.contents (changes_in ls) is.ties.undoes in
    let split : (mid : ℕ) × (Rise log.head older mid × Rise mid (written ++ pending) log.end) = rise_split log.head log.end older (written ++ pending) is.ties.rise in
    let redo : RedoFits slots saved (after start (changes_in (winners written ls))) written =
    redo_fits slots saved start split.0 log.end ls written (below_after log.head split.0 [] older tt split.1.0) falls (rise_front split.0 log.end written pending split.1.1) lone along in
    let left : undone saved.contents (changes_in (losers written ls)) ≡ after start (changes_in (winners written ls)) =
    ap (λ (k : Contents). undone k (changes_in (losers written ls))) (sym back) ∙ undo_losers start written ls chained (lone_now ls written lone) falls in
    record {
      undo = subst (λ (k : Contents). UndoFits slots saved k (changes_in (losers written ls))) back
          (undo_fits slots saved start written ls falls (lone_now ls written lone) chained (fits_first slots saved start ls written along));
      redo = subst (λ (k : Contents). RedoFits slots saved k written) (sym left) redo;
    }

-- ---- what the records mean

all_redone : (listing : Listing) (ls : List Logged) → AllByRecursion (λ l. MeansIt listing l.told l.is) ls → RedoneMean listing ls
all_redone listing [] mean = tt
all_redone listing (l ∷ ls) mean = ((λ redone. mean.0), all_redone listing ls mean.1)

module _ (listing : Listing) where
  abbrev says : Logged → Type 0
  says l = Says listing l.told l.is

  abbrev means : Logged → Type 0
  means l = MeansIt listing l.told l.is

  logged : (log : EngineLog) → AreOwn listing log → IsLogged listing (lists_saved log) log.older log.written
  logged log own = record {
    say = All-from_recursion says (log.older ++ log.written)
        (all_front says (log.older ++ log.written) log.pending
        (subst (AllByRecursion says) (sym (append_assoc log.older log.written log.pending)) (recursion_from_All says (all_logged log) own.say)));
    listed = own.listed;
    later = all_redone listing log.written (all_front means log.written log.pending (recursion_from_All means (newer_logged log) own.newer));
  }

-- a fact of two values
of_both : {A B : Type 0} (P : A → B → Type 0) {a c : A} {b d : B} → a ≡ c → b ≡ d → P c d → P a b
of_both P {a = a} {d = d} first second is = subst (λ y. P a y) (sym second) (subst (λ x. P x d) (sym first) is)

pub disk_has_log : DiskHasLog
disk_has_log pages stored log state is holds = record {
  parses = holds.parses;
  checkpoint = holds.checkpoint;
  logged = of_both (λ (older newer : List Logged). IsLogged stored.listing (lists_at (as_entries older)) older newer) is.older is.newer (logged stored.listing log is.ties.own);
  recovers = of_both (λ (older newer : List Logged). Recovers stored.saved.contents (as_entries older) (as_entries newer) stored.tables.contents) is.older is.newer
      (subst (Recovers stored.saved.contents (as_entries log.older) (as_entries log.written)) (ap (λ (t : Tables). t.contents) (sym is.tables)) (ties_recovers is.ties.ties));
  way = of_both (λ (older newer : List Logged). WayFits stored.root.slots stored.saved (as_entries older) (as_entries newer)) is.older is.newer
      (subst (λ (s : StoreSize). WayFits s.slots stored.saved (as_entries log.older) (as_entries log.written)) is.size (way_fits stored.listing stored.saved log state is.ties));
  definitions = ap (λ (t : Tables). t.definitions) is.tables ∙ is.ties.definitions;
}

-- ---- the room

-- what stands on the disk counts no more than the meter does
pub disk_has_room : DiskHasRoom
disk_has_room stored log state is metered heap =
    let definitions : Definitions = stored.saved.definitions in
    let fewer : (p : LogEntry → Bool) → count_by (λ l. p l.is) stored.newer ≤ count_by (λ l. p l.is) (newer_logged log) =
    λ p. omega (arith, ap (λ (ls : List Logged). count_by (λ l. p l.is) ls) is.newer, sum_by-append (λ (l : Logged). one_if (p l.is)) log.written log.pending) in
    let listed : lists_at (as_entries stored.older) ≡ lists_saved log = ap (λ (ls : List Logged). lists_at (as_entries ls)) is.older in
    let covers : (relation : Name) → ((meter_of stored).traffic relation).entries + ((meter_of stored).traffic relation).surviving + 2 * ((meter_of stored).traffic relation).since ≤ (state.meter.traffic relation).entries + (state.meter.traffic relation).surviving + 2 * (state.meter.traffic relation).since =
    λ relation. omega (
      arith,
      ap (λ (t : Traffic). t.entries) (is.ties.meter.traffic relation),
      ap (λ (t : Traffic). t.surviving) (is.ties.meter.traffic relation),
      ap (λ (t : Traffic). t.since) (is.ties.meter.traffic relation),
      ap (λ (ls : List Listed). changes_of (changes_in ls) relation) listed,
      fewer (is_change_of relation),
    ) in
    let images = sum_by-le-sum_by (pages_of_image definitions (meter_of stored)) (pages_of_image definitions state.meter) (finite.values definitions.images)
    (λ image. more_pages _ ((meter_of stored).traffic image.relation) (state.meter.traffic image.relation) (covers image.relation)) in
    let room : room_number definitions state.meter ≤ state.size.slots = subst (λ (d : Definitions). room_number d state.meter ≤ state.size.slots) is.ties.definitions metered.room in
    omega (
      arith,
      images,
      room,
      heap,
      is.ties.meter.surviving,
      is.ties.meter.since,
      ap (λ (ls : List Listed). length ls) listed,
      fewer is_change,
      ap (λ (s : StoreSize). s.slots) is.size,
    )
