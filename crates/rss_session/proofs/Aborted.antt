-- The end of a way back to the begin: the session is ready again, and the transaction is gone.
use Rattle.std.proofs.Common.{◌≡◌, ℕ, ◌+◌, ◌<◌, ◌≤◌, true, List, length, sym, ◌∙◌, ap, subst, arith}
use Rattle.std.specs.Prelude.{Option, Some, min}
use Rattle.std.specs.FinMap as finite
use Rattle.rss_log.specs.Logs.{LogView}
use Rattle.rss_catalog.specs.Catalogs.{CatalogView}
use Rattle.rss_model.specs.Changes.{Change, maker, own, others, theirs}
use Rattle.rss_model.specs.Kept.{Kept}
use Rattle.rss_stored.specs.LogLaws.{all_back}
use Rattle.rss_model.specs.Locks.{released}
use Rattle.rss_model.specs.Machine.{State, now}
use Rattle.rss_model.specs.Meter.{end_size, with_record}
use Rattle.rss_model.specs.Records.{others_in}
use Rattle.rss_model.specs.Scans.{closed}
use Rattle.rss_model.specs.Spares.{page_counts}
use Rattle.rss_model.specs.Steps.{stamp_by, MayUndo, size_for, gone}
use Rattle.rss_model.proofs.BothRooms.{aborts_keep_rooms}
use Rattle.rss_model.proofs.Metering.{cut_all}
use Rattle.rss_model.proofs.Stamps.{theirs_and_mine}
use Rattle.rss_trans.specs.Transactions.{is_open, transaction_in, Ends}
use Rattle.rss_trans.specs.Told.{TellsOpen, TellsSince}
use Rattle.rss_trans.proofs.Noting.{gone_listed}
use Rattle.rss_trans.proofs.Summing.{since_stays}
use Rattle.rss_trans.proofs.Told.{abort_tells}
use Rattle.rss_store.specs.Changing.{CutsAll}
use Rattle.rss_store.specs.Commits.{HasLogRoom}
use Rattle.rss_store.specs.Stores.{StoreView, Grows}
use Rattle.rss_store.specs.Stores.{IsReady as IsStoreReady}
use Rattle.rss_store.specs.Shown.{Shows as StoreShows}
use Rattle.rss_session.specs.Sessions.{SessionView, CountsStill, IsReady, IsEarly, sums_in}
use Rattle.rss_session.specs.Shown.{Shows, IsRested}
use Rattle.rss_session.specs.Calls.{TakesBack, GoesBack, Aborts}
use Rattle.rss_session.proofs.Fewer.{changers, gone_p, gone_q, gone_opened, gone_placed}
use Rattle.rss_session.proofs.Steady.{shows_same, none_more, overflow_still, size_some, none_there, changes_all, stamps_all}
use Rattle.rss_session.proofs.Traffic.{each_again}
use Rattle.rss_session.proofs.Ended.{ready_again, free_grown, one_more}
use Rattle.rss_session.proofs.Restored.{still_open, fewer_p, fewer_q, free_same, undone_some, grown_placed, same_over, same_shown, fewer_rested}

-- ---- a call may be made again

module _ (old mid : SessionView) (t : ℕ) (first : Option ℕ) (ready : IsReady old) (opened : is_open old.opened t ≡ true) (takes : TakesBack t 0 old mid first) (position : ℕ) (some : first ≡ Some position) where
  had_some : 1 ≤ length (transaction_in old.opened t).changes
  had_some = let less = undone_some old mid t 0 first ready opened takes position some in omega (arith, less)

  one_changer : (sums_in mid.opened).q + 1 ≡ (sums_in old.opened).q
  one_changer =
      let less = fewer_q old mid t 0 first ready opened takes in
      let none : min 0 (length (transaction_in old.opened t).changes) ≡ 0 = omega arith in
      omega (arith, less, one_more (length (transaction_in old.opened t).changes) had_some, ap (λ (n : ℕ). changers n) none)

  -- the log has room for its record
  pub abort_room : IsEarly old end_size → HasLogRoom mid.store.log end_size mid.store.log.head
  abort_room early =
      let same = free_same old mid t 0 first ready opened takes in
      record {
        before = omega (arith, ready.log, one_changer, same);
        behind = omega (arith, ready.log, one_changer, same);
        limit = omega (arith, early, ap (λ (l : LogView). l.end) takes.log);
      }

  pub ready_aborted : (new : SessionView) → IsReady mid → CountsStill mid new → new.store.catalog ≡ mid.store.catalog → page_counts new.store.pages ≡ page_counts mid.store.pages → IsStoreReady new.store
      → Ends t mid.opened new.opened → Grows end_size mid.store.log new.store.log → IsReady new
  ready_aborted new ready_mid still catalog pages store ends grows =
      let there = still_open old mid t 0 first ready opened takes in
      let less = gone_p mid.opened new.opened t there ends in
      let count = gone_q mid.opened new.opened t there ends in
      let before = fewer_p old mid t 0 first ready opened takes in
      ready_again mid new ready_mid store ends.since ends.since_of still catalog pages (omega (arith, less))
      (omega (arith, ready.log, less, count, before, one_changer, free_grown grows, free_same old mid t 0 first ready opened takes))
      (gone_placed mid.opened new.opened t there ends new.store.log.head new.store.log.end (grown_placed old mid t 0 first ready opened takes new ready_mid still catalog pages store grows))
      (gone_opened mid.opened new.opened t there ends)

-- ---- the next state

module _ (old mid new : SessionView) (t : ℕ) (first : Option ℕ) (state : State) (kept : Kept state) (shows : Shows old state) (back : GoesBack mid state t 0 first)
    (ends : Ends t mid.opened new.opened) (still : CountsStill mid new) (catalog : new.store.catalog ≡ mid.store.catalog) where
  abbrev over_then : ℕ
  over_then = back.shows.store.over

  undone_own : MayUndo (now state) (own t state.changes) state.meter.over over_then
  undone_own = subst (λ (cs : List Change). MayUndo (now state) cs state.meter.over over_then) (cut_all t state.changes) back.shows.store.way

  next_gone : StoreShows new.store (gone t over_then state) → IsRested new (gone t over_then state) → Shows new (gone t over_then state)
  next_gone store rested = record {
    store = store;
    listed = others_in t back.shows.listed;
    list = gone_listed state.changes state.meter.stamps back.shows.listed t back.shows.list;
    told = subst (λ (c : CatalogView). TellsOpen c.listing new.opened (finite.remove state.marks t) (others_in t back.shows.listed)) (sym catalog)
        (abort_tells mid.store.catalog.listing mid.opened new.opened state.marks back.shows.listed t 0 back.shows.told ends);
    counted = record {
      since = subst (λ (c : CatalogView). TellsSince c.listing new.opened (gone t over_then state).meter) (sym catalog)
          (since_stays mid.store.catalog.listing mid.opened new.opened _ over_then _ state.meter back.shows.counted.since ends.since ends.since_of);
      each = each_again catalog still back.shows.counted.each;
      heap = back.shows.counted.heap ∙ sym still.heap;
      surviving = back.shows.counted.surviving ∙ sym still.surviving;
      rooms = aborts_keep_rooms state t over_then kept back.shows.counted.rooms undone_own;
    };
    rested = rested;
  }

  -- with a record of it
  pub aborts_some : 1 ≤ length (own t state.changes) → CutsAll mid.store new.store t → Aborts new state t
  aborts_some some cuts = record {
    over = over_then;
    way = undone_own;
    shows = λ fit. next_gone (sized (cuts state back.shows.store fit))
        (λ none same. absurd (fewer_rested old mid t 0 first state shows (omega (arith, some)) (others t state.changes) fewer none same));
  }
    where
      fewer : length (others t state.changes) < length state.changes
      fewer = omega (arith, theirs_and_mine maker t state.changes, some)

      sized : StoreShows new.store (all_back t over_then state) → StoreShows new.store (gone t over_then state)
      sized shown = subst (λ (size : ℕ). StoreShows new.store (record (gone t over_then state) { meter = with_record size (theirs stamp_by t state.meter.stamps) over_then state.meter }))
          (sym (size_some (own t state.changes) end_size some)) (shows_same (finite.remove state.marks t) (released t state.locks) (closed t state.scans) shown)

  -- without one
  pub aborts_none : length (own t state.changes) ≡ 0 → new.store ≡ mid.store → mid.store.root ≡ old.store.root → mid.store.pages.backing ≡ old.store.pages.backing → Aborts new state t
  aborts_none none same root backing = record {
    over = over_then;
    way = undone_own;
    shows = λ fit. next_gone (subst (λ (s : StoreView). StoreShows s (gone t over_then state)) (sym same) (subst (StoreShows mid.store) (sym same_state) (shows_same (finite.remove state.marks t) (released t state.locks) (closed t state.scans) (same_shown old mid t 0 first state shows back few))))
        (λ zero count. sym over_is ∙ shows.rested zero (ap (λ (cs : List Change). length cs) (sym all_left) ∙ count) ∙ overflow_still old.store mid.store new.store root backing same);
  }
    where
      few : length (own t state.changes) ≤ 0
      few = omega (arith, none)

      all_left : others t state.changes ≡ state.changes
      all_left = changes_all shows.list t none

      over_is : state.meter.over ≡ over_then
      over_is = same_over old mid t 0 first state shows back few

      same_state : gone t over_then state ≡ record state { marks = finite.remove state.marks t; locks = released t state.locks; scans = closed t state.scans }
      same_state =
          (λ i. record state {
            changes = all_left i;
            marks = finite.remove state.marks t;
            locks = released t state.locks;
            scans = closed t state.scans;
            meter = with_record (size_for (none_there (own t state.changes) none i) end_size) (stamps_all shows.list t none i) (sym over_is i) state.meter;
          })
          ∙ (λ i. record state {
            marks = finite.remove state.marks t;
            locks = released t state.locks;
            scans = closed t state.scans;
            meter = record state.meter { end = none_more state.meter.end i };
          })
