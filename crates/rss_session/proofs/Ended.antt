-- A transaction that ends: the session is ready again, and in the machine's next state.
use Rattle.std.proofs.Common.{◌≡◌, ℕ, ◌-◌, ◌≤◌, true, List, [], length, refl, sym, ◌∙◌, ap, subst, arith}
use Rattle.std.specs.Prelude.{nat_lt}
use Rattle.std.specs.FinMap as finite
use Rattle.std.proofs.lemmas.Bool.Decides.{nat_tests}
use Rattle.rss_base.specs.Paged.{mapped_of}
use Rattle.rss_base.specs.StoredPages.{mapped_by}
use Rattle.rss_base.specs.declared.key.Space.TheVariants.{Overflow}
use Rattle.rss_log.specs.Logs.{LogView, room_end, free_of}
use Rattle.rss_catalog.specs.Catalogs.{CatalogView}
use Rattle.rss_model.specs.Changes.{Change, maker, own, others, theirs}
use Rattle.rss_model.specs.Kept.{Kept, FitMixed, IsMetered}
use Rattle.rss_model.specs.Locks.{released}
use Rattle.rss_model.specs.Machine.{State, with_changes}
use Rattle.rss_model.specs.Meter.{end_size, with_record}
use Rattle.rss_stored.specs.LogLaws.{committed_now}
use Rattle.rss_model.specs.Ruled.{HasBothRooms}
use Rattle.rss_model.specs.Records.{others_in}
use Rattle.rss_model.specs.Scans.{closed}
use Rattle.rss_model.specs.Spares.{PageCounts, listed_bound, page_counts, IsInSession, change_counts}
use Rattle.rss_model.specs.Steps.{stamp_by, size_for, committing}
use Rattle.rss_model.proofs.BothRooms.{ends_keep_rooms}
use Rattle.rss_model.proofs.Sparing.{session_forgets}
use Rattle.rss_model.proofs.Stamps.{theirs_and_mine}
use Rattle.rss_trans.specs.declared.noted.Noted.{Noted}
use Rattle.rss_trans.specs.Transactions.{is_open, transaction_in, Ends}
use Rattle.rss_trans.specs.Told.{TellsOpen, TellsSince}
use Rattle.rss_trans.proofs.Asked.{changes_told}
use Rattle.rss_trans.proofs.Noting.{gone_listed}
use Rattle.rss_trans.proofs.Summing.{since_stays}
use Rattle.rss_trans.proofs.Told.{end_tells}
use Rattle.rss_store.specs.Commits.{HasLogRoom, MayCommit}
use Rattle.rss_store.specs.Stores.{StoreView, Grows}
use Rattle.rss_store.specs.Stores.{IsReady as IsStoreReady}
use Rattle.rss_store.specs.Shown.{Shows as StoreShows}
use Rattle.rss_session.specs.Sessions.{SessionView, CountsStill, most_in, AreRising, IsReady, IsEarly, sums_in, owed_for, owed_by}
use Rattle.rss_session.specs.Sessions as sessions
use Rattle.rss_session.specs.Shown.{Shows, IsRested}
use Rattle.rss_session.proofs.Bounds.{session_of}
use Rattle.rss_session.proofs.Fewer.{changers, gone_p, gone_q, gone_opened, gone_placed}
use Rattle.rss_session.proofs.Marked.{rising_higher}
use Rattle.rss_session.proofs.Steady.{shows_same, none_more, size_some, none_there, changes_all, stamps_all, not_rested}
use Rattle.rss_session.proofs.Traffic.{each_again, images_still}

-- ---- a call may be made again

-- no more changes are listed than before, and the pages are as many
pub ready_again : (old new : SessionView) → IsReady old → IsStoreReady new.store → new.opened.since ≡ old.opened.since → new.opened.since_of ≡ old.opened.since_of → CountsStill old new → new.store.catalog ≡ old.store.catalog → page_counts new.store.pages ≡ page_counts old.store.pages
    → (sums_in new.opened).p ≤ (sums_in old.opened).p → owed_by new.opened ≤ free_of new.store.log
    → ((t : ℕ) → AreRising new.store.log.head new.store.log.end (transaction_in new.opened t).changes)
    → ((t : ℕ) → is_open new.opened t ≡ true → is_open old.opened t ≡ true) → IsReady new
ready_again old new ready store since since_of still catalog pages fewer log placed opened = record {
  store = store;
  pages = session_forgets (sessions.counts new) (sums_in old.opened).p (sums_in new.opened).p (page_counts new.store.pages)
      (subst (λ (p : PageCounts). IsInSession (sessions.counts new) (sums_in old.opened).p p) (sym pages)
      (session_of still.heap still.surviving since ready.pages)) fewer;
  room = omega (arith, ready.room, still.heap, still.surviving, since, images, slots);
  saved = omega (arith, ready.saved, images, saved);
  log = log;
  placed = placed;
  numbers = λ t is. ready.numbers t (opened t is);
}
  where
    slots : new.store.pages.slots ≡ old.store.pages.slots
    slots = ap (λ (p : PageCounts). p.slots) pages

    saved : (page_counts new.store.pages).saved_images ≡ (page_counts old.store.pages).saved_images
    saved = ap (λ (p : PageCounts). p.saved_images) pages

    images : (sessions.counts new).images ≡ (sessions.counts old).images
    images = ap (λ (c : CatalogView). listed_bound c.listing (most_in new)) catalog ∙ images_still old.store.catalog.listing still since_of

-- ---- room in the log

pub free_grown : {size : ℕ} {old new : LogView} → Grows size old new → free_of new ≡ free_of old - size
free_grown {size = size} {old = old} {new = new} grows =
    let same : room_end new.pages new.head ≡ room_end old.pages old.head = λ i. room_end (grows.pages i) (grows.head i) in
    omega (arith, same, grows.end)

-- ---- a transaction that ends

pub one_more : (count : ℕ) → 1 ≤ count → changers count ≡ 1
one_more count some = let yes : nat_lt 0 count ≡ true = grind (arith, nat_tests) in rw yes refl

module _ (old new : SessionView) (t : ℕ) (ready : IsReady old) (opened : is_open old.opened t ≡ true) (ends : Ends t old.opened new.opened) where
  abbrev changed : List Noted
  changed = (transaction_in old.opened t).changes

  -- what is owed to it has room in the log
  pub end_room : 1 ≤ length changed → IsEarly old end_size → HasLogRoom old.store.log end_size old.store.log.head
  end_room some early = let owed = ready.log in let count = gone_q old.opened new.opened t opened ends in record {
    before = omega (arith, owed, one_more (length changed) some, count);
    behind = omega (arith, owed, one_more (length changed) some, count);
    limit = early;
  }

  -- and so it is ready again
  pub ready_ended : IsStoreReady new.store → CountsStill old new → new.store.catalog ≡ old.store.catalog → page_counts new.store.pages ≡ page_counts old.store.pages
      → 1 ≤ length changed → Grows end_size old.store.log new.store.log → IsReady new
  ready_ended store still catalog pages some grows =
      let count = gone_q old.opened new.opened t opened ends in
      let less = gone_p old.opened new.opened t opened ends in
      ready_again old new ready store ends.since ends.since_of still catalog pages (omega (arith, less))
      (omega (arith, ready.log, less, count, one_more (length changed) some, free_grown grows))
      (gone_placed old.opened new.opened t opened ends new.store.log.head new.store.log.end (λ u. subst (λ (n : ℕ). AreRising n new.store.log.end (transaction_in old.opened u).changes) (sym grows.head)
      (rising_higher old.store.log.head old.store.log.end new.store.log.end (transaction_in old.opened u).changes (omega (arith, grows.end)) (ready.placed u))))
      (gone_opened old.opened new.opened t opened ends)

  -- where it had no changes
  pub ready_left : new.store ≡ old.store → CountsStill old new → IsReady new
  ready_left same still =
      let count = gone_q old.opened new.opened t opened ends in
      let less = gone_p old.opened new.opened t opened ends in
      ready_again old new ready (subst IsStoreReady (sym same) ready.store) ends.since ends.since_of still (ap (λ (s : StoreView). s.catalog) same) (ap (λ (s : StoreView). page_counts s.pages) same) (omega (arith, less))
      (omega (arith, ready.log, less, count, ap (λ (s : StoreView). free_of s.log) same))
      (λ u. subst (λ (s : StoreView). AreRising s.log.head s.log.end (transaction_in new.opened u).changes) (sym same) (gone_placed old.opened new.opened t opened ends old.store.log.head old.store.log.end ready.placed u))
      (gone_opened old.opened new.opened t opened ends)

-- ---- the next state

-- where it has changes, a record is written
module _ (t : ℕ) (state : State) (some : 1 ≤ length (own t state.changes)) where
  record_is : size_for (own t state.changes) end_size ≡ end_size
  record_is = size_some (own t state.changes) end_size some

  abbrev with_size : ℕ → State
  with_size size = record (committing t state) { meter = with_record size (theirs stamp_by t state.meter.stamps) state.meter.over state.meter }

  committed_shown : {view : StoreView} → StoreShows view (committed_now t state) → StoreShows view (committing t state)
  committed_shown {view = view} shows =
      subst (λ (n : ℕ). StoreShows view (with_size n)) (sym record_is) (shows_same (finite.remove state.marks t) (released t state.locks) (closed t state.scans) shows)

  committed_metered : IsMetered (committing t state) → IsMetered (committed_now t state)
  committed_metered metered =
      let same = subst (λ (n : ℕ). IsMetered (with_size n)) record_is metered in
      record { makers = same.makers; positions = same.positions; heap = same.heap; tuples = same.tuples; room = same.room }

  pub may_commit : Kept state → HasBothRooms state → FitMixed (committing t state) → MayCommit t state
  may_commit kept rooms fit = record { fit = fit; metered = committed_metered (ends_keep_rooms state t kept rooms).metered }

-- where it has none, nothing is
module _ (t : ℕ) (state : State) (none : own t state.changes ≡ []) (all : others t state.changes ≡ state.changes) (stamps : theirs stamp_by t state.meter.stamps ≡ state.meter.stamps) where
  same_state : committing t state ≡ record state { marks = finite.remove state.marks t; locks = released t state.locks; scans = closed t state.scans }
  same_state =
      (λ i. record state {
        base = with_changes state.base (none i);
        changes = all i;
        marks = finite.remove state.marks t;
        locks = released t state.locks;
        scans = closed t state.scans;
        meter = with_record (size_for (none i) end_size) (stamps i) state.meter.over state.meter;
      })
      ∙ (λ i. record state {
        marks = finite.remove state.marks t;
        locks = released t state.locks;
        scans = closed t state.scans;
        meter = record state.meter { end = none_more state.meter.end i };
      })

  unchanged_shown : {view : StoreView} → StoreShows view state → StoreShows view (committing t state)
  unchanged_shown {view = view} shows = subst (StoreShows view) (sym same_state) (shows_same (finite.remove state.marks t) (released t state.locks) (closed t state.scans) shows)

-- the session is in it
module _ (old new : SessionView) (t : ℕ) (ends : Ends t old.opened new.opened) (still : CountsStill old new) (catalog : new.store.catalog ≡ old.store.catalog)
    (state : State) (kept : Kept state) (shows : Shows old state) where
  next_shown : StoreShows new.store (committing t state) → IsRested new (committing t state) → Shows new (committing t state)
  next_shown store rested = record {
    store = store;
    listed = others_in t shows.listed;
    list = gone_listed state.changes state.meter.stamps shows.listed t shows.list;
    told = subst (λ (c : CatalogView). TellsOpen c.listing new.opened (finite.remove state.marks t) (others_in t shows.listed)) (sym catalog) (end_tells old.store.catalog.listing old.opened new.opened state.marks shows.listed t shows.told ends);
    counted = record {
      since = subst (λ (c : CatalogView). TellsSince c.listing new.opened (committing t state).meter) (sym catalog)
          (since_stays old.store.catalog.listing old.opened new.opened _ state.meter.over _ state.meter shows.counted.since ends.since ends.since_of);
      each = each_again catalog still shows.counted.each;
      heap = shows.counted.heap ∙ sym still.heap;
      surviving = shows.counted.surviving ∙ sym still.surviving;
      rooms = ends_keep_rooms state t kept shows.counted.rooms;
    };
    rested = rested;
  }

  own_count : length (own t state.changes) ≡ length (transaction_in old.opened t).changes
  own_count = ap (λ (cs : List Change). length (own t cs)) (sym shows.list.changes_are) ∙ sym (changes_told old.store.catalog.listing old.opened state.marks shows.listed shows.told t)

  pub own_some : 1 ≤ length (transaction_in old.opened t).changes → 1 ≤ length (own t state.changes)
  own_some some = omega (arith, some, own_count)

  pub shows_ended : 1 ≤ length (transaction_in old.opened t).changes → StoreShows new.store (committed_now t state) → Shows new (committing t state)
  shows_ended some store = next_shown (committed_shown t state (own_some some) store)
      (λ none same. absurd (not_rested (change_counts state.base.definitions state.meter) (length state.changes) (length (others t state.changes)) (page_counts old.store.pages) shows.store.session
      (omega (arith, theirs_and_mine maker t state.changes, own_some some)) none same))

  pub shows_left : length (transaction_in old.opened t).changes ≡ 0 → new.store ≡ old.store → Shows new (committing t state)
  shows_left none same =
      let all : others t state.changes ≡ state.changes = changes_all shows.list t (own_count ∙ none) in
      next_shown
      (subst (λ (s : StoreView). StoreShows s (committing t state)) (sym same) (unchanged_shown t state (none_there (own t state.changes) (own_count ∙ none)) all (stamps_all shows.list t (own_count ∙ none)) shows.store))
      (λ zero count. subst (λ (s : StoreView). state.meter.over ≡ mapped_of (mapped_by s.pages.backing.shadow) Overflow s.root.slots) (sym same) (shows.rested zero (ap (λ (cs : List Change). length cs) (sym all) ∙ count)))
