-- The end of a way back: the session is ready again, and in the machine's next state.
use Rattle.std.proofs.Common.{◌≡◌, ℕ, zero, suc, ◌+◌, ◌<◌, ◌≤◌, true, ◌==◌, List, [], ◌∷◌, length, take, refl, sym, ◌∙◌, ap, subst, arith}
use Rattle.std.specs.Prelude.{Option, Some, None, min, option_map, nat_le, slice_get}
use Rattle.std.specs.FinMap as finite
use Rattle.std.proofs.lemmas.Bool.Decides.{nat_tests}
use Rattle.rss_log.specs.Logs.{LogView, free_of}
use Rattle.rss_catalog.specs.Catalogs.{CatalogView}
use Rattle.rss_model.specs.Tables.{Tables}
use Rattle.rss_model.specs.Changes.{Change, maker, own, kept_to, cut_off}
use Rattle.rss_model.specs.Kept.{Kept}
use Rattle.rss_stored.specs.LogLaws.{gone_back}
use Rattle.rss_model.specs.Machine.{State}
use Rattle.rss_model.specs.Meter.{restore_size, with_record}
use Rattle.rss_model.specs.Spares.{page_counts, change_counts}
use Rattle.rss_model.specs.Steps.{stamp_by, MayUndo, size_for, undone_to, left_at, restored}
use Rattle.rss_model.specs.Steps.MayUndo.{none, more}
use Rattle.rss_model.proofs.BothRooms.{restores_keep_rooms}
use Rattle.rss_model.proofs.LogLists.{by_test}
use Rattle.rss_model.proofs.Stamps.{kept_and_cut}
use Rattle.rss_trans.specs.declared.noted.Noted.{Noted}
use Rattle.rss_trans.specs.Transactions.{Transaction, is_open, transaction_in, count_at, cut_at, Steps}
use Rattle.rss_trans.specs.Told.{listed_by, TellsOpen, TellsSince}
use Rattle.rss_trans.proofs.Asked.{saves_told}
use Rattle.rss_trans.proofs.Noting.{back_listed}
use Rattle.rss_trans.proofs.Summing.{since_stays}
use Rattle.rss_trans.proofs.Told.{cut_tells}
use Rattle.rss_store.specs.Changing.{IsOwnAt, CutsAt}
use Rattle.rss_store.specs.Commits.{HasLogRoom}
use Rattle.rss_store.specs.Stores.{StoreView, Grows}
use Rattle.rss_store.specs.Stores.{IsReady as IsStoreReady}
use Rattle.rss_store.specs.Shown.{ShowsWith}
use Rattle.rss_store.specs.Shown.{Shows as StoreShows}
use Rattle.rss_session.specs.Sessions.{SessionView, CountsStill, AreRising, IsReady, IsEarly, sums_in}
use Rattle.rss_session.specs.Shown.{Shows, IsRested}
use Rattle.rss_session.specs.Calls.{HasMarks, taken_to, TakesBack, GoesBack, Restores}
use Rattle.rss_session.proofs.Fewer.{changers, put_here, put_open, put_p, put_q, put_opened, put_placed, length_taken}
use Rattle.rss_session.proofs.Marked.{rising_higher}
use Rattle.rss_session.proofs.Steady.{shows_same, none_more, overflow_still, size_some, changes_kept, stamps_kept, not_rested}
use Rattle.rss_session.proofs.Traffic.{each_again}
use Rattle.rss_session.proofs.Ended.{ready_again, free_grown}
use Rattle.rss_session.proofs.Undone.{fewer_changers}
use Rattle.rss_session.proofs.Backwards.{own_count, none_cut}

-- ---- what was undone

-- some is, where one that is found isn't left
some_from : (n position : ℕ) (notes : List Noted) → option_map (λ (note : Noted). note.position) (slice_get notes n) ≡ Some position → n < length notes
some_from n position [] is = absurd (cc (is))
some_from zero position (note ∷ notes) is = omega arith
some_from (suc n) position (note ∷ notes) is = let rest = some_from n position notes is in omega (arith, rest)

cut_some : (t n : ℕ) (changes : List Change) → n < length (own t changes) → 1 ≤ length (cut_off maker t n changes)
cut_some t n [] less = absurd (omega (arith, less))
cut_some t n (change ∷ changes) less = by_test (change.by == t)
    (λ mine. let more : n < suc (length (own t changes)) = rw mine at less in
    let goes : nat_le n (length (own t changes)) ≡ true = grind (arith, nat_tests, more) in
    simp (mine, goes) (omega arith))
    (λ off. let rest : n < length (own t changes) = rw off at less in simp off (cut_some t n changes rest))

none_undone : {tables : Tables} {before after : ℕ} (changes : List Change) → changes ≡ [] → MayUndo tables changes before after → before ≡ after
none_undone changes is none = refl
none_undone changes is (more first rest) = absurd (cc (is))

-- ---- a call may be made again

module _ (old mid : SessionView) (t save : ℕ) (first : Option ℕ) (ready : IsReady old) (opened : is_open old.opened t ≡ true) (takes : TakesBack t save old mid first) where
  abbrev before : Transaction
  before = transaction_in old.opened t

  abbrev left : ℕ
  left = count_at before save

  pub there : transaction_in mid.opened t ≡ taken_to left before
  there = put_here old.opened mid.opened t (taken_to left before) opened takes.opened.transactions

  pub still_open : is_open mid.opened t ≡ true
  still_open = put_open old.opened mid.opened t (taken_to left before) opened takes.opened.transactions

  pub save_there : save ≤ length before.saves → save ≤ length (transaction_in mid.opened t).saves
  save_there le = subst (λ (x : Transaction). save ≤ length x.saves) (sym there) le

  pub fewer_p : (sums_in mid.opened).p + length before.changes ≡ (sums_in old.opened).p + min left (length before.changes)
  fewer_p =
      let less = put_p old.opened mid.opened t (taken_to left before) opened takes.opened.transactions in
      omega (arith, less, length_taken left before.changes)

  pub fewer_q : (sums_in mid.opened).q + changers (length before.changes) ≡ (sums_in old.opened).q + changers (min left (length before.changes))
  fewer_q =
      let less = put_q old.opened mid.opened t (taken_to left before) opened takes.opened.transactions in
      omega (arith, less, ap (λ (n : ℕ). changers n) (length_taken left before.changes))

  no_more_q : (sums_in mid.opened).q ≤ (sums_in old.opened).q
  no_more_q = omega (arith, fewer_q, fewer_changers (min left (length before.changes)) (length before.changes) (omega arith))

  pub free_same : free_of mid.store.log ≡ free_of old.store.log
  free_same = ap free_of takes.log

  module _ (position : ℕ) (some : first ≡ Some position) where
    pub undone_some : left < length before.changes
    undone_some = some_from left position before.changes (sym takes.oldest ∙ some)

    one_less : (sums_in mid.opened).p + 1 ≤ (sums_in old.opened).p
    one_less = omega (arith, fewer_p, undone_some)

    -- the log has room for its record
    pub restore_room : IsEarly old restore_size → HasLogRoom mid.store.log restore_size mid.store.log.head
    restore_room early = record {
      before = omega (arith, ready.log, one_less, free_same);
      behind = omega (arith, ready.log, one_less, free_same);
      limit = omega (arith, early, ap (λ (l : LogView). l.end) takes.log);
    }

  module _ (new : SessionView) (ready_mid : IsReady mid) (still : CountsStill mid new) (catalog : new.store.catalog ≡ mid.store.catalog) (pages : page_counts new.store.pages ≡ page_counts mid.store.pages) (store : IsStoreReady new.store) where
    pub grown_placed : {size : ℕ} → Grows size mid.store.log new.store.log → (u : ℕ) → AreRising new.store.log.head new.store.log.end (transaction_in mid.opened u).changes
    grown_placed grows u = subst (λ (n : ℕ). AreRising n new.store.log.end (transaction_in mid.opened u).changes) (sym grows.head)
        (rising_higher mid.store.log.head mid.store.log.end new.store.log.end (transaction_in mid.opened u).changes (omega (arith, grows.end)) (ready_mid.placed u))

    -- ---- at a save point

    module _ (steps : Steps t (cut_at save) mid.opened new.opened) where
      same_p : (sums_in new.opened).p ≡ (sums_in mid.opened).p
      same_p = let is = put_p mid.opened new.opened t (cut_at save (transaction_in mid.opened t)) still_open steps.transactions in omega (arith, is)

      same_q : (sums_in new.opened).q ≡ (sums_in mid.opened).q
      same_q = let is = put_q mid.opened new.opened t (cut_at save (transaction_in mid.opened t)) still_open steps.transactions in omega (arith, is)

      cut_opened : (u : ℕ) → is_open new.opened u ≡ true → is_open mid.opened u ≡ true
      cut_opened = put_opened mid.opened new.opened t (cut_at save (transaction_in mid.opened t)) still_open steps.transactions

      cut_placed : (low high : ℕ) → ((u : ℕ) → AreRising low high (transaction_in mid.opened u).changes) → (u : ℕ) → AreRising low high (transaction_in new.opened u).changes
      cut_placed low high placed = put_placed mid.opened new.opened t (cut_at save (transaction_in mid.opened t)) still_open steps.transactions low high (placed t) placed

      pub ready_restored : (position : ℕ) → first ≡ Some position → Grows restore_size mid.store.log new.store.log → IsReady new
      ready_restored position some grows = ready_again mid new ready_mid store steps.since steps.since_of still catalog pages (omega (arith, same_p))
          (omega (arith, ready.log, one_less position some, same_p, same_q, no_more_q, free_grown grows, free_same))
          (cut_placed new.store.log.head new.store.log.end (grown_placed grows)) cut_opened

      pub ready_unchanged : new.store.log ≡ mid.store.log → IsReady new
      ready_unchanged log = ready_again mid new ready_mid store steps.since steps.since_of still catalog pages (omega (arith, same_p))
          (omega (arith, ready_mid.log, same_p, same_q, ap free_of log))
          (λ u. subst (λ (l : LogView). AreRising l.head l.end (transaction_in new.opened u).changes) (sym log) (cut_placed mid.store.log.head mid.store.log.end ready_mid.placed u)) cut_opened

-- ---- the state that is left

module _ (old mid : SessionView) (t n : ℕ) (first : Option ℕ) (state : State) (shows : Shows old state) where
  module _ (back : GoesBack mid state t n first) where
    abbrev over : ℕ
    over = back.shows.store.over

    -- where nothing was undone
    module _ (few : length (own t state.changes) ≤ n) where
      all : kept_to maker t n state.changes ≡ state.changes
      all = changes_kept shows.list t n few

      pub same_over : state.meter.over ≡ over
      same_over = none_undone (cut_off maker t n state.changes) (none_cut t n all) back.shows.store.way

      pub same_shown : StoreShows mid.store state
      same_shown =
          subst (λ (k : ℕ). ShowsWith mid.store state state.changes k) (sym same_over)
          (subst (λ (cs : List Change). ShowsWith mid.store state cs over) all back.shows.store.shows)

  -- where something was, not as many are listed as at the checkpoint
  module _ (more_own : n < length (own t state.changes)) where
    pub fewer_rested : (fewer : List Change) → length fewer < length state.changes → state.meter.since ≡ 0 → length fewer ≡ state.meter.surviving → ⊥
    fewer_rested fewer less = not_rested (change_counts state.base.definitions state.meter) (length state.changes) (length fewer) (page_counts old.store.pages) shows.store.session less

-- what was found of the changes is so of the state's
module _ (old mid : SessionView) (t save : ℕ) (first : Option ℕ) (state : State) (marks : List ℕ) (has : HasMarks state t marks) (shows : Shows old state) (takes : TakesBack t save old mid first) where
  pub undone_own : (position : ℕ) → first ≡ Some position → left_at marks save < length (own t state.changes)
  undone_own position some =
      let found = some_from (count_at (transaction_in old.opened t) save) position (transaction_in old.opened t).changes (sym takes.oldest ∙ some) in
      let same : count_at (transaction_in old.opened t) save ≡ left_at marks save = ap (λ (saves : List ℕ). left_at saves save) (saves_told old.store.catalog.listing old.opened state.marks shows.listed t marks shows.told has) in
      omega (arith, found, same, own_count t shows)

pub none_own : (mid : SessionView) (t n : ℕ) (first : Option ℕ) (state : State) → GoesBack mid state t n first → first ≡ None → length (own t state.changes) ≤ n
none_own mid t n first state back is = let none_back : GoesBack mid state t n None = subst (GoesBack mid state t n) is back in none_back.none

-- ---- back at a save point

module _ (old mid new : SessionView) (t save : ℕ) (first : Option ℕ) (state : State) (marks : List ℕ) (kept : Kept state) (has : HasMarks state t marks) (shows : Shows old state) (back : GoesBack mid state t (left_at marks save) first)
    (steps : Steps t (cut_at save) mid.opened new.opened) (still : CountsStill mid new) (catalog : new.store.catalog ≡ mid.store.catalog) where
  abbrev n : ℕ
  n = left_at marks save

  abbrev over_then : ℕ
  over_then = back.shows.store.over

  next_restored : StoreShows new.store (restored t save marks over_then state) → IsRested new (restored t save marks over_then state) → Shows new (restored t save marks over_then state)
  next_restored store rested = record {
    store = store;
    listed = kept_to listed_by t n back.shows.listed;
    list = back_listed state.changes state.meter.stamps back.shows.listed t n back.shows.list;
    told = subst (λ (c : CatalogView). TellsOpen c.listing new.opened (finite.insert state.marks t (take save marks)) (kept_to listed_by t n back.shows.listed)) (sym catalog)
        (cut_tells mid.store.catalog.listing mid.opened new.opened state.marks (kept_to listed_by t n back.shows.listed) t save marks back.shows.told has steps);
    counted = record {
      since = subst (λ (c : CatalogView). TellsSince c.listing new.opened (restored t save marks over_then state).meter) (sym catalog)
          (since_stays mid.store.catalog.listing mid.opened new.opened _ over_then _ state.meter back.shows.counted.since steps.since steps.since_of);
      each = each_again catalog still back.shows.counted.each;
      heap = back.shows.counted.heap ∙ sym still.heap;
      surviving = back.shows.counted.surviving ∙ sym still.surviving;
      rooms = restores_keep_rooms state t save marks over_then kept back.shows.counted.rooms back.shows.store.way;
    };
    rested = rested;
  }

  -- with a record of it
  pub restores_some : (position : ℕ) → first ≡ Some position → n < length (own t state.changes) → CutsAt mid.store new.store t position → Restores new state t save marks
  restores_some position some more_own cuts = record {
    over = over_then;
    way = back.shows.store.way;
    shows = λ fit. next_restored (sized (cuts state n own_there back.shows.store fit))
        (λ none same. absurd (fewer_rested old mid t n first state shows more_own (kept_to maker t n state.changes) fewer none same));
  }
    where
      own_there : IsOwnAt state t n position
      own_there = let is : GoesBack mid state t n (Some position) = subst (GoesBack mid state t n) some back in is.some

      undone : 1 ≤ length (cut_off maker t n state.changes)
      undone = cut_some t n state.changes more_own

      fewer : length (kept_to maker t n state.changes) < length state.changes
      fewer = omega (arith, kept_and_cut maker t n state.changes, undone)

      sized : StoreShows new.store (gone_back t n over_then state) → StoreShows new.store (restored t save marks over_then state)
      sized shown = subst (λ (size : ℕ). StoreShows new.store (record (restored t save marks over_then state) { meter = with_record size (kept_to stamp_by t n state.meter.stamps) over_then state.meter }))
          (sym (size_some (undone_to state t n) restore_size undone)) (shows_same (finite.insert state.marks t (take save marks)) state.locks state.scans shown)

  -- without one
  pub restores_none : length (own t state.changes) ≤ n → new.store ≡ mid.store → mid.store.root ≡ old.store.root → mid.store.pages.backing ≡ old.store.pages.backing → Restores new state t save marks
  restores_none few same root backing = record {
    over = over_then;
    way = back.shows.store.way;
    shows = λ fit. next_restored (subst (λ (s : StoreView). StoreShows s (restored t save marks over_then state)) (sym same) (subst (StoreShows mid.store) (sym same_state) (shows_same (finite.insert state.marks t (take save marks)) state.locks state.scans (same_shown old mid t n first state shows back few))))
        (λ none count. sym over_is ∙ shows.rested none (ap (λ (cs : List Change). length cs) (sym kept_all) ∙ count) ∙ overflow_still old.store mid.store new.store root backing same);
  }
    where
      kept_all : kept_to maker t n state.changes ≡ state.changes
      kept_all = changes_kept shows.list t n few

      over_is : state.meter.over ≡ over_then
      over_is = same_over old mid t n first state shows back few

      same_state : restored t save marks over_then state ≡ record state { marks = finite.insert state.marks t (take save marks) }
      same_state =
          (λ i. record state {
            changes = kept_all i;
            marks = finite.insert state.marks t (take save marks);
            meter = with_record (size_for (none_cut t n kept_all i) restore_size) (stamps_kept shows.list t n few i) (sym over_is i) state.meter;
          })
          ∙ (λ i. record state {
            marks = finite.insert state.marks t (take save marks);
            meter = record state.meter { end = none_more state.meter.end i };
          })
