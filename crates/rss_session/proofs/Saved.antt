-- A checkpoint of a session: what it asks for, and what is so behind it.
use Rattle.std.proofs.Common.{◌≡◌, ℕ, ◌+◌, ◌*◌, ◌≤◌, true, ◌++◌, length, refl, sym, ◌∙◌, ap, subst, arith}
use Rattle.std.specs.Prelude.{Option, Some, None, is_some}
use Rattle.std.specs.FinMap as finite
use Rattle.rss_base.specs.LogRecords.{ArePlaced, IsSpellable, DoesMarkFit, record_size, marks_most}
use Rattle.rss_base.specs.Sizes.{system_pages, largest_checkpoint}
use Rattle.rss_base.specs.Listings.{Listing, relation_at}
use Rattle.rss_base.specs.Paged.{mapped_of, mapped_pages}
use Rattle.rss_base.specs.Steps.{AreCounted}
use Rattle.rss_base.specs.declared.key.PageKey.{PageKey}
use Rattle.rss_base.specs.declared.key.Space.TheVariants.{Home, Overflow, Image}
use Rattle.rss_base.specs.declared.relation.RelationEntry.{RelationEntry}
use Rattle.rss_base.specs.declared.log_record.LogRecord.TheVariants as records
use Rattle.rss_record.proofs.Marks.{length-marks_bytes}
use Rattle.rss_log.specs.Logs.{free_of}
use Rattle.rss_model.specs.Fits.{Fits}
use Rattle.rss_model.specs.Kept.{Kept}
use Rattle.rss_model.specs.Machine.{State, now}
use Rattle.rss_model.specs.Meter.{free_between, least_position, changes_of}
use Rattle.rss_model.specs.Meanings.{as_bytes}
use Rattle.rss_model.specs.EngineLogs.{EngineLog, lists_now, saved_log, TiesState}
use Rattle.rss_stored.specs.LogLaws.{SavesTie, head_behind}
use Rattle.rss_model.specs.Recovers.{NamesLists}
use Rattle.rss_model.specs.Rules.{saved_now, if_no_log_room}
use Rattle.rss_model.specs.Spares.{live_of, page_counts, HasMade, IsInSession}
use Rattle.rss_stored.specs.Store.{size_of}
use Rattle.rss_model.proofs.BothRooms.{checkpoints_keep_rooms}
use Rattle.rss_stored.proofs.LogSaving.{checkpoint_ties}
use Rattle.rss_model.proofs.Sparing.{session_begins}
use Rattle.rss_model.proofs.StepKeeping.{kept_fit}
use Rattle.rss_stored.proofs.StorePages.{pages_split}
use Rattle.rss_trans.specs.Transactions.{Transaction, OpenView, is_open, transaction_in, first_position, Checkpoints}
use Rattle.rss_trans.specs.Told.{TellsOpen}
use Rattle.rss_trans.proofs.Told.{done, checkpoint_tells}
use Rattle.rss_trans.proofs.Noting.{tied_listed, listed_once}
use Rattle.rss_trans.proofs.Summing.{names_told, since_saved}
use Rattle.rss_access.specs.Written.{heap_now}
use Rattle.rss_store.specs.Stores.{IsSaved}
use Rattle.rss_store.specs.Stores.{IsReady as IsStoreReady}
use Rattle.rss_store.specs.Shown.{Shows as StoreShows}
use Rattle.rss_store.specs.Commits.{HasLogRoom, least_mark, CanCheckpoint, Saves}
use Rattle.rss_session.specs.Sessions.{SessionView, AreRising, IsReady, CanSave, IsEarly, sums_in, owed_by}
use Rattle.rss_session.specs.Sessions as sessions
use Rattle.rss_session.specs.Shown.{Shows}
use Rattle.rss_session.specs.Weighing.{named, saved_head, saved_free, survived_now, saved_images_with, HasSavedRoom, MaySave}
use Rattle.rss_session.specs.Calls.{CountsAnew}
use Rattle.rss_session.proofs.Marked.{low_least, least_end, least_all, all_marked, marked_all, rising_higher, rising_from, first_placed}
use Rattle.rss_session.proofs.Traffic.{images_anew, each_anew, survived_same}
use Rattle.rss_session.proofs.Weighed.{count_same, slots_same, few_slots, saved_head_same, saved_heap_same, may_save}

-- ---- what it asks for

-- a transaction with a change is open
first_open : (view : OpenView) (t place : ℕ) → first_position (transaction_in view t) ≡ Some place → is_open view t ≡ true
first_open view t place is = by (finite.get view.transactions t) refl
  where
    by : (o : Option Transaction) → finite.get view.transactions t ≡ o → is_some o ≡ true
    by None at = absurd (none (sym (ap (λ (o : Option Transaction). first_position (done o)) at) ∙ is))
      where
        none : ◌≡◌ {A = Option ℕ} None (Some place) → ⊥
        none e = cc (e)
    by (Some x) at = refl

-- between two calls there may be one
pub saves_ready : {view : SessionView} → IsReady view → CanSave view
saves_ready ready = record { store = ready.store; log = ready.log; placed = ready.placed; numbers = ready.numbers }

module _ {view : SessionView} (ready : CanSave view) where
  pub head_low : view.store.log.head ≤ least_mark view.store.log.end (named view.opened)
  head_low =
      low_least view.store.log.head view.store.log.end (named view.opened) ready.store.log.is_log.ring.order
      (all_marked view.opened (λ m. view.store.log.head ≤ m.1) (λ t place first. (first_placed view.store.log.head view.store.log.end (transaction_in view.opened t).changes place first (ready.placed t)).0))

  module _ (few : length (named view.opened) ≤ marks_most) where
    pub size_most : record_size (records.Checkpoint (named view.opened)) ≤ largest_checkpoint
    size_most = omega (arith, length-marks_bytes (named view.opened), few)

    pub log_room : MaySave view → IsEarly view largest_checkpoint → HasLogRoom view.store.log (record_size (records.Checkpoint (named view.opened))) (least_mark view.store.log.end (named view.opened))
    log_room may early = record {
      before = omega (arith, size_most, ready.log);
      behind = omega (arith, may);
      limit = omega (arith, size_most, early);
    }

    spellable : IsSpellable (records.Checkpoint (named view.opened))
    spellable = record {
      bounded = few;
      fits = all_marked view.opened DoesMarkFit (λ t place first.
          let placed = first_placed view.store.log.head view.store.log.end (transaction_in view.opened t).changes place first (ready.placed t) in
          (ready.numbers t (first_open view.opened t place first), omega (arith, placed.1, ready.store.log.is_log.ring.limit)));
    }

    module _ {state : State} (whole : IsReady view) (may : MaySave view) (kept : Kept state) (shows : Shows view state) (held_are : (key : PageKey) → is_some (view.store.pages.held key) ≡ view.store.pages.mapped key) where
      abbrev next : State
      next = record state { meter = saved_now state }

      abbrev log : EngineLog
      log = shows.store.log

      lists_are : shows.listed ≡ lists_now log
      lists_are = listed_once state.changes state.meter.stamps shows.listed (lists_now log) shows.list (tied_listed shows.store.stored.listing shows.store.stored.saved log state shows.store.tied.ties)

      names : NamesLists (named view.opened) (lists_now log)
      names = subst (NamesLists (named view.opened)) lists_are (names_told view.store.catalog.listing view.opened state.marks shows.listed shows.told)

      tie : SavesTie view.store.catalog.listing log state (named view.opened)
      tie = checkpoint_ties shows.store.stored.listing view.store.catalog.listing shows.store.stored.saved log state (named view.opened) shows.store.tied.ties shows.store.definitions names spellable

      heads : head_behind log state ≡ least_mark log.end (named view.opened)
      heads =
          ap (λ (n : ℕ). least_position n state.meter.stamps) (sym shows.store.tied.ties.meter.end)
          ∙ sym (saved_head_same whole shows)
          ∙ ap (λ (n : ℕ). least_mark n (named view.opened)) shows.store.logged.end_is

      no_refusal : if_no_log_room state ≡ None
      no_refusal = may_save whole shows may

      pub can_save : CanCheckpoint view.store (named view.opened) shows.store.stored next
      can_save = record {
        log = log;
        disk = shows.store.disk;
        logged = shows.store.logged;
        on_disk = λ i. (shows.store.tied.older i) ++ (shows.store.tied.newer i);
        dropped = tie.dropped;
        kept = tie.kept;
        split = tie.split;
        gone = subst (ArePlaced log.head (as_bytes tie.dropped)) heads tie.gone;
        stay = subst (λ (n : ℕ). ArePlaced n (as_bytes tie.kept) log.end) heads tie.stay;
        spellable = spellable;
        size = shows.store.tied.size ∙ ap size_of shows.store.disk.root_is;
        ties = subst (λ (n : ℕ). TiesState view.store.catalog.listing (now next) (saved_log log n tie.kept (named view.opened)) next) heads tie.ties;
        spells = shows.store.spells;
        written = shows.store.written;
        fit = subst (λ (n : ℕ). Fits n (now state)) (slots_same whole shows) (kept_fit state kept).1;
        metered = (checkpoints_keep_rooms state shows.counted.rooms.metered no_refusal).metered;
        heap = saved_heap_same whole shows held_are;
        over = shows.store.over_is;
      }

      -- ---- the state behind it

      module _ {new : SessionView} (store : StoreShows new.store next) (saved : IsSaved new.store) (checkpoints : Checkpoints view.opened new.opened) (anew : CountsAnew view new) (slots : new.store.pages.slots ≡ new.store.root.slots) where
        pub shows_saved : Shows new next
        shows_saved = record {
          store = store;
          listed = shows.listed;
          list = record { changes_are = shows.list.changes_are; stamps_are = shows.list.stamps_are };
          told = subst (λ (l : Listing). TellsOpen l new.opened state.marks shows.listed) (sym anew.listing) (checkpoint_tells view.store.catalog.listing view.opened new.opened state.marks shows.listed shows.told checkpoints);
          counted = record {
            since = since_saved new.store.catalog.listing view.opened new.opened state.size.slots (now state) state.changes state.meter checkpoints;
            each = each_anew new {counted = changes_of state.changes} store.spells (λ relation. refl) (λ relation. refl)
                (λ number. anew.entries number ∙ ap (λ (l : Listing). live_of l number) (sym anew.listing))
                (λ number relation at.
                let was : relation_at view.store.catalog.listing number ≡ Some relation = ap (λ (l : Listing). relation_at l number) (sym anew.listing) ∙ at in
                anew.survived number relation was ∙ survived_same shows (few_slots whole shows) number relation was);
            heap = saved_heap_same whole shows held_are ∙ sym anew.heap;
            surviving = sym (count_same whole shows) ∙ sym anew.surviving;
            rooms = checkpoints_keep_rooms state shows.counted.rooms.metered no_refusal;
          };
          rested = λ none all. store.over_is ∙ (λ i. mapped_of (saved.pages i) Overflow (slots i));
        }

-- ---- a call may be made again

-- each page has room in two slots
pub half : {view : SessionView} → CanSave view → HasSavedRoom view → 2 * mapped_pages view.store.pages.slots view.store.pages.mapped ≤ view.store.pages.slots
half {view = view} ready room = omega (arith, room.slots, room.images, pages_split view.store.pages.mapped view.store.pages.slots ready.store.system, ready.store.size)

module _ {old new : SessionView} (ready : CanSave old) (may : MaySave old) (room : HasSavedRoom old) (store : IsStoreReady new.store) (saved : IsSaved new.store) (saves : Saves (named old.opened) old.store new.store) (checkpoints : Checkpoints old.opened new.opened)
    (entries : (number : ℕ) → new.entries number ≡ live_of old.store.catalog.listing number) (survived : (number : ℕ) (relation : RelationEntry) → relation_at old.store.catalog.listing number ≡ Some relation → new.survived number ≡ survived_now old.opened number) (listing : new.store.catalog.listing ≡ old.store.catalog.listing)
    (heap : new.heap ≡ heap_now new.store.pages) (surviving : new.surviving ≡ (sums_in new.opened).p) (slots : new.store.pages.slots ≡ old.store.pages.slots) (counted : AreCounted new.store.pages) where
  mapped_now : mapped_pages new.store.pages.slots new.store.pages.mapped ≡ heap_now new.store.pages + mapped_of new.store.pages.mapped Image new.store.pages.slots + system_pages
  mapped_now = pages_split new.store.pages.mapped new.store.pages.slots store.system

  images_mapped : mapped_of new.store.pages.mapped Image new.store.pages.slots ≡ mapped_of old.store.pages.mapped Image old.store.pages.slots
  images_mapped = λ i. mapped_of (saves.mapped i) Image (slots i)

  images_saved : (page_counts new.store.pages).saved_images ≡ mapped_of new.store.pages.mapped Image new.store.pages.slots
  images_saved = λ i. mapped_of (sym saved.pages i) Image new.store.pages.slots

  images_now : (sessions.counts new).images ≡ saved_images_with old None
  images_now = images_anew old new listing checkpoints.since_of entries survived None

  heap_same : heap_now new.store.pages ≡ heap_now old.store.pages
  heap_same = λ i. mapped_of (saves.mapped i) Home (slots i) + mapped_of (saves.mapped i) Overflow (slots i)

  sums_same : (sums_in new.opened).p ≡ (sums_in old.opened).p
  sums_same = ap (λ m. (sums_in (record old.opened { transactions = m })).p) checkpoints.transactions

  changers_same : (sums_in new.opened).q ≡ (sums_in old.opened).q
  changers_same = ap (λ m. (sums_in (record old.opened { transactions = m })).q) checkpoints.transactions

  free_same : free_of new.store.log ≡ saved_free old
  free_same = λ i. free_between (saves.pages i) (saves.head i) (saves.end i)

  made : HasMade (sessions.counts new) 0 (page_counts new.store.pages)
  made = record {
    before = omega (arith, saves.shadow, mapped_now, images_saved, heap);
    now = omega (arith, mapped_now, heap);
    all = counted;
  }

  opened_same : (t : ℕ) → finite.get new.opened.transactions t ≡ finite.get old.opened.transactions t
  opened_same t = ap (λ m. finite.get m t) checkpoints.transactions

  end_later : old.store.log.end ≤ new.store.log.end
  end_later = omega (arith, saves.end)

  pub ready_saved : IsReady new
  ready_saved = record {
    store = store;
    pages = subst (λ (n : ℕ). IsInSession (sessions.counts new) n (page_counts new.store.pages)) surviving (session_begins (sessions.counts new) (page_counts new.store.pages) made);
    room = omega (arith, room.slots, images_now, heap, heap_same, surviving, sums_same, checkpoints.since, slots, ready.store.size);
    saved = omega (arith, images_saved, images_mapped, room.images, images_now);
    log = omega (arith, may, free_same, sums_same, changers_same);
    placed = λ t.
        subst (λ (x : Option Transaction). AreRising new.store.log.head new.store.log.end (done x).changes) (sym (opened_same t))
        (subst (λ (n : ℕ). AreRising n new.store.log.end (transaction_in old.opened t).changes) (sym saves.head)
        (rising_higher (saved_head old) old.store.log.end new.store.log.end (transaction_in old.opened t).changes end_later
        (rising_from old.store.log.head (saved_head old) old.store.log.end (transaction_in old.opened t).changes (least_end old.store.log.end (named old.opened))
        (λ place first. marked_all old.opened (λ n. saved_head old ≤ n) t place (least_all old.store.log.end (named old.opened)) first) (ready.placed t))));
    numbers = λ t is. ready.numbers t (ap is_some (sym (opened_same t)) ∙ is);
  }
