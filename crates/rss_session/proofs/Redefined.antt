-- What is defined is committed, where nothing is open.
use Rattle.std.proofs.Common.{◌≡◌, ℕ, ◌+◌, List, [], ◌∷◌, ◌++◌, length, map, refl, sym, ◌∙◌, ap, subst, arith}
use Rattle.std.specs.Prelude.{Some, None, is_some}
use Rattle.std.specs.Ordering.{nat_cmp}
use Rattle.std.specs.FinMap as finite
use Rattle.std.specs.FinMap.{FinMap}
use Rattle.std.proofs.lemmas.List.{append-nil}
use Rattle.rss_base.specs.LogRecords.{record_size}
use Rattle.rss_base.specs.Listings.{Listing, relation_at}
use Rattle.rss_base.specs.Paged.{mapped_of}
use Rattle.rss_base.specs.declared.key.PageKey.{PageKey}
use Rattle.rss_base.specs.declared.key.Space.TheVariants.{Home, Overflow}
use Rattle.rss_base.specs.declared.log_record.LogRecord.TheVariants as records
use Rattle.rss_base.specs.declared.relation.RelationEntry.{RelationEntry}
use Rattle.rss_base.specs.declared.root.Root.{Root}
use Rattle.rss_model.specs.Changes.{Change, maker}
use Rattle.rss_model.specs.EngineLogs.{EngineLog, all_logged, saved_log, TiesState}
use Rattle.rss_model.specs.Fits.{Fits}
use Rattle.rss_model.specs.Machine.{StoreSize, State, IsAtRest, with_changes, now}
use Rattle.rss_model.specs.Meter.{Stamp, heap_pages, changes_of, changers, checkpoint_size, least_position, free_between}
use Rattle.rss_model.specs.Spares.{change_counts, live_of}
use Rattle.rss_model.specs.Steps.{stamp_by, redefined}
use Rattle.rss_stored.specs.Store.{SpellsTables, size_of}
use Rattle.rss_model.specs.Tables.{Tables, tuple_count}
use Rattle.rss_stored.proofs.ImageRooms.{most_of, bound_rises, listed_same, images_few}
use Rattle.rss_stored.proofs.Listed.{heap_is, fields_listed}
use Rattle.rss_stored.proofs.LogOpening.{restart_ties}
use Rattle.rss_trans.specs.Transactions.{Transaction, marks_of, Checkpoints}
use Rattle.rss_trans.specs.Told.{TellsOpen}
use Rattle.rss_trans.proofs.Told.{none_tells}
use Rattle.rss_trans.proofs.Summing.{since_saved}
use Rattle.rss_access.specs.Written.{heap_now}
use Rattle.rss_store.specs.Stores.{IsSaved}
use Rattle.rss_store.specs.Shown.{Shows as StoreShows}
use Rattle.rss_store.specs.Commits.{least_mark, CanCheckpoint}
use Rattle.rss_session.specs.Sessions.{SessionView, CanSave}
use Rattle.rss_session.specs.Shown.{Shows}
use Rattle.rss_session.specs.Weighing.{named, saved_free, saved_most, saved_images_with, HasSavedRoom, MaySave}
use Rattle.rss_session.proofs.Bounds.{bound_same}
use Rattle.rss_session.proofs.Fresh.{no_entries, none_counted, none_changing, none_survived}
use Rattle.rss_session.proofs.Traffic.{most_is, live_is, each_anew}
use Rattle.rss_session.specs.Calls.{CountsAnew, StandsBehind, IsRedefined}

-- ---- nothing is open

module _ {view : SessionView} (ready : CanSave view) (closed : view.opened.transactions ≡ finite.empty) where
  pub none_named : named view.opened ≡ []
  none_named = ap (λ (m : FinMap nat_cmp Transaction). marks_of (finite.entries m)) closed ∙ ap marks_of no_entries

  free_is : saved_free view ≡ free_between view.store.log.pages view.store.log.end (view.store.log.end + 2)
  free_is = λ i. free_between view.store.log.pages (least_mark view.store.log.end (none_named i)) (view.store.log.end + record_size (records.Checkpoint (none_named i)))

  -- a checkpoint always has room in the log then
  pub may_redefine : MaySave view
  may_redefine = omega (arith, none_counted view.opened closed, none_changing view.opened closed, free_is, ready.store.log.pages, ready.store.formed.log_least)

  -- ---- the next tables

  module _ {state : State} {tables : Tables} (is : IsRedefined view state tables) where
    abbrev next : State
    next = redefined tables state

    abbrev store : StandsBehind view.store state
    store = is.behind

    abbrev log : EngineLog
    log = store.log

    stamps_none : state.meter.stamps ≡ []
    stamps_none = nothing state.meter.stamps (map_none state.meter.stamps (is.metered.makers ∙ ap (map maker) is.none_changed))
      where
        map_none : (ss : List Stamp) → map stamp_by ss ≡ [] → length ss ≡ 0
        map_none [] e = refl
        map_none (s ∷ ss) e = absurd (cc (e))

        nothing : (ss : List Stamp) → length ss ≡ 0 → ss ≡ []
        nothing [] e = refl
        nothing (s ∷ ss) e = absurd (omega (arith, e))

    -- the state at rest with these tables
    abbrev rested : State
    rested = record next { changes = []; marks = finite.empty; locks = finite.empty; scans = finite.empty }

    at_rest_now : IsAtRest state.size tables rested
    at_rest_now = record {
      idle = record { same_size = refl; committed = refl; none_changed = refl; none_open = refl; none_locked = refl; none_scanned = refl };
      meter = λ i. record {
        heap = heap_pages state.size.slots tables + state.meter.over;
        surviving = length (is.none_changed i);
        since = 0;
        traffic = λ relation. record { entries = tuple_count tables.contents relation; surviving = changes_of (is.none_changed i) relation; since = 0 };
        stamps = stamps_none i;
        head = least_position state.meter.end state.meter.stamps;
        end = state.meter.end + checkpoint_size (changers state.meter.stamps);
        over = state.meter.over;
      };
    }

    slots_are : state.size.slots ≡ view.store.root.slots
    slots_are = ap (λ (size : StoreSize). size.slots) store.tied.size ∙ ap (λ (r : Root). r.slots) store.disk.root_is

    fits : Fits state.size.slots tables
    fits = subst (λ (n : ℕ). Fits n tables) (sym slots_are) is.fit

    head_is : rested.meter.head ≡ log.end
    head_is = ap (least_position state.meter.end) stamps_none ∙ store.tied.ties.meter.end

    end_is : rested.meter.end ≡ log.end + 2
    end_is = omega (arith, ap changers stamps_none, store.tied.ties.meter.end)

    ties : TiesState view.store.catalog.listing tables (saved_log log log.end [] []) rested
    ties = restart_ties view.store.catalog.listing tables rested log.end (fields_listed is.spells.listed is.spells.defines) at_rest_now fits head_is end_is

    ties_next : TiesState view.store.catalog.listing (now next) (saved_log log log.end [] []) next
    ties_next = subst (λ (cs : List Change). TiesState view.store.catalog.listing (with_changes tables cs) (saved_log log log.end [] []) (record next { changes = cs })) (sym is.none_changed) (record {
      ties = ties.ties;
      definitions = ties.definitions;
      fields = ties.fields;
      fits = ties.fits;
      placed = ties.placed;
      own = ties.own;
      meter = ties.meter;
    })

    now_is : tables ≡ now next
    now_is = sym (ap (with_changes tables) is.none_changed)

    module _ (held_are : (key : PageKey) → is_some (view.store.pages.held key) ≡ view.store.pages.mapped key) where
      heap_are : next.meter.heap ≡ heap_now view.store.pages
      heap_are = omega (
        arith,
        heap_is is.spells fits view.store.pages.mapped held_are,
        ap (λ (n : ℕ). mapped_of view.store.pages.mapped Home n) (slots_are ∙ sym ready.store.size),
        store.over_is,
      )

      can_none : CanCheckpoint view.store [] store.stored next
      can_none = record {
        log = log;
        disk = store.disk;
        logged = store.logged;
        on_disk = λ i. (store.tied.older i) ++ (store.tied.newer i);
        dropped = all_logged log;
        kept = [];
        split = sym (append-nil (all_logged log));
        gone = store.tied.ties.placed;
        stay = refl;
        spellable = record { bounded = omega arith; fits = tt };
        size = store.tied.size ∙ ap size_of store.disk.root_is;
        ties = ties_next;
        spells = subst (SpellsTables view.store.pages.held view.store.catalog.listing) now_is is.spells;
        written = is.written;
        fit = subst (Fits view.store.root.slots) now_is is.fit;
        metered = is.rooms.metered;
        heap = heap_are;
        over = store.over_is;
      }

      pub can_redefine : CanCheckpoint view.store (named view.opened) store.stored next
      can_redefine = subst (λ (marks : List (ℕ × ℕ)). CanCheckpoint view.store marks store.stored next) (sym none_named) can_none

      -- there is room behind it
      pub room_redefined : HasSavedRoom view
      room_redefined = record {
        slots = omega (arith, is.rooms.metered.room, heap_are, none_counted view.opened closed, images_are, ap (λ (cs : List Change). length cs) is.none_changed, slots_are);
        images =
            let some = images_few is.spells held_are view.store.pages.slots in
            let more = bound_rises view.store.catalog.listing (live_of view.store.catalog.listing) (saved_most view) (λ number relation at. omega arith) in
            omega (arith, some, more);
      }
        where
          most_are : (number : ℕ) (relation : RelationEntry) → relation_at view.store.catalog.listing number ≡ Some relation → most_of view.store.catalog.listing next.meter.traffic number ≡ saved_most view number
          most_are number relation at = omega (
            arith,
            most_is view.store.catalog.listing next.meter.traffic number relation at,
            is.spells.counts number relation at,
            live_is view.store.catalog.listing number relation at,
            ap (λ (cs : List Change). changes_of cs relation.name) is.none_changed,
            none_survived view.opened closed number,
          )

          images_are : (change_counts tables.definitions next.meter).images ≡ saved_images_with view None
          images_are =
              listed_same is.spells.defines is.spells.listed next.meter
              ∙ bound_same view.store.catalog.listing (most_of view.store.catalog.listing next.meter.traffic) (saved_most view) most_are

      module _ {new : SessionView} (shown : StoreShows new.store next) (saved : IsSaved new.store) (checkpoints : Checkpoints view.opened new.opened) (anew : CountsAnew view new) (slots : new.store.pages.slots ≡ new.store.root.slots) where
        pub shows_redefined : Shows new next
        shows_redefined = record {
          store = shown;
          listed = [];
          list = record { changes_are = sym is.none_changed; stamps_are = sym stamps_none };
          told = subst (λ marks. TellsOpen new.store.catalog.listing new.opened marks []) (sym is.none_open) (none_tells new.store.catalog.listing new.opened (checkpoints.transactions ∙ closed));
          counted = record {
            since = since_saved new.store.catalog.listing view.opened new.opened state.size.slots tables state.changes state.meter checkpoints;
            each = each_anew new {tables = tables} {counted = λ relation. 0}
                (subst (λ (l : Listing). SpellsTables view.store.pages.held l tables) (sym anew.listing) is.spells) (λ relation. refl)
                (λ relation. ap (λ (cs : List Change). changes_of cs relation) is.none_changed)
                (λ number. anew.entries number ∙ ap (λ (l : Listing). live_of l number) (sym anew.listing))
                (λ number relation at. anew.survived number relation (ap (λ (l : Listing). relation_at l number) (sym anew.listing) ∙ at) ∙ none_survived view.opened closed number);
            heap = heap_are ∙ sym anew.heap;
            surviving = ap (λ (cs : List Change). length cs) is.none_changed ∙ sym (anew.surviving ∙ none_counted view.opened closed);
            rooms = is.rooms;
          };
          rested = λ none all. shown.over_is ∙ (λ i. mapped_of (saved.pages i) Overflow (slots i));
        }
