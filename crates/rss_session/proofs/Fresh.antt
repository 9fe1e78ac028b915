-- A session in which no transaction is open as yet, over a store that was just opened.
use Rattle.std.proofs.Common.{◌≡◌, ℕ, ◌+◌, List, [], map, sym, ◌∙◌, ap, subst, arith}
use Rattle.std.specs.Prelude.{Option, is_some, unwrap_or}
use Rattle.std.specs.FinMap.{FinMap, empty, entries, get, values, get-empty, len-empty, len-entries}
use Rattle.std.specs.Ordering.{nat_cmp}
use Rattle.rss_base.specs.Paged.{mapped_of}
use Rattle.rss_base.specs.StoredPages.{mapped_by}
use Rattle.rss_base.specs.declared.key.PageKey.{PageKey}
use Rattle.rss_base.specs.declared.key.Space.TheVariants.{Home, Overflow, Image}
use Rattle.rss_base.specs.declared.root.Root.{Root}
use Rattle.rss_base.specs.Steps.{AreCounted}
use Rattle.rss_model.specs.Machine.{StoreSize, State, IsAtRest, with_changes}
use Rattle.rss_model.specs.Meter.{Meter}
use Rattle.rss_model.specs.Ruled.{HasBothRooms}
use Rattle.rss_model.specs.Spares.{live_of, listed_bound, page_counts}
use Rattle.rss_model.specs.Tables.{Tables, tuple_count}
use Rattle.rss_model.proofs.Heap.{nothing as no_more}
use Rattle.rss_stored.proofs.StorePages.{pages_split}
use Rattle.rss_trans.specs.Transactions.{Transaction, nothing, OpenView, transaction_in, sums_of, any, of_relation}
use Rattle.rss_trans.specs.Told.{SavePoints, TellsOpen}
use Rattle.rss_trans.proofs.Told.{none_tells}
use Rattle.rss_access.specs.Written.{heap_now}
use Rattle.rss_store.specs.Opening.{HasRoomAtRest}
use Rattle.rss_store.specs.Stores.{StoreView, IsSaved}
use Rattle.rss_store.specs.Stores.{IsReady as IsStoreReady}
use Rattle.rss_store.specs.Shown.{Shows as StoreShows}
use Rattle.rss_session.specs.Sessions.{SessionView, few, most_in, IsReady, AreRising, sums_in}
use Rattle.rss_session.specs.Sessions as sessions
use Rattle.rss_session.specs.Shown.{Shows, IsRested}
use Rattle.rss_session.specs.Weighing.{survived_now}
use Rattle.rss_session.proofs.Bounds.{bound_same}
use Rattle.rss_session.proofs.Traffic.{each_anew}

pub no_entries : entries {X = Transaction} {R = nat_cmp} empty ≡ []
no_entries = no_more (entries {X = Transaction} {R = nat_cmp} empty) (sym (len-entries {X = Transaction} {R = nat_cmp} empty) ∙ len-empty nat_cmp Transaction)

-- ---- nothing is counted

module _ (opened : OpenView) (none : opened.transactions ≡ empty) where
  no_changes : (t : ℕ) → (transaction_in opened t).changes ≡ []
  no_changes t = ap (λ (m : FinMap nat_cmp Transaction). (unwrap_or (get m t) nothing).changes) none ∙ ap (λ o. (unwrap_or o nothing).changes) (get-empty {X = Transaction} nat_cmp t)

  pub none_counted : (sums_in opened).p ≡ 0
  none_counted = ap (λ (m : FinMap nat_cmp Transaction). (sums_of any 0 (values m)).p) none ∙ ap (λ (es : List (ℕ × Transaction)). (sums_of any 0 (map (λ e. e.1) es)).p) no_entries

  pub none_changing : (sums_in opened).q ≡ 0
  none_changing = ap (λ (m : FinMap nat_cmp Transaction). (sums_of any 0 (values m)).q) none ∙ ap (λ (es : List (ℕ × Transaction)). (sums_of any 0 (map (λ e. e.1) es)).q) no_entries

  pub none_survived : (number : ℕ) → survived_now opened number ≡ 0
  none_survived number = ap (λ (m : FinMap nat_cmp Transaction). few (sums_of (of_relation number) 0 (values m)).p) none ∙ ap (λ (es : List (ℕ × Transaction)). few (sums_of (of_relation number) 0 (map (λ e. e.1) es)).p) no_entries

-- ---- the session

abbrev fresh : StoreView → OpenView → ℕ → (ℕ → ℕ) → (ℕ → ℕ) → SessionView
fresh store opened heap entries survived = record { store = store; opened = opened; heap = heap; surviving = 0; entries = entries; survived = survived }

module _ (store : StoreView) (opened : OpenView) (heap : ℕ) (entries survived : ℕ → ℕ) (none : opened.transactions ≡ empty) (since : opened.since ≡ 0) (since_of : (relation : ℕ) → opened.since_of relation ≡ 0) (heap_is : heap ≡ heap_now store.pages)
    (entries_are : (number : ℕ) → entries number ≡ live_of store.catalog.listing number) (survived_are : (number : ℕ) → survived number ≡ 0) where
  abbrev here : SessionView
  here = fresh store opened heap entries survived

  images_are : (sessions.counts here).images ≡ listed_bound store.catalog.listing (live_of store.catalog.listing)
  images_are = bound_same store.catalog.listing (most_in here) (live_of store.catalog.listing) (λ number relation at. omega (arith, entries_are number, survived_are number, since_of number))

  pub fresh_ready : IsStoreReady store → IsSaved store → AreCounted store.pages → HasRoomAtRest store → IsReady here
  fresh_ready ready saved counted room =
      let pages = pages_split store.pages.mapped store.pages.slots ready.system in
      let images : (page_counts store.pages).saved_images ≡ mapped_of store.pages.mapped Image store.pages.slots = λ i. mapped_of (sym saved.pages i) Image store.pages.slots in
      let order = ready.log.is_log.ring.order in
      record {
        store = ready;
        pages = record {
          made = record { before = omega (arith, saved.count, pages, images, heap_is); now = omega (arith, pages, heap_is); all = counted };
          most = omega (arith, none_counted opened none, since);
        };
        room = omega (arith, room.slots, images_are, heap_is, since);
        saved = omega (arith, images, room.images, images_are);
        log = omega (arith, none_counted opened none, none_changing opened none, ready.formed.room, saved.log, ready.log.pages, ready.log.head);
        placed = λ t. subst (AreRising store.log.head store.log.end) (sym (no_changes opened none t)) order;
        numbers = λ t is. absurd (cc (sym is ∙ ap (λ (m : FinMap nat_cmp Transaction). is_some (get m t)) none ∙ ap is_some (get-empty {X = Transaction} nat_cmp t)));
      }

  pub fresh_shows : IsStoreReady store → IsSaved store → (size : StoreSize) (tables : Tables) (state : State)
      → StoreShows store state → IsAtRest size tables state → HasBothRooms state → IsRested here state → Shows here state
  fresh_shows ready saved size tables state shows rest rooms rested = record {
    store = shows;
    listed = [];
    list = record { changes_are = sym rest.idle.none_changed; stamps_are = sym (ap (λ (m : Meter). m.stamps) rest.meter) };
    told = subst (λ (marks : SavePoints). TellsOpen store.catalog.listing opened marks []) (sym rest.idle.none_open) (none_tells store.catalog.listing opened none);
    counted = record {
      since = record {
        all = since ∙ sym (ap (λ (m : Meter). m.since) rest.meter);
        each = λ relation number numbered. since_of number ∙ sym (ap (λ (m : Meter). (m.traffic relation).since) rest.meter);
        fewer = λ relation. omega (arith, ap (λ (m : Meter). (m.traffic relation).since) rest.meter);
      };
      each = each_anew here {tables = with_changes state.base state.changes} {counted = λ relation. 0} shows.spells
          (λ relation. ap (λ (m : Meter). (m.traffic relation).entries) rest.meter ∙ ap (λ (t : Tables). tuple_count t.contents relation) (sym tables_are))
          (λ relation. ap (λ (m : Meter). (m.traffic relation).surviving) rest.meter) entries_are (λ number relation at. survived_are number);
      heap = shows.heap ∙ (λ i. mapped_of (mapped i) Home (slots i) + mapped_of (mapped i) Overflow (slots i)) ∙ sym heap_is;
      surviving = ap (λ (m : Meter). m.surviving) rest.meter;
      rooms = rooms;
    };
    rested = rested;
  }
    where
      tables_are : with_changes state.base state.changes ≡ tables
      tables_are = (λ i. with_changes (rest.idle.committed i) (rest.idle.none_changed i))

      mapped : mapped_by shows.stored.owners ≡ store.pages.mapped
      mapped = ap (λ (owners : List (Option PageKey)). mapped_by owners) shows.disk.owners_are ∙ sym saved.pages

      slots : shows.stored.root.slots ≡ store.pages.slots
      slots = ap (λ (r : Root). r.slots) shows.disk.root_is ∙ sym ready.size
