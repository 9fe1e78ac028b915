-- A store that was read is brought to rest: where it is then, and what a stop leaves.
use Rattle.std.proofs.Common.{◌≡◌, ◌⊎◌, ⊎_elim, ℕ, ◌+◌, ◌*◌, ◌≤◌, true, List, [], ◌++◌, append-nil, refl, sym, ◌∙◌, ap, subst, rules, arith}
use Rattle.std.specs.Prelude.{Bool, false, IsTrue, is_some, Result, Ok, Err, OnOk, IsErrAnd}
use Rattle.std.specs.FinMap as map
use Rattle.std.proofs.lemmas.List.Sums.{sum_by-le-sum_by}
use Rattle.std.proofs.lemmas.Result.{err_from_is_err_and}
use Rattle.rss_base.specs.declared.fault.PageFault.{PageFault}
use Rattle.rss_base.specs.declared.fault.PageFault.TheVariants.{Device as PageDevice, Damaged as PageDamaged}
use Rattle.rss_base.specs.declared.key.Space.TheVariants.{Home, Overflow, Image}
use Rattle.rss_base.specs.declared.key.PageKey.{PageKey}
use Rattle.rss_base.specs.declared.log_record.LogRecord.TheVariants as records
use Rattle.rss_base.specs.declared.name.Name.{Name}
use Rattle.rss_base.specs.declared.place.Place.{Place}
use Rattle.rss_base.specs.declared.place.Place.TheVariants.{Log as LogPlace}
use Rattle.rss_base.specs.declared.root.Root.{Root}
use Rattle.rss_base.specs.DiskRule.{Pages, IsTold, Leaves, Passes}
use Rattle.rss_base.specs.Faults.{Rises}
use Rattle.rss_base.specs.Listings.{Listing}
use Rattle.rss_base.specs.LogRecords.{ArePlaced, record_size}
use Rattle.rss_base.specs.PageMap.{page_count}
use Rattle.rss_base.specs.Paged.{Held, Fixed, Backing, HasFixed, mapped_of}
use Rattle.rss_base.specs.Sizes.{system_pages}
use Rattle.rss_base.specs.Steps.{PagesView}
use Rattle.rss_base.specs.StoredPages.{mapped_by}
use Rattle.rss_base.proofs.Moments.{started, then, widened, continues, continues_then, rises_since}
use Rattle.rss_catalog.specs.Catalogs.{CatalogView, HasSystemPages}
use Rattle.rss_log.specs.Logs.{HasRecords}
use Rattle.rss_model.specs.Tables.{Definitions, Tables, tuple_count}
use Rattle.rss_model.specs.Fits.{Fits}
use Rattle.rss_model.specs.Kept.{IsMetered, HasLogRoom}
use Rattle.rss_model.specs.Machine.{StoreSize, State, IsAtRest}
use Rattle.rss_model.specs.Meanings.{Logged, as_bytes, SameDefinitions}
use Rattle.rss_model.specs.Meter.{Meter, heap_pages, entries_most, pages_of_image, at_rest}
use Rattle.rss_model.specs.EngineLogs.{all_logged}
use Rattle.rss_stored.specs.LogLaws.{log_of, IsRested}
use Rattle.rss_model.specs.Spares.{change_counts}
use Rattle.rss_stored.specs.Store.{Stored, SpellsTables, held_in, meter_of, size_of, pages_of_space, IsStore}
use Rattle.rss_stored.proofs.Listed.{heap_is}
use Rattle.rss_stored.proofs.Listed.{fields_listed}
use Rattle.rss_stored.proofs.LogOpening.{rest_ties, restart_ties}
use Rattle.rss_stored.proofs.LogPlaced.{recovered_fit}
use Rattle.rss_stored.proofs.Restarted.{recovered_count}
use Rattle.rss_model.proofs.Saving.{more_pages}
use Rattle.rss_stored.proofs.StorePages.{owners_split, pages_split, rest_metered}
use Rattle.rss_stored.proofs.Stores.{same_roots, same_overflow}
use Rattle.rss_access.specs.Changes.{both, CanAlter}
use Rattle.rss_access.specs.Written.{heap_now}
use Rattle.rss_restart.specs.Opened.{recovery_of}
use Rattle.rss_restart.specs.Surveys.{IsLogPlace}
use Rattle.rss_restart.specs.Restarting.{CanRestart, Recovered, NoneRecovered, RestartPasses}
use Rattle.rss_restart.proofs.Opening.{few_changes, stores_restart, gives_tables}
use Rattle.rss_store.specs.Stores.{StoreView, IsReady, IsSaved}
use Rattle.rss_store.specs.Shown.{HoldsTables, LeavesStore, HoldsLogged, Shows}
use Rattle.rss_store.specs.Commits.{CanCheckpoint, IsSavedStore, CommitsPages, Saves, StandsAtCheckpoint}
use Rattle.rss_store.specs.Opening.{RestsAt, NamesNone, IsReadFrom, OpensAt, BeginsIn, HasRoomAtRest, FindsDamage, Begins}
use Rattle.rss_store.proofs.Spelled.{system_kept}
use Rattle.rss_store.proofs.Resting.{StandsThere, stands_there, not_none, rests, rested}
use Rattle.rss_store.proofs.RoomsAtRest.{room_still, room_spelled}

-- ---- the state at rest

abbrev pub rest_state : StoreSize → Tables → ℕ → ℕ → ℕ → State
rest_state size tables over head end = record {
  size = size;
  base = tables;
  changes = [];
  marks = map.empty;
  locks = map.empty;
  scans = map.empty;
  meter = at_rest size.slots tables over head end;
}

is_at_rest : (size : StoreSize) (tables : Tables) (over head end : ℕ) → IsAtRest size tables (rest_state size tables over head end)
is_at_rest size tables over head end = record {
  idle = record { same_size = refl; committed = refl; none_changed = refl; none_open = refl; none_locked = refl; none_scanned = refl };
  meter = refl;
}

-- the pages that spell these tables, and the root with their size
module _ (view : StoreView) (root : Root) (tables : Tables) (size : view.pages.slots ≡ root.slots) (spells : SpellsTables view.pages.held view.catalog.listing tables) (fit : Fits root.slots tables) (held_are : (key : PageKey) → is_some (view.pages.held key) ≡ view.pages.mapped key) where
  abbrev pub resting : ℕ → ℕ → State
  resting head end = rest_state (size_of root) tables (mapped_of view.pages.mapped Overflow view.pages.slots) head end

  pub heap_rests : heap_pages root.slots tables + mapped_of view.pages.mapped Overflow view.pages.slots ≡ heap_now view.pages
  heap_rests = ap (λ (n : ℕ). n + mapped_of view.pages.mapped Overflow view.pages.slots)
      (heap_is spells fit view.pages.mapped held_are ∙ ap (λ (n : ℕ). mapped_of view.pages.mapped Home n) (sym size))

  pub rests_metered : (head end : ℕ) → head ≤ end → 2 * (heap_now view.pages + (change_counts tables.definitions (resting head end).meter).images + system_pages) ≤ root.slots → IsMetered (resting head end)
  rests_metered head end rises room = rest_metered (size_of root) tables (resting head end) (is_at_rest _ tables _ head end) rises (omega (arith, heap_rests, room))

-- the images of the tables that are recovered need no more pages than the meter of the checkpoint allows
images_recovered : {pages : Pages} {stored : Stored} → IsStore pages stored → (meter : Meter) → ((relation : Name) → entries_most (meter.traffic relation) ≡ tuple_count stored.tables.contents relation) → (change_counts stored.tables.definitions meter).images ≤ (change_counts stored.saved.definitions (meter_of stored)).images
images_recovered {stored = stored} store meter entries =
    let definitions : Definitions = stored.saved.definitions in
    let few = sum_by-le-sum_by (pages_of_image definitions meter) (pages_of_image definitions (meter_of stored)) (map.values definitions.images)
    (λ image. more_pages _ (meter.traffic image.relation) ((meter_of stored).traffic image.relation) (omega (arith, entries image.relation, recovered_count store.log image.relation))) in
    omega (arith, few, ap (λ (d : Definitions). (change_counts d meter).images) store.log.definitions)

-- ---- a store whose state is at rest, all of which is on the disk, is opened in this state

module _ {view : StoreView} {size : StoreSize} {tables : Tables} {state : State} (ready : IsReady view) (saved : IsSaved view) (shows : Shows view state) (rest : IsAtRest size tables state) where
  opens_at : (image : Pages) → HasFixed view.pages.fixed image → OpensAt image size tables state
  opens_at image has =
      let store = shows.disk.fixes image has in
      let root = shows.disk.root_is in
      record {
        holds = record {
          stored = shows.stored;
          store = store;
          same_size = sym rest.idle.same_size ∙ shows.tied.size;
          holds = sym rest.idle.committed ∙ sym shows.tied.tables;
        };
        begins = record {
          rest = rest;
          over = λ other is.
              shows.over_is
              ∙ (λ i. mapped_of (saved.pages i) Overflow (ready.size i))
              ∙ (λ i. mapped_of (mapped_by (sym shows.disk.owners_are i)) Overflow (sym root i).slots)
              ∙ same_overflow store is;
          head = λ other is.
              shows.tied.ties.meter.head ∙ sym shows.logged.head_is ∙ ready.log.head ∙ ap (λ (r : Root). r.head) (sym root ∙ same_roots store is);
          end = λ other is.
              shows.tied.ties.meter.end ∙ sym shows.logged.end_is ∙ sym saved.log ∙ ap (λ (r : Root). r.end) (sym root ∙ same_roots store is);
        };
      }

-- ---- a store that was read

module _ {stored : Stored} {view : StoreView} (read : IsReadFrom stored view) where
  pub read_told : IsTold view.pages.disk
  read_told = record { pages = read.pages; is = read.told }

  pub read_holds : (image : Pages) → HasFixed view.pages.fixed image → HoldsTables (size_of stored.root) stored.tables image
  read_holds image has = record { stored = stored; store = read.fixes image has; same_size = refl; holds = refl }

  can_restart : CanRestart (both view.pages view.catalog) view.log view.root.checkpoint (recovery_of stored)
  can_restart = subst (λ (r : Root). CanRestart (both view.pages view.catalog) view.log r.checkpoint (recovery_of stored)) read.root_is
      (stores_restart (both view.pages view.catalog) view.log read.pages stored read.store read.opened)

  read_stands : StandsThere view.log stored
  read_stands = stands_there view.log read.store read.opened.head can_restart.records.records

  -- a log at rest is that of a store at rest
  pub read_rests : IsRested stored → RestsAt view.log view.root.checkpoint
  read_rests is = subst (λ (r : Root). RestsAt view.log r.checkpoint) read.root_is (rests read_stands is)

  pub read_rested : RestsAt view.log view.root.checkpoint → IsRested stored
  read_rested is = rested read_stands (subst (λ (r : Root). RestsAt view.log r.checkpoint) (sym read.root_is) is)

  pub read_named : NamesNone view.log view.root.checkpoint → ⊥
  read_named none = not_none read_stands (subst (λ (r : Root). NamesNone view.log r.checkpoint) (sym read.root_is) none)

  -- the pages of the map
  count_read : page_count stored.owners ≡ pages_of_space Home stored + pages_of_space Overflow stored + pages_of_space Image stored + system_pages
  count_read = owners_split stored.root stored.owners read.pages read.store.map stored.listing read.store.system

  heap_read : heap_now view.pages ≡ (meter_of stored).heap
  heap_read = λ i. mapped_of (read.opened.mapped i) Home (read.opened.slots i) + mapped_of (read.opened.mapped i) Overflow (read.opened.slots i)

  images_saved : mapped_of (mapped_by view.pages.backing.shadow) Image view.pages.slots ≡ pages_of_space Image stored
  images_saved = λ i. mapped_of (mapped_by (read.opened.shadow i)) Image (read.opened.slots i)

  spells_read : SpellsTables view.pages.held view.catalog.listing stored.saved
  spells_read =
      subst (λ (h : Held). SpellsTables h view.catalog.listing stored.saved) (sym read.opened.held)
      (subst (λ (l : Listing). SpellsTables (held_in read.pages stored) l stored.saved) (sym read.opened.listing) read.store.spells)

  fit_read : Fits stored.root.slots stored.tables
  fit_read = recovered_fit read.store.log

  leaves_read : LeavesStore view stored
  leaves_read = record { number_is = read.number_is; root_is = read.root_is; owners_are = sym read.opened.shadow; fixes = read.fixes }

  logged_read : HoldsLogged view (log_of stored)
  logged_read = record {
    head_is = read.opened.head;
    end_is = read.opened.end;
    records = subst (λ (newer : List Logged). HasRecords view.log (as_bytes (stored.older ++ newer))) (sym (append-nil stored.newer)) can_restart.records.records;
    until = subst (λ (r : Root). ArePlaced stored.root.head (as_bytes (stored.older ++ stored.newer)) r.end) read.root_is read.store.log.parses.placed;
  }

-- ---- one at rest is as it was read

module _ {stored : Stored} {view : StoreView} (ready : IsReady view) (saved : IsSaved view) (held_are : IsTold view.pages.disk → (key : PageKey) → is_some (view.pages.held key) ≡ view.pages.mapped key) (stays : IsTold view.pages.disk → (image : Pages) → Leaves view.pages.disk image → HasFixed view.pages.fixed image) (read : IsReadFrom stored view) (rests : RestsAt view.log view.root.checkpoint) where
  abbrev held_here : (key : PageKey) → is_some (view.pages.held key) ≡ view.pages.mapped key
  held_here = held_are (read_told read)

  abbrev state : State
  state = rest_state (size_of stored.root) stored.tables (mapped_of view.pages.mapped Overflow view.pages.slots) stored.root.head stored.root.end

  rest_here : IsAtRest (size_of stored.root) stored.tables state
  rest_here = is_at_rest _ stored.tables _ stored.root.head stored.root.end

  spells_here : SpellsTables view.pages.held view.catalog.listing stored.tables
  spells_here = subst (λ (t : Tables). SpellsTables view.pages.held view.catalog.listing t) (rest_ties read.pages stored state read.store (read_rested read rests) rest_here refl refl).0 (spells_read read)

  heap_here : heap_pages stored.root.slots stored.tables + mapped_of view.pages.mapped Overflow view.pages.slots ≡ heap_now view.pages
  heap_here = heap_rests view stored.root stored.tables read.opened.slots spells_here (fit_read read) held_here

  -- images need no more pages than the meter of the checkpoint allows, and so there is room
  slots_here : 2 * (heap_now view.pages + (change_counts stored.tables.definitions state.meter).images + system_pages) ≤ stored.root.slots
  slots_here = omega (arith, heap_read read, images_recovered read.store state.meter (λ relation. omega arith), read.store.room)

  pub room_here : HasRoomAtRest view
  room_here = room_spelled view spells_here held_here state.meter (λ relation. omega arith) (omega (arith, slots_here, read.opened.slots))

  shows_here : Shows view state
  shows_here = record {
    log = log_of stored;
    stored = stored;
    disk = leaves_read read;
    tied = record {
      ties = (rest_ties read.pages stored state read.store (read_rested read rests) rest_here refl refl).1;
      older = refl;
      newer = refl;
      size = refl;
      tables = refl;
    };
    logged = logged_read read;
    definitions = subst (SameDefinitions stored.listing) (sym read.opened.listing) (record { segments = refl; relations = refl; images = refl; links = refl });
    spells = spells_here;
    written = read.written;
    heap = heap_here ∙ heap_read read;
    session = record {
      made = record {
        before = omega (arith, ap page_count read.opened.shadow, count_read read, heap_here, heap_read read, images_saved read);
        now = omega (arith, pages_split view.pages.mapped view.pages.slots ready.system, heap_here);
        all = read.opened.counted;
      };
      most = omega arith;
    };
    over_is = refl;
  }

  begins_here : BeginsIn stored view
  begins_here =
      let formed = read.store.root_there.there.formed in
      record {
        state = state;
        shows = shows_here;
        rest = rest_here;
        metered = rests_metered view stored.root stored.tables read.opened.slots spells_here (fit_read read) held_here stored.root.head stored.root.end (omega (arith, formed.head_first, formed.before_end)) slots_here;
        room = omega (arith, formed.room);
        opens = λ image left. opens_at ready saved shows_here rest_here image (stays (read_told read) image left);
      }

-- ---- one that was restarted

-- other pages and another catalog
abbrev pub changed_view : StoreView → PagesView → CatalogView → StoreView
changed_view view pages catalog = record { pages = pages; catalog = catalog; log = view.log; root = view.root; number = view.number }

module _ {T : Type 0} {old : StoreView} {pages : PagesView} {catalog : CatalogView} {result : Result T PageFault} (ready : IsReady old) (passes : RestartPasses old.log old.root.checkpoint (both old.pages old.catalog) (both pages catalog) result) where
  abbrev mid : StoreView
  mid = changed_view old pages catalog

  pub mid_told : IsTold old.pages.disk → IsTold pages.disk
  mid_told = passes.step.passes.leaves.told.0

  pub mid_moments : IsTold old.pages.disk → Passes old.pages.disk pages.disk (HasFixed old.pages.fixed)
  mid_moments = passes.step.passes.leaves.moments ready.settled_now

  pub mid_system : HasSystemPages pages.mapped
  mid_system = system_kept passes.step ready.system

  -- it is ready
  pub mid_ready : CanAlter (both pages catalog) → IsReady mid
  mid_ready still = record {
    number_low = ready.number_low;
    number_high = ready.number_high;
    formed = ready.formed;
    size = passes.step.passes.slots ∙ ready.size;
    log_pages = ap (λ (b : Backing). b.log_pages) passes.step.passes.backing ∙ ready.log_pages;
    area = ap (λ (b : Backing). b.area) passes.step.passes.backing ∙ ready.area;
    log = ready.log;
    system = mid_system;
    pending_places = passes.keeps.places ∙ ready.pending_places;
    settled_now = passes.step.passes.leaves.stays_settled ready.settled_now;
    heaps = still.heaps;
    tables = still.tables;
  }

-- by which its tables were recovered
module _ {T : Type 0} {value : T} {stored : Stored} {old : StoreView} {pages : PagesView} {catalog : CatalogView} (ready : IsReady old) (passes : RestartPasses {T = T} old.log old.root.checkpoint (both old.pages old.catalog) (both pages catalog) (Ok value)) (held_are : IsTold pages.disk → (key : PageKey) → is_some (pages.held key) ≡ pages.mapped key) (recovers : Recovered old.log old.root.checkpoint (both old.pages old.catalog) (both pages catalog)) (read : IsReadFrom stored old) where
  mid_size : pages.slots ≡ stored.root.slots
  mid_size = passes.step.passes.slots ∙ read.opened.slots

  mid_spells : SpellsTables pages.held catalog.listing stored.tables
  mid_spells = subst (λ (t : Tables). SpellsTables pages.held catalog.listing t) (gives_tables read.pages stored read.store)
      (recovers (read_told read) (recovery_of stored) (can_restart read))

  held_mid : (key : PageKey) → is_some (pages.held key) ≡ pages.mapped key
  held_mid = held_are (mid_told ready passes (read_told read))

  -- the state behind the checkpoint
  abbrev pub next : State
  next = rest_state (size_of stored.root) stored.tables (mapped_of pages.mapped Overflow pages.slots) stored.root.end (stored.root.end + 2)

  pub next_rests : IsAtRest (size_of stored.root) stored.tables next
  next_rests = is_at_rest _ stored.tables _ stored.root.end (stored.root.end + 2)

  -- a restart takes two home or overflow pages at most for each change
  heap_mid : heap_now pages ≤ (meter_of stored).heap + 2 * ((meter_of stored).surviving + (meter_of stored).since)
  heap_mid = omega (arith, passes.takes.heap, passes.most stored.older stored.newer (can_restart read).records, few_changes stored, heap_read read)

  images_next : (change_counts stored.tables.definitions next.meter).images ≤ (change_counts stored.saved.definitions (meter_of stored)).images
  images_next = images_recovered read.store next.meter (λ relation. omega arith)

  slots_next : 2 * (heap_now pages + (change_counts stored.tables.definitions next.meter).images + system_pages) ≤ stored.root.slots
  slots_next = omega (arith, heap_mid, images_next, read.store.room)

  pub next_metered : IsMetered next
  next_metered = rests_metered (mid ready passes) stored.root stored.tables mid_size mid_spells (fit_read read) held_mid stored.root.end (stored.root.end + 2) (omega arith) slots_next

  -- so there is room
  room_kept : HasRoomAtRest (mid ready passes)
  room_kept = room_spelled (mid ready passes) mid_spells held_mid next.meter (λ relation. omega arith) (omega (arith, slots_next, mid_size))

  pub next_room : HasLogRoom next
  next_room = omega (arith, read.store.root_there.there.formed.log_least)

  mid_leaves : LeavesStore (mid ready passes) stored
  mid_leaves = record {
    number_is = read.number_is;
    root_is = read.root_is;
    owners_are = sym read.opened.shadow ∙ ap (λ (b : Backing). b.shadow) (sym passes.step.passes.backing);
    fixes = λ image has. read.fixes image (subst (λ (f : Fixed). HasFixed f image) (passes.step.passes.leaves.same ready.settled_now (read_told read)) has);
  }

  pub may_checkpoint : CanCheckpoint (mid ready passes) [] stored next
  may_checkpoint = record {
    log = log_of stored;
    disk = mid_leaves;
    logged = record { head_is = (logged_read read).head_is; end_is = (logged_read read).end_is; records = (logged_read read).records; until = (logged_read read).until };
    on_disk = refl;
    dropped = all_logged (log_of stored);
    kept = [];
    split = sym (append-nil (all_logged (log_of stored)));
    gone = subst (λ (newer : List Logged). ArePlaced stored.root.head (as_bytes (stored.older ++ newer)) stored.root.end) (sym (append-nil stored.newer)) read.store.log.parses.placed;
    stay = refl;
    spellable = record { bounded = omega arith; fits = tt };
    size = ap size_of read.root_is;
    ties = restart_ties catalog.listing stored.tables next stored.root.end (fields_listed mid_spells.listed mid_spells.defines) next_rests (fit_read read) refl refl;
    spells = mid_spells;
    written = passes.keeps.written (read_told read) ready.pending_places read.written;
    fit = subst (λ (r : Root). Fits r.slots stored.tables) read.root_is (fit_read read);
    metered = next_metered;
    heap = heap_rests (mid ready passes) stored.root stored.tables mid_size mid_spells (fit_read read) held_mid;
    over = refl;
  }

-- ---- however it ends

pub record Went (old new : StoreView) : Type 0 where
  pub moments : IsTold old.pages.disk → Passes old.pages.disk new.pages.disk (HasFixed old.pages.fixed)
  pub told : IsTold old.pages.disk → IsTold new.pages.disk
  pub later : old.pages.faults ≤ new.pages.faults
  pub slots : new.pages.slots ≡ old.pages.slots
  pub frames : new.pages.backing.frames ≡ old.pages.backing.frames

pub went_nowhere : (view : StoreView) → Went view view
went_nowhere view = record { moments = λ told. started view.pages.disk (HasFixed view.pages.fixed); told = λ told. told; later = omega arith; slots = refl; frames = refl }

pub went_back : {T : Type 0} {old : StoreView} {pages : PagesView} {catalog : CatalogView} {result : Result T PageFault} → IsReady old → RestartPasses old.log old.root.checkpoint (both old.pages old.catalog) (both pages catalog) result → Went old (changed_view old pages catalog)
went_back ready passes = record {
  moments = mid_moments ready passes;
  told = mid_told ready passes;
  later = passes.step.passes.later;
  slots = passes.step.passes.slots;
  frames = ap (λ (b : Backing). b.frames) passes.step.passes.backing;
}

same_fault : {T : Type 0} {one two : PageFault} → ◌≡◌ {A = Result T PageFault} (Err one) (Err two) → one ≡ two
same_fault is = cc (is)

pub begins_err : {T : Type 0} {old new : StoreView} (fault : PageFault) → Went old new → (fault ≡ PageDevice → Rises old.pages.faults new.pages.faults) → ((place : Place) → fault ≡ PageDamaged place → IsTold old.pages.disk → FindsDamage old new place) → Begins {T = T} old new (Err fault)
begins_err fault went cause damage = record {
  ready = tt;
  saved = tt;
  room = tt;
  appends = tt;
  begins = tt;
  moments = λ stored read. widened (went.moments (read_told read)) (read_holds read);
  told = went.told;
  history = λ told. continues (went.moments told);
  later = went.later;
  failed = λ is. cause (same_fault is);
  damaged = λ place is. damage place (same_fault is);
  slots = went.slots;
  frames = went.frames;
}

-- something is damaged
pub begins_damaged : {T : Type 0} {old new : StoreView} (place : Place) → Went old new → (IsTold old.pages.disk → FindsDamage old new place) → Begins {T = T} old new (Err (PageDamaged place))
begins_damaged {old = old} {new = new} place went damage = begins_err (PageDamaged place) went (λ is. absurd (cc (is))) (λ other is told. subst (FindsDamage old new) (same_damage is) (damage told))
  where
    same_damage : {other : Place} → PageDamaged place ≡ PageDamaged other → place ≡ other
    same_damage is = cc (is)

pub is_true : {b : Bool} → b ≡ true → IsTrue b
is_true is = search rules

pub not_true : {b : Bool} → IsTrue b → b ≡ false → ⊥
not_true is not' = search rules

-- nothing is done
pub begins_rested : {view : StoreView} → IsReady view → IsSaved view → (IsTold view.pages.disk → (key : PageKey) → is_some (view.pages.held key) ≡ view.pages.mapped key) → (IsTold view.pages.disk → (image : Pages) → Leaves view.pages.disk image → HasFixed view.pages.fixed image) → HasRoomAtRest view → RestsAt view.log view.root.checkpoint → Begins {T = Unit {0}} view view (Ok tt)
begins_rested {view = view} ready saved held_are stays room rests = record {
  ready = ready;
  saved = saved;
  room = room;
  appends = omega arith;
  begins = λ stored read. begins_here ready saved held_are stays read rests;
  moments = λ stored read. started view.pages.disk (HoldsTables (size_of stored.root) stored.tables);
  told = λ told. told;
  history = λ told. started view.pages.disk _;
  later = omega arith;
  failed = λ is. absurd (cc (is));
  damaged = λ place is. absurd (cc (is));
  slots = refl;
  frames = refl;
}

-- ---- what is found damaged

at_checkpoint : {view : StoreView} → IsReady view → IsLogPlace view.log (LogPlace view.root.checkpoint)
at_checkpoint {view = view} ready = record {
  at = view.root.checkpoint;
  low = omega (arith, ready.log.head, ready.formed.head_first);
  high = omega (arith, ready.formed.before_end, ready.log.later);
  is = refl;
}

-- no Checkpoint record stands there
pub finds_none : {view : StoreView} → IsReady view → NamesNone view.log view.root.checkpoint → FindsDamage view view (LogPlace view.root.checkpoint)
finds_none {view = view} ready none = record {
  at = at_checkpoint ready;
  why = λ stored read. read_named read none;
  keeps = started view.pages.disk (HasFixed view.pages.fixed);
}

-- one at rest has no room
pub finds_full : {view : StoreView} → IsReady view → IsSaved view → (IsTold view.pages.disk → (key : PageKey) → is_some (view.pages.held key) ≡ view.pages.mapped key) → (IsTold view.pages.disk → (image : Pages) → Leaves view.pages.disk image → HasFixed view.pages.fixed image) → RestsAt view.log view.root.checkpoint → (HasRoomAtRest view → ⊥) → FindsDamage view view (LogPlace view.root.checkpoint)
finds_full {view = view} ready saved held_are stays rests full = record {
  at = at_checkpoint ready;
  why = λ stored read. full (room_here ready saved held_are stays read rests);
  keeps = started view.pages.disk (HasFixed view.pages.fixed);
}

module _ {T : Type 0} {old : StoreView} {pages : PagesView} {catalog : CatalogView} {result : Result T PageFault} (ready : IsReady old) (passes : RestartPasses old.log old.root.checkpoint (both old.pages old.catalog) (both pages catalog) result) where
  -- a record
  pub finds_damaged : (place : Place) → result ≡ Err (PageDamaged place) → NoneRecovered old.log old.root.checkpoint (both old.pages old.catalog) → IsTold old.pages.disk → FindsDamage old (changed_view old pages catalog) place
  finds_damaged place is none told = record {
    at = passes.place place is;
    why = λ stored read. none (recovery_of stored) (can_restart read);
    keeps = mid_moments ready passes told;
  }

-- the fault of a restart is passed on
pub begins_unrestarted : {T U : Type 0} {old : StoreView} {pages : PagesView} {catalog : CatalogView} {fault : PageFault} (result : Result U PageFault) → IsErrAnd result (λ why. why ≡ fault) → IsReady old → RestartPasses {T = T} old.log old.root.checkpoint (both old.pages old.catalog) (both pages catalog) (Err fault)
    → ((place : Place) → ◌≡◌ {A = Result T PageFault} (Err fault) (Err (PageDamaged place)) → IsTold old.pages.disk → NoneRecovered old.log old.root.checkpoint (both old.pages old.catalog)) → Begins old (changed_view old pages catalog) result
begins_unrestarted {U = U} {old = old} {pages = pages} {catalog = catalog} {fault = fault} result is ready passes sound =
    let why = err_from_is_err_and result is in
    subst (λ (r : Result U PageFault). Begins old (changed_view old pages catalog) r) (sym (why.1 ∙ ap Err why.2))
    (begins_err fault (went_back ready passes) (λ failed. passes.failed (ap Err failed)) (λ place at told. finds_damaged ready passes place (ap Err at) (sound place (ap Err at) told) told))

-- no room
pub finds_no_room : {T : Type 0} {value : T} {old : StoreView} {pages : PagesView} {catalog : CatalogView} → IsReady old → RestartPasses {T = T} old.log old.root.checkpoint (both old.pages old.catalog) (both pages catalog) (Ok value) → (IsTold pages.disk → (key : PageKey) → is_some (pages.held key) ≡ pages.mapped key) → Recovered old.log old.root.checkpoint (both old.pages old.catalog) (both pages catalog)
    → (HasRoomAtRest (changed_view old pages catalog) → ⊥) → IsTold old.pages.disk → FindsDamage old (changed_view old pages catalog) (LogPlace old.root.checkpoint)
finds_no_room ready passes held_are recovers full told = record {
  at = at_checkpoint ready;
  why = λ stored read. full (room_kept ready passes held_are recovers read);
  keeps = mid_moments ready passes told;
}

-- ---- a checkpoint behind a restart

module _ {T : Type 0} {value : T} {old : StoreView} {pages : PagesView} {catalog : CatalogView} (ready : IsReady old) (passes : RestartPasses {T = T} old.log old.root.checkpoint (both old.pages old.catalog) (both pages catalog) (Ok value)) (held_are : IsTold pages.disk → (key : PageKey) → is_some (pages.held key) ≡ pages.mapped key) (room : HasRoomAtRest (changed_view old pages catalog)) (recovers : Recovered old.log old.root.checkpoint (both old.pages old.catalog) (both pages catalog)) (marks : List (ℕ × ℕ)) (none : marks ≡ []) where
  -- it may be taken, and leads to this state
  abbrev behind : (stored : Stored) → IsReadFrom stored old → State
  behind stored read = next ready passes held_are recovers read

  may : (stored : Stored) (read : IsReadFrom stored old) → CanCheckpoint (changed_view old pages catalog) marks stored (behind stored read)
  may stored read = subst (λ (m : List (ℕ × ℕ)). CanCheckpoint (changed_view old pages catalog) m stored (behind stored read)) (sym none) (may_checkpoint ready passes held_are recovers read)

  begins_behind : {U : Type 0} (new : StoreView) (result : Result U PageFault) → (IsTold new.pages.disk → (image : Pages) → Leaves new.pages.disk image → new.pages.settled ≡ true → HasFixed new.pages.fixed image) → (IsTold old.pages.disk → IsTold new.pages.disk) → OnOk result (IsReady new) → OnOk result (IsSaved new)
      → OnOk result (IsTold pages.disk → (stored : Stored) (next : State) → CanCheckpoint (changed_view old pages catalog) marks stored next → StandsAtCheckpoint new next) → OnOk result ((stored : Stored) → IsReadFrom stored old → BeginsIn stored new)
  begins_behind new (Ok value) stays told ready_new saved shows = λ stored read.
      let shown = (shows (mid_told ready passes (read_told read)) stored (behind stored read) (may stored read)).shows in
      let rest = next_rests ready passes held_are recovers read in
      record {
        state = behind stored read;
        shows = shown;
        rest = rest;
        metered = next_metered ready passes held_are recovers read;
        room = next_room ready passes held_are recovers read;
        opens = λ image left. opens_at ready_new saved shown rest image (stays (told (read_told read)) image left ready_new.settled_now);
      }
  begins_behind new (Err fault) stays told ready_new saved shows = tt

  room_behind : {U : Type 0} (new : StoreView) (result : Result U PageFault) → OnOk result (Saves marks (changed_view old pages catalog) new) → new.pages.slots ≡ pages.slots → new.catalog.listing ≡ catalog.listing → OnOk result (HasRoomAtRest new)
  room_behind new (Ok value) saves slots listing = room_still slots saves.mapped listing room
  room_behind new (Err fault) saves slots listing = tt

  log_behind : {U : Type 0} (new : StoreView) (result : Result U PageFault) → OnOk result (Saves marks (changed_view old pages catalog) new) → OnOk result (new.log.end ≤ old.log.end + record_size (records.Checkpoint []))
  log_behind new (Ok value) saves = omega (arith, saves.end, ap (λ (m : List (ℕ × ℕ)). record_size (records.Checkpoint m)) none)
  log_behind new (Err fault) saves = tt

  pub begins_saved : {U : Type 0} (new : StoreView) (result : Result U PageFault) → (IsTold new.pages.disk → (image : Pages) → Leaves new.pages.disk image → new.pages.settled ≡ true → HasFixed new.pages.fixed image) → OnOk result (IsReady new) → OnOk result (IsSaved new)
      → OnOk result (IsTold pages.disk → (stored : Stored) (next : State) → CanCheckpoint (changed_view old pages catalog) marks stored next → StandsAtCheckpoint new next)
      → (IsTold pages.disk → (stored : Stored) (next : State) → CanCheckpoint (changed_view old pages catalog) marks stored next → Passes pages.disk new.pages.disk (λ image. IsStore image stored ⊎ IsSavedStore (changed_view old pages catalog) next image)) → OnOk result (Saves marks (changed_view old pages catalog) new) → new.catalog.listing ≡ catalog.listing → CommitsPages pages new.pages result → Begins old new result
  begins_saved new result stays ready_new saved shows moments saves listing did =
      let still : IsTold old.pages.disk → IsTold new.pages.disk = λ told. did.told.0 (mid_told ready passes told) in
      record {
        ready = ready_new;
        saved = saved;
        room = room_behind new result saves did.slots listing;
        appends = log_behind new result saves;
        begins = begins_behind new result stays still ready_new saved shows;
        moments = λ stored read.
            then (widened (mid_moments ready passes (read_told read)) (read_holds read)) (moments (mid_told ready passes (read_told read)) stored (behind stored read) (may stored read)) (λ image. ⊎_elim
            (λ store. record { stored = stored; store = store; same_size = refl; holds = refl })
            (λ is. subst (λ (r : Root). HoldsTables (size_of r) stored.tables image) (sym read.root_is) is));
        told = still;
        history = λ told. continues_then (continues (mid_moments ready passes told)) (did.history (mid_told ready passes told));
        later = omega (arith, passes.step.passes.later, did.later);
        failed = λ is. rises_since passes.step.passes.later (did.failed is);
        damaged = λ place is told. absurd (did.sound place is (mid_told ready passes told));
        slots = did.slots ∙ passes.step.passes.slots;
        frames = did.frames ∙ ap (λ (b : Backing). b.frames) passes.step.passes.backing;
      }
