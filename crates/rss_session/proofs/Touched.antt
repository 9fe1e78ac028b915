-- What the session is once pages of images were touched, and the catalog: it goes on, and what is defined then may be committed.
use Rattle.std.proofs.Common.{◌≡◌, ℕ, ◌+◌, ◌≤◌, true, Bool, List, length, refl, sym, ◌∙◌, ap, subst, arith}
use Rattle.std.specs.Prelude.{Some, None, Result, IsErrOf}
use Rattle.std.specs.FinMap.{empty}
use Rattle.std.proofs.lemmas.List.{length-set}
use Rattle.rss_base.specs.DiskRule.{IsTold}
use Rattle.rss_base.specs.Faults.{Rises}
use Rattle.rss_base.specs.Listings.{Listing}
use Rattle.rss_base.specs.Paged.{Backing, Fixed, HasFixed, page_key}
use Rattle.rss_base.specs.Sizes.{log_pages_least, system_pages}
use Rattle.rss_base.specs.Steps.{PagesView, PagesStep, pages_in}
use Rattle.rss_base.specs.declared.call.Call.{Call}
use Rattle.rss_base.specs.declared.fault.PageFault.{PageFault}
use Rattle.rss_base.specs.declared.fault.PageFault.TheVariants.{Device as DeviceFailed, NoMemory}
use Rattle.rss_base.specs.declared.key.PageKey.{PageKey}
use Rattle.rss_base.specs.declared.key.Space.TheVariants.{Overflow, System, Image as ImageSpace}
use Rattle.rss_base.specs.declared.root.Root.{Root}
use Rattle.rss_base.proofs.Moments.{continues}
use Rattle.rss_base.proofs.Steps.{within}
use Rattle.rss_catalog.specs.Catalogs.{CatalogView, Lists}
use Rattle.rss_log.specs.Logs.{LogView, free_of}
use Rattle.rss_model.specs.Changes.{Change}
use Rattle.rss_model.specs.Defining.{defined, DefinesNames}
use Rattle.rss_model.specs.Fits.{Fits}
use Rattle.rss_model.specs.Kept.{Kept}
use Rattle.rss_model.specs.Machine.{StoreSize, State, with_changes}
use Rattle.rss_model.specs.Steps.{refusal}
use Rattle.rss_stored.specs.Store.{SpellsTables, size_of}
use Rattle.rss_model.specs.Tables.{Tables}
use Rattle.rss_model.proofs.BothRooms.{definitions_keep_rooms}
use Rattle.rss_model.proofs.Redefining.{defined_fits}
use Rattle.rss_model.proofs.StepKeeping.{kept_fit}
use Rattle.rss_trans.specs.Transactions.{OpenView, transaction_in, is_open}
use Rattle.rss_access.specs.Changes.{both, CanAlter}
use Rattle.rss_access.specs.Checking.{ShowsTuples}
use Rattle.rss_access.specs.Written.{AreWritten}
use Rattle.rss_access.proofs.ImageTouched.{spelled_shown}
use Rattle.rss_store.specs.Stores.{IsReady as IsStoreReady}
use Rattle.rss_session.specs.Calls.{GoesOn, IsRedefined}
use Rattle.rss_session.specs.Filling.{TouchesImages}
use Rattle.rss_session.specs.Sessions.{SessionView, IsReady, CanSave, AreRising, owed_by}
use Rattle.rss_session.specs.Shown.{Shows}
use Rattle.rss_session.proofs.Defined.{none_changed, none_marked}
use Rattle.rss_session.proofs.FilledPages.{spaces_same}
use Rattle.rss_session.proofs.Looked.{slots_shown}
use Rattle.rss_session.proofs.Rebuilt.{IsRebuilt, stands_behind}

-- ---- where nothing is open

module _ {view : SessionView} {state : State} (closed : view.opened.transactions ≡ empty) (shows : Shows view state) where
  -- the committed tables are those now
  pub base_spelled : SpellsTables view.store.pages.held view.store.catalog.listing state.base
  base_spelled = subst (λ (changes : List Change). SpellsTables view.store.pages.held view.store.catalog.listing (with_changes state.base changes)) (none_changed shows closed) shows.store.spells

  -- and the pages of tuples spell them
  pub base_shown : IsReady view → Kept state → ShowsTuples (both view.store.pages view.store.catalog) state.base
  base_shown ready kept =
      let fits = (kept_fit state kept).0 in
      spelled_shown base_spelled fits.tuples (λ relation tid live.
      let id = fits.tids relation tid live in
      record { page = omega (arith, id.page, slots_shown ready shows); slot = id.slot })

-- ---- once image pages were touched

-- the session with other pages and another catalog
abbrev pub with_tables : PagesView → CatalogView → SessionView → SessionView
with_tables pages catalog view = record view { store = record view.store { pages = pages; catalog = catalog } }

-- as many pages of the catalog may have changed
pub pending_long : {listing : Listing} {page : ℕ} {old new : CatalogView} → Lists listing page old new → length old.pending ≡ system_pages → length new.pending ≡ system_pages
pending_long {page = page} {old = old} lists places = ap (λ (pending : List Bool). length pending) lists.pending ∙ length-set old.pending page true ∙ places

module _ (old : SessionView) {pages : PagesView} {segment asks outs : ℕ} (step : PagesStep (pages_in segment ImageSpace) asks outs old.store.pages pages) (catalog : CatalogView) where
  pub touches_images : TouchesImages old (with_tables pages catalog old)
  touches_images = record {
    asks = asks + outs;
    step = within (λ key is. ap (λ (k : PageKey). k.space) is) (omega arith) (omega arith) step;
    log = refl;
    root = refl;
    number = refl;
    opened = refl;
    counts = record { heap = refl; surviving = refl; entries = refl; survived = refl };
  }

  pub goes_touched : {T : Type 0} {result : Result T PageFault} → old.store.pages.settled ≡ true → (IsErrOf result DeviceFailed → Rises old.store.pages.faults pages.faults) → (IsErrOf result NoMemory → ⊥) → GoesOn old (with_tables pages catalog old) result
  goes_touched settled failed memory = record {
    told = step.passes.leaves.told;
    history = λ told. continues (step.passes.leaves.moments settled told);
    later = step.passes.later;
    failed = failed;
    memory = memory;
    slots = refl;
    log_pages = refl;
    frames = ap (λ (b : Backing). b.frames) step.passes.backing;
    saves = λ t. omega arith;
    unsaved = λ still. record { root = refl; drives = step.passes.drives };
  }

  -- the store may go on, where the pages spell tables
  pub store_touched : IsStoreReady old.store → length catalog.pending ≡ system_pages → CanAlter (both pages catalog) → IsStoreReady (with_tables pages catalog old).store
  store_touched ready places can = record {
    number_low = ready.number_low;
    number_high = ready.number_high;
    formed = ready.formed;
    size = step.passes.slots ∙ ready.size;
    log_pages = ap (λ (b : Backing). b.log_pages) step.passes.backing ∙ ready.log_pages;
    area = ap (λ (b : Backing). b.area) step.passes.backing ∙ ready.area;
    log = ready.log;
    system = λ page low. step.mapped_off (page_key 0 System page) (λ touched. absurd (cc (ap (λ (k : PageKey). k.space) touched))) ∙ ready.system page low;
    pending_places = places;
    settled_now = step.passes.leaves.stays_settled ready.settled_now;
    heaps = can.heaps;
    tables = can.tables;
  }

module _ {old new : SessionView} (ready : IsReady old) (touches : TouchesImages old new) where
  -- it may be committed, if the store may
  pub can_save_touched : IsStoreReady new.store → CanSave new
  can_save_touched store = record {
    store = store;
    log = omega (arith, ready.log, ap free_of touches.log, ap owed_by touches.opened);
    placed = λ t. subst (λ (o : OpenView). AreRising new.store.log.head new.store.log.end (transaction_in o t).changes) (sym touches.opened)
        (subst (λ (l : LogView). AreRising l.head l.end (transaction_in old.opened t).changes) (sym touches.log) (ready.placed t));
    numbers = λ t is. ready.numbers t (ap (λ (o : OpenView). is_open o t) (sym touches.opened) ∙ is);
  }

  module _ (told : IsTold old.store.pages.disk) where
    -- what stands behind it is as it was
    rebuilt : IsRebuilt old.store new.store
    rebuilt = record {
      log = touches.log;
      root = touches.root;
      leaves = λ stored disk. record {
        number_is = disk.number_is ∙ sym touches.number;
        root_is = disk.root_is ∙ sym touches.root;
        owners_are = disk.owners_are ∙ ap (λ (b : Backing). b.shadow) (sym touches.step.passes.backing);
        fixes = λ image has. disk.fixes image (subst (λ (fixed : Fixed). HasFixed fixed image) (touches.step.passes.leaves.same ready.store.settled_now told) has);
      };
      over = spaces_same touches Overflow (λ same. absurd (cc (same)));
    }

    module _ {state : State} (closed : old.opened.transactions ≡ empty) (kept : Kept state) (shows : Shows old state) where
      size_same : state.size ≡ size_of old.store.root
      size_same = shows.store.tied.size ∙ ap size_of shows.store.disk.root_is

      slots_same : state.size.slots ≡ new.store.root.slots
      slots_same = ap (λ (s : StoreSize). s.slots) size_same ∙ ap (λ (r : Root). r.slots) (sym touches.root)

      many : log_pages_least ≤ state.size.log_pages
      many = omega (arith, ap (λ (s : StoreSize). s.log_pages) size_same, ready.store.formed.log_least)

      -- what a call defines that isn't refused may be committed, where the pages spell it
      pub redefined_touched : (call : Call) (next : Tables) → refusal state call ≡ None → DefinesNames call → defined call state.base ≡ Some next
          → AreWritten new.store.pages.held new.store.catalog → SpellsTables new.store.pages.held new.store.catalog.listing next → IsRedefined new state next
      redefined_touched call next passed names so written spells = record {
        behind = stands_behind rebuilt shows.store;
        metered = shows.counted.rooms.metered;
        none_open = none_marked shows closed;
        none_changed = none_changed shows closed;
        spells = spells;
        written = written;
        fit = subst (λ (n : ℕ). Fits n next) slots_same (defined_fits state (kept_fit state kept).0 call next passed names so);
        rooms = definitions_keep_rooms state call next kept shows.counted.rooms.metered many passed names so;
      }
