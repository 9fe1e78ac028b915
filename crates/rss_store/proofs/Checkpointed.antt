-- A checkpoint: the next root, the next store, and the state that is shown then.
use Rattle.std.proofs.Common.{◌≡◌, ◌≢◌, ⊎_elim, ℕ, ◌+◌, ◌-◌, ◌<◌, ◌≤◌, true, List, [], ◌∷◌, ◌++◌, length, drop, min, Option, Some, refl, sym, ◌∙◌, ap, subst, arith, append_assoc, drop-drop}
use Rattle.std.specs.Prelude.{is_some}
use Rattle.std.proofs.lemmas.List.{length-drop}
use Rattle.rss_base.specs.DiskRule.{Disk, Pages, Told, IsTold, Leaves, SameOff, TornIn, Passes, WritesIn}
use Rattle.rss_base.specs.Sizes.{format_version, system_pages}
use Rattle.rss_base.specs.Layout.{slots_at, IsWellFormed}
use Rattle.rss_base.specs.Listings.{Listing, HoldsListing, catalog_page}
use Rattle.rss_base.specs.LogRecords as bytes
use Rattle.rss_base.specs.LogRecords.{ArePlaced, record_bytes, record_size, IsSpellable}
use Rattle.rss_base.specs.PageMap.{IsKey, page_count}
use Rattle.rss_base.specs.Paged.{Held, Mapped, Fixed, Backing, HasFixed, mapped_of, mapped_pages, page_key}
use Rattle.rss_base.specs.Notes.{Noted}
use Rattle.rss_base.specs.StoredPages.{mapped_by, SavesPages}
use Rattle.rss_base.specs.Steps.{PagesView, PagesStep, AreCounted}
use Rattle.rss_base.specs.declared.key.PageKey.{PageKey}
use Rattle.rss_base.specs.declared.key.Space.TheVariants.{Home, Overflow, Image, System}
use Rattle.rss_base.specs.declared.log_record.LogRecord.TheVariants as records
use Rattle.rss_base.specs.declared.root.Root.{Root}
use Rattle.rss_base.proofs.Counts.{mapped_pages-owners}
use Rattle.rss_base.proofs.Moments.{widened, then, now}
use Rattle.rss_record.proofs.Parsing.{some_bytes, placed_append, parses_one}
use Rattle.rss_log.specs.Logs.{LogView, IsLog, HasRecords, bytes_from, piece_start, tail_of, room_end, with_head}
use Rattle.rss_buffer.specs.Saved.{IsSaveable}
use Rattle.rss_buffer.specs.Saving.{SavingView, first_slot, AreSaveable, SavingStep}
use Rattle.rss_buffer.proofs.SavingSteps.{saving_then, none_changed}
use Rattle.rss_check.specs.Layouts.{IsLogBehind}
use Rattle.rss_store.proofs.Pieces.{slots_still, mapped_still}
use Rattle.rss_catalog.specs.Catalogs.{CatalogView, pending_pages, StoresListing}
use Rattle.rss_access.specs.Written.{heap_now}
use Rattle.rss_access.specs.Changes.{CanAlter}
use Rattle.rss_access.proofs.Within.{nodes_within}
use Rattle.rss_access.proofs.Writing.{spells_same, held_off_system, notes_off_system, all_written}
use Rattle.rss_model.specs.Changes.{Change}
use Rattle.rss_model.specs.Records.{Checkpoint, Placed, Listed, changes_in}
use Rattle.rss_model.specs.Machine.{State, now as tables_now}
use Rattle.rss_model.specs.Meanings.{Logged, as_bytes, as_entries, SameDefinitions}
use Rattle.rss_model.specs.EngineLogs.{EngineLog, all_logged, appended, saved_log, lists_saved, lists_now}
use Rattle.rss_stored.specs.LogLaws.{IsStoredOf}
use Rattle.rss_model.specs.Spares.{HasMade, change_counts, page_counts, IsInSession}
use Rattle.rss_stored.specs.Store.{Stored, SpellsTables, meter_of, size_of, IsStore}
use Rattle.rss_model.specs.Fits.{Fits}
use Rattle.rss_model.proofs.LogAppending.{list_after-append}
use Rattle.rss_stored.proofs.LogPlaced.{bytes_append}
use Rattle.rss_stored.proofs.LogStored.{disk_has_log, disk_has_room}
use Rattle.rss_model.proofs.Sparing.{session_begins}
use Rattle.rss_stored.proofs.StorePages.{pages_split}
use Rattle.rss_store.specs.Stores.{StoreView, IsReady, IsSaved}
use Rattle.rss_store.specs.Commits.{HasLogRoom, CanCheckpoint, IsSavedStore, least_mark, Saves, StandsAtCheckpoint}
use Rattle.rss_store.specs.Selecting.{IsMeant, CanSelect, IsNextStore}
use Rattle.rss_store.specs.Shown.{HoldsLogged, LeavesStore, Shows}
use Rattle.rss_store.proofs.Growing.{Appends, behind_appended, logged_appended}
use Rattle.rss_store.proofs.Places.{store_saving}
use Rattle.rss_store.proofs.Nexts.{length-tail_of, behind_itself, ready_now}
use Rattle.rss_store.proofs.Spelled.{nodes_still, alter_still, can_alter}
use Rattle.rss_store.specs.Changing.{access}

-- ---- the head behind a checkpoint

-- it is no position behind this one
pub mark_least : (end : ℕ) (marks : List (ℕ × ℕ)) → least_mark end marks ≤ end
mark_least end [] = omega arith
mark_least end (mark ∷ marks) = omega (arith, mark_least (min end mark.1) marks)

-- ---- the log with a later head

module _ (log : LogView) (head : ℕ) (is : IsLog log) (low : log.head ≤ head) (high : head ≤ log.end) where
  head_kept : (position : ℕ) → piece_start head ≤ position → bytes_from (with_head log head) position ≡ bytes_from log position
  head_kept position past =
      let order : log.head ≤ head = low in
      drop-drop (position - piece_start head) (piece_start head - piece_start log.head) log.kept ∙ ap (λ (n : ℕ). drop n log.kept) (omega arith)

  pub tail_head : tail_of (with_head log head) ≡ tail_of log
  tail_head = let order : head ≤ log.end = high in head_kept (piece_start log.end) (omega arith)

  pub is_log_head : log.end < room_end log.pages head → IsLog (with_head log head)
  is_log_head room = record {
    ring = record { some = is.ring.some; most = is.ring.most; order = high; room = room; limit = is.ring.limit };
    long =
        let order : head ≤ log.end = high in
        let before : log.head ≤ head = low in
        omega (arith, is.long, length-drop (piece_start head - piece_start log.head) log.kept);
  }

-- ---- while the catalog is written and the pages are saved

module _ {view : StoreView} {mid : PagesView} {count : ℕ} (ready : IsReady view) (step : PagesStep (pending_pages view.catalog) 0 count view.pages mid) where
  mid_slots : mid.slots ≡ view.root.slots
  mid_slots = step.passes.slots ∙ ready.size

  mid_log_pages : mid.backing.log_pages ≡ view.root.log_pages
  mid_log_pages = ap (λ (b : Backing). b.log_pages) step.passes.backing ∙ ready.log_pages

  module _ {saved : Disk} {stored : Stored} (only : WritesIn (IsSaveable (first_slot mid) (1 - view.root.area) mid.backing.shadow) mid.disk saved) (disk : LeavesStore view stored) (told : IsTold view.pages.disk) (stays : mid.settled ≡ true → (image : Pages) → Leaves mid.disk image → HasFixed mid.fixed image) where
    stored_left : (image : Pages) → Leaves mid.disk image → IsStore image stored
    stored_left image leaves = disk.fixes image (subst (λ (f : Fixed). HasFixed f image) (step.passes.leaves.same ready.settled_now told) (stays (step.passes.leaves.stays_settled ready.settled_now) image leaves))

    while_saving : (image : Pages) → TornIn (IsSaveable (first_slot mid) (1 - view.root.area) mid.backing.shadow) (Leaves mid.disk) image → IsStore image stored
    while_saving image torn =
        let place : first_slot mid ≡ slots_at stored.root.slots stored.root.log_pages = (λ i. slots_at (mid_slots i) (mid_log_pages i)) ∙ ap (λ (r : Root). slots_at r.slots r.log_pages) (sym disk.root_is) in
        let shadow : mid.backing.shadow ≡ stored.owners = ap (λ (b : Backing). b.shadow) step.passes.backing ∙ sym disk.owners_are in
        let other : 1 - view.root.area ≢ stored.root.area = λ e. omega (arith, e, ready.formed.area, ap (λ (r : Root). r.area) disk.root_is) in
        store_saving (1 - view.root.area) (omega arith) other (stored_left torn.before torn.was)
        (subst (λ (n : ℕ). SameOff (IsSaveable n (1 - view.root.area) stored.owners) torn.before image) place (subst (λ (o : List (Option PageKey)). SameOff (IsSaveable (first_slot mid) (1 - view.root.area) o) torn.before image) shadow torn.same))

    pub saved_moments : Passes view.pages.disk saved (λ image. IsStore image stored)
    saved_moments = then (widened (step.passes.leaves.moments ready.settled_now told) disk.fixes) (only.moments (step.passes.leaves.told.0 told)) while_saving

    pub saved_left : (image : Pages) → Leaves saved image → IsStore image stored
    saved_left image leaves = ⊎_elim (stored_left image) (while_saving image) (now (only.moments (step.passes.leaves.told.0 told)) image leaves)

-- ---- the next root

-- the root of a checkpoint at this position: the newest version, the other map area, and a log from a later head on
abbrev pub saved_root : Root → ℕ → ℕ → ℕ → ℕ → List ℕ → Root
saved_root root area head checkpoint end tail = record { version = format_version; slots = root.slots; log_pages = root.log_pages; area = area; head = head; checkpoint = checkpoint; end = end; tail = tail }

pub saved_same : (root : Root) (area checkpoint : ℕ) {head head_too end end_too : ℕ} {tail tail_too : List ℕ} → head ≡ head_too → end ≡ end_too → tail ≡ tail_too → saved_root root area head checkpoint end tail ≡ saved_root root area head_too checkpoint end_too tail_too
saved_same root area checkpoint heads ends tails = λ i. saved_root root area (heads i) checkpoint (ends i) (tails i)

-- What was done up to where the root is selected: the catalog was written, the pages were saved, and the record put behind the others.
pub record IsPrepared (view : StoreView) (marks : List (ℕ × ℕ)) (mid saved : PagesView) (before after : SavingView) (log : LogView) : Type 0 where
  pub count : ℕ
  pub at : ℕ
  pub step : PagesStep (pending_pages view.catalog) 0 count view.pages mid
  pub stores : StoresListing view.catalog view.pages mid
  pub saveable : AreSaveable mid before
  pub saveable_now : AreSaveable saved after
  pub saving : SavingStep mid saved before after
  pub only : WritesIn (IsSaveable (first_slot mid) (1 - view.root.area) mid.backing.shadow) mid.disk saved.disk
  pub pages : IsTold mid.disk → Told saved.disk (λ pages. SavesPages mid.backing.log_pages (1 - view.root.area) pages before.current mid.held)
  pub backing : saved.backing ≡ mid.backing
  pub appends : Appends (records.Checkpoint marks) at view.log log

-- the store as `select` finds it
abbrev pub prepared : StoreView → PagesView → CatalogView → LogView → StoreView
prepared view saved catalog log = record { pages = saved; catalog = catalog; log = log; root = view.root; number = view.number }

module _ {view : StoreView} {marks : List (ℕ × ℕ)} {mid saved : PagesView} {before after : SavingView} {log : LogView} (ready : IsReady view) (is : IsPrepared view marks mid saved before after log) (low : view.log.head ≤ least_mark view.log.end marks) (room : HasLogRoom view.log (record_size (records.Checkpoint marks)) (least_mark view.log.end marks)) where
  abbrev head : ℕ
  head = least_mark view.log.end marks

  abbrev size : ℕ
  size = record_size (records.Checkpoint marks)

  log_now : IsLogBehind view.root log
  log_now = behind_appended is.appends ready.log room.before (omega (arith, room.limit))

  end_is : log.end ≡ view.log.end + size
  end_is = ap (λ (l : LogView). l.end) is.appends.grown

  head_is : log.head ≡ view.log.head
  head_is = ap (λ (l : LogView). l.head) is.appends.grown

  pages_is : log.pages ≡ view.log.pages
  pages_is = ap (λ (l : LogView). l.pages) is.appends.grown

  slots_mid : mid.slots ≡ view.root.slots
  slots_mid = mid_slots ready is.step

  slots_saved : saved.slots ≡ view.root.slots
  slots_saved = is.saveable_now.slots ∙ ap (λ (owners : List (Option PageKey)). length owners) is.saving.current ∙ sym is.saveable.slots ∙ slots_mid

  log_pages_mid : mid.backing.log_pages ≡ view.root.log_pages
  log_pages_mid = mid_log_pages ready is.step

  mapped_mid : mid.mapped ≡ view.pages.mapped
  mapped_mid = is.stores.mapped

  next_formed : (checkpoint : ℕ) (tail : List ℕ) → checkpoint ≡ view.log.end → tail ≡ tail_of log → IsWellFormed (saved_root view.root (1 - view.root.area) head checkpoint log.end tail)
  next_formed checkpoint tail at_checkpoint at_tail =
      let formed = ready.formed in
      let least : head ≤ view.log.end = mark_least view.log.end marks in
      record {
        version_least = omega arith;
        version_most = omega arith;
        slots_least = formed.slots_least;
        slots_most = formed.slots_most;
        log_least = formed.log_least;
        log_most = formed.log_most;
        area = omega arith;
        head_first = omega (arith, least, at_checkpoint);
        before_end = omega (arith, at_checkpoint, end_is, some_bytes (records.Checkpoint marks));
        end_limit = omega (arith, room.limit, end_is);
        room = omega (arith, room.behind, end_is, ready.log.pages);
        tail = ap (λ (l : List ℕ). length l) at_tail ∙ length-tail_of log log_now.is_log;
      }

  pub saved_can : {catalog : CatalogView} {next_root : Root} {checkpoint : ℕ} → checkpoint ≡ view.log.end → next_root ≡ saved_root view.root (1 - view.root.area) head checkpoint log.end (tail_of log) → CanSelect (prepared view saved catalog log) next_root
  saved_can {catalog = catalog} {checkpoint = checkpoint} at_checkpoint root_is = subst (CanSelect (prepared view saved catalog log)) (sym root_is) (record {
    number_low = ready.number_low;
    number_high = ready.number_high;
    formed = ready.formed;
    size = slots_saved;
    log_pages = ap (λ (b : Backing). b.log_pages) is.backing ∙ log_pages_mid;
    log = log_now;
    of_log = record {
      formed = next_formed checkpoint (tail_of log) at_checkpoint refl;
      slots = refl;
      log_pages = refl;
      end = refl;
      tail = refl;
    };
  })

  pub head_low : log.head ≤ head
  head_low = omega (arith, head_is, low)

  pub head_high : head ≤ log.end
  head_high = omega (arith, end_is, mark_least view.log.end marks)

  pub saved_behind : {last : LogView} (checkpoint end : ℕ) (tail : List ℕ) → end ≡ log.end → tail ≡ tail_of log → last ≡ with_head log head → IsLogBehind (saved_root view.root (1 - view.root.area) head checkpoint end tail) last
  saved_behind checkpoint end tail at_end at_tail moved =
      let next_log : IsLogBehind (saved_root view.root (1 - view.root.area) head checkpoint end tail) (with_head log head) =
      behind_itself (is_log_head log head log_now.is_log head_low head_high (omega (arith, room.behind, end_is, pages_is))) log_now.pages refl at_end (at_tail ∙ sym (tail_head log head log_now.is_log head_low head_high)) in
      subst (IsLogBehind (saved_root view.root (1 - view.root.area) head checkpoint end tail)) (sym moved) next_log

  -- ---- the next store

  module _ {stored : Stored} {next : State} (can : CanCheckpoint view marks stored next) (told : IsTold view.pages.disk) (holds : (key : PageKey) → is_some (mid.held key) ≡ mid.mapped key) (next_root : Root) (checkpoint : ℕ) (at_checkpoint : checkpoint ≡ view.log.end) (root_is : next_root ≡ saved_root view.root (1 - view.root.area) head checkpoint log.end (tail_of log)) where
    abbrev elog : EngineLog
    elog = can.log

    abbrev elog_now : EngineLog
    elog_now = saved_log elog (least_mark elog.end marks) can.kept marks

    abbrev last : Logged
    last = record { at = elog.end; told = records.Checkpoint marks; is = Checkpoint marks }

    abbrev after_save : Stored
    after_save = record {
      number = 3 - view.number;
      root = next_root;
      owners = before.current;
      listing = view.catalog.listing;
      saved = tables_now next;
      older = can.kept;
      newer = last ∷ [];
      tables = next.base;
    }

    told_mid : IsTold mid.disk
    told_mid = is.step.passes.leaves.told.0 told

    end_same : elog.end ≡ view.log.end
    end_same = sym can.logged.end_is

    head_same : least_mark elog.end marks ≡ head
    head_same = ap (λ (n : ℕ). least_mark n marks) end_same

    slots_next : next_root.slots ≡ view.root.slots
    slots_next = ap (λ (r : Root). r.slots) root_is

    logged_now : HoldsLogged (record view { log = log }) (appended elog (records.Checkpoint marks) (Checkpoint marks))
    logged_now = logged_appended (Checkpoint marks) refl is.appends can.logged

    stored_now : IsStoredOf after_save elog_now next
    stored_now = record {
      ties = can.ties;
      older = refl;
      newer = refl;
      size = can.size ∙ ap (λ (r : Root). size_of r) (sym root_is);
      tables = refl;
    }

    listed_now : HoldsListing mid.held view.catalog.listing
    listed_now = all_written is.step told is.stores can.written

    spelled_now : SpellsTables mid.held view.catalog.listing (tables_now next)
    spelled_now = spells_same (held_off_system is.step told) can.spells

    mapped_now : mapped_by before.current ≡ view.pages.mapped
    mapped_now = sym is.saveable.mapped ∙ mapped_mid

    heap_same : next.meter.heap ≡ (meter_of after_save).heap
    heap_same = can.heap ∙ (λ i. mapped_of (sym mapped_now i) Home ((ready.size ∙ sym slots_next) i) + mapped_of (sym mapped_now i) Overflow ((ready.size ∙ sym slots_next) i))

    meant_now : IsMeant mid.held after_save
    meant_now = record {
      only = λ key. holds key ∙ ap (λ (m : Mapped). m key) is.saveable.mapped;
      system = listed_now;
      spells = spelled_now;
      nodes = nodes_still (slots_next ∙ sym ready.size) (held_off_system is.step told) (nodes_within {at = access view} (ready.tables told));
      fit = subst (λ (n : ℕ). Fits n (tables_now next)) (sym slots_next) can.fit;
      log = λ pages holds_log. disk_has_log pages after_save elog_now next stored_now holds_log;
      room = disk_has_room after_save elog_now next stored_now can.metered heap_same;
    }

    stay_now : ArePlaced head (as_bytes (can.kept ++ last ∷ [])) log.end
    stay_now =
        let kept : ArePlaced head (as_bytes can.kept) elog.end = subst (λ (n : ℕ). ArePlaced n (as_bytes can.kept) elog.end) head_same can.stay in
        let end : elog.end + size ≡ log.end = ap (λ (n : ℕ). n + size) end_same ∙ sym end_is in
        subst (λ (n : ℕ). ArePlaced head (as_bytes (can.kept ++ last ∷ [])) n) end
        (subst (λ (ps : List bytes.Placed). ArePlaced head ps (elog.end + size)) (sym (bytes_append can.kept (last ∷ [])))
        (placed_append head elog.end (elog.end + size) (as_bytes can.kept) (as_bytes (last ∷ [])) kept (parses_one elog.end (records.Checkpoint marks) can.spellable).placed))

    all_split : all_logged (appended elog (records.Checkpoint marks) (Checkpoint marks)) ≡ can.dropped ++ (can.kept ++ last ∷ [])
    all_split =
        ap (λ (l : List Logged). elog.older ++ l) (sym (append_assoc elog.written elog.pending (last ∷ [])))
        ∙ sym (append_assoc elog.older (elog.written ++ elog.pending) (last ∷ []))
        ∙ ap (λ (l : List Logged). l ++ last ∷ []) can.split
        ∙ append_assoc can.dropped can.kept (last ∷ [])

    gone_now : ArePlaced view.root.head (as_bytes can.dropped) head
    gone_now =
        subst (λ (n : ℕ). ArePlaced n (as_bytes can.dropped) head) (sym can.logged.head_is ∙ ready.log.head)
        (subst (ArePlaced elog.head (as_bytes can.dropped)) head_same can.gone)

    pub saved_next : {catalog : CatalogView} → ((image : Pages) → Leaves saved.disk image → IsStore image stored) → IsNextStore (prepared view saved catalog log) next_root stored after_save mid.held
    saved_next left = record {
      left = left;
      number_is = can.disk.number_is;
      root_is = can.disk.root_is;
      number_next = refl;
      root_next = refl;
      count = sym is.saveable.slots ∙ slots_mid;
      saves = λ pages contents.
          let there : SavesPages mid.backing.log_pages (1 - view.root.area) pages before.current mid.held = is.pages told_mid pages contents in
          subst (λ (a : ℕ). SavesPages view.root.log_pages a pages before.current mid.held) (ap (λ (r : Root). r.area) (sym root_is)) (subst (λ (n : ℕ). SavesPages n (1 - view.root.area) pages before.current mid.held) log_pages_mid there);
      meant = meant_now;
      appended = elog.pending ++ last ∷ [];
      dropped = can.dropped;
      records = subst (λ (l : List Logged). HasRecords log (as_bytes l)) (sym row) logged_now.records;
      split = row ∙ all_split;
      gone = subst (ArePlaced view.root.head (as_bytes can.dropped)) (ap (λ (r : Root). r.head) (sym root_is)) gone_now;
      stay = subst (λ (r : Root). ArePlaced r.head (as_bytes (can.kept ++ last ∷ [])) r.end) (sym root_is) stay_now;
      checkpoint = subst (λ (r : Root). ArePlaced r.head (as_bytes can.kept) r.checkpoint) (sym root_is)
          (subst (ArePlaced head (as_bytes can.kept)) (end_same ∙ sym at_checkpoint) (subst (λ (n : ℕ). ArePlaced n (as_bytes can.kept) elog.end) head_same can.stay));
    }
      where
        row : (stored.older ++ stored.newer) ++ (elog.pending ++ last ∷ []) ≡ all_logged (appended elog (records.Checkpoint marks) (Checkpoint marks))
        row = ap (λ (l : List Logged). l ++ (elog.pending ++ last ∷ [])) can.on_disk ∙ append_assoc elog.older elog.written (elog.pending ++ last ∷ [])

    -- a store as it is left behind it
    pub saved_store : (image : Pages) → IsStore image after_save → IsSavedStore view next image
    saved_store image store = record { stored = after_save; store = store; same_size = ap (λ (r : Root). size_of r) (sym root_is); holds = refl }

  -- ---- once the root is selected and the map adopted

  -- what was done then
  module _ {saving_last : SavingView} (new : StoreView) {next_root : Root} {checkpoint : ℕ} (at_checkpoint : checkpoint ≡ view.log.end) (root_is : next_root ≡ saved_root view.root (1 - view.root.area) head checkpoint log.end (tail_of log))
      (saving : SavingStep saved new.pages after saving_last) (saveable_last : AreSaveable new.pages saving_last) (shadow : new.pages.backing.shadow ≡ before.current) (moved : new.log ≡ with_head log head) (listing : new.catalog.listing ≡ view.catalog.listing) where
    both : SavingStep mid new.pages before saving_last
    both = saving_then is.saving saving

    pub slots_last : new.pages.slots ≡ view.pages.slots
    slots_last = slots_still both is.saveable saveable_last ∙ is.step.passes.slots

    mapped_last : new.pages.mapped ≡ view.pages.mapped
    mapped_last = mapped_still both is.saveable saveable_last ∙ is.stores.mapped

    pub log_pages_last : new.pages.backing.log_pages ≡ view.pages.backing.log_pages
    log_pages_last = both.log_pages ∙ ap (λ (b : Backing). b.log_pages) is.step.passes.backing

    can_last : CanAlter (access new)
    can_last = alter_still slots_last listing (λ told. is.step.passes.leaves.told.1 (both.told.1 told))
        (λ told key off. ap (λ (h : Held). h key) (both.held (is.step.passes.leaves.told.0 told)) ∙ held_off_system is.step told key off)
        (λ key off. ap (λ (n : Noted). n key) both.notes ∙ notes_off_system is.step key off) (can_alter ready)

    pub saved_ready : new.root ≡ next_root → new.number ≡ 3 - view.number → new.pages.backing.area ≡ next_root.area → new.pages.settled ≡ true → length new.catalog.pending ≡ system_pages → IsReady new
    saved_ready root number area settled pending =
        ready_now ready (subst IsWellFormed (sym root_is) (next_formed checkpoint (tail_of log) at_checkpoint refl)) (ap (λ (r : Root). r.slots) root_is) (ap (λ (r : Root). r.log_pages) root_is) root number area settled
        (subst (λ (r : Root). IsLogBehind r new.log) (sym root_is) (saved_behind checkpoint log.end (tail_of log) refl refl moved))
        slots_last mapped_last log_pages_last pending can_last

    -- as many pages are saved as are mapped: those of each space
    counted_pages : mapped_pages view.pages.slots view.pages.mapped ≡ heap_now view.pages + mapped_of view.pages.mapped Image view.pages.slots + system_pages
    counted_pages = pages_split view.pages.mapped view.pages.slots ready.system

    saved_pages : page_count new.pages.backing.shadow ≡ mapped_pages new.pages.slots new.pages.mapped
    saved_pages =
        let owners : page_count saving_last.current ≡ mapped_pages new.pages.slots new.pages.mapped =
        sym (mapped_pages-owners new.pages.slots saving_last.current new.pages.mapped (λ slot key owned. subst (λ (n : ℕ). IsKey n key) (sym saveable_last.slots) (saveable_last.table.allowed slot key owned)) saveable_last.table.distinct (λ key. ap (λ (m : Mapped). m key) saveable_last.mapped)) in
        ap page_count (shadow ∙ sym both.current) ∙ owners

    pages_saved : new.pages.mapped ≡ mapped_by new.pages.backing.shadow
    pages_saved = saveable_last.mapped ∙ ap mapped_by (both.current ∙ sym shadow)

    pub saved_all : new.root ≡ next_root → IsSaved new
    saved_all root = record {
      log = ap (λ (r : Root). r.end) (root ∙ root_is) ∙ ap (λ (l : LogView). l.end) (sym moved);
      pages = pages_saved;
      count = saved_pages;
    }

    pub saves_so : new.root ≡ next_root → Saves marks view new
    saves_so root = record {
      pages = ap (λ (l : LogView). l.pages) moved ∙ pages_is;
      head = ap (λ (l : LogView). l.head) moved;
      end = ap (λ (l : LogView). l.end) moved ∙ end_is;
      mapped = mapped_last;
      shadow = saved_pages;
      checkpoint = ap (λ (r : Root). r.checkpoint) (root ∙ root_is) ∙ at_checkpoint;
      unchanged = none_changed saveable_last (shadow ∙ sym both.current);
    }

    mapped_same : mapped_pages new.pages.slots new.pages.mapped ≡ mapped_pages view.pages.slots view.pages.mapped
    mapped_same = λ i. mapped_pages (slots_last i) (mapped_last i)

    module _ {stored : Stored} {next : State} (can : CanCheckpoint view marks stored next) (told : IsTold view.pages.disk) (holds : (key : PageKey) → is_some (mid.held key) ≡ mid.mapped key) (records_now : (gone ps : List bytes.Placed) → HasRecords log (gone ++ ps) → ArePlaced log.head gone head → HasRecords new.log ps) where
      abbrev kept_log : EngineLog
      kept_log = saved_log can.log (least_mark can.log.end marks) can.kept marks

      abbrev kept_store : Stored
      kept_store = after_save can told holds next_root checkpoint at_checkpoint root_is

      abbrev kept_last : Logged
      kept_last = record { at = can.log.end; told = records.Checkpoint marks; is = Checkpoint marks }

      end_kept : can.log.end ≡ view.log.end
      end_kept = sym can.logged.end_is

      -- the lists are those of the checkpoint
      lists_are : lists_now kept_log ≡ lists_saved kept_log
      lists_are =
          let record_last : Placed = record { at = can.log.end; is = Checkpoint marks } in
          list_after-append [] (as_entries can.kept) (record_last ∷ [])

      changes_are : changes_in (lists_saved kept_log) ≡ next.changes
      changes_are = ap changes_in (sym lists_are) ∙ can.ties.ties.changes_are

      surviving_is : length next.changes ≡ next.meter.surviving
      surviving_is = ap (λ (cs : List Change). length cs) (sym changes_are) ∙ length-changes (lists_saved kept_log) ∙ sym can.ties.meter.surviving
        where
          length-changes : (ls : List Listed) → length (changes_in ls) ≡ length ls
          length-changes [] = refl
          length-changes (l ∷ ls) = omega (arith, length-changes ls)

      made_none : AreCounted new.pages → HasMade (change_counts next.base.definitions next.meter) 0 (page_counts new.pages)
      made_none counted =
          let images : (page_counts new.pages).images ≡ mapped_of view.pages.mapped Image view.pages.slots = λ i. mapped_of (mapped_last i) Image (slots_last i) in
          let saved_images : (page_counts new.pages).images ≡ (page_counts new.pages).saved_images = ap (λ (m : Mapped). mapped_of m Image new.pages.slots) pages_saved in
          record {
            before = omega (arith, saved_pages, mapped_same, counted_pages, can.heap, images, saved_images);
            now = omega (arith, mapped_same, counted_pages, can.heap, images);
            all = counted;
          }

      held_last : new.pages.held ≡ mid.held
      held_last = both.held (is.step.passes.leaves.told.0 told)

      saved_shows : new.root ≡ next_root → new.number ≡ 3 - view.number → AreCounted new.pages → ((image : Pages) → HasFixed new.pages.fixed image → IsStore image kept_store) → Shows new next
      saved_shows root number counted fixes = record {
        log = kept_log;
        stored = kept_store;
        disk = record { number_is = sym number; root_is = sym root; owners_are = sym shadow; fixes = fixes };
        tied = stored_now can told holds next_root checkpoint at_checkpoint root_is;
        logged = record {
          head_is = ap (λ (l : LogView). l.head) moved ∙ sym (head_same can told holds next_root checkpoint at_checkpoint root_is);
          end_is = ap (λ (l : LogView). l.end) moved ∙ end_is ∙ ap (λ (n : ℕ). n + size) (sym end_kept);
          records = records_now (as_bytes can.dropped) (as_bytes (can.kept ++ kept_last ∷ [])) all_records gone_records;
          until = until_last;
        };
        definitions = subst (λ (l : Listing). SameDefinitions view.catalog.listing l) (sym listing) (record { segments = refl; relations = refl; images = refl; links = refl });
        spells = subst (λ (l : Listing). SpellsTables new.pages.held l (tables_now next)) (sym listing) (subst (λ (h : Held). SpellsTables h view.catalog.listing (tables_now next)) (sym held_last) (spelled_now can told holds next_root checkpoint at_checkpoint root_is));
        written = λ page within pending. ap (λ (h : Held). h (page_key 0 System page)) held_last ∙ listed_now can told holds next_root checkpoint at_checkpoint root_is page within ∙ ap (λ (l : Listing). Some (catalog_page l page)) (sym listing);
        heap = heap_same can told holds next_root checkpoint at_checkpoint root_is;
        session = subst (λ (n : ℕ). IsInSession (change_counts next.base.definitions next.meter) n (page_counts new.pages)) (sym surviving_is) (session_begins (change_counts next.base.definitions next.meter) (page_counts new.pages) (made_none counted));
        over_is = can.over ∙ (λ i. mapped_of (sym mapped_last i) Overflow (sym slots_last i));
      }
        where
          all_records : HasRecords log (as_bytes can.dropped ++ as_bytes (can.kept ++ kept_last ∷ []))
          all_records =
              subst (HasRecords log) (bytes_append can.dropped (can.kept ++ kept_last ∷ []))
              (subst (λ (l : List Logged). HasRecords log (as_bytes l)) (all_split can told holds next_root checkpoint at_checkpoint root_is) (logged_now can told holds next_root checkpoint at_checkpoint root_is).records)

          gone_records : ArePlaced log.head (as_bytes can.dropped) head
          gone_records = subst (λ (n : ℕ). ArePlaced n (as_bytes can.dropped) head) (sym ready.log.head ∙ sym head_is) (gone_now can told holds next_root checkpoint at_checkpoint root_is)

          until_last : ArePlaced (least_mark can.log.end marks) (as_bytes (can.kept ++ kept_last ∷ [])) new.root.end
          until_last =
              subst (ArePlaced (least_mark can.log.end marks) (as_bytes (can.kept ++ kept_last ∷ []))) (ap (λ (r : Root). r.end) (sym root_is ∙ sym root))
              (subst (λ (n : ℕ). ArePlaced n (as_bytes (can.kept ++ kept_last ∷ [])) log.end) (sym (head_same can told holds next_root checkpoint at_checkpoint root_is)) (stay_now can told holds next_root checkpoint at_checkpoint root_is))

      -- it stands at its checkpoint
      pub stands_saved : new.root ≡ next_root → new.number ≡ 3 - view.number → AreCounted new.pages → (((image : Pages) → Leaves new.pages.disk image → IsStore image kept_store) → (image : Pages) → HasFixed new.pages.fixed image → IsStore image kept_store)
          → ((image : Pages) → Leaves new.pages.disk image → IsStore image kept_store) → StandsAtCheckpoint new next
      unfolding saved_shows
      stands_saved root number counted fixes leaves = record {
        shows = saved_shows root number counted (fixes leaves);
        leaves = leaves;
        tables = refl;
        lists = changes_are;
        last = kept_last;
        newer = refl;
      }
