-- The end of a transaction: the next root, the next store, and the state that is shown then.
use Rattle.std.proofs.Common.{◌≡◌, ◌⊎◌, inl, inr, ⊎_elim, ℕ, ◌+◌, ◌-◌, not, ◌==◌, List, [], ◌∷◌, ◌++◌, length, refl, sym, ◌∙◌, ap, subst, arith, append_assoc}
use Rattle.std.proofs.lemmas.List.{append-nil}
use Rattle.std.proofs.lemmas.List.Sums.{length-filter, count_by-le-length}
use Rattle.std.proofs.lemmas.Option.{same_Some}
use Rattle.rss_base.specs.DiskRule.{Disk, Pages, Told, IsTold, Leaves, Passes}
use Rattle.rss_base.specs.Layout.{IsWellFormed}
use Rattle.rss_base.specs.LogRecords.{ArePlaced, IsSpellable}
use Rattle.rss_base.specs.Paged.{Held, HasFixed, mapped_of}
use Rattle.rss_base.specs.StoredPages.{mapped_by, SavesPages}
use Rattle.rss_base.specs.Steps.{AreCounted}
use Rattle.rss_base.specs.declared.key.Space.TheVariants.{Home, Overflow}
use Rattle.rss_base.specs.declared.log_record.LogRecord.TheVariants as records
use Rattle.rss_base.specs.declared.root.Root.{Root}
use Rattle.rss_base.proofs.Moments.{widened}
use Rattle.rss_log.specs.Logs.{LogView, HasRecords, tail_of}
use Rattle.rss_catalog.specs.Catalogs.{CatalogView}
use Rattle.rss_access.specs.Changes.{CanAlter}
use Rattle.rss_check.specs.Layouts.{IsLogBehind}
use Rattle.rss_store.specs.Changing.{access}
use Rattle.rss_access.specs.Written.{AreWritten}
use Rattle.rss_model.specs.Tables.{Contents}
use Rattle.rss_model.specs.Changes.{Change, own, others, after}
use Rattle.rss_model.specs.Records.{End, Listed, changes_in, own_in, others_in}
use Rattle.rss_model.specs.Meter.{end_size}
use Rattle.rss_model.specs.Machine.{State, with_changes, now}
use Rattle.rss_model.specs.Meanings.{Logged, as_bytes, SameDefinitions}
use Rattle.rss_model.specs.EngineLogs.{EngineLog, all_logged, lists_now, appended, written_out}
use Rattle.rss_stored.specs.LogLaws.{IsStoredOf, committed_now}
use Rattle.rss_model.specs.Spares.{change_counts, page_counts, IsInSession}
use Rattle.rss_stored.specs.Store.{Stored, SpellsTables, AreNodesWithin, meter_of, size_of, held_in, IsStore}
use Rattle.rss_model.specs.Fits.{Fits}
use Rattle.rss_model.proofs.LogKeeping.{own_changes, others_changes}
use Rattle.rss_model.proofs.LogParts.{end_now}
use Rattle.rss_model.proofs.LogTying.{lone_last}
use Rattle.rss_stored.proofs.LogSteps.{end_ties}
use Rattle.rss_stored.proofs.LogStored.{disk_has_log, disk_has_room}
use Rattle.rss_model.proofs.Sparing.{session_forgets}
use Rattle.rss_store.specs.Stores.{StoreView, IsReady}
use Rattle.rss_store.specs.Commits.{HasLogRoom, MayCommit}
use Rattle.rss_store.specs.Selecting.{IsMeant, CanSelect, IsNextStore, Selects}
use Rattle.rss_store.specs.Shown.{HoldsTables, HoldsLogged, Shows}
use Rattle.rss_store.proofs.Growing.{Appends, behind_appended, logged_appended}
use Rattle.rss_store.proofs.Places.{store_holds, store_meant}
use Rattle.rss_store.proofs.Nexts.{length-tail_of, behind_itself, counts_still, ready_now}

-- the same root with a log that ends later
abbrev pub grown : Root → ℕ → List ℕ → Root
grown root end tail = record { version = root.version; slots = root.slots; log_pages = root.log_pages; area = root.area; head = root.head; checkpoint = root.checkpoint; end = end; tail = tail }

pub grown_same : (root : Root) {end end_too : ℕ} {tail tail_too : List ℕ} → end ≡ end_too → tail ≡ tail_too → grown root end tail ≡ grown root end_too tail_too
grown_same root ends tails = λ i. grown root (ends i) (tails i)

abbrev pub with_log : StoreView → LogView → StoreView
with_log view log = record view { log = log }

-- ---- the next root

module _ {view : StoreView} {log : LogView} {t at : ℕ} (ready : IsReady view) (room : HasLogRoom view.log end_size view.log.head) (appends : Appends (records.End t) at view.log log) where
  log_now : IsLogBehind view.root log
  log_now = behind_appended appends ready.log (omega (arith, room.before)) (omega (arith, room.limit))

  end_is : log.end ≡ view.log.end + end_size
  end_is = ap (λ (l : LogView). l.end) appends.grown

  grown_formed : (tail : List ℕ) → tail ≡ tail_of log → IsWellFormed (grown view.root log.end tail)
  grown_formed tail is =
      let formed = ready.formed in
      record {
        version_least = formed.version_least;
        version_most = formed.version_most;
        slots_least = formed.slots_least;
        slots_most = formed.slots_most;
        log_least = formed.log_least;
        log_most = formed.log_most;
        area = formed.area;
        head_first = formed.head_first;
        before_end = omega (arith, formed.before_end, ready.log.later, end_is);
        end_limit = omega (arith, room.limit, end_is);
        room = omega (arith, room.behind, end_is, ready.log.pages, ready.log.head);
        tail = ap (λ (l : List ℕ). length l) is ∙ length-tail_of log log_now.is_log;
      }

  pub ended_can : (end : ℕ) (tail : List ℕ) → end ≡ log.end → tail ≡ tail_of log → CanSelect (with_log view log) (grown view.root end tail)
  ended_can end tail at_end is = record {
    number_low = ready.number_low;
    number_high = ready.number_high;
    formed = ready.formed;
    size = ready.size;
    log_pages = ready.log_pages;
    log = log_now;
    of_log = record {
      formed = subst (λ (n : ℕ). IsWellFormed (grown view.root n tail)) (sym at_end) (grown_formed tail is);
      slots = refl;
      log_pages = refl;
      end = at_end;
      tail = is;
    };
  }

  pub ended_behind : (end : ℕ) (tail : List ℕ) → end ≡ log.end → tail ≡ tail_of log → IsLogBehind (grown view.root end tail) log
  ended_behind end tail at_end is = behind_itself log_now.is_log log_now.pages log_now.head at_end is

  pub ended_ready : {new : StoreView} {next : Root} → next ≡ grown view.root log.end (tail_of log) → Selects next (with_log view log) new → new.log ≡ log → new.catalog ≡ view.catalog → new.pages.slots ≡ view.pages.slots → new.pages.mapped ≡ view.pages.mapped → new.pages.backing.log_pages ≡ view.pages.backing.log_pages
      → CanAlter (access new) → IsReady new
  ended_ready {new = new} {next = next} is selected log_is catalog slots mapped log_pages can =
      ready_now ready (subst IsWellFormed (sym is) (grown_formed (tail_of log) refl)) (ap (λ (r : Root). r.slots) is) (ap (λ (r : Root). r.log_pages) is) selected.root selected.number selected.area selected.settled_now
      (subst (IsLogBehind next) (sym log_is) (subst (λ (r : Root). IsLogBehind r log) (sym is) (ended_behind log.end (tail_of log) refl refl)))
      slots mapped log_pages (ap (λ (c : CatalogView). length c.pending) catalog ∙ ready.pending_places) can

-- ---- the next store

-- the root of this number has the records in memory too, with one that ends a transaction
abbrev pub ended_store : ℕ → Root → Stored → EngineLog → ℕ → State → Stored
ended_store number next stored log t state = record {
  number = number;
  root = next;
  owners = stored.owners;
  listing = stored.listing;
  saved = stored.saved;
  older = log.older;
  newer = (written_out (appended log (records.End t) (End t))).written;
  tables = (committed_now t state).base;
}

module _ {view : StoreView} {log : LogView} {t at : ℕ} {state : State} (appends : Appends (records.End t) at view.log log) (spellable : IsSpellable (records.End t)) (shows : Shows view state) (may : MayCommit t state) where
  abbrev elog : EngineLog
  elog = shows.log

  abbrev elog_now : EngineLog
  elog_now = written_out (appended elog (records.End t) (End t))

  abbrev state_now : State
  state_now = committed_now t state

  abbrev stored : Stored
  stored = shows.stored

  root_is : stored.root ≡ view.root
  root_is = shows.disk.root_is

  logged_now : HoldsLogged (with_log view log) (appended elog (records.End t) (End t))
  logged_now = logged_appended (End t) refl appends shows.logged

  -- the tables now are as they were
  pub tables_now : with_changes state_now.base state_now.changes ≡ now state
  tables_now =
      let ties = shows.tied.ties.ties in
      let ls : List Listed = lists_now elog in
      let changes : changes_in ls ≡ state.changes = ties.changes_are in
      let mine : own t state.changes ≡ changes_in (own_in t ls) = ap (own t) (sym changes) ∙ sym (own_changes t ls) in
      let theirs : others t state.changes ≡ changes_in (others_in t ls) = ap (others t) (sym changes) ∙ sym (others_changes t ls) in
      let same : after (after state.base.contents (own t state.changes)) (others t state.changes) ≡ after state.base.contents state.changes =
      (λ i. after (after state.base.contents (mine i)) (theirs i)) ∙ end_now state.base.contents t ls (lone_last ties) ∙ ap (after state.base.contents) changes in
      ap (λ (c : Contents). record state.base { contents = c }) same

  module _ (number : ℕ) (next : Root) (slots : next.slots ≡ view.root.slots) (log_pages : next.log_pages ≡ view.root.log_pages) where
    abbrev after_end : Stored
    after_end = ended_store number next stored elog t state

    stored_now : IsStoredOf after_end elog_now state_now
    stored_now = record {
      ties = end_ties stored.listing stored.saved elog state t shows.tied.ties spellable may.fit;
      older = refl;
      newer = refl;
      size = shows.tied.size ∙ ap size_of root_is ∙ (λ i. record { slots = sym slots i; log_pages = sym log_pages i });
      tables = refl;
    }

    slots_stored : stored.root.slots ≡ next.slots
    slots_stored = ap (λ (r : Root). r.slots) root_is ∙ sym slots

    heap_now : state_now.meter.heap ≡ (meter_of after_end).heap
    heap_now = shows.heap ∙ ap (λ (n : ℕ). mapped_of (mapped_by stored.owners) Home n + mapped_of (mapped_by stored.owners) Overflow n) slots_stored

    meant_now : {held : Held} → IsMeant held stored → IsMeant held after_end
    meant_now {held = held} meant = record {
      only = meant.only;
      system = meant.system;
      spells = meant.spells;
      nodes = subst (λ (n : ℕ). AreNodesWithin n held stored.listing) slots_stored meant.nodes;
      fit = subst (λ (n : ℕ). Fits n stored.saved) slots_stored meant.fit;
      log = λ pages log. disk_has_log pages after_end elog_now state_now stored_now log;
      room = disk_has_room after_end elog_now state_now stored_now may.metered heap_now;
    }

  -- a root that ends the log is the root of that store
  module _ (ready : IsReady view) (next : Root) (is : next ≡ grown view.root log.end (tail_of log)) (told : IsTold view.pages.disk) (left : (image : Pages) → Leaves view.pages.disk image → HasFixed view.pages.fixed image) (reads : Told view.pages.disk (Leaves view.pages.disk)) where
    abbrev after_now : Stored
    after_now = ended_store (3 - view.number) next stored elog t state

    left_store : (image : Pages) → Leaves view.pages.disk image → IsStore image stored
    left_store image leaves = shows.disk.fixes image (left image leaves)

    here : IsStore told.pages stored
    here = left_store told.pages (reads told.pages told.is)

    pub ended_next : IsNextStore (with_log view log) next stored after_now (held_in told.pages stored)
    ended_next =
        let holds = store_holds here in
        let head : elog.head ≡ next.head = sym shows.logged.head_is ∙ ready.log.head ∙ ap (λ (r : Root). r.head) (sym is) in
        let last : List Logged = elog.pending ++ record { at = elog.end; told = records.End t; is = End t } ∷ [] in
        let row : (stored.older ++ stored.newer) ++ last ≡ elog.older ++ (elog.written ++ last) =
        ap (λ (l : List Logged). l ++ last) (λ i. shows.tied.older i ++ shows.tied.newer i) ∙ append_assoc elog.older elog.written last in
        record {
          left = left_store;
          number_is = shows.disk.number_is;
          root_is = root_is;
          number_next = refl;
          root_next = refl;
          count = holds.count ∙ ap (λ (r : Root). r.slots) root_is;
          saves = λ pages contents.
              subst (λ (p : Pages). SavesPages view.root.log_pages next.area p stored.owners (held_in told.pages stored)) (same_Some told.pages pages (sym told.is ∙ contents))
              (subst (λ (a : ℕ). SavesPages view.root.log_pages a told.pages stored.owners (held_in told.pages stored)) (ap (λ (r : Root). r.area) (sym is))
              (subst (λ (r : Root). SavesPages r.log_pages r.area told.pages stored.owners (held_in told.pages stored)) root_is holds.saved));
          meant = meant_now (3 - view.number) next (ap (λ (r : Root). r.slots) is) (ap (λ (r : Root). r.log_pages) is) (store_meant here);
          appended = last;
          dropped = [];
          records = subst (λ (l : List Logged). HasRecords log (as_bytes l)) (sym row) logged_now.records;
          split = row;
          gone = ap (λ (r : Root). r.head) (sym is);
          stay = placed_at head (ap (λ (r : Root). r.end) (sym is));
          checkpoint = subst (λ (r : Root). ArePlaced r.head (as_bytes elog.older) r.checkpoint) (sym is)
              (subst (λ (l : List Logged). ArePlaced view.root.head (as_bytes l) view.root.checkpoint) shows.tied.older
              (subst (λ (r : Root). ArePlaced r.head (as_bytes stored.older) r.checkpoint) root_is here.log.checkpoint));
        }
      where
        placed_at : elog.head ≡ next.head → log.end ≡ next.end → ArePlaced next.head (as_bytes (all_logged (appended elog (records.End t) (End t)))) next.end
        placed_at head end =
            let start : log.head ≡ next.head = logged_now.head_is ∙ head in
            subst (λ (n : ℕ). ArePlaced n (as_bytes (all_logged (appended elog (records.End t) (End t)))) next.end) start (subst (λ (n : ℕ). ArePlaced log.head (as_bytes (all_logged (appended elog (records.End t) (End t)))) n) end logged_now.records.placed)

    same_size : state.size ≡ size_of next
    same_size = (stored_now (3 - view.number) next (ap (λ (r : Root). r.slots) is) (ap (λ (r : Root). r.log_pages) is)).size

    -- what a stop leaves meanwhile
    pub ended_moments : {new : Disk} → Passes view.pages.disk new (λ image. IsStore image stored ⊎ IsStore image after_now)
        → Passes view.pages.disk new (λ image. HoldsTables state.size state.base image ⊎ HoldsTables state.size state_now.base image)
    ended_moments passes = widened passes (λ image. ⊎_elim
        (λ store. inl (record { stored = stored; store = store; same_size = shows.tied.size; holds = sym shows.tied.tables }))
        (λ store. inr (record { stored = after_now; store = store; same_size = same_size; holds = refl })))

    -- the state that is shown then
    module _ {new : StoreView} (selected : Selects next (with_log view log) new) (log_is : new.log ≡ log) (catalog : new.catalog ≡ view.catalog) (held : new.pages.held ≡ view.pages.held) (slots : new.pages.slots ≡ view.pages.slots) (mapped : new.pages.mapped ≡ view.pages.mapped) (counted : AreCounted view.pages) (counted_now : AreCounted new.pages)
        (fixes : (image : Pages) → HasFixed new.pages.fixed image → IsStore image after_now) where
      pub ended_shows : Shows new state_now
      ended_shows = record {
        log = elog_now;
        stored = after_now;
        disk = record {
          number_is = sym selected.number;
          root_is = sym selected.root;
          owners_are = shows.disk.owners_are ∙ sym selected.shadow;
          fixes = fixes;
        };
        tied = stored_now (3 - view.number) next (ap (λ (r : Root). r.slots) is) (ap (λ (r : Root). r.log_pages) is);
        logged = record {
          head_is = ap (λ (l : LogView). l.head) log_is ∙ logged_now.head_is;
          end_is = ap (λ (l : LogView). l.end) log_is ∙ logged_now.end_is;
          records = subst (λ (l : LogView). HasRecords l (as_bytes (all_logged elog_now))) (sym log_is) (subst (λ (l : List Logged). HasRecords log (as_bytes (elog.older ++ l))) (no_more (elog.written ++ (elog.pending ++ _ ∷ []))) logged_now.records);
          until = until_now;
        };
        definitions = subst (λ (c : CatalogView). SameDefinitions stored.listing c.listing) (sym catalog) shows.definitions;
        spells = subst (λ (c : CatalogView). SpellsTables new.pages.held c.listing (with_changes state_now.base state_now.changes)) (sym catalog)
            (subst (λ (h : Held). SpellsTables h view.catalog.listing (with_changes state_now.base state_now.changes)) (sym held)
            (subst (SpellsTables view.pages.held view.catalog.listing) (sym tables_now) shows.spells));
        written = subst (AreWritten new.pages.held) (sym catalog) (subst (λ (h : Held). AreWritten h view.catalog) (sym held) shows.written);
        heap = heap_now (3 - view.number) next (ap (λ (r : Root). r.slots) is) (ap (λ (r : Root). r.log_pages) is);
        session = subst (IsInSession (change_counts state.base.definitions state.meter) (length (others t state.changes))) (sym (counts_still view.pages new.pages counted counted_now slots mapped selected.shadow))
            (session_forgets (change_counts state.base.definitions state.meter) (length state.changes) (length (others t state.changes)) (page_counts view.pages) shows.session
            (omega (arith, length-filter (λ (c : Change). not (c.by == t)) state.changes, count_by-le-length (λ (c : Change). not (c.by == t)) state.changes)));
        over_is = shows.over_is ∙ (λ i. mapped_of (sym mapped i) Overflow (sym slots i));
      }
        where
          no_more : (ls : List Logged) → ls ≡ ls ++ []
          no_more ls = sym (append-nil ls)

          until_now : ArePlaced elog_now.head (as_bytes (elog_now.older ++ elog_now.written)) new.root.end
          until_now =
              let end : log.end ≡ new.root.end = ap (λ (r : Root). r.end) (sym is ∙ sym selected.root) in
              subst (λ (n : ℕ). ArePlaced elog.head (as_bytes (elog_now.older ++ elog_now.written)) n) end
              (subst (λ (n : ℕ). ArePlaced n (as_bytes (elog_now.older ++ elog_now.written)) log.end) logged_now.head_is logged_now.records.placed)
