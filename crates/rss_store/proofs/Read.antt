-- A store in memory, as it was read from a device.
use Rattle.std.proofs.Common.{◌≡◌, ℕ, ◌-◌, Bool, true, not, List, length, Option, Some, None, refl, sym, ◌∙◌, ap, subst, arith}
use Rattle.std.specs.Prelude.{is_some, Result}
use Rattle.std.proofs.lemmas.Bool.{and_parts, leb-true, cond-false, false_from_ne_true}
use Rattle.rss_base.specs.declared.key.Space.TheVariants.{System}
use Rattle.rss_base.specs.declared.key.PageKey.{PageKey}
use Rattle.rss_base.specs.declared.place.Place.{Place}
use Rattle.rss_base.specs.declared.root.Root.{Root}
use Rattle.rss_base.specs.declared.fault.PageFault.{PageFault}
use Rattle.rss_base.specs.Devices.{OnlyReads}
use Rattle.rss_base.specs.DiskRule.{Pages, page, Told, IsTold, SameOff}
use Rattle.rss_base.specs.Layout.{map_at, slots_at}
use Rattle.rss_base.specs.Listings.{HoldsListing}
use Rattle.rss_base.specs.Looking.{ChecksPages}
use Rattle.rss_base.specs.PageMap.{owner_of, IsMap, page_count}
use Rattle.rss_base.specs.Paged.{Mapped, Held, Fixed, Backing, HasFixed, page_key, mapped_pages}
use Rattle.rss_base.specs.Steps.{PagesView, Keys, AreCounted, device_below}
use Rattle.rss_base.specs.StoredPages.{mapped_by, held_at, StandInSlots, HoldsPages}
use Rattle.rss_base.proofs.Counts.{mapped_pages-owners}
use Rattle.rss_buffer.specs.Slots.{is_loose, fixed_by}
use Rattle.rss_buffer.specs.Buffered.{HoldsMapAt}
use Rattle.rss_buffer.specs.Saving.{SavingView, AreSaveable, IsFresh}
use Rattle.rss_buffer.proofs.SavingSteps.{fresh_unchanged}
use Rattle.rss_catalog.specs.Catalogs.{CatalogView}
use Rattle.rss_log.specs.Logs.{LogView}
use Rattle.rss_model.specs.Fits.{IsIdentifier}
use Rattle.rss_stored.specs.Store.{SpellsTables, AreNodesWithin, Stored, IsStore}
use Rattle.rss_stored.proofs.ListedOnce.{listing_once}
use Rattle.rss_stored.proofs.Stores.{one_root, one_map}
use Rattle.rss_access.specs.Changes.{both, HasTables as SomeTables}
use Rattle.rss_check.specs.Faults.{IsFirstFault, ArePassed}
use Rattle.rss_check.specs.Layouts.{IsLayout, HasLayout, IsLogRead, HasLogBytes}
use Rattle.rss_check.specs.Lines.{Links}
use Rattle.rss_check.specs.Looks.{HoldsTables as PagesHoldTables, FindsTables}
use Rattle.rss_check.specs.Passed.{IsViewOf}
use Rattle.rss_check.specs.Refused.{IsFoundAt, IsEarlyPlace}
use Rattle.rss_check.proofs.Refused.{found_at}
use Rattle.rss_store.specs.Stores.{StoreView, IsReady, IsSaved}
use Rattle.rss_store.specs.Opening.{IsReadFrom, IsFreeSlot, HasTables, ReadsFrom}
use Rattle.rss_store.proofs.Places.{held_slots, store_fixed}

-- ---- pages that differ in free slots alone

none_of : (o : Option PageKey) → not (is_some o) ≡ true → o ≡ None
none_of None is = refl
none_of (Some key) is = absurd (cc (is))

free_slot : (root : Root) (owners : List (Option PageKey)) (q : ℕ) → is_loose (slots_at root.slots root.log_pages) owners q ≡ true → IsFreeSlot root owners q
free_slot root owners q loose =
    let parts = and_parts _ _ loose in
    record { behind = leb-true (slots_at root.slots root.log_pages) q parts.0; free = none_of (owner_of owners (q - slots_at root.slots root.log_pages)) parts.1 }

-- what is fixed is all but these
fixed_same : {root : Root} {owners : List (Option PageKey)} {pages image : Pages} → HasFixed (fixed_by (slots_at root.slots root.log_pages) owners (Some pages)) image → SameOff (IsFreeSlot root owners) pages image
fixed_same {root = root} {owners = owners} {pages = pages} has = record {
  size = has.size;
  others = λ q off. has.pages q (page pages q) (cond-false _ _ _ (false_from_ne_true (is_loose (slots_at root.slots root.log_pages) owners q) (λ loose. off (free_slot root owners q loose))));
}

-- the map of a root stands in its area
pub held_map : {pages : Pages} {root : Root} {number : ℕ} {owners : List (Option PageKey)} → IsLayout root number owners → HasLayout pages root number owners → HoldsMapAt owners root.area pages
held_map {pages = pages} {root = root} {owners = owners} layout has = subst (λ (n : ℕ). IsMap n pages (map_at n root.area) owners) (sym layout.slots) has.map

-- ---- how many pages there are

-- as many as the map in memory has
pub current_counted : {pages : PagesView} {saving : SavingView} → AreSaveable pages saving → mapped_pages pages.slots pages.mapped ≡ page_count saving.current
current_counted {pages = pages} {saving = saving} saveable =
    (λ i. mapped_pages (saveable.slots i) (saveable.mapped i))
    ∙ mapped_pages-owners (length saving.current) saving.current (mapped_by saving.current) saveable.table.allowed saveable.table.distinct (λ key. refl)

-- ---- tables

-- the tables that pages hold can be told of
tables_read : {slots : ℕ} {held : Held} {new : PagesView} {catalog : CatalogView} → PagesHoldTables held slots catalog.listing → new.held ≡ held → new.slots ≡ slots → SomeTables (both new catalog)
tables_read {slots = slots} {held = held} {new = new} {catalog = catalog} has same_held same_slots = record {
  tables = has.tables;
  spells = subst (λ (h : Held). SpellsTables h catalog.listing has.tables) (sym same_held) has.spells;
  tuples = has.fit.tuples;
  tids = λ relation tid lives. subst (λ (n : ℕ). IsIdentifier n tid) (sym same_slots) (has.fit.tids relation tid lives);
  few = has.fit.few;
  links = has.fit.links;
  nodes = subst (λ (n : ℕ). AreNodesWithin n new.held catalog.listing) (sym same_slots) (subst (λ (h : Held). AreNodesWithin slots h catalog.listing) (sym same_held) has.nodes);
}

-- ---- a store of these pages has the root and the map that were read

module _ {pages : Pages} {root : Root} {number : ℕ} {owners : List (Option PageKey)} (has : HasLayout pages root number owners) where
  abbrev pub here : Stored → Stored
  here stored = record stored { number = number; root = root; owners = owners }

  pub is_here : {stored : Stored} → IsStore pages stored → here stored ≡ stored
  is_here {stored = stored} store =
      let one = one_root has.root_there store.root_there in
      let roots : root ≡ stored.root = one.1 in
      let maps : owners ≡ stored.owners = one_map has.root_there.there.formed has.map (subst (λ (r : Root). IsMap r.slots pages (map_at r.slots r.area) stored.owners) (sym roots) store.map) in
      λ i. record stored { number = one.0 i; root = roots i; owners = maps i }

module _ {root : Root} {number frames writes : ℕ} {owners : List (Option PageKey)} {old : PagesView} {saving : SavingView} (layout : IsLayout root number owners) (saveable : AreSaveable old saving) (fresh : IsFresh root owners frames writes old saving) where
  mapped_is : old.mapped ≡ mapped_by owners
  mapped_is = saveable.mapped ∙ ap (λ (o : List (Option PageKey)). mapped_by o) fresh.current

  shadow_is : old.backing.shadow ≡ owners
  shadow_is = ap (λ (b : Backing). b.shadow) fresh.backing

  pub size_is : old.slots ≡ root.slots
  size_is = saveable.slots ∙ ap (λ (o : List (Option PageKey)). length o) fresh.current ∙ layout.slots

  log_is : old.backing.log_pages ≡ root.log_pages
  log_is = ap (λ (b : Backing). b.log_pages) fresh.backing

  fixed_is : (p : Pages) → old.disk.contents ≡ Some p → old.fixed ≡ fixed_by (slots_at root.slots root.log_pages) owners (Some p)
  fixed_is p told = saveable.fixed ∙ (λ i. fixed_by (slots_at (size_is i) (log_is i)) (shadow_is i) (told i))

  module _ (held_are : IsTold old.disk → (key : PageKey) → is_some (old.held key) ≡ old.mapped key) (holds : Told old.disk (λ pages. HasLayout pages root number owners)) (stand : Told old.disk (λ pages. StandInSlots (slots_at root.slots root.log_pages) pages owners old.held)) where
    fresh_pages : (told : IsTold old.disk) → HoldsPages told.pages number root owners old.held
    fresh_pages told =
        let has = holds told.pages told.is in
        record {
          root_there = has.root_there;
          count = layout.slots;
          saved = record {
            map = held_map layout has;
            stand = subst (λ (n : ℕ). StandInSlots (slots_at n root.log_pages) told.pages owners old.held) (sym layout.slots) (stand told.pages told.is);
          };
        }

    -- they hold what stands in the slots
    slots_hold : (told : IsTold old.disk) → held_at (slots_at root.slots root.log_pages) told.pages owners ≡ old.held
    slots_hold told = held_slots (fresh_pages told) (λ key. held_are told key ∙ ap (λ (m : Mapped). m key) mapped_is)

    store_here : (told : IsTold old.disk) (stored : Stored) → IsStore told.pages stored → IsStore told.pages (here (holds told.pages told.is) stored)
    store_here told stored store = subst (IsStore told.pages) (sym (is_here (holds told.pages told.is) store)) store

    listing_here : (told : IsTold old.disk) (stored : Stored) → IsStore told.pages stored → HoldsListing old.held stored.listing
    listing_here told stored store = subst (λ (h : Held). HoldsListing h stored.listing) (slots_hold told) (store_here told stored store).system

    -- the pages in memory are those of the device
    view_read : (told : IsTold old.disk) → IsViewOf told.pages old
    view_read told = record {
      laid = record { number = number; root = root; owners = owners; there = holds told.pages told.is };
      slots = size_is;
      held = sym (slots_hold told);
    }

    -- so what a look finds there is found in these
    pub found_read : {place : Place} (told : IsTold old.disk) → (IsTold old.disk → IsEarlyPlace place)
        → (IsTold old.disk → (pages : Pages) → IsViewOf pages old → IsFirstFault pages place)
        → IsFoundAt told.pages place
    found_read told early first = found_at (early told) (first told told.pages (view_read told))

    module _ {T : Type 0} {noted : Keys} {asks : ℕ} {catalog : CatalogView} {new : PagesView} {result : Result T PageFault}
        {log : LogView} (did : ChecksPages noted asks old new result) (finds : FindsTables old new catalog)
        (passes : IsTold old.disk → (pages : Pages) → IsViewOf pages old → ArePassed pages Links) (counted : AreCounted new)
        (read : IsLogRead root log) (bytes : Told old.disk (λ pages. HasLogBytes pages root log)) where
      -- the store in memory
      abbrev pub read_view : StoreView
      read_view = record { pages = new; catalog = catalog; log = log; root = root; number = number }

      new_size : new.slots ≡ root.slots
      new_size = did.looks.step.passes.slots ∙ size_is

      new_shadow : new.backing.shadow ≡ owners
      new_shadow = ap (λ (b : Backing). b.shadow) did.looks.step.passes.backing ∙ shadow_is

      new_mapped : new.mapped ≡ mapped_by owners
      new_mapped = did.looks.mapped ∙ mapped_is

      same_mapped : (key : PageKey) → new.mapped key ≡ old.mapped key
      same_mapped key = ap (λ (m : Mapped). m key) did.looks.mapped

      only_reads : OnlyReads (device_below old) (device_below new)
      only_reads = did.looks.unwritten (fresh_unchanged fresh saveable)

      read_ready : IsReady read_view
      read_ready = record {
        number_low = omega (arith, layout.number_low);
        number_high = omega (arith, layout.number_high);
        formed = layout.formed;
        size = new_size;
        log_pages = ap (λ (b : Backing). b.log_pages) did.looks.step.passes.backing ∙ log_is;
        area = ap (λ (b : Backing). b.area) did.looks.step.passes.backing ∙ ap (λ (b : Backing). b.area) fresh.backing;
        log = read.behind;
        system = λ n low. same_mapped (page_key 0 System n) ∙ finds.loaded.mapped n low;
        pending_places = ap (λ (l : List Bool). length l) finds.loaded.written;
        settled_now = did.looks.step.passes.leaves.stays_settled fresh.settled;
        heaps = λ told. finds.heaps (did.looks.step.passes.leaves.told.1 told);
        tables = λ told. ∣ tables_read (finds.holds (did.looks.step.passes.leaves.told.1 told)) (did.looks.held (did.looks.step.passes.leaves.told.1 told)) did.looks.step.passes.slots ∣₁;
      }

      read_saved : IsSaved read_view
      read_saved = record {
        log = sym read.end;
        pages = new_mapped ∙ ap (λ (o : List (Option PageKey)). mapped_by o) (sym new_shadow);
        count = ap page_count (new_shadow ∙ sym fresh.current) ∙ sym (current_counted saveable) ∙ (λ i. mapped_pages (sym did.looks.step.passes.slots i) (sym did.looks.mapped i));
      }

      fixed_now : (told : IsTold old.disk) → new.fixed ≡ fixed_by (slots_at root.slots root.log_pages) owners (Some told.pages)
      fixed_now told = did.looks.step.passes.leaves.same fresh.settled told ∙ fixed_is told.pages told.is

      read_from : (told : IsTold old.disk) (stored : Stored) → IsStore told.pages stored → IsReadFrom stored read_view
      read_from told stored store =
          let has = holds told.pages told.is in
          let is = store_here told stored store in
          subst (λ (s : Stored). IsReadFrom s read_view) (is_here has store) (record {
            pages = told.pages;
            store = is;
            told = only_reads.contents ∙ told.is;
            number_is = refl;
            root_is = refl;
            opened = record {
              held = did.looks.held told ∙ sym (slots_hold told);
              mapped = new_mapped;
              shadow = new_shadow;
              slots = new_size;
              counted = counted;
              listing = listing_once old.held finds.loaded.fits is.spells.listed (finds.loaded.holds told) (listing_here told stored store);
              head = read.behind.head;
              end = read.end;
              kept = bytes told.pages told.is;
            };
            written = λ page low off. ap (λ (h : Held). h (page_key 0 System page)) (did.looks.held told) ∙ finds.loaded.holds told page low;
            fixes = λ image fixed. store_fixed is (subst (λ (f : Fixed). HasFixed f image) (fixed_now told) fixed);
          })

      -- they spell tables
      spelled : (told : IsTold old.disk) → HasTables told.pages
      spelled told = record {
        number = number;
        root = root;
        owners = owners;
        listing = catalog.listing;
        there = holds told.pages told.is;
        spelled = subst (λ (n : ℕ). PagesHoldTables (held_at (slots_at root.slots root.log_pages) told.pages owners) n catalog.listing) size_is
            (subst (λ (h : Held). PagesHoldTables h old.slots catalog.listing) (sym (slots_hold told)) (finds.holds told));
      }

      -- the device below is the one that was read
      pub reads_from : (size : ℕ) → ReadsFrom (record { disk = old.disk; size = size; writes = old.writes; faults = old.faults }) read_view
      reads_from size = record {
        ready = read_ready;
        saved = read_saved;
        reads = record { contents = only_reads.contents; moments = only_reads.moments; same_writes = only_reads.same_writes; later = only_reads.later };
        half = omega (arith, layout.half, layout.slots, ap page_count new_shadow);
        early = layout.early;
        layout = λ pages told. subst (HasLayout pages root number) (sym new_shadow) (holds pages told);
        named = λ pages told image fixed. record {
          number = number;
          root = root;
          owners = owners;
          there = holds pages told;
          same = fixed_same (subst (λ (f : Fixed). HasFixed f image) (fixed_now (record { pages = pages; is = told })) fixed);
        };
        passed = λ pages told.
            let known : IsTold old.disk = record { pages = pages; is = told } in
            passes known pages (view_read known);
        tables = λ pages told. spelled (record { pages = pages; is = told });
        read = λ pages told stored store. read_from (record { pages = pages; is = told }) stored store;
      }
