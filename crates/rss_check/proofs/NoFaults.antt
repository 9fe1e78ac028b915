-- A store has no fault: no line of a check is broken in it anywhere.
use Rattle.std.proofs.Common.{◌≡◌, ◌≢◌, inl, inr, ℕ, ◌+◌, ◌-◌, ◌*◌, ◌^◌, ◌<◌, ◌≤◌, true, false, List, [], ◌∷◌, ◌++◌, length, replicate, refl, sym, ◌∙◌, ap, subst, arith, append_assoc}
use Rattle.std.specs.Prelude.{Option, Some, None, is_some, nat_le, All, Contains}
use Rattle.std.proofs.lemmas.Bool.{cases_Bool, cond-true, cond-false}
use Rattle.std.proofs.lemmas.List.Elements.{recursion_from_All}
use Rattle.std.proofs.lemmas.List.{length-append}
use Rattle.std.proofs.lemmas.Option.{none-some}
use Rattle.rss_base.specs.DiskRule.{Pages}
use Rattle.rss_base.specs.Sizes.{relations_most, links_most, system_pages}
use Rattle.rss_base.specs.Layout.{map_at, slots_at}
use Rattle.rss_base.specs.LogPages.{log_bytes}
use Rattle.rss_base.specs.LogRecords.{ArePlaced, BeginsWith, Parses, record_bytes, record_size}
use Rattle.rss_base.specs.LogRecords as raw
use Rattle.rss_base.specs.PageMap.{IsMap, IsKey}
use Rattle.rss_base.specs.Paged.{Held, page_key, mapped_of}
use Rattle.rss_base.specs.StoredPages.{held_at, mapped_by}
use Rattle.rss_base.specs.Steps.{PagesView}
use Rattle.rss_base.specs.Listings.{Listing, ListingFits, HoldsListing, numbered, segment_at, relation_at, link_at, relations_of_page}
use Rattle.rss_base.specs.declared.key.PageKey.{PageKey}
use Rattle.rss_base.specs.declared.key.Space.TheVariants.{Home, Overflow, System}
use Rattle.rss_base.specs.declared.log_record.LogRecord.{LogRecord}
use Rattle.rss_base.specs.declared.name.Name.{Name}
use Rattle.rss_base.specs.declared.place.Place.{Place}
use Rattle.rss_base.specs.declared.place.Place.TheVariants.{Page as PagePlace, Image as ImagePlace, Link as LinkPlace}
use Rattle.rss_base.specs.declared.relation.RelationEntry.{RelationEntry}
use Rattle.rss_base.specs.declared.link.LinkEntry.{LinkEntry}
use Rattle.rss_base.specs.declared.root.Root.{Root}
use Rattle.rss_base.specs.declared.tid.Tid.{Tid}
use Rattle.rss_page.specs.Content.{Empty}
use Rattle.rss_page.specs.Slotted.{IsHeapKey}
use Rattle.rss_tuple.specs.Directory.{homes, overflows}
use Rattle.rss_tuple.specs.Heaps.{IsLed}
use Rattle.rss_tuple.specs.Flaws.{IsEntryRight}
use Rattle.rss_tuple.proofs.Flaws.{sound_right}
use Rattle.rss_tuple.specs.Checked.{tuples_of}
use Rattle.rss_record.proofs.Parsing.{parses_once, split_once, some_bytes}
use Rattle.rss_record.proofs.Records.{one_front}
use Rattle.rss_catalog.specs.Defined.{up_to}
use Rattle.rss_catalog.proofs.Fronts.{front_at}
use Rattle.rss_catalog.proofs.Plain.{none_of}
use Rattle.rss_catalog.proofs.Same.{same_listable, listable_of}
use Rattle.rss_catalog.proofs.Tested.{definitions_front}
use Rattle.rss_model.specs.Changes.{Change}
use Rattle.rss_model.specs.Fits.{Fits, tuple_limit}
use Rattle.rss_model.specs.Meanings.{Logged, Says, as_bytes, as_entries}
use Rattle.rss_model.specs.Meter.{room_number}
use Rattle.rss_model.specs.Records.{changes_in, list_after}
use Rattle.rss_model.specs.Restart.{FitWith, UndoFits, Lone, LoneAlong}
use Rattle.rss_model.specs.Tables.{Contents, Tables, tuple_count}
use Rattle.rss_model.proofs.LogLists.{all_front, all_back}
use Rattle.rss_model.proofs.Mixing.{In, each_of}
use Rattle.rss_stored.specs.Store.{Stored, IsStore, HasLog, SpellsTables, IsStorePage, held_in as held_of_store, listed_at, meter_of}
use Rattle.rss_stored.proofs.ChainsOnce.{spells_once}
use Rattle.rss_stored.proofs.LogPlaced.{bytes_append, entries_append}
use Rattle.rss_stored.proofs.Stores.{one_root, one_map, sound_unbroken}
use Rattle.rss_entries.proofs.Orders.{in_contains}
use Rattle.rss_access.specs.Bodies.{is_body}
use Rattle.rss_access.specs.Changes.{AccessView, both}
use Rattle.rss_check.specs.Checks.{count_of, IsSegmentOf}
use Rattle.rss_check.specs.Layouts.{Laid, held_in}
use Rattle.rss_check.specs.Spellings.{AreSuited, Spelling, held_of}
use Rattle.rss_check.specs.Logs.{IsRead, IsOver}
use Rattle.rss_check.specs.Lines.{Line, Images, Reached, Links}
use Rattle.rss_check.specs.Faults.{IsHeapPage, Breaks, layout, unmapped, undefined, heap_page, entry, unled, count, image, unused, link, no_record, marks, shared, no_way, no_room, StoresHaveNone}
use Rattle.rss_check.specs.Tuples.{BreaksPaths, image_in, unused_in, link_in}
use Rattle.rss_check.proofs.Bared.{AllSay, bared, bytes_twice, lists_twice, along_twice, lone_at, long_twice, of_twice, changes_twice, changes_of_twice}
use Rattle.rss_check.proofs.Found.{spelled_segment}
use Rattle.rss_check.proofs.Laying.{allowed_in}
use Rattle.rss_check.proofs.SpelledPaths.{none_paths}
use Rattle.rss_access.proofs.AsMany.{contains_in}

-- ---- pages that only hold

-- as a view of the layers below, for what is said of held pages alone
abbrev still : Held → ℕ → PagesView
still held slots = record {
  disk = record { contents = None; moment = 0; images = λ (t : ℕ) (pages : Pages). ⊥ };
  slots = slots;
  mapped = λ (key : PageKey). is_some (held key);
  held = held;
  notes = λ (key : PageKey). None;
  changed = λ (key : PageKey). false;
  in_memory = λ (key : PageKey). false;
  spare = 0;
  asks = 0;
  writes = 0;
  faults = 0;
  outs = 0;
  fixed = record { size = 0; held_at = λ (q : ℕ). None };
  settled = true;
  backing = record { log_pages = 0; area = 0; shadow = []; frames = 0 };
}

abbrev still_at : Held → ℕ → Listing → AccessView
still_at held slots listing = both (still held slots) (record { listing = listing; pending = [] })

-- ---- the log

-- Records that are followed by others in the bytes of a log: the next one stands there.
next_record : (from position until : ℕ) (front ps : List raw.Placed) (rest : List ℕ) → ArePlaced from front position → ArePlaced from ps until → raw.spelled ps ≡ raw.spelled front ++ rest → position < until
    → (r : LogRecord) × (more : List ℕ) × BeginsWith rest r more
next_record from position until [] [] rest first second same early = absurd (omega (arith, first, second, early))
next_record from position until [] (p ∷ ps) rest first second same early = (p.is, raw.spelled ps, record { spellable = second.1; is = sym same })
next_record from position until (q ∷ front) [] rest first second same early =
    absurd (omega (arith, some_bytes q.is, length-append (record_bytes q.is) (raw.spelled front), length-append (record_bytes q.is ++ raw.spelled front) rest, ap length same))
next_record from position until (q ∷ front) (p ∷ ps) rest first second same early =
    let parts = one_front p.is q.is (raw.spelled ps) (raw.spelled front ++ rest) second.1 first.1 (same ∙ append_assoc (record_bytes q.is) (raw.spelled front) rest) in
    next_record (from + record_size q.is) position until front ps rest first.2 (subst (λ (r : LogRecord). ArePlaced (from + record_size r) ps until) parts.0 second.2) parts.1 early

say_all : {listing : Listing} (logged : List Logged) → ((l : Logged) → Contains logged l → Says listing l.told l.is) → AllSay listing logged
say_all {listing} logged say = each logged (in_contains logged)
  where
    each : (ls : List Logged) → ((l : Logged) → In l ls → Contains logged l) → AllSay listing ls
    each [] within = tt
    each (l ∷ ls) within = (say l (within l (inl refl)), each ls (λ k is. within k (inr is)))

-- the first of the tables on the way fit
pub first_fits : (slots : ℕ) (tables : Tables) (contents : Contents) (cs : List Change) → UndoFits slots tables contents cs → FitWith slots tables contents
first_fits slots tables contents [] fits = fits
first_fits slots tables contents (c ∷ cs) fits = fits.0

-- ---- a store

module _ {pages : Pages} {stored : Stored} (store : IsStore pages stored) where
  abbrev held : Held
  held = held_of_store pages stored

  abbrev slots : ℕ
  slots = stored.root.slots

  abbrev listing : Listing
  listing = stored.listing

  abbrev tables : Tables
  tables = stored.saved

  fits : ListingFits listing
  fits = store.spells.listed

  small : slots < 4294967296
  small = omega (arith, store.root_there.there.formed.slots_most)

  few_slots : slots ≤ 2 ^ 32
  few_slots = omega (arith, small)

  allowed : (key : PageKey) → is_some (held key) ≡ true → IsKey slots key
  allowed = allowed_in pages stored.root stored.owners store.map

  segment_sound : (segment : ℕ) → IsSegmentOf held slots listing segment
  segment_sound segment = spelled_segment allowed store.spells store.fit segment

  -- ---- its catalog

  few_live : (number : ℕ) (relation : RelationEntry) → relation_at listing number ≡ Some relation → relation.live ≤ tuple_limit
  few_live number relation at = omega (arith, store.fit.few relation.name, store.spells.counts number relation at)

  -- a link on the first pages is one of all
  link_front : (page number : ℕ) (of : LinkEntry) → link_at (up_to page listing) number ≡ Some of → link_at listing number ≡ Some of
  link_front page number of at = elim (cases_Bool (nat_le (system_pages - 1) page)) [
    | inl all ↦ ap (λ (links : List (Option LinkEntry)). numbered links number) (sym (cond-true (nat_le (system_pages - 1) page) listing.links (replicate links_most None) all)) ∙ at
    | inr first ↦ absurd (none_of (up_to page listing).links links_most number of (cond-false (nat_le (system_pages - 1) page) listing.links (replicate links_most None) first) at)
  ]

  suited : (page : ℕ) → page < system_pages → AreSuited held stored.root.version page
  suited page low = record {
    defined = record {
      listing = listing;
      spells = λ p few. store.system p (omega (arith, few, low));
      are = definitions_front listing page (record { listable = listable_of listing fits; few = few_live });
    };
    suit = record {
      fields = λ early number relation at. store.version.fields early number relation (front_at relations_most (relations_of_page * page) listing.relations number relation fits.relation_places at).1;
      links = λ early number of at. store.version.links early number of (link_front page number of at);
    };
  }

  -- ---- its tuples

  heap_right : (key : PageKey) (bytes : List ℕ) → IsHeapKey key → held key ≡ Some bytes → IsHeapPage listing key bytes
  heap_right key bytes heap there =
      let is = store.spells.formed key bytes heap there in
      record { segment = in_segment heap (store.spells.only key (ap is_some there)); right = record { formed = is.formed; some = is.some } }
    where
      in_segment : IsHeapKey key → IsStorePage listing key → is_some (segment_at listing key.segment) ≡ true
      in_segment heap (inr segment) = segment
      in_segment (inl home) (inl system) = let both : Home ≡ System = sym home ∙ system in absurd (cc)
      in_segment (inr overflow) (inl system) = let both : Overflow ≡ System = sym overflow ∙ system in absurd (cc)

  entry_right : (segment : ℕ) (tid : Tid) → IsEntryRight held segment (is_body listing segment) tid
  entry_right segment tid = sound_right held segment (is_body listing segment) (segment_sound segment).sound tid

  -- ---- its images and links

  paths_right : {line : Line} {place : Place} → BreaksPaths held slots listing line place → ⊥
  paths_right is = none_paths (still_at held slots listing) small store.spells store.fit store.nodes is

  -- ---- what a check reads is what it has

  module _ (laid : Laid pages) where
    laid_number : stored.number ≡ laid.number
    laid_number = (one_root store.root_there laid.there.root_there).0

    laid_root : stored.root ≡ laid.root
    laid_root = (one_root store.root_there laid.there.root_there).1

    laid_owners : stored.owners ≡ laid.owners
    laid_owners = one_map store.root_there.there.formed store.map
        (subst (λ (r : Root). IsMap r.slots pages (map_at r.slots r.area) laid.owners) (sym laid_root) laid.there.map)

    laid_held : held ≡ held_in pages laid
    laid_held = λ i. held_at (slots_at (laid_root i).slots (laid_root i).log_pages) pages (laid_owners i)

    laid_suited : (page : ℕ) → page < system_pages → AreSuited (held_in pages laid) laid.root.version page
    laid_suited page low = subst (λ (r : Root). AreSuited (held_in pages laid) r.version page) laid_root (subst (λ (h : Held). AreSuited h stored.root.version page) laid_held (suited page low))

    laid_parses : Parses (log_bytes pages laid.root) laid.root.head (as_bytes (stored.older ++ stored.newer)) laid.root.end
    laid_parses = subst (λ (r : Root). Parses (log_bytes pages r) r.head (as_bytes (stored.older ++ stored.newer)) r.end) laid_root store.log.parses

  module _ (at : Spelling pages) where
    same_listing : listing ≡ at.listing
    same_listing = same_listable held listing at.listing store.system (subst (λ (h : Held). HoldsListing h at.listing) (sym (laid_held at.laid)) at.is.spells) (listable_of listing fits) at.is.listable

    -- what holds of the store's pages and listing holds of those that are read
    moved : (P : Held → ℕ → Listing → Type 0) → P held slots listing → P (held_of pages at) at.laid.root.slots at.listing
    moved P is = subst (P (held_of pages at) at.laid.root.slots) same_listing
        (subst (λ (r : Root). P (held_of pages at) r.slots listing) (laid_root at.laid)
        (subst (λ (h : Held). P h slots listing) (laid_held at.laid) is))

    -- and the other way round
    moved_back : (P : Held → ℕ → Listing → Type 0) → P (held_of pages at) at.laid.root.slots at.listing → P held slots listing
    moved_back P is = subst (λ (h : Held). P h slots listing) (sym (laid_held at.laid))
        (subst (λ (r : Root). P (held_of pages at) r.slots listing) (sym (laid_root at.laid))
        (subst (P (held_of pages at) at.laid.root.slots) (sym same_listing) is))

    read : IsRead at stored.older stored.newer
    read = record {
      holds = record { parses = laid_parses at.laid; checkpoint = subst (λ (r : Root). ArePlaced r.head (as_bytes stored.older) r.checkpoint) (laid_root at.laid) store.log.checkpoint };
      say = λ l there. subst (λ (li : Listing). Says li l.told l.is) same_listing
          (each_of (λ (k : Logged). Says listing k.told k.is) (stored.older ++ stored.newer) store.log.logged.say l (contains_in (stored.older ++ stored.newer) l there));
    }

    -- the items of all changes that are read stand in one transaction's list each
    lone_read : (older newer : List Logged) → IsRead at older newer → LoneAlong [] (as_entries (older ++ newer))
    lone_read older newer its =
        let same = parses_once (laid_parses at.laid) its.holds.parses in
        along_twice (as_entries (stored.older ++ stored.newer)) (as_entries (older ++ newer))
        (bytes_twice at.listing (stored.older ++ stored.newer) (older ++ newer) same (say_all (stored.older ++ stored.newer) read.say) (say_all (older ++ newer) its.say))
        (subst (LoneAlong []) (sym (entries_append stored.older stored.newer)) store.log.recovers.lone)

    lone_change : (older newer front behind : List Logged) (change : Logged) → IsRead at older newer → older ++ newer ≡ front ++ change ∷ behind → Lone (changes_in (list_after [] (as_entries (front ++ change ∷ []))))
    lone_change older newer front behind change its split =
        let parts : older ++ newer ≡ (front ++ change ∷ []) ++ behind = split ∙ sym (append_assoc front (change ∷ []) behind) in
        lone_at [] (as_entries (front ++ change ∷ [])) (as_entries behind)
        (subst (LoneAlong []) (ap as_entries parts ∙ entries_append (front ++ change ∷ []) behind) (lone_read older newer its))

    over : IsOver at stored
    over = record {
      number = laid_number at.laid;
      root = laid_root at.laid;
      owners = laid_owners at.laid;
      listing = same_listing;
      saved = moved (λ h n l. SpellsTables h l tables) store.spells;
    }

    -- ---- its room

    module _ (other : Stored) (its : IsOver at other) (log : HasLog pages other) where
      roots : stored.root ≡ other.root
      roots = laid_root at.laid ∙ sym its.root

      owners : stored.owners ≡ other.owners
      owners = laid_owners at.laid ∙ sym its.owners

      listings : listing ≡ other.listing
      listings = same_listing ∙ sym its.listing

      saved : tables ≡ other.saved
      saved =
          let fit : Fits other.root.slots other.saved = first_fits other.root.slots other.saved other.saved.contents _ log.way.undo in
          spells_once store.spells (moved_back (λ h n l. SpellsTables h l other.saved) its.saved) store.fit fit few_slots
          (subst (λ (r : Root). r.slots ≤ 2 ^ 32) roots few_slots)

      records : (as_bytes stored.older ≡ as_bytes other.older) × (as_bytes stored.newer ≡ as_bytes other.newer)
      records =
          let there = subst (λ (r : Root). Parses (log_bytes pages r) r.head (as_bytes (other.older ++ other.newer)) r.end) (sym roots) log.parses in
          let placed = subst (λ (r : Root). ArePlaced r.head (as_bytes other.older) r.checkpoint) (sym roots) log.checkpoint in
          split_once stored.root.head stored.root.checkpoint (as_bytes stored.older) (as_bytes stored.newer) (as_bytes other.older) (as_bytes other.newer) store.log.checkpoint placed
          (sym (bytes_append stored.older stored.newer) ∙ parses_once store.log.parses there ∙ bytes_append other.older other.newer)

      say : AllSay listing (stored.older ++ stored.newer)
      say = recursion_from_All (λ (l : Logged). Says listing l.told l.is) (stored.older ++ stored.newer) store.log.logged.say

      say_too : AllSay listing (other.older ++ other.newer)
      say_too = recursion_from_All (λ (l : Logged). Says listing l.told l.is) (other.older ++ other.newer)
          (subst (λ (li : Listing). All (λ (l : Logged). Says li l.told l.is) (other.older ++ other.newer)) (sym listings) log.logged.say)

      older_same : bared stored.older ≡ bared other.older
      older_same = bytes_twice listing stored.older other.older records.0
          (all_front (λ (l : Logged). Says listing l.told l.is) stored.older stored.newer say) (all_front (λ (l : Logged). Says listing l.told l.is) other.older other.newer say_too)

      newer_same : bared stored.newer ≡ bared other.newer
      newer_same = bytes_twice listing stored.newer other.newer records.1
          (all_back (λ (l : Logged). Says listing l.told l.is) stored.older stored.newer say) (all_back (λ (l : Logged). Says listing l.told l.is) other.older other.newer say_too)

      meters : meter_of stored ≡ meter_of other
      meters =
          let lists = lists_twice (as_entries stored.older) (as_entries other.older) older_same in
          let surviving = long_twice (listed_at stored) (listed_at other) lists in
          let since = changes_twice stored.newer other.newer newer_same in
          λ i. record {
            heap = mapped_of (mapped_by (owners i)) Home (roots i).slots + mapped_of (mapped_by (owners i)) Overflow (roots i).slots;
            surviving = surviving i;
            since = since i;
            traffic = λ (relation : Name). record {
              entries = tuple_count (saved i).contents relation;
              surviving = of_twice relation (listed_at stored) (listed_at other) lists i;
              since = changes_of_twice relation stored.newer other.newer newer_same i;
            };
            stamps = [];
            head = (roots i).head;
            end = (roots i).end;
            over = mapped_of (mapped_by (owners i)) Overflow (roots i).slots;
          }

      roomy : other.root.slots < room_number other.saved.definitions (meter_of other) → ⊥
      roomy less =
          let numbers : room_number tables.definitions (meter_of stored) ≡ room_number other.saved.definitions (meter_of other) = λ i. room_number (saved i).definitions (meters i) in
          omega (arith, less, numbers, store.room, ap (λ (r : Root). r.slots) roots)

  -- ---- no line is broken

  none_breaks : {line : Line} {place : Place} → Breaks pages line place → ⊥
  none_breaks (layout broken) = sound_unbroken store.root_there store.map _ broken
  none_breaks (unmapped laid page low none) = none-some _ (sym none ∙ ap (λ (h : Held). h (page_key 0 System page)) (sym (laid_held laid)) ∙ store.system page low)
  none_breaks (undefined laid page low none) = none (laid_suited laid page low)
  none_breaks (heap_page at key bytes heap there none) = none (moved at (λ h n l. h key ≡ Some bytes → IsHeapPage l key bytes) (heap_right key bytes heap) there)
  none_breaks (entry at segment tid none) = none (moved at (λ h n l. IsEntryRight h segment (is_body l segment) tid) (entry_right segment tid))
  none_breaks (unled at segment page slot some none) = none (moved at (λ h n l. overflows h segment page slot ≢ Empty → IsLed (homes h segment) page slot) ((store.spells.linked segment).led page slot) some)
  none_breaks (count at number relation listed none) =
      none (moved at (λ h n l. relation_at l number ≡ Some relation → count_of number (tuples_of h relation.segment n) ≡ relation.live) (λ is. ((segment_sound relation.segment).counts number relation is refl).0) listed)
  none_breaks (image at number of relation listed none) = paths_right (moved_back at (λ h n l. BreaksPaths h n l Images (ImagePlace number)) (image_in number of relation listed none))
  none_breaks (unused at key space there none) = paths_right (moved_back at (λ h n l. BreaksPaths h n l Reached (PagePlace key)) (unused_in key space there none))
  none_breaks (link at number of listed none) = paths_right (moved_back at (λ h n l. BreaksPaths h n l Links (LinkPlace number)) (link_in number of listed none))
  none_breaks (no_record laid position front rest early placed is none) =
      let its = laid_parses laid in
      let next = next_record laid.root.head position laid.root.end front (as_bytes (stored.older ++ stored.newer)) rest placed its.placed (sym its.spells ∙ is) early in
      none next.0 next.1 next.2
  none_breaks (marks at none) = none stored.older stored.newer (read at) store.log.recovers.begins
  none_breaks (shared at older newer front behind change its split crowded) = crowded (lone_change at older newer front behind change its split)
  none_breaks (no_way at none) = none stored (over at) store.log
  none_breaks (no_room at other its log less) = roomy at other its log less

pub stores_have_none : StoresHaveNone
stores_have_none pages place store fault = none_breaks store.is fault.breaks
