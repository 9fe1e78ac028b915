-- A store that was opened can be restarted: its log is the one in memory, and there is room for each change.
use Rattle.std.proofs.Common.{◌≡◌, ℕ, ◌+◌, ◌-◌, ◌*◌, ◌%◌, ◌≤◌, Bool, true, List, [], ◌∷◌, ◌++◌, length, refl, sym, ◌∙◌, ap, subst, arith}
use Rattle.std.specs.Prelude.{count_by, drop, filter, not, ◌&&◌, Option, Some, option_map, unwrap_or}
use Rattle.std.proofs.lemmas.Bool.{and_parts}
use Rattle.std.proofs.lemmas.List.Sums.{sum_by-cons, length-filter, count_by-le-length}
use Rattle.rss_base.specs.DiskRule.{Pages}
use Rattle.rss_base.specs.Listings.{Listing, relation_at}
use Rattle.rss_base.specs.LogPages.{log_bytes}
use Rattle.rss_base.specs.LogRecords.{Parses, ArePlaced}
use Rattle.rss_base.specs.PageMap.{page_count}
use Rattle.rss_base.specs.Paged.{Held, mapped_of, mapped_pages}
use Rattle.rss_base.specs.Sizes.{piece_bytes, system_pages}
use Rattle.rss_base.specs.StoredPages.{mapped_by}
use Rattle.rss_base.specs.declared.key.Space.TheVariants.{Home, Overflow, Image}
use Rattle.rss_base.specs.declared.name.Name.{Name}
use Rattle.rss_base.specs.declared.relation.RelationEntry.{RelationEntry}
use Rattle.rss_base.proofs.Counts.{mapped_pages-owners}
use Rattle.rss_log.specs.Logs.{LogView, piece_start, bytes_from}
use Rattle.rss_tuple.specs.Directory.{homes, overflows}
use Rattle.rss_tuple.specs.Heaps.{IsHeap, AreLinked}
use Rattle.rss_model.specs.Changes.{Change}
use Rattle.rss_model.specs.Meter.{changes_of, counts_for, entries_most}
use Rattle.rss_model.specs.Records.{LogEntry, Changed, Restore, End, Abort, Checkpoint, Listed, changes_in}
use Rattle.rss_model.specs.Restart.{stays}
use Rattle.rss_model.specs.Recovers.{WayFits}
use Rattle.rss_model.specs.Meanings.{Logged, as_bytes, as_entries, is_change, is_change_of, is_redone, IsLogged}
use Rattle.rss_model.specs.Spares.{ChangeCounts, change_counts, page_counts, HasMade, listed_bound}
use Rattle.rss_stored.specs.Store.{Stored, SpellsTables, held_in, listed_at, meter_of, pages_of_space, IsStore}
use Rattle.rss_model.proofs.Counts.{one_if}
use Rattle.rss_stored.proofs.ImageRooms.{most_of, bound_rises, listed_same}
use Rattle.rss_model.proofs.LogLists.{by_test}
use Rattle.rss_model.proofs.Sparing.{number_leaves_room, spare_in_restart}
use Rattle.rss_stored.proofs.StorePages.{map_allowed, owners_split, saved_few}
use Rattle.rss_entries.specs.Rooms.{image_places}
use Rattle.rss_access.specs.Changes.{AccessView}
use Rattle.rss_restart.specs.Surveys.{redone_at}
use Rattle.rss_restart.specs.Restarting.{changes_made, redone_of, made_of, entries_with, CanRestart}
use Rattle.rss_restart.proofs.Rooming.{entries_are}
use Rattle.rss_restart.specs.Opened.{IsOpened, recovery_of, MayCall, CanRestartOpened, MayCallOpened, RestartGivesTables}

-- ---- how many changes are undone or done again

change_first : (l : Logged) (later : List Logged) → is_redone l.is l.at later ≡ true → one_if (is_change l.is) ≡ 1
change_first l later is = by l.is l.at is
  where
    by : (e : LogEntry) (at : ℕ) → is_redone e at later ≡ true → one_if (is_change e) ≡ 1
    by (Changed c) at e = refl
    by (Restore t first) at e = absurd (cc (e))
    by (End t) at e = absurd (cc (e))
    by (Abort t) at e = absurd (cc (e))
    by (Checkpoint named) at e = absurd (cc (e))

few_redone : (newer : List Logged) → length (redone_at newer) ≤ count_by (λ l. is_change l.is) newer
few_redone [] = omega arith
few_redone (l ∷ later) =
    let more = sum_by-cons (λ (m : Logged). one_if (is_change m.is)) l later in
    by_test (is_redone l.is l.at later)
    (λ e. rw e (omega (arith, few_redone later, change_first l later e, more)))
    (λ e. rw e (omega (arith, few_redone later, more)))

-- no more than survived at the checkpoint and were made since
pub few_changes : (stored : Stored) → changes_made stored.older stored.newer ≤ (meter_of stored).surviving + (meter_of stored).since
few_changes stored =
    let p : Listed → Bool = λ l. not (stays (as_entries stored.newer) l) in
    omega (arith, few_redone stored.newer, length-filter p (listed_at stored), count_by-le-length p (listed_at stored))

-- and so many of each relation's tuples
module _ (relation : Name) where
  few_redone_of : (newer : List Logged) → redone_of newer relation ≤ count_by (λ l. is_change_of relation l.is) newer
  few_redone_of [] = omega arith
  few_redone_of (l ∷ later) =
      let more = sum_by-cons (λ (m : Logged). one_if (is_change_of relation m.is)) l later in
      by_test (is_redone l.is l.at later && is_change_of relation l.is)
      (λ e. rw e (omega (arith, few_redone_of later, ap one_if (and_parts (is_redone l.is l.at later) (is_change_of relation l.is) e).1, more)))
      (λ e. rw e (omega (arith, few_redone_of later, more)))

  few_lost_of : (p : Listed → Bool) (ls : List Listed) → changes_of (changes_in (filter p ls)) relation ≤ changes_of (changes_in ls) relation
  few_lost_of p [] = omega arith
  few_lost_of p (l ∷ ls) =
      let count : Change → ℕ = λ c. one_if (counts_for c.item relation) in
      let more = sum_by-cons count l.change (changes_in ls) in
      by_test (p l)
      (λ e. rw e (omega (arith, few_lost_of p ls, more, sum_by-cons count l.change (changes_in (filter p ls)))))
      (λ e. rw e (omega (arith, few_lost_of p ls, more)))

few_made_of : (stored : Stored) (relation : Name) → made_of stored.older stored.newer relation ≤ ((meter_of stored).traffic relation).surviving + ((meter_of stored).traffic relation).since
few_made_of stored relation = omega (arith, few_redone_of relation stored.newer, few_lost_of relation (λ l. not (stays (as_entries stored.newer) l)) (listed_at stored))

-- ---- the pages of a store that was opened

module _ {pages : Pages} {stored : Stored} {at : AccessView} {log : LogView} (store : IsStore pages stored) (opened : IsOpened pages stored at log) where
  mapped_once : mapped_pages at.pages.slots at.pages.mapped ≡ page_count stored.owners
  mapped_once =
      (λ i. mapped_pages (opened.slots i) (opened.mapped i))
      ∙ mapped_pages-owners stored.root.slots stored.owners (mapped_by stored.owners) (λ slot key owned. map_allowed store.map slot key owned) store.map.begins.distinct (λ key. refl)

  abbrev counts : ChangeCounts
  counts = change_counts stored.saved.definitions (meter_of stored)

  split : page_count stored.owners ≡ pages_of_space Home stored + pages_of_space Overflow stored + pages_of_space Image stored + system_pages
  split = owners_split stored.root stored.owners pages store.map stored.listing store.system

  images_saved : (page_counts at.pages).saved_images ≡ pages_of_space Image stored
  images_saved = λ i. mapped_of (mapped_by (opened.shadow i)) Image (opened.slots i)

  images_mapped : (page_counts at.pages).images ≡ pages_of_space Image stored
  images_mapped = λ i. mapped_of (opened.mapped i) Image (opened.slots i)

  none_made : HasMade counts 0 (page_counts at.pages)
  none_made = record {
    before = omega (arith, ap page_count opened.shadow, split, images_saved);
    now = omega (arith, mapped_once, split, images_mapped);
    all = opened.counted;
  }

  abbrev made : Name → ℕ
  made = made_of stored.older stored.newer

  abbrev most : ℕ → ℕ
  most = most_of stored.listing (meter_of stored).traffic

  -- the meter allows the images of each relation so many entries
  allowed : (n : ℕ) (relation : RelationEntry) → relation_at stored.listing n ≡ Some relation → entries_with stored.listing made n ≤ most n
  allowed n relation is = omega (
    arith,
    entries_are stored.listing made n relation is,
    few_made_of stored relation.name,
    store.spells.counts n relation is,
    ap (λ (o : Option RelationEntry). unwrap_or (option_map (λ r. entries_most ((meter_of stored).traffic r.name)) o) 0) is,
  )

  images_same : counts.images ≡ listed_bound stored.listing most
  images_same = listed_same store.spells.defines store.spells.listed (meter_of stored)

  images_made : listed_bound stored.listing (entries_with stored.listing made) ≤ counts.images
  images_made = let rises = bound_rises stored.listing (entries_with stored.listing made) most allowed in omega (arith, rises, images_same)

  few_images : (page_counts at.pages).saved_images ≤ counts.images
  few_images = omega (arith, images_saved, saved_few store)

  room : 2 * changes_made stored.older stored.newer + listed_bound at.catalog.listing (entries_with at.catalog.listing made) ≤ image_places at.pages
  room =
      let enough = number_leaves_room stored.saved.definitions (meter_of stored) (page_counts at.pages) (omega (arith, store.room, opened.slots)) in
      let spare = spare_in_restart counts (page_counts at.pages) 0 (changes_made stored.older stored.newer) enough none_made few_images (omega (arith, few_changes stored)) in
      omega (arith, spare, images_made, ap (λ (l : Listing). listed_bound l (entries_with l made)) opened.listing)

  -- ---- its log

  bytes_are : bytes_from log log.head ≡ log_bytes pages stored.root
  bytes_are =
      let front : log.head - piece_start log.head ≡ stored.root.head % piece_bytes = omega (arith, opened.head) in
      λ i. drop (front i) (opened.kept i)

  parses : Parses (bytes_from log log.head) log.head (as_bytes (stored.older ++ stored.newer)) log.end
  parses = subst (λ (bytes : List ℕ). Parses bytes log.head (as_bytes (stored.older ++ stored.newer)) log.end) (sym bytes_are)
      (subst (λ (n : ℕ). Parses (log_bytes pages stored.root) n (as_bytes (stored.older ++ stored.newer)) log.end) (sym opened.head)
      (subst (λ (n : ℕ). Parses (log_bytes pages stored.root) stored.root.head (as_bytes (stored.older ++ stored.newer)) n) (sym opened.end) store.log.parses))

  means : IsLogged at.catalog.listing (listed_at stored) stored.older stored.newer
  means = subst (λ (l : Listing). IsLogged l (listed_at stored) stored.older stored.newer) (sym opened.listing) store.log.logged

  -- ---- all of it

  may_call : MayCall at log stored.root.checkpoint
  may_call =
      let formed = store.root_there.there.formed in
      record {
        low = omega (arith, opened.head, formed.head_first);
        high = omega (arith, opened.end, formed.before_end);
        heaps = λ none. record {
          formed = λ key bytes heap is. subst (IsHeap key bytes) (sym (none key)) (store.spells.formed key bytes heap (sym (ap (λ (h : Held). h key) opened.held) ∙ is));
          linked = λ segment. subst (λ (h : Held). AreLinked (homes h segment) (overflows h segment)) (sym opened.held) (store.spells.linked segment);
        };
      }

  can_restart : CanRestart at log stored.root.checkpoint (recovery_of stored)
  can_restart = record {
    spells = subst (λ (h : Held). SpellsTables h at.catalog.listing stored.saved) (sym opened.held)
        (subst (λ (l : Listing). SpellsTables (held_in pages stored) l stored.saved) (sym opened.listing) store.spells);
    records = record {
      records = parses;
      placed = subst (λ (n : ℕ). ArePlaced n (as_bytes stored.older) stored.root.checkpoint) (sym opened.head) store.log.checkpoint;
      say = means.say;
    };
    means = means;
    recovers = store.log.recovers;
    way = subst (λ (n : ℕ). WayFits n stored.saved (as_entries stored.older) (as_entries stored.newer)) (sym opened.slots) store.log.way;
    room = room;
  }

pub stores_restart : (at : AccessView) (log : LogView) → CanRestartOpened at log
stores_restart at log pages stored store opened = can_restart store opened

pub may_call_opened : (at : AccessView) (log : LogView) → MayCallOpened at log
may_call_opened at log pages stored store opened = may_call store opened

pub gives_tables : RestartGivesTables
gives_tables pages stored store = λ i. record { definitions = sym store.log.definitions i; contents = stored.tables.contents }
