-- Pages of a store that stay where they stand, with its log.
use Rattle.std.proofs.Common.{◌≡◌, ◌≢◌, ◌⊎◌, inl, inr, ⊎_elim, ℕ, ◌+◌, ◌-◌, ◌<◌, ◌≤◌, true, false, List, [], ◌++◌, length, set, Option, Some, None, refl, sym, ◌∙◌, ap, subst, arith, length-set, get_or-set_other}
use Rattle.std.specs.Prelude.{is_some, option_map}
use Rattle.std.proofs.Math.Path.{fun_ext}
use Rattle.std.proofs.Math.Nat.{mod-lt}
use Rattle.std.proofs.lemmas.Bool.{and_parts, leb-true, cond-false, false_from_ne_true}
use Rattle.rss_base.specs.DiskRule.{Disk, Pages, page, Leaves, SameOff, IsAt, IsWithin}
use Rattle.rss_base.specs.Layout.{map_pages, map_at, log_at, slots_at, selected, selected_by, root_page, device_pages, IsWellFormed}
use Rattle.rss_base.proofs.LogPages.{IsLogPage}
use Rattle.rss_base.specs.LogPages.{IsPiecePage, IsNewPiece, HasRoom}
use Rattle.rss_base.specs.LogRecords.{Parses}
use Rattle.rss_base.specs.Listings.{HoldsListing}
use Rattle.rss_base.specs.PageMap.{IsMap}
use Rattle.rss_base.specs.Paged.{Held, HasFixed}
use Rattle.rss_base.specs.StoredPages.{slot_of, mapped_by, held_at, SavesPages, HoldsPages}
use Rattle.rss_base.specs.declared.root.Root.{Root}
use Rattle.rss_base.specs.declared.key.PageKey.{PageKey}
use Rattle.rss_base.proofs.Keys.{owner_of-slot_of}
use Rattle.rss_root.specs.Roots.{IsPhase, IsSwitched}
use Rattle.rss_pagemap.proofs.Written.{area_ends}
use Rattle.rss_shadow.proofs.Owned.{slot_of-owned}
use Rattle.rss_log.proofs.LogRing.{new_off, log_same}
use Rattle.rss_buffer.specs.Slots.{is_loose, fixed_by}
use Rattle.rss_buffer.specs.Saved.{IsSaveable}
use Rattle.rss_buffer.proofs.Saves.{same_saves, holds_pages}
use Rattle.rss_buffer.proofs.Stops.{fixed_holds, saving_holds, switching_holds, other_root}
use Rattle.rss_model.specs.Meanings.{as_bytes}
use Rattle.rss_stored.specs.LogLaws.{HoldsLog}
use Rattle.rss_stored.specs.Store.{Stored, SpellsTables, held_in, AreNodesWithin, IsStore}
use Rattle.rss_stored.proofs.StorePages.{held_mapped}
use Rattle.rss_stored.proofs.Versions.{suits_any}
use Rattle.rss_store.specs.Selecting.{IsMeant}

-- ---- a store by its places and its meaning

-- what stands in the slots of a store
pub store_holds : {pages : Pages} {stored : Stored} → IsStore pages stored → HoldsPages pages stored.number stored.root stored.owners (held_in pages stored)
store_holds {pages = pages} {stored = stored} store = record {
  root_there = store.root_there;
  count = store.map.count;
  saved = record {
    map = subst (λ (n : ℕ). IsMap n pages (map_at n stored.root.area) stored.owners) (sym store.map.count) store.map;
    stand = λ slot key owned.
        ap (option_map (λ (s : ℕ). page pages (slots_at stored.root.slots stored.root.log_pages + s))) (slot_of-owned stored.owners key slot store.map.begins.distinct owned)
        ∙ ap (λ (n : ℕ). Some (page pages (slots_at n stored.root.log_pages + slot))) (sym store.map.count);
  };
}

-- what it means, wherever it stands
pub store_meant : {pages : Pages} {stored : Stored} → IsStore pages stored → IsMeant (held_in pages stored) stored
store_meant {pages = pages} {stored = stored} store = record {
  only = held_mapped (slots_at stored.root.slots stored.root.log_pages) pages stored.owners;
  system = store.system;
  spells = store.spells;
  nodes = store.nodes;
  fit = store.fit;
  log = λ others log. record {
    parses = log.parses;
    checkpoint = log.checkpoint;
    logged = store.log.logged;
    recovers = store.log.recovers;
    way = store.log.way;
    definitions = store.log.definitions;
  };
  room = store.room;
}

none_there : (o : Option (List ℕ)) → is_some o ≡ false → None ≡ o
none_there None is = refl
none_there (Some bytes) is = absurd (cc)

same_held : (f : ℕ → List ℕ) (slot : Option ℕ) (o : Option (List ℕ)) → ((s : ℕ) → slot ≡ Some s → Some (f s) ≡ o) → is_some o ≡ is_some slot → option_map f slot ≡ o
same_held f None o there is = none_there o is
same_held f (Some s) o there is = there s refl

-- what is held are the pages of the map, each of which stands in its slot
pub held_slots : {pages : Pages} {number : ℕ} {root : Root} {owners : List (Option PageKey)} {held : Held} → HoldsPages pages number root owners held → ((key : PageKey) → is_some (held key) ≡ mapped_by owners key) → held_at (slots_at root.slots root.log_pages) pages owners ≡ held
held_slots {pages = pages} {root = root} {owners = owners} {held = held} holds only = fun_ext (λ key.
    same_held (λ slot. page pages (slots_at root.slots root.log_pages + slot)) (slot_of owners key) (held key)
    (λ slot at. ap (λ (n : ℕ). Some (page pages (slots_at n root.log_pages + slot))) (sym holds.count)
    ∙ sym (holds.saved.stand slot key (owner_of-slot_of owners key slot at)))
    (only key))

-- where its pages and its log stand, there is the store
pub store_of : {pages : Pages} {stored : Stored} {held : Held} → HoldsPages pages stored.number stored.root stored.owners held → HoldsLog pages stored.root stored.older stored.newer → IsMeant held stored → IsStore pages stored
store_of {pages = pages} {stored = stored} {held = held} holds log meant =
    let same : held ≡ held_in pages stored = sym (held_slots holds meant.only) in
    record {
      root_there = holds.root_there;
      map = subst (λ (n : ℕ). IsMap n pages (map_at n stored.root.area) stored.owners) holds.count holds.saved.map;
      system = subst (λ (h : Held). HoldsListing h stored.listing) same meant.system;
      spells = subst (λ (h : Held). SpellsTables h stored.listing stored.saved) same meant.spells;
      nodes = subst (λ (h : Held). AreNodesWithin stored.root.slots h stored.listing) same meant.nodes;
      fit = meant.fit;
      log = meant.log pages log;
      room = meant.room;
      version = suits_any stored.root.version meant.spells.listed;
    }

-- ---- where the log pages lie

-- a log page is none of the selector, the roots and the map areas, and none of the data slots
abbrev pub IsLogPlace : (slots log_pages q : ℕ) → Type 0
IsLogPlace slots log_pages q = (log_at slots ≤ q) × (q < slots_at slots log_pages)

pub piece_place : (slots log_pages k count q : ℕ) → 0 < log_pages → IsPiecePage (log_at slots) log_pages k count q → IsLogPlace slots log_pages q
piece_place slots log_pages k count q some is = (omega (arith, is.is), omega (arith, is.is, mod-lt is.index some))

area_below : (slots area q : ℕ) → area < 2 → IsWithin (map_at slots area) (map_pages slots) q → q < log_at slots
area_below slots area q two within = omega (arith, within.1, area_ends slots area two)

not_loose : (first : ℕ) (owners : List (Option PageKey)) (q : ℕ) → q < first → is_loose first owners q ≡ true → ⊥
not_loose first owners q low loose = omega (arith, leb-true first q (and_parts _ _ loose).0)

-- the pages of a saved map stay while log pages are written
pub saves_logging : {log_pages area : ℕ} {before after : Pages} {owners : List (Option PageKey)} {held : Held} → area < 2 → SameOff (IsLogPlace (length owners) log_pages) before after → SavesPages log_pages area before owners held → SavesPages log_pages area after owners held
saves_logging {log_pages = log_pages} {area = area} {before = before} {after = after} {owners = owners} {held = held} two same saves =
    same_saves log_pages area owners held before after
    (λ q within. same.others q (λ place. omega (arith, place.0, area_below (length owners) area q two within)))
    (λ slot key owned. same.others (slots_at (length owners) log_pages + slot) (λ place. omega (arith, place.1)))
    saves

-- and so do those of a selected root
logging_holds : {before image : Pages} {number : ℕ} {root : Root} {owners : List (Option PageKey)} {held : Held} → HoldsPages before number root owners held → SameOff (IsLogPlace root.slots root.log_pages) before image → HoldsPages image number root owners held
logging_holds {before = before} {image = image} {number = number} {root = root} {owners = owners} {held = held} holds same =
    let formed : IsWellFormed root = holds.root_there.there.formed in
    let front : (q : ℕ) → q < 3 → page image q ≡ page before q = λ q low. same.others q (λ place. omega (arith, place.0)) in
    let selects : number ≡ selected image = holds.root_there.selects ∙ ap selected_by (sym (front 0 (omega arith))) in
    record {
      root_there = record {
        selects = selects;
        there = record {
          spelled = ap (page image) (sym selects) ∙ front number (omega (arith, holds.root_there.selects)) ∙ ap (page before) holds.root_there.selects ∙ holds.root_there.there.spelled;
          formed = formed;
        };
        size = same.size ∙ holds.root_there.size;
      };
      count = holds.count;
      saved = saves_logging formed.area (subst (λ (n : ℕ). SameOff (IsLogPlace n root.log_pages) before image) (sym holds.count) same) holds.saved;
    }

-- ---- what a stop leaves of a store

module _ {stored : Stored} where
  formed_of : {pages : Pages} → IsStore pages stored → IsWellFormed stored.root
  formed_of store = store.root_there.there.formed

  log_place : {pages : Pages} → IsStore pages stored → (q : ℕ) → IsLogPage stored.root q → IsLogPlace stored.root.slots stored.root.log_pages q
  log_place store q is = piece_place stored.root.slots stored.root.log_pages _ _ q (omega (arith, (formed_of store).log_least)) is

  -- pages that hold its pages, and whose log pages are the same
  same_store : {before image : Pages} → IsStore before stored → HoldsPages image stored.number stored.root stored.owners (held_in before stored) → ((q : ℕ) → IsLogPage stored.root q → page image q ≡ page before q) → IsStore image stored
  same_store {before = before} {image = image} store holds same = store_of holds (record {
    parses = subst (λ (bytes : List ℕ). Parses bytes stored.root.head (as_bytes (stored.older ++ stored.newer)) stored.root.end) (sym (log_same image before stored.root same)) store.log.parses;
    checkpoint = store.log.checkpoint;
  }) (store_meant store)

  -- whatever is done with pages between two calls
  pub store_fixed : {pages image : Pages} → IsStore pages stored → HasFixed (fixed_by (slots_at stored.root.slots stored.root.log_pages) stored.owners (Some pages)) image → IsStore image stored
  store_fixed {pages = pages} {image = image} store fixed =
      let first : ℕ = slots_at stored.root.slots stored.root.log_pages in
      same_store store (fixed_holds (store_holds store) fixed) (λ q log.
      let place = log_place store q log in
      fixed.pages q (page pages q) (cond-false _ _ _ (false_from_ne_true (is_loose first stored.owners q) (not_loose first stored.owners q place.1))))

  -- while pages and a map are saved
  pub store_saving : (area : ℕ) {before image : Pages} → area < 2 → area ≢ stored.root.area → IsStore before stored → SameOff (IsSaveable (slots_at stored.root.slots stored.root.log_pages) area stored.owners) before image → IsStore image stored
  store_saving area two other store saved =
      let holds = store_holds store in
      same_store store (saving_holds area holds two other saved) (λ q log.
      let place = log_place store q log in
      saved.others q (⊎_elim (not_loose (slots_at stored.root.slots stored.root.log_pages) stored.owners q place.1) (λ within. omega (arith, place.0, area_below stored.root.slots area q two (subst (λ (n : ℕ). IsWithin (map_at n area) (map_pages n) q) holds.count within)))))

  -- while pieces are written that the log will have
  pub store_growing : (end : ℕ) {before image : Pages} → HasRoom stored.root end → IsStore before stored → SameOff (IsNewPiece stored.root end) before image → IsStore image stored
  store_growing end {before = before} {image = image} room store grown =
      let formed = formed_of store in
      let some : 0 < stored.root.log_pages = omega (arith, formed.log_least) in
      same_store store
      (logging_holds (store_holds store) (record { size = grown.size; others = λ q off. grown.others q (λ new. off (piece_place stored.root.slots stored.root.log_pages _ _ q some new)) }))
      (λ q log. grown.others q (new_off stored.root end q (omega (arith, formed.head_first, formed.before_end)) room log))

-- ---- the switch

-- the store that a root is to select
pub record IsNext (pages : Pages) (root : Root) (next : Stored) (held : Held) : Type 0 where
  pub formed : IsWellFormed next.root
  pub slots : next.root.slots ≡ root.slots
  pub log_pages : next.root.log_pages ≡ root.log_pages
  pub count : length next.owners ≡ root.slots
  pub saves : SavesPages root.log_pages next.root.area pages next.owners held
  pub log : HoldsLog pages next.root next.older next.newer
  pub meant : IsMeant held next

module _ {pages : Pages} {root : Root} {next : Stored} {held : Held} (is : IsNext pages root next held) where
  next_store : {image : Pages} → HoldsPages image next.number next.root next.owners held → ((q : ℕ) → IsLogPage next.root q → page image q ≡ page pages q) → IsStore image next
  next_store {image = image} holds same = store_of holds (record {
    parses = subst (λ (bytes : List ℕ). Parses bytes next.root.head (as_bytes (next.older ++ next.newer)) next.root.end) (sym (log_same image pages next.root same)) is.log.parses;
    checkpoint = is.log.checkpoint;
  }) is.meant

  past_roots : (q : ℕ) → IsLogPage next.root q → 3 ≤ q
  past_roots q log = omega (arith, (piece_place next.root.slots next.root.log_pages _ _ q (omega (arith, is.formed.log_least)) log).0)

  moved : (other : ℕ) {image : Pages} → other < 3 → SameOff (IsAt 0) (set pages other (root_page next.root)) image → (q : ℕ) → 3 ≤ q → page image q ≡ page pages q
  moved other low same q past = same.others q (λ zero. omega (arith, zero)) ∙ get_or-set_other pages other q (root_page next.root) [] (λ at. omega (arith, at))

  -- the old store or the next one
  pub store_switching : (old : Disk) {stored : Stored} {image : Pages} → stored.root ≡ root → next.number ≡ 3 - stored.number → ((left : Pages) → Leaves old left → IsStore left stored) → IsStore pages stored
      → IsPhase old pages (3 - stored.number) (root_page next.root) image → IsStore image stored ⊎ IsStore image next
  store_switching old {stored = stored} same_root number left here (inl torn) =
      let was = left torn.before torn.was in
      inl (same_store was (other_root (store_holds was) torn.same) (λ q log. torn.same.others q (λ at. omega (arith, at, (log_place was q log).0))))
  store_switching old {stored = stored} {image = image} same_root number left here (inr same) =
      let holds = store_holds here in
      let low : 3 - stored.number < 3 = omega (arith, holds.root_there.selects) in
      ⊎_elim
      (λ held_old. inl (same_store here held_old (λ q log. moved (3 - stored.number) low same q (omega (arith, (log_place here q log).0)))))
      (λ held_next. inr (next_store (subst (λ (n : ℕ). HoldsPages image n next.root next.owners held) (sym number) held_next) (λ q log. moved (3 - stored.number) low same q (past_roots q log))))
      (switching_holds no_disk (λ l leaves. absurd leaves) holds (subst (λ (r : Root). SavesPages r.log_pages next.root.area pages next.owners held) (sym same_root) is.saves)
      (is.count ∙ ap (λ (r : Root). r.slots) (sym same_root)) (is.slots ∙ ap (λ (r : Root). r.slots) (sym same_root)) (is.log_pages ∙ ap (λ (r : Root). r.log_pages) (sym same_root)) is.formed (inr same))
    where
      no_disk : Disk
      no_disk = record { contents = None; moment = 0; images = λ t image. ⊥ }

  -- after it the next one alone
  pub store_switched : (new : Disk) {stored : Stored} → stored.root ≡ root → next.number ≡ 3 - stored.number → IsStore pages stored → IsSwitched pages (3 - stored.number) (root_page next.root) new → (image : Pages) → Leaves new image → IsStore image next
  store_switched new {stored = stored} same_root number here switched image leaves =
      let holds = store_holds here in
      let named = holds.root_there.selects in
      let rooted : Pages = set pages (3 - stored.number) (root_page next.root) in
      let only : image ≡ set rooted 0 switched.selector = switched.only image leaves in
      let slots : next.root.slots ≡ stored.root.slots = is.slots ∙ ap (λ (r : Root). r.slots) (sym same_root) in
      let log_pages : next.root.log_pages ≡ stored.root.log_pages = is.log_pages ∙ ap (λ (r : Root). r.log_pages) (sym same_root) in
      let size : length pages ≡ device_pages next.root = holds.root_there.size ∙ (λ i. slots_at (sym slots i) (sym log_pages i) + sym slots i) in
      let there : HoldsPages (set rooted 0 switched.selector) (3 - stored.number) next.root next.owners held =
      holds_pages pages (3 - stored.number) next.root switched.selector next.owners held (omega (arith, named)) (omega (arith, named)) switched.names_it is.formed (is.count ∙ sym is.slots) size
      (subst (λ (n : ℕ). SavesPages n next.root.area pages next.owners held) (sym is.log_pages) is.saves) in
      let same : SameOff (IsAt 0) rooted image = subst (SameOff (IsAt 0) rooted) (sym only) (record { size = length-set rooted 0 switched.selector; others = λ q off. get_or-set_other rooted 0 q switched.selector [] off }) in
      next_store (subst (λ (n : ℕ). HoldsPages image n next.root next.owners held) (sym number) (subst (λ (p : Pages). HoldsPages p (3 - stored.number) next.root next.owners held) (sym only) there))
      (λ q log. moved (3 - stored.number) (omega (arith, named)) same q (past_roots q log))
