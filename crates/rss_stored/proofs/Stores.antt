-- Pages are one store at most, or out of form at one place.
use Rattle.std.proofs.Common.{◌≡◌, ℕ, ◌^◌, ◌≤◌, List, ◌++◌, Option, sym, ◌∙◌, ap, subst, arith}
use Rattle.std.specs.Prelude.{count_by, is_some}
use Rattle.rss_base.specs.DiskRule.{Pages}
use Rattle.rss_base.specs.Layout.{map_at, slots_at, IsWellFormed, HasRoot, root_of}
use Rattle.rss_base.specs.LogRecords.{ArePlaced, Parses}
use Rattle.rss_base.specs.LogPages.{log_bytes}
use Rattle.rss_base.specs.PageMap.{IsMap, IsMapFault}
use Rattle.rss_base.specs.Listings.{Listing, HoldsListing}
use Rattle.rss_base.specs.Paged.{Held, mapped_of}
use Rattle.rss_base.specs.StoredPages.{mapped_by, held_at}
use Rattle.rss_base.specs.declared.key.Space.TheVariants.{Overflow}
use Rattle.rss_base.specs.declared.key.PageKey.{PageKey}
use Rattle.rss_base.specs.declared.place.Place.{Place}
use Rattle.rss_base.specs.declared.root.Root.{Root}
use Rattle.rss_record.proofs.Parsing.{parses_once, split_once}
use Rattle.rss_root.proofs.Reading.{same_root}
use Rattle.rss_root.proofs.Faults.{fault_once, root_no_fault}
use Rattle.rss_pagemap.proofs.Maps.{same_map, no_fault, one_fault}
use Rattle.rss_model.specs.Tables.{Tables}
use Rattle.rss_model.specs.Machine.{StoreSize}
use Rattle.rss_model.specs.Meanings.{as_bytes, as_entries}
use Rattle.rss_model.specs.Restart.{restarted}
use Rattle.rss_stored.specs.Store.{SpellsTables, Stored, size_of, held_in, listed_at, overflow_pages, IsStore, OpensTo, OpensOnce, IsBrokenAt, IsOverfull, at_root, at_map}
use Rattle.rss_stored.proofs.ChainsOnce.{spells_once}
use Rattle.rss_stored.proofs.ListedOnce.{listing_once}
use Rattle.rss_stored.proofs.LogOnce.{Reading, restarts_once}
use Rattle.rss_stored.proofs.LogPlaced.{bytes_append, restarts_log}
use Rattle.rss_stored.proofs.StorePages.{store_room}

-- one root is selected
pub one_root : {pages : Pages} {m n : ℕ} {a b : Root} → HasRoot pages m a → HasRoot pages n b → (m ≡ n) × (a ≡ b)
one_root {pages = pages} {a = a} {b = b} first second = (first.selects ∙ sym second.selects, same_root (root_of pages) a b first.there second.there)

-- a map area holds one map
pub one_map : {pages : Pages} {root : Root} {a b : List (Option PageKey)} → IsWellFormed root → IsMap root.slots pages (map_at root.slots root.area) a → IsMap root.slots pages (map_at root.slots root.area) b → a ≡ b
one_map formed first second = same_map formed.slots_most first second

-- ---- stores of the same pages

-- numbers of slots stay below the bound of a tuple's page
few_slots : {pages : Pages} {stored : Stored} → IsStore pages stored → stored.root.slots ≤ 2 ^ 32
few_slots store = let most = store.root_there.there.formed.slots_most in omega (arith, most)

module _ {pages : Pages} {one two : Stored} (first : IsStore pages one) (second : IsStore pages two) where
  pub same_roots : one.root ≡ two.root
  same_roots = (one_root first.root_there second.root_there).1

  pub same_owners : one.owners ≡ two.owners
  same_owners = one_map first.root_there.there.formed first.map
      (subst (λ (r : Root). IsMap r.slots pages (map_at r.slots r.area) two.owners) (sym same_roots) second.map)

  -- what the second holds is what the first does
  held_same : held_in pages two ≡ held_in pages one
  held_same = λ i. held_at (slots_at (sym same_roots i).slots (sym same_roots i).log_pages) pages (sym same_owners i)

  pub same_listing : two.listing ≡ one.listing
  same_listing = listing_once (held_in pages one) second.spells.listed first.spells.listed (subst (λ (h : Held). HoldsListing h two.listing) held_same second.system) first.system

  same_saved : one.saved ≡ two.saved
  same_saved = spells_once first.spells
      (subst (λ (l : Listing). SpellsTables (held_in pages one) l two.saved) same_listing (subst (λ (h : Held). SpellsTables h two.listing two.saved) held_same second.spells))
      first.fit second.fit (few_slots first) (few_slots second)

  -- the records are the same, and the checkpoint parts them in one way
  same_records : (as_bytes one.older ≡ as_bytes two.older) × (as_bytes one.newer ≡ as_bytes two.newer)
  same_records =
      let here = subst (λ (r : Root). Parses (log_bytes pages r) r.head (as_bytes (two.older ++ two.newer)) r.end) (sym same_roots) second.log.parses in
      let all : as_bytes (one.older ++ one.newer) ≡ as_bytes (two.older ++ two.newer) = parses_once first.log.parses here in
      let there = subst (λ (r : Root). ArePlaced r.head (as_bytes two.older) r.checkpoint) (sym same_roots) second.log.checkpoint in
      split_once one.root.head one.root.checkpoint (as_bytes one.older) (as_bytes one.newer) (as_bytes two.older) (as_bytes two.newer) first.log.checkpoint there
      (sym (bytes_append one.older one.newer) ∙ all ∙ bytes_append two.older two.newer)

  same_contents : one.tables.contents ≡ two.tables.contents
  same_contents =
      let mine : Reading one.listing one.saved.contents one.older one.newer = record { logged = first.log.logged; undoes = first.log.recovers.undoes; redoes = first.log.recovers.redoes } in
      let theirs : Reading two.listing two.saved.contents two.older two.newer = record { logged = second.log.logged; undoes = second.log.recovers.undoes; redoes = second.log.recovers.redoes } in
      let listed = subst (λ (l : Listing). Reading l two.saved.contents two.older two.newer) same_listing theirs in
      let again = subst (λ (t : Tables). Reading one.listing t.contents two.older two.newer) (sym same_saved) listed in
      sym (restarts_log first.log).gives
      ∙ restarts_once one.older two.older one.newer two.newer mine again same_records.0 same_records.1
      ∙ ap (λ (t : Tables). restarted t.contents (listed_at two) (as_entries two.newer)) same_saved
      ∙ (restarts_log second.log).gives

  -- so the same tables are recovered
  pub same_tables : one.tables ≡ two.tables
  same_tables =
      let definitions : one.tables.definitions ≡ two.tables.definitions = first.log.definitions ∙ ap (λ (t : Tables). t.definitions) same_saved ∙ sym second.log.definitions in
      λ i. record { definitions = definitions i; contents = same_contents i }

  pub same_overflow : overflow_pages one ≡ overflow_pages two
  same_overflow = ap (λ (o : List (Option PageKey)). mapped_of (mapped_by o) Overflow one.root.slots) same_owners ∙ ap (λ (r : Root). mapped_of (mapped_by two.owners) Overflow r.slots) same_roots

pub opens_once : OpensOnce
opens_once pages size other_size tables others first second = (
  second.same_size ∙ ap size_of (same_roots second.store first.store) ∙ sym first.same_size,
  second.holds ∙ same_tables second.store first.store ∙ sym first.holds,
)

-- ---- pages that are out of form

-- a map with its root is out of form nowhere
pub sound_unbroken : {pages : Pages} {number : ℕ} {root : Root} {owners : List (Option PageKey)} → HasRoot pages number root → IsMap root.slots pages (map_at root.slots root.area) owners → (place : Place) → IsBrokenAt place pages → ⊥
sound_unbroken {pages = pages} {number = number} {root = root} has map place (at_root fault) = root_no_fault pages number root place has fault
sound_unbroken {pages = pages} {root = root} has map place (at_map {root = other} there fault) =
    let roots : root ≡ other = (one_root has there).1 in
    no_fault has.there.formed.slots_most map (subst (λ (r : Root). IsMapFault r.slots pages (map_at r.slots r.area) place) (sym roots) fault)

pub store_unbroken : {pages : Pages} {size : StoreSize} {tables : Tables} → OpensTo pages size tables → (place : Place) → IsBrokenAt place pages → ⊥
store_unbroken opens place broken = sound_unbroken opens.store.root_there opens.store.map place broken

-- there is one such place at most
pub broken_once : {pages : Pages} {p q : Place} → IsBrokenAt p pages → IsBrokenAt q pages → p ≡ q
broken_once {pages = pages} {p = p} {q = q} (at_root first) (at_root second) = fault_once pages p q first second
broken_once {pages = pages} {p = p} (at_root first) (at_map {number = number} {root = root} has fault) = absurd (root_no_fault pages number root p has first)
broken_once {pages = pages} {q = q} (at_map {number = number} {root = root} has fault) (at_root second) = absurd (root_no_fault pages number root q has second)
broken_once {pages = pages} {q = q} (at_map {root = root} has first) (at_map {root = other} there second) =
    let roots : root ≡ other = (one_root has there).1 in
    one_fault has.there.formed.slots_most first (subst (λ (r : Root). IsMapFault r.slots pages (map_at r.slots r.area) q) (sym roots) second)

-- a store has room
pub not_overfull : {pages : Pages} {stored : Stored} → IsStore pages stored → IsOverfull pages → ⊥
not_overfull {pages = pages} {stored = stored} store over =
    let roots : stored.root ≡ over.root = (one_root store.root_there over.root_there).1 in
    let maps : stored.owners ≡ over.owners = one_map store.root_there.there.formed store.map (subst (λ (r : Root). IsMap r.slots pages (map_at r.slots r.area) over.owners) (sym roots) over.map) in
    omega (arith, store_room store, over.over, ap (λ (r : Root). r.slots) roots, ap (λ (o : List (Option PageKey)). count_by is_some o) maps)
