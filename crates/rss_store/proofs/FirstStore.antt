-- What an empty store opens to.
use Rattle.std.proofs.Common.{◌≡◌, inl, inr, ℕ, zero, suc, ◌+◌, ◌-◌, ◌*◌, ◌≤◌, true, cond, List, [], ◌∷◌, ◌++◌, length, get_or, take, drop, replicate, Option, Some, None, option_map, refl, sym, ◌∙◌, ap, arith, length-take}
use Rattle.std.specs.Prelude.{nat_le, is_some, sum_by, flat_map, map as list_map, ◌==◌}
use Rattle.std.specs.List.{range_with_len}
use Rattle.std.specs.FinMap.{get-empty}
use Rattle.std.proofs.lemmas.Bool.{cases_lt, cond-true, cond-false, ne_eqb, le-leb, true≢false}
use Rattle.std.proofs.lemmas.List.{length-replicate, replicate-append-replicate}
use Rattle.std.proofs.lemmas.Option.{none-some}
use Rattle.std.proofs.lemmas.List.Sums.{sum_by-append}
use Rattle.std.proofs.lemmas.List.Folds.{sum_by-replicate}
use Rattle.rss_base.specs.declared.name.Name.{Name}
use Rattle.rss_base.specs.declared.tid.Tid.{Tid}
use Rattle.rss_base.specs.declared.item.Item.{Item}
use Rattle.rss_base.specs.declared.relation.RelationEntry.{RelationEntry}
use Rattle.rss_base.specs.declared.link.LinkEntry.{LinkEntry}
use Rattle.rss_base.specs.declared.key.Space.TheVariants.{Home, Overflow, Image, System}
use Rattle.rss_base.specs.declared.key.PageKey.{PageKey}
use Rattle.rss_base.specs.DiskRule.{Pages, page as page_at}
use Rattle.rss_base.specs.Layout.{slots_at}
use Rattle.rss_base.specs.Listings.{ListingFits, IsPlain, HoldsListing, numbered, segment_at, relation_at, link_at, no_listing, padded, segment_spelled, relation_spelled, catalog_page}
use Rattle.rss_base.specs.PageMap.{page_count}
use Rattle.rss_base.specs.Paged.{Held, page_key}
use Rattle.rss_base.specs.Sizes.{format_version, zero_page}
use Rattle.rss_base.specs.StoredPages.{mapped_by, held_at}
use Rattle.rss_shadow.specs.Maps.{HasPage}
use Rattle.rss_shadow.proofs.Owned.{slot_of-owned, HasPage-mapped}
use Rattle.rss_page.specs.Content.{Content as Entry, Empty}
use Rattle.rss_page.specs.Slotted.{IsHeapKey}
use Rattle.rss_tuple.specs.Directory.{homes, overflows, body_by, bodies_of}
use Rattle.rss_tuple.specs.Heaps.{AreLinked}
use Rattle.rss_model.specs.Items.{item_cmp}
use Rattle.rss_model.specs.Tables.{content, no_tables}
use Rattle.rss_stored.specs.Store.{SpellsTables, OpensTo}
use Rattle.rss_catalog.proofs.Plain.{plain_paths, zeros_past}
use Rattle.rss_stored.proofs.FirstLog.{first_stored as stored, first_log}
use Rattle.rss_model.proofs.Fitting.{no_tables_fit}
use Rattle.rss_stored.proofs.PlainStores.{plain_images, plain_nodes}
use Rattle.rss_stored.proofs.Listed.{at_place}
use Rattle.rss_check.proofs.Empties.{entry_none, linked_none}
use Rattle.rss_check.proofs.Looked.{times, times_most}
use Rattle.rss_check.proofs.Made.{listing_defines}
use Rattle.rss_check.proofs.Rows.{Each, each_drop, each_take}
use Rattle.rss_store.specs.Formatted.{first_root, first_owners, IsFormatted}
use Rattle.rss_store.proofs.FirstOwners.{owner_first, owner_is}
use Rattle.rss_stored.proofs.StorePages.{held_mapped, owners_split, first_room}
use Rattle.rss_stored.proofs.Versions.{suits_any}

-- ---- its pages

-- ten of its slots have a page
pub ten_pages : (slots : ℕ) → page_count (first_owners slots) ≡ 10
ten_pages slots =
    let one : Option PageKey → ℕ = λ owner. cond (is_some owner) 1 0 in
    let front : List (Option PageKey) = list_map (λ number. Some (page_key 0 System number)) (range_with_len 0 10) in
    let free : List (Option PageKey) = replicate (slots - 10) None in
    let ten : sum_by one front ≡ 10 = refl in
    let none : sum_by one free ≡ (slots - 10) * 0 = sum_by-replicate one (slots - 10) None in
    omega (arith, sum_by-append one front free, ten, none)

-- they are all of the system space
first_page : (slots : ℕ) (key : PageKey) → mapped_by (first_owners slots) key ≡ true → key.space ≡ System
first_page slots key is =
    let has : HasPage (first_owners slots) key = HasPage-mapped (first_owners slots) key is in
    ap (λ (k : PageKey). k.space) (owner_is slots 10 has.slot key has.owned).page

not_system : (key : PageKey) → IsHeapKey key → key.space ≡ System → ⊥
not_system key (inl home) system = let both : Home ≡ System = sym home ∙ system in cc
not_system key (inr overflow) system = let both : Overflow ≡ System = sym overflow ∙ system in cc

none_by : (o : Option (List ℕ)) → (is_some o ≡ true → ⊥) → o ≡ None
none_by None lacks = refl
none_by (Some bytes) lacks = absurd (lacks refl)

-- no home or overflow page is held
none_held : (slots first : ℕ) (pages : Pages) (key : PageKey) → IsHeapKey key → held_at first pages (first_owners slots) key ≡ None
none_held slots first pages key is = none_by (held_at first pages (first_owners slots) key)
    (λ there. not_system key is (first_page slots key (sym (held_mapped first pages (first_owners slots) key) ∙ there)))

-- ---- no tuples

module _ (held : Held) (none : (key : PageKey) → IsHeapKey key → held key ≡ None) where
  home_empty : (segment page slot : ℕ) → homes held segment page slot ≡ Empty
  home_empty segment page slot = entry_none held segment Home page slot (none (page_key segment Home page) (inl refl))

  none_linked : (segment : ℕ) → AreLinked (homes held segment) (overflows held segment)
  none_linked segment = linked_none (homes held segment) (overflows held segment) (home_empty segment)
      (λ page slot. entry_none held segment Overflow page slot (none (page_key segment Overflow page) (inr refl)))

  no_body : (segment : ℕ) (tid : Tid) → bodies_of held segment tid ≡ None
  no_body segment tid = ap (λ (e : Entry). body_by (overflows held segment) e) (home_empty segment tid.page tid.slot)

absent : (item : Item) → content no_tables.contents item ≡ None
absent item = get-empty item_cmp item

-- ---- nothing is listed

-- no place of a list has anything
none_at : {A : Type 0} (n k : ℕ) → get_or (replicate {A = Option A} n None) k None ≡ None
none_at zero k = refl
none_at (suc n) zero = refl
none_at (suc n) (suc k) = none_at n k

none_numbered : {A : Type 0} (n number : ℕ) → numbered {A = A} (replicate n None) number ≡ None
none_numbered n zero = refl
none_numbered n (suc k) = at_place (replicate n None) k ∙ none_at n k

no_relation : (number : ℕ) (relation : RelationEntry) → relation_at no_listing number ≡ Some relation → ⊥
no_relation number relation is = none-some relation (sym (none_numbered 48 number) ∙ is)

no_segment : (number : ℕ) (name : Name) → segment_at no_listing number ≡ Some name → ⊥
no_segment number name is = none-some name (sym (none_numbered 8 number) ∙ is)

no_link : (number : ℕ) (link : LinkEntry) → link_at no_listing number ≡ Some link → ⊥
no_link number link is = none-some link (sym (none_numbered 64 number) ∙ is)

no_listing_plain : IsPlain no_listing
no_listing_plain = record { no_images = refl; no_links = refl }

no_listing_fits : ListingFits no_listing
no_listing_fits = record {
  segment_places = refl;
  relation_places = refl;
  segment_names = λ number name is. absurd (no_segment number name is);
  segments_once = λ one other name is too. absurd (no_segment one name is);
  relations_once = λ one other name is too. absurd (none-some name (sym (none_numbered {A = Name} 48 one) ∙ is));
  relations = λ number relation is. absurd (no_relation number relation is);
  paths = plain_paths no_listing no_listing_plain;
}

-- ---- its pages of the catalog are zeros

all_none : (A : Type 0) (n : ℕ) → Each (λ (o : Option A). o ≡ None) (replicate n None)
all_none A zero = tt
all_none A (suc n) = (refl, all_none A n)

zeros_join : (m n : ℕ) → replicate m 0 ++ replicate n 0 ≡ replicate {A = ℕ} (n + m) 0
zeros_join m n = replicate-append-replicate m n 0 ∙ ap (λ (k : ℕ). replicate {A = ℕ} k 0) (omega arith)

zeros_padded : (count k : ℕ) → k ≤ count → padded count (replicate k 0) ≡ replicate count 0
zeros_padded count k low =
    let long : length (replicate {A = ℕ} k 0) ≡ k = length-replicate k 0 in
    zeros_join k (count - length (replicate {A = ℕ} k 0)) ∙ ap (λ (n : ℕ). replicate {A = ℕ} n 0) (omega (arith, long, low))

-- nothing is spelled by zeros
zeros_spelled : {A : Type 0} (spelled : Option A → List ℕ) (width : ℕ) → spelled None ≡ replicate width 0 → (items : List (Option A)) → Each (λ (o : Option A). o ≡ None) items → flat_map spelled items ≡ replicate (times (length items) width) 0
zeros_spelled spelled width none [] each = refl
zeros_spelled spelled width none (item ∷ items) each =
    (λ i. (ap spelled each.0 ∙ none) i ++ zeros_spelled spelled width none items each.1 i)
    ∙ zeros_join width (times (length items) width)

zeros_page : (page : ℕ) → catalog_page no_listing page ≡ zero_page
zeros_page zero = ap (padded 4096) (zeros_spelled segment_spelled 16 refl (replicate 8 None) (all_none Name 8)) ∙ zeros_padded 4096 128 (omega arith)
zeros_page (suc page) = elim (cases_lt 6 (suc page)) [
  | inl past ↦ zeros_past no_listing no_listing_plain (suc page) past
  | inr low ↦
      let on : List (Option RelationEntry) = take 8 (drop (8 * (suc page - 1)) (replicate 48 None)) in
      let few : length on ≤ 8 = omega (arith, length-take 8 (drop (8 * (suc page - 1)) (replicate {A = Option RelationEntry} 48 None))) in
      let most = times_most (length on) (8 - length on) 512 in
      let eight : (8 - length on) + length on ≡ 8 = omega arith in
      ap (padded 4096) (cond-false (suc page == 0) (flat_map segment_spelled no_listing.segments) _ (ne_eqb (suc page) 0 (λ e. absurd (omega (arith, e))))
      ∙ cond-true (nat_le (suc page) 6) (flat_map relation_spelled on) _ (le-leb (suc page) 6 (omega (arith, low)))
      ∙ zeros_spelled relation_spelled 512 refl on (each_take _ 8 _ (each_drop _ (8 * (suc page - 1)) (replicate 48 None) (all_none RelationEntry 48))))
      ∙ zeros_padded 4096 (times (length on) 512) (omega (arith, most, ap (λ (m : ℕ). times m 512) eight))
]

-- ---- it spells no tables

spells_none : (slots log_pages : ℕ) (pages : Pages) → IsFormatted slots log_pages pages → SpellsTables (held_at (slots_at slots log_pages) pages (first_owners slots)) no_listing no_tables
spells_none slots log_pages pages made =
    let first = slots_at slots log_pages in
    let held : Held = held_at first pages (first_owners slots) in
    let none = none_held slots first pages in
    record {
      only = λ key is. inl (first_page slots key (sym (held_mapped first pages (first_owners slots) key) ∙ is));
      formed = λ key bytes is there. absurd (none-some bytes (sym (none key is) ∙ there));
      linked = none_linked held none;
      listed = no_listing_fits;
      defines = listing_defines no_listing_fits;
      counts = λ number relation at. absurd (no_relation number relation at);
      contents = record {
        stands = λ number relation tid values at is. absurd (no_relation number relation at);
        bodies_are = λ segment tid body is. absurd (none-some body (sym (no_body held none segment tid) ∙ is));
        only = λ item there. absurd (true≢false (sym there ∙ ap is_some (absent item)));
        ends = λ number link at. absurd (no_link number link at);
      };
      images = plain_images no_listing_plain (λ key image there.
          let both : Image ≡ System = sym image ∙ first_page slots key (sym (held_mapped first pages (first_owners slots) key) ∙ there) in
          absurd (cc));
    }

holds_none : (slots log_pages : ℕ) (pages : Pages) → IsFormatted slots log_pages pages → HoldsListing (held_at (slots_at slots log_pages) pages (first_owners slots)) no_listing
holds_none slots log_pages pages made page low =
    ap (option_map (λ (slot : ℕ). page_at pages (slots_at slots log_pages + slot))) (slot_of-owned (first_owners slots) (page_key 0 System page) page made.map.begins.distinct (owner_first slots 10 page low))
    ∙ ap Some (made.system page low ∙ sym (zeros_page page))

-- ---- the store

pub opens_empty : (slots log_pages : ℕ) (pages : Pages) → IsFormatted slots log_pages pages → OpensTo pages (record { slots = slots; log_pages = log_pages }) no_tables
opens_empty slots log_pages pages made =
    let is = stored 1 (first_root slots log_pages) (first_owners slots) no_listing no_tables in
    let system = holds_none slots log_pages pages made in
    let spells = spells_none slots log_pages pages made in
    let twice : 2 * page_count (first_owners slots) ≤ slots = omega (arith, ten_pages slots, made.root_there.there.formed.slots_least) in
    record {
      stored = is;
      store = record {
        root_there = made.root_there;
        log = first_log pages 1 (first_root slots log_pages) (first_owners slots) no_listing no_tables (record { head = refl; checkpoint = refl; end = refl; tail = refl }) (no_tables_fit slots);
        map = made.map;
        room = first_room is refl refl refl twice (omega (arith, owners_split (first_root slots log_pages) (first_owners slots) pages made.map no_listing system));
        system = system;
        spells = spells;
        nodes = plain_nodes slots no_listing_plain;
        fit = no_tables_fit slots;
        version = suits_any format_version no_listing_fits;
      };
      same_size = refl;
      holds = refl;
    }
