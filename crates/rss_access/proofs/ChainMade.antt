-- What is done to the pages and to the catalog where a tuple comes into a chain or goes out of it.
use Rattle.std.proofs.Common.{◌≡◌, ◌⊎◌, inl, inr, ℕ, ◌+◌, ◌-◌, ◌^◌, ◌<◌, ◌≤◌, Bool, true, false, cond, ◌==◌, List, length, get_or, refl, sym, ◌∙◌, ap, subst, arith}
use Rattle.std.specs.Prelude.{Option, Some, None, is_some, option_map, Result, Ok, Err, IsErrOf, IsErrAnd, IfErr, OnOk, OnErr, slice_set, flat_map, count_by, nat_le, map as list_map}
use Rattle.std.specs.List.{range_with_len}
use Rattle.std.proofs.Math.Logic.{∥∥₁_map}
use Rattle.std.proofs.Math.Seq.{map-set_same}
use Rattle.std.proofs.lemmas.Bool.{cases_eq, cases_lt, cond-true, leb-false, true≢false}
use Rattle.std.proofs.lemmas.List.{length-set, get_or_past, get_or-set_same, get_or-set_other, set-get_or, set-set}
use Rattle.rss_base.specs.DiskRule.{IsTold}
use Rattle.rss_base.specs.Faults.{Rises}
use Rattle.rss_base.specs.PageMap.{page_count}
use Rattle.rss_base.specs.Paged.{Mapped, Backing, page_key, mapped_in, mapped_of, mapped_pages}
use Rattle.rss_base.specs.Steps.{PagesView, PagesStep, Keys, AreCounted, no_page}
use Rattle.rss_base.specs.Listings.{Listing, ListingFits, link_at, with_link, catalog_page, padded, relation_spelled, relations_on, image_spelled, images_on, link_spelled, segment_spelled}
use Rattle.rss_base.specs.declared.change.Change as told
use Rattle.rss_base.specs.declared.change.Change.TheVariants.{Connect, Disconnect}
use Rattle.rss_base.specs.declared.fault.PageFault.{PageFault}
use Rattle.rss_base.specs.declared.fault.PageFault.TheVariants.{Device as DeviceFailed, Damaged, NoMemory}
use Rattle.rss_base.specs.declared.key.PageKey.{PageKey}
use Rattle.rss_base.specs.declared.key.Space.TheVariants.{Home, Overflow, Image, System}
use Rattle.rss_base.specs.declared.link.LinkEntry.{LinkEntry}
use Rattle.rss_base.specs.declared.place.Place.{Place}
use Rattle.rss_base.specs.declared.place.Place.TheVariants.{Link as LinkPlace}
use Rattle.rss_base.specs.declared.refusal.Kind.TheVariants.{Link as LinkKind}
use Rattle.rss_base.specs.declared.tid.Tid.{Tid}
use Rattle.rss_base.proofs.Steps.{rests, within}
use Rattle.rss_page.specs.Slotted.{IsHeapKey}
use Rattle.rss_tuple.specs.Placing.{TakesOnly}
use Rattle.rss_catalog.specs.Catalogs.{CatalogView, Lists, page_of, with_ends}
use Rattle.rss_model.specs.Chains.{chain, with_behind, without}
use Rattle.rss_model.specs.Meanings.{endless, rootless}
use Rattle.rss_model.proofs.LogLists.{some_of}
use Rattle.rss_stored.proofs.Relisted.{number_at, number_set, number_within_list}
use Rattle.rss_members.specs.declared.membership.Membership.{Membership}
use Rattle.rss_members.specs.Calls.{MembersView, MayRelink, Connects, Disconnects, NoneConnects, NoneDisconnects, Reends, Relinks, relink_cost, pages_in_link, pages_of_link}
use Rattle.rss_access.specs.Told.{IsTupleRecord, number_told}
use Rattle.rss_access.specs.Changes.{AccessView, both, members, CanAlter, HasTables, HasRoom, AltersChain, Alters, Misfits, Makes, Takes, pages_told}
use Rattle.rss_access.specs.Changes.Misfits.{chain_room, connect as connect_misfits, disconnect as disconnect_misfits}
use Rattle.rss_access.specs.Relisted.{KeepsSpelled, Rerooted, Relists}
use Rattle.rss_access.proofs.Between.{heap_no_image}
use Rattle.rss_access.proofs.ChainTables.{members_has, chain_still, fewer_of, none_taken}
use Rattle.rss_access.proofs.Counting.{mapped_same}
use Rattle.rss_access.proofs.Rerooting.{keeps_itself, rerooted_itself}

-- ---- pages of the catalog

either_same : (b : Bool) (one two other : List ℕ) → two ≡ other → cond b one two ≡ cond b one other
either_same true one two other same = refl
either_same false one two other same = same

-- no page but the last spells links
page_kept : (listing : Listing) (number : ℕ) (link : Option LinkEntry) (page : ℕ) → page < 9 → catalog_page (with_link listing number link) page ≡ catalog_page listing page
page_kept listing number link page low =
    let before : nat_le page 8 ≡ true = elim (nat_le page 8) as (λ b. nat_le page 8 ≡ b → b ≡ true) [
      | true ↦ λ e. refl
      | false ↦ λ e. absurd (omega (arith, leb-false page 8 e, low))
    ] refl in
    ap (padded 4096)
    (either_same (page == 0) (flat_map segment_spelled listing.segments) _ _
    (either_same (nat_le page 6) (flat_map relation_spelled (relations_on listing page)) _ _
    (cond-true (nat_le page 8) (flat_map image_spelled (images_on listing page)) (flat_map link_spelled (with_link listing number link).links) before
    ∙ sym (cond-true (nat_le page 8) (flat_map image_spelled (images_on listing page)) (flat_map link_spelled listing.links) before))))

-- a flag that is set leaves those that are
flag_stays : (flags : List Bool) (place page : ℕ) → get_or flags page false ≡ true → get_or (slice_set flags place true) page false ≡ true
flag_stays flags place page is = elim (cases_eq page place) [
  | inl here ↦ elim (cases_lt page (length flags)) [
    | inl low ↦ ap (λ (k : ℕ). get_or (slice_set flags place true) k false) here ∙ get_or-set_same flags place true false (omega (arith, here, low))
    | inr past ↦ absurd (true≢false (sym is ∙ get_or_past flags page false past))
  ]
  | inr other ↦ get_or-set_other flags place page true false other ∙ is
]

-- where the page of the links is to be written
flags_stay : {old new : CatalogView} {listing : Listing} → Lists listing 9 old new → (page : ℕ) → get_or old.pending page false ≡ true → get_or new.pending page false ≡ true
flags_stay {old = old} lists page is = ap (λ (l : List Bool). get_or l page false) lists.pending ∙ flag_stays old.pending 9 page is

keeps_link : {old new : CatalogView} (number : ℕ) (link : Option LinkEntry) → new.listing ≡ with_link old.listing number link → (new ≡ old) ⊎ Lists new.listing 9 old new → KeepsSpelled old new
keeps_link {old = old} number link is (inl same) = subst (KeepsSpelled old) (sym same) (keeps_itself old)
keeps_link {old = old} {new = new} number link is (inr lists) = record {
  places = ap (λ (l : List Bool). length l) lists.pending ∙ length-set old.pending 9 true;
  still = flags_stay lists;
  same = λ places page low not. elim (cases_lt page 9) [
    | inl before ↦ ap (λ (l : Listing). catalog_page l page) is ∙ page_kept old.listing number link page before
    | inr last ↦ absurd (not (written page (omega (arith, last, low)) (omega (arith, places))))
  ];
}
  where
    written : (page : ℕ) → page ≡ 9 → 9 < length old.pending → get_or new.pending page false ≡ true
    written page here place =
        ap (λ (l : List Bool). get_or l page false) lists.pending ∙ ap (λ (k : ℕ). get_or (slice_set old.pending 9 true) k false) here
        ∙ get_or-set_same old.pending 9 true false place

-- ---- the catalog

module _ {number : ℕ} {link : LinkEntry} {old new : CatalogView} (at : link_at old.listing number ≡ Some link) (ends : Reends number link old new) where
  within_links : (1 ≤ number) × (number ≤ length old.listing.links)
  within_links = number_within_list old.listing.links number link at

  its_place : get_or old.listing.links (number - 1) None ≡ Some link
  its_place = sym (number_at old.listing.links number within_links.0) ∙ at

  links_same : list_map (option_map endless) new.listing.links ≡ list_map (option_map endless) old.listing.links
  links_same = ap (λ (l : Listing). list_map (option_map endless) l.links) ends.is ∙ map-set_same (option_map endless) old.listing.links (number - 1) (Some (with_ends ends.first ends.last link)) None (ap (option_map endless) (sym its_place))

  link_now : link_at new.listing number ≡ Some (with_ends ends.first ends.last link)
  link_now = ap (λ (l : Listing). link_at l number) ends.is ∙ number_set old.listing.links number (Some (with_ends ends.first ends.last link)) within_links.0 within_links.1

  -- it is listed still
  pub link_there : is_some (link_at new.listing number) ≡ true
  link_there = ap is_some link_now

  keeps_ends : KeepsSpelled old new
  keeps_ends = keeps_link number (Some (with_ends ends.first ends.last link)) ends.is ends.lists

  pub relists_on : (parent left : Option Tid) (child : Tid) → Relists (Connect number parent child left) old new
  relists_on parent left child = record {
    segments = ap (λ (l : Listing). l.segments) ends.is;
    relations = ap (λ (l : Listing). l.relations) ends.is;
    images = ap (λ (l : Listing). list_map (option_map rootless) l.images) ends.is;
    links = links_same;
    keeps = keeps_ends;
    fits = ends.fits;
  }

  pub relists_off : (parent left : Option Tid) (child : Tid) → Relists (Disconnect number parent child left) old new
  relists_off parent left child = record {
    segments = ap (λ (l : Listing). l.segments) ends.is;
    relations = ap (λ (l : Listing). l.relations) ends.is;
    images = ap (λ (l : Listing). list_map (option_map rootless) l.images) ends.is;
    links = links_same;
    keeps = keeps_ends;
    fits = ends.fits;
  }

  -- the ends are listed again that it had
  module _ {last : CatalogView} (back : (entry : LinkEntry) → link_at new.listing number ≡ Some entry → Lists (with_link new.listing number (Some (with_ends link.first link.last entry))) 9 new last) where
    listed_back : Lists (with_link new.listing number (Some link)) 9 new last
    listed_back = back (with_ends ends.first ends.last link) link_now

    same_listing : last.listing ≡ old.listing
    same_listing = listed_back.is ∙ ap (λ (l : Listing). with_link l number (Some link)) ends.is ∙ (λ i. record old.listing { links = same_links i })
      where
        same_links : slice_set (slice_set old.listing.links (number - 1) (Some (with_ends ends.first ends.last link))) (number - 1) (Some link) ≡ old.listing.links
        same_links = set-set old.listing.links (number - 1) (Some (with_ends ends.first ends.last link)) (Some link) ∙ ap (slice_set old.listing.links (number - 1)) (sym its_place) ∙ set-get_or old.listing.links (number - 1) None

    pub back_rerooted : Rerooted old last
    back_rerooted = record {
      segments = ap (λ (l : Listing). l.segments) same_listing;
      relations = ap (λ (l : Listing). l.relations) same_listing;
      images = ap (λ (l : Listing). list_map (option_map rootless) l.images) same_listing;
      links = ap (λ (l : Listing). l.links) same_listing;
      keeps = record {
        places = ap (λ (l : List Bool). length l) listed_back.pending ∙ length-set new.pending 9 true ∙ keeps_ends.places;
        still = λ page is. flags_stay listed_back page (keeps_ends.still page is);
        same = λ places page low not. ap (λ (l : Listing). catalog_page l page) same_listing;
      };
      fits = λ fits. subst ListingFits (sym same_listing) fits;
    }

-- ---- room

split_pages : (slots : ℕ) (mapped : Mapped) → mapped_pages slots mapped ≡ mapped_of mapped Home slots + mapped_of mapped Overflow slots + mapped_of mapped Image slots + mapped_in mapped System 10 0
unfolding mapped_pages
split_pages slots mapped = refl

no_system : (key : PageKey) → IsHeapKey key → key.space ≡ System → ⊥
no_system key (inl home) system = let same : Home ≡ System = sym home ∙ system in absurd (cc)
no_system key (inr over) system = let same : Overflow ≡ System = sym over ∙ system in absurd (cc)

-- Home and overflow pages alone are touched.
module _ {touched : Keys} {asks outs : ℕ} {old new : PagesView} (heap : (key : PageKey) → touched key → IsHeapKey key) (step : PagesStep touched asks outs old new) (before : AreCounted old) (after : AreCounted new) where
  images_mapped : mapped_of new.mapped Image new.slots ≡ mapped_of old.mapped Image old.slots
  images_mapped = mapped_same old.mapped new.mapped Image new.slots (λ key image. step.mapped_off key (λ is. heap_no_image key (heap key is) image)) ∙ ap (mapped_of old.mapped Image) step.passes.slots

  system_mapped : mapped_in new.mapped System 10 0 ≡ mapped_in old.mapped System 10 0
  system_mapped = λ i. count_by (λ number. step.mapped_off (page_key 0 System number) (λ is. no_system (page_key 0 System number) (heap (page_key 0 System number) is) refl) i) (range_with_len 0 10)

  shadow_same : page_count new.backing.shadow ≡ page_count old.backing.shadow
  shadow_same = ap (λ (b : Backing). page_count b.shadow) step.passes.backing

  -- where two fewer are spare at most, two more are mapped at most
  pub takes_two : old.spare ≤ new.spare + 2 → Takes 2 old new
  takes_two spare = record {
    heap = omega (arith, spare, before, after, split_pages old.slots old.mapped, split_pages new.slots new.mapped, images_mapped, system_mapped, shadow_same, step.passes.slots);
    places = omega (arith, spare, images_mapped);
  }

  -- where none was taken, no fewer are spare
  pub spare_kept : TakesOnly no_page old new → old.spare ≤ new.spare
  spare_kept takes =
      let home = fewer_of old.mapped new.mapped Home new.slots (λ key is. none_taken takes key) in
      let over = fewer_of old.mapped new.mapped Overflow new.slots (λ key is. none_taken takes key) in
      let home_slots : mapped_of old.mapped Home new.slots ≡ mapped_of old.mapped Home old.slots = ap (mapped_of old.mapped Home) step.passes.slots in
      let over_slots : mapped_of old.mapped Overflow new.slots ≡ mapped_of old.mapped Overflow old.slots = ap (mapped_of old.mapped Overflow) step.passes.slots in
      omega (arith, home, over, home_slots, over_slots, before, after, split_pages old.slots old.mapped, split_pages new.slots new.mapped, images_mapped, system_mapped, shadow_same, step.passes.slots)

-- ---- the call below

pub may_relink : (at : AccessView) → at.pages.slots < 2 ^ 32 → CanAlter at → MayRelink (members at)
may_relink at small can = record {
  heaps = can.heaps;
  knows = λ told. ∥∥₁_map (can.tables told) (λ has. (has.tables, members_has at small has));
}

heap_pages : (listing : Listing) (number : ℕ) (link : Option LinkEntry) (key : PageKey) → pages_in_link listing number link key → IsHeapKey key
heap_pages listing number None key is = absurd is
heap_pages listing number (Some link) key is = is.1.1

pub heap_touched : (listing : Listing) (number : ℕ) (key : PageKey) → pages_of_link listing number key → IsHeapKey key
heap_touched listing number key is = heap_pages listing number (link_at listing number) key is

-- the link is listed, where the call succeeded
pub listed_link_of : {T : Type 0} {number : ℕ} {old new : MembersView} {value : T} → Relinks number old new (Ok value) → (link : LinkEntry) × (link_at old.catalog.listing number ≡ Some link)
listed_link_of {number = number} {old = old} relinks = some_of (link_at old.catalog.listing number) relinks.listed

module _ {T : Type 0} {old new : AccessView} {value : T} {number : ℕ} (small : old.pages.slots < 2 ^ 32) (room : HasRoom old 0) (relinks : Relinks number (members old) (members new) (Ok value)) where
  pub alters_chain : {result : MembersView → MembersView → Type 0} → result (members old) (members new) → AltersChain result number old new
  alters_chain chains = let listed = listed_link_of relinks in record {
    link = listed.0;
    listed = listed.1;
    small = small;
    room = room;
    takes = relinks.takes;
    heaps = relinks.did.heaps;
    ends = relinks.lists listed.0 listed.1;
    chains = chains;
  }

-- ---- how it ends

module _ {T : Type 0} {change : told.Change} {old new : AccessView} where
  fails_at : (fault : PageFault) → PagesStep (pages_told old.catalog.listing change) (relink_cost old.pages.slots) (relink_cost old.pages.slots) old.pages new.pages → new.catalog ≡ old.catalog
      → (IsErrOf {T = T} (Err fault) DeviceFailed → Rises old.pages.faults new.pages.faults) → (IsErrOf {T = T} (Err fault) NoMemory → ⊥)
      → ((place : Place) → ◌≡◌ {A = Result T PageFault} (Err fault) (Err (Damaged place)) → IsTold old.pages.disk → HasTables old → Misfits change old place)
      → ((place : Place) → ◌≡◌ {A = Result T PageFault} (Err fault) (Err (Damaged place)) → IsTold old.pages.disk → PagesStep no_page 16 16 old.pages new.pages) → Makes {T = T} change old new (Err fault)
  fails_at fault step same failed memory misfits kept = record {
    alters = tt;
    still = tt;
    takes = tt;
    relists = tt;
    step = within (λ key is. is) (omega arith) (omega arith) step;
    rerooted = subst (Rerooted old.catalog) (sym same) (rerooted_itself old.catalog);
    failed = failed;
    memory = memory;
    damaged = misfits;
    kept = kept;
  }

  -- the call below failed
  pub chain_fails : (fault : PageFault) (result : Result T PageFault) → IsErrAnd result (λ why. why ≡ fault) → PagesStep (pages_told old.catalog.listing change) (relink_cost old.pages.slots) (relink_cost old.pages.slots) old.pages new.pages → new.catalog ≡ old.catalog
      → (IsErrOf {T = T} (Err fault) DeviceFailed → Rises old.pages.faults new.pages.faults) → (IsErrOf {T = T} (Err fault) NoMemory → ⊥)
      → ((place : Place) → ◌≡◌ {A = Result T PageFault} (Err fault) (Err (Damaged place)) → IsTold old.pages.disk → HasTables old → Misfits change old place)
      → ((place : Place) → ◌≡◌ {A = Result T PageFault} (Err fault) (Err (Damaged place)) → IsTold old.pages.disk → PagesStep no_page 16 16 old.pages new.pages) → Makes {T = T} change old new result
  chain_fails fault (Ok value) is step same failed memory misfits kept = absurd is
  chain_fails fault (Err e) is step same failed memory misfits kept = subst (λ (f : PageFault). Makes {T = T} change old new (Err f)) (sym is) (fails_at fault step same failed memory misfits kept)

-- there is no room for it, which is seen before anything is done
pub no_room_fails : {T : Type 0} {change : told.Change} {at : AccessView} (fault : PageFault) (result : Result T PageFault) → IsErrAnd result (λ why. why ≡ fault) → fault ≡ Damaged (LinkPlace (number_told change)) → (IsTupleRecord change → ⊥) → (IsTold at.pages.disk → HasTables at → HasRoom at 0 → ⊥) → Makes {T = T} change at at result
no_room_fails {T = T} {change = change} {at = at} fault result is full chain none =
    chain_fails fault result is (rests at.pages) refl (λ failed. absurd (other full failed)) (λ out. no_memory full out)
    (λ place damaged told has. subst (Misfits change at) (there full damaged) (chain_room chain (none told has)))
    (λ place damaged told. rests at.pages)
  where
    other : fault ≡ Damaged (LinkPlace (number_told change)) → IsErrOf {T = T} (Err fault) DeviceFailed → ⊥
    other full is = cc (full, is)

    no_memory : fault ≡ Damaged (LinkPlace (number_told change)) → IsErrOf {T = T} (Err fault) NoMemory → ⊥
    no_memory full is = cc (full, is)

    there : {place : Place} → fault ≡ Damaged (LinkPlace (number_told change)) → ◌≡◌ {A = Result T PageFault} (Err fault) (Err (Damaged place)) → LinkPlace (number_told change) ≡ place
    there full is = cc (full, is)

-- what was done, once it is seen how many pages were taken
module _ {T : Type 0} {change : told.Change} {first put : PagesView} {before between after : CatalogView} {spare : ℕ} (place : Place) (result : Result T PageFault)
    (step : PagesStep (pages_told before.listing change) (relink_cost first.slots) (relink_cost first.slots) first put) (alters : Alters change (both first before) (both put between)) (still : CanAlter (both put between)) (relists : Relists change before between) where
  pub chain_ends : (spare ≤ put.spare + 2 → Takes 2 first put) → (IsTold first.disk → spare ≤ put.spare + 2) → OnOk result (spare ≤ put.spare + 2) → OnOk result (after ≡ between) → IfErr result (λ fault. (fault ≡ Damaged place) × (put.spare + 2 < spare)) → OnErr result (Rerooted before after) → Makes {T = T} change (both first before) (both put after) result
  chain_ends takes kept room same taken back = by result room same taken back
    where
      by : (r : Result T PageFault) → OnOk r (spare ≤ put.spare + 2) → OnOk r (after ≡ between) → IfErr r (λ fault. (fault ≡ Damaged place) × (put.spare + 2 < spare)) → OnErr r (Rerooted before after) → Makes {T = T} change (both first before) (both put after) r
      by (Ok value) room same taken back = subst (λ (c : CatalogView). Makes {T = T} change (both first before) (both put c) (Ok value)) (sym same) (record {
        alters = alters;
        still = still;
        takes = takes room;
        relists = relists;
        step = within (λ key is. is) (omega arith) (omega arith) step;
        rerooted = tt;
        failed = λ is. absurd (cc);
        memory = λ is. absurd (cc);
        damaged = λ place is told. absurd (cc);
        kept = λ place is told. absurd (cc);
      })
      by (Err fault) room same taken back = record {
        alters = tt;
        still = tt;
        takes = tt;
        relists = tt;
        step = within (λ key is. is) (omega arith) (omega arith) step;
        rerooted = back;
        failed = λ is. absurd (other taken.0 is);
        memory = λ is. absurd (no_memory taken.0 is);
        damaged = λ at is told. absurd (omega (arith, kept told, taken.1));
        kept = λ at is told. absurd (omega (arith, kept told, taken.1));
      }
        where
          other : fault ≡ Damaged place → IsErrOf {T = T} (Err fault) DeviceFailed → ⊥
          other damaged is = cc (damaged, is)

          no_memory : fault ≡ Damaged place → IsErrOf {T = T} (Err fault) NoMemory → ⊥
          no_memory damaged is = cc (damaged, is)

-- ---- tables that the pages have then

module _ {cost : ℕ} {old new : AccessView} (membership : Membership) (step : PagesStep (pages_of_link old.catalog.listing membership.link) cost cost old.pages new.pages) (can : CanAlter old) where
  pub still_on : AltersChain (λ was now. Connects was now membership) membership.link old new → CanAlter new
  still_on alters = record {
    heaps = λ told. alters.heaps (step.passes.leaves.told.1 told);
    tables = λ told. let on = step.passes.leaves.told.1 told in
        ∥∥₁_map (can.tables on) (λ has. let connected = alters.chains on has.tables (members_has old alters.small has) in
        chain_still step alters on has connected.can.link.name membership.parent (with_behind membership.left membership.child (chain has.tables.contents connected.can.link.name membership.parent)) connected.spells);
  }

  pub still_off : AltersChain (λ was now. Disconnects was now membership) membership.link old new → CanAlter new
  still_off alters = record {
    heaps = λ told. alters.heaps (step.passes.leaves.told.1 told);
    tables = λ told. let on = step.passes.leaves.told.1 told in
        ∥∥₁_map (can.tables on) (λ has. let gone = alters.chains on has.tables (members_has old alters.small has) in
        chain_still step alters on has gone.can.link.name membership.parent (without membership.child (chain has.tables.contents gone.can.link.name membership.parent)) gone.spells);
  }

-- ---- where it can't be made

pub connect_misfits_at : {at : AccessView} {place : Place} (membership : Membership) → at.pages.slots < 2 ^ 32 → NoneConnects (members at) membership → Misfits (Connect membership.link membership.parent membership.child membership.left) at place
connect_misfits_at membership small none = connect_misfits refl small none

pub disconnect_misfits_at : {at : AccessView} {place : Place} (membership : Membership) → at.pages.slots < 2 ^ 32 → NoneDisconnects (members at) membership → Misfits (Disconnect membership.link membership.parent membership.child membership.left) at place
disconnect_misfits_at membership small none = disconnect_misfits refl small none

-- ---- where pages were taken

-- the ends are listed again that the link had
pub ends_back : {T : Type 0} {number : ℕ} {link : LinkEntry} {first last : Option Tid} (old between after : CatalogView) (result : Result T PageFault) → link_at old.listing number ≡ Some link → Reends number link old between → (first ≡ link.first) × (last ≡ link.last)
    → OnErr result ((entry : LinkEntry) → link_at between.listing number ≡ Some entry → Lists (with_link between.listing number (Some (with_ends first last entry))) (page_of LinkKind number) between after) → OnErr result (Rerooted old after)
ends_back old between after (Ok value) at ends same back = tt
ends_back {number = number} old between after (Err fault) at ends same back = back_rerooted at ends (λ entry now. subst (λ (e : LinkEntry). Lists (with_link between.listing number (Some e)) 9 between after) (λ i. with_ends (same.0 i) (same.1 i) entry) (back entry now))
