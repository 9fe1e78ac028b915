-- A store whose definitions are listed: what it defines, by the numbers, and which pages it has.
use Rattle.std.proofs.Common.{◌≡◌, ◌≢◌, ◌⊎◌, inl, inr, ℕ, zero, suc, ◌+◌, ◌-◌, ◌<◌, true, false, List, [], ◌∷◌, length, get_or, refl, sym, ◌∙◌, ap, arith}
use Rattle.std.specs.Prelude.{Option, Some, None, is_some, option_map, option_and_then, slice_get, sum_by, map as list_map, ◌==◌, unwrap_or}
use Rattle.std.specs.FinMap as map
use Rattle.std.specs.FinMap.{FinMap, get-empty, same_map}
use Rattle.std.specs.List.{range_with_len}
use Rattle.std.proofs.lemmas.Bool.{cond-false, ne_eqb, cases_lt, true≢false, true_from_ne_false, false_from_ne_true}
use Rattle.std.proofs.lemmas.List.{get_or_past}
use Rattle.std.proofs.lemmas.List.Sums.{sum_by-cons}
use Rattle.std.proofs.lemmas.Option.{none-some, same_Some}
use Rattle.rss_base.specs.Paged.{Mapped, Held, page_key, mapped_in, mapped_of}
use Rattle.rss_base.specs.Listings.{Listing, ListingFits, numbered, segment_at, relation_at}
use Rattle.rss_base.specs.declared.key.PageKey.{PageKey}
use Rattle.rss_base.specs.declared.key.Space.TheVariants.{Home}
use Rattle.rss_base.specs.declared.name.Name.{Name}
use Rattle.rss_base.specs.declared.tid.Tid.{Tid}
use Rattle.rss_base.specs.declared.item.Item.TheVariants.{Tuple, Chain}
use Rattle.rss_base.specs.declared.relation.RelationEntry.{RelationEntry}
use Rattle.rss_page.specs.Content.{Content as Entry, Empty, Here, Forward}
use Rattle.rss_page.specs.Slotted.{entries}
use Rattle.rss_page.specs.Surveyed.{held_at}
use Rattle.rss_page.proofs.Contents.{length-entries}
use Rattle.rss_tuple.specs.Directory.{Entries, contents_in, homes, overflows, body_in, body_by, bodies_of}
use Rattle.rss_tuple.specs.Heaps.{AreLinked}
use Rattle.rss_model.specs.Items.{Values, name_cmp}
use Rattle.rss_model.specs.Tables.{RelationDef, Definitions, Tables, content, segment_of, fields_of}
use Rattle.rss_model.specs.Fits.{Fits}
use Rattle.rss_model.specs.Meter.{is_heap_page, heap_pages}
use Rattle.rss_stored.specs.Store.{Defines, IsListed, SpellsTables, IsTupleItem, IsChainItem, body_of, fields_at}
use Rattle.rss_model.proofs.Codes.{name_total, name_apart}
use Rattle.rss_model.proofs.Heap.{count_same, count_none, no_entries}
use Rattle.rss_model.proofs.HeapPages.{same_bool, has_tuples_at, has_tuples_of, heap_page_of, heap_page_at, pages_in}
use Rattle.rss_model.proofs.MapSums.{removed_sum}
use Rattle.rss_model.proofs.Named.{gone, gone_other}
use Rattle.rss_model.proofs.LogLists.{some_of}
use Rattle.rss_model.proofs.Putting.{same_parts}
use Rattle.rss_base.specs.TupleTypes.{kinds}
use Rattle.rss_model.specs.EngineLogs.{HaveFields}

-- ---- numbers and places

-- what has the number one more than this place
pub at_place : {A : Type 0} (items : List (Option A)) (k : ℕ) → numbered items (suc k) ≡ get_or items k None
at_place items k = cond-false (suc k == 0) None _ (ne_eqb (suc k) 0 (λ e. absurd (omega (arith, e)))) ∙ ap (λ (j : ℕ). option_and_then (λ item. item) (slice_get items j)) (less k) ∙ got items k
  where
    less : (k : ℕ) → suc k - 1 ≡ k
    less k = omega arith

    got : {A : Type 0} (items : List (Option A)) (k : ℕ) → option_and_then (λ item. item) (slice_get items k) ≡ get_or items k None
    got [] k = refl
    got (item ∷ items) zero = refl
    got (item ∷ items) (suc k) = got items k

-- ---- entries and bodies

-- an entry of a home page that leads to no body is empty
pub empty_entry : (home overflow : Entries) → AreLinked home overflow → (page slot : ℕ) → body_by overflow (home page slot) ≡ None → home page slot ≡ Empty
empty_entry home overflow linked page slot none = by (home page slot) refl none
  where
    by : (entry : Entry) → home page slot ≡ entry → body_by overflow entry ≡ None → entry ≡ Empty
    by Empty is none = refl
    by (Here body) is none = absurd (cc)
    by (Forward to_page to_slot) is none =
        let there = linked.leads page slot to_page to_slot is in
        absurd (none-some there.body (sym none ∙ ap body_in there.is))

-- ---- a map of names that a list has

-- The names of the list are those of the map, each once.
pub record IsListOf {X : Type 0} (items : List (Option Name)) (m : FinMap name_cmp X) : Type 0 where
  pub each : (k : ℕ) (name : Name) → get_or items k None ≡ Some name → is_some (map.get m name) ≡ true
  pub only : (name : Name) → is_some (map.get m name) ≡ true → (k : ℕ) × (get_or items k None ≡ Some name)
  pub once : (j k : ℕ) (name : Name) → get_or items j None ≡ Some name → get_or items k None ≡ Some name → j ≡ k

-- what a name gives, where there is one
abbrev pub of_name : (Name → ℕ) → Option Name → ℕ
of_name f None = 0
of_name f (Some name) = f name

less_one : (j k : ℕ) → suc j ≡ suc k → j ≡ k
less_one j k same = omega (arith, same)

-- without its first place
module _ {X : Type 0} (items : List (Option Name)) (m : FinMap name_cmp X) where
  rest_of : IsListOf (None ∷ items) m → IsListOf items m
  rest_of list = record {
    each = λ k name at. list.each (suc k) name at;
    only = λ name there. later name (list.only name there);
    once = λ j k name one other. less_one j k (list.once (suc j) (suc k) name one other);
  }
    where
      later : (name : Name) → (k : ℕ) × (get_or (None ∷ items) k None ≡ Some name) → (k : ℕ) × (get_or items k None ≡ Some name)
      later name (zero, at) = absurd (none-some name at)
      later name (suc k, at) = (k, at)

  rest_without : (first : Name) → IsListOf (Some first ∷ items) m → IsListOf items (map.remove m first)
  rest_without first list = record {
    each = λ k name at. ap is_some (gone_other m first name (another k name at)) ∙ list.each (suc k) name at;
    only = λ name there. let was = gone m first name there in later name was.0 (list.only name (ap is_some (sym was.1) ∙ there));
    once = λ j k name one other. less_one j k (list.once (suc j) (suc k) name one other);
  }
    where
      another : (k : ℕ) (name : Name) → get_or items k None ≡ Some name → name ≢ first
      another k name at same = let one : zero ≡ suc k = list.once zero (suc k) name (ap Some (sym same)) at in omega (arith, one)

      later : (name : Name) → name ≢ first → (k : ℕ) × (get_or (Some first ∷ items) k None ≡ Some name) → (k : ℕ) × (get_or items k None ≡ Some name)
      later name other (zero, at) = absurd (other (sym (same_Some _ _ at)))
      later name other (suc k, at) = (k, at)

-- a sum over what the map has, where each name gives as much as what it names
pub sum_found : {X B : Type 0} (f : B → ℕ) (pick : Name × X → B) (h : Name → ℕ) (items : List (Option Name)) (m : FinMap name_cmp X) → IsListOf items m → ((name : Name) (x : X) → map.get m name ≡ Some x → f (pick (name, x)) ≡ h name) → sum_by f (list_map pick (map.entries m)) ≡ sum_by (of_name h) items
sum_found {X = X} f pick h [] m list each = ap (λ (n : FinMap name_cmp X). sum_by f (list_map pick (map.entries n))) (same_map name_total name_apart m map.empty (λ q. none q (map.get m q) refl ∙ sym (get-empty name_cmp q))) ∙ ap (λ (es : List (Name × X)). sum_by f (list_map pick es)) (no_entries X)
  where
    none : (q : Name) (found : Option X) → map.get m q ≡ found → map.get m q ≡ None
    none q None is = is
    none q (Some x) is = absurd (none-some q (list.only q (ap is_some is)).1)
sum_found f pick h (None ∷ items) m list each = omega (arith, sum_by-cons (of_name h) None items, sum_found f pick h items m (rest_of items m list) each)
sum_found f pick h (Some first ∷ items) m list each =
    let there = some_of (map.get m first) (list.each zero first refl) in
    let gone_sum = removed_sum f pick m first there.0 there.1 in
    let rest = sum_found f pick h items (map.remove m first) (rest_without items m first list) (λ name x is. let was = gone m first name (ap is_some is) in each name x (sym was.1 ∙ is)) in
    omega (arith, gone_sum, each first there.0 there.1, sum_by-cons (of_name h) (Some first) items, rest)

-- and over its names
pub sum_listed : {X : Type 0} (f : Name → ℕ) (items : List (Option Name)) (m : FinMap name_cmp X) → IsListOf items m → sum_by f (map.keys m) ≡ sum_by (of_name f) items
sum_listed f items m list = sum_found f (λ e. e.0) f items m list (λ name x is. refl)

-- a sum over numbers from one on
pub sum_places : (g : Option Name → ℕ) (items : List (Option Name)) (a : ℕ) (h : ℕ → ℕ) → ((k : ℕ) → h (a + k) ≡ g (get_or items k None)) → sum_by h (range_with_len a (length items)) ≡ sum_by g items
sum_places g [] a h each = refl
sum_places g (item ∷ items) a h each =
    let later = sum_places g items (a + 1) h (λ k. ap h (more k) ∙ each (suc k)) in
    let here : h a ≡ g item = ap h from ∙ each zero in
    omega (arith, later, here, sum_by-cons h a (range_with_len (a + 1) (length items)), sum_by-cons g item items)
  where
    more : (k : ℕ) → (a + 1) + k ≡ a + suc k
    more k = omega arith

    from : a ≡ a + zero
    from = omega arith

-- ---- what is listed is defined

module _ {listing : Listing} {definitions : Definitions} (fits : ListingFits listing) (defines : Defines listing definitions) where
  -- the segments that are defined
  pub segments_listed : IsListOf listing.segments definitions.segments
  segments_listed = record {
    each = λ k name at. (defines.segments name).1 (suc k, at_place listing.segments k ∙ at);
    only = λ name there. place name ((defines.segments name).0 there);
    once = λ j k name one other. less_one j k (fits.segments_once (suc j) (suc k) name (at_place listing.segments j ∙ one) (at_place listing.segments k ∙ other));
  }
    where
      place : (name : Name) → (number : ℕ) × (segment_at listing number ≡ Some name) → (k : ℕ) × (get_or listing.segments k None ≡ Some name)
      place name (zero, at) = absurd (none-some name at)
      place name (suc k, at) = (k, sym (at_place listing.segments k) ∙ at)

  -- a listed relation stands in a segment that has a name
  pub listed : (number : ℕ) (relation : RelationEntry) → relation_at listing number ≡ Some relation → (segment : Name) × IsListed listing number relation segment
  listed number relation at =
      let some = some_of (segment_at listing relation.segment) (fits.relations number relation at).segment in
      (some.0, record { at = at; within = some.1 })

-- a listed relation is defined with the fields that are listed
pub fields_listed : {listing : Listing} {definitions : Definitions} → ListingFits listing → Defines listing definitions → HaveFields listing definitions
fields_listed fits defines number relation at =
    let so = listed fits defines number relation at in
    ap (λ (o : Option RelationDef). unwrap_or (option_map (λ (r : RelationDef). r.fields) o) []) (defines.relations number relation so.0 so.1)

pub fields_defined : {listing : Listing} (tables : Tables) → ListingFits listing → Defines listing tables.definitions → (number : ℕ) (relation : RelationEntry) → relation_at listing number ≡ Some relation → fields_of tables relation.name ≡ Some (kinds relation.fields)
fields_defined tables fits defines number relation at =
    let so = listed fits defines number relation at in
    ap (option_map (λ (r : RelationDef). kinds r.fields)) (defines.relations number relation so.0 so.1)

-- what the fields of a number ask
pub fields_at_is : (listing : Listing) (number : ℕ) (relation : RelationEntry) → relation_at listing number ≡ Some relation → fields_at listing number ≡ kinds relation.fields
fields_at_is listing number relation at = ap (λ (o : Option RelationEntry). unwrap_or (option_map (λ (r : RelationEntry). kinds r.fields) o) []) at

module _ {listing : Listing} (tables : Tables) (fits : ListingFits listing) (defines : Defines listing tables.definitions) (number : ℕ) (relation : RelationEntry) (at : relation_at listing number ≡ Some relation) where
  -- a listed relation stands in the segment that its number names
  pub stands_within : (segment : Name) → segment_at listing relation.segment ≡ Some segment → segment_of tables relation.name ≡ Some segment
  stands_within segment within = ap (option_map (λ (r : RelationDef). r.segment)) (defines.relations number relation segment (record { at = at; within = within }))

  -- and in no other
  pub number_within : (n : ℕ) (segment : Name) → segment_at listing n ≡ Some segment → segment_of tables relation.name ≡ Some segment → relation.segment ≡ n
  number_within n segment named stands =
      let so = listed fits defines number relation at in
      let same : so.0 ≡ segment = same_Some _ _ (sym (stands_within so.0 so.1.within) ∙ stands) in
      fits.segments_once relation.segment n segment (so.1.within ∙ ap Some same) named

-- an item that is a tuple has a listed relation
pub tuple_item : {listing : Listing} (relation : Name) (tid : Tid) → IsTupleItem listing (Tuple relation tid) ⊎ IsChainItem listing (Tuple relation tid) → IsTupleItem listing (Tuple relation tid)
tuple_item relation tid (inl is) = is
tuple_item relation tid (inr chain) = absurd (none chain.is)
  where
    none : {link : Name} {parent : Option Tid} → Tuple relation tid ≡ Chain link parent → ⊥
    none is = cc (is)

-- ---- the pages of a segment

module _ {held : Held} {listing : Listing} {tables : Tables} {slots : ℕ} (spells : SpellsTables held listing tables) (fit : Fits slots tables) where
  -- a page with identifiers of tuples is there
  page_there : (n : ℕ) (segment : Name) → segment_at listing n ≡ Some segment → (page : ℕ) → is_heap_page tables segment page ≡ true → is_some (held (page_key n Home page)) ≡ true
  page_there n segment named page is =
      let on = heap_page_of tables segment page is in
      let some = has_tuples_of tables.contents page on.relation on.has in
      let tid : Tid = record { page = page; slot = some.0 } in
      let held_there = some_of (content tables.contents (Tuple on.relation tid)) some.2 in
      let of = fit.tuples on.relation tid held_there.0 held_there.1 in
      let item = tuple_item on.relation tid (spells.contents.only (Tuple on.relation tid) some.2) in
      let same : on.relation ≡ item.relation.name = (same_parts on.relation item.relation.name tid item.tid item.is).0 in
      let here : content tables.contents (Tuple item.relation.name tid) ≡ Some (Values of.values) = ap (λ (name : Name). content tables.contents (Tuple name tid)) (sym same) ∙ held_there.1 ∙ ap Some of.tuple in
      let stands = spells.contents.stands item.number item.relation tid of.values item.at here in
      let within : item.relation.segment ≡ n = number_within tables spells.listed spells.defines item.number item.relation item.at n segment named (ap (segment_of tables) (sym same) ∙ on.stands) in
      let body : bodies_of held n tid ≡ Some (body_of listing tables.contents item.number tid of.values) = ap (λ (k : ℕ). bodies_of held k tid) (sym within) ∙ stands in
      by (held (page_key n Home page)) refl some.0 (body_of listing tables.contents item.number tid of.values) body
    where
      by : (bytes : Option (List ℕ)) → held (page_key n Home page) ≡ bytes → (slot : ℕ) (body : List ℕ) → bodies_of held n (record { page = page; slot = slot }) ≡ Some body → is_some bytes ≡ true
      by (Some bytes) is slot body stands = refl
      by None is slot body stands = absurd (none-some body (sym (ap (λ (bytes : Option (List ℕ)). body_by (overflows held n) (held_at (contents_in bytes) slot)) is) ∙ stands))

  -- and a page that is there has some
  page_used : (n : ℕ) (segment : Name) → segment_at listing n ≡ Some segment → (page : ℕ) (bytes : List ℕ) → held (page_key n Home page) ≡ Some bytes → is_heap_page tables segment page ≡ true
  page_used n segment named page bytes is = true_from_ne_false _ (λ none. (spells.formed (page_key n Home page) bytes (inl refl) is).some (λ slot. empty none slot))
    where
      tid : ℕ → Tid
      tid slot = record { page = page; slot = slot }

      no_body : is_heap_page tables segment page ≡ false → (slot : ℕ) → slot < 128 → (body : Option (List ℕ)) → bodies_of held n (tid slot) ≡ body → body ≡ None
      no_body none slot low None stands = refl
      no_body none slot low (Some body) stands =
          let of = spells.contents.bodies_are n (tid slot) body stands in
          let stood : segment_of tables of.relation.name ≡ Some segment = stands_within tables spells.listed spells.defines of.number of.relation of.at segment (ap (segment_at listing) of.within ∙ named) in
          let has = has_tuples_at tables.contents of.relation.name (tid slot) low (ap is_some of.holds) in
          absurd (true≢false (sym (heap_page_at tables segment page (record { relation = of.relation.name; stands = stood; has = has })) ∙ none))

      empty : is_heap_page tables segment page ≡ false → (slot : ℕ) → held_at (entries bytes) slot ≡ Empty
      empty none slot = elim (cases_lt slot 128) [
        | inl low ↦
            let home = empty_entry (homes held n) (overflows held n) (spells.linked n) page slot (no_body none slot low (bodies_of held n (tid slot)) refl) in
            ap (λ (b : Option (List ℕ)). held_at (contents_in b) slot) (sym is) ∙ home
        | inr past ↦ get_or_past (entries bytes) slot Empty (omega (arith, past, length-entries bytes))
      ]

  page_same : (n : ℕ) (segment : Name) → segment_at listing n ≡ Some segment → (page : ℕ) → is_heap_page tables segment page ≡ is_some (held (page_key n Home page))
  page_same n segment named page = same_bool _ _ (page_there n segment named page) (λ there. let bytes = some_of (held (page_key n Home page)) there in page_used n segment named page bytes.0 bytes.1)

  -- a segment that is not listed has none
  none_unlisted : (n : ℕ) → segment_at listing n ≡ None → (page : ℕ) → is_some (held (page_key n Home page)) ≡ false
  none_unlisted n unnamed page = false_from_ne_true _ (λ there. elim (spells.only (page_key n Home page) there) [
    | inl system ↦ absurd (cc)
    | inr segment ↦ absurd (true≢false (sym segment ∙ ap is_some unnamed))
  ])

  module _ (mapped : Mapped) (holds : (key : PageKey) → is_some (held key) ≡ mapped key) where
    pages_of_number : (n : ℕ) (found : Option Name) → segment_at listing n ≡ found → mapped_in mapped Home slots n ≡ of_name (pages_in slots tables) found
    pages_of_number n None unnamed = count_none (λ page. mapped (page_key n Home page)) (range_with_len 0 slots) (λ page. sym (holds (page_key n Home page)) ∙ none_unlisted n unnamed page)
    pages_of_number n (Some segment) named = count_same (λ page. mapped (page_key n Home page)) (is_heap_page tables segment) (range_with_len 0 slots) (λ page. sym (page_same n segment named page ∙ holds (page_key n Home page)))

    -- As many pages have identifiers of tuples as home pages are there.
    pub heap_is : heap_pages slots tables ≡ mapped_of mapped Home slots
    unfolding heap_pages
    heap_is =
        let names = sum_listed (pages_in slots tables) listing.segments tables.definitions.segments (segments_listed spells.listed spells.defines) in
        let numbers : sum_by (mapped_in mapped Home slots) (range_with_len 1 (length listing.segments)) ≡ sum_by (of_name (pages_in slots tables)) listing.segments =
        sum_places (of_name (pages_in slots tables)) listing.segments 1 (mapped_in mapped Home slots) (λ k. ap (mapped_in mapped Home slots) (one_more k) ∙ pages_of_number (suc k) (get_or listing.segments k None) (at_place listing.segments k)) in
        names ∙ sym numbers ∙ ap (λ (n : ℕ). sum_by (mapped_in mapped Home slots) (range_with_len 1 n)) spells.listed.segment_places
      where
        one_more : (k : ℕ) → 1 + k ≡ suc k
        one_more k = omega arith
