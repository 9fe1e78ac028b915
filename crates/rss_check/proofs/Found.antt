-- The tables that the pages of a store are found to spell, where they are sound; and that sound pages are those of tables.
use Rattle.std.proofs.Common.{◌≡◌, ◌⊎◌, inl, inr, ℕ, ◌<◌, ◌≤◌, true, false, cond, List, ◌∷◌, ◌++◌, drop, refl, sym, ◌∙◌, ap, subst, arith}
use Rattle.std.specs.Prelude.{Option, Some, None, is_some, option_map, Contains, ◌==◌}
use Rattle.std.specs.FinMap as map
use Rattle.std.specs.FinMap.{same_map, get-retain_keys}
use Rattle.std.proofs.lemmas.Bool.{cases_Bool, cases_lt, true≢false, eq-eqb, and_from}
use Rattle.std.proofs.lemmas.List.{get_or_past, drop_at}
use Rattle.std.proofs.lemmas.Option.{none-some, same_Some}
use Rattle.rss_base.specs.PageMap.{IsKey, number_limit}
use Rattle.rss_base.specs.Paged.{Held, page_key}
use Rattle.rss_base.specs.Sizes.{segments}
use Rattle.rss_base.specs.Prefixes.{prefix_size}
use Rattle.rss_base.specs.TupleTypes.{kinds, misfit, tuple_bytes, Spells}
use Rattle.rss_base.specs.Listings.{Listing, ListingFits, HoldsListing, segment_at, relation_at}
use Rattle.rss_base.specs.declared.key.PageKey.{PageKey}
use Rattle.rss_base.specs.declared.key.Space.{Space}
use Rattle.rss_base.specs.declared.key.Space.TheVariants.{Home, Overflow, Image, System}
use Rattle.rss_base.specs.declared.name.Name.{Name}
use Rattle.rss_base.specs.declared.image.ImageEntry.{ImageEntry}
use Rattle.rss_base.specs.declared.relation.RelationEntry.{RelationEntry}
use Rattle.rss_base.specs.declared.tid.Tid.{Tid}
use Rattle.rss_base.specs.declared.item.Item.{Item}
use Rattle.rss_base.specs.declared.item.Item.TheVariants.{Segment as SegmentItem, Relation as RelationItem, Tuple as TupleItem, Chain as ChainItem, Key as KeyItem}
use Rattle.rss_base.specs.declared.value.FieldForm.{FieldForm}
use Rattle.rss_base.specs.declared.value.Value.{Value}
use Rattle.rss_value.specs.Spelled.{is_spelled}
use Rattle.rss_value.proofs.Spelling.{is_spelled_exactly}
use Rattle.rss_page.specs.Content.{Empty}
use Rattle.rss_page.specs.Slotted.{IsHeapKey, entries}
use Rattle.rss_page.specs.Surveyed.{held_at}
use Rattle.rss_page.proofs.Contents.{length-entries}
use Rattle.rss_tuple.specs.Directory.{contents_in, homes, overflows, body_by, bodies_of}
use Rattle.rss_tuple.specs.Heaps.{IsHeap, AreLinked}
use Rattle.rss_tuple.specs.Checked.{tuples_of}
use Rattle.rss_tuple.specs.TupleSteps.{tuples_in}
use Rattle.rss_model.specs.Items.{Content, Values}
use Rattle.rss_model.specs.Tables.{RelationDef, ImageDef, Contents, Tables, content, fields_of, segment_of, is_tuple_of, tuple_count}
use Rattle.rss_model.specs.Fits.{HasContent, IsTupleOf, IsLive, IsIdentifier, Fits, tuple_limit}
use Rattle.rss_model.specs.Images.{HasKey, KeysFit}
use Rattle.rss_stored.specs.Store.{IsStorePage, IsTupleItem, IsListedImage, IsReached, AreCounts, AreNodesWithin, Defines, SpellsImages, SpellsTables, IsTupleBody, IsChainItem, image_definition, prefix_of, fields_at, body_of}
use Rattle.rss_model.proofs.Codes.{item_total, item_apart, name_total, name_apart}
use Rattle.rss_model.proofs.Contents.{not_tied}
use Rattle.rss_stored.proofs.ImagePages.{image_once}
use Rattle.rss_stored.proofs.Listed.{listed, fields_at_is, stands_within, number_within}
use Rattle.rss_model.proofs.LogLists.{some_of}
use Rattle.rss_model.proofs.Putting.{same_parts}
use Rattle.rss_stored.proofs.Relisted.{number_within_list}
use Rattle.rss_stored.proofs.Spelled.{named_relation, named_image, listed_link, spelled, tuple_bytes_same}
use Rattle.rss_members.specs.Members.{SpellsMembers}
use Rattle.rss_members.proofs.Prefixed.{long_prefix}
use Rattle.rss_members.proofs.Gathered.{StandsIn, IsBodyOfTuple, SpellsTuples, chains_had}
use Rattle.rss_members.proofs.GatheredChains.{Gathered, gathered, no_ends_had}
use Rattle.rss_entries.specs.Seeking.{AreSingle}
use Rattle.rss_entries.proofs.Fitting.{fitting_nodes}
use Rattle.rss_entries.proofs.Standing.{AreLow}
use Rattle.rss_access.specs.Bodies.{is_body, is_values_of}
use Rattle.rss_access.specs.Changes.{AccessView}
use Rattle.rss_access.specs.Checking.{ShowsTuples, IsSound as IsSoundImage}
use Rattle.rss_access.specs.Rows.{HasRows}
use Rattle.rss_access.proofs.Bodied.{body_is}
use Rattle.rss_access.proofs.Looking.{single}
use Rattle.rss_access.proofs.NodesReached.{all_within}
use Rattle.rss_access.proofs.RowsHad.{rows_sound}
use Rattle.rss_check.specs.Checks.{count_of, IsSegmentOf, ChecksLinks}
use Rattle.rss_check.specs.Rows.{HasImages}
use Rattle.rss_check.specs.Looks.{HoldsTables, HoldsNone}
use Rattle.rss_check.proofs.Empties.{entry_none, linked_none}
use Rattle.rss_check.proofs.Made.{definitions_of, listing_defines, listing_fits}
use Rattle.rss_stored.proofs.ListedOnce.{listing_once}
use Rattle.rss_check.proofs.Rows.{IsAt, IsNamedIn, AreGood, Spot, values_in, named_by, held_by, item_of, contents_of, spots_of, spots_at, each_among, none_of, same_number, same_relation, relation_body, body_of_bytes, body_at_spot, found_at, found_spot, relation_counted}

-- ---- identifiers, and numbers of segments

-- the segment of a listed relation has a number that there may be
pub segment_within : {listing : Listing} → ListingFits listing → (number : ℕ) (relation : RelationEntry) → relation_at listing number ≡ Some relation → (1 ≤ relation.segment) × (relation.segment ≤ segments)
segment_within {listing = listing} fits number relation at =
    let some = some_of (segment_at listing relation.segment) (fits.relations number relation at).segment in
    let within = number_within_list listing.segments relation.segment some.0 some.1 in
    (within.0, omega (arith, within.1, fits.segment_places))

module _ (held : Held) (slots : ℕ) (allowed : (key : PageKey) → is_some (held key) ≡ true → IsKey slots key) where
  -- an identifier with a body
  pub named_in : (segment : ℕ) (tid : Tid) (body : List ℕ) → bodies_of held segment tid ≡ Some body → IsNamedIn slots segment tid
  named_in segment tid body is = by (held (page_key segment Home tid.page)) refl is
    where
      by : (bytes : Option (List ℕ)) → held (page_key segment Home tid.page) ≡ bytes → body_by (overflows held segment) (held_at (contents_in bytes) tid.slot) ≡ Some body → IsNamedIn slots segment tid
      by None there is = absurd (none-some body is)
      by (Some bytes) there is =
          let key = allowed (page_key segment Home tid.page) (ap is_some there) in
          record {
            low = key.segment.0;
            high = key.segment.1;
            named = record {
              page = key.number;
              slot = elim (cases_lt tid.slot 128) [
                | inl low ↦ low
                | inr past ↦ absurd (none-some body (sym (ap (body_by (overflows held segment)) (get_or_past (entries bytes) tid.slot Empty (omega (arith, past, length-entries bytes)))) ∙ is))
              ];
            };
          }

-- a page of a tuple store is one of a segment that is listed
heap_listed : (held : Held) (listing : Listing) → ((key : PageKey) → is_some (held key) ≡ true → IsStorePage listing key) → (key : PageKey) → IsHeapKey key → is_some (held key) ≡ true → is_some (segment_at listing key.segment) ≡ true
heap_listed held listing only key heap there = elim (only key there) [
  | inl system ↦ elim heap [ inl home ↦ absurd (cc) | inr over ↦ absurd (cc) ]
  | inr listed ↦ listed
]

none_if : (bytes : Option (List ℕ)) → (is_some bytes ≡ true → ⊥) → bytes ≡ None
none_if None lacks = refl
none_if (Some bytes) lacks = absurd (lacks refl)

-- where no segment of this number is listed, its pages are linked
unlisted_linked : (held : Held) (listing : Listing) → ((key : PageKey) → IsHeapKey key → is_some (held key) ≡ true → is_some (segment_at listing key.segment) ≡ true) → (segment : ℕ) → is_some (segment_at listing segment) ≡ false → AreLinked (homes held segment) (overflows held segment)
unlisted_linked held listing heaps segment none = linked_none (homes held segment) (overflows held segment)
    (λ page slot. entry_none held segment Home page slot (gone Home page (inl refl)))
    (λ page slot. entry_none held segment Overflow page slot (gone Overflow page (inr refl)))
  where
    gone : (space : Space) (page : ℕ) → IsHeapKey (page_key segment space page) → held (page_key segment space page) ≡ None
    gone space page heap = none_if (held (page_key segment space page)) (λ there. true≢false (sym (heaps (page_key segment space page) heap there) ∙ none))

-- ---- pages that are found sound

module _ (held : Held) (slots : ℕ) (listing : Listing) (fits : ListingFits listing) (heaps : (key : PageKey) → IsHeapKey key → is_some (held key) ≡ true → is_some (segment_at listing key.segment) ≡ true) (allowed : (key : PageKey) → is_some (held key) ≡ true → IsKey slots key)
    (sound : (segment : ℕ) → is_some (segment_at listing segment) ≡ true → IsSegmentOf held slots listing segment) where
  body_listed : (segment : ℕ) (tid : Tid) (body : List ℕ) → bodies_of held segment tid ≡ Some body → is_some (segment_at listing segment) ≡ true
  body_listed segment tid body is = heaps (page_key segment Home tid.page) (inl refl) (there (held (page_key segment Home tid.page)) refl is)
    where
      there : (bytes : Option (List ℕ)) → held (page_key segment Home tid.page) ≡ bytes → body_by (overflows held segment) (held_at (contents_in bytes) tid.slot) ≡ Some body → is_some bytes ≡ true
      there None at stands = absurd (none-some body stands)
      there (Some bytes) at stands = refl

  found_good : AreGood listing held slots
  found_good = record {
    fits = fits;
    good = λ segment tid body is. (sound segment (body_listed segment tid body is)).sound.good tid body is;
    named = named_in held slots allowed;
  }

  abbrev pub found_tables : Tables
  found_tables = record { definitions = definitions_of listing; contents = contents_of listing (spots_of held slots) }

  defines : Defines listing (definitions_of listing)
  defines = listing_defines fits

  -- the fields of a listed relation
  fields_found : (number : ℕ) (relation : RelationEntry) → relation_at listing number ≡ Some relation → fields_of found_tables relation.name ≡ Some (kinds relation.fields)
  fields_found number relation at =
      let so = listed fits defines number relation at in
      ap (option_map (λ (r : RelationDef). kinds r.fields)) (defines.relations number relation so.0 so.1)

  found_counts : AreCounts listing found_tables.contents
  found_counts number relation at =
      let within = segment_within fits number relation at in
      relation_counted found_good number relation at within.0 within.1 ∙ ((sound relation.segment (fits.relations number relation at).segment).counts number relation at refl).0

  -- a tuple that is there, by its relation
  stands_found : (number : ℕ) (relation : RelationEntry) (tid : Tid) (values : List Value) → relation_at listing number ≡ Some relation → content found_tables.contents (TupleItem relation.name tid) ≡ Some (Values values) → StandsIn listing (bodies_of held) relation.segment tid number values
  stands_found number relation tid values at is =
      let found = found_spot found_good (TupleItem relation.name tid) (Values values) is in
      let of = body_at_spot found_good found.0 found.1 in
      let parts = same_parts (named_by listing found.0.1.1) relation.name found.0.1.0 tid found.2 in
      let numbers : of.number ≡ number = same_number fits of.number number of.relation relation of.at at (sym of.named ∙ parts.0) in
      let relations : of.relation ≡ relation = same_relation fits of.number number of.relation relation of.at at numbers in
      let fields : kinds of.relation.fields ≡ fields_at listing number = sym (fields_at_is listing of.number of.relation of.at) ∙ ap (fields_at listing) numbers in
      let segment : found.0.0 ≡ relation.segment = sym of.within ∙ ap (λ (r : RelationEntry). r.segment) relations in
      let same : values_in (kinds of.relation.fields) of.bytes ≡ values = let e : Values (values_in (kinds of.relation.fields) of.bytes) ≡ Values values = sym of.holds ∙ found.3 in cc in record {
        body = found.0.1.1;
        there = (λ i. bodies_of held (sym segment i) (sym parts.1 i)) ∙ found.1;
        holds = record {
          prefix = of.prefix;
          long = of.long ∙ ap (prefix_size listing.links) numbers;
          is = of.is ∙ (λ i. numbers i ∷ (of.prefix ++ (of.spelled.same ∙ (λ j. tuple_bytes (fields j) (same j))) i));
        };
      }

  body_found : (segment : ℕ) (tid : Tid) (body : List ℕ) → bodies_of held segment tid ≡ Some body → IsBodyOfTuple listing found_tables.contents segment tid body
  body_found segment tid body is =
      let of = relation_body listing segment body (found_good.good segment tid body is) in
      record {
        number = of.number;
        relation = of.relation;
        values = values_in (kinds of.relation.fields) of.bytes;
        at = of.at;
        within = of.within;
        is = record { prefix = of.prefix; long = of.long; is = of.is ∙ ap (λ (bytes : List ℕ). of.number ∷ (of.prefix ++ bytes)) (of.spelled.same ∙ ap (λ (fields : List FieldForm). tuple_bytes fields (values_in (kinds of.relation.fields) of.bytes)) (sym (fields_at_is listing of.number of.relation of.at))) };
        storable = of.spelled.storable;
        holds = ap (λ (name : Name). content found_tables.contents (TupleItem name tid)) (sym of.named) ∙ found_at found_good segment tid body is ∙ ap Some of.holds;
      }

  item_found : (item : Item) → is_some (content found_tables.contents item) ≡ true → IsTupleItem listing item
  item_found item there =
      let some = some_of (content found_tables.contents item) there in
      let found = found_spot found_good item some.0 some.1 in
      let of = body_at_spot found_good found.0 found.1 in
      record { number = of.number; relation = of.relation; tid = found.0.1.0; at = of.at; is = sym found.2 ∙ ap (λ (name : Name). TupleItem name found.0.1.0) of.named }

  pub linked_found : (segment : ℕ) → AreLinked (homes held segment) (overflows held segment)
  linked_found segment = elim (cases_Bool (is_some (segment_at listing segment))) [
    | inl is ↦ (sound segment is).sound.linked
    | inr none ↦ unlisted_linked held listing heaps segment none
  ]

  formed_found : (key : PageKey) (bytes : List ℕ) → IsHeapKey key → held key ≡ Some bytes → IsHeap key bytes None
  formed_found key bytes heap is = (sound key.segment (heaps key heap (ap is_some is))).sound.formed key bytes (refl, heap) is

  -- ---- they fit

  -- a tuple that is there is one of a listed relation
  record IsThere (name : Name) (tid : Tid) (c : Content) : Type 0 where
    number : ℕ
    relation : RelationEntry
    bytes : List ℕ
    at : relation_at listing number ≡ Some relation
    named : relation.name ≡ name
    spelled : Spells (kinds relation.fields) bytes (values_in (kinds relation.fields) bytes)
    holds : c ≡ Values (values_in (kinds relation.fields) bytes)
    prefix : List ℕ
    stands : bodies_of held relation.segment tid ≡ Some (number ∷ (prefix ++ bytes))

  there_found : (name : Name) (tid : Tid) (c : Content) → content found_tables.contents (TupleItem name tid) ≡ Some c → IsThere name tid c
  there_found name tid c is =
      let found = found_spot found_good (TupleItem name tid) c is in
      let of = body_at_spot found_good found.0 found.1 in
      let parts = same_parts (named_by listing found.0.1.1) name found.0.1.0 tid found.2 in
      record {
        number = of.number;
        relation = of.relation;
        bytes = of.bytes;
        at = of.at;
        named = sym of.named ∙ parts.0;
        spelled = of.spelled;
        holds = sym found.3 ∙ of.holds;
        prefix = of.prefix;
        stands = (λ i. bodies_of held (of.within i) (sym parts.1 i)) ∙ found.1 ∙ ap Some of.is;
      }

  live_found : (name : Name) (tid : Tid) → IsLive found_tables name tid → (c : Content) × IsThere name tid c
  live_found name tid lives =
      let some = some_of (content found_tables.contents (TupleItem name tid)) lives in
      (some.0, there_found name tid some.0 some.1)

  tuple_found : (name : Name) (tid : Tid) (c : Content) → content found_tables.contents (TupleItem name tid) ≡ Some c → IsTupleOf found_tables name c
  tuple_found name tid c is =
      let of = there_found name tid c is in
      record {
        fields = kinds of.relation.fields;
        values = values_in (kinds of.relation.fields) of.bytes;
        defined = ap (fields_of found_tables) (sym of.named) ∙ fields_found of.number of.relation of.at;
        tuple = of.holds;
        fit = of.spelled.fit;
      }

  alone_found : (one other : Name) (tid : Tid) → IsLive found_tables one tid → IsLive found_tables other tid → segment_of found_tables one ≡ segment_of found_tables other → one ≡ other
  alone_found one other tid first second same =
      let a = (live_found one tid first).1 in
      let b = (live_found other tid second).1 in
      let at_a = listed fits defines a.number a.relation a.at in
      let in_a : segment_of found_tables one ≡ Some at_a.0 = ap (segment_of found_tables) (sym a.named) ∙ stands_within found_tables fits defines a.number a.relation a.at at_a.0 at_a.1.within in
      let in_b : segment_of found_tables b.relation.name ≡ Some at_a.0 = ap (segment_of found_tables) b.named ∙ sym same ∙ in_a in
      let segment : b.relation.segment ≡ a.relation.segment = number_within found_tables fits defines b.number b.relation b.at a.relation.segment at_a.0 at_a.1.within in_b in
      let bodies : a.number ∷ (a.prefix ++ a.bytes) ≡ b.number ∷ (b.prefix ++ b.bytes) = same_Some _ _ (sym a.stands ∙ ap (λ (n : ℕ). bodies_of held n tid) (sym segment) ∙ b.stands) in
      let numbers : a.number ≡ b.number = cc in
      sym a.named ∙ ap (λ (r : RelationEntry). r.name) (same_relation fits a.number b.number a.relation b.relation a.at b.at numbers) ∙ b.named

  few_found : (name : Name) → tuple_count found_tables.contents name ≤ tuple_limit
  few_found name = elim (cases_Bool (is_some (map.get (definitions_of listing).relations name))) [
    | inl there ↦
        let has = named_relation listing name (defines.only_relations name there) in
        let count = found_counts has.number has.relation has.at in
        let few = ((sound has.relation.segment (fits.relations has.number has.relation has.at).segment).counts has.number has.relation has.at refl).1 in
        omega (arith, few, count, ap (tuple_count found_tables.contents) has.named)
    | inr none ↦ omega (arith, none_of listing name (spots_of held slots) (each_among _ _ (spots_of held slots) (λ spot stands. other spot stands none) (spots_at held slots)))
  ]
    where
      other : (spot : Spot) → IsAt (bodies_of held) spot → is_some (map.get (definitions_of listing).relations name) ≡ false → is_tuple_of name (item_of listing spot) ≡ false
      other spot stands none =
          let of = body_at_spot found_good spot stands in
          let so = listed fits defines of.number of.relation of.at in
          not_tied name_total name_apart name (named_by listing spot.1.1) (λ same. true≢false
          (sym (ap (λ (n : Name). is_some (map.get (definitions_of listing).relations n)) (same ∙ of.named) ∙ ap is_some (defines.relations of.number of.relation so.0 so.1)) ∙ none))

  tids_found : (name : Name) (tid : Tid) → IsLive found_tables name tid → IsIdentifier slots tid
  tids_found name tid lives = let of = (live_found name tid lives).1 in (named_in held slots allowed of.relation.segment tid (of.number ∷ (of.prefix ++ of.bytes)) of.stands).named

  -- the bodies are those of these tuples
  pub tuples_found : slots < 4294967296 → SpellsTuples listing (bodies_of held) found_tables
  tuples_found small = record {
    listed = fits;
    defines = defines;
    stands = stands_found;
    bodies_are = body_found;
    tuples = tuple_found;
    tids = λ name tid lives. let named = tids_found name tid lives in (omega (arith, named.page, small), omega (arith, named.slot));
  }

-- contents with the same tuples have as many of each relation
pub counts_alike : (a b : Contents) → ((relation : Name) (tid : Tid) → content a (TupleItem relation tid) ≡ content b (TupleItem relation tid)) → (name : Name) → tuple_count a name ≡ tuple_count b name
unfolding tuple_count
counts_alike a b same name = ap map.len (same_map item_total item_apart (map.retain_keys a (is_tuple_of name)) (map.retain_keys b (is_tuple_of name)) (λ item. kept a item ∙ by item ∙ sym (kept b item)))
  where
    kept : (c : Contents) (item : Item) → content (map.retain_keys c (is_tuple_of name)) item ≡ cond (is_tuple_of name item) (content c item) None
    kept c item = get-retain_keys c (is_tuple_of name) item (λ x tie. sym (ap (is_tuple_of name) (item_apart item x tie)))

    by : (item : Item) → cond (is_tuple_of name item) (content a item) None ≡ cond (is_tuple_of name item) (content b item) None
    by (SegmentItem other) = refl
    by (RelationItem other) = refl
    by (TupleItem relation tid) = ap (λ (o : Option Content). cond (is_tuple_of name (TupleItem relation tid)) o None) (same relation tid)
    by (ChainItem link parent) = refl
    by (KeyItem image values) = refl

-- where no unique image that is listed has a key twice, no unique image that is defined has
keys_single : {listing : Listing} {tables : Tables} → ListingFits listing → Defines listing tables.definitions
    → ((number : ℕ) (image : ImageEntry) (relation : RelationEntry) → IsListedImage listing number image relation → image.is_unique ≡ true → AreSingle tables (image_definition image relation)) → KeysFit tables
keys_single {listing = listing} {tables = tables} fits defines single name image one other key is unique first second =
    let has = named_image listing name (defines.paths.only_images name (ap is_some is)) in
    let its = fits.paths.images has.number has.image has.at in
    let listed_so : IsListedImage listing has.number has.image its.relation = record { at = has.at; within = its.listed } in
    let same : image_definition has.image its.relation ≡ image = same_Some _ _ (sym (defines.paths.images has.number has.image its.relation listed_so) ∙ ap (map.get tables.definitions.images) has.named ∙ is) in
    single has.number has.image its.relation listed_so (ap (λ (i : ImageDef). i.is_unique) same ∙ unique) one other key
    (subst (λ (i : ImageDef). HasKey tables i one key) (sym same) first) (subst (λ (i : ImageDef). HasKey tables i other key) (sym same) second)

-- ---- images

-- Each image that is listed shows these tables, with identifiers of the store, and where it is unique no key twice; and each page of the space of images is one of theirs.
pub record AreSound (at : AccessView) (tables : Tables) : Type 0 where
  pub each : (number : ℕ) (image : ImageEntry) (relation : RelationEntry)
      → IsListedImage at.catalog.listing number image relation
      → IsSoundImage at tables number image relation
  pub reached : (key : PageKey) → key.space ≡ Image → is_some (at.pages.held key) ≡ true
      → IsReached at.pages.held at.catalog.listing tables key

module _ {at : AccessView} {tables : Tables} (small : at.pages.slots < 4294967296) (low : AreLow at.pages.held) (shows : ShowsTuples at tables) where
  rows_shown : {number : ℕ} {image : ImageEntry} {relation : RelationEntry} {nodes : List ℕ} → IsListedImage at.catalog.listing number image relation
      → HasRows at.pages.held at.pages.slots at.catalog.listing number image relation nodes → IsSoundImage at tables number image relation
  rows_shown {number} {image} {relation} its rows =
      rows_sound small shows its rows low (fitting_nodes at.catalog.listing shows.listed number image relation its)

  -- images that have the rows of their relations show the tables that the tuples show
  images_shown : HasImages at.pages.held at.pages.slots at.catalog.listing → AreSound at tables
  images_shown images = record {
    each = λ number image relation its. rows_shown its (images.each number image relation its).rows;
    reached = λ key space there.
        let of = images.reached key space there in
        let shown = rows_shown of.listed of.rows in
        record {
          number = of.number;
          image = of.image;
          relation = of.relation;
          pages = shown.pages;
          at = of.listed;
          spells = shown.spells;
          segment = of.segment;
          among = subst (λ (ps : List ℕ). Contains ps key.number) (image_once of.rows.tree shown.spells.tree) of.among;
        };
  }

-- ---- pages whose images are found sound

module _ (at : AccessView) (small : at.pages.slots < 4294967296) (fits : ListingFits at.catalog.listing) (only : (key : PageKey) → is_some (at.pages.held key) ≡ true → IsStorePage at.catalog.listing key) (allowed : (key : PageKey) → is_some (at.pages.held key) ≡ true → IsKey at.pages.slots key)
    (sound : (segment : ℕ) → is_some (segment_at at.catalog.listing segment) ≡ true → IsSegmentOf at.pages.held at.pages.slots at.catalog.listing segment) (chains : ChecksLinks at) (images : HasImages at.pages.held at.pages.slots at.catalog.listing) where
  heaps : (key : PageKey) → IsHeapKey key → is_some (at.pages.held key) ≡ true → is_some (segment_at at.catalog.listing key.segment) ≡ true
  heaps = heap_listed at.pages.held at.catalog.listing only

  abbrev tuples_alone : Tables
  tuples_alone = found_tables at.pages.held at.pages.slots at.catalog.listing fits heaps allowed sound

  found_chains : Gathered at.catalog.listing (bodies_of at.pages.held) tuples_alone
  found_chains = gathered {view = tuples_in at.pages} (tuples_found at.pages.held at.pages.slots at.catalog.listing fits heaps allowed sound small) (item_found at.pages.held at.pages.slots at.catalog.listing fits heaps allowed sound)
      (λ number link listed_so. (chains number link listed_so).chains) (λ number link listed_so. (chains number link listed_so).no_ends)

  abbrev tables : Tables
  tables = record { definitions = tuples_alone.definitions; contents = found_chains.contents }

  count_same : (name : Name) → tuple_count tables.contents name ≡ tuple_count tuples_alone.contents name
  count_same name = counts_alike tables.contents tuples_alone.contents found_chains.tuples name

  lives_alone : (name : Name) (tid : Tid) → IsLive tables name tid → IsLive tuples_alone name tid
  lives_alone name tid lives = ap is_some (sym (found_chains.tuples name tid)) ∙ lives

  found_shows : ShowsTuples at tables
  found_shows = record {
    listed = fits;
    defines = listing_defines fits;
    counts = λ number relation listed_so. count_same relation.name ∙ found_counts at.pages.held at.pages.slots at.catalog.listing fits heaps allowed sound number relation listed_so;
    contents = found_chains.spells.contents;
    tuples = found_chains.spells.tuples;
    tids = λ name tid lives. tids_found at.pages.held at.pages.slots at.catalog.listing fits heaps allowed sound name tid (lives_alone name tid lives);
  }

  found_low : AreLow at.pages.held
  found_low key there = low_number key.space (allowed key there).number
    where
      low_number : {n : ℕ} (space : Space) → n < number_limit at.pages.slots space → n < 4294967295
      low_number Home low = omega (arith, low, small)
      low_number Overflow low = omega (arith, low, small)
      low_number Image low = omega (arith, low, small)
      low_number System low = omega (arith, low)

  found_sound : AreSound at tables
  found_sound = images_shown small found_low found_shows images

  found_images : SpellsImages at.pages.held at.catalog.listing tables
  found_images = record {
    each = λ number image relation listed. let one = found_sound.each number image relation listed in (one.pages, one.spells);
    reached = found_sound.reached;
  }

  found_spells : SpellsTables at.pages.held at.catalog.listing tables
  found_spells = record {
    only = only;
    formed = formed_found at.pages.held at.pages.slots at.catalog.listing fits heaps allowed sound;
    linked = linked_found at.pages.held at.pages.slots at.catalog.listing fits heaps allowed sound;
    listed = fits;
    defines = found_shows.defines;
    counts = found_shows.counts;
    contents = found_shows.contents;
    images = found_images;
  }

  found_nodes : AreNodesWithin at.pages.slots at.pages.held at.catalog.listing
  found_nodes = all_within found_low fits found_images
      (λ number image relation listed. let one = found_sound.each number image relation listed in record { pages = one.pages; spells = one.spells; within = one.within })

  found_fit : Fits at.pages.slots tables
  found_fit = record {
    definitions = listing_fits fits found_shows.defines;
    tuples = found_shows.tuples;
    tids = found_shows.tids;
    alone = λ one other tid first second. alone_found at.pages.held at.pages.slots at.catalog.listing fits heaps allowed sound one other tid (lives_alone one tid first) (lives_alone other tid second);
    few = λ name. let few = few_found at.pages.held at.pages.slots at.catalog.listing fits heaps allowed sound name in omega (arith, few, count_same name);
    keys = keys_single fits found_shows.defines (λ number image relation listed. (found_sound.each number image relation listed).single);
    links = found_chains.spells.links;
    only = λ item there. has_content item (found_chains.spells.contents.only item there);
  }
    where
      has_content : (item : Item) → IsTupleItem at.catalog.listing item ⊎ IsChainItem at.catalog.listing item → HasContent item
      has_content item (inl of) = subst HasContent (sym of.is) (tt {0})
      has_content item (inr of) = subst HasContent (sym of.is) (tt {0})

  pub holds_found : HoldsListing at.pages.held at.catalog.listing → HoldsTables at.pages.held at.pages.slots at.catalog.listing
  holds_found system = record { tables = tables; system = system; spells = found_spells; nodes = found_nodes; fit = found_fit }

-- ---- tables that are spelled

module _ {held : Held} {slots : ℕ} {listing : Listing} {tables : Tables} (allowed : (key : PageKey) → is_some (held key) ≡ true → IsKey slots key) (spells : SpellsTables held listing tables) (fit : Fits slots tables) where
  fields_listed : (number : ℕ) (relation : RelationEntry) → relation_at listing number ≡ Some relation → fields_of tables relation.name ≡ Some (kinds relation.fields)
  fields_listed number relation at =
      let so = listed spells.listed spells.defines number relation at in
      ap (option_map (λ (r : RelationDef). kinds r.fields)) (spells.defines.relations number relation so.0 so.1)

  -- a tuple that is there fits the fields of its relation
  fits_listed : (number : ℕ) (relation : RelationEntry) (tid : Tid) (values : List Value) → relation_at listing number ≡ Some relation → content tables.contents (TupleItem relation.name tid) ≡ Some (Values values) → misfit (kinds relation.fields) values ≡ None
  fits_listed number relation tid values at is =
      let of = fit.tuples relation.name tid (Values values) is in
      let fields : of.fields ≡ kinds relation.fields = same_Some _ _ (sym of.defined ∙ fields_listed number relation at) in
      let same : values ≡ of.values = let e : Values values ≡ Values of.values = of.tuple in cc in
      (λ i. misfit (sym fields i) (same i)) ∙ of.fit

  good_body : (segment : ℕ) (tid : Tid) (body : List ℕ) → bodies_of held segment tid ≡ Some body → is_body listing segment body ≡ true
  good_body segment tid body is =
      let of = spells.contents.bodies_are segment tid body is in
      let bytes : List ℕ = tuple_bytes (kinds of.relation.fields) of.values in
      let spelled = (is_spelled_exactly (kinds of.relation.fields) bytes).1 (of.values, record { fit = fits_listed of.number of.relation tid of.values of.at of.holds; storable = of.storable; same = refl }) in
      ap (is_body listing segment) (of.is ∙ body_is listing tables.contents of.number of.relation of.at tid of.values)
      ∙ body_of_bytes listing segment of.number (prefix_of listing tables.contents of.number tid) bytes (long_prefix tables.contents of.number tid listing.links)
      ∙ ap (λ (found : Option RelationEntry). is_values_of found segment bytes) of.at
      ∙ and_from (of.relation.segment == segment) (is_spelled (kinds of.relation.fields) bytes) (eq-eqb of.relation.segment segment of.within) spelled

  spelled_good : AreGood listing held slots
  spelled_good = record { fits = spells.listed; good = good_body; named = named_in held slots allowed }

  -- what a body of the tables is read as
  same_read : (segment : ℕ) (tid : Tid) (body : List ℕ) (of : IsTupleBody listing tables.contents segment tid body) → is_body listing segment body ≡ true → (named_by listing body ≡ of.relation.name) × (held_by listing body ≡ Values of.values)
  same_read segment tid body of good =
      let read = relation_body listing segment body good in
      let prefix : List ℕ = prefix_of listing tables.contents of.number tid in
      let its_bytes : List ℕ = tuple_bytes (kinds of.relation.fields) of.values in
      let whole : read.number ∷ (read.prefix ++ read.bytes) ≡ of.number ∷ (prefix ++ its_bytes) = sym read.is ∙ of.is ∙ body_is listing tables.contents of.number of.relation of.at tid of.values in
      let numbers : read.number ≡ of.number = cc in
      let rest : read.prefix ++ read.bytes ≡ prefix ++ its_bytes = cc in
      let bytes : read.bytes ≡ its_bytes =
      sym (drop_at read.prefix read.bytes (prefix_size listing.links of.number) (read.long ∙ ap (prefix_size listing.links) numbers))
      ∙ ap (drop (prefix_size listing.links of.number)) rest
      ∙ drop_at prefix its_bytes (prefix_size listing.links of.number) (long_prefix tables.contents of.number tid listing.links) in
      let relations : read.relation ≡ of.relation = same_relation spells.listed read.number of.number read.relation of.relation read.at of.at numbers in
      let fitting : misfit (kinds read.relation.fields) of.values ≡ None = ap (λ (r : RelationEntry). misfit (kinds r.fields) of.values) relations ∙ fits_listed of.number of.relation tid of.values of.at of.holds in
      let values = tuple_bytes_same 1 (kinds read.relation.fields) (values_in (kinds read.relation.fields) read.bytes) of.values read.spelled.fit fitting read.spelled.storable of.storable (sym read.spelled.same ∙ bytes ∙ ap (λ (r : RelationEntry). tuple_bytes (kinds r.fields) of.values) (sym relations)) in
      (read.named ∙ ap (λ (r : RelationEntry). r.name) relations, read.holds ∙ ap Values values)

  -- a tuple that is found is there
  there_spelled : (item : Item) (c : Content) → content (contents_of listing (spots_of held slots)) item ≡ Some c → content tables.contents item ≡ Some c
  there_spelled item c is =
      let found = found_spot spelled_good item c is in
      let of = spells.contents.bodies_are found.0.0 found.0.1.0 found.0.1.1 found.1 in
      let read = same_read found.0.0 found.0.1.0 found.0.1.1 of (good_body found.0.0 found.0.1.0 found.0.1.1 found.1) in
      ap (content tables.contents) (sym found.2 ∙ ap (λ (n : Name). TupleItem n found.0.1.0) read.0) ∙ of.holds ∙ ap Some (sym read.1 ∙ found.3)

  tuple_item : (name : Name) (tid : Tid) → IsTupleItem listing (TupleItem name tid) ⊎ IsChainItem listing (TupleItem name tid) → IsTupleItem listing (TupleItem name tid)
  tuple_item name tid (inl of) = of
  tuple_item name tid (inr of) = let both : TupleItem name tid ≡ ChainItem of.link.name of.parent = of.is in absurd (cc)

  -- and one that is there is found
  found_spelled : (name : Name) (tid : Tid) (c : Content) → content tables.contents (TupleItem name tid) ≡ Some c → content (contents_of listing (spots_of held slots)) (TupleItem name tid) ≡ Some c
  found_spelled name tid c is =
      let so = spelled spells fit (TupleItem name tid) (tuple_item name tid (spells.contents.only (TupleItem name tid) (ap is_some is))) c is in
      let body = body_of listing tables.contents so.number so.tid so.values in
      let of : IsTupleBody listing tables.contents so.relation.segment so.tid body = record { number = so.number; relation = so.relation; values = so.values; at = so.at; within = refl; is = refl; storable = so.storable; holds = ap (content tables.contents) (sym so.is) ∙ is ∙ ap Some so.tuple } in
      let read = same_read so.relation.segment so.tid body of (good_body so.relation.segment so.tid body so.stands) in
      ap (content (contents_of listing (spots_of held slots))) (so.is ∙ ap (λ (n : Name). TupleItem n so.tid) (sym read.0)) ∙ found_at spelled_good so.relation.segment so.tid body so.stands ∙ ap Some (read.1 ∙ sym so.tuple)

  same_tuples : (name : Name) (tid : Tid) → content tables.contents (TupleItem name tid) ≡ content (contents_of listing (spots_of held slots)) (TupleItem name tid)
  same_tuples name tid = same (content tables.contents (TupleItem name tid)) refl
    where
      same : (c : Option Content) → content tables.contents (TupleItem name tid) ≡ c → content tables.contents (TupleItem name tid) ≡ content (contents_of listing (spots_of held slots)) (TupleItem name tid)
      same (Some c) is = is ∙ sym (found_spelled name tid c is)
      same None is = is ∙ sym (absent (content (contents_of listing (spots_of held slots)) (TupleItem name tid)) refl)
        where
          absent : (c : Option Content) → content (contents_of listing (spots_of held slots)) (TupleItem name tid) ≡ c → c ≡ None
          absent None there = refl
          absent (Some c) there = absurd (none-some c (sym is ∙ there_spelled (TupleItem name tid) c there))

  -- each segment is sound
  pub spelled_segment : (segment : ℕ) → IsSegmentOf held slots listing segment
  spelled_segment segment = record {
    sound = record {
      formed = λ key bytes page is. spells.formed key bytes page.1 is;
      linked = spells.linked segment;
      good = good_body segment;
    };
    counts = λ number relation at within.
        let low = segment_within spells.listed number relation at in
        let count = relation_counted spelled_good number relation at low.0 low.1 in
        let live = spells.counts number relation at in
        let few = fit.few relation.name in
        let same : tuple_count tables.contents relation.name ≡ count_of number (tuples_of held segment slots) = counts_alike tables.contents (contents_of listing (spots_of held slots)) same_tuples relation.name ∙ count ∙ ap (λ (n : ℕ). count_of number (tuples_of held n slots)) within in
        (sym same ∙ live, omega (arith, few, live));
  }

-- ---- links of tables that are spelled

-- as far as tuples and chains go
members_spelled : (at : AccessView) (tables : Tables) → SpellsTables at.pages.held at.catalog.listing tables → Fits at.pages.slots tables → at.pages.slots < 4294967296 → SpellsMembers at.catalog.listing (bodies_of at.pages.held) tables
members_spelled at tables spells fit small = record {
  listed = spells.listed;
  defines = spells.defines;
  contents = spells.contents;
  tuples = fit.tuples;
  links = fit.links;
  tids = λ name tid lives. let named = fit.tids name tid lives in (omega (arith, named.page, small), omega (arith, named.slot));
}

-- ---- images of tables that are spelled

module _ {at : AccessView} {tables : Tables} (spells : SpellsTables at.pages.held at.catalog.listing tables) (fit : Fits at.pages.slots tables) where
  pub shows_spelled : ShowsTuples at tables
  shows_spelled = record {
    listed = spells.listed;
    defines = spells.defines;
    counts = spells.counts;
    contents = spells.contents;
    tuples = fit.tuples;
    tids = fit.tids;
  }

  -- each listed link has its chains
  pub links_spelled : at.pages.slots < 4294967296 → ChecksLinks at
  links_spelled small number link listed_so =
      let its = listed_link spells.listed number link listed_so in record {
        chains = chains_had {view = tuples_in at.pages} (members_spelled at tables spells fit small) number link its.0 its.1;
        no_ends = λ binary. no_ends_had (members_spelled at tables spells fit small) number link its.0 its.1 binary;
      }

  pub sound_spelled : AreNodesWithin at.pages.slots at.pages.held at.catalog.listing → AreSound at tables
  sound_spelled below = record {
    each = λ number image relation listed.
        let one = spells.images.each number image relation listed in
        record {
          pages = one.0;
          spells = one.1;
          within = λ page node among. below number image relation listed page node;
          single = single at.pages spells listed fit;
        };
    reached = spells.images.reached;
  }

-- ---- pages of no tables

-- The pages of a listing's system space spell tables by no other listing.
pub none_by : (held : Held) (slots : ℕ) (listing : Listing) → ListingFits listing → HoldsListing held listing → ((tables : Tables) → SpellsTables held listing tables → AreNodesWithin slots held listing → Fits slots tables → ⊥) → HoldsNone held slots
none_by held slots listing fits system none other tables there spells below fit =
    let same = listing_once held spells.listed fits there system in
    none tables (subst (λ (l : Listing). SpellsTables held l tables) same spells) (subst (AreNodesWithin slots held) same below) fit
