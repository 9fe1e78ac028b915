-- Pages that spell tables spell what a definition makes of them, by the listing with that definition.
use Rattle.std.proofs.Common.{◌≡◌, ◌≢◌, ◌⊎◌, inl, inr, ⊎_elim, ℕ, zero, suc, ◌-◌, ◌≤◌, true, false, List, ◌∷◌, ◌++◌, length, get_or, refl, sym, ◌∙◌, ap, arith}
use Rattle.std.specs.Prelude.{Option, Some, None, IfSome, is_some, option_map, option_and_then, slice_set, flat_map, map as list_map}
use Rattle.std.specs.FinMap as map
use Rattle.std.specs.FinMap.{FinMap}
use Rattle.std.proofs.lemmas.Bool.{cases_eq, cases_lt, true≢false}
use Rattle.std.proofs.lemmas.List.{get_or_past, get_or-set_same, get_or-set_other, length-map}
use Rattle.std.proofs.lemmas.Option.{none-some, same_Some}
use Rattle.rss_base.specs.Paged.{Held, page_key}
use Rattle.rss_base.specs.Listings.{Listing, ListingFits, LinkFits, IsLeastUnused, IsNumberOf, numbered, with_number, segment_at, relation_at, image_at, link_at, with_segment, with_relation}
use Rattle.rss_base.specs.declared.key.PageKey.{PageKey}
use Rattle.rss_base.specs.declared.key.Space.{Space}
use Rattle.rss_base.specs.declared.key.Space.TheVariants.{Home, Overflow, Image, System}
use Rattle.rss_base.specs.declared.name.Name.{Name}
use Rattle.rss_base.specs.declared.tid.Tid.{Tid}
use Rattle.rss_base.specs.declared.item.Item.TheVariants.{Tuple}
use Rattle.rss_base.specs.declared.field.FieldDef.{FieldDef}
use Rattle.rss_base.specs.declared.relation.RelationEntry.{RelationEntry}
use Rattle.rss_base.specs.declared.image.ImageEntry.{ImageEntry}
use Rattle.rss_base.specs.declared.link.LinkEntry.{LinkEntry}
use Rattle.rss_base.specs.declared.value.Value.{Value}
use Rattle.rss_base.specs.declared.item.Item.{Item}
use Rattle.rss_base.specs.TupleTypes.{tuple_bytes}
use Rattle.rss_base.specs.declared.refusal.Kind.TheVariants.{Segment as SegmentKind, Relation as RelationKind}
use Rattle.rss_page.specs.Content.{Content as Entry, Empty, Here, Forward}
use Rattle.rss_page.specs.Slotted.{IsHeapKey}
use Rattle.rss_page.specs.Surveyed.{held_at}
use Rattle.rss_tuple.specs.Directory.{Bodies, contents_in, homes, overflows, bodies_of}
use Rattle.rss_tuple.specs.Heaps.{IsLed}
use Rattle.rss_model.specs.Items.{name_cmp}
use Rattle.rss_model.specs.Images.{entry_cmp, entry_of, image_list}
use Rattle.rss_model.specs.Tables.{ImageDef, LinkDef, Definitions, Contents, Tables, content, tuple_count}
use Rattle.rss_model.specs.Defining.{with_definitions}
use Rattle.rss_stored.specs.Store.{AreEnds, Defines, DefinesPaths, HasNumber, IsChainItem, IsListedImage, IsListedLink, IsStorePage, SpellsContents, SpellsImage, SpellsImages, SpellsTables, definition_of, image_definition, link_definition, listed_block, pair_spelled, prefix_of, relation_name}
use Rattle.rss_model.proofs.Counts.{none_counted, count_of_none}
use Rattle.rss_stored.proofs.Listed.{at_place, listed, empty_entry, fields_at_is}
use Rattle.rss_model.proofs.Named.{made, made_here, made_other, made_still, gone, gone_other}
use Rattle.rss_model.proofs.LogLists.{some_of}
use Rattle.rss_model.proofs.Redefining.{same_fields}
use Rattle.rss_stored.proofs.Spelled.{name_numbered, named_relation}
use Rattle.rss_base.specs.declared.value.FieldForm.{FieldForm}

-- ---- one number of a listing

pub number_at : {A : Type 0} (items : List (Option A)) (number : ℕ) → 1 ≤ number → numbered items number ≡ get_or items (number - 1) None
number_at items zero low = absurd (omega (arith, low))
number_at items (suc k) low = at_place items k ∙ ap (λ (j : ℕ). get_or items j None) (less k)
  where
    less : (k : ℕ) → k ≡ suc k - 1
    less k = omega arith

-- what has a number has one of the list
pub number_within_list : {A : Type 0} (items : List (Option A)) (number : ℕ) (item : A) → numbered items number ≡ Some item → (1 ≤ number) × (number ≤ length items)
number_within_list items zero item is = absurd (none-some item is)
number_within_list items (suc k) item is = elim (cases_lt k (length items)) [
  | inl low ↦ (omega arith, omega (arith, low))
  | inr past ↦ absurd (none-some item (sym (at_place items k ∙ get_or_past items k None past) ∙ is))
]

module _ {A : Type 0} (items : List (Option A)) (number : ℕ) (item : Option A) (low : 1 ≤ number) where
  -- it has this now
  pub number_set : number ≤ length items → numbered (with_number items number item) number ≡ item
  number_set high = number_at (with_number items number item) number low ∙ get_or-set_same items (number - 1) item None (omega (arith, low, high))

  -- another has what it had
  pub number_kept : (k : ℕ) → k ≢ number → numbered (with_number items number item) k ≡ numbered items k
  number_kept zero other = refl
  number_kept (suc k) other = at_place (slice_set items (number - 1) item) k ∙ get_or-set_other items (number - 1) k item None (λ same. other (above k same)) ∙ sym (at_place items k)
    where
      above : (k : ℕ) → k ≡ number - 1 → suc k ≡ number
      above k same = omega (arith, low, same)

-- a relation's number is that of its name
pub number_of : (listing : Listing) (number : ℕ) (relation : RelationEntry) → relation_at listing number ≡ Some relation → IsNumberOf RelationKind listing relation.name number
number_of listing number relation at = name_numbered (λ (r : RelationEntry). r.name) listing.relations number relation at

-- a number that no name has is that of no relation
pub no_relation_at : (listing : Listing) (number : ℕ) → numbered (list_map (option_map (λ (r : RelationEntry). r.name)) listing.relations) number ≡ None → relation_at listing number ≡ None
no_relation_at listing number free = by (relation_at listing number) refl
  where
    by : (found : Option RelationEntry) → relation_at listing number ≡ found → relation_at listing number ≡ None
    by None is = is
    by (Some relation) is = absurd (none-some relation.name (sym free ∙ number_of listing number relation is))

-- ---- tuples, where the relations that have some keep their numbers

-- the relation has a tuple with this identifier
abbrev pub IsTupleThere : Contents → RelationEntry → Tid → Type 0
IsTupleThere contents relation tid = is_some (content contents (Tuple relation.name tid)) ≡ true

-- a relation that has tuples keeps its number
abbrev pub KeepsRelations : Listing → Listing → Contents → Type 0
KeepsRelations a b contents =
    (number : ℕ) (relation : RelationEntry) (tid : Tid) → relation_at a number ≡ Some relation
    → IsTupleThere contents relation tid → relation_at b number ≡ Some relation

-- and its tuples keep their prefixes
abbrev pub KeepsPrefixes : Listing → Listing → Contents → Type 0
KeepsPrefixes a b contents =
    (number : ℕ) (relation : RelationEntry) (tid : Tid) → relation_at a number ≡ Some relation
    → IsTupleThere contents relation tid → prefix_of b contents number tid ≡ prefix_of a contents number tid

-- a chain that holds tuples keeps its link
abbrev pub KeepsChains : Listing → Listing → Contents → Type 0
KeepsChains a b contents =
    (item : Item) → is_some (content contents item) ≡ true → IsChainItem a item → IsChainItem b item

module _ (a b : Listing) (bodies : Bodies) (contents : Contents) (into : KeepsRelations a b contents) (back : KeepsRelations b a contents) where
  -- the bodies are those of the same contents
  pub contents_renumbered : KeepsPrefixes a b contents → KeepsChains a b contents → AreEnds b contents → SpellsContents a bodies contents → SpellsContents b bodies contents
  contents_renumbered prefixes chains ends old = record {
    stands = λ number relation tid values at holds.
        let was = back number relation tid at (ap is_some holds) in
        old.stands number relation tid values was holds ∙ ap Some (same_body number values (sym (prefixes number relation tid was (ap is_some holds))) (fields_at_is a number relation was ∙ sym (fields_at_is b number relation at)));
    bodies_are = λ segment tid body is.
        let of = old.bodies_are segment tid body is in
        record {
          number = of.number;
          relation = of.relation;
          values = of.values;
          at = into of.number of.relation tid of.at (ap is_some of.holds);
          within = of.within;
          is = of.is ∙ same_body of.number of.values (sym (prefixes of.number of.relation tid of.at (ap is_some of.holds)))
              (fields_at_is a of.number of.relation of.at ∙ sym (fields_at_is b of.number of.relation (into of.number of.relation tid of.at (ap is_some of.holds))));
          storable = of.storable;
          holds = of.holds;
        };
    only = λ item is. ⊎_elim (λ on. inl (record { number = on.number; relation = on.relation; tid = on.tid; at = into on.number on.relation on.tid on.at (ap (λ i. is_some (content contents i)) (sym on.is) ∙ is); is = on.is })) (λ on. inr (chains item is on)) (old.only item is);
    ends = ends;
  }
    where
      same_body : {x y : List ℕ} {f g : List FieldForm} (number : ℕ) (values : List Value) → x ≡ y → f ≡ g → number ∷ (x ++ tuple_bytes f values) ≡ number ∷ (y ++ tuple_bytes g values)
      same_body number values same fields = λ i. number ∷ (same i ++ tuple_bytes (fields i) values)

  -- where the links stay
  pub contents_relisted : b.links ≡ a.links → SpellsContents a bodies contents → SpellsContents b bodies contents
  contents_relisted links old = contents_renumbered
      (λ number relation tid at there. ap (flat_map (listed_block contents number tid)) links)
      (λ item is on. record { number = on.number; link = on.link; parent = on.parent; at = link_kept on.number on.link on.at; is = on.is })
      (λ number link at. old.ends number link (link_was number link at)) old
    where
      link_kept : (number : ℕ) (link : LinkEntry) → link_at a number ≡ Some link → link_at b number ≡ Some link
      link_kept number link at = ap (λ (l : List (Option LinkEntry)). numbered l number) links ∙ at

      link_was : (number : ℕ) (link : LinkEntry) → link_at b number ≡ Some link → link_at a number ≡ Some link
      link_was number link at = ap (λ (l : List (Option LinkEntry)). numbered l number) (sym links) ∙ at

-- ---- links that keep their relations

-- each link that the second listing has, the first one has, and it is defined so by both
abbrev pub KeepsLinks : Listing → Listing → Type 0
KeepsLinks a b =
    (number : ℕ) (link : LinkEntry) (child : RelationEntry) → IsListedLink b number link child
    → IsListedLink a number link child × (link_definition b link child ≡ link_definition a link child)

if_some_map : {A : Type 0} {P Q : A → Type 0} (o : Option A) → ((x : A) → P x → Q x) → IfSome o P → IfSome o Q
if_some_map None f is = tt
if_some_map (Some x) f is = f x is

parents_same : (a b : Listing) (parent : Option ℕ) → IfSome parent (λ number. relation_at b number ≡ relation_at a number) → option_and_then (relation_name b) parent ≡ option_and_then (relation_name a) parent
parents_same a b None same = refl
parents_same a b (Some number) same = ap (option_map (λ (r : RelationEntry). r.name)) same

-- the links are the same, and the numbers of their relations, which some listing has, have what they had
module _ (a b has : Listing) (links : b.links ≡ a.links) (fit : (number : ℕ) (link : LinkEntry) → link_at b number ≡ Some link → LinkFits has link) (same : (number : ℕ) → is_some (relation_at has number) ≡ true → relation_at b number ≡ relation_at a number) where
  pub links_kept : KeepsLinks a b
  links_kept number link child l =
      let its = fit number link l.at in
      let parents = parents_same a b link.parent (if_some_map link.parent (λ n is. same n is.0) its.parent) in (
        record { at = ap (λ (l : List (Option LinkEntry)). numbered l number) (sym links) ∙ l.at; within = sym (same link.child its.child) ∙ l.within },
        (λ i. record { parent = parents i; child = child.name; late = link.late }),
      )

-- ---- images that keep their relations

-- each image that the first listing has, the second one has, with the same relation
abbrev pub KeepsImages : Listing → Listing → Type 0
KeepsImages a b =
    (number : ℕ) (image : ImageEntry) (relation : RelationEntry)
    → IsListedImage a number image relation → IsListedImage b number image relation

-- the list of an image is determined by its relation's fields
same_list : (tables : Tables) (definitions : Definitions) (image : ImageDef) → map.get definitions.relations image.relation ≡ map.get tables.definitions.relations image.relation → image_list (with_definitions definitions tables) image ≡ image_list tables image
same_list tables definitions image same =
    ap (λ (fields : List FieldDef). map.keys (map.from_entries {R = entry_cmp} (flat_map (λ held. entry_of image.relation fields image.fields held.0 held.1) (map.entries tables.contents))))
    (same_fields tables.definitions definitions image.relation same)

module _ {a b : Listing} (into : KeepsImages a b) (back : KeepsImages b a) where
  -- the pages that spell them do so still, where their lists are the same
  pub images_kept : {held : Held} {one two : Tables} → ((number : ℕ) (image : ImageEntry) (relation : RelationEntry) → IsListedImage a number image relation → image_list two (image_definition image relation) ≡ image_list one (image_definition image relation)) → SpellsImages held a one → SpellsImages held b two
  images_kept {held = held} {one = one} {two = two} same images = record {
    each = λ number image relation l. let shown = images.each number image relation (back number image relation l) in (shown.0, still (back number image relation l) shown.1);
    reached = λ key is there.
        let of = images.reached key is there in
        record { number = of.number; image = of.image; relation = of.relation; pages = of.pages; at = into of.number of.image of.relation of.at; spells = still of.at of.spells; segment = of.segment; among = of.among };
  }
    where
      still : {number : ℕ} {image : ImageEntry} {relation : RelationEntry} {pages : List ℕ} → IsListedImage a number image relation → SpellsImage held one number image relation pages → SpellsImage held two number image relation pages
      still {number = number} {image = image} {relation = relation} l is = record { pairs = is.pairs; tree = is.tree; once = is.once; list = is.list ∙ ap (list_map (pair_spelled image relation)) (sym (same number image relation l)) }

  -- and they are defined as they were
  paths_kept : {one two : Definitions} → b.images ≡ a.images → b.links ≡ a.links → KeepsLinks a b → two.images ≡ one.images → two.links ≡ one.links → DefinesPaths a one → DefinesPaths b two
  paths_kept {one = one} {two = two} listed linked keeps images links paths = record {
    images = λ number image relation l. ap (λ (m : FinMap name_cmp ImageDef). map.get m image.name) images ∙ paths.images number image relation (back number image relation l);
    only_images = λ name there.
        let had = paths.only_images name (ap (λ (m : FinMap name_cmp ImageDef). is_some (map.get m name)) (sym images) ∙ there) in
        (had.0, ap (λ (l : List (Option ImageEntry)). numbered (list_map (option_map (λ (i : ImageEntry). i.name)) l) had.0) listed ∙ had.1);
    links = λ number link child l.
        let was = keeps number link child l in
        ap (λ (m : FinMap name_cmp LinkDef). map.get m link.name) links ∙ paths.links number link child was.0 ∙ ap Some (sym was.1);
    only_links = λ name there.
        let had = paths.only_links name (ap (λ (m : FinMap name_cmp LinkDef). is_some (map.get m name)) (sym links) ∙ there) in
        (had.0, ap (λ (l : List (Option LinkEntry)). numbered (list_map (option_map (λ (i : LinkEntry). i.name)) l) had.0) linked ∙ had.1);
  }

-- a segment comes or goes
segment_into : (listing : Listing) (number : ℕ) (segment : Option Name) → KeepsImages listing (with_segment listing number segment)
segment_into listing number segment k image relation l = record { at = l.at; within = l.within }

segment_back : (listing : Listing) (number : ℕ) (segment : Option Name) → KeepsImages (with_segment listing number segment) listing
segment_back listing number segment k image relation l = record { at = l.at; within = l.within }

segment_links : (listing : Listing) (number : ℕ) (segment : Option Name) → KeepsLinks listing (with_segment listing number segment)
segment_links listing number segment k link child l = (record { at = l.at; within = l.within }, refl)

-- ---- a segment is made

module _ {held : Held} {listing : Listing} {tables : Tables} (spells : SpellsTables held listing tables) (number : ℕ) (name : Name) (least : IsLeastUnused SegmentKind listing number) (fits : ListingFits (with_segment listing number (Some name))) where
  abbrev listed_now : Listing
  listed_now = with_segment listing number (Some name)

  here : segment_at listed_now number ≡ Some name
  here = number_set listing.segments number (Some name) least.low least.high

  still : (k : ℕ) → is_some (segment_at listing k) ≡ true → segment_at listed_now k ≡ segment_at listing k
  still k there = number_kept listing.segments number (Some name) least.low k (λ same. true≢false (sym there ∙ ap (λ (n : ℕ). is_some (segment_at listing n)) same ∙ ap is_some least.free))

  segment_made_defines : Defines listed_now (record tables.definitions { segments = map.insert tables.definitions.segments name tt })
  segment_made_defines = record {
    segments = λ q. (to q, from q);
    relations = λ k relation segment l. spells.defines.relations k relation segment (record { at = l.at; within = sym (still relation.segment (spells.listed.relations k relation l.at).segment) ∙ l.within });
    only_relations = spells.defines.only_relations;
    paths = paths_kept (segment_into listing number (Some name)) (segment_back listing number (Some name)) refl refl (segment_links listing number (Some name)) refl refl spells.defines.paths;
  }
    where
      to : (q : Name) → is_some (map.get (map.insert tables.definitions.segments name tt) q) ≡ true → HasNumber SegmentKind listed_now q
      to q there = elim (made tables.definitions.segments name tt q) [
        | inl same ↦ (number, here ∙ ap Some (sym same))
        | inr was ↦ let had = (spells.defines.segments q).0 (ap is_some (sym was) ∙ there) in (had.0, still had.0 (ap is_some had.1) ∙ had.1)
      ]

      from : (q : Name) → HasNumber SegmentKind listed_now q → is_some (map.get (map.insert tables.definitions.segments name tt) q) ≡ true
      from q (n, at) = elim (cases_eq n number) [
        | inl same ↦
            let is : name ≡ q = same_Some _ _ (sym here ∙ ap (segment_at listed_now) (sym same) ∙ at) in
            ap (λ (m : Name). is_some (map.get (map.insert tables.definitions.segments name tt) m)) (sym is) ∙ ap is_some (made_here tables.definitions.segments name tt)
        | inr other ↦ made_still tables.definitions.segments name tt q ((spells.defines.segments q).1 (n, sym (number_kept listing.segments number (Some name) least.low n other) ∙ at))
      ]

  pub segment_made_spells : SpellsTables held listed_now (with_definitions (record tables.definitions { segments = map.insert tables.definitions.segments name tt }) tables)
  segment_made_spells = record {
    only = λ key there. elim (spells.only key there) [
      | inl system ↦ inl system
      | inr heap ↦ inr (ap is_some (still key.segment heap) ∙ heap)
    ];
    formed = spells.formed;
    linked = spells.linked;
    listed = fits;
    defines = segment_made_defines;
    counts = spells.counts;
    contents = contents_relisted listing listed_now (bodies_of held) tables.contents (λ k relation tid at there. at) (λ k relation tid at there. at) refl spells.contents;
    images = images_kept (segment_into listing number (Some name)) (segment_back listing number (Some name)) (λ k image relation l. refl) spells.images;
  }

-- ---- a segment is dropped

-- a page of the system space, of an image, or of the heap
pub page_kind : (key : PageKey) (space : Space) → key.space ≡ space → (key.space ≡ System) ⊎ ((key.space ≡ Image) ⊎ IsHeapKey key)
page_kind key System is = inl is
page_kind key Image is = inr (inl is)
page_kind key Home is = inr (inr (inl is))
page_kind key Overflow is = inr (inr (inr is))

module _ {held : Held} {listing : Listing} {tables : Tables} (spells : SpellsTables held listing tables) (number : ℕ) (name : Name) (at : segment_at listing number ≡ Some name) (none : (k : ℕ) (relation : RelationEntry) → relation_at listing k ≡ Some relation → relation.segment ≡ number → ⊥)
    (fits : ListingFits (with_segment listing number None)) where
  abbrev listed_less : Listing
  listed_less = with_segment listing number None

  gone_number : segment_at listed_less number ≡ None
  gone_number = let within = number_within_list listing.segments number name at in number_set listing.segments number None within.0 within.1

  others : (k : ℕ) → k ≢ number → segment_at listed_less k ≡ segment_at listing k
  others k other = number_kept listing.segments number None (number_within_list listing.segments number name at).0 k other

  -- it has no pages
  no_body : (tid : Tid) (body : Option (List ℕ)) → bodies_of held number tid ≡ body → body ≡ None
  no_body tid None is = refl
  no_body tid (Some body) is = let of = spells.contents.bodies_are number tid body is in absurd (none of.number of.relation of.at of.within)

  no_home : (page : ℕ) (bytes : List ℕ) → held (page_key number Home page) ≡ Some bytes → ⊥
  no_home page bytes is = (spells.formed (page_key number Home page) bytes (inl refl) is).some (λ slot.
      let home = empty_entry (homes held number) (overflows held number) (spells.linked number) page slot (no_body (record { page = page; slot = slot }) _ refl) in
      ap (λ (b : Option (List ℕ)). held_at (contents_in b) slot) (sym is) ∙ home)

  no_forward : (page slot to_page to_slot : ℕ) → homes held number page slot ≡ Forward to_page to_slot → ⊥
  no_forward page slot to_page to_slot forward = by (held (page_key number Home page)) refl
    where
      by : (bytes : Option (List ℕ)) → held (page_key number Home page) ≡ bytes → ⊥
      by None is =
          let empty : Empty ≡ Forward to_page to_slot = sym (ap (λ (b : Option (List ℕ)). held_at (contents_in b) slot) is) ∙ forward in
          absurd (cc)
      by (Some bytes) is = no_home page bytes is

  no_overflow : (page : ℕ) (bytes : List ℕ) → held (page_key number Overflow page) ≡ Some bytes → ⊥
  no_overflow page bytes is = (spells.formed (page_key number Overflow page) bytes (inr refl) is).some (λ slot. ap (λ (b : Option (List ℕ)). held_at (contents_in b) slot) (sym is) ∙ empty slot (overflows held number page slot) refl)
    where
      led : {slot : ℕ} → IsLed (homes held number) page slot → ⊥
      led {slot = slot} by = no_forward by.from_page by.from_slot page slot by.forward

      empty : (slot : ℕ) (entry : Entry) → overflows held number page slot ≡ entry → entry ≡ Empty
      empty slot Empty is = refl
      empty slot (Here body) is = absurd (led ((spells.linked number).led page slot (λ e. absurd (cc))))
      empty slot (Forward to_page to_slot) is = absurd (led ((spells.linked number).led page slot (λ e. absurd (cc))))

  no_page : (key : PageKey) → is_some (held key) ≡ true → IsHeapKey key → key.segment ≢ number
  no_page key there heap same = elim heap [
    | inl home ↦
        let is : held key ≡ held (page_key number Home key.number) = λ i. held (page_key (same i) (home i) key.number) in
        let bytes = some_of (held key) there in
        no_home key.number bytes.0 (sym is ∙ bytes.1)
    | inr over ↦
        let is : held key ≡ held (page_key number Overflow key.number) = λ i. held (page_key (same i) (over i) key.number) in
        let bytes = some_of (held key) there in
        no_overflow key.number bytes.0 (sym is ∙ bytes.1)
  ]

  segment_gone_defines : Defines listed_less (record tables.definitions { segments = map.remove tables.definitions.segments name })
  segment_gone_defines = record {
    segments = λ q. (to q, from q);
    relations = λ k relation segment l. spells.defines.relations k relation segment (record { at = l.at; within = sym (others relation.segment (none k relation l.at)) ∙ l.within });
    only_relations = spells.defines.only_relations;
    paths = paths_kept (segment_into listing number None) (segment_back listing number None) refl refl (segment_links listing number None) refl refl spells.defines.paths;
  }
    where
      to : (q : Name) → is_some (map.get (map.remove tables.definitions.segments name) q) ≡ true → HasNumber SegmentKind listed_less q
      to q there =
          let was = gone tables.definitions.segments name q there in
          let had = (spells.defines.segments q).0 (ap is_some (sym was.1) ∙ there) in
          (had.0, others had.0 (λ same. was.0 (same_Some _ _ (sym had.1 ∙ ap (segment_at listing) same ∙ at))) ∙ had.1)

      from : (q : Name) → HasNumber SegmentKind listed_less q → is_some (map.get (map.remove tables.definitions.segments name) q) ≡ true
      from q (n, has) =
          let other : n ≢ number = λ same. none-some q (sym gone_number ∙ ap (segment_at listed_less) (sym same) ∙ has) in
          let had : segment_at listing n ≡ Some q = sym (others n other) ∙ has in
          ap is_some (gone_other tables.definitions.segments name q (λ same. other (spells.listed.segments_once n number q had (at ∙ ap Some (sym same))))) ∙ (spells.defines.segments q).1 (n, had)

  -- an image's page is that of a relation
  no_image_page : (key : PageKey) → is_some (held key) ≡ true → key.space ≡ Image → key.segment ≢ number
  no_image_page key there space same =
      let of = spells.images.reached key space there in
      none of.image.relation of.relation of.at.within (sym of.segment ∙ same)

  page_stays : (key : PageKey) → is_some (held key) ≡ true → (key.space ≡ System) ⊎ ((key.space ≡ Image) ⊎ IsHeapKey key) → IsStorePage listing key → IsStorePage listed_less key
  page_stays key there (inl system) on = inl system
  page_stays key there (inr (inl image)) (inl system) = inl system
  page_stays key there (inr (inl image)) (inr segment) = inr (ap is_some (others key.segment (no_image_page key there image)) ∙ segment)
  page_stays key there (inr (inr heap)) (inl system) = inl system
  page_stays key there (inr (inr heap)) (inr segment) = inr (ap is_some (others key.segment (no_page key there heap)) ∙ segment)

  pub segment_gone_spells : SpellsTables held listed_less (with_definitions (record tables.definitions { segments = map.remove tables.definitions.segments name }) tables)
  segment_gone_spells = record {
    only = λ key there. page_stays key there (page_kind key key.space refl) (spells.only key there);
    formed = spells.formed;
    linked = spells.linked;
    listed = fits;
    defines = segment_gone_defines;
    counts = spells.counts;
    contents = contents_relisted listing listed_less (bodies_of held) tables.contents (λ k relation tid at there. at) (λ k relation tid at there. at) refl spells.contents;
    images = images_kept (segment_into listing number None) (segment_back listing number None) (λ k image relation l. refl) spells.images;
  }

-- ---- a relation is made

module _ {held : Held} {listing : Listing} {tables : Tables} (spells : SpellsTables held listing tables) (number : ℕ) (new : RelationEntry) (defined : (tid : Tid) → IsTupleThere tables.contents new tid → is_some (map.get tables.definitions.relations new.name) ≡ true) (segment : Name) (least : IsLeastUnused RelationKind listing number)
    (fits : ListingFits (with_relation listing number (Some new))) (within : segment_at listing new.segment ≡ Some segment) (empty : new.live ≡ 0) (fresh : is_some (map.get tables.definitions.relations new.name) ≡ false) where
  abbrev listed_more : Listing
  listed_more = with_relation listing number (Some new)

  new_here : relation_at listed_more number ≡ Some new
  new_here = number_set listing.relations number (Some new) least.low (omega (arith, least.high, length-map listing.relations (option_map (λ (r : RelationEntry). r.name))))

  other_kept : (k : ℕ) → k ≢ number → relation_at listed_more k ≡ relation_at listing k
  other_kept k other = number_kept listing.relations number (Some new) least.low k other

  -- the number was free
  was_another : (k : ℕ) (relation : RelationEntry) → relation_at listing k ≡ Some relation → k ≢ number
  was_another k relation at same = none-some relation (sym (no_relation_at listing number least.free) ∙ ap (relation_at listing) (sym same) ∙ at)

  -- what has a number now is the new one, or had it
  now_or_old : (k : ℕ) (relation : RelationEntry) → relation_at listed_more k ≡ Some relation → (new ≡ relation) ⊎ (relation_at listing k ≡ Some relation)
  now_or_old k relation at = elim (cases_eq k number) [
    | inl same ↦ inl (same_Some _ _ (sym new_here ∙ ap (relation_at listed_more) (sym same) ∙ at))
    | inr other ↦ inr (sym (other_kept k other) ∙ at)
  ]

  -- the new one has no tuples
  no_tuple : (tid : Tid) → IsTupleThere tables.contents new tid → ⊥
  no_tuple tid lives = true≢false (sym (defined tid lives) ∙ fresh)

  -- a name that is listed is another than the new one
  other_name : (k : ℕ) (relation : RelationEntry) → relation_at listing k ≡ Some relation → relation.name ≢ new.name
  other_name k relation at same =
      let so = listed spells.listed spells.defines k relation at in
      true≢false (sym (ap is_some (spells.defines.relations k relation so.0 so.1)) ∙ ap (λ (n : Name). is_some (map.get tables.definitions.relations n)) same ∙ fresh)

  made_into : KeepsImages listing listed_more
  made_into k image relation l = record { at = l.at; within = other_kept image.relation (was_another image.relation relation l.within) ∙ l.within }

  made_back : KeepsImages listed_more listing
  made_back k image relation l =
      let fit = spells.listed.paths.images k image l.at in
      record { at = l.at; within = sym (other_kept image.relation (was_another image.relation fit.relation fit.listed)) ∙ l.within }

  made_links : KeepsLinks listing listed_more
  made_links = links_kept listing listed_more listing refl spells.listed.paths.links (λ k is. let some = some_of (relation_at listing k) is in other_kept k (was_another k some.0 some.1))

  relation_made_defines : Defines listed_more (record tables.definitions { relations = map.insert tables.definitions.relations new.name (definition_of segment new) })
  relation_made_defines = record {
    segments = spells.defines.segments;
    relations = λ k relation stood l. elim (now_or_old k relation l.at) [
      | inl same ↦
          let stands : segment ≡ stood = same_Some _ _ (sym within ∙ ap (λ (r : RelationEntry). segment_at listing r.segment) same ∙ l.within) in
          let get = λ (n : Name). map.get (map.insert tables.definitions.relations new.name (definition_of segment new)) n in
          ap (λ (r : RelationEntry). get r.name) (sym same) ∙ made_here tables.definitions.relations new.name (definition_of segment new) ∙ (λ i. Some (definition_of (stands i) (same i)))
      | inr was ↦
          made_other tables.definitions.relations new.name (definition_of segment new) relation.name (other_name k relation was) ∙ spells.defines.relations k relation stood (record { at = was; within = l.within })
    ];
    only_relations = only;
    paths = paths_kept made_into made_back refl refl made_links refl refl spells.defines.paths;
  }
    where
      only : (q : Name) → is_some (map.get (map.insert tables.definitions.relations new.name (definition_of segment new)) q) ≡ true → HasNumber RelationKind listed_more q
      only q there = elim (made tables.definitions.relations new.name (definition_of segment new) q) [
        | inl same ↦ (number, number_of listed_more number new new_here ∙ ap Some (sym same))
        | inr was ↦
            let had = named_relation listing q (spells.defines.only_relations q (ap is_some (sym was) ∙ there)) in
            (had.number, number_of listed_more had.number had.relation (other_kept had.number (was_another had.number had.relation had.at) ∙ had.at) ∙ ap Some had.named)
      ]

  pub relation_made_spells : SpellsTables held listed_more (with_definitions (record tables.definitions { relations = map.insert tables.definitions.relations new.name (definition_of segment new) }) tables)
  relation_made_spells = record {
    only = spells.only;
    formed = spells.formed;
    linked = spells.linked;
    listed = fits;
    defines = relation_made_defines;
    counts = λ k relation at. elim (now_or_old k relation at) [
      | inl same ↦ ap (λ (r : RelationEntry). tuple_count tables.contents r.name) (sym same) ∙ count_of_none tables.contents new.name (λ tid. none_from _ (no_tuple tid)) ∙ sym empty ∙ ap (λ (r : RelationEntry). r.live) same
      | inr was ↦ spells.counts k relation was
    ];
    contents = contents_relisted listing listed_more (bodies_of held) tables.contents (λ k relation tid at there. other_kept k (was_another k relation at) ∙ at) (λ k relation tid at there. elim (now_or_old k relation at) [
      | inl same ↦ absurd (no_tuple tid (ap (λ (r : RelationEntry). is_some (content tables.contents (Tuple r.name tid))) same ∙ there))
      | inr was ↦ was
    ]) refl spells.contents;
    images = images_kept made_into made_back (λ k image relation l. same_list tables (record tables.definitions { relations = map.insert tables.definitions.relations new.name (definition_of segment new) }) (image_definition image relation)
        (made_other tables.definitions.relations new.name (definition_of segment new) relation.name (other_name image.relation relation l.within))) spells.images;
  }
    where
      none_from : {A : Type 0} (o : Option A) → (is_some o ≡ true → ⊥) → o ≡ None
      none_from None not = refl
      none_from (Some a) not = absurd (not refl)

-- ---- a relation is dropped

module _ {held : Held} {listing : Listing} {tables : Tables} (spells : SpellsTables held listing tables) (number : ℕ) (old : RelationEntry) (at : relation_at listing number ≡ Some old) (empty : tuple_count tables.contents old.name ≡ 0) (none_of : (k : ℕ) (image : ImageEntry) → image_at listing k ≡ Some image → image.relation ≢ number) (fits : ListingFits (with_relation listing number None)) where
  abbrev listed_fewer : Listing
  listed_fewer = with_relation listing number None

  none_here : relation_at listed_fewer number ≡ None
  none_here = let within = number_within_list listing.relations number old at in number_set listing.relations number None within.0 within.1

  rest_kept : (k : ℕ) → k ≢ number → relation_at listed_fewer k ≡ relation_at listing k
  rest_kept k other = number_kept listing.relations number None (number_within_list listing.relations number old at).0 k other

  -- what has a number now had it
  had_it : (k : ℕ) (relation : RelationEntry) → relation_at listed_fewer k ≡ Some relation → (k ≢ number) × (relation_at listing k ≡ Some relation)
  had_it k relation is =
      let other : k ≢ number = λ same. none-some relation (sym none_here ∙ ap (relation_at listed_fewer) (sym same) ∙ is) in
      (other, sym (rest_kept k other) ∙ is)

  -- another number has another name
  other_named : (k : ℕ) (relation : RelationEntry) → k ≢ number → relation_at listing k ≡ Some relation → relation.name ≢ old.name
  other_named k relation other is same = other (spells.listed.relations_once k number relation.name (number_of listing k relation is) (number_of listing number old at ∙ ap Some (sym same)))

  gone_into : KeepsImages listing listed_fewer
  gone_into k image relation l = record { at = l.at; within = rest_kept image.relation (none_of k image l.at) ∙ l.within }

  gone_back : KeepsImages listed_fewer listing
  gone_back k image relation l = record { at = l.at; within = (had_it image.relation relation l.within).1 }

  gone_links : KeepsLinks listing listed_fewer
  gone_links = links_kept listing listed_fewer listed_fewer refl fits.paths.links (λ k is. let some = some_of (relation_at listed_fewer k) is in rest_kept k (had_it k some.0 some.1).0)

  relation_gone_defines : Defines listed_fewer (record tables.definitions { relations = map.remove tables.definitions.relations old.name })
  relation_gone_defines = record {
    segments = spells.defines.segments;
    relations = λ k relation segment l.
        let was = had_it k relation l.at in
        gone_other tables.definitions.relations old.name relation.name (other_named k relation was.0 was.1)
        ∙ spells.defines.relations k relation segment (record { at = was.1; within = l.within });
    only_relations = λ q there.
        let was = gone tables.definitions.relations old.name q there in
        let had = named_relation listing q (spells.defines.only_relations q (ap is_some (sym was.1) ∙ there)) in
        let other : had.number ≢ number = λ same. was.0 (sym had.named ∙ ap (λ (r : RelationEntry). r.name) (same_Some _ _ (sym had.at ∙ ap (relation_at listing) same ∙ at))) in
        (had.number, number_of listed_fewer had.number had.relation (rest_kept had.number other ∙ had.at) ∙ ap Some had.named);
    paths = paths_kept gone_into gone_back refl refl gone_links refl refl spells.defines.paths;
  }

  pub relation_gone_spells : SpellsTables held listed_fewer (with_definitions (record tables.definitions { relations = map.remove tables.definitions.relations old.name }) tables)
  relation_gone_spells = record {
    only = spells.only;
    formed = spells.formed;
    linked = spells.linked;
    listed = fits;
    defines = relation_gone_defines;
    counts = λ k relation is. spells.counts k relation (had_it k relation is).1;
    contents = contents_relisted listing listed_fewer (bodies_of held) tables.contents (λ k relation tid is there.
        let other : k ≢ number = λ same. let one : relation ≡ old = same_Some _ _ (sym is ∙ ap (relation_at listing) same ∙ at) in true≢false (sym there ∙ ap (λ (r : RelationEntry). is_some (content tables.contents (Tuple r.name tid))) one ∙ ap is_some (none_counted tables.contents old.name empty tid)) in
        rest_kept k other ∙ is) (λ k relation tid is there. (had_it k relation is).1) refl spells.contents;
    images = images_kept gone_into gone_back (λ k image relation l. same_list tables (record tables.definitions { relations = map.remove tables.definitions.relations old.name }) (image_definition image relation)
        (gone_other tables.definitions.relations old.name relation.name (other_named image.relation relation (none_of k image l.at) l.within))) spells.images;
  }
