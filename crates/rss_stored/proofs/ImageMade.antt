-- Pages that spell tables, where an image comes or goes: they spell what the call makes of the tables, by the listing with that image or without it.
use Rattle.std.proofs.Common.{◌≡◌, ◌≢◌, ◌⊎◌, inl, inr, ℕ, zero, suc, ◌+◌, ◌-◌, ◌≤◌, true, List, [], ◌∷◌, length, refl, sym, ◌∙◌, ap, subst, arith}
use Rattle.std.specs.Prelude.{Option, Some, None, is_some, slice_get, Contains, All}
use Rattle.std.specs.FinMap as map
use Rattle.std.specs.Cmp.{Equal-is}
use Rattle.std.specs.List.{cons_option}
use Rattle.std.proofs.lemmas.Bool.{cases_eq}
use Rattle.std.proofs.lemmas.List.Elements.{All-head, All-tail}
use Rattle.std.proofs.lemmas.Option.{none-some, same_Some}
use Rattle.rss_base.specs.Paged.{Held, page_key}
use Rattle.rss_base.specs.Sizes.{images_most}
use Rattle.rss_base.specs.TupleTypes.{field_names, chosen}
use Rattle.rss_base.specs.Listings.{Listing, ListingFits, IsNumberOf, segment_at, relation_at, image_at, field_numbers, with_image}
use Rattle.rss_base.specs.declared.call.Call.TheVariants.{MakeImage}
use Rattle.rss_base.specs.declared.field.FieldDef.{FieldDef}
use Rattle.rss_base.specs.declared.key.PageKey.{PageKey}
use Rattle.rss_base.specs.declared.key.Space.TheVariants.{Home, Overflow, Image as ImageSpace, System}
use Rattle.rss_base.specs.declared.name.Name.{Name}
use Rattle.rss_base.specs.declared.image.ImageEntry.{ImageEntry}
use Rattle.rss_base.specs.declared.relation.RelationEntry.{RelationEntry}
use Rattle.rss_base.specs.declared.refusal.Kind.TheVariants.{Image as ImageKind}
use Rattle.rss_page.specs.Slotted.{IsHeapKey}
use Rattle.rss_page.specs.Surveyed.{held_at}
use Rattle.rss_tuple.specs.Directory.{Bodies, Entries, contents_in, body_by, homes, overflows, bodies_of}
use Rattle.rss_tuple.specs.Heaps.{IsHeap, AreLinked}
use Rattle.rss_model.specs.Items.{is_name, name_cmp}
use Rattle.rss_model.specs.Tables.{ImageDef, Tables}
use Rattle.rss_model.specs.Images.{number_from, numbers_of}
use Rattle.rss_model.specs.Fits.{is_field_of}
use Rattle.rss_model.specs.Defining.{defined, with_definitions, with_image as with_image_def}
use Rattle.rss_stored.specs.Store.{Defines, DefinesPaths, IsListedImage, IsReached, IsStorePage, SpellsContents, SpellsImage, SpellsImages, SpellsTables, image_definition}
use Rattle.rss_model.proofs.Codes.{name_apart}
use Rattle.rss_model.proofs.LogLists.{by_test, none_some, some_of}
use Rattle.rss_model.proofs.Named.{made, made_here, made_other, gone, gone_other}
use Rattle.rss_stored.proofs.Relisted.{contents_relisted, number_set, number_kept, number_within_list, page_kind}
use Rattle.rss_stored.proofs.Spelled.{named_image, name_numbered}

-- ---- what the calls define

-- a field's number is that of its place
numbered_field : (k : ℕ) (fields : List FieldDef) (name : Name) (number : ℕ) → number_from k fields name ≡ Some number → (k ≤ number) × ((field : FieldDef) × (slice_get fields (number - k) ≡ Some field) × (field.name ≡ name))
numbered_field k [] name number is = none_some is
numbered_field k (first ∷ fields) name number is = by_test (is_name name first.name)
    (λ here.
    let same : k ≡ number = same_Some _ _ (sym (rw here refl) ∙ is) in
    (omega (arith, same), (first, ap (slice_get (first ∷ fields)) (at_once same), sym (name_apart name first.name ((Equal-is (name_cmp name first.name)).0 here)))))
    (λ other.
    let rest = numbered_field (k + 1) fields name number (sym (rw other refl) ∙ is) in
    (omega (arith, rest.0), (rest.1.0, ap (slice_get (first ∷ fields)) (behind rest.0) ∙ rest.1.1, rest.1.2)))
  where
    at_once : k ≡ number → number - k ≡ zero
    at_once same = omega (arith, same)

    behind : k + 1 ≤ number → number - k ≡ suc (number - (k + 1))
    behind low = omega (arith, low)

-- the fields of the numbers that names have, have these names
names_back : (fields : List FieldDef) (names : List Name) → All (λ name. is_field_of fields name ≡ true) names → field_names (chosen (numbers_of fields names) fields) ≡ names
names_back fields [] all = refl
names_back fields (name ∷ names) all =
    let some = some_of (number_from 1 fields name) (All-head (λ n. is_field_of fields n ≡ true) name names all) in
    let field = (numbered_field 1 fields name some.0 some.1).1 in
    let rest = names_back fields names (All-tail (λ n. is_field_of fields n ≡ true) name names all) in
    ap (λ (o : Option ℕ). field_names (chosen (cons_option o (numbers_of fields names)) fields)) some.1
    ∙ ap (λ (o : Option FieldDef). field_names (cons_option o (chosen (numbers_of fields names) fields))) field.1
    ∙ (λ i. field.2 i ∷ rest i)

-- the call that makes an image defines it so
pub image_made_defined : (tables : Tables) (image : ImageEntry) (relation : RelationEntry) (names : List Name) → field_numbers image ≡ numbers_of relation.fields names → All (λ name. is_field_of relation.fields name ≡ true) names
    → defined (MakeImage image.name relation.name image.is_unique names) tables ≡ Some (with_definitions (with_image_def tables.definitions image.name (image_definition image relation)) tables)
image_made_defined tables image relation names numbers all =
    let fields : names ≡ field_names (chosen (field_numbers image) relation.fields) = sym (ap (λ (ns : List ℕ). field_names (chosen ns relation.fields)) numbers ∙ names_back relation.fields names all) in
    ap (λ (ns : List Name). defined (MakeImage image.name relation.name image.is_unique ns) tables) fields

-- ---- the pages of tuples

-- each page of the heap holds what it held
abbrev pub KeepsHeap : Held → Held → Type 0
KeepsHeap old new = (key : PageKey) → IsHeapKey key → new key ≡ old key

module _ {old new : Held} (kept : KeepsHeap old new) where
  homes_kept : (segment : ℕ) → homes new segment ≡ homes old segment
  homes_kept segment = λ i page slot. held_at (contents_in (kept (page_key segment Home page) (inl refl) i)) slot

  overflows_kept : (segment : ℕ) → overflows new segment ≡ overflows old segment
  overflows_kept segment = λ i page slot. held_at (contents_in (kept (page_key segment Overflow page) (inr refl) i)) slot

  bodies_kept : bodies_of new ≡ bodies_of old
  bodies_kept = λ i segment tid. body_by (overflows_kept segment i) (homes_kept segment i tid.page tid.slot)

  formed_kept : ((key : PageKey) (bytes : List ℕ) → IsHeapKey key → old key ≡ Some bytes → IsHeap key bytes None) → (key : PageKey) (bytes : List ℕ) → IsHeapKey key → new key ≡ Some bytes → IsHeap key bytes None
  formed_kept formed key bytes heap is = formed key bytes heap (sym (kept key heap) ∙ is)

  linked_kept : (segment : ℕ) → AreLinked (homes old segment) (overflows old segment) → AreLinked (homes new segment) (overflows new segment)
  linked_kept segment linked = subst (λ (e : Entries). AreLinked (homes new segment) e) (sym (overflows_kept segment)) (subst (λ (e : Entries). AreLinked e (overflows old segment)) (sym (homes_kept segment)) linked)

-- ---- an image comes or goes

module _ {old new : Held} {listing : Listing} {tables : Tables} (spells : SpellsTables old listing tables) (number : ℕ) (image : Option ImageEntry) (kept : KeepsHeap old new) (fits : ListingFits (with_image listing number image)) where
  abbrev listed_now : Listing
  listed_now = with_image listing number image

  contents_kept : SpellsContents listed_now (bodies_of new) tables.contents
  contents_kept = subst (λ (bodies : Bodies). SpellsContents listed_now bodies tables.contents) (sym (bodies_kept kept))
      (contents_relisted listing listed_now (bodies_of old) tables.contents (λ k relation tid at there. at) (λ k relation tid at there. at) refl spells.contents)

  -- what else is defined stays so
  defines_beside : (images : map.FinMap name_cmp ImageDef) → DefinesPaths listed_now (record tables.definitions { images = images }) → Defines listed_now (record tables.definitions { images = images })
  defines_beside images paths = record {
    segments = spells.defines.segments;
    relations = λ k relation segment l. spells.defines.relations k relation segment (record { at = l.at; within = l.within });
    only_relations = spells.defines.only_relations;
    paths = paths;
  }

  -- the pages spell the tables with these images, where each page of an image is one of a relation's segment
  spelled_beside : (images : map.FinMap name_cmp ImageDef) → DefinesPaths listed_now (record tables.definitions { images = images })
      → SpellsImages new listed_now (with_definitions (record tables.definitions { images = images }) tables)
      → SpellsTables new listed_now (with_definitions (record tables.definitions { images = images }) tables)
  spelled_beside images paths shown = record {
    only = λ key there. stays key there (page_kind key key.space refl);
    formed = formed_kept kept spells.formed;
    linked = λ segment. linked_kept kept segment (spells.linked segment);
    listed = fits;
    defines = defines_beside images paths;
    counts = spells.counts;
    contents = contents_kept;
    images = shown;
  }
    where
      stays : (key : PageKey) → is_some (new key) ≡ true → (key.space ≡ System) ⊎ ((key.space ≡ ImageSpace) ⊎ IsHeapKey key) → IsStorePage listed_now key
      stays key there (inl system) = inl system
      stays key there (inr (inl space)) =
          let of = shown.reached key space there in
          inr (ap (λ (s : ℕ). is_some (segment_at listing s)) of.segment ∙ (spells.listed.relations of.image.relation of.relation of.at.within).segment)
      stays key there (inr (inr heap)) = spells.only key (ap is_some (sym (kept key heap)) ∙ there)

-- of another image, in the tables with other images
image_still : {held : Held} {tables : Tables} {number : ℕ} {image : ImageEntry} {relation : RelationEntry} {pages : List ℕ} (images : map.FinMap name_cmp ImageDef) → SpellsImage held tables number image relation pages
    → SpellsImage held (with_definitions (record tables.definitions { images = images }) tables) number image relation pages
image_still images is = record { pairs = is.pairs; tree = is.tree; once = is.once; list = is.list }

-- ---- an image is made

-- The pages of a new image of this number are there, those of the others still are, and there are no more of the space of images; the pages of tuples are as they were.
pub record HoldsNewImage (old new : Held) (listing : Listing) (tables : Tables) (number : ℕ) (image : ImageEntry) (relation : RelationEntry) : Type 0 where
  pub pages : List ℕ
  pub kept : KeepsHeap old new
  pub spells : SpellsImage new tables number image relation pages
  pub others : (k : ℕ) (other : ImageEntry) (its : RelationEntry) → IsListedImage listing k other its
      → (pages : List ℕ) × SpellsImage new tables k other its pages
  pub reached : (key : PageKey) → key.space ≡ ImageSpace → is_some (new key) ≡ true
      → IsReached new listing tables key ⊎ ((key.segment ≡ relation.segment) × Contains pages key.number)

module _ {old new : Held} {listing : Listing} {tables : Tables} (spells : SpellsTables old listing tables) (number : ℕ) (low : 1 ≤ number) (high : number ≤ images_most) (free : image_at listing number ≡ None) (image : ImageEntry) (relation : RelationEntry) (at : relation_at listing image.relation ≡ Some relation)
    (fits : ListingFits (with_image listing number (Some image))) (holds : HoldsNewImage old new listing tables number image relation) where
  abbrev listed_more : Listing
  listed_more = with_image listing number (Some image)

  abbrev images_more : map.FinMap name_cmp ImageDef
  images_more = map.insert tables.definitions.images image.name (image_definition image relation)

  here : image_at listed_more number ≡ Some image
  here = number_set listing.images number (Some image) low (omega (arith, high, spells.listed.paths.image_places))

  else_kept : (k : ℕ) → k ≢ number → image_at listed_more k ≡ image_at listing k
  else_kept k other = number_kept listing.images number (Some image) low k other

  -- the number was free
  was_other : (k : ℕ) (other : ImageEntry) → image_at listing k ≡ Some other → k ≢ number
  was_other k other is same = none-some other (sym free ∙ ap (image_at listing) (sym same) ∙ is)

  -- what has a number now is the new one, or had it
  now_or_then : (k : ℕ) (other : ImageEntry) (its : RelationEntry) → IsListedImage listed_more k other its → ((number ≡ k) × ((image ≡ other) × (relation ≡ its))) ⊎ (k ≢ number) × IsListedImage listing k other its
  now_or_then k other its l = elim (cases_eq k number) [
    | inl same ↦
        let one : image ≡ other = same_Some _ _ (sym here ∙ ap (image_at listed_more) (sym same) ∙ l.at) in
        inl (sym same, (one, same_Some _ _ (sym at ∙ ap (λ (i : ImageEntry). relation_at listing i.relation) one ∙ l.within)))
    | inr apart ↦ inr (apart, record { at = sym (else_kept k apart) ∙ l.at; within = l.within })
  ]

  number_of_image : (k : ℕ) (other : ImageEntry) → image_at listed_more k ≡ Some other → IsNumberOf ImageKind listed_more other.name k
  number_of_image k other is = name_numbered (λ (i : ImageEntry). i.name) listed_more.images k other is

  -- another one has another name
  other_name : (k : ℕ) (other : ImageEntry) → k ≢ number → image_at listed_more k ≡ Some other → other.name ≢ image.name
  other_name k other apart is same = apart (fits.paths.images_once k number image.name (number_of_image k other is ∙ ap Some same) (number_of_image number image here))

  paths_made : DefinesPaths listed_more (record tables.definitions { images = images_more })
  paths_made = record {
    images = λ k other its l. elim (now_or_then k other its l) [
      | inl new ↦
          ap (λ (i : ImageEntry). map.get images_more i.name) (sym new.1.0) ∙ made_here tables.definitions.images image.name (image_definition image relation)
          ∙ (λ i. Some (image_definition (new.1.0 i) (new.1.1 i)))
      | inr was ↦ made_other tables.definitions.images image.name (image_definition image relation) other.name (other_name k other was.0 l.at) ∙ spells.defines.paths.images k other its was.1
    ];
    only_images = λ name there. elim (made tables.definitions.images image.name (image_definition image relation) name) [
      | inl same ↦ (number, number_of_image number image here ∙ ap Some (sym same))
      | inr was ↦
          let had = named_image listing name (spells.defines.paths.only_images name (ap is_some (sym was) ∙ there)) in
          (had.number, number_of_image had.number had.image (else_kept had.number (was_other had.number had.image had.at) ∙ had.at) ∙ ap Some had.named)
    ];
    links = λ k link child l. spells.defines.paths.links k link child (record { at = l.at; within = l.within });
    only_links = spells.defines.paths.only_links;
  }

  images_made : SpellsImages new listed_more (with_definitions (record tables.definitions { images = images_more }) tables)
  images_made = record {
    each = λ k other its l. elim (now_or_then k other its l) [
      | inl new ↦ (holds.pages, image_still images_more (at_number new.0 new.1.0 new.1.1 holds.spells))
      | inr was ↦ let shown = holds.others k other its was.1 in (shown.0, image_still images_more shown.1)
    ];
    reached = λ key space there. elim (holds.reached key space there) [
      | inl of ↦ record {
        number = of.number;
        image = of.image;
        relation = of.relation;
        pages = of.pages;
        at = record { at = else_kept of.number (was_other of.number of.image of.at.at) ∙ of.at.at; within = of.at.within };
        spells = image_still images_more of.spells;
        segment = of.segment;
        among = of.among;
      }
      | inr own ↦ record {
        number = number;
        image = image;
        relation = relation;
        pages = holds.pages;
        at = record { at = here; within = at };
        spells = image_still images_more holds.spells;
        segment = own.0;
        among = own.1;
      }
    ];
  }
    where
      at_number : {held : Held} {k : ℕ} {other : ImageEntry} {its : RelationEntry} {pages : List ℕ} → number ≡ k → image ≡ other → relation ≡ its → SpellsImage held tables number image relation pages → SpellsImage held tables k other its pages
      at_number {held = held} {k = k} {other = other} {pages = pages} same one its is =
          subst (λ (r : RelationEntry). SpellsImage held tables k other r pages) its
          (subst (λ (e : ImageEntry). SpellsImage held tables k e relation pages) one (subst (λ (n : ℕ). SpellsImage held tables n image relation pages) same is))

  -- The pages spell the tables with the image.
  pub image_made_spells : SpellsTables new listed_more (with_definitions (with_image_def tables.definitions image.name (image_definition image relation)) tables)
  image_made_spells = spelled_beside spells number (Some image) holds.kept fits images_more paths_made images_made

-- ---- an image is dropped

-- The pages of the image of this number aren't there any more, those of the others still are, and there are no more of the space of images; the pages of tuples are as they were.
pub record LosesImage (old new : Held) (listing : Listing) (tables : Tables) (number : ℕ) : Type 0 where
  pub kept : KeepsHeap old new
  pub others : (k : ℕ) (other : ImageEntry) (its : RelationEntry) (pages : List ℕ) → k ≢ number
      → IsListedImage listing k other its → SpellsImage old tables k other its pages
      → SpellsImage new tables k other its pages
  pub fewer : (key : PageKey) → key.space ≡ ImageSpace → is_some (new key) ≡ true → is_some (old key) ≡ true
  pub gone : (image : ImageEntry) (relation : RelationEntry) (pages : List ℕ)
      → IsListedImage listing number image relation → SpellsImage old tables number image relation pages
      → (key : PageKey) → key.space ≡ ImageSpace → key.segment ≡ relation.segment → Contains pages key.number
      → new key ≡ None

module _ {old new : Held} {listing : Listing} {tables : Tables} (spells : SpellsTables old listing tables) (number : ℕ) (image : ImageEntry) (at : image_at listing number ≡ Some image) (fits : ListingFits (with_image listing number None)) (loses : LosesImage old new listing tables number) where
  abbrev listed_less : Listing
  listed_less = with_image listing number None

  abbrev images_less : map.FinMap name_cmp ImageDef
  images_less = map.remove tables.definitions.images image.name

  within : (1 ≤ number) × (number ≤ length listing.images)
  within = number_within_list listing.images number image at

  none_here : image_at listed_less number ≡ None
  none_here = number_set listing.images number None within.0 within.1

  rest_kept : (k : ℕ) → k ≢ number → image_at listed_less k ≡ image_at listing k
  rest_kept k other = number_kept listing.images number None within.0 k other

  -- what has a number now had it
  had_it : (k : ℕ) (other : ImageEntry) (its : RelationEntry) → IsListedImage listed_less k other its → (k ≢ number) × IsListedImage listing k other its
  had_it k other its l =
      let apart : k ≢ number = λ same. none-some other (sym none_here ∙ ap (image_at listed_less) (sym same) ∙ l.at) in
      (apart, record { at = sym (rest_kept k apart) ∙ l.at; within = l.within })

  number_named : (k : ℕ) (other : ImageEntry) → image_at listing k ≡ Some other → IsNumberOf ImageKind listing other.name k
  number_named k other is = name_numbered (λ (i : ImageEntry). i.name) listing.images k other is

  paths_gone : DefinesPaths listed_less (record tables.definitions { images = images_less })
  paths_gone = record {
    images = λ k other its l.
        let was = had_it k other its l in
        gone_other tables.definitions.images image.name other.name (λ same. was.0 (spells.listed.paths.images_once k number image.name (number_named k other was.1.at ∙ ap Some same) (number_named number image at)))
        ∙ spells.defines.paths.images k other its was.1;
    only_images = λ name there.
        let was = gone tables.definitions.images image.name name there in
        let had = named_image listing name (spells.defines.paths.only_images name (ap is_some (sym was.1) ∙ there)) in
        let apart : had.number ≢ number = λ same. was.0 (sym had.named ∙ ap (λ (i : ImageEntry). i.name) (same_Some _ _ (sym had.at ∙ ap (image_at listing) same ∙ at))) in
        (had.number, name_numbered (λ (i : ImageEntry). i.name) listed_less.images had.number had.image (rest_kept had.number apart ∙ had.at) ∙ ap Some had.named);
    links = λ k link child l. spells.defines.paths.links k link child (record { at = l.at; within = l.within });
    only_links = spells.defines.paths.only_links;
  }

  images_gone : SpellsImages new listed_less (with_definitions (record tables.definitions { images = images_less }) tables)
  images_gone = record {
    each = λ k other its l.
        let was = had_it k other its l in
        let shown = spells.images.each k other its was.1 in
        (shown.0, image_still images_less (loses.others k other its shown.0 was.0 was.1 shown.1));
    reached = λ key space there.
        let of = spells.images.reached key space (loses.fewer key space there) in
        let apart : of.number ≢ number = λ same. absurd (lost key space there of same) in
        record {
          number = of.number;
          image = of.image;
          relation = of.relation;
          pages = of.pages;
          at = record { at = rest_kept of.number apart ∙ of.at.at; within = of.at.within };
          spells = image_still images_less (loses.others of.number of.image of.relation of.pages apart of.at of.spells);
          segment = of.segment;
          among = of.among;
        };
  }
    where
      -- no page of its own is there
      lost : (key : PageKey) → key.space ≡ ImageSpace → is_some (new key) ≡ true → (of : IsReached old listing tables key) → of.number ≡ number → ⊥
      lost key space there of same =
          let some = some_of (new key) there in
          none-some some.0 (sym (loses.gone of.image of.relation of.pages
          (record { at = ap (image_at listing) (sym same) ∙ of.at.at; within = of.at.within })
          (subst (λ (n : ℕ). SpellsImage old tables n of.image of.relation of.pages) same of.spells) key space of.segment of.among) ∙ some.1)

  -- The pages spell the tables without the image.
  pub image_gone_spells : SpellsTables new listed_less (with_definitions (record tables.definitions { images = map.remove tables.definitions.images image.name }) tables)
  image_gone_spells = spelled_beside spells number None loses.kept fits images_less paths_gone images_gone
