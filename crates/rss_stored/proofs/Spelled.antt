-- What a listing defines, and what the bytes of tuples say.
use Rattle.std.proofs.Common.{◌≡◌, ◌⊎◌, inl, inr, ⊎_elim, Bool, false, ℕ, zero, suc, ◌+◌, true, List, [], ◌∷◌, ◌++◌, length, get_or, refl, sym, ◌∙◌, ap, subst, arith}
use Rattle.std.specs.List.{list_all}
use Rattle.std.specs.Prelude.{if◌then◌else◌, Option, Some, None, is_some, option_map, All, map as list_map}
use Rattle.std.specs.FinMap as map
use Rattle.std.specs.FinMap.{same_map}
use Rattle.std.proofs.lemmas.Bool.{and_parts, true≢false}
use Rattle.std.proofs.lemmas.Option.{none-some, same_Some}
use Rattle.rss_base.specs.Paged.{Held}
use Rattle.rss_base.specs.TupleTypes.{misfit, misfit_from, is_undefined, fits_kind, fits, tuple_bytes, value_bytes, marked_bytes, int_bytes, IsStorable}
use Rattle.rss_base.specs.Listings.{Listing, ListingFits, numbered, relation_at, image_at, link_at}
use Rattle.rss_base.specs.declared.name.Name.{Name}
use Rattle.rss_base.specs.declared.tid.Tid.{Tid}
use Rattle.rss_base.specs.declared.item.Item.{Item}
use Rattle.rss_base.specs.declared.item.Item.TheVariants.{Tuple}
use Rattle.rss_base.specs.declared.value.Value.{Value}
use Rattle.rss_base.specs.declared.value.Value.TheVariants.{Int, Text, Undefined}
use Rattle.rss_base.specs.declared.value.FieldKind.{FieldKind}
use Rattle.rss_base.specs.declared.value.FieldForm.{FieldForm}
use Rattle.rss_base.specs.declared.value.FieldKind.TheVariants.{Int as IntField, Text as TextField}
use Rattle.rss_base.specs.declared.relation.RelationEntry.{RelationEntry}
use Rattle.rss_base.specs.declared.image.ImageEntry.{ImageEntry}
use Rattle.rss_base.specs.declared.link.LinkEntry.{LinkEntry}
use Rattle.rss_base.specs.declared.refusal.Kind.TheVariants.{Relation as RelationKind, Image as ImageKind, Link as LinkKind}
use Rattle.rss_base.proofs.Numbers.{int_bytes_same}
use Rattle.rss_base.proofs.Fronts.{front_parts}
use Rattle.rss_tuple.specs.Directory.{bodies_of}
use Rattle.rss_model.specs.Items.{Content, Values}
use Rattle.rss_model.specs.Tables.{RelationDef, ImageDef, LinkDef, Definitions, Tables, content, fields_of}
use Rattle.rss_model.specs.Fits.{Fits}
use Rattle.rss_stored.specs.Store.{body_of, Defines, HasNumber, IsListedImage, IsListedLink, IsTupleItem, SpellsTables, definition_of, image_definition, link_definition}
use Rattle.rss_model.proofs.Codes.{name_total, name_apart}
use Rattle.rss_model.proofs.Lengths.{first_fits}
use Rattle.rss_stored.proofs.Listed.{at_place, listed}
use Rattle.rss_model.proofs.LogLists.{some_of}

-- ---- the bytes of tuples

-- of two values of one kind, with what follows them
value_parts : (kind : FieldKind) (a b : Value) (u v : List ℕ) → fits_kind kind a ≡ true → fits_kind kind b ≡ true → IsStorable a → IsStorable b → value_bytes a ++ u ≡ value_bytes b ++ v → (a ≡ b) × (u ≡ v)
value_parts IntField (Int z) (Int w) u v one other stored stored_too whole =
    let parts = front_parts (int_bytes z) (int_bytes w) u v (refl) whole in
    (ap Int (int_bytes_same z w stored stored_too parts.0), parts.1)
value_parts IntField (Int z) (Text bytes) u v one other stored stored_too whole = absurd (cc)
value_parts IntField (Int z) Undefined u v one other stored stored_too whole = absurd (cc)
value_parts IntField (Text bytes) b u v one other stored stored_too whole = absurd (cc)
value_parts IntField Undefined b u v one other stored stored_too whole = absurd (cc)
value_parts (TextField n) (Int z) b u v one other stored stored_too whole = absurd (cc)
value_parts (TextField n) Undefined b u v one other stored stored_too whole = absurd (cc)
value_parts (TextField n) (Text bytes) (Int w) u v one other stored stored_too whole = absurd (cc)
value_parts (TextField n) (Text bytes) Undefined u v one other stored stored_too whole = absurd (cc)
value_parts (TextField n) (Text bytes) (Text others) u v one other stored stored_too whole =
    let first : length bytes ≡ length others = cc in
    let later : bytes ++ u ≡ others ++ v = cc in
    let parts = front_parts bytes others u v first later in
    (ap Text parts.0, parts.1)

-- a value that a field takes is of its kind, or the field was added and it is undefined
kind_of_fit : (kind : FieldKind) (added : Bool) (a : Value) → fits (record { kind = kind; added = added }) a ≡ true → (fits_kind kind a ≡ true) ⊎ ((a ≡ Undefined) × (added ≡ true))
kind_of_fit kind added (Int z) fit = inl fit
kind_of_fit kind added (Text bytes) fit = inl fit
kind_of_fit kind added Undefined fit = inr (refl, fit)

-- the same of two values of one field
field_parts : (kind : FieldKind) (added : Bool) (a b : Value) (u v : List ℕ) → fits (record { kind = kind; added = added }) a ≡ true → fits (record { kind = kind; added = added }) b ≡ true → IsStorable a → IsStorable b
    → marked_bytes added a ++ u ≡ marked_bytes added b ++ v → (a ≡ b) × (u ≡ v)
field_parts kind false a b u v one other stored stored_too whole = value_parts kind a b u v (of a one) (of b other) stored stored_too whole
  where
    of : (a : Value) → fits (record { kind = kind; added = false }) a ≡ true → fits_kind kind a ≡ true
    of a fit = ⊎_elim (λ is. is) (λ is. absurd (true≢false (sym is.1))) (kind_of_fit kind false a fit)
field_parts kind true Undefined Undefined u v one other stored stored_too whole = (refl, cc)
field_parts kind true Undefined (Int w) u v one other stored stored_too whole = absurd (cc)
field_parts kind true Undefined (Text bytes) u v one other stored stored_too whole = absurd (cc)
field_parts kind true (Int z) Undefined u v one other stored stored_too whole = absurd (cc)
field_parts kind true (Text bytes) Undefined u v one other stored stored_too whole = absurd (cc)
field_parts kind true (Int z) (Int w) u v one other stored stored_too whole = value_parts kind (Int z) (Int w) u v one other stored stored_too (cc)
field_parts kind true (Int z) (Text bytes) u v one other stored stored_too whole = value_parts kind (Int z) (Text bytes) u v one other stored stored_too (cc)
field_parts kind true (Text bytes) (Int w) u v one other stored stored_too whole = value_parts kind (Text bytes) (Int w) u v one other stored stored_too (cc)
field_parts kind true (Text bytes) (Text others) u v one other stored stored_too whole = value_parts kind (Text bytes) (Text others) u v one other stored stored_too (cc)

-- some bytes stand for a value, unless it is undefined in a field that isn't added
some_marked : (kind : FieldKind) (added : Bool) (a : Value) (u : List ℕ) → fits (record { kind = kind; added = added }) a ≡ true → marked_bytes added a ++ u ≡ [] → ⊥
some_marked kind false (Int z) u fit none = cc
some_marked kind false (Text bytes) u fit none = cc
some_marked kind false Undefined u fit none = true≢false (sym fit)
some_marked kind true (Int z) u fit none = cc
some_marked kind true (Text bytes) u fit none = cc
some_marked kind true Undefined u fit none = cc

-- values that are all undefined are one list, if there are as many
undefined_same : (k : ℕ) (fields : List FieldForm) (a b : List Value) → misfit_from k fields a ≡ None → misfit_from k fields b ≡ None → list_all is_undefined a ≡ true → list_all is_undefined b ≡ true → a ≡ b
undefined_same k [] [] [] one other none none_too = refl
undefined_same k [] [] (y ∷ b) one other none none_too = absurd (cc)
undefined_same k [] (x ∷ a) b one other none none_too = absurd (cc)
undefined_same k (field ∷ fields) [] b one other none none_too = absurd (cc)
undefined_same k (field ∷ fields) (x ∷ a) [] one other none none_too = absurd (cc)
undefined_same k (field ∷ fields) (x ∷ a) (y ∷ b) one other none none_too =
    let mine = first_fits k field fields x a one in
    let theirs = first_fits k field fields y b other in
    let here = and_parts (is_undefined x) (list_all is_undefined a) none in
    let there = and_parts (is_undefined y) (list_all is_undefined b) none_too in
    let first = is_it x here.0 ∙ sym (is_it y there.0) in
    let rest = undefined_same (k + 1) fields a b mine.1 theirs.1 here.1 there.1 in
    λ i. first i ∷ rest i
  where
    is_it : (x : Value) → is_undefined x ≡ true → x ≡ Undefined
    is_it (Int z) is = absurd (cc)
    is_it (Text bytes) is = absurd (cc)
    is_it Undefined is = refl

-- tuples of the same fields that have the same bytes are one
pub tuple_bytes_same : (k : ℕ) (fields : List FieldForm) (a b : List Value) → misfit_from k fields a ≡ None → misfit_from k fields b ≡ None → All IsStorable a → All IsStorable b → tuple_bytes fields a ≡ tuple_bytes fields b → a ≡ b
tuple_bytes_same k [] [] [] one other stored stored_too whole = refl
tuple_bytes_same k [] [] (y ∷ b) one other stored stored_too whole = absurd (cc)
tuple_bytes_same k [] (x ∷ a) b one other stored stored_too whole = absurd (cc)
tuple_bytes_same k (field ∷ fields) [] b one other stored stored_too whole = absurd (cc)
tuple_bytes_same k (field ∷ fields) (x ∷ a) [] one other stored stored_too whole = absurd (cc)
tuple_bytes_same k (field ∷ fields) (x ∷ a) (y ∷ b) one other stored stored_too whole =
    by (list_all is_undefined (x ∷ a)) (list_all is_undefined (y ∷ b)) refl refl
    (λ same. tuple_bytes_same (k + 1) fields a b mine.1 theirs.1 (λ j d lt. stored (suc j) d (omega (arith, lt))) (λ j d lt. stored_too (suc j) d (omega (arith, lt))) same) whole
  where
    mine : (fits field x ≡ true) × (misfit_from (k + 1) fields a ≡ None)
    mine = first_fits k field fields x a one

    theirs : (fits field y ≡ true) × (misfit_from (k + 1) fields b ≡ None)
    theirs = first_fits k field fields y b other

    by : (none none_too : Bool) → list_all is_undefined (x ∷ a) ≡ none → list_all is_undefined (y ∷ b) ≡ none_too → (tuple_bytes fields a ≡ tuple_bytes fields b → a ≡ b)
        → (if none then [] else marked_bytes field.added x ++ tuple_bytes fields a) ≡ (if none_too then [] else marked_bytes field.added y ++ tuple_bytes fields b) → x ∷ a ≡ y ∷ b
    by true true is is_too rest same = undefined_same k (field ∷ fields) (x ∷ a) (y ∷ b) one other is is_too
    by true false is is_too rest same = absurd (some_marked field.kind field.added y (tuple_bytes fields b) theirs.0 (sym same))
    by false true is is_too rest same = absurd (some_marked field.kind field.added x (tuple_bytes fields a) mine.0 same)
    by false false is is_too rest same =
        let parts = field_parts field.kind field.added x y (tuple_bytes fields a) (tuple_bytes fields b) mine.0 theirs.0 (stored 0 x (omega arith)) (stored_too 0 y (omega arith)) same in
        let later = rest parts.1 in
        λ i. parts.0 i ∷ later i

-- ---- relations and images that have a number

-- what has a number by its name
module _ {A : Type 0} (name_of : A → Name) where
  named_at : (items : List (Option A)) (number : ℕ) (name : Name) → numbered (list_map (option_map name_of) items) number ≡ Some name → (item : A) × (numbered items number ≡ Some item) × (name_of item ≡ name)
  named_at items zero name at = absurd (none-some name at)
  named_at items (suc k) name at =
      let some = entry items k (sym (at_place (list_map (option_map name_of) items) k) ∙ at) in
      (some.0, at_place items k ∙ some.1, some.2)
    where
      named : (found : Option A) → option_map name_of found ≡ Some name → (item : A) × (found ≡ Some item) × (name_of item ≡ name)
      named None is = absurd (cc)
      named (Some item) is = (item, refl, same_Some _ _ is)

      entry : (items : List (Option A)) (k : ℕ) → get_or (list_map (option_map name_of) items) k None ≡ Some name → (item : A) × (get_or items k None ≡ Some item) × (name_of item ≡ name)
      entry [] k is = absurd (cc)
      entry (first ∷ items) zero is = named first is
      entry (first ∷ items) (suc k) is = entry items k is

  -- and the other way round
  pub name_numbered : (items : List (Option A)) (number : ℕ) (item : A) → numbered items number ≡ Some item → numbered (list_map (option_map name_of) items) number ≡ Some (name_of item)
  name_numbered items zero item at = absurd (none-some item at)
  name_numbered items (suc k) item at = at_place (list_map (option_map name_of) items) k ∙ got items k (sym (at_place items k) ∙ at)
    where
      got : (items : List (Option A)) (k : ℕ) → get_or items k None ≡ Some item → get_or (list_map (option_map name_of) items) k None ≡ Some (name_of item)
      got [] k is = absurd (none-some item is)
      got (first ∷ items) zero is = ap (option_map name_of) is
      got (first ∷ items) (suc k) is = got items k is

-- the relation of a number, by its name
pub record HasName (listing : Listing) (name : Name) : Type 0 where
  pub number : ℕ
  pub relation : RelationEntry
  pub at : relation_at listing number ≡ Some relation
  pub named : relation.name ≡ name

pub named_relation : (listing : Listing) (name : Name) → HasNumber RelationKind listing name → HasName listing name
named_relation listing name has =
    let some = named_at (λ (r : RelationEntry). r.name) listing.relations has.0 name has.1 in
    record { number = has.0; relation = some.0; at = some.1; named = some.2 }

-- the image of a number
pub record IsImageNamed (listing : Listing) (name : Name) : Type 0 where
  pub number : ℕ
  pub image : ImageEntry
  pub at : image_at listing number ≡ Some image
  pub named : image.name ≡ name

pub named_image : (listing : Listing) (name : Name) → HasNumber ImageKind listing name → IsImageNamed listing name
named_image listing name has =
    let some = named_at (λ (i : ImageEntry). i.name) listing.images has.0 name has.1 in
    record { number = has.0; image = some.0; at = some.1; named = some.2 }

-- the link of a number
pub record IsLinkNamed (listing : Listing) (name : Name) : Type 0 where
  pub number : ℕ
  pub link : LinkEntry
  pub at : link_at listing number ≡ Some link
  pub named : link.name ≡ name

pub named_link : (listing : Listing) (name : Name) → HasNumber LinkKind listing name → IsLinkNamed listing name
named_link listing name has =
    let some = named_at (λ (l : LinkEntry). l.name) listing.links has.0 name has.1 in
    record { number = has.0; link = some.0; at = some.1; named = some.2 }

-- ---- definitions

pub same_options : {A : Type 0} (a b : Option A) → ((x : A) → a ≡ Some x → b ≡ Some x) → ((x : A) → b ≡ Some x → a ≡ Some x) → a ≡ b
same_options None None to from = refl
same_options None (Some x) to from = from x refl
same_options (Some x) b to from = sym (to x refl)

module _ {listing : Listing} (fits : ListingFits listing) where
  segments_too : {a b : Definitions} → Defines listing a → Defines listing b → (name : Name) (x : Unit {0}) → map.get a.segments name ≡ Some x → map.get b.segments name ≡ Some x
  segments_too one other name x is = (some_of _ ((other.segments name).1 ((one.segments name).0 (ap is_some is)))).1

  relations_too : {a b : Definitions} → Defines listing a → Defines listing b → (name : Name) (x : RelationDef) → map.get a.relations name ≡ Some x → map.get b.relations name ≡ Some x
  relations_too {a = a} {b = b} one other name x is =
      let has = named_relation listing name (one.only_relations name (ap is_some is)) in
      let so = listed fits one has.number has.relation has.at in
      let mine = one.relations has.number has.relation so.0 so.1 in
      let theirs = other.relations has.number has.relation so.0 so.1 in
      let same : definition_of so.0 has.relation ≡ x = same_Some _ _ (sym mine ∙ ap (map.get a.relations) has.named ∙ is) in
      ap (map.get b.relations) (sym has.named) ∙ theirs ∙ ap Some same

  images_too : {a b : Definitions} → Defines listing a → Defines listing b → (name : Name) (x : ImageDef) → map.get a.images name ≡ Some x → map.get b.images name ≡ Some x
  images_too {a = a} {b = b} one other name x is =
      let has = named_image listing name (one.paths.only_images name (ap is_some is)) in
      let fit = fits.paths.images has.number has.image has.at in
      let l : IsListedImage listing has.number has.image fit.relation = record { at = has.at; within = fit.listed } in
      let mine = one.paths.images has.number has.image fit.relation l in
      let theirs = other.paths.images has.number has.image fit.relation l in
      let same : image_definition has.image fit.relation ≡ x = same_Some _ _ (sym mine ∙ ap (map.get a.images) has.named ∙ is) in
      ap (map.get b.images) (sym has.named) ∙ theirs ∙ ap Some same

  -- a link that is listed, with the relation of its children
  pub listed_link : (number : ℕ) (link : LinkEntry) → link_at listing number ≡ Some link → (child : RelationEntry) × IsListedLink listing number link child
  listed_link number link at =
      let some = some_of (relation_at listing link.child) (fits.paths.links number link at).child in
      (some.0, record { at = at; within = some.1 })

  links_too : {a b : Definitions} → Defines listing a → Defines listing b → (name : Name) (x : LinkDef) → map.get a.links name ≡ Some x → map.get b.links name ≡ Some x
  links_too {a = a} {b = b} one other name x is =
      let has = named_link listing name (one.paths.only_links name (ap is_some is)) in
      let so = listed_link has.number has.link has.at in
      let mine = one.paths.links has.number has.link so.0 so.1 in
      let theirs = other.paths.links has.number has.link so.0 so.1 in
      let same : link_definition listing has.link so.0 ≡ x = same_Some _ _ (sym mine ∙ ap (map.get a.links) has.named ∙ is) in
      ap (map.get b.links) (sym has.named) ∙ theirs ∙ ap Some same

  -- what is listed is defined in one way
  pub defines_once : {a b : Definitions} → Defines listing a → Defines listing b → a ≡ b
  defines_once {a = a} {b = b} one other =
      let segments : a.segments ≡ b.segments = same_map name_total name_apart _ _ (λ q. same_options _ _ (segments_too one other q) (segments_too other one q)) in
      let relations : a.relations ≡ b.relations = same_map name_total name_apart _ _ (λ q. same_options _ _ (relations_too one other q) (relations_too other one q)) in
      let images : a.images ≡ b.images = same_map name_total name_apart _ _ (λ q. same_options _ _ (images_too one other q) (images_too other one q)) in
      let links : a.links ≡ b.links = same_map name_total name_apart _ _ (λ q. same_options _ _ (links_too one other q) (links_too other one q)) in
      λ i. record { segments = segments i; relations = relations i; images = images i; links = links i }

-- ---- tuples

-- A tuple that is there: its relation's number, and its values, which bytes spell.
pub record IsSpelled (held : Held) (listing : Listing) (tables : Tables) (item : Item) (c : Content) : Type 0 where
  pub number : ℕ
  pub relation : RelationEntry
  pub tid : Tid
  pub fields : List FieldForm
  pub values : List Value
  pub at : relation_at listing number ≡ Some relation
  pub is : item ≡ Tuple relation.name tid
  pub tuple : c ≡ Values values
  pub defined : fields_of tables relation.name ≡ Some fields
  pub fit : misfit fields values ≡ None
  pub storable : All IsStorable values
  pub stands : bodies_of held relation.segment tid ≡ Some (body_of listing tables.contents number tid values)

pub same_values : (a b : List Value) → Values a ≡ Values b → a ≡ b
same_values a b same = cc

pub spelled : {held : Held} {listing : Listing} {tables : Tables} {slots : ℕ} → SpellsTables held listing tables → Fits slots tables → (item : Item) → IsTupleItem listing item → (c : Content) → content tables.contents item ≡ Some c → IsSpelled held listing tables item c
spelled {held = held} {listing = listing} {tables = tables} spells fit item on c is =
    let here : content tables.contents (Tuple on.relation.name on.tid) ≡ Some c = ap (content tables.contents) (sym on.is) ∙ is in
    let of = fit.tuples on.relation.name on.tid c here in
    let stands = spells.contents.stands on.number on.relation on.tid of.values on.at (here ∙ ap Some of.tuple) in
    let body = spells.contents.bodies_are on.relation.segment on.tid (body_of listing tables.contents on.number on.tid of.values) stands in
    let number : on.number ≡ body.number = first_same on.number body.number _ _ body.is in
    let relation : body.relation ≡ on.relation = same_Some _ _ (sym body.at ∙ ap (relation_at listing) (sym number) ∙ on.at) in
    let values : body.values ≡ of.values = same_values _ _ (same_Some _ _ (sym body.holds ∙ ap (λ (r : RelationEntry). content tables.contents (Tuple r.name on.tid)) relation ∙ here ∙ ap Some of.tuple)) in
    record {
      number = on.number;
      relation = on.relation;
      tid = on.tid;
      fields = of.fields;
      values = of.values;
      at = on.at;
      is = on.is;
      tuple = of.tuple;
      defined = of.defined;
      fit = of.fit;
      storable = subst (All IsStorable) values body.storable;
      stands = stands;
    }
  where
    first_same : (a b : ℕ) (x y : List ℕ) → a ∷ x ≡ b ∷ y → a ≡ b
    first_same a b x y same = cc
