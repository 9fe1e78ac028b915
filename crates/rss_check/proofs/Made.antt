-- The definitions that a listing has, as maps from names, and that they fit.
use Rattle.std.proofs.Common.{◌≡◌, inl, inr, ℕ, zero, suc, ◌+◌, ◌-◌, ◌<◌, ◌≤◌, true, List, [], ◌∷◌, length, get_or, refl, sym, ◌∙◌, ap, subst, arith, length-take}
use Rattle.std.specs.Prelude.{Option, Some, None, IfSome, is_some, option_map, option_and_then, filter_map, slice_get, sum_by, ◌≢◌, Bool, false, ◌||◌}
use Rattle.std.specs.List.{cons_option}
use Rattle.std.specs.FinMap as map
use Rattle.std.specs.FinMap.{FinMap, get-empty}
use Rattle.std.proofs.lemmas.Bool.{cases_Bool, true≢false}
use Rattle.std.proofs.lemmas.List.{length-map}
use Rattle.std.proofs.lemmas.List.Sums.{count_by-le-length, sum_by-cons}
use Rattle.std.proofs.lemmas.Option.{none-some, same_Some}
use Rattle.rss_base.specs.Names.{IsName}
use Rattle.rss_base.specs.Sizes.{segments, relations_most, images_most, links_most, roles_most}
use Rattle.rss_base.specs.Listings.{Listing, ListingFits, ImageFits as ImageEntryFits, LinkFits as LinkEntryFits, numbered, names_of, field_numbers, segment_at, relation_at, image_at}
use Rattle.rss_base.specs.TupleTypes.{field_names, chosen, most_key_width}
use Rattle.rss_base.specs.declared.name.Name.{Name}
use Rattle.rss_base.specs.declared.field.FieldDef.{FieldDef}
use Rattle.rss_base.specs.declared.relation.RelationEntry.{RelationEntry}
use Rattle.rss_base.specs.declared.image.ImageEntry.{ImageEntry}
use Rattle.rss_base.specs.declared.link.LinkEntry.{LinkEntry}
use Rattle.rss_base.specs.declared.refusal.Kind.TheVariants.{Relation as RelationKind, Image as ImageKind, Link as LinkKind}
use Rattle.rss_model.specs.Items.{name_cmp, is_name}
use Rattle.rss_model.specs.Tables.{RelationDef, ImageDef, LinkDef, Definitions}
use Rattle.rss_model.specs.Chains.{has_part, parts_of}
use Rattle.rss_model.specs.Images.{field_number, numbers_of}
use Rattle.rss_model.specs.Fits.{DefinitionsFit, PathsFit, RelationFits, ImageFits, LinkFits, is_field_of}
use Rattle.rss_stored.specs.Store.{Defines, DefinesPaths, IsListedImage, IsListedLink, definition_of, image_definition, link_definition, relation_name as name_at}
use Rattle.rss_stored.proofs.ByNumber.{len_listed, relations_listed}
use Rattle.rss_stored.proofs.ImageFields.{fields_are, numbers_are, width_is}
use Rattle.rss_stored.proofs.ImageRooms.{images_listed}
use Rattle.rss_stored.proofs.Listed.{IsListOf, at_place, segments_listed, listed}
use Rattle.rss_model.proofs.Named.{made, made_here, made_other}
use Rattle.rss_stored.proofs.Relisted.{number_of}
use Rattle.rss_stored.proofs.Spelled.{name_numbered, named_relation, named_image, named_link, listed_link}
use Rattle.rss_stored.proofs.Prefixes.{links_listed, links_sum, parts_are}
use Rattle.rss_model.proofs.Codes.{name_total, name_apart}
use Rattle.rss_model.proofs.Contents.{not_tied}
use Rattle.rss_model.proofs.LogLists.{some_of}
use Rattle.rss_model.proofs.Counts.{one_if}

-- ---- a map of a list's items by their names

module _ {A X : Type 0} (name_of : A → Name) (value : A → X) where
  abbrev pub made_of : List (Option A) → FinMap name_cmp X
  made_of [] = map.empty
  made_of (None ∷ items) = made_of items
  made_of (Some item ∷ items) = map.insert (made_of items) (name_of item) (value item)

  -- no two places have one name
  abbrev pub AreOnce : List (Option A) → Type 0
  AreOnce items = (j k : ℕ) (a b : A) → get_or items j None ≡ Some a → get_or items k None ≡ Some b → name_of a ≡ name_of b → j ≡ k

  less_one : (j k : ℕ) → suc j ≡ suc k → j ≡ k
  less_one j k same = omega (arith, same)

  rest_once : (item : Option A) (items : List (Option A)) → AreOnce (item ∷ items) → AreOnce items
  rest_once item items once j k a b one other same = less_one j k (once (suc j) (suc k) a b one other same)

  -- each item is found by its name
  pub made_some : (items : List (Option A)) → AreOnce items → (k : ℕ) (item : A) → get_or items k None ≡ Some item → map.get (made_of items) (name_of item) ≡ Some (value item)
  made_some [] once k item at = absurd (none-some item at)
  made_some (None ∷ items) once zero item at = absurd (none-some item at)
  made_some (None ∷ items) once (suc k) item at = made_some items (rest_once None items once) k item at
  made_some (Some first ∷ items) once zero item at =
      let same : first ≡ item = same_Some _ _ at in
      ap (λ (a : A). map.get (map.insert (made_of items) (name_of a) (value a)) (name_of item)) same ∙ made_here (made_of items) (name_of item) (value item)
  made_some (Some first ∷ items) once (suc k) item at =
      made_other (made_of items) (name_of first) (value first) (name_of item) (λ same. let e = once (suc k) zero item first at refl same in absurd (omega (arith, e)))
      ∙ made_some items (rest_once (Some first) items once) k item at

  -- and no other name is
  pub made_only : (items : List (Option A)) (name : Name) → is_some (map.get (made_of items) name) ≡ true → (k : ℕ) × (item : A) × (get_or items k None ≡ Some item) × (name_of item ≡ name)
  made_only [] name there = absurd (true≢false (sym there ∙ ap is_some (get-empty name_cmp name)))
  made_only (None ∷ items) name there = let rest = made_only items name there in (suc rest.0, rest.1, rest.2, rest.3)
  made_only (Some first ∷ items) name there = elim (made (made_of items) (name_of first) (value first) name) [
    | inl same ↦ (zero, first, refl, sym same)
    | inr was ↦ let rest = made_only items name (ap is_some (sym was) ∙ there) in (suc rest.0, rest.1, rest.2, rest.3)
  ]

-- ---- what a list's items give, where they give something

module _ {A B : Type 0} where
  filter_long : (f : A → Option B) (xs : List A) → length (filter_map f xs) ≤ length xs
  filter_long f [] = omega arith
  filter_long f (x ∷ xs) = omega (arith, first_long (f x) (filter_map f xs), filter_long f xs)
    where
      first_long : (o : Option B) (rest : List B) → length (cons_option o rest) ≤ 1 + length rest
      first_long None rest = omega arith
      first_long (Some b) rest = omega arith

  -- where as many are given as there are items, each item gives one
  filter_total : (f : A → Option B) (xs : List A) → length (filter_map f xs) ≡ length xs → (k : ℕ) (d : A) (e : B) → k < length xs → f (get_or xs k d) ≡ Some (get_or (filter_map f xs) k e)
  filter_total f [] total k d e low = absurd (omega (arith, low))
  filter_total f (x ∷ xs) total k d e low = by (f x) refl (λ whole j below. filter_total f xs whole j d e below)
    where
      few : length (filter_map f xs) ≤ length xs
      few = filter_long f xs

      Rest : Type 0
      Rest = length (filter_map f xs) ≡ length xs → (j : ℕ) → j < length xs → f (get_or xs j d) ≡ Some (get_or (filter_map f xs) j e)

      place : (b : B) (k : ℕ) → length (filter_map f xs) ≡ length xs → f x ≡ Some b → k < length (x ∷ xs) → Rest → f (get_or (x ∷ xs) k d) ≡ Some (get_or (b ∷ filter_map f xs) k e)
      place b zero whole is low rest = is
      place b (suc j) whole is low rest = rest whole j (omega (arith, low))

      by : (o : Option B) → f x ≡ o → Rest → f (get_or (x ∷ xs) k d) ≡ Some (get_or (filter_map f (x ∷ xs)) k e)
      by None is rest = absurd (omega (arith, few, total, ap (λ (o : Option B). length (cons_option o (filter_map f xs))) is))
      by (Some b) is rest =
          let first : filter_map f (x ∷ xs) ≡ b ∷ filter_map f xs = ap (λ (o : Option B). cons_option o (filter_map f xs)) is in
          place b k (omega (arith, total, ap length first)) is low rest ∙ ap (λ (l : List B). Some (get_or l k e)) (sym first)

-- ---- the definitions of a listing

-- the name of a number's segment
abbrev pub segment_name : Option Name → Name
segment_name None = record { bytes = [] }
segment_name (Some name) = name

abbrev pub relation_name : RelationEntry → Name
relation_name relation = relation.name

abbrev pub relation_def : Listing → RelationEntry → RelationDef
relation_def listing relation = definition_of (segment_name (segment_at listing relation.segment)) relation

abbrev image_name : ImageEntry → Name
image_name image = image.name

-- an image, where its relation is listed
abbrev image_of : ImageEntry → Option RelationEntry → ImageDef
image_of image None = record { relation = record { bytes = [] }; is_unique = image.is_unique; fields = [] }
image_of image (Some relation) = image_definition image relation

abbrev image_def : Listing → ImageEntry → ImageDef
image_def listing image = image_of image (relation_at listing image.relation)

abbrev link_name : LinkEntry → Name
link_name link = link.name

-- a link, where the relation of its children is listed
abbrev link_of : Listing → LinkEntry → Option RelationEntry → LinkDef
link_of listing link None = record { parent = None; child = record { bytes = [] }; late = link.late }
link_of listing link (Some child) = link_definition listing link child

abbrev link_def : Listing → LinkEntry → LinkDef
link_def listing link = link_of listing link (relation_at listing link.child)

abbrev pub definitions_of : Listing → Definitions
definitions_of listing = record {
  segments = made_of (λ (name : Name). name) (λ name. tt) listing.segments;
  relations = made_of relation_name (relation_def listing) listing.relations;
  images = made_of image_name (image_def listing) listing.images;
  links = made_of link_name (link_def listing) listing.links;
}

module _ {listing : Listing} (fits : ListingFits listing) where
  segments_apart : AreOnce {X = Unit {0}} (λ (name : Name). name) (λ name. tt) listing.segments
  segments_apart j k a b one other same = less_one (λ (name : Name). name) (λ name. tt {0}) j k
      (fits.segments_once (suc j) (suc k) a (at_place listing.segments j ∙ one) (at_place listing.segments k ∙ other ∙ ap Some (sym same)))

  relations_apart : AreOnce relation_name (relation_def listing) listing.relations
  relations_apart j k a b one other same = less_one relation_name (relation_def listing) j k
      (fits.relations_once (suc j) (suc k) a.name (number_of listing (suc j) a (at_place listing.relations j ∙ one))
      (number_of listing (suc k) b (at_place listing.relations k ∙ other) ∙ ap Some (sym same)))

  images_apart : AreOnce image_name (image_def listing) listing.images
  images_apart j k a b one other same = less_one image_name (image_def listing) j k
      (fits.paths.images_once (suc j) (suc k) a.name (name_numbered image_name listing.images (suc j) a (at_place listing.images j ∙ one))
      (name_numbered image_name listing.images (suc k) b (at_place listing.images k ∙ other) ∙ ap Some (sym same)))

  links_apart : AreOnce link_name (link_def listing) listing.links
  links_apart j k a b one other same = less_one link_name (link_def listing) j k
      (fits.paths.links_once (suc j) (suc k) a.name (name_numbered link_name listing.links (suc j) a (at_place listing.links j ∙ one))
      (name_numbered link_name listing.links (suc k) b (at_place listing.links k ∙ other) ∙ ap Some (sym same)))

  -- what has this number, by its place
  place_of_number : {A : Type 0} (items : List (Option A)) (number : ℕ) (item : A) → numbered items number ≡ Some item → (k : ℕ) × (number ≡ suc k) × (get_or items k None ≡ Some item)
  place_of_number items zero item at = absurd (none-some item at)
  place_of_number items (suc k) item at = (k, refl, sym (at_place items k) ∙ at)

  paths_defined : DefinesPaths listing (definitions_of listing)
  paths_defined = record {
    images = λ number image relation is.
        let place = place_of_number listing.images number image is.at in
        made_some image_name (image_def listing) listing.images images_apart place.0 image place.2 ∙ ap (λ (found : Option RelationEntry). Some (image_of image found)) is.within;
    only_images = λ name there.
        let at = made_only image_name (image_def listing) listing.images name there in
        (suc at.0, name_numbered image_name listing.images (suc at.0) at.1 (at_place listing.images at.0 ∙ at.2) ∙ ap Some at.3);
    links = λ number link child is.
        let place = place_of_number listing.links number link is.at in
        made_some link_name (link_def listing) listing.links links_apart place.0 link place.2 ∙ ap (λ (found : Option RelationEntry). Some (link_of listing link found)) is.within;
    only_links = λ name there.
        let at = made_only link_name (link_def listing) listing.links name there in
        (suc at.0, name_numbered link_name listing.links (suc at.0) at.1 (at_place listing.links at.0 ∙ at.2) ∙ ap Some at.3);
  }

  pub listing_defines : Defines listing (definitions_of listing)
  listing_defines = record {
    segments = λ name. (
      (λ there. let at = made_only (λ (n : Name). n) (λ n. tt {0}) listing.segments name there in (suc at.0, at_place listing.segments at.0 ∙ at.2 ∙ ap Some at.3)),
      (λ has. let place = place_of_number listing.segments has.0 name has.1 in ap is_some (made_some (λ (n : Name). n) (λ n. tt {0}) listing.segments segments_apart place.0 name place.2)),
    );
    relations = λ number relation segment is.
        let place = place_of_number listing.relations number relation is.at in
        made_some relation_name (relation_def listing) listing.relations relations_apart place.0 relation place.2
        ∙ ap (λ (found : Option Name). Some (definition_of (segment_name found) relation)) is.within;
    only_relations = λ name there.
        let at = made_only relation_name (relation_def listing) listing.relations name there in
        (suc at.0, number_of listing (suc at.0) at.1 (at_place listing.relations at.0 ∙ at.2) ∙ ap Some at.3);
    paths = paths_defined;
  }

  -- ---- they fit

  module _ {definitions : Definitions} (defines : Defines listing definitions) where
    few_names : {X : Type 0} (items : List (Option Name)) (m : FinMap name_cmp X) (limit : ℕ) → IsListOf items m → length items ≡ limit → map.len m ≤ limit
    few_names items m limit list places = omega (arith, len_listed items m list, count_by-le-length (λ (o : Option Name). is_some o) items, places)

    relation_fits : (name : Name) (definition : RelationDef) → map.get definitions.relations name ≡ Some definition → RelationFits definitions definition
    relation_fits name definition is =
        let has = named_relation listing name (defines.only_relations name (ap is_some is)) in
        let so = listed fits defines has.number has.relation has.at in
        let same : definition_of so.0 has.relation ≡ definition = same_Some _ _ (sym (defines.relations has.number has.relation so.0 so.1) ∙ ap (map.get definitions.relations) has.named ∙ is) in
        subst (RelationFits definitions) same (record {
          segment = (defines.segments so.0).1 (has.relation.segment, so.1.within);
          fields = (fits.relations has.number has.relation has.at).fields;
        })

    module _ (number : ℕ) (image : ImageEntry) (at : image_at listing number ≡ Some image) where
      its : ImageEntryFits listing image
      its = fits.paths.images number image at

      listed_image : IsListedImage listing number image its.relation
      listed_image = record { at = at; within = its.listed }

      abbrev names : List Name
      names = field_names (chosen (field_numbers image) its.relation.fields)

      -- the fields are as many as their numbers, and have these by their names
      as_many : length (numbers_of its.relation.fields names) ≡ length names
      as_many = omega (
        arith,
        length-map (chosen (field_numbers image) its.relation.fields) (λ (field : FieldDef). field.name),
        filter_long (λ (place : ℕ). slice_get its.relation.fields (place - 1)) (field_numbers image),
        filter_long (field_number its.relation.fields) names,
        ap length (numbers_are fits defines listed_image),
      )

      field_found : (k : ℕ) (d : Name) → k < length names → field_number its.relation.fields (get_or names k d) ≡ Some (get_or (field_numbers image) k 0)
      field_found k d low = filter_total (field_number its.relation.fields) names as_many k d 0 low ∙ ap (λ (numbers : List ℕ). Some (get_or numbers k 0)) (numbers_are fits defines listed_image)

      image_fits : ImageFits definitions (image_definition image its.relation)
      image_fits =
          let so = listed fits defines image.relation its.relation its.listed in
          let long : length names ≡ length (field_numbers image) = sym as_many ∙ ap length (numbers_are fits defines listed_image) in
          record {
            relation = ap is_some (defines.relations image.relation its.relation so.0 so.1);
            some = omega (arith, its.some, its.few, its.long, length-take image.count image.fields, long);
            fields = λ k d low. subst (λ (fields : List FieldDef). is_field_of fields (get_or names k d) ≡ true) (sym (fields_are fits defines listed_image)) (ap is_some (field_found k d low));
            apart = λ j k d low high same. its.different j k (omega (arith, low, long)) (omega (arith, high, long))
                (same_Some _ _ (sym (field_found j d low) ∙ ap (field_number its.relation.fields) same ∙ field_found k d high));
            narrow = subst (λ (n : ℕ). n ≤ most_key_width) (sym (width_is fits defines listed_image)) its.narrow;
          }

    image_found : (name : Name) (definition : ImageDef) → map.get definitions.images name ≡ Some definition → ImageFits definitions definition
    image_found name definition is =
        let has = named_image listing name (defines.paths.only_images name (ap is_some is)) in
        let fit = image_fits has.number has.image has.at in
        let same : image_definition has.image (its has.number has.image has.at).relation ≡ definition =
        same_Some _ _ (sym (defines.paths.images has.number has.image _ (listed_image has.number has.image has.at)) ∙ ap (map.get definitions.images) has.named ∙ is) in
        subst (ImageFits definitions) same fit

    -- a listed relation is defined
    relation_there : (number : ℕ) (relation : RelationEntry) → relation_at listing number ≡ Some relation → is_some (map.get definitions.relations relation.name) ≡ true
    relation_there number relation at = let so = listed fits defines number relation at in ap is_some (defines.relations number relation so.0 so.1)

    module _ (number : ℕ) (link : LinkEntry) (child : RelationEntry) (its_link : IsListedLink listing number link child) where
      link_entry : LinkEntryFits listing link
      link_entry = fits.paths.links number link its_link.at

      -- the relation of its parents, where it has one
      above : (parent : ℕ) → link.parent ≡ Some parent → (relation : RelationEntry) × (relation_at listing parent ≡ Some relation)
      above parent is = some_of (relation_at listing parent) (subst (λ (o : Option ℕ). IfSome o (λ n. (is_some (relation_at listing n) ≡ true) × (n ≢ link.child))) is link_entry.parent).0

      link_fits : LinkFits definitions (link_definition listing link child)
      link_fits = record {
        child = relation_there link.child child its_link.within;
        parent = defined link.parent link_entry.parent;
        two = two link.parent link_entry.parent;
      }
        where
          defined : (parent : Option ℕ) → IfSome parent (λ n. (is_some (relation_at listing n) ≡ true) × (n ≢ link.child)) → IfSome (option_and_then (name_at listing) parent) (λ name. is_some (map.get definitions.relations name) ≡ true)
          defined None fit = tt
          defined (Some n) fit =
              let there = some_of (relation_at listing n) fit.0 in
              subst (λ (o : Option RelationEntry). IfSome (option_map (λ relation. relation.name) o) (λ name. is_some (map.get definitions.relations name) ≡ true)) (sym there.1) (relation_there n there.0 there.1)

          two : (parent : Option ℕ) → IfSome parent (λ n. (is_some (relation_at listing n) ≡ true) × (n ≢ link.child)) → IfSome (option_and_then (name_at listing) parent) (λ name. name ≢ child.name)
          two None fit = tt
          two (Some n) fit =
              let there = some_of (relation_at listing n) fit.0 in
              subst (λ (o : Option RelationEntry). IfSome (option_map (λ relation. relation.name) o) (λ name. name ≢ child.name)) (sym there.1)
              (λ same. fit.1 (fits.relations_once n link.child child.name (number_of listing n there.0 there.1 ∙ ap Some same) (number_of listing link.child child its_link.within)))

      -- a name that no relation has, has no part in it
      no_part : (name : Name) → is_some (map.get definitions.relations name) ≡ false → has_part name (link_definition listing link child) ≡ false
      no_part name none = by link.parent refl
        where
          other : (number : ℕ) (relation : RelationEntry) → relation_at listing number ≡ Some relation → is_name name relation.name ≡ false
          other number relation at = not_tied name_total name_apart name relation.name (λ same. true≢false (sym (ap (λ (n : Name). is_some (map.get definitions.relations n)) same ∙ relation_there number relation at) ∙ none))

          other_back : (number : ℕ) (relation : RelationEntry) → relation_at listing number ≡ Some relation → is_name relation.name name ≡ false
          other_back number relation at = not_tied name_total name_apart relation.name name (λ same. true≢false (sym (ap (λ (n : Name). is_some (map.get definitions.relations n)) (sym same) ∙ relation_there number relation at) ∙ none))

          by : (parent : Option ℕ) → link.parent ≡ parent → has_part name (record { parent = option_and_then (name_at listing) parent; child = child.name; late = link.late }) ≡ false
          by None is = ap (λ (t : Bool). t || false) (other link.child child its_link.within)
          by (Some n) is =
              let there = above n is in
              ap (λ (o : Option RelationEntry). has_part name (record { parent = option_map (λ relation. relation.name) o; child = child.name; late = link.late })) there.1
              ∙ (λ i. other link.child child its_link.within i || other_back n there.0 there.1 i)

    link_found : (name : Name) (definition : LinkDef) → map.get definitions.links name ≡ Some definition → LinkFits definitions definition
    link_found name definition is =
        let has = named_link listing name (defines.paths.only_links name (ap is_some is)) in
        let so = listed_link fits has.number has.link has.at in
        subst (LinkFits definitions) (same_Some _ _ (sym (defines.paths.links has.number has.link so.0 so.1) ∙ ap (map.get definitions.links) has.named ∙ is)) (link_fits has.number has.link so.0 so.1)

    few_parts : (name : Name) → parts_of definitions name ≤ roles_most
    few_parts name = elim (cases_Bool (is_some (map.get definitions.relations name))) [
      | inl there ↦
          let has = named_relation listing name (defines.only_relations name there) in
          omega (arith, ap (parts_of definitions) (sym has.named), parts_are fits defines has.number has.relation has.at, fits.paths.few_roles has.number)
      | inr none ↦ omega (arith, none_counted none, nothing listing.links)
    ]
      where
        none_counted : is_some (map.get definitions.relations name) ≡ false → parts_of definitions name ≡ sum_by (λ (o : Option LinkEntry). 0) listing.links
        none_counted none = links_sum fits defines (λ (d : LinkDef). one_if (has_part name d)) (λ (o : Option LinkEntry). 0) refl (λ k link child is. ap one_if (no_part k link child is name none))

        nothing : (items : List (Option LinkEntry)) → sum_by (λ (o : Option LinkEntry). 0) items ≡ 0
        nothing [] = refl
        nothing (o ∷ items) = omega (arith, sum_by-cons (λ (o : Option LinkEntry). 0) o items, nothing items)

    paths_fit : PathsFit definitions
    paths_fit = record {
      image_names = λ name there.
          let has = named_image listing name (defines.paths.only_images name there) in
          subst IsName has.named (fits.paths.images has.number has.image has.at).name;
      few_images = few_names (names_of ImageKind listing) definitions.images images_most (images_listed defines fits)
          (length-map listing.images (option_map image_name) ∙ fits.paths.image_places);
      images = image_found;
      link_names = λ name there.
          let has = named_link listing name (defines.paths.only_links name there) in
          subst IsName has.named (fits.paths.links has.number has.link has.at).name;
      few_links = few_names (names_of LinkKind listing) definitions.links links_most (links_listed fits defines)
          (length-map listing.links (option_map link_name) ∙ fits.paths.link_places);
      links = link_found;
      few_parts = few_parts;
    }

    pub listing_fits : DefinitionsFit definitions
    listing_fits = record {
      segment_names = λ name there. let has = (defines.segments name).0 there in fits.segment_names has.0 name has.1;
      few_segments = few_names listing.segments definitions.segments segments (segments_listed fits defines) fits.segment_places;
      relation_names = λ name there.
          let has = named_relation listing name (defines.only_relations name there) in
          subst IsName has.named (fits.relations has.number has.relation has.at).name;
      few_relations = few_names (names_of RelationKind listing) definitions.relations relations_most (relations_listed fits defines)
          (length-map listing.relations (option_map relation_name) ∙ fits.relation_places);
      relations = relation_fits;
      paths = paths_fit;
    }
