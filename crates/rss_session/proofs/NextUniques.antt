-- The least listed image behind those that were passed is the next of the machine's list.
use Rattle.std.proofs.Common.{◌≡◌, inl, inr, ⊎_elim, ℕ, zero, suc, ◌+◌, ◌<◌, ◌≤◌, Bool, true, List, [], ◌∷◌, ◌++◌, length, get_or, refl, sym, ◌∙◌, ap, subst, arith, append_assoc, append-nil, length-append}
use Rattle.std.specs.Prelude.{Option, Some, None, IfSome, All, is_some, option_map, unwrap_or, filter, ◌&&◌, map as list_map, ⊤}
use Rattle.std.specs.Cmp.{Equal-is}
use Rattle.std.specs.FinMap as map
use Rattle.std.specs.FinMap.{entries_sorted, is_sorted, len-entries}
use Rattle.std.specs.declared.cmp.Ordering.TheVariants.{Less}
use Rattle.std.proofs.Math.Dec.{T}
use Rattle.std.proofs.lemmas.Bool.{and_parts, cases_eq, cases_lt}
use Rattle.std.proofs.lemmas.List.Sums.{length-filter, count_by-le-length}
use Rattle.std.proofs.lemmas.Option.{none-some, same_Some}
use Rattle.rss_base.specs.Listings.{Listing, ListingFits, IsFieldNumber, IsNumberOf, field_numbers, image_at, relation_at}
use Rattle.rss_base.specs.TupleTypes.{chosen, field_names, kinds, key_width, most_key_width}
use Rattle.rss_base.specs.declared.image.ImageEntry.{ImageEntry}
use Rattle.rss_base.specs.declared.name.Name.{Name}
use Rattle.rss_base.specs.declared.refusal.Kind.TheVariants.{Image as ImageKind}
use Rattle.rss_base.specs.declared.refusal.Refusal.{Refusal}
use Rattle.rss_base.specs.declared.relation.RelationEntry.{RelationEntry}
use Rattle.rss_base.specs.declared.value.FieldForm.{FieldForm}
use Rattle.rss_base.specs.declared.value.Value.{Value}
use Rattle.rss_model.specs.Fits.{Fits}
use Rattle.rss_model.specs.Images.{key_in, numbers_of, unique_images}
use Rattle.rss_model.specs.Items.{name_cmp, is_name}
use Rattle.rss_model.specs.Refusals.{first_of}
use Rattle.rss_stored.specs.Store.{Defines, IsListedImage, image_definition}
use Rattle.rss_model.specs.Tables.{ImageDef, RelationDef, Definitions, Tables}
use Rattle.rss_model.proofs.Codes.{name_total, name_apart}
use Rattle.rss_model.proofs.ImageLists.{T_parts}
use Rattle.rss_stored.proofs.Listed.{at_place, listed}
use Rattle.rss_model.proofs.LogLists.{by_test}
use Rattle.rss_model.proofs.Mixing.{In, in_filter, in_left, in_parts, in_right}
use Rattle.rss_stored.proofs.Relisted.{number_of}
use Rattle.rss_model.proofs.SeenAlike.{all_below, got_in, not_below}
use Rattle.rss_model.proofs.Testing.{unique_in}
use Rattle.rss_catalog.specs.Catalogs.{IsSafeImage}
use Rattle.rss_access.specs.Moved.{IsImageOf}
use Rattle.rss_stored.proofs.ImageFields.{numbers_back, chosen_kinds}
use Rattle.rss_session.specs.Uniques.{IsBehind, IsUniqueBehind, AreInOrder, IsBefore, FindsLeast, last_name, defined_image, AreLed, IsNextUnique}

-- ---- images whose names rise

abbrev Images : Type 0
Images = List (Name × ImageDef)

abbrev Rise : Images → Type 0
Rise [] = ⊤
Rise (image ∷ images) = ((other : Name × ImageDef) → In other images → name_cmp image.0 other.0 ≡ Less) × Rise images

rise_sorted : (images : Images) → T (is_sorted name_cmp images) → Rise images
rise_sorted [] sorted = tt
rise_sorted (image ∷ images) sorted =
    let parts = T_parts _ _ sorted in
    (all_below name_total name_apart image.0 images parts.0, rise_sorted images parts.1)

rise_filter : (p : Name × ImageDef → Bool) (images : Images) → Rise images → Rise (filter p images)
rise_filter p [] rise = tt
rise_filter p (image ∷ images) rise =
    let rest = rise_filter p images rise.1 in
    by_test (p image) (λ t. rw t ((λ other is. rise.0 other (in_filter p images other is).0), rest)) (λ t. rw t rest)

rise_unique : (definitions : Definitions) (relation : Name) → Rise (unique_images definitions relation)
rise_unique definitions relation = rise_filter _ (map.entries definitions.images) (rise_sorted (map.entries definitions.images) (entries_sorted definitions.images))

rise_left : (passed left : Images) → Rise (passed ++ left) → Rise left
rise_left [] left rise = rise
rise_left (image ∷ passed) left rise = rise_left passed left rise.1

-- ---- what stands behind those that were passed

-- the last of some
last_of : (image : Name × ImageDef) (images : Images) → (last : Name × ImageDef) × In last (image ∷ images) × (last_name (image ∷ images) ≡ Some last.0)
last_of image [] = (image, inl refl, refl)
last_of image (next ∷ images) = let last = last_of next images in (last.0, inr last.1, last.2)

left_behind : (passed left : Images) → Rise (passed ++ left) → (image : Name × ImageDef) → In image left → IsBehind (last_name passed) image.0
left_behind [] left rise image is = tt
left_behind (one ∷ []) left rise image is = rise.0 image is
left_behind (one ∷ next ∷ passed) left rise image is = left_behind (next ∷ passed) left rise.1 image is

passed_not : (passed left : Images) → Rise (passed ++ left) → (image : Name × ImageDef) → In image passed → IsBehind (last_name passed) image.0 → ⊥
passed_not [] left rise image is behind = is
passed_not (one ∷ []) left rise image (inl same) behind = not_below name_total name_apart one.0 (ap (λ (e : Name × ImageDef). name_cmp one.0 e.0) same ∙ behind)
passed_not (one ∷ []) left rise image (inr is) behind = is
passed_not (one ∷ next ∷ passed) left rise image (inl same) behind =
    let last = last_of next passed in
    let before : name_cmp one.0 last.0.0 ≡ Less = rise.0 last.0 (in_left (next ∷ passed) left last.0 last.1) in
    let after : name_cmp last.0.0 one.0 ≡ Less = ap (name_cmp last.0.0) (ap (λ (e : Name × ImageDef). e.0) same) ∙ subst (λ (name : Option Name). IsBehind name image.0) last.2 behind in
    not_below name_total name_apart one.0 (name_total.trans one.0 last.0.0 one.0 before after)
passed_not (one ∷ next ∷ passed) left rise image (inr is) behind = passed_not (next ∷ passed) left rise.1 image is behind

-- ---- images of a listing

-- the image of a number whose name is known
pub image_named : (listing : Listing) (name : Name) (number : ℕ) → IsNumberOf ImageKind listing name number → (image : ImageEntry) × (image_at listing number ≡ Some image) × (image.name ≡ name)
image_named listing name zero is = absurd (none-some name is)
image_named listing name (suc k) is =
    let some = entry listing.images k (sym (at_place (list_map (option_map (λ (i : ImageEntry). i.name)) listing.images) k) ∙ is) in
    (some.0, at_place listing.images k ∙ some.1, some.2)
  where
    named : (found : Option ImageEntry) → option_map (λ (i : ImageEntry). i.name) found ≡ Some name → (i : ImageEntry) × (found ≡ Some i) × (i.name ≡ name)
    named None is = absurd (cc)
    named (Some i) is = (i, refl, same_Some _ _ is)

    entry : (images : List (Option ImageEntry)) (k : ℕ) → get_or (list_map (option_map (λ (i : ImageEntry). i.name)) images) k None ≡ Some name → (i : ImageEntry) × (get_or images k None ≡ Some i) × (i.name ≡ name)
    entry [] k is = absurd (cc)
    entry (first ∷ images) zero is = named first is
    entry (first ∷ images) (suc k) is = entry images k is

-- The number is that of an image of this list.
record IsNumbered (listing : Listing) (relation : ℕ) (entry : RelationEntry) (one : Name × ImageDef) : Type 0 where
  pub number : ℕ
  pub image : ImageEntry
  pub at : image_at listing number ≡ Some image
  pub of : image.relation ≡ relation
  pub unique : image.is_unique ≡ true
  pub is : one ≡ defined_image image entry

module _ {listing : Listing} (definitions : Definitions) (relation : ℕ) (entry : RelationEntry) (fits : ListingFits listing) (defines : Defines listing definitions) (at : relation_at listing relation ≡ Some entry) where
  -- a unique image of the relation is in its list
  listed_in : (number : ℕ) (image : ImageEntry) → image_at listing number ≡ Some image → image.relation ≡ relation → image.is_unique ≡ true → In (defined_image image entry) (unique_images definitions entry.name)
  listed_in number image here of unique =
      let got = defines.paths.images number image entry (record { at = here; within = ap (relation_at listing) of ∙ at }) in
      unique_in (record { definitions = definitions; contents = map.empty }) image.name (image_definition image entry) got unique

  -- and each that is has a number
  numbered_in : (one : Name × ImageDef) → In one (unique_images definitions entry.name) → IsNumbered listing relation entry one
  numbered_in one is =
      let parts = in_filter _ (map.entries definitions.images) one is in
      let tests = and_parts one.1.is_unique (is_name entry.name one.1.relation) parts.1 in
      let got : map.get definitions.images one.0 ≡ Some one.1 = got_in name_total name_apart definitions.images one.0 one.1 parts.0 in
      let has = defines.paths.only_images one.0 (ap is_some got) in
      let image = image_named listing one.0 has.0 has.1 in
      let fit = fits.paths.images has.0 image.0 image.1 in
      let made = defines.paths.images has.0 image.0 fit.relation (record { at = image.1; within = fit.listed }) in
      let same : one.1 ≡ image_definition image.0 fit.relation = same_Some _ _ (sym got ∙ ap (map.get definitions.images) (sym image.2) ∙ made) in
      let named : entry.name ≡ fit.relation.name =
      name_apart entry.name fit.relation.name ((Equal-is (name_cmp entry.name fit.relation.name)).0 (ap (λ (d : ImageDef). is_name entry.name d.relation) (sym same) ∙ tests.1)) in
      let of : image.0.relation ≡ relation = fits.relations_once image.0.relation relation entry.name (number_of listing image.0.relation fit.relation fit.listed ∙ ap Some (sym named)) (number_of listing relation entry at) in
      let its : fit.relation ≡ entry = same_Some _ _ (sym fit.listed ∙ ap (relation_at listing) of ∙ at) in
      record {
        number = has.0;
        image = image.0;
        at = image.1;
        of = of;
        unique = ap (λ (d : ImageDef). d.is_unique) (sym same) ∙ tests.0;
        is = λ i. (sym image.2 i, (same ∙ ap (image_definition image.0) its) i);
      }

  -- ---- the next one

  module _ {after : Option Name} (passed left : Images) (split : unique_images definitions entry.name ≡ passed ++ left) (ends : after ≡ last_name passed) where
    rise : Rise (passed ++ left)
    rise = subst Rise split (rise_unique definitions entry.name)

    -- an image that is left has a number, and stands behind those that were passed
    left_numbered : (one : Name × ImageDef) → In one left → IsNumbered listing relation entry one
    left_numbered one is = numbered_in one (subst (In one) (sym split) (in_right passed left one is))

    left_unique : (one : Name × ImageDef) (is : In one left) → IsUniqueBehind listing relation after (left_numbered one is).number
    left_unique one is =
        let has = left_numbered one is in
        record {
          image = has.image;
          at = has.at;
          of = has.of;
          unique = has.unique;
          behind = subst (λ (name : Option Name). IsBehind name has.image.name) (sym ends) (subst (λ (o : Name × ImageDef). IsBehind (last_name passed) o.0) has.is (left_behind passed left rise one is));
        }

    none_left : ((k : ℕ) → IsUniqueBehind listing relation after k → ⊥) → left ≡ []
    none_left none = by left (λ one is. none (left_numbered one is).number (left_unique one is))
      where
        by : (images : Images) → ((one : Name × ImageDef) → In one images → ⊥) → images ≡ []
        by [] never = refl
        by (one ∷ images) never = absurd (never one (inl refl))

    -- the least of all is the first that is left
    module _ (number : ℕ) (is : IsUniqueBehind listing relation after number) (least : (k : ℕ) → IsUniqueBehind listing relation after k → AreInOrder listing k number → ⊥) where
      abbrev here : Name × ImageDef
      here = defined_image is.image entry

      among : In here left
      among =
          ⊎_elim (λ before. absurd (passed_not passed left rise here before (subst (λ (name : Option Name). IsBehind name is.image.name) ends is.behind))) (λ behind. behind)
          (in_parts passed left here (subst (In here) split (listed_in number is.image is.at is.of is.unique)))

      -- none stands before it
      none_before : (one : Name × ImageDef) → In one left → name_cmp one.0 here.0 ≡ Less → ⊥
      none_before one is_left less =
          let has = left_numbered one is_left in
          least has.number (left_unique one is_left) (λ first second at_first at_second.
          (λ i. name_cmp (same_Some _ _ (sym at_first ∙ has.at) i).name (same_Some _ _ (sym at_second ∙ is.at) i).name)
          ∙ ap (λ (o : Name × ImageDef). name_cmp o.0 here.0) (sym has.is) ∙ less)

      leads : AreLed listing (Some number) left
      leads = by left (rise_left passed left rise) among none_before
        where
          by : (images : Images) → Rise images → In here images → ((one : Name × ImageDef) → In one images → name_cmp one.0 here.0 ≡ Less → ⊥) → AreLed listing (Some number) images
          by [] rises there never = absurd there
          by (one ∷ images) rises (inl same) never = record {
            image = is.image;
            relation = entry;
            others = images;
            at = record { at = is.at; within = ap (relation_at listing) is.of ∙ at };
            unique = is.unique;
            first = ap (λ (o : Name × ImageDef). o ∷ images) same;
          }
          by (one ∷ images) rises (inr there) never = absurd (never one (inl refl) (rises.0 here there))

-- ---- the least of the numbers, one after another

module _ (listing : Listing) (relation : ℕ) (after : Option Name) where
  pub none_below : FindsLeast listing relation after 1 None
  none_below k low is = none-some is.image (ap (image_at listing) (zero_is k low) ∙ is.at)
    where
      zero_is : (k : ℕ) → k < 1 → zero ≡ k
      zero_is k low = omega (arith, low)

  -- there is one number more, which isn't that of a unique image behind
  pub least_passes : (number : ℕ) (least : Option ℕ) → FindsLeast listing relation after number least → (IsUniqueBehind listing relation after number → ⊥) → FindsLeast listing relation after (number + 1) least
  least_passes number None none not = λ k low is. elim (cases_eq k number) [
    | inl same ↦ absurd (not (subst (IsUniqueBehind listing relation after) same is))
    | inr other ↦ none k (omega (arith, low, other)) is
  ]
  least_passes number (Some m) least not = record {
    is = least.is;
    least = λ k low is order. elim (cases_eq k number) [
      | inl same ↦ absurd (not (subst (IsUniqueBehind listing relation after) same is))
      | inr other ↦ least.least k (omega (arith, low, other)) is order
    ];
  }

  -- or which isn't before the least
  pub least_stays : (number : ℕ) (least : Option ℕ) → FindsLeast listing relation after number least → (IsBefore listing number least → ⊥) → FindsLeast listing relation after (number + 1) least
  least_stays number None none not = absurd (not tt)
  least_stays number (Some m) least not = record {
    is = least.is;
    least = λ k low is order. elim (cases_eq k number) [
      | inl same ↦ absurd (not (subst (λ (n : ℕ). AreInOrder listing n m) same order))
      | inr other ↦ least.least k (omega (arith, low, other)) is order
    ];
  }

  order_then : (one number other : ℕ) {image : ImageEntry} → image_at listing number ≡ Some image → AreInOrder listing one number → AreInOrder listing number other → AreInOrder listing one other
  order_then one number other {image = image} at before behind first second at_first at_second =
      name_total.trans first.name image.name second.name (before first image at_first at) (behind image second at at_second)

  -- or which is the least now
  pub least_new : (number : ℕ) (least : Option ℕ) → FindsLeast listing relation after number least → IsUniqueBehind listing relation after number → IsBefore listing number least → FindsLeast listing relation after (number + 1) (Some number)
  least_new number least found is before = record {
    is = is;
    least = λ k low other order. elim (cases_eq k number) [
      | inl same ↦ absurd (not_below name_total name_apart is.image.name (order is.image is.image (ap (image_at listing) same ∙ is.at) is.at))
      | inr apart ↦ by least found before k (omega (arith, low, apart)) other order
    ];
  }
    where
      by : (least : Option ℕ) → FindsLeast listing relation after number least → IsBefore listing number least → (k : ℕ) → k < number → IsUniqueBehind listing relation after k → AreInOrder listing k number → ⊥
      by None none before k low other order = none k low other
      by (Some m) found before k low other order = found.least k low other (order_then k number m is.at order before)

-- it is an image of the relation
pub least_of : (listing : Listing) (relation : ℕ) (after : Option Name) (below : ℕ) (least : Option ℕ) → FindsLeast listing relation after below least → IfSome least (λ number. IsImageOf listing number relation)
least_of listing relation after below None none = tt
least_of listing relation after below (Some number) least = record { image = least.is.image; at = least.is.at; of = least.is.of }

-- behind the last image there is none
pub below_last : (listing : Listing) (relation : ℕ) (after : Option Name) (last : ℕ) → ((number : ℕ) → last < number → image_at listing number ≡ None) → (k : ℕ) → IsUniqueBehind listing relation after k → k < last + 1
below_last listing relation after last none k is = elim (cases_lt k (last + 1)) [
  | inl low ↦ low
  | inr past ↦ absurd (none-some is.image (sym (none k (omega (arith, past))) ∙ is.at))
]

-- where all numbers were looked at
pub next_unique : {listing : Listing} {relation : ℕ} {after : Option Name} {below : ℕ} (found : Option ℕ) → ((k : ℕ) → IsUniqueBehind listing relation after k → k < below) → FindsLeast listing relation after below found → IsNextUnique listing relation after found
next_unique None all none definitions entry fits defines at passed left split ends =
    none_left definitions _ entry fits defines at passed left split ends (λ k is. none k (all k is) is)
next_unique (Some number) all least definitions entry fits defines at passed left split ends =
    leads definitions _ entry fits defines at passed left split ends number least.is (λ k is. least.least k (all k is) is)

-- the image of a number is one of the relation
pub of_relation : {listing : Listing} {found number : ℕ} {image : ImageEntry} → image_at listing found ≡ Some image → IsImageOf listing found number → image.relation ≡ number
of_relation at of = ap (λ (i : ImageEntry). i.relation) (same_Some _ _ (sym at ∙ of.at)) ∙ of.of

-- ---- a walk along them

-- So many of the images were passed, and this is the name of the last of them.
pub record ArePassed (images : Images) (count : ℕ) (after : Option Name) : Type 0 where
  pub passed : Images
  pub left : Images
  pub split : images ≡ passed ++ left
  pub ends : after ≡ last_name passed
  pub many : length passed ≡ count

abbrev pub none_passed : (images : Images) → ArePassed images 0 None
none_passed images = record { passed = []; left = images; split = refl; ends = refl; many = refl }

last_behind : (passed : Images) (image : Name × ImageDef) → last_name (passed ++ image ∷ []) ≡ Some image.0
last_behind [] image = refl
last_behind (one ∷ []) image = refl
last_behind (one ∷ next ∷ passed) image = last_behind (next ∷ passed) image

-- one more of them was passed
pub record OneMore (images passed : Images) (count : ℕ) (image : Name × ImageDef) : Type 0 where
  pub are : ArePassed images (count + 1) (Some image.0)
  pub more : are.passed ≡ passed ++ image ∷ []

pub one_more : {listing : Listing} {images : Images} {count : ℕ} {after : Option Name} (are : ArePassed images count after) {number relation : ℕ} {image : ImageEntry} {entry : RelationEntry} → AreLed listing (Some number) are.left
    → image_at listing number ≡ Some image → image.relation ≡ relation → relation_at listing relation ≡ Some entry → OneMore images are.passed count (defined_image image entry)
one_more {listing = listing} {images = images} {count = count} are {image = image} {entry = entry} led here of at =
    let image_is : led.image ≡ image = same_Some _ _ (sym led.at.at ∙ here) in
    let entry_is : led.relation ≡ entry = same_Some _ _ (sym led.at.within ∙ ap (λ (i : ImageEntry). relation_at listing i.relation) image_is ∙ ap (relation_at listing) of ∙ at) in
    let one : Name × ImageDef = defined_image image entry in
    record {
      are = record {
        passed = are.passed ++ one ∷ [];
        left = led.others;
        split = are.split ∙ ap (λ (l : Images). are.passed ++ l) (led.first ∙ (λ i. defined_image (image_is i) (entry_is i) ∷ led.others)) ∙ sym (append_assoc are.passed (one ∷ []) led.others);
        ends = sym (last_behind are.passed one);
        many = omega (arith, are.many, length-append are.passed (one ∷ []));
      };
      more = refl;
    }

-- none is left
pub all_passed : {images : Images} {count : ℕ} {after : Option Name} (are : ArePassed images count after) → are.left ≡ [] → are.passed ≡ images
all_passed are none = sym (are.split ∙ ap (λ (l : Images). are.passed ++ l) none ∙ append-nil are.passed)

pub many_passed : {images : Images} {count : ℕ} {after : Option Name} (are : ArePassed images count after) → length images ≤ count → are.left ≡ []
many_passed are few = by are.left (omega (arith, few, are.many, ap length are.split, length-append are.passed are.left))
  where
    by : (left : Images) → length left ≤ 0 → left ≡ []
    by [] none = refl
    by (one ∷ left) none = absurd (omega (arith, none))

-- there are no more than may be defined
pub few_unique : {slots : ℕ} (tables : Tables) → Fits slots tables → (relation : Name) → length (unique_images tables.definitions relation) ≤ 128
few_unique tables fits relation = omega (arith, fits.definitions.paths.few_images, len-entries tables.definitions.images, length-filter (λ (image : Name × ImageDef). image.1.is_unique && is_name relation image.1.relation) (map.entries tables.definitions.images), count_by-le-length (λ (image : Name × ImageDef). image.1.is_unique && is_name relation image.1.relation) (map.entries tables.definitions.images))

-- ---- keys

-- the key of a tuple, by the numbers of the image's fields
pub key_listed : {listing : Listing} {definitions : Definitions} → ListingFits listing → Defines listing definitions → {number : ℕ} {image : ImageEntry} {relation : RelationEntry} → IsListedImage listing number image relation
    → (values : List Value) → key_in definitions (image_definition image relation) values ≡ chosen (field_numbers image) values
key_listed fits defines {number = number} {image = image} {relation = relation} at values =
    let fit = fits.paths.images number image at.at in
    let so = listed fits defines image.relation relation at.within in
    let names : List Name = field_names (chosen (field_numbers image) relation.fields) in
    let fields = ap (λ (r : Option RelationDef). numbers_of (unwrap_or (option_map (λ d. d.fields) r) []) names) (defines.relations image.relation relation so.0 so.1) in
    let within = subst (λ (r : RelationEntry). All (IsFieldNumber (length r.fields)) (field_numbers image)) (same_Some _ _ (sym fit.listed ∙ at.within)) fit.within in
    ap (λ (numbers : List ℕ). chosen numbers values)
    (fields ∙ numbers_back relation.fields (fits.relations image.relation relation at.within).fields.apart (field_numbers image) within)

-- keys are narrow
pub narrow_key : {listing : Listing} {image : ImageEntry} (safe : IsSafeImage listing image) → key_width (chosen (field_numbers image) (kinds safe.relation.fields)) ≤ most_key_width
narrow_key {image = image} safe = subst (λ (fields : List FieldForm). key_width fields ≤ most_key_width) (sym (chosen_kinds (field_numbers image) safe.relation.fields)) safe.narrow

-- ---- what each of them is refused for

pub first_behind : (tests more : List (Option Refusal)) → first_of tests ≡ None → first_of (tests ++ more) ≡ first_of more
first_behind [] more none = refl
first_behind (None ∷ tests) more none = first_behind tests more none
first_behind (Some why ∷ tests) more none = absurd (cc (none))
