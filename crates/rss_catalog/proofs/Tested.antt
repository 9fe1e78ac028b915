-- What the tests of a listing find.
use Rattle.std.proofs.Common.{◌≡◌, ℕ, ◌+◌, ◌-◌, ◌<◌, ◌≤◌, Bool, true, false, cond, ◌*◌, List, [], ◌∷◌, ◌++◌, length, take, drop, get_or, set, replicate, Option, Some, None, All, refl, sym, ◌∙◌, ap, subst, inl, inr, arith, length-append}
use Rattle.std.specs.Prelude.{map, option_map, count_by, IfNone, nat_le, ◌&&◌}
use Rattle.std.proofs.lemmas.Bool.{cases_eq, cases_lt, cond-true, cond-false, and_parts, leb-true, le-leb, lt-leb}
use Rattle.std.proofs.lemmas.Option.{none-some, same_Some}
use Rattle.std.proofs.lemmas.List.{length-map, length-take, length-replicate, take_at, drop_at, get_or-map, get_or-take, get_or_default, get_or_append_left, get_or-append-add, get_or-replicate, get_or_past, take_more, take_more_set}
use Rattle.std.proofs.lemmas.List.Sums.{sum_by-cons}
use Rattle.std.proofs.lemmas.List.Elements.{All-head, All-tail, All-cons, All-weaker, All-replicate, All-map}
use Rattle.rss_base.specs.Names.{IsName, IsNameByte, IsNameText, AreApart}
use Rattle.std.specs.List.{list_all}
use Rattle.rss_base.specs.TupleTypes.{AreFields, field_names, form_of, kinds, is_kind, width, most_fields, most_width}
use Rattle.rss_base.specs.declared.value.FieldKind.TheVariants.{Int}
use Rattle.rss_base.specs.Sizes.{segments, relations_most, images_most, links_most}
use Rattle.rss_base.specs.Listings.{Listing, numbered, has_role, ImageFits, LinkFits}
use Rattle.rss_base.specs.declared.name.Name.{Name}
use Rattle.rss_base.specs.declared.field.FieldDef.{FieldDef}
use Rattle.rss_base.specs.declared.relation.RelationEntry.{RelationEntry}
use Rattle.rss_base.specs.declared.image.ImageEntry.{ImageEntry}
use Rattle.rss_base.specs.declared.link.LinkEntry.{LinkEntry}
use Rattle.rss_catalog.specs.Defined.{unrooted, endless, settled, front, up_to, AreDefinitions, is_fine, IsFirstWrong}
use Rattle.rss_catalog.specs.Checking.{AreNames, AreOnce, IsTaken, TablesFit, ImagesFit, LinksFit, TablesFitTo, ImagesFitTo, IsFirstBad, HasEntryOf, image_names, link_names, listing_of}
use Rattle.rss_catalog.proofs.Roles.{link_stays}
use Rattle.rss_catalog.proofs.Plain.{none_of, none_named, no_roles}
use Rattle.rss_catalog.proofs.Fronts.{map_has, has_map, front_all, length_front, front_at, once_front}
use Rattle.rss_catalog.proofs.Listed.{entry_moves, image_stays}
use Rattle.rss_catalog.proofs.Numbered.{numbered_within, has_number, place_has}

-- ---- one name

pub zeros_all : (bytes : List ℕ) → All (λ byte. byte ≡ 0) bytes → bytes ≡ replicate (length bytes) 0
zeros_all [] all = refl
zeros_all (x ∷ xs) all =
    let here = All-head (λ byte. byte ≡ 0) x xs all in
    let rest = zeros_all xs (All-tail (λ byte. byte ≡ 0) x xs all) in
    λ i. here i ∷ rest i

-- a text and zeros are a name
pub name_of_text : (name : Name) (text zeros : List ℕ) → name.bytes ≡ text ++ zeros → length name.bytes ≡ 16 → IsNameText text → All (λ byte. byte ≡ 0) zeros → IsName name
name_of_text name [] zeros is long text all = absurd text
name_of_text name (first ∷ rest) zeros is long text all =
    let count : length zeros ≡ 15 - length rest = omega (arith, long, ap length is, length-append (first ∷ rest) zeros, text.2) in
    record {
      first = first;
      rest = rest;
      bytes = is ∙ ap (λ (l : List ℕ). (first ∷ rest) ++ l) (zeros_all zeros all ∙ ap (λ (n : ℕ). replicate n 0) count);
      letter = text.0;
      each = text.1;
      few = omega (arith, text.2);
    }

-- no byte of a name's text is a zero
name_byte : (b : ℕ) → IsNameByte b → b ≡ 0 → ⊥
name_byte b (inl letter) is = omega (arith, letter.0, is)
name_byte b (inr (inl digit)) is = omega (arith, digit.0, is)
name_byte b (inr (inr line)) is = omega (arith, line, is)

zero_at : (count k : ℕ) → get_or (replicate {A = ℕ} count 0) k 0 ≡ 0
zero_at count k = elim (cases_lt k count) [
  | inl low ↦ get_or-replicate count k 0 0 low
  | inr past ↦ get_or_past (replicate count 0) k 0 (omega (arith, length-replicate {A = ℕ} count 0))
]

-- the text of a name ends at its first zero
pub text_long : {name : Name} (is : IsName name) (bytes : List ℕ) (long : ℕ) → bytes ≡ name.bytes → long ≤ length bytes → ((k : ℕ) → k < long → get_or bytes k 0 ≡ 0 → ⊥) → (long < length bytes → get_or bytes long 0 ≡ 0) → long ≡ length (is.first ∷ is.rest)
text_long is bytes long same within text ends =
    let front = is.first ∷ is.rest in
    let zeros = replicate (15 - length is.rest) 0 in
    let whole : bytes ≡ front ++ zeros = same ∙ is.bytes in
    let count = ap length whole ∙ length-append front zeros in
    let end : length front ≡ length front + 0 = omega arith in
    let nonzero : All (λ byte. byte ≡ 0 → ⊥) front = All-cons (λ byte. byte ≡ 0 → ⊥) is.first is.rest (λ none. name_byte is.first (inl is.letter) none) (All-weaker IsNameByte (λ byte. byte ≡ 0 → ⊥) name_byte is.rest is.each) in
    elim (cases_lt long (length front)) [
      | inl short ↦ absurd (nonzero long 0 short (sym (ap (λ (l : List ℕ). get_or l long 0) whole ∙ get_or_append_left front zeros 0 long short) ∙ ends (omega (arith, count, short))))
      | inr enough ↦ elim (cases_lt (length front) long) [
        | inl past ↦ absurd (text (length front) past (ap (λ (l : List ℕ). get_or l (length front) 0) whole ∙ ap (λ (n : ℕ). get_or (front ++ zeros) n 0) end ∙ get_or-append-add front zeros 0 0 ∙ zero_at (15 - length is.rest) 0))
        | inr most ↦ omega (arith, enough, most)
      ]
    ]

-- so a name is a text and zeros
pub text_of_name : {name : Name} (is : IsName name) (bytes : List ℕ) (long : ℕ) → bytes ≡ name.bytes → long ≡ length (is.first ∷ is.rest) → IsNameText (take long bytes) × All (λ byte. byte ≡ 0) (drop long bytes)
text_of_name is bytes long same here =
    let front = is.first ∷ is.rest in
    let zeros = replicate (15 - length is.rest) 0 in
    let whole : bytes ≡ front ++ zeros = same ∙ is.bytes in
    let text : IsNameText front = (is.letter, is.each, omega (arith, is.few)) in
    let none : All (λ byte. byte ≡ 0) zeros = All-replicate (λ byte. byte ≡ 0) (15 - length is.rest) 0 refl in (
      subst IsNameText (sym (ap (take long) whole ∙ take_at front zeros long (sym here))) text,
      subst (λ (l : List ℕ). All (λ byte. byte ≡ 0) l) (sym (ap (drop long) whole ∙ drop_at front zeros long (sym here))) none,
    )

-- ---- names by their numbers

pub names_all : (items : List (Option Name)) (count : ℕ) → length items ≤ count → ((k : ℕ) (name : Name) → k < count → get_or items k None ≡ Some name → IsName name) → AreNames items
names_all items count all each number name is = let within = numbered_within items number name is in each (number - 1) name (omega (arith, within, all)) (place_has items number name is)

-- no name stands before itself: it stands once
pub once_all : (items : List (Option Name)) (count : ℕ) → length items ≤ count → ((j k : ℕ) (name : Name) → j < k → k < count → get_or items j None ≡ Some name → get_or items k None ≡ Some name → ⊥) → AreOnce items
once_all items count all apart one other name is_one is_other =
    let a = numbered_within items one name is_one in
    let b = numbered_within items other name is_other in
    elim (cases_lt one other) [
      | inl less ↦ absurd (apart (one - 1) (other - 1) name (omega (arith, a, less)) (omega (arith, b, all)) (place_has items one name is_one) (place_has items other name is_other))
      | inr rest ↦ elim (cases_lt other one) [
        | inl more ↦ absurd (apart (other - 1) (one - 1) name (omega (arith, b, more)) (omega (arith, a, all)) (place_has items other name is_other) (place_has items one name is_one))
        | inr same ↦ omega (arith, rest, same)
      ]
    ]

-- a name that stands before a place stands twice
pub taken_twice : (items : List (Option Name)) (place : ℕ) → place < length items → IsTaken (take place items) (get_or items place None) → AreOnce items → ⊥
taken_twice items place low taken once =
    let name = taken.0 in
    let found = taken.2 in
    let k = found.0 in
    let few = length-take place items in
    let here : get_or items k (Some name) ≡ Some name = sym (get_or-take place items k (Some name) (omega (arith, found.1, few))) ∙ found.2 in
    let same = once (k + 1) (place + 1) name (has_number items k (Some name) name (omega (arith, found.1, few)) here) (has_number items place None name low taken.1) in
    omega (arith, same, found.1, few)

-- one place more
pub once_more : (items : List (Option Name)) (place : ℕ) → place < length items → (IsTaken (take place items) (get_or items place None) → ⊥) → ((j k : ℕ) (name : Name) → j < k → k < place → get_or items j None ≡ Some name → get_or items k None ≡ Some name → ⊥)
    → (j k : ℕ) (name : Name) → j < k → k < place + 1 → get_or items j None ≡ Some name → get_or items k None ≡ Some name → ⊥
once_more items place low free before j k name less most is_j is_k = elim (cases_eq k place) [
  | inl here ↦
      let it : get_or items place None ≡ Some name = ap (λ (n : ℕ). get_or items n None) (sym here) ∙ is_k in
      let within : j < length (take place items) = omega (arith, length-take place items, less, here, low) in
      free (name, it, (j, within, get_or-take place items j (Some name) (omega (arith, less, here)) ∙ get_or_default items j (Some name) None (omega (arith, less, here, low)) ∙ is_j))
  | inr off ↦ before j k name less (omega (arith, off)) is_j is_k
]

-- ---- names of fields and relations

-- one more was put in its place
pub put_more : {A : Type 0} (names target : List A) (place : ℕ) (item d : A) → place < length names → place < length target → take place names ≡ take place target → item ≡ get_or target place d → take (place + 1) (set names place item) ≡ take (place + 1) target
put_more names target place item d low within same is =
    take_more_set names place item low ∙ (λ i. same i ++ is i ∷ []) ∙ sym (take_more target place d within)

-- the names of fields, each at its place
abbrev pub named_fields : List FieldDef → List (Option Name)
named_fields fields = map (λ field. Some field.name) fields

field_at : (fields : List FieldDef) (k : ℕ) (d : Name) → k < length fields → get_or (named_fields fields) k None ≡ Some (get_or (field_names fields) k d)
field_at fields k d low =
    let f : FieldDef = record { name = d; kind = Int; added = false } in
    get_or-map (λ (field : FieldDef). Some field.name) fields k f None low ∙ ap Some (sym (get_or-map (λ (field : FieldDef). field.name) fields k f d low))

pub apart_of_once : (fields : List FieldDef) → AreOnce (named_fields fields) → AreApart (field_names fields)
apart_of_once fields once j k d low_j low_k same =
    let long = length-map fields (λ (field : FieldDef). field.name) in
    let places = length-map fields (λ (field : FieldDef). Some field.name) in
    let name = get_or (field_names fields) k d in
    let one = once (j + 1) (k + 1) name
    (has_number (named_fields fields) j None name (omega (arith, low_j, long, places)) (field_at fields j d (omega (arith, low_j, long)) ∙ ap Some same))
    (has_number (named_fields fields) k None name (omega (arith, low_k, long, places)) (field_at fields k d (omega (arith, low_k, long)))) in
    omega (arith, one)

pub once_of_apart : (fields : List FieldDef) → AreApart (field_names fields) → AreOnce (named_fields fields)
once_of_apart fields apart one other name is_one is_other =
    let a = numbered_within (named_fields fields) one name is_one in
    let b = numbered_within (named_fields fields) other name is_other in
    let long = length-map fields (λ (field : FieldDef). field.name) in
    let places = length-map fields (λ (field : FieldDef). Some field.name) in
    let first = same_Some (get_or (field_names fields) (one - 1) name) name (sym (field_at fields (one - 1) name (omega (arith, a, places))) ∙ place_has (named_fields fields) one name is_one) in
    let second = same_Some (get_or (field_names fields) (other - 1) name) name (sym (field_at fields (other - 1) name (omega (arith, b, places))) ∙ place_has (named_fields fields) other name is_other) in
    let same = apart (one - 1) (other - 1) name (omega (arith, a, long, places)) (omega (arith, b, long, places)) (first ∙ sym second) in
    omega (arith, same, a, b)

-- ---- fields

kinds_all : (fields : List FieldDef) → All (λ field. is_kind field.kind ≡ true) fields → list_all (λ form. is_kind form.kind) (kinds fields) ≡ true
kinds_all [] all = refl
kinds_all (field ∷ fields) all =
    let here = All-head (λ (f : FieldDef). is_kind f.kind ≡ true) field fields all in
    let rest = kinds_all fields (All-tail (λ (f : FieldDef). is_kind f.kind ≡ true) field fields all) in
    (λ i. here i && rest i)

all_kinds : (fields : List FieldDef) → list_all (λ form. is_kind form.kind) (kinds fields) ≡ true → All (λ field. is_kind field.kind ≡ true) fields
all_kinds [] is = λ k d low. absurd (omega arith)
all_kinds (field ∷ fields) is =
    let parts = and_parts (is_kind field.kind) (list_all (λ form. is_kind form.kind) (kinds fields)) is in
    All-cons (λ (f : FieldDef). is_kind f.kind ≡ true) field fields parts.0 (all_kinds fields parts.1)

-- what fields of a relation are, as it is tested
pub record AreTested (fields : List FieldDef) : Type 0 where
  pub some : 1 ≤ length fields
  pub few : length fields ≤ most_fields
  pub kinds_fit : All (λ field. is_kind field.kind ≡ true) fields
  pub narrow : width (kinds fields) ≤ most_width
  pub names : All (λ field. IsName field.name) fields
  pub apart : AreApart (field_names fields)
  pub original : All (λ field. field.added ≡ false) fields

pub fields_tested : (fields : List FieldDef) → AreFields fields → AreTested fields
fields_tested fields are =
    let count = length (kinds fields) in
    let long = length-map fields form_of in
    let names_long = length-map fields (λ (field : FieldDef). field.name) in
    let parts : ((nat_le 1 count && nat_le count most_fields) ≡ true) × (list_all (λ form. is_kind form.kind) (kinds fields) ≡ true) = and_parts _ _ are.formed in
    let few = and_parts (nat_le 1 count) (nat_le count most_fields) parts.0 in
    record {
      some = omega (arith, leb-true 1 count few.0, long);
      few = omega (arith, leb-true count most_fields few.1, long);
      kinds_fit = all_kinds fields parts.1;
      narrow = are.narrow;
      names = λ k d low. subst IsName (get_or-map (λ (field : FieldDef). field.name) fields k d d.name low) (are.names k d.name (omega (arith, low, names_long)));
      apart = are.apart;
      original = are.original;
    }

pub tested_fields : (fields : List FieldDef) → AreTested fields → AreFields fields
tested_fields fields are =
    let long = length-map fields form_of in
    let low = le-leb 1 (length (kinds fields)) (omega (arith, are.some, long)) in
    let high = le-leb (length (kinds fields)) most_fields (omega (arith, are.few, long)) in
    let all = kinds_all fields are.kinds_fit in
    record {
      formed = λ i. low i && high i && all i;
      narrow = are.narrow;
      names = All-map IsName (λ (field : FieldDef). field.name) fields are.names;
      apart = are.apart;
      original = are.original;
    }

-- ---- what belongs to a number

-- an entry of the number was found at a place
pub found_entry : {X : Type 0} (belongs : X → ℕ → Bool) (items : List (Option X)) (index number : ℕ) (read : Option X) (entry : X) → index < length items → read ≡ get_or items index read → read ≡ Some entry → belongs entry number ≡ true → HasEntryOf belongs items number
found_entry belongs items index number read entry low at is of = record {
  place = index + 1;
  entry = entry;
  at = has_number items index read entry low (sym at ∙ is);
  of = of;
}

-- at none of the places
pub no_entry : {X : Type 0} (belongs : X → ℕ → Bool) (items : List (Option X)) (index number : ℕ) → length items ≤ index → ((k : ℕ) (entry : X) → k < index → get_or items k None ≡ Some entry → belongs entry number ≡ true → ⊥) → HasEntryOf belongs items number → ⊥
no_entry belongs items index number all none has =
    let within = numbered_within items has.place has.entry has.at in
    none (has.place - 1) has.entry (omega (arith, within, all)) (place_has items has.place has.entry has.at) has.of

-- ---- the listing

-- what is said where nothing was found
pub if_none : {X P : Type 0} (found : Option X) → ((x : X) → found ≡ Some x → ⊥) → IfNone found P → P
if_none None not none = none
if_none (Some x) not none = absurd (not x refl)

-- what is said of the item at a place is said of the items below the next one
pub each_more : {X : Type 0} (Fits : X → Type 0) (items : List (Option X)) (place : ℕ) (read : Option X) → read ≡ get_or items place None → ((item : X) → read ≡ Some item → Fits item) → ((k : ℕ) (item : X) → k < place → get_or items k None ≡ Some item → Fits item)
    → (k : ℕ) (item : X) → k < place + 1 → get_or items k None ≡ Some item → Fits item
each_more Fits items place read at may before k item less is = elim (cases_eq k place) [
  | inl here ↦ may item (at ∙ ap (λ (n : ℕ). get_or items n None) (sym here) ∙ is)
  | inr off ↦ before k item (omega (arith, off)) is
]

-- and then of those of all numbers
pub each_all : {X : Type 0} (Fits : X → Type 0) (items : List (Option X)) (count : ℕ) → length items ≤ count → ((k : ℕ) (item : X) → k < count → get_or items k None ≡ Some item → Fits item) → (number : ℕ) (item : X) → numbered items number ≡ Some item → Fits item
each_all Fits items count all each number item is =
    let within = numbered_within items number item is in
    each (number - 1) item (omega (arith, within, all)) (place_has items number item is)

-- what is said of an entry that is fine
pub fine_then : {X : Type 0} (right : X → Bool) (entry : Option X) → is_fine right entry ≡ true → (item : X) → entry ≡ Some item → right item ≡ true
fine_then right None fine item is = absurd (none-some item is)
fine_then right (Some found) fine item is = ap right (sym (same_Some found item is)) ∙ fine

-- the first one that isn't
pub wrong_at : {X : Type 0} (right : X → Bool) (items : List (Option X)) (place : ℕ) (entry : Option X) → place < length items → entry ≡ get_or items place None → is_fine right entry ≡ false → ((k : ℕ) (item : X) → k < place → get_or items k None ≡ Some item → right item ≡ true) → IsFirstWrong right items (place + 1)
wrong_at right items place None low at wrong before = absurd (cc)
wrong_at right items place (Some item) low at wrong before = record {
  item = item;
  at = has_number items place None item low (sym at);
  wrong = wrong;
  lesser = λ k other less is.
      let within = numbered_within items k other is in
      before (k - 1) other (omega (arith, within, less)) (place_has items k other is);
}

-- a part of each that another part leaves
pub map_map : {X Y : Type 0} (name : X → Y) (other : X → X) → ((x : X) → name (other x) ≡ name x) → (items : List (Option X)) → map (option_map name) (map (option_map other) items) ≡ map (option_map name) items
map_map name other same [] = refl
map_map name other same (None ∷ items) = λ i. None ∷ map_map name other same items i
map_map name other same (Some x ∷ items) = λ i. Some (same x i) ∷ map_map name other same items i

-- the relations of links whose relations are the same
pub roles_map : (number : ℕ) (f : LinkEntry → LinkEntry) → ((link : LinkEntry) → has_role number (Some (f link)) ≡ has_role number (Some link)) → (links : List (Option LinkEntry)) → count_by (has_role number) (map (option_map f) links) ≡ count_by (has_role number) links
roles_map number f same [] = refl
roles_map number f same (link ∷ links) = sum_by-cons bit (option_map f link) (map (option_map f) links) ∙ (λ i. bit_same link i + roles_map number f same links i) ∙ sym (sum_by-cons bit link links) where
  bit : Option LinkEntry → ℕ
  bit link = cond (has_role number link) 1 0

  bit_same : (link : Option LinkEntry) → bit (option_map f link) ≡ bit link
  bit_same None = refl
  bit_same (Some link) = ap (λ (b : Bool). cond b 1 0) (same link)

-- and so of links without ends
pub roles_endless : (number : ℕ) (links : List (Option LinkEntry)) → count_by (has_role number) (map (option_map endless) links) ≡ count_by (has_role number) links
roles_endless number links = roles_map number endless (λ link. refl) links

pub names_unrooted : (images : List (Option ImageEntry)) → image_names (map (option_map unrooted) images) ≡ image_names images
names_unrooted images = map_map (λ (image : ImageEntry). image.name) unrooted (λ image. refl) images

pub names_endless : (links : List (Option LinkEntry)) → link_names (map (option_map endless) links) ≡ link_names links
names_endless links = map_map (λ (link : LinkEntry). link.name) endless (λ link. refl) links

-- the parts of definitions
pub tables_of : (listing : Listing) → AreDefinitions listing → TablesFit listing.segments listing.relations
tables_of listing are =
    let fits = are.listable.fit in
    record {
      names_fit = fits.segment_names;
      names_once = fits.segments_once;
      relations_once = fits.relations_once;
      relations = λ number entry is. record { fits = entry_moves (settled listing) (listing_of listing.segments [] [] []) entry refl (fits.relations number entry is); few = are.few number entry is };
    }

pub images_of : (listing : Listing) → AreDefinitions listing → ImagesFit listing.relations listing.images
images_of listing are =
    let fits = are.listable.fit in
    record {
      once = subst AreOnce (names_unrooted listing.images) fits.paths.images_once;
      each = λ number image is. record {
        fits = image_stays (settled listing) (listing_of [] listing.relations [] []) (unrooted image) refl (fits.paths.images number (unrooted image) (has_map unrooted listing.images number image is));
        rooted = are.listable.rooted number image is;
      };
    }

pub links_of : (listing : Listing) → AreDefinitions listing → LinksFit listing.relations listing.links
links_of listing are =
    let fits = are.listable.fit in
    record {
      once = subst AreOnce (names_endless listing.links) fits.paths.links_once;
      each = λ number link is. record {
        fits = link_stays (settled listing) (listing_of [] listing.relations [] []) (endless link) refl (fits.paths.links number (endless link) (has_map endless listing.links number link is));
        ended = are.listable.ended number link is;
      };
      few_roles = λ number. subst (λ (n : ℕ). n ≤ 16) (roles_endless number listing.links) (fits.paths.few_roles number);
    }

-- the places of a listing
pub record HasPlaces (listing : Listing) : Type 0 where
  pub segments_long : length listing.segments ≡ segments
  pub relations_long : length listing.relations ≡ relations_most
  pub images_long : length listing.images ≡ images_most
  pub links_long : length listing.links ≡ links_most

-- and definitions of such parts
pub definitions_by : (listing : Listing) → HasPlaces listing → TablesFit listing.segments listing.relations → ImagesFit listing.relations listing.images → LinksFit listing.relations listing.links → AreDefinitions listing
definitions_by listing places tables drawn tied =
    record {
      few = λ number entry is. (tables.relations number entry is).few;
      listable = record {
        rooted = λ number image is. (drawn.each number image is).rooted;
        ended = λ number link is. (tied.each number link is).ended;
        fit = record {
          segment_places = places.segments_long;
          relation_places = places.relations_long;
          paths = record {
            image_places = length-map listing.images (option_map unrooted) ∙ places.images_long;
            link_places = length-map listing.links (option_map endless) ∙ places.links_long;
            images_once = subst AreOnce (sym (names_unrooted listing.images)) drawn.once;
            links_once = subst AreOnce (sym (names_endless listing.links)) tied.once;
            images = λ number image is.
                let has = map_has unrooted listing.images number image is in
                subst (ImageFits (settled listing)) has.2 (image_stays (listing_of [] listing.relations [] []) (settled listing) (unrooted has.0) refl (drawn.each number has.0 has.1).fits);
            links = λ number link is.
                let has = map_has endless listing.links number link is in
                subst (LinkFits (settled listing)) has.2 (link_stays (listing_of [] listing.relations [] []) (settled listing) (endless has.0) refl (tied.each number has.0 has.1).fits);
            few_roles = λ number. subst (λ (n : ℕ). n ≤ 16) (sym (roles_endless number listing.links)) (tied.few_roles number);
          };
          segment_names = tables.names_fit;
          segments_once = tables.names_once;
          relations_once = tables.relations_once;
          relations = λ number entry is. entry_moves (listing_of listing.segments [] [] []) (settled listing) entry refl (tables.relations number entry is).fits;
        };
      };
    }

-- ---- up to a page

tables_front : (listing : Listing) (page : ℕ) → HasPlaces listing → TablesFit listing.segments listing.relations → TablesFitTo listing.segments listing.relations page
tables_front listing page places fit = record {
  names_fit = fit.names_fit;
  names_once = fit.names_once;
  relations_once = once_front (λ (entry : RelationEntry). entry.name) 48 (8 * page) listing.relations places.relations_long fit.relations_once;
  relations = λ number entry is. fit.relations number entry (front_at 48 (8 * page) listing.relations number entry places.relations_long is).1;
}

images_front : (listing : Listing) (page : ℕ) → HasPlaces listing → ImagesFit listing.relations listing.images → ImagesFitTo listing.relations listing.images page
images_front listing page places fit = record {
  once = once_front (λ (image : ImageEntry). image.name) 128 (64 * (page - 6)) listing.images places.images_long fit.once;
  each = λ number image is. fit.each number image (front_at 128 (64 * (page - 6)) listing.images number image places.images_long is).1;
}

-- there are none up to the last page of relations
no_images : (entries : List (Option RelationEntry)) (images : List (Option ImageEntry)) (page : ℕ) → length images ≡ 128 → page ≤ 6 → ImagesFitTo entries images page
no_images entries images page long low =
    let none : 64 * (page - 6) ≡ 0 = omega (arith, low) in
    record {
      once = λ one other name is_one is_other.
          let has = map_has (λ (image : ImageEntry). image.name) (front 128 (64 * (page - 6)) images) one name is_one in
          let at = front_at 128 (64 * (page - 6)) images one has.0 long has.1 in
          let within = numbered_within images one has.0 at.1 in
          absurd (omega (arith, at.0, within, none));
      each = λ number image is.
          let at = front_at 128 (64 * (page - 6)) images number image long is in
          let within = numbered_within images number image at.1 in
          absurd (omega (arith, at.0, within, none));
    }

no_links : (entries : List (Option RelationEntry)) → LinksFit entries (replicate 64 None)
no_links entries = record {
  once = λ one other name is_one is_other. absurd (none_named (λ (link : LinkEntry). link.name) (replicate 64 None) 64 one name refl is_one);
  each = λ number link is. absurd (none_of (replicate 64 None) 64 number link refl is);
  few_roles = λ number. let none = no_roles number 64 in omega (arith, none);
}

-- the links up to a page, as its number says
pub links_last : (listing : Listing) (page : ℕ) → 9 ≤ page → (up_to page listing).links ≡ listing.links
links_last listing page high = cond-true (nat_le 9 page) _ _ (le-leb 9 page high)

pub links_none : (listing : Listing) (page : ℕ) → page < 9 → (up_to page listing).links ≡ replicate 64 None
links_none listing page low = cond-false (nat_le 9 page) _ _ (lt-leb 9 page low)

-- the definitions up to a page, by their parts
pub definitions_to : (listing : Listing) (page : ℕ) → HasPlaces listing → TablesFitTo listing.segments listing.relations page → (6 < page → ImagesFitTo listing.relations listing.images page) → (8 < page → LinksFit listing.relations listing.links) → AreDefinitions (up_to page listing)
definitions_to listing page places tables drawn tied =
    let relations = (up_to page listing).relations in
    let images : ImagesFit relations (up_to page listing).images = elim (cases_lt 6 page) [
      | inl past ↦ subst (λ (l : List (Option RelationEntry)). ImagesFit l (up_to page listing).images) (sym (front_all 48 (8 * page) listing.relations places.relations_long (omega (arith, past)))) (drawn past)
      | inr few ↦ no_images relations listing.images page places.images_long few
    ] in
    let links : LinksFit relations (up_to page listing).links = elim (cases_lt 8 page) [
      | inl past ↦ subst (LinksFit relations) (sym (links_last listing page (omega (arith, past)))) (subst (λ (l : List (Option RelationEntry)). LinksFit l listing.links) (sym (front_all 48 (8 * page) listing.relations places.relations_long (omega (arith, past)))) (tied past))
      | inr few ↦ subst (LinksFit relations) (sym (links_none listing page (omega (arith, few)))) (no_links relations)
    ] in
    let long : length (up_to page listing).links ≡ 64 = elim (cases_lt 8 page) [
      | inl past ↦ ap length (links_last listing page (omega (arith, past))) ∙ places.links_long
      | inr few ↦ ap length (links_none listing page (omega (arith, few))) ∙ length-replicate {A = Option LinkEntry} 64 None
    ] in
    definitions_by (up_to page listing) (record {
      segments_long = places.segments_long;
      relations_long = length_front 48 (8 * page) listing.relations places.relations_long;
      images_long = length_front 128 (64 * (page - 6)) listing.images places.images_long;
      links_long = long;
    }) tables images links

-- of definitions those up to a page are some, too
pub definitions_front : (listing : Listing) (page : ℕ) → AreDefinitions listing → AreDefinitions (up_to page listing)
definitions_front listing page are =
    let fits = are.listable.fit in
    let places : HasPlaces listing = record {
      segments_long = fits.segment_places;
      relations_long = fits.relation_places;
      images_long = sym (length-map listing.images (option_map unrooted)) ∙ fits.paths.image_places;
      links_long = sym (length-map listing.links (option_map endless)) ∙ fits.paths.link_places;
    } in
    definitions_to listing page places (tables_front listing page places (tables_of listing are)) (λ past. images_front listing page places (images_of listing are)) (λ past. links_of listing are)

-- up to the last page there are all
pub up_to_last : (listing : Listing) → HasPlaces listing → up_to 9 listing ≡ listing
up_to_last listing places = λ i. record {
  segments = listing.segments;
  relations = front_all 48 72 listing.relations places.relations_long (omega arith) i;
  images = front_all 128 192 listing.images places.images_long (omega arith) i;
  links = listing.links;
}

-- ---- the first page up to which they don't fit

module _ (listing : Listing) (places : HasPlaces listing) where
  abbrev Fits : ℕ → Type 0
  Fits page = AreDefinitions (up_to page listing)

  -- it has relations
  pub bad_table : (page : ℕ) → IsFirstBad (TablesFitTo listing.segments listing.relations) 7 page → page < 7 → IsFirstBad Fits 10 page
  bad_table page first low = record {
    within = omega (arith, low);
    not = λ less are. first.not low (tables_of (up_to page listing) are);
    before = λ k less. definitions_to listing k places (first.before k less) (λ past. absurd (omega (arith, past, less, low))) (λ past. absurd (omega (arith, past, less, low)));
  }

  -- the tables fit
  pub all_tables : (page : ℕ) → IsFirstBad (TablesFitTo listing.segments listing.relations) 7 page → 7 ≤ page → TablesFit listing.segments listing.relations
  all_tables page first high =
      let six = first.before 6 (omega (arith, high)) in
      subst (λ (l : List (Option RelationEntry)). TablesFit listing.segments l) (front_all 48 48 listing.relations places.relations_long (omega arith)) six

  -- it has images
  pub bad_image : (page : ℕ) → TablesFit listing.segments listing.relations → IsFirstBad (ImagesFitTo listing.relations listing.images) 9 page → 7 ≤ page → page < 9 → IsFirstBad Fits 10 page
  bad_image page tables first past low = record {
    within = omega (arith, low);
    not = λ less are. first.not low (subst (λ (l : List (Option RelationEntry)). ImagesFitTo l listing.images page) (front_all 48 (8 * page) listing.relations places.relations_long (omega (arith, past))) (images_of (up_to page listing) are));
    before = λ k less. definitions_to listing k places (tables_front listing k places tables) (λ past. first.before k less) (λ past. absurd (omega (arith, past, less, low)));
  }

  pub all_images : (page : ℕ) → IsFirstBad (ImagesFitTo listing.relations listing.images) 9 page → 9 ≤ page → ImagesFit listing.relations listing.images
  all_images page first high =
      let eight = first.before 8 (omega (arith, high)) in
      subst (ImagesFit listing.relations) (front_all 128 128 listing.images places.images_long (omega arith)) eight

  -- it has the links
  pub bad_link : TablesFit listing.segments listing.relations → ImagesFit listing.relations listing.images → (LinksFit listing.relations listing.links → ⊥) → IsFirstBad Fits 10 9
  bad_link tables drawn not = record {
    within = omega arith;
    not = λ less are. not (links_of listing (subst AreDefinitions (up_to_last listing places) are));
    before = λ k less. definitions_to listing k places (tables_front listing k places tables) (λ past. images_front listing k places drawn) (λ past. absurd (omega (arith, past, less)));
  }

  pub none_bad : TablesFit listing.segments listing.relations → ImagesFit listing.relations listing.images → LinksFit listing.relations listing.links → IsFirstBad Fits 10 10
  none_bad tables drawn tied = record {
    within = omega arith;
    not = λ less are. absurd (omega (arith, less));
    before = λ k less. definitions_to listing k places (tables_front listing k places tables) (λ past. images_front listing k places drawn) (λ past. tied);
  }
