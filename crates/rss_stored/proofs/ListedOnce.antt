-- The pages of the system space spell one listing.
use Rattle.std.proofs.Common.{◌≡◌, ℕ, zero, suc, ◌+◌, ◌-◌, ◌*◌, ◌^◌, ◌<◌, ◌≤◌, List, [], ◌∷◌, ◌++◌, length, get_or, take, drop, replicate, refl, sym, ◌∙◌, ap, arith, length-append, append_assoc, append-nil, suc-mul, mul-suc, mul-zero, subst, false}
use Rattle.std.specs.Prelude.{Option, Some, None, IfSome, Bool, true, false, All, flat_map, nat_le, ◌&&◌, ◌==◌, min}
use Rattle.std.specs.List.{list_all}
use Rattle.std.specs.Int.{w32, to_be_bytes, from_be_bytes}
use Rattle.std.proofs.lemmas.Bool.{and_parts, leb-true, le-leb, lt-leb, cond-true, cond-false, ne_eqb}
use Rattle.std.proofs.lemmas.List.{get_or-map, length-replicate, length-take, length-drop, length-map, take-append-drop, drop-drop, get_or_default}
use Rattle.std.proofs.lemmas.List.Elements.{All-take, All-drop}
use Rattle.std.proofs.lemmas.Nat.{from_be_bytes-to_be_bytes_4}
use Rattle.std.proofs.lemmas.Option.{same_Some}
use Rattle.rss_base.specs.Sizes.{page_bytes, system_pages}
use Rattle.rss_base.specs.Paged.{Held}
use Rattle.rss_base.specs.Names.{IsName}
use Rattle.rss_base.specs.TupleTypes.{kinds, most_fields, is_kind, AreFields, form_of}
use Rattle.rss_base.specs.Listings.{Listing, ListingFits, HoldsListing, IsSpelled, catalog_page, padded, flag_byte, segment_spelled, kind_spelled, field_spelled, relation_spelled, image_spelled, parent_spelled, link_spelled, relations_on, images_on, relation_bytes, image_bytes, link_bytes, relation_pages, image_pages, added_count}
use Rattle.rss_base.specs.declared.name.Name.{Name}
use Rattle.rss_base.specs.declared.field.FieldDef.{FieldDef}
use Rattle.rss_base.specs.declared.value.FieldKind.{FieldKind}
use Rattle.rss_base.specs.declared.value.FieldKind.TheVariants.{Int as IntField, Text as TextField}
use Rattle.rss_base.specs.declared.relation.RelationEntry.{RelationEntry}
use Rattle.rss_base.specs.declared.image.ImageEntry.{ImageEntry}
use Rattle.rss_base.specs.declared.link.LinkEntry.{LinkEntry}
use Rattle.rss_base.specs.LogRecords.{place_bytes}
use Rattle.rss_stored.proofs.Listed.{at_place}
use Rattle.rss_stored.proofs.Places.{length-place_bytes, place_parts}
use Rattle.rss_base.proofs.Fronts.{front_parts}
use Rattle.rss_model.proofs.Codes.{same_name}

-- ---- lists whose items are spelled by as many bytes each

module _ {A : Type 0} (spell : A → List ℕ) (width : ℕ) (Fit : A → Type 0) (wide : (a : A) → Fit a → length (spell a) ≡ width) (same : (a b : A) → Fit a → Fit b → spell a ≡ spell b → a ≡ b) where
  pub spelled_length : (list : List A) → All Fit list → length (flat_map spell list) ≡ length list * width
  spelled_length [] fit = omega arith
  spelled_length (a ∷ list) fit =
      let rest = spelled_length list (λ k d lt. fit (suc k) d (omega (arith, lt))) in
      let first = wide a (fit 0 a (omega arith)) in
      let more : length (a ∷ list) * width ≡ length list * width + width = suc-mul (length list) width in
      omega (arith, rest, first, more, length-append (spell a) (flat_map spell list))

  pub spelled_same : (x y : List A) (u v : List ℕ) → length x ≡ length y → All Fit x → All Fit y → flat_map spell x ++ u ≡ flat_map spell y ++ v → x ≡ y
  spelled_same [] [] u v long fit fits whole = refl
  spelled_same [] (b ∷ y) u v long fit fits whole = absurd (omega (arith, long))
  spelled_same (a ∷ x) [] u v long fit fits whole = absurd (omega (arith, long))
  spelled_same (a ∷ x) (b ∷ y) u v long fit fits whole =
      let mine = fit 0 a (omega arith) in
      let theirs = fits 0 b (omega arith) in
      let parts = front_parts (spell a) (spell b) (flat_map spell x ++ u) (flat_map spell y ++ v) (wide a mine ∙ sym (wide b theirs))
      (sym (append_assoc (spell a) (flat_map spell x) u) ∙ whole ∙ append_assoc (spell b) (flat_map spell y) v) in
      let first : a ≡ b = same a b mine theirs parts.0 in
      let rest = spelled_same x y u v (omega (arith, long)) (λ k d lt. fit (suc k) d (omega (arith, lt))) (λ k d lt. fits (suc k) d (omega (arith, lt))) parts.1 in
      λ i. first i ∷ rest i

-- ---- names

name_length : (name : Name) → IsName name → length name.bytes ≡ 16
name_length name is = omega (arith, ap length is.bytes, is.few, length-append is.rest (replicate (15 - length is.rest) 0), length-replicate {A = ℕ} (15 - length is.rest) 0)

-- zeros begin with no letter
no_letter : (n first : ℕ) (rest : List ℕ) → 97 ≤ first → first ∷ rest ≡ replicate n 0 → ⊥
no_letter zero first rest letter same = absurd (cc)
no_letter (suc n) first rest letter same = let none : first ≡ 0 = cc in omega (arith, none, letter)

name_not_zeros : (name : Name) (n : ℕ) (rest : List ℕ) → IsName name → name.bytes ++ rest ≡ replicate n 0 → ⊥
name_not_zeros name n rest is same = no_letter n is.first _ is.letter.0 (ap (λ (bytes : List ℕ). bytes ++ rest) (sym is.bytes) ∙ same)

-- ---- segments

abbrev pub IsSegment : Option Name → Type 0
IsSegment segment = (name : Name) → segment ≡ Some name → IsName name

segment_length : (segment : Option Name) → IsSegment segment → length (segment_spelled segment) ≡ 16
segment_length None is = refl
segment_length (Some name) is = name_length name (is name refl)

segment_same : (a b : Option Name) → IsSegment a → IsSegment b → segment_spelled a ≡ segment_spelled b → a ≡ b
segment_same None None is other same = refl
segment_same None (Some name) is other same = absurd (name_not_zeros name 16 [] (other name refl) (append-nil name.bytes ∙ sym same))
segment_same (Some name) None is other same = absurd (name_not_zeros name 16 [] (is name refl) (append-nil name.bytes ∙ same))
segment_same (Some a) (Some b) is other same = ap Some (same_name a b same)

-- ---- fields

kind_same : (a b : FieldKind) → kind_spelled a ≡ kind_spelled b → a ≡ b
kind_same IntField IntField same = refl
kind_same IntField (TextField m) same = absurd (cc)
kind_same (TextField n) IntField same = absurd (cc)
kind_same (TextField n) (TextField m) same = let one : n ≡ m = cc in ap TextField one

-- a field with a name, which was not added: its bytes don't say so
abbrev pub IsNamed : FieldDef → Type 0
IsNamed field = IsName field.name × (field.added ≡ false)

kind_length : (kind : FieldKind) → length (kind_spelled kind) ≡ 2
kind_length IntField = refl
kind_length (TextField n) = refl

field_length : (field : FieldDef) → IsNamed field → length (field_spelled field) ≡ 18
field_length field is = omega (arith, length-append field.name.bytes (kind_spelled field.kind), name_length field.name is.0, kind_length field.kind)

field_same : (a b : FieldDef) → IsNamed a → IsNamed b → field_spelled a ≡ field_spelled b → a ≡ b
field_same a b is other same =
    let parts = front_parts a.name.bytes b.name.bytes (kind_spelled a.kind) (kind_spelled b.kind) (name_length a.name is.0 ∙ sym (name_length b.name other.0)) same in
    let name = same_name a.name b.name parts.0 in
    let kind = kind_same a.kind b.kind parts.1 in
    let added = is.1 ∙ sym other.1 in
    λ i. record { name = name i; kind = kind i; added = added i }

fields_named : (fields : List FieldDef) → AreFields fields → All IsNamed fields
fields_named fields fit k d lt = (
  subst IsName (get_or-map (λ (f : FieldDef). f.name) fields k d d.name lt) (fit.names k d.name (omega (arith, lt, length-map fields (λ (f : FieldDef). f.name)))),
  fit.original k d lt,
)

fields_few : (fields : List FieldDef) → AreFields fields → length fields ≤ 16
fields_few fields fit =
    let some = and_parts (nat_le 1 (length (kinds fields)) && nat_le (length (kinds fields)) most_fields) (list_all (λ form. is_kind form.kind) (kinds fields)) fit.formed in
    let few = leb-true (length (kinds fields)) most_fields (and_parts (nat_le 1 (length (kinds fields))) (nat_le (length (kinds fields)) most_fields) some.0).1 in
    omega (arith, few, length-map fields form_of)

-- ---- relations

-- what a listing asks of a relation, as far as its own bytes go
pub record IsEntry (relation : RelationEntry) : Type 0 where
  pub name : IsName relation.name
  pub fields : AreFields relation.fields
  pub live : relation.live < 2 ^ 32

abbrev head_of : RelationEntry → List ℕ
head_of relation = relation.segment ∷ length relation.fields ∷ added_count relation.fields ∷ 0 ∷ []

-- the bytes of a relation before the zeros
abbrev body_of : RelationEntry → List ℕ
body_of relation = relation.name.bytes ++ head_of relation ++ to_be_bytes w32 relation.live ++ replicate 8 0 ++ flat_map field_spelled relation.fields

abbrev zeros_of : RelationEntry → List ℕ
zeros_of relation = replicate (512 - length (body_of relation)) 0

-- what stands behind its name
abbrev tail_of : RelationEntry → List ℕ
tail_of relation = head_of relation ++ (to_be_bytes w32 relation.live ++ (replicate 8 0 ++ flat_map field_spelled relation.fields))

shift : (n h b r f : List ℕ) → n ++ h ++ b ++ r ++ f ≡ n ++ (h ++ (b ++ (r ++ f)))
shift n h b r f = simp append_assoc

body_is : (relation : RelationEntry) → body_of relation ≡ relation.name.bytes ++ tail_of relation
body_is relation = shift relation.name.bytes (head_of relation) (to_be_bytes w32 relation.live) (replicate 8 0) (flat_map field_spelled relation.fields)

entry_bytes : (relation : RelationEntry) → relation_spelled (Some relation) ≡ relation.name.bytes ++ (tail_of relation ++ zeros_of relation)
entry_bytes relation = ap (λ (bytes : List ℕ). bytes ++ zeros_of relation) (body_is relation) ∙ append_assoc relation.name.bytes (tail_of relation) (zeros_of relation)

body_length : (relation : RelationEntry) → IsEntry relation → length (body_of relation) ≤ 512
body_length relation is =
    let fields = spelled_length field_spelled 18 IsNamed field_length field_same relation.fields (fields_named relation.fields is.fields) in
    omega (arith, ap length (body_is relation), length-append relation.name.bytes (tail_of relation), name_length relation.name is.name, fields, fields_few relation.fields is.fields)

abbrev pub IsRelation : Option RelationEntry → Type 0
IsRelation found = (relation : RelationEntry) → found ≡ Some relation → IsEntry relation

relation_length : (found : Option RelationEntry) → IsRelation found → length (relation_spelled found) ≡ 512
relation_length None is = length-replicate {A = ℕ} relation_bytes 0
relation_length (Some relation) is = omega (arith, length-append (body_of relation) (zeros_of relation), length-replicate {A = ℕ} (512 - length (body_of relation)) 0, body_length relation (is relation refl))

-- of two relations, what stands behind their names
tails_same : (a b : RelationEntry) → a.name ≡ b.name → IsEntry a → IsEntry b → tail_of a ++ zeros_of a ≡ tail_of b ++ zeros_of b → a ≡ b
tails_same a b name is other same =
    let segment : a.segment ≡ b.segment = cc in
    let count : length a.fields ≡ length b.fields = cc in
    let later : (to_be_bytes w32 a.live ++ (replicate 8 0 ++ flat_map field_spelled a.fields)) ++ zeros_of a ≡ (to_be_bytes w32 b.live ++ (replicate 8 0 ++ flat_map field_spelled b.fields)) ++ zeros_of b = ap (drop 4) same in
    let counts = front_parts (to_be_bytes w32 a.live) (to_be_bytes w32 b.live) ((replicate 8 0 ++ flat_map field_spelled a.fields) ++ zeros_of a) ((replicate 8 0 ++ flat_map field_spelled b.fields) ++ zeros_of b) refl later in
    let live : a.live ≡ b.live = sym (from_be_bytes-to_be_bytes_4 a.live is.live) ∙ ap (from_be_bytes w32) counts.0 ∙ from_be_bytes-to_be_bytes_4 b.live other.live in
    let rest : flat_map field_spelled a.fields ++ zeros_of a ≡ flat_map field_spelled b.fields ++ zeros_of b = ap (drop 8) counts.1 in
    let fields = spelled_same field_spelled 18 IsNamed field_length field_same a.fields b.fields (zeros_of a) (zeros_of b) count (fields_named a.fields is.fields) (fields_named b.fields other.fields) rest in
    λ i. record { name = name i; segment = segment i; fields = fields i; live = live i }

relation_same : (a b : Option RelationEntry) → IsRelation a → IsRelation b → relation_spelled a ≡ relation_spelled b → a ≡ b
relation_same None None is other same = refl
relation_same None (Some b) is other same = absurd (name_not_zeros b.name relation_bytes (tail_of b ++ zeros_of b) (other b refl).name (sym (entry_bytes b) ∙ sym same))
relation_same (Some a) None is other same = absurd (name_not_zeros a.name relation_bytes (tail_of a ++ zeros_of a) (is a refl).name (sym (entry_bytes a) ∙ same))
relation_same (Some a) (Some b) is other same =
    let parts = front_parts a.name.bytes b.name.bytes (tail_of a ++ zeros_of a) (tail_of b ++ zeros_of b) (name_length a.name (is a refl).name ∙ sym (name_length b.name (other b refl).name)) (sym (entry_bytes a) ∙ same ∙ entry_bytes b) in
    ap Some (tails_same a b (same_name a.name b.name parts.0) (is a refl) (other b refl) parts.1)

-- ---- images

-- what a listing asks of an image, as far as its own bytes go
pub record IsImageEntry (image : ImageEntry) : Type 0 where
  pub name : IsName image.name
  pub fields : length image.fields ≡ most_fields
  pub root : image.root < 2 ^ 32

abbrev four_of : ImageEntry → List ℕ
four_of image = image.relation ∷ flag_byte image.is_unique ∷ image.count ∷ image.levels ∷ []

-- the bytes of an image before the zeros
abbrev image_body : ImageEntry → List ℕ
image_body image = image.name.bytes ++ four_of image ++ to_be_bytes w32 image.root ++ image.fields

abbrev image_zeros : ImageEntry → List ℕ
image_zeros image = replicate (image_bytes - length (image_body image)) 0

-- what stands behind its name
abbrev image_tail : ImageEntry → List ℕ
image_tail image = four_of image ++ (to_be_bytes w32 image.root ++ image.fields)

image_body_is : (image : ImageEntry) → image_body image ≡ image.name.bytes ++ image_tail image
image_body_is image = regroup image.name.bytes (four_of image) (to_be_bytes w32 image.root) image.fields
  where
    regroup : (n h b f : List ℕ) → n ++ h ++ b ++ f ≡ n ++ (h ++ (b ++ f))
    regroup n h b f = simp append_assoc

image_entry_bytes : (image : ImageEntry) → image_spelled (Some image) ≡ image.name.bytes ++ (image_tail image ++ image_zeros image)
image_entry_bytes image = ap (λ (bytes : List ℕ). bytes ++ image_zeros image) (image_body_is image) ∙ append_assoc image.name.bytes (image_tail image) (image_zeros image)

image_body_length : (image : ImageEntry) → IsImageEntry image → length (image_body image) ≤ image_bytes
image_body_length image is = omega (arith, ap length (image_body_is image), length-append image.name.bytes (image_tail image), name_length image.name is.name, is.fields)

abbrev pub IsImage : Option ImageEntry → Type 0
IsImage found = (image : ImageEntry) → found ≡ Some image → IsImageEntry image

image_length : (found : Option ImageEntry) → IsImage found → length (image_spelled found) ≡ image_bytes
image_length None is = length-replicate {A = ℕ} image_bytes 0
image_length (Some image) is = omega (arith, length-append (image_body image) (image_zeros image), length-replicate {A = ℕ} (image_bytes - length (image_body image)) 0, image_body_length image (is image refl))

flag_same : (a b : Bool) → flag_byte a ≡ flag_byte b → a ≡ b
flag_same false false same = refl
flag_same false true same = absurd (omega (arith, same))
flag_same true false same = absurd (omega (arith, same))
flag_same true true same = refl

-- of two images, what stands behind their names
image_tails_same : (a b : ImageEntry) → a.name ≡ b.name → IsImageEntry a → IsImageEntry b → image_tail a ++ image_zeros a ≡ image_tail b ++ image_zeros b → a ≡ b
image_tails_same a b name is other same =
    let relation : a.relation ≡ b.relation = cc in
    let unique = flag_same a.is_unique b.is_unique (cc) in
    let count : a.count ≡ b.count = cc in
    let levels : a.levels ≡ b.levels = cc in
    let later : (to_be_bytes w32 a.root ++ a.fields) ++ image_zeros a ≡ (to_be_bytes w32 b.root ++ b.fields) ++ image_zeros b = ap (drop 4) same in
    let roots = front_parts (to_be_bytes w32 a.root) (to_be_bytes w32 b.root) (a.fields ++ image_zeros a) (b.fields ++ image_zeros b) refl later in
    let root : a.root ≡ b.root = sym (from_be_bytes-to_be_bytes_4 a.root is.root) ∙ ap (from_be_bytes w32) roots.0 ∙ from_be_bytes-to_be_bytes_4 b.root other.root in
    let fields = (front_parts a.fields b.fields (image_zeros a) (image_zeros b) (is.fields ∙ sym other.fields) roots.1).0 in
    λ i. record { name = name i; relation = relation i; is_unique = unique i; count = count i; fields = fields i; levels = levels i; root = root i }

image_same : (a b : Option ImageEntry) → IsImage a → IsImage b → image_spelled a ≡ image_spelled b → a ≡ b
image_same None None is other same = refl
image_same None (Some b) is other same = absurd (name_not_zeros b.name image_bytes (image_tail b ++ image_zeros b) (other b refl).name (sym (image_entry_bytes b) ∙ sym same))
image_same (Some a) None is other same = absurd (name_not_zeros a.name image_bytes (image_tail a ++ image_zeros a) (is a refl).name (sym (image_entry_bytes a) ∙ same))
image_same (Some a) (Some b) is other same =
    let parts = front_parts a.name.bytes b.name.bytes (image_tail a ++ image_zeros a) (image_tail b ++ image_zeros b) (name_length a.name (is a refl).name ∙ sym (name_length b.name (other b refl).name)) (sym (image_entry_bytes a) ∙ same ∙ image_entry_bytes b) in
    ap Some (image_tails_same a b (same_name a.name b.name parts.0) (is a refl) (other b refl) parts.1)

-- ---- links

-- what a listing asks of a link, as far as its own bytes go
pub record IsLinkEntry (link : LinkEntry) : Type 0 where
  pub name : IsName link.name
  pub first : IfSome link.first IsSpelled
  pub last : IfSome link.last IsSpelled

-- the bytes of a link before the zeros
abbrev link_body : LinkEntry → List ℕ
link_body link =
    link.name.bytes ++ parent_spelled link.parent ++ link.child ∷ flag_byte link.late ∷ []
    ++ place_bytes link.first ++ place_bytes link.last

abbrev link_zeros : LinkEntry → List ℕ
link_zeros link = replicate (link_bytes - length (link_body link)) 0

-- what stands behind its parents
abbrev link_rest : LinkEntry → List ℕ
link_rest link = link.child ∷ flag_byte link.late ∷ (place_bytes link.first ++ place_bytes link.last)

-- what stands behind its name
abbrev link_tail : LinkEntry → List ℕ
link_tail link = parent_spelled link.parent ++ link_rest link

link_body_is : (link : LinkEntry) → link_body link ≡ link.name.bytes ++ link_tail link
link_body_is link = regroup link.name.bytes (parent_spelled link.parent) (link.child ∷ flag_byte link.late ∷ []) (place_bytes link.first) (place_bytes link.last)
  where
    regroup : (n p c f l : List ℕ) → n ++ p ++ c ++ f ++ l ≡ n ++ (p ++ (c ++ (f ++ l)))
    regroup n p c f l = simp append_assoc

link_entry_bytes : (link : LinkEntry) → link_spelled (Some link) ≡ link.name.bytes ++ (link_tail link ++ link_zeros link)
link_entry_bytes link = ap (λ (bytes : List ℕ). bytes ++ link_zeros link) (link_body_is link) ∙ append_assoc link.name.bytes (link_tail link) (link_zeros link)

parent_length : (parent : Option ℕ) → length (parent_spelled parent) ≡ 2
parent_length None = refl
parent_length (Some parent) = refl

link_body_length : (link : LinkEntry) → IsLinkEntry link → length (link_body link) ≤ link_bytes
link_body_length link is =
    let tail = length-append (parent_spelled link.parent) (link_rest link) in
    let places = length-append (place_bytes link.first) (place_bytes link.last) in
    omega (arith, ap length (link_body_is link), length-append link.name.bytes (link_tail link), name_length link.name is.name, tail, parent_length link.parent, places, length-place_bytes link.first, length-place_bytes link.last)

abbrev pub IsLink : Option LinkEntry → Type 0
IsLink found = (link : LinkEntry) → found ≡ Some link → IsLinkEntry link

link_length : (found : Option LinkEntry) → IsLink found → length (link_spelled found) ≡ link_bytes
link_length None is = length-replicate {A = ℕ} link_bytes 0
link_length (Some link) is = omega (arith, length-append (link_body link) (link_zeros link), length-replicate {A = ℕ} (link_bytes - length (link_body link)) 0, link_body_length link (is link refl))

parent_same : (a b : Option ℕ) → parent_spelled a ≡ parent_spelled b → a ≡ b
parent_same None None same = refl
parent_same None (Some q) same = absurd (cc)
parent_same (Some p) None same = absurd (cc)
parent_same (Some p) (Some q) same = let one : p ≡ q = cc in ap Some one

-- of two links, what stands behind their names
link_tails_same : (a b : LinkEntry) → a.name ≡ b.name → IsLinkEntry a → IsLinkEntry b → link_tail a ++ link_zeros a ≡ link_tail b ++ link_zeros b → a ≡ b
link_tails_same a b name is other same =
    let whole = sym (append_assoc (parent_spelled a.parent) (link_rest a) (link_zeros a)) ∙ same ∙ append_assoc (parent_spelled b.parent) (link_rest b) (link_zeros b) in
    let parts = front_parts (parent_spelled a.parent) (parent_spelled b.parent) (link_rest a ++ link_zeros a) (link_rest b ++ link_zeros b) (parent_length a.parent ∙ sym (parent_length b.parent)) whole in
    let parent = parent_same a.parent b.parent parts.0 in
    let child : a.child ≡ b.child = ap (λ (l : List ℕ). get_or l 0 0) parts.1 in
    let late = flag_same a.late b.late (ap (λ (l : List ℕ). get_or l 1 0) parts.1) in
    let later : (place_bytes a.first ++ place_bytes a.last) ++ link_zeros a ≡ (place_bytes b.first ++ place_bytes b.last) ++ link_zeros b = ap (drop 2) parts.1 in
    let firsts = place_parts a.first b.first (place_bytes a.last ++ link_zeros a) (place_bytes b.last ++ link_zeros b) is.first other.first
    (sym (append_assoc (place_bytes a.first) (place_bytes a.last) (link_zeros a)) ∙ later ∙ append_assoc (place_bytes b.first) (place_bytes b.last) (link_zeros b)) in
    let lasts = place_parts a.last b.last (link_zeros a) (link_zeros b) is.last other.last firsts.1 in
    λ i. record { name = name i; parent = parent i; child = child i; late = late i; first = firsts.0 i; last = lasts.0 i }

link_same : (a b : Option LinkEntry) → IsLink a → IsLink b → link_spelled a ≡ link_spelled b → a ≡ b
link_same None None is other same = refl
link_same None (Some b) is other same = absurd (name_not_zeros b.name link_bytes (link_tail b ++ link_zeros b) (other b refl).name (sym (link_entry_bytes b) ∙ sym same))
link_same (Some a) None is other same = absurd (name_not_zeros a.name link_bytes (link_tail a ++ link_zeros a) (is a refl).name (sym (link_entry_bytes a) ∙ same))
link_same (Some a) (Some b) is other same =
    let parts = front_parts a.name.bytes b.name.bytes (link_tail a ++ link_zeros a) (link_tail b ++ link_zeros b) (name_length a.name (is a refl).name ∙ sym (name_length b.name (other b refl).name)) (sym (link_entry_bytes a) ∙ same ∙ link_entry_bytes b) in
    ap Some (link_tails_same a b (same_name a.name b.name parts.0) (is a refl) (other b refl) parts.1)

-- ---- lists of which each page of the catalog has a part

-- a list by its parts of one size
by_parts : {A : Type 0} (size n : ℕ) (x y : List A) → length x ≡ size * n → length y ≡ size * n → ((j : ℕ) → j < n → take size (drop (size * j) x) ≡ take size (drop (size * j) y)) → x ≡ y
by_parts size zero [] [] long too each = refl
by_parts size zero [] (b ∷ y) long too each = absurd (omega (arith, too))
by_parts size zero (a ∷ x) y long too each = absurd (omega (arith, long))
by_parts size (suc n) x y long too each =
    let first = front x ∙ each zero (omega arith) ∙ sym (front y) in
    let rest = by_parts size n (drop size x) (drop size y) (less x long) (less y too) (λ j low. ap (take size) (later x j) ∙ each (suc j) (omega (arith, low)) ∙ sym (ap (take size) (later y j))) in
    sym (take-append-drop size x) ∙ (λ i. first i ++ rest i) ∙ take-append-drop size y
  where
    front : {A : Type 0} (z : List A) → take size z ≡ take size (drop (size * zero) z)
    front z = ap (λ (k : ℕ). take size (drop k z)) (sym (mul-zero size))

    less : {A : Type 0} (z : List A) → length z ≡ size * suc n → length (drop size z) ≡ size * n
    less z long = omega (arith, long, mul-suc size n, length-drop size z)

    later : {A : Type 0} (z : List A) (j : ℕ) → drop (size * j) (drop size z) ≡ drop (size * suc j) z
    later z j = drop-drop (size * j) size z ∙ ap (λ (k : ℕ). drop k z) (omega (arith, mul-suc size j))

module _ {A : Type 0} (spell : A → List ℕ) (width : ℕ) (Fit : A → Type 0) (wide : (a : A) → Fit a → length (spell a) ≡ width) (same : (a b : A) → Fit a → Fit b → spell a ≡ spell b → a ≡ b) (size n : ℕ) (x y : List A) (long : length x ≡ size * n) (too : length y ≡ size * n) (fit : All Fit x) (fits : All Fit y) where
  abbrev part_of : ℕ → List A → List A
  part_of j list = take size (drop (size * j) list)

  pub parts_same : ((j : ℕ) → j < n → padded page_bytes (flat_map spell (part_of j x)) ≡ padded page_bytes (flat_map spell (part_of j y))) → x ≡ y
  parts_same each = by_parts size n x y long too part_same
    where
      part_long : (j : ℕ) → length (part_of j x) ≡ length (part_of j y)
      part_long j = length-take size (drop (size * j) x) ∙ ap (λ (n : ℕ). min size n) (length-drop (size * j) x ∙ ap (λ (n : ℕ). n - size * j) (long ∙ sym too) ∙ sym (length-drop (size * j) y)) ∙ sym (length-take size (drop (size * j) y))

      part_same : (j : ℕ) → j < n → part_of j x ≡ part_of j y
      part_same j low = spelled_same spell width Fit wide same (part_of j x) (part_of j y)
          (replicate (page_bytes - length (flat_map spell (part_of j x))) 0) (replicate (page_bytes - length (flat_map spell (part_of j y))) 0)
          (part_long j) (All-take Fit size (drop (size * j) x) (All-drop Fit (size * j) x fit)) (All-take Fit size (drop (size * j) y) (All-drop Fit (size * j) y fits)) (each j low)

-- ---- listings

module _ (listing : Listing) (fits : ListingFits listing) where
  listed_segments : All IsSegment listing.segments
  listed_segments k d lt name is = fits.segment_names (suc k) name (at_place listing.segments k ∙ get_or_default listing.segments k None d lt ∙ is)

  listed_relations : All IsRelation listing.relations
  listed_relations k d lt relation is =
      let entry = fits.relations (suc k) relation (at_place listing.relations k ∙ get_or_default listing.relations k None d lt ∙ is) in
      record { name = entry.name; fields = entry.fields; live = entry.live }

  listed_images : All IsImage listing.images
  listed_images k d lt image is =
      let entry = fits.paths.images (suc k) image (at_place listing.images k ∙ get_or_default listing.images k None d lt ∙ is) in
      record { name = entry.name; fields = entry.long; root = entry.root }

  listed_links : All IsLink listing.links
  listed_links k d lt link is =
      let entry = fits.paths.links (suc k) link (at_place listing.links k ∙ get_or_default listing.links k None d lt ∙ is) in
      record { name = entry.name; first = entry.first; last = entry.last }

-- what a page of relations spells, and a page of images
page_is : (listing : Listing) (j : ℕ) → j < 6 → catalog_page listing (suc j) ≡ padded page_bytes (flat_map relation_spelled (take 8 (drop (8 * j) listing.relations)))
page_is listing j low = ap (padded page_bytes) (cond-false (suc j == 0) (flat_map segment_spelled listing.segments) _ (ne_eqb (suc j) 0 (λ e. absurd (omega (arith, e))))
    ∙ cond-true (nat_le (suc j) relation_pages) (flat_map relation_spelled (relations_on listing (suc j))) _ (le-leb (suc j) 6 (omega (arith, low)))
    ∙ ap (λ (k : ℕ). flat_map relation_spelled (take 8 (drop (8 * k) listing.relations))) (less j))
  where
    less : (j : ℕ) → suc j - 1 ≡ j
    less j = omega arith

image_page_is : (listing : Listing) (j : ℕ) → j < 2 → catalog_page listing (7 + j) ≡ padded page_bytes (flat_map image_spelled (take 64 (drop (64 * j) listing.images)))
image_page_is listing j low = ap (padded page_bytes) (cond-false (7 + j == 0) (flat_map segment_spelled listing.segments) _ (ne_eqb (7 + j) 0 (λ e. absurd (omega (arith, e))))
    ∙ cond-false (nat_le (7 + j) relation_pages) (flat_map relation_spelled (relations_on listing (7 + j))) _ (lt-leb (7 + j) 6 (omega arith))
    ∙ cond-true (nat_le (7 + j) (relation_pages + image_pages)) (flat_map image_spelled (images_on listing (7 + j))) _ (le-leb (7 + j) 8 (omega (arith, low)))
    ∙ ap (λ (k : ℕ). flat_map image_spelled (take 64 (drop (64 * k) listing.images))) (less j))
  where
    less : (j : ℕ) → 7 + j - 1 - 6 ≡ j
    less j = omega arith

module _ (held : Held) {a b : Listing} (fit : ListingFits a) (fits : ListingFits b) (one : HoldsListing held a) (other : HoldsListing held b) where
  page_same : (page : ℕ) → page < system_pages → catalog_page a page ≡ catalog_page b page
  page_same page low = same_Some _ _ (sym (one page low) ∙ other page low)

  same_segments : a.segments ≡ b.segments
  same_segments = spelled_same segment_spelled 16 IsSegment segment_length segment_same a.segments b.segments
      (replicate (page_bytes - length (flat_map segment_spelled a.segments)) 0) (replicate (page_bytes - length (flat_map segment_spelled b.segments)) 0)
      (fit.segment_places ∙ sym fits.segment_places) (listed_segments a fit) (listed_segments b fits) (page_same 0 (omega arith))

  same_relations : a.relations ≡ b.relations
  same_relations = parts_same relation_spelled 512 IsRelation relation_length relation_same 8 6 a.relations b.relations fit.relation_places fits.relation_places (listed_relations a fit) (listed_relations b fits)
      (λ j low. sym (page_is a j low) ∙ page_same (suc j) (omega (arith, low)) ∙ page_is b j low)

  same_images : a.images ≡ b.images
  same_images = parts_same image_spelled 64 IsImage image_length image_same 64 2 a.images b.images fit.paths.image_places fits.paths.image_places (listed_images a fit) (listed_images b fits)
      (λ j low. sym (image_page_is a j low) ∙ page_same (7 + j) (omega (arith, low)) ∙ image_page_is b j low)

  same_links : a.links ≡ b.links
  same_links = spelled_same link_spelled 64 IsLink link_length link_same a.links b.links
      (replicate (page_bytes - length (flat_map link_spelled a.links)) 0) (replicate (page_bytes - length (flat_map link_spelled b.links)) 0)
      (fit.paths.link_places ∙ sym fits.paths.link_places) (listed_links a fit) (listed_links b fits) (page_same 9 (omega arith))

  -- one listing alone is spelled
  pub listing_once : a ≡ b
  listing_once =
      let segments = same_segments in
      let relations = same_relations in
      let images = same_images in
      let links = same_links in
      λ i. record { segments = segments i; relations = relations i; images = images i; links = links i }
