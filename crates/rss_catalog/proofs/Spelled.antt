-- How many bytes each part of the catalog has, and what those bytes read as.
use Rattle.std.proofs.Common.{◌≡◌, ℕ, zero, suc, ◌+◌, ◌-◌, ◌*◌, ◌<◌, ◌≤◌, ◌^◌, Bool, false, List, [], ◌∷◌, ◌++◌, length, take, drop, get_or, replicate, Option, Some, None, All, refl, sym, ◌∙◌, ap, subst, arith, add-one, length-append}
use Rattle.std.specs.Prelude.{flat_map, min, nat_le, ◌==◌}
use Rattle.std.specs.Int.{w32, to_be_bytes, from_be_bytes}
use Rattle.std.proofs.lemmas.Nat.{from_be_bytes-to_be_bytes_4}
use Rattle.std.proofs.lemmas.Bool.{cond-false, ne_eqb, lt-leb}
use Rattle.std.proofs.lemmas.List.{take_at, append_assoc, length-replicate, length-map, get_or-append-add, get_or-map, take_all, take_more, length_push, get_or_append_left, take-replicate}
use Rattle.std.proofs.Math.Seq.{drop-append-add}
use Rattle.rss_base.specs.Names.{IsName}
use Rattle.rss_base.specs.TupleTypes.{field_names, most_fields, is_added}
use Rattle.rss_base.specs.Listings.{segment_spelled, kind_spelled, field_spelled, relation_spelled, added_count, padded}
use Rattle.rss_base.specs.declared.name.Name.{Name}
use Rattle.rss_base.specs.declared.value.FieldKind.{FieldKind}
use Rattle.rss_base.specs.declared.value.FieldKind.TheVariants.{Int, Text}
use Rattle.rss_base.specs.declared.field.FieldDef.{FieldDef}
use Rattle.rss_base.specs.declared.relation.RelationEntry.{RelationEntry}
use Rattle.rss_catalog.specs.Reading.{segment_of, kind_of, field_of, fields_of, entry_of, relation_of, definition_spelled, definition_bytes}
use Rattle.rss_catalog.proofs.Counts.{counts_none}
use Rattle.rss_catalog.proofs.Pieces.{long_pieces, piece_at, piece_is}

-- ---- names

pub name_long : (name : Name) → IsName name → length name.bytes ≡ 16
name_long name is =
    ap length is.bytes ∙ length-append (is.first ∷ is.rest) (replicate (15 - length is.rest) 0) ∙ omega (arith, length-replicate {A = ℕ} (15 - length is.rest) 0, is.few)

-- a name begins with no zero
pub name_begins : (name : Name) → IsName name → (get_or name.bytes 0 0 == 0) ≡ false
name_begins name is =
    let first : get_or name.bytes 0 0 ≡ is.first = ap (λ (l : List ℕ). get_or l 0 0) is.bytes in
    ne_eqb (get_or name.bytes 0 0) 0 (λ none. omega (arith, first, none, is.letter.0))

-- ---- segments

-- a place of the segments that has a name, has one
abbrev pub IsNamed : Option Name → Type 0
IsNamed segment = (name : Name) → segment ≡ Some name → IsName name

pub segment_long : (segment : Option Name) → IsNamed segment → length (segment_spelled segment) ≡ 16
segment_long None is = refl
segment_long (Some name) is = name_long name (is name refl)

pub segment_back : (segment : Option Name) → IsNamed segment → segment_of (segment_spelled segment) ≡ segment
segment_back None is = refl
segment_back (Some name) is = cond-false (get_or name.bytes 0 0 == 0) None (Some name) (name_begins name (is name refl))

-- ---- fields

pub kind_long : (kind : FieldKind) → length (kind_spelled kind) ≡ 2
kind_long Int = refl
kind_long (Text n) = refl

pub field_long : (field : FieldDef) → length field.name.bytes ≡ 16 → length (field_spelled field) ≡ 18
field_long field long = length-append field.name.bytes (kind_spelled field.kind) ∙ omega (arith, long, kind_long field.kind)

kind_back : (kind : FieldKind) → kind_of (get_or (kind_spelled kind) 0 0) (get_or (kind_spelled kind) 1 0) ≡ kind
kind_back Int = refl
kind_back (Text n) = refl

-- a byte behind the name
pub behind : (name rest : List ℕ) (at k : ℕ) → length name ≡ 16 → at ≡ 16 + k → get_or (name ++ rest) at 0 ≡ get_or rest k 0
behind name rest at k long is = ap (λ (n : ℕ). get_or (name ++ rest) n 0) (omega (arith, long, is)) ∙ get_or-append-add name rest k 0

pub field_back : (field : FieldDef) (added : Bool) → length field.name.bytes ≡ 16 → field.added ≡ added → field_of added (field_spelled field) ≡ field
field_back field added long marked =
    let name = take_at field.name.bytes (kind_spelled field.kind) 16 long in
    let code = behind field.name.bytes (kind_spelled field.kind) 16 0 long refl in
    let most = behind field.name.bytes (kind_spelled field.kind) 17 1 long refl in
    let kind = (λ i. kind_of (code i) (most i)) ∙ kind_back field.kind in
    λ i. record { name = record { bytes = name i }; kind = kind i; added = sym marked i }

-- the names of fields are as long as names
abbrev pub AreLong : List FieldDef → Type 0
AreLong fields = All (λ field. length field.name.bytes ≡ 16) fields

pub fields_long : (fields : List FieldDef) → AreLong fields → length (flat_map field_spelled fields) ≡ 18 * length fields
fields_long fields long = long_pieces field_spelled 18 fields (λ k d low. field_long (get_or fields k d) (long k d low))

-- the fields from this place on were added, and no others
abbrev pub AreMarked : ℕ → List FieldDef → Type 0
AreMarked originals fields = (k : ℕ) (d : FieldDef) → k < length fields → (get_or fields k d).added ≡ nat_le originals k

-- so it is in a relation: so many fields are counted as stand behind the original ones
pub marked_of : (fields : List FieldDef) → All (λ field. field.added ≡ false) fields → AreMarked (length fields - added_count fields) fields
marked_of fields original k d low =
    let none = counts_none is_added fields original in
    original k d low ∙ sym (lt-leb (length fields - added_count fields) k (omega (arith, none, low)))

pub fields_none : (originals : ℕ) (bytes : List ℕ) → fields_of originals 0 bytes ≡ []
unfolding fields_of
fields_none originals bytes = refl

-- one field more
pub fields_more : (originals count : ℕ) (bytes : List ℕ) → fields_of originals (count + 1) bytes ≡ fields_of originals count bytes ++ field_of (nat_le originals count) (take 18 (drop (18 * count) bytes)) ∷ []
unfolding fields_of
fields_more originals count bytes = ap (λ (n : ℕ). fields_of originals n bytes) (add-one count)

pub length-fields_of : (originals count : ℕ) (bytes : List ℕ) → length (fields_of originals count bytes) ≡ count
length-fields_of originals zero bytes = ap length (fields_none originals bytes)
length-fields_of originals (suc k) bytes =
    ap (λ (n : ℕ). length (fields_of originals n bytes)) (sym (add-one k)) ∙ ap length (fields_more originals k bytes) ∙ length_push (fields_of originals k bytes) _ ∙ ap (λ (n : ℕ). n + 1) (length-fields_of originals k bytes) ∙ add-one k

-- one field more was read
pub field_read : (originals count at : ℕ) (bytes : List ℕ) (so_far new : List FieldDef) (field : FieldDef) → so_far ≡ fields_of originals count bytes → new ≡ so_far ++ field ∷ [] → at ≡ 18 * count → field ≡ field_of (nat_le originals count) (take (at + 18 - at) (drop at bytes)) → new ≡ fields_of originals (count + 1) bytes
field_read originals count at bytes so_far new field was now here is =
    let read = piece_is (field_of (nat_le originals count)) 18 count at bytes field here is in
    now ∙ (λ i. was i ++ read i ∷ []) ∙ sym (fields_more originals count bytes)

-- the first so many fields, by their bytes
pub fields_back : (originals count : ℕ) (fields : List FieldDef) (d : FieldDef) (rest : List ℕ) → AreLong fields → AreMarked originals fields → count ≤ length fields → fields_of originals count (flat_map field_spelled fields ++ rest) ≡ take count fields
fields_back originals zero fields d rest long marked few = fields_none originals (flat_map field_spelled fields ++ rest)
fields_back originals (suc k) fields d rest long marked few =
    let piece = piece_at field_spelled 18 fields k d rest (λ j e low. field_long (get_or fields j e) (long j e low)) (omega arith) in
    let here = ap (field_of (nat_le originals k)) piece ∙ field_back (get_or fields k d) (nat_le originals k) (long k d (omega arith)) (marked k d (omega arith)) in
    ap (λ (n : ℕ). fields_of originals n (flat_map field_spelled fields ++ rest)) (sym (add-one k))
    ∙ fields_more originals k (flat_map field_spelled fields ++ rest)
    ∙ (λ i. fields_back originals k fields d rest long marked (omega arith) i ++ here i ∷ [])
    ∙ sym (take_more fields k d (omega arith))
    ∙ ap (λ (n : ℕ). take n fields) (add-one k)

-- ---- relations

-- the fields of a relation have names
pub names_long : (fields : List FieldDef) → All IsName (field_names fields) → AreLong fields
names_long fields names k d low =
    name_long (get_or fields k d).name (subst IsName (get_or-map (λ (field : FieldDef). field.name) fields k d d.name low) (names k d.name (omega (arith, low, length-map fields (λ (field : FieldDef). field.name)))))

pub definition_long : (relation : RelationEntry) → length relation.name.bytes ≡ 16 → AreLong relation.fields → length (definition_spelled relation) ≡ definition_bytes relation
definition_long relation name fields =
    let head : List ℕ = relation.name.bytes ++ relation.segment ∷ length relation.fields ∷ added_count relation.fields ∷ 0 ∷ [] ++ to_be_bytes w32 relation.live ++ replicate 8 0 in
    length-append head (flat_map field_spelled relation.fields)
    ∙ omega (arith, length-append (relation.name.bytes ++ relation.segment ∷ length relation.fields ∷ added_count relation.fields ∷ 0 ∷ [] ++ to_be_bytes w32 relation.live) (replicate 8 0), length-append (relation.name.bytes ++ relation.segment ∷ length relation.fields ∷ added_count relation.fields ∷ 0 ∷ []) (to_be_bytes w32 relation.live), length-append relation.name.bytes (relation.segment ∷ length relation.fields ∷ added_count relation.fields ∷ 0 ∷ []), name, fields_long relation.fields fields)

-- what is put behind a relation's definition fills it up
pub put_padded : (old definition mid new : List ℕ) (long count : ℕ) → mid ≡ old ++ definition → new ≡ mid ++ take long (replicate 512 0) → length mid ≡ length old + count → long ≡ 512 - count → new ≡ old ++ padded 512 definition
put_padded old definition mid new long count was now room is =
    let zeros : take long (replicate 512 0) ≡ replicate (512 - length definition) 0 =
    take-replicate long 512 0 (omega arith) ∙ ap (λ (n : ℕ). replicate n 0) (omega (arith, is, room, ap length was, length-append old definition)) in
    now ∙ (λ i. was i ++ zeros i) ∙ append_assoc old definition (replicate (512 - length definition) 0)

-- a place of the relations that has one, has one in form
pub record IsFormed (relation : RelationEntry) : Type 0 where
  pub name : IsName relation.name
  pub fields : AreLong relation.fields
  pub few : length relation.fields ≤ most_fields
  pub live : relation.live < 2 ^ 32
  pub marked : AreMarked (length relation.fields - added_count relation.fields) relation.fields

abbrev pub AreFormed : Option RelationEntry → Type 0
AreFormed relation = (entry : RelationEntry) → relation ≡ Some entry → IsFormed entry

pub relation_long : (relation : Option RelationEntry) → AreFormed relation → length (relation_spelled relation) ≡ 512
relation_long None is = refl
relation_long (Some entry) is =
    let formed = is entry refl in
    let long = definition_long entry (name_long entry.name formed.name) formed.fields in
    length-append (definition_spelled entry) (replicate (512 - length (definition_spelled entry)) 0)
    ∙ omega (arith, long, formed.few, length-replicate {A = ℕ} (512 - length (definition_spelled entry)) 0)

-- parts in a row, from the first on
regroup : (a b c d e f : List ℕ) → ((((a ++ b) ++ c) ++ d) ++ e) ++ f ≡ a ++ (b ++ (c ++ (d ++ (e ++ f))))
regroup a b c d e f = simp append_assoc

-- what stands behind the name
pub drop_behind : (name rest : List ℕ) (at k : ℕ) → length name ≡ 16 → at ≡ 16 + k → drop at (name ++ rest) ≡ drop k rest
drop_behind name rest at k long is =
    let here : at ≡ length name + k = omega (arith, long, is) in
    ap (λ (n : ℕ). drop n (name ++ rest)) here ∙ drop-append-add name rest k

entry_back : (entry : RelationEntry) → IsFormed entry → entry_of (relation_spelled (Some entry)) ≡ entry
entry_back entry formed =
    let name = entry.name.bytes in
    let long = name_long entry.name formed.name in
    let fields = flat_map field_spelled entry.fields in
    let zeros = replicate (512 - length (definition_spelled entry)) 0 in
    let tail : List ℕ = entry.segment ∷ length entry.fields ∷ added_count entry.fields ∷ 0 ∷ (to_be_bytes w32 entry.live ++ (replicate 8 0 ++ (fields ++ zeros))) in
    let whole : relation_spelled (Some entry) ≡ name ++ tail = regroup name (entry.segment ∷ length entry.fields ∷ added_count entry.fields ∷ 0 ∷ []) (to_be_bytes w32 entry.live) (replicate 8 0) fields zeros in
    let live : from_be_bytes w32 (take 4 (drop 20 (name ++ tail))) ≡ entry.live = ap (λ (l : List ℕ). from_be_bytes w32 (take 4 l)) (drop_behind name tail 20 4 long refl) ∙ from_be_bytes-to_be_bytes_4 entry.live formed.live in
    let count : min (get_or (name ++ tail) 17 0) 16 ≡ length entry.fields = ap (λ (n : ℕ). min n 16) (behind name tail 17 1 long refl) ∙ omega (arith, formed.few) in
    let many = length entry.fields in
    let originals : min (get_or (name ++ tail) 17 0) 16 - get_or (name ++ tail) 18 0 ≡ many - added_count entry.fields = (λ i. count i - behind name tail 18 2 long refl i) in
    let field : FieldDef = record { name = entry.name; kind = Int; added = false } in
    let read : fields_of (min (get_or (name ++ tail) 17 0) 16 - get_or (name ++ tail) 18 0) (min (get_or (name ++ tail) 17 0) 16) (drop 32 (name ++ tail)) ≡ entry.fields =
    (λ i. fields_of (originals i) (count i) (drop_behind name tail 32 16 long refl i)) ∙ fields_back (many - added_count entry.fields) many entry.fields field zeros formed.fields formed.marked (omega arith) ∙ take_all many entry.fields (omega arith) in
    ap entry_of whole
    ∙ (λ i. record { name = record { bytes = take_at name tail 16 long i }; segment = behind name tail 16 0 long refl i; fields = read i; live = live i })

-- a relation begins with its name
first_of : (entry : RelationEntry) → IsFormed entry → (get_or (relation_spelled (Some entry)) 0 0 == 0) ≡ false
first_of entry formed =
    let name = entry.name.bytes in
    let long = name_long entry.name formed.name in
    let zeros = replicate (512 - length (definition_spelled entry)) 0 in
    let whole = regroup name (entry.segment ∷ length entry.fields ∷ added_count entry.fields ∷ 0 ∷ []) (to_be_bytes w32 entry.live) (replicate 8 0) (flat_map field_spelled entry.fields) zeros in
    let tail : List ℕ = entry.segment ∷ length entry.fields ∷ added_count entry.fields ∷ 0 ∷ (to_be_bytes w32 entry.live ++ (replicate 8 0 ++ (flat_map field_spelled entry.fields ++ zeros))) in
    ap (λ (b : ℕ). b == 0) (ap (λ (l : List ℕ). get_or l 0 0) whole ∙ get_or_append_left name tail 0 0 (omega (arith, long))) ∙ name_begins entry.name formed.name

pub relation_back : (relation : Option RelationEntry) → AreFormed relation → relation_of (relation_spelled relation) ≡ relation
relation_back None is = refl
relation_back (Some entry) is =
    let formed = is entry refl in
    let bytes = relation_spelled (Some entry) in
    let first : (get_or bytes 0 0 == 0) ≡ false = first_of entry formed in
    cond-false (get_or bytes 0 0 == 0) None (Some (entry_of bytes)) first ∙ ap Some (entry_back entry formed)
