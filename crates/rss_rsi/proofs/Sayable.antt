-- The lines of refusals that tell of an item which another transaction holds are short, whatever names they have.
use Rattle.std.proofs.Common.{◌≡◌, ℕ, suc, ◌+◌, ◌-◌, ◌^◌, ◌<◌, ◌≤◌, List, [], ◌∷◌, ◌++◌, length, take, refl, sym, subst, arith, length-append, length-take}
use Rattle.std.specs.Prelude.{Option, Some, None, IfSome, Err, codes, decimal, slice_get}
use Rattle.std.specs.List.{cons_option}
use Rattle.std.proofs.lemmas.Fmt.{length-decimal-le}
use Rattle.std.proofs.lemmas.List.Elements.{All-push}
use Rattle.std.proofs.lemmas.List.Sums.{sum_by-cons}
use Rattle.rss_base.specs.Listings.{field_numbers}
use Rattle.rss_base.specs.TupleTypes.{chosen, kinds, width, field_width, kind_width, key_bytes, key_kind_width, key_part_width, key_width, tuple_bytes}
use Rattle.rss_base.specs.declared.image.ImageEntry.{ImageEntry}
use Rattle.rss_base.specs.declared.item.Item.{Item}
use Rattle.rss_base.specs.declared.item.Item.TheVariants.{Segment, Relation, Tuple, Chain, Key}
use Rattle.rss_base.specs.declared.name.Name.{Name}
use Rattle.rss_base.specs.declared.need.Mode.{Mode}
use Rattle.rss_base.specs.declared.need.Need.{Need}
use Rattle.rss_base.specs.declared.refusal.Refusal.TheVariants.{Busy}
use Rattle.rss_base.specs.declared.tid.Tid.{Tid}
use Rattle.rss_base.specs.declared.value.FieldForm.{FieldForm}
use Rattle.rss_base.specs.declared.value.FieldKind.{FieldKind}
use Rattle.rss_base.specs.declared.value.FieldKind.TheVariants.{Int as IntField, Text as TextField}
use Rattle.rss_base.specs.declared.value.Value.{Value}
use Rattle.rss_base.specs.Tids.{IsSpelledTid}
use Rattle.rss_value.proofs.Choosing.{key_made}
use Rattle.rss_model.specs.Needs.{need}
use Rattle.rss_model.specs.ReplyText.{answer_line, item_text, values_text}
use Rattle.rss_model.specs.Spellings.{name_text, tid_text}
use Rattle.rss_model.proofs.Lengths.{values_short}
use Rattle.rss_rsi.specs.Locking.{HasKey, IsSayable, AreSayable}
use Rattle.rss_session.proofs.Lines.{name_short, tid_short}

busy_short : (item : Item) → length (item_text item) ≤ 4200 → (holder : ℕ) → holder < 2 ^ 32 → length (answer_line (Err (Busy item holder))) ≤ 8192
busy_short item short holder low =
    let number = length-decimal-le 10 holder (omega arith) (omega (arith, low)) (omega (arith, low)) in
    omega (arith, short, number, length-append (item_text item ++ codes " by " ++ decimal holder) (codes "\n"), length-append (item_text item ++ codes " by ") (decimal holder), length-append (item_text item) (codes " by "))

pub segment_sayable : (segment : Name) → length segment.bytes ≡ 16 → IsSayable (Segment segment)
segment_sayable segment long = busy_short (Segment segment) (omega (arith, name_short segment long))

pub relation_sayable : (relation : Name) → length relation.bytes ≡ 16 → IsSayable (Relation relation)
relation_sayable relation long = busy_short (Relation relation) (omega (arith, name_short relation long))

pub tuple_sayable : (relation : Name) (tid : Tid) → length relation.bytes ≡ 16 → tid.page < 2 ^ 32 → tid.slot < 2 ^ 32 → IsSayable (Tuple relation tid)
tuple_sayable relation tid long page slot =
    busy_short (Tuple relation tid) (omega (arith, name_short relation long, tid_short tid page slot, length-append (name_text relation ++ codes " ") (tid_text tid), length-append (name_text relation) (codes " ")))

pub chain_sayable : (link : Name) (parent : Option Tid) → length link.bytes ≡ 16 → IfSome parent IsSpelledTid → IsSayable (Chain link parent)
chain_sayable link None long sized = busy_short (Chain link None) (omega (arith, name_short link long, length-append (name_text link) (codes " none")))
chain_sayable link (Some parent) long sized =
    busy_short (Chain link (Some parent)) (omega (arith, name_short link long, tid_short parent (omega (arith, sized.page)) (omega (arith, sized.slot)), length-append (name_text link ++ codes " ") (tid_text parent), length-append (name_text link) (codes " ")))

-- ---- keys

-- a field of a tuple is wider than of a key by one byte at most, and so are those of a key together by sixteen
width_of_key : (fields : List FieldForm) → width fields ≤ key_width fields + length fields
width_of_key [] = omega arith
width_of_key (form ∷ fields) = omega (arith, one form.kind, width_of_key fields, sum_by-cons field_width form fields, sum_by-cons key_part_width form fields)
  where
    one : (kind : FieldKind) → kind_width kind ≤ key_kind_width kind + 1
    one IntField = omega arith
    one (TextField n) = omega arith

few_chosen : (numbers : List ℕ) (fields : List FieldForm) → length (chosen numbers fields) ≤ length numbers
few_chosen [] fields = omega arith
few_chosen (number ∷ numbers) fields = by (slice_get fields (number - 1)) (chosen numbers fields) (few_chosen numbers fields)
  where
    by : (o : Option FieldForm) (rest : List FieldForm) → length rest ≤ length numbers → length (cons_option o rest) ≤ suc (length numbers)
    by None rest few = omega (arith, few)
    by (Some field) rest few = omega (arith, few)

pub key_sayable : (image : ImageEntry) (values : List Value) → HasKey image values → length image.name.bytes ≡ 16 → IsSayable (Key image.name (chosen (field_numbers image) values))
key_sayable image values has long =
    let numbers : List ℕ = field_numbers image in
    let key : List Value = chosen numbers values in
    let forms : List FieldForm = kinds has.fields in
    let made = key_made forms (tuple_bytes forms values) numbers (length numbers) (key_bytes (chosen (take (length numbers) numbers) forms) (chosen (take (length numbers) numbers) values)) values (omega arith) (record { fit = has.fit; storable = has.storable; same = refl }) refl in
    let short = values_short 1 (chosen numbers forms) key made.fit made.storable in
    let few = few_chosen numbers forms in
    busy_short (Key image.name key) (omega (arith, name_short image.name long, short, width_of_key (chosen numbers forms), has.narrow, few, length-take image.count image.fields, has.few, length-append (name_text image.name) (values_text key)))

-- ---- lists

pub more_sayable : (needs now : List Need) (item : Item) (mode : Mode) → now ≡ needs ++ need item mode ∷ [] → AreSayable needs → IsSayable item → AreSayable now
more_sayable needs now item mode is all one = subst AreSayable (sym is) (All-push (λ (n : Need). IsSayable n.item) needs (need item mode) all one)
