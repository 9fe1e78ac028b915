-- The owner of a key in the tables that an image shows is the tuple that was found.
use Rattle.std.proofs.Common.{◌≡◌, ◌<◌, inl, inr, ℕ, suc, zero, true, List, [], ◌∷◌, length, refl, sym, ◌∙◌, ap, subst, arith}
use Rattle.std.specs.Prelude.{Option, Some, None, IfSome, Contains, not}
use Rattle.std.specs.List.{slice_index_or}
use Rattle.std.specs.Ordering.{is_eq}
use Rattle.std.proofs.lemmas.Cmp.{tied_itself}
use Rattle.std.proofs.lemmas.List.{append_cancel_right}
use Rattle.rss_base.specs.LogRecords.{tid_bytes}
use Rattle.rss_base.specs.Prefixes.{is_tid}
use Rattle.rss_base.specs.TupleTypes.{chosen, key_bytes, IsKeyOf}
use Rattle.rss_base.specs.Listings.{field_numbers}
use Rattle.rss_base.specs.declared.tid.Tid.{Tid}
use Rattle.rss_base.specs.declared.value.Value.{Value}
use Rattle.rss_base.specs.declared.item.Item.TheVariants.{Tuple as TupleItem}
use Rattle.rss_base.specs.declared.image.ImageEntry.{ImageEntry}
use Rattle.rss_base.specs.declared.relation.RelationEntry.{RelationEntry}
use Rattle.rss_value.proofs.KeyOrders.{keys_same}
use Rattle.rss_base.specs.Tids.{IsSpelledTid}
use Rattle.rss_node.specs.Pairs.{pair_bytes}
use Rattle.rss_image.specs.Images.{IsPairOf, IsAnother}
use Rattle.rss_model.specs.Items.{Values}
use Rattle.rss_model.specs.Tables.{ImageDef, Tables, content}
use Rattle.rss_model.specs.Images.{HasKey, is_key, is_other, key_in, owner_of_key}
use Rattle.rss_stored.specs.Store.{image_definition}
use Rattle.rss_model.proofs.ChangeKeeping.{not_owned}
use Rattle.rss_model.proofs.ImageLists.{values_total}
use Rattle.rss_model.proofs.LogLists.{by_test, false_true}
use Rattle.rss_model.proofs.Mixing.{In}
use Rattle.rss_model.proofs.SeenAlike.{owner_has}
use Rattle.rss_model.proofs.Standing.{tid_itself, tid_same}
use Rattle.rss_model.proofs.Viewing.{keyed, keyed_of, keyed_is, same_key}
use Rattle.rss_entries.specs.Images.{key_of}
use Rattle.rss_entries.specs.Moving.{pair_with}
use Rattle.rss_entries.specs.Seeking.{AreSingle, kinds_in}
use Rattle.rss_entries.proofs.Orders.{in_contains}
use Rattle.rss_entries.proofs.Shown.{Shows, byte_list, key_fits, key_is, pair_is, pair_there, same_tid, tuple_pair}

contains_in : (pairs : List (List ℕ)) (p : List ℕ) → Contains pairs p → In p pairs
contains_in pairs p has = at pairs has.0 has.1 has.2
  where
    at : (ps : List (List ℕ)) (k : ℕ) → k < length ps → slice_index_or ps k p ≡ p → In p ps
    at [] k low is = absurd (omega (arith, low))
    at (x ∷ xs) zero low is = inl is
    at (x ∷ xs) (suc k) low is = inr (at xs k (omega (arith, low)) is)

-- ---- this tuple, and another one

other_than : (own : Option Tid) (tid : Tid) → (own ≡ Some tid → ⊥) → is_other own tid ≡ true
other_than None tid off = refl
other_than (Some one) tid off = by_test (is_tid one tid) (λ e. absurd (off (ap (λ (t : Tid). Some t) (tid_same one tid e)))) (λ e. ap not e)

-- a pair of this tuple is no other one's
none_other : (bytes : List ℕ) (own : Option Tid) (tid : Tid) → IfSome own IsSpelledTid → IsSpelledTid tid → IsPairOf bytes own (pair_bytes bytes tid) → is_other own tid ≡ true → ⊥
none_other bytes None tid mine spelled is other = is
none_other bytes (Some one) tid mine spelled is other =
    let same : tid ≡ one = same_tid bytes bytes tid one spelled mine is in
    false_true other (ap (λ (t : Tid). not (is_tid one t)) same ∙ ap not (tid_itself one))

-- ---- the owner of a key

module _ {tables : Tables} {image : ImageEntry} {relation : RelationEntry} (shows : Shows tables image relation) (values : List Value) (bytes : List ℕ) (made : IsKeyOf (kinds_in image relation) (chosen (field_numbers image) values) bytes) where
  abbrev definition : ImageDef
  definition = image_definition image relation

  abbrev key : List Value
  key = key_in tables.definitions definition values

  abbrev pairs : List (List ℕ)
  pairs = byte_list tables image relation

  -- the tuple has the key
  abbrev IsKeyed : Tid → Type 0
  IsKeyed tid = keyed (key_in tables.definitions definition) key (content tables.contents (TupleItem relation.name tid)) ≡ true

  has_key : (tid : Tid) → IsKeyed tid → HasKey tables definition tid key
  has_key tid is =
      let of = keyed_of (key_in tables.definitions definition) key (content tables.contents (TupleItem relation.name tid)) is in
      record { values = of.0; there = of.1; is = of.2 }

  key_itself : (k : List Value) → is_key k k ≡ true
  key_itself k = ap is_eq (tied_itself values_total k)

  -- a tuple whose values give the key's bytes has it
  keyed_by : (tid : Tid) (others : List Value) → content tables.contents (TupleItem relation.name tid) ≡ Some (Values others) → key_bytes (kinds_in image relation) (chosen (field_numbers image) others) ≡ bytes → IsKeyed tid
  keyed_by tid others there is =
      let its = shows.tuples tid others there in
      let same : chosen (field_numbers image) others ≡ chosen (field_numbers image) values = (keys_same (kinds_in image relation) _ _ _ bytes (key_fits image relation tid others its) made).0 is in
      let keys : key_in tables.definitions definition others ≡ key = key_is shows others ∙ same ∙ sym (key_is shows values) in
      ap (keyed (key_in tables.definitions definition) key) there
      ∙ keyed_is (key_in tables.definitions definition) key others (subst (λ (k : List Value). is_key k key ≡ true) (sym keys) (key_itself key))

  -- the tuple of a pair of the key has it
  has_pair : (tid : Tid) → IsSpelledTid tid → Contains pairs (pair_bytes bytes tid) → IsKeyed tid
  has_pair tid spelled has =
      let of = tuple_pair shows (pair_bytes bytes tid) (contains_in pairs (pair_bytes bytes tid) has) in
      let its = shows.tuples of.tid of.values of.there in
      let same : of.tid ≡ tid = same_tid _ bytes of.tid tid its.spelled spelled of.is in
      let pair : pair_bytes (key_bytes (kinds_in image relation) (chosen (field_numbers image) of.values)) tid ≡ pair_bytes bytes tid =
      ap (pair_bytes (key_bytes (kinds_in image relation) (chosen (field_numbers image) of.values))) (sym same) ∙ pair_is image relation of.tid of.values ∙ of.is in
      keyed_by tid of.values (ap (λ (t : Tid). content tables.contents (TupleItem relation.name t)) (sym same) ∙ of.there)
      (append_cancel_right (key_bytes (kinds_in image relation) (chosen (field_numbers image) of.values)) bytes (tid_bytes tid) pair)

  -- and a tuple that has it has a pair
  pair_has : (tid : Tid) → IsKeyed tid → Contains pairs (pair_bytes bytes tid)
  pair_has tid is =
      let of = has_key tid is in
      let same : chosen (field_numbers image) of.values ≡ chosen (field_numbers image) values = sym (key_is shows of.values) ∙ same_key _ _ of.is ∙ key_is shows values in
      let pair : pair_with (key_of image relation) tid of.values ≡ pair_bytes bytes tid =
      sym (pair_is image relation tid of.values) ∙ ap (λ (k : List Value). pair_bytes (key_bytes (kinds_in image relation) k) tid) same ∙ ap (λ (k : List ℕ). pair_bytes k tid) (sym made.same) in
      in_contains pairs (pair_bytes bytes tid) (subst (λ (p : List ℕ). In p pairs) pair (pair_there shows tid of.values of.there))

  spelled_keyed : (tid : Tid) → IsKeyed tid → IsSpelledTid tid
  spelled_keyed tid is = let of = has_key tid is in (shows.tuples tid of.values of.there).spelled

  pub owner_found : (own found : Option Tid) → IfSome own IsSpelledTid → IfSome found IsSpelledTid → AreSingle tables definition → IsAnother bytes own pairs found → found ≡ owner_of_key tables definition own key
  owner_found own found mine spelled single another = by found (owner_of_key tables definition own key) refl spelled another
    where
      by : (found owner : Option Tid) → owner_of_key tables definition own key ≡ owner → IfSome found IsSpelledTid → IsAnother bytes own pairs found → found ≡ owner_of_key tables definition own key
      by None None e spelled another = sym e
      by None (Some j) e spelled another =
          let has = owner_has tables definition own key j e in
          absurd (none_other bytes own j mine (spelled_keyed j has.0) (another j (pair_has j has.0)) has.1)
      by (Some i) None e spelled another = false_true (other_than own i another.1) (not_owned tables definition own key e i (has_pair i spelled another.0))
      by (Some i) (Some j) e spelled another =
          let has = owner_has tables definition own key j e in
          ap (λ (t : Tid). Some t) (single i j key (has_key i (has_pair i spelled another.0)) (has_key j has.0)) ∙ sym e
