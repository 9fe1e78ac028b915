-- What stands in bodies behind the number of the relation and the blocks of its links.
use Rattle.std.proofs.Common.{◌≡◌, ℕ, ◌-◌, List, ◌∷◌, ◌++◌, length, take, drop, sym, ◌∙◌, ap, subst, arith, length-take-le, take_all}
use Rattle.std.specs.Prelude.{Option, Some, None, IfSome, All, is_some, option_copied}
use Rattle.std.specs.Borrow.{Bor}
use Rattle.std.specs.Slice.{IsGetRangeResult}
use Rattle.std.proofs.lemmas.List.{length-drop, take-append-drop}
use Rattle.std.proofs.Math.Seq.{drop-append_seam}
use Rattle.std.proofs.lemmas.Option.{same_Some}
use Rattle.rss_base.specs.Listings.{Listing, relation_at}
use Rattle.rss_base.specs.Prefixes.{prefix_size}
use Rattle.rss_base.specs.TupleTypes.{kinds, tuple_bytes, IsStorable}
use Rattle.rss_base.specs.declared.name.Name.{Name}
use Rattle.rss_base.specs.declared.item.Item.TheVariants.{Tuple as TupleItem}
use Rattle.rss_base.specs.declared.relation.RelationEntry.{RelationEntry}
use Rattle.rss_base.specs.declared.tid.Tid.{Tid}
use Rattle.rss_base.specs.declared.value.FieldForm.{FieldForm}
use Rattle.rss_base.specs.declared.value.Value.{Value}
use Rattle.rss_tuple.specs.Directory.{Bodies}
use Rattle.rss_model.specs.Items.{Content, Values}
use Rattle.rss_model.specs.Tables.{Contents, content}
use Rattle.rss_stored.specs.Store.{SpellsContents, body_of, fields_at, prefix_of}
use Rattle.rss_stored.proofs.Blocks.{prefix_long}
use Rattle.rss_stored.proofs.Listed.{fields_at_is, tuple_item}
use Rattle.rss_access.specs.Bodies.{HoldsBytes}

-- behind the blocks stand these bytes alone
pub one_bytes : {listing : Listing} {number : ℕ} {body a b : List ℕ} → HoldsBytes listing number body a → HoldsBytes listing number body b → a ≡ b
one_bytes {a = a} {b = b} one other =
    sym (drop-append_seam one.prefix a) ∙ (λ i. drop ((one.long ∙ sym other.long) i) (tails (sym one.is ∙ other.is) i)) ∙ drop-append_seam other.prefix b
  where
    tails : {n m : ℕ} {x y : List ℕ} → n ∷ x ≡ m ∷ y → x ≡ y
    tails same = cc

-- where a body begins with the relation's number, they are what is behind the prefix, if that fits in
pub part_holds : (listing : Listing) {number first size : ℕ} {body rest : List ℕ} (part : Option (Bor (List ℕ))) → body ≡ first ∷ rest → first ≡ number → size ≡ prefix_size listing.links number → IsGetRangeResult rest size (length rest) part
    → IfSome (option_copied part) (HoldsBytes listing number body)
part_holds listing None begins same long got = tt
part_holds listing {number = number} {size = size} {rest = rest} (Some part) begins same long got =
    let (low, high, is, counted) = got.0 in
    let all : part.now ≡ drop size rest = is ∙ take_all (length rest - size) (drop size rest) (omega (arith, length-drop size rest)) in
    record {
      prefix = take size rest;
      long = length-take-le size rest low ∙ long;
      is = begins ∙ (λ i. same i ∷ (sym (take-append-drop size rest) ∙ ap (λ (b : List ℕ). take size rest ++ b) (sym all)) i);
    }

-- a tuple's body, by the fields of its relation
pub body_is : (listing : Listing) (contents : Contents) (number : ℕ) (relation : RelationEntry) → relation_at listing number ≡ Some relation → (tid : Tid) (values : List Value)
    → body_of listing contents number tid values ≡ number ∷ (prefix_of listing contents number tid ++ tuple_bytes (kinds relation.fields) values)
body_is listing contents number relation at tid values = ap (λ (fields : List FieldForm). number ∷ (prefix_of listing contents number tid ++ tuple_bytes fields values)) (fields_at_is listing number relation at)

-- in it, the bytes of its values
pub body_holds : (listing : Listing) (contents : Contents) (number : ℕ) (relation : RelationEntry) → relation_at listing number ≡ Some relation → (tid : Tid) (values : List Value)
    → HoldsBytes listing number (body_of listing contents number tid values) (tuple_bytes (kinds relation.fields) values)
body_holds listing contents number relation at tid values = record { prefix = prefix_of listing contents number tid; long = prefix_long listing contents number tid; is = body_is listing contents number relation at tid values }

-- A tuple of a relation, whose body has this behind the relation's number.
pub record IsTupleWith (listing : Listing) (contents : Contents) (number : ℕ) (relation : RelationEntry) (tid : Tid) (rest : List ℕ) : Type 0 where
  pub values : List Value
  pub bytes : HoldsBytes listing number (number ∷ rest) (tuple_bytes (kinds relation.fields) values)
  pub storable : All IsStorable values
  pub holds : content contents (TupleItem relation.name tid) ≡ Some (Values values)

-- each body that begins with the relation's number is one of these
pub tuple_with : {listing : Listing} {bodies : Bodies} {contents : Contents} → SpellsContents listing bodies contents → (number : ℕ) (relation : RelationEntry) → relation_at listing number ≡ Some relation
    → (tid : Tid) (rest : List ℕ) → bodies relation.segment tid ≡ Some (number ∷ rest) → IsTupleWith listing contents number relation tid rest
tuple_with {listing = listing} {contents = contents} spells number relation its tid rest stands =
    let of = spells.bodies_are relation.segment tid (number ∷ rest) stands in
    let parts = parts_of of.is in
    let one : of.relation ≡ relation = same_Some _ _ (sym of.at ∙ ap (relation_at listing) (sym parts.0) ∙ its) in
    record {
      values = of.values;
      bytes = record {
        prefix = prefix_of listing contents of.number tid;
        long = prefix_long listing contents of.number tid ∙ ap (prefix_size listing.links) (sym parts.0);
        is = ap (λ (b : List ℕ). number ∷ b) parts.1 ∙ ap (λ (fields : List FieldForm). number ∷ (prefix_of listing contents of.number tid ++ tuple_bytes fields of.values)) (ap (fields_at listing) (sym parts.0) ∙ fields_at_is listing number relation its);
      };
      storable = of.storable;
      holds = ap (λ (r : RelationEntry). content contents (TupleItem r.name tid)) (sym one) ∙ of.holds;
    }
  where
    parts_of : {k j : ℕ} {x y : List ℕ} → k ∷ x ≡ j ∷ y → (k ≡ j) × (x ≡ y)
    parts_of same = (cc, cc)

-- the values of each tuple can be stored
pub values_storable : {listing : Listing} {bodies : Bodies} {contents : Contents} → SpellsContents listing bodies contents → (relation : Name) (tid : Tid) (values : List Value) → content contents (TupleItem relation tid) ≡ Some (Values values) → All IsStorable values
values_storable {contents = contents} spells relation tid values holds =
    let on = tuple_item relation tid (spells.only (TupleItem relation tid) (ap is_some holds)) in
    let mine : content contents (TupleItem on.relation.name on.tid) ≡ Some (Values values) = ap (content contents) (sym on.is) ∙ holds in
    let of = tuple_with spells on.number on.relation on.at on.tid _ (spells.stands on.number on.relation on.tid values on.at mine) in
    subst (All IsStorable) (values_same (sym of.holds ∙ mine)) of.storable
  where
    values_same : {a b : List Value} → ◌≡◌ {A = Option Content} (Some (Values a)) (Some (Values b)) → a ≡ b
    values_same same = cc
