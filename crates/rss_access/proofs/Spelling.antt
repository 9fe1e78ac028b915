-- What a look at the pages of a tuple store finds, by the tables that they spell.
use Rattle.std.proofs.Common.{◌≡◌, ◌⊎◌, inl, inr, ℕ, true, false, List, ◌∷◌, ◌++◌, refl, sym, ◌∙◌, ap, subst}
use Rattle.std.specs.Prelude.{Option, Some, None, is_some, option_map, All}
use Rattle.std.proofs.lemmas.Option.{none-some, same_Some}
use Rattle.rss_base.specs.Paged.{Held}
use Rattle.rss_base.specs.Steps.{PagesView}
use Rattle.rss_base.specs.TupleTypes.{kinds, misfit, tuple_bytes, IsStorable}
use Rattle.rss_base.specs.Listings.{Listing, segment_at, relation_at}
use Rattle.rss_base.specs.Prefixes.{prefix_size}
use Rattle.rss_base.specs.declared.name.Name.{Name}
use Rattle.rss_base.specs.declared.tid.Tid.{Tid}
use Rattle.rss_base.specs.declared.item.Item.TheVariants.{Tuple as TupleItem, Chain as ChainItem}
use Rattle.rss_base.specs.declared.relation.RelationEntry.{RelationEntry}
use Rattle.rss_base.specs.declared.value.Value.{Value}
use Rattle.rss_base.specs.declared.value.FieldForm.{FieldForm}
use Rattle.rss_tuple.specs.Directory.{bodies_of}
use Rattle.rss_entries.specs.Images.{AreTuples}
use Rattle.rss_model.specs.Items.{Content, Values}
use Rattle.rss_model.specs.Tables.{RelationDef, Tables, content, segment_of}
use Rattle.rss_model.specs.Fits.{Fits}
use Rattle.rss_stored.specs.Store.{SpellsTables, fields_at, prefix_of, body_of}
use Rattle.rss_stored.proofs.Blocks.{prefix_long}
use Rattle.rss_model.proofs.Frees.{stands_defined}
use Rattle.rss_stored.proofs.Listed.{fields_at_is, listed, number_within}
use Rattle.rss_stored.proofs.Spelled.{tuple_bytes_same, named_relation}
use Rattle.rss_access.specs.Bodies.{IsBodyOf}
use Rattle.rss_access.specs.Tuples.{body_at, FindsBody}
use Rattle.rss_access.proofs.Bodied.{one_bytes}
use Rattle.rss_access.proofs.Prefixed.{first_same}

-- ---- identifiers

-- what holds a tuple
pub tuple_held : {tables : Tables} → AreTuples tables → (relation : Name) (tid : Tid) (held : Option Content) → content tables.contents (TupleItem relation tid) ≡ held → (held ≡ None) ⊎ ((values : List Value) × (content tables.contents (TupleItem relation tid) ≡ Some (Values values)))
tuple_held tuples relation tid None is = inl refl
tuple_held tuples relation tid (Some held) is = let of = tuples relation tid held is in inr (of.values, is ∙ ap Some of.tuple)

module _ {held : Held} {listing : Listing} {tables : Tables} (spells : SpellsTables held listing tables) where
  -- no tuple of a listed relation stands where there is no body
  pub none_listed : AreTuples tables → (k : ℕ) (entry : RelationEntry) → relation_at listing k ≡ Some entry → (tid : Tid) → bodies_of held entry.segment tid ≡ None → content tables.contents (TupleItem entry.name tid) ≡ None
  none_listed tuples k entry at tid absent = elim (tuple_held tuples entry.name tid (content tables.contents (TupleItem entry.name tid)) refl) [
    | inl none ↦ none
    | inr some ↦ absurd (none-some _ (sym absent ∙ spells.contents.stands k entry tid some.0 at some.1))
  ]

  -- the values of each tuple can be stored
  pub all_storable : (relation : Name) (tid : Tid) (values : List Value) → content tables.contents (TupleItem relation tid) ≡ Some (Values values) → All IsStorable values
  all_storable relation tid values holds =
      elim (spells.contents.only (TupleItem relation tid) (ap is_some holds)) [
        | inl on ↦
            let mine : content tables.contents (TupleItem on.relation.name on.tid) ≡ Some (Values values) = ap (content tables.contents) (sym on.is) ∙ holds in
            let of = spells.contents.bodies_are on.relation.segment on.tid (body_of listing tables.contents on.number on.tid values) (spells.contents.stands on.number on.relation on.tid values on.at mine) in
            let one : of.relation ≡ on.relation = same_Some _ _ (sym of.at ∙ ap (relation_at listing) (sym (first_same on.number of.number _ _ of.is)) ∙ on.at) in
            subst (All IsStorable) (values_same of.values values (sym of.holds ∙ ap (λ (r : RelationEntry). content tables.contents (TupleItem r.name on.tid)) one ∙ mine)) of.storable
        | inr on ↦ absurd (no_chain on.link.name on.parent on.is)
      ]
    where
      no_chain : (link : Name) (parent : Option Tid) → TupleItem relation tid ≡ ChainItem link parent → ⊥
      no_chain link parent is = absurd (cc)

      values_same : (a b : List Value) → ◌≡◌ {A = Option Content} (Some (Values a)) (Some (Values b)) → a ≡ b
      values_same a b same = cc

module _ {held : Held} {listing : Listing} {tables : Tables} {slots : ℕ} (spells : SpellsTables held listing tables) (fit : Fits slots tables) where
  -- nor one of any relation of the segment
  pub none_beside : (n : ℕ) (segment : Name) → segment_at listing n ≡ Some segment → (other : Name) → segment_of tables other ≡ Some segment → (tid : Tid) → bodies_of held n tid ≡ None → content tables.contents (TupleItem other tid) ≡ None
  none_beside n segment named other stands tid absent =
      let has = named_relation listing other (spells.defines.only_relations other (stands_defined tables segment other stands)) in
      let within = number_within tables spells.listed spells.defines has.number has.relation has.at n segment named (ap (segment_of tables) has.named ∙ stands) in
      ap (λ (name : Name). content tables.contents (TupleItem name tid)) (sym has.named) ∙ none_listed spells fit.tuples has.number has.relation has.at tid (ap (λ (k : ℕ). bodies_of held k tid) within ∙ absent)

-- ---- what a look found

module _ {held : Held} {listing : Listing} {tables : Tables} (spells : SpellsTables held listing tables) (tuples : AreTuples tables) (number : ℕ) (relation : RelationEntry) (at : relation_at listing number ≡ Some relation) (tid : Tid) where
  -- the values of a tuple fit its relation's fields
  pub fits_fields : (values : List Value) → content tables.contents (TupleItem relation.name tid) ≡ Some (Values values) → misfit (kinds relation.fields) values ≡ None
  fits_fields values holds =
      let of = tuples relation.name tid (Values values) holds in
      let so = listed spells.listed spells.defines number relation at in
      let defined = spells.defines.relations number relation so.0 so.1 in
      let fields : of.fields ≡ kinds relation.fields = same_Some _ _ (sym of.defined ∙ ap (option_map (λ (r : RelationDef). kinds r.fields)) defined) in
      ap (λ (f : List FieldForm). misfit f values) (sym fields) ∙ ap (misfit of.fields) (same_values values of.values of.tuple) ∙ of.fit
    where
      same_values : (a b : List Value) → Values a ≡ Values b → a ≡ b
      same_values a b same = cc

-- a body that was found is that of a tuple of the relation with these values
pub record HasValues (pages : PagesView) (listing : Listing) (tables : Tables) (number : ℕ) (relation : RelationEntry) (tid : Tid) (bytes : List ℕ) : Type 0 where
  pub values : List Value
  pub body : IsBodyOf listing number (kinds relation.fields) values bytes
  pub stands : body_at pages relation.segment tid ≡ Some bytes
  pub holds : content tables.contents (TupleItem relation.name tid) ≡ Some (Values values)

module _ (pages : PagesView) {listing : Listing} {tables : Tables} (spells : SpellsTables pages.held listing tables) (tuples : AreTuples tables) (number : ℕ) (relation : RelationEntry) (at : relation_at listing number ≡ Some relation) (tid : Tid) (bytes : List ℕ) where
  -- the values of a body of the relation
  values_found : (rest : List ℕ) → bytes ≡ number ∷ rest → body_at pages relation.segment tid ≡ Some bytes → HasValues pages listing tables number relation tid bytes
  values_found rest is stands =
      let of = spells.contents.bodies_are relation.segment tid bytes stands in
      let parts = parts_of number of.number rest (prefix_of listing tables.contents of.number tid ++ tuple_bytes (fields_at listing of.number) of.values) (sym is ∙ of.is) in
      let one : of.relation ≡ relation = same_Some _ _ (sym of.at ∙ ap (relation_at listing) (sym parts.0) ∙ at) in
      let holds : content tables.contents (TupleItem relation.name tid) ≡ Some (Values of.values) = ap (λ (r : RelationEntry). content tables.contents (TupleItem r.name tid)) (sym one) ∙ of.holds in
      record {
        values = of.values;
        body = record {
          bytes = tuple_bytes (kinds relation.fields) of.values;
          holds = record {
            prefix = prefix_of listing tables.contents of.number tid;
            long = prefix_long listing tables.contents of.number tid ∙ ap (prefix_size listing.links) (sym parts.0);
            is = is ∙ ap (λ (b : List ℕ). number ∷ b) parts.1 ∙ ap (λ (fields : List FieldForm). number ∷ (prefix_of listing tables.contents of.number tid ++ tuple_bytes fields of.values)) (ap (fields_at listing) (sym parts.0) ∙ fields_at_is listing number relation at);
          };
          spelled = record { fit = fits_fields spells tuples number relation at tid of.values holds; storable = of.storable; same = refl };
        };
        stands = stands;
        holds = holds;
      }
    where
      parts_of : (k j : ℕ) (x y : List ℕ) → k ∷ x ≡ j ∷ y → (k ≡ j) × (x ≡ y)
      parts_of k j x y same = (cc, cc)

  -- it is the tuple whose values are spelled there
  pub tuple_found : body_at pages relation.segment tid ≡ Some bytes → (values : List Value) → IsBodyOf listing number (kinds relation.fields) values bytes → content tables.contents (TupleItem relation.name tid) ≡ Some (Values values)
  tuple_found stands values body =
      let has = values_found (body.holds.prefix ++ body.bytes) body.holds.is stands in
      let bytes_same : tuple_bytes (kinds relation.fields) values ≡ tuple_bytes (kinds relation.fields) has.values = sym body.spelled.same ∙ one_bytes body.holds has.body.holds ∙ has.body.spelled.same in
      has.holds ∙ ap (λ (v : List Value). Some (Values v)) (sym (tuple_bytes_same 1 (kinds relation.fields) values has.values body.spelled.fit has.body.spelled.fit body.spelled.storable has.body.spelled.storable bytes_same))

module _ {pages : PagesView} {listing : Listing} {tables : Tables} {slots : ℕ} (spells : SpellsTables pages.held listing tables) (fit : Fits slots tables) (number : ℕ) (relation : RelationEntry) (at : relation_at listing number ≡ Some relation) (tid : Tid) (bytes : List ℕ) where
  -- the tuple that was found: `tuple_of` can't answer `Ok None` of its body
  pub found_values : FindsBody relation.segment number tid pages true bytes → HasValues pages listing tables number relation tid bytes
  found_values finds = let found = finds.some refl in values_found pages spells fit.tuples number relation at tid bytes finds.rest found.0 found.1

  -- none was found
  pub found_none : FindsBody relation.segment number tid pages false bytes → content tables.contents (TupleItem relation.name tid) ≡ None
  found_none finds = elim (tuple_held fit.tuples relation.name tid (content tables.contents (TupleItem relation.name tid)) refl) [
    | inl none ↦ none
    | inr some ↦ absurd (finds.none refl (prefix_of listing tables.contents number tid ++ tuple_bytes (fields_at listing number) some.0) (spells.contents.stands number relation tid some.0 at some.1))
  ]
