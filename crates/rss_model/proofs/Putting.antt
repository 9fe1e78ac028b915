-- Tables fit once a tuple is put.
use Rattle.std.proofs.Common.{◌≡◌, ◌⊎◌, inl, inr, ℕ, ◌≤◌, true, List, refl, sym, ◌∙◌, ap, subst}
use Rattle.std.specs.Prelude.{Option, Some, None, is_some, option_map}
use Rattle.std.specs.Ordering.{eq_by_cmp}
use Rattle.std.proofs.lemmas.Bool.{cases_Bool, cond-true, cond-false}
use Rattle.std.proofs.lemmas.Option.{same_Some}
use Rattle.rss_base.specs.declared.name.Name.{Name}
use Rattle.rss_base.specs.declared.tid.Tid.{Tid}
use Rattle.rss_base.specs.declared.value.Value.{Value}
use Rattle.rss_base.specs.declared.item.Item.{Item}
use Rattle.rss_base.specs.declared.item.Item.TheVariants.{Tuple}
use Rattle.rss_model.specs.Images.{KeysFit}
use Rattle.rss_model.specs.Chains.{LinksFit}
use Rattle.rss_model.proofs.LogLists.{some_of}
use Rattle.rss_model.specs.Items.{Content, Values, item_cmp}
use Rattle.rss_model.specs.Tables.{Tables, content, put, segment_of, tuple_count}
use Rattle.rss_model.specs.Fits.{HasContent, Fits, IsIdentifier, IsTupleOf, IsLive, tuple_limit}
use Rattle.rss_model.proofs.Contents.{same_item_of, content_put}

pub same_parts : (a b : Name) (s t : Tid) → Tuple a s ≡ Tuple b t → (a ≡ b) × (s ≡ t)
same_parts a b s t is = (cc, cc)

pub values_of : (o : Option (List Value)) (values : List Value) → option_map Values o ≡ Some (Values values) → o ≡ Some values
values_of None values is = absurd (cc (is))
values_of (Some v) values is = ap Some (unwrap (same_Some _ _ is))
  where
    unwrap : {v w : List Value} → Values v ≡ Values w → v ≡ w
    unwrap e = cc (e)

-- A tuple is put, or none: what is put fits, no other relation of the segment has one there, and there are no more than may be.
module _ {slots : ℕ} {tables : Tables} (fit : Fits slots tables) (relation : Name) (tid : Tid) (next : Option (List Value)) (tuple : (values : List Value) → next ≡ Some values → IsTupleOf tables relation (Values values)) (within : IsIdentifier slots tid)
    (lone : (other : Name) → segment_of tables other ≡ segment_of tables relation → IsLive tables other tid → other ≡ relation)
    (few : (other : Name) → tuple_count (put tables.contents (Tuple relation tid) (option_map Values next)) other ≤ tuple_limit) where
  abbrev with_tuple : Tables
  with_tuple = record tables { contents = put tables.contents (Tuple relation tid) (option_map Values next) }

  -- what is found now is the new tuple, or it was there
  found : (other : Name) (t : Tid) (held : Content) → content with_tuple.contents (Tuple other t) ≡ Some held → ((other ≡ relation) × (t ≡ tid) × (option_map Values next ≡ Some held)) ⊎ (content tables.contents (Tuple other t) ≡ Some held)
  found other t held is = elim (cases_Bool (eq_by_cmp item_cmp (Tuple other t) (Tuple relation tid))) [
    | inl same ↦
        let parts = same_parts other relation t tid (same_item_of _ _ same) in
        inl (parts.0, parts.1, sym (content_put tables.contents (Tuple relation tid) (option_map Values next) (Tuple other t) ∙ cond-true _ _ _ same) ∙ is)
    | inr apart ↦ inr (sym (content_put tables.contents (Tuple relation tid) (option_map Values next) (Tuple other t) ∙ cond-false _ _ _ apart) ∙ is)
  ]

  put_values : (next : Option (List Value)) (held : Content) → option_map Values next ≡ Some held → (values : List Value) × (next ≡ Some values) × (held ≡ Values values)
  put_values None held is = absurd (cc)
  put_values (Some values) held is = (values, refl, sym (same_Some _ _ is))

  now_of : (other : Name) (held : Content) → other ≡ relation → option_map Values next ≡ Some held → IsTupleOf with_tuple other held
  now_of other held same is =
      let values = put_values next held is in
      let of = tuple values.0 values.1 in
      subst (λ (name : Name). IsTupleOf with_tuple name held) (sym same) (record { fields = of.fields; values = of.values; defined = of.defined; tuple = values.2 ∙ of.tuple; fit = of.fit })

  live : (other : Name) (t : Tid) → IsLive with_tuple other t → ((other ≡ relation) × (t ≡ tid)) ⊎ IsLive tables other t
  live other t is =
      let some = some_of _ is in
      elim (found other t some.0 some.1) [
        | inl new ↦ inl (new.0, new.1)
        | inr old ↦ inr (ap is_some old)
      ]

  lone_at : (other : Name) (t : Tid) → t ≡ tid → segment_of tables other ≡ segment_of tables relation → IsLive tables other t → other ≡ relation
  lone_at other t same segment lives = lone other segment (subst (IsLive tables other) same lives)

  tuple_has : (item : Item) → item ≡ Tuple relation tid → HasContent item
  tuple_has item same = subst HasContent (sym same) (tt {0})

  -- what else is there is a tuple or a chain, as before
  only_put : (item : Item) → is_some (content with_tuple.contents item) ≡ true → HasContent item
  only_put item is = elim (cases_Bool (eq_by_cmp item_cmp item (Tuple relation tid))) [
    | inl same ↦ tuple_has item (same_item_of _ _ same)
    | inr apart ↦ fit.only item (sym (ap is_some (content_put tables.contents (Tuple relation tid) (option_map Values next) item ∙ cond-false _ _ _ apart)) ∙ is)
  ]

  pub fits_put : KeysFit with_tuple → LinksFit with_tuple → Fits slots with_tuple
  fits_put keys_fit links_fit = record {
    definitions = fit.definitions;
    tuples = λ other t held is. elim (found other t held is) [
      | inl new ↦ now_of other held new.0 new.2
      | inr old ↦ let was = fit.tuples other t held old in record { fields = was.fields; values = was.values; defined = was.defined; tuple = was.tuple; fit = was.fit }
    ];
    tids = λ other t lives. elim (live other t lives) [
      | inl new ↦ subst (IsIdentifier slots) (sym new.1) within
      | inr old ↦ fit.tids other t old
    ];
    alone = λ one other t first second same. elim (live one t first) [
      | inl new ↦ elim (live other t second) [
        | inl again ↦ new.0 ∙ sym again.0
        | inr old ↦ new.0 ∙ sym (lone_at other t new.1 (sym same ∙ ap (segment_of tables) new.0) old)
      ]
      | inr old ↦ elim (live other t second) [
        | inl new ↦ lone_at one t new.1 (same ∙ ap (segment_of tables) new.0) old ∙ sym new.0
        | inr older ↦ fit.alone one other t old older same
      ]
    ];
    few = few;
    keys = keys_fit;
    links = links_fit;
    only = only_put;
  }
