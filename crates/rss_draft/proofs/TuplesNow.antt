-- What a tuple holds now: as the draft says, or else as its body on the pages.
use Rattle.std.proofs.Common.{◌≡◌, ℕ, ◌^◌, ◌<◌, Bool, true, false, List, [], ◌∷◌, ◌++◌, refl, sym, ◌∙◌, ap, subst}
use Rattle.std.specs.Prelude.{◌↔◌, Option, Some, None, IfSome, is_some, not, option_copied}
use Rattle.std.specs.Borrow.{Bor}
use Rattle.std.specs.Cmp.Lexicographic.{pointwise}
use Rattle.std.proofs.Math.Dec.{eqb}
use Rattle.std.proofs.lemmas.Option.{same_Some}
use Rattle.rss_base.specs.DiskRule.{IsTold}
use Rattle.rss_base.specs.TupleTypes.{kinds, misfit, tuple_bytes}
use Rattle.rss_base.specs.Listings.{relation_at}
use Rattle.rss_base.specs.declared.tid.Tid.{Tid}
use Rattle.rss_base.specs.declared.value.FieldForm.{FieldForm}
use Rattle.rss_base.specs.declared.item.Item.TheVariants.{Tuple}
use Rattle.rss_base.specs.declared.relation.RelationEntry.{RelationEntry}
use Rattle.rss_model.specs.Items.{Content, Values}
use Rattle.rss_model.specs.Tables.{Tables, content, fields_of}
use Rattle.rss_model.specs.Chains.{is_there}
use Rattle.rss_model.specs.Fits.{IsTupleOf}
use Rattle.rss_model.proofs.LogLists.{by_test, none_some}
use Rattle.rss_stored.specs.Store.{Defines, prefix_of, fields_at}
use Rattle.rss_stored.proofs.Listed.{fields_defined}
use Rattle.rss_stored.proofs.Spelled.{same_values}
use Rattle.rss_access.specs.Bodies.{HoldsBytes, IsSpelledIn}
use Rattle.rss_members.specs.Calls.{FindsTuple}
use Rattle.rss_access.specs.Changes.{AccessView, members}
use Rattle.rss_access.specs.Tuples.{body_at, FindsBody}
use Rattle.rss_access.proofs.Bodied.{IsTupleWith, one_bytes, tuple_with}
use Rattle.rss_access.proofs.ChainTables.{members_of}
use Rattle.rss_access.proofs.Fronts.{same_bytes, other_bytes}
use Rattle.rss_draft.specs.Views.{DraftView}
use Rattle.rss_draft.specs.Drafts.{ShowsTuple, SaysTuple}
use Rattle.rss_draft.specs.Looks.{StandsOver, IsTupleNow, IsThereNow}

-- ---- bytes

-- what a tuple holds is shown by one list of bytes at most
pub shows_once : (fields : Option (List FieldForm)) (one other : Option (List ℕ)) (held : Option Content) → ShowsTuple fields one held → ShowsTuple fields other held → one ≡ other
shows_once fields None None held shows shows_too = refl
shows_once fields None (Some b) held none shown = none_some (sym none ∙ shown.is)
shows_once fields (Some a) None held shown none = none_some (sym none ∙ shown.is)
shows_once fields (Some a) (Some b) held one other =
    let forms : one.forms ≡ other.forms = same_Some _ _ (sym one.defined ∙ other.defined) in
    let values : one.values ≡ other.values = same_values one.values other.values (same_Some _ _ (sym one.is ∙ other.is)) in
    ap (λ (bytes : List ℕ). Some bytes) (one.spells.same ∙ (λ i. tuple_bytes (forms i) (values i)) ∙ sym other.spells.same)

-- so it holds what others show exactly if they are the same
pub shows_same : (fields : Option (List FieldForm)) (now other : Option (List ℕ)) (held : Option Content) (found : Bool) → ShowsTuple fields now held → ((found ≡ true) ↔ (now ≡ other)) → (found ≡ true) ↔ ShowsTuple fields other held
shows_same fields now other held found shows same = (
  (λ is. subst (λ (bytes : Option (List ℕ)). ShowsTuple fields bytes held) (same.0 is) shows),
  (λ shows_too. same.1 (shows_once fields now other held shows shows_too)),
)

pub shown_there : (fields : Option (List FieldForm)) (now : Option (List ℕ)) (held : Option Content) → ShowsTuple fields now held → is_some now ≡ is_some held
shown_there fields None held none = ap is_some (sym none)
shown_there fields (Some bytes) held shown = ap is_some (sym shown.is)

-- ---- a tuple of a listed relation

module _ {at : AccessView} {draft : DraftView} {saved tables : Tables} (over : StandsOver at draft saved tables) (number : ℕ) (relation : RelationEntry) (listed : relation_at at.catalog.listing number ≡ Some relation) (tid : Tid) where
  pub fields_now : fields_of tables relation.name ≡ Some (kinds relation.fields)
  fields_now = fields_defined tables over.spells.listed (subst (Defines at.catalog.listing) (sym over.is.definitions) over.spells.defines) number relation listed

  -- what the draft says is so
  pub said_shows : (now : Option (List ℕ)) → draft.tuples relation.name tid ≡ Some now → ShowsTuple (fields_of tables relation.name) now (content tables.contents (Tuple relation.name tid))
  said_shows now is =
      subst (λ (o : Option (Option (List ℕ))). SaysTuple (fields_of tables relation.name) o (content saved.contents (Tuple relation.name tid)) (content tables.contents (Tuple relation.name tid)))
      is (over.is.tuples relation.name tid)

  -- where it says nothing, all is as it was
  pub unsaid : draft.tuples relation.name tid ≡ None → content tables.contents (Tuple relation.name tid) ≡ content saved.contents (Tuple relation.name tid)
  unsaid is =
      subst (λ (o : Option (Option (List ℕ))). SaysTuple (fields_of tables relation.name) o (content saved.contents (Tuple relation.name tid)) (content tables.contents (Tuple relation.name tid)))
      is (over.is.tuples relation.name tid)

  -- where no body of the relation stands, there is no tuple
  pub none_saved : FindsBody relation.segment number tid at.pages false [] → content saved.contents (Tuple relation.name tid) ≡ None
  none_saved finds = by (content saved.contents (Tuple relation.name tid)) refl
    where
      by : (o : Option Content) → content saved.contents (Tuple relation.name tid) ≡ o → content saved.contents (Tuple relation.name tid) ≡ None
      by None is = is
      by (Some held) is =
          let of = over.fit.tuples relation.name tid held is in
          absurd (finds.none refl (prefix_of at.catalog.listing saved.contents number tid ++ tuple_bytes (fields_at at.catalog.listing number) of.values)
          (over.spells.contents.stands number relation tid of.values listed (is ∙ ap (λ (c : Content). Some c) of.tuple)))

  -- where one stands, the bytes of the tuple's values stand in it
  pub stored_shows : draft.tuples relation.name tid ≡ None → (body : List ℕ) → FindsBody relation.segment number tid at.pages true body
      → (found : Option (List ℕ)) → IfSome found (IsSpelledIn at.catalog.listing number (kinds relation.fields) body)
      → (found ≡ None → (bytes : List ℕ) → IsSpelledIn at.catalog.listing number (kinds relation.fields) body bytes → ⊥)
      → ShowsTuple (fields_of tables relation.name) found (content tables.contents (Tuple relation.name tid))
  stored_shows unsaid_of body finds found some none = by found some none
    where
      there : (body ≡ number ∷ finds.rest) × (body_at at.pages relation.segment tid ≡ Some body)
      there = finds.some refl

      its : IsTupleWith at.catalog.listing saved.contents number relation tid finds.rest
      its = tuple_with over.spells.contents number relation listed tid finds.rest (there.1 ∙ ap (λ (b : List ℕ). Some b) there.0)

      of : IsTupleOf saved relation.name (Values its.values)
      of = over.fit.tuples relation.name tid (Values its.values) its.holds

      fields : of.fields ≡ kinds relation.fields
      fields = same_Some _ _ (sym of.defined ∙ fields_defined saved over.spells.listed over.spells.defines number relation listed)

      fit : misfit (kinds relation.fields) its.values ≡ None
      fit = (λ i. misfit (sym fields i) (same_values its.values of.values of.tuple i)) ∙ of.fit

      holds : HoldsBytes at.catalog.listing number body (tuple_bytes (kinds relation.fields) its.values)
      holds = subst (λ (b : List ℕ). HoldsBytes at.catalog.listing number b (tuple_bytes (kinds relation.fields) its.values)) (sym there.0) its.bytes

      by : (o : Option (List ℕ)) → IfSome o (IsSpelledIn at.catalog.listing number (kinds relation.fields) body)
          → (o ≡ None → (bytes : List ℕ) → IsSpelledIn at.catalog.listing number (kinds relation.fields) body bytes → ⊥)
          → ShowsTuple (fields_of tables relation.name) o (content tables.contents (Tuple relation.name tid))
      by None some none = absurd (none refl (tuple_bytes (kinds relation.fields) its.values) (record {
        holds = holds;
        spelled = (its.values, record { fit = fit; storable = its.storable; same = refl });
      }))
      by (Some bytes) some none = record {
        forms = kinds relation.fields;
        values = its.values;
        defined = fields_now;
        spells = record { fit = fit; storable = its.storable; same = one_bytes some.holds holds };
        is = unsaid unsaid_of ∙ its.holds;
      }

-- ---- what is answered

module _ (at : AccessView) (draft : DraftView) (number : ℕ) (relation : RelationEntry) (listed : relation_at at.catalog.listing number ≡ Some relation) (tid : Tid) (values : Option (List ℕ)) (found : Bool) where
  -- of the relation that has the number
  of_listed : ((saved tables : Tables) → StandsOver at draft saved tables → (found ≡ true) ↔ ShowsTuple (fields_of tables relation.name) values (content tables.contents (Tuple relation.name tid)))
      → IsTupleNow at draft number tid values found
  of_listed so saved tables over entry its =
      subst (λ (r : RelationEntry). (found ≡ true) ↔ ShowsTuple (fields_of tables r.name) values (content tables.contents (Tuple r.name tid))) (same_Some _ _ (sym listed ∙ its)) (so saved tables over)

  pub tuple_said : (now : Option (List ℕ)) → draft.tuples relation.name tid ≡ Some now → ((found ≡ true) ↔ (now ≡ values)) → IsTupleNow at draft number tid values found
  tuple_said now is same = of_listed (λ saved tables over. shows_same (fields_of tables relation.name) now values _ found (said_shows over number relation listed tid now is) same)

  pub tuple_absent : draft.tuples relation.name tid ≡ None → (IsTold at.pages.disk → FindsBody relation.segment number tid at.pages false []) → ((found ≡ true) ↔ (None ≡ values)) → IsTupleNow at draft number tid values found
  tuple_absent is finds same = of_listed (λ saved tables over.
      shows_same (fields_of tables relation.name) None values _ found (unsaid over number relation listed tid is ∙ none_saved over number relation listed tid (finds over.told)) same)

  pub tuple_stored : draft.tuples relation.name tid ≡ None → (body : List ℕ) → (IsTold at.pages.disk → FindsBody relation.segment number tid at.pages true body)
      → (stored : Option (List ℕ)) → IfSome stored (IsSpelledIn at.catalog.listing number (kinds relation.fields) body)
      → (stored ≡ None → (bytes : List ℕ) → IsSpelledIn at.catalog.listing number (kinds relation.fields) body bytes → ⊥)
      → ((found ≡ true) ↔ (stored ≡ values)) → IsTupleNow at draft number tid values found
  tuple_stored is body finds stored some none same = of_listed (λ saved tables over.
      shows_same (fields_of tables relation.name) stored values _ found (stored_shows over number relation listed tid is body (finds over.told) stored some none) same)

-- ---- whether there is one

module _ (at : AccessView) (draft : DraftView) (number : ℕ) (relation : RelationEntry) (listed : relation_at at.catalog.listing number ≡ Some relation) (tid : Tid) where
  pub there_said : (now : Option (List ℕ)) → draft.tuples relation.name tid ≡ Some now → IsThereNow at draft number tid (is_some now)
  there_said now is saved tables over entry its =
      shown_there (fields_of tables relation.name) now _ (said_shows over number relation listed tid now is)
      ∙ ap (λ (r : RelationEntry). is_there tables.contents r.name tid) (same_Some _ _ (sym listed ∙ its))

  pub there_saved : at.pages.slots < 2 ^ 32 → draft.tuples relation.name tid ≡ None → (found : Bool) → FindsTuple (members at) number tid found → IsThereNow at draft number tid found
  there_saved small is found finds saved tables over entry its =
      finds over.told saved entry (members_of at small over.spells over.fit.tuples over.fit.links over.fit.tids) its
      ∙ sym (ap is_some (ap (λ (r : RelationEntry). content tables.contents (Tuple r.name tid)) (sym (same_Some _ _ (sym listed ∙ its)))
      ∙ unsaid over number relation listed tid is
      ∙ ap (λ (r : RelationEntry). content saved.contents (Tuple r.name tid)) (same_Some _ _ (sym listed ∙ its))))

-- ---- bytes that are lent

pub copied_none : {X : Type 0} (lent : Option (Bor X)) → option_copied lent ≡ None → lent ≡ None
copied_none None is = refl
copied_none (Some x) is = absurd (cc (is))

pub copied_some : {X : Type 0} (lent : Option (Bor X)) → is_some (option_copied lent) ≡ is_some lent
copied_some None = refl
copied_some (Some x) = refl

pub none_same : {X : Type 0} (other : Option (Bor X)) (none : Bool) → is_some other ≡ not none → (none ≡ true) ↔ (◌≡◌ {A = Option X} None (option_copied other))
none_same None none is = ((λ yes. refl), (λ same. is_not none (sym is)))
  where
    is_not : (b : Bool) → not b ≡ false → b ≡ true
    is_not true off = refl
    is_not false off = absurd (cc (off))
none_same (Some x) none is = ((λ yes. absurd (cc (is, yes))), (λ same. none_some same))

pub bytes_same : (one other : List ℕ) (same : Bool) → same ≡ pointwise eqb one other → (same ≡ true) ↔ (◌≡◌ {A = Option (List ℕ)} (Some one) (Some other))
bytes_same one other same is = (
  (λ yes. ap (λ (bytes : List ℕ). Some bytes) (same_bytes one other (sym is ∙ yes))),
  (λ so. by_test same (λ yes. yes) (λ no. absurd (other_bytes one other (sym is ∙ no) (same_Some one other so)))),
)
