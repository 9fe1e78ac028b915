-- Whether other relations of a segment have a tuple with an identifier.
use Rattle.std.proofs.Common.{◌≡◌, ◌≢◌, inl, inr, ℕ, ◌+◌, ◌<◌, Bool, true, false, refl, sym, ◌∙◌, ap, subst, arith}
use Rattle.std.specs.Prelude.{◌↔◌, Option, Some, None, is_some, option_map}
use Rattle.std.proofs.lemmas.Option.{same_Some}
use Rattle.std.proofs.lemmas.Bool.{cases_eq}
use Rattle.rss_base.specs.Listings.{Listing, segment_at, relation_at}
use Rattle.rss_base.specs.declared.name.Name.{Name}
use Rattle.rss_base.specs.declared.tid.Tid.{Tid}
use Rattle.rss_base.specs.declared.relation.RelationEntry.{RelationEntry}
use Rattle.rss_model.specs.Tables.{Tables, segment_of}
use Rattle.rss_model.specs.Chains.{is_there}
use Rattle.rss_model.specs.Fits.{Fits}
use Rattle.rss_model.proofs.LogLists.{false_true, none_some, some_of}
use Rattle.rss_stored.specs.Store.{Defines}
use Rattle.rss_stored.proofs.Listed.{listed, stands_within, number_within}
use Rattle.rss_stored.proofs.Relisted.{number_of}
use Rattle.rss_stored.proofs.Spelled.{named_relation}
use Rattle.rss_access.specs.Changes.{AccessView}
use Rattle.rss_draft.specs.Views.{DraftView}
use Rattle.rss_draft.specs.Fitting.{IsLone}
use Rattle.rss_draft.specs.Looks.{StandsOver}
use Rattle.rss_draft.specs.FitLooks.{IsOtherIn, IsInOther}

-- ---- another relation

module _ {listing : Listing} {number other : ℕ} where
  pub other_itself : other ≡ number → (false ≡ true) ↔ IsOtherIn listing number other
  other_itself same = ((λ so. absurd (cc (so))), (λ o. absurd (o.apart same)))

  pub other_unused : is_some (relation_at listing other) ≡ false → (false ≡ true) ↔ IsOtherIn listing number other
  other_unused off = ((λ so. absurd (cc (so))), (λ o. false_true (ap is_some o.its) off))

  pub other_decides : (relation entry : RelationEntry) → relation_at listing number ≡ Some relation → relation_at listing other ≡ Some entry → other ≢ number → (same : Bool) → ((same ≡ true) ↔ (entry.segment ≡ relation.segment)) → (same ≡ true) ↔ IsOtherIn listing number other
  other_decides relation entry at its apart same decides = (
    (λ so. record { relation = relation; entry = entry; at = at; its = its; apart = apart; within = decides.0 so }),
    (λ o. decides.1 (ap (λ (r : RelationEntry). r.segment) (same_Some _ _ (sym its ∙ o.its)) ∙ o.within ∙ ap (λ (r : RelationEntry). r.segment) (same_Some _ _ (sym o.at ∙ at)))),
  )

  -- with a tuple
  pub in_none_other : {tables : Tables} {tid : Tid} (is : Bool) → ((is ≡ true) ↔ IsOtherIn listing number other) → is ≡ false → (false ≡ true) ↔ IsInOther listing tables number tid other
  in_none_other is decides off = ((λ so. absurd (cc (so))), (λ o. false_true (decides.1 o.is) off))

  pub in_decides : {tables : Tables} {tid : Tid} (is : Bool) → ((is ≡ true) ↔ IsOtherIn listing number other) → is ≡ true → (found : Bool) → ((entry : RelationEntry) → relation_at listing other ≡ Some entry → found ≡ is_there tables.contents entry.name tid) → (found ≡ true) ↔ IsInOther listing tables number tid other
  in_decides is decides on found there =
      let o = decides.0 on in (
        (λ so. record { is = o; there = sym (there o.entry o.its) ∙ so }),
        (λ i. there i.is.entry i.is.its ∙ i.there),
      )

-- ---- all of them

-- nothing has the number 0
pub none_zero : {listing : Listing} {tables : Tables} {number : ℕ} {tid : Tid} (k : ℕ) → k < 0 + 1 → IsInOther listing tables number tid k → ⊥
none_zero {listing = listing} k low i = none_some (sym (ap (relation_at listing) (zero_is k low)) ∙ i.is.its)
  where
    zero_is : (k : ℕ) → k < 0 + 1 → k ≡ 0
    zero_is k low = omega (arith, low)

module _ {at : AccessView} {draft : DraftView} {saved tables : Tables} (over : StandsOver at draft saved tables) (fit : Fits at.pages.slots tables) (number : ℕ) (relation : RelationEntry) (at_number : relation_at at.catalog.listing number ≡ Some relation) (tid : Tid) where
  defines : Defines at.catalog.listing tables.definitions
  defines = subst (Defines at.catalog.listing) (sym over.is.definitions) over.spells.defines

  segment_is : (k : ℕ) (entry : RelationEntry) → relation_at at.catalog.listing k ≡ Some entry → (segment : Name) × (segment_at at.catalog.listing entry.segment ≡ Some segment) × (segment_of tables entry.name ≡ Some segment)
  segment_is k entry its =
      let so = listed over.spells.listed defines k entry its in
      (so.0, so.1.within, stands_within tables over.spells.listed defines k entry its so.0 so.1.within)

  pub not_lone : (k : ℕ) → IsInOther at.catalog.listing tables number tid k → IsLone tables relation.name tid → ⊥
  not_lone k i lone =
      let o = i.is in
      let mine = segment_is number relation at_number in
      let its = segment_is k o.entry o.its in
      let same : o.relation ≡ relation = same_Some _ _ (sym o.at ∙ at_number) in
      let segment : Some its.0 ≡ Some mine.0 = sym its.1 ∙ ap (segment_at at.catalog.listing) (o.within ∙ ap (λ (r : RelationEntry). r.segment) same) ∙ mine.1 in
      let name : o.entry.name ≡ relation.name = lone o.entry.name (its.2 ∙ segment ∙ sym mine.2) i.there in
      o.apart (over.spells.listed.relations_once k number relation.name (number_of at.catalog.listing k o.entry o.its ∙ ap (λ (n : Name). Some n) name) (number_of at.catalog.listing number relation at_number))

  pub lone_of : ((k : ℕ) → IsInOther at.catalog.listing tables number tid k → ⊥) → IsLone tables relation.name tid
  lone_of none other segment live =
      let held = some_of _ live in
      let of = fit.tuples other tid held.0 held.1 in
      let has = named_relation at.catalog.listing other (defines.only_relations other (some_mapped _ _ _ of.defined)) in
      let mine = segment_is number relation at_number in
      let its : segment_of tables has.relation.name ≡ Some mine.0 = ap (segment_of tables) has.named ∙ segment ∙ mine.2 in
      elim (cases_eq has.number number) [
        | inl same ↦ sym has.named ∙ ap (λ (r : RelationEntry). r.name) (same_Some _ _ (sym has.at ∙ ap (relation_at at.catalog.listing) same ∙ at_number))
        | inr apart ↦ absurd (none has.number (record {
          is = record {
            relation = relation;
            entry = has.relation;
            at = at_number;
            its = has.at;
            apart = apart;
            within = number_within tables over.spells.listed defines has.number has.relation has.at relation.segment mine.0 mine.1 its;
          };
          there = ap (λ (n : Name). is_there tables.contents n tid) has.named ∙ live;
        }))
      ]
    where
      some_mapped : {A B : Type 0} (f : A → B) (o : Option A) (b : B) → option_map f o ≡ Some b → is_some o ≡ true
      some_mapped f None b is = none_some is
      some_mapped f (Some a) b is = refl
