-- The relations of a segment: those that the catalog lists are those of the machine, and what others hold in them is free to nobody.
use Rattle.std.proofs.Common.{◌≡◌, ◌↔◌, inl, inr, ℕ, true, false, List, [], ◌∷◌, refl, sym, ◌∙◌, ap, subst, Contains}
use Rattle.std.specs.Prelude.{Bool, Option, Some, filter, option_map, unwrap_or, ◌||◌}
use Rattle.std.specs.FinMap as map
use Rattle.std.specs.List.{list_any}
use Rattle.std.specs.Ordering.{eq_by_cmp}
use Rattle.std.specs.Cmp.{Equal-is}
use Rattle.std.proofs.lemmas.Bool.{cases_Bool, cond-true, cond-false, or_cases}
use Rattle.std.proofs.lemmas.List.Folds.{list_any_at, Any-from_list_any}
use Rattle.rss_base.specs.Listings.{relation_at, segment_at}
use Rattle.rss_base.specs.declared.name.Name.{Name}
use Rattle.rss_base.specs.declared.relation.RelationEntry.{RelationEntry}
use Rattle.rss_catalog.specs.Catalogs.{IsNamedIn}
use Rattle.rss_model.specs.Items.{name_cmp}
use Rattle.rss_model.specs.Machine.{State, now}
use Rattle.rss_model.specs.Meter.{is_in_segment, relations_in}
use Rattle.rss_model.specs.Steps.{relations_beside}
use Rattle.rss_model.specs.Tables.{segment_of}
use Rattle.rss_model.proofs.Codes.{name_apart}
use Rattle.rss_model.proofs.HeapPages.{same_bool}
use Rattle.rss_model.proofs.Frees.{in_segment, stands_in, is_listed, stands_defined}
use Rattle.rss_stored.proofs.Listed.{listed, number_within}
use Rattle.rss_access.proofs.Numbered.{entry_at}
use Rattle.rss_session.specs.Sessions.{SessionView}
use Rattle.rss_session.specs.Shown.{Shows}
use Rattle.rss_rsi.proofs.Needs.{segment_shown}

-- ---- tests of lists

-- what one of a filtered list passes
any_kept : {A : Type 0} (keep test : A → Bool) (list : List A) → list_any test (filter keep list) ≡ true → (a : A) × (keep a ≡ true) × (test a ≡ true)
any_kept keep test [] any = absurd (cc)
any_kept keep test (a ∷ list) any = elim (cases_Bool (keep a)) [
  | inl on ↦ elim (or_cases (test a) (list_any test (filter keep list)) (ap (list_any test) (sym (cond-true (keep a) (a ∷ filter keep list) (filter keep list) on)) ∙ any)) [
    | inl here ↦ (a, on, here)
    | inr later ↦ any_kept keep test list later
  ]
  | inr off ↦ any_kept keep test list (ap (list_any test) (sym (cond-false (keep a) (a ∷ filter keep list) (filter keep list) off)) ∙ any)
]

or_right : (a b : Bool) → b ≡ true → a || b ≡ true
or_right true b is = refl
or_right false b is = is

-- a name of the list that is kept, and passes
any_filtered : (keep test : Name → Bool) (list : List Name) (name : Name) → list_any (eq_by_cmp name_cmp name) list ≡ true → keep name ≡ true → test name ≡ true → list_any test (filter keep list) ≡ true
any_filtered keep test [] name there kept passes = absurd (cc)
any_filtered keep test (k ∷ list) name there kept passes = elim (or_cases (eq_by_cmp name_cmp name k) (list_any (eq_by_cmp name_cmp name) list) there) [
  | inl same ↦
      let here : name ≡ k = name_apart name k ((Equal-is (name_cmp name k)).0 same) in
      ap (list_any test) (cond-true (keep k) (k ∷ filter keep list) (filter keep list) (ap keep (sym here) ∙ kept))
      ∙ ap (λ (b : Bool). b || list_any test (filter keep list)) (ap test (sym here) ∙ passes)
  | inr later ↦
      let rest = any_filtered keep test list name later kept passes in
      elim (cases_Bool (keep k)) [
        | inl on ↦ ap (list_any test) (cond-true (keep k) (k ∷ filter keep list) (filter keep list) on) ∙ or_right (test k) (list_any test (filter keep list)) rest
        | inr off ↦ ap (list_any test) (cond-false (keep k) (k ∷ filter keep list) (filter keep list) off) ∙ rest
      ]
]

-- ---- the relations of a segment

module _ {view : SessionView} {state : State} (shows : Shows view state) (number : ℕ) {entry : RelationEntry} (at : relation_at view.store.catalog.listing number ≡ Some entry) where
  -- its segment, by name
  segment : (name : Name) × (segment_at view.store.catalog.listing entry.segment ≡ Some name)
  segment = let so = listed shows.store.spells.listed shows.store.spells.defines number entry at in (so.0, so.1.within)

  stands : segment_of state.base entry.name ≡ Some segment.0
  stands = segment_shown shows number entry at ∙ segment.1

  -- what the catalog lists there stands there
  pub listed_stands : (name : Name) → IsNamedIn view.store.catalog.listing entry.segment name → segment_of state.base name ≡ segment_of state.base entry.name
  listed_stands name named =
      ap (segment_of state.base) (sym named.named) ∙ segment_shown shows named.number named.relation named.at
      ∙ ap (segment_at view.store.catalog.listing) named.within ∙ sym (segment_shown shows number entry at)

  -- and what stands there is listed
  pub stands_listed : (name : Name) → segment_of state.base name ≡ segment_of state.base entry.name → IsNamedIn view.store.catalog.listing entry.segment name
  stands_listed name same =
      let in_it : segment_of state.base name ≡ Some segment.0 = same ∙ stands in
      let has = shows.store.spells.defines.only_relations name (stands_defined state.base segment.0 name in_it) in
      let other = entry_at view.store.catalog.listing name has.0 has.1 in
      record {
        number = has.0;
        relation = other.entry;
        at = other.at;
        within = number_within (now state) shows.store.spells.listed shows.store.spells.defines has.0 other.entry other.at entry.segment segment.0 segment.1 (ap (segment_of state.base) other.named ∙ in_it);
        named = other.named;
      }

  beside_is : relations_beside state entry.name ≡ relations_in state.base segment.0
  beside_is = ap (λ (o : Option Name). unwrap_or (option_map (relations_in state.base) o) []) stands

  module _ (names : List Name) (each : (name : Name) → Contains names name ↔ IsNamedIn view.store.catalog.listing entry.segment name) (test : Name → Bool) where
    forth : list_any test names ≡ true → list_any test (relations_beside state entry.name) ≡ true
    forth any =
        let some = Any-from_list_any test names any in
        let stood = listed_stands some.1 ((each some.1).0 (some.0, some.2, some.3)) ∙ stands in
        ap (list_any test) beside_is ∙ any_filtered (is_in_segment state.base segment.0) test (map.keys state.base.definitions.relations) some.1 (is_listed state.base segment.0 some.1 stood) (stands_in state.base segment.0 some.1 stood) some.4

    back : list_any test (relations_beside state entry.name) ≡ true → list_any test names ≡ true
    back any =
        let kept = any_kept (is_in_segment state.base segment.0) test (map.keys state.base.definitions.relations) (subst (λ (list : List Name). list_any test list ≡ true) beside_is any) in
        let has = (each kept.0).1 (stands_listed kept.0 (in_segment state.base segment.0 kept.0 kept.1 ∙ sym stands)) in
        list_any_at test names has.0 kept.0 has.1 (ap test has.2 ∙ kept.2)

    -- so some of the one pass a test where some of the other do
    pub any_beside : list_any test names ≡ list_any test (relations_beside state entry.name)
    any_beside = same_bool (list_any test names) (list_any test (relations_beside state entry.name)) forth back
