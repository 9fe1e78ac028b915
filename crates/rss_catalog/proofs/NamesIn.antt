-- The names of the relations of a segment, gathered place by place.
use Rattle.std.proofs.Common.{◌≡◌, ◌↔◌, ℕ, ◌+◌, ◌-◌, ◌<◌, ◌≤◌, List, [], ◌∷◌, ◌++◌, length, get_or, Option, Some, None, sym, ◌∙◌, ap, subst, inl, inr, arith, Contains}
use Rattle.std.proofs.lemmas.Bool.{cases_eq, cases_lt}
use Rattle.std.proofs.lemmas.Option.{none-some, same_Some}
use Rattle.std.proofs.lemmas.List.{get_or_past}
use Rattle.std.proofs.lemmas.List.Elements.{Contains-append_left, Contains-push, Contains-push_cases}
use Rattle.rss_base.specs.Listings.{Listing}
use Rattle.rss_base.specs.declared.name.Name.{Name}
use Rattle.rss_base.specs.declared.relation.RelationEntry.{RelationEntry}
use Rattle.rss_catalog.specs.Catalogs.{IsNamedIn}
use Rattle.rss_catalog.proofs.Numbered.{numbered_at, numbered_within}

-- a relation of this segment at one of the first so many places has this name
pub record IsNamedBefore (items : List (Option RelationEntry)) (segment count : ℕ) (name : Name) : Type 0 where
  pub place : ℕ
  pub relation : RelationEntry
  pub low : place < count
  pub at : get_or items place None ≡ Some relation
  pub within : relation.segment ≡ segment
  pub named : relation.name ≡ name

-- no more of them where the next place has none of the segment
pub before_others : (items : List (Option RelationEntry)) (segment count : ℕ) (name : Name) → ((relation : RelationEntry) → get_or items count None ≡ Some relation → relation.segment ≡ segment → ⊥)
    → IsNamedBefore items segment (count + 1) name → IsNamedBefore items segment count name
before_others items segment count name other before = record {
  place = before.place;
  relation = before.relation;
  low = elim (cases_eq before.place count) [
    | inl here ↦ absurd (other before.relation (ap (λ (k : ℕ). get_or items k None) (sym here) ∙ before.at) before.within)
    | inr off ↦ omega (arith, before.low)
  ];
  at = before.at;
  within = before.within;
  named = before.named;
}

later : (items : List (Option RelationEntry)) (segment count : ℕ) (name : Name) → IsNamedBefore items segment count name → IsNamedBefore items segment (count + 1) name
later items segment count name before = record { place = before.place; relation = before.relation; low = omega (arith, before.low); at = before.at; within = before.within; named = before.named }

-- a relation of a place is one of the listing
listed_before : (listing : Listing) (segment count : ℕ) (name : Name) → IsNamedBefore listing.relations segment count name → IsNamedIn listing segment name
listed_before listing segment count name before = elim (cases_lt before.place (length listing.relations)) [
  | inl low ↦ record {
    number = before.place + 1;
    relation = before.relation;
    at = numbered_at listing.relations (before.place + 1) (omega arith) (omega (arith, low)) ∙ ap (λ (k : ℕ). get_or listing.relations k None) (omega arith) ∙ before.at;
    within = before.within;
    named = before.named;
  }
  | inr past ↦ absurd (none-some before.relation (sym (get_or_past listing.relations before.place None past) ∙ before.at))
]

-- the names so far are those of the first so many places
abbrev pub AreNamesBefore : List (Option RelationEntry) → ℕ → ℕ → List Name → Type 0
AreNamesBefore items segment count names = (name : Name) → Contains names name ↔ IsNamedBefore items segment count name

pub names_none : (items : List (Option RelationEntry)) (segment : ℕ) (names : List Name) → names ≡ [] → AreNamesBefore items segment 0 names
names_none items segment names none name = (
  λ has. absurd (omega (arith, has.1, ap (λ (l : List Name). length l) none)),
  λ before. absurd (omega (arith, before.low)),
)

pub names_skip : (items : List (Option RelationEntry)) (segment count : ℕ) (names : List Name) → ((relation : RelationEntry) → get_or items count None ≡ Some relation → relation.segment ≡ segment → ⊥)
    → AreNamesBefore items segment count names → AreNamesBefore items segment (count + 1) names
names_skip items segment count names other are name = (
  λ has. later items segment count name ((are name).0 has),
  λ before. (are name).1 (before_others items segment count name other before),
)

pub names_put : (items : List (Option RelationEntry)) (segment count : ℕ) (names : List Name) (relation : RelationEntry) → get_or items count None ≡ Some relation → relation.segment ≡ segment
    → AreNamesBefore items segment count names → AreNamesBefore items segment (count + 1) (names ++ relation.name ∷ [])
names_put items segment count names relation at within are name = (
  λ has. elim (Contains-push_cases names relation.name name has) [
    | inl before ↦ later items segment count name ((are name).0 before)
    | inr here ↦ record { place = count; relation = relation; low = omega arith; at = at; within = within; named = here }
  ],
  λ before. elim (cases_eq before.place count) [
    | inl here ↦
        let same : relation ≡ before.relation = same_Some relation before.relation (sym at ∙ ap (λ (k : ℕ). get_or items k None) (sym here) ∙ before.at) in
        subst (Contains (names ++ relation.name ∷ [])) (ap (λ (r : RelationEntry). r.name) same ∙ before.named) (Contains-push names relation.name)
    | inr off ↦ Contains-append_left names (relation.name ∷ []) name ((are name).1 (record { place = before.place; relation = before.relation; low = omega (arith, before.low); at = before.at; within = before.within; named = before.named }))
  ],
)

-- those of all places are those of the listing
pub names_all : (listing : Listing) (segment count : ℕ) (names : List Name) → length listing.relations ≤ count → AreNamesBefore listing.relations segment count names
    → (name : Name) → Contains names name ↔ IsNamedIn listing segment name
names_all listing segment count names all are name = (
  λ has. listed_before listing segment count name ((are name).0 has),
  λ named.
      let within = numbered_within listing.relations named.number named.relation named.at in
      (are name).1 (record {
        place = named.number - 1;
        relation = named.relation;
        low = omega (arith, within.0, within.1, all);
        at = sym (numbered_at listing.relations named.number within.0 within.1) ∙ named.at;
        within = named.within;
        named = named.named;
      }),
)
