-- What a scan finds: a number that is free where it is opened, and the tuple of what it gives next.
use Rattle.std.proofs.Common.{◌≡◌, ◌⊎◌, inl, inr, ℕ, zero, suc, ◌<◌, ◌≤◌, true, false, List, [], ◌∷◌, refl, sym, ◌∙◌, ap, subst, arith}
use Rattle.std.specs.Prelude.{Option, Some, None, is_some, option_map, unwrap_or, nat_le, slice_get}
use Rattle.std.specs.Ordering.{nat_cmp}
use Rattle.std.specs.FinMap as map
use Rattle.std.specs.FinMap.{FinMap}
use Rattle.std.proofs.lemmas.Bool.{cases_eq, leb-false}
use Rattle.std.proofs.lemmas.Option.{same_Some}
use Rattle.rss_base.specs.Prefixes.{is_tid}
use Rattle.rss_base.specs.declared.name.Name.{Name}
use Rattle.rss_base.specs.declared.tid.Tid.{Tid}
use Rattle.rss_base.specs.declared.value.Value.{Value}
use Rattle.rss_base.specs.declared.item.Item.TheVariants.{Tuple, Chain}
use Rattle.rss_model.specs.Items.{Content}
use Rattle.rss_model.specs.Tables.{ImageDef, LinkDef, content}
use Rattle.rss_model.specs.Chains.{tuples_in, chain, next_of, is_there}
use Rattle.rss_model.specs.Images.{Entry, entry, image_list, next_entry}
use Rattle.rss_model.specs.Kept.{Kept}
use Rattle.rss_model.specs.Machine.{State, now}
use Rattle.rss_model.specs.Scans.{Path, RelationPath, ImagePath, LinkPath, Scan, next_in_chain, next_along, next_of_scan, path_relation}
use Rattle.rss_model.specs.Steps.{HasValues, GivesNext}
use Rattle.rss_model.proofs.EndKeeping.{remove_other, len_less}
use Rattle.rss_model.proofs.LogLists.{by_test, none_some, some_of}
use Rattle.rss_model.proofs.Mixing.{In, each_of}
use Rattle.rss_model.proofs.RelationLists.{entry_there, next_in}
use Rattle.rss_model.proofs.StepKeeping.{kept_fit}

-- a tuple that is there has values
pub the_values : {state : State} → Kept state → (relation : Name) (tid : Tid) → is_some (content (now state).contents (Tuple relation tid)) ≡ true → (values : List Value) × HasValues state relation tid values
the_values {state = state} kept relation tid lives =
    let some = some_of _ lives in
    let of = (kept_fit state kept).1.tuples relation tid some.0 some.1 in
    (of.values, some.1 ∙ ap Some of.tuple)

-- ---- a number that is free

module _ {V : Type 0} where
  -- a number below this one is free, or all are in use
  free_or_used : (m : FinMap nat_cmp V) (n : ℕ) → ((k : ℕ) × (k < n) × (map.get m k ≡ None)) ⊎ ((k : ℕ) → k < n → is_some (map.get m k) ≡ true)
  free_or_used m zero = inr (λ k low. absurd (omega (arith, low)))
  free_or_used m (suc n) = elim (free_or_used m n) [
    | inl free ↦ inl (free.0, omega (arith, free.1), free.2)
    | inr used ↦ here used (map.get m n) refl
  ]
    where
      here : ((k : ℕ) → k < n → is_some (map.get m k) ≡ true) → (o : Option V) → map.get m n ≡ o → ((k : ℕ) × (k < suc n) × (map.get m k ≡ None)) ⊎ ((k : ℕ) → k < suc n → is_some (map.get m k) ≡ true)
      here used None is = inl (n, omega arith, is)
      here used (Some v) is = inr (λ k low. elim (cases_eq k n) [
        | inl same ↦ ap (λ (j : ℕ). is_some (map.get m j)) same ∙ ap is_some is
        | inr other ↦ used k (omega (arith, low, other))
      ])

  as_many_used : (n : ℕ) (m : FinMap nat_cmp V) → ((k : ℕ) → k < n → is_some (map.get m k) ≡ true) → n ≤ map.len m
  as_many_used zero m used = omega arith
  as_many_used (suc n) m used =
      let last = some_of (map.get m n) (used n (omega arith)) in
      let rest = as_many_used n (map.remove m n) (λ k low. ap is_some (remove_other m n k (λ same. absurd (omega (arith, low, same)))) ∙ used k (omega (arith, low))) in
      omega (arith, rest, len_less m n last.0 last.1)

  pub free_below : (m : FinMap nat_cmp V) (n : ℕ) → nat_le n (map.len m) ≡ false → (k : ℕ) × (k < n) × (map.get m k ≡ None)
  free_below m n few = elim (free_or_used m n) [
    | inl free ↦ free
    | inr used ↦ absurd (omega (arith, as_many_used n m used, leb-false n (map.len m) few))
  ]

-- ---- what a scan gives next

-- the first of a chain, or the one behind another, is one of its tuples
next_one : (tids : List Tid) (last : Option Entry) (tid : Tid) → next_in_chain tids last ≡ Some tid → In tid tids
next_one [] None tid is = none_some is
next_one (one ∷ tids) None tid is = inl (same_Some _ _ is)
next_one tids (Some given) tid is = behind tids is
  where
    first : (tids : List Tid) → slice_get tids 0 ≡ Some tid → In tid tids
    first [] is = none_some is
    first (one ∷ tids) is = inl (same_Some _ _ is)

    behind : (tids : List Tid) → next_of given.tid tids ≡ Some tid → In tid tids
    behind [] is = none_some is
    behind (one ∷ tids) is = by_test (is_tid one given.tid)
        (λ t. inr (first tids (rw t at is)))
        (λ t. inr (behind tids (rw t at is)))

-- it is a tuple of the path's relation
record TupleNext (state : State) (path : Path) (tid : Tid) : Type 0 where
  relation : Name
  values : List Value
  along : path_relation state.base path ≡ Some relation
  has : HasValues state relation tid values

module _ {state : State} (kept : Kept state) where
  -- a tuple of a chain
  member_there : (link : Name) (parent : Option Tid) (definition : LinkDef) (tid : Tid) → map.get state.base.definitions.links link ≡ Some definition → In tid (chain (now state).contents link parent) → is_there (now state).contents definition.child tid ≡ true
  member_there link parent definition tid defined is = by (content (now state).contents (Chain link parent)) refl
    where
      by : (held : Option Content) → content (now state).contents (Chain link parent) ≡ held → is_there (now state).contents definition.child tid ≡ true
      by None none = absurd (subst (λ (o : Option Content). In tid (tuples_in o)) none is)
      by (Some held) some =
          let of = (kept_fit state kept).1.links.chains link parent held some in
          let one : of.definition ≡ definition = same_Some _ _ (sym of.defined ∙ defined) in
          subst (λ (d : LinkDef). is_there (now state).contents d.child tid ≡ true) one
          (each_of (λ (t : Tid). is_there (now state).contents of.definition.child t ≡ true) of.tids of.members tid (subst (λ (o : Option Content). In tid (tuples_in o)) (some ∙ ap Some of.is) is))

  tuple_next : (path : Path) (last : Option Entry) (given : Entry) → is_some (path_relation state.base path) ≡ true → next_along (now state) path last ≡ Some given → TupleNext state path given.tid
  tuple_next (RelationPath relation) last given defined is =
      let its = entry_there (now state) relation [] given (next_in None last _ given is) in
      record { relation = relation; values = its.0; along = refl; has = its.1 }
  tuple_next (ImagePath image start) last given defined is = by (map.get state.base.definitions.images image) refl
    where
      by : (held : Option ImageDef) → map.get state.base.definitions.images image ≡ held → TupleNext state (ImagePath image start) given.tid
      by None none = absurd (next_in start last [] given (ap (λ (o : Option ImageDef). next_entry start last (unwrap_or (option_map (image_list (now state)) o) [])) (sym none) ∙ is))
      by (Some d) some =
          let its = entry_there (now state) d.relation d.fields given (next_in start last (image_list (now state) d) given (ap (λ (o : Option ImageDef). next_entry start last (unwrap_or (option_map (image_list (now state)) o) [])) (sym some) ∙ is)) in
          record { relation = d.relation; values = its.0; along = ap (option_map (λ (d : ImageDef). d.relation)) some; has = its.1 }
  tuple_next (LinkPath link parent) last given defined is =
      let d = some_of (map.get state.base.definitions.links link) (linked (map.get state.base.definitions.links link) defined) in
      let of = member (next_in_chain (chain (now state).contents link parent) last) refl is in
      let its = the_values kept d.0.child given.tid (member_there link parent d.0 given.tid d.1 of) in
      record { relation = d.0.child; values = its.0; along = ap (option_map (λ (d : LinkDef). d.child)) d.1; has = its.1 }
    where
      linked : (o : Option LinkDef) → is_some (option_map (λ (d : LinkDef). d.child) o) ≡ true → is_some o ≡ true
      linked None is = is
      linked (Some d) is = refl

      member : (next : Option Tid) → next_in_chain (chain (now state).contents link parent) last ≡ next → option_map (entry []) next ≡ Some given → In given.tid (chain (now state).contents link parent)
      member None next is = none_some is
      member (Some tid) next is = next_one (chain (now state).contents link parent) last given.tid (next ∙ ap (λ (e : Entry). Some e.tid) (same_Some _ _ is))

  pub next_given : (number : ℕ) (scan : Scan) (given : Entry) → map.get state.scans number ≡ Some scan → next_of_scan (now state) scan ≡ Some given → (values : List Value) × GivesNext state scan given values
  next_given number scan given has is =
      let its = tuple_next scan.path scan.last given (kept.along number scan has) is in
      (its.values, record { next = is; relation = its.relation; along = its.along; has = its.has })
