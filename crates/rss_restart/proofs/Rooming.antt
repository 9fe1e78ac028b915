-- Room for the changes that are still to be made, with the images of their relations.
use Rattle.std.proofs.Common.{◌≡◌, ◌⊎◌, inl, inr, ℕ, ◌+◌, ◌≤◌, List, [], ◌∷◌, refl, sym, ◌∙◌, ap, arith}
use Rattle.std.specs.Prelude.{Bool, true, false, if◌then◌else◌, ◌==◌, Option, Some, None, option_map, unwrap_or, sum_by, map}
use Rattle.std.proofs.lemmas.Bool.{cases_eq, eqb-true}
use Rattle.std.proofs.lemmas.List.Sums.{sum_by-cons, sum_by-le-sum_by}
use Rattle.rss_base.specs.TupleTypes.{kinds, chosen, key_width}
use Rattle.rss_base.specs.Listings.{Listing, relation_at, field_numbers}
use Rattle.rss_base.specs.declared.name.Name.{Name}
use Rattle.rss_base.specs.declared.field.FieldDef.{FieldDef}
use Rattle.rss_base.specs.declared.image.ImageEntry.{ImageEntry}
use Rattle.rss_base.specs.declared.relation.RelationEntry.{RelationEntry}
use Rattle.rss_base.specs.declared.change.Change as told
use Rattle.rss_base.specs.declared.change.Change.TheVariants.{Insert, Delete, Update, Connect, Disconnect}
use Rattle.rss_catalog.specs.Catalogs.{CatalogView}
use Rattle.rss_model.specs.Meanings.{rootless}
use Rattle.rss_model.specs.Meter.{bound_of}
use Rattle.rss_model.specs.Spares.{bound_by, bound_at, listed_bound}
use Rattle.rss_model.proofs.Saving.{more_bound}
use Rattle.rss_entries.specs.Rooms.{image_places}
use Rattle.rss_entries.proofs.Rooms.{room_within}
use Rattle.rss_access.specs.Told.{IsTupleRecord, number_told}
use Rattle.rss_access.specs.Changes.{AccessView, HasRoom}
use Rattle.rss_access.specs.Relisted.{Relists}
use Rattle.rss_access.proofs.Relisting.{WasCounted, relists_at}
use Rattle.rss_restart.specs.Restarting.{entries_with}

-- ---- how many entries may come

pub entries_are : (listing : Listing) (changes : Name → ℕ) (n : ℕ) (relation : RelationEntry) → relation_at listing n ≡ Some relation → entries_with listing changes n ≡ relation.live + changes relation.name
entries_are listing changes n relation at = ap (λ (o : Option RelationEntry). unwrap_or (option_map (λ r. r.live + changes r.name) o) 0) at

-- there is room for a change that is one of those to come
pub has_room : (at : AccessView) (number : ℕ) (changes : Name → ℕ) → ((relation : RelationEntry) → relation_at at.catalog.listing number ≡ Some relation → 1 ≤ changes relation.name) → 2 + listed_bound at.catalog.listing (entries_with at.catalog.listing changes) ≤ image_places at.pages → HasRoom at number
has_room at number changes some room =
    let listing : Listing = at.catalog.listing in
    let more = room_within listing number (entries_with listing changes) (λ n relation is.
    one_more n number relation.live (changes relation.name) (entries_with listing changes n)
    (λ here. some relation (ap (relation_at listing) (sym (eqb-true n number here)) ∙ is))
    (entries_are listing changes n relation is)) in
    omega (arith, more, room)
  where
    one_if_so : (b : Bool) (live more all : ℕ) → (b ≡ true → 1 ≤ more) → all ≡ live + more → (if b then live + 1 else live) ≤ all
    one_if_so true live more all some is = omega (arith, some refl, is)
    one_if_so false live more all some is = omega (arith, is)

    one_more : (n number live more all : ℕ) → ((n == number) ≡ true → 1 ≤ more) → all ≡ live + more → (if n == number then live + 1 else live) ≤ all
    one_more n number live more all some is = one_if_so (n == number) live more all some is

-- ---- listings in which trees begin elsewhere

module _ (listing : Listing) (entries : ℕ → ℕ) where
  rootless_bound : (image : ImageEntry) (found : Option RelationEntry) → bound_by entries (rootless image) found ≡ bound_by entries image found
  rootless_bound image None = refl
  rootless_bound image (Some relation) = refl

  pub rootless_bounds : (images : List (Option ImageEntry)) → sum_by (bound_at listing entries) (map (option_map rootless) images) ≡ sum_by (bound_at listing entries) images
  rootless_bounds [] = refl
  rootless_bounds (None ∷ images) = omega (arith, rootless_bounds images, sum_by-cons (bound_at listing entries) None images, sum_by-cons (bound_at listing entries) None (map (option_map rootless) images))
  rootless_bounds (Some image ∷ images) = omega (
    arith,
    rootless_bounds images,
    rootless_bound image (relation_at listing image.relation),
    sum_by-cons (bound_at listing entries) (Some image) images,
    sum_by-cons (bound_at listing entries) (Some (rootless image)) (map (option_map rootless) images),
  )

-- a relation was listed with the same fields, and its images had as many entries at least
record HadMore (old : Listing) (number few many : ℕ) (fields : List FieldDef) : Type 0 where
  was : RelationEntry
  at : relation_at old number ≡ Some was
  same : was.fields ≡ fields
  less : few ≤ many

bounds_less : (old new : Listing) (before after : ℕ → ℕ) → map (option_map rootless) new.images ≡ map (option_map rootless) old.images → ((n : ℕ) (relation : RelationEntry) → relation_at new n ≡ Some relation → HadMore old n (after n) (before n) relation.fields) → listed_bound new after ≤ listed_bound old before
bounds_less old new before after images had =
    let less = sum_by-le-sum_by (bound_at new after) (bound_at old before) new.images one in
    omega (arith, less, rootless_bounds old before new.images, rootless_bounds old before old.images, ap (sum_by (bound_at old before)) images)
  where
    one : (found : Option ImageEntry) → bound_at new after found ≤ bound_at old before found
    one None = omega arith
    one (Some image) = by (relation_at new image.relation) refl
      where
        by : (found : Option RelationEntry) → relation_at new image.relation ≡ found → bound_by after image found ≤ bound_by before image (relation_at old image.relation)
        by None is = omega arith
        by (Some relation) is =
            let its = had image.relation relation is in
            let width : List FieldDef → ℕ = λ fields. key_width (kinds (chosen (field_numbers image) fields)) in
            let more = more_bound (width relation.fields) (after image.relation) (before image.relation) its.less in
            omega (arith, more, ap (bound_by before image) its.at, ap (λ (fields : List FieldDef). bound_of (width fields) (before image.relation)) its.same)

-- ---- one change is made, and one fewer is to come

tuple_or_chain : (change : told.Change) → IsTupleRecord change ⊎ (IsTupleRecord change → ⊥)
tuple_or_chain (Insert number tid values) = inl tt
tuple_or_chain (Delete number tid values) = inl tt
tuple_or_chain (Update number tid from to) = inl tt
tuple_or_chain (Connect link parent child left) = inr (λ tuple. tuple)
tuple_or_chain (Disconnect link parent child left) = inr (λ tuple. tuple)

module _ {change : told.Change} {old new : CatalogView} (relists : Relists change old new) (before after : Name → ℕ) (fewer : (name : Name) → after name ≤ before name)
    (one : IsTupleRecord change → (relation : RelationEntry) → relation_at old.listing (number_told change) ≡ Some relation → 1 + after relation.name ≤ before relation.name) where
  less_by : (n : ℕ) (now : RelationEntry) (was : WasCounted change old.listing n now) → now.live + after was.was.name ≤ was.was.live + before was.was.name
  less_by n now was = elim (tuple_or_chain change) [
    | inl tuple ↦ elim (cases_eq n (number_told change)) [
      | inl here ↦ omega (arith, was.few, one tuple was.was (ap (relation_at old.listing) (sym here) ∙ was.at))
      | inr other ↦ kept (was.same (λ is here. other here))
    ]
    | inr chain ↦ kept (was.same (λ tuple here. chain tuple))
  ]
    where
      kept : now ≡ was.was → now.live + after was.was.name ≤ was.was.live + before was.was.name
      kept same = omega (arith, ap (λ (r : RelationEntry). r.live) same, fewer was.was.name)

  still : (n : ℕ) (now : RelationEntry) → relation_at new.listing n ≡ Some now → HadMore old.listing n (entries_with new.listing after n) (entries_with old.listing before n) now.fields
  still n now is =
      let was = relists_at relists n now is in
      record {
        was = was.was;
        at = was.at;
        same = sym (ap (λ (r : RelationEntry). r.fields) was.is);
        less = omega (arith, less_by n now was, entries_are new.listing after n now is, entries_are old.listing before n was.was was.at, ap (λ (r : RelationEntry). after r.name) was.is);
      }

  -- images may come to have no more pages than before
  pub bound_left : listed_bound new.listing (entries_with new.listing after) ≤ listed_bound old.listing (entries_with old.listing before)
  bound_left = bounds_less old.listing new.listing (entries_with old.listing before) (entries_with new.listing after) relists.images still
