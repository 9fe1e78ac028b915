-- What the tests of a definition say, by the numbers of a listing.
use Rattle.std.proofs.Common.{◌≡◌, ℕ, zero, suc, ◌<◌, ◌≤◌, true, false, List, [], ◌∷◌, length, get_or, refl, sym, ◌∙◌, ap, arith}
use Rattle.std.specs.Prelude.{Option, Some, None, is_some, option_map, nat_le, count_by, sum_by}
use Rattle.std.specs.FinMap as map
use Rattle.std.specs.List.{list_all}
use Rattle.std.specs.FinMap.{FinMap, entries as map_entries, len-entries}
use Rattle.std.proofs.lemmas.Bool.{true≢false, leb-true, le-leb, false_from_ne_true}
use Rattle.std.proofs.lemmas.List.{length-map}
use Rattle.std.proofs.lemmas.List.Sums.{sum_by-cons, count_by-le-length}
use Rattle.std.proofs.lemmas.Option.{none-some}
use Rattle.rss_base.specs.Sizes.{segments, relations_most}
use Rattle.rss_base.specs.Listings.{Listing, ListingFits, numbered, names_of, segment_at, relation_at, IsNumberOf, IsUnlisted, AreAllUsed}
use Rattle.rss_base.specs.declared.name.Name.{Name}
use Rattle.rss_base.specs.declared.relation.RelationEntry.{RelationEntry}
use Rattle.rss_base.specs.declared.refusal.Kind.TheVariants.{Segment as SegmentKind, Relation as RelationKind}
use Rattle.rss_model.specs.Items.{name_cmp}
use Rattle.rss_model.specs.Tables.{Definitions, Tables, segment_of}
use Rattle.rss_model.specs.Meter.{is_in_segment, relations_in}
use Rattle.rss_stored.specs.Store.{Defines}
use Rattle.rss_model.proofs.Counts.{one_if}
use Rattle.rss_model.proofs.Frees.{kept_passes, none_kept, in_segment, stands_in, stands_defined, is_listed}
use Rattle.rss_stored.proofs.Listed.{IsListOf, of_name, sum_listed, at_place, segments_listed, listed, stands_within, number_within}
use Rattle.rss_stored.proofs.Spelled.{named_relation}

-- ---- how many are defined

ones : {A : Type 0} (list : List A) → sum_by (λ (a : A). 1) list ≡ length list
ones [] = refl
ones {A = A} (a ∷ list) = omega (arith, sum_by-cons (λ (b : A). 1) a list, ones list)

names_count : (items : List (Option Name)) → sum_by (of_name (λ name. 1)) items ≡ count_by is_some items
names_count [] = refl
names_count (None ∷ items) = omega (arith, names_count items, sum_by-cons (of_name (λ name. 1)) None items, sum_by-cons (λ (o : Option Name). one_if (is_some o)) None items)
names_count (Some name ∷ items) = omega (arith, names_count items, sum_by-cons (of_name (λ name. 1)) (Some name) items, sum_by-cons (λ (o : Option Name). one_if (is_some o)) (Some name) items)

-- a map has as many names as its list
pub len_listed : {X : Type 0} (items : List (Option Name)) (m : FinMap name_cmp X) → IsListOf items m → map.len m ≡ count_by is_some items
len_listed items m list =
    let keys : length (map.keys m) ≡ map.len m = length-map (map_entries m) (λ e. e.0) ∙ sym (len-entries m) in
    let sums = sum_listed (λ name. 1) items m list in
    omega (arith, keys, sums, ones (map.keys m), names_count items)

-- each place is taken exactly where as many are as there are places
full_some : (items : List (Option Name)) (k : ℕ) → length items ≤ count_by is_some items → k < length items → is_some (get_or items k None) ≡ true
full_some [] k full low = absurd (omega (arith, low))
full_some (None ∷ items) k full low = absurd (omega (arith, full, sum_by-cons (λ (o : Option Name). one_if (is_some o)) None items, count_by-le-length (λ (o : Option Name). is_some o) items))
full_some (Some name ∷ items) zero full low = refl
full_some (Some name ∷ items) (suc k) full low = full_some items k (omega (arith, full, sum_by-cons (λ (o : Option Name). one_if (is_some o)) (Some name) items)) (omega (arith, low))

some_full : (items : List (Option Name)) → ((k : ℕ) → k < length items → is_some (get_or items k None) ≡ true) → count_by is_some items ≡ length items
some_full [] each = refl
some_full (None ∷ items) each = absurd (true≢false (sym (each zero (omega arith))))
some_full (Some name ∷ items) each = omega (arith, some_full items (λ k low. each (suc k) (omega (arith, low))), sum_by-cons (λ (o : Option Name). one_if (is_some o)) (Some name) items)

-- each number is used
abbrev pub EachUsed : List (Option Name) → Type 0
EachUsed items = (number : ℕ) → 1 ≤ number → number ≤ length items → is_some (numbered items number) ≡ true

module _ {X : Type 0} (items : List (Option Name)) (m : FinMap name_cmp X) (list : IsListOf items m) (limit : ℕ) (places : length items ≡ limit) where
  pub used_up : EachUsed items → nat_le limit (map.len m) ≡ true
  used_up each =
      let count = some_full items (λ k low. ap is_some (sym (at_place items k)) ∙ each (suc k) (omega arith) (omega (arith, low))) in
      le-leb limit (map.len m) (omega (arith, len_listed items m list, count))

  pub some_left : (EachUsed items → ⊥) → nat_le limit (map.len m) ≡ false
  some_left left = false_from_ne_true _ (λ is. left (each (leb-true limit (map.len m) is)))
    where
      each : limit ≤ map.len m → EachUsed items
      each full zero low high = absurd (omega (arith, low))
      each full (suc k) low high = ap is_some (at_place items k) ∙ full_some items k (omega (arith, full, len_listed items m list)) (omega (arith, high))

-- ---- the tests

-- no relation stands in a segment that has none
none_stands : (tables : Tables) (segment : Name) → length (relations_in tables segment) ≡ 0 → (relation : Name) → segment_of tables relation ≡ Some segment → ⊥
none_stands tables segment none relation stands =
    true≢false (sym (kept_passes (is_in_segment tables segment) (λ name. false) (map.keys tables.definitions.relations) relation (by (relations_in tables segment) none) (is_listed tables segment relation stands) (stands_in tables segment relation stands)))
  where
    by : (names : List Name) → length names ≡ 0 → list_all (λ (name : Name). false) names ≡ true
    by [] is = refl
    by (name ∷ names) is = absurd (omega (arith, is))

module _ {listing : Listing} {definitions : Definitions} (fits : ListingFits listing) (defines : Defines listing definitions) where
  pub segment_named : (name : Name) (number : ℕ) → IsNumberOf SegmentKind listing name number → is_some (map.get definitions.segments name) ≡ true
  segment_named name number is = (defines.segments name).1 (number, is)

  pub segment_unnamed : (name : Name) → IsUnlisted SegmentKind listing name → is_some (map.get definitions.segments name) ≡ false
  segment_unnamed name none = false_from_ne_true _ (λ there. let has = (defines.segments name).0 there in none has.0 has.1)

  pub relation_named : (name : Name) (number : ℕ) → IsNumberOf RelationKind listing name number → is_some (map.get definitions.relations name) ≡ true
  relation_named name number is =
      let has = named_relation listing name (number, is) in
      let so = listed fits defines has.number has.relation has.at in
      ap (λ (n : Name). is_some (map.get definitions.relations n)) (sym has.named) ∙ ap is_some (defines.relations has.number has.relation so.0 so.1)

  pub relation_unnamed : (name : Name) → IsUnlisted RelationKind listing name → is_some (map.get definitions.relations name) ≡ false
  relation_unnamed name none = false_from_ne_true _ (λ there. let has = defines.only_relations name there in none has.0 has.1)

  pub relations_listed : IsListOf (names_of RelationKind listing) definitions.relations
  relations_listed = record {
    each = λ k name at. relation_named name (suc k) (at_place (names_of RelationKind listing) k ∙ at);
    only = λ name there. place name (defines.only_relations name there);
    once = λ j k name one other. less_one j k (fits.relations_once (suc j) (suc k) name (at_place (names_of RelationKind listing) j ∙ one) (at_place (names_of RelationKind listing) k ∙ other));
  }
    where
      less_one : (j k : ℕ) → suc j ≡ suc k → j ≡ k
      less_one j k same = omega (arith, same)

      place : (name : Name) → (number : ℕ) × IsNumberOf RelationKind listing name number → (k : ℕ) × (get_or (names_of RelationKind listing) k None ≡ Some name)
      place name (zero, at) = absurd (none-some name at)
      place name (suc k, at) = (k, sym (at_place (names_of RelationKind listing) k) ∙ at)

  pub segments_full : AreAllUsed SegmentKind listing → nat_le segments (map.len definitions.segments) ≡ true
  segments_full all = used_up listing.segments definitions.segments (segments_listed fits defines) segments fits.segment_places all

  pub segments_left : (AreAllUsed SegmentKind listing → ⊥) → nat_le segments (map.len definitions.segments) ≡ false
  segments_left left = some_left listing.segments definitions.segments (segments_listed fits defines) segments fits.segment_places left

  relation_places : length (names_of RelationKind listing) ≡ relations_most
  relation_places = length-map listing.relations (option_map (λ (r : RelationEntry). r.name)) ∙ fits.relation_places

  pub relations_full : AreAllUsed RelationKind listing → nat_le relations_most (map.len definitions.relations) ≡ true
  relations_full all = used_up (names_of RelationKind listing) definitions.relations relations_listed relations_most relation_places all

  pub relations_left : (AreAllUsed RelationKind listing → ⊥) → nat_le relations_most (map.len definitions.relations) ≡ false
  relations_left left = some_left (names_of RelationKind listing) definitions.relations relations_listed relations_most relation_places left

-- ---- the relations of a segment

module _ {listing : Listing} (tables : Tables) (fits : ListingFits listing) (defines : Defines listing tables.definitions) (n : ℕ) (segment : Name) (named : segment_at listing n ≡ Some segment) where
  -- some relation of the segment is listed
  pub segment_used : (number : ℕ) (relation : RelationEntry) → relation_at listing number ≡ Some relation → relation.segment ≡ n → nat_le 1 (length (relations_in tables segment)) ≡ true
  segment_used number relation at within = le-leb 1 (length (relations_in tables segment)) (some (length (relations_in tables segment)) (λ none. none_stands tables segment none relation.name stands))
    where
      stands : segment_of tables relation.name ≡ Some segment
      stands = stands_within tables fits defines number relation at segment (ap (segment_at listing) within ∙ named)

      some : (count : ℕ) → (count ≡ 0 → ⊥) → 1 ≤ count
      some zero not = absurd (not refl)
      some (suc count) not = omega arith

  -- none is
  pub segment_unused : ((number : ℕ) (relation : RelationEntry) → relation_at listing number ≡ Some relation → relation.segment ≡ n → ⊥) → nat_le 1 (length (relations_in tables segment)) ≡ false
  segment_unused none = ap (λ (names : List Name). nat_le 1 (length names)) (none_kept (is_in_segment tables segment) (map.keys tables.definitions.relations) off)
    where
      off : (name : Name) → is_in_segment tables segment name ≡ false
      off name = false_from_ne_true _ (λ is.
          let stands = in_segment tables segment name is in
          let has = named_relation listing name (defines.only_relations name (stands_defined tables segment name stands)) in
          none has.number has.relation has.at (number_within tables fits defines has.number has.relation has.at n segment named (ap (segment_of tables) has.named ∙ stands)))
