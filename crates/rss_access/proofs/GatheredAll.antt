-- What was gathered of a relation's tuples are the entries of its images: no more than it has tuples, and sorted, a list that rises on any device, and the list of an image.
use Rattle.std.proofs.Common.{◌≡◌, ◌≢◌, Bool, true, false, ℕ, ◌<◌, ◌≤◌, ◌^◌, List, [], ◌∷◌, ◌++◌, length, sym, ◌∙◌, ap, subst, arith}
use Rattle.std.specs.Prelude.{Option, Some, All, is_some, map as list_map}
use Rattle.std.specs.Ordering.{is_lt, ordering_then}
use Rattle.std.specs.Cmp.{IsStrictWeakOrder, IsTotalOrder, nat_cmp_total, on_total, then_total}
use Rattle.std.specs.declared.cmp.Ordering.{Ordering}
use Rattle.std.specs.declared.cmp.Ordering.TheVariants.{Less, Equal, Greater}
use Rattle.std.specs.List.Sorted.{IsPermutation, IsSortedBy}
use Rattle.std.proofs.lemmas.Cmp.{nat_list_cmp_total, tied_itself}
use Rattle.std.proofs.lemmas.List.{length-map}
use Rattle.std.proofs.lemmas.Option.{same_Some}
use Rattle.std.proofs.lemmas.List.Elements.{All-contains}
use Rattle.std.proofs.lemmas.List.Sorted.{All-permutation, Contains-permutation, length_permutation, ranks_by, sorted_far}
use Rattle.rss_base.specs.TupleTypes.{kinds, chosen, key_width, tuple_bytes}
use Rattle.rss_base.specs.Listings.{Listing, relation_at, field_numbers}
use Rattle.rss_base.specs.declared.tid.Tid.{Tid}
use Rattle.rss_base.specs.declared.image.ImageEntry.{ImageEntry}
use Rattle.rss_base.specs.declared.relation.RelationEntry.{RelationEntry}
use Rattle.rss_value.specs.Numbers.{IsNumberOf}
use Rattle.rss_base.specs.Entries.{IsLess}
use Rattle.rss_levels.specs.Entries.{Each, Pairwise}
use Rattle.rss_base.specs.Tids.{IsSpelledTid}
use Rattle.rss_node.specs.Pairs.{pair_bytes}
use Rattle.rss_node.proofs.Ordered.{pairs_ordered}
use Rattle.rss_model.specs.Images.{Entry}
use Rattle.rss_model.specs.Tables.{Tables}
use Rattle.rss_stored.specs.Store.{body_of, fields_at, prefix_of}
use Rattle.rss_model.proofs.ImageLists.{entry_apart}
use Rattle.rss_model.proofs.Mixing.{In}
use Rattle.rss_entries.specs.Building.{AreRising}
use Rattle.rss_entries.specs.Moving.{KeyKinds}
use Rattle.rss_entries.proofs.Orders.{each_in, in_contains, of_map, map_rises}
use Rattle.rss_access.specs.Bodies.{HoldsBytes}
use Rattle.rss_access.specs.Changes.{AccessView}
use Rattle.rss_access.specs.Checking.{ShowsTuples}
use Rattle.rss_access.specs.Filling.{keys_by, IsEntryLong, IsKeyAt, IsMisspelled, AreEntries, entry_order}
use Rattle.rss_access.specs.Tuples.{body_at}
use Rattle.rss_access.proofs.Bodied.{body_holds, one_bytes}
use Rattle.rss_access.proofs.AsMany.{contains_in}
use Rattle.rss_access.proofs.Gathering.{AreApartTo, AreGathered, AreGatheredTo}
use Rattle.rss_access.proofs.RelationEntries.{body_tuple, kept, kept_long, kept_rises, kept_tuple, shown, tid_shown, tids_long, tids_shown}
use Rattle.rss_access.proofs.SortedAlike.{few_apart, pairwise_at, pairwise_weaker, same_sorted, sorted_strictly}

-- ---- the order of entries

pub order_total : IsTotalOrder entry_order
order_total = then_total (on_total (λ (p : List ℕ × Tid). p.0) nat_list_cmp_total)
    (on_total (λ (p : List ℕ × Tid). p.1) (then_total (on_total (λ (t : Tid). t.page) nat_cmp_total) (on_total (λ (t : Tid). t.slot) nat_cmp_total)))

abbrev pub is_before : List ℕ × Tid → List ℕ × Tid → Bool
is_before a b = is_lt (entry_order a b)

pub ranked : IsStrictWeakOrder is_before
ranked = ranks_by order_total (λ (p : List ℕ × Tid). p)

-- in a sorted list none is before one that stands before it
sorted_pairs : (pairs : List (List ℕ × Tid)) → IsSortedBy is_before pairs → Pairwise (λ a b. entry_order b a ≡ Less → ⊥) pairs
sorted_pairs pairs sorted = pairwise_at (λ a b. entry_order b a ≡ Less → ⊥) pairs (λ i j d less low before.
    let never : true ≡ false = sym (ap is_lt before) ∙ sorted_far is_before ranked pairs sorted i j d (omega (arith, less)) low in
    absurd (cc))

-- ---- on any device

-- entries of two tuples don't tie
apart_never : (a b : List ℕ × Tid) → a.1 ≢ b.1 → entry_order a b ≢ Equal
apart_never a b other tie = other (ap (λ (e : Entry). e.tid) (entry_apart (record { key = []; tid = a.1 }) (record { key = []; tid = b.1 }) (tied_then _ _ tie)))
  where
    tied_then : (o p : Ordering) → ordering_then o p ≡ Equal → p ≡ Equal
    tied_then Less p is = absurd (cc)
    tied_then Equal p is = is
    tied_then Greater p is = absurd (cc)

-- and sorted they rise as bytes
pub sorted_rise : (keys : KeyKinds) (entries sorted : List (List ℕ × Tid)) → Pairwise (λ a b. a.1 ≢ b.1) entries → All (IsEntryLong keys) entries → All (λ pair. IsSpelledTid pair.1) entries
    → IsPermutation entries sorted → IsSortedBy is_before sorted → AreRising sorted
sorted_rise keys entries sorted apart long spelled moved is =
    map_rises (λ (p : List ℕ × Tid). pair_bytes p.0 p.1) (λ a b. entry_order a b ≡ Less) IsLess sorted
    (λ a b one other before. record { is = pairs_ordered (record { key = a.0; tid = a.1 }) (record { key = b.0; tid = b.1 }) (long_in a one ∙ sym (long_in b other)) (spelled_in a one) (spelled_in b other) ∙ before })
    (sorted_strictly order_total entries sorted (pairwise_weaker (λ a b. a.1 ≢ b.1) (λ a b. entry_order a b ≢ Equal) entries apart_never apart) moved is)
  where
    in_sorted : (P : List ℕ × Tid → Type 0) → All P entries → (a : List ℕ × Tid) → In a sorted → P a
    in_sorted P all a there = All-contains P sorted a (All-permutation P entries sorted moved all) (in_contains sorted a there)

    long_in : (a : List ℕ × Tid) → In a sorted → length a.0 ≡ key_width (chosen keys.which keys.fields)
    long_in a there = (in_sorted (IsEntryLong keys) long a there).0

    spelled_in : (a : List ℕ × Tid) → In a sorted → IsSpelledTid a.1
    spelled_in = in_sorted (λ pair. IsSpelledTid pair.1) spelled

-- ---- as many as there are tuples

module _ {at : AccessView} (small : at.pages.slots < 2 ^ 32) {tables : Tables} (shows : ShowsTuples at tables) (number : ℕ) {relation : RelationEntry} (its : relation_at at.catalog.listing number ≡ Some relation) where
  -- each tuple's bytes are those of values
  pub none_misspelled : (tid : Tid) → IsMisspelled at number relation tid → ⊥
  none_misspelled tid is = let of = body_tuple small shows number its tid is.has.rest is.has.there in is.not (tuple_bytes (kinds relation.fields) of.values) of.bytes (of.values, of.spells) (shows.tids relation.name tid (ap is_some of.there)).slot

  few_of : (which : List ℕ) (entries : List (List ℕ × Tid)) → Each (λ pair. IsKeyAt at number relation which pair.1 pair.0) entries → Pairwise (λ a b. a.1 ≢ b.1) entries → length entries ≤ relation.live
  few_of which entries each apart =
      let few = few_apart (list_map (λ (pair : List ℕ × Tid). pair.1) entries) (tids_shown small shows number its)
      (map_rises (λ (pair : List ℕ × Tid). pair.1) (λ a b. a.1 ≢ b.1) (λ a b. a ≢ b) entries (λ a b one other off. off) apart) among in
      omega (arith, few, length-map entries (λ (pair : List ℕ × Tid). pair.1), tids_long small shows number its)
    where
      among : (tid : Tid) → In tid (list_map (λ (pair : List ℕ × Tid). pair.1) entries) → In tid (tids_shown small shows number its)
      among tid is =
          let found = of_map (λ (pair : List ℕ × Tid). pair.1) entries tid is in
          let key = each_in (λ (pair : List ℕ × Tid). IsKeyAt at number relation which pair.1 pair.0) entries each found.0 found.1 in
          let of = body_tuple small shows number its found.0.1 key.has.rest key.has.there in
          subst (λ (t : Tid). In t (tids_shown small shows number its)) found.2 (tid_shown small shows number its found.0.1 of.values of.there)

  pub few_so_far : {which : List ℕ} {last : Option Tid} {entries : List (List ℕ × Tid)} → AreApartTo last entries → AreGatheredTo at.catalog number relation which at.pages last entries → length entries ≤ relation.live
  few_so_far {which = which} {entries = entries} apart so = few_of which entries so.each apart.apart

  -- ---- the list of an image

  module _ (image : ImageEntry) (within : All (IsNumberOf relation.fields) (field_numbers image)) (entries : List (List ℕ × Tid)) (so : AreGathered at.catalog number relation (field_numbers image) at.pages entries) where
    pub in_gathered : (pair : List ℕ × Tid) → In pair (kept small shows number its image within) → In pair entries
    in_gathered pair is =
        let of = kept_tuple small shows number its image within pair is in
        let stands = shows.contents.stands number relation pair.1 of.0 its of.1 in
        let found = of_map (λ (p : List ℕ × Tid). p.1) entries pair.1 (so.all pair.1 (record { rest = prefix_of at.catalog.listing tables.contents number pair.1 ++ tuple_bytes (fields_at at.catalog.listing number) of.0; there = stands })) in
        let key = each_in (λ (p : List ℕ × Tid). IsKeyAt at number relation (field_numbers image) p.1 p.0) entries so.each found.0 found.1 in
        let fits = (shown small shows number its image within).tuples pair.1 of.0 of.1 in
        let body : number ∷ key.has.rest ≡ body_of at.catalog.listing tables.contents number pair.1 of.0 = same_Some _ _ (sym key.has.there ∙ ap (body_at at.pages relation.segment) found.2 ∙ stands) in
        let bytes : key.bytes ≡ tuple_bytes (kinds relation.fields) of.0 = one_bytes (subst (λ (b : List ℕ). HoldsBytes at.catalog.listing number b key.bytes) body key.holds) (body_holds at.catalog.listing tables.contents number relation its pair.1 of.0) in
        let keys = key.is of.0 (record { fit = fits.fit; storable = fits.storable; same = bytes }) in
        subst (λ (p : List ℕ × Tid). In p entries) ((λ i. (keys i, found.2 i)) ∙ of.2) found.1

    pub sorted_list : (sorted : List (List ℕ × Tid)) → IsPermutation entries sorted → IsSortedBy is_before sorted → sorted ≡ kept small shows number its image within
    sorted_list sorted moved is =
        sym (same_sorted (λ a b. entry_order a b ≡ Less) never (kept small shows number its image within) sorted (kept_rises small shows number its image within) (sorted_pairs sorted is)
        (λ pair there. contains_in sorted pair (Contains-permutation entries sorted pair moved (in_contains entries pair (in_gathered pair there))))
        (omega (arith, few_of (field_numbers image) entries so.each so.apart, length_permutation entries sorted moved, kept_long small shows number its image within)))
      where
        never : (a : List ℕ × Tid) → entry_order a a ≡ Less → ⊥
        never a is = let never : Less ≡ Equal = sym is ∙ tied_itself order_total a in absurd (cc)

-- they are so for each catalog that lists the relation
pub entries_are : {at : AccessView} → at.pages.slots < 2 ^ 32 → (number : ℕ) (relation : RelationEntry) (which : List ℕ) → All (IsNumberOf relation.fields) which
    → (entries sorted : List (List ℕ × Tid)) → AreGathered at.catalog number relation which at.pages entries → IsPermutation entries sorted → IsSortedBy is_before sorted → AreEntries at number relation which sorted
entries_are {at = at} small number relation which within entries sorted so moved is tables image shows its same =
    sorted_list small shows number its image (subst (All (IsNumberOf relation.fields)) (sym same) within) entries
    (subst (λ (w : List ℕ). AreGathered at.catalog number relation w at.pages entries) (sym same) so) sorted moved is

-- whichever way the relation's entry is named
pub entries_for : (at : AccessView) (number : ℕ) (relation other : RelationEntry) (which : List ℕ) (entries : List (List ℕ × Tid)) → relation_at at.catalog.listing number ≡ Some relation → AreEntries at number relation which entries → AreEntries at number other which entries
entries_for at number relation other which entries its are tables image shows its_other same =
    subst (λ (r : RelationEntry). AreEntries at number r which entries) (same_Some _ _ (sym its ∙ its_other)) are tables image shows its_other same

-- and sorted they are as long
pub long_for : (listing : Listing) (number : ℕ) (relation other : RelationEntry) (which : List ℕ) (entries sorted : List (List ℕ × Tid)) → relation_at listing number ≡ Some relation → relation_at listing number ≡ Some other
    → All (IsEntryLong (keys_by relation which)) entries → IsPermutation entries sorted → All (IsEntryLong (keys_by other which)) sorted
long_for listing number relation other which entries sorted its its_other long moved =
    subst (λ (r : RelationEntry). All (IsEntryLong (keys_by r which)) sorted) (same_Some _ _ (sym its ∙ its_other)) (All-permutation (IsEntryLong (keys_by relation which)) entries sorted moved long)
