-- The next pair in the bytes of an image is the next entry of the list that it shows.
use Rattle.std.proofs.Common.{◌≡◌, ◌<◌, inl, inr, ℕ, Bool, true, false, List, [], ◌∷◌, length, map as list_map, replicate, refl, sym, ◌∙◌, ap, subst, arith}
use Rattle.std.specs.Prelude.{Option, Some, None, IfSome, option_map, find, not, slice_get, if◌then◌else◌}
use Rattle.std.specs.Ordering.{nat_cmp, is_lt, is_ge, is_gt, ordering_then, ordering_reverse}
use Rattle.std.specs.Cmp.Lexicographic.{slice_cmp}
use Rattle.std.specs.declared.cmp.Ordering.{Ordering}
use Rattle.std.specs.declared.cmp.Ordering.TheVariants.{Less, Equal, Greater}
use Rattle.std.proofs.lemmas.Cmp.{ranked}
use Rattle.std.proofs.lemmas.List.{length-replicate}
use Rattle.std.proofs.lemmas.Option.{same_Some}
use Rattle.rss_base.specs.LogRecords.{tid_bytes}
use Rattle.rss_base.specs.Steps.{PagesView}
use Rattle.rss_base.specs.Trees.{tid_cmp}
use Rattle.rss_base.specs.TupleTypes.{values_cmp, key_bytes, IsKeyOf}
use Rattle.rss_base.specs.declared.tid.Tid.{Tid}
use Rattle.rss_base.specs.declared.value.Value.{Value}
use Rattle.rss_base.specs.declared.image.ImageEntry.{ImageEntry}
use Rattle.rss_base.specs.declared.relation.RelationEntry.{RelationEntry}
use Rattle.rss_levels.specs.Sought.{is_passed, first_from}
use Rattle.rss_levels.proofs.Order.{zeros_least}
use Rattle.rss_value.proofs.KeyOrders.{keys_order}
use Rattle.rss_value.proofs.Orders.{slice_cmp-append}
use Rattle.rss_base.specs.Tids.{IsSpelledTid}
use Rattle.rss_node.specs.Pairs.{pair_bytes}
use Rattle.rss_node.proofs.Ordered.{pairs_ordered}
use Rattle.rss_image.specs.Images.{Finds, found_bytes, least_tid}
use Rattle.rss_image.specs.declared.image.Image.{Image}
use Rattle.rss_model.specs.Tables.{Tables}
use Rattle.rss_model.specs.Images.{Entry, entry_cmp, image_list, next_entry}
use Rattle.rss_stored.specs.Store.{image_definition, pair_spelled}
use Rattle.rss_model.proofs.Codes.{split_alike}
use Rattle.rss_model.proofs.ImageLists.{entry_total}
use Rattle.rss_model.proofs.LogLists.{by_test, none_some}
use Rattle.rss_model.proofs.Mixing.{In}
use Rattle.rss_model.proofs.RelationLists.{next_in}
use Rattle.rss_entries.specs.Rooms.{width_of}
use Rattle.rss_entries.specs.Seeking.{kinds_in, IsKeyIn, IsEntryIn, start_bytes, kept_pair}
use Rattle.rss_entries.proofs.Entries.{length-key}
use Rattle.rss_entries.proofs.Shown.{Shows, byte_list, spelled_entry, key_fits, mapped, same_tid, tuple_of}

-- ---- the first of a list

-- by a test of the entries that agrees with one of their bytes
first_mapped : (f : Entry → List ℕ) (p : Entry → Bool) (beyond : Bool) (target : List ℕ) (es : List Entry) → ((e : Entry) → In e es → is_passed beyond (f e) target ≡ not (p e)) → first_from beyond target (list_map f es) ≡ option_map f (find p es)
first_mapped f p beyond target [] same = refl
first_mapped f p beyond target (e ∷ es) same = by_test (p e)
    (λ t. let stops : is_passed beyond (f e) target ≡ false = same e (inl refl) ∙ ap not t in rw (t, stops) refl)
    (λ t. let passes : is_passed beyond (f e) target ≡ true = same e (inl refl) ∙ ap not t in rw (t, passes) (first_mapped f p beyond target es (λ g i. same g (inr i))))

first_any : (es : List Entry) → find (λ e. true) es ≡ slice_get es 0
first_any [] = refl
first_any (e ∷ es) = refl

-- ---- orders

not_less_then : (a b : Ordering) → (a ≡ Less → ⊥) → (b ≡ Less → ⊥) → is_lt (ordering_then a b) ≡ false
not_less_then Less b one other = absurd (one refl)
not_less_then Equal Less one other = absurd (other refl)
not_less_then Equal Equal one other = refl
not_less_then Equal Greater one other = refl
not_less_then Greater b one other = refl

less_not_ge : (a b : Ordering) → (b ≡ Less → ⊥) → is_lt (ordering_then a b) ≡ not (is_ge a)
less_not_ge Less b other = refl
less_not_ge Equal Less other = absurd (other refl)
less_not_ge Equal Equal other = refl
less_not_ge Equal Greater other = refl
less_not_ge Greater b other = refl

passed_not_gt : (o : Ordering) → (if is_lt o then false else true) ≡ not (is_gt (ordering_reverse o))
passed_not_gt Less = refl
passed_not_gt Equal = refl
passed_not_gt Greater = refl

-- no identifier is below the least one
none_below : (tid : Tid) → tid_cmp tid least_tid ≡ Less → ⊥
none_below tid = by (nat_cmp tid.page 0) (nat_cmp tid.slot 0) refl refl
  where
    never : (n : ℕ) → nat_cmp n 0 ≡ Less → ⊥
    never n is = let low : n < 0 = ranked n 0 Less (sym is) in absurd (omega (arith, low))

    by : (a b : Ordering) → nat_cmp tid.page 0 ≡ a → nat_cmp tid.slot 0 ≡ b → ordering_then a b ≡ Less → ⊥
    by Less b page slot is = never tid.page page
    by Equal b page slot is = never tid.slot (slot ∙ is)
    by Greater b page slot is = absurd (cc (is))

-- zeros are at or below each key
above_zeros : (width : ℕ) (key : List ℕ) (tid : Tid) → length key ≡ width → is_passed false (pair_bytes key tid) (pair_bytes (replicate width 0) least_tid) ≡ false
above_zeros width key tid long =
    ap is_lt (slice_cmp-append nat_cmp key (replicate width 0) (tid_bytes tid) (tid_bytes least_tid) (long ∙ sym (length-replicate width 0)))
    ∙ not_less_then _ _ (λ is. zeros_least key width long (record { is = is })) (λ is. zeros_least (tid_bytes tid) 6 refl (record { is = is }))

-- ---- entries in bytes

module _ (image : ImageEntry) (relation : RelationEntry) where
  key_made : (key : List Value) → IsKeyIn image relation key → IsKeyOf (kinds_in image relation) key (key_bytes (kinds_in image relation) key)
  key_made key is = record { fit = is.fit; storable = is.storable; same = refl }

  key_wide : (key : List Value) → IsKeyIn image relation key → length (key_bytes (kinds_in image relation) key) ≡ width_of image relation
  key_wide key is = length-key (kinds_in image relation) key _ (key_made key is)

  pairs_cmp : (v w : List Value) (s t : Tid) → IsKeyIn image relation v → IsKeyIn image relation w → IsSpelledTid s → IsSpelledTid t
      → slice_cmp nat_cmp (pair_bytes (key_bytes (kinds_in image relation) v) s) (pair_bytes (key_bytes (kinds_in image relation) w) t) ≡ ordering_then (values_cmp v w) (tid_cmp s t)
  pairs_cmp v w s t one other first second =
      pairs_ordered (pair_spelled image relation (record { key = v; tid = s })) (pair_spelled image relation (record { key = w; tid = t })) (key_wide v one ∙ sym (key_wide w other)) first second
      ∙ ap (λ (o : Ordering). ordering_then o (tid_cmp s t)) (keys_order (kinds_in image relation) v w _ _ (key_made v one) (key_made w other))

  -- the bytes of a pair say which entry it is
  pair_kept : (found : Option (List ℕ × Tid)) (next : Option Entry) → IfSome next (IsEntryIn image relation) → IfSome found (λ pair. length pair.0 ≡ width_of image relation) → IfSome found (λ pair. IsSpelledTid pair.1)
      → found_bytes found ≡ option_map (spelled_entry image relation) next → found ≡ option_map (kept_pair image relation) next
  pair_kept None None fit wide spelled is = refl
  pair_kept None (Some e) fit wide spelled is = none_some is
  pair_kept (Some pair) None fit wide spelled is = none_some (sym is)
  pair_kept (Some pair) (Some e) fit wide spelled is =
      let same : pair_bytes pair.0 pair.1 ≡ spelled_entry image relation e = same_Some _ _ is in
      let keys = (split_alike pair.0 (key_bytes (kinds_in image relation) e.key) (tid_bytes pair.1) (tid_bytes e.tid) (wide ∙ sym (key_wide e.key fit.key)) same).0 in
      let tids = same_tid pair.0 (key_bytes (kinds_in image relation) e.key) pair.1 e.tid spelled fit.tid same in
      λ i. Some (keys i, tids i)

-- ---- what a search found

-- in the same image, as the same
module _ {image other : Image} (same : image ≡ other) {found result : Option (List ℕ × Tid)} (is : found ≡ result) where
  pub finds_same : (beyond : Bool) (target : List ℕ) (view : PagesView) → Finds beyond target image view result → Finds beyond target other view found
  finds_same beyond target view finds = subst (λ (i : Image). Finds beyond target i view found) same (subst (Finds beyond target image view) (sym is) finds)

  pub wide_same : IfSome result (λ pair. length pair.0 ≡ image.width) → IfSome found (λ pair. length pair.0 ≡ other.width)
  wide_same wide = subst (λ (i : Image). IfSome found (λ pair. length pair.0 ≡ i.width)) same (subst (λ (o : Option (List ℕ × Tid)). IfSome o (λ pair. length pair.0 ≡ image.width)) (sym is) wide)

-- ---- the next entry of an image

module _ {tables : Tables} {image : ImageEntry} {relation : RelationEntry} (shows : Shows tables image relation) where
  abbrev entries : List Entry
  entries = image_list tables (image_definition image relation)

  pub entry_in : (e : Entry) → In e entries → IsEntryIn image relation e
  entry_in e is =
      let of = tuple_of shows e is in
      let its = shows.tuples of.tid of.values of.there in
      let key = key_fits image relation of.tid of.values its in
      subst (IsEntryIn image relation) of.is (record { key = record { fit = key.fit; storable = key.storable }; tid = its.spelled })

  pub next_fits : (from : Option (List Value)) (given : Option Entry) → IfSome (next_entry from given entries) (IsEntryIn image relation)
  next_fits from given = by (next_entry from given entries) refl
    where
      by : (o : Option Entry) → next_entry from given entries ≡ o → IfSome o (IsEntryIn image relation)
      by None is = tt
      by (Some e) is = entry_in e (next_in from given entries e is)

  first_of : (p : Entry → Bool) (beyond : Bool) (target : List ℕ) → ((e : Entry) → In e entries → is_passed beyond (spelled_entry image relation e) target ≡ not (p e)) → first_from beyond target (byte_list tables image relation) ≡ option_map (spelled_entry image relation) (find p entries)
  first_of p beyond target same = ap (first_from beyond target) (mapped shows) ∙ first_mapped (spelled_entry image relation) p beyond target entries same

  -- from the start on
  first_is : (from : Option (List Value)) → IfSome from (IsKeyIn image relation)
      → first_from false (pair_bytes (start_bytes image relation from) least_tid) (byte_list tables image relation) ≡ option_map (spelled_entry image relation) (next_entry from None entries)
  first_is None fit =
      first_of (λ e. true) false _ (λ e is. above_zeros (width_of image relation) _ e.tid (key_wide image relation e.key (entry_in e is).key))
      ∙ ap (option_map (spelled_entry image relation)) (first_any entries)
  first_is (Some key) fit = first_of (λ e. is_ge (values_cmp e.key key)) false _ (λ e is.
      let its = entry_in e is in
      ap is_lt (pairs_cmp image relation e.key key e.tid least_tid its.key fit its.tid (record { page = omega arith; slot = omega arith }))
      ∙ less_not_ge (values_cmp e.key key) (tid_cmp e.tid least_tid) (none_below e.tid))

  -- and behind an entry
  behind_is : (given : Entry) → IsEntryIn image relation given
      → first_from true (spelled_entry image relation given) (byte_list tables image relation) ≡ option_map (spelled_entry image relation) (find (λ e. is_gt (entry_cmp e given)) entries)
  behind_is given fit = first_of (λ e. is_gt (entry_cmp e given)) true _ (λ e is.
      let its = entry_in e is in
      ap (λ (o : Ordering). if is_lt o then false else true) (pairs_cmp image relation given.key e.key given.tid e.tid fit.key its.key fit.tid its.tid)
      ∙ passed_not_gt (entry_cmp given e) ∙ ap (λ (o : Ordering). not (is_gt o)) (sym (entry_total.antisymm e given)))

  after_is : (from : Option (List Value)) (given : Entry) → IsEntryIn image relation given
      → first_from true (spelled_entry image relation given) (byte_list tables image relation) ≡ option_map (spelled_entry image relation) (next_entry from (Some given) entries)
  after_is None given fit = behind_is given fit
  after_is (Some key) given fit = behind_is given fit

  -- what a search finds is the pair of the next entry
  pub next_found : (from : Option (List Value)) (given : Option Entry) (found : Option (List ℕ × Tid)) → IfSome found (λ pair. length pair.0 ≡ width_of image relation) → IfSome found (λ pair. IsSpelledTid pair.1)
      → found_bytes found ≡ option_map (spelled_entry image relation) (next_entry from given entries) → found ≡ option_map (kept_pair image relation) (next_entry from given entries)
  next_found from given found wide spelled is = pair_kept image relation found (next_entry from given entries) (next_fits from given) wide spelled is

  -- where none was given yet
  pub starts : (from : Option (List Value)) → IfSome from (IsKeyIn image relation) → (given : Option Entry) → None ≡ option_map (kept_pair image relation) given → (start : List ℕ) → start ≡ start_bytes image relation from
      → first_from false (pair_bytes start least_tid) (byte_list tables image relation) ≡ option_map (spelled_entry image relation) (next_entry from given entries)
  starts from fit None none start is = ap (λ (bytes : List ℕ). first_from false (pair_bytes bytes least_tid) (byte_list tables image relation)) is ∙ first_is from fit
  starts from fit (Some e) none start is = none_some none

  -- and behind the one that was
  pub goes_on : (from : Option (List Value)) (given : Option Entry) → IfSome given (IsEntryIn image relation) → (key : List ℕ) (tid : Tid) → ◌≡◌ {A = Option (List ℕ × Tid)} (Some (key, tid)) (option_map (kept_pair image relation) given)
      → first_from true (pair_bytes key tid) (byte_list tables image relation) ≡ option_map (spelled_entry image relation) (next_entry from given entries)
  goes_on from None fit key tid is = none_some (sym is)
  goes_on from (Some e) fit key tid is =
      ap (λ (pair : List ℕ × Tid). first_from true (pair_bytes pair.0 pair.1) (byte_list tables image relation)) (same_Some _ _ is) ∙ after_is from e fit
