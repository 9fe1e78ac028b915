-- A definition keeps what the meter says.
use Rattle.std.proofs.Common.{◌≡◌, inl, inr, ℕ, ◌≤◌, Bool, true, false, List, [], ◌∷◌, refl, sym, ◌∙◌, ap, arith}
use Rattle.std.specs.Prelude.{Option, Some, None, is_some, option_map, unwrap_or, count_by, sum_by, map as list_map}
use Rattle.std.specs.List.{range_with_len}
use Rattle.std.specs.Ordering.{eq_by_cmp}
use Rattle.std.specs.FinMap as finite
use Rattle.std.specs.FinMap.{FinMap}
use Rattle.std.proofs.lemmas.Bool.{true≢false}
use Rattle.std.proofs.lemmas.List.Sums.{sum_by-cons}
use Rattle.rss_base.specs.Sizes.{page_entries}
use Rattle.rss_base.specs.declared.name.Name.{Name}
use Rattle.rss_base.specs.declared.tid.Tid.{Tid}
use Rattle.rss_base.specs.declared.item.Item.TheVariants.{Tuple}
use Rattle.rss_model.specs.Items.{name_cmp}
use Rattle.rss_model.specs.Tables.{RelationDef, ImageDef, LinkDef, Definitions, Tables, Contents, content}
use Rattle.rss_model.specs.Meter.{is_in_segment, relations_in, has_tuples, is_heap_page, heap_pages}
use Rattle.rss_model.proofs.Codes.{name_total, name_apart}
use Rattle.std.specs.Cmp.{Equal-is}
use Rattle.rss_model.proofs.Counts.{one_if}
use Rattle.rss_model.proofs.Heap.{count_none}
use Rattle.rss_model.proofs.LogLists.{by_test}
use Rattle.rss_model.proofs.MapSums.{insert_sum, remove_sum}
use Rattle.rss_model.proofs.Locking.{in_entries, in_keys, any_in, in_any}
use Rattle.rss_model.proofs.Mixing.{In, in_filter}
use Rattle.rss_model.proofs.SeenAlike.{got_in}
use Rattle.rss_model.proofs.Testing.{passes_filter}

pub sum_le_in : {A : Type 0} (f g : A → ℕ) (xs : List A) → ((x : A) → In x xs → f x ≤ g x) → sum_by f xs ≤ sum_by g xs
sum_le_in f g [] le = omega arith
sum_le_in f g (x ∷ xs) le = omega (arith, le x (inl refl), sum_le_in f g xs (λ y is. le y (inr is)), sum_by-cons f x xs, sum_by-cons g x xs)

one_le : (a b : Bool) → (a ≡ true → b ≡ true) → one_if a ≤ one_if b
one_le true true to = omega arith
one_le true false to = absurd (true≢false (sym (to refl)))
one_le false b to = omega arith

key_entry : {V : Type 0} (es : List (Name × V)) (q : Name) → In q (list_map (λ e. e.0) es) → (v : V) × In (q, v) es
key_entry [] q is = absurd is
key_entry {V = V} (e ∷ es) q (inl f) = (e.1, inl (λ i. (f i, e.1)))
key_entry (e ∷ es) q (inr is) = let rest = key_entry es q is in (rest.0, inr rest.1)

-- other relations, where those that have tuples are defined as they were
module _ (slots : ℕ) (definitions : Definitions) (relations : FinMap name_cmp RelationDef) (contents : Contents)
    (leaves : (page : ℕ) (relation : Name) → has_tuples contents page relation ≡ true → finite.get relations relation ≡ finite.get definitions.relations relation) where
  abbrev before : Tables
  before = record { definitions = definitions; contents = contents }

  abbrev after_it : Tables
  after_it = record { definitions = record definitions { relations = relations }; contents = contents }

  page_too : (segment : Name) (page : ℕ) → is_heap_page after_it segment page ≡ true → is_heap_page before segment page ≡ true
  page_too segment page is =
      let one = any_in (has_tuples contents page) (relations_in after_it segment) is in
      let of = in_filter (is_in_segment after_it segment) (finite.keys relations) one.0 one.1 in
      let same = leaves page one.0 one.2 in
      let at = key_entry (finite.entries relations) one.0 of.0 in
      let was = in_keys (finite.entries definitions.relations) one.0 at.0 (in_entries name_apart definitions.relations one.0 at.0 (sym same ∙ got_in name_total name_apart relations one.0 at.0 at.1)) in
      let stood : is_in_segment before segment one.0 ≡ true = ap (λ (o : Option RelationDef). unwrap_or (option_map (eq_by_cmp name_cmp segment) (option_map (λ (r : RelationDef). r.segment) o)) false) (sym same) ∙ of.1 in
      in_any (has_tuples contents page) (relations_in before segment) one.0 (passes_filter (is_in_segment before segment) (finite.keys definitions.relations) one.0 was stood) one.2

  pub heap_relations : heap_pages slots (record { definitions = record definitions { relations = relations }; contents = contents }) ≤ heap_pages slots (record { definitions = definitions; contents = contents })
  unfolding heap_pages
  heap_relations = sum_le_in (λ segment. count_by (is_heap_page after_it segment) (range_with_len 0 slots)) (λ segment. count_by (is_heap_page before segment) (range_with_len 0 slots)) (finite.keys definitions.segments) (λ segment s_in.
      sum_le_in (λ page. one_if (is_heap_page after_it segment page)) (λ page. one_if (is_heap_page before segment page)) (range_with_len 0 slots) (λ page p_in. one_le _ _ (page_too segment page)))

-- a relation with tuples on a page has one
pub on_page : (contents : Contents) (page : ℕ) (relation : Name) → has_tuples contents page relation ≡ true → (tid : Tid) × (is_some (content contents (Tuple relation tid)) ≡ true)
unfolding has_tuples
on_page contents page relation has = let one = any_in (λ slot. is_some (content contents (Tuple relation (record { page = page; slot = slot })))) (range_with_len 0 page_entries) has in (record { page = page; slot = one.0 }, one.2)

-- images and links don't matter
pub heap_paths : (slots : ℕ) (definitions : Definitions) (images : FinMap name_cmp ImageDef) (links : FinMap name_cmp LinkDef) (contents : Contents) → heap_pages slots (record { definitions = record definitions { images = images; links = links }; contents = contents }) ≡ heap_pages slots (record { definitions = definitions; contents = contents })
unfolding heap_pages
heap_paths slots definitions images links contents = refl

-- ---- segments

module _ (slots : ℕ) (definitions : Definitions) (name : Name) (contents : Contents) where
  abbrev now_tables : Tables
  now_tables = record { definitions = definitions; contents = contents }

  pub heap_segment_gone : heap_pages slots (record { definitions = record definitions { segments = finite.remove definitions.segments name }; contents = contents }) ≤ heap_pages slots (record { definitions = definitions; contents = contents })
  unfolding heap_pages
  heap_segment_gone = remove_sum (λ segment. count_by (is_heap_page now_tables segment) (range_with_len 0 slots)) (λ e. e.0) definitions.segments name

  pub heap_segment_made : finite.get definitions.segments name ≡ None → ((q : Name) (relation : RelationDef) → finite.get definitions.relations q ≡ Some relation → relation.segment ≡ name → ⊥)
      → heap_pages slots (record { definitions = record definitions { segments = finite.insert definitions.segments name tt }; contents = contents }) ≤ heap_pages slots (record { definitions = definitions; contents = contents })
  unfolding heap_pages
  heap_segment_made fresh none =
      let made' = insert_sum (λ segment. count_by (is_heap_page now_tables segment) (range_with_len 0 slots)) (λ e. e.0) definitions.segments name tt fresh in
      omega (arith, made', count_none (is_heap_page now_tables name) (range_with_len 0 slots) (λ page. no_page page))
    where
      in_none : (q : Name) (o : Option RelationDef) → finite.get definitions.relations q ≡ o → unwrap_or (option_map (eq_by_cmp name_cmp name) (option_map (λ (r : RelationDef). r.segment) o)) false ≡ true → ⊥
      in_none q None at e = true≢false (sym e)
      in_none q (Some r) at e = none q r at (sym (name_apart name r.segment ((Equal-is (name_cmp name r.segment)).0 e)))

      no_page : (page : ℕ) → is_heap_page now_tables name page ≡ false
      no_page page = by_test (is_heap_page now_tables name page)
          (λ e. let one = any_in (has_tuples contents page) (relations_in now_tables name) e in absurd (in_none one.0 (finite.get definitions.relations one.0) refl (in_filter (is_in_segment now_tables name) (finite.keys definitions.relations) one.0 one.1).1))
          (λ e. e)
