-- Which pages have identifiers of tuples.
use Rattle.std.proofs.Common.{◌≡◌, ℕ, ◌<◌, Bool, true, false, refl, sym}
use Rattle.std.specs.Prelude.{Some, is_some, count_by}
use Rattle.std.specs.FinMap as map
use Rattle.std.specs.FinMap.{entries as map_entries}
use Rattle.std.specs.List.{range_with_len}
use Rattle.rss_base.specs.Sizes.{page_entries}
use Rattle.rss_base.specs.declared.name.Name.{Name}
use Rattle.rss_base.specs.declared.tid.Tid.{Tid}
use Rattle.rss_base.specs.declared.item.Item.TheVariants.{Tuple}
use Rattle.rss_model.specs.Tables.{Contents, Tables, content, segment_of}
use Rattle.rss_model.specs.Meter.{is_in_segment, relations_in, has_tuples, is_heap_page}
use Rattle.rss_model.proofs.Codes.{name_apart}
use Rattle.rss_model.proofs.Frees.{any_below, some_below, in_segment, stands_in, stands_defined}
use Rattle.rss_model.proofs.Locking.{any_in, in_any, in_entries, in_keys}
use Rattle.rss_model.proofs.Mixing.{in_filter}
use Rattle.rss_model.proofs.Testing.{passes_filter}
use Rattle.rss_model.proofs.LogLists.{some_of}

-- two tests that imply each other
pub same_bool : (a b : Bool) → (a ≡ true → b ≡ true) → (b ≡ true → a ≡ true) → a ≡ b
same_bool true b to from = sym (to refl)
same_bool false true to from = from refl
same_bool false false to from = refl

-- ---- a page that has identifiers of tuples

pub has_tuples_at : (contents : Contents) (relation : Name) (tid : Tid) → tid.slot < page_entries → is_some (content contents (Tuple relation tid)) ≡ true → has_tuples contents tid.page relation ≡ true
unfolding has_tuples
has_tuples_at contents relation tid low there = any_below (λ slot. is_some (content contents (Tuple relation (record { page = tid.page; slot = slot })))) page_entries tid.slot low there

pub has_tuples_of : (contents : Contents) (page : ℕ) (relation : Name) → has_tuples contents page relation ≡ true → (slot : ℕ) × (slot < page_entries) × (is_some (content contents (Tuple relation (record { page = page; slot = slot }))) ≡ true)
unfolding has_tuples
has_tuples_of contents page relation has = some_below (λ slot. is_some (content contents (Tuple relation (record { page = page; slot = slot })))) page_entries has

-- a relation of the segment has a tuple there
pub record HasHeapPage (tables : Tables) (segment : Name) (page : ℕ) : Type 0 where
  pub relation : Name
  pub stands : segment_of tables relation ≡ Some segment
  pub has : has_tuples tables.contents page relation ≡ true

pub heap_page_of : (tables : Tables) (segment : Name) (page : ℕ) → is_heap_page tables segment page ≡ true → HasHeapPage tables segment page
heap_page_of tables segment page is =
    let one = any_in (has_tuples tables.contents page) (relations_in tables segment) is in
    let passes = in_filter (is_in_segment tables segment) (map.keys tables.definitions.relations) one.0 one.1 in
    record { relation = one.0; stands = in_segment tables segment one.0 passes.1; has = one.2 }

pub heap_page_at : (tables : Tables) (segment : Name) (page : ℕ) → HasHeapPage tables segment page → is_heap_page tables segment page ≡ true
heap_page_at tables segment page on =
    let defined = some_of _ (stands_defined tables segment on.relation on.stands) in
    let listed = in_keys (map.entries tables.definitions.relations) on.relation defined.0 (in_entries name_apart tables.definitions.relations on.relation defined.0 defined.1) in
    in_any (has_tuples tables.contents page) (relations_in tables segment) on.relation (passes_filter (is_in_segment tables segment) (map.keys tables.definitions.relations) on.relation listed (stands_in tables segment on.relation on.stands)) on.has

-- how many there are, of one segment
abbrev pub pages_in : ℕ → Tables → Name → ℕ
pages_in slots tables segment = count_by (is_heap_page tables segment) (range_with_len 0 slots)
