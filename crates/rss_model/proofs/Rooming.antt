-- Room for pages: each change, and each that is undone, takes two pages more at most.
use Rattle.std.proofs.Common.{◌≡◌, ◌≢◌, inl, inr, ℕ, zero, suc, ◌+◌, ◌*◌, ◌≤◌, ◌<◌, Bool, true, false, List, [], ◌∷◌, length, refl, sym, ◌∙◌, ap, subst, arith}
use Rattle.std.specs.Prelude.{Option, Some, None, is_some, option_map, unwrap_or, count_by, sum_by, ◌||◌, map as list_map}
use Rattle.std.specs.List.{list_any, range_with_len}
use Rattle.std.specs.Ordering.{eq_by_cmp}
use Rattle.std.specs.Cmp.{Equal-is}
use Rattle.std.specs.FinMap as finite
use Rattle.std.specs.FinMap.{entries_sorted, is_sorted}
use Rattle.std.proofs.lemmas.List.{length-append}
use Rattle.std.proofs.lemmas.List.Sums.{sum_by-cons}
use Rattle.std.proofs.Math.Dec.{T}
use Rattle.rss_base.specs.Sizes.{page_entries}
use Rattle.rss_base.specs.declared.name.Name.{Name}
use Rattle.rss_base.specs.declared.tid.Tid.{Tid}
use Rattle.rss_base.specs.declared.item.Item.{Item}
use Rattle.rss_base.specs.declared.item.Item.TheVariants.{Segment, Relation, Tuple, Chain, Key}
use Rattle.rss_model.specs.Items.{Content, name_cmp}
use Rattle.rss_model.specs.Tables.{LinkDef, Definitions, Tables, Contents, put, segment_of, tuple_count, is_tuple_of}
use Rattle.rss_model.specs.Chains.{chain}
use Rattle.rss_model.specs.Changes.{Change, undo, undone}
use Rattle.rss_model.specs.Meter.{is_in_segment, relations_in, has_tuples, is_heap_page, heap_pages, of_relation, of_chain, coming, overfills, MayLead, changes_of, counts_for}
use Rattle.rss_model.specs.Steps.{MayUndo}
use Rattle.rss_model.specs.Steps.MayUndo.{none, more}
use Rattle.rss_model.proofs.Codes.{name_total, name_apart}
use Rattle.rss_model.proofs.Contents.{tied}
use Rattle.rss_model.proofs.Counts.{one_if, counts_same, counts_put}
use Rattle.rss_model.proofs.LogLists.{by_test, by_same, false_true}
use Rattle.rss_model.proofs.LogChanging.{put_other}
use Rattle.rss_model.proofs.Heap.{count_same}
use Rattle.rss_model.proofs.SeenAlike.{not_below, all_below}
use Rattle.rss_model.proofs.ImageLists.{T_parts}
use Rattle.rss_model.proofs.Mixing.{In, in_filter}

-- ---- lists

any_same : {A : Type 0} (p q : A → Bool) (xs : List A) → ((a : A) → In a xs → p a ≡ q a) → list_any p xs ≡ list_any q xs
any_same p q [] same = refl
any_same p q (x ∷ xs) same = λ i. same x (inl refl) i || any_same p q xs (λ a is. same a (inr is)) i

pub one_test : (a b : Bool) → one_if a ≤ 1
one_test true b = omega arith
one_test false b = omega arith

-- in a range, a test that changes at one place
module _ (f g : ℕ → Bool) (p : ℕ) (same : (k : ℕ) → k ≢ p → f k ≡ g k) where
  above : (n a : ℕ) → p < a → count_by f (range_with_len a n) ≡ count_by g (range_with_len a n)
  above zero a lt = refl
  above (suc n) a lt =
      let here : one_if (f a) ≡ one_if (g a) = ap one_if (same a (λ e. omega (arith, e, lt))) in
      omega (arith, here, above n (a + 1) (omega (arith, lt)), sum_by-cons (λ k. one_if (f k)) a (range_with_len (a + 1) n), sum_by-cons (λ k. one_if (g k)) a (range_with_len (a + 1) n))

  near : (n a : ℕ) → count_by f (range_with_len a n) ≤ count_by g (range_with_len a n) + 1
  near zero a = omega arith
  near (suc n) a = by_same a p
      (λ e. omega (arith, above n (a + 1) (omega (arith, e)), one_test (f a) true, sum_by-cons (λ k. one_if (f k)) a (range_with_len (a + 1) n), sum_by-cons (λ k. one_if (g k)) a (range_with_len (a + 1) n)))
      (λ e. omega (arith, ap one_if (same a e), near n (a + 1), sum_by-cons (λ k. one_if (f k)) a (range_with_len (a + 1) n), sum_by-cons (λ k. one_if (g k)) a (range_with_len (a + 1) n)))

-- over names that rise, a number that is one more at one of them
by_name : {G : Type 0} (a b : Name) → (a ≡ b → G) → ((a ≡ b → ⊥) → G) → G
by_name a b same other = by_test (eq_by_cmp name_cmp a b)
    (λ e. same (name_apart a b ((Equal-is (name_cmp a b)).0 e)))
    (λ e. other (λ f. false_true (subst (λ (n : Name). eq_by_cmp name_cmp a n ≡ true) f (tied name_total name_apart a)) e))

module _ {V : Type 0} (f g : Name → ℕ) (p : Name) (same : (n : Name) → n ≢ p → f n ≡ g n) (one : f p ≤ g p + 1) where
  abbrev names : List (Name × V) → List Name
  names es = list_map (λ e. e.0) es

  sum_off : (es : List (Name × V)) → ((e : Name × V) → In e es → e.0 ≢ p) → sum_by f (names es) ≡ sum_by g (names es)
  sum_off [] off = refl
  sum_off (e ∷ es) off = omega (arith, same e.0 (off e (inl refl)), sum_off es (λ d is. off d (inr is)), sum_by-cons f e.0 (names es), sum_by-cons g e.0 (names es))

  sum_near : (es : List (Name × V)) → T (is_sorted name_cmp es) → sum_by f (names es) ≤ sum_by g (names es) + 1
  sum_near [] sorted = omega arith
  sum_near (e ∷ es) sorted =
      let parts = T_parts _ _ sorted in
      by_name e.0 p
      (λ is.
      let rest = sum_off es (λ d d_in same_name. not_below name_total name_apart p (ap (name_cmp p) (sym same_name) ∙ ap (λ (n : Name). name_cmp n d.0) (sym is) ∙ all_below name_total name_apart e.0 es parts.0 d d_in)) in
      let fs = ap f is in
      let gs = ap g is in
      omega (arith, rest, one, fs, gs, sum_by-cons f e.0 (names es), sum_by-cons g e.0 (names es)))
      (λ off. omega (arith, same e.0 off, sum_near es parts.1, sum_by-cons f e.0 (names es), sum_by-cons g e.0 (names es)))

-- ---- tuples that a change may make longer

few_counted : {A : Type 0} (p : A → Bool) (xs : List A) → count_by p xs ≤ length xs
few_counted p [] = omega arith
few_counted p (x ∷ xs) = omega (arith, few_counted p xs, one_test (p x) true, sum_by-cons (λ y. one_if (p y)) x xs)

one_of : (relation : Option Name) (tid : Option Tid) → length (of_relation relation tid) ≤ 1
one_of (Some relation) (Some tid) = omega arith
one_of (Some relation) None = omega arith
one_of None tid = omega arith

chain_two : (link : Option LinkDef) (parent comes : Option Tid) → length (of_chain link parent comes) ≤ 2
chain_two None parent comes = omega arith
chain_two (Some link) parent comes =
    omega (arith, one_of (Some link.child) comes, one_of link.parent parent, length-append (of_relation (Some link.child) comes) (of_relation link.parent parent))

-- ---- pages of the heap

module _ (slots : ℕ) (definitions : Definitions) (a : Contents) (held : Option Content) where
  abbrev tables : Tables
  tables = record { definitions = definitions; contents = a }

  abbrev with_item : Item → Tables
  with_item item = record { definitions = definitions; contents = put a item held }

  has_same : (item : Item) (page : ℕ) (relation : Name) → ((slot : ℕ) → Tuple relation (record { page = page; slot = slot }) ≡ item → ⊥) → has_tuples (put a item held) page relation ≡ has_tuples a page relation
  unfolding has_tuples
  has_same item page relation off = any_same _ _ (range_with_len 0 page_entries) (λ slot is. ap is_some (put_other a item (Tuple relation (record { page = page; slot = slot })) held (off slot)))

  page_same : (item : Item) (segment : Name) (page : ℕ) → ((relation : Name) (slot : ℕ) → is_in_segment tables segment relation ≡ true → Tuple relation (record { page = page; slot = slot }) ≡ item → ⊥) → is_heap_page (with_item item) segment page ≡ is_heap_page tables segment page
  page_same item segment page off = any_same _ _ (relations_in tables segment) (λ relation is.
      has_same item page relation (λ slot. off relation slot (in_filter (is_in_segment tables segment) (finite.keys definitions.relations) relation is).1))

  in_this : (segment relation : Name) → is_in_segment tables segment relation ≡ true → segment_of tables relation ≡ Some segment
  in_this segment relation is = by (segment_of tables relation) is
    where
      by : (o : Option Name) → unwrap_or (option_map (eq_by_cmp name_cmp segment) o) false ≡ true → o ≡ Some segment
      by None e = absurd (cc (e))
      by (Some s) e = ap (λ (n : Name). Some n) (sym (name_apart segment s ((Equal-is (name_cmp segment s)).0 e)))

  abbrev pages_before : Name → ℕ
  pages_before segment = count_by (is_heap_page tables segment) (range_with_len 0 slots)

  abbrev pages_of : (item : Item) → Name → ℕ
  pages_of item segment = count_by (is_heap_page (with_item item) segment) (range_with_len 0 slots)

  -- what is no tuple makes no page
  other : (item : Item) → ((relation : Name) (tid : Tid) → Tuple relation tid ≡ item → ⊥) → heap_pages slots (with_item item) ≡ heap_pages slots tables
  unfolding heap_pages
  other item off =
      let all : pages_of item ≡ pages_before =
      λ i segment. count_same (is_heap_page (with_item item) segment) (is_heap_page tables segment) (range_with_len 0 slots) (λ page. page_same item segment page (λ r slot within at. off r (record { page = page; slot = slot }) at)) i in
      ap (λ (f : Name → ℕ). sum_by f (finite.keys definitions.segments)) all

  -- a tuple makes one more at most
  tuple_put : (relation : Name) (tid : Tid) → heap_pages slots (with_item (Tuple relation tid)) ≤ heap_pages slots tables + 1
  unfolding heap_pages
  tuple_put relation tid = sum_near (λ segment. count_by (is_heap_page (with_item (Tuple relation tid)) segment) (range_with_len 0 slots)) (λ segment. count_by (is_heap_page tables segment) (range_with_len 0 slots)) home
      (λ segment off. near_same (is_heap_page (with_item (Tuple relation tid)) segment) (is_heap_page tables segment) (λ page. page_same (Tuple relation tid) segment page (λ r slot within at. off (at_home segment (ap (segment_of tables) (sym (names_of at)) ∙ in_this segment r within)))))
      (near (is_heap_page (with_item (Tuple relation tid)) home) (is_heap_page tables home) tid.page (λ page off. page_same (Tuple relation tid) home page (λ r slot within at. off (pages_at at))) slots 0)
      (finite.entries definitions.segments) (entries_sorted definitions.segments)
    where
      home : Name
      home = unwrap_or (segment_of tables relation) relation

      at_home : (segment : Name) → segment_of tables relation ≡ Some segment → segment ≡ home
      at_home segment is = ap (λ (o : Option Name). unwrap_or o relation) (sym is)

      names_of : {r : Name} {t : Tid} → Tuple r t ≡ Tuple relation tid → r ≡ relation
      names_of e = cc (e)

      pages_at : {r : Name} {page slot : ℕ} → Tuple r (record { page = page; slot = slot }) ≡ Tuple relation tid → page ≡ tid.page
      pages_at e = cc (e)

      near_same : (f g : ℕ → Bool) → ((k : ℕ) → f k ≡ g k) → count_by f (range_with_len 0 slots) ≡ count_by g (range_with_len 0 slots)
      near_same f g same = count_same f g (range_with_len 0 slots) same

  -- whatever it is
  pub heap_put : (item : Item) → heap_pages slots (with_item item) ≤ heap_pages slots tables + 1
  heap_put (Tuple relation tid) = tuple_put relation tid
  heap_put (Segment name) = omega (arith, other (Segment name) (λ r t e. cc (e)))
  heap_put (Relation name) = omega (arith, other (Relation name) (λ r t e. cc (e)))
  heap_put (Chain link parent) = omega (arith, other (Chain link parent) (λ r t e. cc (e)))
  heap_put (Key image values) = omega (arith, other (Key image values) (λ r t e. cc (e)))

  -- Pages of the heap and overflow pages rise by two together at most: a tuple makes one of each, and a chain two overflow pages.
  pub lead_two : (item : Item) (from to : ℕ) → MayLead tables (with_item item) item from to → heap_pages slots (with_item item) + to ≤ heap_pages slots tables + from + 2
  lead_two (Tuple relation tid) from to lead =
      omega (arith, lead, tuple_put relation tid, few_counted (overfills tables (with_item (Tuple relation tid))) ((relation, tid) ∷ []))
  lead_two (Chain link parent) from to lead =
      let touches = of_chain (finite.get definitions.links link) parent (coming (chain a link parent) (chain (put a (Chain link parent) held) link parent)) in
      omega (arith, lead, other (Chain link parent) (λ r t e. cc (e)), few_counted (overfills tables (with_item (Chain link parent))) touches, chain_two (finite.get definitions.links link) parent (coming (chain a link parent) (chain (put a (Chain link parent) held) link parent)))
  lead_two (Segment name) from to lead = omega (arith, lead, other (Segment name) (λ r t e. cc (e)))
  lead_two (Relation name) from to lead = omega (arith, lead, other (Relation name) (λ r t e. cc (e)))
  lead_two (Key image values) from to lead = omega (arith, lead, other (Key image values) (λ r t e. cc (e)))

-- ---- changes undone

-- what the undoing of some changes leaves takes as many pages more at most
pub undone_heap : (slots : ℕ) {tables : Tables} {ds : List Change} {over next : ℕ} → MayUndo tables ds over next
    → heap_pages slots (record tables { contents = undone tables.contents ds }) + next ≤ heap_pages slots tables + over + 2 * length ds
undone_heap slots none = omega arith
undone_heap slots {tables = tables} (more {change = c} {changes = ds} lead rest) =
    omega (arith, undone_heap slots rest, lead_two slots tables.definitions tables.contents c.old c.item _ _ lead)

-- what counts of the contents one more at most where an item is put that counts, counts so many more where changes are undone
module _ (measure : Contents → ℕ) (counts : Item → Bool) (puts : (contents : Contents) (item : Item) (held : Option Content) → measure (put contents item held) ≤ measure contents + one_if (counts item)) where
  pub undone_most : (contents : Contents) (ds : List Change) → measure (undone contents ds) ≤ measure contents + count_by (λ d. counts d.item) ds
  undone_most contents [] = omega arith
  undone_most contents (c ∷ ds) = omega (arith, undone_most (undo contents c) ds, puts contents c.item c.old, sum_by-cons (λ (d : Change). one_if (counts d.item)) c ds)

-- so a relation has as many tuples more at most
pub put_count : (relation : Name) (contents : Contents) (item : Item) (held : Option Content) → tuple_count (put contents item held) relation ≤ tuple_count contents relation + one_if (counts_for item relation)
put_count relation contents item held = by_test (is_tuple_of relation item)
    (λ on. omega (arith, counts_put contents item held relation on, one_test (is_some held) true, ap one_if on))
    (λ off. omega (arith, counts_same contents item held relation off, ap one_if off))

pub undone_count : (relation : Name) (contents : Contents) (ds : List Change) → tuple_count (undone contents ds) relation ≤ tuple_count contents relation + changes_of ds relation
undone_count relation contents ds = undone_most (λ held. tuple_count held relation) (λ item. counts_for item relation) (put_count relation) contents ds
