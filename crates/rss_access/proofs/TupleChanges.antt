-- What a call on one tuple changes.
use Rattle.std.proofs.Common.{◌≡◌, ◌≢◌, ◌⊎◌, inl, inr, ⊎_elim, ℕ, zero, suc, ◌+◌, ◌-◌, ◌<◌, ◌≤◌, true, false, Bool, cond, ◌&&◌, ◌==◌, List, [], ◌∷◌, length, set, map, drop, get_or, Option, Some, None, refl, sym, ◌∙◌, ap, subst, arith, rules, ext_get_or, length-set}
use Rattle.std.specs.Prelude.{Result, Ok, Err, OnOk, IsSome, slice_get, sum_by, sum, count_by, is_some}
use Rattle.std.specs.List.{range_with_len}
use Rattle.std.proofs.lemmas.Bool.{cases_Bool, cases_eq, cases_lt, cond-true, cond-false, ne_eqb, eq-eqb, and_from, and_right, true≢false}
use Rattle.std.proofs.lemmas.List.{length-map, get_or-map, get_or-set_same, get_or-set_other}
use Rattle.std.proofs.lemmas.List.Sums.{sum_by-cons, sum-map, get_or-le-sum_by}
use Rattle.std.proofs.lemmas.List.FromFn.{length-map-range_with_len, get_or-map-range_with_len, get_or-range_with_len}
use Rattle.std.proofs.lemmas.Option.{none-some, same_Some}
use Rattle.rss_base.specs.DiskRule.{IsTold}
use Rattle.rss_base.specs.Paged.{Mapped, Held, IsUnmappedAt, page_key, mapped_in, mapped_of, mapped_pages}
use Rattle.rss_base.specs.Steps.{PagesView, Keys, no_page}
use Rattle.rss_base.specs.declared.fault.PageFault.{PageFault}
use Rattle.rss_base.specs.declared.tid.Tid.{Tid}
use Rattle.rss_base.specs.declared.key.PageKey.{PageKey}
use Rattle.rss_base.specs.declared.key.Space.TheVariants.{Home, Overflow}
use Rattle.rss_page.specs.Content.{Content, Empty, Here, Forward, body_length}
use Rattle.rss_base.specs.Sizes.{bodies_room}
use Rattle.rss_page.specs.Slotted.{HasRoom}
use Rattle.rss_page.specs.Slotted.{body_bytes as bytes_in}
use Rattle.rss_page.specs.Surveyed.{held_at}
use Rattle.rss_page.proofs.Contents.{length-entries}
use Rattle.rss_tuple.specs.Directory.{Entries, Bodies, contents_in, contents, homes, overflows, body_by, bodies_of, is_same_tid, with_body, tid_at}
use Rattle.rss_tuple.specs.TupleSteps.{TuplesCall, tuples_in, only_tuple, pages_for}
use Rattle.rss_tuple.specs.Heaps.{AreHeaps}
use Rattle.rss_tuple.specs.Placing.{IsFree, TakesOnly, TakesOne, MayTake, home, overflow}
use Rattle.rss_tuple.specs.Calls.{IsSegment, IsNoLonger, PutsTuple}
use Rattle.rss_tuple.proofs.Seen.{high_empty}
use Rattle.rss_tuple.proofs.Changes.{empty_absent, live_some, fits_unmapped}
use Rattle.rss_tuple.proofs.Placed.{empty_there}
use Rattle.rss_access.specs.Tuples.{IsPageFor, body_at, size_of_body, bytes_at, ChangesTuple, FindsBody}

-- ---- sums over a range of numbers

pub range-le : (f g : ℕ → ℕ) (a n : ℕ) → ((j : ℕ) → f j ≤ g j) → sum_by f (range_with_len a n) ≤ sum_by g (range_with_len a n)
range-le f g a zero less = omega arith
range-le f g a (suc n) less =
    omega (arith, range-le f g (a + 1) n less, less a, sum_by-cons f a (range_with_len (a + 1) n), sum_by-cons g a (range_with_len (a + 1) n))

-- one number counts so many more
range-more : (f g : ℕ → ℕ) (a n k more : ℕ) → a ≤ k → k < a + n → f k + more ≤ g k → ((j : ℕ) → j ≢ k → f j ≤ g j) → sum_by f (range_with_len a n) + more ≤ sum_by g (range_with_len a n)
range-more f g a zero k more low high one others = absurd (omega arith)
range-more f g a (suc n) k more low high one others =
    let cons_f = sum_by-cons f a (range_with_len (a + 1) n) in
    let cons_g = sum_by-cons g a (range_with_len (a + 1) n) in
    elim (cases_eq a k) [
      | inl here ↦
          let at : f a + more ≤ g a = subst (λ (x : ℕ). f x + more ≤ g x) (sym here) one in
          let rest : sum_by f (range_with_len (a + 1) n) ≤ sum_by g (range_with_len (a + 1) n) = behind f g (a + 1) n k (omega (arith, here)) others in
          omega (arith, rest, at, cons_f, cons_g)
      | inr apart ↦
          let rest = range-more f g (a + 1) n k more (omega (arith, apart)) (omega arith) one others in
          omega (arith, rest, others a apart, cons_f, cons_g)
    ]
  where
    behind : (f g : ℕ → ℕ) (a n k : ℕ) → k < a → ((j : ℕ) → j ≢ k → f j ≤ g j) → sum_by f (range_with_len a n) ≤ sum_by g (range_with_len a n)
    behind f g a zero k low others = omega arith
    behind f g a (suc n) k low others =
        omega (arith, behind f g (a + 1) n k (omega arith) others, others a (λ is. omega (arith, is)), sum_by-cons f a (range_with_len (a + 1) n), sum_by-cons g a (range_with_len (a + 1) n))

-- either all of them pass, or there is one that doesn't
all_or_one : (test : ℕ → Bool) (a n : ℕ) → ((k : ℕ) × (k < a + n) × (test k ≡ false)) ⊎ (count_by test (range_with_len a n) ≡ n)
all_or_one test a zero = inr refl
all_or_one test a (suc n) = elim (cases_Bool (test a)) [
  | inl is ↦ elim (all_or_one test (a + 1) n) [
    | inl one ↦ inl (one.0, omega (arith, one.1), one.2)
    | inr all ↦ inr (omega (arith, all, ap {B = ℕ} (λ (b : Bool). cond b 1 0) is, sum_by-cons (λ (k : ℕ). cond (test k) 1 0) a (range_with_len (a + 1) n)))
  ]
  | inr not ↦ inl (a, omega arith, not)
]

-- ---- a page that isn't mapped

-- where fewer pages are mapped than there are slots, some home page of each segment isn't
pub some_unmapped : (slots : ℕ) (mapped : Mapped) (segment : ℕ) → IsSegment segment → mapped_pages slots mapped < slots → (number : ℕ) × IsUnmappedAt slots mapped segment Home number
unfolding mapped_pages
some_unmapped slots mapped segment within few = elim (all_or_one (λ number. mapped (page_key segment Home number)) 0 slots) [
  | inl one ↦ (one.0, record { within = omega (arith, one.1); free = one.2 })
  | inr all ↦
      let place : get_or (range_with_len 1 8) (segment - 1) 0 ≡ segment = omega (arith, within.low, within.high, get_or-range_with_len 1 8 (segment - 1) 0 (omega (arith, within.low, within.high))) in
      let part : mapped_in mapped Home slots segment ≤ mapped_of mapped Home slots =
      omega (arith, ap (mapped_in mapped Home slots) place, get_or-le-sum_by (mapped_in mapped Home slots) (range_with_len 1 8) (segment - 1) 0 (omega (arith, within.high))) in
      absurd (omega (arith, few, all, part))
]

-- its identifiers are free
pub free_there : (view : PagesView) (segment number : ℕ) → is_some (view.held (page_key segment Home number)) ≡ view.mapped (page_key segment Home number) → IsUnmappedAt view.slots view.mapped segment Home number → IsFree (tuples_in view) segment [] (tid_at number 0)
free_there view segment number holds unmapped = record {
  named = record { within = unmapped.within; low = omega arith; allowed = λ has. absurd (omega (arith, has.1)) };
  absent = empty_absent (overflows view.held segment) (homes view.held segment number 0) (empty_there view (page_key segment Home number) 0 holds unmapped.free);
}

-- ---- a body that has no room at home

-- the bodies of a page, by its slots
by_slots : (held : List Content) → length held ≡ 128 → bytes_in held ≡ sum_by (λ slot. body_length (held_at held slot)) (range_with_len 0 128)
by_slots held long =
    let sizes : List ℕ = map (λ slot. body_length (held_at held slot)) (range_with_len 0 128) in
    let count : length (map body_length held) ≡ 128 = omega (arith, length-map {A = Content} {B = ℕ} held body_length, long) in
    let same : map body_length held ≡ map (λ slot. body_length (held_at held slot)) (range_with_len 0 128) =
    ext_get_or 0 (map body_length held) (map (λ slot. body_length (held_at held slot)) (range_with_len 0 128)) (count ∙ sym (length-map-range_with_len (λ slot. body_length (held_at held slot)) 0 128))
    (λ slot low.
    get_or-map body_length held slot Empty 0 (omega (arith, low, count, long))
    ∙ sym (get_or-map-range_with_len (λ slot. body_length (held_at held slot)) 0 128 slot slot 0 (omega (arith, low, count)) (omega arith)))
    in
    sym (sum-map body_length held) ∙ ap sum same ∙ sum-map (λ slot. body_length (held_at held slot)) (range_with_len 0 128)

-- the tuple of an entry has its bytes at least
entry_less : (entries : Entries) (content : Content) → body_length content ≤ size_of_body (body_by entries content)
entry_less entries Empty = omega arith
entry_less entries (Here body) = omega arith
entry_less entries (Forward page slot) = omega arith

contents_long : (page : Option (List ℕ)) → (length (contents_in page) ≡ 128) ⊎ (page ≡ None)
contents_long None = inr refl
contents_long (Some bytes) = inl (length-entries bytes)

same_tid : (tid : Tid) → is_same_tid (tid_at tid.page tid.slot) tid ≡ true
same_tid tid = search rules

other_tid : (tid : Tid) (slot : ℕ) → slot ≢ tid.slot → is_same_tid (tid_at tid.page slot) tid ≡ false
other_tid tid slot other = cond-right (tid.page == tid.page) (ne_eqb slot tid.slot other)
  where
    cond-right : (b : Bool) {c : Bool} → c ≡ false → (b && c) ≡ false
    cond-right true is = is
    cond-right false is = refl

more_than : (a b c d : ℕ) → 3056 < a + d → a ≡ b → b + d ≤ c → 3056 < c
more_than a b c d over same less = omega arith

module _ (held : Held) (segment : ℕ) (tid : Tid) (body : List ℕ) where
  abbrev all : List Content
  all = contents held (page_key segment Home tid.page)

  abbrev beside : List Content
  beside = set all tid.slot Empty

  abbrev was : ℕ → ℕ
  was slot = body_length (held_at beside slot)

  abbrev now : ℕ → ℕ
  now slot = size_of_body (with_body (bodies_of held) segment tid (Some body) segment (tid_at tid.page slot))

  abbrev is_here : ℕ → Bool
  is_here slot = (segment == segment) && is_same_tid (tid_at tid.page slot) tid

  here : tid.slot < 128 → length all ≡ 128 → was tid.slot + length body ≤ now tid.slot
  here low long =
      let same : is_here tid.slot ≡ true = and_from (segment == segment) (is_same_tid (tid_at tid.page tid.slot) tid) (eq-eqb segment segment refl) (same_tid tid) in
      omega (arith, ap body_length (get_or-set_same all tid.slot Empty Empty (omega (arith, low, long))), ap size_of_body (cond-true (is_here tid.slot) (Some body) (bodies_of held segment (tid_at tid.page tid.slot)) same))

  there : (slot : ℕ) → slot ≢ tid.slot → was slot ≤ now slot
  there slot other =
      let apart : is_here slot ≡ false = and_right (segment == segment) (is_same_tid (tid_at tid.page slot) tid) (other_tid tid slot other) in
      omega (arith, ap body_length (get_or-set_other all tid.slot slot Empty Empty other), entry_less (overflows held segment) (homes held segment tid.page slot), ap size_of_body (cond-false (is_here slot) (Some body) (bodies_of held segment (tid_at tid.page slot)) apart))

  -- where a body has no room beside the others of its home page, all tuples with identifiers of that page have more bytes than it has room for
  overfilled : tid.slot < 128 → length body ≤ 2400 → (HasRoom all tid.slot (length body) → ⊥) → bodies_room < bytes_at (with_body (bodies_of held) segment tid (Some body)) segment tid.page
  overfilled low few full = elim (contents_long (held (page_key segment Home tid.page))) [
    | inr none ↦ absurd (full (fits_unmapped held (page_key segment Home tid.page) tid.slot (length body) none few))
    | inl long ↦ elim (cases_lt 3056 (bytes_in beside + length body)) [
      | inr room ↦ absurd (full room)
      | inl over ↦
          let each : sum_by was (range_with_len 0 128) + length body ≤ sum_by now (range_with_len 0 128) = range-more was now 0 128 tid.slot (length body) (omega arith) (omega (arith, low)) (here low long) (λ slot other. there slot other) in
          let count : length beside ≡ 128 = omega (arith, long, length-set all tid.slot Empty) in
          more_than _ _ _ (length body) over (by_slots beside count) each
    ]
  ]

-- ---- a tuple that was put

taken : {keys : Keys} {old new : PagesView} → TakesOnly keys old new → (key : PageKey) → new.mapped key ≡ true → old.mapped key ≡ false → keys key
taken takes key is not = ⊎_elim (λ was. absurd (let never : true ≡ false = sym was ∙ not in cc)) (λ may. may) (takes.each key is)

page_for : (segment : ℕ) (tid : Tid) (key : PageKey) → pages_for segment tid key → IsPageFor tid key
page_for segment tid key (inl home_page) = inl (ap (λ (k : PageKey). k.space) home_page, ap (λ (k : PageKey). k.number) home_page)
page_for segment tid key (inr over) = inr (ap (λ (k : PageKey). k.space) over)

overfills : (old : PagesView) (segment : ℕ) (tid : Tid) (body : List ℕ) (key : PageKey) → tid.slot < 128 → length body ≤ 2400 → key.space ≡ Overflow → MayTake old segment tid body key → bodies_room < bytes_at (with_body (bodies_of old.held) segment tid (Some body)) segment tid.page
overfills old segment tid body key low few space (home at none) = absurd (let both : Overflow ≡ Home = sym space ∙ ap (λ (k : PageKey). k.space) at in cc)
overfills old segment tid body key low few space (overflow at full away none) = overfilled old.held segment tid body low few full

-- an overflow page is taken only where the body is longer than the one before
abbrev pub OnlyLonger : PagesView → PagesView → ℕ → Tid → List ℕ → Type 0
OnlyLonger old new segment tid body =
    IsTold old.disk → (key : PageKey) → key.space ≡ Overflow → new.mapped key ≡ true → old.mapped key ≡ false → size_of_body (bodies_of old.held segment tid) < length body

-- the pages of this tuple alone were changed
for_page : (segment : ℕ) (tid : Tid) (before now : Mapped) → ((key : PageKey) → now key ≡ true → (before key ≡ true) ⊎ pages_for segment tid key) → (key : PageKey) → now key ≡ true → (before key ≡ true) ⊎ IsPageFor tid key
for_page segment tid before now changed key is = ⊎_elim (λ was. inl was) (λ touched. inr (page_for segment tid key touched)) (changed key is)

-- a tuple was put, whether one stood there or not
changes_by : {segment : ℕ} {tid : Tid} {body : List ℕ} {old new : PagesView} → (IsTold old.disk → tid.slot < 128) → length body ≤ 2400 → OnlyLonger old new segment tid body → TakesOne segment tid body old new → ((key : PageKey) → new.changed key ≡ true → (old.changed key ≡ true) ⊎ pages_for segment tid key)
    → (IsTold old.disk → bodies_of new.held ≡ with_body (bodies_of old.held) segment tid (Some body)) → (IsTold old.disk → AreHeaps new) → ChangesTuple segment tid (Some body) old new
changes_by {segment = segment} {tid = tid} {body = body} {old = old} {new = new} low few longer takes changed put heaps = record {
  one = λ key other heap heap_too is not there none. taken takes.one key is not ∙ sym (taken takes.one other there none);
  changed = λ key heap is. for_page segment tid old.changed new.changed changed key is;
  sets = λ told. record {
    bodies = put told;
    heaps = heaps told;
    over = λ key space is not.
        subst (λ (b : Bodies). bodies_room < bytes_at b segment tid.page) (sym (put told))
        (overfills old segment tid body key (low told) few space (taken (takes.may told) key is not));
    grows = longer told;
  };
}

pub changes_put : {T : Type 0} {cost segment : ℕ} {tid : Tid} {body : List ℕ} {old new : PagesView} (result : Result T PageFault) → (IsTold old.disk → tid.slot < 128) → length body ≤ 2400 → OnOk result (OnlyLonger old new segment tid body) → PutsTuple segment tid body cost (tuples_in old) (tuples_in new) result → OnOk result (ChangesTuple segment tid (Some body) old new)
changes_put (Err e) low few longer puts = tt
changes_put (Ok value) low few longer puts = changes_by low few longer puts.takes puts.did.below.step.changed_off puts.put puts.did.heaps

-- no tuple stood there
pub longer_new : (old new : PagesView) (segment : ℕ) (tid : Tid) (body : List ℕ) → 1 ≤ length body → (IsTold old.disk → bodies_of old.held segment tid ≡ None) → OnlyLonger old new segment tid body
longer_new old new segment tid body some absent told key space is not = omega (arith, some, ap size_of_body (absent told))

pub longer_ok : {T : Type 0} {A : Type 0} (result : Result T PageFault) → A → OnOk result A
longer_ok (Ok value) a = a
longer_ok (Err e) a = tt

-- one stood there, and no page is taken where the body isn't longer
pub longer_put : {T : Type 0} (old new : PagesView) (segment : ℕ) (tid : Tid) (body : List ℕ) (result : Result T PageFault) → (IsTold old.disk → IsSome (bodies_of old.held segment tid)) → OnOk result (IsTold old.disk → IsNoLonger (tuples_in old) segment tid (length body) → TakesOnly no_page old new) → OnOk result (OnlyLonger old new segment tid body)
longer_put old new segment tid body (Err e) live takes = tt
longer_put old new segment tid body (Ok value) live takes = λ told key space is not. by told key is not (bodies_of old.held segment tid) refl (live told)
  where
    by : IsTold old.disk → (key : PageKey) → new.mapped key ≡ true → old.mapped key ≡ false → (was : Option (List ℕ)) → bodies_of old.held segment tid ≡ was → IsSome was → size_of_body was < length body
    by told key is not None at some = absurd (cc)
    by told key is not (Some bytes) at some = elim (cases_lt (length bytes) (length body)) [
      | inl longer ↦ longer
      | inr most ↦ absurd (taken (takes told (record { bytes = bytes; body = at; most = most })) key is not)
    ]

-- a tuple was taken away
pub changes_removed : {T : Type 0} {cost segment : ℕ} {tid : Tid} {old new : PagesView} (result : Result T PageFault) → OnOk result (IsTold old.disk → bodies_of new.held ≡ with_body (bodies_of old.held) segment tid None) → OnOk result (TakesOnly no_page old new) → TuplesCall (pages_for segment tid) (only_tuple segment tid) cost (tuples_in old) (tuples_in new) result → OnOk result (ChangesTuple segment tid None old new)
changes_removed (Err e) gone takes did = tt
changes_removed {segment = segment} {tid = tid} {old = old} {new = new} (Ok value) gone takes did = record {
  one = λ key other heap heap_too is not there none. absurd (taken takes key is not);
  changed = λ key heap is. for_page segment tid old.changed new.changed did.below.step.changed_off key is;
  sets = λ told. record {
    bodies = gone told;
    heaps = did.heaps told;
    over = λ key space is not. absurd (taken takes key is not);
    grows = λ key space is not. absurd (taken takes key is not);
  };
}

-- a tuple stands at an identifier of one of the slots of a page
pub live_low : (view : PagesView) (segment : ℕ) (tid : Tid) → IsSome (bodies_of view.held segment tid) → tid.slot < 128
live_low view segment tid live = elim (cases_lt tid.slot 128) [
  | inl low ↦ low
  | inr high ↦ absurd (live_some (overflows view.held segment) (homes view.held segment tid.page tid.slot) live (high_empty view.held (page_key segment Home tid.page) tid.slot high))
]

-- ---- a body that was found

-- there is none
pub absent_body : {segment number : ℕ} {tid : Tid} {pages : PagesView} → body_at pages segment tid ≡ None → FindsBody segment number tid pages false []
absent_body none = record { rest = []; some = λ is. absurd (true≢false (sym is)); none = λ not values stands. none-some _ (sym none ∙ stands) }

-- it begins with the number of the relation
pub own_body : {segment number : ℕ} {tid : Tid} {pages : PagesView} {body : List ℕ} → body_at pages segment tid ≡ Some body → slice_get body 0 ≡ Some number → FindsBody segment number tid pages true body
own_body {number = number} {body = body} stands first = record { rest = drop 1 body; some = λ is. (headed body first, stands); none = λ not. absurd (true≢false not) }
  where
    headed : (read : List ℕ) → slice_get read 0 ≡ Some number → read ≡ number ∷ drop 1 read
    headed [] is = absurd (cc)
    headed (byte ∷ rest) is = ap (λ (n : ℕ). n ∷ rest) (same_Some _ _ is)

-- it doesn't
pub other_body : {segment number : ℕ} {tid : Tid} {pages : PagesView} {body : List ℕ} → body_at pages segment tid ≡ Some body → (slice_get body 0 ≡ Some number → ⊥) → FindsBody segment number tid pages false []
other_body stands other = record {
  rest = [];
  some = λ is. absurd (true≢false (sym is));
  none = λ not values is. other (ap (λ (b : List ℕ). slice_get b 0) (same_Some _ _ (sym stands ∙ is)));
}
