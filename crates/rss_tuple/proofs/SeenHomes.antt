-- Home entries that were looked at, one after the other, and the tuples that stand there.
use Rattle.std.proofs.Common.{◌≡◌, ◌⊎◌, inl, inr, ℕ, ◌+◌, ◌<◌, ◌≤◌, Bool, List, [], ◌∷◌, ◌++◌, Some, None, refl, sym, ◌∙◌, ap, subst, arith, append_assoc, append-nil, zero, suc, ◌-◌}
use Rattle.std.specs.Prelude.{flat_map, map}
use Rattle.std.specs.List.{range_with_len}
use Rattle.std.proofs.lemmas.Bool.{cases_lt}
use Rattle.std.proofs.lemmas.Grind.{flat_map-append}
use Rattle.std.proofs.lemmas.List.Folds.{flat_map-map}
use Rattle.std.proofs.lemmas.List.FromFn.{map-range_with_len_more}
use Rattle.rss_base.specs.Paged.{Held, page_key}
use Rattle.rss_base.specs.declared.key.Space.TheVariants.{Home}
use Rattle.rss_page.specs.Content.{Content, Empty, Forward}
use Rattle.rss_tuple.specs.Directory.{Entries, homes, overflows, body_by, tid_at}
use Rattle.rss_tuple.specs.Checked.{Rows, row_of, row_at, rows_on, tuples_of}
use Rattle.rss_tuple.specs.Looks.{Sees, Spots, in_front, IsMarked, MarksGoal, MayHold, AreSeen}
use Rattle.rss_tuple.proofs.Seen.{high_empty}

-- ---- entries

module _ (home overflow : Entries) (is_good : List ℕ → Bool) (marks : List ℕ) (spots : Spots) (seen : AreSeen home overflow is_good marks spots) where
  -- some entries more that hold nothing
  pub seen_same : (spots_now : Spots) → ((p s : ℕ) → spots_now p s → spots p s ⊎ (home p s ≡ Empty)) → ((p s : ℕ) → spots p s → spots_now p s) → AreSeen home overflow is_good marks spots_now
  seen_same spots_now which more = record {
    leads = λ p s tp ts inside forward. seen.leads p s tp ts (there p s tp ts inside forward) forward;
    marked = λ p s tp ts inside forward. seen.marked p s tp ts (there p s tp ts inside forward) forward;
    led = λ p s is. let by = seen.led p s is in record { from_page = by.from_page; from_slot = by.from_slot; inside = more by.from_page by.from_slot by.inside; forward = by.forward };
    once = λ p s q r tp ts inside other forward again. seen.once p s q r tp ts (there p s tp ts inside forward) (there q r tp ts other again) forward again;
    good = λ p s body inside is. elim (which p s inside) [
      | inl before ↦ seen.good p s body before is
      | inr none ↦ absurd (let never : None ≡ Some body = sym (ap (body_by overflow) none) ∙ is in cc)
    ];
  }
    where
      there : (p s tp ts : ℕ) → spots_now p s → home p s ≡ Forward tp ts → spots p s
      there p s tp ts inside forward = elim (which p s inside) [
        | inl before ↦ before
        | inr none ↦ absurd (let never : Empty ≡ Forward tp ts = sym none ∙ forward in cc)
      ]

  module _ (page slot : ℕ) where
    -- one entry more
    pub seen_more : (marks_now : List ℕ) (spots_now : Spots) → ((p s : ℕ) → spots_now p s → spots p s ⊎ ((p ≡ page) × (s ≡ slot))) → ((p s : ℕ) → spots p s → spots_now p s) → spots_now page slot → MayHold overflow marks is_good (home page slot) → MarksGoal (home page slot) marks marks_now
        → AreSeen home overflow is_good marks_now spots_now
    seen_more marks_now spots_now which more here holds goal = record {
      leads = λ p s tp ts inside forward. elim (which p s inside) [
        | inl before ↦ seen.leads p s tp ts before forward
        | inr at ↦ holds.leads tp ts (same p s at ∙ forward)
      ];
      marked = λ p s tp ts inside forward. (goal.marked tp ts).1 (elim (which p s inside) [
        | inl before ↦ inl (seen.marked p s tp ts before forward)
        | inr at ↦ inr (same p s at ∙ forward)
      ]);
      led = λ tp ts is. elim ((goal.marked tp ts).0 is) [
        | inl was ↦ let by = seen.led tp ts was in record { from_page = by.from_page; from_slot = by.from_slot; inside = more by.from_page by.from_slot by.inside; forward = by.forward }
        | inr forward ↦ record { from_page = page; from_slot = slot; inside = here; forward = forward }
      ];
      once = λ p s q r tp ts inside other forward again. elim (which p s inside) [
        | inl before ↦ elim (which q r other) [
          | inl early ↦ seen.once p s q r tp ts before early forward again
          | inr at ↦ absurd (holds.fresh tp ts (same q r at ∙ again) (seen.marked p s tp ts before forward))
        ]
        | inr at ↦ elim (which q r other) [
          | inl early ↦ absurd (holds.fresh tp ts (same p s at ∙ forward) (seen.marked q r tp ts early again))
          | inr too ↦ (too.0 ∙ sym at.0, too.1 ∙ sym at.1)
        ]
      ];
      good = λ p s body inside is. elim (which p s inside) [
        | inl before ↦ seen.good p s body before is
        | inr at ↦ holds.good body (ap (body_by overflow) (same p s at) ∙ is)
      ];
    }
      where
        same : (p s : ℕ) → (p ≡ page) × (s ≡ slot) → home page slot ≡ home p s
        same p s at = ap (λ (n : ℕ). home n slot) (sym at.0) ∙ ap (λ (n : ℕ). home p n) (sym at.1)

-- before the first one
pub seen_none : (home overflow : Entries) (is_good : List ℕ → Bool) (marks : List ℕ) → ((page slot : ℕ) → IsMarked marks page slot → ⊥) → AreSeen home overflow is_good marks (in_front 0 0)
seen_none home overflow is_good marks none = record {
  leads = λ p s tp ts inside. absurd (nowhere p s inside);
  marked = λ p s tp ts inside. absurd (nowhere p s inside);
  led = λ p s is. absurd (none p s is);
  once = λ p s q r tp ts inside. absurd (nowhere p s inside);
  good = λ p s body inside. absurd (nowhere p s inside);
}
  where
    nowhere : (p s : ℕ) → in_front 0 0 p s → ⊥
    nowhere p s inside = elim inside [ inl low ↦ omega arith | inr at ↦ omega (arith, at.1) ]

-- ---- the entries in front of one

pub front_more : (page slot p s : ℕ) → in_front page (slot + 1) p s → in_front page slot p s ⊎ ((p ≡ page) × (s ≡ slot))
front_more page slot p s inside = elim inside [
  | inl before ↦ inl (inl before)
  | inr at ↦ elim (cases_lt s slot) [
    | inl low ↦ inl (inr (at.0, low))
    | inr last ↦ inr (at.0, omega (arith, at.1))
  ]
]

pub front_within : (page slot p s : ℕ) → in_front page slot p s → in_front page (slot + 1) p s
front_within page slot p s inside = elim inside [
  | inl before ↦ inl before
  | inr at ↦ inr (at.0, omega (arith, at.1))
]

pub front_here : (page slot : ℕ) → in_front page (slot + 1) page slot
front_here page slot = inr (refl, omega arith)

-- those in front of a page, where the pages in between hold nothing
pub front_page : (home : Entries) (from number : ℕ) → from ≤ number → ((p s : ℕ) → from ≤ p → p < number → home p s ≡ Empty) → (p s : ℕ) → in_front number 0 p s → in_front from 0 p s ⊎ (home p s ≡ Empty)
front_page home from number later none p s inside = elim inside [
  | inl before ↦ elim (cases_lt p from) [
    | inl low ↦ inl (inl low)
    | inr between ↦ inr (none p s between before)
  ]
  | inr at ↦ absurd (omega (arith, at.1))
]

pub front_pages : (from number : ℕ) → from ≤ number → (p s : ℕ) → in_front from 0 p s → in_front number 0 p s
front_pages from number later p s inside = elim inside [
  | inl before ↦ inl (omega arith)
  | inr at ↦ absurd (omega (arith, at.1))
]

-- those behind a page
pub front_next : (held : Held) (segment page p s : ℕ) → in_front (page + 1) 0 p s → in_front page 128 p s ⊎ (homes held segment p s ≡ Empty)
front_next held segment page p s inside = elim inside [
  | inl before ↦ elim (cases_lt p page) [
    | inl low ↦ inl (inl low)
    | inr at ↦ elim (cases_lt s 128) [
      | inl few ↦ inl (inr (omega arith, few))
      | inr high ↦ inr (high_empty held (page_key segment Home p) s high)
    ]
  ]
  | inr at ↦ absurd (omega (arith, at.1))
]

pub front_whole : (page p s : ℕ) → in_front page 128 p s → in_front (page + 1) 0 p s
front_whole page p s inside = elim inside [
  | inl before ↦ inl (omega arith)
  | inr at ↦ inl (omega (arith, at.0))
]

-- ---- tuples

-- a list more
pub flat_more : {A : Type 0} (f : ℕ → List A) (n : ℕ) → flat_map f (range_with_len 0 (n + 1)) ≡ flat_map f (range_with_len 0 n) ++ f n
flat_more f n =
    sym (flat_map-map f (λ (x : ℕ). x) (range_with_len 0 (n + 1)))
    ∙ ap (flat_map f) (map-range_with_len_more (λ (x : ℕ). x) 0 n n (omega arith))
    ∙ flat_map-append f (map (λ (x : ℕ). x) (range_with_len 0 n)) (n ∷ [])
    ∙ ap (λ (l : List _). l ++ (f n ++ [])) (flat_map-map f (λ (x : ℕ). x) (range_with_len 0 n))
    ∙ ap (λ (l : List _). flat_map f (range_with_len 0 n) ++ l) (append-nil (f n))

-- none more
pub flat_skips : {A : Type 0} (f : ℕ → List A) (from k : ℕ) → ((i : ℕ) → from ≤ i → i < from + k → f i ≡ []) → flat_map f (range_with_len 0 (from + k)) ≡ flat_map f (range_with_len 0 from)
flat_skips f from zero none = let same : from + 0 ≡ from = omega arith in ap (λ (n : ℕ). flat_map f (range_with_len 0 n)) same
flat_skips f from (suc k) none =
    let same : from + suc k ≡ from + k + 1 = omega arith in
    ap (λ (n : ℕ). flat_map f (range_with_len 0 n)) same
    ∙ flat_more f (from + k)
    ∙ ap (λ (l : List _). flat_map f (range_with_len 0 (from + k)) ++ l) (none (from + k) (omega arith) (omega arith))
    ∙ append-nil (flat_map f (range_with_len 0 (from + k)))
    ∙ flat_skips f from k (λ i low high. none i low (omega arith))

-- no tuple stands in a page that holds nothing
pub rows_none : (held : Held) (segment page : ℕ) → ((slot : ℕ) → homes held segment page slot ≡ Empty) → rows_on held segment page ≡ []
rows_none held segment page none = flat_skips (row_at held segment page) 0 128 (λ slot low high. ap (λ (c : Content). row_of (tid_at page slot) (body_by (overflows held segment) c)) (none slot))

pub tuples_skip : (held : Held) (segment from number : ℕ) → from ≤ number → ((p s : ℕ) → from ≤ p → p < number → homes held segment p s ≡ Empty) → tuples_of held segment number ≡ tuples_of held segment from
tuples_skip held segment from number later none =
    let between : ℕ = number - from in
    let all : from + between ≡ number = omega arith in
    ap (tuples_of held segment) (sym all) ∙ flat_skips (rows_on held segment) from between (λ i low high. rows_none held segment i (λ slot. none i slot low (omega arith)))

pub tuples_more : (held : Held) (segment page : ℕ) → tuples_of held segment (page + 1) ≡ tuples_of held segment page ++ rows_on held segment page
tuples_more held segment page = flat_more (rows_on held segment) page

-- ---- what a visitor saw

module _ {V : Type 0} {is_good : V → List ℕ → Bool} {saw : V → Rows → Type 0} where
  pub sees_then : {old mid new : V} {first second : Rows} → Sees is_good saw old mid first → Sees is_good saw mid new second → Sees is_good saw old new (first ++ second)
  sees_then {new = new} {first = first} {second = second} one two = record {
    rule = two.rule ∙ one.rule;
    rows = λ rows was. subst (saw new) (append_assoc rows first second) (two.rows (rows ++ first) (one.rows rows was));
  }

  pub sees_as : {old new : V} {first second : Rows} → first ≡ second → Sees is_good saw old new first → Sees is_good saw old new second
  sees_as {old = old} {new = new} same sees = subst (Sees is_good saw old new) same sees
