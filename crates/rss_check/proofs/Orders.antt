-- The order of places in one line, number by number.
use Rattle.std.proofs.Common.{◌≡◌, ◌⊎◌, inl, inr, ℕ, ◌<◌, ◌≤◌, List, [], ◌∷◌, refl, sym, ◌∙◌, ap, arith}
use Rattle.std.specs.Ordering.{nat_cmp, ordering_then, MatchOrdering}
use Rattle.std.specs.Cmp.Lexicographic.{slice_cmp}
use Rattle.std.specs.declared.cmp.Ordering.{Ordering}
use Rattle.std.specs.declared.cmp.Ordering.TheVariants.{Less, Equal, Greater}
use Rattle.std.proofs.lemmas.Cmp.{ranked}
use Rattle.rss_base.specs.PageMap.{space_code}
use Rattle.rss_base.specs.Paged.{page_key}
use Rattle.rss_base.specs.Tids.{IsBelow}
use Rattle.rss_base.specs.declared.key.PageKey.{PageKey}
use Rattle.rss_base.specs.declared.key.Space.TheVariants.{Overflow, Image as ImageSpace}
use Rattle.rss_base.specs.declared.place.Place.{Place}
use Rattle.rss_base.specs.declared.place.Place.TheVariants.{Page as PagePlace, Tuple as TuplePlace}
use Rattle.rss_base.specs.declared.tid.Tid.{Tid}
use Rattle.rss_page.specs.Slotted.{IsHeapKey}
use Rattle.rss_tuple.specs.Checked.{pages_of}
use Rattle.rss_tuple.specs.Flaws.{ComesBefore as KeyComesBefore}
use Rattle.rss_check.specs.Lines.{Line, ComesBefore, IsFirst}

-- ---- lists of numbers

-- a list before another one begins with a lesser number, or with the same and goes on before it
before_first : (x y : ℕ) (xs ys : List ℕ) → slice_cmp nat_cmp (x ∷ xs) (y ∷ ys) ≡ Less → (x < y) ⊎ ((x ≡ y) × (slice_cmp nat_cmp xs ys ≡ Less))
before_first x y xs ys less = by (nat_cmp x y) (ranked x y (nat_cmp x y) refl) less
  where
    by : (r : Ordering) → MatchOrdering r (x < y) (x ≡ y) (y < x) → ordering_then r (slice_cmp nat_cmp xs ys) ≡ Less → (x < y) ⊎ ((x ≡ y) × (slice_cmp nat_cmp xs ys ≡ Less))
    by Less low is = inl low
    by Equal same is = inr (same, is)
    by Greater high is = absurd (cc (is))

never_before : slice_cmp nat_cmp [] [] ≡ Less → ⊥
never_before less = cc (less)

pub before_one : (x y : ℕ) → slice_cmp nat_cmp (x ∷ []) (y ∷ []) ≡ Less → x < y
before_one x y less = elim (before_first x y [] [] less) [
  | inl low ↦ low
  | inr more ↦ absurd (never_before more.1)
]

pub one_before : (x y : ℕ) → x < y → slice_cmp nat_cmp (x ∷ []) (y ∷ []) ≡ Less
one_before x y low = by (nat_cmp x y) (ranked x y (nat_cmp x y) refl)
  where
    by : (r : Ordering) → MatchOrdering r (x < y) (x ≡ y) (y < x) → ordering_then r Equal ≡ Less
    by Less less = refl
    by Equal same = absurd (omega (arith, low, same))
    by Greater more = absurd (omega (arith, low, more))

before_three : (x y z a b c : ℕ) → slice_cmp nat_cmp (x ∷ y ∷ z ∷ []) (a ∷ b ∷ c ∷ []) ≡ Less → (x < a) ⊎ ((x ≡ a) × ((y < b) ⊎ ((y ≡ b) × (z < c))))
before_three x y z a b c less = elim (before_first x a (y ∷ z ∷ []) (b ∷ c ∷ []) less) [
  | inl low ↦ inl low
  | inr rest ↦ inr (
    rest.0,
    elim (before_first y b (z ∷ []) (c ∷ []) rest.1) [
      | inl low ↦ inl low
      | inr last ↦ inr (last.0, before_one z c last.1)
    ],
  )
]

-- the first number of one before another isn't greater
pub first_most : (x y z a b c : ℕ) → slice_cmp nat_cmp (x ∷ y ∷ z ∷ []) (a ∷ b ∷ c ∷ []) ≡ Less → x ≤ a
first_most x y z a b c less = elim (before_three x y z a b c less) [
  | inl low ↦ omega (arith, low)
  | inr rest ↦ omega (arith, rest.0)
]

-- ---- places of one segment

spaces_less : (a b : PageKey) → IsHeapKey a → IsHeapKey b → space_code a.space < space_code b.space → KeyComesBefore a b
spaces_less a b (inl home) (inl other) less = absurd (omega (arith, less, ap space_code home, ap space_code other))
spaces_less a b (inl home) (inr over) less = inl (home, over)
spaces_less a b (inr over) (inl home) less = absurd (omega (arith, less, ap space_code over, ap space_code home))
spaces_less a b (inr over) (inr other) less = absurd (omega (arith, less, ap space_code over, ap space_code other))

spaces_same : (a b : PageKey) → IsHeapKey a → IsHeapKey b → space_code a.space ≡ space_code b.space → a.space ≡ b.space
spaces_same a b (inl home) (inl other) same = home ∙ sym other
spaces_same a b (inl home) (inr over) same = absurd (omega (arith, same, ap space_code home, ap space_code over))
spaces_same a b (inr over) (inl home) same = absurd (omega (arith, same, ap space_code over, ap space_code home))
spaces_same a b (inr over) (inr other) same = over ∙ sym other

-- pages of tuples are in the order of the tuple store
pub page_before : (segment : ℕ) (a b : PageKey) → pages_of segment a → pages_of segment b → ComesBefore (PagePlace a) (PagePlace b) → KeyComesBefore a b
page_before segment a b of_a of_b before = elim (before_three a.segment (space_code a.space) a.number b.segment (space_code b.space) b.number before) [
  | inl less ↦ absurd (omega (arith, less, of_a.0, of_b.0))
  | inr rest ↦ elim rest.1 [
    | inl less ↦ spaces_less a b of_a.1 of_b.1 less
    | inr last ↦ inr (spaces_same a b of_a.1 of_b.1 last.0, last.1)
  ]
]

-- pages of images are in the order of their segments, and then of their numbers
pub image_before : (a b : PageKey) → a.space ≡ ImageSpace → b.space ≡ ImageSpace → ComesBefore (PagePlace a) (PagePlace b)
    → (a.segment < b.segment) ⊎ ((a.segment ≡ b.segment) × (a.number < b.number))
image_before a b one other before = elim (before_three a.segment (space_code a.space) a.number b.segment (space_code b.space) b.number before) [
  | inl less ↦ inl less
  | inr rest ↦ elim rest.1 [
    | inl less ↦ absurd (omega (arith, less, ap space_code one, ap space_code other))
    | inr last ↦ inr (rest.0, last.1)
  ]
]

pub overflow_before : (segment a b : ℕ) → ComesBefore (PagePlace (page_key segment Overflow a)) (PagePlace (page_key segment Overflow b)) → a < b
overflow_before segment a b before = elim (before_three segment 2 a segment 2 b before) [
  | inl less ↦ absurd (omega (arith, less))
  | inr rest ↦ elim rest.1 [
    | inl less ↦ absurd (omega (arith, less))
    | inr last ↦ last.1
  ]
]

pub tuple_before : (segment : ℕ) (a b : Tid) → ComesBefore (TuplePlace segment a) (TuplePlace segment b) → IsBelow a b
tuple_before segment a b before = elim (before_three segment a.page a.slot segment b.page b.slot before) [
  | inl less ↦ absurd (omega (arith, less))
  | inr rest ↦ rest.1
]

-- ---- the first of the same places

pub first_as : {one other : Line → Place → Type 0} {place : Place} → ((line : Line) (at : Place) → one line at → other line at) → ((line : Line) (at : Place) → other line at → one line at) → IsFirst one place → IsFirst other place
first_as {place = place} to back first = record {
  line = first.line;
  breaks = to first.line place first.breaks;
  earlier = λ line at low is. first.earlier line at low (back line at is);
  least = λ at is before. first.least at (back first.line at is) before;
}
