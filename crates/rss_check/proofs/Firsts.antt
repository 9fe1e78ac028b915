-- Of broken lines one is the first, and of the places at which it is broken one is.
use Rattle.std.proofs.Common.{◌≡◌, ◌≢◌, inl, inr, ℕ, zero, suc, ◌<◌, List, [], ◌∷◌, length, refl, sym, ◌∙◌, ap, subst, arith}
use Rattle.std.specs.Ordering.{nat_cmp, ordering_then, MatchOrdering}
use Rattle.std.specs.Cmp.Lexicographic.{slice_cmp}
use Rattle.std.specs.declared.cmp.Ordering.{Ordering}
use Rattle.std.specs.declared.cmp.Ordering.TheVariants.{Less, Equal, Greater}
use Rattle.std.proofs.lemmas.Bool.{cases_eq}
use Rattle.std.proofs.lemmas.Cmp.{ranked, nat_list_cmp_total, tied_itself}
use Rattle.rss_base.specs.DiskRule.{Pages}
use Rattle.rss_base.specs.declared.place.Place.{Place}
use Rattle.rss_stored.proofs.Stores.{broken_once}
use Rattle.rss_check.specs.Lines.{Line, Layout, SystemPages, Definitions, HeapPages, Entries, Led, Counts, Images, Reached, Links, Records, Marks, Items, Way, Room, line_number, numbers_of, ComesBefore}
use Rattle.rss_check.specs.Faults.{Breaks, layout, unmapped, undefined, heap_page, entry, unled, count, image, unused, link, no_record, marks, shared, no_way, no_room, IsFirstFault, OthersHaveOne}
use Rattle.rss_check.proofs.Faultless.{stores_found}

-- ---- what holds of a number if it does where it holds of all lesser ones

strong : (P : ℕ → Type 0) → ((n : ℕ) → ((k : ℕ) → k < n → P k) → P n) → (n : ℕ) → P n
strong P step n = step n (below n)
  where
    below : (n : ℕ) → (k : ℕ) → k < n → P k
    below zero k low = absurd (omega (arith, low))
    below (suc n) k low = step k (λ j less. below n j (omega (arith, low, less)))

-- the same of lists that are as long, in the order of their first different numbers
strong_lists : (n : ℕ) (P : List ℕ → Type 0) → ((xs : List ℕ) → length xs ≡ n → ((ys : List ℕ) → length ys ≡ n → slice_cmp nat_cmp ys xs ≡ Less → P ys) → P xs) → (xs : List ℕ) → length xs ≡ n → P xs
strong_lists zero P step [] long = step [] long (λ ys longs less. absurd (never ys longs less))
  where
    never : (ys : List ℕ) → length ys ≡ 0 → slice_cmp nat_cmp ys [] ≡ Less → ⊥
    never [] longs less = cc (less)
    never (y ∷ ys) longs less = omega (arith, longs)
strong_lists zero P step (x ∷ xs) long = absurd (omega (arith, long))
strong_lists (suc n) P step [] long = absurd (omega (arith, long))
strong_lists (suc n) P step (x ∷ xs) long = strong (λ k. (ks : List ℕ) → length ks ≡ n → P (k ∷ ks))
    (λ k lesser. strong_lists n (λ ks. P (k ∷ ks)) (λ ks longs tails. step (k ∷ ks) (omega (arith, longs)) (less_lists k lesser ks tails)))
    x xs (omega (arith, long))
  where
    less_lists : (k : ℕ) → ((j : ℕ) → j < k → (js : List ℕ) → length js ≡ n → P (j ∷ js)) → (ks : List ℕ) → ((js : List ℕ) → length js ≡ n → slice_cmp nat_cmp js ks ≡ Less → P (k ∷ js)) → (ys : List ℕ) → length ys ≡ suc n → slice_cmp nat_cmp ys (k ∷ ks) ≡ Less → P ys
    less_lists k lesser ks tails [] longs less = absurd (omega (arith, longs))
    less_lists k lesser ks tails (y ∷ ys) longs less = by (nat_cmp y k) (ranked y k (nat_cmp y k) refl) less
      where
        by : (r : Ordering) → MatchOrdering r (y < k) (y ≡ k) (k < y) → ordering_then r (slice_cmp nat_cmp ys ks) ≡ Less → P (y ∷ ys)
        by Less low is = lesser y low ys (omega (arith, longs))
        by Equal same is = subst (λ (j : ℕ). P (j ∷ ys)) (sym same) (tails ys (omega (arith, longs)) is)
        by Greater high is = absurd (cc (is))

-- ---- how many numbers a place of a line has

abbrev width : Line → ℕ
width Layout = 0
width SystemPages = 1
width Definitions = 1
width HeapPages = 3
width Entries = 3
width Led = 3
width Counts = 1
width Images = 1
width Reached = 3
width Links = 1
width Records = 1
width Marks = 1
width Items = 1
width Way = 1
width Room = 0

wide : {pages : Pages} {line : Line} {place : Place} → Breaks pages line place → line_number line ≢ 0 → length (numbers_of place) ≡ width line
wide (layout broken) later = absurd (later refl)
wide (unmapped laid page low none) later = refl
wide (undefined laid page low none) later = refl
wide (heap_page at key bytes heap there none) later = refl
wide (entry at segment tid none) later = refl
wide (unled at segment page slot some none) later = refl
wide (count at number relation listed none) later = refl
wide (image at number of relation listed none) later = refl
wide (unused at key space there none) later = refl
wide (link at number of listed none) later = refl
wide (no_record laid position front rest early placed is none) later = refl
wide (marks at none) later = refl
wide (shared at older newer front behind change its split crowded) later = refl
wide (no_way at none) later = refl
wide (no_room at stored over log less) later = refl

-- the layout is broken at one place
layout_once : {pages : Pages} {line : Line} {a b : Place} → line_number line ≡ 0 → Breaks pages line a → Breaks pages line b → a ≡ b
layout_once first (layout one) (layout other) = broken_once one other
layout_once first (unmapped laid page low none) other = absurd (omega (arith, first))
layout_once first (undefined laid page low none) other = absurd (omega (arith, first))
layout_once first (heap_page at key bytes heap there none) other = absurd (omega (arith, first))
layout_once first (entry at segment tid none) other = absurd (omega (arith, first))
layout_once first (unled at segment page slot some none) other = absurd (omega (arith, first))
layout_once first (count at number relation listed none) other = absurd (omega (arith, first))
layout_once first (image at number of relation listed none) other = absurd (omega (arith, first))
layout_once first (unused at key space there none) other = absurd (omega (arith, first))
layout_once first (link at number of listed none) other = absurd (omega (arith, first))
layout_once first (no_record laid position front rest early placed is none) other = absurd (omega (arith, first))
layout_once first (marks at none) other = absurd (omega (arith, first))
layout_once first (shared at older newer front behind change its split crowded) other = absurd (omega (arith, first))
layout_once first (no_way at none) other = absurd (omega (arith, first))
layout_once first (no_room at stored over log less) other = absurd (omega (arith, first))

pub not_before : (a b : Place) → a ≡ b → ComesBefore a b → ⊥
not_before a b same before =
    let never : Equal ≡ Less = sym (tied_itself nat_list_cmp_total (numbers_of b)) ∙ ap (λ (p : Place). slice_cmp nat_cmp (numbers_of p) (numbers_of b)) (sym same) ∙ before in
    cc (never)

-- ---- no first place, no place

module _ {pages : Pages} (none : (place : Place) → IsFirstFault pages place → ⊥) where
  -- where no earlier line is broken
  none_in : (line : Line) → ((other : Line) (elsewhere : Place) → line_number other < line_number line → Breaks pages other elsewhere → ⊥) → (place : Place) → Breaks pages line place → ⊥
  none_in line earlier place breaks = elim (cases_eq (line_number line) 0) [
    | inl first ↦ none place (record { line = line; breaks = breaks; earlier = earlier; least = λ other more. not_before other place (layout_once first more breaks) })
    | inr later ↦ in_order later (numbers_of place) (wide breaks later) place refl breaks
  ]
    where
      in_order : line_number line ≢ 0 → (xs : List ℕ) → length xs ≡ width line → (here : Place) → numbers_of here ≡ xs → Breaks pages line here → ⊥
      in_order later = strong_lists (width line) (λ xs. (here : Place) → numbers_of here ≡ xs → Breaks pages line here → ⊥) (λ xs long lesser here is breaks.
          none here (record {
            line = line;
            breaks = breaks;
            earlier = earlier;
            least = λ other more before. lesser (numbers_of other) (wide more later) (ap (slice_cmp nat_cmp (numbers_of other)) (sym is) ∙ before) other refl more;
          }))

  none_at : (n : ℕ) (line : Line) → line_number line ≡ n → (place : Place) → Breaks pages line place → ⊥
  none_at = strong (λ n. (line : Line) → line_number line ≡ n → (place : Place) → Breaks pages line place → ⊥) (λ n lesser line is.
      none_in line (λ other elsewhere low. lesser (line_number other) (omega (arith, low, is)) other refl elsewhere))

pub others_have_one : OthersHaveOne
others_have_one pages no_store none = stores_found (λ line place breaks. none_at none (line_number line) line refl place breaks) no_store
