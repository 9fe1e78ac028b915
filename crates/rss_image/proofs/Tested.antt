-- What is asked of a node by itself: of its identifiers, and of the order of its entries.
use Rattle.std.specs.FinMap.{slice_cmp-IsAntisymmetric, nat_cmp-IsAntisymmetric}
use Rattle.std.proofs.Common.{◌≡◌, ◌<◌, ◌+◌, ℕ, suc, zero, List, [], ◌∷◌, length, refl, sym, ◌∙◌, ap, subst, arith, Option, Some, None}
use Rattle.std.specs.Ordering.{nat_cmp}
use Rattle.std.specs.Cmp.Lexicographic.{slice_cmp}
use Rattle.std.specs.declared.cmp.Ordering.{Ordering}
use Rattle.std.specs.declared.cmp.Ordering.TheVariants.{Less, Equal, Greater}
use Rattle.std.proofs.lemmas.List.{take_all}
use Rattle.rss_base.specs.Trees.{Pair}
use Rattle.rss_base.specs.declared.tid.Tid.{Tid}
use Rattle.rss_base.specs.Entries.{Entry, IsLess}
use Rattle.rss_levels.specs.Entries.{Each, Pairwise}
use Rattle.rss_base.proofs.Entries.{greater_less, less_trans}
use Rattle.rss_levels.proofs.Rising.{IsLesser}
use Rattle.rss_levels.proofs.Spotted.{at_place, each_take}
use Rattle.rss_base.specs.Tids.{IsSpelledTid}
use Rattle.rss_node.specs.Pairs.{pair_bytes, tid_from}
use Rattle.rss_node.proofs.Agreed.{pair_said}
use Rattle.rss_image.specs.Fitting.{IsUnderLimit, AreBetween}

-- the identifier of a pair
pub tid_is : (width : ℕ) (pair key : List ℕ) (tid : Tid) → pair_bytes key tid ≡ pair → length key ≡ width → IsSpelledTid tid → tid ≡ tid_from width pair
tid_is width pair key tid is long spelled = sym (ap (tid_from width) (sym is) ∙ ap (λ (p : Pair). p.tid) (pair_said width (record { key = key; tid = tid }) long spelled))

-- what holds at each place
pub each_of_places : (P : Entry → Type 0) (es : List Entry) → ((k : ℕ) → k < length es → P (at_place es k)) → Each P es
each_of_places P es all = subst (Each P) (take_all (length es) es (omega arith)) (each_take P es (length es) (omega arith) all)

-- ---- the order of a leaf

-- entries that rise one by one rise
pub rises_of : (es : List Entry) → ((k : ℕ) → suc k < length es → IsLess (at_place es k).pair (at_place es (suc k)).pair) → Pairwise IsLesser es
rises_of [] next = tt
rises_of (e ∷ es) next = (above e.pair es (λ k low. first k low) (λ k low. next (suc k) (omega (arith, low))), rises_of es (λ k low. next (suc k) (omega (arith, low))))
  where
    first : (k : ℕ) → k < length es → k ≡ 0 → IsLess e.pair (at_place es k).pair
    first k low none = subst (λ (n : ℕ). IsLess e.pair (at_place es n).pair) (sym none) (next 0 (omega (arith, low, none)))

    above : (low : List ℕ) (ds : List Entry) → ((k : ℕ) → k < length ds → k ≡ 0 → IsLess low (at_place ds k).pair) → ((k : ℕ) → suc k < length ds → IsLess (at_place ds k).pair (at_place ds (suc k)).pair) → Each (λ d. IsLess low d.pair) ds
    above low [] head all = tt
    above low (d ∷ ds) head all =
        let here : IsLess low d.pair = head 0 (omega arith) refl in
        (here, above low ds (λ k lt none. less_trans here (subst (λ (n : ℕ). IsLess d.pair (at_place ds n).pair) (sym none) (all 0 (omega (arith, lt, none))))) (λ k lt. all (suc k) (omega (arith, lt))))

-- what is not above a pair is below what that pair is below
from_below : (a b c : List ℕ) → (IsLess b a → ⊥) → IsLess b c → IsLess a c
from_below a b c never less = cases (slice_cmp nat_cmp a b) refl
  where
    cases : (o : Ordering) → slice_cmp nat_cmp a b ≡ o → IsLess a c
    cases Less is = less_trans (record { is = is }) less
    cases Equal is = let same : a ≡ b = slice_cmp-IsAntisymmetric nat_cmp-IsAntisymmetric a b is in subst (λ (d : List ℕ). IsLess d c) (sym same) less
    cases Greater is = absurd (never (greater_less a b is))

limit_trans : (a b : List ℕ) (limit : Option (List ℕ)) → IsLess a b → IsUnderLimit limit b → IsUnderLimit limit a
limit_trans a b None less under = tt
limit_trans a b (Some c) less under = less_trans less under

-- what rises has its last entry above all others, and its first one below them
below_last : (es : List Entry) (limit : Option (List ℕ)) → 0 < length es → Pairwise IsLesser es → (n : ℕ) → n + 1 ≡ length es → IsUnderLimit limit (at_place es n).pair → Each (λ e. IsUnderLimit limit e.pair) es
below_last [] limit some rises n last under = absurd (omega arith)
below_last (e ∷ []) limit some rises n last under = let none : n ≡ 0 = omega (arith, last) in (subst (λ (k : ℕ). IsUnderLimit limit (at_place (e ∷ []) k).pair) none under, tt)
below_last (e ∷ d ∷ es) limit some rises zero last under = absurd (omega (arith, last))
below_last (e ∷ d ∷ es) limit some rises (suc n) last under =
    let rest = below_last (d ∷ es) limit (omega arith) rises.1 n (omega (arith, last)) under in
    (limit_trans e.pair d.pair limit rises.0.0 rest.0, rest)

above_first : (low : List ℕ) (es : List Entry) → Pairwise IsLesser es → (0 < length es → IsLess (at_place es 0).pair low → ⊥) → Each (λ e. IsLess e.pair low → ⊥) es
above_first low [] rises first = tt
above_first low (e ∷ es) rises first = (first (omega arith), later es rises.0)
  where
    later : (ds : List Entry) → Each (IsLesser e) ds → Each (λ d. IsLess d.pair low → ⊥) ds
    later [] all = tt
    later (d ∷ ds) all = (λ less. first (omega arith) (less_trans all.0 less), later ds all.1)

pub none_between : (low : List ℕ) (es : List Entry) (limit : Option (List ℕ)) → length es ≡ 0 → IsUnderLimit limit low → AreBetween low es limit
none_between low [] limit none under = record { bounds = under; above = tt; rises = tt; below = tt }
none_between low (e ∷ es) limit none under = absurd (omega (arith, none))

pub some_between : (low : List ℕ) (es : List Entry) (limit : Option (List ℕ)) (n : ℕ) → n + 1 ≡ length es → (IsLess (at_place es 0).pair low → ⊥) → ((k : ℕ) → suc k < length es → IsLess (at_place es k).pair (at_place es (suc k)).pair) → IsUnderLimit limit (at_place es n).pair → AreBetween low es limit
some_between low es limit n last first next under =
    let rises = rises_of es next in
    let below = below_last es limit (omega (arith, last)) rises n last under in
    record { bounds = bound es limit first below (omega (arith, last)); above = above_first low es rises (λ some. first); rises = rises; below = below }
  where
    not_above : (a b : List ℕ) (limit : Option (List ℕ)) → (IsLess b a → ⊥) → IsUnderLimit limit b → IsUnderLimit limit a
    not_above a b None never is = tt
    not_above a b (Some c) never is = from_below a b c never is

    bound : (es : List Entry) (limit : Option (List ℕ)) → (IsLess (at_place es 0).pair low → ⊥) → Each (λ e. IsUnderLimit limit e.pair) es → 0 < length es → IsUnderLimit limit low
    bound [] limit first below some = absurd (omega arith)
    bound (e ∷ es) limit first below some = not_above low e.pair limit first below.0
