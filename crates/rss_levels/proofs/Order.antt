-- The order of pairs and of marks.
use Rattle.std.specs.FinMap.{slice_cmp-IsAntisymmetric, nat_cmp-IsAntisymmetric}
use Rattle.std.proofs.Common.{◌≡◌, ℕ, suc, zero, List, [], ◌∷◌, length, replicate, arith, ap, ◌∙◌, refl}
use Rattle.std.specs.Ordering.{nat_cmp, ordering_then, ordering_reverse}
use Rattle.std.specs.Cmp.{IsTotalOrder, nat_cmp_is}
use Rattle.std.specs.Cmp.Lexicographic.{slice_cmp}
use Rattle.std.specs.declared.cmp.Ordering.{Ordering}
use Rattle.std.specs.declared.cmp.Ordering.TheVariants.{Less, Equal, Greater}
use Rattle.std.proofs.lemmas.Cmp.{on_total, then_total, nat_cmp_total, nat_list_cmp_total, tied_itself}
use Rattle.rss_base.specs.Entries.{Entry, IsLess}
use Rattle.rss_base.proofs.Entries.{greater_less}
use Rattle.rss_levels.specs.Rows.{Mark, mark_cmp, IsBefore, fence, item}

mark_total : IsTotalOrder mark_cmp
mark_total = then_total (on_total (λ (m : Mark). m.pair) nat_list_cmp_total) (on_total (λ (m : Mark). m.rank) nat_cmp_total)

pub before_trans : {a b c : Mark} → IsBefore a b → IsBefore b c → IsBefore a c
before_trans {a = a} {b = b} {c = c} one two = record { is = mark_total.trans a b c one.is two.is }

-- a mark is before another where its pair is less, whatever their ranks
pub before_less : {a b : Mark} → IsLess a.pair b.pair → IsBefore a b
before_less {a = a} {b = b} less = record { is = rw less.is refl }

-- a bound is before an entry of the same pair
pub fence_same : (a : List ℕ) (e : Entry) → e.pair ≡ a → IsBefore (fence a) (item e)
fence_same a e same = record { is = rw (same, tied_itself nat_list_cmp_total a) refl }

then_less : (o p : Ordering) → (p ≡ Less → ⊥) → ordering_then o p ≡ Less → o ≡ Less
then_less Less p never is = refl
then_less Equal p never is = absurd (never is)
then_less Greater p never is = cc

-- an entry before a bound is less than it, and an entry before an entry
pub less_fence : (e : Entry) (b : List ℕ) → IsBefore (item e) (fence b) → IsLess e.pair b
less_fence e b is = record { is = then_less (slice_cmp nat_cmp e.pair b) (nat_cmp 1 0) (λ never. cc) is.is }

pub less_item : (e d : Entry) → IsBefore (item e) (item d) → IsLess e.pair d.pair
less_item e d is = record { is = then_less (slice_cmp nat_cmp e.pair d.pair) (nat_cmp 1 1) (λ never. cc) is.is }

pub less_fences : (a b : List ℕ) → IsBefore (fence a) (fence b) → IsLess a b
less_fences a b is = record { is = then_less (slice_cmp nat_cmp a b) (nat_cmp 0 0) (λ never. cc) is.is }

-- a bound that is not above a pair is before its entry
from_cases : (o p : Ordering) → o ≡ ordering_reverse p → (p ≡ Less → ⊥) → ordering_then o Less ≡ Less
from_cases o Less is never = absurd (never refl)
from_cases o Equal is never = rw is refl
from_cases o Greater is never = rw is refl

pub fence_from : (low : List ℕ) (e : Entry) → (IsLess e.pair low → ⊥) → IsBefore (fence low) (item e)
fence_from low e never = record { is = from_cases (slice_cmp nat_cmp low e.pair) (slice_cmp nat_cmp e.pair low) (nat_list_cmp_total.antisymm low e.pair) (λ is. never (record { is = is })) }

-- ---- deciding

by_order : {P : Type 0} (o : Ordering) → (o ≡ Less → P) → ((o ≡ Less → ⊥) → P) → P
by_order Less one two = one refl
by_order Equal one two = two (λ is. cc)
by_order Greater one two = two (λ is. cc)

pub not_not_less : (a b : List ℕ) → ((IsLess a b → ⊥) → ⊥) → IsLess a b
not_not_less a b is = by_order (slice_cmp nat_cmp a b) (λ less. record { is = less }) (λ not. absurd (is (λ less. not less.is)))

-- what is not above a pair and isn't it is below it
pub less_or_same : (a b : List ℕ) → (IsLess b a → ⊥) → (a ≡ b → ⊥) → IsLess a b
less_or_same a b above other = cases (slice_cmp nat_cmp a b) refl
  where
    cases : (o : Ordering) → slice_cmp nat_cmp a b ≡ o → IsLess a b
    cases Less is = record { is = is }
    cases Equal is = absurd (other (slice_cmp-IsAntisymmetric nat_cmp-IsAntisymmetric a b is))
    cases Greater is = absurd (above (greater_less a b is))

-- zeros are least
pub zeros_least : (t : List ℕ) (n : ℕ) → length t ≡ n → IsLess t (replicate n 0) → ⊥
zeros_least [] zero long less = let never : Equal ≡ Less = less.is in cc
zeros_least [] (suc n) long less = absurd (omega arith)
zeros_least (x ∷ t) zero long less = absurd (omega arith)
zeros_least (x ∷ t) (suc n) long less = zeros_least t n (omega arith) (record { is = after_zero x (slice_cmp nat_cmp t (replicate n 0)) less.is })
  where
    after_zero : (x : ℕ) (o : Ordering) → ordering_then (nat_cmp x 0) o ≡ Less → o ≡ Less
    after_zero zero o is = is
    after_zero (suc x) o is = let back : Greater ≡ nat_cmp (suc x) 0 = nat_cmp_is (suc x) 0 Greater (omega arith) in let never : Greater ≡ Less = ap (λ (r : Ordering). ordering_then r o) back ∙ is in cc
