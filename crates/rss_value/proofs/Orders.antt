-- The order of lists by their first difference, where one is put behind another, and the order of numbers by their bytes.
use Rattle.std.proofs.Common.{◌≡◌, ℕ, ◌+◌, ◌*◌, ◌<◌, List, [], ◌∷◌, ◌++◌, length, refl, sym, ap, ◌∙◌, arith}
use Rattle.std.proofs.Math.Nat.{mul-le-mul_right}
use Rattle.std.proofs.lemmas.Cmp.{ranked}
use Rattle.std.specs.Cmp.{nat_cmp_is}
use Rattle.std.specs.Cmp.Lexicographic.{slice_cmp}
use Rattle.std.specs.Ordering.{MatchOrdering, nat_cmp, ordering_then}
use Rattle.std.specs.declared.cmp.Ordering.{Ordering}
use Rattle.std.specs.declared.cmp.Ordering.TheVariants.{Less, Equal, Greater}

-- what decides first decides
then_assoc : (a b c : Ordering) → ordering_then (ordering_then a b) c ≡ ordering_then a (ordering_then b c)
then_assoc Less b c = refl
then_assoc Equal b c = refl
then_assoc Greater b c = refl

-- lists of one length decide before what stands behind them
pub slice_cmp-append : {A : Type 0} (R : A → A → Ordering) (p q r s : List A) → length p ≡ length q → slice_cmp R (p ++ r) (q ++ s) ≡ ordering_then (slice_cmp R p q) (slice_cmp R r s)
slice_cmp-append R [] [] r s long = refl
slice_cmp-append R [] (y ∷ q) r s long = absurd (omega arith)
slice_cmp-append R (x ∷ p) [] r s long = absurd (omega arith)
slice_cmp-append R (x ∷ p) (y ∷ q) r s long =
    ap (λ (o : Ordering). ordering_then (R x y) o) (slice_cmp-append R p q r s (omega arith)) ∙ sym (then_assoc (R x y) (slice_cmp R p q) (slice_cmp R r s))

-- the higher part decides
higher : (a b r s m : ℕ) → r < m → a < b → a * m + r < b * m + s
higher a b r s m low less = omega (arith, mul-le-mul_right m less)

-- what holds of two numbers in two parts, by the order of the parts
part_order : (a b r s m : ℕ) (high low : Ordering) → r < m → s < m → MatchOrdering high (a < b) (a ≡ b) (b < a) → MatchOrdering low (r < s) (r ≡ s) (s < r)
    → MatchOrdering (ordering_then high low) (a * m + r < b * m + s) (a * m + r ≡ b * m + s) (b * m + s < a * m + r)
part_order a b r s m Less low x y first second = higher a b r s m x first
part_order a b r s m Greater low x y first second = higher b a s r m y first
part_order a b r s m Equal Less x y first second = omega (arith, ap (λ (n : ℕ). n * m) first)
part_order a b r s m Equal Equal x y first second = omega (arith, ap (λ (n : ℕ). n * m) first)
part_order a b r s m Equal Greater x y first second = omega (arith, ap (λ (n : ℕ). n * m) first)

-- a number in two parts, of which the higher decides first
pub parts_cmp : (a b r s m : ℕ) → r < m → s < m → ordering_then (nat_cmp a b) (nat_cmp r s) ≡ nat_cmp (a * m + r) (b * m + s)
parts_cmp a b r s m x y = nat_cmp_is _ _ _ (part_order a b r s m (nat_cmp a b) (nat_cmp r s) x y (ranked a b _ refl) (ranked r s _ refl))
