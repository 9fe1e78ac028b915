-- Numbers by their bytes: their order, and what a number is by its bytes.
use Rattle.std.proofs.Common.{◌≡◌, ℕ, zero, suc, ◌+◌, ◌-◌, ◌*◌, ◌/◌, ◌%◌, ◌^◌, ◌<◌, ◌≤◌, length, refl, sym, ap, ◌∙◌, arith, bit_xor, ℤ, pos, negsuc, ◌<ℤ◌, FitsSigned, w64, zero-add, lit<}
use Rattle.std.proofs.Math.Nat.{mod-lt, mod-one, div-one, pow-suc, div-add-mod'}
use Rattle.std.proofs.lemmas.Nat.{mul-add-lt, mod-mul-add, xor_block}
use Rattle.std.proofs.lemmas.Int.{ints}
use Rattle.std.proofs.lemmas.Cmp.{int_ranked}
use Rattle.std.specs.Int.{cast_unsigned, bytes_high_first, byte_at}
use Rattle.std.specs.Int.Bits.{xor_zero_r}
use Rattle.std.specs.Cmp.{nat_cmp_is}
use Rattle.std.specs.Cmp.Lexicographic.{slice_cmp}
use Rattle.std.specs.Ordering.{MatchOrdering, nat_cmp, int_cmp, ordering_then}
use Rattle.std.specs.declared.cmp.Ordering.{Ordering}
use Rattle.std.specs.declared.cmp.Ordering.TheVariants.{Less, Equal, Greater}
use Rattle.rss_base.specs.TupleTypes.{int_bytes, with_sign_inverted}
use Rattle.rss_value.proofs.Orders.{parts_cmp}

-- ---- bytes, the highest first

pub byte_at_is : (k n : ℕ) → byte_at k n ≡ n / 256 ^ k % 256
byte_at_is zero n = sym (ap (λ (m : ℕ). m % 256) (div-one n))
byte_at_is (suc k) n = refl

-- one digit more of a remainder
split_by : (n m : ℕ) → 0 < m → n / m % 256 * m + n % m ≡ n % (m * 256)
split_by n m some =
    let digit : n / m % 256 < 256 = mod-lt (n / m) (omega arith) in
    let low : n % m < m = mod-lt n some in
    let whole : n ≡ n / m / 256 * (m * 256) + (n / m % 256 * m + n % m) = omega (arith, div-add-mod' n m, ap (λ (x : ℕ). x * m) (div-add-mod' (n / m) 256)) in
    sym (ap (λ (x : ℕ). x % (m * 256)) whole ∙ mod-mul-add (n / m / 256) (m * 256) (n / m % 256 * m + n % m) (mul-add-lt (n / m % 256) m (n % m) 256 digit low))

power : (k : ℕ) → 0 < 256 ^ k
power zero = lit< tt
power (suc k) = omega (arith, power k, pow-suc 256 k)

split : (k n : ℕ) → byte_at k n * 256 ^ k + n % 256 ^ k ≡ n % 256 ^ suc k
split k n = ap (λ (b : ℕ). b * 256 ^ k + n % 256 ^ k) (byte_at_is k n) ∙ split_by n (256 ^ k) (power k) ∙ sym (ap (λ (m : ℕ). n % m) (pow-suc 256 k))

-- the order of bytes is that of the remainders
pub high_first_cmp : (k a b : ℕ) → slice_cmp nat_cmp (bytes_high_first k a) (bytes_high_first k b) ≡ nat_cmp (a % 256 ^ k) (b % 256 ^ k)
high_first_cmp zero a b = nat_cmp_is _ _ Equal (mod-one a ∙ sym (mod-one b))
high_first_cmp (suc k) a b =
    ap (λ (o : Ordering). ordering_then (nat_cmp (byte_at k a) (byte_at k b)) o) (high_first_cmp k a b)
    ∙ parts_cmp (byte_at k a) (byte_at k b) (a % 256 ^ k) (b % 256 ^ k) (256 ^ k) (mod-lt a (power k)) (mod-lt b (power k))
    ∙ ap (λ (x : ℕ). nat_cmp x (byte_at k b * 256 ^ k + b % 256 ^ k)) (split k a)
    ∙ ap (λ (y : ℕ). nat_cmp (a % 256 ^ suc k) y) (split k b)

pub length-high_first : (k n : ℕ) → length (bytes_high_first k n) ≡ k
length-high_first zero n = refl
length-high_first (suc k) n = ap suc (length-high_first k n)

-- ---- the sign bit

low_inverted : (b : ℕ) → b < 128 → bit_xor b 128 ≡ b + 128
low_inverted b low = ap (λ (x : ℕ). bit_xor x 128) (sym (zero-add b)) ∙ xor_block 7 0 1 b 0 low (omega arith) ∙ ap (λ (x : ℕ). 128 + x) (xor_zero_r b) ∙ omega arith

high_inverted : (b : ℕ) → 128 ≤ b → b < 256 → bit_xor b 128 ≡ b - 128
high_inverted b high fits =
    ap (λ (x : ℕ). bit_xor x 128) (omega arith) ∙ xor_block 7 1 1 (b - 128) 0 (omega arith) (omega arith) ∙ ap (λ (x : ℕ). 0 + x) (xor_zero_r (b - 128)) ∙ zero-add (b - 128)

-- how far a number is above the least
abbrev above_least : ℤ → ℕ
above_least (pos n) = n + 2 ^ 63
above_least (negsuc n) = 2 ^ 63 - suc n

inverted_low : (n : ℕ) → n < 2 ^ 63 → bit_xor (n / 2 ^ 56 % 256) 128 * 2 ^ 56 + n % 2 ^ 56 ≡ n + 2 ^ 63
inverted_low n low = omega (arith, low_inverted (n / 2 ^ 56 % 256) (omega arith))

inverted_high : (n : ℕ) → 2 ^ 63 ≤ n → n < 2 ^ 64 → bit_xor (n / 2 ^ 56 % 256) 128 * 2 ^ 56 + n % 2 ^ 56 ≡ n - 2 ^ 63
inverted_high n high fits = omega (arith, high_inverted (n / 2 ^ 56 % 256) (omega arith) (omega arith))

int_key_value : (z : ℤ) → FitsSigned w64 z → bit_xor (byte_at 7 (cast_unsigned w64 z)) 128 * 256 ^ 7 + cast_unsigned w64 z % 256 ^ 7 ≡ above_least z
int_key_value (pos n) fit = inverted_low n (omega (arith, ints))
int_key_value (negsuc n) fit =
    let small : n < 2 ^ 63 = omega (arith, ints) in
    inverted_high (2 ^ 64 - suc n) (omega arith) (omega arith) ∙ omega arith

above_least_less : (z w : ℤ) → FitsSigned w64 z → FitsSigned w64 w → z <ℤ w → above_least z < above_least w
above_least_less (pos a) (pos b) x y less = omega (arith, ints)
above_least_less (pos a) (negsuc b) x y less = absurd (omega (arith, ints))
above_least_less (negsuc a) (pos b) x y less = omega (arith, ints)
above_least_less (negsuc a) (negsuc b) x y less = omega (arith, ints)

-- one order as another
ordered_as : {P Q R P' Q' R' : Type 0} (o : Ordering) → (P → P') → (Q → Q') → (R → R') → MatchOrdering o P Q R → MatchOrdering o P' Q' R'
ordered_as Less p q r h = p h
ordered_as Equal p q r h = q h
ordered_as Greater p q r h = r h

-- numbers by the bytes of their keys
pub int_key_cmp : (z w : ℤ) → FitsSigned w64 z → FitsSigned w64 w → slice_cmp nat_cmp (with_sign_inverted (int_bytes z)) (with_sign_inverted (int_bytes w)) ≡ int_cmp z w
int_key_cmp z w x y =
    let n = cast_unsigned w64 z in
    let m = cast_unsigned w64 w in
    let high : ℕ = bit_xor (byte_at 7 n) 128 in
    let other : ℕ = bit_xor (byte_at 7 m) 128 in
    ap (λ (o : Ordering). ordering_then (nat_cmp high other) o) (high_first_cmp 7 n m)
    ∙ parts_cmp high other (n % 256 ^ 7) (m % 256 ^ 7) (256 ^ 7) (mod-lt n (power 7)) (mod-lt m (power 7))
    ∙ ap (λ (a : ℕ). nat_cmp a (other * 256 ^ 7 + m % 256 ^ 7)) (int_key_value z x)
    ∙ ap (λ (b : ℕ). nat_cmp (above_least z) b) (int_key_value w y)
    ∙ sym (nat_cmp_is _ _ (int_cmp z w) (ordered_as (int_cmp z w) (above_least_less z w x y) (ap above_least) (above_least_less w z y x) (int_ranked z w _ refl)))

pub length-int_key : (z : ℤ) → length (with_sign_inverted (int_bytes z)) ≡ 8
length-int_key z = length-high_first 8 (cast_unsigned w64 z)

pub length-int_bytes : (z : ℤ) → length (int_bytes z) ≡ 8
length-int_bytes z = length-high_first 8 (cast_unsigned w64 z)
