-- Draws, many at a time.
use Rattle.std.proofs.Common.{◌≡◌, ℕ, zero, suc, ◌+◌, ◌*◌, ◌/◌, ◌%◌, ◌^◌, Bool, true, false, refl, sym, ap, ◌∙◌, arith, add-suc, suc-add, add-one}
use Rattle.std.proofs.lemmas.Nat.{mul-mod_first, mul-mod_second}
use Rattle.std.proofs.lemmas.Bool.Decides.{nat_tests}
use Rattle.std.proofs.Math.Nat.{mod-add-mod, add-mod}
use Rattle.std.specs.Prelude.{◌==◌, if◌then◌else◌}
use Rattle.std.specs.Fn.{iterate}
use Rattle.std.specs.Int.{div_ceil}
use Rattle.rss_model.specs.Generator.{next_state, state_behind, state_before}
use Rattle.rss_line.specs.Draws.{moved}

-- ---- moves

-- two moves are one
pub moved_twice : (f a s : ℕ) → moved (f * f % 2 ^ 64) (moved f a a) s ≡ moved f a (moved f a s)
moved_twice f a s =
    let M = 2 ^ 64 in
    let left : moved f a (moved f a s) ≡ ((s * f + a) * f + a) % M =
    rw (mod-add-mod (s * f) M a, mul-mod_first (s * f + a) f M) (mod-add-mod _ M a) in
    let right : moved (f * f % M) (moved f a a) s ≡ (s * (f * f) + (a * f + a)) % M =
    rw (mul-mod_second s (f * f) M, mod-add-mod (a * f) M a) (sym (add-mod _ _ M)) in
    let same : (s * f + a) * f + a ≡ s * (f * f) + (a * f + a) = omega arith in
    right ∙ ap (λ (n : ℕ). n % M) (sym same) ∙ sym left

-- a draw is one
pub next_moved : (s : ℕ) → moved 6364136223846793005 1442695040888963407 s ≡ next_state s
unfolding next_state
next_moved s = mod-add-mod (s * 6364136223846793005) (2 ^ 64) 1442695040888963407

-- ---- many moves

pub iterate_same : (f g : ℕ → ℕ) → ((s : ℕ) → f s ≡ g s) → (n s : ℕ) → iterate f n s ≡ iterate g n s
iterate_same f g same zero s = refl
iterate_same f g same (suc n) s = iterate_same f g same n (f s) ∙ ap (iterate g n) (same s)

pub iterate_more : (f : ℕ → ℕ) (n s : ℕ) → iterate f (suc n) s ≡ f (iterate f n s)
iterate_more f zero s = refl
iterate_more f (suc n) s = iterate_more f n (f s)

-- a move is two of the other's
pub iterate_double : (f g : ℕ → ℕ) → ((s : ℕ) → g s ≡ f (f s)) → (n s : ℕ) → iterate g n s ≡ iterate f (n + n) s
iterate_double f g twice zero s = refl
iterate_double f g twice (suc n) s =
    let two_more : suc n + suc n ≡ suc (suc (n + n)) = rw (suc-add n (suc n), add-suc n n) refl in
    iterate_double f g twice n (g s) ∙ ap (iterate f (n + n)) (twice s)
    ∙ ap (λ (m : ℕ). iterate f m s) (sym two_more)

pub iterate_even : (f g : ℕ → ℕ) → ((s : ℕ) → g s ≡ f (f s)) → (n s : ℕ) → (n % 2 ≡ 1 → ⊥) → iterate g (n / 2) s ≡ iterate f n s
iterate_even f g twice n s even =
    let halves : n / 2 + n / 2 ≡ n = omega arith in
    iterate_double f g twice (n / 2) s ∙ ap (λ (m : ℕ). iterate f m s) halves

pub iterate_odd : (f g : ℕ → ℕ) → ((s : ℕ) → g s ≡ f (f s)) → (n s : ℕ) → n % 2 ≡ 1 → iterate g (n / 2) (f s) ≡ iterate f n s
iterate_odd f g twice n s odd =
    let halves : suc (n / 2 + n / 2) ≡ n = omega (arith, add-one (n / 2 + n / 2)) in
    iterate_double f g twice (n / 2) (f s) ∙ ap (λ (m : ℕ). iterate f m s) halves

-- ---- the draws of the employees

-- how many were made before an employee's
abbrev pub draws_before : ℕ → ℕ
draws_before i = 2 * i + div_ceil i 8

draws_of : (i : ℕ) → draws_before (suc i) ≡ (if i % 8 == 0 then suc (suc (suc (draws_before i))) else suc (suc (draws_before i)))
draws_of i = grind (arith, nat_tests)

-- the draws of one, by whether there is a third
drawn_on : (third : Bool) (x n : ℕ) → (if third then next_state (next_state (next_state (iterate next_state n x))) else next_state (next_state (iterate next_state n x))) ≡ iterate next_state (if third then suc (suc (suc n)) else suc (suc n)) x
drawn_on true x n = sym (iterate_more next_state (suc (suc n)) x ∙ ap next_state (iterate_more next_state (suc n) x ∙ ap next_state (iterate_more next_state n x)))
drawn_on false x n = sym (iterate_more next_state (suc n) x ∙ ap next_state (iterate_more next_state n x))

pub state_drawn : (number i : ℕ) → iterate next_state (draws_before i) number ≡ state_before number i
unfolding state_before state_behind
state_drawn number zero = refl
state_drawn number (suc i) =
    ap (λ (n : ℕ). iterate next_state n number) (draws_of i) ∙ sym (drawn_on (i % 8 == 0) number (draws_before i))
    ∙ ap (state_behind i) (state_drawn number i)
