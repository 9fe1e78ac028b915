-- The map that a list of places is, and what becomes of it when a place changes.
use Rattle.std.proofs.Common.{◌≡◌, ◌↔◌, inl, inr, ℕ, zero, suc, ◌+◌, ◌<◌, ◌≤◌, Bool, true, false, not, cond, T, ◌&&◌, List, [], ◌∷◌, length, map, get_or, set, refl, sym, ◌∙◌, ap, subst, arith, eqb-true, eq-eqb, get_or-set_same, get_or-set_other}
use Rattle.std.specs.Prelude.{Option, Some, None, ◌==◌, is_some, IsSome, IsTrue, IfSome, IfNone, option_and_then}
use Rattle.std.specs.Ordering.{is_lt, nat_cmp}
use Rattle.std.specs.declared.cmp.Ordering.{Ordering}
use Rattle.std.specs.declared.cmp.Ordering.TheVariants.{Less}
use Rattle.std.specs.Cmp.{nat_cmp_is, nat_cmp_total, unsigned_tied}
use Rattle.std.specs.FinMap as finite
use Rattle.std.specs.FinMap.{nat_cmp-IsAntisymmetric, get-empty, get-from_sorted, entries-from_sorted, get-insert, get-remove, get-retain_keys, len-entries, same_map}
use Rattle.std.specs.FinMap.Entries as listed
use Rattle.std.proofs.lemmas.List.{get_or_past}
use Rattle.std.proofs.lemmas.Bool.{cases_Bool, cases_lt, cond-true, cond-false}
use Rattle.rss_scan.specs.declared.cursor.Scan.{Scan}
use Rattle.rss_scan.specs.Scans.{OpenScans, numbered, told, is_of, if_owner, cursor_in, closed_for}
use mathlib.Core.Bool.{true≢false}

both : (a b : Bool) → T a → T b → T (a && b)
both true b p q = q
both false b p q = p

is_below : (x n : ℕ) → x < n → T (is_lt (nat_cmp x n))
is_below x n below = subst (λ (o : Ordering). T (is_lt o)) (nat_cmp_is x n Less below) tt

-- ---- in the order of their numbers

below_numbered : (x n : ℕ) (scans : List (Option Scan)) → x < n → T (listed.below_all nat_cmp x (numbered n scans))
below_numbered x n [] below = tt
below_numbered x n (None ∷ scans) below = below_numbered x (n + 1) scans (omega arith)
below_numbered x n (Some scan ∷ scans) below = both _ _ (is_below x n below) (below_numbered x (n + 1) scans (omega arith))

sorted_numbered : (n : ℕ) (scans : List (Option Scan)) → T (listed.is_sorted nat_cmp (numbered n scans))
sorted_numbered n [] = tt
sorted_numbered n (None ∷ scans) = sorted_numbered (n + 1) scans
sorted_numbered n (Some scan ∷ scans) = both _ _ (below_numbered n (n + 1) scans (omega arith)) (sorted_numbered (n + 1) scans)

-- ---- the scan of a number

apart : (x n : ℕ) → x < n → (x == n) ≡ false
apart x n below = elim (cases_Bool (x == n)) [
  | inl same ↦ let e : x ≡ n = eqb-true x n same in absurd (omega arith)
  | inr off ↦ off
]

later_none : (x n : ℕ) (scans : List (Option Scan)) → x < n → listed.find nat_cmp x (numbered n scans) ≡ None
later_none x n [] below = refl
later_none x n (None ∷ scans) below = later_none x (n + 1) scans (omega arith)
later_none x n (Some scan ∷ scans) below = cond-false _ _ _ (unsigned_tied x n ∙ apart x n below) ∙ later_none x (n + 1) scans (omega arith)

found_at : (n k : ℕ) (scans : List (Option Scan)) → listed.find nat_cmp (n + k) (numbered n scans) ≡ get_or scans k None
found_at n k [] = refl
found_at n zero (None ∷ scans) = later_none (n + 0) (n + 1) scans (omega arith)
found_at n (suc k) (None ∷ scans) =
    let same : n + suc k ≡ n + 1 + k = omega arith in
    ap (λ (q : ℕ). listed.find nat_cmp q (numbered (n + 1) scans)) same ∙ found_at (n + 1) k scans
found_at n zero (Some scan ∷ scans) =
    let same : n + 0 ≡ n = omega arith in
    cond-true _ _ _ (unsigned_tied (n + 0) n ∙ eq-eqb (n + 0) n same)
found_at n (suc k) (Some scan ∷ scans) =
    let same : n + suc k ≡ n + 1 + k = omega arith in
    let off : ((n + suc k) == n) ≡ false = elim (cases_Bool ((n + suc k) == n)) [
      | inl tied ↦ let e : n + suc k ≡ n = eqb-true (n + suc k) n tied in absurd (omega arith)
      | inr off ↦ off
    ] in
    cond-false _ _ _ (unsigned_tied (n + suc k) n ∙ off)
    ∙ ap (λ (q : ℕ). listed.find nat_cmp q (numbered (n + 1) scans)) same ∙ found_at (n + 1) k scans

pub tells : (scans : List (Option Scan)) (k : ℕ) → finite.get (told scans) k ≡ get_or scans k None
unfolding told
tells scans k = get-from_sorted nat_cmp (numbered 0 scans) k (sorted_numbered 0 scans) ∙ ap (λ (q : ℕ). listed.find nat_cmp q (numbered 0 scans)) (let zero_first : k ≡ 0 + k = omega arith in zero_first) ∙ found_at 0 k scans

same_scans : (one other : OpenScans) → ((k : ℕ) → finite.get one k ≡ finite.get other k) → one ≡ other
same_scans one other each = same_map nat_cmp_total nat_cmp-IsAntisymmetric one other each

-- ---- how many are open

count_numbered : (n : ℕ) (scans : List (Option Scan)) → length (numbered n scans) ≤ length scans
count_numbered n [] = omega arith
count_numbered n (None ∷ scans) = let rest = count_numbered (n + 1) scans in omega arith
count_numbered n (Some scan ∷ scans) = let rest = count_numbered (n + 1) scans in omega arith

count_all : (n : ℕ) (scans : List (Option Scan)) → ((k : ℕ) → k < length scans → is_some (get_or scans k None) ≡ true) → length (numbered n scans) ≡ length scans
count_all n [] all = refl
count_all n (None ∷ scans) all = absurd (true≢false (sym (all 0 (omega arith))))
count_all n (Some scan ∷ scans) all = ap suc (count_all (n + 1) scans (λ k below. all (suc k) (omega arith)))

count_fewer : (n k : ℕ) (scans : List (Option Scan)) → k < length scans → get_or scans k None ≡ None → length (numbered n scans) < length scans
count_fewer n k [] below free = absurd (omega arith)
count_fewer n zero (None ∷ scans) below free = let rest = count_numbered (n + 1) scans in omega arith
count_fewer n zero (Some scan ∷ scans) below free = absurd (cc)
count_fewer n (suc k) (None ∷ scans) below free = let rest = count_fewer (n + 1) k scans (omega arith) free in omega arith
count_fewer n (suc k) (Some scan ∷ scans) below free = let rest = count_fewer (n + 1) k scans (omega arith) free in omega arith

count_told : (scans : List (Option Scan)) → finite.len (told scans) ≡ length (numbered 0 scans)
unfolding told
count_told scans = len-entries (told scans) ∙ ap (λ (es : List (ℕ × Scan)). length es) (entries-from_sorted nat_cmp (numbered 0 scans) (sorted_numbered 0 scans))

pub all_open : (scans : List (Option Scan)) → ((k : ℕ) → k < length scans → is_some (get_or scans k None) ≡ true) → finite.len (told scans) ≡ length scans
all_open scans all = count_told scans ∙ count_all 0 scans all

pub some_free : (scans : List (Option Scan)) (k : ℕ) → k < length scans → get_or scans k None ≡ None → finite.len (told scans) < length scans
some_free scans k below free = let count = count_told scans in let fewer = count_fewer 0 k scans below free in omega arith

-- all places are taken exactly where there is no first one that isn't
pub full_told : (scans : List (Option Scan)) (most : ℕ) (place : Option ℕ) (none : Bool) → length scans ≡ most → is_some place ≡ not none → IfSome place (λ p. p < length scans) → IfSome place (λ p. get_or scans p None ≡ None)
    → IfNone place ((k : ℕ) → k < length scans → is_some (get_or scans k None) ≡ true) → IsTrue none ↔ (finite.len (told scans) ≡ most)
full_told scans most None true long is within free full = (λ so. all_open scans full ∙ long, λ so. refl)
full_told scans most None false long is within free full = absurd (cc (is))
full_told scans most (Some p) true long is within free full = absurd (cc (is))
full_told scans most (Some p) false long is within free full = (λ so. absurd (cc (so)), λ so. let fewer = some_free scans p within free in absurd (omega arith))

-- ---- changes

pub none_told : (scans : List (Option Scan)) → ((k : ℕ) → get_or scans k None ≡ None) → told scans ≡ finite.empty
none_told scans none = same_scans (told scans) finite.empty (λ k. tells scans k ∙ none k ∙ sym (get-empty nat_cmp k))

pub put_told : (scans : List (Option Scan)) (k : ℕ) (scan : Scan) → k < length scans → told (set scans k (Some scan)) ≡ finite.insert (told scans) k scan
put_told scans k scan below = same_scans (told (set scans k (Some scan))) (finite.insert (told scans) k scan) (λ q. elim (cases_Bool (q == k)) [
  | inl same ↦
      let e : q ≡ k = eqb-true q k same in
      tells (set scans k (Some scan)) q
      ∙ ap (λ (n : ℕ). get_or (set scans k (Some scan)) n None) e
      ∙ get_or-set_same {A = Option Scan} scans k (Some scan) None below
      ∙ sym (get-insert nat_cmp_total (told scans) k scan q ∙ cond-true _ _ _ (unsigned_tied q k ∙ same))
  | inr off ↦
      tells (set scans k (Some scan)) q
      ∙ get_or-set_other {A = Option Scan} scans k q (Some scan) None (λ e. true≢false (sym (eq-eqb q k e) ∙ off))
      ∙ sym (tells scans q)
      ∙ sym (get-insert nat_cmp_total (told scans) k scan q ∙ cond-false _ _ _ (unsigned_tied q k ∙ off))
])

pub cut_told : (scans : List (Option Scan)) (k : ℕ) → k < length scans → told (set scans k None) ≡ finite.remove (told scans) k
cut_told scans k below = same_scans (told (set scans k None)) (finite.remove (told scans) k) (λ q. elim (cases_Bool (q == k)) [
  | inl same ↦
      let e : q ≡ k = eqb-true q k same in
      tells (set scans k None) q
      ∙ ap (λ (n : ℕ). get_or (set scans k None) n None) e
      ∙ get_or-set_same {A = Option Scan} scans k None None below
      ∙ sym (get-remove nat_cmp_total (told scans) k q ∙ cond-true _ _ _ (unsigned_tied q k ∙ same))
  | inr off ↦
      tells (set scans k None) q
      ∙ get_or-set_other {A = Option Scan} scans k q None None (λ e. true≢false (sym (eq-eqb q k e) ∙ off))
      ∙ sym (tells scans q)
      ∙ sym (get-remove nat_cmp_total (told scans) k q ∙ cond-false _ _ _ (unsigned_tied q k ∙ off))
])

-- nothing, if it is the transaction's
abbrev pub closed_place : ℕ → Option Scan → Option Scan
closed_place t scan = cond (is_of t scan) None scan

place_none : (t : ℕ) (scans : List (Option Scan)) (k : ℕ) → get_or (map (closed_place t) scans) k None ≡ closed_place t (get_or scans k None)
place_none t [] k = refl
place_none t (scan ∷ scans) zero = refl
place_none t (scan ∷ scans) (suc k) = place_none t scans k

turned : {A : Type 0} (b : Bool) (x y : A) → cond (not b) x y ≡ cond b y x
turned true x y = refl
turned false x y = refl

pub closed_told : (t : ℕ) (scans : List (Option Scan)) → told (map (closed_place t) scans) ≡ closed_for t (told scans)
closed_told t scans = same_scans (told (map (closed_place t) scans)) (closed_for t (told scans)) (λ q.
    tells (map (closed_place t) scans) q
    ∙ place_none t scans q
    ∙ ap (closed_place t) (sym (tells scans q))
    ∙ sym (turned (is_of t (finite.get (told scans) q)) (finite.get (told scans) q) None)
    ∙ sym (get-retain_keys (told scans) (λ n. not (is_of t (finite.get (told scans) n))) q (λ x tie. ap (λ (n : ℕ). not (is_of t (finite.get (told scans) n))) (sym (nat_cmp-IsAntisymmetric q x tie)))))

-- ---- a place

pub within_told : (scans : List (Option Scan)) (k : ℕ) → IsSome (finite.get (told scans) k) → k < length scans
within_told scans k used = elim (cases_lt k (length scans)) [
  | inl below ↦ below
  | inr above ↦ absurd (true≢false (sym used ∙ ap is_some (tells scans k ∙ get_or_past scans k None above)))
]

-- what is read there, whatever stands for nothing
pub read_there : (scans : List (Option Scan)) (k : ℕ) (read : Option Scan) → k < length scans → read ≡ get_or scans k read → read ≡ finite.get (told scans) k
read_there scans k read below is = at scans k below is ∙ sym (tells scans k)
  where
    at : (scans : List (Option Scan)) (k : ℕ) → k < length scans → read ≡ get_or scans k read → read ≡ get_or scans k None
    at [] k below is = absurd (omega arith)
    at (scan ∷ scans) zero below is = is
    at (scan ∷ scans) (suc k) below is = at scans k (omega arith) is

pub cursor_told : (t : ℕ) (scan : Option Scan) → cursor_in t scan ≡ option_and_then (if_owner t) scan
cursor_told t None = refl
cursor_told t (Some scan) = refl
