-- The stamps of changes: what goes of them leaves room in the log for what it writes.
use Rattle.std.proofs.Common.{◌≡◌, ℕ, suc, ◌+◌, ◌≤◌, Bool, true, false, not, cond, ◌==◌, ◌&&◌, nat_le, if◌then◌else◌, List, [], ◌∷◌, length, map, refl, sym, ◌∙◌, ap, arith}
use Rattle.std.proofs.lemmas.List.{length-map}
use Rattle.rss_model.specs.Changes.{mine, theirs, kept_to, cut_off}
use Rattle.rss_model.specs.Meter.{Stamp}
use Rattle.rss_model.specs.Kept.{AreStamps}

-- ---- what stays of a list

-- the second list is the first one without some of it
pub data Thins {A : Type 0} : List A → List A → Type 0 where
  none : Thins [] []
  goes : {x : A} {xs ys : List A} → Thins xs ys → Thins (x ∷ xs) ys
  stays : {x : A} {xs ys : List A} → Thins xs ys → Thins (x ∷ xs) (x ∷ ys)

module _ {A : Type 0} (f : A → ℕ) (t : ℕ) where
  cut_test : (b : Bool) (x : A) {xs ys : List A} → Thins xs ys → Thins (x ∷ xs) (if b then ys else x ∷ ys)
  cut_test true x thin = goes thin
  cut_test false x thin = stays thin

  pub kept_thin : (n : ℕ) (xs : List A) → Thins xs (kept_to f t n xs)
  kept_thin n [] = none
  kept_thin n (x ∷ xs) = cut_test ((f x == t) && nat_le n (length (mine f t xs))) x (kept_thin n xs)

  -- what stays and what goes is all
  parted : (b : Bool) (x : A) (kept cut : List A) (all : ℕ) → length kept + length cut ≡ all
      → length (if b then kept else x ∷ kept) + length (if b then x ∷ cut else cut) ≡ suc all
  parted true x kept cut all is = omega (arith, is)
  parted false x kept cut all is = omega (arith, is)

  pub kept_and_cut : (n : ℕ) (xs : List A) → length (kept_to f t n xs) + length (cut_off f t n xs) ≡ length xs
  kept_and_cut n [] = refl
  kept_and_cut n (x ∷ xs) = parted ((f x == t) && nat_le n (length (mine f t xs))) x (kept_to f t n xs) (cut_off f t n xs) (length xs) (kept_and_cut n xs)

  split : (b : Bool) (x : A) (own others : List A) (all : ℕ) → length others + length own ≡ all
      → length (cond (not b) (x ∷ others) others) + length (cond b (x ∷ own) own) ≡ suc all
  split true x own others all is = omega (arith, is)
  split false x own others all is = omega (arith, is)

  pub theirs_and_mine : (xs : List A) → length (theirs f t xs) + length (mine f t xs) ≡ length xs
  theirs_and_mine [] = refl
  theirs_and_mine (x ∷ xs) = split (f x == t) x (mine f t xs) (theirs f t xs) (length xs) (theirs_and_mine xs)

-- ---- by their makers alone

abbrev same : ℕ → ℕ
same n = n

module _ {A : Type 0} (f : A → ℕ) (t : ℕ) where
  put : (b : Bool) (x : A) (xs : List A) (ns : List ℕ) → map f xs ≡ ns → map f (cond b (x ∷ xs) xs) ≡ cond b (f x ∷ ns) ns
  put true x xs ns is = ap (λ (l : List ℕ). f x ∷ l) is
  put false x xs ns is = is

  pub makers_mine : (xs : List A) → map f (mine f t xs) ≡ mine same t (map f xs)
  makers_mine [] = refl
  makers_mine (x ∷ xs) = put (f x == t) x (mine f t xs) (mine same t (map f xs)) (makers_mine xs)

  pub count_mine : (xs : List A) → length (mine f t xs) ≡ length (mine same t (map f xs))
  count_mine xs = sym (length-map (mine f t xs) f) ∙ ap length (makers_mine xs)

  cut_put : (b : Bool) (x : A) (xs : List A) (ns : List ℕ) → map f xs ≡ ns → map f (if b then xs else x ∷ xs) ≡ (if b then ns else f x ∷ ns)
  cut_put true x xs ns is = is
  cut_put false x xs ns is = ap (λ (l : List ℕ). f x ∷ l) is

  pub makers_kept : (n : ℕ) (xs : List A) → map f (kept_to f t n xs) ≡ kept_to same t n (map f xs)
  makers_kept n [] = refl
  makers_kept n (x ∷ xs) =
      cut_put ((f x == t) && nat_le n (length (mine f t xs))) x (kept_to f t n xs) (kept_to same t n (map f xs)) (makers_kept n xs)
      ∙ ap (λ (k : ℕ). if (f x == t) && nat_le n k then kept_to same t n (map f xs) else f x ∷ kept_to same t n (map f xs)) (count_mine xs)

-- two lists with the same makers keep the same ones
module _ {A B : Type 0} (f : A → ℕ) (g : B → ℕ) (xs : List A) (ys : List B) (is : map f xs ≡ map g ys) (t : ℕ) where
  pub alike_kept : (n : ℕ) → map f (kept_to f t n xs) ≡ map g (kept_to g t n ys)
  alike_kept n = makers_kept f t n xs ∙ (ap (kept_to same t n) is ∙ sym (makers_kept g t n ys))

-- ---- positions

pub later_end : (head end next : ℕ) (stamps : List Stamp) → end ≤ next → AreStamps head end stamps → AreStamps head next stamps
later_end head end next [] le is = omega (arith, le, is)
later_end head end next (stamp ∷ stamps) le is = let first = is.0 in (omega (arith, le, first), is.1)

pub thin_stamps : (head end : ℕ) {xs ys : List Stamp} → Thins xs ys → AreStamps head end xs → AreStamps head end ys
thin_stamps head end none is = is
thin_stamps head end (goes {x = x} {xs = xs} thin) is =
    let first = is.0 in thin_stamps head end thin (later_end head x.at end xs (omega (arith, first)) is.1)
thin_stamps head end (stays {x = x} thin) is = (is.0, thin_stamps head x.at thin is.1)
