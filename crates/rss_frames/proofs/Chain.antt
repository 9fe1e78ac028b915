-- How writes to the links change the chains that they hold.
use Rattle.std.proofs.Common.{◌≡◌, ◌≢◌, ℕ, ◌<◌, ◌≤◌, ◌⊎◌, inl, inr, cond, eqb, List, [], ◌∷◌, length, get_or, set, refl, sym, ◌∙◌, ap, subst, arith}
use Prim.Native.Nat.{zero, suc}
use Rattle.std.proofs.lemmas.Bool.{cases_eq, eq-eqb, ne_eqb}
use Rattle.std.proofs.lemmas.List.{get_or-set_same, get_or-set_other, length-set}
use Rattle.rss_frames.specs.Lists.{Has, Apart, without}
use Rattle.rss_frames.proofs.Lists.{without-absent, Has-without, Apart-without, length_apart}
use Rattle.rss_frames.specs.Chains.{From, IsChain, Reaches, IsBefore}

same_at : (l : List ℕ) (i j a : ℕ) → j ≡ i → i < length l → get_or (set l i a) j 0 ≡ a
same_at l i j a e within = ap (λ k. get_or (set l i a) k 0) e ∙ get_or-set_same l i a 0 within

From-frame : (l l' : List ℕ) (r at : ℕ) (xs : List ℕ) → ((k : ℕ) → Has k xs → get_or l' k 0 ≡ get_or l k 0) → From l r at xs → From l' r at xs
From-frame l l' r at [] same f = f
From-frame l l' r at (x ∷ xs) same f = (f.0, From-frame l l' r (get_or l' x 0) xs (λ k h. same k (inr h)) (subst (λ k. From l r k xs) (sym (same x (inl refl))) f.1))

pub IsChain-frame : (l l' : List ℕ) (r head : ℕ) (xs : List ℕ) → get_or l' head 0 ≡ get_or l head 0 → ((k : ℕ) → Has k xs → get_or l' k 0 ≡ get_or l k 0) → IsChain l r head xs → IsChain l' r head xs
IsChain-frame l l' r head xs at same c = record {
  leads = From-frame l l' r (get_or l' head 0) xs same (subst (λ k. From l r k xs) (sym at) c.leads);
  within = c.within;
  apart = c.apart;
}

-- the cell after one of these is one of those after the first, or the end
pub next_of : (l : List ℕ) (r x : ℕ) (xs : List ℕ) (k : ℕ) → From l r (get_or l x 0) xs → Has k (x ∷ xs) → Has (get_or l k 0) xs ⊎ (get_or l k 0 ≡ r)
next_of l r x [] k f (inl e) = inr (ap (λ j. get_or l j 0) e ∙ f)
next_of l r x [] k f (inr h) = absurd h
next_of l r x (y ∷ ys) k f (inl e) = inl (inl (ap (λ j. get_or l j 0) e ∙ f.0))
next_of l r x (y ∷ ys) k f (inr h) = elim (next_of l r y ys k f.1 h) [ inl g ↦ inl (inr g) | inr g ↦ inr g ]

-- the link of `at`, among a and these, leads to i
From-without : (l : List ℕ) (r i at a : ℕ) (xs : List ℕ) → From l r (get_or l a 0) xs → Has i xs → Apart xs → (Has a xs → ⊥) → i ≢ r
    → Has at (a ∷ xs) → get_or l at 0 ≡ i → at < length l → From (set l at (get_or l i 0)) r (get_or (set l at (get_or l i 0)) a 0) (without i xs)
From-without l r i at a [] f h apart no_a off on link wl = absurd h
From-without l r i at a (x ∷ xs) f (inl e) apart no_a off on link wl =
    let here : at ≡ a = elim on [
      | inl same ↦ same
      | inr there ↦ elim (next_of l r x xs at f.1 there) [
        | inl g ↦ absurd (apart.0 (subst (λ k. Has k xs) (link ∙ e) g))
        | inr g ↦ absurd (off (sym link ∙ g))
      ]
    ] in
    let l' = set l at (get_or l i 0) in
    let at_a : get_or l' a 0 ≡ get_or l x 0 = same_at l at a (get_or l i 0) (sym here) wl ∙ ap (λ k. get_or l k 0) e in
    let kept : From l' r (get_or l x 0) xs = From-frame l l' r (get_or l x 0) xs (λ k h. get_or-set_other l at k (get_or l i 0) 0 (λ s. no_a (inr (subst (λ j. Has j xs) (s ∙ here) h)))) f.1 in
    rw (eq-eqb i x e, without-absent i xs (λ g. apart.0 (subst (λ k. Has k xs) e g))) (subst (λ k. From l' r k xs) (sym at_a) kept)
From-without l r i at a (x ∷ xs) f (inr h) apart no_a off on link wl =
    let other : i ≢ x = λ e. apart.0 (subst (λ k. Has k xs) e h) in
    let away : a ≢ at = λ s. other (sym link ∙ ap (λ k. get_or l k 0) (sym s) ∙ f.0) in
    let on' : Has at (x ∷ xs) = elim on [ inl s ↦ absurd (away (sym s)) | inr there ↦ there ] in
    rw (ne_eqb i x other) (get_or-set_other l at a (get_or l i 0) 0 away ∙ f.0, From-without l r i at x xs f.1 h apart.1 apart.0 off on' link wl)

pub IsChain-without : (l : List ℕ) (r head : ℕ) (xs : List ℕ) (i at : ℕ) → IsChain l r head xs → r ≤ head → Has i xs → Has at (head ∷ xs) → get_or l at 0 ≡ i → at < length l
    → IsChain (set l at (get_or l i 0)) r head (without i xs)
IsChain-without l r head xs i at c out h on link wl = record {
  leads = From-without l r i at head xs c.leads h c.apart (λ g. absurd (omega (arith, c.within head g))) (λ e. absurd (omega (arith, c.within i h, e))) on link wl;
  within = λ k g. c.within k (Has-without i k xs g).0;
  apart = Apart-without i xs c.apart;
}

pub IsChain-push : (l : List ℕ) (r head : ℕ) (xs : List ℕ) (i : ℕ) → IsChain l r head xs → r ≤ head → head < length l → i < r → (Has i xs → ⊥)
    → IsChain (set (set l i (get_or l head 0)) head i) r head (i ∷ xs)
IsChain-push l r head xs i c out wl wi absent =
    let l' = set (set l i (get_or l head 0)) head i in
    let at_i : get_or l' i 0 ≡ get_or l head 0 = get_or-set_other (set l i (get_or l head 0)) head i i 0 (λ e. absurd (omega (arith, e))) ∙ same_at l i i (get_or l head 0) refl (omega arith) in
    record {
      leads = (
        same_at (set l i (get_or l head 0)) head head i refl (rw length-set wl),
        subst (λ k. From l' r k xs) (sym at_i) (From-frame l l' r (get_or l head 0) xs (λ k h.
            get_or-set_other (set l i (get_or l head 0)) head k i 0 (λ e. absurd (omega (arith, c.within k h, e)))
            ∙ get_or-set_other l i k (get_or l head 0) 0 (λ e. absent (subst (λ j. Has j xs) e h))) c.leads),
      );
      within = λ k h. elim h [ inl e ↦ rw e wi | inr g ↦ c.within k g ];
      apart = (absent, c.apart);
    }

-- ---- how many links are left

-- up to the end, or so many that are asked for
unfoldable pub steps : List ℕ → ℕ → ℕ → ℕ → ℕ
steps links end zero at = 0
steps links end (suc n) at = cond (eqb at end) 0 (suc (steps links end n (get_or links at 0)))

pub steps_is : (l : List ℕ) (r n at : ℕ) (xs : List ℕ) → From l r at xs → ((k : ℕ) → Has k xs → k < r) → length xs ≤ n → steps l r n at ≡ length xs
unfolding steps
steps_is l r zero at [] f within fits = refl
steps_is l r zero at (x ∷ xs) f within fits = absurd (omega arith)
steps_is l r (suc n) at [] f within fits = rw (eq-eqb at r f) refl
steps_is l r (suc n) at (x ∷ xs) f within fits =
    rw (ne_eqb at r (λ e. absurd (omega (arith, f.0, e, within x (inl refl))))) (ap suc (rw f.0 (steps_is l r n (get_or l x 0) xs f.1 (λ k h. within k (inr h)) (omega arith))))

-- what is left of a chain
pub record Rest (l : List ℕ) (r at : ℕ) (rest : List ℕ) : Type 0 where
  pub leads : From l r at rest
  pub within : (i : ℕ) → Has i rest → i < r
  pub apart : Apart rest

pub steps_left : (l : List ℕ) (r at : ℕ) (rest : List ℕ) → Rest l r at rest → steps l r r at ≡ length rest
steps_left l r at rest k = steps_is l r r at rest k.leads k.within (length_apart r rest k.apart k.within)

-- one link on
pub Rest-tail : (l : List ℕ) (r at : ℕ) (rest : List ℕ) → Rest l r at rest → at ≢ r
    → (xs : List ℕ) × Rest l r (get_or l at 0) xs × (rest ≡ at ∷ xs)
Rest-tail l r at [] k off = absurd (off k.leads)
Rest-tail l r at (x ∷ xs) k off = (
  xs,
  record {
    leads = subst (λ j. From l r (get_or l j 0) xs) (sym k.leads.0) k.leads.1;
    within = λ i h. k.within i (inr h);
    apart = k.apart.1;
  },
  ap (λ j. j ∷ xs) (sym k.leads.0),
)

-- up to the one that leads to the frame
unfoldable pub until : List ℕ → ℕ → ℕ → ℕ → ℕ
until links frame zero at = 0
until links frame (suc n) at = cond (eqb (get_or links at 0) frame) 0 (suc (until links frame n (get_or links at 0)))

unfoldable place : ℕ → List ℕ → ℕ
place frame [] = 0
place frame (x ∷ xs) = cond (eqb x frame) 0 (suc (place frame xs))

until_is : (l : List ℕ) (r frame n at : ℕ) (xs : List ℕ) → From l r (get_or l at 0) xs → Has frame xs → length xs ≤ n → until l frame n at ≡ place frame xs
unfolding until place
until_is l r frame n at [] f h fits = absurd h
until_is l r frame zero at (x ∷ xs) f h fits = absurd (omega arith)
until_is l r frame (suc n) at (x ∷ xs) f (inl e) fits = rw (f.0, eq-eqb x frame (sym e)) refl
until_is l r frame (suc n) at (x ∷ xs) f (inr h) fits = rw f.0 (elim (cases_eq x frame) [
  | inl e ↦ rw (eq-eqb x frame e) refl
  | inr off ↦ rw (ne_eqb x frame off) (ap suc (until_is l r frame n x xs f.1 h (omega arith)))
])

place_next : (frame x : ℕ) (xs : List ℕ) → x ≢ frame → place frame xs < place frame (x ∷ xs)
unfolding place
place_next frame x xs off = rw (ne_eqb x frame off) (omega arith)

-- the search for the cell before a frame, at some cell
pub record Search (l : List ℕ) (room head frame at : ℕ) : Type 0 where
  pub rest : List ℕ
  pub left : Rest l room (get_or l at 0) rest
  pub has : Has frame rest
  pub cells : room ≤ length l
  pub within : at < length l
  pub on : (chain : List ℕ) → IsChain l room head chain → Has frame chain → Has at (head ∷ chain)

pub search_begins : (l : List ℕ) (room head frame : ℕ) → Reaches l room head frame → Search l room head frame head
search_begins l room head frame k = record {
  rest = k.chain;
  left = record { leads = k.is.leads; within = k.is.within; apart = k.is.apart };
  has = k.has;
  cells = k.cells;
  within = k.head_in;
  on = λ chain c h. inl refl;
}

-- the step to the next cell
step : (l : List ℕ) (room head frame at : ℕ) (rest : List ℕ) → Rest l room (get_or l at 0) rest → Has frame rest → room ≤ length l
    → ((chain : List ℕ) → IsChain l room head chain → Has frame chain → Has at (head ∷ chain)) → get_or l at 0 ≢ frame
    → Search l room head frame (get_or l at 0) × (until l frame (length l) (get_or l at 0) < until l frame (length l) at)
step l room head frame at [] left h cells on off = absurd h
step l room head frame at (x ∷ xs) left (inl e) cells on off = absurd (off (left.leads.0 ∙ sym e))
step l room head frame at (x ∷ xs) left (inr h) cells on off =
    let low : get_or l at 0 < room = omega (arith, left.leads.0, left.within x (inl refl)) in
    let tail : From l room (get_or l (get_or l at 0) 0) xs = subst (λ j. From l room (get_or l j 0) xs) (sym left.leads.0) left.leads.1 in
    let fits : length (x ∷ xs) ≤ room = length_apart room (x ∷ xs) left.apart left.within in (
      record {
        rest = xs;
        left = record { leads = tail; within = λ i g. left.within i (inr g); apart = left.apart.1 };
        has = h;
        cells = cells;
        within = omega arith;
        on = λ chain c g. elim (next_of l room head chain at c.leads (on chain c g)) [ inl there ↦ inr there | inr end ↦ absurd (omega (arith, end)) ];
      },
      rw (until_is l room frame (length l) (get_or l at 0) xs tail h (omega arith), until_is l room frame (length l) at (x ∷ xs) left.leads (inr h) (omega arith))
          (place_next frame x xs (λ e. off (left.leads.0 ∙ e))),
    )

pub search_goes : (l : List ℕ) (room head frame at : ℕ) → Search l room head frame at → get_or l at 0 ≢ frame
    → Search l room head frame (get_or l at 0) × (until l frame (length l) (get_or l at 0) < until l frame (length l) at)
search_goes l room head frame at s off = step l room head frame at s.rest s.left s.has s.cells s.on off

pub search_ends : (l : List ℕ) (room head frame at : ℕ) → Search l room head frame at → get_or l at 0 ≡ frame → IsBefore l room head frame at
search_ends l room head frame at s is = record { within = s.within; link = is; on = s.on }

-- a cell that isn't the end is a frame
pub frame_of_rest : (l : List ℕ) (r at : ℕ) (rest : List ℕ) → Rest l r at rest → at ≢ r → at < r
frame_of_rest l r at [] k off = absurd (off k.leads)
frame_of_rest l r at (x ∷ xs) k off = omega (arith, k.leads.0, k.within x (inl refl))

-- one link on there is one link less
pub one_less : (l : List ℕ) (r at : ℕ) (rest : List ℕ) → Rest l r at rest → at ≢ r → steps l r r (get_or l at 0) < steps l r r at
one_less l r at rest k off =
    let tail = Rest-tail l r at rest k off in
    omega (arith, steps_left l r at rest k, steps_left l r (get_or l at 0) tail.0 tail.1, ap length tail.2)

-- none is left at the end
pub none_left : (l : List ℕ) (r at : ℕ) (rest : List ℕ) (i : ℕ) → Rest l r at rest → at ≡ r → Has i rest → ⊥
none_left l r at [] i k e h = h
none_left l r at (x ∷ xs) i k e h = absurd (omega (arith, k.leads.0, e, k.within x (inl refl)))
