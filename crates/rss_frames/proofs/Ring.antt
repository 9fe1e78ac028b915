-- How writes to the links change the list that they hold.
use Rattle.std.proofs.Common.{◌≡◌, ◌≢◌, ℕ, ◌+◌, ◌<◌, ◌⊎◌, inl, inr, List, [], ◌∷◌, length, get_or, set, replicate, Some, refl, sym, ◌∙◌, ap, subst, arith}
use Prim.Native.Nat.{zero, suc}
use Rattle.std.proofs.lemmas.Bool.{eq-eqb, ne_eqb}
use Rattle.std.proofs.lemmas.List.{get_or-set_same, get_or-set_other, length-set, get_or-replicate, length-replicate}
use Rattle.rss_frames.specs.Lists.{Has, Apart, without, last_from, last_frame}
use Rattle.rss_frames.proofs.Lists.{without-absent, Has-without, Apart-without, length-without}
use Rattle.rss_frames.specs.Links.{walk, ring, Leads, IsLinked}

-- ---- what a cell holds after a write

same_at : (l : List ℕ) (i j a : ℕ) → j ≡ i → i < length l → get_or (set l i a) j 0 ≡ a
same_at l i j a e within = ap (λ k. get_or (set l i a) k 0) e ∙ get_or-set_same l i a 0 within

-- ---- the links

pub Leads-frame : (n p n' p' : List ℕ) (a : ℕ) (xs : List ℕ) (b : ℕ) → get_or n' a 0 ≡ get_or n a 0 → get_or p' b 0 ≡ get_or p b 0
    → ((k : ℕ) → Has k xs → (get_or n' k 0 ≡ get_or n k 0) × (get_or p' k 0 ≡ get_or p k 0)) → Leads n p a xs b → Leads n' p' a xs b
Leads-frame n p n' p' a [] b at_a at_b same s = (at_a ∙ s.0, at_b ∙ s.1)
Leads-frame n p n' p' a (x ∷ xs) b at_a at_b same s =
    let at = same x (inl refl) in
    (at_a ∙ s.0, at.1 ∙ s.1, Leads-frame n p n' p' x xs b at.0 at_b (λ k h. same k (inr h)) s.2)

before_in : (n p : List ℕ) (i a : ℕ) (xs : List ℕ) (b : ℕ) → Leads n p a xs b → Has i xs → Has (get_or p i 0) (a ∷ xs)
before_in n p i a [] b s h = absurd h
before_in n p i a (x ∷ xs) b s (inl e) = inl (ap (λ k. get_or p k 0) e ∙ s.1)
before_in n p i a (x ∷ xs) b s (inr h) = inr (before_in n p i x xs b s.2 h)

after_in : (n p : List ℕ) (i a : ℕ) (xs : List ℕ) (b : ℕ) → Leads n p a xs b → Has i xs → Has (get_or n i 0) xs ⊎ (get_or n i 0 ≡ b)
after_in n p i a [] b s h = absurd h
after_in n p i a (x ∷ []) b s (inl e) = inr (ap (λ k. get_or n k 0) e ∙ s.2.0)
after_in n p i a (x ∷ y ∷ ys) b s (inl e) = inl (inr (inl (ap (λ k. get_or n k 0) e ∙ s.2.0)))
after_in n p i a (x ∷ xs) b s (inr h) = elim (after_in n p i x xs b s.2 h) [ inl there ↦ inl (inr there) | inr end ↦ inr end ]

pub Leads-unlink : (n p : List ℕ) (i pv nx : ℕ) → pv ≡ get_or p i 0 → nx ≡ get_or n i 0 → (a : ℕ) (xs : List ℕ) (b : ℕ) → Has i xs → Apart xs
    → (Has a xs → ⊥) → (Has b xs → ⊥) → pv < length n → nx < length p → Leads n p a xs b → Leads (set n pv nx) (set p nx pv) a (without i xs) b
Leads-unlink n p i pv nx pe ne a [] b h apart no_a no_b wp wn s = absurd h
Leads-unlink n p i pv nx pe ne a (x ∷ []) b (inl e) apart no_a no_b wp wn s =
    let to : a ≡ pv = sym s.1 ∙ ap (λ k. get_or p k 0) (sym e) ∙ sym pe in
    let on : b ≡ nx = sym s.2.0 ∙ ap (λ k. get_or n k 0) (sym e) ∙ sym ne in
    rw (eq-eqb i x e) (same_at n pv a nx to wp ∙ sym on, same_at p nx b pv on wn ∙ sym to)
Leads-unlink n p i pv nx pe ne a (x ∷ y ∷ ys) b (inl e) apart no_a no_b wp wn s =
    let to : a ≡ pv = sym s.1 ∙ ap (λ k. get_or p k 0) (sym e) ∙ sym pe in
    let on : y ≡ nx = sym s.2.0 ∙ ap (λ k. get_or n k 0) (sym e) ∙ sym ne in
    let gone : without i (y ∷ ys) ≡ y ∷ ys = without-absent i (y ∷ ys) (λ h. apart.0 (subst (λ k. Has k (y ∷ ys)) e h)) in
    rw (eq-eqb i x e) (subst (λ l. Leads (set n pv nx) (set p nx pv) a l b) (sym gone) (
      same_at n pv a nx to wp ∙ sym on,
      same_at p nx y pv on wn ∙ sym to,
      Leads-frame n p (set n pv nx) (set p nx pv) y ys b
          (get_or-set_other n pv y nx 0 (λ f. no_a (inr (inl (to ∙ sym f)))))
          (get_or-set_other p nx b pv 0 (λ f. no_b (inr (inl (f ∙ sym on)))))
          (λ k h. (
            get_or-set_other n pv k nx 0 (λ f. no_a (inr (inr (subst (λ j. Has j ys) (f ∙ sym to) h)))),
            get_or-set_other p nx k pv 0 (λ f. apart.1.0 (subst (λ j. Has j ys) (f ∙ sym on) h)),
          ))
          s.2.2,
    ))
Leads-unlink n p i pv nx pe ne a (x ∷ xs) b (inr h) apart no_a no_b wp wn s =
    let from = before_in n p i x xs b s.2 h in
    let onto = after_in n p i x xs b s.2 h in
    rw (ne_eqb i x (λ e. apart.0 (subst (λ k. Has k xs) e h))) (
      get_or-set_other n pv a nx 0 (λ f. no_a (subst (λ k. Has k (x ∷ xs)) (sym pe ∙ sym f) from)) ∙ s.0,
      get_or-set_other p nx x pv 0 (λ f. elim onto [
        | inl there ↦ apart.0 (subst (λ k. Has k xs) (sym ne ∙ sym f) there)
        | inr end ↦ no_b (inl (sym end ∙ sym ne ∙ sym f))
      ]) ∙ s.1,
      Leads-unlink n p i pv nx pe ne x xs b h apart.1 apart.0 (λ g. no_b (inr g)) wp wn s.2,
    )

pub Leads-push : (n p : List ℕ) (i f r : ℕ) → f ≡ get_or n r 0 → (xs : List ℕ) → (Has i xs → ⊥) → (Has r xs → ⊥) → i ≢ r → Apart xs
    → i < length n → i < length p → r < length n → f < length p → Leads n p r xs r
    → Leads (set (set n i f) r i) (set (set p i r) f i) r (i ∷ xs) r
Leads-push n p i f r fe [] no_i no_r off apart wn wp rn fp s =
    let head : f ≡ r = fe ∙ s.0 in (
      same_at (set n i f) r r i refl (rw length-set rn),
      get_or-set_other (set p i r) f i i 0 (λ e. off (e ∙ head)) ∙ same_at p i i r refl wp,
      (
        get_or-set_other (set n i f) r i i 0 off ∙ same_at n i i f refl wn ∙ head,
        same_at (set p i r) f r i (sym head) (rw length-set fp),
      ),
    )
Leads-push n p i f r fe (x ∷ xs) no_i no_r off apart wn wp rn fp s =
    let head : f ≡ x = fe ∙ s.0 in (
      same_at (set n i f) r r i refl (rw length-set rn),
      get_or-set_other (set p i r) f i i 0 (λ e. no_i (inl (e ∙ head))) ∙ same_at p i i r refl wp,
      (
        get_or-set_other (set n i f) r i i 0 off ∙ same_at n i i f refl wn ∙ head,
        same_at (set p i r) f x i (sym head) (rw length-set fp),
        Leads-frame n p (set (set n i f) r i) (set (set p i r) f i) x xs r
            (get_or-set_other (set n i f) r x i 0 (λ e. no_r (inl (sym e))) ∙ get_or-set_other n i x f 0 (λ e. no_i (inl (sym e))))
            (get_or-set_other (set p i r) f r i 0 (λ e. no_r (inl (e ∙ head))) ∙ get_or-set_other p i r r 0 (λ e. off (sym e)))
            (λ k h. (
              get_or-set_other (set n i f) r k i 0 (λ e. no_r (inr (subst (λ j. Has j xs) e h))) ∙ get_or-set_other n i k f 0 (λ e. no_i (inr (subst (λ j. Has j xs) e h))),
              get_or-set_other (set p i r) f k i 0 (λ e. apart.0 (subst (λ j. Has j xs) (e ∙ head) h)) ∙ get_or-set_other p i k r 0 (λ e. no_i (inr (subst (λ j. Has j xs) e h))),
            ))
            s.2,
      ),
    )

-- ---- the list that the links hold

pub length-walk : (n : List ℕ) (len at : ℕ) → length (walk n len at) ≡ len
unfolding walk
length-walk n zero at = refl
length-walk n (suc len) at = ap suc (length-walk n len (get_or n at 0))

walk-Leads : (n p : List ℕ) (a : ℕ) (xs : List ℕ) (b : ℕ) → Leads n p a xs b → walk n (length xs) (get_or n a 0) ≡ xs
unfolding walk
walk-Leads n p a [] b s = refl
walk-Leads n p a (x ∷ xs) b s = rw s.0 (ap (λ l. x ∷ l) (walk-Leads n p x xs b s.2))

pub ring_is : (n p : List ℕ) (r len : ℕ) (xs : List ℕ) → len ≡ length xs → Leads n p r xs r → ring n len r ≡ xs
ring_is n p r len xs e s = ap (λ k. walk n k (get_or n r 0)) e ∙ walk-Leads n p r xs r s

pub ring_none : (n : List ℕ) (r : ℕ) → ring n 0 r ≡ []
unfolding walk
ring_none n r = refl

last_is : (n p : List ℕ) (a : ℕ) (xs : List ℕ) (b : ℕ) → Leads n p a xs b → get_or p b 0 ≡ last_from a xs
last_is n p a [] b s = s.1
last_is n p a (x ∷ xs) b s = last_is n p x xs b s.2

pub last_found : (n p : List ℕ) (r : ℕ) (xs : List ℕ) → 0 < length xs → IsLinked n p r xs → Some (get_or p r 0) ≡ last_frame xs
last_found n p r [] some k = absurd (omega arith)
last_found n p r (x ∷ xs) some k = ap Some (last_is n p x xs r k.leads.2)

-- ---- the two writes

pub pushed : (n p : List ℕ) (r : ℕ) (xs : List ℕ) (i f : ℕ) → f ≡ get_or n r 0 → i < r → (Has i xs → ⊥) → length xs < r → f < r + 1 → IsLinked n p r xs
    → IsLinked (set (set n i f) r i) (set (set p i r) f i) r (i ∷ xs)
pushed n p r xs i f fe within absent room fits k = record {
  nexts = simp length-set k.nexts;
  prevs = simp length-set k.prevs;
  within = λ j h. elim h [ inl e ↦ rw e within | inr there ↦ k.within j there ];
  apart = (absent, k.apart);
  fits = omega arith;
  leads = Leads-push n p i f r fe xs absent (λ h. absurd (omega (arith, k.within r h))) (omega arith) k.apart (omega (arith, k.nexts)) (omega (arith, k.prevs)) (omega (arith, k.nexts)) (omega (arith, k.prevs)) k.leads;
}

pub unlinked : (n p : List ℕ) (r : ℕ) (xs : List ℕ) (i pv nx : ℕ) → pv ≡ get_or p i 0 → nx ≡ get_or n i 0 → Has i xs → pv < r + 1 → nx < r + 1 → IsLinked n p r xs
    → IsLinked (set n pv nx) (set p nx pv) r (without i xs)
unlinked n p r xs i pv nx pe ne h wp wn k = record {
  nexts = simp length-set k.nexts;
  prevs = simp length-set k.prevs;
  within = λ j g. k.within j (Has-without i j xs g).0;
  apart = Apart-without i xs k.apart;
  fits = omega (arith, length-without i xs k.apart h, k.fits);
  leads = Leads-unlink n p i pv nx pe ne r xs r h k.apart (λ g. absurd (omega (arith, k.within r g))) (λ g. absurd (omega (arith, k.within r g))) (omega (arith, k.nexts)) (omega (arith, k.prevs)) k.leads;
}

-- the cells beside one lie within the ring
pub before_within : (n p : List ℕ) (r : ℕ) (xs : List ℕ) (i : ℕ) → Has i xs → IsLinked n p r xs → get_or p i 0 < r + 1
before_within n p r xs i h k = elim (before_in n p i r xs r k.leads h) [ inl e ↦ omega (arith, e) | inr there ↦ omega (arith, k.within (get_or p i 0) there) ]

pub after_within : (n p : List ℕ) (r : ℕ) (xs : List ℕ) (i : ℕ) → Has i xs → IsLinked n p r xs → get_or n i 0 < r + 1
after_within n p r xs i h k = elim (after_in n p i r xs r k.leads h) [ inl there ↦ omega (arith, k.within (get_or n i 0) there) | inr e ↦ omega (arith, e) ]

pub first_within : (n p : List ℕ) (r : ℕ) (xs : List ℕ) → IsLinked n p r xs → get_or n r 0 < r + 1
first_within n p r [] k = omega (arith, k.leads.0)
first_within n p r (x ∷ xs) k = omega (arith, k.leads.0, k.within x (inl refl))

-- ---- an order with no frame

pub none_linked : (n p : List ℕ) (r : ℕ) → n ≡ replicate (r + 1) r → p ≡ replicate (r + 1) r → IsLinked n p r []
none_linked n p r en ep =
    let at : get_or (replicate (r + 1) r) r 0 ≡ r = get_or-replicate (r + 1) r r 0 (omega arith) in
    record {
      nexts = rw en (length-replicate (r + 1) r);
      prevs = rw ep (length-replicate (r + 1) r);
      within = λ i h. absurd h;
      apart = tt;
      fits = omega arith;
      leads = (rw en at, rw ep at);
    }

-- the first frame stays where it is
pub first_stays : (n p : List ℕ) (r i : ℕ) (xs : List ℕ) → IsLinked n p r xs → get_or n r 0 ≡ i → Has i xs → i ∷ without i xs ≡ xs
first_stays n p r i [] k e h = absurd h
first_stays n p r i (x ∷ xs) k e h =
    let is : i ≡ x = sym e ∙ k.leads.0 in
    rw (eq-eqb i x is, without-absent i xs (λ g. k.apart.0 (subst (λ j. Has j xs) is g))) (ap (λ j. j ∷ xs) is)
