-- What the calls keep of the lists.
use Rattle.std.proofs.Common.{◌≡◌, ◌≢◌, ◌⊎◌, inl, inr, ℕ, zero, suc, ◌<◌, ◌≤◌, Bool, true, false, not, cond, List, [], ◌∷◌, ◌++◌, length, take, get_or, refl, sym, ◌∙◌, ap, ap₂, subst, arith, length-append}
use Rattle.std.specs.Prelude.{◌||◌, ◌==◌, slice_set}
use Rattle.std.specs.List.{refill}
use Rattle.std.proofs.lemmas.List.{take_all, append-nil, drop_all}
use Rattle.std.proofs.lemmas.Bool.{cases_Bool, cases_eq, cond-true, cond-false, eqb-true, eq-eqb, ne_eqb, or_right, or_from, true≢false, false_from_ne_true}
use Rattle.rss_wait.specs.declared.wait.Wait.{Wait}
use Rattle.rss_wait.specs.Waits.{is_in, IsOnce, without, without_wait, all_again, waiting_for}
use Rattle.rss_wait.specs.Kept.{waiters, AreWaiting}
use Rattle.rss_wait.proofs.Members.{in_both, in_itself, cases_in, apart_in, few}
use Rattle.rss_wait.proofs.Loops.{length-waiters}

-- ---- begun

pub begun_kept : (opened : List ℕ) (waits : List Wait) (t : ℕ) → length opened < 32 → AreWaiting opened waits → AreWaiting (opened ++ t ∷ []) waits
begun_kept opened waits t room are = record {
  few = omega (arith, length-append opened (t ∷ []));
  once = are.once;
  are_open = λ u there. in_both u opened (t ∷ []) ∙ ap (λ (b : Bool). b || is_in (t ∷ []) u) (are.are_open u there);
}

-- ---- answered, and gone

-- who waits besides t
pub others_wait : (waits : List Wait) (t : ℕ) → waiters (without_wait t waits) ≡ without t (waiters waits)
others_wait [] t = refl
others_wait (wait ∷ waits) t = elim (cases_Bool (wait.by == t)) [
  | inl same ↦ ap (λ (b : Bool). waiters (cond (not b) (wait ∷ without_wait t waits) (without_wait t waits))) same ∙ others_wait waits t ∙ sym (ap (λ (b : Bool). cond (not b) (wait.by ∷ without t (waiters waits)) (without t (waiters waits))) same)
  | inr differ ↦ ap (λ (b : Bool). waiters (cond (not b) (wait ∷ without_wait t waits) (without_wait t waits))) differ ∙ ap (λ (l : List ℕ). wait.by ∷ l) (others_wait waits t) ∙ sym (ap (λ (b : Bool). cond (not b) (wait.by ∷ without t (waiters waits)) (without t (waiters waits))) differ)
]

pub in_without : (us : List ℕ) (t u : ℕ) → is_in (without t us) u ≡ true → (is_in us u ≡ true) × (u ≢ t)
in_without [] t u there = absurd (true≢false (sym there))
in_without (v ∷ us) t u there = elim (cases_eq v t) [
  | inl same ↦
      let rest = in_without us t u (ap (λ (b : Bool). is_in (cond (not b) (v ∷ without t us) (without t us)) u) (sym (eq-eqb v t same)) ∙ there) in
      (or_right (v == u) (is_in us u) rest.0, rest.1)
  | inr differ ↦
      elim (cases_in u v (without t us) (ap (λ (b : Bool). is_in (cond (not b) (v ∷ without t us) (without t us)) u) (sym (ne_eqb v t differ)) ∙ there)) [
        | inl is ↦ (ap (λ (w : ℕ). is_in (w ∷ us) u) is ∙ in_itself u us, λ same. differ (is ∙ same))
        | inr more ↦ let rest = in_without us t u more in (or_right (v == u) (is_in us u) rest.0, rest.1)
      ]
]

pub without_in : (us : List ℕ) (t u : ℕ) → is_in us u ≡ true → u ≢ t → is_in (without t us) u ≡ true
without_in [] t u there differ = absurd (true≢false (sym there))
without_in (v ∷ us) t u there differ = elim (cases_eq v t) [
  | inl same ↦ elim (cases_in u v us there) [
    | inl is ↦ absurd (differ (sym is ∙ same))
    | inr rest ↦ ap (λ (b : Bool). is_in (cond (not b) (v ∷ without t us) (without t us)) u) (eq-eqb v t same) ∙ without_in us t u rest differ
  ]
  | inr other ↦ ap (λ (b : Bool). is_in (cond (not b) (v ∷ without t us) (without t us)) u) (ne_eqb v t other) ∙ elim (cases_in u v us there) [
    | inl is ↦ ap (λ (w : ℕ). is_in (w ∷ without t us) u) is ∙ in_itself u (without t us)
    | inr rest ↦ or_right (v == u) (is_in (without t us) u) (without_in us t u rest differ)
  ]
]

once_without : (us : List ℕ) (t : ℕ) → IsOnce us → IsOnce (without t us)
once_without [] t once = tt
once_without (v ∷ us) t once = elim (cases_Bool (v == t)) [
  | inl same ↦ subst (λ (b : Bool). IsOnce (cond (not b) (v ∷ without t us) (without t us))) (sym same) (once_without us t once.1)
  | inr differ ↦ subst (λ (b : Bool). IsOnce (cond (not b) (v ∷ without t us) (without t us))) (sym differ)
      (false_from_ne_true (is_in (without t us) v) (λ there. true≢false (sym (in_without us t v there).0 ∙ once.0)), once_without us t once.1)
]

short_without : (us : List ℕ) (t : ℕ) → length (without t us) ≤ length us
short_without [] t = omega arith
short_without (v ∷ us) t = elim (cases_Bool (v == t)) [
  | inl same ↦ let is : length (without t (v ∷ us)) ≡ length (without t us) = ap (λ (b : Bool). length (cond (not b) (v ∷ without t us) (without t us))) same in omega (arith, is, short_without us t)
  | inr differ ↦ let is : length (without t (v ∷ us)) ≡ length (v ∷ without t us) = ap (λ (b : Bool). length (cond (not b) (v ∷ without t us) (without t us))) differ in omega (arith, is, short_without us t)
]

pub answered_kept : (opened : List ℕ) (waits : List Wait) (t : ℕ) → AreWaiting opened waits → AreWaiting opened (without_wait t waits)
answered_kept opened waits t are = record {
  few = are.few;
  once = subst IsOnce (sym (others_wait waits t)) (once_without (waiters waits) t are.once);
  are_open = λ u there. are.are_open u (in_without (waiters waits) t u (ap (λ (l : List ℕ). is_in l u) (sym (others_wait waits t)) ∙ there)).0;
}

same_waiters : (waits : List Wait) → waiters (all_again waits) ≡ waiters waits
same_waiters [] = refl
same_waiters (wait ∷ waits) = ap (λ (l : List ℕ). wait.by ∷ l) (same_waiters waits)

-- a transaction that doesn't wait is taken out of the open ones
pub gone_kept : (opened : List ℕ) (waits : List Wait) (t : ℕ) → AreWaiting opened (without_wait t waits) → AreWaiting (without t opened) (all_again (without_wait t waits))
gone_kept opened waits t are =
    let is = same_waiters (without_wait t waits) in
    record {
      few = omega (arith, are.few, short_without opened t);
      once = subst IsOnce (sym is) are.once;
      are_open = λ u there.
          let waits_on : is_in (waiters (without_wait t waits)) u ≡ true = ap (λ (l : List ℕ). is_in l u) (sym is) ∙ there in
          without_in opened t u (are.are_open u waits_on) (in_without (waiters waits) t u (ap (λ (l : List ℕ). is_in l u) (sym (others_wait waits t)) ∙ waits_on)).1;
    }

pub length-again : (waits : List Wait) → length (all_again waits) ≡ length waits
length-again [] = refl
length-again (wait ∷ waits) = omega (arith, length-again waits)

-- ---- wait

in_waiting : (waits : List Wait) (t holder u : ℕ) → is_in (waiters (waiting_for t holder waits)) u ≡ true → (t ≡ u) ⊎ (is_in (waiters waits) u ≡ true)
in_waiting [] t holder u there = cases_in u t [] there
in_waiting (wait ∷ waits) t holder u there = elim (cases_Bool (wait.by == t)) [
  | inl same ↦ elim (cases_in u t (waiters waits) (ap (λ (b : Bool). is_in (waiters (cond b (record { by = t; holder = holder; again = false } ∷ waits) (wait ∷ waiting_for t holder waits))) u) (sym same) ∙ there)) [
    | inl is ↦ inl is
    | inr rest ↦ inr (or_right (wait.by == u) (is_in (waiters waits) u) rest)
  ]
  | inr differ ↦ elim (cases_in u wait.by (waiters (waiting_for t holder waits)) (ap (λ (b : Bool). is_in (waiters (cond b (record { by = t; holder = holder; again = false } ∷ waits) (wait ∷ waiting_for t holder waits))) u) (sym differ) ∙ there)) [
    | inl is ↦ inr (ap (λ (v : ℕ). is_in (v ∷ waiters waits) u) is ∙ in_itself u (waiters waits))
    | inr rest ↦ elim (in_waiting waits t holder u rest) [
      | inl is ↦ inl is
      | inr more ↦ inr (or_right (wait.by == u) (is_in (waiters waits) u) more)
    ]
  ]
]

once_waiting : (waits : List Wait) (t holder : ℕ) → IsOnce (waiters waits) → IsOnce (waiters (waiting_for t holder waits))
once_waiting [] t holder once = (refl, tt)
once_waiting (wait ∷ waits) t holder once = elim (cases_Bool (wait.by == t)) [
  | inl same ↦ subst (λ (b : Bool). IsOnce (waiters (cond b (record { by = t; holder = holder; again = false } ∷ waits) (wait ∷ waiting_for t holder waits)))) (sym same)
      (ap (is_in (waiters waits)) (sym (eqb-true wait.by t same)) ∙ once.0, once.1)
  | inr differ ↦ subst (λ (b : Bool). IsOnce (waiters (cond b (record { by = t; holder = holder; again = false } ∷ waits) (wait ∷ waiting_for t holder waits)))) (sym differ) (
    false_from_ne_true (is_in (waiters (waiting_for t holder waits)) wait.by) (λ there. elim (in_waiting waits t holder wait.by there) [
      | inl is ↦ true≢false (sym (eq-eqb wait.by t (sym is)) ∙ differ)
      | inr more ↦ true≢false (sym more ∙ once.0)
    ]),
    once_waiting waits t holder once.1,
  )
]

pub wait_kept : (opened : List ℕ) (waits : List Wait) (t holder : ℕ) → is_in opened t ≡ true → AreWaiting opened waits → AreWaiting opened (waiting_for t holder waits)
wait_kept opened waits t holder there are = record {
  few = are.few;
  once = once_waiting waits t holder are.once;
  are_open = λ u has. elim (in_waiting waits t holder u has) [
    | inl is ↦ ap (is_in opened) (sym is) ∙ there
    | inr more ↦ are.are_open u more
  ];
}

-- there is room for one more
pub room_waits : (opened : List ℕ) (waits : List Wait) (t : ℕ) → AreWaiting opened waits → is_in opened t ≡ true → is_in (waiters waits) t ≡ false → length waits < 32
room_waits opened waits t are there away =
    omega (
      arith,
      are.few,
      length-waiters waits,
      few (t ∷ waiters waits) opened (away, are.once) (λ u has. elim (cases_in u t (waiters waits) has) [
        | inl is ↦ ap (is_in opened) (sym is) ∙ there
        | inr more ↦ are.are_open u more
      ]),
    )

pub few_wait : (opened : List ℕ) (waits : List Wait) → AreWaiting opened waits → length waits ≤ 32
few_wait opened waits are = omega (arith, are.few, length-waiters waits, few (waiters waits) opened are.once are.are_open)

-- what `put` writes
pub put_there : (waits : List Wait) (t holder place : ℕ) (d : Wait) → place < length waits → ((get_or waits place d).by == t) ≡ true → ((k : ℕ) → k < place → ((get_or waits k d).by == t) ≡ false) → slice_set waits place (record { by = t; holder = holder; again = false }) ≡ waiting_for t holder waits
put_there [] t holder place d low here before = absurd (omega (arith, low))
put_there (wait ∷ waits) t holder zero d low here before =
    sym (cond-true (wait.by == t) (record { by = t; holder = holder; again = false } ∷ waits) (wait ∷ waiting_for t holder waits) here)
put_there (wait ∷ waits) t holder (suc place) d low here before =
    ap (λ (l : List Wait). wait ∷ l) (put_there waits t holder place d (omega (arith, low)) here (λ k less. before (suc k) (omega (arith, less))))
    ∙ sym (cond-false (wait.by == t) (record { by = t; holder = holder; again = false } ∷ waits) (wait ∷ waiting_for t holder waits) (before 0 (omega arith)))

-- none waits where no place has it
pub none_waits : (waits : List Wait) (t : ℕ) (d : Wait) → ((k : ℕ) → k < length waits → ((get_or waits k d).by == t) ≡ false) → is_in (waiters waits) t ≡ false
none_waits [] t d none = refl
none_waits (wait ∷ waits) t d none = or_from (wait.by == t) (is_in (waiters waits) t) (none 0 (omega arith)) (none_waits waits t d (λ k low. none (suc k) (omega (arith, low))))

pub put_last : (waits : List Wait) (t holder : ℕ) → is_in (waiters waits) t ≡ false → waits ++ record { by = t; holder = holder; again = false } ∷ [] ≡ waiting_for t holder waits
put_last [] t holder away = refl
put_last (wait ∷ waits) t holder away =
    let parts = apart_in t wait.by (waiters waits) away in
    ap (λ (l : List Wait). wait ∷ l) (put_last waits t holder parts.1)
    ∙ sym (cond-false (wait.by == t) (record { by = t; holder = holder; again = false } ∷ waits) (wait ∷ waiting_for t holder waits) (ne_eqb wait.by t parts.0))

-- ---- all again

abbrev pub again_of : Wait → Wait
again_of wait = record wait { again = true }

-- what was looked at is to be tried again, and the others are as they were
pub record AreSet (old new : List Wait) (end : ℕ) : Type 0 where
  pub long : length new ≡ length old
  pub done : (k : ℕ) (d : Wait) → k < end → k < length old → get_or new k d ≡ again_of (get_or old k d)
  pub others : (k : ℕ) (d : Wait) → end ≤ k → get_or new k d ≡ get_or old k d

pub all_set : (old new : List Wait) (end : ℕ) → length old ≤ end → AreSet old new end → new ≡ all_again old
all_set old new end whole are = at old new are.long (λ k d low. are.done k d (omega (arith, whole, low)) low)
  where
    at : (xs ys : List Wait) → length ys ≡ length xs → ((k : ℕ) (d : Wait) → k < length xs → get_or ys k d ≡ again_of (get_or xs k d)) → ys ≡ all_again xs
    at [] [] long each = refl
    at [] (y ∷ ys) long each = absurd (omega (arith, long))
    at (x ∷ xs) [] long each = absurd (omega (arith, long))
    at (x ∷ xs) (y ∷ ys) long each = ap₂ (λ (w : Wait) (l : List Wait). w ∷ l) (each 0 x (omega arith)) (at xs ys (omega (arith, long)) (λ k d low. each (suc k) d (omega (arith, low))))

-- a slice that is written back whole
pub refilled : {X : Type 0} (xs ws : List X) → length ws ≡ length xs → refill (length xs) xs ws ≡ ws
refilled xs ws long =
    ap (λ (l : List _). take (length xs) (ws ++ l)) (drop_all (length ws) xs (omega (arith, long)))
    ∙ ap (take (length xs)) (append-nil ws) ∙ take_all (length xs) ws (omega (arith, long))
