-- Lines by their numbers.
use Rattle.std.proofs.Common.{◌≡◌, ◌≢◌, inl, inr, ℕ, zero, suc, ◌<◌, ◌≤◌, Bool, true, false, not, cond, List, [], ◌∷◌, ◌++◌, refl, sym, ◌∙◌, ap, subst, arith}
use Rattle.std.specs.Prelude.{Some, None, All, find}
use Rattle.std.proofs.lemmas.Bool.{cases_Bool, cases_lt, cond-true, cond-false, lt-ltb, le-ltb, eq-eqb, ne_eqb}
use Rattle.rss_wait.specs.declared.held.Held.{Held}
use Rattle.rss_wait.specs.Waits.{is_in}
use Rattle.rss_wait.specs.Held.{without_line}
use Rattle.rss_wait.specs.Queues.{Each, put_line, in_order, numbers}
use Rattle.rss_wait.proofs.Members.{apart_in}

-- ---- each

module _ {X : Type 0} (P : X → Type 0) where
  pub each_both : (xs ys : List X) → Each P xs → Each P ys → Each P (xs ++ ys)
  each_both [] ys one two = two
  each_both (x ∷ xs) ys one two = (one.0, each_both xs ys one.1 two)

  pub each_parts : (xs ys : List X) → Each P (xs ++ ys) → Each P xs × Each P ys
  each_parts [] ys each = (tt, each)
  each_parts (x ∷ xs) ys each = let rest = each_parts xs ys each.1 in ((each.0, rest.0), rest.1)

  pub each_all : (xs : List X) → Each P xs → All P xs
  each_all [] each k d low = absurd (omega (arith, low))
  each_all (x ∷ xs) each zero d low = each.0
  each_all (x ∷ xs) each (suc k) d low = each_all xs each.1 k d (omega (arith, low))

  pub all_each : (xs : List X) → All P xs → Each P xs
  all_each [] all = tt
  all_each (x ∷ xs) all = (all 0 x (omega arith), all_each xs (λ k d low. all (suc k) d (omega (arith, low))))

pub each_so : {X : Type 0} (P Q : X → Type 0) → ((x : X) → P x → Q x) → (xs : List X) → Each P xs → Each Q xs
each_so P Q so [] each = tt
each_so P Q so (x ∷ xs) each = (so x each.0, each_so P Q so xs each.1)

pub each_and : {X : Type 0} (P Q R : X → Type 0) → ((x : X) → P x → Q x → R x) → (xs : List X) → Each P xs → Each Q xs → Each R xs
each_and P Q R so [] one two = tt
each_and P Q R so (x ∷ xs) one two = (so x one.0 two.0, each_and P Q R so xs one.1 two.1)

-- ---- one more line

put_first : (line other : Held) (lines : List Held) → line.number < other.number → put_line line (other ∷ lines) ≡ line ∷ other ∷ lines
put_first line other lines less = cond-true _ (line ∷ other ∷ lines) (other ∷ put_line line lines) (lt-ltb line.number other.number less)

put_behind : (line other : Held) (lines : List Held) → other.number ≤ line.number → put_line line (other ∷ lines) ≡ other ∷ put_line line lines
put_behind line other lines less = cond-false _ (line ∷ other ∷ lines) (other ∷ put_line line lines) (le-ltb line.number other.number less)

each_put : (P : Held → Type 0) (line : Held) (lines : List Held) → P line → Each P lines → Each P (put_line line lines)
each_put P line [] here each = (here, tt)
each_put P line (other ∷ lines) here each = elim (cases_lt line.number other.number) [
  | inl less ↦ subst (Each P) (sym (put_first line other lines less)) (here, each)
  | inr more ↦ subst (Each P) (sym (put_behind line other lines more)) (each.0, each_put P line lines here each.1)
]

put_each : (P : Held → Type 0) (line : Held) (lines : List Held) → Each P (put_line line lines) → P line × Each P lines
put_each P line [] each = (each.0, tt)
put_each P line (other ∷ lines) each = elim (cases_lt line.number other.number) [
  | inl less ↦ subst (Each P) (put_first line other lines less) each
  | inr more ↦
      let parts : Each P (other ∷ put_line line lines) = subst (Each P) (put_behind line other lines more) each in
      let rest = put_each P line lines parts.1 in
      (rest.0, (parts.0, rest.1))
]

pub each_order : (P : Held → Type 0) (lines : List Held) → Each P lines → Each P (in_order lines)
each_order P [] each = tt
each_order P (line ∷ lines) each = each_put P line (in_order lines) each.0 (each_order P lines each.1)

pub order_each : (P : Held → Type 0) (lines : List Held) → Each P (in_order lines) → Each P lines
order_each P [] each = tt
order_each P (line ∷ lines) each = let parts = put_each P line (in_order lines) each in (parts.0, order_each P lines parts.1)

pub put_least : (line : Held) (lines : List Held) → Each (λ (other : Held). line.number < other.number) lines → put_line line lines ≡ line ∷ lines
put_least line [] each = refl
put_least line (other ∷ lines) each = put_first line other lines each.0

put_most : (line : Held) (lines : List Held) → Each (λ (other : Held). other.number < line.number) lines → put_line line lines ≡ lines ++ line ∷ []
put_most line [] each = refl
put_most line (other ∷ lines) each = put_behind line other lines (omega (arith, each.0)) ∙ ap (λ (l : List Held). other ∷ l) (put_most line lines each.1)

-- two lines are put in either order
swap_less : (a b : Held) (lines : List Held) → a.number < b.number → put_line a (put_line b lines) ≡ put_line b (put_line a lines)
swap_less a b [] less = put_first a b [] less ∙ sym (put_behind b a [] (omega (arith, less)))
swap_less a b (c ∷ lines) less = elim (cases_lt b.number c.number) [
  | inl before ↦
      ap (put_line a) (put_first b c lines before) ∙ put_first a b (c ∷ lines) less
      ∙ sym (ap (put_line b) (put_first a c lines (omega (arith, less, before))) ∙ put_behind b a (c ∷ lines) (omega (arith, less)) ∙ ap (λ (l : List Held). a ∷ l) (put_first b c lines before))
  | inr behind ↦ elim (cases_lt a.number c.number) [
    | inl first ↦
        ap (put_line a) (put_behind b c lines behind) ∙ put_first a c (put_line b lines) first
        ∙ sym (ap (put_line b) (put_first a c lines first) ∙ put_behind b a (c ∷ lines) (omega (arith, less)) ∙ ap (λ (l : List Held). a ∷ l) (put_behind b c lines behind))
    | inr later ↦
        ap (put_line a) (put_behind b c lines behind) ∙ put_behind a c (put_line b lines) later ∙ ap (λ (l : List Held). c ∷ l) (swap_less a b lines less)
        ∙ sym (ap (put_line b) (put_behind a c lines later) ∙ put_behind b c (put_line a lines) behind)
  ]
]

swap : (a b : Held) (lines : List Held) → a.number ≢ b.number → put_line a (put_line b lines) ≡ put_line b (put_line a lines)
swap a b lines differ = elim (cases_lt a.number b.number) [
  | inl less ↦ swap_less a b lines less
  | inr more ↦ sym (swap_less b a lines (omega (arith, more, differ)))
]

-- any line may be put last
pub bring : (xs : List Held) (line : Held) (ys : List Held) → Each (λ (x : Held). x.number ≢ line.number) xs → in_order (xs ++ line ∷ ys) ≡ put_line line (in_order (xs ++ ys))
bring [] line ys apart = refl
bring (x ∷ xs) line ys apart = ap (put_line x) (bring xs line ys apart.1) ∙ swap x line (in_order (xs ++ ys)) apart.0

-- a line of the greatest number stands last
pub pushed : (xs : List Held) (line : Held) (ys : List Held) → Each (λ (x : Held). x.number < line.number) (xs ++ ys) → in_order (xs ++ line ∷ ys) ≡ in_order (xs ++ ys) ++ line ∷ []
pushed xs line ys below =
    bring xs line ys (each_so (λ (x : Held). x.number < line.number) (λ (x : Held). x.number ≢ line.number) (λ x less same. omega (arith, less, same)) xs (each_parts (λ (x : Held). x.number < line.number) xs ys below).0)
    ∙ put_most line (in_order (xs ++ ys)) (each_order (λ (x : Held). x.number < line.number) (xs ++ ys) below)

-- ---- a line taken out, or found

none_out : (n : ℕ) (lines : List Held) → Each (λ (x : Held). x.number ≢ n) lines → without_line n lines ≡ lines
none_out n [] apart = refl
none_out n (x ∷ lines) apart =
    ap (λ (b : Bool). cond (not b) (x ∷ without_line n lines) (without_line n lines)) (ne_eqb x.number n apart.0) ∙ ap (λ (l : List Held). x ∷ l) (none_out n lines apart.1)

pub put_out : (line : Held) (lines : List Held) → Each (λ (x : Held). x.number ≢ line.number) lines → without_line line.number (put_line line lines) ≡ lines
put_out line [] apart = ap (λ (b : Bool). cond (not b) (line ∷ []) []) (eq-eqb line.number line.number refl)
put_out line (x ∷ lines) apart = elim (cases_lt line.number x.number) [
  | inl less ↦
      ap (without_line line.number) (put_first line x lines less)
      ∙ ap (λ (b : Bool). cond (not b) (line ∷ without_line line.number (x ∷ lines)) (without_line line.number (x ∷ lines))) (eq-eqb line.number line.number refl)
      ∙ none_out line.number (x ∷ lines) apart
  | inr more ↦
      ap (without_line line.number) (put_behind line x lines more)
      ∙ ap (λ (b : Bool). cond (not b) (x ∷ without_line line.number (put_line line lines)) (without_line line.number (put_line line lines))) (ne_eqb x.number line.number apart.0)
      ∙ ap (λ (l : List Held). x ∷ l) (put_out line lines apart.1)
]

pub put_found : (p : Held → Bool) (line : Held) (lines : List Held) → p line ≡ true → Each (λ (x : Held). p x ≡ true → line.number < x.number) lines → find p (put_line line lines) ≡ Some line
put_found p line [] here later = cond-true (p line) (Some line) None here
put_found p line (x ∷ lines) here later = elim (cases_lt line.number x.number) [
  | inl less ↦ ap (find p) (put_first line x lines less) ∙ cond-true (p line) (Some line) (find p (x ∷ lines)) here
  | inr more ↦
      let off : p x ≡ false = elim (cases_Bool (p x)) [
        | inl passes ↦ absurd (omega (arith, more, later.0 passes))
        | inr fails ↦ fails
      ] in
      ap (find p) (put_behind line x lines more) ∙ cond-false (p x) (Some x) (find p (put_line line lines)) off ∙ put_found p line lines here later.1
]

pub none_found : (p : Held → Bool) (lines : List Held) → Each (λ (x : Held). p x ≡ false) lines → find p lines ≡ None
none_found p [] each = refl
none_found p (x ∷ lines) each = cond-false (p x) (Some x) (find p lines) each.0 ∙ none_found p lines each.1

-- ---- numbers

pub numbers_both : (xs ys : List Held) → numbers (xs ++ ys) ≡ numbers xs ++ numbers ys
numbers_both [] ys = refl
numbers_both (x ∷ xs) ys = ap (λ (l : List ℕ). x.number ∷ l) (numbers_both xs ys)

pub numbers_apart : (n : ℕ) (lines : List Held) → is_in (numbers lines) n ≡ false → Each (λ (x : Held). x.number ≢ n) lines
numbers_apart n [] away = tt
numbers_apart n (x ∷ lines) away = let parts = apart_in n x.number (numbers lines) away in (parts.0, numbers_apart n lines parts.1)
