-- Lists of changes, and of each transaction's so many.
use Rattle.std.proofs.Common.{◌≡◌, ◌⊎◌, inl, inr, ⊎_elim, ℕ, zero, suc, List, [], ◌∷◌, ◌++◌, length, refl, sym, ◌∙◌, ap, subst, arith}
use Rattle.std.specs.Prelude.{Bool, true, false, not, ◌&&◌, nat_le, min, ◌==◌, if◌then◌else◌, Option, All, filter}
use Rattle.std.proofs.lemmas.Bool.{ne_eqb, eq-eqb}
use Rattle.std.proofs.lemmas.Bool.Decides.{nat_tests}
use Rattle.rss_base.specs.declared.item.Item.{Item}
use Rattle.rss_model.specs.Items.{Content}
use Rattle.rss_model.specs.Tables.{Contents, content, put}
use Rattle.rss_model.specs.Changes.{Change, maker, own, others, kept_to, after, Chained}
use Rattle.rss_model.specs.Kept.{up_to}
use Rattle.rss_model.proofs.LogLists.{by_test, by_same, false_true}
use Rattle.rss_model.proofs.LogChanging.{by_item, put_here, put_other, put_both}

-- ---- elements

abbrev pub In : {A : Type 0} → A → List A → Type 0
In a [] = ⊥
In a (x ∷ xs) = (x ≡ a) ⊎ In a xs

module _ {A : Type 0} where
  pub each_of : (P : A → Type 0) (xs : List A) → All P xs → (a : A) → In a xs → P a
  each_of P [] all a is = absurd is
  each_of P (x ∷ xs) all a (inl e) = subst P e (all 0 x (omega arith))
  each_of P (x ∷ xs) all a (inr is) = each_of P xs (λ k d lt. all (suc k) d (omega (arith, lt))) a is

  pub all_of : (P : A → Type 0) (xs : List A) → ((a : A) → In a xs → P a) → All P xs
  all_of P [] each k d lt = absurd (omega (arith, lt))
  all_of P (x ∷ xs) each zero d lt = each x (inl refl)
  all_of P (x ∷ xs) each (suc k) d lt = all_of P xs (λ a is. each a (inr is)) k d (omega (arith, lt))

  pub in_filter : (p : A → Bool) (xs : List A) (a : A) → In a (filter p xs) → In a xs × (p a ≡ true)
  in_filter p [] a is = absurd is
  in_filter p (x ∷ xs) a is = by_test (p x)
      (λ e. ⊎_elim (λ f. (inl f, ap p (sym f) ∙ e)) (λ f. let rest = in_filter p xs a f in (inr rest.0, rest.1)) (simp e at is))
      (λ e. let rest = in_filter p xs a (simp e at is) in (inr rest.0, rest.1))

  pub in_left : (xs ys : List A) (a : A) → In a xs → In a (xs ++ ys)
  in_left [] ys a is = absurd is
  in_left (x ∷ xs) ys a (inl e) = inl e
  in_left (x ∷ xs) ys a (inr is) = inr (in_left xs ys a is)

  pub in_right : (xs ys : List A) (a : A) → In a ys → In a (xs ++ ys)
  in_right [] ys a is = is
  in_right (x ∷ xs) ys a is = inr (in_right xs ys a is)

  pub in_parts : (xs ys : List A) (a : A) → In a (xs ++ ys) → In a xs ⊎ In a ys
  in_parts [] ys a is = inr is
  in_parts (x ∷ xs) ys a (inl e) = inl (inl e)
  in_parts (x ∷ xs) ys a (inr is) = ⊎_elim (λ l. inl (inr l)) (λ r. inr r) (in_parts xs ys a is)

-- ---- so many of a transaction's

abbrev pub many : (ℕ → ℕ) → ℕ → List Change → Bool
many counts t cs = nat_le (counts t) (length (own t cs))

less_too : (n m : ℕ) → nat_le n (suc m) ≡ false → nat_le n m ≡ false
less_too n m e = grind (arith, nat_tests)

pub own_here : (t : ℕ) (c : Change) (cs : List Change) → c.by ≡ t → own t (c ∷ cs) ≡ c ∷ own t cs
own_here t c cs e = rw (eq-eqb c.by t e)

pub own_off : (t : ℕ) (c : Change) (cs : List Change) → (c.by ≡ t → ⊥) → own t (c ∷ cs) ≡ own t cs
own_off t c cs e = rw (ne_eqb c.by t e)

pub others_here : (t : ℕ) (c : Change) (cs : List Change) → c.by ≡ t → others t (c ∷ cs) ≡ others t cs
others_here t c cs e = rw (eq-eqb c.by t e)

pub others_off : (t : ℕ) (c : Change) (cs : List Change) → (c.by ≡ t → ⊥) → others t (c ∷ cs) ≡ c ∷ others t cs
others_off t c cs e = rw (ne_eqb c.by t e)

-- where all of t's are in, they are so in the older ones
pub still_in : (n t : ℕ) (c : Change) (cs : List Change) → nat_le n (length (own t (c ∷ cs))) ≡ false → nat_le n (length (own t cs)) ≡ false
still_in n t c cs few = by_same c.by t
    (λ e. less_too n (length (own t cs)) (sym (ap (λ (l : List Change). nat_le n (length l)) (own_here t c cs e)) ∙ few))
    (λ e. sym (ap (λ (l : List Change). nat_le n (length l)) (own_off t c cs e)) ∙ few)

pub up_skip : (counts : ℕ → ℕ) (c : Change) (cs : List Change) → many counts c.by cs ≡ true → up_to counts (c ∷ cs) ≡ up_to counts cs
up_skip counts c cs e = rw e

pub up_take : (counts : ℕ → ℕ) (c : Change) (cs : List Change) → many counts c.by cs ≡ false → up_to counts (c ∷ cs) ≡ c ∷ up_to counts cs
up_take counts c cs e = rw e

pub in_up_to : (counts : ℕ → ℕ) (cs : List Change) (a : Change) → In a (up_to counts cs) → In a cs
in_up_to counts [] a is = absurd is
in_up_to counts (c ∷ cs) a is = by_test (many counts c.by cs)
    (λ e. inr (in_up_to counts cs a (subst (In a) (up_skip counts c cs e) is)))
    (λ e. ⊎_elim (λ f. inl f) (λ f. inr (in_up_to counts cs a f)) (subst (In a) (up_take counts c cs e) is))

-- what is left out is not t's, where all of t's are in
pub left_out : (counts : ℕ → ℕ) (t : ℕ) (c : Change) (cs : List Change) → many counts t (c ∷ cs) ≡ false → many counts c.by cs ≡ true → c.by ≡ t → ⊥
left_out counts t c cs few e same = false_true (subst (λ (u : ℕ). many counts u cs ≡ true) same e) (still_in (counts t) t c cs few)

-- ---- two views of one list

-- What a mixture with all of t's changes shows of an item is what is there now, where the changes of others leave it.
pub agree : {B : Type 0} (base : Contents) (t : ℕ) (counts : ℕ → ℕ) (f : Option Content → B) (i : Item) (cs : List Change) → many counts t cs ≡ false → Chained base cs
    → ((c : Change) → In c cs → c.item ≡ i → (c.by ≡ t → ⊥) → f c.old ≡ f c.new) → f (content (after base (up_to counts cs)) i) ≡ f (content (after base cs) i)
agree base t counts f i [] few chained same = refl
agree base t counts f i (c ∷ cs) few chained same =
    let rest = agree base t counts f i cs (still_in (counts t) t c cs few) chained.1 (λ d is. same d (inr is)) in
    by_test (many counts c.by cs)
    (λ e. ap (λ (l : List Change). f (content (after base l) i)) (up_skip counts c cs e) ∙ rest ∙ by_item i c.item
    (λ here. ap (λ (k : Item). f (content (after base cs) k)) here ∙ ap f (sym chained.0) ∙ same c (inl refl) (sym here) (left_out counts t c cs few e) ∙ ap f (sym (put_here (after base cs) c.item i c.new here)))
    (λ off. ap f (sym (put_other (after base cs) c.item i c.new off))))
    (λ e. ap (λ (l : List Change). f (content (after base l) i)) (up_take counts c cs e) ∙ by_item i c.item
    (λ here. ap f (put_here (after base (up_to counts cs)) c.item i c.new here ∙ sym (put_here (after base cs) c.item i c.new here)))
    (λ off. ap f (put_other (after base (up_to counts cs)) c.item i c.new off) ∙ rest ∙ ap f (sym (put_other (after base cs) c.item i c.new off))))

-- ---- the changes of a transaction that goes

pub with_count : ℕ → ℕ → (ℕ → ℕ) → ℕ → ℕ
with_count t n counts u = if u == t then n else counts u

pub count_here : (t n u : ℕ) (counts : ℕ → ℕ) → u ≡ t → with_count t n counts u ≡ n
unfolding with_count
count_here t n u counts e = rw (eq-eqb u t e)

pub count_off : (t n u : ℕ) (counts : ℕ → ℕ) → (u ≡ t → ⊥) → with_count t n counts u ≡ counts u
unfolding with_count
count_off t n u counts e = rw (ne_eqb u t e)

pub at_least : (n : ℕ) → nat_le 0 n ≡ true
at_least n = grind (arith, nat_tests)

pub own-others : (t u : ℕ) (cs : List Change) → (u ≡ t → ⊥) → own u (others t cs) ≡ own u cs
own-others t u [] apart = refl
own-others t u (c ∷ cs) apart = by_same c.by t
    (λ e. ap (own u) (others_here t c cs e) ∙ own-others t u cs apart ∙ sym (own_off u c cs (λ f. apart (sym f ∙ e))))
    (λ e. ap (own u) (others_off t c cs e) ∙ by_same c.by u
    (λ f. own_here u c (others t cs) f ∙ ap (λ (l : List Change). c ∷ l) (own-others t u cs apart) ∙ sym (own_here u c cs f))
    (λ f. own_off u c (others t cs) f ∙ own-others t u cs apart ∙ sym (own_off u c cs f)))

same_test : (t n : ℕ) (counts : ℕ → ℕ) (c : Change) (cs : List Change) → (c.by ≡ t → ⊥) → (ds : List Change) → own c.by ds ≡ own c.by cs → many counts c.by ds ≡ many (with_count t n counts) c.by cs
same_test t n counts c cs e ds same = ap (λ (l : List Change). nat_le (counts c.by) (length l)) same ∙ ap (λ (k : ℕ). nat_le k (length (own c.by cs))) (sym (count_off t n c.by counts e))

-- the others' alone
pub up_others : (t : ℕ) (counts : ℕ → ℕ) (cs : List Change) → up_to counts (others t cs) ≡ up_to (with_count t 0 counts) cs
up_others t counts [] = refl
up_others t counts (c ∷ cs) = by_same c.by t
    (λ e. let skip : many (with_count t 0 counts) c.by cs ≡ true = ap (λ (n : ℕ). nat_le n (length (own c.by cs))) (count_here t 0 c.by counts e) ∙ at_least (length (own c.by cs)) in
    ap (up_to counts) (others_here t c cs e) ∙ up_others t counts cs ∙ sym (up_skip (with_count t 0 counts) c cs skip))
    (λ e. let same : many counts c.by (others t cs) ≡ many (with_count t 0 counts) c.by cs = same_test t 0 counts c cs e (others t cs) (own-others t c.by cs e) in
    ap (up_to counts) (others_off t c cs e) ∙ by_test (many (with_count t 0 counts) c.by cs)
    (λ f. up_skip counts c (others t cs) (same ∙ f) ∙ up_others t counts cs ∙ sym (up_skip (with_count t 0 counts) c cs f))
    (λ f. up_take counts c (others t cs) (same ∙ f) ∙ ap (λ (l : List Change). c ∷ l) (up_others t counts cs) ∙ sym (up_take (with_count t 0 counts) c cs f)))

-- ---- back to a save point

cut_test : ℕ → ℕ → Change → List Change → Bool
cut_test t n c cs = (c.by == t) && nat_le n (length (own t cs))

pub cut_here : (t n : ℕ) (c : Change) (cs : List Change) → c.by ≡ t → nat_le n (length (own t cs)) ≡ true → kept_to maker t n (c ∷ cs) ≡ kept_to maker t n cs
cut_here t n c cs e f = let here : (c.by == t) ≡ true = eq-eqb c.by t e in rw (here, f)

pub cut_few : (t n : ℕ) (c : Change) (cs : List Change) → nat_le n (length (own t cs)) ≡ false → kept_to maker t n (c ∷ cs) ≡ c ∷ kept_to maker t n cs
cut_few t n c cs f = by_test (c.by == t) (λ e. rw (e, f)) (λ e. rw e)

pub cut_off_it : (t n : ℕ) (c : Change) (cs : List Change) → (c.by ≡ t → ⊥) → kept_to maker t n (c ∷ cs) ≡ c ∷ kept_to maker t n cs
cut_off_it t n c cs e = let off : (c.by == t) ≡ false = ne_eqb c.by t e in rw off

pub in_cut : (t n : ℕ) (cs : List Change) (a : Change) → In a (kept_to maker t n cs) → In a cs
in_cut t n [] a is = absurd is
in_cut t n (c ∷ cs) a is = by_same c.by t
    (λ e. by_test (nat_le n (length (own t cs)))
    (λ f. inr (in_cut t n cs a (subst (In a) (cut_here t n c cs e f) is)))
    (λ f. ⊎_elim (λ g. inl g) (λ g. inr (in_cut t n cs a g)) (subst (In a) (cut_few t n c cs f) is)))
    (λ e. ⊎_elim (λ g. inl g) (λ g. inr (in_cut t n cs a g)) (subst (In a) (cut_off_it t n c cs e) is))

pub own-cut_other : (t u n : ℕ) (cs : List Change) → (u ≡ t → ⊥) → own u (kept_to maker t n cs) ≡ own u cs
own-cut_other t u n [] apart = refl
own-cut_other t u n (c ∷ cs) apart = by_same c.by t
    (λ e. let none : own u (c ∷ cs) ≡ own u cs = own_off u c cs (λ f. apart (sym f ∙ e)) in
    by_test (nat_le n (length (own t cs)))
    (λ f. ap (own u) (cut_here t n c cs e f) ∙ own-cut_other t u n cs apart ∙ sym none)
    (λ f. ap (own u) (cut_few t n c cs f) ∙ own_off u c (kept_to maker t n cs) (λ g. apart (sym g ∙ e)) ∙ own-cut_other t u n cs apart ∙ sym none))
    (λ e. ap (own u) (cut_off_it t n c cs e) ∙ by_same c.by u
    (λ f. own_here u c (kept_to maker t n cs) f ∙ ap (λ (l : List Change). c ∷ l) (own-cut_other t u n cs apart) ∙ sym (own_here u c cs f))
    (λ f. own_off u c (kept_to maker t n cs) f ∙ own-cut_other t u n cs apart ∙ sym (own_off u c cs f)))

pub cut_none : (t n : ℕ) (cs : List Change) → nat_le n (length (own t cs)) ≡ false → kept_to maker t n cs ≡ cs
cut_none t n [] few = refl
cut_none t n (c ∷ cs) few = cut_few t n c cs (still_in n t c cs few) ∙ ap (λ (l : List Change). c ∷ l) (cut_none t n cs (still_in n t c cs few))

min_right : (n m k : ℕ) → nat_le m k ≡ true → nat_le (min n m) k ≡ true
min_right n m k e = grind (arith, nat_tests)

min_is : (n m k : ℕ) → nat_le m k ≡ false → nat_le (min n m) k ≡ nat_le n k
min_is n m k f = by_test (nat_le n k) (λ e. let g : nat_le (min n m) k ≡ true = grind (arith, nat_tests) in g ∙ sym e) (λ e. let g : nat_le (min n m) k ≡ false = grind (arith, nat_tests) in g ∙ sym e)

module _ (t n : ℕ) (counts : ℕ → ℕ) where
  abbrev so_many : ℕ → ℕ
  so_many = with_count t (min (counts t) n) counts

  both_ways : (c : Change) (cs : List Change) → many counts c.by (kept_to maker t n cs) ≡ many so_many c.by cs → up_to counts (kept_to maker t n cs) ≡ up_to so_many cs → up_to counts (c ∷ kept_to maker t n cs) ≡ up_to so_many (c ∷ cs)
  both_ways c cs same rest = by_test (many so_many c.by cs)
      (λ f. up_skip counts c (kept_to maker t n cs) (same ∙ f) ∙ rest ∙ sym (up_skip so_many c cs f))
      (λ f. up_take counts c (kept_to maker t n cs) (same ∙ f) ∙ ap (λ (l : List Change). c ∷ l) rest ∙ sym (up_take so_many c cs f))

  pub up_cut : (cs : List Change) → up_to counts (kept_to maker t n cs) ≡ up_to (with_count t (min (counts t) n) counts) cs
  up_cut [] = refl
  up_cut (c ∷ cs) = by_same c.by t
      (λ e. let here : many so_many c.by cs ≡ nat_le (min (counts t) n) (length (own t cs)) = ap (λ (k : ℕ). nat_le k (length (own c.by cs))) (count_here t (min (counts t) n) c.by counts e) ∙ ap (λ (u : ℕ). nat_le (min (counts t) n) (length (own u cs))) e in
      by_test (nat_le n (length (own t cs)))
      (λ f. ap (up_to counts) (cut_here t n c cs e f) ∙ up_cut cs ∙ sym (up_skip so_many c cs (here ∙ min_right (counts t) n (length (own t cs)) f)))
      (λ f. let same : many counts c.by (kept_to maker t n cs) ≡ many so_many c.by cs =
      ap (λ (l : List Change). nat_le (counts c.by) (length (own c.by l))) (cut_none t n cs f) ∙ ap (λ (u : ℕ). nat_le (counts u) (length (own u cs))) e ∙ sym (min_is (counts t) n (length (own t cs)) f) ∙ sym here in
      ap (up_to counts) (cut_few t n c cs f) ∙ both_ways c cs same (up_cut cs)))
      (λ e. ap (up_to counts) (cut_off_it t n c cs e) ∙ both_ways c cs (same_test t (min (counts t) n) counts c cs e (kept_to maker t n cs) (own-cut_other t c.by n cs e)) (up_cut cs))

-- ---- a transaction's own, and what it commits

-- the changes of each item are one transaction's
abbrev pub Lone : List Change → Type 0
Lone cs = (c d : Change) → In c cs → In d cs → c.item ≡ d.item → c.by ≡ d.by

-- no change in a list is of the item
pub after_put : (base : Contents) (i : Item) (x : Option Content) (cs : List Change) → ((c : Change) → In c cs → c.item ≡ i → ⊥) → after (put base i x) cs ≡ put (after base cs) i x
after_put base i x [] off = refl
after_put base i x (c ∷ cs) off = ap (λ (k : Contents). put k c.item c.new) (after_put base i x cs (λ d is. off d (inr is))) ∙ put_both (after base cs) i c.item x c.new (λ e. off c (inl refl) (sym e))

pub up_end : (base : Contents) (t n : ℕ) (counts : ℕ → ℕ) (cs : List Change) → Lone cs → nat_le n (length (own t cs)) ≡ false
    → after (after base (own t cs)) (up_to counts (others t cs)) ≡ after base (up_to (with_count t n counts) cs)
up_end base t n counts [] lone few = refl
up_end base t n counts (c ∷ cs) lone few =
    let rest = up_end base t n counts cs (λ a b is also. lone a b (inr is) (inr also)) (still_in n t c cs few) in
    by_same c.by t
    (λ e. let take : many (with_count t n counts) c.by cs ≡ false = ap (λ (k : ℕ). nat_le k (length (own c.by cs))) (count_here t n c.by counts e) ∙ ap (λ (u : ℕ). nat_le n (length (own u cs))) e ∙ still_in n t c cs few in
    (λ i. after (after base (own_here t c cs e i)) (up_to counts (others_here t c cs e i)))
    ∙ after_put (after base (own t cs)) c.item c.new (up_to counts (others t cs)) (λ d is same. let of = in_filter (λ (k : Change). not (k.by == t)) cs d (in_up_to counts (others t cs) d is) in
    false_true (eq-eqb d.by t (lone d c (inr of.0) (inl refl) same ∙ e)) (not_false (d.by == t) of.1))
    ∙ ap (λ (k : Contents). put k c.item c.new) rest ∙ ap (after base) (sym (up_take (with_count t n counts) c cs take)))
    (λ e. let same = same_test t n counts c cs e (others t cs) (own-others t c.by cs e) in
    (λ i. after (after base (own_off t c cs e i)) (up_to counts (others_off t c cs e i))) ∙ by_test (many (with_count t n counts) c.by cs)
    (λ f. ap (after (after base (own t cs))) (up_skip counts c (others t cs) (same ∙ f)) ∙ rest ∙ ap (after base) (sym (up_skip (with_count t n counts) c cs f)))
    (λ f. ap (after (after base (own t cs))) (up_take counts c (others t cs) (same ∙ f)) ∙ ap (λ (k : Contents). put k c.item c.new) rest ∙ ap (after base) (sym (up_take (with_count t n counts) c cs f))))
  where
    not_false : (b : Bool) → not b ≡ true → b ≡ false
    not_false true e = absurd (cc (e))
    not_false false e = refl
