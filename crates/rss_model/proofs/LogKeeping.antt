-- What an abort, a cut and an end keep of the changes that stay.
use Rattle.std.proofs.Common.{◌≡◌, ℕ, suc, ◌<◌, ◌≤◌, List, [], ◌∷◌, length, refl, sym, ◌∙◌, ap, subst, arith, map}
use Rattle.std.specs.Prelude.{Bool, true, false, not, ◌==◌, nat_le, filter}
use Rattle.std.specs.Bool.{⊤}
use Rattle.std.specs.List.{AllByRecursion}
use Rattle.std.proofs.lemmas.Bool.{eqb-true, ne_eqb, eq-eqb}
use Rattle.std.proofs.lemmas.Bool.Decides.{nat_tests}
use Rattle.rss_base.specs.declared.item.Item.{Item}
use Rattle.rss_model.specs.Tables.{Contents, content}
use Rattle.rss_model.specs.Changes.{Change, after, own, others, theirs}
use Rattle.rss_model.specs.Records.{Listed, changes_in, is_by, own_in, others_in, is_cut, cut}
use Rattle.rss_model.specs.Changes.{Chained}
use Rattle.rss_model.specs.Restart.{Lone}
use Rattle.rss_model.specs.Ties.{cut_own, StandsAt, here, older}
use Rattle.rss_model.proofs.Surviving.{Falls}
use Rattle.rss_model.proofs.LogLists.{by_test, by_same, false_true, filter_yes, filter_no, filter_all, all_filter, all_weaker}
use Rattle.rss_model.proofs.LogChanging.{NotAt, by_item, put_here, put_other, after_off, after_frame}
use Rattle.rss_model.proofs.LogRedoing.{Below, below_more, all_changes, all_listed}
use Rattle.rss_model.specs.EngineLogs.{stamp_of}
use Rattle.rss_model.specs.Steps.{stamp_by}
use Rattle.rss_model.specs.Meter.{Stamp}

-- ---- a part of the changes

-- with a change that stays every older one of its item stays
abbrev pub Closed : (Listed → Bool) → List Listed → Type 0
Closed p [] = ⊤
Closed p (l ∷ ls) = (p l ≡ true → AllByRecursion (λ k. k.change.item ≡ l.change.item → p k ≡ true) ls) × Closed p ls

sees_part : (base : Contents) (p : Listed → Bool) (i : Item) (ls : List Listed) → AllByRecursion (λ k. k.change.item ≡ i → p k ≡ true) ls → content (after base (changes_in (filter p ls))) i ≡ content (after base (changes_in ls)) i
sees_part base p i [] all = refl
sees_part base p i (l ∷ ls) all =
    let rest : content (after base (changes_in (filter p ls))) i ≡ content (after base (changes_in ls)) i = sees_part base p i ls all.1 in
    by_test (p l)
    (λ e. ap (λ (k : List Listed). content (after base (changes_in k)) i) (filter_yes p l ls e) ∙ after_same e rest)
    (λ e. ap (λ (k : List Listed). content (after base (changes_in k)) i) (filter_no p l ls e) ∙ rest ∙ sym (put_other (after base (changes_in ls)) l.change.item i l.change.new (λ same. false_true (all.0 (sym same)) e)))
  where
    after_same : p l ≡ true → content (after base (changes_in (filter p ls))) i ≡ content (after base (changes_in ls)) i → content (after base (changes_in (l ∷ filter p ls))) i ≡ content (after base (changes_in (l ∷ ls))) i
    after_same e rest = by_item i l.change.item
        (λ f. put_here (after base (changes_in (filter p ls))) l.change.item i l.change.new f ∙ sym (put_here (after base (changes_in ls)) l.change.item i l.change.new f))
        (λ f. put_other (after base (changes_in (filter p ls))) l.change.item i l.change.new f ∙ rest ∙ sym (put_other (after base (changes_in ls)) l.change.item i l.change.new f))

pub chained_part : (base : Contents) (p : Listed → Bool) (ls : List Listed) → Closed p ls → Chained base (changes_in ls) → Chained base (changes_in (filter p ls))
chained_part base p [] closed chained = tt
chained_part base p (l ∷ ls) closed chained = by_test (p l)
    (λ e. subst (λ (k : List Listed). Chained base (changes_in k)) (sym (filter_yes p l ls e)) (chained.0 ∙ sym (sees_part base p l.change.item ls (closed.0 e)), chained_part base p ls closed.1 chained.1))
    (λ e. subst (λ (k : List Listed). Chained base (changes_in k)) (sym (filter_no p l ls e)) (chained_part base p ls closed.1 chained.1))

-- ---- which parts are such

by_false : (t : ℕ) (l : Listed) → not (is_by t l) ≡ true → l.change.by ≡ t → ⊥
by_false t l e is = false_true e (ap not (eq-eqb l.change.by t is))

pub closed_others : (t : ℕ) (ls : List Listed) → Lone (changes_in ls) → Closed (λ l. not (is_by t l)) ls
closed_others t [] lone = tt
closed_others t (l ∷ ls) lone = (
  (λ e. all_weaker (λ k. k.change.item ≡ l.change.item → k.change.by ≡ l.change.by) (λ k. k.change.item ≡ l.change.item → not (is_by t k) ≡ true) ls
      (λ k only same. ap not (ne_eqb k.change.by t (λ is. by_false t l e (sym (only same) ∙ is)))) (all_listed (λ c. c.item ≡ l.change.item → c.by ≡ l.change.by) ls lone.0)),
  closed_others t ls lone.1,
)

not_cut : (t first : ℕ) (k l : Listed) → k.change.by ≡ l.change.by → k.at < l.at → not (is_cut t first l) ≡ true → not (is_cut t first k) ≡ true
not_cut t first k l same lt e = by_test (is_by t k)
    (λ f. let g : is_by t l ≡ true = subst (λ (u : ℕ). (u == t) ≡ true) same f in
    by_test (nat_le first k.at)
    (λ h. let i : nat_le first l.at ≡ true = grind (arith, nat_tests) in false_true e (rw (g, i)))
    (λ h. rw (f, h)))
    (λ f. rw f)

pub both : (P Q : Listed → Type 0) (ls : List Listed) → AllByRecursion P ls → AllByRecursion Q ls → AllByRecursion (λ l. P l × Q l) ls
both P Q [] p q = tt
both P Q (l ∷ ls) p q = ((p.0, q.0), both P Q ls p.1 q.1)

pub closed_cut : (t first : ℕ) (ls : List Listed) → Lone (changes_in ls) → Falls ls → Closed (λ l. not (is_cut t first l)) ls
closed_cut t first [] lone falls = tt
closed_cut t first (l ∷ ls) lone falls = (
  (λ e. all_weaker (λ k. (k.change.item ≡ l.change.item → k.change.by ≡ l.change.by) × (k.at < l.at)) (λ k. k.change.item ≡ l.change.item → not (is_cut t first k) ≡ true) ls
      (λ k is same. not_cut t first k l (is.0 same) is.1 e)
      (both (λ k. k.change.item ≡ l.change.item → k.change.by ≡ l.change.by) (λ k. k.at < l.at) ls (all_listed (λ c. c.item ≡ l.change.item → c.by ≡ l.change.by) ls lone.0) falls.0)),
  closed_cut t first ls lone.1 falls.1,
)

-- ---- an end

-- what stays of others is off what ended
abbrev pub OffAll : List Change → List Change → Type 0
OffAll cs ds = AllByRecursion (λ c. NotAt c.item ds) cs

pub ended_off : (t : ℕ) (ls : List Listed) → Lone (changes_in ls) → AllByRecursion (λ l. NotAt l.change.item (changes_in (own_in t ls))) (others_in t ls)
ended_off t [] lone = tt
ended_off t (l ∷ ls) lone =
    let rest : AllByRecursion (λ k. NotAt k.change.item (changes_in (own_in t ls))) (others_in t ls) = ended_off t ls lone.1 in
    let only : AllByRecursion (λ k. k.change.item ≡ l.change.item → k.change.by ≡ l.change.by) ls = all_listed (λ c. c.item ≡ l.change.item → c.by ≡ l.change.by) ls lone.0 in
    by_same l.change.by t
    (λ e. let h : is_by t l ≡ true = eq-eqb l.change.by t e in
    let off : AllByRecursion (λ k. l.change.item ≡ k.change.item → ⊥) (others_in t ls) =
    all_filter (λ k. k.change.item ≡ l.change.item → k.change.by ≡ l.change.by) (λ k. l.change.item ≡ k.change.item → ⊥) (λ k. not (is_by t k)) ls (λ k other is same. by_false t k other (is (sym same) ∙ e)) only in
    subst (λ (k : List Listed). AllByRecursion (λ m. NotAt m.change.item (changes_in (own_in t (l ∷ ls)))) k) (sym (filter_no (λ k. not (is_by t k)) l ls (ap not h)))
    (subst (λ (k : List Listed). AllByRecursion (λ m. NotAt m.change.item (changes_in k)) (others_in t ls)) (sym (filter_yes (is_by t) l ls h))
    (both (λ k. l.change.item ≡ k.change.item → ⊥) (λ k. NotAt k.change.item (changes_in (own_in t ls))) (others_in t ls) off rest)))
    (λ e. let h : is_by t l ≡ false = ne_eqb l.change.by t e in
    let off : NotAt l.change.item (changes_in (own_in t ls)) =
    all_changes (λ c. c.item ≡ l.change.item → ⊥) (own_in t ls) (all_filter (λ k. k.change.item ≡ l.change.item → k.change.by ≡ l.change.by) (λ k. k.change.item ≡ l.change.item → ⊥) (is_by t) ls (λ k mine is same. e (sym (is same) ∙ eqb-true k.change.by t mine)) only) in
    subst (λ (k : List Listed). AllByRecursion (λ m. NotAt m.change.item (changes_in (own_in t (l ∷ ls)))) k) (sym (filter_yes (λ k. not (is_by t k)) l ls (ap not h)))
    (subst (λ (k : List Listed). AllByRecursion (λ m. NotAt m.change.item (changes_in k)) (l ∷ others_in t ls)) (sym (filter_no (is_by t) l ls h)) (off, rest)))

pub rebased : (base : Contents) (ds : List Change) (cs : List Change) → OffAll cs ds → Chained base cs → Chained (after base ds) cs
rebased base ds [] off chained = tt
rebased base ds (c ∷ cs) off chained = (
  chained.0 ∙ sym (after_frame (after base ds) base cs c.item (after_off base c.item ds off.0)),
  rebased base ds cs off.1 chained.1,
)

pub chained_ended : (base : Contents) (t : ℕ) (ls : List Listed) → Lone (changes_in ls) → Chained base (changes_in ls) → Chained (after base (changes_in (own_in t ls))) (changes_in (others_in t ls))
chained_ended base t ls lone chained =
    rebased base (changes_in (own_in t ls)) (changes_in (others_in t ls)) (all_changes (λ c. NotAt c.item (changes_in (own_in t ls))) (others_in t ls) (ended_off t ls lone)) (chained_part base (λ l. not (is_by t l)) ls (closed_others t ls lone) chained)

-- ---- lists with positions and without

pub own_changes : (t : ℕ) (ls : List Listed) → changes_in (own_in t ls) ≡ own t (changes_in ls)
own_changes t [] = refl
own_changes t (l ∷ ls) = by_test (is_by t l) (λ e. rw e (ap (λ (cs : List Change). l.change ∷ cs) (own_changes t ls))) (λ e. rw e (own_changes t ls))

pub others_changes : (t : ℕ) (ls : List Listed) → changes_in (others_in t ls) ≡ others t (changes_in ls)
others_changes t [] = refl
others_changes t (l ∷ ls) = by_test (is_by t l) (λ e. rw e (others_changes t ls)) (λ e. rw e (ap (λ (cs : List Change). l.change ∷ cs) (others_changes t ls)))

-- ---- a cut by a count is a cut at a position

pub own_more : (t : ℕ) (c : Change) (cs : List Change) → length (own t cs) ≤ length (own t (c ∷ cs))
own_more t c cs = by_test (c.by == t) (λ e. rw e (omega arith)) (λ e. rw e (omega arith))

pub cut_own_none : (t n : ℕ) (cs : List Change) → length (own t cs) ≤ n → cut_own t n cs ≡ cs
cut_own_none t n [] few = refl
cut_own_none t n (c ∷ cs) few = by_test (c.by == t)
    (λ e. let less : suc (length (own t cs)) ≤ n = rw e at few in
    let no : nat_le n (length (own t cs)) ≡ false = grind (arith, nat_tests) in
    simp (e, no) (ap (λ (k : List Change). c ∷ k) (cut_own_none t n cs (omega arith))))
    (λ e. simp e (ap (λ (k : List Change). c ∷ k) (cut_own_none t n cs (omega (arith, own_more t c cs)))))

pub cut_below : (t at : ℕ) (ls : List Listed) → Below at ls → cut t at ls ≡ ls
cut_below t at ls below = filter_all (λ l. not (is_cut t at l)) ls (all_weaker (λ l. l.at < at) (λ l. not (is_cut t at l) ≡ true) ls (λ l lt. early l lt) below)
  where
    early : (l : Listed) → l.at < at → not (is_cut t at l) ≡ true
    early l lt = let no : nat_le at l.at ≡ false = grind (arith, nat_tests) in by_test (is_by t l) (λ e. rw (e, no)) (λ e. rw e)

pub stands_below : (t n at m : ℕ) (ls : List Listed) → StandsAt t n at ls → Below m ls → at < m
stands_below t n at m [] none below = elim none [ ]
stands_below t n at m (l ∷ ls) (here _ _ by count is) below = omega (arith, below.0)
stands_below t n at m (l ∷ ls) (older _ _ rest) below = stands_below t n at m ls rest below.1

pub stands_count : (t n at : ℕ) (ls : List Listed) → StandsAt t n at ls → suc n ≤ length (own t (changes_in ls))
stands_count t n at [] none = elim none [ ]
stands_count t n at (l ∷ ls) (here _ _ by count is) = let e : (l.change.by == t) ≡ true = eq-eqb l.change.by t by in rw e (omega (arith, count))
stands_count t n at (l ∷ ls) (older _ _ rest) = omega (arith, stands_count t n at ls rest, own_more t l.change (changes_in ls))

pub cut_place : (t n at : ℕ) (ls : List Listed) → Falls ls → StandsAt t n at ls → changes_in (cut t at ls) ≡ cut_own t n (changes_in ls)
cut_place t n at [] falls none = elim none [ ]
cut_place t n at (l ∷ ls) falls (here _ _ by count is) =
    let e : is_by t l ≡ true = eq-eqb l.change.by t by in
    let f : nat_le at l.at ≡ true = grind (arith, nat_tests) in
    let g : nat_le n (length (own t (changes_in ls))) ≡ true = grind (arith, nat_tests) in
    let whole : cut t at ls ≡ ls = cut_below t at ls (below_more l.at at ls (omega arith) falls.0) in
    simp (e, f, g) (ap changes_in whole ∙ sym (cut_own_none t n (changes_in ls) (omega (arith, count))))
cut_place t n at (l ∷ ls) falls (older _ _ rest) =
    let later : at < l.at = stands_below t n at l.at ls rest falls.0 in
    let more : suc n ≤ length (own t (changes_in ls)) = stands_count t n at ls rest in
    let f : nat_le at l.at ≡ true = grind (arith, nat_tests) in
    let g : nat_le n (length (own t (changes_in ls))) ≡ true = grind (arith, nat_tests) in
    by_test (is_by t l)
    (λ e. simp (e, f, g) (cut_place t n at ls falls.1 rest))
    (λ e. simp e (ap (λ (k : List Change). l.change ∷ k) (cut_place t n at ls falls.1 rest)))

-- ---- stamps

-- those of what the others changed
pub stamps_others : (t : ℕ) (ls : List Listed) → map stamp_of (others_in t ls) ≡ theirs stamp_by t (map stamp_of ls)
stamps_others t [] = refl
stamps_others t (l ∷ ls) = by_test (is_by t l)
    (λ e. rw e (stamps_others t ls))
    (λ e. rw e (ap (λ (ss : List Stamp). stamp_of l ∷ ss) (stamps_others t ls)))
