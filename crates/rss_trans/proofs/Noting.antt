-- Notes of changes, and the changes of a transaction of which so many stay.
use Rattle.std.proofs.Common.{◌≡◌, ◌⊎◌, inl, inr, ⊎_elim, ℕ, suc, ◌+◌, ◌≤◌, true, false, List, [], ◌∷◌, ◌++◌, length, map, reverse, take, refl, sym, ◌∙◌, ap, subst, arith, length-append}
use Rattle.std.specs.Prelude.{nat_le, if◌then◌else◌, slice_get, Some, option_map}
use Rattle.std.proofs.lemmas.Bool.{eq-eqb, ne_eqb, eqb-true}
use Rattle.std.proofs.lemmas.Bool.Decides.{nat_tests}
use Rattle.std.proofs.lemmas.List.{take-append-le, take_all, map-append, length-map, reverse-append}
use Rattle.rss_base.specs.Listings.{Listing}
use Rattle.rss_model.specs.Changes.{Change, maker, mine, theirs, own, others, kept_to}
use Rattle.rss_model.specs.Meter.{Stamp}
use Rattle.rss_model.specs.Steps.{stamp_by}
use Rattle.rss_model.specs.Records.{Listed, changes_in, is_by, own_in, others_in}
use Rattle.rss_model.specs.Ties.{StandsAt, here, older}
use Rattle.rss_model.specs.EngineLogs.{stamp_of}
use Rattle.rss_model.proofs.LogLists.{by_test, by_same, false_true}
use Rattle.rss_model.proofs.LogKeeping.{own_changes, others_changes, stamps_others}
use Rattle.rss_trans.specs.declared.noted.Noted.{Noted}
use Rattle.rss_trans.specs.Told.{AreNotesOf, listed_by, TiedListed, ListedOnce, BackListed, GoneListed, StandsBefore, AllStay}

-- ---- how many

pub notes_count : (listing : Listing) (notes : List Noted) (ls : List Listed) → AreNotesOf listing notes ls → length notes ≡ length ls
notes_count listing notes [] is = ap length is
notes_count listing notes (l ∷ ls) is = omega (arith, ap (λ (ns : List Noted). length ns) is.2, length-append is.0 (is.1 ∷ []), notes_count listing is.0 ls is.4)

-- ---- the oldest so many

abbrev pub oldest : ℕ → List Listed → List Listed
oldest n [] = []
oldest n (l ∷ ls) = if nat_le n (length ls) then oldest n ls else l ∷ oldest n ls

pub oldest_few : (n : ℕ) (ls : List Listed) → length ls ≤ n → oldest n ls ≡ ls
oldest_few n [] few = refl
oldest_few n (l ∷ ls) few =
    let no : nat_le n (length ls) ≡ false = grind (arith, nat_tests) in
    rw no (ap (λ (k : List Listed). l ∷ k) (oldest_few n ls (omega arith)))

pub oldest_again : (n : ℕ) (ls : List Listed) → oldest n (oldest (n + 1) ls) ≡ oldest n ls
oldest_again n [] = refl
oldest_again n (l ∷ ls) = by_test (nat_le (n + 1) (length ls))
    (λ e. let less : nat_le n (length ls) ≡ true = grind (arith, nat_tests) in simp (e, less) (oldest_again n ls))
    (λ e. let few : length ls ≤ n + 1 = grind (arith, nat_tests) in
    let all : oldest (n + 1) ls ≡ ls = oldest_few (n + 1) ls few in
    simp (e, all) refl)

module _ (listing : Listing) where
  pub notes_oldest : (n : ℕ) (notes : List Noted) (ls : List Listed) → AreNotesOf listing notes ls → AreNotesOf listing (take n notes) (oldest n ls)
  notes_oldest n notes [] is = rw is (take_none n)
    where
      take_none : (n : ℕ) → ◌≡◌ {A = List Noted} (take n []) []
      take_none n = grind arith
  notes_oldest n notes (l ∷ ls) is =
      let count : length is.0 ≡ length ls = notes_count listing is.0 ls is.4 in
      by_test (nat_le n (length ls))
      (λ e. let less : n ≤ length is.0 = grind (arith, nat_tests) in
      let same : take n notes ≡ take n is.0 = ap (take n) is.2 ∙ take-append-le n is.0 (is.1 ∷ []) less in
      simp e (subst (λ (ns : List Noted). AreNotesOf listing ns (oldest n ls)) (sym same) (notes_oldest n is.0 ls is.4)))
      (λ e. let few : length ls + 1 ≤ n = grind (arith, nat_tests) in
      let whole : take n notes ≡ notes = take_all n notes (omega (arith, ap (λ (ns : List Noted). length ns) is.2, length-append is.0 (is.1 ∷ []))) in
      let all : oldest n ls ≡ ls = oldest_few n ls (omega arith) in
      simp (e, all, whole) is)

-- ---- whose changes stay

pub own_kept : (t n : ℕ) (ls : List Listed) → own_in t (kept_to listed_by t n ls) ≡ oldest n (own_in t ls)
own_kept t n [] = refl
own_kept t n (l ∷ ls) = by_test (is_by t l)
    (λ e. by_test (nat_le n (length (own_in t ls)))
    (λ f. simp (e, f) (own_kept t n ls))
    (λ f. simp (e, f) (ap (λ (k : List Listed). l ∷ k) (own_kept t n ls))))
    (λ e. simp e (own_kept t n ls))

pub own_kept_other : (t u n : ℕ) (ls : List Listed) → (u ≡ t → ⊥) → own_in u (kept_to listed_by t n ls) ≡ own_in u ls
own_kept_other t u n [] off = refl
own_kept_other t u n (l ∷ ls) off = by_same l.change.by t
    (λ e. let mine : is_by t l ≡ true = eq-eqb l.change.by t e in
    let not_its : is_by u l ≡ false = ne_eqb l.change.by u (λ f. off (sym f ∙ e)) in
    by_test (nat_le n (length (own_in t ls)))
    (λ f. simp (mine, f, not_its) (own_kept_other t u n ls off))
    (λ f. simp (mine, f, not_its) (own_kept_other t u n ls off)))
    (λ e. let other : is_by t l ≡ false = ne_eqb l.change.by t e in
    by_test (is_by u l)
    (λ f. simp (other, f) (ap (λ (k : List Listed). l ∷ k) (own_kept_other t u n ls off)))
    (λ f. simp (other, f) (own_kept_other t u n ls off)))

pub others_kept : (t n : ℕ) (ls : List Listed) → others_in t (kept_to listed_by t n ls) ≡ others_in t ls
others_kept t n [] = refl
others_kept t n (l ∷ ls) = by_test (is_by t l)
    (λ e. by_test (nat_le n (length (own_in t ls)))
    (λ f. simp (e, f) (others_kept t n ls))
    (λ f. simp (e, f) (others_kept t n ls)))
    (λ e. simp e (ap (λ (k : List Listed). l ∷ k) (others_kept t n ls)))

-- ---- those of one and of the others

pub own_of_others : (t : ℕ) (ls : List Listed) → own_in t (others_in t ls) ≡ []
own_of_others t [] = refl
own_of_others t (l ∷ ls) = by_test (is_by t l)
    (λ e. simp e (own_of_others t ls))
    (λ e. simp e (own_of_others t ls))

pub own_of_others_other : (t u : ℕ) (ls : List Listed) → (u ≡ t → ⊥) → own_in u (others_in t ls) ≡ own_in u ls
own_of_others_other t u [] off = refl
own_of_others_other t u (l ∷ ls) off = by_same l.change.by t
    (λ e. let mine : is_by t l ≡ true = eq-eqb l.change.by t e in
    let not_its : is_by u l ≡ false = ne_eqb l.change.by u (λ f. off (sym f ∙ e)) in
    simp (mine, not_its) (own_of_others_other t u ls off))
    (λ e. let other : is_by t l ≡ false = ne_eqb l.change.by t e in
    by_test (is_by u l)
    (λ f. simp (other, f) (ap (λ (k : List Listed). l ∷ k) (own_of_others_other t u ls off)))
    (λ f. simp (other, f) (own_of_others_other t u ls off)))

-- ---- lists with positions and without

pub count_listed : (t : ℕ) (ls : List Listed) → length (own_in t ls) ≡ length (own t (changes_in ls))
count_listed t ls = by (own_in t ls) ∙ ap (λ (cs : List Change). length cs) (own_changes t ls)
  where
    by : (ks : List Listed) → length ks ≡ length (changes_in ks)
    by [] = refl
    by (k ∷ ks) = omega (arith, by ks)

pub mine_stamped : (t : ℕ) (ls : List Listed) → mine stamp_by t (map stamp_of ls) ≡ map stamp_of (own_in t ls)
mine_stamped t [] = refl
mine_stamped t (l ∷ ls) = by_test (is_by t l)
    (λ e. simp e (ap (λ (ss : List Stamp). stamp_of l ∷ ss) (mine_stamped t ls)))
    (λ e. simp e (mine_stamped t ls))

count_stamped : (t : ℕ) (ls : List Listed) → length (mine stamp_by t (map stamp_of ls)) ≡ length (own_in t ls)
count_stamped t ls = ap (λ (ss : List Stamp). length ss) (mine_stamped t ls) ∙ length-map (own_in t ls) stamp_of

all_in : (t n : ℕ) (ls : List Listed) → length (own_in t ls) ≤ n → kept_to listed_by t n ls ≡ ls
all_in t n [] few = refl
all_in t n (l ∷ ls) few = by_test (is_by t l)
    (λ e. let less : suc (length (own_in t ls)) ≤ n = rw e at few in
    let no : nat_le n (length (own_in t ls)) ≡ false = grind (arith, nat_tests) in
    simp (e, no) (ap (λ (k : List Listed). l ∷ k) (all_in t n ls (omega arith))))
    (λ e. let less : length (own_in t ls) ≤ n = rw e at few in
    simp e (ap (λ (k : List Listed). l ∷ k) (all_in t n ls less)))

pub all_stay : AllStay
all_stay ls t n few = all_in t n ls (omega (arith, few, count_listed t ls))

changes_stay : (t n : ℕ) (ls : List Listed) → changes_in (kept_to listed_by t n ls) ≡ kept_to maker t n (changes_in ls)
changes_stay t n [] = refl
changes_stay t n (l ∷ ls) =
    let count = ap (nat_le n) (count_listed t ls) in
    by_test (is_by t l)
    (λ e. by_test (nat_le n (length (own_in t ls)))
    (λ f. let g : nat_le n (length (own t (changes_in ls))) ≡ true = sym count ∙ f in simp (e, f, g) (changes_stay t n ls))
    (λ f. let g : nat_le n (length (own t (changes_in ls))) ≡ false = sym count ∙ f in simp (e, f, g) (ap (λ (cs : List Change). l.change ∷ cs) (changes_stay t n ls))))
    (λ e. simp e (ap (λ (cs : List Change). l.change ∷ cs) (changes_stay t n ls)))

stamps_stay : (t n : ℕ) (ls : List Listed) → map stamp_of (kept_to listed_by t n ls) ≡ kept_to stamp_by t n (map stamp_of ls)
stamps_stay t n [] = refl
stamps_stay t n (l ∷ ls) =
    let count = ap (nat_le n) (count_stamped t ls) in
    by_test (is_by t l)
    (λ e. by_test (nat_le n (length (own_in t ls)))
    (λ f. let g : nat_le n (length (mine stamp_by t (map stamp_of ls))) ≡ true = count ∙ f in simp (e, f, g) (stamps_stay t n ls))
    (λ f. let g : nat_le n (length (mine stamp_by t (map stamp_of ls))) ≡ false = count ∙ f in simp (e, f, g) (ap (λ (ss : List Stamp). stamp_of l ∷ ss) (stamps_stay t n ls))))
    (λ e. simp e (ap (λ (ss : List Stamp). stamp_of l ∷ ss) (stamps_stay t n ls)))

one_list : (xs ys : List Listed) → changes_in xs ≡ changes_in ys → map stamp_of xs ≡ map stamp_of ys → xs ≡ ys
one_list [] [] changes stamps = refl
one_list [] (y ∷ ys) changes stamps = absurd (cc (changes))
one_list (x ∷ xs) [] changes stamps = absurd (cc (changes))
one_list (x ∷ xs) (y ∷ ys) changes stamps =
    let change : x.change ≡ y.change = cc (changes) in
    let stamp : stamp_of x ≡ stamp_of y = cc (stamps) in
    let rest : xs ≡ ys = one_list xs ys (cc (changes)) (cc (stamps)) in
    let first : x ≡ y = λ i. record { at = (stamp i).at; change = change i } in
    λ i. first i ∷ rest i

pub tied_listed : TiedListed
tied_listed listing saved log state ties = record { changes_are = ties.ties.changes_are; stamps_are = sym ties.meter.stamps }

pub listed_once : ListedOnce
listed_once changes stamps one other is also = one_list one other (is.changes_are ∙ sym also.changes_are) (is.stamps_are ∙ sym also.stamps_are)

pub back_listed : BackListed
back_listed changes stamps ls t n is = record {
  changes_are = changes_stay t n ls ∙ ap (kept_to maker t n) is.changes_are;
  stamps_are = stamps_stay t n ls ∙ ap (kept_to stamp_by t n) is.stamps_are;
}

pub gone_listed : GoneListed
gone_listed changes stamps ls t is = record {
  changes_are = others_changes t ls ∙ ap (others t) is.changes_are;
  stamps_are = stamps_others t ls ∙ ap (theirs stamp_by t) is.stamps_are;
}

-- ---- the newest and the oldest note

pub positions_noted : (listing : Listing) (notes : List Noted) (ls : List Listed) → AreNotesOf listing notes ls → map (λ note. note.position) notes ≡ reverse (map (λ stamp. stamp.at) (map stamp_of ls))
positions_noted listing notes [] is = ap (map (λ note. note.position)) is
positions_noted listing notes (l ∷ ls) is =
    ap (map (λ note. note.position)) is.2
    ∙ map-append (λ note. note.position) is.0 (is.1 ∷ [])
    ∙ (λ i. positions_noted listing is.0 ls is.4 i ++ is.3.position i ∷ [])
    ∙ sym (reverse-append (l.at ∷ []) (map (λ stamp. stamp.at) (map stamp_of ls)))

last_noted : (before : List Noted) (note : Noted) → slice_get (before ++ note ∷ []) (length before) ≡ Some note
last_noted [] note = refl
last_noted (n ∷ before) note = last_noted before note

stands_first : (t : ℕ) (k : Listed) (ks ls : List Listed) → own_in t ls ≡ k ∷ ks → StandsAt t (length ks) k.at ls
stands_first t k ks [] is = absurd (cc (is))
stands_first t k ks (l ∷ ls) is = by_test (is_by t l)
    (λ e. let both : l ∷ own_in t ls ≡ k ∷ ks = rw e at is in
    let first : l ≡ k = cc (both) in
    let rest : own_in t ls ≡ ks = cc (both) in
    here l ls (eqb-true l.change.by t e) (sym (count_listed t ls) ∙ ap (λ (ms : List Listed). length ms) rest) (ap (λ (m : Listed). m.at) first))
    (λ e. let rest : own_in t ls ≡ k ∷ ks = rw e at is in older l ls (stands_first t k ks ls rest))

-- the newest note is of a transaction's newest change
pub record IsLast (notes : List Noted) (t : ℕ) (ls : List Listed) : Type 0 where
  pub older_count : ℕ
  pub place : ℕ
  pub count : length notes ≡ older_count + 1
  pub read : option_map (λ (note : Noted). note.position) (slice_get notes older_count) ≡ Some place
  pub stands : StandsAt t older_count place ls

pub last_is : (listing : Listing) (notes : List Noted) (t : ℕ) (ls : List Listed) → AreNotesOf listing notes (own_in t ls) → 1 ≤ length notes → IsLast notes t ls
last_is listing notes t ls is some = by (own_in t ls) refl is
  where
    by : (ks : List Listed) → own_in t ls ≡ ks → AreNotesOf listing notes ks → IsLast notes t ls
    by [] own_is are = absurd (omega (arith, some, ap (λ (ns : List Noted). length ns) are))
    by (k ∷ ks) own_is are =
        let fewer : length are.0 ≡ length ks = notes_count listing are.0 ks are.4 in record {
          older_count = length ks;
          place = k.at;
          count = omega (arith, ap (λ (ns : List Noted). length ns) are.2, length-append are.0 (are.1 ∷ []), fewer);
          read = ap (option_map (λ (note : Noted). note.position)) ((λ i. slice_get (are.2 i) (sym fewer i)) ∙ last_noted are.0 are.1) ∙ ap Some are.3.position;
          stands = stands_first t k ks ls own_is;
        }

-- ---- what stands in a part

-- it is the newest, or an older one
record IsHere (t n at : ℕ) (l : Listed) (ls : List Listed) : Type 0 where
  pub by : l.change.by ≡ t
  pub count : length (own t (changes_in ls)) ≡ n
  pub place : l.at ≡ at

here_or : (t n at : ℕ) (l : Listed) (ls : List Listed) → StandsAt t n at (l ∷ ls) → IsHere t n at l ls ⊎ StandsAt t n at ls
here_or t n at l ls (here _ _ by count is) = inl (record { by = by; count = count; place = is })
here_or t n at l ls (older _ _ rest) = inr rest

stands_kept : (t n at kept : ℕ) (ls : List Listed) → StandsAt t n at (kept_to listed_by t kept ls) → StandsAt t n at ls
stands_kept t n at kept [] stands = stands
stands_kept t n at kept (l ∷ ls) stands = by_test (is_by t l)
    (λ e. by_test (nat_le kept (length (own_in t ls)))
    (λ f. older l ls (stands_kept t n at kept ls (simp (e, f) at stands)))
    (λ f. let few : length (own_in t ls) ≤ kept = grind (arith, nat_tests) in
    let with_it : StandsAt t n at (l ∷ kept_to listed_by t kept ls) = simp (e, f) at stands in
    subst (λ (k : List Listed). StandsAt t n at (l ∷ k)) (all_in t kept ls few) with_it))
    (λ e. let with_it : StandsAt t n at (l ∷ kept_to listed_by t kept ls) = simp e at stands in
    ⊎_elim
    (λ is. absurd (false_true (eq-eqb l.change.by t is.by) e))
    (λ rest. older l ls (stands_kept t n at kept ls rest))
    (here_or t n at l (kept_to listed_by t kept ls) with_it))

pub stands_before : StandsBefore
stands_before ls t n at kept stands = stands_kept t n at kept ls stands
