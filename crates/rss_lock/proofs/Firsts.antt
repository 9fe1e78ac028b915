-- The first of the machine's locks that pass a test is that of the least transaction which has one.
use Rattle.std.proofs.Common.{◌≡◌, ◌≢◌, inl, inr, ◌↔◌, ℕ, zero, suc, ◌<◌, ◌≤◌, Bool, true, false, not, T, ◌&&◌, ◌||◌, List, [], ◌∷◌, length, refl, sym, ◌∙◌, ap, subst, arith, eqb-true, eq-eqb}
use Rattle.std.specs.Prelude.{Option, Some, None, ◌==◌, is_some, find, option_map, unwrap_or, take, slice_get, slice_index_or}
use Rattle.std.specs.List.{list_any}
use Rattle.std.specs.declared.cmp.Ordering.{Ordering}
use Rattle.std.specs.declared.cmp.Ordering.TheVariants.{Less, Equal, Greater}
use Rattle.std.specs.Ordering.{eq_by_cmp, is_lt, nat_cmp, ordering_then}
use Rattle.std.specs.Cmp.{tied_itself, ranked}
use Rattle.std.specs.FinMap as finite
use Rattle.std.specs.FinMap.{get-entries, entries_sorted}
use Rattle.std.specs.FinMap.Entries as listed
use Rattle.std.proofs.lemmas.Bool.{cases_Bool, cond-true, cond-false}
use Rattle.std.proofs.lemmas.List.Elements.{All-cons}
use Rattle.rss_base.specs.declared.name.Name.{Name}
use Rattle.rss_base.specs.declared.tid.Tid.{Tid}
use Rattle.rss_base.specs.declared.item.Item.{Item}
use Rattle.rss_base.specs.declared.item.Item.TheVariants.{Tuple}
use Rattle.rss_base.specs.declared.need.Mode.{Mode}
use Rattle.rss_base.specs.declared.need.Need.{Need}
use Rattle.rss_model.specs.Items.{is_item}
use Rattle.rss_model.specs.Locks.{Locks, Claim, Bar, claim, claim_cmp, held, bars, barred_by, first_bar, least_holder, is_held_by_another}
use Rattle.rss_model.proofs.Contents.{tied, same_item_of}
use Rattle.rss_model.proofs.Codes.{item_total, item_apart}
use Rattle.rss_lock.specs.Locks.{IsFirstBar, is_barred}
use Rattle.rss_lock.specs.Table.{Modes, Bars, Holds, IsUnbarred, IsLeast, IsLeastOf}
use Rattle.rss_lock.proofs.Least.{least_kept}
use Rattle.rss_lock.proofs.Granting.{IsFree}
use Rattle.rss_lock.proofs.Listing.{IsBarred}
use Rattle.rss_lock.proofs.Machine.{Says, claim_total, claim_apart, tied_claim}
use mathlib.Core.Bool.{true≢false}

abbrev Entry : Type 0
Entry = Claim × Mode

-- ---- claims in order

less_by : (a b : ℕ) (rest : Ordering) → T (is_lt (ordering_then (nat_cmp a b) rest)) → a ≤ b
less_by a b rest is = elim (nat_cmp a b) as (λ o. o ≡ nat_cmp a b → T (is_lt (ordering_then o rest)) → a ≤ b) [
  | Less ↦ λ e l. let below : a < b = ranked a b Less e in omega arith
  | Equal ↦ λ e l. let same : a ≡ b = ranked a b Equal e in omega arith
  | Greater ↦ λ e l. absurd l
] refl is

below_by : (a b : Claim) → T (is_lt (claim_cmp a b)) → a.by ≤ b.by
below_by a b less = less_by a.by b.by _ less

not_below_itself : (a : Claim) → T (is_lt (claim_cmp a a)) → ⊥
not_below_itself a less = subst (λ (o : Ordering). T (is_lt o)) (tied_itself claim_total a) less

left : (a b : Bool) → T (a && b) → T a
left true b p = tt
left false b p = p

right : (a b : Bool) → T (a && b) → T b
right true b p = p
right false b p = absurd p

-- a claim that is found is beyond one that is below all
found_beyond : (x q : Claim) (m : Mode) (es : List Entry) → T (listed.below_all claim_cmp x es) → listed.find claim_cmp q es ≡ Some m → T (is_lt (claim_cmp x q))
found_beyond x q m [] below found = absurd (cc)
found_beyond x q m (e ∷ es) below found = elim (cases_Bool (eq_by_cmp claim_cmp q e.0)) [
  | inl same ↦ subst (λ (c : Claim). T (is_lt (claim_cmp x c))) (sym (tied_claim q e.0 same)) (left _ _ below)
  | inr off ↦ found_beyond x q m es (right _ _ below) (sym (cond-false _ _ _ off) ∙ found)
]

-- ---- the first that passes

module _ (test : Entry → Bool) where
  -- a lock of this transaction passes
  pub record Passes (es : List Entry) (n : ℕ) : Type 0 where
    pub item : Item
    pub mode : Mode
    pub found : listed.find claim_cmp (claim n item) es ≡ Some mode
    pub passes : test (claim n item, mode) ≡ true

  first_is : (es : List Entry) → T (listed.is_sorted claim_cmp es) → IsLeastOf (Passes es) (option_map (λ e. e.0.by) (find test es))
  first_is [] sorted = λ n passes. let none : None ≡ Some passes.mode = passes.found in cc
  first_is (e ∷ es) sorted = elim (cases_Bool (test e)) [
    | inl passes ↦
        subst (λ (o : Option Entry). IsLeastOf (Passes (e ∷ es)) (option_map (λ (e : Entry). e.0.by) o)) (sym (cond-true _ _ _ passes)) (record {
          here = record {
            item = e.0.item;
            mode = e.1;
            found = cond-true _ _ _ (tied claim_total claim_apart e.0);
            passes = passes;
          };
          least = λ n other. elim (cases_Bool (eq_by_cmp claim_cmp (claim n other.item) e.0)) [
            | inl same ↦ let by : n ≡ e.0.by = ap (λ (c : Claim). c.by) (tied_claim (claim n other.item) e.0 same) in omega arith
            | inr off ↦ below_by e.0 (claim n other.item) (found_beyond e.0 (claim n other.item) other.mode es (left _ _ sorted) (sym (cond-false _ _ _ off) ∙ other.found))
          ];
        })
    | inr fails ↦
        subst (λ (o : Option Entry). IsLeastOf (Passes (e ∷ es)) (option_map (λ (e : Entry). e.0.by) o)) (sym (cond-false _ _ _ fails))
        (least_kept (Passes es) (Passes (e ∷ es)) (option_map (λ e. e.0.by) (find test es)) later (back fails) (first_is es (right _ _ sorted)))
  ]
    where
      later : (n : ℕ) → Passes es n → Passes (e ∷ es) n
      later n p = record {
        item = p.item;
        mode = p.mode;
        found = elim (cases_Bool (eq_by_cmp claim_cmp (claim n p.item) e.0)) [
          | inl same ↦ absurd (not_below_itself e.0 (subst (λ (c : Claim). T (is_lt (claim_cmp e.0 c))) (tied_claim (claim n p.item) e.0 same) (found_beyond e.0 (claim n p.item) p.mode es (left _ _ sorted) p.found)))
          | inr off ↦ cond-false _ _ _ off ∙ p.found
        ];
        passes = p.passes;
      }

      back : test e ≡ false → (n : ℕ) → Passes (e ∷ es) n → Passes es n
      back fails n p = record {
        item = p.item;
        mode = p.mode;
        found = elim (cases_Bool (eq_by_cmp claim_cmp (claim n p.item) e.0)) [
          | inl same ↦
              let one : claim n p.item ≡ e.0 = tied_claim (claim n p.item) e.0 same in
              let modes : Some e.1 ≡ Some p.mode = sym (cond-true _ _ _ same) ∙ p.found in
              let mode : p.mode ≡ e.1 = cc in
              absurd (true≢false (sym p.passes ∙ (λ i. test (one i, mode i)) ∙ fails))
          | inr off ↦ sym (cond-false _ _ _ off) ∙ p.found
        ];
        passes = p.passes;
      }

-- the least is one
pub one_least : (P : ℕ → Type 0) (one other : Option ℕ) → IsLeastOf P one → IsLeastOf P other → one ≡ other
one_least P None None p q = refl
one_least P None (Some n) p q = absurd (p n q.here)
one_least P (Some n) None p q = absurd (q n p.here)
one_least P (Some n) (Some m) p q =
    let below : n ≤ m = p.least m q.here in
    let above : m ≤ n = q.least n p.here in
    let same : n ≡ m = omega arith in ap Some same

and_both : (a b : Bool) → a ≡ true → b ≡ true → a && b ≡ true
and_both true b p q = q
and_both false b p q = absurd (true≢false (sym p))

and_left : (a b : Bool) → a && b ≡ true → a ≡ true
and_left true b p = refl
and_left false b p = absurd (true≢false (sym p))

and_right : (a b : Bool) → a && b ≡ true → b ≡ true
and_right true b p = p
and_right false b p = absurd (true≢false (sym p))

not_same : (n t : ℕ) → not (n == t) ≡ true → n ≢ t
not_same n t is same = true≢false (sym is ∙ ap not (eq-eqb n t same))

same_not : (n t : ℕ) → n ≢ t → not (n == t) ≡ true
same_not n t off = elim (cases_Bool (n == t)) [ inl same ↦ absurd (off (eqb-true n t same)) | inr apart ↦ ap not apart ]

any_found : (test : Entry → Bool) (es : List Entry) → list_any test es ≡ is_some (find test es)
any_found test [] = refl
any_found test (e ∷ es) = elim (cases_Bool (test e)) [
  | inl passes ↦ ap (λ (b : Bool). b || list_any test es) passes ∙ sym (ap is_some (cond-true _ _ _ passes))
  | inr fails ↦ ap (λ (b : Bool). b || list_any test es) fails ∙ any_found test es ∙ sym (ap is_some (cond-false _ _ _ fails))
]

module _ (locks : Locks) (mode : Modes) (says : Says locks mode) where
  -- a lock that is listed, and one that is held
  to_held : (n : ℕ) (item other : Item) (m : Mode) → listed.find claim_cmp (claim n item) (finite.entries locks) ≡ Some m → is_item item other ≡ true → mode n other ≡ Some m
  to_held n item other m found is = sym (says n other) ∙ ap (held locks n) (sym (same_item_of item other is)) ∙ get-entries locks (claim n item) ∙ found

  from_held : (n : ℕ) (item : Item) (m : Mode) → mode n item ≡ Some m → listed.find claim_cmp (claim n item) (finite.entries locks) ≡ Some m
  from_held n item m holds = sym (get-entries locks (claim n item)) ∙ says n item ∙ holds

  its_item : (item : Item) → is_item item item ≡ true
  its_item item = tied item_total item_apart item

  -- ---- who bars a need

  pub least_bars : (t : ℕ) (need : Need) → IsLeastOf (Bars mode t need) (barred_by locks t need)
  least_bars t need = least_kept (Passes (bars t need) (finite.entries locks)) (Bars mode t need) (barred_by locks t need)
      (λ n p. record {
        another = not_same n t (and_left (not (n == t)) _ p.passes);
        held = p.mode;
        holds = to_held n p.item need.item p.mode p.found (and_left (is_item p.item need.item) _ (and_right (not (n == t)) _ p.passes));
        disagrees = and_right (is_item p.item need.item) _ (and_right (not (n == t)) _ p.passes);
      })
      (λ n b. record {
        item = need.item;
        mode = b.held;
        found = from_held n need.item b.held b.holds;
        passes = and_both _ _ (same_not n t b.another) (and_both _ _ (its_item need.item) b.disagrees);
      })
      (first_is (bars t need) (finite.entries locks) (entries_sorted locks))

  pub barred_is : (t : ℕ) (need : Need) (o : Option ℕ) → IsLeastOf (Bars mode t need) o → barred_by locks t need ≡ o
  barred_is t need o is = one_least (Bars mode t need) (barred_by locks t need) o (least_bars t need) is

  -- ---- who holds an item

  holds_some : (n : ℕ) (item : Item) → (o : Option Mode) → mode n item ≡ o → is_some o ≡ true → (m : Mode) × (mode n item ≡ Some m)
  holds_some n item None is some = absurd (true≢false (sym some))
  holds_some n item (Some m) is some = (m, is)

  pub holder_is : (item : Item) (o : Option ℕ) → IsLeastOf (Holds mode item) o → o ≡ least_holder locks item
  holder_is item o is = one_least (Holds mode item) o (least_holder locks item) is
      (least_kept (Passes (λ lock. is_item lock.0.item item) (finite.entries locks)) (Holds mode item) (least_holder locks item)
      (λ n p. ap is_some (to_held n p.item item p.mode p.found p.passes))
      (λ n holds.
      let at = holds_some n item (mode n item) refl holds in
      record { item = item; mode = at.0; found = from_held n item at.0 at.1; passes = its_item item })
      (first_is (λ lock. is_item lock.0.item item) (finite.entries locks) (entries_sorted locks)))

  -- another transaction holds the item
  pub record IsHeldByAnother (t : ℕ) (item : Item) : Type 0 where
    pub other : ℕ
    pub another : other ≢ t
    pub holds : Holds mode item other

  module _ (t : ℕ) (item : Item) where
    abbrev by_another : Entry → Bool
    by_another lock = not (lock.0.by == t) && is_item lock.0.item item

    least_other : IsLeastOf (λ n. (n ≢ t) × Holds mode item n) (option_map (λ (e : Entry). e.0.by) (find by_another (finite.entries locks)))
    least_other = least_kept (Passes by_another (finite.entries locks)) (λ n. (n ≢ t) × Holds mode item n) (option_map (λ (e : Entry). e.0.by) (find by_another (finite.entries locks)))
        (λ n p. (not_same n t (and_left (not (n == t)) _ p.passes), ap is_some (to_held n p.item item p.mode p.found (and_right (not (n == t)) _ p.passes))))
        (λ n other.
        let at = holds_some n item (mode n item) refl other.1 in
        record { item = item; mode = at.0; found = from_held n item at.0 at.1; passes = and_both _ _ (same_not n t other.0) (its_item item) })
        (first_is by_another (finite.entries locks) (entries_sorted locks))

    some_other : (o : Option Entry) → IsLeastOf (λ n. (n ≢ t) × Holds mode item n) (option_map (λ (e : Entry). e.0.by) o) → is_some o ≡ true ↔ IsHeldByAnother t item
    some_other None is = (λ e. absurd (true≢false (sym e)), λ other. absurd (is other.other (other.another, other.holds)))
    some_other (Some e) is = (λ _. record { other = e.0.by; another = is.here.0; holds = is.here.1 }, λ _. refl)

    pub held_by_another : is_held_by_another locks t item ≡ true ↔ IsHeldByAnother t item
    held_by_another =
        let found = any_found by_another (finite.entries locks) in
        let is = some_other (find by_another (finite.entries locks)) least_other in
        (λ any. is.0 (sym found ∙ any), λ other. found ∙ is.1 other)

  -- ---- the first need that is barred

  module _ (t : ℕ) where
    pub unbarred_none : (need : Need) → IsUnbarred mode t need → barred_by locks t need ≡ None
    unbarred_none need free = barred_is t need None free

    pub none_unbarred : (need : Need) → barred_by locks t need ≡ None → IsUnbarred mode t need
    none_unbarred need none = subst (IsLeastOf (Bars mode t need)) none (least_bars t need)

    here : (need : Need) (needs : List Need) → Option ℕ → Option Bar
    here need needs o = unwrap_or (option_map (λ holder. Some (record { item = need.item; holder = holder })) o) (first_bar locks t needs)

    skips : (need : Need) (needs : List Need) → barred_by locks t need ≡ None → first_bar locks t (need ∷ needs) ≡ first_bar locks t needs
    unfolding here
    skips need needs none = ap (here need needs) none

    finds : (need : Need) (needs : List Need) (holder : ℕ) → barred_by locks t need ≡ Some holder → first_bar locks t (need ∷ needs) ≡ Some (record { item = need.item; holder = holder })
    unfolding here
    finds need needs holder some = ap (here need needs) some

    -- none of them is barred up to a place
    abbrev pub AreUnbarred : List Need → ℕ → Type 0
    AreUnbarred needs place = (k : ℕ) (need : Need) → k < place → slice_get needs k ≡ Some need → IsUnbarred mode t need

    pub first_none : (needs : List Need) → AreUnbarred needs (length needs) → first_bar locks t needs ≡ None
    first_none [] all = refl
    first_none (need ∷ needs) all =
        skips need needs (unbarred_none need (all 0 need (omega arith) refl))
        ∙ first_none needs (λ k other below there. all (suc k) other (omega arith) there)

    free_from : (need : Need) (needs : List Need) → first_bar locks t (need ∷ needs) ≡ None → (first_bar locks t needs ≡ None → IsFree mode t needs) → (o : Option ℕ) → barred_by locks t need ≡ o → IsFree mode t (need ∷ needs)
    free_from need needs none rest None is = All-cons (IsUnbarred mode t) need needs (none_unbarred need is) (rest (sym (skips need needs is) ∙ none))
    free_from need needs none rest (Some holder) is = absurd (let two : None ≡ Some (record { item = need.item; holder = holder }) = sym none ∙ finds need needs holder is in cc)

    pub all_free : (needs : List Need) → first_bar locks t needs ≡ None → IsFree mode t needs
    all_free [] none = λ k d below. absurd (omega arith)
    all_free (need ∷ needs) none = free_from need needs none (all_free needs) (barred_by locks t need) refl

    earlier_none : (needs : List Need) (place : ℕ) → AreUnbarred needs place → first_bar locks t (take place needs) ≡ None
    earlier_none needs zero all = refl
    earlier_none [] (suc place) all = refl
    earlier_none (need ∷ needs) (suc place) all =
        skips need (take place needs) (unbarred_none need (all 0 need (omega arith) refl))
        ∙ earlier_none needs place (λ k other below there. all (suc k) other (omega arith) there)

    first_there : (needs : List Need) (place holder : ℕ) (need : Need) → slice_get needs place ≡ Some need → barred_by locks t need ≡ Some holder → AreUnbarred needs place → first_bar locks t needs ≡ Some (record { item = need.item; holder = holder })
    first_there [] place holder need there barred all = absurd (cc)
    first_there (x ∷ xs) zero holder need there barred all =
        let same : x ≡ need = cc in
        finds x xs holder (ap (barred_by locks t) same ∙ barred) ∙ ap (λ (n : Need). Some (record { item = n.item; holder = holder })) same
    first_there (x ∷ xs) (suc place) holder need there barred all =
        skips x xs (unbarred_none x (all 0 x (omega arith) refl))
        ∙ first_there xs place holder need there barred (λ k other below at. all (suc k) other (omega arith) at)

    pub first_barred : (needs : List Need) (place holder : ℕ) (need : Need) → slice_get needs place ≡ Some need → IsLeast (Bars mode t need) holder → AreUnbarred needs place → IsFirstBar locks t needs place holder
    first_barred needs place holder need there least all =
        let barred = barred_is t need (Some holder) least in
        record {
          need = need;
          there = there;
          barred = barred;
          earlier = earlier_none needs place all;
          first = first_there needs place holder need there barred all;
        }

  -- ---- tuples

  or_right : (a b : Bool) → b ≡ true → a || b ≡ true
  or_right true b p = refl
  or_right false b p = p

  module _ (t : ℕ) (tid : Tid) where
    to_told : (relations : List Name) → is_barred locks t relations tid ≡ true → IsBarred mode t relations tid
    to_told [] is = absurd (true≢false (sym is))
    to_told (r ∷ rs) is = elim (cases_Bool (is_held_by_another locks t (Tuple r tid))) [
      | inl passes ↦
          let other = (held_by_another t (Tuple r tid)).0 passes in
          record { relation = r; listed = (0, omega arith, refl); other = other.other; another = other.another; holds = other.holds }
      | inr fails ↦
          let other = to_told rs (sym (ap (λ (b : Bool). b || is_barred locks t rs tid) fails) ∙ is) in
          record {
            relation = other.relation;
            listed = (suc other.listed.0, omega (arith, other.listed.1), other.listed.2);
            other = other.other;
            another = other.another;
            holds = other.holds;
          }
    ]

    from_told : (relations : List Name) (relation : Name) (k : ℕ) → k < length relations → slice_index_or relations k relation ≡ relation → IsHeldByAnother t (Tuple relation tid) → is_barred locks t relations tid ≡ true
    from_told [] relation k below is other = absurd (omega arith)
    from_told (r ∷ rs) relation zero below is other =
        let here : is_held_by_another locks t (Tuple r tid) ≡ true = (held_by_another t (Tuple r tid)).1 (subst (λ (x : Name). IsHeldByAnother t (Tuple x tid)) (sym is) other) in
        ap (λ (b : Bool). b || is_barred locks t rs tid) here
    from_told (r ∷ rs) relation (suc k) below is other = or_right (is_held_by_another locks t (Tuple r tid)) (is_barred locks t rs tid) (from_told rs relation k (omega arith) is other)

    pub barred_iff_told : (relations : List Name) → is_barred locks t relations tid ≡ true ↔ IsBarred mode t relations tid
    barred_iff_told relations = (
      to_told relations,
      λ barred. from_told relations barred.relation barred.listed.0 barred.listed.1 barred.listed.2 (record { other = barred.other; another = barred.another; holds = barred.holds }),
    )
