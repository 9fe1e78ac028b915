-- The machine's locks, and the mode in which a table tells that each transaction holds each item.
use Rattle.std.proofs.Common.{◌≡◌, inl, inr, ℕ, Bool, true, false, not, cond, ◌&&◌, ◌||◌, List, [], ◌∷◌, refl, sym, ◌∙◌, ap, subst, eqb-true, eq-eqb}
use Rattle.std.specs.Prelude.{Option, Some, None, ◌==◌, is_some}
use Rattle.std.specs.List.{list_any}
use Rattle.std.specs.Ordering.{eq_by_cmp}
use Rattle.std.specs.Cmp.{Equal-is}
use Rattle.std.specs.FinMap as finite
use Rattle.std.specs.FinMap.{get-insert, get-empty, get-retain_keys, same_map}
use Rattle.std.proofs.lemmas.Bool.{cases_Bool, cond-true, cond-false}
use Rattle.rss_base.specs.declared.item.Item.{Item}
use Rattle.rss_base.specs.declared.need.Mode.{Mode}
use Rattle.rss_base.specs.declared.need.Need.{Need}
use Rattle.rss_base.specs.Items.{same_item}
use Rattle.rss_base.proofs.Equal.{item_decides}
use Rattle.rss_model.specs.Locks.{Locks, Claim, claim, claim_cmp, held, with_mode, with_lock, granted, released, AreApart}
pub use Rattle.rss_model.proofs.Locking.{claim_total, claim_apart}
use Rattle.rss_model.proofs.Contents.{tied}
use Rattle.rss_lock.specs.declared.places.Holder.{Holder}
use Rattle.rss_lock.specs.declared.places.Grants.{Grants}
use Rattle.rss_lock.specs.Locks.{AreFew}
use Rattle.rss_lock.specs.Table.{Modes, AllAgree, HoldersAreFew, given, without, Table, table, is_of, held_in, grants_on, mode_of, add_lock, add_item, add_items, locks_of}
use Rattle.rss_lock.proofs.Holding.{held_none}
use mathlib.Core.Bool.{true≢false}

-- ---- claims

pub tied_claim : (a b : Claim) → eq_by_cmp claim_cmp a b ≡ true → a ≡ b
tied_claim a b tie = claim_apart a b ((Equal-is (claim_cmp a b)).0 tie)

-- two claims are one where the transactions and the items are
claim_test : (u t : ℕ) (other item : Item) → eq_by_cmp claim_cmp (claim u other) (claim t item) ≡ (u == t) && same_item item other
claim_test u t other item = elim (cases_Bool (eq_by_cmp claim_cmp (claim u other) (claim t item))) [
  | inl same ↦
      let one = tied_claim (claim u other) (claim t item) same in
      same ∙ sym (both (u == t) (same_item item other) (eq-eqb u t (ap (λ (c : Claim). c.by) one)) ((item_decides item other).1 (sym (ap (λ (c : Claim). c.item) one))))
  | inr apart ↦ apart ∙ sym (elim (cases_Bool ((u == t) && same_item item other)) [
    | inr off ↦ off
    | inl on ↦
        let u_is : u ≡ t = eqb-true u t (first_of (u == t) (same_item item other) on) in
        let item_is : item ≡ other = (item_decides item other).0 (second_of (u == t) (same_item item other) on) in
        absurd (true≢false (sym (tied claim_total claim_apart (claim t item)) ∙ (λ i. eq_by_cmp claim_cmp (claim (sym u_is i) (item_is i)) (claim t item)) ∙ apart))
  ])
]
  where
    both : (a b : Bool) → a ≡ true → b ≡ true → a && b ≡ true
    both true b p q = q
    both false b p q = absurd (true≢false (sym p))

    first_of : (a b : Bool) → a && b ≡ true → a ≡ true
    first_of true b p = refl
    first_of false b p = absurd (true≢false (sym p))

    second_of : (a b : Bool) → a && b ≡ true → b ≡ true
    second_of true b p = p
    second_of false b p = absurd (true≢false (sym p))

pub same_locks : (one other : Locks) → ((u : ℕ) (item : Item) → held one u item ≡ held other u item) → one ≡ other
same_locks one other each = same_map claim_total claim_apart one other (λ q. each q.by q.item)

-- ---- what a table tells

module _ (mode : Modes) where
  -- each lock that is listed is one
  abbrev IsSound : Locks → Type 0
  IsSound locks = (q : Claim) (m : Mode) → finite.get locks q ≡ Some m → mode q.by q.item ≡ Some m

  lock_sound : (c : Claim) (o : Option Mode) (locks : Locks) → mode c.by c.item ≡ o → IsSound locks → IsSound (add_lock c o locks)
  lock_sound c None locks is sound = sound
  lock_sound c (Some found) locks is sound = λ q m there. elim (cases_Bool (eq_by_cmp claim_cmp q c)) [
    | inl same ↦
        let one = tied_claim q c same in
        (λ i. mode (one i).by (one i).item) ∙ is ∙ sym (get-insert claim_total locks c found q ∙ cond-true _ _ _ same) ∙ there
    | inr off ↦ sound q m (sym (get-insert claim_total locks c found q ∙ cond-false _ _ _ off) ∙ there)
  ]

  item_sound : (item : Item) (holders : List (Option Holder)) (locks : Locks) → IsSound locks → IsSound (add_item mode item holders locks)
  item_sound item [] locks sound = sound
  item_sound item (None ∷ hs) locks sound = item_sound item hs locks sound
  item_sound item (Some h ∷ hs) locks sound = lock_sound (claim h.transaction item) (mode h.transaction item) (add_item mode item hs locks) refl (item_sound item hs locks sound)

  all_sound : (holders : List (Option Holder)) (entries : List (Item × Grants)) → IsSound (add_items mode holders entries)
  all_sound holders [] = λ q m there. absurd (let none : None ≡ Some m = sym (get-empty claim_cmp q) ∙ there in cc)
  all_sound holders (e ∷ es) = item_sound e.0 holders (add_items mode holders es) (all_sound holders es)

  -- what is listed stays listed
  lock_keeps : (c : Claim) (o : Option Mode) (locks : Locks) (q : Claim) → is_some (finite.get locks q) ≡ true → is_some (finite.get (add_lock c o locks) q) ≡ true
  lock_keeps c None locks q there = there
  lock_keeps c (Some found) locks q there = elim (cases_Bool (eq_by_cmp claim_cmp q c)) [
    | inl same ↦ ap is_some (get-insert claim_total locks c found q ∙ cond-true _ _ _ same)
    | inr off ↦ ap is_some (get-insert claim_total locks c found q ∙ cond-false _ _ _ off) ∙ there
  ]

  item_keeps : (item : Item) (holders : List (Option Holder)) (locks : Locks) (q : Claim) → is_some (finite.get locks q) ≡ true → is_some (finite.get (add_item mode item holders locks) q) ≡ true
  item_keeps item [] locks q there = there
  item_keeps item (None ∷ hs) locks q there = item_keeps item hs locks q there
  item_keeps item (Some h ∷ hs) locks q there = lock_keeps (claim h.transaction item) (mode h.transaction item) (add_item mode item hs locks) q (item_keeps item hs locks q there)

  lock_here : (c : Claim) (o : Option Mode) (m : Mode) (locks : Locks) → o ≡ Some m → is_some (finite.get (add_lock c o locks) c) ≡ true
  lock_here c None m locks is = absurd (cc)
  lock_here c (Some found) m locks is = ap is_some (get-insert claim_total locks c found c ∙ cond-true _ _ _ (tied claim_total claim_apart c))

  -- a transaction with a place has its lock on an item listed
  item_here : (u : ℕ) (item : Item) (m : Mode) (holders : List (Option Holder)) (locks : Locks) → list_any (is_of u) holders ≡ true → mode u item ≡ Some m → is_some (finite.get (add_item mode item holders locks) (claim u item)) ≡ true
  item_here u item m [] locks has is = absurd (true≢false (sym has))
  item_here u item m (None ∷ hs) locks has is = item_here u item m hs locks has is
  item_here u item m (Some h ∷ hs) locks has is = elim (cases_Bool (h.transaction == u)) [
    | inl same ↦
        let own : h.transaction ≡ u = eqb-true h.transaction u same in
        let at : mode h.transaction item ≡ Some m = ap (λ (v : ℕ). mode v item) own ∙ is in
        subst (λ (v : ℕ). is_some (finite.get (add_item mode item (Some h ∷ hs) locks) (claim v item)) ≡ true) own (lock_here (claim h.transaction item) (mode h.transaction item) m (add_item mode item hs locks) at)
    | inr off ↦ lock_keeps (claim h.transaction item) (mode h.transaction item) (add_item mode item hs locks) (claim u item)
        (item_here u item m hs locks (sym (ap (λ (b : Bool). b || list_any (is_of u) hs) off) ∙ has) is)
  ]

  all_here : (u : ℕ) (item : Item) (m : Mode) (g : Grants) (holders : List (Option Holder)) (entries : List (Item × Grants)) → grants_on entries item ≡ Some g → list_any (is_of u) holders ≡ true → mode u item ≡ Some m → is_some (finite.get (add_items mode holders entries) (claim u item)) ≡ true
  all_here u item m g holders [] there has is = absurd (cc)
  all_here u item m g holders (e ∷ es) there has is = elim (cases_Bool (same_item item e.0)) [
    | inl same ↦
        let one : item ≡ e.0 = (item_decides item e.0).0 same in
        subst (λ (x : Item). is_some (finite.get (add_item mode e.0 holders (add_items mode holders es)) (claim u x)) ≡ true) (sym one)
        (item_here u e.0 m holders (add_items mode holders es) has (ap (mode u) (sym one) ∙ is))
    | inr off ↦ item_keeps e.0 holders (add_items mode holders es) (claim u item)
        (all_here u item m g holders es (sym (ap (λ (b : Bool). cond b (Some e.1) (grants_on es item)) off) ∙ there) has is)
  ]

some_at : (o : Option Mode) → is_some o ≡ true → (m : Mode) × (o ≡ Some m)
some_at None some = absurd (true≢false (sym some))
some_at (Some m) some = (m, refl)

-- the locks of a table are those that it tells
pub tells : (t : Table) (u : ℕ) (item : Item) → held (locks_of t) u item ≡ mode_of t u item
unfolding locks_of
tells t u item = by (mode_of t u item) refl
  where
    at : Option Mode
    at = finite.get (add_items (mode_of t) t.holders t.entries) (claim u item)

    listed_none : (o : Option Mode) → at ≡ o → mode_of t u item ≡ None → o ≡ None
    listed_none None is none = refl
    listed_none (Some m) is none = absurd (let two : None ≡ Some m = sym none ∙ all_sound (mode_of t) t.holders t.entries (claim u item) m is in cc)

    found : (m : Mode) (o : Option Grants) → grants_on t.entries item ≡ o → held_in u t.holders o ≡ Some m → mode_of t u item ≡ Some m → is_some at ≡ true
    found m None there is mode = absurd (cc)
    found m (Some g) there is mode = elim (cases_Bool (list_any (is_of u) t.holders)) [
      | inl has ↦ all_here (mode_of t) u item m g t.holders t.entries there has mode
      | inr none ↦ absurd (let two : None ≡ Some m = sym (held_none u t.holders g.as_of g.modes none) ∙ is in cc)
    ]

    by : (o : Option Mode) → mode_of t u item ≡ o → at ≡ mode_of t u item
    by None is = listed_none at refl is ∙ sym is
    by (Some m) is =
        let listed = some_at at (found m (grants_on t.entries item) refl is is) in
        listed.1 ∙ sym (all_sound (mode_of t) t.holders t.entries (claim u item) listed.0 listed.1)

-- ---- what is granted and released

pub empty_of : (holders : List (Option Holder)) (firsts : ℕ) (entries : List (Item × Grants)) (room : ℕ) → entries ≡ [] → locks_of (table holders firsts entries room) ≡ finite.empty
empty_of holders firsts entries room none =
    ap (λ (es : List (Item × Grants)). locks_of (table holders firsts es room)) none
    ∙ same_locks (locks_of (table holders firsts [] room)) finite.empty (λ u item. tells (table holders firsts [] room) u item ∙ sym (get-empty claim_cmp (claim u item)))

-- locks and modes that say the same
abbrev pub Says : Locks → Modes → Type 0
Says locks mode = (u : ℕ) (item : Item) → held locks u item ≡ mode u item

says_given : (locks : Locks) (mode : Modes) (t : ℕ) (need : Need) → Says locks mode → Says (with_lock t need locks) (given mode t need)
says_given locks mode t need says u item =
    get-insert claim_total locks (claim t need.item) (with_mode (held locks t need.item) need.mode) (claim u item)
    ∙ (λ i. cond (claim_test u t item need.item i) (Some (with_mode (says t need.item i) need.mode)) (says u item i))

-- t gets all that it needs
abbrev pub given_all : ℕ → List Need → Modes → Modes
given_all t [] mode = mode
given_all t (need ∷ needs) mode = given_all t needs (given mode t need)

says_given_all : (t : ℕ) (needs : List Need) (locks : Locks) (mode : Modes) → Says locks mode → Says (granted t needs locks) (given_all t needs mode)
says_given_all t [] locks mode says = says
says_given_all t (need ∷ needs) locks mode says = says_given_all t needs (with_lock t need locks) (given mode t need) (says_given locks mode t need says)

pub granted_locks : (old new : Table) (t : ℕ) (needs : List Need) → mode_of new ≡ given_all t needs (mode_of old) → locks_of new ≡ granted t needs (locks_of old)
granted_locks old new t needs is = same_locks (locks_of new) (granted t needs (locks_of old)) (λ u item.
    tells new u item ∙ (λ i. is i u item) ∙ sym (says_given_all t needs (locks_of old) (mode_of old) (tells old) u item))

says_without : (locks : Locks) (mode : Modes) (t : ℕ) → Says locks mode → Says (released t locks) (without t mode)
says_without locks mode t says u item =
    get-retain_keys locks (λ (c : Claim). not (c.by == t)) (claim u item) (λ x tie. ap (λ (c : Claim). not (c.by == t)) (sym (claim_apart (claim u item) x tie)))
    ∙ turned (u == t) (held locks u item) None
    ∙ ap (cond (u == t) None) (says u item)
  where
    turned : {A : Type 0} (b : Bool) (x y : A) → cond (not b) x y ≡ cond b y x
    turned true x y = refl
    turned false x y = refl

pub released_locks : (old new : Table) (t : ℕ) → mode_of new ≡ without t (mode_of old) → locks_of new ≡ released t (locks_of old)
released_locks old new t is = same_locks (locks_of new) (released t (locks_of old)) (λ u item.
    tells new u item ∙ (λ i. is i u item) ∙ sym (says_without (locks_of old) (mode_of old) t (tells old) u item))

pub kept_locks : (old new : Table) → mode_of new ≡ mode_of old → locks_of new ≡ locks_of old
kept_locks old new is = same_locks (locks_of new) (locks_of old) (λ u item. tells new u item ∙ (λ i. is i u item) ∙ sym (tells old u item))

pub apart_of : (t : Table) → AllAgree (mode_of t) → AreApart (locks_of t)
apart_of t agreed u v item one other first second disagrees = elim (cases_Bool (u == v)) [
  | inl same ↦ eqb-true u v same
  | inr off ↦ absurd (true≢false (sym disagrees ∙ agreed u v item one other (λ e. true≢false (sym (eq-eqb u v e) ∙ off)) (sym (tells t u item) ∙ first) (sym (tells t v item) ∙ second)))
]

pub few_of : (t : Table) (u : ℕ) → AreFew (locks_of t) u → HoldersAreFew (mode_of t) u
few_of t u few = record {
  among = few.among;
  few = few.few;
  own = few.own;
  holders = λ v item holds. let at = some_at (mode_of t v item) holds in few.holders v item at.0 (tells t v item ∙ at.1);
}
