-- What a lock table tells after a change of its places or of its items.
use Rattle.std.proofs.Common.{◌≡◌, ◌⊎◌, inl, inr, ℕ, zero, suc, ◌+◌, ◌<◌, ◌≤◌, Bool, true, false, cond, ◌&&◌, ◌||◌, List, [], ◌∷◌, length, get_or, set, replicate, refl, sym, ◌∙◌, ap, subst, arith, eqb-true, eq-eqb, length-set, get_or-set_same, rules}
use Rattle.std.specs.Prelude.{Option, Some, None, nat_le, nat_eq, ◌==◌, is_some, is_none, Contains}
use Rattle.std.specs.List.{list_any, AllByRecursion, IsDistinct, filter}
use Rattle.std.specs.Map.{keys_of}
use Rattle.std.specs.Set.{is_member}
use Rattle.std.specs.Cmp.{nat_eq_equiv}
use Rattle.std.proofs.lemmas.Map.Entries.{option_filter, lookup-filter-values}
use Rattle.std.proofs.lemmas.Map.Made.{length-le_from_is_member}
use Rattle.std.proofs.lemmas.Map.Views.{list_any-from_Contains}
use Rattle.std.proofs.lemmas.Map.Keys.{IsDistinct-cons}
use Rattle.std.proofs.lemmas.Bool.{le-leb}
use Rattle.rss_base.specs.declared.item.Item.{Item}
use Rattle.rss_base.specs.declared.need.Mode.{Mode}
use Rattle.rss_base.specs.declared.need.Need.{Need}
use Rattle.rss_base.specs.Items.{same_item}
use Rattle.rss_base.proofs.Equal.{item_decides, same_item-laws}
use Rattle.rss_lock.specs.declared.places.Holder.{Holder}
use Rattle.rss_lock.specs.declared.places.Grants.{Grants}
use Rattle.rss_model.specs.Locks.{with_mode}
use Rattle.rss_lock.specs.Table.{Modes, AllAgree, HoldersAreFew, Holds, IsUnbarred, given, without, Table, table, is_of, counted, held, held_in, modes_on, is_held, grants_on, mode_of, current_modes, HasRoomFor, Places, had, gets, IsAlone, HasBegun, IsTable}
use Rattle.rss_lock.proofs.Holding.{one_of, none_set, held_at, held_none, held_place, held_current, held_set_other, freed_other, freed_own, freed_alone, given_held, given_alone, all_set, all_later, begun_at, current_at, nothing_in, length-current_modes}
use Rattle.rss_lock.proofs.Granting.{given_agrees, given_same, without_agrees, set_mode-own}
use mathlib.Core.Bool.{true≢false}

cases : (b : Bool) → (b ≡ true) ⊎ (b ≡ false)
cases true = inl refl
cases false = inr refl

if_true : {A : Type 0} (b : Bool) (x y : A) → b ≡ true → cond b x y ≡ x
if_true b x y e = ap (λ (c : Bool). cond c x y) e

if_false : {A : Type 0} (b : Bool) (x y : A) → b ≡ false → cond b x y ≡ y
if_false b x y e = ap (λ (c : Bool). cond c x y) e

not_true : {A : Type 0} (b : Bool) → b ≡ true → b ≡ false → A
not_true b p q = absurd (true≢false (sym p ∙ q))

-- ---- a transaction gives its place back

module _ (holders : List (Option Holder)) (t p : ℕ) (alone : IsAlone holders) (here : is_of t (get_or holders p None) ≡ true) where
  off : (u : ℕ) → (u == t) ≡ false → is_of u (get_or holders p None) ≡ false
  off u apart = elim (cases (is_of u (get_or holders p None))) [
    | inl its ↦ not_true (u == t) (eq-eqb u t (one_of t u (get_or holders p None) here its)) apart
    | inr fails ↦ fails
  ]

  freed_in : (u : ℕ) (o : Option Grants) → held_in u (set holders p None) o ≡ cond (u == t) None (held_in u holders o)
  freed_in u None = elim (cases (u == t)) [ inl same ↦ sym (if_true (u == t) None None same) | inr apart ↦ sym (if_false (u == t) None None apart) ]
  freed_in u (Some g) = elim (cases (u == t)) [
    | inl same ↦
        held_none u (set holders p None) g.as_of g.modes (subst (λ (v : ℕ). list_any (is_of v) (set holders p None) ≡ false) (sym (eqb-true u t same)) (freed_own t holders p alone here))
        ∙ sym (if_true (u == t) None (held u holders g.as_of g.modes) same)
    | inr apart ↦ freed_other u holders g.as_of g.modes p (off u apart) ∙ sym (if_false (u == t) None (held u holders g.as_of g.modes) apart)
  ]

pub freed_told : (holders : List (Option Holder)) (firsts : ℕ) (entries : List (Item × Grants)) (room t p : ℕ) → IsAlone holders → is_of t (get_or holders p None) ≡ true → mode_of (table (set holders p None) firsts entries room) ≡ without t (mode_of (table holders firsts entries room))
freed_told holders firsts entries room t p alone here = λ i u item. freed_in holders t p alone here u (grants_on entries item) i

pub freed_table : (holders : List (Option Holder)) (firsts : ℕ) (entries : List (Item × Grants)) (room t p : ℕ) → IsTable (table holders firsts entries room) → is_of t (get_or holders p None) ≡ true → IsTable (table (set holders p None) firsts entries room)
freed_table holders firsts entries room t p is here =
    let told = freed_told holders firsts entries room t p is.alone here in
    record {
      places = length-set holders p None ∙ is.places;
      alone = freed_alone holders p is.alone;
      begun = all_set (HasBegun firsts) holders p None is.begun tt;
      past = is.past;
      shown = λ u has. elim (cases (u == t)) [
        | inl same ↦ not_true (list_any (is_of u) (set holders p None)) has (subst (λ (v : ℕ). list_any (is_of v) (set holders p None) ≡ false) (sym (eqb-true u t same)) (freed_own t holders p is.alone here))
        | inr apart ↦
            let before : list_any (is_of u) holders ≡ true = elim (cases (list_any (is_of u) holders)) [
              | inl so ↦ so
              | inr fails ↦ not_true (list_any (is_of u) (set holders p None)) has (none_set (is_of u) holders p None fails refl)
            ] in
            let held = is.shown u before in
            (held.0, ap (λ (m : Modes). is_some (m u held.0)) told ∙ ap is_some (if_false (u == t) None (mode_of (table holders firsts entries room) u held.0) apart) ∙ held.1)
      ];
      agreed = subst AllAgree (sym told) (without_agrees (mode_of (table holders firsts entries room)) t is.agreed);
    }

-- a transaction that has no place holds nothing
pub absent_told : (t : Table) (u : ℕ) → list_any (is_of u) t.holders ≡ false → mode_of t ≡ without u (mode_of t)
absent_told t u none = λ i v item. at v (grants_on t.entries item) i
  where
    nothing : (v : ℕ) → v ≡ u → (o : Option Grants) → held_in v t.holders o ≡ None
    nothing v same None = refl
    nothing v same (Some g) = held_none v t.holders g.as_of g.modes (subst (λ (w : ℕ). list_any (is_of w) t.holders ≡ false) (sym same) none)

    at : (v : ℕ) (o : Option Grants) → held_in v t.holders o ≡ cond (v == u) None (held_in v t.holders o)
    at v o = elim (cases (v == u)) [
      | inl same ↦ nothing v (eqb-true v u same) o ∙ sym (if_true (v == u) None (held_in v t.holders o) same)
      | inr apart ↦ sym (if_false (v == u) None (held_in v t.holders o) apart)
    ]

-- ---- what was released is forgotten

counts_if_held : (holders : List (Option Holder)) (u as_of : ℕ) (modes : List (Option Mode)) (k : ℕ) (mode : Mode) → k < length holders → get_or (current_modes holders as_of modes) k None ≡ Some mode → list_any is_some (current_modes holders as_of modes) ≡ true
counts_if_held holders u as_of modes k mode within there = some_in (current_modes holders as_of modes) k mode there
  where
    some_in : (ms : List (Option Mode)) (n : ℕ) (m : Mode) → get_or ms n None ≡ Some m → list_any is_some ms ≡ true
    some_in [] n m e = absurd (cc)
    some_in (x ∷ xs) zero m e = ap (λ (b : Bool). b || list_any is_some xs) (ap is_some e)
    some_in (x ∷ xs) (suc n) m e = elim (cases (is_some x)) [
      | inl so ↦ ap (λ (b : Bool). b || list_any is_some xs) so
      | inr fails ↦ ap (λ (b : Bool). b || list_any is_some xs) fails ∙ some_in xs n m e
    ]

not_held : (holders : List (Option Holder)) (g : Grants) (u : ℕ) (o : Option Mode) → held u holders g.as_of g.modes ≡ o → is_held holders g ≡ false → o ≡ None
not_held holders g u None e none = refl
not_held holders g u (Some mode) e none =
    let at = held_place u holders g.as_of g.modes mode e in
    not_true (is_held holders g) (counts_if_held holders u g.as_of g.modes at.0 mode at.1 (current_at holders g.as_of g.modes at.0 ∙ at.3)) none

kept_in : (holders : List (Option Holder)) (u : ℕ) (o : Option Grants) → held_in u holders (option_filter (is_held holders) o) ≡ held_in u holders o
kept_in holders u None = refl
kept_in holders u (Some g) = elim (cases (is_held holders g)) [
  | inl so ↦ ap (λ (b : Bool). held_in u holders (cond b (Some g) None)) so
  | inr fails ↦ ap (λ (b : Bool). held_in u holders (cond b (Some g) None)) fails ∙ sym (not_held holders g u (held u holders g.as_of g.modes) refl fails)
]

pub kept_told : (holders : List (Option Holder)) (firsts : ℕ) (entries : List (Item × Grants)) (room left : ℕ) → IsDistinct same_item (keys_of entries) → mode_of (table holders firsts (filter (λ e. is_held holders e.1) entries) left) ≡ mode_of (table holders firsts entries room)
kept_told holders firsts entries room left distinct = λ i u item.
    (ap (held_in u holders) (lookup-filter-values same_item-laws (is_held holders) item entries distinct) ∙ kept_in holders u (grants_on entries item)) i

pub kept_past : (holders : List (Option Holder)) (firsts : ℕ) (entries : List (Item × Grants)) → IsDistinct same_item (keys_of entries) → ((item : Item) (g : Grants) → grants_on entries item ≡ Some g → g.as_of ≤ firsts) → (item : Item) (g : Grants) → grants_on (filter (λ e. is_held holders e.1) entries) item ≡ Some g → g.as_of ≤ firsts
kept_past holders firsts entries distinct past item g there = past item g (found (grants_on entries item) (sym (lookup-filter-values same_item-laws (is_held holders) item entries distinct) ∙ there))
  where
    found : (o : Option Grants) → option_filter (is_held holders) o ≡ Some g → o ≡ Some g
    found None e = e
    found (Some h) e = elim (cases (is_held holders h)) [
      | inl so ↦ sym (if_true (is_held holders h) (Some h) None so) ∙ e
      | inr fails ↦ absurd (let none : None ≡ Some g = sym (if_false (is_held holders h) (Some h) None fails) ∙ e in cc)
    ]

-- the same holders, and items with the same grants
pub same_table : (holders : List (Option Holder)) (firsts : ℕ) (old new : List (Item × Grants)) (room left : ℕ) → IsTable (table holders firsts old room) → mode_of (table holders firsts new left) ≡ mode_of (table holders firsts old room) → ((item : Item) (g : Grants) → grants_on new item ≡ Some g → g.as_of ≤ firsts) → IsTable (table holders firsts new left)
same_table holders firsts old new room left is same past = record {
  places = is.places;
  alone = is.alone;
  begun = is.begun;
  past = past;
  shown = λ u has. let held = is.shown u has in (held.0, ap (λ (m : Modes). is_some (m u held.0)) same ∙ held.1);
  agreed = subst AllAgree (sym same) is.agreed;
}

-- forgotten, and moved to a larger table
module _ (holders : List (Option Holder)) (firsts : ℕ) (entries kept moved : List (Item × Grants)) (room left : ℕ) (distinct : IsDistinct same_item (keys_of entries)) (is_kept : kept ≡ filter (λ e. is_held holders e.1) entries) (same : (q : Item) → grants_on moved q ≡ grants_on kept q) where
  found : (q : Item) → grants_on moved q ≡ grants_on (filter (λ e. is_held holders e.1) entries) q
  found q = same q ∙ ap (λ (es : List (Item × Grants)). grants_on es q) is_kept

  pub moved_told : mode_of (table holders firsts moved left) ≡ mode_of (table holders firsts entries room)
  moved_told = (λ i u q. held_in u holders (found q i)) ∙ kept_told holders firsts entries room left distinct

  pub moved_table : IsTable (table holders firsts entries room) → IsTable (table holders firsts moved left)
  moved_table is = same_table holders firsts entries moved room left is moved_told (λ item g there. kept_past holders firsts entries distinct is.past item g (sym (found item) ∙ there))

-- ---- a transaction gets a place

-- what is known of the places of a table whose items are these
pub record IsPlaced (t : ℕ) (old : Table) (holders : List (Option Holder)) (firsts place : ℕ) : Type 0 where
  pub same : mode_of (table holders firsts old.entries old.room) ≡ mode_of old
  pub places : length holders ≡ 32
  pub alone : IsAlone holders
  pub begun : AllByRecursion (HasBegun firsts) holders
  pub later : old.firsts ≤ firsts
  pub soon : firsts ≤ old.firsts + 1
  pub here : is_of t (get_or holders place None) ≡ true
  pub seated : (u : ℕ) → list_any (is_of u) holders ≡ true → (u ≡ t) ⊎ (list_any (is_of u) old.holders ≡ true)

given_place : (t : ℕ) (old : Table) (place : ℕ) → IsTable old → place < 32 → get_or old.holders place None ≡ None → list_any (is_of t) old.holders ≡ false → IsPlaced t old (set old.holders place (Some (record { transaction = t; since = old.firsts + 1 }))) (old.firsts + 1) place
given_place t old place is within free none =
    let h : Holder = record { transaction = t; since = old.firsts + 1 } in
    let fits : place < length old.holders = let long : length old.holders ≡ 32 = is.places in omega arith in
    record {
      same = λ i u item. at u (grants_on old.entries item) (λ g there. is.past item g there) i;
      places = length-set old.holders place (Some h) ∙ is.places;
      alone = given_alone old.holders place h none is.alone;
      begun = all_set (HasBegun (old.firsts + 1)) old.holders place (Some h) (all_later old.firsts old.holders is.begun) (omega arith);
      later = omega arith;
      soon = omega arith;
      here = ap (is_of t) (get_or-set_same {A = Option Holder} old.holders place (Some h) None fits) ∙ eq-eqb t t refl;
      seated = λ u has. elim (cases (list_any (is_of u) old.holders)) [
        | inl before ↦ inr before
        | inr new ↦ elim (cases (t == u)) [
          | inl same ↦ inl (sym (eqb-true t u same))
          | inr apart ↦ not_true (list_any (is_of u) (set old.holders place (Some h))) has (none_set (is_of u) old.holders place (Some h) new apart)
        ]
      ];
    }
  where
    at : (u : ℕ) (o : Option Grants) → ((g : Grants) → o ≡ Some g → g.as_of ≤ old.firsts) → held_in u (set old.holders place (Some (record { transaction = t; since = old.firsts + 1 }))) o ≡ held_in u old.holders o
    at u None past = refl
    at u (Some g) past = let before : g.as_of ≤ old.firsts = past g refl in given_held u old.holders g.as_of g.modes place (record { transaction = t; since = old.firsts + 1 }) free none (omega arith)

pub placed : (t : ℕ) (old : Table) (holders : List (Option Holder)) (firsts place : ℕ) → IsTable old → place < 32 → Places t old.holders old.firsts holders firsts place → IsPlaced t old holders firsts place
placed t old holders firsts place is within (had q here) = record {
  same = refl;
  places = is.places;
  alone = is.alone;
  begun = is.begun;
  later = omega arith;
  soon = omega arith;
  here = here;
  seated = λ u has. inr has;
}
placed t old holders firsts place is within (gets q free none) = given_place t old q is within free none

-- ---- and is granted an item

module _ (t : ℕ) (old : Table) (holders : List (Option Holder)) (firsts place : ℕ) (is : IsTable old) (at : IsPlaced t old holders firsts place) (within : place < 32) (need : Need) where
  abbrev before : Option Grants
  before = grants_on old.entries need.item

  abbrev to : Mode
  to = with_mode (get_or (modes_on holders before) place None) need.mode

  abbrev new_grants : Grants
  new_grants = record { modes = set (modes_on holders before) place (Some to); as_of = firsts }

  length_modes : (o : Option Grants) → length (modes_on holders o) ≡ 32
  length_modes None = refl
  length_modes (Some g) = length-current_modes holders g.as_of g.modes ∙ at.places

  -- what counted of the item before is what the places hold now
  current_held : (u : ℕ) (o : Option Grants) → held u holders firsts (modes_on holders o) ≡ held_in u holders o
  current_held u None = elim (cases (list_any (is_of u) holders)) [
    | inl has ↦ nothing u holders (replicate 32 None) (λ k. nothing_in 32 k)
    | inr none ↦ held_none u holders firsts (replicate 32 None) none
  ]
    where
      nothing : (u : ℕ) (hs : List (Option Holder)) (ms : List (Option Mode)) → ((k : ℕ) → get_or ms k None ≡ None) → held u hs firsts ms ≡ None
      nothing u hs ms all = by (held u hs firsts ms) refl
        where
          counted_none : (h : Option Holder) → counted h firsts None ≡ None
          counted_none None = refl
          counted_none (Some h) = elim (cases (nat_le h.since firsts)) [ inl so ↦ if_true (nat_le h.since firsts) None None so | inr fails ↦ if_false (nat_le h.since firsts) None None fails ]

          by : (o : Option Mode) → held u hs firsts ms ≡ o → o ≡ None
          by None e = refl
          by (Some m) e =
              let found = held_place u hs firsts ms m e in
              sym found.3 ∙ ap (counted (get_or hs found.0 None) firsts) (all found.0) ∙ counted_none (get_or hs found.0 None)
  current_held u (Some g) = held_current u holders firsts g.as_of g.modes at.begun

  counts_here : (h : Option Holder) → HasBegun firsts h → is_of t h ≡ true → (m : Option Mode) → counted h firsts m ≡ m
  counts_here None begun its m = not_true false its refl
  counts_here (Some h) begun its m = if_true (nat_le h.since firsts) m None (le-leb h.since firsts begun)

  -- what t held is what stands in its place
  own_mode : get_or (modes_on holders before) place None ≡ mode_of old t need.item
  own_mode =
      sym (counts_here (get_or holders place None) (begun_at firsts holders place at.begun) at.here (get_or (modes_on holders before) place None))
      ∙ sym (held_at t holders firsts (modes_on holders before) place at.alone at.here)
      ∙ current_held t before
      ∙ ap (λ (m : Modes). m t need.item) at.same

  granted_here : (u : ℕ) → held u holders firsts new_grants.modes ≡ cond (u == t) (Some to) (mode_of old u need.item)
  granted_here u = elim (cases (u == t)) [
    | inl same ↦
        let own : is_of u (get_or holders place None) ≡ true = subst (λ (v : ℕ). is_of v (get_or holders place None) ≡ true) (sym (eqb-true u t same)) at.here in
        held_at u holders firsts new_grants.modes place at.alone own
        ∙ counts_here (get_or holders place None) (begun_at firsts holders place at.begun) at.here (get_or new_grants.modes place None)
        ∙ get_or-set_same {A = Option Mode} (modes_on holders before) place (Some to) None (let long : length (modes_on holders before) ≡ 32 = length_modes before in omega arith)
        ∙ sym (if_true (u == t) (Some to) (mode_of old u need.item) same)
    | inr apart ↦
        let away : is_of u (get_or holders place None) ≡ false = elim (cases (is_of u (get_or holders place None))) [
          | inl its ↦ not_true (u == t) (eq-eqb u t (one_of t u (get_or holders place None) at.here its)) apart
          | inr not_its ↦ not_its
        ] in
        held_set_other u holders firsts (modes_on holders before) place (Some to) away
        ∙ current_held u before
        ∙ ap (λ (m : Modes). m u need.item) at.same
        ∙ sym (if_false (u == t) (Some to) (mode_of old u need.item) apart)
  ]

  -- t has the need already
  module _ (modes : List (Option Mode)) (is_modes : modes ≡ modes_on holders before) (has : get_or modes place None ≡ Some (with_mode (get_or modes place None) need.mode)) where
    has_so : mode_of old t need.item ≡ Some (with_mode (mode_of old t need.item) need.mode)
    has_so = subst (λ (o : Option Mode). o ≡ Some (with_mode o need.mode)) (ap (λ (ms : List (Option Mode)). get_or ms place None) is_modes ∙ own_mode) has

    pub covered_told : mode_of (table holders firsts old.entries old.room) ≡ given (mode_of old) t need
    covered_told = at.same ∙ sym (given_same (mode_of old) t need has_so)

    pub covered_table : IsTable (table holders firsts old.entries old.room)
    covered_table = record {
      places = at.places;
      alone = at.alone;
      begun = at.begun;
      past = λ item g there.
          let later : old.firsts ≤ firsts = at.later in
          let was : g.as_of ≤ old.firsts = is.past item g there in
          omega arith;
      shown = λ u has. elim (at.seated u has) [
        | inl own ↦ (need.item, ap is_some (ap (λ (m : Modes). m u need.item) at.same ∙ ap (λ (v : ℕ). mode_of old v need.item) own ∙ has_so))
        | inr before ↦ let held = is.shown u before in (held.0, ap (λ (m : Modes). is_some (m u held.0)) at.same ∙ held.1)
      ];
      agreed = subst AllAgree (sym at.same) is.agreed;
    }

  -- the item's grants, as the code makes them
  pub as_made : (modes : List (Option Mode)) (made : Mode) → modes ≡ modes_on holders before → made ≡ with_mode (get_or modes place None) need.mode → (entries : List (Item × Grants)) → ((q : Item) → grants_on entries q ≡ cond (same_item need.item q) (Some (record { modes = set modes place (Some made); as_of = firsts })) (grants_on old.entries q)) → (q : Item) → grants_on entries q ≡ cond (same_item need.item q) (Some new_grants) (grants_on old.entries q)
  as_made modes made is_modes is_made entries updates q =
      let all : made ≡ to = is_made ∙ ap (λ (ms : List (Option Mode)). with_mode (get_or ms place None) need.mode) is_modes in
      updates q ∙ (λ i. cond (same_item need.item q) (Some (record { modes = set (is_modes i) place (Some (all i)); as_of = firsts })) (grants_on old.entries q))

  module _ (entries : List (Item × Grants)) (updates : (q : Item) → grants_on entries q ≡ cond (same_item need.item q) (Some new_grants) (grants_on old.entries q)) (room : ℕ) where
    granted_at : (u : ℕ) (q : Item) → mode_of (table holders firsts entries room) u q ≡ given (mode_of old) t need u q
    granted_at u q = elim (cases (same_item need.item q)) [
      | inl same ↦
          let one : need.item ≡ q = (item_decides need.item q).0 same in
          ap (held_in u holders) (updates q ∙ if_true (same_item need.item q) (Some new_grants) (grants_on old.entries q) same)
          ∙ granted_here u
          ∙ (λ i. cond (u == t) (Some (with_mode (own_mode i) need.mode)) (mode_of old u (one i)))
          ∙ ap (λ (b : Bool). cond b (Some (with_mode (mode_of old t need.item) need.mode)) (mode_of old u q)) (sym (and_true (u == t) (same_item need.item q) same))
      | inr apart ↦
          ap (held_in u holders) (updates q ∙ if_false (same_item need.item q) (Some new_grants) (grants_on old.entries q) apart)
          ∙ ap (λ (m : Modes). m u q) at.same
          ∙ ap (λ (b : Bool). cond b (Some (with_mode (mode_of old t need.item) need.mode)) (mode_of old u q)) (sym (and_false (u == t) (same_item need.item q) apart))
    ]
      where
        and_true : (a b : Bool) → b ≡ true → a && b ≡ a
        and_true true b e = e
        and_true false b e = refl

        and_false : (a b : Bool) → b ≡ false → a && b ≡ false
        and_false true b e = e
        and_false false b e = refl

    pub granted_told : mode_of (table holders firsts entries room) ≡ given (mode_of old) t need
    granted_told = λ i u q. granted_at u q i

    pub granted_table : IsUnbarred (mode_of old) t need → IsTable (table holders firsts entries room)
    granted_table free = record {
      places = at.places;
      alone = at.alone;
      begun = at.begun;
      past = λ item g there. elim (cases (same_item need.item item)) [
        | inl same ↦
            let is_new : Some new_grants ≡ Some g = sym (updates item ∙ if_true (same_item need.item item) (Some new_grants) (grants_on old.entries item) same) ∙ there in
            let one : new_grants ≡ g = cc in
            subst (λ (x : Grants). x.as_of ≤ firsts) one (omega arith)
        | inr apart ↦
            let later : old.firsts ≤ firsts = at.later in
            let was : g.as_of ≤ old.firsts = is.past item g (sym (updates item ∙ if_false (same_item need.item item) (Some new_grants) (grants_on old.entries item) apart) ∙ there) in
            omega arith
      ];
      shown = λ u has. elim (at.seated u has) [
        | inl own ↦ (need.item, ap is_some (ap (λ (v : ℕ). mode_of (table holders firsts entries room) v need.item) own ∙ granted_at t need.item ∙ set_mode-own (mode_of old) t need.item (with_mode (mode_of old t need.item) need.mode)))
        | inr before ↦
            let held = is.shown u before in
            (held.0, ap is_some (granted_at u held.0) ∙ still u held.0 held.1)
      ];
      agreed = subst AllAgree (sym granted_told) (given_agrees (mode_of old) t need is.agreed free);
    }
      where
        still : (u : ℕ) (q : Item) → Holds (mode_of old) q u → is_some (given (mode_of old) t need u q) ≡ true
        still u q holds = elim (cases ((u == t) && same_item need.item q)) [
          | inl so ↦ ap is_some (if_true ((u == t) && same_item need.item q) (Some (with_mode (mode_of old t need.item) need.mode)) (mode_of old u q) so)
          | inr fails ↦ ap is_some (if_false ((u == t) && same_item need.item q) (Some (with_mode (mode_of old t need.item) need.mode)) (mode_of old u q) fails) ∙ holds
        ]

-- ---- a place is free where few hold something

abbrev owners : List (Option Holder) → List ℕ
owners [] = []
owners (None ∷ hs) = owners hs
owners (Some h ∷ hs) = h.transaction ∷ owners hs

owners_all : (hs : List (Option Holder)) → list_any is_none hs ≡ false → length (owners hs) ≡ length hs
owners_all [] full = refl
owners_all (None ∷ hs) full = not_true true refl full
owners_all (Some h ∷ hs) full = ap suc (owners_all hs full)

owners_any : (q : ℕ) (hs : List (Option Holder)) → is_member nat_eq (owners hs) q ≡ list_any (is_of q) hs
owners_any q [] = refl
owners_any q (None ∷ hs) = owners_any q hs
owners_any q (Some h ∷ hs) = λ i. nat_eq_equiv.symm q h.transaction i || owners_any q hs i

none_same : (q : ℕ) (xs : List ℕ) → list_any (nat_eq q) xs ≡ false → AllByRecursion (λ y. nat_eq q y ≡ false) xs
none_same q [] none = tt
none_same q (x ∷ xs) none = elim (cases (nat_eq q x)) [
  | inl so ↦ not_true (nat_eq q x || list_any (nat_eq q) xs) (ap (λ (b : Bool). b || list_any (nat_eq q) xs) so) none
  | inr fails ↦ (fails, none_same q xs (sym (ap (λ (b : Bool). b || list_any (nat_eq q) xs) fails) ∙ none))
]

owners_distinct : (hs : List (Option Holder)) → IsAlone hs → IsDistinct nat_eq (owners hs)
unfolding IsDistinct
owners_distinct [] alone = tt
owners_distinct (None ∷ hs) alone = owners_distinct hs alone
owners_distinct (Some h ∷ hs) alone = (none_same h.transaction (owners hs) (owners_any h.transaction hs ∙ alone.0), owners_distinct hs alone.1)

pub room_for : (t : Table) (u : ℕ) → IsTable t → HoldersAreFew (mode_of t) u → HasRoomFor u t.holders
room_for t u is few absent = elim (cases (list_any is_none t.holders)) [
  | inl free ↦ free
  | inr full ↦
      let all : List ℕ = u ∷ owners t.holders in
      let count : length (owners t.holders) ≡ 32 = owners_all t.holders full ∙ is.places in
      let distinct : IsDistinct nat_eq all = IsDistinct-cons nat_eq u (owners t.holders) (none_same u (owners t.holders) (owners_any u t.holders ∙ absent)) (owners_distinct t.holders is.alone) in
      let within : (q : ℕ) → is_member nat_eq all q ≡ true → is_member nat_eq few.among q ≡ true = λ q there. elim (cases (nat_eq q u)) [
        | inl same ↦ list_any-from_Contains nat_eq_equiv q few.among (subst (λ (v : ℕ). Contains few.among v) (sym (eqb-true q u same)) few.own)
        | inr apart ↦
            let later : list_any (is_of q) t.holders ≡ true = sym (owners_any q t.holders) ∙ sym (ap (λ (b : Bool). b || list_any (nat_eq q) (owners t.holders)) apart) ∙ there in
            let held = is.shown q later in
            list_any-from_Contains nat_eq_equiv q few.among (few.holders q held.0 held.1)
      ] in
      let too_many : length all ≤ length few.among = length-le_from_is_member nat_eq_equiv all few.among distinct within in
      absurd (let most : length few.among ≤ 32 = few.few in omega arith)
]

-- ---- a table without places

pub empty_table : (holders : List (Option Holder)) (entries : List (Item × Grants)) (room : ℕ) → holders ≡ replicate 32 None → entries ≡ [] → IsTable (table holders 0 entries room)
empty_table holders entries room free none =
    subst (λ (hs : List (Option Holder)). IsTable (table hs 0 entries room)) (sym free)
    (subst (λ (es : List (Item × Grants)). IsTable (table (replicate 32 None) 0 es room)) (sym none) (search rules))
