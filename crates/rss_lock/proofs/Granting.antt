-- What is granted to one transaction leaves the others as they are, and disagrees with none of them.
use Rattle.std.proofs.Common.{◌≡◌, ◌≢◌, ◌⊎◌, inl, inr, ℕ, suc, Bool, true, false, cond, ◌&&◌, ◌||◌, List, ◌∷◌, get_or, refl, sym, ◌∙◌, ap, subst, arith, eqb-true, eq-eqb}
use Rattle.std.specs.Prelude.{Option, Some, None, ◌==◌, is_some, All, Contains}
use Rattle.std.proofs.lemmas.Bool.{and_parts}
use Rattle.rss_base.specs.declared.item.Item.{Item}
use Rattle.rss_base.specs.declared.need.Mode.{Mode}
use Rattle.rss_base.specs.declared.need.Need.{Need}
use Rattle.rss_base.specs.Items.{same_item}
use Rattle.rss_base.proofs.Equal.{item_decides}
use Rattle.rss_model.specs.Locks.{disagree, with_mode}
use Rattle.rss_model.proofs.Modes.{disagree_alike, joins_disagree}
use Rattle.rss_lock.specs.Table.{Modes, AllAgree, HoldersAreFew, IsUnbarred, set_mode, given, without}
use mathlib.Core.Bool.{true≢false}

cases : (b : Bool) → (b ≡ true) ⊎ (b ≡ false)
cases true = inl refl
cases false = inr refl

both : (a b : Bool) → a ≡ true → b ≡ true → a && b ≡ true
both true b p q = q
both false b p q = absurd (true≢false (sym p))

neither : (a b : Bool) → a ≡ false → b ≡ false → a || b ≡ false
neither false b p q = q
neither true b p q = absurd (true≢false p)

not_first : (a b : Bool) → a ≡ false → a && b ≡ false
not_first false b p = refl
not_first true b p = absurd (true≢false p)

-- of another transaction nothing changes
pub set_mode-other : (mode : Modes) (t : ℕ) (item : Item) (to : Mode) (u : ℕ) (other : Item) → u ≢ t → set_mode mode t item to u other ≡ mode u other
set_mode-other mode t item to u other off = elim (cases (u == t)) [
  | inl same ↦ absurd (off (eqb-true u t same))
  | inr apart ↦ ap (λ (b : Bool). cond b (Some to) (mode u other)) (not_first (u == t) (same_item item other) apart)
]

-- the item itself
pub set_mode-own : (mode : Modes) (t : ℕ) (item : Item) (to : Mode) → set_mode mode t item to t item ≡ Some to
set_mode-own mode t item to = ap (λ (b : Bool). cond b (Some to) (mode t item)) (both (t == t) (same_item item item) (eq-eqb t t refl) ((item_decides item item).1 refl))

-- what t holds then is what it held, or what it was given
set_mode-cases : (mode : Modes) (t : ℕ) (item : Item) (to : Mode) (other : Item) → ((item ≡ other) × (set_mode mode t item to t other ≡ Some to)) ⊎ (set_mode mode t item to t other ≡ mode t other)
set_mode-cases mode t item to other = elim (cases (same_item item other)) [
  | inl same ↦ inl ((item_decides item other).0 same, ap (λ (b : Bool). cond b (Some to) (mode t other)) (both (t == t) (same_item item other) (eq-eqb t t refl) same))
  | inr apart ↦ inr (ap (λ (b : Bool). cond b (Some to) (mode t other)) (elim (cases (t == t)) [ inl own ↦ ap (λ (b : Bool). b && same_item item other) own ∙ apart | inr off ↦ not_first (t == t) (same_item item other) off ]))
]

-- ---- agreement

first_holds : (a b : Bool) → a && b ≡ true → a ≡ true
first_holds true b p = refl
first_holds false b p = absurd (true≢false (sym p))

-- a need that t has already changes nothing
pub given_same : (mode : Modes) (t : ℕ) (need : Need) → mode t need.item ≡ Some (with_mode (mode t need.item) need.mode) → given mode t need ≡ mode
given_same mode t need has = λ i u item. at u item i
  where
    at : (u : ℕ) (item : Item) → given mode t need u item ≡ mode u item
    at u item = elim (cases ((u == t) && same_item need.item item)) [
      | inl here ↦
          let parts = and_parts (u == t) (same_item need.item item) here in
          let own : u ≡ t = eqb-true u t parts.0 in
          let one : need.item ≡ item = (item_decides need.item item).0 parts.1 in
          ap (λ (b : Bool). cond b (Some (with_mode (mode t need.item) need.mode)) (mode u item)) here ∙ sym has ∙ (λ i. mode (sym own i) (one i))
      | inr apart ↦ ap (λ (b : Bool). cond b (Some (with_mode (mode t need.item) need.mode)) (mode u item)) apart
    ]

-- a mode agrees with another transaction's, where both the one held and the one needed do
with_mode-agrees : (held : Option Mode) (needed other : Mode) → ((mode : Mode) → held ≡ Some mode → disagree mode other ≡ false) → disagree needed other ≡ false → disagree (with_mode held needed) other ≡ false
with_mode-agrees None needed other before now = now
with_mode-agrees (Some mode) needed other before now = joins_disagree mode needed other ∙ neither (disagree mode other) (disagree needed other) (before mode refl) now

unbarred_agrees : (mode : Modes) (t : ℕ) (need : Need) → IsUnbarred mode t need → (u : ℕ) (b : Mode) → u ≢ t → mode u need.item ≡ Some b → disagree need.mode b ≡ false
unbarred_agrees mode t need free u b off holds = elim (cases (disagree b need.mode)) [
  | inl bars ↦ absurd (free u (record { another = off; held = b; holds = holds; disagrees = bars }))
  | inr fits ↦ disagree_alike need.mode b ∙ fits
]

-- t against another
own_agrees : (mode : Modes) (t : ℕ) (need : Need) → AllAgree mode → IsUnbarred mode t need → (u : ℕ) (item : Item) (a b : Mode) → t ≢ u → given mode t need t item ≡ Some a → mode u item ≡ Some b → disagree a b ≡ false
own_agrees mode t need all free u item a b off own other = elim (set_mode-cases mode t need.item (with_mode (mode t need.item) need.mode) item) [
  | inl here ↦
      let to : Mode = with_mode (mode t need.item) need.mode in
      let is : Some to ≡ Some a = sym here.1 ∙ own in
      let same : to ≡ a = cc in
      let theirs : mode u need.item ≡ Some b = ap (mode u) here.0 ∙ other in
      subst (λ (m : Mode). disagree m b ≡ false) same
      (with_mode-agrees (mode t need.item) need.mode b (λ m held. all t u need.item m b off held theirs) (unbarred_agrees mode t need free u b (λ e. off (sym e)) theirs))
  | inr kept ↦ all t u item a b off (sym kept ∙ own) other
]

pub given_agrees : (mode : Modes) (t : ℕ) (need : Need) → AllAgree mode → IsUnbarred mode t need → AllAgree (given mode t need)
given_agrees mode t need all free u v item a b off one two = elim (cases (u == t)) [
  | inl same ↦
      let own : u ≡ t = eqb-true u t same in
      let apart : v ≢ t = λ e. off (own ∙ sym e) in
      own_agrees mode t need all free v item a b (λ e. apart (sym e)) (ap (λ (w : ℕ). given mode t need w item) (sym own) ∙ one) (sym (set_mode-other mode t need.item (with_mode (mode t need.item) need.mode) v item apart) ∙ two)
  | inr other ↦
      let apart : u ≢ t = λ e. true≢false (sym (eq-eqb u t e) ∙ other) in
      let first : mode u item ≡ Some a = sym (set_mode-other mode t need.item (with_mode (mode t need.item) need.mode) u item apart) ∙ one in
      elim (cases (v == t)) [
        | inl same ↦
            let own : v ≡ t = eqb-true v t same in
            disagree_alike a b ∙ own_agrees mode t need all free u item b a (λ e. apart (sym e)) (ap (λ (w : ℕ). given mode t need w item) (sym own) ∙ two) first
        | inr differs ↦
            let away : v ≢ t = λ e. true≢false (sym (eq-eqb v t e) ∙ differs) in
            all u v item a b off first (sym (set_mode-other mode t need.item (with_mode (mode t need.item) need.mode) v item away) ∙ two)
      ]
]

pub without_agrees : (mode : Modes) (t : ℕ) → AllAgree mode → AllAgree (without t mode)
without_agrees mode t all u v item a b off one two = all u v item a b off (kept u a one) (kept v b two)
  where
    kept : (w : ℕ) (m : Mode) → without t mode w item ≡ Some m → mode w item ≡ Some m
    kept w m e = elim (cases (w == t)) [
      | inl same ↦ absurd (let none : None ≡ Some m = sym (ap (λ (x : Bool). cond x None (mode w item)) same) ∙ e in cc)
      | inr apart ↦ sym (ap (λ (x : Bool). cond x None (mode w item)) apart) ∙ e
    ]

-- ---- what t is given makes no one bar it, and no more hold something

pub given_unbarred : (mode : Modes) (t : ℕ) (need other : Need) → IsUnbarred mode t other → IsUnbarred (given mode t need) t other
given_unbarred mode t need other free u bars = free u (record {
  another = bars.another;
  held = bars.held;
  holds = sym (set_mode-other mode t need.item (with_mode (mode t need.item) need.mode) u other.item bars.another) ∙ bars.holds;
  disagrees = bars.disagrees;
})

pub given_few : (mode : Modes) (t : ℕ) (need : Need) → HoldersAreFew mode t → HoldersAreFew (given mode t need) t
given_few mode t need few = record {
  among = few.among;
  few = few.few;
  own = few.own;
  holders = λ u item holds. elim (cases (u == t)) [
    | inl same ↦ subst (λ (v : ℕ). Contains few.among v) (sym (eqb-true u t same)) few.own
    | inr apart ↦ few.holders u item (ap is_some (sym (set_mode-other mode t need.item (with_mode (mode t need.item) need.mode) u item (λ e. true≢false (sym (eq-eqb u t e) ∙ apart)))) ∙ holds)
  ];
}

-- ---- the first of several needs, and the others

-- nobody bars t from any of them
abbrev pub IsFree : Modes → ℕ → List Need → Type 0
IsFree mode t needs = All (IsUnbarred mode t) needs

pub first_free : (mode : Modes) (t : ℕ) (needs : List Need) (need : Need) (rest : List Need) → needs ≡ need ∷ rest → IsFree mode t needs → IsUnbarred mode t need
first_free mode t needs need rest is free = let all : IsFree mode t (need ∷ rest) = subst (IsFree mode t) is free in all 0 need (omega arith)

pub rest_free : (mode : Modes) (t : ℕ) (needs : List Need) (need : Need) (rest : List Need) → needs ≡ need ∷ rest → IsFree mode t needs → IsFree (given mode t need) t rest
rest_free mode t needs need rest is free k d below = let all : IsFree mode t (need ∷ rest) = subst (IsFree mode t) is free in given_unbarred mode t need (get_or rest k d) (all (suc k) d (omega arith))
