-- Where no other transaction has a place, none holds anything, and none bars a need.
use Rattle.std.proofs.Common.{◌≡◌, inl, inr, ℕ, true, refl, sym, ◌∙◌, ap, eqb-true, eq-eqb}
use Rattle.std.specs.Prelude.{None, ◌==◌, is_some}
use Rattle.std.specs.List.{list_any}
use Rattle.std.proofs.lemmas.Bool.{cases_Bool, cond-true}
use Rattle.rss_base.specs.declared.item.Item.{Item}
use Rattle.rss_base.specs.declared.need.Need.{Need}
use Rattle.rss_model.specs.Locks.{is_held_by_another}
use Rattle.rss_lock.specs.Locks.{HoldsAlone}
use Rattle.rss_lock.specs.Table.{AreAllOf, Holds, IsTable, IsUnbarred, Modes, Table, is_of, locks_of, mode_of}
use Rattle.rss_lock.proofs.Telling.{absent_told}
use Rattle.rss_lock.proofs.Machine.{tells}
use Rattle.rss_lock.proofs.Firsts.{held_by_another}
use mathlib.Core.Bool.{true≢false}

-- who holds something has a place
has_place : (t : Table) (u : ℕ) (item : Item) → Holds (mode_of t) item u → list_any (is_of u) t.holders ≡ true
has_place t u item holds = elim (cases_Bool (list_any (is_of u) t.holders)) [
  | inl has ↦ has
  | inr none ↦
      let gone : mode_of t u item ≡ None = ap (λ (m : Modes). m u item) (absent_told t u none) ∙ cond-true (u == u) None (mode_of t u item) (eq-eqb u u refl) in
      absurd (true≢false (sym holds ∙ ap is_some gone))
]

pub alone_if : (t : Table) (u : ℕ) → AreAllOf u t.holders → HoldsAlone (locks_of t) u
alone_if t u all item = elim (cases_Bool (is_held_by_another (locks_of t) u item)) [
  | inl held ↦
      let other = (held_by_another (locks_of t) (mode_of t) (tells t) u item).0 held in
      absurd (other.another (all other.other (has_place t other.other item other.holds)))
  | inr none ↦ none
]

pub all_if : (t : Table) (u : ℕ) → IsTable t → HoldsAlone (locks_of t) u → AreAllOf u t.holders
all_if t u is alone v has = elim (cases_Bool (v == u)) [
  | inl same ↦ eqb-true v u same
  | inr apart ↦
      let held = is.shown v has in
      let other = (held_by_another (locks_of t) (mode_of t) (tells t) u held.0).1 (record { other = v; another = λ same. true≢false (sym (eq-eqb v u same) ∙ apart); holds = held.1 }) in
      absurd (true≢false (sym other ∙ alone held.0))
]

pub unbarred_if : (t : Table) (u : ℕ) → HoldsAlone (locks_of t) u → (need : Need) → IsUnbarred (mode_of t) u need
unbarred_if t u alone need other bars =
    let held = (held_by_another (locks_of t) (mode_of t) (tells t) u need.item).1 (record { other = other; another = bars.another; holds = ap is_some bars.holds }) in
    true≢false (sym held ∙ alone need.item)
