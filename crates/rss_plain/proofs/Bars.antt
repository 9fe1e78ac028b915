-- Who bars the locks that a call asks for, one after another.
use Rattle.std.proofs.Common.{◌≡◌, ◌+◌, ◌<◌, ℕ, Bool, true, false, cond, not, ◌&&◌, ◌||◌, List, [], ◌∷◌, drop, get_or, length, refl, sym, ◌∙◌, ap, subst}
use Rattle.std.specs.Prelude.{Option, Some, None, is_some, IfSome, IfNone, option_map, unwrap_or, slice_range, find, ◌==◌}
use Rattle.std.specs.List.{list_any}
use Rattle.std.specs.FinMap as finite
use Rattle.std.proofs.lemmas.List.{drop_more}
use Rattle.std.proofs.lemmas.Option.{same_Some}
use Rattle.rss_base.specs.declared.item.Item.{Item}
use Rattle.rss_base.specs.declared.item.Item.TheVariants.{Segment}
use Rattle.rss_base.specs.declared.need.Need.{Need}
use Rattle.rss_base.specs.declared.need.Mode.{Mode}
use Rattle.rss_base.specs.declared.need.Mode.TheVariants.{X}
use Rattle.rss_model.specs.Locks.{Locks, Claim, Bar, disagree, bars, barred_by, first_bar, is_held_by_another}
use Rattle.rss_model.specs.Items.{is_item}
use Rattle.rss_model.specs.Needs.{need}
use Rattle.rss_lock.specs.Locks.{IsFirstBar}
use Rattle.rss_model.proofs.LogLists.{none_some}
use Rattle.rss_model.proofs.Viewing.{against_x}
use Rattle.rss_plain.specs.Tests.{IsBarredAt}
use Rattle.rss_plain.proofs.Lists.{one_of}

abbrev bar_at : Need → ℕ → Option Bar
bar_at needed holder = Some (record { item = needed.item; holder = holder })

abbrev any_need : Need
any_need = need (Segment (record { bytes = [] })) X

abbrev bar_with : Item → ℕ → Option Bar
bar_with item holder = Some (record { item = item; holder = holder })

module _ (locks : Locks) (t : ℕ) where
  first_here : (needed : Need) (rest : List Need) (bar : Bar) → first_bar locks t (needed ∷ []) ≡ Some bar
      → (first_bar locks t (needed ∷ rest) ≡ Some bar) × (bar.item ≡ needed.item)
  first_here needed rest bar = by (barred_by locks t needed)
    where
      by : (o : Option ℕ) → unwrap_or (option_map (bar_at needed) o) None ≡ Some bar
          → (unwrap_or (option_map (bar_at needed) o) (first_bar locks t rest) ≡ Some bar) × (bar.item ≡ needed.item)
      by None is = none_some is
      by (Some holder) is = (is, ap (λ (b : Bar). b.item) (sym (same_Some _ _ is)))

  first_past : (needed : Need) (rest : List Need) → first_bar locks t (needed ∷ []) ≡ None
      → first_bar locks t (needed ∷ rest) ≡ first_bar locks t rest
  first_past needed rest = by (barred_by locks t needed)
    where
      by : (o : Option ℕ) → unwrap_or (option_map (bar_at needed) o) None ≡ None
          → unwrap_or (option_map (bar_at needed) o) (first_bar locks t rest) ≡ first_bar locks t rest
      by None is = refl
      by (Some holder) is = none_some (sym is)

  -- the lock at a place is barred, or it isn't
  pub barred_at : (needs : List Need) (i : ℕ) (d : Need) (bar : Bar) → i < length needs
      → first_bar locks t (slice_range needs i (i + 1)) ≡ Some bar
      → (first_bar locks t (drop i needs) ≡ Some bar) × (bar.item ≡ (get_or needs i d).item)
  barred_at needs i d bar low is =
      let here = first_here (get_or needs i d) (drop (i + 1) needs) bar
      (sym (ap (first_bar locks t) (one_of needs i d low)) ∙ is) in
      (ap (first_bar locks t) (drop_more needs i d low) ∙ here.0, here.1)

  -- so that is the first of all, where those before it aren't
  pub barred_first : (needs : List Need) (i holder : ℕ) (found : Option (ℕ × ℕ)) (place : ℕ)
      → found ≡ Some (place, holder) → i < length needs
      → IfSome found (λ f. IsFirstBar locks t (slice_range needs i (i + 1)) f.0 f.1)
      → first_bar locks t (drop i needs) ≡ first_bar locks t needs → IsBarredAt locks t needs i holder
  barred_first needs i holder found place is low some before =
      let first =
      subst (λ (o : Option (ℕ × ℕ)). IfSome o (λ f. IsFirstBar locks t (slice_range needs i (i + 1)) f.0 f.1)) is
      some in
      record {
        within = low;
        first = λ d.
            let bar : Bar = record { item = first.need.item; holder = holder } in
            let here = barred_at needs i d bar low first.first in
            sym before ∙ here.0 ∙ ap (λ (item : Item). bar_with item holder) here.1;
      }

  pub barred_past : (needs : List Need) (i : ℕ) → i < length needs
      → first_bar locks t (slice_range needs i (i + 1)) ≡ None
      → first_bar locks t (drop i needs) ≡ first_bar locks t (drop (i + 1) needs)
  barred_past needs i low is = ap (first_bar locks t) (drop_more needs i any_need low)
      ∙ first_past (get_or needs i any_need) (drop (i + 1) needs)
      (sym (ap (first_bar locks t) (one_of needs i any_need low)) ∙ is)

-- ---- whoever holds an item bars all from changing it

step : {A B : Type 0} (f : A → B) (n i d : Bool) (x : A) (found : Option A) (rest : Bool) → d ≡ true
    → is_some (option_map f found) ≡ rest → is_some (option_map f (cond (n && (i && d)) (Some x) found))
    ≡ ((n && i) || rest)
step f true true d x found rest on is = rw on refl
step f true false d x found rest on is = is
step f false i d x found rest on is = is

some_bar : (t : ℕ) (item : Item) (locks : List (Claim × Mode))
    → is_some (option_map (λ (lock : Claim × Mode). lock.0.by) (find (bars t (need item X)) locks))
    ≡ list_any (λ lock. not (lock.0.by == t) && is_item lock.0.item item) locks
some_bar t item [] = refl
some_bar t item (lock ∷ locks) = step (λ (l : Claim × Mode). l.0.by) (not (lock.0.by == t))
    (is_item lock.0.item item) (disagree lock.1 X) lock (find (bars t (need item X)) locks) _ (against_x lock.1)
    (some_bar t item locks)

some_first : (needed : Need) (o : Option ℕ) → is_some (unwrap_or (option_map (bar_at needed) o) None) ≡ is_some o
some_first needed None = refl
some_first needed (Some holder) = refl

pub held_is : (locks : Locks) (t : ℕ) (item : Item)
    → is_some (first_bar locks t (need item X ∷ [])) ≡ is_held_by_another locks t item
held_is locks t item = some_first (need item X) (barred_by locks t (need item X))
    ∙ some_bar t item (finite.entries locks)

-- a check tells whether any is barred
pub checked : (locks : Locks) (t : ℕ) (needs : List Need) (found : Option (ℕ × ℕ))
    → IfSome found (λ f. IsFirstBar locks t needs f.0 f.1) → IfNone found (first_bar locks t needs ≡ None)
    → is_some found ≡ is_some (first_bar locks t needs)
checked locks t needs None some none = ap is_some (sym none)
checked locks t needs (Some f) some none = ap is_some (sym some.first)
