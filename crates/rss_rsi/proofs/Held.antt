-- What other transactions hold, asked for by a need that disagrees with every mode.
use Rattle.std.proofs.Common.{◌≡◌, ◌≢◌, ℕ, [], ◌∷◌, Option, Some, None, refl, sym, ◌∙◌, ap, subst}
use Rattle.std.specs.Prelude.{is_some, option_map, unwrap_or, IfSome, IfNone}
use Rattle.std.proofs.lemmas.Bool.{false_from_ne_true}
use Rattle.rss_base.specs.declared.item.Item.{Item}
use Rattle.rss_base.specs.declared.need.Mode.TheVariants.{X}
use Rattle.rss_base.specs.declared.need.Need.{Need}
use Rattle.rss_lock.specs.Locks.{IsFirstBar}
use Rattle.rss_lock.specs.Table.{Modes, Bars, Holds, IsLeastOf}
use Rattle.rss_lock.proofs.Barring.{some_held}
use Rattle.rss_lock.proofs.Firsts.{held_by_another, least_bars, none_unbarred}
use Rattle.rss_model.specs.Locks.{Bar, Locks, held, barred_by, first_bar, is_held_by_another}
use Rattle.rss_model.specs.Needs.{need}

module _ (locks : Locks) (t : ℕ) (item : Item) where
  abbrev modes : Modes
  modes = held locks

  says : (u : ℕ) (other : Item) → held locks u other ≡ modes u other
  says u other = refl

  -- who else holds it bars the need
  other_bars : (u : ℕ) → u ≢ t → Holds modes item u → Bars modes t (need item X) u
  other_bars u another holds =
      let disagrees = some_held modes item u (modes u item) refl holds in
      record { another = another; held = disagrees.held; holds = disagrees.holds; disagrees = disagrees.disagrees }

  barred_held : (found : Option ℕ) → barred_by locks t (need item X) ≡ found → is_some found ≡ is_held_by_another locks t item
  barred_held None is = sym (false_from_ne_true _ (λ any.
      let other = (held_by_another locks modes says t item).0 any in
      none_unbarred locks modes says t (need item X) is other.other (other_bars other.other other.another other.holds)))
  barred_held (Some holder) is =
      let least = subst (IsLeastOf (Bars modes t (need item X))) is (least_bars locks modes says t (need item X)) in
      sym ((held_by_another locks modes says t item).1 (record { other = holder; another = least.here.another; holds = ap is_some least.here.holds }))

  -- the first bar of one need
  abbrev bar_of : Need → ℕ → Option Bar
  bar_of one holder = Some (record { item = one.item; holder = holder })

  one_free : (one : Need) (found : Option ℕ) → unwrap_or (option_map (bar_of one) found) None ≡ None → found ≡ None
  one_free one None is = refl
  one_free one (Some holder) is = absurd (cc)

  one_barred : (one : Need) (found : Option ℕ) {bar : Bar} → unwrap_or (option_map (bar_of one) found) None ≡ Some bar → (holder : ℕ) × (found ≡ Some holder)
  one_barred one None is = absurd (cc)
  one_barred one (Some holder) is = (holder, refl)

  -- a check of such a need finds whether another transaction holds the item
  pub check_held : (one : Need) (found : Option (ℕ × ℕ)) → one ≡ need item X → IfSome found (λ f. IsFirstBar locks t (one ∷ []) f.0 f.1) → IfNone found (first_bar locks t (one ∷ []) ≡ None) → is_some found ≡ is_held_by_another locks t item
  check_held one None is some none = barred_held None (ap (barred_by locks t) (sym is) ∙ one_free one (barred_by locks t one) none)
  check_held one (Some found) is some none =
      let barred = one_barred one (barred_by locks t one) some.first in
      barred_held (Some barred.0) (ap (barred_by locks t) (sym is) ∙ barred.1)
