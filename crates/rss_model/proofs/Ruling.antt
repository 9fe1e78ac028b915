-- The exact rule: what comes of a change by it.
use Rattle.std.proofs.Common.{◌≡◌, ℕ, ◌<◌, Bool, true, false, nat_le, refl, sym, ◌∙◌, ap, subst, arith}
use Rattle.std.specs.Prelude.{Some, None, nat_lt, if◌then◌else◌}
use Rattle.std.proofs.lemmas.Bool.{and_parts, and_from, ltb-true, ltb-false, leb-true, leb-false, lt-ltb, le-ltb, le-leb, lt-leb}
use Rattle.rss_base.specs.declared.refusal.Refusal.{Refusal}
use Rattle.rss_model.specs.Changes.{Change}
use Rattle.rss_model.specs.Meter.{Meter, log_room}
use Rattle.rss_model.specs.Machine.{State}
use Rattle.rss_model.specs.Rules.{Verdict, GoesOn, SavesFirst, NoRoom, NoLogRoom, saved_now, room_with, log_needed, fits_log, goes_on, after_saving, ruling, refusal_by}
use Rattle.rss_model.specs.Kept.{IsMetered}
use Rattle.rss_model.specs.Ruled.{MayBeMade, IsRuled, RulingIsExact, RulingLetsThrough, MeterFollows, SavedGoesOn}
use Rattle.rss_model.proofs.LogLists.{by_test, false_true}
use Rattle.rss_model.proofs.Saving.{saves}

-- ---- what the rule says

module _ (state : State) (change : Change) where
  abbrev room_behind : ℕ
  room_behind = room_with state change (saved_now state)

  abbrev free_behind : ℕ
  free_behind = log_room state.size.log_pages (saved_now state)

  abbrev needed_behind : ℕ
  needed_behind = log_needed state.base.definitions change (saved_now state)

  made_where : (meter : Meter) → nat_le (room_with state change meter) state.size.slots ≡ true → fits_log state change meter ≡ true → MayBeMade state change meter
  made_where meter pages log = record { pages = leb-true _ _ pages; log = leb-true _ _ log }

  may_now : goes_on state change ≡ true → MayBeMade state change state.meter
  may_now is = let parts = and_parts _ _ is in made_where state.meter parts.0 parts.1

  now_may : MayBeMade state change state.meter → goes_on state change ≡ true
  now_may may = and_from _ _ (le-leb _ _ may.pages) (le-leb _ _ may.log)

  not_now : goes_on state change ≡ false → MayBeMade state change state.meter → ⊥
  not_now is may = false_true (now_may may) is

  off_now : (MayBeMade state change state.meter → ⊥) → goes_on state change ≡ false
  off_now off = by_test (goes_on state change) (λ e. absurd (off (may_now e))) (λ e. e)

  -- each way of the rule

  rule_goes : goes_on state change ≡ true → ruling state change ≡ GoesOn
  rule_goes on = ap (λ (b : Bool). if b then GoesOn else after_saving state change) on

  rule_off : goes_on state change ≡ false → ruling state change ≡ after_saving state change
  rule_off off = ap (λ (b : Bool). if b then GoesOn else after_saving state change) off

  abbrev logged : Bool → Verdict
  logged fits = if fits then SavesFirst else NoLogRoom free_behind needed_behind

  abbrev asked : Bool → Verdict
  asked full = if full then NoRoom state.size.slots room_behind else logged (fits_log state change (saved_now state))

  rule_full : goes_on state change ≡ false → nat_lt state.size.slots room_behind ≡ true → ruling state change ≡ NoRoom state.size.slots room_behind
  rule_full off full = rule_off off ∙ ap asked full

  rule_saves : goes_on state change ≡ false → nat_lt state.size.slots room_behind ≡ false → fits_log state change (saved_now state) ≡ true → ruling state change ≡ SavesFirst
  rule_saves off room fits = rule_off off ∙ ap asked room ∙ ap logged fits

  rule_log : goes_on state change ≡ false → nat_lt state.size.slots room_behind ≡ false → fits_log state change (saved_now state) ≡ false → ruling state change ≡ NoLogRoom free_behind needed_behind
  rule_log off room fits = rule_off off ∙ ap asked room ∙ ap logged fits

  by_rule : {G : Type 0} → (goes_on state change ≡ true → G) → (goes_on state change ≡ false → nat_lt state.size.slots room_behind ≡ true → G)
      → (goes_on state change ≡ false → nat_lt state.size.slots room_behind ≡ false → fits_log state change (saved_now state) ≡ true → G)
      → (goes_on state change ≡ false → nat_lt state.size.slots room_behind ≡ false → fits_log state change (saved_now state) ≡ false → G) → G
  by_rule goes full saves log = by_test (goes_on state change) goes
      (λ off. by_test (nat_lt state.size.slots room_behind) (full off)
      (λ room. by_test (fits_log state change (saved_now state)) (saves off room) (log off room)))

  pub says_rightly : IsRuled state change (ruling state change)
  says_rightly = by_rule
      (λ on. subst (IsRuled state change) (sym (rule_goes on)) (may_now on))
      (λ off full. subst (IsRuled state change) (sym (rule_full off full)) (record { slots_are = refl; needed_is = refl; beyond = ltb-true _ _ full }))
      (λ off room fits. subst (IsRuled state change) (sym (rule_saves off room fits)) (not_now off, record { pages = ltb-false _ _ room; log = leb-true _ _ fits }))
      (λ off room fits. subst (IsRuled state change) (sym (rule_log off room fits)) (record { off = not_now off; pages = ltb-false _ _ room; free_is = refl; needed_is = refl; beyond = leb-false _ _ fits }))

  module _ (metered : IsMetered state) where
    off_where_full : state.size.slots < room_behind → MayBeMade state change state.meter → ⊥
    off_where_full beyond may = let pages = may.pages in omega (arith, beyond, pages, saves state change metered)

    says_all : (v : Verdict) → IsRuled state change v → ruling state change ≡ v
    says_all GoesOn is = rule_goes (now_may is)
    says_all SavesFirst is = let log = is.1.log in let pages = is.1.pages in rule_saves (off_now is.0) (le-ltb _ _ pages) (le-leb _ _ log)
    says_all (NoRoom slots needed) is =
        let beyond : state.size.slots < room_behind = subst (λ (n : ℕ). n < room_behind) is.slots_are (subst (λ (n : ℕ). slots < n) is.needed_is is.beyond) in
        rule_full (off_now (off_where_full beyond)) (lt-ltb _ _ beyond)
        ∙ ap (λ (n : ℕ). NoRoom n room_behind) (sym is.slots_are) ∙ ap (λ (n : ℕ). NoRoom slots n) (sym is.needed_is)
    says_all (NoLogRoom free needed) is =
        let pages = is.pages in
        let beyond : free_behind < needed_behind = subst (λ (n : ℕ). n < needed_behind) is.free_is (subst (λ (n : ℕ). free < n) is.needed_is is.beyond) in
        rule_log (off_now is.off) (le-ltb _ _ pages) (lt-leb _ _ beyond)
        ∙ ap (λ (n : ℕ). NoLogRoom n needed_behind) (sym is.free_is) ∙ ap (λ (n : ℕ). NoLogRoom free n) (sym is.needed_is)

pub ruling_is_exact : RulingIsExact
ruling_is_exact state change v metered = (λ is. subst (IsRuled state change) is (says_rightly state change), says_all state change metered v)

-- ---- a change

abbrev pub behind : State → Bool → Meter
behind state on = if on then state.meter else saved_now state

pub lets_through : RulingLetsThrough
lets_through state change is = by_rule state change
    (λ on. subst (MayBeMade state change) (sym (ap (behind state) on)) (may_now state change on))
    (λ off full. absurd (clash (sym (ap refusal_by (rule_full state change off full)) ∙ is)))
    (λ off room fits. subst (MayBeMade state change) (sym (ap (behind state) off)) (record { pages = ltb-false _ _ room; log = leb-true _ _ fits }))
    (λ off room fits. absurd (clash (sym (ap refusal_by (rule_log state change off room fits)) ∙ is)))
  where
    clash : {why : Refusal} → Some why ≡ None → ⊥
    clash e = cc (e)

pub meter_follows : MeterFollows
meter_follows state change = (
  λ is. by_rule state change
      (λ on. ap (behind state) on)
      (λ off full. let e = sym (rule_full state change off full) ∙ is in absurd (cc (e)))
      (λ off room fits. let e = sym (rule_saves state change off room fits) ∙ is in absurd (cc (e)))
      (λ off room fits. let e = sym (rule_log state change off room fits) ∙ is in absurd (cc (e))),
  λ is. by_test (goes_on state change)
      (λ on. let e = sym (rule_goes state change on) ∙ is in absurd (cc (e)))
      (λ off. ap (behind state) off),
)

pub saved_goes_on : SavedGoesOn
saved_goes_on state change is =
    let may = (subst (IsRuled state change) is (says_rightly state change)).1 in
    rule_goes (record state { meter = saved_now state }) change (now_may (record state { meter = saved_now state }) change (record { pages = may.pages; log = may.log }))
