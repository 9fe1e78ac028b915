-- What is told of a run stays told with a turn more.
use Rattle.std.proofs.Common.{◌≡◌, ◌⊎◌, inl, inr, ⊎_elim, ℕ, true, false, List, [], ◌∷◌, sym, ◌∙◌, ap, subst}
use Rattle.std.specs.Prelude.{Some, None, is_some}
use Rattle.std.specs.FinMap as finite
use Rattle.rss_base.specs.declared.name.Name.{Name}
use Rattle.rss_base.specs.declared.tid.Tid.{Tid}
use Rattle.rss_base.specs.declared.item.Item.{Item}
use Rattle.rss_base.specs.declared.item.Item.TheVariants.{Tuple}
use Rattle.rss_base.specs.declared.need.Mode.{Mode}
use Rattle.rss_base.specs.declared.need.Mode.TheVariants.{X}
use Rattle.rss_model.specs.Tables.{Contents, content, segment_of}
use Rattle.rss_model.specs.Changes.{Change}
use Rattle.rss_model.specs.Locks.{Locks, Holds}
use Rattle.rss_model.specs.Scans.{Scans}
use Rattle.rss_model.specs.Meter.{Meter}
use Rattle.rss_model.specs.Machine.{State}
use Rattle.rss_model.specs.Callers.{caller}
use Rattle.rss_model.specs.Steps.{IsFree}
use Rattle.rss_model.specs.Runs.{Turn}
use Rattle.rss_model.specs.Serial.{LoneStep, Part, Stays, part_of, stretch_from, stretch, stretch_of, kept_from, kept_turns}
use Rattle.rss_model.specs.Kept.{Kept}
use Rattle.rss_model.proofs.LogLists.{by_same, false_true}
use Rattle.rss_model.proofs.Mixing.{In}
use Rattle.rss_model.proofs.ChangeKeeping.{guards_of}
use Rattle.rss_model.proofs.EndKeeping.{after_none}
use Rattle.rss_model.proofs.Alone.{Marks, alone, shut, state_is}
use Rattle.rss_model.proofs.Steady.{Agrees, agrees_less}
use Rattle.rss_model.proofs.Transfer.{touched}
use Rattle.rss_model.proofs.Telling.{Lone, still, more, stretch_here, stretch_off, IsInsert, OwnOrNone, IdsHeld, base_with, RunsAlone, Told, alone_shut, Unseen, unseen_held, unseen_open, holds_by, NewAt, ids_other}

module _ {start : State} {h : List Turn} {s : State} (told : Told start h s) (t : ℕ) (turn : Turn) (by : caller turn.call ≡ Some t) where
  -- ---- it goes on

  module _ (changes : List Change) (marks : Marks) (locks : Locks) (scans : Scans) (meter : Meter)
      (part : part_of turn.call turn.answer ≡ Stays)
      (kept : Kept (record s { changes = changes; marks = marks; locks = locks; scans = scans; meter = meter }))
      (opened : is_some (finite.get marks t) ≡ true)
      (up : (i : Item) (m : Mode) → Holds s.locks t i m → Holds locks t i m)
      (unseen : (u : ℕ) → (u ≡ t → ⊥) → Unseen u s changes marks locks scans)
      (grown : (c : Change) → In c changes → In c s.changes ⊎ ((c.by ≡ t) × NewAt s t c))
      (inserted : (relation : Name) (tid : Tid) → IsInsert turn relation tid → Holds locks t (Tuple relation tid) X × IsFree s t relation tid)
      (transfer : (b : Contents) (m : Meter) → Agrees t locks s.base.definitions s.base.contents b
      → ((relation other : Name) (tid : Tid) → IsInsert turn relation tid → segment_of s.base other ≡ segment_of s.base relation → Holds locks t (Tuple other tid) X ⊎ (content b (Tuple other tid) ≡ None))
      → (later : Meter) × LoneStep (alone t b m s) turn.call turn.answer (alone t b later (record s { changes = changes; marks = marks; locks = locks; scans = scans; meter = meter }))) where
    abbrev new : State
    new = record s { changes = changes; marks = marks; locks = locks; scans = scans; meter = meter }

    longer : stretch t (turn ∷ h) ≡ turn ∷ stretch t h
    longer = stretch_here t turn h by ∙ ap (λ (p : Part). stretch_from p turn (stretch t h)) part

    -- of its own
    each_own : RunsAlone t (turn ∷ stretch t h) new
    each_own b m agrees free =
        let fewer = agrees_less {a = s.base.contents} {b = b} up agrees in
        let before = told.each t b m fewer (λ relation other tid is segment. ⊎_elim
        (λ hold. ⊎_elim (λ own. inl own) (λ none. inr (sym (agrees.items (Tuple other tid) X hold) ∙ none.0)) ((told.ids t relation tid is).1 other segment))
        (λ none. inr none) (free relation other tid (inr is) segment)) in
        let step = transfer b before.0 agrees (λ relation other tid is segment. free relation other tid (inl is) segment) in
        (step.0, more turn before.1 step.1)

    old_locks : (u : ℕ) → (u ≡ t → ⊥) → (i : Item) (m : Mode) → Holds locks u i m → Holds s.locks u i m
    old_locks u off = holds_by {a = locks} {b = s.locks} (unseen_held (unseen u off))

    new_locks : (u : ℕ) → (u ≡ t → ⊥) → (i : Item) (m : Mode) → Holds s.locks u i m → Holds locks u i m
    new_locks u off = holds_by {a = s.locks} {b = locks} (λ i. sym (unseen_held (unseen u off) i))

    -- of others
    each_other : (u : ℕ) → (u ≡ t → ⊥) → RunsAlone u (stretch u h) new
    each_other u off b m agrees free =
        let before = told.each u b m (agrees_less {a = s.base.contents} {b = b} (new_locks u off) agrees) (λ relation other tid is segment. ⊎_elim (λ hold. inl (old_locks u off (Tuple other tid) X hold)) (λ none. inr none) (free relation other tid is segment)) in
        let its = unseen u off in
        (before.0, subst (λ (y : State). Lone (shut s.size (base_with s b) m) (stretch u h) y) (sym (state_is s.size (base_with s b) before.0 its.same_changes its.same_marks its.same_locks its.same_scans)) before.1)

    guard : {i : Item} (c : Change) → In c s.changes → c.item ≡ i → Holds s.locks c.by i X
    guard c is at = subst (λ (k : Item). Holds s.locks c.by k X) at (guards_of told.kept c is).item

    new_guard : {i : Item} (c : Change) → In c changes → c.item ≡ i → Holds locks c.by i X
    new_guard c is at = subst (λ (k : Item). Holds locks c.by k X) at (guards_of kept c is).item

    -- what nobody had changed, and what is there of it with its own changes
    at_new : (i : Item) → content s.base.contents i ≡ None → ((c : Change) → In c s.changes → c.item ≡ i → ⊥) → OwnOrNone t new i
    at_new i none free = ⊎_elim
        (λ f. ⊎_elim (λ old. absurd (free f.0 old f.2)) (λ mine. inl (subst (λ (v : ℕ). Holds locks v i X) mine.0 (new_guard f.0 f.1 f.2))) (grown f.0 f.1))
        (λ f. inr (none, f))
        (touched i changes)

    ids_new : (relation : Name) (tid : Tid) → IsInsert turn relation tid → Holds locks t (Tuple relation tid) X × ((other : Name) → segment_of s.base other ≡ segment_of s.base relation → OwnOrNone t new (Tuple other tid))
    ids_new relation tid is =
        let its = inserted relation tid is in (
          its.0,
          λ other segment. ⊎_elim
              (λ f. by_same f.0.by t
              (λ e. inl (up (Tuple other tid) X (subst (λ (v : ℕ). Holds s.locks v (Tuple other tid) X) e (guard f.0 f.1 f.2))))
              (λ e. absurd (none_some (sym (its.1.alone other f.0.by segment e) ∙ (guard f.0 f.1 f.2).there))))
              (λ f. at_new (Tuple other tid) (sym (after_none s.base.contents (Tuple other tid) s.changes f) ∙ its.1.absent other segment) f)
              (touched (Tuple other tid) s.changes),
        )
      where
        none_some : {A : Type 0} {a : A} → None ≡ Some a → ⊥
        none_some e = cc (e)

    ids_own : IdsHeld t (turn ∷ stretch t h) new
    ids_own relation tid (inl is) = ids_new relation tid is
    ids_own relation tid (inr is) =
        let was = told.ids t relation tid is in
        (up (Tuple relation tid) X was.0, λ other segment. ⊎_elim (λ hold. inl (up (Tuple other tid) X hold)) (λ none. at_new (Tuple other tid) none.0 none.1) (was.1 other segment))

    ids_others : (u : ℕ) → (u ≡ t → ⊥) → IdsHeld u (stretch u h) new
    ids_others u off relation tid is =
        let was = told.ids u relation tid is in (
          new_locks u off (Tuple relation tid) X was.0,
          λ other segment. ⊎_elim
              (λ hold. inl (new_locks u off (Tuple other tid) X hold))
              (λ none. inr (none.0, λ c c_in at. ⊎_elim (λ old. none.1 c old at) (λ mine. ids_other s u t off relation other tid segment was.0 none.0 none.1 c mine.1 at) (grown c c_in)))
              (was.1 other segment),
        )

    pub goes_on : Told start (turn ∷ h) new
    goes_on = record {
      kept = kept;
      ended = (told.ended.0, subst (λ (l : List Turn). Lone start l (shut s.size s.base told.ended.0)) (sym (ap (λ (p : Part). kept_from p turn (stretch_of (caller turn.call) h) (kept_turns h)) part)) told.ended.1);
      idle = λ u closed. by_same u t
          (λ e. false_true (ap (λ (v : ℕ). is_some (finite.get marks v)) e ∙ opened) closed)
          (λ e. stretch_off u t turn h by e ∙ told.idle u (sym (unseen_open (unseen u e)) ∙ closed));
      each = λ u. by_same u t
          (λ e. subst (λ (v : ℕ). RunsAlone v (stretch v (turn ∷ h)) new) (sym e) (subst (λ (l : List Turn). RunsAlone t l new) (sym longer) each_own))
          (λ e. subst (λ (l : List Turn). RunsAlone u l new) (sym (stretch_off u t turn h by e)) (each_other u e));
      ids = λ u. by_same u t
          (λ e. subst (λ (v : ℕ). IdsHeld v (stretch v (turn ∷ h)) new) (sym e) (subst (λ (l : List Turn). IdsHeld t l new) (sym longer) ids_own))
          (λ e. subst (λ (l : List Turn). IdsHeld u l new) (sym (stretch_off u t turn h by e)) (ids_others u e));
    }

  -- ---- it ends, or goes

  module _ (contents : Contents) (changes : List Change) (marks : Marks) (locks : Locks) (scans : Scans) (meter : Meter)
      (emptied : stretch_from (part_of turn.call turn.answer) turn (stretch t h) ≡ [])
      (kept : Kept (record s { base = base_with s contents; changes = changes; marks = marks; locks = locks; scans = scans; meter = meter }))
      (closed : is_some (finite.get marks t) ≡ false)
      (unseen : (u : ℕ) → (u ≡ t → ⊥) → Unseen u s changes marks locks scans)
      (fewer : (c : Change) → In c changes → In c s.changes)
      (left : (i : Item) → ((c : Change) → In c s.changes → c.item ≡ i → ⊥) → content contents i ≡ content s.base.contents i)
      (agrees_on : (u : ℕ) → (u ≡ t → ⊥) → (b : Contents) → Agrees u s.locks s.base.definitions contents b → Agrees u s.locks s.base.definitions s.base.contents b)
      (ended : (m : Meter) × Lone start (kept_turns (turn ∷ h)) (shut s.size (base_with s contents) m)) where
    abbrev next : State
    next = record s { base = base_with s contents; changes = changes; marks = marks; locks = locks; scans = scans; meter = meter }

    empty : stretch t (turn ∷ h) ≡ []
    empty = stretch_here t turn h by ∙ emptied

    were : (u : ℕ) → (u ≡ t → ⊥) → (i : Item) (m : Mode) → Holds locks u i m → Holds s.locks u i m
    were u off = holds_by {a = locks} {b = s.locks} (unseen_held (unseen u off))

    are : (u : ℕ) → (u ≡ t → ⊥) → (i : Item) (m : Mode) → Holds s.locks u i m → Holds locks u i m
    are u off = holds_by {a = s.locks} {b = locks} (λ i. sym (unseen_held (unseen u off) i))

    each_none : RunsAlone t [] next
    each_none b m agrees free = (m, subst (λ (y : State). Lone (shut s.size (base_with s b) m) [] y) (sym (alone_shut kept t b m closed)) still)

    each_left : (u : ℕ) → (u ≡ t → ⊥) → RunsAlone u (stretch u h) next
    each_left u off b m agrees free =
        let before = told.each u b m (agrees_on u off b (agrees_less {a = contents} {b = b} (are u off) agrees)) (λ relation other tid is segment. ⊎_elim (λ hold. inl (were u off (Tuple other tid) X hold)) (λ none. inr none) (free relation other tid is segment)) in
        let its = unseen u off in
        (before.0, subst (λ (y : State). Lone (shut s.size (base_with s b) m) (stretch u h) y) (sym (state_is s.size (base_with s b) before.0 its.same_changes its.same_marks its.same_locks its.same_scans)) before.1)

    ids_left : (u : ℕ) → (u ≡ t → ⊥) → IdsHeld u (stretch u h) next
    ids_left u off relation tid is =
        let was = told.ids u relation tid is in (
          are u off (Tuple relation tid) X was.0,
          λ other segment. ⊎_elim
              (λ hold. inl (are u off (Tuple other tid) X hold))
              (λ none. inr (left (Tuple other tid) none.1 ∙ none.0, λ c c_in at. none.1 c (fewer c c_in) at))
              (was.1 other segment),
        )

    pub leaves : Told start (turn ∷ h) next
    leaves = record {
      kept = kept;
      ended = ended;
      idle = λ u shut_now. by_same u t
          (λ e. ap (λ (v : ℕ). stretch v (turn ∷ h)) e ∙ empty)
          (λ e. stretch_off u t turn h by e ∙ told.idle u (sym (unseen_open (unseen u e)) ∙ shut_now));
      each = λ u. by_same u t
          (λ e. subst (λ (v : ℕ). RunsAlone v (stretch v (turn ∷ h)) next) (sym e) (subst (λ (l : List Turn). RunsAlone t l next) (sym empty) each_none))
          (λ e. subst (λ (l : List Turn). RunsAlone u l next) (sym (stretch_off u t turn h by e)) (each_left u e));
      ids = λ u. by_same u t
          (λ e. subst (λ (v : ℕ). IdsHeld v (stretch v (turn ∷ h)) next) (sym e) (subst (λ (l : List Turn). IdsHeld t l next) (sym empty) (λ relation tid is. absurd is)))
          (λ e. subst (λ (l : List Turn). IdsHeld u l next) (sym (stretch_off u t turn h by e)) (ids_left u e));
    }

-- ---- it is left out

pub left_out : {start : State} {h : List Turn} {s : State} → Told start h s → (turn : Turn) → ((u : ℕ) → stretch u (turn ∷ h) ≡ stretch u h) → kept_turns (turn ∷ h) ≡ kept_turns h → Told start (turn ∷ h) s
left_out {start = start} {s = s} told turn same same_kept = record {
  kept = told.kept;
  ended = (told.ended.0, subst (λ (l : List Turn). Lone start l (shut s.size s.base told.ended.0)) (sym same_kept) told.ended.1);
  idle = λ u closed. same u ∙ told.idle u closed;
  each = λ u. subst (λ (l : List Turn). RunsAlone u l s) (sym (same u)) (told.each u);
  ids = λ u. subst (λ (l : List Turn). IdsHeld u l s) (sym (same u)) (told.ids u);
}
