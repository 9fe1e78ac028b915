-- The call that locks a segment or a relation: what it is refused for, and the step that it makes.
use Rattle.std.proofs.Common.{◌≡◌, ℕ, ◌+◌, List, [], Some, None, refl, sym, ◌∙◌, ap, subst, arith}
use Rattle.std.specs.Prelude.{Bool, true, false, option_map, Ok, Err, Result, IsErrAnd}
use Rattle.std.proofs.lemmas.Result.{err_from_is_err_and}
use Rattle.rss_base.specs.declared.answer.CallError.{CallError}
use Rattle.rss_base.specs.declared.answer.CallError.TheVariants.{Refused}
use Rattle.rss_base.specs.declared.answer.Reply.{Reply}
use Rattle.rss_base.specs.declared.answer.Reply.TheVariants.{Ok as Done}
use Rattle.rss_base.specs.declared.call.Call.TheVariants.{Lock}
use Rattle.rss_base.specs.declared.item.Item.{Item}
use Rattle.rss_base.specs.declared.item.Item.TheVariants.{Segment, Relation, Tuple, Chain, Key}
use Rattle.rss_base.specs.declared.need.Need.{Need}
use Rattle.rss_base.specs.declared.refusal.Kind.TheVariants.{Segment as SegmentKind, Relation as RelationKind}
use Rattle.rss_base.specs.declared.refusal.Refusal.{Refusal}
use Rattle.rss_base.specs.declared.refusal.Refusal.TheVariants.{NoTransaction, NoSuch}
use Rattle.rss_lock.specs.Locks.{LocksView}
use Rattle.rss_stored.specs.Calls.{IsCallOf}
use Rattle.rss_model.specs.Defining.{IsGranule, refused_unless, is_segment, is_relation}
use Rattle.rss_model.specs.Locks.{granted}
use Rattle.rss_model.specs.Machine.{State, is_open}
use Rattle.rss_model.specs.Needs.{lock_needs}
use Rattle.rss_model.specs.Refusals.{busy, unless_granule}
use Rattle.rss_model.specs.Steps.{keeps_locks, locked, unless_open}
use Rattle.rss_model.specs.Steps.StepBy.{locks}
use Rattle.rss_stored.proofs.Endings.{comes_to}
use Rattle.rss_model.proofs.Tests.{goes_on, refuses_at}
use Rattle.rss_session.specs.Admissions.{Says, Refuses}
use Rattle.rss_session.specs.Shown.{Shows}
use Rattle.rss_session.specs.Sessions.{SessionView}
use Rattle.rss_rsi.specs.Locking.{Lists, IsClaimed, ClaimEnds}
use Rattle.rss_rsi.specs.Views.{RssParts, engine_view}
use Rattle.rss_rsi.proofs.Claims.{bars_as, locked_as, free_as, claim_fails}
use Rattle.rss_rsi.proofs.Spelled.{still_scans}
use Rattle.rss_rsi.proofs.Ways.{SameHeld, answers, goes_nowhere, keeps_same, leads_by, refused_early, shows_locked}

-- ---- refusals that keep no locks

pub unless_keeps : (holds : Bool) (other : Refusal) {why : Refusal} → keeps_locks other ≡ false → refused_unless holds other ≡ Some why → keeps_locks why ≡ false
unless_keeps true other none is = absurd (cc)
unless_keeps false other none is = let same : other ≡ _ = cc in ap keeps_locks (sym same) ∙ none

granule_keeps : (state : State) (item : Item) {why : Refusal} → unless_granule state item ≡ Some why → keeps_locks why ≡ false
granule_keeps state (Segment name) is = unless_keeps (is_segment state name) (NoSuch SegmentKind) refl is
granule_keeps state (Relation name) is = unless_keeps (is_relation state name) (NoSuch RelationKind) refl is
granule_keeps state (Tuple relation tid) is = absurd (cc)
granule_keeps state (Chain link parent) is = absurd (cc)
granule_keeps state (Key image values) is = absurd (cc)

-- ---- ends

pub store_same : (parts new : RssParts) → new.session ≡ parts.session → new.session.store ≡ parts.session.store
store_same parts new same = ap (λ (session : SessionView). session.store) same

module _ {parts : RssParts} (t : ℕ) (item : Item) (exclusive : Bool) {n m : ℕ} {up up_now : Type 0} (was_up : up) (is_up : up_now) (calls : m ≡ n + 1) where
  -- its transaction isn't open
  pub lock_unopened : {why : Refusal} (result : Result Reply CallError) → IsErrAnd result (λ e. e ≡ Refused why) → Refuses parts.session (λ state. unless_open state t) why
      → IsCallOf (engine_view parts n up) (engine_view parts m up_now) (Lock t item exclusive) result
  lock_unopened result is bad = refused_early result is was_up is_up calls bad.1 (λ told state shows. (
    refuses_at _ (bad.0 told state shows),
    unless_keeps (is_open state t) NoTransaction refl (bad.0 told state shows),
  ))

  module _ (opened : Says parts.session (λ state. unless_open state t) None) where
    -- there is no such segment or relation
    pub lock_undefined : {why : Refusal} (result : Result Reply CallError) → IsErrAnd result (λ e. e ≡ Refused why) → Refuses parts.session (λ state. unless_granule state item) why
        → IsCallOf (engine_view parts n up) (engine_view parts m up_now) (Lock t item exclusive) result
    lock_undefined result is bad = refused_early result is was_up is_up calls bad.1 (λ told state shows. (
      goes_on _ (opened told state shows) ∙ refuses_at _ (bad.0 told state shows),
      granule_keeps state item (bad.0 told state shows),
    ))

    module _ (defined : Says parts.session (λ state. unless_granule state item) None) {list : List Need} (listed : Lists parts (λ tables. lock_needs tables item exclusive) list) {new : RssParts} (same : new.session ≡ parts.session) where
      -- another transaction holds one of them, or memory runs out
      pub lock_unclaimed : (why : CallError) (result : Result Reply CallError) → IsErrAnd result (λ e. e ≡ why) → (T : Type 0) (before after : LocksView) → before.locks ≡ parts.locks.locks → SameHeld parts new → ClaimEnds {T = T} before after t list (Err why)
          → IsCallOf (engine_view parts n up) (engine_view new m up_now) (Lock t item exclusive) result
      lock_unclaimed why result is T before after were held ends =
          let so = err_from_is_err_and result is in
          subst (IsCallOf (engine_view parts n up) (engine_view new m up_now) (Lock t item exclusive)) (sym (so.1 ∙ ap Err so.2))
          (claim_fails refl was_up is_up (goes_nowhere (Lock t item exclusive) (store_same parts new same) calls) (keeps_same parts.session new.session (store_same parts new same)) (λ told state. subst (λ (session : SessionView). Shows session state) (sym same)) held
          T before after t list were (λ told state is_in bar barred.
          goes_on _ (opened told state is_in.shows) ∙ goes_on _ (defined told state is_in.shows)
          ∙ refuses_at [] (ap (option_map busy) (bars_as is_in (Lock t item exclusive) (listed told state is_in) t ∙ barred)))
          ends)

      -- or it holds all of them
      pub lock_holds : IsGranule item → (claimed : LocksView) → IsClaimed parts.locks claimed t list → new.locks.locks ≡ granted t list claimed.locks → new.scans ≡ parts.scans
          → IsCallOf (engine_view parts n up) (engine_view new m up_now) (Lock t item exclusive) (Ok Done)
      lock_holds granule claimed free taken scans = comes_to was_up (goes_nowhere (Lock t item exclusive) (store_same parts new same) calls) (answers is_up (omega arith) (λ told state is_in. tt) (λ told state is_in.
          let list_is = listed told state is_in in
          leads_by (locked (Lock t item exclusive) state) (keeps_same parts.session new.session (store_same parts new same)) told is_in
          (locks t item exclusive
          (goes_on _ (opened told state is_in.shows) ∙ goes_on _ (defined told state is_in.shows) ∙ goes_on [] (ap (option_map busy) (free_as is_in (Lock t item exclusive) list_is free)))
          granule)
          (shows_locked _ (subst (λ (session : SessionView). Shows session state) (sym same) is_in.shows))
          (locked_as is_in (Lock t item exclusive) list_is t refl ∙ ap (granted t list) (sym free.same) ∙ sym taken)
          (still_scans scans refl is_in.scanned)))
