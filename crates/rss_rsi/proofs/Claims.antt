-- What is claimed and held, as the machine has it, and how a call ends whose claim fails.
use Rattle.std.proofs.Common.{◌≡◌, ℕ, true, List, [], ◌∷◌, ◌++◌, Option, Some, None, refl, sym, ◌∙◌, ap, subst}
use Rattle.std.specs.Prelude.{option_map, unwrap_or, Err}
use Rattle.std.proofs.lemmas.Option.{none-some}
use Rattle.rss_base.specs.DiskRule.{IsTold}
use Rattle.rss_base.specs.declared.answer.CallError.{CallError}
use Rattle.rss_base.specs.declared.answer.CallError.TheVariants.{Refused, Damaged, Device, NoMemory, Down}
use Rattle.rss_base.specs.declared.call.Call.{Call}
use Rattle.rss_base.specs.declared.item.Item.{Item}
use Rattle.rss_base.specs.declared.need.Mode.{Mode}
use Rattle.rss_base.specs.declared.need.Need.{Need}
use Rattle.rss_base.specs.declared.refusal.Refusal.{Refusal}
use Rattle.rss_lock.specs.Locks.{LocksView}
use Rattle.rss_lock.proofs.Firsts.{barred_is}
use Rattle.rss_model.specs.Callers.{caller}
use Rattle.rss_stored.specs.Calls.{GoesOn, IsCallOf}
use Rattle.rss_model.specs.Costs.{may_lack_memory}
use Rattle.rss_model.specs.Locks.{Bar, Locks, held, barred_by, first_bar, with_lock, granted}
use Rattle.rss_model.specs.Machine.{State, now}
use Rattle.rss_model.specs.Needs.{need, needs}
use Rattle.rss_model.specs.Refusals.{busy}
use Rattle.rss_model.specs.ReplyText.{IsShort}
use Rattle.rss_model.specs.Steps.{locked, locked_by, refusal}
use Rattle.rss_session.specs.Calls.{KeepsTables}
use Rattle.rss_session.specs.Shown.{Shows}
use Rattle.rss_rsi.specs.Locking.{IsClaimed, ClaimEnds}
use Rattle.rss_rsi.specs.Views.{RssParts, IsIn, engine_view}
use Rattle.rss_rsi.proofs.Ways.{SameHeld, left_same, lacks_behind, refused_behind}

-- ---- one need more

-- what nobody bars is behind all others no bar
pub first_bar_behind : (locks : Locks) (t : ℕ) (list : List Need) (last : Need) → barred_by locks t last ≡ None → first_bar locks t (list ++ last ∷ []) ≡ first_bar locks t list
first_bar_behind locks t [] last none = ap (λ (holder : Option ℕ). unwrap_or (option_map (λ h. Some (record { item = last.item; holder = h })) holder) None) none
first_bar_behind locks t (need ∷ list) last none = ap (unwrap_or (option_map (λ h. Some (record { item = need.item; holder = h })) (barred_by locks t need))) (first_bar_behind locks t list last none)

-- and where nobody bars any, nobody bars those before the last
pub free_front : (locks : Locks) (t : ℕ) (list : List Need) (last : Need) → first_bar locks t (list ++ last ∷ []) ≡ None → first_bar locks t list ≡ None
free_front locks t [] last none = refl
free_front locks t (need ∷ list) last none = by (barred_by locks t need) (first_bar locks t list) (first_bar locks t (list ++ last ∷ [])) none (free_front locks t list last)
  where
    by : (found : Option ℕ) (front all : Option Bar) → unwrap_or (option_map (λ h. Some (record { item = need.item; holder = h })) found) all ≡ None → (all ≡ None → front ≡ None) → unwrap_or (option_map (λ h. Some (record { item = need.item; holder = h })) found) front ≡ None
    by None front all is rest = rest is
    by (Some holder) front all is rest = absurd (cc (is))

pub granted_behind : (t : ℕ) (list : List Need) (last : Need) (locks : Locks) → granted t (list ++ last ∷ []) locks ≡ with_lock t last (granted t list locks)
granted_behind t [] last locks = refl
granted_behind t (need ∷ list) last locks = granted_behind t list last (with_lock t need locks)

-- nobody bars a transaction from what no other holds
pub none_bars : (locks : Locks) (t : ℕ) (item : Item) (mode : Mode) → ((u : ℕ) → (u ≡ t → ⊥) → held locks u item ≡ None) → barred_by locks t (need item mode) ≡ None
none_bars locks t item mode alone = barred_is locks (held locks) (λ u i. refl) t (need item mode) None (λ other bars. none-some bars.held (sym (alone other bars.another) ∙ bars.holds))

-- ---- what the machine says of the needs

module _ {parts : RssParts} {state : State} (is_in : IsIn parts state) (call : Call) {list : List Need} (listed : needs (now state) call ≡ list) where
  -- who bars the transaction
  pub bars_as : (t : ℕ) → first_bar state.locks t (needs (now state) call) ≡ first_bar parts.locks.locks t list
  bars_as t i = first_bar (is_in.locked i) t (listed i)

  -- what it holds then
  pub grants_as : (t : ℕ) → granted t (needs (now state) call) state.locks ≡ granted t list parts.locks.locks
  grants_as t i = granted t (listed i) (is_in.locked i)

  pub locked_as : (t : ℕ) → caller call ≡ Some t → (locked call state).locks ≡ granted t list parts.locks.locks
  locked_as t by = ap (λ (c : Option ℕ). (locked_by c call state).locks) by ∙ grants_as t

-- what was claimed behind a look, which changed no lock
pub claimed_from : {t : ℕ} {list : List Need} (old mid new : LocksView) → mid.locks ≡ old.locks → IsClaimed mid new t list → IsClaimed old new t list
claimed_from {t = t} {list = list} old mid new same claimed = record {
  free = ap (λ (locks : Locks). first_bar locks t list) (sym same) ∙ claimed.free;
  room = claimed.room;
  same = claimed.same ∙ same;
}

-- what was claimed is free still
pub claimed_free : {t : ℕ} {list : List Need} (old new : LocksView) → IsClaimed old new t list → first_bar new.locks t list ≡ None
claimed_free {t = t} {list = list} old new claimed = ap (λ (locks : Locks). first_bar locks t list) claimed.same ∙ claimed.free

-- a call whose locks are claimed has its needs free
pub free_as : {old : RssParts} {new : LocksView} {state : State} {t : ℕ} {list : List Need} → IsIn old state → (call : Call) → needs (now state) call ≡ list → IsClaimed old.locks new t list → first_bar state.locks t (needs (now state) call) ≡ None
free_as {t = t} is_in call listed claimed = bars_as is_in call listed t ∙ claimed.free

-- ---- a claim that fails

module _ {old new : RssParts} {n m : ℕ} {up up_now : Type 0} {call : Call} (may : may_lack_memory call ≡ true) (was_up : up) (is_up : up_now) (goes : GoesOn (engine_view old n up) (engine_view new m up_now) call) (keeps : KeepsTables old.session new.session)
    (shows : IsTold old.session.store.pages.disk → (state : State) → Shows old.session state → Shows new.session state) (same : SameHeld old new) where
  -- another transaction holds what is needed, or memory runs out
  pub claim_fails : (T : Type 0) (before after : LocksView) (t : ℕ) (list : List Need) {why : CallError} → before.locks ≡ old.locks.locks
      → (IsTold old.session.store.pages.disk → (state : State) → IsIn old state → (bar : Bar) → first_bar old.locks.locks t list ≡ Some bar → refusal state call ≡ Some (busy bar))
      → ClaimEnds {T = T} before after t list (Err why) → IsCallOf (engine_view old n up) (engine_view new m up_now) call (Err why)
  claim_fails T before after t list {why = why} were bars ends = by why ends
    where
      by : (why : CallError) → ClaimEnds {T = T} before after t list (Err why) → IsCallOf (engine_view old n up) (engine_view new m up_now) call (Err why)
      by (Refused why) is = subst (λ (w : Refusal). IsCallOf (engine_view old n up) (engine_view new m up_now) call (Err (Refused w))) (sym is.is)
          (refused_behind _ refl was_up is_up (subst (λ (w : Refusal). IsShort (Err w)) is.is is.short) goes keeps same.scans (λ told state is_in. (
            bars told state is_in is.bar (ap (λ (locks : Locks). first_bar locks t list) (sym were) ∙ is.first),
            shows told state is_in.shows,
            left_same call (busy is.bar) refl is_in ∙ sym same.locks,
          )))
      by NoMemory is = lacks_behind may was_up is_up goes keeps shows same
      by Device is = absurd is
      by (Damaged place) is = absurd is
      by Down is = absurd is
