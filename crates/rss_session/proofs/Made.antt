-- A change behind a checkpoint.
use Rattle.std.proofs.Common.{◌≡◌, ℕ, ◌+◌, ◌≤◌, Bool, true, false, ◌∷◌, length, refl, sym, ◌∙◌, ap, subst, arith}
use Rattle.std.specs.Prelude.{is_some, nat_lt, nat_le, if◌then◌else◌, Option, Result, Ok, Err}
use Rattle.std.specs.FinMap as finite
use Rattle.std.proofs.lemmas.Bool.{true≢false}
use Rattle.std.proofs.lemmas.Bool.Decides.{nat_tests}
use Rattle.rss_base.specs.LogRecords.{record_size}
use Rattle.rss_base.specs.Listings.{Listing}
use Rattle.rss_base.specs.declared.change.Change as told
use Rattle.rss_base.specs.declared.log_record.LogRecord.TheVariants as records
use Rattle.rss_base.specs.declared.refusal.Refusal.{Refusal}
use Rattle.rss_log.specs.Logs.{free_of}
use Rattle.rss_model.specs.Changes.{Change}
use Rattle.rss_stored.specs.LogLaws.{IsToldBy}
use Rattle.rss_model.specs.Machine.{State}
use Rattle.rss_model.specs.Meter.{counted, free_between, change_size}
use Rattle.rss_model.specs.Rules.{saved_now, goes_on, meter_behind}
use Rattle.rss_model.specs.Ruled.{ruled}
use Rattle.rss_stored.proofs.Listed.{fields_listed}
use Rattle.rss_stored.proofs.LogCounting.{change_told_size}
use Rattle.rss_model.proofs.LogLists.{by_test}
use Rattle.rss_model.proofs.Ruling.{behind}
use Rattle.rss_trans.specs.Told.{IsNumbered}
use Rattle.rss_trans.specs.Transactions.{is_open, transaction_in}
use Rattle.rss_trans.proofs.Told.{done}
use Rattle.rss_store.specs.Changing.{MayMake}
use Rattle.rss_session.specs.Changes.{relation_told}
use Rattle.rss_session.specs.Sessions.{SessionView, IsReady, sums_in}
use Rattle.rss_session.specs.Shown.{Shows}
use Rattle.rss_session.specs.Weighing as weighing
use Rattle.rss_session.specs.Weighing.{weighed, saved_room_with, saved_free, needed_with, changers_with}
use Rattle.rss_session.specs.Calls.{CountsAnew, MakesOne}
use Rattle.rss_session.proofs.Changed.{numbered_told}
use Rattle.rss_session.proofs.Noted.{weighed_on}
use Rattle.rss_session.proofs.Outcomes.{goes_on_so}
use Rattle.rss_session.proofs.Traffic.{images_anew}
use Rattle.rss_session.proofs.Weighed.{goes_on_right}

-- ---- what was weighed

-- it doesn't go on as it is, and it does behind a checkpoint
pub record GoesSaved (view : SessionView) (t : ℕ) (number : Option ℕ) (size : ℕ) : Type 0 where
  pub off : weighing.goes_on view t number size ≡ false
  pub room : saved_room_with view number ≤ view.store.root.slots
  pub log : needed_with view t size ≤ saved_free view

saved_so : (full fits : Bool) (one two : Refusal) → (if full then Err one else (if fits then Ok true else Err two)) ≡ Ok true → (full ≡ false) × (fits ≡ true)
saved_so true fits one two is = absurd (cc (is))
saved_so false true one two is = (refl, refl)
saved_so false false one two is = absurd (cc (is))

pub weighed_saves : (view : SessionView) (t : ℕ) (number : Option ℕ) (size : ℕ) → weighed view t number size ≡ Ok true → GoesSaved view t number size
weighed_saves view t number size is = by_test (weighing.goes_on view t number size)
    (λ on. absurd (true≢false (sym (inside (rw on at is)))))
    (λ off. by off (saved_so _ _ _ _ (rw off at is)))
  where
    inside : ◌≡◌ {A = Result Bool Refusal} (Ok false) (Ok true) → false ≡ true
    inside e = cc (e)

    by : weighing.goes_on view t number size ≡ false → (nat_lt view.store.root.slots (saved_room_with view number) ≡ false) × (nat_le (needed_with view t size) (saved_free view) ≡ true) → GoesSaved view t number size
    by off both = let full = both.0 in let fits = both.1 in record { off = off; room = grind (arith, nat_tests); log = grind (arith, nat_tests) }

-- ---- behind the checkpoint

module _ {old new : SessionView} (anew : CountsAnew old new) (slots : new.store.root.slots ≡ old.store.root.slots) (t : ℕ) where
  same_opened : transaction_in new.opened t ≡ transaction_in old.opened t
  same_opened = ap (λ m. done (finite.get m t)) anew.transactions

  pub still_open : is_open old.opened t ≡ true → is_open new.opened t ≡ true
  still_open is = ap (λ m. is_some (finite.get m t)) anew.transactions ∙ is

  p_same : (sums_in new.opened).p ≡ (sums_in old.opened).p
  p_same = ap (λ m. (sums_in (record old.opened { transactions = m })).p) anew.transactions

  q_same : (sums_in new.opened).q ≡ (sums_in old.opened).q
  q_same = ap (λ m. (sums_in (record old.opened { transactions = m })).q) anew.transactions

  changers_same : changers_with new.opened t ≡ changers_with old.opened t
  changers_same = λ i. if nat_lt 0 (length (same_opened i).changes) then q_same i else q_same i + 1

  -- it goes on as it is
  pub weighed_again : (number : Option ℕ) (size : ℕ) → weighed old t number size ≡ Ok true → weighed new t number size ≡ Ok false
  weighed_again number size is =
      let goes = weighed_saves old t number size is in
      let free : free_of new.store.log ≡ saved_free old = λ i. free_between (anew.pages i) (anew.head i) (anew.end i) in
      sym (goes_on_so new t number size
      (omega (arith, goes.room, slots, anew.heap, anew.surviving, anew.since, images_anew old new anew.listing anew.since_of anew.entries anew.survived number))
      (omega (arith, goes.log, free, p_same, changers_same)))

module _ {old mid : SessionView} {told_change : told.Change} {t : ℕ} (anew : CountsAnew old mid) (ready : IsReady old) (ready_mid : IsReady mid) (saves : weighed old t (relation_told told_change) (record_size (records.Change t told_change)) ≡ Ok true) (goes : weighed mid t (relation_told told_change) (record_size (records.Change t told_change)) ≡ Ok false)
    (state : State) (change : Change) (by : change.by ≡ t) (shows : Shows old state) (may : MayMake old.store state told_change change) (shows_mid : Shows mid (record state { meter = saved_now state })) where
  abbrev saved : State
  saved = record state { meter = saved_now state }

  pub may_then : MayMake mid.store saved told_change change
  may_then = record {
    told = subst (λ (l : Listing). IsToldBy l told_change change) (sym anew.listing) may.told;
    finds = may.finds;
    alone = may.alone;
    mixed = may.mixed;
  }

  size_is : change_size state.base.definitions change ≡ record_size (records.Change change.by told_change)
  size_is = sym (change_told_size old.store.catalog.listing state.base.definitions (fields_listed shows.store.spells.listed shows.store.spells.defines) change.by told_change change may.told.tells may.told.means)

  its : IsNumbered old.store.catalog.listing change.item (relation_told told_change)
  its = numbered_told old.store.catalog.listing change.by change told_change may.told.tells may.told.means

  off : goes_on state change ≡ false
  off =
      goes_on_right old state change (relation_told told_change) (record_size (records.Change change.by told_change)) ready shows its size_is
      ∙ (weighed_saves old change.by (relation_told told_change) (record_size (records.Change change.by told_change)) (subst (λ (u : ℕ). weighed old u (relation_told told_change) (record_size (records.Change u told_change)) ≡ Ok true) (sym by) saves)).off

  on : goes_on saved change ≡ true
  on =
      goes_on_right mid saved change (relation_told told_change) (record_size (records.Change change.by told_change)) ready_mid shows_mid
      (subst (λ (l : Listing). IsNumbered l change.item (relation_told told_change)) (sym anew.listing) its) size_is
      ∙ weighed_on mid change.by (relation_told told_change) (record_size (records.Change change.by told_change)) (subst (λ (u : ℕ). weighed mid u (relation_told told_change) (record_size (records.Change u told_change)) ≡ Ok false) (sym by) goes)

  meters : meter_behind saved change ≡ meter_behind state change
  meters = ap (behind saved) on ∙ sym (ap (behind state) off)

  ruled_same : (over : ℕ) → ruled change over saved ≡ ruled change over state
  ruled_same over = λ i. record state { changes = change ∷ state.changes; meter = counted state.base.definitions change over (meters i) }

  pub makes_then : {new : SessionView} → MakesOne new saved change → MakesOne new state change
  makes_then {new = new} made = record {
    over = made.over;
    allowed = made.allowed;
    shows = subst (Shows new) (ruled_same made.over) made.shows;
  }
