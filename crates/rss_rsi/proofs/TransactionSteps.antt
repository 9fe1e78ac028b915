-- The calls on transactions: to which state each leads, and by which step it stops.
use Rattle.std.proofs.Common.{◌≡◌, ℕ, ◌+◌, ◌^◌, ◌<◌, ◌≤◌, true, List, [], length, refl, sym, ◌∙◌, ap, subst, arith, length-append}
use Rattle.std.specs.Prelude.{None, Ok, codes, decimal}
use Rattle.std.proofs.lemmas.Fmt.{length-decimal-le}
use Rattle.rss_base.specs.DiskRule.{IsTold, WritesIn}
use Rattle.rss_base.specs.Steps.{PagesView}
use Rattle.rss_base.specs.declared.call.Call.TheVariants.{Begin, Save, Restore, End, Abort, Checkpoint}
use Rattle.rss_base.specs.declared.answer.Reply.TheVariants.{Ok as Done, Number}
use Rattle.rss_base.specs.declared.root.Root.{Root}
use Rattle.rss_base.proofs.Moments.{writes_among}
use Rattle.rss_model.specs.Changes.{own}
use Rattle.rss_model.specs.Kept.{Kept, FitMixed}
use Rattle.rss_model.specs.Locks.{released}
use Rattle.rss_model.specs.Machine.{State}
use Rattle.rss_model.specs.Meter.{end_size}
use Rattle.rss_model.specs.Refusals.{unless_saved}
use Rattle.rss_model.specs.ReplyText.{answer_line}
use Rattle.rss_model.specs.Rules.{saved_now, if_no_log_room}
use Rattle.rss_model.specs.Scans.{closed}
use Rattle.rss_model.specs.Steps.{Step, refusal, unless_open, begun, with_save, restored, gone, ended, committing, left_at, undone_to}
use Rattle.rss_model.specs.Steps.StepBy.{begins, saves, restores, ends, aborts, checkpoints}
use Rattle.rss_stored.specs.Turns.{IsStopped}
use Rattle.rss_model.proofs.StepKeeping.{steps_keep}
use Rattle.rss_model.proofs.Tests.{goes_on}
use Rattle.rss_model.proofs.Transfer.{undo_same}
use Rattle.rss_scan.specs.Scans.{closed_for}
use Rattle.rss_rsi.proofs.Spelled.{closed_scans, still_scans}
use Rattle.rss_trans.specs.Transactions.{is_open, transaction_in}
use Rattle.rss_trans.proofs.Told.{open_saves}
use Rattle.rss_store.specs.Commits.{IsEndPlace, new_pieces, selector as at_selector, root as at_root, piece as at_piece}
use Rattle.rss_session.specs.Admissions.{Says}
use Rattle.rss_session.specs.Calls.{Appends, KeepsTables, CommitsTables, HasMarks, Restores, Aborts}
use Rattle.rss_lock.specs.declared.locks.Locks.{Locks as LockTable}
use Rattle.rss_session.specs.Sessions.{SessionView}
use Rattle.rss_session.specs.declared.session.Session.{Session}
use Rattle.rss_session.specs.Shown.{Shows}
use Rattle.rss_rsi.specs.Views.{RssParts, AreScans, IsIn}
use Rattle.rss_rsi.specs.Saving.{HasCheckpointOf}
use Rattle.rss_rsi.proofs.Ways.{SameHeld, ScanTable, rss_parts, Leads, LeadsAll, stopped_by, leads_by, leads_held, keeps_same}

-- an open transaction has the save points that are listed
has_marks : {view : SessionView} {state : State} (t : ℕ) → is_open view.opened t ≡ true → Shows view state → HasMarks state t (transaction_in view.opened t).saves
has_marks t opened shows = open_saves shows.told t opened

-- ---- begins and save points

pub begin_leads : (old new : RssParts) (t : ℕ) → new.session.store ≡ old.session.store → SameHeld old new → Says old.session (λ state. refusal state (Begin t)) None → ((state : State) → Shows old.session state → Shows new.session (begun t state)) → LeadsAll old new (Begin t) (Ok Done)
begin_leads old new t same held passes begins_so told state is_in =
    leads_held (begun t state) (keeps_same old.session new.session same) told is_in (begins t (passes told state is_in.shows)) (begins_so state is_in.shows) held refl refl refl

pub number_line : (n : ℕ) → n < 2 ^ 32 → length (answer_line (Ok (Number n))) ≤ 8192
number_line n small =
    let short = length-decimal-le 10 n (omega arith) (omega (arith, small)) (omega (arith, small)) in
    omega (arith, short, length-append (decimal n) (codes "\n"))

-- the save point's number is one more than the transaction had
pub save_leads : (old new : RssParts) (t save : ℕ) → is_open old.session.opened t ≡ true → new.session.store ≡ old.session.store → SameHeld old new → Says old.session (λ state. unless_open state t) None
    → ((state : State) (marks : List ℕ) → HasMarks state t marks → Shows old.session state → (save ≡ length marks + 1) × Shows new.session (with_save t marks state)) → LeadsAll old new (Save t) (Ok (Number save))
save_leads old new t save opened same held passes saves_so told state is_in =
    let marks = (transaction_in old.session.opened t).saves in
    let has = has_marks t opened is_in.shows in
    let so = saves_so state marks has is_in.shows in
    subst (λ (n : ℕ). Leads old new state (Save t) (Ok (Number n))) (sym so.0)
    (leads_held (with_save t marks state) (keeps_same old.session new.session same) told is_in (saves t marks (goes_on [] (passes told state is_in.shows)) has) so.1 held refl refl refl)

-- ---- ways back

module _ (old new : RssParts) (t save : ℕ) (opened : is_open old.session.opened t ≡ true) (passes : Says old.session (λ state. unless_open state t) None) (saved : Says old.session (λ state. unless_saved state t save) None) (keeps : KeepsTables old.session new.session) where
  abbrev marks : List ℕ
  marks = (transaction_in old.session.opened t).saves

  restore_passes : IsTold old.session.store.pages.disk → (state : State) → Shows old.session state → refusal state (Restore t save) ≡ None
  restore_passes told state shows = goes_on _ (passes told state shows) ∙ goes_on [] (saved told state shows)

  pub restore_stops : IsTold old.session.store.pages.disk → (state : State) → IsIn old state → IsStopped old.session.store.pages.disk new.session.store.pages.disk state (Restore t save)
  restore_stops told state is_in =
      let over = state.meter.over in
      stopped_by new keeps told is_in (record {
        answer = Ok Done;
        next = restored t save marks over state;
        step = restores t save marks over (restore_passes told state is_in.shows) (has_marks t opened is_in.shows) (undo_same _ (undone_to state t (left_at marks save)) over);
      })

  pub restore_leads : SameHeld old new → (IsTold old.session.store.pages.disk → (state : State) (marks : List ℕ) → Kept state → HasMarks state t marks → Shows old.session state → Restores new.session state t save marks) → LeadsAll old new (Restore t save) (Ok Done)
  restore_leads held restores_so told state is_in =
      let has = has_marks t opened is_in.shows in
      let so = restores_so told state marks is_in.kept has is_in.shows in
      let next = restored t save marks so.over state in
      let step : Step state (Restore t save) (Ok Done) next = restores t save marks so.over (restore_passes told state is_in.shows) has so.way in
      leads_held next keeps told is_in step (so.shows (steps_keep state next (Restore t save) (Ok Done) step is_in.kept).fit) held refl refl refl

module _ (old new : RssParts) (t : ℕ) (passes : Says old.session (λ state. unless_open state t) None) where
  abort_passes : IsTold old.session.store.pages.disk → (state : State) → Shows old.session state → refusal state (Abort t) ≡ None
  abort_passes told state shows = goes_on [] (passes told state shows)

  pub abort_stops : KeepsTables old.session new.session → IsTold old.session.store.pages.disk → (state : State) → IsIn old state → IsStopped old.session.store.pages.disk new.session.store.pages.disk state (Abort t)
  abort_stops keeps told state is_in =
      let over = state.meter.over in
      stopped_by new keeps told is_in (record {
        answer = Ok Done;
        next = gone t over state;
        step = aborts t over (abort_passes told state is_in.shows) (undo_same _ (own t state.changes) over);
      })

  -- the locks of a transaction that is gone are released
  released_so : new.locks.locks ≡ released t old.locks.locks → {state : State} → IsIn old state → released t state.locks ≡ new.locks.locks
  released_so locks is_in = ap (released t) is_in.locked ∙ sym locks

  -- and its scans are closed
  closed_so : new.scans ≡ closed_for t old.scans → {state : State} → IsIn old state → AreScans state.base.definitions (closed t state.scans) new.scans
  closed_so scans {state = state} is_in = still_scans scans refl (closed_scans t is_in.scanned)

  pub abort_leads : new.locks.locks ≡ released t old.locks.locks → new.scans ≡ closed_for t old.scans → KeepsTables old.session new.session → (IsTold old.session.store.pages.disk → (state : State) → Kept state → Shows old.session state → Aborts new.session state t) → LeadsAll old new (Abort t) (Ok Done)
  abort_leads locks scans keeps aborts_so told state is_in =
      let so = aborts_so told state is_in.kept is_in.shows in
      let next = gone t so.over state in
      let step : Step state (Abort t) (Ok Done) next = aborts t so.over (abort_passes told state is_in.shows) so.way in
      leads_by next keeps told is_in step (so.shows (steps_keep state next (Abort t) (Ok Done) step is_in.kept).fit) (released_so locks is_in) (closed_so scans is_in)

  -- ---- an end

  end_step : IsTold old.session.store.pages.disk → (state : State) → Shows old.session state → Step state (End t) (Ok Done) (ended t state)
  end_step told state shows = ends t (goes_on [] (passes told state shows))

  end_fits : IsTold old.session.store.pages.disk → (state : State) → IsIn old state → FitMixed (committing t state)
  end_fits told state is_in = (steps_keep state (ended t state) (End t) (Ok Done) (end_step told state is_in.shows) is_in.kept).fit

  module _ (commits : CommitsTables old.session new.session t) where
    pub end_stops : IsTold old.session.store.pages.disk → (state : State) → IsIn old state → IsStopped old.session.store.pages.disk new.session.store.pages.disk state (End t)
    end_stops told state is_in = record {
      answer = Ok Done;
      next = ended t state;
      answered = record { step = end_step told state is_in.shows; moments = commits told state is_in.kept (end_fits told state is_in) is_in.shows };
    }

    pub end_leads : new.locks.locks ≡ released t old.locks.locks → new.scans ≡ closed_for t old.scans → (IsTold old.session.store.pages.disk → (state : State) → Kept state → FitMixed (committing t state) → Shows old.session state → Shows new.session (committing t state)) → LeadsAll old new (End t) (Ok Done)
    end_leads locks scans commits_so told state is_in =
        let fits = end_fits told state is_in in
        record {
          next = ended t state;
          step = end_step told state is_in.shows;
          shows = commits_so told state is_in.kept fits is_in.shows;
          locked = released_so locks is_in;
          scanned = closed_so scans is_in;
          moments = commits told state is_in.kept fits is_in.shows;
        }

-- an end that comes no later has no other places
end_places_grow : {number : ℕ} {root : Root} {end later : ℕ} → end ≤ later → (q : ℕ) → IsEndPlace number root end q → IsEndPlace number root later q
end_places_grow grows q (at_selector is) = at_selector is
end_places_grow grows q (at_root is) = at_root is
end_places_grow grows q (at_piece piece) = at_piece (record { index = piece.index; low = piece.low; high = omega (arith, piece.high, grows); is = piece.is })

-- it writes no more than it may
pub end_writes : (old new : SessionView) → WritesIn (IsEndPlace old.store.number old.store.root new.store.log.end) old.store.pages.disk new.store.pages.disk → new.store.pages.writes ≤ old.store.pages.writes + new_pieces old.store.root (old.store.log.end + end_size) + 2 → Appends end_size old new
    → WritesIn (IsEndPlace old.store.number old.store.root (old.store.log.end + end_size)) old.store.pages.disk new.store.pages.disk × (new.store.pages.writes ≤ old.store.pages.writes + (new_pieces old.store.root (old.store.log.end + end_size) + 2))
end_writes old new only writes appends = (writes_among (end_places_grow appends) only, omega (arith, writes))

-- ---- checkpoints

module _ (old new : RssParts) (passes : Says old.session if_no_log_room None) (keeps : KeepsTables old.session new.session) where
  checkpoint_step : IsTold old.session.store.pages.disk → (state : State) → Shows old.session state → Step state Checkpoint (Ok Done) (record state { meter = saved_now state })
  checkpoint_step told state shows = checkpoints (goes_on [] (passes told state shows))

  pub checkpoint_stops : IsTold old.session.store.pages.disk → (state : State) → IsIn old state → IsStopped old.session.store.pages.disk new.session.store.pages.disk state Checkpoint
  checkpoint_stops told state is_in =
      stopped_by new keeps told is_in (record { answer = Ok Done; next = record state { meter = saved_now state }; step = checkpoint_step told state is_in.shows })

  pub checkpoint_leads : SameHeld old new → (IsTold old.session.store.pages.disk → (state : State) → Kept state → Shows old.session state → Shows new.session (record state { meter = saved_now state })) → LeadsAll old new Checkpoint (Ok Done)
  checkpoint_leads held saves_so told state is_in =
      leads_held _ keeps told is_in (checkpoint_step told state is_in.shows) (saves_so told state is_in.kept is_in.shows) held refl refl refl

-- it was taken of the engine as it was before the call was counted
pub checkpoint_asked : {S : Type 0} (pages_view : S → PagesView) {old mid : Session S} {locks now : LockTable} {scans scans_now : ScanTable} {new : RssParts} → mid ≡ old → now ≡ locks → scans_now ≡ scans → HasCheckpointOf (rss_parts pages_view mid now scans_now) new → HasCheckpointOf (rss_parts pages_view old locks scans) new
checkpoint_asked pages_view {new = new} same same_locks same_scans = subst (λ (parts : RssParts). HasCheckpointOf parts new) (λ i. rss_parts pages_view (same i) (same_locks i) (same_scans i))
