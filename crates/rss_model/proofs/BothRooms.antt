-- By the exact rule there is always room, for all pages and in the log.
use Rattle.std.proofs.Common.{◌≡◌, ℕ, ◌+◌, ◌*◌, ◌≤◌, Bool, true, List, [], ◌∷◌, length, sym, ◌∙◌, ap, subst, arith}
use Rattle.std.specs.Prelude.{Some, None, Ok, if◌then◌else◌}
use Rattle.std.proofs.lemmas.Bool.{le-ltb}
use Rattle.std.proofs.lemmas.List.{length-map}
use Rattle.rss_base.specs.declared.answer.Reply.TheVariants.{Ok as Done}
use Rattle.rss_base.specs.declared.refusal.Refusal.TheVariants.{LogFull}
use Rattle.rss_model.specs.Changes.{Change, maker, own, theirs, kept_to, cut_off}
use Rattle.rss_model.specs.Meter.{Stamp, change_size, restore_size, end_size, owed, free_between, log_room, least_position, checkpoint_size, changers, counted}
use Rattle.rss_model.specs.Machine.{State}
use Rattle.rss_model.specs.Rules.{saved_now, meter_behind, if_no_log_room}
use Rattle.rss_model.specs.Steps.{is_open, stamp_by, size_for, left_at, undone_to, redefined}
use Rattle.rss_model.specs.Steps.StepBy.{defines}
use Rattle.rss_model.specs.Kept.{IsMetered}
use Rattle.rss_model.specs.Ruled.{IsRuled, HasBothRooms, SavingFirstPasses, ChangesKeepRooms, CheckpointsKeepRooms, CheckpointsPassAtRest, RestoresKeepRooms, AbortsKeepRooms, EndsKeepRooms, DefinitionsKeepRooms, ChangesFitLog, WaysBackFitLog, EndsFitLog, CheckpointsFitLog}
use Rattle.rss_model.proofs.Mixing.{each_of}
use Rattle.rss_model.proofs.Stamps.{kept_and_cut, alike_kept}
use Rattle.rss_model.proofs.Changers.{more_changers, fewer_changers, changers_few, made_by, no_stamps}
use Rattle.rss_model.proofs.Ruling.{says_rightly, lets_through}
use Rattle.rss_model.proofs.Redefining.{none_open}
use Rattle.rss_model.proofs.StepKeeping.{none_changed}
use Rattle.rss_model.proofs.Metering.{kept_none, cut_all}
use Rattle.rss_model.proofs.RoomKeeping.{says_behind, lt_not, metered_from, metered_checkpoint, metered_restore, metered_abort, metered_committing}
use Rattle.rss_model.proofs.DefinitionKeeping.{steps_keep_room}

-- ---- a change

-- what is owed behind a record that fits
log_behind : (log_pages size : ℕ) (stamps : List Stamp) (head end : ℕ) → size + owed stamps ≤ free_between log_pages head end → owed stamps ≤ free_between log_pages head (end + size)
log_behind log_pages size stamps head end fits = omega (arith, fits)

pub changes_keep_rooms : ChangesKeepRooms
changes_keep_rooms state change over locks metered is may_lead =
    let may = lets_through state change is in
    record {
      metered = metered_from state change over locks (meter_behind state change) (says_behind state change metered) may.pages may_lead;
      log = log_behind state.size.log_pages (change_size state.base.definitions change) (counted state.base.definitions change over (meter_behind state change)).stamps (meter_behind state change).head (meter_behind state change).end may.log;
    }

pub changes_fit_log : ChangesFitLog
changes_fit_log state change is = let log = (lets_through state change is).log in omega (arith, log)

-- ---- a checkpoint

pub checkpoints_keep_rooms : CheckpointsKeepRooms
checkpoints_keep_rooms state metered is = record {
  metered = metered_checkpoint state metered;
  log = lt_not (log_room state.size.log_pages (saved_now state)) (owed state.meter.stamps) _ is;
}

-- a log with no changes has room enough behind a checkpoint
log_at_rest : (log_pages end : ℕ) (stamps : List Stamp) → 8 ≤ log_pages → stamps ≡ [] → owed stamps ≤ free_between log_pages (least_position end stamps) (end + checkpoint_size (changers stamps))
log_at_rest log_pages end stamps many is =
    subst (λ (l : List Stamp). owed l ≤ free_between log_pages (least_position end l) (end + checkpoint_size (changers l))) (sym is) (omega (arith, many))

rests : (state : State) → IsMetered state → state.changes ≡ [] → 8 ≤ state.size.log_pages → owed state.meter.stamps ≤ log_room state.size.log_pages (saved_now state)
rests state metered none many = log_at_rest state.size.log_pages state.meter.end state.meter.stamps many (no_stamps state.meter.stamps state.changes metered.makers none)

passes : (state : State) → owed state.meter.stamps ≤ log_room state.size.log_pages (saved_now state) → if_no_log_room state ≡ None
passes state room = ap (λ (b : Bool). if b then Some (LogFull (log_room state.size.log_pages (saved_now state)) (owed state.meter.stamps)) else None) (le-ltb _ _ room)

pub checkpoints_pass_at_rest : CheckpointsPassAtRest
checkpoints_pass_at_rest state metered none many = passes state (rests state metered none many)

pub saving_first_passes : SavingFirstPasses
saving_first_passes state change is =
    let log = (subst (IsRuled state change) is (says_rightly state change)).1.log in
    passes state (omega (arith, log, more_changers (record { by = change.by; at = (saved_now state).end }) state.meter.stamps))

pub checkpoints_fit_log : CheckpointsFitLog
checkpoints_fit_log state kept rooms =
    let opened = made_by (λ t. is_open state t ≡ true) state.meter.stamps state.changes rooms.metered.makers (λ c is. each_of (λ (d : Change). is_open state d.by ≡ true) state.changes kept.opened c is) in
    let few = kept.few in
    let log = rooms.log in
    omega (arith, few, log, changers_few state.marks state.meter.stamps opened)

-- ---- ways back, and ends

size_of_record : (cut : List Change) (size : ℕ) → size ≤ restore_size → size_for cut size ≤ restore_size * length cut
size_of_record [] size le = omega arith
size_of_record (c ∷ cs) size le = omega (arith, le)

module _ (state : State) (metered : IsMetered state) (size : ℕ) (small : size ≤ restore_size) where
  as_many : length state.meter.stamps ≡ length state.changes
  as_many = sym (length-map state.meter.stamps stamp_by) ∙ ap length metered.makers ∙ length-map state.changes maker

  kept_alike : (t n : ℕ) → length (kept_to stamp_by t n state.meter.stamps) ≡ length (kept_to maker t n state.changes)
  kept_alike t n = sym (length-map (kept_to stamp_by t n state.meter.stamps) stamp_by) ∙ ap length (alike_kept stamp_by maker state.meter.stamps state.changes metered.makers t n) ∙ length-map (kept_to maker t n state.changes) maker

  -- what goes pays for its record
  owed_less : (t n : ℕ) → owed (kept_to stamp_by t n state.meter.stamps) + size_for (cut_off maker t n state.changes) size ≤ owed state.meter.stamps
  owed_less t n = omega (arith, as_many, kept_alike t n, kept_and_cut maker t n state.changes, size_of_record (cut_off maker t n state.changes) size small, fewer_changers t n state.meter.stamps)

  owed_gone : (t : ℕ) → owed (theirs stamp_by t state.meter.stamps) + size_for (own t state.changes) size ≤ owed state.meter.stamps
  owed_gone t =
      subst (λ (l : List Stamp). owed l + size_for (own t state.changes) size ≤ owed state.meter.stamps) (kept_none stamp_by t state.meter.stamps)
      (subst (λ (l : List Change). owed (kept_to stamp_by t 0 state.meter.stamps) + size_for l size ≤ owed state.meter.stamps) (cut_all t state.changes) (owed_less t 0))

-- behind a record that was paid for
log_paid : (log_pages size before : ℕ) (stamps : List Stamp) (head end : ℕ) → owed stamps + size ≤ before → before ≤ free_between log_pages head end → owed stamps ≤ free_between log_pages head (end + size)
log_paid log_pages size before stamps head end paid room = omega (arith, paid, room)

pub restores_keep_rooms : RestoresKeepRooms
restores_keep_rooms state t save marks over kept rooms undo = record {
  metered = metered_restore state kept rooms.metered t save marks over undo;
  log = log_paid state.size.log_pages (size_for (undone_to state t (left_at marks save)) restore_size) (owed state.meter.stamps) (kept_to stamp_by t (left_at marks save) state.meter.stamps) state.meter.head state.meter.end
      (owed_less state rooms.metered restore_size (omega arith) t (left_at marks save)) rooms.log;
}

log_gone : (state : State) (t : ℕ) → HasBothRooms state → owed (theirs stamp_by t state.meter.stamps) ≤ free_between state.size.log_pages state.meter.head (state.meter.end + size_for (own t state.changes) end_size)
log_gone state t rooms = log_paid state.size.log_pages (size_for (own t state.changes) end_size) (owed state.meter.stamps) (theirs stamp_by t state.meter.stamps) state.meter.head state.meter.end
    (owed_gone state rooms.metered end_size (omega arith) t) rooms.log

pub aborts_keep_rooms : AbortsKeepRooms
aborts_keep_rooms state t over kept rooms undo = record {
  metered = metered_abort state kept rooms.metered t over undo;
  log = log_gone state t rooms;
}

pub ends_keep_rooms : EndsKeepRooms
ends_keep_rooms state t kept rooms = record {
  metered = metered_committing state kept rooms.metered t;
  log = log_gone state t rooms;
}

pub ways_back_fit_log : WaysBackFitLog
ways_back_fit_log state t left rooms = let log = rooms.log in omega (arith, log, owed_less state rooms.metered restore_size (omega arith) t left)

pub ends_fit_log : EndsFitLog
ends_fit_log state t rooms = let log = rooms.log in omega (arith, log, owed_gone state rooms.metered end_size (omega arith) t)

-- ---- a definition

pub definitions_keep_rooms : DefinitionsKeepRooms
definitions_keep_rooms state call next kept metered many is names so = record {
  metered = steps_keep_room state (redefined next state) call (Ok Done) (defines call next is names so) kept metered;
  log = rests state metered (none_changed kept (none_open state call next is so)) many;
}
