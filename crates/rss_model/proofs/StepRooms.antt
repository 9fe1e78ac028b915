-- By the exact rule each step of each call leaves room, for all pages and in the log.
use Rattle.std.proofs.Common.{ℕ, ◌≤◌, Bool, true, false, List, ap, arith}
use Rattle.std.specs.Prelude.{Option, Some, None, option_map, if◌then◌else◌}
use Rattle.rss_base.specs.declared.value.Value.{Value}
use Rattle.rss_base.specs.declared.item.Item.{Item}
use Rattle.rss_base.specs.declared.item.Item.TheVariants.{Tuple}
use Rattle.rss_base.specs.declared.call.Call.{Call}
use Rattle.rss_base.specs.declared.need.Mode.TheVariants.{X}
use Rattle.rss_base.specs.declared.call.Call.TheVariants.{Insert, Update, Delete, Connect, Disconnect, Checkpoint}
use Rattle.rss_model.specs.Items.{Content}
use Rattle.rss_model.specs.Locks.{granted, with_lock}
use Rattle.rss_model.specs.Scans.{Scan, new_scan}
use Rattle.rss_model.specs.Callers.{caller}
use Rattle.rss_model.specs.Needs.{need, needs}
use Rattle.rss_model.specs.Refusals.{tests, insertion, replacement, deletion, connection, disconnection, values_in}
use Rattle.rss_model.specs.Meter.{counted}
use Rattle.rss_model.specs.Machine.{State, now}
use Rattle.rss_model.specs.Steps.StepBy.{refuses, begins, saves, restores, ends, aborts, inserts, fetches, updates, deletes, connects, disconnects, finds, finds_none, opens, gives, stops, closes, locks as locks_it, checkpoints, defines}
use Rattle.rss_model.specs.Steps.{Answer, Step, keeps_locks, locked_by, with_scan}
use Rattle.rss_model.specs.Kept.{Kept}
use Rattle.rss_model.proofs.Testing.{all_none}
use Rattle.rss_base.specs.Sizes.{log_pages_least}
use Rattle.rss_model.specs.Kept.{HasLogRoom}
use Rattle.rss_model.specs.Ruled.{HasBothRooms, StepsKeepRooms}
use Rattle.rss_model.proofs.RoomKeeping.{let_through}
use Rattle.rss_model.proofs.BothRooms.{changes_keep_rooms, checkpoints_keep_rooms, restores_keep_rooms, aborts_keep_rooms, ends_keep_rooms, definitions_keep_rooms}
use Rattle.rss_model.proofs.DefinitionKeeping.{steps_keep_room}

log_left : (keeps : Bool) (by : Option ℕ) (call : Call) (old : State) → HasLogRoom old → HasLogRoom (if keeps then locked_by by call old else old)
log_left true None call old log = log
log_left true (Some t) call old log = log
log_left false by call old log = log

log_scan : (by : Option ℕ) (call : Call) (old : State) (number : ℕ) (scan : Scan) → HasLogRoom old → HasLogRoom (with_scan number scan (locked_by by call old))
log_scan None call old number scan log = log
log_scan (Some t) call old number scan log = log

log_by : (old new : State) (call : Call) (answer : Answer) → Step old call answer new → log_pages_least ≤ old.size.log_pages → Kept old → HasBothRooms old → HasLogRoom new
log_by old _ _ _ (refuses call why is) many kept rooms = log_left (keeps_locks why) (caller call) call old rooms.log
log_by old _ _ _ (begins t is) many kept rooms = rooms.log
log_by old _ _ _ (saves t marks is has) many kept rooms = rooms.log
log_by old _ _ _ (restores t save marks over is has undo) many kept rooms = (restores_keep_rooms old t save marks over kept rooms undo).log
log_by old _ _ _ (ends t is) many kept rooms = (ends_keep_rooms old t kept rooms).log
log_by old _ _ _ (aborts t over is undo) many kept rooms = (aborts_keep_rooms old t over kept rooms undo).log
log_by old _ _ _ (inserts t relation values tid over is free counted) many kept rooms =
    (changes_keep_rooms old (insertion t relation tid values) over (with_lock t (need (Tuple relation tid) X) (granted t (needs (now old) (Insert t relation values)) old.locks)) rooms.metered (all_none (tests old (Insert t relation values)) is 7 None (omega arith)) counted).log
log_by old _ _ _ (fetches t relation tid values is found) many kept rooms = rooms.log
log_by old _ _ _ (updates t relation tid was values over is found counted) many kept rooms =
    (changes_keep_rooms old (replacement t relation tid was values) over (granted t (needs (now old) (Update t relation tid values)) old.locks) rooms.metered
    (let_through old (Update t relation tid values) (replacement t relation tid was values) (ap (λ (o : Option Content). option_map (λ (w : List Value). replacement t relation tid w values) (values_in o)) found) (all_none (tests old (Update t relation tid values)) is 6 None (omega arith))) counted).log
log_by old _ _ _ (deletes t relation tid was over is found counted) many kept rooms =
    (changes_keep_rooms old (deletion t relation tid was) over (granted t (needs (now old) (Delete t relation tid)) old.locks) rooms.metered
    (let_through old (Delete t relation tid) (deletion t relation tid was) (ap (λ (o : Option Content). option_map (deletion t relation tid) (values_in o)) found) (all_none (tests old (Delete t relation tid)) is 5 None (omega arith))) counted).log
log_by old _ _ _ (connects t link child parent spot over is counted) many kept rooms =
    (changes_keep_rooms old (connection old t link child parent spot) over (granted t (needs (now old) (Connect t link child parent spot)) old.locks) rooms.metered (all_none (tests old (Connect t link child parent spot)) is 7 None (omega arith)) counted).log
log_by old _ _ _ (disconnects t link child item over is found counted) many kept rooms =
    (changes_keep_rooms old (disconnection old t item child) over (granted t (needs (now old) (Disconnect t link child)) old.locks) rooms.metered
    (let_through old (Disconnect t link child) (disconnection old t item child) (ap (option_map (λ (i : Item). disconnection old t i child)) found) (all_none (tests old (Disconnect t link child)) is 5 None (omega arith))) counted).log
log_by old _ _ _ (finds t link child parent item is has under) many kept rooms = rooms.log
log_by old _ _ _ (finds_none t link child is none) many kept rooms = rooms.log
log_by old _ _ _ (opens call t number path is by along low free) many kept rooms = log_scan (caller call) call old number (new_scan t path) rooms.log
log_by old _ _ _ (gives t number scan given values is has next) many kept rooms = rooms.log
log_by old _ _ _ (stops t number scan is has next) many kept rooms = rooms.log
log_by old _ _ _ (closes t number is) many kept rooms = rooms.log
log_by old _ _ _ (locks_it t item exclusive is granule) many kept rooms = rooms.log
log_by old _ _ _ (checkpoints is) many kept rooms = (checkpoints_keep_rooms old rooms.metered (all_none (tests old Checkpoint) is 0 None (omega arith))).log
log_by old _ _ _ (defines call definitions is names so) many kept rooms = (definitions_keep_rooms old call definitions kept rooms.metered many is names so).log

pub steps_keep_rooms : StepsKeepRooms
steps_keep_rooms old new call answer step many kept rooms = record {
  metered = steps_keep_room old new call answer step kept rooms.metered;
  log = log_by old new call answer step many kept rooms;
}
