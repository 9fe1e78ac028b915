-- Each step keeps what the meter says, where a definition does.
use Rattle.std.proofs.Common.{◌≡◌, ℕ, ◌+◌, ◌*◌, ◌≤◌, Bool, true, false, List, [], ◌∷◌, ◌++◌, length, sym, ◌∙◌, ap, subst, arith}
use Rattle.std.specs.Prelude.{Option, Some, None, is_some, option_map, option_and_then, min, nat_lt, if◌then◌else◌, map}
use Rattle.std.specs.FinMap as finite
use Rattle.std.proofs.lemmas.Bool.{ltb-false}
use Rattle.std.proofs.lemmas.List.Sums.{sum_by-cons, sum_by-le-sum_by}
use Rattle.rss_base.specs.declared.name.Name.{Name}
use Rattle.rss_base.specs.declared.value.Value.{Value}
use Rattle.rss_base.specs.declared.item.Item.{Item}
use Rattle.rss_base.specs.declared.item.Item.TheVariants.{Segment, Relation, Tuple, Chain, Key}
use Rattle.rss_base.specs.declared.refusal.Refusal.{Refusal}
use Rattle.rss_base.specs.declared.call.Call.{Call}
use Rattle.rss_base.specs.declared.need.Mode.TheVariants.{X}
use Rattle.rss_base.specs.declared.call.Call.TheVariants.{Insert, Fetch, Update, Delete, Connect, Disconnect, Parent, Lock}
use Rattle.rss_model.specs.Items.{Content}
use Rattle.rss_model.specs.Tables.{Tables, Definitions, Contents, tuple_count, is_tuple_of}
use Rattle.rss_model.specs.Changes.{Change, maker, own, theirs, kept_to, cut_off}
use Rattle.rss_model.specs.Locks.{Locks, granted, with_lock}
use Rattle.rss_model.specs.Scans.{Scan, Scans, new_scan}
use Rattle.rss_model.specs.Callers.{caller}
use Rattle.rss_model.specs.Needs.{need, needs}
use Rattle.rss_model.specs.Defining.{defined}
use Rattle.rss_model.specs.Refusals.{tests, insertion, replacement, deletion, connection, disconnection, values_in, change_of, if_full}
use Rattle.rss_model.specs.Meter.{Stamp, Meter, heap_pages, changes_of, change_size, restore_size, end_size, least_position, room_number, counts_for, counted, with_record, pages_of_image}
use Rattle.rss_model.specs.Machine.{State, now}
use Rattle.rss_model.specs.Rules.{saved_now, room_with, goes_on, if_no_room, meter_for, meter_behind}
use Rattle.rss_model.specs.Steps.StepBy.{refuses, begins, saves, restores, ends, aborts, inserts, fetches, updates, deletes, connects, disconnects, finds, finds_none, opens, gives, stops, closes, locks as locks_it, checkpoints, defines}
use Rattle.rss_model.specs.Steps.{Answer, Step, IsOver, refusal, redefined, keeps_locks, locked_by, own_count, with_scan, with_given, stamp_by, size_for, left_at, undone_to, changed, restored, gone, committing, ended, MayUndo}
use Rattle.rss_model.specs.Kept.{AreStamps, IsMetered, Kept}
use Rattle.rss_model.proofs.Alone.{Marks}
use Rattle.rss_model.proofs.Counts.{one_if, counts_same, counts_put}
use Rattle.rss_model.proofs.LogLists.{by_test}
use Rattle.rss_model.proofs.Stamps.{later_end, theirs_and_mine}
use Rattle.rss_model.proofs.Rooming.{one_test, lead_two}
use Rattle.rss_model.proofs.EndKeeping.{lone_kept, end_now}
use Rattle.rss_model.proofs.Transfer.{undo_same}
use Rattle.rss_model.proofs.Testing.{all_none}
use Rattle.rss_model.proofs.Saving.{more_pages}
use Rattle.rss_model.proofs.Ruling.{behind, lets_through}
use Rattle.rss_model.proofs.Metering.{kept_none, cut_all, cut_counts, makers, back_heap, back_tuples, back_positions}

-- with other save points, locks and scans
pub metered_same : {old : State} → IsMetered old → (marks : Marks) (locks : Locks) (scans : Scans) → IsMetered (record old { marks = marks; locks = locks; scans = scans })
metered_same metered marks locks scans = record { makers = metered.makers; positions = metered.positions; heap = metered.heap; tuples = metered.tuples; room = metered.room }

-- ---- a checkpoint

lower : (head less end : ℕ) (stamps : List Stamp) → less ≤ head → AreStamps head end stamps → AreStamps less end stamps
lower head less end [] le is = omega (arith, le, is)
lower head less end (x ∷ xs) le is = (is.0, lower head less x.at xs le is.1)

least_less : (a e : ℕ) (stamps : List Stamp) → min a (least_position e stamps) ≤ least_position a stamps
least_less a e [] = omega arith
least_less a e (x ∷ xs) = omega (arith, least_less a e xs)

least_stamps : (head end : ℕ) (stamps : List Stamp) → AreStamps head end stamps → AreStamps (least_position end stamps) end stamps
least_stamps head end [] is = omega arith
least_stamps head end (x ∷ xs) is = (is.0, lower (least_position x.at xs) (min x.at (least_position end xs)) x.at xs (least_less x.at end xs) (least_stamps head x.at xs is.1))

-- what a meter says of a state, but for the room
pub record Says (state : State) (meter : Meter) : Type 0 where
  pub stamped : map stamp_by meter.stamps ≡ map maker state.changes
  pub positions : AreStamps meter.head meter.end meter.stamps
  pub heap : heap_pages state.size.slots (now state) + state.meter.over + 2 * length state.changes ≤ meter.heap + 2 * meter.surviving + 4 * meter.since
  pub tuples : (relation : Name) → tuple_count (now state).contents relation + changes_of state.changes relation ≤ (meter.traffic relation).entries + (meter.traffic relation).surviving + 2 * (meter.traffic relation).since

says_now : (state : State) → IsMetered state → Says state state.meter
says_now state metered = record { stamped = metered.makers; positions = metered.positions; heap = metered.heap; tuples = metered.tuples }

pub says_saved : (state : State) → IsMetered state → Says state (saved_now state)
says_saved state metered = record {
  stamped = metered.makers;
  positions = later_end (least_position state.meter.end state.meter.stamps) state.meter.end (saved_now state).end state.meter.stamps (omega arith) (least_stamps state.meter.head state.meter.end state.meter.stamps metered.positions);
  heap = omega arith;
  tuples = λ relation. omega arith;
}

-- also from the meter that the exact rule says
pub says_behind : (state : State) (change : Change) → IsMetered state → Says state (meter_behind state change)
says_behind state change metered = by_test (goes_on state change)
    (λ on. subst (Says state) (sym (ap (behind state) on)) (says_now state metered))
    (λ off. subst (Says state) (sym (ap (behind state) off)) (says_saved state metered))

pub saved_room : (state : State) → IsMetered state → room_number state.base.definitions (saved_now state) ≤ room_number state.base.definitions state.meter
saved_room state metered =
    let images = sum_by-le-sum_by (pages_of_image state.base.definitions (saved_now state)) (pages_of_image state.base.definitions state.meter) (finite.values state.base.definitions.images)
    (λ image. more_pages _ ((saved_now state).traffic image.relation) (state.meter.traffic image.relation) (covers image.relation)) in
    omega (arith, images, metered.heap)
  where
    covers : (relation : Name) → ((saved_now state).traffic relation).entries + ((saved_now state).traffic relation).surviving + 2 * ((saved_now state).traffic relation).since ≤ (state.meter.traffic relation).entries + (state.meter.traffic relation).surviving + 2 * (state.meter.traffic relation).since
    covers relation = let held = metered.tuples relation in omega (arith, held)

pub lt_not : (a b : ℕ) (why : Refusal) → (if nat_lt a b then Some why else None) ≡ None → b ≤ a
lt_not a b why is = by_test (nat_lt a b)
    (λ e. absurd (clash (rw e at is)))
    (λ e. ltb-false a b e)
  where
    clash : Some why ≡ None → ⊥
    clash e = cc (e)

pub metered_checkpoint : (state : State) → IsMetered state → IsMetered (record state { meter = saved_now state })
metered_checkpoint state metered =
    let said = says_saved state metered in record {
      makers = said.stamped;
      positions = said.positions;
      heap = said.heap;
      tuples = said.tuples;
      room = omega (arith, saved_room state metered, metered.room);
    }

-- ---- a change

size_some : (definitions : Definitions) (c : Change) → 1 ≤ change_size definitions c
size_some definitions c = by c.by c.item c.old c.new
  where
    by : (u : ℕ) (item : Item) (old new : Option Content) → 1 ≤ change_size definitions (record { by = u; item = item; old = old; new = new })
    by u (Segment name) old new = omega arith
    by u (Relation name) old new = omega arith
    by u (Tuple relation tid) old new = omega arith
    by u (Chain link parent) old new = omega arith
    by u (Key image values) old new = omega arith

-- from a meter that says enough
pub metered_from : (state : State) (c : Change) (over : ℕ) (locks : Locks) (meter : Meter) → Says state meter → room_with state c meter ≤ state.size.slots → IsOver state c over → IsMetered (record state { locks = locks; changes = c ∷ state.changes; meter = counted state.base.definitions c over meter })
metered_from state c over locks meter said room leads = record {
  makers = λ i. c.by ∷ said.stamped i;
  positions = (omega (arith, size_some state.base.definitions c), said.positions);
  heap = omega (arith, said.heap, lead_two state.size.slots state.base.definitions (now state).contents c.new c.item state.meter.over over leads);
  tuples = λ relation. let held = said.tuples relation in
      let more = sum_by-cons (λ (d : Change). one_if (counts_for d.item relation)) c state.changes in
      by_test (is_tuple_of relation c.item)
      (λ on. let counts = counts_put (now state).contents c.item c.new relation on in
      let traffic = ap (λ (b : Bool). 2 * (if b then record { entries = (meter.traffic relation).entries; surviving = (meter.traffic relation).surviving; since = (meter.traffic relation).since + 1 } else meter.traffic relation).since + (if b then record { entries = (meter.traffic relation).entries; surviving = (meter.traffic relation).surviving; since = (meter.traffic relation).since + 1 } else meter.traffic relation).entries + (if b then record { entries = (meter.traffic relation).entries; surviving = (meter.traffic relation).surviving; since = (meter.traffic relation).since + 1 } else meter.traffic relation).surviving) on in
      omega (arith, held, counts, one_test (is_some c.new) true, more, ap one_if on, traffic))
      (λ off. let counts = counts_same (now state).contents c.item c.new relation off in
      let traffic = ap (λ (b : Bool). 2 * (if b then record { entries = (meter.traffic relation).entries; surviving = (meter.traffic relation).surviving; since = (meter.traffic relation).since + 1 } else meter.traffic relation).since + (if b then record { entries = (meter.traffic relation).entries; surviving = (meter.traffic relation).surviving; since = (meter.traffic relation).since + 1 } else meter.traffic relation).entries + (if b then record { entries = (meter.traffic relation).entries; surviving = (meter.traffic relation).surviving; since = (meter.traffic relation).since + 1 } else meter.traffic relation).surviving) off in
      omega (arith, held, counts, more, ap one_if off, traffic));
  room = room;
}

pub metered_change : (state : State) (c : Change) (over : ℕ) (locks : Locks) → IsMetered state → if_no_room state c ≡ None → IsOver state c over → IsMetered (changed c over (record state { locks = locks }))
metered_change state c over locks metered is leads = metered_from state c over locks (meter_for state c) (says_behind state c metered) (lets_through state c is).pages leads

-- ---- ways back, and ends

pub metered_restore : (state : State) → Kept state → IsMetered state → (t save : ℕ) (marks : List ℕ) (over : ℕ) → MayUndo (now state) (undone_to state t (left_at marks save)) state.meter.over over → IsMetered (restored t save marks over state)
metered_restore state kept metered t save marks over undo =
    let n = left_at marks save in record {
      makers = makers kept metered t (left_at marks save) restore_size over undo;
      positions = back_positions kept metered t (left_at marks save) restore_size over undo;
      heap = back_heap kept metered t (left_at marks save) restore_size over undo;
      tuples = back_tuples kept metered t (left_at marks save) restore_size over undo;
      room = metered.room;
    }

module _ (state : State) (kept : Kept state) (metered : IsMetered state) (t over : ℕ) where
  abbrev gone_with : List Change → List Stamp → List Change → State
  gone_with changes stamps cut = record (gone t over state) { changes = changes; meter = with_record (size_for cut end_size) stamps over state.meter }

  abbrev all_of_it : List Change → List Stamp → List Change → Type 0
  all_of_it changes stamps cut = IsMetered (gone_with changes stamps cut)

  pub metered_abort : MayUndo (now state) (own t state.changes) state.meter.over over → IsMetered (gone t over state)
  metered_abort undo =
      let back = subst (λ (l : List Change). MayUndo (now state) l state.meter.over over) (sym (cut_all t state.changes)) undo in
      let first : all_of_it (kept_to maker t 0 state.changes) (kept_to stamp_by t 0 state.meter.stamps) (cut_off maker t 0 state.changes) = record {
        makers = makers kept metered t 0 end_size over back;
        positions = back_positions kept metered t 0 end_size over back;
        heap = back_heap kept metered t 0 end_size over back;
        tuples = back_tuples kept metered t 0 end_size over back;
        room = metered.room;
      } in
      subst (λ (l : List Change). all_of_it l (theirs stamp_by t state.meter.stamps) (own t state.changes)) (kept_none maker t state.changes)
      (subst (λ (l : List Stamp). all_of_it (kept_to maker t 0 state.changes) l (own t state.changes)) (kept_none stamp_by t state.meter.stamps)
      (subst (λ (l : List Change). all_of_it (kept_to maker t 0 state.changes) (kept_to stamp_by t 0 state.meter.stamps) l) (cut_all t state.changes) first))

pub metered_committing : (state : State) → Kept state → IsMetered state → (t : ℕ) → IsMetered (committing t state)
metered_committing state kept metered t =
    let aborted = metered_abort state kept metered t state.meter.over (undo_same (now state) (own t state.changes) state.meter.over) in
    let same = end_now t state.changes state.base.contents (lone_kept kept) in
    record {
      makers = aborted.makers;
      positions = aborted.positions;
      heap = omega (arith, metered.heap, ap (λ (k : Contents). heap_pages state.size.slots (record state.base { contents = k })) same, theirs_and_mine maker t state.changes);
      tuples = λ relation. let held = metered.tuples relation in
          omega (arith, held, ap (λ (k : Contents). tuple_count k relation) same, cut_counts t 0 relation state.changes, ap (λ (l : List Change). changes_of l relation) (kept_none maker t state.changes));
      room = metered.room;
    }

-- an end with changes is a checkpoint, as yet
pub metered_end : (state : State) → Kept state → IsMetered state → (t : ℕ) → IsMetered (ended t state)
metered_end state kept metered t = metered_committing state kept metered t

-- ---- all steps

locks_at : (by : Option ℕ) (call : Call) (old : State) → IsMetered old → IsMetered (locked_by by call old)
locks_at None call old metered = metered
locks_at (Some t) call old metered = metered_same metered old.marks (granted t (needs (now old) call) old.locks) old.scans

left_at_it : (keeps : Bool) (by : Option ℕ) (call : Call) (old : State) → IsMetered old → IsMetered (if keeps then locked_by by call old else old)
left_at_it true by call old metered = locks_at by call old metered
left_at_it false by call old metered = metered

scan_at : (by : Option ℕ) (call : Call) (old : State) (number : ℕ) (scan : Scan) → IsMetered old → IsMetered (with_scan number scan (locked_by by call old))
scan_at None call old number scan metered = metered_same metered old.marks old.locks (finite.insert old.scans number scan)
scan_at (Some t) call old number scan metered = metered_same metered old.marks (granted t (needs (now old) call) old.locks) (finite.insert old.scans number scan)

-- the rules let a change through that the call is to make
pub let_through : (old : State) (call : Call) (c : Change) → change_of old call ≡ Some c → if_full old call ≡ None → if_no_room old c ≡ None
let_through old call c is full = sym (ap (option_and_then (if_no_room old)) is) ∙ full

pub room_by : (old new : State) (call : Call) (answer : Answer) → Step old call answer new → ((next : Tables) → refusal old call ≡ None → defined call old.base ≡ Some next → IsMetered (redefined next old)) → Kept old → IsMetered old → IsMetered new
room_by old _ _ _ (refuses call why is) off kept metered = left_at_it (keeps_locks why) (caller call) call old metered
room_by old _ _ _ (begins t is) off kept metered = metered_same metered (finite.insert old.marks t []) old.locks old.scans
room_by old _ _ _ (saves t marks is has) off kept metered = metered_same metered (finite.insert old.marks t (marks ++ own_count old t ∷ [])) old.locks old.scans
room_by old _ _ _ (restores t save marks over is has undo) off kept metered = metered_restore old kept metered t save marks over undo
room_by old _ _ _ (ends t is) off kept metered = metered_end old kept metered t
room_by old _ _ _ (aborts t over is undo) off kept metered = metered_abort old kept metered t over undo
room_by old _ _ _ (inserts t relation values tid over is free leads) off kept metered =
    metered_change old (insertion t relation tid values) over (with_lock t (need (Tuple relation tid) X) (granted t (needs (now old) (Insert t relation values)) old.locks)) metered (all_none (tests old (Insert t relation values)) is 7 None (omega arith)) leads
room_by old _ _ _ (fetches t relation tid values is found) off kept metered = metered_same metered old.marks (granted t (needs (now old) (Fetch t relation tid)) old.locks) old.scans
room_by old _ _ _ (updates t relation tid was values over is found leads) off kept metered =
    metered_change old (replacement t relation tid was values) over (granted t (needs (now old) (Update t relation tid values)) old.locks) metered
    (let_through old (Update t relation tid values) (replacement t relation tid was values) (ap (λ (o : Option Content). option_map (λ (w : List Value). replacement t relation tid w values) (values_in o)) found) (all_none (tests old (Update t relation tid values)) is 6 None (omega arith))) leads
room_by old _ _ _ (deletes t relation tid was over is found leads) off kept metered =
    metered_change old (deletion t relation tid was) over (granted t (needs (now old) (Delete t relation tid)) old.locks) metered
    (let_through old (Delete t relation tid) (deletion t relation tid was) (ap (λ (o : Option Content). option_map (deletion t relation tid) (values_in o)) found) (all_none (tests old (Delete t relation tid)) is 5 None (omega arith))) leads
room_by old _ _ _ (connects t link child parent spot over is leads) off kept metered =
    metered_change old (connection old t link child parent spot) over (granted t (needs (now old) (Connect t link child parent spot)) old.locks) metered (all_none (tests old (Connect t link child parent spot)) is 7 None (omega arith)) leads
room_by old _ _ _ (disconnects t link child item over is found leads) off kept metered =
    metered_change old (disconnection old t item child) over (granted t (needs (now old) (Disconnect t link child)) old.locks) metered
    (let_through old (Disconnect t link child) (disconnection old t item child) (ap (option_map (λ (i : Item). disconnection old t i child)) found) (all_none (tests old (Disconnect t link child)) is 5 None (omega arith))) leads
room_by old _ _ _ (finds t link child parent item is has under) off kept metered = metered_same metered old.marks (granted t (needs (now old) (Parent t link child)) old.locks) old.scans
room_by old _ _ _ (finds_none t link child is none) off kept metered = metered_same metered old.marks (granted t (needs (now old) (Parent t link child)) old.locks) old.scans
room_by old _ _ _ (opens call t number path is by along low free) off kept metered = scan_at (caller call) call old number (new_scan t path) metered
room_by old _ _ _ (gives t number scan given values is has next) off kept metered = metered_same metered old.marks old.locks (finite.insert old.scans number (with_given scan given))
room_by old _ _ _ (stops t number scan is has next) off kept metered = metered
room_by old _ _ _ (closes t number is) off kept metered = metered_same metered old.marks old.locks (finite.remove old.scans number)
room_by old _ _ _ (locks_it t item exclusive is granule) off kept metered = metered_same metered old.marks (granted t (needs (now old) (Lock t item exclusive)) old.locks) old.scans
room_by old _ _ _ (checkpoints is) off kept metered = metered_checkpoint old metered
room_by old _ _ _ (defines call next is names so) off kept metered = off next is so
