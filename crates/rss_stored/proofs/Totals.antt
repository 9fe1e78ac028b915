-- Each call has a step, so that a device that fails within it stops the call within a step.
use Rattle.std.proofs.Common.{◌≡◌, inl, ℕ, ◌+◌, true, List, length, refl, ◌∙◌, ap, subst, arith}
use Rattle.std.specs.Prelude.{Option, Some, None, is_some, Ok, Err}
use Rattle.std.specs.FinMap as map
use Rattle.rss_base.specs.DiskRule.{Disk, Passes}
use Rattle.rss_base.specs.declared.name.Name.{Name}
use Rattle.rss_base.specs.declared.tid.Tid.{Tid}
use Rattle.rss_base.specs.declared.item.Item.{Item}
use Rattle.rss_base.specs.declared.item.Item.TheVariants.{Tuple}
use Rattle.rss_base.specs.declared.call.Call.{Call}
use Rattle.rss_base.specs.declared.call.Call.TheVariants.{Begin, Save, Restore, End, Abort, Insert, Fetch, Update, Delete, Connect, Disconnect, Parent, OpenRelation, OpenImage, OpenLink, Next, CloseScan, Lock, Checkpoint, MakeSegment, MakeRelation, MakeImage, MakeLink, DropSegment, DropRelation, DropImage, DropLink}
use Rattle.rss_base.specs.declared.answer.Reply.TheVariants.{Ok as Done, Tid as Identifier, Number, Tuple as TupleReply, Row, End as AtEnd, Nothing}
use Rattle.rss_base.specs.declared.refusal.Refusal.{Refusal}
use Rattle.rss_base.proofs.Moments.{widened}
use Rattle.rss_model.specs.Tables.{LinkDef, Tables}
use Rattle.rss_model.specs.Chains.{chain_with, HasParent}
use Rattle.rss_model.specs.Defining.{DefinesNames, LocksGranule, defined}
use Rattle.rss_model.specs.Commits.{MayCommit}
use Rattle.rss_model.specs.Changes.{own}
use Rattle.rss_model.specs.Items.{parent_of}
use Rattle.rss_model.specs.Images.{Entry}
use Rattle.rss_model.specs.Kept.{Kept}
use Rattle.rss_model.specs.Machine.{State, with_changes, now}
use Rattle.rss_model.specs.Steps.{Answer, Step, tests, refusal, is_open, with_scan, with_given, undone_to, left_at, left_by, locked, holding, begun, with_save, restored, gone, changed, insertion, replacement, deletion, connection, disconnection, ended, redefined}
use Rattle.rss_model.specs.Rules.{saved_now}
use Rattle.rss_model.specs.Refusals.{is_same, has_form, link_of}
use Rattle.rss_model.specs.Scans.{RelationPath, ImagePath, LinkPath, Scan, scans_most, scan_of, new_scan, next_of_scan}
use Rattle.rss_model.specs.Steps.StepBy.{refuses, begins, saves, restores, aborts, checkpoints, inserts, fetches, updates, deletes, connects, disconnects, finds, finds_none, opens, gives, stops as ends_scan, closes, locks, ends, defines}
use Rattle.rss_stored.specs.Store.{OpensToEither}
use Rattle.rss_stored.specs.Turns.{IsStopped, IsUnmade}
use Rattle.rss_model.proofs.Testing.{all_none, holds, holds_not}
use Rattle.rss_model.proofs.ChainKeeping.{chain_found, in_chain}
use Rattle.rss_model.proofs.LogLists.{some_of}
use Rattle.rss_model.proofs.Committing.{defines_may, left_base}
use Rattle.rss_model.proofs.Frees.{free_there}
use Rattle.rss_model.proofs.ScanKeeping.{its_scan}
use Rattle.rss_model.proofs.Scanning.{the_values, free_below, next_given}
use Rattle.rss_model.proofs.StepKeeping.{kept_fit}
use Rattle.rss_model.proofs.Transfer.{over_same, undo_same}

-- ---- what a step needs

-- an open transaction has save points
the_marks : (state : State) (t : ℕ) → is_open state t ≡ true → (marks : List ℕ) × (map.get state.marks t ≡ Some marks)
the_marks state t is = some_of (map.get state.marks t) is

-- ---- the steps

-- some step of a call, which leaves the committed tables where the call may not commit
pub record HasStep (state : State) (call : Call) : Type 0 where
  pub answer : Answer
  pub next : State
  pub step : Step state call answer next
  pub same_base : (MayCommit call → ⊥) → next.base ≡ state.base

has_definition : (state : State) (call : Call) (next : Tables) → DefinesNames call → refusal state call ≡ None → defined call state.base ≡ Some next → HasStep state call
has_definition state call next names is so = record {
  answer = Ok Done;
  next = redefined next state;
  step = defines call next is names so;
  same_base = λ not. absurd (not (defines_may call state.base next so));
}

module _ {state : State} (kept : Kept state) where
  -- a scan gives what is next, or is at its end
  goes_on : (t number : ℕ) (scan : Scan) → refusal state (Next t number) ≡ None → scan_of state.scans t number ≡ Some scan → (next : Option Entry) → next_of_scan (now state) scan ≡ next → HasStep state (Next t number)
  goes_on t number scan is has None at_end = record { answer = Ok AtEnd; next = state; step = ends_scan t number scan is has at_end; same_base = λ not. refl }
  goes_on t number scan is has (Some given) some =
      let its = next_given kept number scan given (its_scan state.scans t number scan has).0 some in
      record {
        answer = Ok (Row given.tid its.0);
        next = with_scan number (with_given scan given) state;
        step = gives t number scan given its.0 is has its.1;
        same_base = λ not. refl;
      }

  -- the chain of a link with parents has one
  parent_there : (t : ℕ) (link : Name) (child : Tid) (item : Item) → refusal state (Parent t link child) ≡ None → chain_with (now state).contents link child ≡ Some item → (parent : Tid) × (parent_of item ≡ Some parent)
  parent_there t link child item is found =
      let passed = all_none (tests state (Parent t link child)) is in
      let form = holds (has_form (link_of state link) true) _ (passed 1 None (omega arith)) in
      let of = chain_found (now state).contents link child item found in
      let definition = defined (link_of state link) form in
      let under = (in_chain (kept_fit state kept).1 link of.0 child definition.0 definition.1 of.2).1 in
      let parent = below definition.0.parent of.0 (subst (λ (o : Option LinkDef). has_form o true ≡ true) definition.1 form) under in
      (parent.0, ap parent_of of.1 ∙ parent.1)
    where
      defined : (o : Option LinkDef) → has_form o true ≡ true → (definition : LinkDef) × (o ≡ Some definition)
      defined None form = absurd (cc)
      defined (Some definition) form = (definition, refl)

      below : (relation : Option Name) (parent : Option Tid) → is_same (is_some relation) true ≡ true → HasParent (now state).contents relation parent → (tid : Tid) × (parent ≡ Some tid)
      below None parent form under = absurd (cc)
      below (Some relation) None form under = absurd under
      below (Some relation) (Some tid) form under = (tid, refl)

  -- a tuple has its parent, or stands in no chain
  above : (t : ℕ) (link : Name) (child : Tid) → refusal state (Parent t link child) ≡ None → (item : Option Item) → chain_with (now state).contents link child ≡ item → HasStep state (Parent t link child)
  above t link child is None absent = record { answer = Ok Nothing; next = locked (Parent t link child) state; step = finds_none t link child is absent; same_base = λ not. refl }
  above t link child is (Some item) found =
      let parent = parent_there t link child item is found in
      record { answer = Ok (Identifier parent.0); next = locked (Parent t link child) state; step = finds t link child parent.0 item is found parent.1; same_base = λ not. refl }

  passes : (call : Call) → DefinesNames call → LocksGranule call → refusal state call ≡ None → HasStep state call
  passes (Begin t) names granule is = record { answer = Ok Done; next = begun t state; step = begins t is; same_base = λ not. refl }
  passes (Save t) names granule is =
      let passed = all_none (tests state (Save t)) is in
      let marks = the_marks state t (holds (is_open state t) _ (passed 0 None (omega arith))) in
      record { answer = Ok (Number (length marks.0 + 1)); next = with_save t marks.0 state; step = saves t marks.0 is marks.1; same_base = λ not. refl }
  passes (Restore t save) names granule is =
      let passed = all_none (tests state (Restore t save)) is in
      let marks = the_marks state t (holds (is_open state t) _ (passed 0 None (omega arith))) in
      let over = state.meter.over in
      record {
        answer = Ok Done;
        next = restored t save marks.0 over state;
        step = restores t save marks.0 over is marks.1 (undo_same (now state) (undone_to state t (left_at marks.0 save)) over);
        same_base = λ not. refl;
      }
  passes (Abort t) names granule is =
      let over = state.meter.over in
      record { answer = Ok Done; next = gone t over state; step = aborts t over is (undo_same (now state) (own t state.changes) over); same_base = λ not. refl }
  passes Checkpoint names granule is =
      record { answer = Ok Done; next = record state { meter = saved_now state }; step = checkpoints is; same_base = λ not. refl }
  passes (End t) names granule is = record { answer = Ok Done; next = ended t state; step = ends t is; same_base = λ not. absurd (not (tt {0})) }
  passes (Insert t relation values) names granule is =
      let passed = all_none (tests state (Insert t relation values)) is in
      let has : is_open state t ≡ true = holds (is_open state t) _ (passed 0 None (omega arith)) in
      let some = free_there state t relation (holds _ _ (passed 1 None (omega arith))) (holds _ _ (passed 4 None (omega arith))) in
      record {
        answer = Ok (Identifier some.0);
        next = changed (insertion t relation some.0 values) state.meter.over (holding t (Tuple relation some.0) (locked (Insert t relation values) state));
        step = inserts t relation values some.0 state.meter.over is some.1 (over_same state (insertion t relation some.0 values));
        same_base = λ not. refl;
      }
  passes (Fetch t relation tid) names granule is =
      let passed = all_none (tests state (Fetch t relation tid)) is in
      let values = the_values kept relation tid (holds _ _ (passed 3 None (omega arith))) in
      record { answer = Ok (TupleReply values.0); next = locked (Fetch t relation tid) state; step = fetches t relation tid values.0 is values.1; same_base = λ not. refl }
  passes (Update t relation tid values) names granule is =
      let passed = all_none (tests state (Update t relation tid values)) is in
      let was = the_values kept relation tid (holds _ _ (passed 4 None (omega arith))) in
      record {
        answer = Ok Done;
        next = changed (replacement t relation tid was.0 values) state.meter.over (locked (Update t relation tid values) state);
        step = updates t relation tid was.0 values state.meter.over is was.1 (over_same state (replacement t relation tid was.0 values));
        same_base = λ not. refl;
      }
  passes (Delete t relation tid) names granule is =
      let passed = all_none (tests state (Delete t relation tid)) is in
      let was = the_values kept relation tid (holds _ _ (passed 3 None (omega arith))) in
      record {
        answer = Ok Done;
        next = changed (deletion t relation tid was.0) state.meter.over (locked (Delete t relation tid) state);
        step = deletes t relation tid was.0 state.meter.over is was.1 (over_same state (deletion t relation tid was.0));
        same_base = λ not. refl;
      }
  passes (Connect t link child parent spot) names granule is = record {
    answer = Ok Done;
    next = changed (connection state t link child parent spot) state.meter.over (locked (Connect t link child parent spot) state);
    step = connects t link child parent spot state.meter.over is (over_same state (connection state t link child parent spot));
    same_base = λ not. refl;
  }
  passes (Disconnect t link child) names granule is =
      let passed = all_none (tests state (Disconnect t link child)) is in
      let item = some_of (chain_with (now state).contents link child) (holds _ _ (passed 4 None (omega arith))) in
      record {
        answer = Ok Done;
        next = changed (disconnection state t item.0 child) state.meter.over (locked (Disconnect t link child) state);
        step = disconnects t link child item.0 state.meter.over is item.1 (over_same state (disconnection state t item.0 child));
        same_base = λ not. refl;
      }
  passes (Parent t link child) names granule is = above t link child is (chain_with (now state).contents link child) refl
  passes (OpenRelation t relation) names granule is =
      let passed = all_none (tests state (OpenRelation t relation)) is in
      let free = free_below state.scans scans_most (holds_not _ _ (passed 2 None (omega arith))) in
      record {
        answer = Ok (Number free.0);
        next = with_scan free.0 (new_scan t (RelationPath relation)) (locked (OpenRelation t relation) state);
        step = opens (OpenRelation t relation) t free.0 (RelationPath relation) is refl refl (omega (arith, free.1)) free.2;
        same_base = λ not. refl;
      }
  passes (OpenImage t image start) names granule is =
      let passed = all_none (tests state (OpenImage t image start)) is in
      let free = free_below state.scans scans_most (holds_not _ _ (passed 3 None (omega arith))) in
      record {
        answer = Ok (Number free.0);
        next = with_scan free.0 (new_scan t (ImagePath image start)) (locked (OpenImage t image start) state);
        step = opens (OpenImage t image start) t free.0 (ImagePath image start) is refl refl (omega (arith, free.1)) free.2;
        same_base = λ not. refl;
      }
  passes (OpenLink t link parent) names granule is =
      let passed = all_none (tests state (OpenLink t link parent)) is in
      let free = free_below state.scans scans_most (holds_not _ _ (passed 2 None (omega arith))) in
      record {
        answer = Ok (Number free.0);
        next = with_scan free.0 (new_scan t (LinkPath link parent)) (locked (OpenLink t link parent) state);
        step = opens (OpenLink t link parent) t free.0 (LinkPath link parent) is refl refl (omega (arith, free.1)) free.2;
        same_base = λ not. refl;
      }
  passes (Next t number) names granule is =
      let passed = all_none (tests state (Next t number)) is in
      let scan = some_of (scan_of state.scans t number) (holds _ _ (passed 1 None (omega arith))) in
      goes_on t number scan.0 is scan.1 (next_of_scan (now state) scan.0) refl
  passes (CloseScan t number) names granule is =
      record { answer = Ok Done; next = record state { scans = map.remove state.scans number }; step = closes t number is; same_base = λ not. refl }
  passes (Lock t item exclusive) names granule is =
      record { answer = Ok Done; next = locked (Lock t item exclusive) state; step = locks t item exclusive is granule; same_base = λ not. refl }
  passes (MakeSegment name) names granule is = has_definition state (MakeSegment name) _ names is refl
  passes (MakeRelation name segment fields) names granule is = has_definition state (MakeRelation name segment fields) _ names is refl
  passes (MakeImage name relation is_unique fields) names granule is = has_definition state (MakeImage name relation is_unique fields) _ names is refl
  passes (DropSegment name) names granule is = has_definition state (DropSegment name) _ names is refl
  passes (DropRelation name) names granule is = has_definition state (DropRelation name) _ names is refl
  passes (DropImage name) names granule is = has_definition state (DropImage name) _ names is refl
  passes (MakeLink name parent child) names granule is = has_definition state (MakeLink name parent child) _ names is refl
  passes (DropLink name) names granule is = has_definition state (DropLink name) _ names is refl

  pub each_answers : (call : Call) → DefinesNames call → LocksGranule call → HasStep state call
  each_answers call names granule = by (refusal state call) refl
    where
      by : (why : Option Refusal) → refusal state call ≡ why → HasStep state call
      by None is = passes call names granule is
      by (Some why) is = record { answer = Err why; next = left_by state call why; step = refuses call why is; same_base = λ not. left_base state call why }

  -- A call is stopped within a step where a stop leaves the committed tables, or at the end of a transaction also those with what it changed.
  pub stops : {earlier later : Disk} (call : Call) → DefinesNames call → LocksGranule call → IsUnmade earlier later state → IsStopped earlier later state call
  stops call names granule unmade =
      let some = each_answers call names granule in
      record { answer = some.answer; next = some.next; answered = record { step = some.step; moments = widened unmade (λ image opens. inl opens) } }

pub end_stops : {earlier later : Disk} (state : State) (t : ℕ) → refusal state (End t) ≡ None → Passes earlier later (OpensToEither state.size state.base (with_changes state.base (own t state.changes))) → IsStopped earlier later state (End t)
end_stops state t is moments = record { answer = Ok Done; next = ended t state; answered = record { step = ends t is; moments = moments } }

-- a definition that was on its way, where a stop leaves the committed tables with what was defined before or after it
pub definition_stops : {earlier later : Disk} (state : State) (call : Call) (next : Tables) → DefinesNames call → refusal state call ≡ None → defined call state.base ≡ Some next
    → Passes earlier later (OpensToEither state.size state.base next) → IsStopped earlier later state call
definition_stops state call next names is so moments =
    record { answer = Ok Done; next = redefined next state; answered = record { step = defines call next is names so; moments = moments } }
