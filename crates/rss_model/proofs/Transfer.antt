-- A step of a transaction is one that it makes alone, from any tables that agree on what it has locked.
use Rattle.std.proofs.Common.{◌≡◌, ◌⊎◌, inl, inr, ⊎_elim, ℕ, ◌+◌, ◌<◌, Bool, true, false, List, [], ◌∷◌, ◌++◌, length, take, refl, sym, ◌∙◌, ap, subst, arith}
use Rattle.std.specs.Prelude.{Option, Some, None, is_some, option_map, option_and_then, unwrap_or, if◌then◌else◌, Ok, Err}
use Rattle.std.specs.FinMap as finite
use Rattle.std.proofs.lemmas.Option.{same_Some}
use Rattle.rss_base.specs.declared.name.Name.{Name}
use Rattle.rss_base.specs.declared.tid.Tid.{Tid}
use Rattle.rss_base.specs.declared.value.Value.{Value}
use Rattle.rss_base.specs.declared.spot.Spot.{Spot}
use Rattle.rss_base.specs.declared.item.Item.{Item}
use Rattle.rss_base.specs.declared.item.Item.TheVariants.{Relation, Tuple, Chain}
use Rattle.rss_base.specs.declared.need.Need.{Need}
use Rattle.rss_base.specs.declared.need.Mode.TheVariants.{S, X}
use Rattle.rss_base.specs.declared.call.Call.{Call}
use Rattle.rss_base.specs.declared.call.Call.TheVariants.{Begin, Save, Restore, Insert, Fetch, Update, Delete, Connect, Disconnect, Parent, Next, CloseScan, Lock}
use Rattle.rss_base.specs.declared.answer.Reply.TheVariants.{Ok as Done, Tid as Identifier, Number, Tuple as TupleReply, Row, End as AtEnd, Nothing}
use Rattle.rss_base.specs.declared.refusal.Refusal.{Refusal}
use Rattle.rss_model.specs.Items.{Content, parent_of}
use Rattle.rss_model.specs.Tables.{ImageDef, LinkDef, Tables, Contents, content, segment_of}
use Rattle.rss_model.specs.Chains.{tuples_in, chain_with, with_behind, left_of, without}
use Rattle.rss_model.specs.Images.{Entry, image_list, entries_by, next_entry}
use Rattle.rss_model.specs.Changes.{Change, own, after, undo}
use Rattle.rss_model.specs.Locks.{Locks, held, Holds, granted, with_lock}
use Rattle.rss_model.specs.Scans.{Path, RelationPath, ImagePath, LinkPath, Scan, if_by, scan_of, new_scan, number_limit, path_relation, next_of_scan, next_along, next_in_chain}
use Rattle.rss_model.specs.Images.{entry}
use Rattle.rss_model.specs.Meter.{Meter, MayLead}
use Rattle.rss_model.specs.Machine.{with_changes, State, now}
use Rattle.rss_model.specs.Callers.{caller}
use Rattle.rss_model.specs.Needs.{need, needs}
use Rattle.rss_model.specs.Defining.{LocksGranule}
use Rattle.rss_model.specs.Refusals.{Answer, tests, refusal, insertion, replacement, deletion, connection, disconnection, chain_change, link_of, has_form}
use Rattle.rss_model.specs.Steps.{IsOver, keeps_locks, locked_by, locked, left_by, IsFree, HasValues, changed, holding, MayUndo, undone_to, left_at, begun, own_count, with_save, restored, path_of, with_scan, with_given, GivesNext}
use Rattle.rss_model.specs.Steps.MayUndo.{none, more}
use Rattle.rss_model.specs.Steps.StepBy.{refuses, begins, saves, restores, inserts, fetches, updates, deletes, connects, disconnects, finds, finds_none, opens, gives, stops, closes, locks}
use Rattle.rss_model.specs.Serial.{is_of_others, lone_refusal, LoneStep}
use Rattle.rss_model.specs.Kept.{Kept}
use Rattle.rss_model.proofs.LogLists.{by_test, some_of}
use Rattle.rss_model.proofs.LogChanging.{by_item}
use Rattle.rss_model.proofs.Locking.{holds_more}
use Rattle.rss_model.proofs.Mixing.{In, own_here}
use Rattle.rss_model.proofs.Testing.{Clears, clears, all_none, holds}
use Rattle.rss_model.proofs.OpenKeeping.{keeps_granted}
use Rattle.rss_model.proofs.ChangeKeeping.{guards_of}
use Rattle.rss_model.proofs.ChainKeeping.{form_of}
use Rattle.rss_model.proofs.EndKeeping.{after_none, in_own}
use Rattle.rss_model.proofs.Alone.{alone, state_of, state_is, only_locks, marks_here, marks_set, locks_off, locks_set, scans_at, scan_alone, scans_set, scans_cut, own_own, own_cut}
use Rattle.rss_model.proofs.Steady.{Agrees, now_agrees}
use Rattle.rss_model.proofs.SeenAlike.{entries_same}
use Rattle.rss_model.proofs.Faring.{Fares, fares_on, fares_early, After, its_relation, its_chain, read_hold, parent_child, disconnect_child, chain_alike, fares_begin, fares_save, fares_restore, fares_insert, fares_fetch, fares_update, fares_delete, fares_connect, fares_disconnect, fares_parent, fares_next, fares_close, fares_lock}
use Rattle.rss_model.proofs.ScanKeeping.{its_scan}

-- as many overflow pages are always possible
pub same_over : (before after : Tables) (item : Item) (over : ℕ) → MayLead before after item over over
same_over before after item over = omega arith

pub over_same : (state : State) (change : Change) → IsOver state change state.meter.over
over_same state change = same_over (now state) (with_changes state.base (change ∷ state.changes)) change.item state.meter.over

pub undo_same : (tables : Tables) (changes : List Change) (over : ℕ) → MayUndo tables changes over over
undo_same tables [] over = none
undo_same tables (c ∷ changes) over = more (same_over tables (record tables { contents = undo tables.contents c }) c.item over) (undo_same (record tables { contents = undo tables.contents c }) changes over)

pub touched : (i : Item) (cs : List Change) → ((c : Change) × In c cs × (c.item ≡ i)) ⊎ ((c : Change) → In c cs → c.item ≡ i → ⊥)
touched i [] = inr (λ c is at. is)
touched i (c ∷ cs) = by_item c.item i (λ e. inl (c, inl refl, e)) (λ e. ⊎_elim (λ f. inl (f.0, inr f.1, f.2)) (λ f. inr (λ d is at. ⊎_elim (λ g. e (ap (λ (k : Change). k.item) g ∙ at)) (λ g. f d g at) is)) (touched i cs))

module _ (s : State) (kept : Kept s) (t : ℕ) (b : Contents) (m : Meter) where
  abbrev x : State
  x = alone t b m s

  abbrev seen : Contents
  seen = after b (own t s.changes)

  abbrev Goes : Call → Answer → State → Type 0
  Goes call answer next = (later : Meter) × LoneStep (alone t b m s) call answer (alone t b later next)

  abbrev Base : Locks → Type 0
  Base held = Agrees t held s.base.definitions s.base.contents b

  after_of : (call : Call) → Clears s t (needs (now s) call) → Base (granted t (needs (now s) call) s.locks) → After s kept t b m call
  after_of call clear agrees =
      let mid = keeps_granted kept t (needs (now s) call) clear in
      now_agrees (record s { locks = granted t (needs (now s) call) s.locks }) mid.apart (guards_of mid) mid.chained t b agrees

  lone_locks : (call : Call) → needs (now s) call ≡ needs (now x) call → granted t (needs (now x) call) (only_locks t s.locks) ≡ only_locks t (granted t (needs (now s) call) s.locks)
  lone_locks call same = ap (λ (l : List Need). granted t l (only_locks t s.locks)) (sym same) ∙ locks_set t (needs (now s) call) s.locks

  lone_locked : (call : Call) → needs (now s) call ≡ needs (now x) call → record x { locks = granted t (needs (now x) call) (only_locks t s.locks) } ≡ alone t b m (record s { locks = granted t (needs (now s) call) s.locks })
  lone_locked call same = state_is s.size x.base m refl refl (lone_locks call same) refl

  -- ---- refused

  pub transfer_refused : (call : Call) (why : Refusal) → caller call ≡ Some t → Fares s (alone t b m s) call (After s kept t b m call) → refusal s call ≡ Some why → is_of_others why ≡ false → Base (left_by s call why).locks
      → LoneStep (alone t b m s) call (Err why) (alone t b m (left_by s call why))
  transfer_refused call why by fares is off agrees = by_test (keeps_locks why)
      (λ e.
      let clear = clears s t call (Some why) by is e in
      let its : Base (granted t (needs (now s) call) s.locks) = subst (λ (k : State). Base k.locks) (ap (λ (k : Bool). if k then locked_by (caller call) call s else s) e ∙ ap (λ (c : Option ℕ). locked_by c call s) by) agrees in
      let agreed = after_of call clear its in
      let same : left_by x call why ≡ alone t b m (left_by s call why) =
      ap (λ (k : Bool). if k then locked_by (caller call) call x else x) e ∙ ap (λ (c : Option ℕ). locked_by c call x) by ∙ lone_locked call (fares.same_needs agreed)
      ∙ sym (ap (λ (k : Bool). alone t b m (if k then locked_by (caller call) call s else s)) e ∙ ap (λ (c : Option ℕ). alone t b m (locked_by c call s)) by) in
      subst (λ (y : State). LoneStep x call (Err why) y) same (refuses call why (fares_on fares (Some why) agreed is e off)))
      (λ e.
      let same : left_by x call why ≡ alone t b m (left_by s call why) =
      ap (λ (k : Bool). if k then locked_by (caller call) call x else x) e ∙ sym (ap (λ (k : Bool). alone t b m (if k then locked_by (caller call) call s else s)) e) in
      subst (λ (y : State). LoneStep x call (Err why) y) same (refuses call why (fares_early fares why is e off)))

  -- ---- what is not refused

  module _ (call : Call) (by : caller call ≡ Some t) (fares : Fares s (alone t b m s) call (After s kept t b m call)) (is : refusal s call ≡ None) (agrees : Base (granted t (needs (now s) call) s.locks)) where
    agreed : After s kept t b m call
    agreed = after_of call (clears s t call None by is (tt {0})) agrees

    lone : lone_refusal (alone t b m s) call ≡ None
    lone = fares_on fares None agreed is (tt {0}) (tt {0})

    its_needs : needs (now s) call ≡ needs (now (alone t b m s)) call
    its_needs = fares.same_needs agreed

  pub transfer_begin : refusal s (Begin t) ≡ None → Base s.locks → Goes (Begin t) (Ok Done) (begun t s)
  transfer_begin is agrees = (m, subst (λ (y : State). LoneStep x (Begin t) (Ok Done) y) (state_is s.size x.base m refl (marks_set t s.marks []) refl refl) (begins t (lone (Begin t) refl (fares_begin s kept t b m) is agrees)))

  pub transfer_save : (marks : List ℕ) → refusal s (Save t) ≡ None → finite.get s.marks t ≡ Some marks → Base s.locks → Goes (Save t) (Ok (Number (length marks + 1))) (with_save t marks s)
  transfer_save marks is has agrees = (
    m,
    subst (λ (y : State). LoneStep x (Save t) (Ok (Number (length marks + 1))) y)
        (state_is s.size x.base m refl (ap (λ (l : List Change). finite.insert x.marks t (marks ++ length l ∷ [])) (own_own t s.changes) ∙ marks_set t s.marks (marks ++ own_count s t ∷ [])) refl refl)
        (saves t marks (lone (Save t) refl (fares_save s kept t b m) is agrees) (marks_here t s.marks t refl ∙ has)),
  )

  pub transfer_restore : (save : ℕ) (marks : List ℕ) (over : ℕ) → refusal s (Restore t save) ≡ None → finite.get s.marks t ≡ Some marks → Base s.locks → Goes (Restore t save) (Ok Done) (restored t save marks over s)
  transfer_restore save marks over is has agrees = (
    (restored t save marks m.over x).meter,
    subst (λ (y : State). LoneStep x (Restore t save) (Ok Done) y)
        (state_is s.size x.base (restored t save marks m.over x).meter (own_cut t (left_at marks save) s.changes) (marks_set t s.marks (take save marks)) refl refl)
        (restores t save marks m.over (lone (Restore t save) refl (fares_restore s kept t b m save) is agrees) (marks_here t s.marks t refl ∙ has) (undo_same (now x) (undone_to x t (left_at marks save)) m.over)),
  )

  -- ---- tuples

  pub transfer_fetch : (relation : Name) (tid : Tid) (values : List Value) → refusal s (Fetch t relation tid) ≡ None → HasValues s relation tid values → Base (granted t (needs (now s) (Fetch t relation tid)) s.locks)
      → Goes (Fetch t relation tid) (Ok (TupleReply values)) (locked (Fetch t relation tid) s)
  transfer_fetch relation tid values is found agrees =
      let fares = fares_fetch s kept t b m relation tid in
      let agreed_now = agreed (Fetch t relation tid) refl fares is agrees in (
        m,
        subst (λ (y : State). LoneStep x (Fetch t relation tid) (Ok (TupleReply values)) y) (lone_locked (Fetch t relation tid) refl)
            (fetches t relation tid values (lone (Fetch t relation tid) refl fares is agrees) (sym (agreed_now.items (Tuple relation tid) S (read_hold s kept t b m relation tid)) ∙ found)),
      )

  -- one change more, with the locks of the call
  changed_same : (call : Call) (c : Change) (meter : Meter) → c.by ≡ t → needs (now s) call ≡ needs (now x) call
      → state_of s.size x.base meter (c ∷ own t s.changes) x.marks (granted t (needs (now x) call) (only_locks t s.locks)) x.scans ≡ state_of s.size x.base meter (own t (c ∷ s.changes)) x.marks (only_locks t (granted t (needs (now s) call) s.locks)) x.scans
  changed_same call c meter by same = state_is s.size x.base meter (sym (own_here t c s.changes by)) refl (lone_locks call same) refl

  pub transfer_update : (relation : Name) (tid : Tid) (was values : List Value) (over : ℕ) → refusal s (Update t relation tid values) ≡ None → HasValues s relation tid was
      → Holds (granted t (needs (now s) (Update t relation tid values)) s.locks) t (Tuple relation tid) X → Base (granted t (needs (now s) (Update t relation tid values)) s.locks)
      → Goes (Update t relation tid values) (Ok Done) (changed (replacement t relation tid was values) over (locked (Update t relation tid values) s))
  transfer_update relation tid was values over is found hold agrees =
      let call = Update t relation tid values in
      let fares = fares_update s kept t b m relation tid values in
      let agreed_now = agreed (Update t relation tid values) refl fares is agrees in
      let c = replacement t relation tid was values in (
        (changed c m.over (locked (Update t relation tid values) x)).meter,
        subst (λ (y : State). LoneStep x (Update t relation tid values) (Ok Done) y) (changed_same (Update t relation tid values) c (changed c m.over (locked (Update t relation tid values) x)).meter refl (its_needs (Update t relation tid values) refl fares is agrees))
            (updates t relation tid was values m.over (lone (Update t relation tid values) refl fares is agrees) (sym (agreed_now.items (Tuple relation tid) X hold) ∙ found) (over_same x c)),
      )

  pub transfer_delete : (relation : Name) (tid : Tid) (was : List Value) (over : ℕ) → refusal s (Delete t relation tid) ≡ None → HasValues s relation tid was
      → Holds (granted t (needs (now s) (Delete t relation tid)) s.locks) t (Tuple relation tid) X → Base (granted t (needs (now s) (Delete t relation tid)) s.locks)
      → Goes (Delete t relation tid) (Ok Done) (changed (deletion t relation tid was) over (locked (Delete t relation tid) s))
  transfer_delete relation tid was over is found hold agrees =
      let fares = fares_delete s kept t b m relation tid in
      let agreed_now = agreed (Delete t relation tid) refl fares is agrees in
      let c = deletion t relation tid was in (
        (changed c m.over (locked (Delete t relation tid) x)).meter,
        subst (λ (y : State). LoneStep x (Delete t relation tid) (Ok Done) y) (changed_same (Delete t relation tid) c (changed c m.over (locked (Delete t relation tid) x)).meter refl (its_needs (Delete t relation tid) refl fares is agrees))
            (deletes t relation tid was m.over (lone (Delete t relation tid) refl fares is agrees) (sym (agreed_now.items (Tuple relation tid) X hold) ∙ found) (over_same x c)),
      )

  -- an identifier that is free now is so where the transaction is alone
  free_alone : (relation : Name) (tid : Tid) → IsFree s t relation tid → ((other : Name) → segment_of s.base other ≡ segment_of s.base relation → (content (now s).contents (Tuple other tid) ≡ content seen (Tuple other tid)) ⊎ (content b (Tuple other tid) ≡ None))
      → ((c : Change) → In c s.changes → c.by ≡ t → content (now s).contents c.item ≡ content seen c.item) → IsFree (alone t b m s) t relation tid
  free_alone relation tid free either mine = record {
    within = free.within;
    absent = λ other segment. ⊎_elim (λ e. sym e ∙ free.absent other segment) (λ e. ⊎_elim
        (λ f. let of = in_own t s.changes f.0 f.1 in ap (content seen) (sym f.2) ∙ sym (mine f.0 of.0 of.1) ∙ ap (content (now s).contents) f.2 ∙ free.absent other segment)
        (λ f. after_none b (Tuple other tid) (own t s.changes) f ∙ e)
        (touched (Tuple other tid) (own t s.changes))) (either other segment);
    alone = λ other u segment off. locks_off t s.locks u (Tuple other tid) off;
  }

  pub transfer_insert : (relation : Name) (values : List Value) (tid : Tid) (over : ℕ) → refusal s (Insert t relation values) ≡ None → IsFree s t relation tid → Base (granted t (needs (now s) (Insert t relation values)) s.locks)
      → ((other : Name) → segment_of s.base other ≡ segment_of s.base relation → (content (now s).contents (Tuple other tid) ≡ content seen (Tuple other tid)) ⊎ (content b (Tuple other tid) ≡ None))
      → Goes (Insert t relation values) (Ok (Identifier tid)) (changed (insertion t relation tid values) over (holding t (Tuple relation tid) (locked (Insert t relation values) s)))
  transfer_insert relation values tid over is free agrees either =
      let fares = fares_insert s kept t b m relation values in
      let agreed_now = agreed (Insert t relation values) refl fares is agrees in
      let c = insertion t relation tid values in
      let later = (changed c m.over (holding t (Tuple relation tid) (locked (Insert t relation values) x))).meter in (
        later,
        subst (λ (y : State). LoneStep x (Insert t relation values) (Ok (Identifier tid)) y)
            (state_is s.size x.base later (sym (own_here t c s.changes refl)) refl (ap (with_lock t (need (Tuple relation tid) X)) (lone_locks (Insert t relation values) refl) ∙ locks_set t (need (Tuple relation tid) X ∷ []) (granted t (needs (now s) (Insert t relation values)) s.locks)) refl)
            (inserts t relation values tid m.over (lone (Insert t relation values) refl fares is agrees)
            (free_alone relation tid free either (λ d d_in mine. agreed_now.items d.item X (holds_more t (needs (now s) (Insert t relation values)) s.locks t d.item X (subst (λ (u : ℕ). Holds s.locks u d.item X) mine (guards_of kept d d_in).item))))
            (over_same x c)),
      )

  -- ---- links

  pub transfer_connect : (link : Name) (child : Tid) (parent : Option Tid) (spot : Spot) (over : ℕ) → refusal s (Connect t link child parent spot) ≡ None
      → Holds (granted t (needs (now s) (Connect t link child parent spot)) s.locks) t (Chain link parent) X → Base (granted t (needs (now s) (Connect t link child parent spot)) s.locks)
      → Goes (Connect t link child parent spot) (Ok Done) (changed (connection s t link child parent spot) over (locked (Connect t link child parent spot) s))
  transfer_connect link child parent spot over is hold agrees =
      let fares = fares_connect s kept t b m link child parent spot in
      let agreed_now = agreed (Connect t link child parent spot) refl fares is agrees in
      let same : connection x t link child parent spot ≡ connection s t link child parent spot = ap (λ (o : Option Content). chain_change t (Chain link parent) (tuples_in o) (with_behind (left_of spot (tuples_in o)) child (tuples_in o))) (sym (agreed_now.items (Chain link parent) X hold)) in
      let later = (changed (connection x t link child parent spot) m.over (locked (Connect t link child parent spot) x)).meter in (
        later,
        subst (λ (y : State). LoneStep x (Connect t link child parent spot) (Ok Done) y)
            (ap (λ (c : Change). state_of s.size x.base later (c ∷ own t s.changes) x.marks (granted t (needs (now x) (Connect t link child parent spot)) (only_locks t s.locks)) x.scans) same
            ∙ changed_same (Connect t link child parent spot) (connection s t link child parent spot) later refl refl)
            (connects t link child parent spot m.over (lone (Connect t link child parent spot) refl fares is agrees) (over_same x (connection x t link child parent spot))),
      )

  link_there : (link : Name) (given : Bool) → has_form (link_of s link) given ≡ true → (d : LinkDef) × (link_of s link ≡ Some d)
  link_there link given form = let of = form_of (link_of s link) given form in (of.0, of.1)

  pub transfer_disconnect : (link : Name) (child : Tid) (item : Item) (over : ℕ) → refusal s (Disconnect t link child) ≡ None → chain_with (now s).contents link child ≡ Some item
      → Holds (granted t (needs (now s) (Disconnect t link child)) s.locks) t item X → Base (granted t (needs (now s) (Disconnect t link child)) s.locks)
      → Goes (Disconnect t link child) (Ok Done) (changed (disconnection s t item child) over (locked (Disconnect t link child) s))
  transfer_disconnect link child item over is found hold agrees =
      let fares = fares_disconnect s kept t b m link child in
      let agreed_now = agreed (Disconnect t link child) refl fares is agrees in
      let there = some_of (link_of s link) (holds (is_some (link_of s link)) _ (all_none (tests s (Disconnect t link child)) is 1 None (omega arith))) in
      let its_chain_with = chain_alike s kept t b m (Disconnect t link child) link there.0 child X agreed_now there.1 (disconnect_child s kept t b m link child there.0 there.1) in
      let same : disconnection x t item child ≡ disconnection s t item child = ap (λ (o : Option Content). chain_change t item (tuples_in o) (without child (tuples_in o))) (sym (agreed_now.items item X hold)) in
      let later = (changed (disconnection x t item child) m.over (locked (Disconnect t link child) x)).meter in (
        later,
        subst (λ (y : State). LoneStep x (Disconnect t link child) (Ok Done) y)
            (ap (λ (c : Change). state_of s.size x.base later (c ∷ own t s.changes) x.marks (granted t (needs (now x) (Disconnect t link child)) (only_locks t s.locks)) x.scans) same
            ∙ changed_same (Disconnect t link child) (disconnection s t item child) later refl (its_needs (Disconnect t link child) refl fares is agrees))
            (disconnects t link child item m.over (lone (Disconnect t link child) refl fares is agrees) (sym its_chain_with ∙ found) (over_same x (disconnection x t item child))),
      )

  parent_with : (link : Name) (child : Tid) → refusal s (Parent t link child) ≡ None → Base (granted t (needs (now s) (Parent t link child)) s.locks) → chain_with (now s).contents link child ≡ chain_with seen link child
  parent_with link child is agrees =
      let agreed_now = agreed (Parent t link child) refl (fares_parent s kept t b m link child) is agrees in
      let there = link_there link true (holds (has_form (link_of s link) true) _ (all_none (tests s (Parent t link child)) is 1 None (omega arith))) in
      chain_alike s kept t b m (Parent t link child) link there.0 child S agreed_now there.1 (parent_child s kept t b m link child there.0 there.1)

  pub transfer_find : (link : Name) (child parent : Tid) (item : Item) → refusal s (Parent t link child) ≡ None → chain_with (now s).contents link child ≡ Some item → parent_of item ≡ Some parent → Base (granted t (needs (now s) (Parent t link child)) s.locks)
      → Goes (Parent t link child) (Ok (Identifier parent)) (locked (Parent t link child) s)
  transfer_find link child parent item is found has agrees = (
    m,
    subst (λ (y : State). LoneStep x (Parent t link child) (Ok (Identifier parent)) y) (lone_locked (Parent t link child) (its_needs (Parent t link child) refl (fares_parent s kept t b m link child) is agrees))
        (finds t link child parent item (lone (Parent t link child) refl (fares_parent s kept t b m link child) is agrees) (sym (parent_with link child is agrees) ∙ found) has),
  )

  pub transfer_find_none : (link : Name) (child : Tid) → refusal s (Parent t link child) ≡ None → chain_with (now s).contents link child ≡ None → Base (granted t (needs (now s) (Parent t link child)) s.locks)
      → Goes (Parent t link child) (Ok Nothing) (locked (Parent t link child) s)
  transfer_find_none link child is found agrees = (
    m,
    subst (λ (y : State). LoneStep x (Parent t link child) (Ok Nothing) y) (lone_locked (Parent t link child) (its_needs (Parent t link child) refl (fares_parent s kept t b m link child) is agrees))
        (finds_none t link child (lone (Parent t link child) refl (fares_parent s kept t b m link child) is agrees) (sym (parent_with link child is agrees) ∙ found)),
  )

  -- ---- scans

  pub transfer_open : (call : Call) (number : ℕ) (path : Path) → caller call ≡ Some t → Fares s (alone t b m s) call (After s kept t b m call) → refusal s call ≡ None → path_of call ≡ Some path → number < number_limit → finite.get s.scans number ≡ None
      → Base (locked call s).locks → Goes call (Ok (Number number)) (with_scan number (new_scan t path) (locked call s))
  transfer_open call number path by fares is along low free agrees =
      let its : Base (granted t (needs (now s) call) s.locks) = subst (λ (k : State). Base k.locks) (ap (λ (c : Option ℕ). locked_by c call s) by) agrees in
      let same : with_scan number (new_scan t path) (locked call x) ≡ alone t b m (with_scan number (new_scan t path) (locked call s)) =
      ap (λ (c : Option ℕ). with_scan number (new_scan t path) (locked_by c call x)) by
      ∙ state_is s.size x.base m refl refl (lone_locks call (its_needs call by fares is its)) (scans_set t number (new_scan t path) s.scans refl)
      ∙ sym (ap (λ (c : Option ℕ). alone t b m (with_scan number (new_scan t path) (locked_by c call s))) by) in (
        m,
        subst (λ (y : State). LoneStep x call (Ok (Number number)) y) same
            (opens call t number path (lone call by fares is its) by along low (scans_at t s.scans number ∙ ap (option_and_then (if_by t)) free)),
      )

  now_alike : Base s.locks → Agrees t s.locks s.base.definitions (now s).contents seen
  now_alike agrees = now_agrees s kept.apart (guards_of kept) kept.chained t b agrees

  next_same : Base s.locks → (n : ℕ) (scan : Scan) → scan_of s.scans t n ≡ Some scan → next_of_scan (now s) scan ≡ next_of_scan (now x) scan
  next_same agrees n scan has = by scan.path scan.last refl
    where
      of : (relation : Name) × (path_relation s.base scan.path ≡ Some relation) × Holds s.locks t (Relation relation) S
      of = its_relation s kept t b m n scan has

      row : (names : List Name) (r : Name) → r ≡ of.0 → entries_by (now s) r names ≡ entries_by (now x) r names
      row names r same = entries_same s.base.definitions r names (now s).contents seen (λ tid. (now_alike agrees).rows r (subst (λ (k : Name). Holds s.locks t (Relation k) S) (sym same) of.2) tid)

      image_at : (o : Option ImageDef) → option_map (λ (d : ImageDef). d.relation) o ≡ Some of.0 → unwrap_or (option_map (image_list (now s)) o) [] ≡ unwrap_or (option_map (image_list (now x)) o) []
      image_at None e = refl
      image_at (Some d) e = row d.fields d.relation (same_Some _ _ e)

      by : (p : Path) (last : Option Entry) → scan.path ≡ p → next_along (now s) p last ≡ next_along (now x) p last
      by (RelationPath r) last e = ap (next_entry None last) (row [] r (same_Some _ _ (ap (path_relation s.base) (sym e) ∙ of.1)))
      by (ImagePath image start) last e = ap (next_entry start last) (image_at (finite.get s.base.definitions.images image) (ap (path_relation s.base) (sym e) ∙ of.1))
      by (LinkPath link parent) last e = ap (λ (o : Option Content). option_map (entry []) (next_in_chain (tuples_in o) last)) (its_chain s kept t b m (now_alike agrees) n scan link parent has e)

  pub transfer_give : (number : ℕ) (scan : Scan) (given : Entry) (values : List Value) → refusal s (Next t number) ≡ None → scan_of s.scans t number ≡ Some scan → GivesNext s scan given values → Base s.locks
      → Goes (Next t number) (Ok (Row given.tid values)) (with_scan number (with_given scan given) s)
  transfer_give number scan given values is has next agrees =
      let of = its_relation s kept t b m number scan has in
      let relation : next.relation ≡ of.0 = same_Some _ _ (sym next.along ∙ of.1) in (
        m,
        subst (λ (y : State). LoneStep x (Next t number) (Ok (Row given.tid values)) y) (state_is s.size x.base m refl refl refl (scans_set t number (with_given scan given) s.scans (its_scan s.scans t number scan has).1))
            (gives t number scan given values (lone (Next t number) refl (fares_next_at agrees number) is agrees) (scan_alone t s.scans number ∙ has) (record {
              next = sym (next_same agrees number scan has) ∙ next.next;
              relation = next.relation;
              along = next.along;
              has = sym ((now_alike agrees).rows next.relation (subst (λ (k : Name). Holds s.locks t (Relation k) S) (sym relation) of.2) given.tid) ∙ next.has;
            })),
      )
    where
      fares_next_at : Base s.locks → (n : ℕ) → Fares s (alone t b m s) (Next t n) (After s kept t b m (Next t n))
      fares_next_at agrees n = fares_next s kept t b m n

  pub transfer_stop : (number : ℕ) (scan : Scan) → refusal s (Next t number) ≡ None → scan_of s.scans t number ≡ Some scan → next_of_scan (now s) scan ≡ None → Base s.locks → Goes (Next t number) (Ok AtEnd) s
  transfer_stop number scan is has next agrees = (m, stops t number scan (lone (Next t number) refl (fares_next s kept t b m number) is agrees) (scan_alone t s.scans number ∙ has) (sym (next_same agrees number scan has) ∙ next))

  pub transfer_close : (number : ℕ) → refusal s (CloseScan t number) ≡ None → Base s.locks → Goes (CloseScan t number) (Ok Done) (record s { scans = finite.remove s.scans number })
  transfer_close number is agrees = (m, subst (λ (y : State). LoneStep x (CloseScan t number) (Ok Done) y) (state_is s.size x.base m refl refl refl (scans_cut t number s.scans)) (closes t number (lone (CloseScan t number) refl (fares_close s kept t b m number) is agrees)))

  pub transfer_lock : (item : Item) (exclusive : Bool) → refusal s (Lock t item exclusive) ≡ None → LocksGranule (Lock t item exclusive) → Base (granted t (needs (now s) (Lock t item exclusive)) s.locks) → Goes (Lock t item exclusive) (Ok Done) (locked (Lock t item exclusive) s)
  transfer_lock item exclusive is granule agrees = (
    m,
    subst (λ (y : State). LoneStep x (Lock t item exclusive) (Ok Done) y) (lone_locked (Lock t item exclusive) (its_needs (Lock t item exclusive) refl (fares_lock s kept t b m item exclusive) is agrees))
        (locks t item exclusive (lone (Lock t item exclusive) refl (fares_lock s kept t b m item exclusive) is agrees) granule),
  )
