-- A run commits what its transactions commit one after another.
use Rattle.std.proofs.Common.{◌≡◌, ◌<◌, ◌⊎◌, inl, inr, ⊎_elim, ℕ, ◌+◌, Bool, true, false, List, [], ◌∷◌, ◌++◌, length, take, drop, refl, sym, ◌∙◌, ap, subst, arith}
use Rattle.std.specs.Prelude.{Option, Some, None, is_some, option_map, option_and_then, slice_get, nat_lt, if◌then◌else◌, Ok, Err, reverse}
use Rattle.std.specs.Ordering.{nat_cmp}
use Rattle.std.specs.FinMap as finite
use Rattle.std.specs.FinMap.{get-empty}
use Rattle.std.proofs.lemmas.List.{reverse-append}
use Rattle.std.proofs.lemmas.Option.{same_Some}
use Rattle.rss_base.specs.declared.name.Name.{Name}
use Rattle.rss_base.specs.declared.tid.Tid.{Tid}
use Rattle.rss_base.specs.declared.value.Value.{Value}
use Rattle.rss_base.specs.declared.item.Item.{Item}
use Rattle.rss_base.specs.declared.item.Item.TheVariants.{Tuple, Chain}
use Rattle.rss_base.specs.declared.need.Need.{Need}
use Rattle.rss_base.specs.declared.need.Mode.TheVariants.{X}
use Rattle.rss_base.specs.declared.call.Call.{Call}
use Rattle.rss_base.specs.declared.call.Call.TheVariants.{Begin, Save, Restore, End, Abort, Insert, Fetch, Update, Delete, Connect, Disconnect, Parent, OpenRelation, OpenImage, OpenLink, Next, CloseScan, Lock, Checkpoint, MakeSegment, MakeRelation, MakeImage, MakeLink, DropSegment, DropRelation, DropImage, DropLink}
use Rattle.rss_base.specs.declared.answer.Reply.TheVariants.{Ok as Done, Tid as Identifier, Number, Tuple as TupleReply, Row, End as AtEnd, Nothing as NoReply}
use Rattle.rss_base.specs.declared.refusal.Refusal.{Refusal}
use Rattle.rss_base.specs.declared.refusal.Refusal.TheVariants.{NoTransaction, AlreadyOpen, TooMany, TransactionsOpen, NoTuple, Duplicate, Connected, NotConnected, Full}
use Rattle.rss_model.specs.Items.{Content}
use Rattle.rss_model.specs.Tables.{LinkDef, Definitions, Tables, Contents, content}
use Rattle.rss_model.specs.Changes.{Change, own, others, after, Chained}
use Rattle.rss_model.specs.Fits.{Fits}
use Rattle.rss_model.specs.Locks.{Locks, held, Holds, granted, with_lock, released}
use Rattle.rss_model.specs.Scans.{Path, Scan, Scans, if_by, number_limit, scan_of, new_scan, closed}
use Rattle.rss_model.specs.Meter.{Meter, room_number}
use Rattle.rss_model.specs.Machine.{StoreSize, State, IsIdle, now, is_open}
use Rattle.rss_model.specs.Callers.{caller, is_definition}
use Rattle.rss_model.specs.Needs.{need, needs}
use Rattle.rss_model.specs.Rules.{saved_now, if_no_room_for}
use Rattle.rss_model.specs.Defining.{defined, DefinesNames, refused_unless, refused_if, if_any_open, with_image, if_repeated, image_def, if_link_holds_tuples}
use Rattle.rss_model.specs.Refusals.{Answer, first_of, tests, refusal, insertion, replacement, deletion, connection, disconnection}
use Rattle.rss_model.specs.Steps.{Step, keeps_locks, locked_by, locked, left_by, IsFree, changed, holding, left_at, own_count, restored, gone, ended, path_of, with_scan, with_given, redefined}
use Rattle.rss_model.specs.Steps.StepBy.{refuses, begins, saves, restores, ends, aborts, inserts, fetches, updates, deletes, connects, disconnects, finds, finds_none, opens, gives, stops, closes, locks, checkpoints, defines}
use Rattle.rss_model.specs.Runs.{Turn, Run}
use Rattle.rss_model.specs.Runs.Run.{stays, turns}
use Rattle.rss_model.specs.Serial.{is_of_others, but_of_others, lone_refusal, LoneStep, Part, Stays, Defines, Nothing, part_of_call, part_of_refused, part_of, stretch_from, stretch, stretch_of, kept_from, kept_turns, IsSerial}
use Rattle.rss_model.specs.Kept.{Kept}
use Rattle.rss_model.proofs.LogLists.{by_test, by_same, false_true, none_some}
use Rattle.rss_model.proofs.Locking.{holds_more, holds_it}
use Rattle.rss_model.proofs.Mixing.{In, own_off, own-others, own-cut_other, in_cut}
use Rattle.rss_model.proofs.Testing.{all_none, holds, clears}
use Rattle.rss_model.proofs.OpenKeeping.{guards_to, keeps_granted, keeps_meter, keeps_refused}
use Rattle.rss_model.proofs.ChangeKeeping.{guards_of, not_many}
use Rattle.rss_model.proofs.TupleKeeping.{keeps_insert, keeps_update, keeps_delete}
use Rattle.rss_model.proofs.ChainKeeping.{keeps_connect, keeps_disconnect, chain_found}
use Rattle.rss_model.proofs.EndKeeping.{keeps_begin, keeps_save, keeps_restore, keeps_abort, keeps_end, insert_here, remove_here, after_none, in_others, in_own, chained_up, lone_kept}
use Rattle.rss_model.proofs.ScanKeeping.{keeps_opening, keeps_giving, keeps_closing, its_scan}
use Rattle.rss_model.proofs.Redefining.{none_open}
use Rattle.rss_model.proofs.StepKeeping.{own_up, steps_keep, rest_keeps, none_is_open}
use Rattle.rss_model.proofs.Alone.{Marks, alone, shut, state_of, marks_unset, marks_left, marks_end, locks_unset, lock_unset, locks_left, locks_end, if_not, scans_unset, scans_uncut, scans_left, scans_end, own_own, others_own}
use Rattle.rss_model.proofs.Steady.{Agrees, agrees_less, agrees_itself, agrees_then, now_agrees, end_agrees}
use Rattle.rss_model.proofs.LoneTests.{AllSame, to_of, lone_first}
use Rattle.rss_model.proofs.Faring.{Fares, After, fares_on, fares_begin, fares_save, fares_restore, fares_end, fares_abort, fares_insert, fares_fetch, fares_update, fares_delete, fares_connect, fares_disconnect, fares_parent, fares_open_relation, fares_open_image, fares_open_link, fares_next, fares_close, fares_lock}
use Rattle.rss_model.proofs.Transfer.{transfer_refused, transfer_begin, transfer_save, transfer_restore, transfer_fetch, transfer_update, transfer_delete, transfer_insert, transfer_connect, transfer_disconnect, transfer_find, transfer_find_none, transfer_open, transfer_give, transfer_stop, transfer_close, transfer_lock}
use Rattle.rss_model.proofs.Telling.{Lone, still, more, to_serial, lone_then, stretch_none, stretch_here, stretch_off, IsInsert, IdsHeld, RunsAlone, base_with, Told, alone_shut, Unseen, NewAt}
use Rattle.rss_model.proofs.TellingSteps.{goes_on, leaves, left_out}

abbrev turn_with : Call → Answer → Turn
turn_with call answer = record { call = call; answer = answer }

-- ---- which call it is

module _ (s : State) (kept : Kept s) (t : ℕ) (b : Contents) (m : Meter) where
  abbrev FaresBy : ℕ → Call → Type 0
  FaresBy v call = Fares s (alone v b m s) call (After s kept v b m call)

  fares_of : (call : Call) → caller call ≡ Some t → Fares s (alone t b m s) call (After s kept t b m call)
  fares_of (Begin u) by = subst (λ (v : ℕ). FaresBy v (Begin u)) (same_Some _ _ by) (fares_begin s kept u b m)
  fares_of (Save u) by = subst (λ (v : ℕ). FaresBy v (Save u)) (same_Some _ _ by) (fares_save s kept u b m)
  fares_of (Restore u save) by = subst (λ (v : ℕ). FaresBy v (Restore u save)) (same_Some _ _ by) (fares_restore s kept u b m save)
  fares_of (End u) by = subst (λ (v : ℕ). FaresBy v (End u)) (same_Some _ _ by) (fares_end s kept u b m)
  fares_of (Abort u) by = subst (λ (v : ℕ). FaresBy v (Abort u)) (same_Some _ _ by) (fares_abort s kept u b m)
  fares_of (Insert u relation values) by = subst (λ (v : ℕ). FaresBy v (Insert u relation values)) (same_Some _ _ by) (fares_insert s kept u b m relation values)
  fares_of (Fetch u relation tid) by = subst (λ (v : ℕ). FaresBy v (Fetch u relation tid)) (same_Some _ _ by) (fares_fetch s kept u b m relation tid)
  fares_of (Update u relation tid values) by = subst (λ (v : ℕ). FaresBy v (Update u relation tid values)) (same_Some _ _ by) (fares_update s kept u b m relation tid values)
  fares_of (Delete u relation tid) by = subst (λ (v : ℕ). FaresBy v (Delete u relation tid)) (same_Some _ _ by) (fares_delete s kept u b m relation tid)
  fares_of (Connect u link child parent spot) by = subst (λ (v : ℕ). FaresBy v (Connect u link child parent spot)) (same_Some _ _ by) (fares_connect s kept u b m link child parent spot)
  fares_of (Disconnect u link child) by = subst (λ (v : ℕ). FaresBy v (Disconnect u link child)) (same_Some _ _ by) (fares_disconnect s kept u b m link child)
  fares_of (Parent u link child) by = subst (λ (v : ℕ). FaresBy v (Parent u link child)) (same_Some _ _ by) (fares_parent s kept u b m link child)
  fares_of (OpenRelation u relation) by = subst (λ (v : ℕ). FaresBy v (OpenRelation u relation)) (same_Some _ _ by) (fares_open_relation s kept u b m relation)
  fares_of (OpenImage u image start) by = subst (λ (v : ℕ). FaresBy v (OpenImage u image start)) (same_Some _ _ by) (fares_open_image s kept u b m image start)
  fares_of (OpenLink u link parent) by = subst (λ (v : ℕ). FaresBy v (OpenLink u link parent)) (same_Some _ _ by) (fares_open_link s kept u b m link parent)
  fares_of (Next u n) by = subst (λ (v : ℕ). FaresBy v (Next u n)) (same_Some _ _ by) (fares_next s kept u b m n)
  fares_of (CloseScan u n) by = subst (λ (v : ℕ). FaresBy v (CloseScan u n)) (same_Some _ _ by) (fares_close s kept u b m n)
  fares_of (Lock u item exclusive) by = subst (λ (v : ℕ). FaresBy v (Lock u item exclusive)) (same_Some _ _ by) (fares_lock s kept u b m item exclusive)
  fares_of call by = none_some by

first_open : (o : Bool) (rest : List (Option Refusal)) (r : Option Refusal) → first_of (refused_unless o NoTransaction ∷ rest) ≡ r → (r ≡ Some NoTransaction → ⊥) → o ≡ true
first_open true rest r is off = refl
first_open false rest r is off = absurd (off (sym is))

begin_open : (o full : Bool) (why : Refusal) → first_of (refused_if o AlreadyOpen ∷ refused_if full TooMany ∷ []) ≡ Some why → is_of_others why ≡ false → o ≡ true
begin_open true full why is off = refl
begin_open false true why is off = false_true (ap is_of_others (sym (same_Some _ _ is))) off
begin_open false false why is off = none_some is

-- the first test of a call of a transaction is that it is open, but for its begin
open_first : (s : State) (t : ℕ) (call : Call) → caller call ≡ Some t → (call ≡ Begin t) ⊎ ((rest : List (Option Refusal)) × (tests s call ≡ refused_unless (is_open s t) NoTransaction ∷ rest))
open_first s t (Begin u) by = inl (cc)
open_first s t call by = inr (drop 1 (tests s call), cc)

-- a call that is refused for something else has its transaction open
refused_open : (s : State) (t : ℕ) (call : Call) (why : Refusal) → caller call ≡ Some t → refusal s call ≡ Some why → (why ≡ NoTransaction → ⊥) → is_of_others why ≡ false → is_open s t ≡ true
refused_open s t call why by is not' off = ⊎_elim
    (λ e. begin_open (is_open s t) _ why (ap (refusal s) (sym e) ∙ is) off)
    (λ front. first_open (is_open s t) front.0 (Some why) (ap first_of (sym front.1) ∙ is) (λ e. not' (same_Some _ _ e)))
    (open_first s t call by)

-- a scan is opened by a call that stays, of an open transaction
opening : (s : State) (t : ℕ) (call : Call) (path : Path) → caller call ≡ Some t → path_of call ≡ Some path → refusal s call ≡ None → (part_of_call call ≡ Stays) × (is_open s t ≡ true)
opening s t (OpenRelation u relation) path by along is = (refl, subst (λ (v : ℕ). is_open s v ≡ true) (same_Some _ _ by) (first_open (is_open s u) _ None is (λ e. none_some e)))
opening s t (OpenImage u image start) path by along is = (refl, subst (λ (v : ℕ). is_open s v ≡ true) (same_Some _ _ by) (first_open (is_open s u) _ None is (λ e. none_some e)))
opening s t (OpenLink u link parent) path by along is = (refl, subst (λ (v : ℕ). is_open s v ≡ true) (same_Some _ _ by) (first_open (is_open s u) _ None is (λ e. none_some e)))
opening s t call path by along is = none_some along

-- what hangs on others keeps no locks
others_keep : (why : Refusal) → is_of_others why ≡ true → keeps_locks why ≡ false
others_keep (NoTuple relation tid) of = absurd (cc (of))
others_keep (Duplicate image tid) of = absurd (cc (of))
others_keep (Connected link) of = absurd (cc (of))
others_keep (NotConnected link) of = absurd (cc (of))
others_keep why of = refl

refused_part : (call : Call) (why : Refusal) → ((part_of_refused call why ≡ Nothing) × ((is_definition call ≡ true) ⊎ (keeps_locks why ≡ false))) ⊎ ((part_of_refused call why ≡ Stays) × (is_of_others why ≡ false) × (why ≡ NoTransaction → ⊥))
refused_part call NoTransaction = inl (refl, inr refl)
refused_part call why = by_test (is_definition call)
    (λ e. inl (ap (λ (d : Bool). if d then Nothing else (if is_of_others why then Nothing else Stays)) e, inl e))
    (λ e. by_test (is_of_others why)
    (λ f. inl (ap (λ (d : Bool). if d then Nothing else (if is_of_others why then Nothing else Stays)) e ∙ ap (λ (o : Bool). if o then Nothing else Stays) f, inr (others_keep why f)))
    (λ f. inr (ap (λ (d : Bool). if d then Nothing else (if is_of_others why then Nothing else Stays)) e ∙ ap (λ (o : Bool). if o then Nothing else Stays) f, f, λ g. absurd (cc (g)))))

no_definition : (call : Call) (t : ℕ) → caller call ≡ Some t → is_definition call ≡ true → ⊥
no_definition Checkpoint t by is = none_some by
no_definition call t by is = cc

defines_so : (call : Call) (before next : Tables) → defined call before ≡ Some next → (caller call ≡ None) × (part_of_call call ≡ Defines)
defines_so (End t) before next so = absurd (cc)
defines_so call before next so = (cc, cc)

-- the tests of a definition, where nothing is open
define_same : (s : State) (m : Meter) (call : Call) (next : Tables) → defined call s.base ≡ Some next → s.marks ≡ finite.empty → AllSame (tests s call) (tests (shut s.size s.base m) call)
define_same s m call next so closed = by call so
  where
    any : but_of_others (if_any_open s) ≡ but_of_others (if_any_open (shut s.size s.base m))
    any = ap (λ (marks : Marks). but_of_others (option_map TransactionsOpen (slice_get (finite.keys marks) 0))) closed

    room : (x : State) (d : Definitions) → but_of_others (if_no_room_for x d) ≡ None
    room x d = full (nat_lt x.size.slots (room_number d (saved_now x)))
      where
        full : (o : Bool) → but_of_others (if o then Some (Full x.size.slots (room_number d (saved_now x))) else None) ≡ None
        full true = refl
        full false = refl

    by : (call : Call) → defined call s.base ≡ Some next → AllSame (tests s call) (tests (shut s.size s.base m) call)
    by (MakeSegment name) so = (any, (refl, (refl, tt)))
    by (MakeRelation name segment fields) so = (any, (refl, (refl, (refl, (refl, (refl, tt))))))
    by (MakeImage name relation unique fields) so = (any, (refl, (refl, (refl, (refl, (refl, (refl, (repeated unique, (room s (with_image s.base.definitions name (image_def relation unique fields)) ∙ sym (room (shut s.size s.base m) (with_image s.base.definitions name (image_def relation unique fields))), tt)))))))))
      where
        repeated : (u : Bool) → but_of_others (if_repeated s name u (image_def relation unique fields)) ≡ but_of_others (if_repeated (shut s.size s.base m) name u (image_def relation unique fields))
        repeated true = refl
        repeated false = refl
    by (MakeLink name parent child) so = (any, (refl, (refl, (refl, (refl, (refl, tt))))))
    by (DropSegment name) so = (any, (refl, (refl, tt)))
    by (DropRelation name) so = (any, (refl, (refl, tt)))
    by (DropImage name) so = (any, (refl, tt))
    by (DropLink name) so = (any, (refl, (link, tt)))
      where
        link : but_of_others (if_link_holds_tuples s (finite.get s.base.definitions.links name)) ≡ but_of_others (if_link_holds_tuples (shut s.size s.base m) (finite.get s.base.definitions.links name))
        link = at (finite.get s.base.definitions.links name)
          where
            at : (o : Option LinkDef) → but_of_others (if_link_holds_tuples s o) ≡ but_of_others (if_link_holds_tuples (shut s.size s.base m) o)
            at None = refl
            at (Some d) = refl
    by call so = none_some so

-- ---- one turn more

told_meter : {start : State} {h : List Turn} {s : State} → Told start h s → (meter : Meter) → Told start h (record s { meter = meter })
told_meter told meter = record { kept = keeps_meter told.kept meter; ended = told.ended; idle = told.idle; each = told.each; ids = told.ids }

module _ {start : State} {h : List Turn} {s : State} (told : Told start h s) where
  kept : Kept s
  kept = told.kept

  -- locks alone
  unseen_locks : (t u : ℕ) (list : List Need) → (u ≡ t → ⊥) → Unseen u s s.changes s.marks (granted t list s.locks) s.scans
  unseen_locks t u list off = record { same_changes = refl; same_marks = refl; same_locks = locks_unset t u list s.locks off; same_scans = refl }

  unseen_change : (t u : ℕ) (list : List Need) (c : Change) → c.by ≡ t → (u ≡ t → ⊥) → Unseen u s (c ∷ s.changes) s.marks (granted t list s.locks) s.scans
  unseen_change t u list c by off = record { same_changes = own_off u c s.changes (λ e. off (sym e ∙ by)); same_marks = refl; same_locks = locks_unset t u list s.locks off; same_scans = refl }

  goes_locked : (t : ℕ) (call : Call) (answer : Answer) → caller call ≡ Some t → part_of call answer ≡ Stays → is_open s t ≡ true → Kept (record s { locks = granted t (needs (now s) call) s.locks })
      → ((relation : Name) (tid : Tid) → IsInsert (turn_with call answer) relation tid → ⊥)
      → ((b : Contents) (m : Meter) → Agrees t (granted t (needs (now s) call) s.locks) s.base.definitions s.base.contents b → (later : Meter) × LoneStep (alone t b m s) call answer (alone t b later (record s { locks = granted t (needs (now s) call) s.locks })))
      → Told start (turn_with call answer ∷ h) (record s { locks = granted t (needs (now s) call) s.locks })
  goes_locked t call answer by part opened kept_now none transfer = goes_on told t (turn_with call answer) by s.changes s.marks (granted t (needs (now s) call) s.locks) s.scans s.meter part kept_now opened
      (λ i m hold. holds_more t (needs (now s) call) s.locks t i m hold) (λ u off. unseen_locks t u (needs (now s) call) off) (λ c is. inl is) (λ relation tid is. absurd (none relation tid is)) (λ b m agrees either. transfer b m agrees)

  goes_changed : (t : ℕ) (call : Call) (answer : Answer) (c : Change) (meter : Meter) → caller call ≡ Some t → part_of call answer ≡ Stays → is_open s t ≡ true → c.by ≡ t → NewAt s t c
      → Kept (record s { changes = c ∷ s.changes; locks = granted t (needs (now s) call) s.locks; meter = meter })
      → ((relation : Name) (tid : Tid) → IsInsert (turn_with call answer) relation tid → ⊥)
      → ((b : Contents) (m : Meter) → Agrees t (granted t (needs (now s) call) s.locks) s.base.definitions s.base.contents b → (later : Meter) × LoneStep (alone t b m s) call answer (alone t b later (record s { changes = c ∷ s.changes; locks = granted t (needs (now s) call) s.locks; meter = meter })))
      → Told start (turn_with call answer ∷ h) (record s { changes = c ∷ s.changes; locks = granted t (needs (now s) call) s.locks; meter = meter })
  goes_changed t call answer c meter by part opened its new kept_now none transfer = goes_on told t (turn_with call answer) by (c ∷ s.changes) s.marks (granted t (needs (now s) call) s.locks) s.scans meter part kept_now opened
      (λ i m hold. holds_more t (needs (now s) call) s.locks t i m hold) (λ u off. unseen_change t u (needs (now s) call) c its off)
      (λ d is. ⊎_elim (λ e. inr (subst (λ (k : Change). (k.by ≡ t) × NewAt s t k) e (its, new))) (λ old. inl old) is) (λ relation tid is. absurd (none relation tid is)) (λ b m agrees either. transfer b m agrees)

  goes_same : (t : ℕ) (call : Call) (answer : Answer) (changes : List Change) (marks : Marks) (scans : Scans) (meter : Meter) → caller call ≡ Some t → part_of call answer ≡ Stays → Kept (record s { changes = changes; marks = marks; scans = scans; meter = meter })
      → is_some (finite.get marks t) ≡ true → ((u : ℕ) → (u ≡ t → ⊥) → Unseen u s changes marks s.locks scans) → ((c : Change) → In c changes → In c s.changes)
      → ((relation : Name) (tid : Tid) → IsInsert (turn_with call answer) relation tid → ⊥)
      → ((b : Contents) (m : Meter) → Agrees t s.locks s.base.definitions s.base.contents b → (later : Meter) × LoneStep (alone t b m s) call answer (alone t b later (record s { changes = changes; marks = marks; scans = scans; meter = meter })))
      → Told start (turn_with call answer ∷ h) (record s { changes = changes; marks = marks; scans = scans; meter = meter })
  goes_same t call answer changes marks scans meter by part kept_now opened unseen fewer none transfer = goes_on told t (turn_with call answer) by changes marks s.locks scans meter part kept_now opened
      (λ i m hold. hold) unseen (λ c is. inl (fewer c is)) (λ relation tid is. absurd (none relation tid is)) (λ b m agrees either. transfer b m agrees)

  opened_by : (t : ℕ) (call : Call) (rest : List (Option Refusal)) → tests s call ≡ refused_unless (is_open s t) NoTransaction ∷ rest → refusal s call ≡ None → is_open s t ≡ true
  opened_by t call rest same is = first_open (is_open s t) rest None (ap first_of (sym same) ∙ is) (λ e. none_some e)

  at_tuple : (relation : Name) (tid : Tid) (t : ℕ) (held : Content) → content (now s).contents (Tuple relation tid) ≡ Some held → (other : Name) (id : Tid) → Tuple relation tid ≡ Tuple other id → IsFree s t other id ⊎ (is_some (content (now s).contents (Tuple other id)) ≡ true)
  at_tuple relation tid t held there other id at = inr (ap (λ (i : Item). is_some (content (now s).contents i)) (sym at) ∙ ap is_some there)

  -- ---- an end

  told_end : (t : ℕ) → refusal s (End t) ≡ None → Told start (turn_with (End t) (Ok Done) ∷ h) (ended t s)
  told_end t is = leaves told t (turn_with (End t) (Ok Done)) refl (after s.base.contents (own t s.changes)) (others t s.changes) (finite.remove s.marks t) (released t s.locks) (closed t s.scans) (ended t s).meter refl
      (keeps_end kept t) (ap is_some (remove_here s.marks t t refl)) (λ u off. unseen_gone t u off) (λ c c_in. (in_others t s.changes c c_in).0)
      (λ i free. after_none s.base.contents i (own t s.changes) (λ c c_in at. free c (in_own t s.changes c c_in).0 at))
      (λ u off b agrees. agrees_then (end_agrees s kept.apart (guards_of kept) kept.chained u t (λ e. off (sym e)) chained_own) agrees)
      (its_end.0, its_end.1)
    where
      unseen_gone : (t u : ℕ) → (u ≡ t → ⊥) → Unseen u s (others t s.changes) (finite.remove s.marks t) (released t s.locks) (closed t s.scans)
      unseen_gone t u off = record { same_changes = own-others t u s.changes off; same_marks = marks_left t u s.marks off; same_locks = locks_left t u s.locks off; same_scans = scans_left t u s.scans off }

      chained_own : Chained s.base.contents (own t s.changes)
      chained_own = subst (Chained s.base.contents) (own_up t (length s.changes + 1) s.changes (not_many (length s.changes + 1) t s.changes (omega arith))) (chained_up s.base.contents _ s.changes (lone_kept kept) kept.chained)

      run : (later : Meter) × Lone (shut s.size s.base told.ended.0) (stretch t h) (alone t s.base.contents later s)
      run = told.each t s.base.contents told.ended.0 (agrees_itself s.base.contents) (λ relation other tid inserted segment. ⊎_elim (λ hold. inl hold) (λ none. inr none.0) ((told.ids t relation tid inserted).1 other segment))

      x : State
      x = alone t s.base.contents run.0 s

      its_end : (m : Meter) × Lone start (kept_turns (turn_with (End t) (Ok Done) ∷ h)) (shut s.size (base_with s (after s.base.contents (own t s.changes))) m)
      its_end = (
        (ended t (alone t s.base.contents run.0 s)).meter,
        more (turn_with (End t) (Ok Done)) (lone_then told.ended.1 run.1)
            (subst (λ (y : State). LoneStep (alone t s.base.contents run.0 s) (End t) (Ok Done) y)
            (λ i. state_of s.size (base_with s (after s.base.contents (own_own t s.changes i))) (ended t (alone t s.base.contents run.0 s)).meter (others_own t s.changes i) (marks_end t s.marks i) (locks_end t s.locks i) (scans_end t s.scans i))
            (ends t (fares_on (fares_end s kept t s.base.contents run.0) None (now_agrees s kept.apart (guards_of kept) kept.chained t s.base.contents (agrees_itself s.base.contents)) is (tt {0}) (tt {0})))),
      )

  told_abort : (t over : ℕ) → refusal s (Abort t) ≡ None → Told start (turn_with (Abort t) (Ok Done) ∷ h) (gone t over s)
  told_abort t over is = leaves told t (turn_with (Abort t) (Ok Done)) refl s.base.contents (others t s.changes) (finite.remove s.marks t) (released t s.locks) (closed t s.scans) (gone t over s).meter refl
      (keeps_abort kept t over) (ap is_some (remove_here s.marks t t refl))
      (λ u off. record { same_changes = own-others t u s.changes off; same_marks = marks_left t u s.marks off; same_locks = locks_left t u s.locks off; same_scans = scans_left t u s.scans off })
      (λ c c_in. (in_others t s.changes c c_in).0) (λ i free. refl) (λ u off b agrees. agrees) told.ended

  -- ---- an insert

  told_insert : (t : ℕ) (relation : Name) (values : List Value) (tid : Tid) (over : ℕ) → refusal s (Insert t relation values) ≡ None → IsFree s t relation tid
      → Told start (turn_with (Insert t relation values) (Ok (Identifier tid)) ∷ h) (changed (insertion t relation tid values) over (holding t (Tuple relation tid) (locked (Insert t relation values) s)))
  told_insert t relation values tid over is free = goes_on told t (turn_with (Insert t relation values) (Ok (Identifier tid))) refl (c ∷ s.changes) s.marks late s.scans (changed c over (holding t (Tuple relation tid) (locked (Insert t relation values) s))).meter refl
      new_kept (opened_by t (Insert t relation values) _ refl is)
      (λ i m hold. holds_more t (need (Tuple relation tid) X ∷ []) mid t i m (holds_more t list s.locks t i m hold))
      (λ u off. record { same_changes = own_off u c s.changes (λ e. off (sym e)); same_marks = refl; same_locks = lock_unset t u (need (Tuple relation tid) X) mid off ∙ locks_unset t u list s.locks off; same_scans = refl })
      (λ d d_in. ⊎_elim (λ e. inr (subst (λ (k : Change). (k.by ≡ t) × NewAt s t k) e (refl, λ other id at. inl (of_tuple other id at)))) (λ old. inl old) d_in)
      (λ r id of. let parts = same_insert r id of in (subst (λ (i : Item). Holds late t i X) (λ i. Tuple (parts.0 i) (parts.1 i)) (holds_it t (need (Tuple relation tid) X ∷ []) mid (need (Tuple relation tid) X) (inl refl)), (subst (λ (q : Name). IsFree s t q id) parts.0 (subst (λ (q : Tid). IsFree s t relation q) parts.1 free))))
      (λ b m agrees either. transfer_insert s kept t b m relation values tid over is free (agrees_less {a = s.base.contents} {b = b} (λ i mode hold. holds_more t (need (Tuple relation tid) X ∷ []) mid t i mode hold) agrees)
      (λ other segment. ⊎_elim (λ hold. inl ((now_agrees (record s { locks = late }) new_kept.apart (λ d d_in. guards_to new (record s { locks = late }) d refl (λ i mode held'. held') (guards_of new_kept d (inr d_in))) kept.chained t b agrees).items (Tuple other tid) X hold)) (λ none. inr none)
      (either relation other tid (record { by = t; values = values; call = refl; answer = refl }) segment)))
    where
      c : Change
      c = insertion t relation tid values

      list : List Need
      list = needs (now s) (Insert t relation values)

      mid : Locks
      mid = granted t (needs (now s) (Insert t relation values)) s.locks

      late : Locks
      late = with_lock t (need (Tuple relation tid) X) (granted t (needs (now s) (Insert t relation values)) s.locks)

      new : State
      new = changed (insertion t relation tid values) over (holding t (Tuple relation tid) (locked (Insert t relation values) s))

      new_kept : Kept (changed (insertion t relation tid values) over (holding t (Tuple relation tid) (locked (Insert t relation values) s)))
      new_kept = keeps_insert kept t relation values tid over is free

      of_tuple : (other : Name) (id : Tid) → Tuple relation tid ≡ Tuple other id → IsFree s t other id
      of_tuple other id at = subst (λ (q : Name). IsFree s t q id) names (subst (λ (q : Tid). IsFree s t relation q) tids free)
        where
          names : relation ≡ other
          names = cc (at)

          tids : tid ≡ id
          tids = cc (at)

      same_insert : (r : Name) (id : Tid) → IsInsert (turn_with (Insert t relation values) (Ok (Identifier tid))) r id → (relation ≡ r) × (tid ≡ id)
      same_insert r id of = (cc (of.call), cc (of.answer))

  -- ---- refused

  left_in : (t : ℕ) (call : Call) (why : Refusal) → caller call ≡ Some t → refusal s call ≡ Some why → part_of_refused call why ≡ Stays → is_of_others why ≡ false → (why ≡ NoTransaction → ⊥) → Told start (turn_with call (Err why) ∷ h) (left_by s call why)
  left_in t call why by is part off not' = by_test (keeps_locks why)
      (λ e.
      let same : left_by s call why ≡ record s { locks = granted t (needs (now s) call) s.locks } = ap (λ (k : Bool). if k then locked_by (caller call) call s else s) e ∙ ap (λ (o : Option ℕ). locked_by o call s) by in
      subst (Told start (turn_with call (Err why) ∷ h)) (sym same)
      (goes_locked t call (Err why) by part opened (subst Kept same (keeps_refused kept call why is)) (λ relation tid of. absurd (cc (of.answer)))
      (λ b m agrees. (m, subst (λ (y : State). LoneStep (alone t b m s) call (Err why) (alone t b m y)) same (transfer_refused s kept t b m call why by (fares_of s kept t b m call by) is off (subst (λ (y : State). Agrees t y.locks s.base.definitions s.base.contents b) (sym same) agrees))))))
      (λ e.
      let same : left_by s call why ≡ s = ap (λ (k : Bool). if k then locked_by (caller call) call s else s) e in
      subst (Told start (turn_with call (Err why) ∷ h)) (sym same)
      (goes_same t call (Err why) s.changes s.marks s.scans s.meter by part kept opened (λ u apart. record { same_changes = refl; same_marks = refl; same_locks = refl; same_scans = refl }) (λ c c_in. c_in) (λ relation tid of. absurd (cc (of.answer)))
      (λ b m agrees. (m, subst (λ (y : State). LoneStep (alone t b m s) call (Err why) (alone t b m y)) same (transfer_refused s kept t b m call why by (fares_of s kept t b m call by) is off (subst (λ (y : State). Agrees t y.locks s.base.definitions s.base.contents b) (sym same) agrees))))))
    where
      opened : is_open s t ≡ true
      opened = refused_open s t call why by is not' off

  told_refused : (call : Call) (why : Refusal) → refusal s call ≡ Some why → Told start (turn_with call (Err why) ∷ h) (left_by s call why)
  told_refused call why is = of (caller call) refl
    where
      of : (o : Option ℕ) → caller call ≡ o → Told start (turn_with call (Err why) ∷ h) (left_by s call why)
      of None by =
          let same : left_by s call why ≡ s = ap (λ (o : Option ℕ). if keeps_locks why then locked_by o call s else s) by ∙ either (keeps_locks why) in
          subst (Told start (turn_with call (Err why) ∷ h)) (sym same) (left_out told (turn_with call (Err why)) (λ u. stretch_none u (turn_with call (Err why)) h by)
          (⊎_elim (λ p. ap (λ (q : Part). kept_from q (turn_with call (Err why)) (stretch_of (caller call) h) (kept_turns h)) p.0) (λ p. ap (λ (q : Part). kept_from q (turn_with call (Err why)) (stretch_of (caller call) h) (kept_turns h)) p.0) (refused_part call why)))
        where
          either : (k : Bool) → (if k then s else s) ≡ s
          either true = refl
          either false = refl
      of (Some t) by = ⊎_elim
          (λ p. ⊎_elim (λ d. absurd (no_definition call t by d))
          (λ e.
          let same : left_by s call why ≡ s = ap (λ (k : Bool). if k then locked_by (caller call) call s else s) e in
          subst (Told start (turn_with call (Err why) ∷ h)) (sym same) (left_out told (turn_with call (Err why))
          (λ u. by_same u t
          (λ f. ap (λ (v : ℕ). stretch v (turn_with call (Err why) ∷ h)) f ∙ stretch_here t (turn_with call (Err why)) h by ∙ ap (λ (q : Part). stretch_from q (turn_with call (Err why)) (stretch t h)) p.0 ∙ ap (λ (v : ℕ). stretch v h) (sym f))
          (λ f. stretch_off u t (turn_with call (Err why)) h by f))
          (ap (λ (q : Part). kept_from q (turn_with call (Err why)) (stretch_of (caller call) h) (kept_turns h)) p.0)))
          p.1)
          (λ p. left_in t call why by is p.0 p.1 p.2)
          (refused_part call why)

  -- ---- a definition

  told_define : (call : Call) (next : Tables) → refusal s call ≡ None → DefinesNames call → defined call s.base ≡ Some next → Told start (turn_with call (Ok Done) ∷ h) (redefined next s)
  told_define call next is names so =
      let closed_now = none_open s call next is so in
      let part = defines_so call s.base next so in
      let closed_at : (u : ℕ) → is_open s u ≡ false = λ u. not_true (is_open s u) (λ has. none_is_open s closed_now u has) in
      let empty : (u : ℕ) → stretch u (turn_with call (Ok Done) ∷ h) ≡ [] = λ u. stretch_none u (turn_with call (Ok Done)) h part.0 ∙ told.idle u (closed_at u) in
      let kept_now = steps_keep s (redefined next s) call (Ok Done) (defines call next is names so) kept in
      let judge : lone_refusal (shut s.size s.base told.ended.0) call ≡ None = lone_first (tests s call) (tests (shut s.size s.base told.ended.0) call) None is (tt {0}) (to_of (tests s call) (tests (shut s.size s.base told.ended.0) call) (define_same s told.ended.0 call next so closed_now)) in
      record {
        kept = kept_now;
        ended = (
          (redefined next (shut s.size s.base told.ended.0)).meter,
          subst (λ (l : List Turn). Lone start l (redefined next (shut s.size s.base told.ended.0))) (sym (ap (λ (q : Part). kept_from q (turn_with call (Ok Done)) (stretch_of (caller call) h) (kept_turns h)) part.1))
              (more (turn_with call (Ok Done)) told.ended.1 (defines call next judge names so)),
        );
        idle = λ u none. empty u;
        each = λ u. subst (λ (l : List Turn). RunsAlone u l (redefined next s)) (sym (empty u)) (λ b m agrees free. (m, subst (λ (y : State). Lone (shut s.size (base_with (redefined next s) b) m) [] y) (sym (alone_shut kept_now u b m (closed_at u))) still));
        ids = λ u. subst (λ (l : List Turn). IdsHeld u l (redefined next s)) (sym (empty u)) (λ relation tid none. absurd none);
      }
    where
      not_true : (o : Bool) → (o ≡ true → ⊥) → o ≡ false
      not_true true off = absurd (off refl)
      not_true false off = refl

  -- ---- scans

  free_scan : (u t number : ℕ) (scan : Scan) → scan_of s.scans t number ≡ Some scan → (u ≡ t → ⊥) → scan_of s.scans u number ≡ None
  free_scan u t number scan has off = let its = its_scan s.scans t number scan has in ap (option_and_then (if_by u)) its.0 ∙ if_not u scan (λ f. off (sym f ∙ its.1))

  told_open : (call : Call) (t number : ℕ) (path : Path) → refusal s call ≡ None → caller call ≡ Some t → path_of call ≡ Some path → number < number_limit → finite.get s.scans number ≡ None
      → Told start (turn_with call (Ok (Number number)) ∷ h) (with_scan number (new_scan t path) (locked call s))
  told_open call t number path is by along low free =
      let of = opening s t call path by along is in
      let scans = finite.insert s.scans number (new_scan t path) in
      let same : locked call s ≡ record s { locks = granted t (needs (now s) call) s.locks } = ap (λ (o : Option ℕ). locked_by o call s) by in
      subst (λ (y : State). Told start (turn_with call (Ok (Number number)) ∷ h) (with_scan number (new_scan t path) y)) (sym same)
      (goes_on told t (turn_with call (Ok (Number number))) by s.changes s.marks (granted t (needs (now s) call) s.locks) (finite.insert s.scans number (new_scan t path)) s.meter of.0
      (subst (λ (y : State). Kept (with_scan number (new_scan t path) y)) same (keeps_opening kept call t number path is by along)) of.1
      (λ i m hold. holds_more t (needs (now s) call) s.locks t i m hold)
      (λ u off. record { same_changes = refl; same_marks = refl; same_locks = locks_unset t u (needs (now s) call) s.locks off; same_scans = scans_unset t u number (new_scan t path) s.scans refl off (ap (option_and_then (if_by u)) free) })
      (λ c is'. inl is') (λ relation tid is'. absurd (cc (is'.answer)))
      (λ b m agrees either. let went = transfer_open s kept t b m call number path by (fares_of s kept t b m call by) is along low free (subst (λ (y : State). Agrees t y.locks s.base.definitions s.base.contents b) (sym same) agrees) in
      (went.0, subst (λ (y : State). LoneStep (alone t b m s) call (Ok (Number number)) (alone t b went.0 (with_scan number (new_scan t path) y))) same went.1)))

  some_scan : (o : Option Scan) → is_some o ≡ true → (scan : Scan) × (o ≡ Some scan)
  some_scan None e = absurd (cc (e))
  some_scan (Some scan) e = (scan, refl)

  -- ---- any step

  told_step : (call : Call) (answer : Answer) (new : State) → Step s call answer new → Told start (turn_with call answer ∷ h) new
  told_step call answer new (refuses c why is) = told_refused c why is
  told_step call answer new (begins t is) = goes_same t (Begin t) (Ok Done) s.changes (finite.insert s.marks t []) s.scans s.meter refl refl (keeps_begin kept t is) (ap is_some (insert_here s.marks t [] t refl))
      (λ u off. record { same_changes = refl; same_marks = marks_unset t u s.marks [] off; same_locks = refl; same_scans = refl }) (λ c i. i) (λ relation tid of. absurd (cc (of.answer))) (λ b m agrees. transfer_begin s kept t b m is agrees)
  told_step call answer new (saves t marks is has) = goes_same t (Save t) (Ok (Number (length marks + 1))) s.changes (finite.insert s.marks t (marks ++ own_count s t ∷ [])) s.scans s.meter refl refl (keeps_save kept t marks has) (ap is_some (insert_here s.marks t (marks ++ own_count s t ∷ []) t refl))
      (λ u off. record { same_changes = refl; same_marks = marks_unset t u s.marks (marks ++ own_count s t ∷ []) off; same_locks = refl; same_scans = refl }) (λ c i. i) (λ relation tid of. absurd (cc (of.answer))) (λ b m agrees. transfer_save s kept t b m marks is has agrees)
  told_step call answer new (restores t save marks over is has undo) = goes_same t (Restore t save) (Ok Done) (restored t save marks over s).changes (finite.insert s.marks t (take save marks)) s.scans (restored t save marks over s).meter refl refl (keeps_restore kept t save marks over has) (ap is_some (insert_here s.marks t (take save marks) t refl))
      (λ u off. record { same_changes = own-cut_other t u (left_at marks save) s.changes off; same_marks = marks_unset t u s.marks (take save marks) off; same_locks = refl; same_scans = refl }) (λ c i. in_cut t (left_at marks save) s.changes c i) (λ relation tid of. absurd (cc (of.answer)))
      (λ b m agrees. transfer_restore s kept t b m save marks over is has agrees)
  told_step call answer new (ends t is) = told_end t is
  told_step call answer new (aborts t over is undo) = told_abort t over is
  told_step call answer new (inserts t relation values tid over is free counted) = told_insert t relation values tid over is free
  told_step call answer new (fetches t relation tid values is found) = goes_locked t (Fetch t relation tid) (Ok (TupleReply values)) refl refl (opened_by t (Fetch t relation tid) _ refl is)
      (keeps_granted kept t (needs (now s) (Fetch t relation tid)) (clears s t (Fetch t relation tid) None refl is (tt {0}))) (λ r i of. absurd (cc (of.answer))) (λ b m agrees. transfer_fetch s kept t b m relation tid values is found agrees)
  told_step call answer new (updates t relation tid was values over is found counted) =
      let kept_now = keeps_update kept t relation tid was values over is found in
      goes_changed t (Update t relation tid values) (Ok Done) (replacement t relation tid was values) new.meter refl refl (opened_by t (Update t relation tid values) _ refl is) refl (at_tuple relation tid t _ found) kept_now (λ r i of. absurd (cc (of.answer)))
      (λ b m agrees. transfer_update s kept t b m relation tid was values over is found (guards_of kept_now (replacement t relation tid was values) (inl refl)).item agrees)
  told_step call answer new (deletes t relation tid was over is found counted) =
      let kept_now = keeps_delete kept t relation tid was over is found in
      goes_changed t (Delete t relation tid) (Ok Done) (deletion t relation tid was) new.meter refl refl (opened_by t (Delete t relation tid) _ refl is) refl (at_tuple relation tid t _ found) kept_now (λ r i of. absurd (cc (of.answer)))
      (λ b m agrees. transfer_delete s kept t b m relation tid was over is found (guards_of kept_now (deletion t relation tid was) (inl refl)).item agrees)
  told_step call answer new (connects t link child parent spot over is counted) =
      let kept_now = keeps_connect kept t link child parent spot over is in
      goes_changed t (Connect t link child parent spot) (Ok Done) (connection s t link child parent spot) new.meter refl refl (opened_by t (Connect t link child parent spot) _ refl is) refl (λ other id at. absurd (cc (at))) kept_now (λ r i of. absurd (cc (of.answer)))
      (λ b m agrees. transfer_connect s kept t b m link child parent spot over is (guards_of kept_now (connection s t link child parent spot) (inl refl)).item agrees)
  told_step call answer new (disconnects t link child item over is found counted) =
      let kept_now = keeps_disconnect kept t link child over is item found in
      goes_changed t (Disconnect t link child) (Ok Done) (disconnection s t item child) new.meter refl refl (opened_by t (Disconnect t link child) _ refl is) refl (λ other id at. absurd (not_tuple (chain_found (now s).contents link child item found).0 other id (sym (chain_found (now s).contents link child item found).1 ∙ at))) kept_now (λ r i of. absurd (cc (of.answer)))
      (λ b m agrees. transfer_disconnect s kept t b m link child item over is found (guards_of kept_now (disconnection s t item child) (inl refl)).item agrees)
    where
      not_tuple : (p : Option Tid) (other : Name) (id : Tid) → Chain link p ≡ Tuple other id → ⊥
      not_tuple p other id e = cc (e)
  told_step call answer new (finds t link child parent item is has under) = goes_locked t (Parent t link child) (Ok (Identifier parent)) refl refl (opened_by t (Parent t link child) _ refl is)
      (keeps_granted kept t (needs (now s) (Parent t link child)) (clears s t (Parent t link child) None refl is (tt {0}))) (λ r i of. absurd (cc (of.call))) (λ b m agrees. transfer_find s kept t b m link child parent item is has under agrees)
  told_step call answer new (finds_none t link child is has) = goes_locked t (Parent t link child) (Ok NoReply) refl refl (opened_by t (Parent t link child) _ refl is)
      (keeps_granted kept t (needs (now s) (Parent t link child)) (clears s t (Parent t link child) None refl is (tt {0}))) (λ r i of. absurd (cc (of.call))) (λ b m agrees. transfer_find_none s kept t b m link child is has agrees)
  told_step call answer new (opens c t number path is by along low free) = told_open c t number path is by along low free
  told_step call answer new (gives t number scan given values is has next) = goes_same t (Next t number) (Ok (Row given.tid values)) s.changes s.marks (finite.insert s.scans number (with_given scan given)) s.meter refl refl (keeps_giving kept t number scan given has) (opened_by t (Next t number) _ refl is)
      (λ u off. record { same_changes = refl; same_marks = refl; same_locks = refl; same_scans = scans_unset t u number (with_given scan given) s.scans (its_scan s.scans t number scan has).1 off (free_scan u t number scan has off) }) (λ c i. i) (λ r i of. absurd (cc (of.call)))
      (λ b m agrees. transfer_give s kept t b m number scan given values is has next agrees)
  told_step call answer new (stops t number scan is has next) = goes_same t (Next t number) (Ok AtEnd) s.changes s.marks s.scans s.meter refl refl kept (opened_by t (Next t number) _ refl is)
      (λ u off. record { same_changes = refl; same_marks = refl; same_locks = refl; same_scans = refl }) (λ c i. i) (λ r i of. absurd (cc (of.call))) (λ b m agrees. transfer_stop s kept t b m number scan is has next agrees)
  told_step call answer new (closes t number is) =
      let scan = some_scan (scan_of s.scans t number) (holds (is_some (scan_of s.scans t number)) _ (all_none (tests s (CloseScan t number)) is 1 None (omega arith))) in
      goes_same t (CloseScan t number) (Ok Done) s.changes s.marks (finite.remove s.scans number) s.meter refl refl (keeps_closing kept number) (opened_by t (CloseScan t number) _ refl is)
      (λ u off. record { same_changes = refl; same_marks = refl; same_locks = refl; same_scans = scans_uncut u number s.scans (free_scan u t number scan.0 scan.1 off) }) (λ c i. i) (λ r i of. absurd (cc (of.call))) (λ b m agrees. transfer_close s kept t b m number is agrees)
  told_step call answer new (locks t item exclusive is granule) = goes_locked t (Lock t item exclusive) (Ok Done) refl refl (opened_by t (Lock t item exclusive) _ refl is)
      (keeps_granted kept t (needs (now s) (Lock t item exclusive)) (clears s t (Lock t item exclusive) None refl is (tt {0}))) (λ r i of. absurd (cc (of.answer))) (λ b m agrees. transfer_lock s kept t b m item exclusive is granule agrees)
  told_step call answer new (checkpoints is) = told_meter (left_out told (turn_with Checkpoint (Ok Done)) (λ u. stretch_none u (turn_with Checkpoint (Ok Done)) h refl) refl) (saved_now s)
  told_step call answer new (defines c definitions is names so) = told_define c definitions is names so

-- ---- whole runs

told_first : (size : StoreSize) (tables : Tables) (start : State) → IsIdle size tables start → Fits size.slots tables → Told start [] start
told_first size tables start idle fit =
    let kept = rest_keeps size tables start idle fit in
    let same : start ≡ shut start.size start.base start.meter = λ i. state_of start.size start.base start.meter (idle.none_changed i) (idle.none_open i) (idle.none_locked i) (idle.none_scanned i) in
    record {
      kept = kept;
      ended = (start.meter, subst (Lone start []) same still);
      idle = λ u closed. refl;
      each = λ u b m agrees free. (m, subst (λ (y : State). Lone (shut start.size (base_with start b) m) [] y) (sym (alone_shut kept u b m (ap (λ (marks : Marks). is_some (finite.get marks u)) idle.none_open ∙ ap is_some (get-empty nat_cmp u)))) still);
      ids = λ u relation tid none. absurd none;
    }

tell : {start s : State} {made : List Turn} → Told start [] start → Run start made s → Told start (reverse made) s
tell first stays = first
tell {start = start} {s = s} first (turns {made = made} {state = mid} turn run step) =
    subst (λ (l : List Turn). Told start l s) (sym (reverse-append made (turn ∷ []))) (told_step (tell first run) turn.call turn.answer s step)

pub is_serial : IsSerial
is_serial size tables start last made idle fit run =
    let told = tell (told_first size tables start idle fit) run in
    record { last = shut last.size last.base told.ended.0; run = to_serial told.ended.1; committed = refl }
