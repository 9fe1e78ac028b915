-- What each call is refused for, but for the rules on room: its other tests.
use Rattle.std.proofs.Common.{◌≡◌, Bool, true, false, ℕ, List, [], ◌∷◌, ◌++◌, refl, ◌∙◌, ap}
use Rattle.std.specs.Prelude.{Option, Some, None, is_some, option_map, option_and_then, if◌then◌else◌, map as list_map}
use Rattle.std.specs.List.{AllByRecursion}
use Rattle.std.specs.Option.{option_or}
use Rattle.rss_base.specs.declared.name.Name.{Name}
use Rattle.rss_base.specs.declared.tid.Tid.{Tid}
use Rattle.rss_base.specs.declared.spot.Spot.{Spot}
use Rattle.rss_base.specs.declared.value.Value.{Value}
use Rattle.rss_base.specs.declared.value.FieldForm.{FieldForm}
use Rattle.rss_base.specs.TupleTypes.{misfit}
use Rattle.rss_base.specs.declared.item.Item.{Item}
use Rattle.rss_base.specs.declared.item.Item.TheVariants.{Segment, Relation, Tuple as TupleItem, Chain as ChainItem, Key as KeyItem}
use Rattle.rss_base.specs.declared.call.Call.TheVariants.{Begin, Save, Restore, End, Abort, Insert, Fetch, Update, Delete, Connect, Disconnect, Parent, OpenRelation, OpenImage, OpenLink, Next, CloseScan, Lock, Checkpoint}
use Rattle.rss_base.specs.declared.call.Call.{Call}
use Rattle.rss_base.specs.declared.refusal.Refusal.{Refusal}
use Rattle.rss_base.specs.declared.refusal.Kind.TheVariants.{Relation as RelationKind, Link as LinkKind, Image as ImageKind, Scan as ScanKind, Segment as SegmentKind}
use Rattle.rss_base.specs.declared.refusal.LimitKind.TheVariants.{Tuples, Identifiers, Scans}
use Rattle.rss_base.specs.declared.refusal.Refusal.TheVariants.{NoTransaction, AlreadyOpen, TooMany, NoSuch, Limit, BadTuple, NoTuple, Duplicate, Connected, NotConnected, NoSave, LogFull}
use Rattle.rss_model.specs.Tables.{ImageDef, LinkDef, fields_of}
use Rattle.rss_model.specs.Images.{Entry, unique_images}
use Rattle.rss_model.specs.Changes.{Change}
use Rattle.rss_model.specs.Machine.{State, is_open}
use Rattle.rss_model.specs.Scans.{Path, RelationPath, ImagePath, LinkPath, Scan, scan_of}
use Rattle.rss_model.specs.Rules.{Verdict, GoesOn, SavesFirst, NoRoom, NoLogRoom, refusal_by, verdict, if_no_room, if_no_log_room}
use Rattle.rss_model.specs.Defining.{refused_unless, refused_if, is_segment, is_relation}
use Rattle.rss_model.specs.Refusals.{first_of, busy, change_of, unless_open, unless_defined, misfit_of, if_used_up, unless_free, unless_live, if_busy_for, if_owned, if_duplicate, if_full, link_of, image_of, has_form, unless_link_form, unless_child, unless_live_below, unless_parent, unless_spot, if_connected, if_scans_used_up, unless_key_fits, unless_scan, unless_in_chain, unless_lost, unless_saved, unless_granule}
use Rattle.rss_plain.specs.Judging.{but, is_of_room, judged}
use Rattle.rss_plain.specs.Tests.{if_open, if_too_many, unless_image, unless_link, if_in_chain, unless_in_chain_of}

-- ---- lists of tests

-- it isn't left out
abbrev pub Kept : Option Refusal → Type 0
Kept test = but is_of_room test ≡ test

abbrev pub AllKept : List (Option Refusal) → Type 0
AllKept tests = AllByRecursion Kept tests

pub first_kept : (tests : List (Option Refusal)) → AllKept tests
    → first_of (list_map (but is_of_room) tests) ≡ first_of tests
first_kept [] kept = refl
first_kept (None ∷ tests) kept = first_kept tests kept.1
first_kept (Some why ∷ tests) kept = ap (λ (o : Option Refusal). first_of (o ∷ list_map (but is_of_room) tests)) kept.0

-- one more test is left out
pub first_room : (tests : List (Option Refusal)) (full : Option Refusal) → AllKept tests → but is_of_room full ≡ None
    → first_of (list_map (but is_of_room) (tests ++ full ∷ [])) ≡ first_of tests
first_room [] full kept none = ap (λ (o : Option Refusal). first_of (o ∷ [])) none
first_room (None ∷ tests) full kept none = first_room tests full kept.1 none
first_room (Some why ∷ tests) full kept none =
    ap (λ (o : Option Refusal). first_of (o ∷ list_map (but is_of_room) (tests ++ full ∷ []))) kept.0

-- the same, test by test
abbrev pub ors : Option Refusal → List (Option Refusal) → Option Refusal
ors first [] = first
ors first (next ∷ rest) = ors (option_or first next) rest

pub first_ors : (first : Option Refusal) (rest : List (Option Refusal)) → first_of (first ∷ rest) ≡ ors first rest
first_ors None [] = refl
first_ors (Some why) [] = refl
first_ors None (next ∷ rest) = first_ors next rest
first_ors (Some why) (next ∷ rest) = first_ors (Some why) rest

pub kept_ors : (first : Option Refusal) (rest : List (Option Refusal)) → AllKept (first ∷ rest)
    → first_of (list_map (but is_of_room) (first ∷ rest)) ≡ ors first rest
kept_ors first rest kept = first_kept (first ∷ rest) kept ∙ first_ors first rest

pub room_ors : (first : Option Refusal) (rest : List (Option Refusal)) (full : Option Refusal)
    → AllKept (first ∷ rest) → but is_of_room full ≡ None
    → first_of (list_map (but is_of_room) (first ∷ (rest ++ full ∷ []))) ≡ ors first rest
room_ors first rest full kept none = first_room (first ∷ rest) full kept none ∙ first_ors first rest

-- ---- single tests

pub kept_if : (b : Bool) (why : Refusal) → is_of_room why ≡ false → Kept (refused_if b why)
kept_if true why off = rw off refl
kept_if false why off = refl

pub kept_unless : (b : Bool) (why : Refusal) → is_of_room why ≡ false → Kept (refused_unless b why)
kept_unless true why off = refl
kept_unless false why off = rw off refl

pub kept_map : {A : Type 0} (f : A → Refusal) (o : Option A) → ((a : A) → is_of_room (f a) ≡ false)
    → Kept (option_map f o)
kept_map f None off = refl
kept_map f (Some a) off = rw (off a) refl

pub kept_and : {A : Type 0} (f : A → Option Refusal) (o : Option A) → ((a : A) → Kept (f a))
    → Kept (option_and_then f o)
kept_and f None each = refl
kept_and f (Some a) each = each a

pub kept_first : {A : Type 0} (f : A → Option Refusal) (xs : List A) → ((a : A) → Kept (f a))
    → Kept (first_of (list_map f xs))
kept_first f [] each = refl
kept_first f (x ∷ xs) each = by (f x) (each x) (kept_first f xs each)
  where
    by : (o : Option Refusal) → Kept o → Kept (first_of (list_map f xs)) → Kept (first_of (o ∷ list_map f xs))
    by None one rest = rest
    by (Some why) one rest = one

pub room_full : (state : State) (o : Option Change) → but is_of_room (option_and_then (if_no_room state) o) ≡ None
room_full state None = refl
room_full state (Some c) = by (verdict state c)
  where
    by : (v : Verdict) → but is_of_room (refusal_by v) ≡ None
    by GoesOn = refl
    by SavesFirst = refl
    by (NoRoom a b) = refl
    by (NoLogRoom a b) = refl

-- ---- tests of calls

module _ (state : State) where
  kept_open : (t : ℕ) → Kept (unless_open state t)
  kept_open t = kept_unless (is_open state t) NoTransaction refl

  kept_defined : (relation : Name) → Kept (unless_defined state relation)
  kept_defined relation = kept_unless (is_some (fields_of state.base relation)) (NoSuch RelationKind) refl

  kept_misfit : (fields : Option (List FieldForm)) (values : List Value) → Kept (misfit_of fields values)
  kept_misfit None values = refl
  kept_misfit (Some fields) values = kept_map BadTuple (misfit fields values) (λ n. refl)

  kept_live : (relation : Name) (tid : Tid) → Kept (unless_live state relation tid)
  kept_live relation tid = kept_unless _ (NoTuple relation tid) refl

  kept_busy : (t : ℕ) (call : Call) → Kept (if_busy_for state t call)
  kept_busy t call = kept_map busy _ (λ bar. refl)

  kept_form : (link : Name) (given : Bool) → Kept (unless_link_form state link given)
  kept_form link given = kept_unless (has_form (link_of state link) given) (NoSuch LinkKind) refl

  kept_child : (link : Option LinkDef) (child : Tid) → Kept (unless_child state link child)
  kept_child None child = refl
  kept_child (Some link) child = kept_live link.child child

  kept_below : (relation : Option Name) (parent : Option Tid) → Kept (unless_live_below state relation parent)
  kept_below None parent = refl
  kept_below (Some relation) None = refl
  kept_below (Some relation) (Some parent) = kept_live relation parent

  kept_parent : (link : Option LinkDef) (parent : Option Tid) → Kept (unless_parent state link parent)
  kept_parent None parent = refl
  kept_parent (Some link) parent = kept_below link.parent parent

  kept_key : (image : Option ImageDef) (start : Option (List Value)) → Kept (unless_key_fits state image start)
  kept_key None start = refl
  kept_key (Some image) None = refl
  kept_key (Some image) (Some key) = kept_map BadTuple _ (λ n. refl)

  kept_chain : (path : Path) (last : Option Entry) → Kept (unless_in_chain state path last)
  kept_chain (RelationPath relation) last = refl
  kept_chain (ImagePath image start) last = refl
  kept_chain (LinkPath link parent) None = refl
  kept_chain (LinkPath link parent) (Some given) = kept_unless _ (NotConnected link) refl

  kept_lost : (t scan : ℕ) → Kept (unless_lost state t scan)
  kept_lost t scan = kept_and (λ (open_scan : Scan). unless_in_chain state open_scan.path open_scan.last)
      (scan_of state.scans t scan) (λ s. kept_chain s.path s.last)

  kept_granule : (item : Item) → Kept (unless_granule state item)
  kept_granule (Segment name) = kept_unless (is_segment state name) (NoSuch SegmentKind) refl
  kept_granule (Relation name) = kept_unless (is_relation state name) (NoSuch RelationKind) refl
  kept_granule (TupleItem relation tid) = refl
  kept_granule (ChainItem link parent) = refl
  kept_granule (KeyItem image values) = refl

  kept_duplicate : (relation : Name) (besides : Option Tid) (values : List Value)
      → Kept (if_duplicate state relation besides values)
  kept_duplicate relation besides values = kept_first (if_owned state besides values)
      (unique_images state.base.definitions relation) (λ image. kept_map (Duplicate image.0) _ (λ tid. refl))

-- ---- calls

pub judged_begin : (state : State) (t : ℕ) → judged state (Begin t) ≡ ors (if_open state t) (if_too_many state ∷ [])
unfolding judged
judged_begin state t = kept_ors (if_open state t) (if_too_many state ∷ [])
    (kept_if _ AlreadyOpen refl, (kept_if _ TooMany refl, tt))

pub judged_save : (state : State) (t : ℕ) → judged state (Save t) ≡ unless_open state t
unfolding judged
judged_save state t = kept_ors (unless_open state t) [] (kept_open state t, tt)

pub judged_restore : (state : State) (t save : ℕ)
    → judged state (Restore t save) ≡ ors (unless_open state t) (unless_saved state t save ∷ [])
unfolding judged
judged_restore state t save = kept_ors (unless_open state t) (unless_saved state t save ∷ [])
    (kept_open state t, (kept_unless _ NoSave refl, tt))

pub judged_end : (state : State) (t : ℕ) → judged state (End t) ≡ unless_open state t
unfolding judged
judged_end state t = kept_ors (unless_open state t) [] (kept_open state t, tt)

pub judged_abort : (state : State) (t : ℕ) → judged state (Abort t) ≡ unless_open state t
unfolding judged
judged_abort state t = kept_ors (unless_open state t) [] (kept_open state t, tt)

pub judged_lock : (state : State) (t : ℕ) (item : Item) (exclusive : Bool) → judged state (Lock t item exclusive)
    ≡ ors (unless_open state t) (unless_granule state item ∷ if_busy_for state t (Lock t item exclusive) ∷ [])
unfolding judged
judged_lock state t item exclusive = kept_ors (unless_open state t)
    (unless_granule state item ∷ if_busy_for state t (Lock t item exclusive) ∷ [])
    (kept_open state t, (kept_granule state item, (kept_busy state t (Lock t item exclusive), tt)))

pub judged_fetch : (state : State) (t : ℕ) (relation : Name) (tid : Tid) → judged state (Fetch t relation tid)
    ≡ ors (unless_open state t)
    (unless_defined state relation ∷ if_busy_for state t (Fetch t relation tid) ∷ unless_live state relation tid
    ∷ [])
unfolding judged
judged_fetch state t relation tid = kept_ors (unless_open state t)
    (unless_defined state relation ∷ if_busy_for state t (Fetch t relation tid) ∷ unless_live state relation tid ∷ []) (
      kept_open state t,
      (kept_defined state relation, (kept_busy state t (Fetch t relation tid), (kept_live state relation tid, tt))),
    )

pub judged_insert : (state : State) (t : ℕ) (relation : Name) (values : List Value)
    → judged state (Insert t relation values)
    ≡ ors (unless_open state t)
    (unless_defined state relation ∷ misfit_of (fields_of state.base relation) values ∷ if_used_up state relation
    ∷ unless_free state t relation ∷ if_busy_for state t (Insert t relation values)
    ∷ if_duplicate state relation None values ∷ [])
unfolding judged
judged_insert state t relation values =
    room_ors (unless_open state t)
    (unless_defined state relation ∷ misfit_of (fields_of state.base relation) values ∷ if_used_up state relation
    ∷ unless_free state t relation ∷ if_busy_for state t (Insert t relation values)
    ∷ if_duplicate state relation None values ∷ [])
    (if_full state (Insert t relation values)) (
      kept_open state t,
      (
        kept_defined state relation,
        (
          kept_misfit state (fields_of state.base relation) values,
          (
            kept_if _ (Limit Tuples) refl,
            (
              kept_unless _ (Limit Identifiers) refl,
              (kept_busy state t (Insert t relation values), (kept_duplicate state relation None values, tt)),
            ),
          ),
        ),
      ),
    )
    (room_full state (change_of state (Insert t relation values)))

pub judged_update : (state : State) (t : ℕ) (relation : Name) (tid : Tid) (values : List Value)
    → judged state (Update t relation tid values)
    ≡ ors (unless_open state t)
    (unless_defined state relation ∷ misfit_of (fields_of state.base relation) values ∷ if_busy_for state t
    (Update t relation tid values) ∷ unless_live state relation tid ∷ if_duplicate state relation
    (Some tid) values ∷ [])
unfolding judged
judged_update state t relation tid values =
    room_ors (unless_open state t)
    (unless_defined state relation ∷ misfit_of (fields_of state.base relation) values ∷ if_busy_for state t
    (Update t relation tid values) ∷ unless_live state relation tid ∷ if_duplicate state relation
    (Some tid) values ∷ [])
    (if_full state (Update t relation tid values)) (
      kept_open state t,
      (
        kept_defined state relation,
        (
          kept_misfit state (fields_of state.base relation) values,
          (
            kept_busy state t (Update t relation tid values),
            (kept_live state relation tid, (kept_duplicate state relation (Some tid) values, tt)),
          ),
        ),
      ),
    )
    (room_full state (change_of state (Update t relation tid values)))

pub judged_delete : (state : State) (t : ℕ) (relation : Name) (tid : Tid) → judged state (Delete t relation tid)
    ≡ ors (unless_open state t)
    (unless_defined state relation ∷ if_busy_for state t (Delete t relation tid) ∷ unless_live state relation tid
    ∷ if_connected state relation tid ∷ [])
unfolding judged
judged_delete state t relation tid =
    room_ors (unless_open state t)
    (unless_defined state relation ∷ if_busy_for state t (Delete t relation tid) ∷ unless_live state relation tid
    ∷ if_connected state relation tid ∷ [])
    (if_full state (Delete t relation tid)) (
      kept_open state t,
      (
        kept_defined state relation,
        (
          kept_busy state t (Delete t relation tid),
          (kept_live state relation tid, (kept_map Connected _ (λ link. refl), tt)),
        ),
      ),
    )
    (room_full state (change_of state (Delete t relation tid)))

pub judged_connect : (state : State) (t : ℕ) (link : Name) (child : Tid) (parent : Option Tid) (spot : Spot)
    → judged state (Connect t link child parent spot)
    ≡ ors (unless_open state t)
    (unless_link_form state link (is_some parent) ∷ if_busy_for state t (Connect t link child parent spot)
    ∷ unless_child state (link_of state link) child ∷ unless_parent state (link_of state link) parent
    ∷ if_in_chain state link child ∷ unless_spot state link parent spot ∷ [])
unfolding judged
judged_connect state t link child parent spot =
    room_ors (unless_open state t)
    (unless_link_form state link (is_some parent) ∷ if_busy_for state t (Connect t link child parent spot)
    ∷ unless_child state (link_of state link) child ∷ unless_parent state (link_of state link) parent
    ∷ if_in_chain state link child ∷ unless_spot state link parent spot ∷ [])
    (if_full state (Connect t link child parent spot)) (
      kept_open state t,
      (
        kept_form state link (is_some parent),
        (
          kept_busy state t (Connect t link child parent spot),
          (
            kept_child state (link_of state link) child,
            (
              kept_parent state (link_of state link) parent,
              (kept_if _ (Connected link) refl, (kept_unless _ (NotConnected link) refl, tt)),
            ),
          ),
        ),
      ),
    )
    (room_full state (change_of state (Connect t link child parent spot)))

pub judged_disconnect : (state : State) (t : ℕ) (link : Name) (child : Tid) → judged state (Disconnect t link child)
    ≡ ors (unless_open state t)
    (unless_link state link ∷ if_busy_for state t (Disconnect t link child) ∷ unless_child state
    (link_of state link) child ∷ unless_in_chain_of state link child ∷ [])
unfolding judged
judged_disconnect state t link child =
    room_ors (unless_open state t)
    (unless_link state link ∷ if_busy_for state t (Disconnect t link child) ∷ unless_child state
    (link_of state link) child ∷ unless_in_chain_of state link child ∷ [])
    (if_full state (Disconnect t link child)) (
      kept_open state t,
      (
        kept_unless _ (NoSuch LinkKind) refl,
        (
          kept_busy state t (Disconnect t link child),
          (kept_child state (link_of state link) child, (kept_unless _ (NotConnected link) refl, tt)),
        ),
      ),
    )
    (room_full state (change_of state (Disconnect t link child)))

pub judged_parent : (state : State) (t : ℕ) (link : Name) (child : Tid) → judged state (Parent t link child)
    ≡ ors (unless_open state t)
    (unless_link_form state link true ∷ if_busy_for state t (Parent t link child) ∷ unless_child state
    (link_of state link) child ∷ [])
unfolding judged
judged_parent state t link child = kept_ors (unless_open state t)
    (unless_link_form state link true ∷ if_busy_for state t (Parent t link child) ∷ unless_child state
    (link_of state link) child ∷ []) (
      kept_open state t,
      (
        kept_form state link true,
        (kept_busy state t (Parent t link child), (kept_child state (link_of state link) child, tt)),
      ),
    )

pub judged_open_relation : (state : State) (t : ℕ) (relation : Name) → judged state (OpenRelation t relation)
    ≡ ors (unless_open state t)
    (unless_defined state relation ∷ if_scans_used_up state ∷ if_busy_for state t (OpenRelation t relation) ∷ [])
unfolding judged
judged_open_relation state t relation = kept_ors (unless_open state t)
    (unless_defined state relation ∷ if_scans_used_up state ∷ if_busy_for state t (OpenRelation t relation) ∷ []) (
      kept_open state t,
      (
        kept_defined state relation,
        (kept_if _ (Limit Scans) refl, (kept_busy state t (OpenRelation t relation), tt)),
      ),
    )

pub judged_open_image : (state : State) (t : ℕ) (image : Name) (start : Option (List Value))
    → judged state (OpenImage t image start)
    ≡ ors (unless_open state t)
    (unless_image state image ∷ unless_key_fits state (image_of state image) start ∷ if_scans_used_up state
    ∷ if_busy_for state t (OpenImage t image start) ∷ [])
unfolding judged
judged_open_image state t image start = kept_ors (unless_open state t)
    (unless_image state image ∷ unless_key_fits state (image_of state image) start ∷ if_scans_used_up state
    ∷ if_busy_for state t (OpenImage t image start) ∷ []) (
      kept_open state t,
      (
        kept_unless _ (NoSuch ImageKind) refl,
        (
          kept_key state (image_of state image) start,
          (kept_if _ (Limit Scans) refl, (kept_busy state t (OpenImage t image start), tt)),
        ),
      ),
    )

pub judged_open_link : (state : State) (t : ℕ) (link : Name) (parent : Option Tid)
    → judged state (OpenLink t link parent)
    ≡ ors (unless_open state t)
    (unless_link_form state link (is_some parent) ∷ if_scans_used_up state ∷ if_busy_for state t
    (OpenLink t link parent) ∷ unless_parent state (link_of state link) parent ∷ [])
unfolding judged
judged_open_link state t link parent = kept_ors (unless_open state t)
    (unless_link_form state link (is_some parent) ∷ if_scans_used_up state ∷ if_busy_for state t
    (OpenLink t link parent) ∷ unless_parent state (link_of state link) parent ∷ []) (
      kept_open state t,
      (
        kept_form state link (is_some parent),
        (
          kept_if _ (Limit Scans) refl,
          (kept_busy state t (OpenLink t link parent), (kept_parent state (link_of state link) parent, tt)),
        ),
      ),
    )

pub judged_next : (state : State) (t scan : ℕ)
    → judged state (Next t scan) ≡ ors (unless_open state t) (unless_scan state t scan ∷ unless_lost state t scan ∷ [])
unfolding judged
judged_next state t scan = kept_ors (unless_open state t) (unless_scan state t scan ∷ unless_lost state t scan ∷ [])
    (kept_open state t, (kept_unless _ (NoSuch ScanKind) refl, (kept_lost state t scan, tt)))

pub judged_close : (state : State) (t scan : ℕ)
    → judged state (CloseScan t scan) ≡ ors (unless_open state t) (unless_scan state t scan ∷ [])
unfolding judged
judged_close state t scan = kept_ors (unless_open state t) (unless_scan state t scan ∷ [])
    (kept_open state t, (kept_unless _ (NoSuch ScanKind) refl, tt))

pub judged_checkpoint : (state : State) → judged state Checkpoint ≡ None
unfolding judged
judged_checkpoint state = first_room [] (if_no_log_room state) tt (room_if _ (LogFull _ _) refl)
  where
    room_if : (b : Bool) (why : Refusal) → is_of_room why ≡ true → but is_of_room (if b then Some why else None) ≡ None
    room_if true why of = rw of refl
    room_if false why of = refl
