-- Each call of a transaction comes out alike where it is alone.
use Rattle.std.proofs.lemmas.Bool.{and_parts}
use Rattle.std.proofs.Common.{◌≡◌, inl, inr, ℕ, Bool, true, false, List, [], ◌∷◌, ◌++◌, length, refl, sym, ◌∙◌, ap, subst}
use Rattle.std.specs.Prelude.{Option, Some, None, is_some, option_map, option_and_then, unwrap_or, nat_le, ◌&&◌, map as list_map}
use Rattle.std.specs.List.{AllByRecursion}
use Rattle.std.specs.FinMap as finite
use Rattle.std.proofs.lemmas.Option.{same_Some}
use Rattle.std.specs.Cmp.{Equal-is}
use Rattle.rss_base.specs.declared.name.Name.{Name}
use Rattle.rss_base.specs.declared.tid.Tid.{Tid}
use Rattle.rss_base.specs.declared.value.Value.{Value}
use Rattle.rss_base.specs.declared.spot.Spot.{Spot}
use Rattle.rss_base.specs.declared.item.Item.{Item}
use Rattle.rss_base.specs.declared.item.Item.TheVariants.{Segment, Relation, Tuple, Chain, Key}
use Rattle.rss_base.specs.declared.need.Need.{Need}
use Rattle.rss_base.specs.declared.need.Mode.{Mode}
use Rattle.rss_base.specs.declared.need.Mode.TheVariants.{S, X}
use Rattle.rss_base.specs.declared.call.Call.{Call}
use Rattle.rss_base.specs.declared.call.Call.TheVariants.{Begin, Save, Restore, End, Abort, Insert, Fetch, Update, Delete, Connect, Disconnect, Parent, OpenRelation, OpenImage, OpenLink, Next, CloseScan, Lock}
use Rattle.rss_base.specs.declared.refusal.Refusal.{Refusal}
use Rattle.rss_base.specs.declared.refusal.Refusal.TheVariants.{NoTransaction, AlreadyOpen, TooMany, NoSuch, Limit, NoTuple, Duplicate, Connected, NotConnected, NoSave}
use Rattle.rss_base.specs.declared.refusal.LimitKind.TheVariants.{Tuples as TupleLimit, Identifiers as IdentifierLimit, Scans as ScanLimit}
use Rattle.rss_base.specs.declared.refusal.Kind.TheVariants.{Relation as RelationKind, Image as ImageKind, Link as LinkKind, Scan as ScanKind}
use Rattle.rss_model.specs.Items.{Content, Values, Tuples, parent_of, name_cmp, is_name}
use Rattle.rss_model.specs.Tables.{ImageDef, LinkDef, Contents, content, fields_of}
use Rattle.rss_model.specs.Chains.{tuples_in, stands_in, chain, chain_with, has_spot, is_this, is_connected, connected}
use Rattle.rss_model.specs.Images.{Entry, key_in, owner_of_key, unique_images}
use Rattle.rss_model.specs.Changes.{own, after}
use Rattle.rss_model.specs.Fits.{Fits, tuple_limit}
use Rattle.rss_model.specs.Locks.{Holds, granted, first_bar}
use Rattle.rss_model.specs.Scans.{Path, RelationPath, ImagePath, LinkPath, Scan, scans_most, scan_of, path_relation}
use Rattle.rss_model.specs.Meter.{Meter}
use Rattle.rss_model.specs.Machine.{State, now, is_open}
use Rattle.rss_model.specs.Needs.{need, needs, reading, changing, tuple_read, tuple_changed, tuple_keys, keys_where_live, chain_needs, connect_needs, disconnect_needs, needs_of_chain, parent_needs, upper_needs, link_scan_needs, reading_all, key_needs, key_need}
use Rattle.rss_model.specs.Defining.{refused_unless, refused_if}
use Rattle.rss_model.specs.Refusals.{is_same, misfit_of, first_of, tests, refusal, transaction_limit, unless_open, unless_defined, used_tuples, if_used_up, some_free, unless_free, unless_live, if_busy_for, if_owned, if_duplicate, if_full, change_of, link_of, has_form, unless_link_form, unless_child, unless_live_below, unless_parent, is_in_chain, unless_spot, if_connected, image_of, unless_key_fits, if_scans_used_up, unless_scan, unless_in_chain, unless_lost, saves_of, unless_saved, unless_granule}
use Rattle.rss_model.specs.Steps.{keeps_locks}
use Rattle.rss_model.specs.Serial.{is_of_others, but_of_others, lone_refusal}
use Rattle.rss_model.specs.Kept.{Kept}
use Rattle.rss_model.proofs.Codes.{name_total, name_apart}
use Rattle.rss_model.proofs.Locking.{holds_it}
use Rattle.rss_model.proofs.Mixing.{In, in_left, in_right, in_filter}
use Rattle.rss_model.proofs.Testing.{Early, Keeps, early_unless, early_if, early_fields, early_key, early_busy, passed_front, holds, key_needed}
use Rattle.rss_model.proofs.Viewing.{keyed_of}
use Rattle.rss_model.proofs.ChangeKeeping.{now_fits}
use Rattle.rss_model.proofs.ChainKeeping.{needs_it, needs_above, child_needs, form_of}
use Rattle.rss_model.proofs.Alone.{alone, marks_here, scan_alone}
use Rattle.rss_model.proofs.Steady.{Agrees}
use Rattle.rss_model.proofs.SeenAlike.{got_in, chain_same, owner_same, find_same, connected_same}
use Rattle.rss_model.proofs.ScanKeeping.{its_scan}
use Rattle.rss_model.proofs.LoneTests.{Same, AllSame, SameTo, same_append, to_of, NotOthers, Late, lone_first, early_first, first_front, both_if, both_unless, others_busy, others_full, late_full, late_unless, late_if, late_map, late_first, late_child, late_parent}
use Rattle.rss_model.proofs.LogLists.{none_some, some_of}

-- The tests before the locks come out alike; those behind them do so where the call has its locks.
pub record Fares (s x : State) (call : Call) (After : Type 0) : Type 0 where
  pub front : List (Option Refusal)
  pub back : List (Option Refusal)
  pub front' : List (Option Refusal)
  pub back' : List (Option Refusal)
  pub is : tests s call ≡ front ++ back
  pub is' : tests x call ≡ front' ++ back'
  pub early : AllByRecursion Early front
  pub late : AllByRecursion Late back
  pub same_front : AllSame front front'
  pub same_back : After → AllByRecursion (λ o. o ≡ None) front → SameTo back back'
  pub same_needs : After → needs (now s) call ≡ needs (now x) call

module _ {s x : State} {call : Call} {After : Type 0} (fares : Fares s x call After) where
  -- where it gets to its locks
  pub fares_on : (r : Option Refusal) → After → refusal s call ≡ r → Keeps r → NotOthers r → lone_refusal x call ≡ r
  fares_on r agrees is keeps off =
      let whole : first_of (fares.front ++ fares.back) ≡ r = ap first_of (sym fares.is) ∙ is in
      let none = passed_front fares.front fares.back r fares.early whole keeps in
      ap (λ (l : List (Option Refusal)). first_of (list_map but_of_others l)) fares.is'
      ∙ lone_first (fares.front ++ fares.back) (fares.front' ++ fares.back') r whole off (same_append fares.front fares.front' fares.back fares.back' fares.same_front (fares.same_back agrees none))

  -- and where it is refused before
  pub fares_early : (why : Refusal) → refusal s call ≡ Some why → keeps_locks why ≡ false → is_of_others why ≡ false → lone_refusal x call ≡ Some why
  fares_early why is keeps off =
      let front : first_of fares.front ≡ Some why = early_first fares.front fares.back why fares.late (ap first_of (sym fares.is) ∙ is) keeps off in
      ap (λ (l : List (Option Refusal)). first_of (list_map but_of_others l)) fares.is'
      ∙ first_front fares.front' fares.back' why (lone_first fares.front fares.front' (Some why) front off (to_of fares.front fares.front' fares.same_front))

map_same : {A B : Type 0} (f g : A → B) (xs : List A) → ((a : A) → In a xs → f a ≡ g a) → list_map f xs ≡ list_map g xs
map_same f g [] same = refl
map_same f g (a ∷ xs) same = λ i. same a (inl refl) i ∷ map_same f g xs (λ b is. same b (inr is)) i

module _ (s : State) (kept : Kept s) (t : ℕ) (b : Contents) (m : Meter) where
  abbrev x : State
  x = alone t b m s

  abbrev seen : Contents
  seen = after b (own t s.changes)

  abbrev pub After : Call → Type 0
  After call = Agrees t (granted t (needs (now s) call) s.locks) s.base.definitions (now s).contents (after b (own t s.changes))

  abbrev FaresAt : Call → Type 0
  FaresAt call = Fares s (alone t b m s) call (After call)

  open_same : is_open s t ≡ is_open x t
  open_same = ap is_some (sym (marks_here t s.marks t refl))

  same_open : Same (unless_open s t) (unless_open x t)
  same_open = ap (λ (o : Bool). but_of_others (refused_unless o NoTransaction)) open_same

  same_busy : (call : Call) → Same (if_busy_for s t call) (if_busy_for x t call)
  same_busy call = others_busy (first_bar s.locks t (needs (now s) call)) ∙ sym (others_busy (first_bar x.locks t (needs (now x) call)))

  same_full : (call : Call) → Same (if_full s call) (if_full x call)
  same_full call = others_full s (change_of s call) ∙ sym (others_full x (change_of x call))

  live_same : (relation : Name) (tid : Tid) → content (now s).contents (Tuple relation tid) ≡ content seen (Tuple relation tid) → Same (unless_live s relation tid) (unless_live x relation tid)
  live_same relation tid same = ap (λ (o : Option Content). but_of_others (refused_unless (is_some o) (NoTuple relation tid))) same

  fits : Fits s.size.slots (now s)
  fits = now_fits s kept.fit

  -- ---- calls with no locks

  pub fares_begin : FaresAt (Begin t)
  fares_begin = record {
    front = tests s (Begin t);
    back = [];
    front' = tests x (Begin t);
    back' = [];
    is = refl;
    is' = refl;
    early = (early_if (is_open s t) AlreadyOpen refl, (early_if (nat_le transaction_limit (finite.len s.marks)) TooMany refl, tt));
    late = tt;
    same_front = (ap (λ (o : Bool). but_of_others (refused_if o AlreadyOpen)) open_same, (both_if (nat_le transaction_limit (finite.len s.marks)) (nat_le transaction_limit (finite.len x.marks)) TooMany refl, tt));
    same_back = λ agrees none. tt;
    same_needs = λ agrees. refl;
  }

  pub fares_save : FaresAt (Save t)
  fares_save = record { front = unless_open s t ∷ []; back = []; front' = unless_open x t ∷ []; back' = []; is = refl; is' = refl; early = (early_unless (is_open s t) NoTransaction refl, tt); late = tt; same_front = (same_open, tt); same_back = λ agrees none. tt; same_needs = λ agrees. refl }

  pub fares_end : FaresAt (End t)
  fares_end = record { front = unless_open s t ∷ []; back = []; front' = unless_open x t ∷ []; back' = []; is = refl; is' = refl; early = (early_unless (is_open s t) NoTransaction refl, tt); late = tt; same_front = (same_open, tt); same_back = λ agrees none. tt; same_needs = λ agrees. refl }

  pub fares_abort : FaresAt (Abort t)
  fares_abort = record { front = unless_open s t ∷ []; back = []; front' = unless_open x t ∷ []; back' = []; is = refl; is' = refl; early = (early_unless (is_open s t) NoTransaction refl, tt); late = tt; same_front = (same_open, tt); same_back = λ agrees none. tt; same_needs = λ agrees. refl }

  pub fares_restore : (save : ℕ) → FaresAt (Restore t save)
  fares_restore save = record {
    front = unless_open s t ∷ unless_saved s t save ∷ [];
    back = [];
    front' = unless_open x t ∷ unless_saved x t save ∷ [];
    back' = [];
    is = refl;
    is' = refl;
    early = (early_unless (is_open s t) NoTransaction refl, (early_unless (nat_le save (saves_of s t)) NoSave refl, tt));
    late = tt;
    same_front = (same_open, (ap (λ (o : Option (List ℕ)). but_of_others (refused_unless (nat_le save (unwrap_or (option_map length o) 0)) NoSave)) (sym (marks_here t s.marks t refl)), tt));
    same_back = λ agrees none. tt;
    same_needs = λ agrees. refl;
  }

  same_scan : (n : ℕ) → Same (unless_scan s t n) (unless_scan x t n)
  same_scan n = ap (λ (o : Option Scan). but_of_others (refused_unless (is_some o) (NoSuch ScanKind))) (sym (scan_alone t s.scans n))

  pub fares_close : (n : ℕ) → FaresAt (CloseScan t n)
  fares_close n = record {
    front = unless_open s t ∷ unless_scan s t n ∷ [];
    back = [];
    front' = unless_open x t ∷ unless_scan x t n ∷ [];
    back' = [];
    is = refl;
    is' = refl;
    early = (early_unless (is_open s t) NoTransaction refl, (early_unless (is_some (scan_of s.scans t n)) (NoSuch ScanKind) refl, tt));
    late = tt;
    same_front = (same_open, (same_scan n, tt));
    same_back = λ agrees none. tt;
    same_needs = λ agrees. refl;
  }

  -- what an open scan reads
  pub its_relation : (n : ℕ) (scan : Scan) → scan_of s.scans t n ≡ Some scan → (relation : Name) × (path_relation s.base scan.path ≡ Some relation) × Holds s.locks t (Relation relation) S
  its_relation n scan has =
      let its = its_scan s.scans t n scan has in
      let along = some_of (path_relation s.base scan.path) (kept.along n scan its.0) in
      (along.0, along.1, subst (λ (u : ℕ). Holds s.locks u (Relation along.0) S) its.1 (kept.scanned n scan along.0 its.0 along.1))

  pub its_chain : Agrees t s.locks s.base.definitions (now s).contents (after b (own t s.changes)) → (n : ℕ) (scan : Scan) (link : Name) (parent : Option Tid) → scan_of s.scans t n ≡ Some scan → scan.path ≡ LinkPath link parent
      → content (now s).contents (Chain link parent) ≡ content (after b (own t s.changes)) (Chain link parent)
  its_chain agrees n scan link parent has path =
      let of = its_relation n scan has in
      let defined = by (finite.get s.base.definitions.links link) of.0 (ap (path_relation s.base) (sym path) ∙ of.1) in
      agrees.chains link defined.0 defined.1 (subst (λ (r : Name). Holds s.locks t (Relation r) S) defined.2 of.2) parent
    where
      by : (o : Option LinkDef) (r : Name) → option_map (λ (d : LinkDef). d.child) o ≡ Some r → (d : LinkDef) × (o ≡ Some d) × (r ≡ d.child)
      by None r e = none_some e
      by (Some d) r e = (d, refl, sym (same_Some _ _ e))

  lost_same : Agrees t s.locks s.base.definitions (now s).contents (after b (own t s.changes)) → (n : ℕ) → unless_lost s t n ≡ unless_lost x t n
  lost_same agrees n = by (scan_of s.scans t n) refl
    where
      along : (scan : Scan) (p : Path) (last : Option Entry) → scan_of s.scans t n ≡ Some scan → scan.path ≡ p → unless_in_chain s p last ≡ unless_in_chain x p last
      along scan (RelationPath r) last has path = refl
      along scan (ImagePath i start) last has path = refl
      along scan (LinkPath link parent) None has path = refl
      along scan (LinkPath link parent) (Some given) has path = ap (λ (o : Option Content). refused_unless (stands_in given.tid (tuples_in o)) (NotConnected link)) (its_chain agrees n scan link parent has path)

      by : (o : Option Scan) → scan_of s.scans t n ≡ o → unless_lost s t n ≡ unless_lost x t n
      by None is = ap (option_and_then (λ (sc : Scan). unless_in_chain s sc.path sc.last)) is ∙ sym (ap (option_and_then (λ (sc : Scan). unless_in_chain x sc.path sc.last)) (scan_alone t s.scans n ∙ is))
      by (Some scan) is = ap (option_and_then (λ (sc : Scan). unless_in_chain s sc.path sc.last)) is ∙ along scan scan.path scan.last is refl ∙ sym (ap (option_and_then (λ (sc : Scan). unless_in_chain x sc.path sc.last)) (scan_alone t s.scans n ∙ is))

  early_lost : (n : ℕ) → (why : Refusal) → unless_lost s t n ≡ Some why → (keeps_locks why ≡ true)
  early_lost n why is = by (scan_of s.scans t n) is
    where
      at : (p : Path) (last : Option Entry) → unless_in_chain s p last ≡ Some why → keeps_locks why ≡ true
      at (RelationPath r) last e = none_some e
      at (ImagePath i start) last e = none_some e
      at (LinkPath link parent) None e = none_some e
      at (LinkPath link parent) (Some given) e = one (stands_in given.tid (chain (now s).contents link parent)) e
        where
          one : (c : Bool) → refused_unless c (NotConnected link) ≡ Some why → keeps_locks why ≡ true
          one true e = none_some e
          one false e = ap keeps_locks (sym (same_Some _ _ e))

      by : (o : Option Scan) → option_and_then (λ (sc : Scan). unless_in_chain s sc.path sc.last) o ≡ Some why → keeps_locks why ≡ true
      by None e = none_some e
      by (Some scan) e = at scan.path scan.last e

  pub fares_next : (n : ℕ) → FaresAt (Next t n)
  fares_next n = record {
    front = unless_open s t ∷ unless_scan s t n ∷ [];
    back = unless_lost s t n ∷ [];
    front' = unless_open x t ∷ unless_scan x t n ∷ [];
    back' = unless_lost x t n ∷ [];
    is = refl;
    is' = refl;
    early = (early_unless (is_open s t) NoTransaction refl, (early_unless (is_some (scan_of s.scans t n)) (NoSuch ScanKind) refl, tt));
    late = ((λ why is. inl (early_lost n why is)), tt);
    same_front = (same_open, (same_scan n, tt));
    same_back = λ agrees none. (ap but_of_others (lost_same agrees n), λ n'. tt);
    same_needs = λ agrees. refl;
  }

  -- ---- keys

  duplicate_same : (call : Call) (relation : Name) (but : Option Tid) (values : List Value) → After call
      → ((name : Name) (image : ImageDef) → finite.get s.base.definitions.images name ≡ Some image → image.relation ≡ relation → image.is_unique ≡ true → In (key_need (now s) values (name, image)) (needs (now s) call))
      → Same (if_duplicate s relation but values) (if_duplicate x relation but values)
  duplicate_same call relation but values agrees needed = ap (λ (l : List (Option Refusal)). but_of_others (first_of l)) (map_same (if_owned s but values) (if_owned x but values) (unique_images s.base.definitions relation) (λ image is.
      let of = in_filter (λ (i : Name × ImageDef). i.1.is_unique && is_name relation i.1.relation) (finite.entries s.base.definitions.images) image is in
      let parts = and_parts image.1.is_unique (is_name relation image.1.relation) of.1 in
      let there : finite.get s.base.definitions.images image.0 ≡ Some image.1 = got_in name_total name_apart s.base.definitions.images image.0 image.1 of.0 in
      let key = key_in s.base.definitions image.1 values in
      let hold : Holds (granted t (needs (now s) call) s.locks) t (Key image.0 key) X = holds_it t (needs (now s) call) s.locks (key_need (now s) values image) (needed image.0 image.1 there (sym (name_apart relation image.1.relation ((Equal-is (name_cmp relation image.1.relation)).0 parts.1))) parts.0) in
      ap (option_map (Duplicate image.0)) (owner_same s.base.definitions (now s).contents seen image.1 but key (agrees.keys image.0 image.1 key there parts.0 hold)
      (λ one other first second.
      let a = keyed_of (key_in s.base.definitions image.1) key (content (now s).contents (Tuple image.1.relation one)) first in
      let c = keyed_of (key_in s.base.definitions image.1) key (content (now s).contents (Tuple image.1.relation other)) second in
      fits.keys image.0 image.1 one other key there parts.0 (record { values = a.0; there = a.1; is = a.2 }) (record { values = c.0; there = c.1; is = c.2 })))))

  late_duplicate : (relation : Name) (but : Option Tid) (values : List Value) → Late (if_duplicate s relation but values)
  late_duplicate relation but values = late_first (if_owned s but values) (unique_images s.base.definitions relation) (λ image. late_map (Duplicate image.0) (owner_of_key (now s) image.1 but (key_in s.base.definitions image.1 values)) (λ tid. refl))

  pub fares_insert : (relation : Name) (values : List Value) → FaresAt (Insert t relation values)
  fares_insert relation values = record {
    front = unless_open s t ∷ unless_defined s relation ∷ misfit_of (fields_of s.base relation) values ∷ if_used_up s relation ∷ unless_free s t relation ∷ if_busy_for s t (Insert t relation values) ∷ [];
    back = if_duplicate s relation None values ∷ if_full s (Insert t relation values) ∷ [];
    front' = unless_open x t ∷ unless_defined x relation ∷ misfit_of (fields_of x.base relation) values ∷ if_used_up x relation ∷ unless_free x t relation ∷ if_busy_for x t (Insert t relation values) ∷ [];
    back' = if_duplicate x relation None values ∷ if_full x (Insert t relation values) ∷ [];
    is = refl;
    is' = refl;
    early = (early_unless (is_open s t) NoTransaction refl, (early_unless (is_some (fields_of s.base relation)) (NoSuch RelationKind) refl, (early_fields (fields_of s.base relation) values, (early_if (nat_le tuple_limit (used_tuples s relation)) (Limit TupleLimit) refl, (early_unless (some_free s t relation) (Limit IdentifierLimit) refl, (early_busy s t (Insert t relation values), tt))))));
    late = (late_duplicate relation None values, (late_full s (change_of s (Insert t relation values)), tt));
    same_front = (same_open, (refl, (refl, (both_if (nat_le tuple_limit (used_tuples s relation)) (nat_le tuple_limit (used_tuples x relation)) (Limit TupleLimit) refl, (both_unless (some_free s t relation) (some_free x t relation) (Limit IdentifierLimit) refl, (same_busy (Insert t relation values), tt))))));
    same_back = λ agrees none. (
      duplicate_same (Insert t relation values) relation None values agrees (λ name image there of unique. in_right (changing (now s) relation) (key_needs (now s) relation (values ∷ [])) _ (key_needed (now s) relation (values ∷ []) values name image (inl refl) there of unique)),
      λ n. (same_full (Insert t relation values), λ n'. tt),
    );
    same_needs = λ agrees. refl;
  }

  -- ---- tuples

  pub read_hold : (relation : Name) (tid : Tid) → Holds (granted t (tuple_read (now s) relation tid) s.locks) t (Tuple relation tid) S
  read_hold relation tid = holds_it t (tuple_read (now s) relation tid) s.locks (need (Tuple relation tid) S) (in_right (reading (now s) relation) (need (Tuple relation tid) S ∷ []) _ (inl refl))

  pub fares_fetch : (relation : Name) (tid : Tid) → FaresAt (Fetch t relation tid)
  fares_fetch relation tid = record {
    front = unless_open s t ∷ unless_defined s relation ∷ if_busy_for s t (Fetch t relation tid) ∷ [];
    back = unless_live s relation tid ∷ [];
    front' = unless_open x t ∷ unless_defined x relation ∷ if_busy_for x t (Fetch t relation tid) ∷ [];
    back' = unless_live x relation tid ∷ [];
    is = refl;
    is' = refl;
    early = (early_unless (is_open s t) NoTransaction refl, (early_unless (is_some (fields_of s.base relation)) (NoSuch RelationKind) refl, (early_busy s t (Fetch t relation tid), tt)));
    late = (late_unless (is_some (content (now s).contents (Tuple relation tid))) (NoTuple relation tid) refl, tt);
    same_front = (same_open, (refl, (same_busy (Fetch t relation tid), tt)));
    same_back = λ agrees none. (live_same relation tid (agrees.items (Tuple relation tid) S (read_hold relation tid)), λ n. tt);
    same_needs = λ agrees. refl;
  }

  module _ (relation : Name) (tid : Tid) (all : List (List Value)) where
    abbrev list : List Need
    list = tuple_changed (now s) relation tid ++ tuple_keys (now s) relation tid all

    pub changed_hold : Holds (granted t (tuple_changed (now s) relation tid ++ tuple_keys (now s) relation tid all) s.locks) t (Tuple relation tid) X
    changed_hold = holds_it t list s.locks (need (Tuple relation tid) X) (in_left (tuple_changed (now s) relation tid) (tuple_keys (now s) relation tid all) _ (in_right (changing (now s) relation) (need (Tuple relation tid) X ∷ []) _ (inl refl)))

    changed_needs : content (now s).contents (Tuple relation tid) ≡ content seen (Tuple relation tid) → tuple_changed (now s) relation tid ++ tuple_keys (now s) relation tid all ≡ tuple_changed (now x) relation tid ++ tuple_keys (now x) relation tid all
    changed_needs same = ap (λ (o : Option Content). tuple_changed (now s) relation tid ++ keys_where_live (now s) relation o all) same ∙ with_keys (content seen (Tuple relation tid))
      where
        with_keys : (o : Option Content) → tuple_changed (now s) relation tid ++ keys_where_live (now s) relation o all ≡ tuple_changed (now x) relation tid ++ keys_where_live (now x) relation o all
        with_keys None = refl
        with_keys (Some (Values values)) = refl
        with_keys (Some (Tuples tids)) = refl

  its_values : (relation : Name) (tid : Tid) → unless_live s relation tid ≡ None → (was : List Value) × (content (now s).contents (Tuple relation tid) ≡ Some (Values was))
  its_values relation tid live =
      let held = some_of (content (now s).contents (Tuple relation tid)) (holds (is_some (content (now s).contents (Tuple relation tid))) _ live) in
      let of = fits.tuples relation tid held.0 held.1 in
      (of.values, held.1 ∙ ap (λ (c : Content). Some c) of.tuple)

  -- where there is no tuple there is no key to be locked, and none that is refused for it
  pub fares_update : (relation : Name) (tid : Tid) (values : List Value) → FaresAt (Update t relation tid values)
  fares_update relation tid values = record {
    front = unless_open s t ∷ unless_defined s relation ∷ misfit_of (fields_of s.base relation) values ∷ if_busy_for s t (Update t relation tid values) ∷ [];
    back = unless_live s relation tid ∷ if_duplicate s relation (Some tid) values ∷ if_full s (Update t relation tid values) ∷ [];
    front' = unless_open x t ∷ unless_defined x relation ∷ misfit_of (fields_of x.base relation) values ∷ if_busy_for x t (Update t relation tid values) ∷ [];
    back' = unless_live x relation tid ∷ if_duplicate x relation (Some tid) values ∷ if_full x (Update t relation tid values) ∷ [];
    is = refl;
    is' = refl;
    early = (early_unless (is_open s t) NoTransaction refl, (early_unless (is_some (fields_of s.base relation)) (NoSuch RelationKind) refl, (early_fields (fields_of s.base relation) values, (early_busy s t (Update t relation tid values), tt))));
    late = (late_unless (is_some (content (now s).contents (Tuple relation tid))) (NoTuple relation tid) refl, (late_duplicate relation (Some tid) values, (late_full s (change_of s (Update t relation tid values)), tt)));
    same_front = (same_open, (refl, (refl, (same_busy (Update t relation tid values), tt))));
    same_back = λ agrees none. (
      live_same relation tid (agrees.items (Tuple relation tid) X (changed_hold relation tid (values ∷ []))),
      λ live. (
        duplicate_same (Update t relation tid values) relation (Some tid) values agrees (λ name image there of unique.
            let was = its_values relation tid live in
            in_right (tuple_changed (now s) relation tid) (tuple_keys (now s) relation tid (values ∷ [])) _
            (subst (λ (o : Option Content). In (key_need (now s) values (name, image)) (keys_where_live (now s) relation o (values ∷ []))) (sym was.1) (key_needed (now s) relation (was.0 ∷ values ∷ []) values name image (inr (inl refl)) there of unique))),
        λ n. (same_full (Update t relation tid values), λ n'. tt),
      ),
    );
    same_needs = λ agrees. changed_needs relation tid (values ∷ []) (agrees.items (Tuple relation tid) X (changed_hold relation tid (values ∷ [])));
  }

  -- ---- links

  pub chain_alike : (call : Call) (link : Name) (d : LinkDef) (child : Tid) (mode : Mode) → After call → finite.get s.base.definitions.links link ≡ Some d → Holds (granted t (needs (now s) call) s.locks) t (Tuple d.child child) mode
      → chain_with (now s).contents link child ≡ chain_with seen link child
  chain_alike call link d child mode agrees there hold = chain_same (now s).contents seen link child (λ parent. agrees.standing link d child mode there hold parent) (λ p q first second. fits.links.alone link p q child first second)

  pub fares_delete : (relation : Name) (tid : Tid) → FaresAt (Delete t relation tid)
  fares_delete relation tid = record {
    front = unless_open s t ∷ unless_defined s relation ∷ if_busy_for s t (Delete t relation tid) ∷ [];
    back = unless_live s relation tid ∷ if_connected s relation tid ∷ if_full s (Delete t relation tid) ∷ [];
    front' = unless_open x t ∷ unless_defined x relation ∷ if_busy_for x t (Delete t relation tid) ∷ [];
    back' = unless_live x relation tid ∷ if_connected x relation tid ∷ if_full x (Delete t relation tid) ∷ [];
    is = refl;
    is' = refl;
    early = (early_unless (is_open s t) NoTransaction refl, (early_unless (is_some (fields_of s.base relation)) (NoSuch RelationKind) refl, (early_busy s t (Delete t relation tid), tt)));
    late = (late_unless (is_some (content (now s).contents (Tuple relation tid))) (NoTuple relation tid) refl, (late_map Connected (connected (now s) relation tid) (λ n. refl), (late_full s (change_of s (Delete t relation tid)), tt)));
    same_front = (same_open, (refl, (same_busy (Delete t relation tid), tt)));
    same_back = λ agrees none. (
      live_same relation tid (agrees.items (Tuple relation tid) X (changed_hold relation tid [])),
      λ live. (
        ap (λ (o : Option (Name × LinkDef)). but_of_others (option_map Connected (option_map (λ (l : Name × LinkDef). l.0) o))) (find_same (is_connected (now s).contents relation tid) (is_connected seen relation tid) (finite.entries s.base.definitions.links) (λ link is.
            let there : finite.get s.base.definitions.links link.0 ≡ Some link.1 = got_in name_total name_apart s.base.definitions.links link.0 link.1 is in
            connected_same (now s).contents seen relation tid link
            (λ of. chain_alike (Delete t relation tid) link.0 link.1 tid X agrees there (subst (λ (n : Name). Holds (granted t (needs (now s) (Delete t relation tid)) s.locks) t (Tuple n tid) X) (sym of) (changed_hold relation tid [])))
            (λ of. agrees.below link.0 relation link.1 tid there (above link.1.parent relation of) (changed_hold relation tid [])))),
        λ n. (same_full (Delete t relation tid), λ n'. tt),
      ),
    );
    same_needs = λ agrees. changed_needs relation tid [] (agrees.items (Tuple relation tid) X (changed_hold relation tid []));
  }
    where
      above : (o : Option Name) (relation : Name) → is_this o relation ≡ true → o ≡ Some relation
      above None relation is = absurd (cc (is))
      above (Some one) relation is = ap (λ (n : Name). Some n) (name_apart one relation ((Equal-is (name_cmp one relation)).0 is))

  child_same : (link : Name) (child : Tid) (o : Option LinkDef) → ((d : LinkDef) → o ≡ Some d → content (now s).contents (Tuple d.child child) ≡ content seen (Tuple d.child child)) → Same (unless_child s o child) (unless_child x o child)
  child_same link child None same = refl
  child_same link child (Some d) same = live_same d.child child (same d refl)

  parent_same : (parent : Option Tid) (o : Option LinkDef) → ((d : LinkDef) (r : Name) (p : Tid) → o ≡ Some d → d.parent ≡ Some r → parent ≡ Some p → content (now s).contents (Tuple r p) ≡ content seen (Tuple r p)) → Same (unless_parent s o parent) (unless_parent x o parent)
  parent_same parent None same = refl
  parent_same parent (Some d) same = by d.parent parent (λ r p has at. same d r p refl has at)
    where
      by : (above : Option Name) (parent : Option Tid) → ((r : Name) (p : Tid) → above ≡ Some r → parent ≡ Some p → content (now s).contents (Tuple r p) ≡ content seen (Tuple r p)) → Same (unless_live_below s above parent) (unless_live_below x above parent)
      by None parent same = refl
      by (Some r) None same = refl
      by (Some r) (Some p) same = live_same r p (same r p refl refl)

  -- what connect has
  module _ (link : Name) (child : Tid) (parent : Option Tid) (spot : Spot) (d : LinkDef) (there : link_of s link ≡ Some d) where
    connect_hold : (n : Need) → In n (tuple_changed (now s) d.child child ++ chain_needs (now s) link d.parent parent) → Holds (granted t (needs (now s) (Connect t link child parent spot)) s.locks) t n.item n.mode
    connect_hold n is = holds_it t (needs (now s) (Connect t link child parent spot)) s.locks n (subst (λ (o : Option LinkDef). In n (connect_needs (now s) link child parent o)) (sym there) is)

    pub connect_child : Holds (granted t (needs (now s) (Connect t link child parent spot)) s.locks) t (Tuple d.child child) X
    connect_child = connect_hold (need (Tuple d.child child) X) (in_left (tuple_changed (now s) d.child child) (chain_needs (now s) link d.parent parent) _ (child_needs (now s) link d.child child).0)

    pub connect_chain : is_same (is_some d.parent) (is_some parent) ≡ true → Holds (granted t (needs (now s) (Connect t link child parent spot)) s.locks) t (Chain link parent) X
    connect_chain form = connect_hold (need (Chain link parent) X) (in_right (tuple_changed (now s) d.child child) (chain_needs (now s) link d.parent parent) _ (needs_it (now s) link d.parent parent form))

    connect_parent : (r : Name) (p : Tid) → d.parent ≡ Some r → parent ≡ Some p → Holds (granted t (needs (now s) (Connect t link child parent spot)) s.locks) t (Tuple r p) S
    connect_parent r p has at = connect_hold (need (Tuple r p) S) (in_right (tuple_changed (now s) d.child child) (chain_needs (now s) link d.parent parent) _ (needs_above (now s) link d.parent parent r p has at))

  pub fares_connect : (link : Name) (child : Tid) (parent : Option Tid) (spot : Spot) → FaresAt (Connect t link child parent spot)
  fares_connect link child parent spot = record {
    front = unless_open s t ∷ unless_link_form s link (is_some parent) ∷ if_busy_for s t (Connect t link child parent spot) ∷ [];
    back = unless_child s (link_of s link) child ∷ unless_parent s (link_of s link) parent ∷ refused_if (is_in_chain s link child) (Connected link) ∷ unless_spot s link parent spot ∷ if_full s (Connect t link child parent spot) ∷ [];
    front' = unless_open x t ∷ unless_link_form x link (is_some parent) ∷ if_busy_for x t (Connect t link child parent spot) ∷ [];
    back' = unless_child x (link_of s link) child ∷ unless_parent x (link_of s link) parent ∷ refused_if (is_in_chain x link child) (Connected link) ∷ unless_spot x link parent spot ∷ if_full x (Connect t link child parent spot) ∷ [];
    is = refl;
    is' = refl;
    early = (early_unless (is_open s t) NoTransaction refl, (early_unless (has_form (link_of s link) (is_some parent)) (NoSuch LinkKind) refl, (early_busy s t (Connect t link child parent spot), tt)));
    late = (late_child s (link_of s link) child, (late_parent s (link_of s link) parent, (late_if (is_in_chain s link child) (Connected link) refl, (late_unless (has_spot spot (chain (now s).contents link parent)) (NotConnected link) refl, (late_full s (change_of s (Connect t link child parent spot)), tt)))));
    same_front = (same_open, (refl, (same_busy (Connect t link child parent spot), tt)));
    same_back = λ agrees none.
        let form = form_of (link_of s link) (is_some parent) (holds (has_form (link_of s link) (is_some parent)) _ none.1.0) in (
          child_same link child (link_of s link) (λ d there. agrees.items (Tuple d.child child) X (connect_child link child parent spot d there)),
          λ n. (
            parent_same parent (link_of s link) (λ d r p there has at. agrees.items (Tuple r p) S (connect_parent link child parent spot d there r p has at)),
            λ n'. (
              ap (λ (o : Option Item). but_of_others (refused_if (is_some o) (Connected link))) (chain_alike (Connect t link child parent spot) link form.0 child X agrees form.1 (connect_child link child parent spot form.0 form.1)),
              λ n''. (
                ap (λ (o : Option Content). but_of_others (refused_unless (has_spot spot (tuples_in o)) (NotConnected link))) (agrees.items (Chain link parent) X (connect_chain link child parent spot form.0 form.1 form.2)),
                λ n3.
                    (same_full (Connect t link child parent spot), λ n4. tt),
              ),
            ),
          ),
        );
    same_needs = λ agrees. refl;
  }

  -- and disconnect
  module _ (link : Name) (child : Tid) (d : LinkDef) (there : link_of s link ≡ Some d) where
    pub disconnect_child : Holds (granted t (needs (now s) (Disconnect t link child)) s.locks) t (Tuple d.child child) X
    disconnect_child = holds_it t (needs (now s) (Disconnect t link child)) s.locks (need (Tuple d.child child) X) (subst (λ (o : Option LinkDef). In (need (Tuple d.child child) X) (disconnect_needs (now s) link child o)) (sym there)
        (in_left (tuple_changed (now s) d.child child) (needs_of_chain (now s) link d (chain_with (now s).contents link child)) _ (child_needs (now s) link d.child child).0))

    pub parent_child : Holds (granted t (needs (now s) (Parent t link child)) s.locks) t (Tuple d.child child) S
    parent_child = holds_it t (needs (now s) (Parent t link child)) s.locks (need (Tuple d.child child) S) (subst (λ (o : Option LinkDef). In (need (Tuple d.child child) S) (parent_needs (now s) child o)) (sym there)
        (in_right (reading (now s) d.child) (need (Tuple d.child child) S ∷ []) _ (inl refl)))

  pub fares_disconnect : (link : Name) (child : Tid) → FaresAt (Disconnect t link child)
  fares_disconnect link child = record {
    front = unless_open s t ∷ refused_unless (is_some (link_of s link)) (NoSuch LinkKind) ∷ if_busy_for s t (Disconnect t link child) ∷ [];
    back = unless_child s (link_of s link) child ∷ refused_unless (is_in_chain s link child) (NotConnected link) ∷ if_full s (Disconnect t link child) ∷ [];
    front' = unless_open x t ∷ refused_unless (is_some (link_of s link)) (NoSuch LinkKind) ∷ if_busy_for x t (Disconnect t link child) ∷ [];
    back' = unless_child x (link_of s link) child ∷ refused_unless (is_in_chain x link child) (NotConnected link) ∷ if_full x (Disconnect t link child) ∷ [];
    is = refl;
    is' = refl;
    early = (early_unless (is_open s t) NoTransaction refl, (early_unless (is_some (link_of s link)) (NoSuch LinkKind) refl, (early_busy s t (Disconnect t link child), tt)));
    late = (late_child s (link_of s link) child, (late_unless (is_in_chain s link child) (NotConnected link) refl, (late_full s (change_of s (Disconnect t link child)), tt)));
    same_front = (same_open, (refl, (same_busy (Disconnect t link child), tt)));
    same_back = λ agrees none.
        let form = some_of (link_of s link) (holds (is_some (link_of s link)) _ none.1.0) in (
          child_same link child (link_of s link) (λ d there. agrees.items (Tuple d.child child) X (disconnect_child link child d there)),
          λ n. (
            ap (λ (o : Option Item). but_of_others (refused_unless (is_some o) (NotConnected link))) (chain_alike (Disconnect t link child) link form.0 child X agrees form.1 (disconnect_child link child form.0 form.1)),
            λ n'.
                (same_full (Disconnect t link child), λ n''. tt),
          ),
        );
    same_needs = λ agrees. by (link_of s link) (λ d there. chain_alike (Disconnect t link child) link d child X agrees there (disconnect_child link child d there));
  }
    where
      by : (o : Option LinkDef) → ((d : LinkDef) → o ≡ Some d → chain_with (now s).contents link child ≡ chain_with seen link child) → disconnect_needs (now s) link child o ≡ disconnect_needs (now x) link child o
      by None same = refl
      by (Some d) same = ap (λ (o : Option Item). tuple_changed (now s) d.child child ++ needs_of_chain (now s) link d o) (same d refl) ∙ at (chain_with seen link child)
        where
          chains_at : (above : Option Name) (p : Option Tid) → chain_needs (now s) link above p ≡ chain_needs (now x) link above p
          chains_at None p = refl
          chains_at (Some r) None = refl
          chains_at (Some r) (Some p) = refl

          at : (o : Option Item) → tuple_changed (now s) d.child child ++ needs_of_chain (now s) link d o ≡ tuple_changed (now x) d.child child ++ needs_of_chain (now x) link d o
          at None = refl
          at (Some item) = ap (λ (l : List Need). tuple_changed (now s) d.child child ++ l) (chains_at d.parent (parent_of item))

  pub fares_parent : (link : Name) (child : Tid) → FaresAt (Parent t link child)
  fares_parent link child = record {
    front = unless_open s t ∷ unless_link_form s link true ∷ if_busy_for s t (Parent t link child) ∷ [];
    back = unless_child s (link_of s link) child ∷ [];
    front' = unless_open x t ∷ unless_link_form x link true ∷ if_busy_for x t (Parent t link child) ∷ [];
    back' = unless_child x (link_of s link) child ∷ [];
    is = refl;
    is' = refl;
    early = (early_unless (is_open s t) NoTransaction refl, (early_unless (has_form (link_of s link) true) (NoSuch LinkKind) refl, (early_busy s t (Parent t link child), tt)));
    late = (late_child s (link_of s link) child, tt);
    same_front = (same_open, (refl, (same_busy (Parent t link child), tt)));
    same_back = λ agrees none. (child_same link child (link_of s link) (λ d there. agrees.items (Tuple d.child child) S (parent_child link child d there)), λ n. tt);
    same_needs = λ agrees. refl;
  }

  -- ---- scans and locks

  same_room : Same (if_scans_used_up s) (if_scans_used_up x)
  same_room = both_if (nat_le scans_most (finite.len s.scans)) (nat_le scans_most (finite.len x.scans)) (Limit ScanLimit) refl

  pub fares_open_relation : (relation : Name) → FaresAt (OpenRelation t relation)
  fares_open_relation relation = record {
    front = tests s (OpenRelation t relation);
    back = [];
    front' = tests x (OpenRelation t relation);
    back' = [];
    is = refl;
    is' = refl;
    early = (early_unless (is_open s t) NoTransaction refl, (early_unless (is_some (fields_of s.base relation)) (NoSuch RelationKind) refl, (early_if (nat_le scans_most (finite.len s.scans)) (Limit ScanLimit) refl, (early_busy s t (OpenRelation t relation), tt))));
    late = tt;
    same_front = (same_open, (refl, (same_room, (same_busy (OpenRelation t relation), tt))));
    same_back = λ agrees none. tt;
    same_needs = λ agrees. refl;
  }

  key_fits_same : (o : Option ImageDef) (start : Option (List Value)) → Same (unless_key_fits s o start) (unless_key_fits x o start)
  key_fits_same None start = refl
  key_fits_same (Some image) None = refl
  key_fits_same (Some image) (Some key) = refl

  pub fares_open_image : (image : Name) (start : Option (List Value)) → FaresAt (OpenImage t image start)
  fares_open_image image start = record {
    front = tests s (OpenImage t image start);
    back = [];
    front' = tests x (OpenImage t image start);
    back' = [];
    is = refl;
    is' = refl;
    early = (early_unless (is_open s t) NoTransaction refl, (early_unless (is_some (image_of s image)) (NoSuch ImageKind) refl, (early_key s (image_of s image) start, (early_if (nat_le scans_most (finite.len s.scans)) (Limit ScanLimit) refl, (early_busy s t (OpenImage t image start), tt)))));
    late = tt;
    same_front = (same_open, (refl, (key_fits_same (image_of s image) start, (same_room, (same_busy (OpenImage t image start), tt)))));
    same_back = λ agrees none. tt;
    same_needs = λ agrees. refl;
  }

  pub fares_open_link : (link : Name) (parent : Option Tid) → FaresAt (OpenLink t link parent)
  fares_open_link link parent = record {
    front = unless_open s t ∷ unless_link_form s link (is_some parent) ∷ if_scans_used_up s ∷ if_busy_for s t (OpenLink t link parent) ∷ [];
    back = unless_parent s (link_of s link) parent ∷ [];
    front' = unless_open x t ∷ unless_link_form x link (is_some parent) ∷ if_scans_used_up x ∷ if_busy_for x t (OpenLink t link parent) ∷ [];
    back' = unless_parent x (link_of s link) parent ∷ [];
    is = refl;
    is' = refl;
    early = (early_unless (is_open s t) NoTransaction refl, (early_unless (has_form (link_of s link) (is_some parent)) (NoSuch LinkKind) refl, (early_if (nat_le scans_most (finite.len s.scans)) (Limit ScanLimit) refl, (early_busy s t (OpenLink t link parent), tt))));
    late = (late_parent s (link_of s link) parent, tt);
    same_front = (same_open, (refl, (same_room, (same_busy (OpenLink t link parent), tt))));
    same_back = λ agrees none. (
      parent_same parent (link_of s link) (λ d r p there has at. agrees.items (Tuple r p) S (holds_it t (needs (now s) (OpenLink t link parent)) s.locks (need (Tuple r p) S)
          (subst (λ (o : Option LinkDef). In (need (Tuple r p) S) (link_scan_needs (now s) parent o)) (sym there) (in_left (upper_needs (now s) d.parent parent) (reading_all (now s) d.child) _ (upper d.parent parent r p has at))))),
      λ n. tt,
    );
    same_needs = λ agrees. by (link_of s link);
  }
    where
      upper : (above : Option Name) (parent : Option Tid) (r : Name) (p : Tid) → above ≡ Some r → parent ≡ Some p → In (need (Tuple r p) S) (upper_needs (now s) above parent)
      upper None parent r p has at = none_some has
      upper (Some q) None r p has at = none_some at
      upper (Some q) (Some o) r p has at = in_right (reading (now s) q) (need (Tuple q o) S ∷ []) _ (inl (λ i. need (Tuple (same_Some _ _ has i) (same_Some _ _ at i)) S))

      uppers : (above : Option Name) (p : Option Tid) → upper_needs (now s) above p ≡ upper_needs (now x) above p
      uppers None p = refl
      uppers (Some r) None = refl
      uppers (Some r) (Some p) = refl

      by : (o : Option LinkDef) → link_scan_needs (now s) parent o ≡ link_scan_needs (now x) parent o
      by None = refl
      by (Some d) = ap (λ (l : List Need). l ++ reading_all (now s) d.child) (uppers d.parent parent)

  pub fares_lock : (item : Item) (exclusive : Bool) → FaresAt (Lock t item exclusive)
  fares_lock item exclusive = record {
    front = unless_open s t ∷ unless_granule s item ∷ if_busy_for s t (Lock t item exclusive) ∷ [];
    back = [];
    front' = unless_open x t ∷ unless_granule x item ∷ if_busy_for x t (Lock t item exclusive) ∷ [];
    back' = [];
    is = refl;
    is' = refl;
    early = (early_unless (is_open s t) NoTransaction refl, (early_granule item, (early_busy s t (Lock t item exclusive), tt)));
    late = tt;
    same_front = (same_open, (granule item, (same_busy (Lock t item exclusive), tt)));
    same_back = λ agrees none. tt;
    same_needs = λ agrees. locks_alike item exclusive;
  }
    where
      early_granule : (item : Item) → Early (unless_granule s item)
      early_granule (Segment name) = early_unless _ _ refl
      early_granule (Relation name) = early_unless _ _ refl
      early_granule (Tuple relation tid) = λ w is. none_some is
      early_granule (Chain link parent) = λ w is. none_some is
      early_granule (Key image values) = λ w is. none_some is

      granule : (item : Item) → Same (unless_granule s item) (unless_granule x item)
      granule (Segment name) = refl
      granule (Relation name) = refl
      granule (Tuple relation tid) = refl
      granule (Chain link parent) = refl
      granule (Key image values) = refl

      locks_alike : (item : Item) (exclusive : Bool) → needs (now s) (Lock t item exclusive) ≡ needs (now x) (Lock t item exclusive)
      locks_alike (Segment name) true = refl
      locks_alike (Segment name) false = refl
      locks_alike (Relation name) true = refl
      locks_alike (Relation name) false = refl
      locks_alike (Tuple relation tid) exclusive = refl
      locks_alike (Chain link parent) exclusive = refl
      locks_alike (Key image values) exclusive = refl
