-- What a scan of a relation finds next, and the open scans as the machine has them.
use Rattle.std.proofs.Common.{Bor, ◌≡◌, ℕ, Bool, true, false, cond, List, [], refl, sym, ◌∙◌, ap, subst, arith, eqb-true}
use Rattle.std.specs.Prelude.{Option, Some, None, ◌==◌, is_some, option_copied, option_map, option_and_then, IfNone, IfSome, Ok}
use Rattle.std.specs.Cmp.{nat_cmp_total}
use Rattle.std.specs.FinMap as map
use Rattle.std.specs.FinMap.{get-insert, get-remove}
use Rattle.std.specs.Ordering.{eq_by_cmp, nat_cmp}
use Rattle.std.proofs.lemmas.Bool.{le-leb, lt-leb, true≢false}
use Rattle.std.proofs.lemmas.Option.{none-some, same_Some}
use Rattle.rss_base.specs.DiskRule.{IsTold}
use Rattle.rss_base.specs.Listings.{Listing, IsUnlisted, relation_at}
use Rattle.rss_base.specs.TupleTypes.{kinds}
use Rattle.rss_base.specs.declared.answer.Reply.TheVariants.{Row}
use Rattle.rss_base.specs.declared.name.Name.{Name}
use Rattle.rss_base.specs.declared.refusal.Kind.TheVariants.{Relation as RelationKind}
use Rattle.rss_base.specs.declared.refusal.LimitKind.TheVariants.{Scans as ScanLimit}
use Rattle.rss_base.specs.declared.refusal.Refusal.TheVariants.{Limit}
use Rattle.rss_base.specs.declared.relation.RelationEntry.{RelationEntry}
use Rattle.rss_base.specs.declared.tid.Tid.{Tid}
use Rattle.rss_base.specs.declared.value.FieldForm.{FieldForm}
use Rattle.rss_base.specs.declared.value.Value.{Value}
use Rattle.rss_model.specs.Images.{Entry, entry}
use Rattle.rss_model.specs.Items.{Values}
use Rattle.rss_model.specs.Machine.{State, now}
use Rattle.rss_model.specs.Refusals.{if_scans_used_up, unless_in_chain}
use Rattle.rss_model.specs.ReplyText.{IsShort}
use Rattle.rss_model.specs.Scans.{RelationPath, ImagePath, LinkPath, scans_most, scan_of, next_along, next_of_scan, path_relation}
use Rattle.rss_model.specs.Scans.{Path as MachinePath, Scan as MachineScan}
use Rattle.rss_model.specs.Tables.{Definitions, RelationDef}
use Rattle.rss_model.proofs.RelationLists.{next_none}
use Rattle.rss_model.proofs.ScanKeeping.{its_scan}
use Rattle.rss_model.proofs.StepKeeping.{kept_fit}
use Rattle.rss_model.proofs.Tests.{passes_if, refuses_if}
use Rattle.rss_access.specs.Bodies.{IsBodyOf}
use Rattle.rss_scan.specs.Scans.{OpenScans, begun, cursor_of, given, if_owner}
use Rattle.rss_scan.specs.Ties.{AreSpelled}
use Rattle.rss_scan.specs.declared.cursor.Cursor.{Cursor}
use Rattle.rss_scan.specs.declared.cursor.Path.{Path}
use Rattle.rss_scan.specs.declared.cursor.Path.TheVariants.{Relation, Image, Link}
use Rattle.rss_scan.specs.declared.cursor.Scan.{Scan}
use Rattle.rss_scan.proofs.Spelled.{counted_spelled, found_spelled}
use Rattle.rss_trans.specs.Transactions.{OpenView, is_open}
use Rattle.rss_session.specs.Looks.{FindsNextTuple, HasTuple}
use Rattle.rss_session.specs.Looks.{IsRelationIn as IsListedIn}
use Rattle.rss_rsi.specs.Placing.{IsRelationIn}
use Rattle.rss_rsi.specs.Scanning.{FindsBehind, FindsNext, FindsNextRow, FindsRow, GoesOnBy, IsScanIn}
use Rattle.rss_rsi.specs.Views.{RssParts, spelling, pair_spelled, HasKeys, AreLong, MayGoOn, AllMayGoOn, IsIn, IsReady}

-- ---- what comes next

module _ (parts : RssParts) (number : ℕ) {known : RelationEntry} (at : relation_at parts.session.store.catalog.listing number ≡ Some known) where
  its_entry : {relation : RelationEntry} {state : State} → IsRelationIn parts number relation state → relation ≡ known
  its_entry in_it = same_Some _ _ (sym in_it.at ∙ at)

  in_segment : {relation : RelationEntry} {state : State} → IsRelationIn parts number relation state → IsListedIn parts.session known.segment number relation
  in_segment in_it = record { at = in_it.at; within = ap (λ (r : RelationEntry). r.segment) (its_entry in_it) }

  -- nothing was found
  pub none_behind : (after : Option Tid) (body : List ℕ) → (IsTold parts.session.store.pages.disk → FindsNextTuple parts.session known.segment number after None body) → FindsBehind parts number after None
  none_behind after body finds relation state in_it = (finds in_it.told state relation in_it.is_in.kept in_it.is_in.shows (in_segment in_it)).0

  module _ (after found : Option Tid) (body : List ℕ) (finds : IsTold parts.session.store.pages.disk → FindsNextTuple parts.session known.segment number after found body) (tid : Tid) (some : found ≡ Some tid) (read : Option (List Value)) (exact : (values : List Value) → IsBodyOf parts.session.store.catalog.listing number (kinds known.fields) values body → read ≡ Some values) where
    its_tuple : {relation : RelationEntry} {state : State} → IsRelationIn parts number relation state → HasTuple parts.session.store.catalog.listing state number relation tid body
    its_tuple {relation = relation} {state = state} in_it =
        subst (λ (f : Option Tid). IfSome f (λ t. HasTuple parts.session.store.catalog.listing state number relation t body)) some
        (finds in_it.told state relation in_it.is_in.kept in_it.is_in.shows (in_segment in_it)).1

    -- what is read are its values
    is_read : {relation : RelationEntry} {state : State} → IsRelationIn parts number relation state → (tuple : HasTuple parts.session.store.catalog.listing state number relation tid body) → read ≡ Some tuple.values
    is_read in_it tuple = exact tuple.values (subst (λ (r : RelationEntry). IsBodyOf parts.session.store.catalog.listing number (kinds r.fields) tuple.values body) (its_entry in_it) tuple.spelled)

    -- so there are some
    pub none_unread : IsTold parts.session.store.pages.disk → (state : State) → IsIn parts state → read ≡ None → ⊥
    none_unread told state is_in none =
        let in_it : IsRelationIn parts number known state = record { told = told; is_in = is_in; at = at } in
        none-some _ (sym none ∙ is_read in_it (its_tuple in_it))

    pub row_behind : (values : List Value) → read ≡ Some values → IsShort (Ok (Row tid values)) → FindsRow parts number after tid values
    row_behind values so short = record {
      next = λ relation state in_it. (finds in_it.told state relation in_it.is_in.kept in_it.is_in.shows (in_segment in_it)).0 ∙ ap (option_map (entry [])) some;
      has = λ relation state in_it. let tuple = its_tuple in_it in tuple.holds ∙ ap (λ (v : List Value). Some (Values v)) (same_Some _ _ (sym (is_read in_it tuple) ∙ so));
      short = short;
    }

-- a relation that has fields is defined
is_defined : (found : Option RelationDef) {fields : List FieldForm} → option_map (λ (r : RelationDef). kinds r.fields) found ≡ Some fields → is_some found ≡ true
is_defined None is = absurd (none-some _ is)
is_defined (Some relation) is = refl

-- one that isn't listed has no tuples
pub none_unlisted : {parts : RssParts} {state : State} → IsIn parts state → (relation : Name) → IsUnlisted RelationKind parts.session.store.catalog.listing relation → (after : Option Tid) → next_along (now state) (RelationPath relation) (option_map (entry []) after) ≡ None
none_unlisted {state = state} is_in relation unlisted after = next_none (now state) relation after (λ tid stands.
    let of = (kept_fit state is_in.kept).1.tuples relation tid (Values stands.values) stands.there in
    let has = is_in.shows.store.spells.defines.only_relations relation (is_defined (map.get (now state).definitions.relations relation) of.defined) in
    unlisted has.0 has.1)

-- ---- the machine's scans

map_none : {A B : Type 0} (f : A → B) (o : Option A) → option_map f o ≡ None → o ≡ None
map_none f None is = refl
map_none f (Some a) is = absurd (none-some _ (sym is))

map_some : {A B : Type 0} (f : A → B) (o : Option A) (b : B) → option_map f o ≡ Some b → (a : A) × (o ≡ Some a) × (f a ≡ b)
map_some f None b is = absurd (none-some _ is)
map_some f (Some a) b is = (a, refl, same_Some _ _ is)

-- the machine has such a scan
pub record HasScan (state : State) (t number : ℕ) : Type 0 where
  pub scan : MachineScan
  pub there : scan_of state.scans t number ≡ Some scan

module _ {parts : RssParts} {state : State} (is_in : IsIn parts state) where
  abbrev spelled_so : AreSpelled (spelling state.base.definitions) state.scans parts.scans
  spelled_so = is_in.scanned.spelled

  pub unused : (number : ℕ) → map.get parts.scans number ≡ None → map.get state.scans number ≡ None
  unused number free = map_none _ (map.get state.scans number) (sym (spelled_so number) ∙ free)

  pub not_scanned : (t number : ℕ) → cursor_of parts.scans t number ≡ None → scan_of state.scans t number ≡ None
  not_scanned t number none = map_none _ (scan_of state.scans t number) (sym (found_spelled (spelling state.base.definitions) state.scans parts.scans t number spelled_so) ∙ none)

  pub has_scan : (t number : ℕ) (cursor : Cursor) → cursor_of parts.scans t number ≡ Some cursor → HasScan state t number
  has_scan t number cursor some =
      let of = map_some _ (scan_of state.scans t number) cursor (sym (found_spelled (spelling state.base.definitions) state.scans parts.scans t number spelled_so) ∙ some) in
      record { scan = of.0; there = of.1 }

  -- as many are open
  as_many : map.len parts.scans ≡ map.len state.scans
  as_many = counted_spelled (spelling state.base.definitions) state.scans parts.scans spelled_so

  pub scans_full : map.len parts.scans ≡ scans_most → if_scans_used_up state ≡ Some (Limit ScanLimit)
  scans_full full = refuses_if (Limit ScanLimit) (le-leb scans_most (map.len state.scans) (omega (arith, full, as_many)))

  pub scans_left : (map.len parts.scans ≡ scans_most → ⊥) → if_scans_used_up state ≡ None
  scans_left room = passes_if (Limit ScanLimit) (lt-leb scans_most (map.len state.scans) (omega (arith, room, as_many, is_in.kept.few_scans)))

-- ---- the machine's scan of a cursor

module _ {parts : RssParts} {t number : ℕ} {state : State} {scan : MachineScan} (in_it : IsScanIn parts t number state scan) where
  -- its keys
  pub keys_in : HasKeys state.base.definitions scan.path scan.last
  keys_in = in_it.is_in.scanned.keys number scan (its_scan state.scans t number scan in_it.there).0

  pub spelled_in : {cursor : Cursor} → cursor_of parts.scans t number ≡ Some cursor → spelling state.base.definitions scan.path scan.last ≡ cursor
  spelled_in has = same_Some _ _ (
      sym (ap (option_map (λ (s : MachineScan). spelling state.base.definitions s.path s.last)) in_it.there)
      ∙ sym (found_spelled (spelling state.base.definitions) state.scans parts.scans t number in_it.is_in.scanned.spelled) ∙ has)

-- the identifier that was given last
abbrev pub last_of : Cursor → Option Tid
last_of cursor = option_map (λ given. given.1) cursor.last

-- what gives the cursor along a relation goes along it, and gave this last
pub record GoesAlong (path : MachinePath) (last : Option Entry) (relation : Name) (after : Option Tid) : Type 0 where
  pub along : path ≡ RelationPath relation
  pub gave : last ≡ option_map (entry []) after

pub goes_along : (definitions : Definitions) (path : MachinePath) (last : Option Entry) {cursor : Cursor} (relation : Name) → spelling definitions path last ≡ cursor → HasKeys definitions path last → cursor.path ≡ Relation relation → GoesAlong path last relation (last_of cursor)
goes_along definitions (RelationPath name) last {cursor = cursor} relation is keys at =
    let same : Relation name ≡ Relation relation = ap (λ (c : Cursor). c.path) is ∙ at in
    let one : name ≡ relation = cc (same) in
    record { along = ap RelationPath one; gave = by last keys ∙ ap (λ (c : Cursor). option_map (entry []) (last_of c)) is }
  where
    by : (last : Option Entry) → IfSome last (λ e. e.key ≡ []) → last ≡ option_map (entry []) (option_map (λ (given : List ℕ × Tid). given.1) (option_map (pair_spelled []) last))
    by None keys = refl
    by (Some e) keys = ap (λ (key : List Value). Some (entry key e.tid)) keys
goes_along definitions (ImagePath image start) last relation is keys at =
    let same : Image image _ ≡ Relation relation = ap (λ (c : Cursor). c.path) is ∙ at in absurd (cc (same))
goes_along definitions (LinkPath link parent) last relation is keys at =
    let same : Link link parent ≡ Relation relation = ap (λ (c : Cursor). c.path) is ∙ at in absurd (cc (same))

-- ---- along a relation

module _ {parts : RssParts} {t number : ℕ} {cursor : Cursor} (has : cursor_of parts.scans t number ≡ Some cursor) (relation : Name) (at : cursor.path ≡ Relation relation) (after : Option Tid) (last : after ≡ last_of cursor) where
  its_way : {state : State} {scan : MachineScan} → IsScanIn parts t number state scan → GoesAlong scan.path scan.last relation after
  its_way {state = state} {scan = scan} in_it = subst (GoesAlong scan.path scan.last relation) (sym last) (goes_along state.base.definitions scan.path scan.last relation (spelled_in in_it has) (keys_in in_it) at)

  next_is : {state : State} {scan : MachineScan} → IsScanIn parts t number state scan → next_of_scan (now state) scan ≡ next_along (now state) (RelationPath relation) (option_map (entry []) after)
  next_is {state = state} in_it = let way = its_way in_it in λ i. next_along (now state) (way.along i) (way.gave i)

  -- and it loses no place
  stays_in : {state : State} {scan : MachineScan} → IsScanIn parts t number state scan → unless_in_chain state scan.path scan.last ≡ None
  stays_in {state = state} {scan = scan} in_it = let way = its_way in_it in ap (λ (path : MachinePath). unless_in_chain state path scan.last) way.along

  -- one that isn't listed has none
  pub unlisted_next : IsUnlisted RelationKind parts.session.store.catalog.listing relation → FindsNext parts t number None
  unlisted_next unlisted state scan in_it = (stays_in in_it, next_is in_it ∙ none_unlisted in_it.is_in relation unlisted after)

  module _ (place : ℕ) {known : RelationEntry} (listed : relation_at parts.session.store.catalog.listing place ≡ Some known) (named : known.name ≡ relation) where
    listed_in : {state : State} {scan : MachineScan} → IsScanIn parts t number state scan → IsRelationIn parts place known state
    listed_in in_it = record { told = in_it.told; is_in = in_it.is_in; at = listed }

    next_listed : {state : State} {scan : MachineScan} → IsScanIn parts t number state scan → (next : Option Tid) → GoesOnBy state known after next → next_of_scan (now state) scan ≡ option_map (entry []) next
    next_listed {state = state} in_it next is = next_is in_it ∙ ap (λ (name : Name). next_along (now state) (RelationPath name) (option_map (entry []) after)) (sym named) ∙ is

    -- nothing comes behind
    pub none_next : FindsBehind parts place after None → FindsNext parts t number None
    none_next none state scan in_it = (stays_in in_it, next_listed in_it None (none known state (listed_in in_it)))

    -- or a tuple does
    pub row_next : (key : List ℕ) → key ≡ [] → (tid : Tid) (values : List Value) → FindsRow parts place after tid values → FindsNextRow parts t number key tid values
    row_next key keyless tid values row = record {
      gives = λ state scan in_it.
          let way = its_way in_it in record {
            given = [];
            stays = stays_in in_it;
            next = next_listed in_it (Some tid) (row.next known state (listed_in in_it));
            spelled = subst (λ (path : MachinePath). spelling state.base.definitions path (Some (entry [] tid)) ≡ record (spelling state.base.definitions path scan.last) { last = Some (key, tid) }) (sym way.along)
                (λ i. record { path = Relation relation; last = Some (sym keyless i, tid) });
            keys = subst (λ (path : MachinePath). HasKeys state.base.definitions path (Some (entry [] tid))) (sym way.along) refl;
            relation = known.name;
            along = ap (path_relation state.base) way.along ∙ ap Some (sym named);
            has = row.has known state (listed_in in_it);
          };
      long = λ other there.
          let same : other ≡ cursor = same_Some _ _ (sym there ∙ has) in
          subst (λ (path : Path). AreLong parts.session.store.catalog.listing path (Some (key, tid))) (sym (ap (λ (c : Cursor). c.path) same ∙ at)) tt;
      short = row.short;
    }

-- ---- the scan of a cursor

-- an open scan of a transaction
pub record HasCursor (scans : OpenScans) (t number : ℕ) (cursor : Cursor) : Type 0 where
  pub scan : Scan
  pub there : map.get scans number ≡ Some scan
  pub at : scan.cursor ≡ cursor
  pub by : scan.owner ≡ t

pub has_cursor : (scans : OpenScans) (t number : ℕ) (cursor : Cursor) → cursor_of scans t number ≡ Some cursor → HasCursor scans t number cursor
has_cursor scans t number cursor is = by (map.get scans number) refl is
  where
    owned : (scan : Scan) → map.get scans number ≡ Some scan → (b : Bool) → (scan.owner == t) ≡ b → cond b (Some scan.cursor) None ≡ Some cursor → HasCursor scans t number cursor
    owned scan there true mine is = record { scan = scan; there = there; at = same_Some _ _ is; by = eqb-true scan.owner t mine }
    owned scan there false mine is = absurd (none-some _ is)

    by : (o : Option Scan) → map.get scans number ≡ o → option_and_then (if_owner t) o ≡ Some cursor → HasCursor scans t number cursor
    by None there is = absurd (none-some _ is)
    by (Some scan) there is = owned scan there (scan.owner == t) refl is

-- whose keys are long
pub cursor_long : (listing : Listing) (opened : OpenView) (scans : OpenScans) (t number : ℕ) {cursor : Cursor} → AllMayGoOn listing opened scans → cursor_of scans t number ≡ Some cursor → AreLong listing cursor.path cursor.last
cursor_long listing opened scans t number {cursor = cursor} may is =
    let has = has_cursor scans t number cursor is in
    subst (λ (c : Cursor). AreLong listing c.path c.last) has.at (may number has.scan has.there).long

-- what is lent of none, and of one
pub lent_none : (lent : Option (Bor Cursor)) {found : Option Cursor} → option_copied lent ≡ found → is_some lent ≡ false → found ≡ None
lent_none None is none = sym is
lent_none (Some cursor) is none = absurd (true≢false none)

pub lent_some : (lent : Option (Bor Cursor)) {found : Option Cursor} → option_copied lent ≡ found → is_some lent ≡ true → (cursor : Cursor) × (found ≡ Some cursor)
lent_some None is some = absurd (true≢false (sym some))
lent_some (Some cursor) is some = (cursor.now, sym is)

-- ---- what may follow

-- another call may be made where these scans may go on
pub ready_scans : {parts : RssParts} {calls : ℕ} (scans : OpenScans) → AllMayGoOn parts.session.store.catalog.listing parts.session.opened scans → IsReady parts calls → IsReady (record { session = parts.session; locks = parts.locks; scans = scans }) calls
ready_scans scans may ready = record {
  session = ready.session;
  paced = ready.paced;
  saves = ready.saves;
  scans = may;
  holders = ready.holders;
}

module _ {listing : Listing} {opened : OpenView} (scans : OpenScans) (may : AllMayGoOn listing opened scans) (number : ℕ) where
  put_scan : (scan : Scan) → MayGoOn listing opened scan → AllMayGoOn listing opened (map.insert scans number scan)
  put_scan scan goes k found has = by (eq_by_cmp nat_cmp k number) (sym (get-insert nat_cmp_total scans number scan k) ∙ has)
    where
      by : (b : Bool) → cond b (Some scan) (map.get scans k) ≡ Some found → MayGoOn listing opened found
      by true is = subst (MayGoOn listing opened) (same_Some _ _ is) goes
      by false is = may k found is

  -- a scan has given a key, or was closed
  pub given_may : (key : List ℕ) (tid : Tid) (was : Scan) → map.get scans number ≡ Some was → AreLong listing was.cursor.path (Some (key, tid)) → AllMayGoOn listing opened (map.insert scans number (given key tid was))
  given_may key tid was there long = put_scan (given key tid was) (record { owner = (may number was there).owner; long = long })

  pub closed_may : AllMayGoOn listing opened (map.remove scans number)
  closed_may k found has = by (eq_by_cmp nat_cmp k number) (sym (get-remove nat_cmp_total scans number k) ∙ has)
    where
      by : (b : Bool) → cond b None (map.get scans k) ≡ Some found → MayGoOn listing opened found
      by true is = absurd (none-some _ is)
      by false is = may k found is

-- a scan was opened, if one could be
pub opened_may : {listing : Listing} {opened : OpenView} (scans later : OpenScans) (t : ℕ) (path : Path) (number : Option ℕ) → IfSome number (λ n. later ≡ map.insert scans n (begun t path)) → IfNone number (later ≡ scans) → is_open opened t ≡ true → AreLong listing path None → AllMayGoOn listing opened scans → AllMayGoOn listing opened later
opened_may {listing = listing} {opened = opened} scans later t path None added same mine long may = subst (AllMayGoOn listing opened) (sym same) may
opened_may {listing = listing} {opened = opened} scans later t path (Some number) added same mine long may =
    subst (AllMayGoOn listing opened) (sym added) (put_scan scans may number (begun t path) (record { owner = mine; long = long }))
