-- What a scan of a chain finds next, and what is read of it.
use Rattle.std.proofs.Common.{◌≡◌, ℕ, Bool, true, false, List, [], ◌∷◌, refl, sym, ◌∙◌, ap, subst}
use Rattle.std.specs.Prelude.{Option, Some, None, Result, Ok, Err, IsErrAnd, if◌then◌else◌, is_some, option_map, slice_get}
use Rattle.std.proofs.lemmas.Bool.{true≢false}
use Rattle.std.proofs.lemmas.Option.{none-some, same_Some}
use Rattle.std.proofs.lemmas.Result.{err_from_is_err_and}
use Rattle.rss_base.specs.Answers.{page_error}
use Rattle.rss_base.specs.DiskRule.{IsTold}
use Rattle.rss_base.specs.Listings.{IsNumberOf, link_at, relation_at}
use Rattle.rss_base.specs.Prefixes.{first_of, is_tid}
use Rattle.rss_base.specs.TupleTypes.{kinds}
use Rattle.rss_base.specs.declared.answer.CallError.{CallError}
use Rattle.rss_base.specs.declared.answer.CallError.TheVariants.{Refused, Damaged, Device, NoMemory, Down}
use Rattle.rss_base.specs.declared.answer.Reply.TheVariants.{Row}
use Rattle.rss_base.specs.declared.fault.PageFault.{PageFault}
use Rattle.rss_base.specs.declared.fault.PageFault.TheVariants.{Device as PageDevice, Damaged as PageDamaged, NoMemory as PageNoMemory}
use Rattle.rss_base.specs.declared.link.LinkEntry.{LinkEntry}
use Rattle.rss_base.specs.declared.name.Name.{Name}
use Rattle.rss_base.specs.declared.place.Place.{Place}
use Rattle.rss_base.specs.declared.place.Place.TheVariants.{Tuple as TuplePlace}
use Rattle.rss_base.specs.declared.refusal.Kind.TheVariants.{Link as LinkKind}
use Rattle.rss_base.specs.declared.refusal.Refusal.{Refusal}
use Rattle.rss_base.specs.declared.refusal.Refusal.TheVariants.{NotConnected}
use Rattle.rss_base.specs.declared.relation.RelationEntry.{RelationEntry}
use Rattle.rss_base.specs.declared.tid.Tid.{Tid}
use Rattle.rss_base.specs.declared.value.Value.{Value}
use Rattle.rss_base.proofs.Moments.{then as steps_then}
use Rattle.rss_access.specs.Bodies.{IsBodyOf}
use Rattle.rss_catalog.specs.Catalogs.{CatalogView}
use Rattle.rss_members.specs.Calls.{next_behind}
use Rattle.rss_model.specs.Chains.{chain, is_there, next_of, stands_in}
use Rattle.rss_model.specs.Images.{entry}
use Rattle.rss_model.specs.Items.{Values}
use Rattle.rss_model.specs.Kept.{Kept}
use Rattle.rss_model.specs.Machine.{State, now}
use Rattle.rss_model.specs.ReplyText.{IsShort}
use Rattle.rss_model.specs.Scans.{next_in_chain}
use Rattle.rss_model.specs.Tables.{LinkDef}
use Rattle.rss_model.proofs.Standing.{or_first, or_second, tid_itself}
use Rattle.rss_model.proofs.StepKeeping.{kept_fit}
use Rattle.rss_model.proofs.Tests.{passes_unless, refuses_unless}
use Rattle.rss_session.specs.Linking.{FindsNextMember}
use Rattle.rss_session.specs.Looks.{LooksOn, FindsTuple}
use Rattle.rss_session.specs.Sessions.{SessionView}
use Rattle.rss_session.specs.Shown.{Shows}
use Rattle.rss_session.proofs.Behind.{looks_as, looks_failed, looks_then}
use Rattle.rss_session.proofs.Passing.{goes_then}
use Rattle.rss_rsi.specs.Linking.{SaysFound, TestEnds}
use Rattle.rss_rsi.specs.Scanning.{ChainGoesOn, FindsMemberRow, ReadEnds, Reads, lost_test}
use Rattle.rss_rsi.proofs.Chained.{LinkIn, link_entry, link_shown, member_there}
use Rattle.rss_rsi.specs.Bodies.{FailsThere, below, lost, IsReadOf, ComesOf, IsDownBy}
use Rattle.rss_rsi.proofs.Bodied.{read_never, read_only}
use Rattle.rss_rsi.proofs.Changes.{goes_anyhow}

-- ---- a tuple that is read

module _ {old new : SessionView} {up : Type 0} (number : ℕ) (tid : Tid) where
  -- the look fails
  pub read_fails : {T : Type 0} (fault : PageFault) → LooksOn {T = T} old new (Err fault) → (up → ⊥) → ReadEnds old new up number tid (Err (page_error fault))
  read_fails PageDevice looks down = record { by = (down, looks_failed (Err PageDevice) refl looks) }
  read_fails (PageDamaged place) looks down = record { by = (down, record { goes = goes_anyhow looks.goes; moments = looks.moments; sound = λ told state kept shows relation at there. looks.sound place refl told }) }
  read_fails PageNoMemory looks down = absurd (looks.goes.memory refl)

  pub passed_read : {why : CallError} (result : Result (List Value) CallError) → IsErrAnd result (λ e. e ≡ why) → ReadEnds old new up number tid (Err why) → ReadEnds old new up number tid result
  passed_read result is ends =
      let so = err_from_is_err_and result is in
      subst (ReadEnds old new up number tid) (sym (so.1 ∙ ap Err so.2)) ends

  module _ {known : RelationEntry} (at : relation_at old.store.catalog.listing number ≡ Some known) {there : Bool} {body : List ℕ} (looks : LooksOn old new (Ok there)) (finds : IsTold old.store.pages.disk → FindsTuple old known.segment number tid there body) where
    -- there is none
    pub read_lost : there ≡ false → (up → ⊥) → (place : Place) {why : CallError} → why ≡ Damaged place → ReadEnds old new up number tid (Err why)
    read_lost none down place is = subst (λ (e : CallError). ReadEnds old new up number tid (Err e)) (sym is) (record {
      by = (
        down,
        record {
          goes = goes_anyhow looks.goes;
          moments = looks.moments;
          sound = λ told state kept shows relation listed stands.
              let same : relation ≡ known = same_Some _ _ (sym listed ∙ at) in
              let out = (finds told).none none state relation kept shows (record { at = listed; within = ap (λ (r : RelationEntry). r.segment) same }) in
              true≢false (sym stands ∙ ap is_some out);
        },
      );
    })

    module _ (yes : there ≡ true) (read : Option (List Value)) (exact : (values : List Value) → IsBodyOf old.store.catalog.listing number (kinds known.fields) values body → read ≡ Some values) where
      -- it is none of a tuple
      pub read_none : read ≡ None → (up → ⊥) → (place : Place) {why : CallError} → why ≡ Damaged place → ReadEnds old new up number tid (Err why)
      read_none none down place is = subst (λ (e : CallError). ReadEnds old new up number tid (Err e)) (sym is) (record {
        by = (
          down,
          record {
            goes = goes_anyhow looks.goes;
            moments = looks.moments;
            sound = λ told state kept shows relation listed stands.
                let tuple = (finds told).some yes state known kept shows (record { at = at; within = refl }) in
                none-some _ (sym none ∙ exact tuple.values tuple.spelled);
          },
        );
      })

      -- it is read
      pub read_gives : up → (values : List Value) → read ≡ Some values → IsShort (Ok (Row tid values)) → ReadEnds old new up number tid (Ok values)
      read_gives is_up values so short = record {
        by = (
          is_up,
          looks_as (tt {0}) looks,
          record {
            has = λ told state kept shows relation listed.
                let same : known ≡ relation = same_Some _ _ (sym at ∙ listed) in
                let tuple = (finds told).some yes state relation kept shows (record { at = listed; within = ap (λ (r : RelationEntry). r.segment) (sym same) }) in
                tuple.holds ∙ ap (λ (v : List Value). Some (Values v)) (same_Some _ _ (sym (exact tuple.values (subst (λ (r : RelationEntry). IsBodyOf old.store.catalog.listing number (kinds r.fields) tuple.values body) (sym same) tuple.spelled)) ∙ so));
            short = short;
          },
        );
      }

-- no tuple stands there, or the look fails
pub read_there : {old new : SessionView} {up : Type 0} (number : ℕ) (tid : Tid) {known : RelationEntry} → relation_at old.store.catalog.listing number ≡ Some known → (up → ⊥) → {why : CallError} → FailsThere old new known.segment number tid why → ReadEnds old new up number tid (Err why)
read_there {old = old} {new = new} {up = up} number tid at down (below fails) = subst (λ (e : CallError). ReadEnds old new up number tid (Err e)) (sym fails.is) (read_fails number tid fails.fault fails.looks down)
read_there number tid {known = known} at down (lost is looks finds) = read_lost number tid at (looks_as false looks) finds refl down (TuplePlace known.segment tid) is

-- by what comes of its body
module _ {old new : SessionView} (number : ℕ) (tid : Tid) {known : RelationEntry} (at : relation_at old.store.catalog.listing number ≡ Some known) {T : Type 0} {found : T} (looks : LooksOn old new (Ok found)) (place : Place) (down : Bool) {body : List ℕ} (finds : IsTold old.store.pages.disk → FindsTuple old known.segment number tid true body) where
  pub read_ends : ((values : List Value) → IsReadOf old.store.catalog.listing number (kinds known.fields) body values → IsShort (Ok (Row tid values))) → (result : Result (List Value) CallError) → ComesOf old.store.catalog.listing number (kinds known.fields) place body result → IsDownBy result down → ReadEnds old new (down ≡ false) number tid result
  read_ends short (Ok values) comes ends = read_gives number tid at (looks_as true looks) finds refl (Some values) (read_only comes) ends values refl (short values comes)
  read_ends short (Err NoMemory) comes ends = record { by = (ends, looks_as (tt {0}) looks) }
  read_ends short (Err (Damaged where_it)) comes ends = read_none number tid at (looks_as true looks) finds refl None (read_never comes.1) refl (λ up. true≢false (sym ends ∙ up)) where_it refl
  read_ends short (Err (Refused why)) comes ends = absurd comes
  read_ends short (Err Device) comes ends = absurd comes
  read_ends short (Err Down) comes ends = absurd comes

-- ---- the next one

lost_of : (link : Name) (chain : List Tid) (after : Option Tid) → next_behind after chain ≡ None → (tid : Tid) × (after ≡ Some tid) × (stands_in tid chain ≡ false)
lost_of link chain None is = absurd (none-some _ (sym is))
lost_of link chain (Some tid) is = (tid, refl, by (stands_in tid chain) is)
  where
    by : (b : Bool) → (if b then Some (next_of tid chain) else None) ≡ None → b ≡ false
    by true is = absurd (none-some _ (sym is))
    by false is = refl

module _ (view : SessionView) (link : Name) (number : ℕ) (known : IsNumberOf LinkKind view.store.catalog.listing link number) (parent after : Option Tid) (found : Option (Option Tid)) (finds : FindsNextMember view number parent after found) where
  next_named : IsTold view.store.pages.disk → (state : State) → Kept state → Shows view state → found ≡ next_behind after (chain (now state).contents link parent)
  next_named told state kept shows =
      let its = link_entry view.store.catalog.listing link number known in
      subst (λ (name : Name). found ≡ next_behind after (chain (now state).contents name parent)) its.named (finds told state kept shows its.entry its.at)

  -- the tuple that was given last is in the chain no more
  pub next_lost : found ≡ None → SaysFound view (lost_test link parent after) (Some (NotConnected link))
  next_lost none told state kept shows =
      let of = lost_of link (chain (now state).contents link parent) after (sym (next_named told state kept shows) ∙ none) in
      ap (λ (a : Option Tid). lost_test link parent a state) of.1 ∙ refuses_unless (NotConnected link) of.2

  module _ (next : Option Tid) (some : found ≡ Some next) where
    goes_there : (tids : List Tid) (a : Option Tid) → Some next ≡ next_behind a tids → (state : State) → chain (now state).contents link parent ≡ tids → (lost_test link parent a state ≡ None) × (next_in_chain tids (option_map (entry []) a) ≡ next)
    goes_there tids None is state at = (refl, by_first tids ∙ same_Some _ _ (sym is))
      where
        by_first : (l : List Tid) → next_in_chain l None ≡ first_of l
        by_first [] = refl
        by_first (x ∷ l) = refl
    goes_there tids (Some tid) is state at = by (stands_in tid tids) refl is
      where
        by : (b : Bool) → stands_in tid tids ≡ b → Some next ≡ (if b then Some (next_of tid tids) else None) → (lost_test link parent (Some tid) state ≡ None) × (next_of tid tids ≡ next)
        by true on is = (passes_unless (NotConnected link) (ap (stands_in tid) at ∙ on), same_Some _ _ (sym is))
        by false on is = absurd (none-some _ (sym is))

    its_next : (told : IsTold view.store.pages.disk) (state : State) (kept : Kept state) (shows : Shows view state) → (lost_test link parent after state ≡ None) × (next_in_chain (chain (now state).contents link parent) (option_map (entry []) after) ≡ next)
    its_next told state kept shows = goes_there (chain (now state).contents link parent) after (sym some ∙ next_named told state kept shows) state refl

    pub next_stays : SaysFound view (lost_test link parent after) None
    next_stays told state kept shows = (its_next told state kept shows).0

    pub next_is : IsTold view.store.pages.disk → (state : State) → Kept state → Shows view state → ChainGoesOn state link parent after next
    next_is told state kept shows = ap (option_map (entry [])) (its_next told state kept shows).1

-- ---- it is there

first_stands : (tids : List Tid) (x : Tid) → first_of tids ≡ Some x → stands_in x tids ≡ true
first_stands [] x is = absurd (cc (is))
first_stands (tid ∷ tids) x is = or_first (is_tid x tid) (stands_in x tids) (ap (is_tid x) (same_Some _ _ is) ∙ tid_itself x)

head_stands : (l : List Tid) (x : Tid) → slice_get l 0 ≡ Some x → stands_in x l ≡ true
head_stands [] x is = absurd (cc (is))
head_stands (y ∷ l) x is = or_first (is_tid x y) (stands_in x l) (ap (is_tid x) (same_Some _ _ is) ∙ tid_itself x)

next_stands : (t : Tid) (tids : List Tid) (x : Tid) → next_of t tids ≡ Some x → stands_in x tids ≡ true
next_stands t [] x is = absurd (cc (is))
next_stands t (other ∷ tids) x is = or_second (is_tid x other) (stands_in x tids) (by (next_stands t tids x) (is_tid other t) is)
  where
    by : (next_of t tids ≡ Some x → stands_in x tids ≡ true) → (b : Bool) → (if b then slice_get tids 0 else next_of t tids) ≡ Some x → stands_in x tids ≡ true
    by rest true is = head_stands tids x is
    by rest false is = rest is

behind_stands : (after : Option Tid) (tids : List Tid) (x : Tid) → Some (Some x) ≡ next_behind after tids → stands_in x tids ≡ true
behind_stands None tids x is = first_stands tids x (same_Some _ _ (sym is))
behind_stands (Some t) tids x is = by (stands_in t tids) is
  where
    by : (b : Bool) → Some (Some x) ≡ (if b then Some (next_of t tids) else None) → stands_in x tids ≡ true
    by true is = next_stands t tids x (same_Some _ _ (sym is))
    by false is = absurd (none-some _ (sym is))

module _ (view : SessionView) (link : Name) (number : ℕ) (known : IsNumberOf LinkKind view.store.catalog.listing link number) {listed : LinkEntry} (at : link_at view.store.catalog.listing number ≡ Some listed) {child : RelationEntry} (within : relation_at view.store.catalog.listing listed.child ≡ Some child) (parent after : Option Tid) (found : Option (Option Tid)) (finds : FindsNextMember view number parent after found)
    (tid : Tid) (some : found ≡ Some (Some tid)) where
  its_link : {state : State} → Shows view state → LinkIn view.store.catalog.listing (now state).definitions link listed
  its_link shows = link_shown shows.store.spells.listed shows.store.spells.defines link number known at

  pub next_there : IsTold view.store.pages.disk → (state : State) → Kept state → Shows view state → is_there (now state).contents child.name tid ≡ true
  next_there told state kept shows =
      let its = its_link shows in
      let on = behind_stands after (chain (now state).contents link parent) tid (sym some ∙ next_named view link number known parent after found finds told state kept shows) in
      ap (λ (name : Name). is_there (now state).contents name tid) (sym (its.below child within)) ∙ member_there (kept_fit state kept).1 link tid parent its.defined on

  module _ {mid : SessionView} {T : Type 0} {value : T} (looks : LooksOn view mid (Ok value)) where
    -- it was read
    pub member_row : (values : List Value) → Reads mid listed.child tid values → FindsMemberRow view link parent after tid values
    member_row values reads = record {
      next = next_is view link number known parent after found finds (Some tid) some;
      has = λ told state kept shows.
          let its = its_link shows in record {
            relation = child.name;
            along = ap (option_map (λ (d : LinkDef). d.child)) its.defined ∙ ap Some (its.below child within);
            has = reads.has (looks.goes.told.0 told) state kept (looks.shows told state shows) child (ap (λ (c : CatalogView). relation_at c.listing listed.child) looks.catalog ∙ within);
          };
      short = reads.short;
    }

    -- or it wasn't
    pub member_fails : {new : SessionView} {up : Type 0} (test : State → Option Refusal) (U : Type 0) (why : CallError) → ReadEnds mid new up listed.child tid (Err why) → TestEnds {T = U} view new up test (Err why)
    member_fails test U (Refused why) ends = absurd ends.by
    member_fails test U NoMemory ends = record { by = (ends.by.0, looks_then looks ends.by.1) }
    member_fails test U Device ends = record { by = (ends.by.0, looks_then looks ends.by.1) }
    member_fails test U (Damaged place) ends = record {
      by = (
        ends.by.0,
        record {
          goes = goes_then looks.goes ends.by.1.goes;
          moments = λ told state kept shows. steps_then (looks.moments told state kept shows) (ends.by.1.moments (looks.goes.told.0 told) state kept (looks.shows told state shows)) (λ image holds. holds);
          sound = λ told state kept shows.
              ends.by.1.sound (looks.goes.told.0 told) state kept (looks.shows told state shows) child (ap (λ (c : CatalogView). relation_at c.listing listed.child) looks.catalog ∙ within) (next_there told state kept shows);
        },
      );
    }
    member_fails test U Down ends = absurd ends.by
