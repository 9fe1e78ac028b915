-- Looks at links: what may be asked of a session's tuples, and that what is answered is so in each state in which the session may be.
use Rattle.std.proofs.Common.{◌≡◌, ℕ, Bool, true, false, List, [], refl, sym, ◌∙◌, ap, subst, arith}
use Rattle.std.specs.Prelude.{◌≢◌, if◌then◌else◌, Option, Some, None, is_some, IfSome, Result, option_map, option_and_then}
use Rattle.std.proofs.Math.Logic.{∥∥₁_map}
use Rattle.std.proofs.lemmas.Option.{none-some, same_Some}
use Rattle.rss_base.specs.DiskRule.{IsTold}
use Rattle.rss_base.specs.Listings.{Listing, relation_at, link_at}
use Rattle.rss_base.specs.Steps.{PagesView, AreCounted, no_page}
use Rattle.rss_base.specs.declared.fault.PageFault.{PageFault}
use Rattle.rss_base.specs.declared.link.LinkEntry.{LinkEntry}
use Rattle.rss_base.specs.declared.name.Name.{Name}
use Rattle.rss_base.specs.declared.relation.RelationEntry.{RelationEntry}
use Rattle.rss_base.specs.declared.spot.Spot.TheVariants.{After}
use Rattle.rss_base.specs.declared.tid.Tid.{Tid}
use Rattle.rss_base.proofs.Steps.{all_mapped, all_held}
use Rattle.rss_tuple.specs.TupleSteps.{TuplesView, TuplesCall, no_tuple, tuples_in}
use Rattle.rss_link.proofs.TupleSteps.{TuplesStep, told_then, told_before, heaps_then}
use Rattle.rss_model.specs.Chains.{chain, chain_with, stands_in, HasParent}
use Rattle.rss_model.specs.Kept.{Kept}
use Rattle.rss_model.specs.Machine.{State, now}
use Rattle.rss_stored.specs.Store.{relation_name}
use Rattle.rss_model.specs.Tables.{Contents, Tables}
use Rattle.rss_model.proofs.LogLists.{some_of}
use Rattle.rss_model.proofs.StepKeeping.{kept_fit}
use Rattle.rss_members.specs.Calls.{MembersView, both, Spells, HasForm, FindsTuple, FindsConnected as FindsTheConnected, MayAskAbove, AnswersAbove, MayAskBelow, AnswersBelow, MayAskChain, AnswersChain, KnowsTuple, MayAskTuple}
use Rattle.rss_members.proofs.Alone.{none_with, absent_alone, alone_connected}
use Rattle.rss_members.proofs.Defined.{child_listed}
use Rattle.rss_members.proofs.Later.{spells_then, below_then, tuple_then}
use Rattle.rss_session.specs.Linking.{SaysOfLink, SaysOfChain, FindsMembership, FindsConnected, left_at}
use Rattle.rss_session.specs.Looks.{LooksOn, CostsNothing}
use Rattle.rss_session.specs.Sessions.{SessionView, IsReady}
use Rattle.rss_session.specs.Shown.{Shows}
use Rattle.rss_session.proofs.Behind.{costs_nothing}
use Rattle.rss_session.proofs.Looked.{with_pages, slots_shown}
use Rattle.rss_session.proofs.Passing.{looks_on}

-- ---- a call on tuples by which none was touched

pub looks_at : {T : Type 0} {result : Result T PageFault} {cost : ℕ} {pages : PagesView} (old : SessionView) → IsReady old → AreCounted old.store.pages → AreCounted pages → TuplesCall no_page no_tuple cost (tuples_in old.store.pages) (tuples_in pages) result → LooksOn old (with_pages pages old) result
looks_at old ready counted_old counted did = looks_on old ready counted_old counted did.below (all_mapped did.below.step) (all_held did.below.step) did.heaps

pub idle_at : {T : Type 0} {result : Result T PageFault} {cost : ℕ} {pages : PagesView} (old : SessionView) → TuplesCall no_page no_tuple cost (tuples_in old.store.pages) (tuples_in pages) result → CostsNothing old (with_pages pages old)
idle_at old did = costs_nothing did.below.step

-- ---- behind a tuple

pub behind_there : (tid : Tid) (tids : List Tid) (found : Bool) → found ≡ stands_in tid tids → found ≡ true → Some (Some tid) ≡ left_at (After tid) tids
behind_there tid tids found is there = sym (ap (λ (b : Bool). if b then Some (Some tid) else None) (sym is ∙ there))

pub behind_none : (tid : Tid) (tids : List Tid) (found : Bool) → found ≡ stands_in tid tids → found ≡ false → None ≡ left_at (After tid) tids
behind_none tid tids found is off = sym (ap (λ (b : Bool). if b then Some (Some tid) else None) (sym is ∙ off))

-- ---- the parents' relation

pub upper_there : (listing : Listing) (child : ℕ) {relation : ℕ} (parent : Option ℕ) → parent ≡ Some relation → IfSome parent (λ k. (is_some (relation_at listing k) ≡ true) × (k ≢ child)) → is_some (relation_at listing relation) ≡ true
upper_there listing child {relation = relation} None none fits = absurd (none-some relation none)
upper_there listing child (Some k) some fits = ap (λ (o : Option ℕ). is_some (option_and_then (relation_at listing) o)) (sym some) ∙ fits.0

pub without_parent : (parent : Option ℕ) (given : Option Tid) → is_some parent ≡ is_some given → given ≡ None → parent ≡ None
without_parent None given form none = refl
without_parent (Some k) given form none = absurd (cc (form ∙ ap is_some none))

-- ---- what is spelled

-- a session's tuples, with its catalog
abbrev pub members_of : SessionView → MembersView
members_of view = both (tuples_in view.store.pages) view.store.catalog

module _ {view : SessionView} (ready : IsReady view) where
  -- the tables of each state are
  pub members_shown : {state : State} → Kept state → Shows view state → Spells (members_of view) (now state)
  members_shown {state = state} kept shows =
      let fit = (kept_fit state kept).1 in record {
        listed = shows.store.spells.listed;
        defines = shows.store.spells.defines;
        contents = shows.store.spells.contents;
        tuples = fit.tuples;
        links = fit.links;
        tids = λ relation tid there.
            let id = fit.tids relation tid there in
            (omega (arith, id.page, slots_shown ready shows, ready.store.size, ready.store.formed.slots_most), id.slot);
      }

  -- and some tables are, on a device that tells its contents
  pub knows_some : IsTold view.store.pages.disk → ∥ ((tables : Tables) × Spells (members_of view) tables) ∥₁
  knows_some told = ∥∥₁_map (ready.store.tables told) (λ has. (
    has.tables,
    record {
      listed = has.spells.listed;
      defines = has.spells.defines;
      contents = has.spells.contents;
      tuples = has.tuples;
      links = has.links;
      tids = λ relation tid there.
          let id = has.tids relation tid there in
          (omega (arith, id.page, ready.store.size, ready.store.formed.slots_most), id.slot);
    },
  ))

  -- ---- of any chain

  pub may_ask_chain : (number : ℕ) (parent : Option Tid) → is_some (link_at view.store.catalog.listing number) ≡ true → HasForm view.store.catalog.listing number parent → MayAskChain (members_of view) number parent
  may_ask_chain number parent listed form = record { listed = listed; form = form; heaps = ready.store.heaps; knows = knows_some }

  pub says_chain : (number : ℕ) (parent : Option Tid) (says : List Tid → Type 0) → AnswersChain (members_of view) number parent says → SaysOfChain view number parent says
  says_chain number parent says answers told state kept shows link at = answers told (now state) link (members_shown kept shows) at

  -- ---- where it was found that a tuple is there, or isn't

  module _ {cost : ℕ} {mid : TuplesView} (step : TuplesStep no_page no_tuple cost (tuples_in view.store.pages) mid) (relation : ℕ) (tid : Tid) where
    -- a child
    module _ (number : ℕ) (link : LinkEntry) (at : link_at view.store.catalog.listing number ≡ Some link) (is : link.child ≡ relation) where
      within : {child : RelationEntry} → relation_at view.store.catalog.listing link.child ≡ Some child → relation_at view.store.catalog.listing relation ≡ Some child
      within found = ap (relation_at view.store.catalog.listing) (sym is) ∙ found

      pub may_ask_below : FindsTuple (members_of view) relation tid true → MayAskBelow (both mid view.store.catalog) number tid
      may_ask_below found = below_then step view.store.catalog (record {
        listed = ap is_some at;
        heaps = ready.store.heaps;
        knows = λ told. ∥∥₁_map (knows_some told) (λ knows.
            let so = child_listed knows.1 number link at in
            record { tables = knows.0; link = link; child = so.0; spells = knows.1; listed = so.1; there = sym (found told knows.0 so.0 knows.1 (within so.1.within)) });
      })

      pub says_below : (says : Contents → Name → Type 0) → FindsTuple (members_of view) relation tid true → AnswersBelow (both mid view.store.catalog) number tid says → SaysOfLink view number (λ state name. says (now state).contents name)
      says_below says found answers told state kept shows other at_too =
          let spells = members_shown kept shows in
          let so = child_listed spells number link at in
          subst (λ (l : LinkEntry). says (now state).contents l.name) (same_Some _ _ (sym at ∙ at_too))
          (answers (told_then step told) (now state) link so.0 (spells_then step view.store.catalog told spells) so.1 (sym (found told (now state) so.0 spells (within so.1.within))))

      pub says_absent : FindsTuple (members_of view) relation tid false → FindsMembership view number tid None
      says_absent found told state kept shows other at_too =
          let spells = members_shown kept shows in
          let so = child_listed spells number link at in
          let alone = absent_alone spells relation tid so.0 (within so.1.within) (sym (found told (now state) so.0 spells (within so.1.within))) in
          subst (λ (l : LinkEntry). chain_with (now state).contents l.name tid ≡ None) (same_Some _ _ (sym at ∙ at_too))
          (none_with (now state).contents link.name tid (alone.child number link at is))

    -- a tuple of a relation
    pub may_ask_tuple : is_some (relation_at view.store.catalog.listing relation) ≡ true → FindsTuple (members_of view) relation tid true → MayAskTuple (both mid view.store.catalog) relation tid
    may_ask_tuple listed found = tuple_then step view.store.catalog (record {
      listed = listed;
      heaps = ready.store.heaps;
      knows = λ told. ∥∥₁_map (knows_some told) (λ knows. by (relation_at view.store.catalog.listing relation) refl listed told knows.0 knows.1);
    })
      where
        by : (o : Option RelationEntry) → relation_at view.store.catalog.listing relation ≡ o → is_some o ≡ true → IsTold view.store.pages.disk → (tables : Tables) → Spells (members_of view) tables → KnowsTuple (members_of view) relation tid
        by None at there told tables spells = absurd (cc (there))
        by (Some entry) at there told tables spells = record { tables = tables; relation = entry; spells = spells; listed = at; there = sym (found told tables entry spells at) }

    pub says_connected : (name : Option Name) → FindsTuple (members_of view) relation tid true → FindsTheConnected (both mid view.store.catalog) relation tid name → FindsConnected view relation tid name
    says_connected name found answers told state kept shows entry at =
        let spells = members_shown kept shows in
        answers (told_then step told) (now state) entry (spells_then step view.store.catalog told spells) at (sym (found told (now state) entry spells at))

    pub says_unconnected : FindsTuple (members_of view) relation tid false → FindsConnected view relation tid None
    says_unconnected found told state kept shows entry at =
        let spells = members_shown kept shows in
        sym (alone_connected spells relation tid entry at (absent_alone spells relation tid entry at (sym (found told (now state) entry spells at))))

    -- a parent
    module _ (number : ℕ) (link : LinkEntry) (at : link_at view.store.catalog.listing number ≡ Some link) (is : link.parent ≡ Some relation) where
      -- its relation is listed
      its_relation : {tables : Tables} → Spells (members_of view) tables → (entry : RelationEntry) × (relation_at view.store.catalog.listing relation ≡ Some entry)
      its_relation spells = some_of (relation_at view.store.catalog.listing relation) (upper_there view.store.catalog.listing link.child link.parent is (spells.listed.paths.links number link at).parent)

      -- it is one of the link's
      above : {tables : Tables} → IsTold view.store.pages.disk → (spells : Spells (members_of view) tables) → FindsTuple (members_of view) relation tid true → HasParent tables.contents (option_and_then (relation_name view.store.catalog.listing) link.parent) (Some tid)
      above {tables = tables} told spells found =
          let entry = its_relation spells in
          subst (λ (o : Option Name). HasParent tables.contents o (Some tid))
          (sym (ap (option_and_then (relation_name view.store.catalog.listing)) is ∙ ap (option_map (λ (r : RelationEntry). r.name)) entry.1))
          (sym (found told tables entry.0 spells entry.1))

      -- without it there is no chain
      pub says_bare : (says : List Tid → Type 0) → says [] → FindsTuple (members_of view) relation tid false → SaysOfChain view number (Some tid) says
      says_bare says none found told state kept shows other at_too =
          let spells = members_shown kept shows in
          let entry = its_relation spells in
          let alone = absent_alone spells relation tid entry.0 entry.1 (sym (found told (now state) entry.0 spells entry.1)) in
          subst (λ (l : LinkEntry). says (chain (now state).contents l.name (Some tid))) (same_Some _ _ (sym at ∙ at_too))
          (subst says (sym (alone.parent number link at is)) none)

      pub may_ask_above : FindsTuple (members_of view) relation tid true → MayAskAbove (both mid view.store.catalog) number (Some tid)
      may_ask_above found = record {
        listed = ap is_some at;
        heaps = heaps_then step;
        knows = λ now_told.
            let told = told_before step now_told in
            ∥∥₁_map (knows_some told) (λ knows.
            let so = child_listed knows.1 number link at in
            record { tables = knows.0; link = link; child = so.0; spells = spells_then step view.store.catalog told knows.1; listed = so.1; under = above told knows.1 found });
      }

      pub says_above : (says : List Tid → Type 0) → FindsTuple (members_of view) relation tid true → AnswersAbove (both mid view.store.catalog) number (Some tid) says → SaysOfChain view number (Some tid) says
      says_above says found answers told state kept shows other at_too =
          let spells = members_shown kept shows in
          let so = child_listed spells number link at in
          subst (λ (l : LinkEntry). says (chain (now state).contents l.name (Some tid))) (same_Some _ _ (sym at ∙ at_too))
          (answers (told_then step told) (now state) link so.0 (spells_then step view.store.catalog told spells) so.1 (above told spells found))

  -- ---- without a parent

  module _ (number : ℕ) (link : LinkEntry) (at : link_at view.store.catalog.listing number ≡ Some link) (is : link.parent ≡ None) where
    none_above : (tables : Tables) → HasParent tables.contents (option_and_then (relation_name view.store.catalog.listing) link.parent) None
    none_above tables = subst (λ (o : Option ℕ). HasParent tables.contents (option_and_then (relation_name view.store.catalog.listing) o) None) (sym is) tt

    pub may_ask_unary : MayAskAbove (members_of view) number None
    may_ask_unary = record {
      listed = ap is_some at;
      heaps = ready.store.heaps;
      knows = λ told. ∥∥₁_map (knows_some told) (λ knows.
          let so = child_listed knows.1 number link at in
          record { tables = knows.0; link = link; child = so.0; spells = knows.1; listed = so.1; under = none_above knows.0 });
    }

    pub says_unary : (says : List Tid → Type 0) → AnswersAbove (members_of view) number None says → SaysOfChain view number None says
    says_unary says answers told state kept shows other at_too =
        let spells = members_shown kept shows in
        let so = child_listed spells number link at in
        subst (λ (l : LinkEntry). says (chain (now state).contents l.name None)) (same_Some _ _ (sym at ∙ at_too))
        (answers told (now state) link so.0 spells so.1 (none_above (now state)))
