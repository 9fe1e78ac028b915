-- What looks at chains find, as the calls on links ask for it.
use Rattle.std.proofs.Common.{◌≡◌, ℕ, Bool, true, false, List, refl, sym, ◌∙◌, ap, subst}
use Rattle.std.specs.Prelude.{Option, Some, None, Ok, IfSome, if◌then◌else◌, is_some, option_and_then, option_map}
use Rattle.std.proofs.lemmas.Option.{none-some, same_Some}
use Rattle.rss_base.specs.DiskRule.{IsTold}
use Rattle.rss_base.specs.Listings.{IsNumberOf, link_at, relation_at}
use Rattle.rss_base.specs.LogRecords.{HasSlot, HasPage}
use Rattle.rss_base.specs.declared.item.Item.TheVariants.{Chain as ChainItem}
use Rattle.rss_base.specs.declared.link.LinkEntry.{LinkEntry}
use Rattle.rss_base.specs.declared.name.Name.{Name}
use Rattle.rss_base.specs.declared.refusal.Kind.TheVariants.{Link as LinkKind}
use Rattle.rss_base.specs.declared.relation.RelationEntry.{RelationEntry}
use Rattle.rss_base.specs.declared.refusal.Refusal.TheVariants.{Connected, NotConnected}
use Rattle.rss_base.specs.declared.spot.Spot.{Spot}
use Rattle.rss_base.specs.declared.tid.Tid.{Tid}
use Rattle.rss_members.specs.Calls.{IsPlaceOf, above_in}
use Rattle.rss_members.specs.declared.membership.Membership.{Membership}
use Rattle.rss_model.specs.Chains.{chain, chain_with, has_spot, left_of}
use Rattle.rss_model.specs.Kept.{Kept}
use Rattle.rss_model.specs.Machine.{State, now}
use Rattle.rss_model.specs.Refusals.{unless_child, unless_live, unless_live_below, unless_parent, unless_spot}
use Rattle.rss_stored.specs.Store.{relation_name}
use Rattle.rss_model.specs.Tables.{LinkDef}
use Rattle.rss_model.proofs.StepKeeping.{kept_fit}
use Rattle.rss_model.proofs.Tests.{passes_if, passes_unless, refuses_if, refuses_unless}
use Rattle.rss_catalog.specs.Catalogs.{CatalogView}
use Rattle.rss_session.specs.Linking.{FindsLeft, FindsMembership, SaysOfChain, SaysOfLink, left_at}
use Rattle.rss_session.specs.Looks.{LooksOn}
use Rattle.rss_session.specs.Sessions.{SessionView}
use Rattle.rss_session.specs.Shown.{Shows}
use Rattle.rss_rsi.specs.Linking.{MayBeTold, SaysFound, above_test, below_test, if_placed}
use Rattle.rss_rsi.proofs.Chained.{LinkIn, link_shown, chain_is, left_slot, link_entry, member_slot, parent_slot, some_entry, spot_slot}

-- ---- where a tuple stands

module _ (view : SessionView) (number : ℕ) (child : Tid) (found : Option Membership) (place : Membership) (some : found ≡ Some place) (finds : FindsMembership view number child found) (known : is_some (link_at view.store.catalog.listing number) ≡ true) (told : IsTold view.store.pages.disk) (state : State) (kept : Kept state) (shows : Shows view state) where
  abbrev entry : (e : LinkEntry) × (link_at view.store.catalog.listing number ≡ Some e)
  entry = some_entry (link_at view.store.catalog.listing number) known

  stands_so : (place.child ≡ child) × IsPlaceOf (now state).contents entry.0.name place
  stands_so =
      let its = subst (FindsMembership view number child) some finds told state kept shows entry.0 entry.1 in
      (its.1, its.2)

  pub place_child : HasSlot child
  place_child = subst HasSlot stands_so.0 (member_slot (kept_fit state kept).1 entry.0.name place.parent place.child stands_so.1.stands)

  pub place_parent : IfSome place.parent HasSlot
  place_parent = parent_slot (kept_fit state kept).1 entry.0.name place.parent place.child stands_so.1.stands

  pub place_left : IfSome place.left HasSlot
  place_left = left_slot (kept_fit state kept).1 entry.0.name place.parent place.child place.left stands_so.1.behind

-- whether it stands in one
module _ (view : SessionView) (link : Name) (number : ℕ) (known : IsNumberOf LinkKind view.store.catalog.listing link number) (child : Tid) (found : Option Membership) (finds : FindsMembership view number child found) where
  -- the link of this number has this name
  by_name : (P : Name → Type 0) → ((e : LinkEntry) → link_at view.store.catalog.listing number ≡ Some e → P e.name) → P link
  by_name P each =
      let its = link_entry view.store.catalog.listing link number known in
      subst P its.named (each its.entry its.at)

  pub none_placed : found ≡ None → SaysFound view (if_placed link child) None
  none_placed none told state kept shows =
      let its = subst (FindsMembership view number child) none finds told state kept shows in
      let out : chain_with (now state).contents link child ≡ None = by_name (λ (name : Name). chain_with (now state).contents name child ≡ None) its in
      passes_if (Connected link) (ap is_some out)

  pub some_placed : (place : Membership) → found ≡ Some place → SaysFound view (if_placed link child) (Some (Connected link))
  some_placed place some told state kept shows =
      let its = subst (FindsMembership view number child) some finds told state kept shows in
      let so : IsPlaceOf (now state).contents link (record place { child = child }) =
      by_name (λ (name : Name). IsPlaceOf (now state).contents name (record place { child = child })) (λ e at. subst (λ (c : Tid). IsPlaceOf (now state).contents e.name (record place { child = c })) (its e at).1 (its e at).2) in
      refuses_if (Connected link) (ap is_some (chain_is (kept_fit state kept).1 link child place.parent so.stands))

-- ---- spots

left_there : (spot : Spot) (tids : List Tid) {left : Option Tid} → Some left ≡ left_at spot tids → (has_spot spot tids ≡ true) × (left ≡ left_of spot tids)
left_there spot tids {left = left} is = by (has_spot spot tids) is
  where
    by : (b : Bool) → Some left ≡ (if b then Some (left_of spot tids) else None) → (b ≡ true) × (left ≡ left_of spot tids)
    by true is = (refl, same_Some _ _ is)
    by false is = absurd (none-some _ (sym is))

left_none : (spot : Spot) (tids : List Tid) → None ≡ left_at spot tids → has_spot spot tids ≡ false
left_none spot tids is = by (has_spot spot tids) is
  where
    by : (b : Bool) → None ≡ (if b then Some (left_of spot tids) else None) → b ≡ false
    by true is = absurd (none-some _ is)
    by false is = refl

module _ (view : SessionView) (link : Name) (number : ℕ) (known : IsNumberOf LinkKind view.store.catalog.listing link number) (parent : Option Tid) (spot : Spot) (found : Option (Option Tid)) (finds : FindsLeft view number parent spot found) where
  spot_by_name : (state : State) → ((e : LinkEntry) → link_at view.store.catalog.listing number ≡ Some e → found ≡ left_at spot (chain (now state).contents e.name parent)) → found ≡ left_at spot (chain (now state).contents link parent)
  spot_by_name state each =
      let its = link_entry view.store.catalog.listing link number known in
      subst (λ (name : Name). found ≡ left_at spot (chain (now state).contents name parent)) its.named (each its.entry its.at)

  -- there is none
  pub spot_none : found ≡ None → SaysFound view (λ state. unless_spot state link parent spot) (Some (NotConnected link))
  spot_none none told state kept shows = refuses_unless (NotConnected link) (left_none spot (chain (now state).contents link parent) (sym none ∙ spot_by_name state (finds told state kept shows)))

  -- there is one
  module _ (left : Option Tid) (some : found ≡ Some left) where
    pub spot_there : SaysFound view (λ state. unless_spot state link parent spot) None
    spot_there told state kept shows = passes_unless (NotConnected link) (left_there spot (chain (now state).contents link parent) (sym some ∙ spot_by_name state (finds told state kept shows))).0

    pub spot_left : SaysOfChain view number parent (λ tids. left ≡ left_of spot tids)
    spot_left told state kept shows e at = (left_there spot (chain (now state).contents e.name parent) (sym some ∙ finds told state kept shows e at)).1

    pub spot_named : IsTold view.store.pages.disk → (state : State) → Kept state → Shows view state → IfSome left HasSlot
    spot_named told state kept shows =
        let its = left_there spot (chain (now state).contents link parent) (sym some ∙ spot_by_name state (finds told state kept shows)) in
        subst (λ (l : Option Tid). IfSome l HasSlot) (sym its.1) (spot_slot (kept_fit state kept).1 link parent spot its.0)

-- ---- behind a look

-- what is said of a link afterwards was so before
pub link_before : {old mid : SessionView} {T : Type 0} {found : T} → LooksOn old mid (Ok found) → (number : ℕ) (says : State → Name → Type 0) → SaysOfLink mid number says → SaysOfLink old number says
link_before looks number says said told state kept shows entry at =
    said (looks.goes.told.0 told) state kept (looks.shows told state shows) entry (ap (λ (c : CatalogView). link_at c.listing number) looks.catalog ∙ at)

-- ---- the relations of a link

module _ (view : SessionView) (link : Name) (number : ℕ) (known : IsNumberOf LinkKind view.store.catalog.listing link number) {entry : LinkEntry} (at : link_at view.store.catalog.listing number ≡ Some entry) where
  its_link : {state : State} → Shows view state → LinkIn view.store.catalog.listing (now state).definitions link entry
  its_link shows = link_shown shows.store.spells.listed shows.store.spells.defines link number known at

  -- the test for a tuple of the child relation, and for a parent
  pub below_as : {child : RelationEntry} → relation_at view.store.catalog.listing entry.child ≡ Some child → (tid : Tid) (state : State) → Shows view state → below_test link tid state ≡ unless_live state child.name tid
  below_as {child = child} within tid state shows =
      let its = its_link shows in
      ap (λ (d : Option LinkDef). unless_child state d tid) its.defined ∙ ap (λ (name : Name). unless_live state name tid) (its.below child within)

  pub above_as : (relation : ℕ) {upper : RelationEntry} → entry.parent ≡ Some relation → relation_at view.store.catalog.listing relation ≡ Some upper → (given : Option Tid) (tid : Tid) → given ≡ Some tid → (state : State) → Shows view state → above_test link given state ≡ unless_live state upper.name tid
  above_as relation {upper = upper} some there given tid is state shows =
      let its = its_link shows in
      let name : its.definition.parent ≡ Some upper.name = its.above ∙ ap (option_and_then (relation_name view.store.catalog.listing)) some ∙ ap (option_map (λ (r : RelationEntry). r.name)) there in
      ap (λ (d : Option LinkDef). unless_parent state d given) its.defined ∙ (λ i. unless_live_below state (name i) (is i))

  no_above : (state : State) (above : Option Name) → unless_live_below state above None ≡ None
  no_above state None = refl
  no_above state (Some relation) = refl

  pub none_above : (given : Option Tid) → given ≡ None → (state : State) → Shows view state → above_test link given state ≡ None
  none_above given none state shows =
      let its = its_link shows in
      ap (λ (d : Option LinkDef). unless_parent state d given) its.defined ∙ ap (unless_live_below state its.definition.parent) none ∙ no_above state its.definition.parent

-- ---- what is said of where it stands

module _ (view : SessionView) (number : ℕ) (child : Tid) (found : Option Membership) (finds : FindsMembership view number child found) where
  -- the parent of its chain
  pub parent_says : (place : Membership) → found ≡ Some place → SaysOfLink view number (λ state name. place.parent ≡ above_in (chain_with (now state).contents name child))
  parent_says place some told state kept shows e at =
      let its = subst (FindsMembership view number child) some finds told state kept shows e at in
      let here : chain_with (now state).contents e.name place.child ≡ Some (ChainItem e.name place.parent) = chain_is (kept_fit state kept).1 e.name place.child place.parent its.2.stands in
      sym (ap (λ (c : Tid). above_in (chain_with (now state).contents e.name c)) (sym its.1) ∙ ap above_in here)

  pub no_parent_says : found ≡ None → SaysOfLink view number (λ state name. None ≡ above_in (chain_with (now state).contents name child))
  no_parent_says none told state kept shows e at = sym (ap above_in (subst (FindsMembership view number child) none finds told state kept shows e at))

-- ---- identifiers that a record tells of

pub told_slot : (given : Option Tid) → IfSome given MayBeTold → IfSome given HasSlot
told_slot None may = tt
told_slot (Some tid) may = may.0

pub told_page : (given : Option Tid) → IfSome given MayBeTold → IfSome given HasPage
told_page None may = tt
told_page (Some tid) may = may.1
