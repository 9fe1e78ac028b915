-- The calls on links that change a chain, read where a tuple stands, or open a scan: by what was found, and what their step comes to.
use Rattle.std.proofs.Common.{◌≡◌, ℕ, ◌^◌, ◌<◌, true, false, List, [], ◌∷◌, refl, sym, ◌∙◌, ap, subst, arith}
use Rattle.std.specs.Prelude.{All, Option, Some, None, Ok, is_some, option_map, option_and_then}
use Rattle.std.proofs.lemmas.Option.{same_Some}
use Rattle.rss_base.specs.DiskRule.{IsTold}
use Rattle.rss_base.specs.Listings.{IsNumberOf, link_at}
use Rattle.rss_base.specs.LogRecords.{IsChangeBounded, DoesChangeFit}
use Rattle.rss_base.specs.declared.answer.Reply.TheVariants.{Ok as Done}
use Rattle.rss_base.specs.declared.call.Call.TheVariants.{Connect, Disconnect}
use Rattle.rss_base.specs.declared.change.Change.TheVariants.{Connect as ConnectRecord, Disconnect as DisconnectRecord}
use Rattle.rss_base.specs.declared.item.Item.{Item}
use Rattle.rss_base.specs.declared.item.Item.TheVariants.{Chain as ChainItem}
use Rattle.rss_base.specs.declared.link.LinkEntry.{LinkEntry}
use Rattle.rss_base.specs.declared.name.Name.{Name}
use Rattle.rss_base.specs.declared.need.Need.{Need}
use Rattle.rss_base.specs.declared.refusal.Kind.TheVariants.{Link as LinkKind}
use Rattle.rss_base.specs.declared.refusal.Refusal.{Refusal}
use Rattle.rss_base.specs.declared.refusal.Refusal.TheVariants.{Connected, NotConnected, NoTuple}
use Rattle.rss_base.specs.declared.spot.Spot.{Spot}
use Rattle.rss_base.specs.declared.tid.Tid.{Tid}
use Rattle.rss_lock.specs.Locks.{LocksView}
use Rattle.rss_members.specs.Calls.{HasForm, IsPlaceOf}
use Rattle.rss_members.specs.declared.membership.Membership.{Membership}
use Rattle.rss_model.specs.Chains.{chain, chain_with, has_spot, left_of, stands_in}
use Rattle.rss_stored.specs.LogLaws.{IsToldBy}
use Rattle.rss_model.specs.Locks.{Locks, granted}
use Rattle.rss_model.specs.Machine.{State, now}
use Rattle.rss_model.specs.Needs.{needs}
use Rattle.rss_model.specs.Refusals.{connection, disconnection, is_in_chain, unless_child, unless_spot}
use Rattle.rss_model.specs.Ruled.{ruled}
use Rattle.rss_model.specs.Rules.{if_no_room}
use Rattle.rss_model.specs.Steps.{Step, first_of, if_full, locked, refusal, unless_live}
use Rattle.rss_model.specs.Steps.StepBy.{connects, disconnects}
use Rattle.rss_model.specs.Tables.{LinkDef}
use Rattle.rss_model.proofs.ChangeKeeping.{in_no_chain}
use Rattle.rss_model.proofs.StepKeeping.{kept_fit}
use Rattle.rss_model.proofs.Testing.{all_none, holds, holds_not}
use Rattle.rss_model.proofs.Tests.{goes_on, passes_unless, refuses_unless}
use Rattle.rss_model.proofs.Transfer.{over_same}
use Rattle.rss_session.specs.Admissions.{Says, link_admission}
use Rattle.rss_session.specs.Linking.{FindsMembership, SaysOfChain}
use Rattle.rss_rsi.specs.Imaging.{Searches}
use Rattle.rss_rsi.specs.Linking.{ListsPlaced, SaysFound, above_test, below_test, chain_of, connect_tests, if_placed, stray_tests}
use Rattle.rss_rsi.specs.Locking.{IsClaimed, Lists}
use Rattle.rss_rsi.specs.Views.{RssParts, IsIn}
use Rattle.rss_rsi.proofs.Chained.{LinkIn, chain_is, finds_chain, link_entry, member_there, parent_there, form_there, tells_connect, tells_disconnect}
use Rattle.rss_rsi.proofs.Changes.{IsLast, EndsByChange}
use Rattle.rss_rsi.proofs.Claims.{free_as, locked_as}
use Rattle.rss_rsi.proofs.LinkNeeds.{link_in}
use Rattle.rss_rsi.proofs.LinkTests.{connect_linked, disconnect_linked, linked_passes, linked_refused, outside_tests, unless_placed}
use Rattle.rss_rsi.proofs.Telling.{may_make}
use Rattle.rss_rsi.proofs.Ways.{SameHeld, in_held}

no_some : {A : Type 0} (o : Option A) → is_some o ≡ false → o ≡ None
no_some None e = refl
no_some (Some a) e = absurd (cc (e))

module _ (parts : RssParts) (t : ℕ) (link : Name) (number : ℕ) (known : IsNumberOf LinkKind parts.session.store.catalog.listing link number) {entry : LinkEntry} (at : link_at parts.session.store.catalog.listing number ≡ Some entry) (child : Tid) (small : t < 2 ^ 32) where
  named : entry.name ≡ link
  named =
      let its = link_entry parts.session.store.catalog.listing link number known in
      ap (λ (e : LinkEntry). e.name) (same_Some _ _ (sym at ∙ its.at)) ∙ its.named

  -- ---- a tuple comes into a chain

  module _ (parent : Option Tid) (spot : Spot) (form : HasForm parts.session.store.catalog.listing number parent) (admitted : Says parts.session (λ state. link_admission state t link (Some (is_some parent))) None)
      {list : List Need} (lists : Lists parts (λ tables. needs tables (Connect t link child parent spot)) list) {claimed : LocksView} (claim : IsClaimed parts.locks claimed t list)
      (passed : SaysFound parts.session (connect_tests link child parent spot) None) {left : Option Tid} (behind : SaysOfChain parts.session number parent (λ tids. left ≡ left_of spot tids))
      (bounded : IsChangeBounded (ConnectRecord number parent child left)) (fits : DoesChangeFit (ConnectRecord number parent child left)) where
    module _ (told : IsTold parts.session.store.pages.disk) (state : State) (is_in : IsIn parts state) where
      each : All (λ (o : Option Refusal). o ≡ None) (below_test link child state ∷ above_test link parent state ∷ if_placed link child state ∷ unless_spot state link parent spot ∷ [])
      each = all_none (below_test link child state ∷ above_test link parent state ∷ if_placed link child state ∷ unless_spot state link parent spot ∷ []) (passed told state is_in.kept is_in.shows)

      outside : stands_in child (chain (now state).contents link parent) ≡ false
      outside = in_no_chain (now state).contents link child (no_some _ (holds_not (is_in_chain state link child) (Connected link) (each 2 None (omega arith)))) parent

      there : has_spot spot (chain (now state).contents link parent) ≡ true
      there = holds (has_spot spot (chain (now state).contents link parent)) (NotConnected link) (each 3 None (omega arith))

      is_told : IsToldBy parts.session.store.catalog.listing (ConnectRecord number parent child left) (connection state t link child parent spot)
      is_told = tells_connect known at t small parent (form entry at) child left state spot outside there
          (subst (λ (name : Name). left ≡ left_of spot (chain (now state).contents name parent)) named (behind told state is_in.kept is_in.shows entry at)) bounded fits

      connect_last : IsLast parts.session (granted t list parts.locks.locks) t (ConnectRecord number parent child left) (Connect t link child parent spot) Done state
      connect_last =
          let call = Connect t link child parent spot in
          let change = connection state t link child parent spot in
          let listed : needs (now state) call ≡ list = lists told state is_in in
          let refuses : refusal state call ≡ if_no_room state change = linked_passes (connect_linked t link child parent spot) state (admitted told state is_in.shows) (free_as is_in call listed claim) (passed told state is_in.kept is_in.shows) in
          record {
            change = change;
            by = refl;
            is_told = is_told;
            refuses = refuses;
            may = λ passes. may_make parts.session (locked call state).locks is_in.kept is_told (finds_chain (kept_fit state is_in.kept).1 link parent)
                (connects t link child parent spot state.meter.over (refuses ∙ passes) (over_same state change));
            steps = λ passes over allowed. subst (λ (locks : Locks). Step state call (Ok Done) (record (ruled change over state) { locks = locks })) (locked_as is_in call listed t refl)
                (connects t link child parent spot over (refuses ∙ passes) allowed);
          }

    pub connect_ends : EndsByChange parts (granted t list parts.locks.locks) t (ConnectRecord number parent child left) (Connect t link child parent spot) Done
    connect_ends = record { last = connect_last; short = omega arith; may = (connect_linked t link child parent spot).may; saves = refl }

  -- ---- it goes out of one

  module _ (place : Membership) (found : FindsMembership parts.session number child (Some place)) where
    module _ (told : IsTold parts.session.store.pages.disk) (state : State) (is_in : IsIn parts state) where
      pub its_place : IsPlaceOf (now state).contents link (record place { child = child })
      its_place =
          let its = found told state is_in.kept is_in.shows entry at in
          subst (λ (name : Name). IsPlaceOf (now state).contents name (record place { child = child })) named (subst (λ (c : Tid). IsPlaceOf (now state).contents entry.name (record place { child = c })) its.1 its.2)

      pub placed_in : chain_with (now state).contents link child ≡ Some (ChainItem link place.parent)
      placed_in = chain_is (kept_fit state is_in.kept).1 link child place.parent its_place.stands

      its_link : LinkIn parts.session.store.catalog.listing (now state).definitions link entry
      its_link = link_in parts link number known at is_in

      -- it is there, and stands in a chain
      pub placed_passes : outside_tests link child state ≡ None
      placed_passes =
          let its = its_link in
          let live : unless_live state its.definition.child child ≡ None = passes_unless (NoTuple its.definition.child child) (member_there (kept_fit state is_in.kept).1 link child place.parent its.defined its_place.stands) in
          let below : below_test link child state ≡ None = ap (λ (d : Option LinkDef). unless_child state d child) its.defined ∙ live in
          goes_on (unless_placed link child state ∷ []) below ∙ goes_on [] (passes_unless (NotConnected link) (ap is_some placed_in))

      placed_form : is_some entry.parent ≡ is_some place.parent
      placed_form =
          let its = its_link in
          sym its.has_above ∙ form_there (now state).contents its.definition.parent place.parent (parent_there (kept_fit state is_in.kept).1 link child place.parent its.defined its_place.stands)

    module _ (admitted : Says parts.session (λ state. link_admission state t link None) None)
        {list : List Need} (lists : Lists parts (λ tables. needs tables (Disconnect t link child)) list) {claimed : LocksView} (claim : IsClaimed parts.locks claimed t list)
        (bounded : IsChangeBounded (DisconnectRecord number place.parent child place.left)) (fits : DoesChangeFit (DisconnectRecord number place.parent child place.left)) where
      disconnect_last : (told : IsTold parts.session.store.pages.disk) (state : State) (is_in : IsIn parts state) → IsLast parts.session (granted t list parts.locks.locks) t (DisconnectRecord number place.parent child place.left) (Disconnect t link child) Done state
      disconnect_last told state is_in =
          let call = Disconnect t link child in
          let item = ChainItem link place.parent in
          let change = disconnection state t item child in
          let its = its_place told state is_in in
          let here = placed_in told state is_in in
          let listed : needs (now state) call ≡ list = lists told state is_in in
          let rules : if_full state call ≡ if_no_room state change = ap (λ (o : Option Item). option_and_then (if_no_room state) (option_map (λ (i : Item). disconnection state t i child) o)) here in
          let refuses : refusal state call ≡ if_no_room state change = linked_passes (disconnect_linked t link child) state (admitted told state is_in.shows) (free_as is_in call listed claim) (placed_passes told state is_in) ∙ rules in
          let is_told : IsToldBy parts.session.store.catalog.listing (DisconnectRecord number place.parent child place.left) change = tells_disconnect known at t small place.parent (placed_form told state is_in) child place.left state its.behind its.is bounded fits in
          record {
            change = change;
            by = refl;
            is_told = is_told;
            refuses = refuses;
            may = λ passes. may_make parts.session (locked call state).locks is_in.kept is_told (finds_chain (kept_fit state is_in.kept).1 link place.parent)
                (disconnects t link child item state.meter.over (refuses ∙ passes) here (over_same state change));
            steps = λ passes over allowed. subst (λ (locks : Locks). Step state call (Ok Done) (record (ruled change over state) { locks = locks })) (locked_as is_in call listed t refl)
                (disconnects t link child item over (refuses ∙ passes) here allowed);
          }

      pub disconnect_ends : EndsByChange parts (granted t list parts.locks.locks) t (DisconnectRecord number place.parent child place.left) (Disconnect t link child) Done
      disconnect_ends = record { last = disconnect_last; short = omega arith; may = (disconnect_linked t link child).may; saves = refl }

  -- where it stands, and the list of the call that takes it out

  pub placed_chain : (found : Option Membership) → FindsMembership parts.session number child found → IsTold parts.session.store.pages.disk → (state : State) → IsIn parts state → chain_with (now state).contents link child ≡ option_map (chain_of link) found
  placed_chain None finds told state is_in = subst (λ (name : Name). chain_with (now state).contents name child ≡ None) named (finds told state is_in.kept is_in.shows entry at)
  placed_chain (Some place) finds told state is_in = placed_in place finds told state is_in

  pub disconnect_lists : {mid : RssParts} → Searches parts.session mid.session → SameHeld parts mid → (found : Option Membership) → FindsMembership parts.session number child found → {list : List Need} → ListsPlaced mid link child found list → Lists parts (λ tables. needs tables (Disconnect t link child)) list
  disconnect_lists looks held found finds lists told state is_in = lists (looks.goes.told.0 told) state (in_held held (looks.shows told state is_in.shows) is_in) (placed_chain found finds told state is_in)

  -- it stands in none

  pub stray_refused : (found : Option Membership) → found ≡ None → FindsMembership parts.session number child found → Says parts.session (λ state. link_admission state t link None) None → {list : List Need} → Lists parts (λ tables. needs tables (Disconnect t link child)) list → {claimed : LocksView} → IsClaimed parts.locks claimed t list
      → IsTold parts.session.store.pages.disk → (state : State) → IsIn parts state → (other : Refusal) → stray_tests link child state ≡ Some other → (needs (now state) (Disconnect t link child) ≡ list) × (refusal state (Disconnect t link child) ≡ Some other)
  stray_refused found none finds admitted lists claim told state is_in other is =
      let listed = lists told state is_in in
      let out : chain_with (now state).contents link child ≡ None = placed_chain found finds told state is_in ∙ ap (option_map (chain_of link)) none in
      let unplaced : unless_placed link child state ≡ Some (NotConnected link) = refuses_unless (NotConnected link) (ap is_some out) in (
        listed,
        linked_refused (disconnect_linked t link child) state (admitted told state is_in.shows) (free_as is_in (Disconnect t link child) listed claim)
            (ap (λ (o : Option Refusal). first_of (below_test link child state ∷ o ∷ [])) unplaced ∙ is),
      )
