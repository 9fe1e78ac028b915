-- The call that answers the parent of a tuple: what its step comes to.
use Rattle.std.proofs.Common.{◌≡◌, ℕ, ◌+◌, true, List, refl, sym, ◌∙◌, ap, subst, arith}
use Rattle.std.specs.Prelude.{Option, Some, None, Ok, is_some}
use Rattle.std.proofs.lemmas.Option.{none-some}
use Rattle.rss_base.specs.DiskRule.{IsTold}
use Rattle.rss_base.specs.Listings.{IsNumberOf, link_at}
use Rattle.rss_base.specs.declared.answer.Reply.TheVariants.{Tid as Identifier, Nothing}
use Rattle.rss_base.specs.declared.call.Call.TheVariants.{Parent}
use Rattle.rss_base.specs.declared.item.Item.{Item}
use Rattle.rss_base.specs.declared.item.Item.TheVariants.{Chain as ChainItem}
use Rattle.rss_base.specs.declared.link.LinkEntry.{LinkEntry}
use Rattle.rss_base.specs.declared.name.Name.{Name}
use Rattle.rss_base.specs.declared.need.Need.{Need}
use Rattle.rss_base.specs.declared.refusal.Kind.TheVariants.{Link as LinkKind}
use Rattle.rss_base.specs.declared.tid.Tid.{Tid}
use Rattle.rss_lock.specs.Locks.{LocksView}
use Rattle.rss_members.specs.Calls.{above_in}
use Rattle.rss_stored.specs.Calls.{IsCallOf}
use Rattle.rss_model.specs.Chains.{HasParent, chain_with}
use Rattle.rss_model.specs.Items.{parent_of}
use Rattle.rss_model.specs.Locks.{granted}
use Rattle.rss_model.specs.Machine.{State, now}
use Rattle.rss_model.specs.Needs.{needs}
use Rattle.rss_model.specs.ReplyText.{IsShort}
use Rattle.rss_model.specs.Steps.{locked, refusal}
use Rattle.rss_model.specs.Steps.StepBy.{finds, finds_none}
use Rattle.rss_model.specs.Tables.{Contents}
use Rattle.rss_model.proofs.ChainKeeping.{chain_found}
use Rattle.rss_stored.proofs.Endings.{comes_to}
use Rattle.rss_model.proofs.StepKeeping.{kept_fit}
use Rattle.rss_session.specs.Admissions.{Says, link_admission}
use Rattle.rss_session.specs.Linking.{SaysOfLink}
use Rattle.rss_rsi.specs.Imaging.{Searches}
use Rattle.rss_rsi.specs.Linking.{SaysFound, below_test}
use Rattle.rss_rsi.specs.Locking.{IsClaimed, Lists}
use Rattle.rss_rsi.specs.Views.{RssParts, IsIn, engine_view}
use Rattle.rss_rsi.proofs.Chained.{parent_in}
use Rattle.rss_rsi.proofs.Claims.{free_as, locked_as}
use Rattle.rss_rsi.proofs.LinkNeeds.{link_in}
use Rattle.rss_rsi.proofs.LinkTests.{linked_passes, parent_linked}
use Rattle.rss_rsi.proofs.Looks.{goes_costly}
use Rattle.rss_rsi.proofs.Spelled.{still_scans}
use Rattle.rss_rsi.proofs.Ways.{answers, leads_by, shows_locked}

-- each chain of a link that has parents has one
orphan : (contents : Contents) (above : Option Name) → is_some above ≡ true → HasParent contents above None → ⊥
orphan contents None has under = absurd (cc (has))
orphan contents (Some relation) has under = under

-- what is above an item that is something
item_of : (tid : Tid) (item : Option Item) → Some tid ≡ above_in item → (i : Item) × (item ≡ Some i) × (parent_of i ≡ Some tid)
item_of tid None is = absurd (none-some _ (sym is))
item_of tid (Some i) is = (i, refl, sym is)

module _ (parts : RssParts) (t : ℕ) (link : Name) (number : ℕ) (known : IsNumberOf LinkKind parts.session.store.catalog.listing link number) {entry : LinkEntry} (at : link_at parts.session.store.catalog.listing number ≡ Some entry) (named : entry.name ≡ link) (has : is_some entry.parent ≡ true) (child : Tid)
    (admitted : Says parts.session (λ state. link_admission state t link (Some true)) None) {list : List Need} (lists : Lists parts (λ tables. needs tables (Parent t link child)) list) {claimed : LocksView} (claim : IsClaimed parts.locks claimed t list)
    (passed : SaysFound parts.session (below_test link child) None) where
  parent_passes : IsTold parts.session.store.pages.disk → (state : State) → IsIn parts state → refusal state (Parent t link child) ≡ None
  parent_passes told state is_in = linked_passes (parent_linked t link child) state (admitted told state is_in.shows) (free_as is_in (Parent t link child) (lists told state is_in) claim) (passed told state is_in.kept is_in.shows)

  -- a chain of the link has a parent, so that a tuple without one stands in none
  outside : (state : State) → IsIn parts state → (item : Option Item) → chain_with (now state).contents link child ≡ item → None ≡ above_in item → chain_with (now state).contents link child ≡ None
  outside state is_in None at_none none = at_none
  outside state is_in (Some item) at_some none =
      let of = chain_found (now state).contents link child item at_some in
      let its = link_in parts link number known at is_in in
      let no : of.0 ≡ None = sym (none ∙ ap parent_of of.1) in
      let here : chain_with (now state).contents link child ≡ Some (ChainItem link None) = at_some ∙ ap Some (of.1 ∙ ap (ChainItem link) no) in
      absurd (orphan (now state).contents its.definition.parent (its.has_above ∙ has) (parent_in (kept_fit state is_in.kept).1 link child None its.defined here))

  module _ {new : RssParts} (looks : Searches parts.session new.session) (taken : new.locks.locks ≡ granted t list parts.locks.locks) (scans : new.scans ≡ parts.scans) {n m : ℕ} (calls : m ≡ n + 1) {up up_now : Type 0} (was_up : up) (is_up : up_now) where
    -- where it stands in a chain
    pub parent_found : (found : Option Tid) (tid : Tid) → found ≡ Some tid → SaysOfLink parts.session number (λ state name. found ≡ above_in (chain_with (now state).contents name child)) → IsShort (Ok (Identifier tid))
        → IsCallOf (engine_view parts n up) (engine_view new m up_now) (Parent t link child) (Ok (Identifier tid))
    parent_found found tid is says short = comes_to was_up (goes_costly parts new looks calls (parent_linked t link child).may) (answers is_up short (λ told state is_in. tt) (λ told state is_in.
        let its = item_of tid (chain_with (now state).contents link child) (sym is ∙ subst (λ (name : Name). found ≡ above_in (chain_with (now state).contents name child)) named (says told state is_in.kept is_in.shows entry at)) in
        leads_by (locked (Parent t link child) state) looks.moments told is_in
        (finds t link child tid its.0 (parent_passes told state is_in) its.1 its.2)
        (shows_locked _ (looks.shows told state is_in.shows))
        (locked_as is_in (Parent t link child) (lists told state is_in) t refl ∙ sym taken)
        (still_scans scans refl is_in.scanned)))

    -- and where it stands in none
    pub parent_none : (found : Option Tid) → found ≡ None → SaysOfLink parts.session number (λ state name. found ≡ above_in (chain_with (now state).contents name child))
        → IsCallOf (engine_view parts n up) (engine_view new m up_now) (Parent t link child) (Ok Nothing)
    parent_none found is says = comes_to was_up (goes_costly parts new looks calls (parent_linked t link child).may) (answers is_up (omega arith) (λ told state is_in. tt) (λ told state is_in.
        leads_by (locked (Parent t link child) state) looks.moments told is_in
        (finds_none t link child (parent_passes told state is_in)
        (outside state is_in (chain_with (now state).contents link child) refl (sym is ∙ subst (λ (name : Name). found ≡ above_in (chain_with (now state).contents name child)) named (says told state is_in.kept is_in.shows entry at))))
        (shows_locked _ (looks.shows told state is_in.shows))
        (locked_as is_in (Parent t link child) (lists told state is_in) t refl ∙ sym taken)
        (still_scans scans refl is_in.scanned)))
