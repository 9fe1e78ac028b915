-- What a look at a link finds.
use Rattle.std.specs.Prelude.{◌≡◌, ℕ, if◌then◌else◌, List, Option, Some, None}
use Rattle.rss_base.specs.DiskRule.{IsTold}
use Rattle.rss_base.specs.Listings.{relation_at, link_at}
use Rattle.rss_base.specs.declared.link.LinkEntry.{LinkEntry}
use Rattle.rss_base.specs.declared.name.Name.{Name}
use Rattle.rss_base.specs.declared.relation.RelationEntry.{RelationEntry}
use Rattle.rss_base.specs.declared.spot.Spot.{Spot}
use Rattle.rss_base.specs.declared.tid.Tid.{Tid}
use Rattle.rss_model.specs.Chains.{chain, connected, left_of, has_spot}
use Rattle.rss_model.specs.Kept.{Kept}
use Rattle.rss_model.specs.Machine.{State, now}
use Rattle.rss_members.specs.Calls.{FindsPlace, next_behind}
use Rattle.rss_members.specs.declared.membership.Membership.{Membership}
use Rattle.rss_session.specs.Sessions.{SessionView}
use Rattle.rss_session.specs.Shown.{Shows}

-- what is said of the link of this number, by its name, is so in each state in which the session may be
abbrev pub SaysOfLink : SessionView → ℕ → (State → Name → Type 0) → Type 0
SaysOfLink view number says =
    IsTold view.store.pages.disk → (state : State) → Kept state → Shows view state
    → (link : LinkEntry) → link_at view.store.catalog.listing number ≡ Some link
    → says state link.name

-- the same of the chain of a parent in it, which is empty where the parent isn't there
abbrev pub SaysOfChain : SessionView → ℕ → Option Tid → (List Tid → Type 0) → Type 0
SaysOfChain view number parent says =
    SaysOfLink view number (λ state link. says (chain (now state).contents link parent))

-- where a tuple stands in the chains of the link; none where it isn't there, or stands in no chain
abbrev pub FindsMembership : SessionView → ℕ → Tid → Option Membership → Type 0
FindsMembership view number child found =
    SaysOfLink view number (λ state link. FindsPlace number child (now state).contents link found)

-- behind which tuple a spot of a chain is, if behind any; none where there is no such spot
abbrev pub left_at : Spot → List Tid → Option (Option Tid)
left_at spot chain = if has_spot spot chain then Some (left_of spot chain) else None

abbrev pub FindsLeft : SessionView → ℕ → Option Tid → Spot → Option (Option Tid) → Type 0
FindsLeft view number parent spot found =
    SaysOfChain view number parent (λ chain. found ≡ left_at spot chain)

-- what comes in a chain behind the tuple that was given last, or first of all; none where that one isn't in the chain
abbrev pub FindsNextMember : SessionView → ℕ → Option Tid → Option Tid → Option (Option Tid) → Type 0
FindsNextMember view number parent last found =
    SaysOfChain view number parent (λ chain. found ≡ next_behind last chain)

-- the first link by its name in which a tuple stands in a chain or has one; none where the tuple isn't there
abbrev pub FindsConnected : SessionView → ℕ → Tid → Option Name → Type 0
FindsConnected view number tid found =
    IsTold view.store.pages.disk → (state : State) → Kept state → Shows view state
    → (relation : RelationEntry) → relation_at view.store.catalog.listing number ≡ Some relation
    → found ≡ connected (now state) relation.name tid
