-- What the calls on listed links may be given, and what they ensure.
use Rattle.std.specs.Prelude.{◌≡◌, ◌⊎◌, ◌↔◌, ℕ, ◌+◌, ◌*◌, ◌<◌, ◌==◌, Bool, true, false, if◌then◌else◌, List, [], ◌∷◌, Option, Some, None, is_some, option_and_then, IfSome, MatchOption, Result, Err, OnOk, OnErr, IsErrOf, IsTrue}
use Rattle.std.specs.declared.cmp.Ordering.TheVariants.{Less}
use Rattle.rss_base.specs.Listings.{Listing, ListingFits, relation_at, link_at, with_link}
use Rattle.rss_base.specs.DiskRule.{IsTold}
use Rattle.rss_base.specs.Faults.{Rises}
use Rattle.rss_base.specs.Prefixes.{Ends, first_of}
use Rattle.rss_base.specs.Steps.{Keys, PagesStep, no_page}
use Rattle.rss_base.specs.declared.fault.PageFault.{PageFault}
use Rattle.rss_base.specs.declared.fault.PageFault.TheVariants.{Device as DeviceFailed, Damaged, NoMemory}
use Rattle.rss_base.specs.declared.place.Place.{Place}
use Rattle.rss_base.specs.declared.tid.Tid.{Tid}
use Rattle.rss_base.specs.declared.item.Item.{Item}
use Rattle.rss_base.specs.declared.relation.RelationEntry.{RelationEntry}
use Rattle.rss_base.specs.declared.link.LinkEntry.{LinkEntry}
use Rattle.rss_base.specs.declared.name.Name.{Name}
use Rattle.rss_base.specs.declared.refusal.Kind.TheVariants.{Link}
use Rattle.rss_catalog.specs.Catalogs.{CatalogView, Lists, page_of, with_ends}
use Rattle.rss_tuple.specs.Placing.{TakesOnly}
use Rattle.rss_tuple.specs.Heaps.{AreHeaps}
use Rattle.rss_tuple.specs.TupleSteps.{TuplesView, Tuples, no_tuple}
use Rattle.rss_model.specs.Tables.{Contents, Tables}
use Rattle.rss_model.specs.Items.{name_cmp, parent_of}
use Rattle.rss_model.specs.Chains.{chain, chain_with, stands_in, with_behind, without, next_of, connected, is_connected, is_there, HasParent}
use Rattle.rss_stored.specs.Store.{IsListedLink, link_definition}
use Rattle.rss_link.specs.Calls.{TellsBodies, HoldsHeaps, link_pages, link_tuples}
use Rattle.rss_members.specs.declared.membership.Membership.{Membership}
use Rattle.rss_members.specs.Members.{chains_of, SpellsMembers, with_chain}

-- what there is to see of links: the tuples, and the catalog
pub record MembersView : Type 1 where
  pub tuples : TuplesView
  pub catalog : CatalogView

abbrev pub both : TuplesView → CatalogView → MembersView
both tuples catalog = record { tuples = tuples; catalog = catalog }

-- the tuples spell these tables
abbrev pub Spells : MembersView → Tables → Type 0
Spells at tables = SpellsMembers at.catalog.listing at.tuples.bodies tables

-- ---- what is asked of a parent

-- this is a parent of the link in tables that are spelled: none where it is unary
pub record KnowsAbove (at : MembersView) (number : ℕ) (parent : Option Tid) : Type 0 where
  pub tables : Tables
  pub link : LinkEntry
  pub child : RelationEntry
  pub spells : Spells at tables
  pub listed : IsListedLink at.catalog.listing number link child
  pub under : HasParent tables.contents (link_definition at.catalog.listing link child).parent parent

pub record MayAskAbove (at : MembersView) (number : ℕ) (parent : Option Tid) : Type 0 where
  pub listed : is_some (link_at at.catalog.listing number) ≡ true
  pub heaps : HoldsHeaps at.tuples
  pub knows : TellsBodies at.tuples → ∥ KnowsAbove at number parent ∥₁

-- what is answered of its chain is so in whatever tables the tuples spell
abbrev pub AnswersAbove : MembersView → ℕ → Option Tid → (List Tid → Type 0) → Type 0
AnswersAbove at number parent answer = TellsBodies at.tuples → (tables : Tables) (link : LinkEntry) (child : RelationEntry)
    → Spells at tables → IsListedLink at.catalog.listing number link child
    → HasParent tables.contents (link_definition at.catalog.listing link child).parent parent
    → answer (chain tables.contents link.name parent)

-- ---- what is asked of a child

-- this is a child of the link in tables that are spelled
pub record KnowsBelow (at : MembersView) (number : ℕ) (tid : Tid) : Type 0 where
  pub tables : Tables
  pub link : LinkEntry
  pub child : RelationEntry
  pub spells : Spells at tables
  pub listed : IsListedLink at.catalog.listing number link child
  pub there : is_there tables.contents child.name tid ≡ true

pub record MayAskBelow (at : MembersView) (number : ℕ) (tid : Tid) : Type 0 where
  pub listed : is_some (link_at at.catalog.listing number) ≡ true
  pub heaps : HoldsHeaps at.tuples
  pub knows : TellsBodies at.tuples → ∥ KnowsBelow at number tid ∥₁

abbrev pub AnswersBelow : MembersView → ℕ → Tid → (Contents → Name → Type 0) → Type 0
AnswersBelow at number tid answer = TellsBodies at.tuples → (tables : Tables) (link : LinkEntry) (child : RelationEntry)
    → Spells at tables → IsListedLink at.catalog.listing number link child
    → is_there tables.contents child.name tid ≡ true → answer tables.contents link.name

-- the parent of a chain, if there are both
abbrev pub above_in : Option Item → Option Tid
above_in chain = option_and_then parent_of chain

-- ---- whether a tuple is there

-- the body is that of a tuple of this relation
abbrev pub begins : ℕ → List ℕ → Bool
begins relation [] = false
begins relation (first ∷ body) = first == relation

-- what was found is so in whatever tables the tuples spell
abbrev pub FindsTuple : MembersView → ℕ → Tid → Bool → Type 0
FindsTuple at number tid found = TellsBodies at.tuples → (tables : Tables) (relation : RelationEntry)
    → Spells at tables → relation_at at.catalog.listing number ≡ Some relation
    → found ≡ is_there tables.contents relation.name tid

-- ---- where a tuple stands

-- the tuples of the parent's chain
abbrev pub chain_at : Contents → Name → Membership → List Tid
chain_at contents name membership = chain contents name membership.parent

-- The child stands in the chain of the parent, right behind `left`, or first.
pub record IsPlaceOf (contents : Contents) (name : Name) (membership : Membership) : Type 0 where
  pub stands : stands_in membership.child (chain_at contents name membership) ≡ true
  pub behind : IfSome membership.left
      (λ left. stands_in left (without membership.child (chain_at contents name membership)) ≡ true)
  pub is : chain_at contents name membership
      ≡ with_behind membership.left membership.child (without membership.child (chain_at contents name membership))

-- what was found is where a tuple stands, and none where it stands in no chain
abbrev pub FindsPlace : ℕ → Tid → Contents → Name → Option Membership → Type 0
FindsPlace number child contents name found =
    MatchOption found (chain_with contents name child ≡ None)
    (λ membership. (membership.link ≡ number) × (membership.child ≡ child) × IsPlaceOf contents name membership)

-- it is in the chain of this parent
abbrev pub IsUnder : Option Tid → Option Membership → Type 0
IsUnder parent None = ⊥
IsUnder parent (Some membership) = membership.parent ≡ parent

-- and right behind this tuple, or first
abbrev pub IsRightThere : Option Tid → Option Tid → Option Membership → Type 0
IsRightThere parent left None = ⊥
IsRightThere parent left (Some membership) = (membership.parent ≡ parent) × (membership.left ≡ left)

-- ---- what is put into a chain, or taken out

-- The child is one of the link's, and in no chain; it can come into that of the parent, behind `left` or first.
pub record CanConnect (listing : Listing) (tables : Tables) (membership : Membership) : Type 0 where
  pub link : LinkEntry
  pub child : RelationEntry
  pub listed : IsListedLink listing membership.link link child
  pub there : is_there tables.contents child.name membership.child ≡ true
  pub under : HasParent tables.contents (link_definition listing link child).parent membership.parent
  pub outside : (parent : Option Tid)
      → stands_in membership.child (chain tables.contents link.name parent) ≡ false
  pub behind : IfSome membership.left
      (λ left. stands_in left (chain_at tables.contents link.name membership) ≡ true)

-- it stands there, and can go
pub record CanDisconnect (listing : Listing) (tables : Tables) (membership : Membership) : Type 0 where
  pub link : LinkEntry
  pub child : RelationEntry
  pub listed : IsListedLink listing membership.link link child
  pub place : IsPlaceOf tables.contents link.name membership

-- what was found is whether it can, in whatever tables are spelled
abbrev pub TestsConnect : MembersView → Membership → Bool → Type 0
TestsConnect at membership found = TellsBodies at.tuples → (tables : Tables) → Spells at tables
    → IsTrue found ↔ CanConnect at.catalog.listing tables membership

abbrev pub TestsDisconnect : MembersView → Membership → Bool → Type 0
TestsDisconnect at membership found = TellsBodies at.tuples → (tables : Tables) → Spells at tables
    → IsTrue found ↔ CanDisconnect at.catalog.listing tables membership

-- the tuple is a child of a link, and stands in no chain of it
pub record IsFreeIn (contents : Contents) (link child : Name) (tid : Tid) : Type 0 where
  pub there : is_there contents child tid ≡ true
  pub outside : (parent : Option Tid) → stands_in tid (chain contents link parent) ≡ false

abbrev pub TestsFree : MembersView → ℕ → Tid → Bool → Type 0
TestsFree at number tid found = TellsBodies at.tuples → (tables : Tables) (link : LinkEntry) (child : RelationEntry)
    → Spells at tables → IsListedLink at.catalog.listing number link child
    → IsTrue found ↔ IsFreeIn tables.contents link.name child.name tid

-- the tables with the child in the chain, and without it there
abbrev pub with_child : Tables → Name → Membership → Tables
with_child tables name membership = with_chain tables name membership.parent
    (with_behind membership.left membership.child (chain_at tables.contents name membership))

abbrev pub without_child : Tables → Name → Membership → Tables
without_child tables name membership = with_chain tables name membership.parent
    (without membership.child (chain_at tables.contents name membership))

-- the tuples spell some tables
pub record MayRelink (at : MembersView) : Type 0 where
  pub heaps : HoldsHeaps at.tuples
  pub knows : TellsBodies at.tuples → ∥ ((tables : Tables) × Spells at tables) ∥₁

-- whatever tables were spelled, the child could come into the chain, and they are spelled with it
pub record Connected (old new : MembersView) (tables : Tables) (membership : Membership) : Type 0 where
  pub can : CanConnect old.catalog.listing tables membership
  pub spells : Spells new (with_child tables can.link.name membership)

abbrev pub Connects : MembersView → MembersView → Membership → Type 0
Connects old new membership =
    TellsBodies old.tuples → (tables : Tables) → Spells old tables → Connected old new tables membership

-- it could go, and they are spelled without it
pub record Disconnected (old new : MembersView) (tables : Tables) (membership : Membership) : Type 0 where
  pub can : CanDisconnect old.catalog.listing tables membership
  pub spells : Spells new (without_child tables can.link.name membership)

abbrev pub Disconnects : MembersView → MembersView → Membership → Type 0
Disconnects old new membership =
    TellsBodies old.tuples → (tables : Tables) → Spells old tables → Disconnected old new tables membership

-- there are no such tables
abbrev pub NoneConnects : MembersView → Membership → Type 0
NoneConnects at membership =
    (tables : Tables) → Spells at tables → CanConnect at.catalog.listing tables membership → ⊥

abbrev pub NoneDisconnects : MembersView → Membership → Type 0
NoneDisconnects at membership =
    (tables : Tables) → Spells at tables → CanDisconnect at.catalog.listing tables membership → ⊥

-- The one chain of the link of this number has these ends now, and all else is listed as it was; the page of the links was written anew, or nothing is listed anew.
pub record Reends (number : ℕ) (link : LinkEntry) (old new : CatalogView) : Type 0 where
  pub first : Option Tid
  pub last : Option Tid
  pub is : new.listing ≡ with_link old.listing number (Some (with_ends first last link))
  pub lists : (new ≡ old) ⊎ Lists new.listing (page_of Link number) old new
  pub fits : ListingFits old.listing → ListingFits new.listing

-- and they are these
abbrev pub SetsEnds : ℕ → Ends → CatalogView → CatalogView → Type 0
SetsEnds number ends old new = (link : LinkEntry) → link_at old.listing number ≡ Some link
    → (reends : Reends number link old new) × (reends.first ≡ ends.first) × (reends.last ≡ ends.last)

-- the pages and the tuples of a link's segments
abbrev pub pages_in_link : Listing → ℕ → Option LinkEntry → Keys
pages_in_link listing number None = no_page
pages_in_link listing number (Some link) = link_pages (chains_of listing number link)

abbrev pub pages_of_link : Listing → ℕ → Keys
pages_of_link listing number = pages_in_link listing number (link_at listing number)

abbrev pub tuples_in_link : Listing → ℕ → Option LinkEntry → Tuples
tuples_in_link listing number None = no_tuple
tuples_in_link listing number (Some link) = link_tuples (chains_of listing number link)

abbrev pub tuples_of_link : Listing → ℕ → Tuples
tuples_of_link listing number = tuples_in_link listing number (link_at listing number)

-- how many pages are asked for at most
abbrev pub relink_cost : ℕ → ℕ
relink_cost slots = 3 * slots + 45

-- The same as `TuplesCall`, but that damage may be found on a device that tells its contents: where a call was asked for what can't be.
pub record TriesTuples {T : Type 0} (touched : Keys) (tuples : Tuples) (cost : ℕ) (old new : TuplesView) (result : Result T PageFault) : Type 0 where
  pub step : PagesStep touched cost cost old.pages new.pages
  pub failed : IsErrOf result DeviceFailed → Rises old.pages.faults new.pages.faults
  pub memory : IsErrOf result NoMemory → ⊥
  pub heaps : OnOk result (IsTold old.pages.disk → AreHeaps new.pages)
  pub others : OnOk result (IsTold old.pages.disk → (segment : ℕ) (tid : Tid) → (tuples segment tid → ⊥)
      → new.bodies segment tid ≡ old.bodies segment tid)

-- What a call that changes a chain passes on, by its result: no page was taken, and the link's ends are listed; at an error the catalog is as it was; and where it can't be made, on a device that tells its contents, nothing was changed. Pages of the link's segments alone are touched.
pub record Relinks {T : Type 0} (number : ℕ) (old new : MembersView) (result : Result T PageFault) : Type 0 where
  pub did : TriesTuples (pages_of_link old.catalog.listing number) (tuples_of_link old.catalog.listing number)
      (relink_cost old.tuples.pages.slots) old.tuples new.tuples result
  pub takes : OnOk result (TellsBodies old.tuples → TakesOnly no_page old.tuples.pages new.tuples.pages)
  pub lists : OnOk result ((link : LinkEntry) → link_at old.catalog.listing number ≡ Some link
      → Reends number link old.catalog new.catalog)
  pub listed : OnOk result (is_some (link_at old.catalog.listing number) ≡ true)
  pub unlisted : OnErr result (new.catalog ≡ old.catalog)
  pub kept : (place : Place) → result ≡ Err (Damaged place) → TellsBodies old.tuples
      → PagesStep no_page 16 16 old.tuples.pages new.tuples.pages

-- ---- what is asked of any chain

-- the link has parents exactly where one is given
abbrev pub HasForm : Listing → ℕ → Option Tid → Type 0
HasForm listing number parent =
    (link : LinkEntry) → link_at listing number ≡ Some link → is_some link.parent ≡ is_some parent

pub record MayAskChain (at : MembersView) (number : ℕ) (parent : Option Tid) : Type 0 where
  pub listed : is_some (link_at at.catalog.listing number) ≡ true
  pub form : HasForm at.catalog.listing number parent
  pub heaps : HoldsHeaps at.tuples
  pub knows : TellsBodies at.tuples → ∥ ((tables : Tables) × Spells at tables) ∥₁

-- what is answered of its chain, which is empty where the parent isn't there
abbrev pub AnswersChain : MembersView → ℕ → Option Tid → (List Tid → Type 0) → Type 0
AnswersChain at number parent answer = TellsBodies at.tuples → (tables : Tables) (link : LinkEntry)
    → Spells at tables → link_at at.catalog.listing number ≡ Some link
    → answer (chain tables.contents link.name parent)

-- the tuple, if there is one, is in the chain
abbrev pub HasLeft : Option Tid → List Tid → Type 0
HasLeft left chain = IfSome left (λ left. stands_in left chain ≡ true)

-- what comes behind the tuple that was given last, or first of all; none where that one isn't in the chain
abbrev pub next_behind : Option Tid → List Tid → Option (Option Tid)
next_behind None chain = Some (first_of chain)
next_behind (Some tid) chain = if stands_in tid chain then Some (next_of tid chain) else None

-- what was found is whether the link has this parent, in whatever tables are spelled
abbrev pub FindsParent : MembersView → ℕ → Option Tid → Bool → Type 0
FindsParent at number parent found = TellsBodies at.tuples → (tables : Tables) (link : LinkEntry) (child : RelationEntry)
    → Spells at tables → IsListedLink at.catalog.listing number link child
    → IsTrue found ↔ HasParent tables.contents (link_definition at.catalog.listing link child).parent parent

-- and so it has the form
abbrev pub FindsForm : Listing → ℕ → Option Tid → Bool → Type 0
FindsForm listing number parent found = IsTrue found → HasForm listing number parent

-- ---- in which links a tuple stands

-- a tuple of this relation stands there in tables that are spelled
pub record KnowsTuple (at : MembersView) (number : ℕ) (tid : Tid) : Type 0 where
  pub tables : Tables
  pub relation : RelationEntry
  pub spells : Spells at tables
  pub listed : relation_at at.catalog.listing number ≡ Some relation
  pub there : is_there tables.contents relation.name tid ≡ true

pub record MayAskTuple (at : MembersView) (number : ℕ) (tid : Tid) : Type 0 where
  pub listed : is_some (relation_at at.catalog.listing number) ≡ true
  pub heaps : HoldsHeaps at.tuples
  pub knows : TellsBodies at.tuples → ∥ KnowsTuple at number tid ∥₁

-- what is answered of it, by its relation's name, is so in whatever tables are spelled
abbrev pub AnswersTuple : MembersView → ℕ → Tid → (Tables → Name → Type 0) → Type 0
AnswersTuple at number tid answer = TellsBodies at.tuples → (tables : Tables) (relation : RelationEntry)
    → Spells at tables → relation_at at.catalog.listing number ≡ Some relation
    → is_there tables.contents relation.name tid ≡ true → answer tables relation.name

-- the first link by name in which the tuple stands in a chain or has one
abbrev pub FindsConnected : MembersView → ℕ → Tid → Option Name → Type 0
FindsConnected at number tid found =
    AnswersTuple at number tid (λ tables relation. found ≡ connected tables relation tid)

-- the tuple stands in a chain of the link of this number, or has one
pub record IsConnectedIn (listing : Listing) (tables : Tables) (relation : Name) (tid : Tid) (number : ℕ) : Type 0 where
  pub link : LinkEntry
  pub child : RelationEntry
  pub listed : IsListedLink listing number link child
  pub is : is_connected tables.contents relation tid (link.name, link_definition listing link child) ≡ true

-- The name of such a link, and no lesser one of those whose numbers are below this one.
pub record IsLeastConnected (listing : Listing) (tables : Tables) (relation : Name) (tid : Tid) (below : ℕ) (name : Name) : Type 0 where
  pub number : ℕ
  pub connects : IsConnectedIn listing tables relation tid number
  pub named : connects.link.name ≡ name
  pub least : (k : ℕ) (other : IsConnectedIn listing tables relation tid k) → k < below
      → name_cmp other.link.name name ≡ Less → ⊥

-- the first by name of those below this number, if there is one
abbrev pub IsFirstBelow : Listing → Tables → Name → Tid → ℕ → Option Name → Type 0
IsFirstBelow listing tables relation tid below None =
    (k : ℕ) → k < below → IsConnectedIn listing tables relation tid k → ⊥
IsFirstBelow listing tables relation tid below (Some name) =
    IsLeastConnected listing tables relation tid below name

-- the lesser of two names, or the one that there is
abbrev pub IsLesser : Name → Option Name → Name → Type 0
IsLesser name None found = found ≡ name
IsLesser name (Some other) found =
    ((name_cmp name other ≡ Less) × (found ≡ name)) ⊎ ((name_cmp name other ≡ Less → ⊥) × (found ≡ other))
