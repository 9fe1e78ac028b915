-- What is found of a draft, beside the tables that the pages of a store spell.
use Rattle.std.specs.Prelude.{◌≡◌, ◌↔◌, ℕ, ◌+◌, ◌<◌, Bool, true, false, List, [], ◌∷◌, ◌++◌, length, take, drop, Option, Some, None, IfSome, is_some, IsTrue, Result, Err}
use Rattle.rss_base.specs.DiskRule.{IsTold}
use Rattle.rss_base.specs.TupleTypes.{kinds, chosen, Spells as SpellsTuple, SpellsSome}
use Rattle.rss_base.specs.Listings.{Listing, relation_at, link_at, field_numbers}
use Rattle.rss_base.specs.Steps.{PagesView}
use Rattle.rss_base.specs.declared.place.Place.{Place}
use Rattle.rss_base.specs.declared.fault.PageFault.{PageFault}
use Rattle.rss_base.specs.declared.fault.PageFault.TheVariants.{Damaged}
use Rattle.rss_base.specs.declared.tid.Tid.{Tid}
use Rattle.rss_base.specs.declared.value.Value.{Value}
use Rattle.rss_base.specs.declared.item.Item.TheVariants.{Tuple}
use Rattle.rss_base.specs.declared.relation.RelationEntry.{RelationEntry}
use Rattle.rss_base.specs.declared.image.ImageEntry.{ImageEntry}
use Rattle.rss_base.specs.declared.link.LinkEntry.{LinkEntry}
use Rattle.rss_base.specs.declared.change.Change as told
use Rattle.rss_model.specs.Tables.{Tables, content, fields_of}
use Rattle.rss_model.specs.Chains.{chain, chain_with, stands_in, with_behind, is_there}
use Rattle.rss_model.specs.Changes.{Change}
use Rattle.rss_model.specs.Fits.{Fits}
use Rattle.rss_model.specs.Meanings.{IsChangeTold, Means}
use Rattle.rss_stored.specs.Store.{SpellsTables, IsListedImage}
use Rattle.rss_link.specs.Calls.{TellsBodies}
use Rattle.rss_members.specs.Calls.{MembersView, Spells}
use Rattle.rss_access.specs.Changes.{AccessView}
use Rattle.rss_access.specs.Filling.{SearchesPages}
use Rattle.rss_access.specs.Imaging.{IsOwner}
use Rattle.rss_draft.specs.declared.draft.Standing.{Standing}
use Rattle.rss_draft.specs.declared.draft.ImageKey.{ImageKey}
use Rattle.rss_draft.specs.Views.{DraftView}
use Rattle.rss_draft.specs.Drafts.{ShowsTuple, IsDraft}
use Rattle.rss_draft.specs.Lookups.{chain_at, LooksUp}

-- ---- over which tables

-- On a device that tells its contents, the pages spell the saved tables, which fit, and beside them the draft stands for these.
pub record StandsOver (at : AccessView) (draft : DraftView) (saved tables : Tables) : Type 0 where
  pub told : IsTold at.pages.disk
  pub spells : SpellsTables at.pages.held at.catalog.listing saved
  pub fit : Fits at.pages.slots saved
  pub is : IsDraft draft saved tables

-- It is so in all tables that the draft stands for,
abbrev pub SoNow : AccessView → DraftView → (Tables → Type 0) → Type 0
SoNow at draft so = (saved tables : Tables) → StandsOver at draft saved tables → so tables

-- or in those of which it looks up what is so.
abbrev pub SoLookedUp : AccessView → DraftView → (Tables → Type 0) → Type 0
SoLookedUp at draft so =
    (saved tables : Tables) → StandsOver at draft saved tables → LooksUp draft saved tables → so tables

-- Pages were asked for, and none was changed. A device's fault has come where one is answered, and damage is found only on a device that doesn't tell its contents.
pub record Searches {T : Type 0} (old new : PagesView) (result : Result T PageFault) : Type 0 where
  pub searches : SearchesPages old new result
  pub sound : (place : Place) → result ≡ Err (Damaged place) → IsTold old.disk → ⊥

-- ---- one look

-- whether the tuple has values with these bytes, or there is none
abbrev pub IsTupleNow : AccessView → DraftView → ℕ → Tid → Option (List ℕ) → Bool → Type 0
IsTupleNow at draft number tid values found = SoNow at draft (λ tables.
    (relation : RelationEntry) → relation_at at.catalog.listing number ≡ Some relation
    → IsTrue found ↔ ShowsTuple (fields_of tables relation.name) values (content tables.contents (Tuple relation.name tid)))

-- whether there is one
abbrev pub IsThereNow : AccessView → DraftView → ℕ → Tid → Bool → Type 0
IsThereNow at draft number tid found = SoNow at draft (λ tables.
    (relation : RelationEntry) → relation_at at.catalog.listing number ≡ Some relation
    → found ≡ is_there tables.contents relation.name tid)

-- this is so of the chain of a parent
abbrev pub SoOfChain : AccessView → DraftView → ℕ → Option Tid → (List Tid → Type 0) → Type 0
SoOfChain at draft number parent so = SoNow at draft (λ tables.
    (link : LinkEntry) → link_at at.catalog.listing number ≡ Some link → so (chain tables.contents link.name parent))

-- these are the tuples of a chain on the pages
abbrev pub IsSavedChain : AccessView → ℕ → Option Tid → List Tid → Type 0
IsSavedChain at number parent tids =
    IsTold at.pages.disk → (tables : Tables) (link : LinkEntry) → SpellsTables at.pages.held at.catalog.listing tables
    → Fits at.pages.slots tables → link_at at.catalog.listing number ≡ Some link
    → chain tables.contents link.name parent ≡ tids

-- where a tuple stands in a link
abbrev pub IsStandingNow : AccessView → DraftView → ℕ → Tid → Standing → Type 0
IsStandingNow at draft number child found = SoLookedUp at draft (λ tables.
    (link : LinkEntry) → link_at at.catalog.listing number ≡ Some link
    → chain_with tables.contents link.name child ≡ chain_at link.name found)

-- the same on the pages
abbrev pub IsSavedStanding : MembersView → ℕ → Tid → Standing → Type 0
IsSavedStanding at number child found = TellsBodies at.tuples → (tables : Tables) (link : LinkEntry)
    → Spells at tables → link_at at.catalog.listing number ≡ Some link
    → chain_with tables.contents link.name child ≡ chain_at link.name found

-- which tuple has the key of these values in a unique image
abbrev pub IsOwnerNow : AccessView → DraftView → ℕ → List ℕ → Option Tid → Type 0
IsOwnerNow at draft number bytes found =
    SoLookedUp at draft (λ tables. IsOwner tables at.catalog.listing number bytes None found)

-- the key is that of the values with these bytes
abbrev pub IsKeyOf : Listing → ℕ → List ℕ → ImageKey → Type 0
IsKeyOf listing number bytes key =
    (image : ImageEntry) (relation : RelationEntry) → IsListedImage listing number image relation
    → (values : List Value) → SpellsTuple (kinds relation.fields) bytes values
    → (key.image ≡ image.name) × (key.values ≡ chosen (field_numbers image) values)

-- ---- lists

-- A tuple can come into a list: it isn't there, and the one behind which it comes is.
pub record HasGap (child : Tid) (left : Option Tid) (tids : List Tid) : Type 0 where
  pub apart : stands_in child tids ≡ false
  pub behind : IfSome left (λ tid. stands_in tid tids ≡ true)

-- It stands there, as it came to others.
pub record StandsBehind (child : Tid) (left : Option Tid) (tids : List Tid) : Type 0 where
  pub others : List Tid
  pub gap : HasGap child left others
  pub is : tids ≡ with_behind left child others

-- a tuple stands first at this place
pub record IsFirstPlace (tid : Tid) (tids : List Tid) (place : ℕ) : Type 0 where
  pub low : place < length tids
  pub split : tids ≡ take place tids ++ tid ∷ drop (place + 1) tids
  pub off : stands_in tid (take place tids) ≡ false

-- a list ends with this tuple, which stands nowhere before in it
pub record EndsIn (last : Tid) (tids : List Tid) : Type 0 where
  pub front : List Tid
  pub is : tids ≡ front ++ last ∷ []
  pub off : stands_in last front ≡ false

abbrev pub EndsWith : Option Tid → List Tid → Type 0
EndsWith None tids = tids ≡ []
EndsWith (Some last) tids = EndsIn last tids

-- ---- a change that finds what it tells

-- The record tells this change, which finds its old content.
pub record IsFoundAs (listing : Listing) (told_change : told.Change) (tables : Tables) (change : Change) : Type 0 where
  pub tells : IsChangeTold listing change.by told_change change
  pub means : Means listing told_change change
  pub holds : content tables.contents change.item ≡ change.old

-- it tells some such change
pub record IsFound (listing : Listing) (told_change : told.Change) (tables : Tables) : Type 0 where
  pub change : Change
  pub is : IsFoundAs listing told_change tables change

-- A tuple of a listed relation holds this, and the other bytes are those of values that it may have.
pub record HoldsTuple (listing : Listing) (tables : Tables) (number : ℕ) (tid : Tid) (was next : Option (List ℕ)) : Type 0 where
  pub relation : RelationEntry
  pub at : relation_at listing number ≡ Some relation
  pub holds : ShowsTuple (fields_of tables relation.name) was (content tables.contents (Tuple relation.name tid))
  pub spelled : IfSome next (SpellsSome (kinds relation.fields))

-- a listed link has parents exactly if one is given
pub record HasLinkOfForm (listing : Listing) (number : ℕ) (parent : Option Tid) : Type 0 where
  pub link : LinkEntry
  pub at : link_at listing number ≡ Some link
  pub form : is_some link.parent ≡ is_some parent

-- and this is so of its chain
pub record HoldsChain (listing : Listing) (tables : Tables) (number : ℕ) (parent : Option Tid) (what : List Tid → Type 0) : Type 0 where
  pub has : HasLinkOfForm listing number parent
  pub so : what (chain tables.contents has.link.name parent)
