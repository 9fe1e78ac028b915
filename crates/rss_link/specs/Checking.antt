-- When bodies spell chains of the tuples of a link's relations, and what is found out about it.
use Rattle.std.specs.Prelude.{◌≡◌, ℕ, ◌==◌, ◌≤◌, Bool, true, false, if◌then◌else◌, List, [], ◌∷◌, ◌++◌, length, Option, Some, None}
use Rattle.rss_base.specs.Prefixes.{Ends, first_of, last_of, ends_of}
use Rattle.rss_base.specs.declared.tid.Tid.{Tid}
use Rattle.rss_tuple.specs.Directory.{Bodies}
use Rattle.rss_model.specs.Chains.{stands_in, StandOnce}
use Rattle.rss_link.specs.declared.link.Chains.{Chains}
use Rattle.rss_link.specs.declared.link.Relations.{Relations}
use Rattle.rss_link.specs.declared.blocks.Standing.TheVariants.{Outside, Within}
use Rattle.rss_link.specs.Blocks.{IsNamed}
use Rattle.rss_link.specs.Chains.{Lists, Linkage, IsParent}
use Rattle.rss_link.specs.Links.{Says, SaysEnds, SpellChains}
use Rattle.rss_link.specs.Calls.{LinkView}
use Rattle.rss_link.specs.Edits.{SaysSome}

-- ---- the tuples of relations

-- a body begins with the number of its relation
abbrev pub begins_with : ℕ → Option (List ℕ) → Bool
begins_with number None = false
begins_with number (Some []) = false
begins_with number (Some (first ∷ rest)) = first == number

-- whether there is a body that begins so, and if so, that it was read
pub record IsFoundBody (number : ℕ) (body : Option (List ℕ)) (there : Bool) (read : List ℕ) : Type 0 where
  pub begins : begins_with number body ≡ there
  pub is : there ≡ true → body ≡ Some read

abbrev pub children_of : Chains → Relations → Bodies → Tid → Bool
children_of link relations bodies tid = begins_with relations.child (bodies link.child_segment tid)

-- a unary link has no parents
abbrev pub parents_of : Chains → Relations → Bodies → Tid → Bool
parents_of link relations bodies tid =
    if link.unary then false else begins_with relations.parent (bodies link.parent_segment tid)

-- a tuple of the relation of the parents, or none where the link is unary
abbrev pub IsParentOf : Chains → Relations → Bodies → Option Tid → Type 0
IsParentOf link relations bodies parent = IsParent link.unary (parents_of link relations bodies) parent

abbrev pub linkage_of : Chains → Relations → Bodies → Lists → Linkage
linkage_of link relations bodies lists = record {
  children = children_of link relations bodies;
  parents = parents_of link relations bodies;
  lists = lists;
}

-- The bodies, and the ends that are kept for a unary link, spell chains of all tuples of its relations.
pub record HasChains (link : Chains) (relations : Relations) (view : LinkView) : Type 0 where
  pub lists : Lists
  pub spells : SpellChains link view.ends view.tuples.bodies (linkage_of link relations view.tuples.bodies lists)

-- ---- children

-- no tuple can be both a child and a parent
abbrev pub AreDistinct : Chains → Relations → Type 0
AreDistinct link relations = link.unary ≡ false → link.child_segment ≡ link.parent_segment
    → relations.child ≡ relations.parent → ⊥

-- a child says that it stands in some chain
pub record SaysPlace (link : Chains) (bodies : Bodies) (tid : Tid) : Type 0 where
  pub parent : Option Tid
  pub previous : Option Tid
  pub next : Option Tid
  pub says : Says link bodies tid (Within parent previous next)

-- a tuple was looked at, and whether it is a child that says so
pub record IsCounted (link : Chains) (relations : Relations) (bodies : Bodies) (tid : Tid) (stands : Bool) : Type 0 where
  pub says : children_of link relations bodies tid ≡ true → SaysSome link bodies tid
  pub distinct : children_of link relations bodies tid ≡ true → AreDistinct link relations
  pub within : stands ≡ true → (children_of link relations bodies tid ≡ true) × SaysPlace link bodies tid
  pub outside : stands ≡ false → children_of link relations bodies tid ≡ true → Says link bodies tid Outside

-- it is a child, and can be none of a link
pub record IsNoChild (link : Chains) (relations : Relations) (bodies : Bodies) (tid : Tid) : Type 0 where
  pub is_child : children_of link relations bodies tid ≡ true
  pub never : SaysSome link bodies tid → AreDistinct link relations → ⊥

-- Of the tuples that were seen, each child says something, and these stand in chains.
pub record AreCounted (link : Chains) (relations : Relations) (bodies : Bodies) (seen : Tid → Type 0)
    (standing : List Tid) : Type 0 where
  pub says : (tid : Tid) → seen tid → children_of link relations bodies tid ≡ true → SaysSome link bodies tid
  pub named : (tid : Tid) → seen tid → children_of link relations bodies tid ≡ true → IsNamed tid
  pub distinct : (tid : Tid) → seen tid → children_of link relations bodies tid ≡ true → AreDistinct link relations
  pub within : (tid : Tid) → stands_in tid standing ≡ true
      → seen tid × (children_of link relations bodies tid ≡ true) × SaysPlace link bodies tid
  pub all : (tid : Tid) → seen tid → children_of link relations bodies tid ≡ true → SaysPlace link bodies tid
      → stands_in tid standing ≡ true
  pub once : StandOnce standing

-- so many of all children stand in chains
pub record IsCount (link : Chains) (relations : Relations) (bodies : Bodies) (count : ℕ) : Type 0 where
  pub standing : List Tid
  pub are : AreCounted link relations bodies (λ tid. Unit {0}) standing
  pub long : length standing ≡ count

-- ---- one chain

-- Children that say that they stand in the chain of this parent, each between its neighbours in the list; and these are its ends.
pub record IsChain (link : Chains) (relations : Relations) (bodies : Bodies) (parent : Option Tid) (ends : Ends)
    (list : List Tid) : Type 0 where
  pub children : (before after : List Tid) (tid : Tid) → list ≡ before ++ tid ∷ after
      → children_of link relations bodies tid ≡ true
  pub says : (before after : List Tid) (tid : Tid) → list ≡ before ++ tid ∷ after
      → Says link bodies tid (Within parent (last_of before) (first_of after))
  pub are_ends : ends ≡ ends_of list

-- there is one of so many members
pub record IsWalked (link : Chains) (relations : Relations) (bodies : Bodies) (parent : Option Tid) (ends : Ends)
    (count : ℕ) : Type 0 where
  pub list : List Tid
  pub chain : IsChain link relations bodies parent ends list
  pub long : length list ≡ count

-- there is none of so many at most
abbrev pub NoneIsWalked : Chains → Relations → Bodies → Option Tid → Ends → ℕ → Type 0
NoneIsWalked link relations bodies parent ends most = (list : List Tid)
    → IsChain link relations bodies parent ends list → length list ≤ most → ⊥

-- a child says that it stands behind this one in the chain of the parent, and what is next
pub record IsFollowed (link : Chains) (relations : Relations) (bodies : Bodies) (parent previous : Option Tid)
    (tid : Tid) (next : Option Tid) : Type 0 where
  pub is_child : children_of link relations bodies tid ≡ true
  pub says : Says link bodies tid (Within parent previous next)

-- it says nothing of the kind
abbrev pub NotFollowed : Chains → Relations → Bodies → Option Tid → Option Tid → Tid → Type 0
NotFollowed link relations bodies parent previous tid = (next : Option Tid)
    → IsFollowed link relations bodies parent previous tid next → ⊥

-- ---- all chains

-- what the parent says of its ends, and the chain between them
pub record HasChain (link : Chains) (relations : Relations) (view : LinkView) (parent : Option Tid)
    (list : List Tid) : Type 0 where
  pub ends : Ends
  pub says : SaysEnds link view.ends view.tuples.bodies parent ends
  pub chain : IsChain link relations view.tuples.bodies parent ends list

-- whatever it says of its ends, there is no chain of so many at most
abbrev pub HasNoChain : Chains → Relations → LinkView → Option Tid → ℕ → Type 0
HasNoChain link relations view parent most = (ends : Ends)
    → SaysEnds link view.ends view.tuples.bodies parent ends
    → NoneIsWalked link relations view.tuples.bodies parent ends most

-- a tuple was looked at: a parent's chain has so many members, and another tuple has none
pub record IsTaken (link : Chains) (relations : Relations) (view : LinkView) (tid : Tid) (count : ℕ) : Type 0 where
  pub of_parent : parents_of link relations view.tuples.bodies tid ≡ true
      → (list : List Tid) × HasChain link relations view (Some tid) list × (length list ≡ count)
  pub none : parents_of link relations view.tuples.bodies tid ≡ false → count ≡ 0

-- it is a parent, and has no chain of so many at most
pub record IsNotTaken (link : Chains) (relations : Relations) (view : LinkView) (tid : Tid) (most : ℕ) : Type 0 where
  pub is_parent : parents_of link relations view.tuples.bodies tid ≡ true
  pub never : HasNoChain link relations view (Some tid) most

-- The chains of the parents that were seen have these members together, each once.
pub record AreWalked (link : Chains) (relations : Relations) (view : LinkView) (seen : Option Tid → Type 0)
    (walked : List Tid) : Type 0 where
  pub lists : Lists
  pub chains : (parent : Option Tid) → IsParentOf link relations view.tuples.bodies parent
      → seen parent → HasChain link relations view parent (lists parent)
  pub within : (parent : Option Tid) (tid : Tid) → stands_in tid (lists parent) ≡ true
      → IsParentOf link relations view.tuples.bodies parent × seen parent
      × (stands_in tid walked ≡ true)
  pub each : (tid : Tid) → stands_in tid walked ≡ true
      → (parent : Option Tid) × (stands_in tid (lists parent) ≡ true)
  pub named : (tid : Tid) → parents_of link relations view.tuples.bodies tid ≡ true → seen (Some tid) → IsNamed tid
  pub once : StandOnce walked

-- so many children stand in all chains
pub record AllWalked (link : Chains) (relations : Relations) (view : LinkView) (count : ℕ) : Type 0 where
  pub walked : List Tid
  pub are : AreWalked link relations view (λ parent. Unit {0}) walked
  pub long : length walked ≡ count

-- where so many children say that they stand in chains, no chains are spelled
abbrev pub NoneAreWalked : Chains → Relations → LinkView → ℕ → Type 0
NoneAreWalked link relations view count =
    IsCount link relations view.tuples.bodies count → HasChains link relations view → ⊥

-- what is answered of all chains and so many children
pub record IsTally (link : Chains) (relations : Relations) (view : LinkView) (count : ℕ) (are : Bool) : Type 0 where
  pub yes : are ≡ true → AllWalked link relations view count
  pub no : are ≡ false → NoneAreWalked link relations view count
