-- Chains: the tuples of a link, one behind another, and when links fit.
use Rattle.std.specs.Prelude.{◌≡◌, ℕ, ◌≤◌, Bool, true, false, not, ◌&&◌, ◌||◌, if◌then◌else◌, List, [], ◌∷◌, length, filter, find, count_by, All, Option, Some, None, is_some, option_map, slice_get, ⊤}
use Rattle.std.specs.List.{list_any}
use Rattle.std.specs.FinMap as map
use Rattle.rss_base.specs.Prefixes.{is_tid, last_of}
use Rattle.rss_base.specs.declared.name.Name.{Name}
use Rattle.rss_base.specs.declared.tid.Tid.{Tid}
use Rattle.rss_base.specs.declared.item.Item.{Item}
use Rattle.rss_base.specs.declared.item.Item.TheVariants.{Tuple as TupleItem, Chain as ChainItem}
use Rattle.rss_base.specs.declared.spot.Spot.{Spot}
use Rattle.rss_base.specs.declared.spot.Spot.TheVariants.{First, Last, After}
use Rattle.rss_model.specs.Items.{Content, Values, Tuples, is_chain_of, is_name}
use Rattle.rss_model.specs.Tables.{LinkDef, Definitions, Contents, Tables, content}

-- ---- what a chain holds

-- the tuples that are held, and what is held of tuples: nothing where there is none
abbrev pub tuples_in : Option Content → List Tid
tuples_in None = []
tuples_in (Some (Values values)) = []
tuples_in (Some (Tuples tids)) = tids

abbrev pub chain_content : List Tid → Option Content
chain_content [] = None
chain_content (tid ∷ tids) = Some (Tuples (tid ∷ tids))

-- the tuples of a chain, in their order
abbrev pub chain : Contents → Name → Option Tid → List Tid
chain contents link parent = tuples_in (content contents (ChainItem link parent))

-- the tuple is among these
abbrev pub stands_in : Tid → List Tid → Bool
stands_in tid tids = list_any (is_tid tid) tids

-- the item is a chain of the link that has the tuple
abbrev pub has_tuple : Contents → Name → Tid → Item → Bool
has_tuple contents link tid item = is_chain_of link item && stands_in tid (tuples_in (content contents item))

-- the chain of a link that has the tuple
unfoldable pub chain_with : Contents → Name → Tid → Option Item
chain_with contents link tid = find (has_tuple contents link tid) (map.keys contents)

-- ---- how chains change

-- the same tuples with one more behind another, or in front of all
abbrev pub with_behind : Option Tid → Tid → List Tid → List Tid
with_behind None child tids = child ∷ tids
with_behind (Some left) child [] = child ∷ []
with_behind (Some left) child (tid ∷ tids) =
    if is_tid tid left then tid ∷ child ∷ tids else tid ∷ with_behind (Some left) child tids

abbrev pub without : Tid → List Tid → List Tid
without child tids = filter (λ tid. not (is_tid tid child)) tids

-- the tuple behind which a spot is
abbrev pub left_of : Spot → List Tid → Option Tid
left_of First tids = None
left_of Last tids = last_of tids
left_of (After tid) tids = Some tid

-- there is such a spot
abbrev pub has_spot : Spot → List Tid → Bool
has_spot First tids = true
has_spot Last tids = true
has_spot (After tid) tids = stands_in tid tids

-- the tuple right behind another one
abbrev pub next_of : Tid → List Tid → Option Tid
next_of tid [] = None
next_of tid (other ∷ tids) = if is_tid other tid then slice_get tids 0 else next_of tid tids

-- ---- parts in links

-- there is this name
abbrev pub is_this : Option Name → Name → Bool
is_this None name = false
is_this (Some one) name = is_name one name

abbrev pub is_parent_relation : LinkDef → Name → Bool
is_parent_relation link relation = is_this link.parent relation

-- the relation has a part in the link
abbrev pub has_part : Name → LinkDef → Bool
has_part relation link = is_name relation link.child || is_parent_relation link relation

-- in how many links the relation is
abbrev pub parts_of : Definitions → Name → ℕ
parts_of definitions relation = count_by (has_part relation) (map.values definitions.links)

-- the tuple stands in a chain of the link, or has one that is not empty
abbrev pub is_connected : Contents → Name → Tid → Name × LinkDef → Bool
is_connected contents relation tid link =
    (is_name relation link.1.child && is_some (chain_with contents link.0 tid))
    || (is_parent_relation link.1 relation && is_some (content contents (ChainItem link.0 (Some tid))))

-- the first link, by name, in which the tuple stands in a chain or has one
abbrev pub connected : Tables → Name → Tid → Option Name
connected tables relation tid =
    option_map (λ link. link.0) (find (is_connected tables.contents relation tid) (map.entries tables.definitions.links))

-- ---- when links fit

-- there is a tuple of the relation with this identifier
abbrev pub is_there : Contents → Name → Tid → Bool
is_there contents relation tid = is_some (content contents (TupleItem relation tid))

-- a chain is below a tuple of the parent relation, or is the one chain where there is none
abbrev pub HasParent : Contents → Option Name → Option Tid → Type 0
HasParent contents None None = ⊤
HasParent contents None (Some parent) = ⊥
HasParent contents (Some relation) None = ⊥
HasParent contents (Some relation) (Some parent) = is_there contents relation parent ≡ true

-- no tuple stands twice
abbrev pub StandOnce : List Tid → Type 0
StandOnce [] = ⊤
StandOnce (tid ∷ tids) = (stands_in tid tids ≡ false) × StandOnce tids

-- What a chain holds: tuples of the child relation, of which there is one at least, and none twice.
pub record IsChainOf (tables : Tables) (link : Name) (parent : Option Tid) (held : Content) : Type 0 where
  pub definition : LinkDef
  pub tids : List Tid
  pub defined : map.get tables.definitions.links link ≡ Some definition
  pub is : held ≡ Tuples tids
  pub some : 1 ≤ length tids
  pub members : All (λ tid. is_there tables.contents definition.child tid ≡ true) tids
  pub once : StandOnce tids
  pub under : HasParent tables.contents definition.parent parent

pub record LinksFit (tables : Tables) : Type 0 where
  pub chains : (link : Name) (parent : Option Tid) (held : Content)
      → content tables.contents (ChainItem link parent) ≡ Some held → IsChainOf tables link parent held
  -- a tuple stands in one chain of a link
  pub alone : (link : Name) (one other : Option Tid) (tid : Tid)
      → stands_in tid (chain tables.contents link one) ≡ true
      → stands_in tid (chain tables.contents link other) ≡ true → one ≡ other
