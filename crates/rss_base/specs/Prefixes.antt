-- The prefix of a tuple: a block for each part that its relation has in a link.
use Rattle.std.specs.Prelude.{ℕ, ◌==◌, Bool, false, if◌then◌else◌, List, [], ◌∷◌, ◌++◌, replicate, sum_by, Option, Some, None}
use Rattle.rss_base.specs.LogRecords.{tid_bytes, place_bytes}
use Rattle.rss_base.specs.Listings.{is_parent_in}
use Rattle.rss_base.specs.declared.tid.Tid.{Tid}
use Rattle.rss_base.specs.declared.link.LinkEntry.{LinkEntry}

-- ---- chains as lists

-- the tuples before and behind one in a chain
pub record Neighbours : Type 0 where
  pub previous : Option Tid
  pub next : Option Tid

-- the ends of a chain
pub record Ends : Type 0 where
  pub first : Option Tid
  pub last : Option Tid

abbrev pub is_tid : Tid → Tid → Bool
is_tid a b = if a.page == b.page then a.slot == b.slot else false

abbrev pub first_of : List Tid → Option Tid
first_of [] = None
first_of (tid ∷ tids) = Some tid

abbrev pub last_of : List Tid → Option Tid
last_of [] = None
last_of (tid ∷ []) = Some tid
last_of (tid ∷ other ∷ tids) = last_of (other ∷ tids)

abbrev pub ends_of : List Tid → Ends
ends_of tids = record { first = first_of tids; last = last_of tids }

-- the neighbours of a tuple among these, behind the one before them
abbrev pub neighbours_from : Option Tid → List Tid → Tid → Option Neighbours
neighbours_from before [] tid = None
neighbours_from before (other ∷ tids) tid =
    if is_tid other tid then Some (record { previous = before; next = first_of tids })
    else neighbours_from (Some other) tids tid

abbrev pub neighbours_in : List Tid → Tid → Option Neighbours
neighbours_in tids tid = neighbours_from None tids tid

-- ---- blocks

abbrev pub neighbours_bytes : Neighbours → List ℕ
neighbours_bytes neighbours = place_bytes neighbours.previous ++ place_bytes neighbours.next

-- of a tuple in the one chain of a link: whether it stands there, and its neighbours
abbrev pub member_block : Option Neighbours → List ℕ
member_block None = 0 ∷ replicate 12 255
member_block (Some neighbours) = 1 ∷ neighbours_bytes neighbours

-- where a child stands: under which parent, and between which neighbours
pub record ChildPlace : Type 0 where
  pub parent : Tid
  pub neighbours : Neighbours

abbrev pub child_block : Option ChildPlace → List ℕ
child_block None = replicate 18 255
child_block (Some place) = tid_bytes place.parent ++ neighbours_bytes place.neighbours

-- of a parent: the ends of its chain
abbrev pub parent_block : Ends → List ℕ
parent_block ends = place_bytes ends.first ++ place_bytes ends.last

-- ---- parts in a link

-- which part a relation has in a link
pub data Part : Type 0 where
  Outside : Part
  Member : Part
  Child : Part
  Parent : Part

-- the part of a child's relation: it has chains below parents, or there is one chain
abbrev pub lower_part : Option ℕ → Part
lower_part None = Member
lower_part (Some parent) = Child

abbrev pub part_in : LinkEntry → ℕ → Part
part_in link number =
    if link.child == number then lower_part link.parent
    else (if is_parent_in link.parent number then Parent else Outside)

-- how many bytes a part's block has
abbrev pub block_size : Part → ℕ
block_size Outside = 0
block_size Member = 13
block_size Child = 18
block_size Parent = 12

-- the part of a relation by whose block its tuples' prefixes are longer: a late link has none in a prefix
abbrev pub early_part : LinkEntry → ℕ → Part
early_part link number = if link.late then Outside else part_in link number

abbrev pub listed_block_size : ℕ → Option LinkEntry → ℕ
listed_block_size number None = 0
listed_block_size number (Some link) = block_size (early_part link number)

-- how many bytes the prefix of a relation's tuples has, by its number and all links
abbrev pub prefix_size : List (Option LinkEntry) → ℕ → ℕ
prefix_size links number = sum_by (listed_block_size number) links
