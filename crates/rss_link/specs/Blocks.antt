-- The blocks of a link in the bodies of its tuples, as bytes.
use Rattle.std.specs.Prelude.{◌≡◌, ℕ, ◌^◌, ◌<◌, Bool, true, false, List, ◌++◌, length, take, drop, Option, Some, None, IsSome, IfSome, MatchOption}
use Rattle.rss_base.specs.LogRecords.{place_bytes}
use Rattle.rss_base.specs.Prefixes.{Neighbours, Ends, neighbours_bytes, member_block, child_block, parent_block, Member, Child, Parent, block_size}
use Rattle.rss_base.specs.declared.tid.Tid.{Tid}
use Rattle.rss_link.specs.declared.link.Ends.{Ends as KeptEnds}
use Rattle.rss_link.specs.declared.blocks.Standing.{Standing}
use Rattle.rss_link.specs.declared.blocks.Standing.TheVariants.{Outside, Within}
use Rattle.rss_link.specs.declared.blocks.Pointer.{Pointer}
use Rattle.rss_link.specs.declared.blocks.Pointer.TheVariants.{Next, Previous}

-- ---- pointers

-- the identifier whose bytes say that there is none
abbrev pub no_tid : Tid
no_tid = record { page = 4294967295; slot = 65535 }

-- an identifier that six bytes spell
pub record IsNamed (tid : Tid) : Type 0 where
  pub page : tid.page < 2 ^ 32
  pub slot : tid.slot < 2 ^ 16
  pub some : tid ≡ no_tid → ⊥

abbrev pub IsPointer : Option Tid → Type 0
IsPointer pointer = IfSome pointer IsNamed

-- ---- blocks

-- how many bytes a block has: of a child, by the kind of its link, and of a parent
abbrev pub child_size : Bool → ℕ
child_size true = block_size Member
child_size false = block_size Child

abbrev pub parent_size : ℕ
parent_size = block_size Parent

-- where the pointers stand in them: in that of a child, to what is before it and behind it, and in that of a parent, the last and the first
abbrev pub pointer_in : Bool → Pointer → ℕ
pointer_in true Previous = 1
pointer_in true Next = 7
pointer_in false Previous = 6
pointer_in false Next = 12

abbrev pub end_in : Pointer → ℕ
end_in Next = 0
end_in Previous = 6

abbrev pub neighbours : Option Tid → Option Tid → Neighbours
neighbours previous next = record { previous = previous; next = next }

-- the block of a member, or of a child, which has its parent in front of its neighbours
abbrev pub standing_bytes : Bool → Standing → List ℕ
standing_bytes true Outside = member_block None
standing_bytes true (Within parent previous next) = member_block (Some (neighbours previous next))
standing_bytes false Outside = child_block None
standing_bytes false (Within parent previous next) = place_bytes parent ++ neighbours_bytes (neighbours previous next)

-- the ends that are kept for a unary link
abbrev pub kept_ends : KeptEnds → Ends
kept_ends kept = record { first = kept.first; last = kept.last }

-- the chain of a unary link has no parent, and each of a binary link has one
abbrev pub HasKind : Bool → Option Tid → Type 0
HasKind true parent = parent ≡ None
HasKind false parent = IsSome parent

-- what a block can say
abbrev pub IsStanding : Bool → Standing → Type 0
IsStanding unary Outside = Unit {0}
IsStanding unary (Within parent previous next) = HasKind unary parent × IsPointer parent × IsPointer previous × IsPointer next

pub record AreEnds (ends : Ends) : Type 0 where
  pub first : IsPointer ends.first
  pub last : IsPointer ends.last

-- ---- blocks in bodies

-- a body has these bytes from a place on
abbrev pub HasBytes : List ℕ → ℕ → List ℕ → Type 0
HasBytes body at bytes = take (length bytes) (drop at body) ≡ bytes

-- the block at a place of a body says this of a child
pub record HasStanding (unary : Bool) (body : List ℕ) (at : ℕ) (standing : Standing) : Type 0 where
  pub bytes : HasBytes body at (standing_bytes unary standing)
  pub fits : IsStanding unary standing

-- the block at a place of a body says these are the ends
pub record HasEnds (body : List ℕ) (at : ℕ) (ends : Ends) : Type 0 where
  pub bytes : HasBytes body at (parent_block ends)
  pub fits : AreEnds ends

-- what was found in a body, and none exactly where there is nothing of the kind
abbrev pub IsFound : {T : Type 0} → (T → Type 0) → Option T → Type 0
IsFound {T} says found = MatchOption found ((one : T) → says one → ⊥) says
