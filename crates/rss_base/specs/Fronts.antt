-- What stands before the values in the body of a tuple: the number of its relation, and the blocks of the links in which it has a part.
use Rattle.std.specs.Prelude.{ℕ, ◌+◌, ◌-◌, ◌≤◌, ◌≡◌, nat_lt, if◌then◌else◌, List, [], ◌∷◌, ◌++◌, length, flat_map}
use Rattle.rss_base.specs.Prefixes.{Part, Outside, Member, Child, Parent}

-- what the relation's number is marked by, if late blocks stand
abbrev pub late_mark : ℕ
late_mark = 128

-- the block of a late link: the link's number, and the bytes behind it
pub record LateBlock : Type 0 where
  pub link : ℕ
  pub bytes : List ℕ

-- how many bytes a part's block has in a late link, with the link's number
abbrev pub late_size : Part → ℕ
late_size Outside = 0
late_size Member = 13
late_size Child = 19
late_size Parent = 13

abbrev pub late_block_bytes : LateBlock → List ℕ
late_block_bytes block = block.link ∷ block.bytes

-- how many late blocks there are, and these; nothing stands for none
abbrev pub late_bytes : List LateBlock → List ℕ
late_bytes [] = []
late_bytes (block ∷ blocks) = length (block ∷ blocks) ∷ flat_map late_block_bytes (block ∷ blocks)

-- the number of the relation, marked if late blocks stand
abbrev pub marked_number : ℕ → List LateBlock → ℕ
marked_number number [] = number
marked_number number (block ∷ blocks) = number + late_mark

-- by the early blocks of a body, as one list of bytes, and its late ones
abbrev pub front_bytes : ℕ → List ℕ → List LateBlock → List ℕ
front_bytes number early late = marked_number number late ∷ (early ++ late_bytes late)

-- the number of the relation, by the first byte
abbrev pub number_in : ℕ → ℕ
number_in first = if nat_lt first late_mark then first else first - late_mark

-- By the size of each link's late block: their numbers rise from this one on, and each has the bytes that its link's block has.
abbrev pub AreLateFrom : ℕ → (ℕ → ℕ) → List LateBlock → Type 0
AreLateFrom least sizes [] = Unit {0}
AreLateFrom least sizes (block ∷ blocks) =
    (least ≤ block.link) × (1 + length block.bytes ≡ sizes block.link)
    × AreLateFrom (block.link + 1) sizes blocks
