-- What the entries of a slotted page hold.
use Rattle.std.specs.Prelude.{ℕ, List, length}

-- nothing, a body, or the page and the slot of an overflow page where the body stands
pub data Content : Type 0 where
  Empty : Content
  Here : List ℕ → Content
  Forward : ℕ → ℕ → Content

-- how many bytes of the page an entry's body takes
abbrev pub body_length : Content → ℕ
body_length Empty = 0
body_length (Here body) = length body
body_length (Forward page slot) = 0
