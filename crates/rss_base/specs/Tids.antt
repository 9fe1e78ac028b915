-- Tuple identifiers: how large their numbers are, and their order, by page and then by slot.
use Rattle.std.specs.Prelude.{◌≡◌, ◌⊎◌, ◌<◌, ◌^◌, Option, None, Some}
use Rattle.rss_base.specs.declared.tid.Tid.{Tid}

-- four bytes spell its page, and two its slot
pub record IsSpelledTid (tid : Tid) : Type 0 where
  pub page : tid.page < 2 ^ 32
  pub slot : tid.slot < 2 ^ 16

-- one identifier is below the other
abbrev pub IsBelow : Tid → Tid → Type 0
IsBelow a b = (a.page < b.page) ⊎ ((a.page ≡ b.page) × (a.slot < b.slot))

-- an identifier stands behind this one, or is any where there is none
abbrev pub IsAfter : Option Tid → Tid → Type 0
IsAfter None tid = Unit {0}
IsAfter (Some after) tid = IsBelow after tid
