-- Entries of nodes by their bytes, and the order of their pairs.
use Rattle.std.specs.Prelude.{◌≡◌, ℕ, List}
use Rattle.std.specs.Ordering.{nat_cmp}
use Rattle.std.specs.declared.cmp.Ordering.TheVariants.{Less}
use Rattle.std.specs.Cmp.Lexicographic.{slice_cmp}

-- An entry: a pair, which is the bytes of a key and those of an identifier, and the number of a child's page.
pub record Entry : Type 0 where
  pub pair : List ℕ
  pub child : ℕ

-- pairs are ordered by their bytes
pub record IsLess (a b : List ℕ) : Type 0 where
  pub is : slice_cmp nat_cmp a b ≡ Less

-- the number that stands where there is no next leaf
abbrev pub no_page : ℕ
no_page = 4294967295
