-- Where a pair is sought.
use Rattle.std.specs.Prelude.{ℕ, List, [], ◌∷◌, Option, Some, None, Bool, true, false, if◌then◌else◌}
use Rattle.std.specs.Ordering.{nat_cmp, is_lt}
use Rattle.std.specs.Cmp.Lexicographic.{slice_cmp}
use Rattle.rss_base.specs.Entries.{IsLess}

-- whether a pair is passed by a search for the first one above another, or at or above it
abbrev pub is_passed : Bool → List ℕ → List ℕ → Bool
is_passed true pair target = if is_lt (slice_cmp nat_cmp target pair) then false else true
is_passed false pair target = is_lt (slice_cmp nat_cmp pair target)

abbrev pub IsPassedBy : Bool → List ℕ → List ℕ → Type 0
IsPassedBy true pair target = IsLess target pair → ⊥
IsPassedBy false pair target = IsLess pair target

-- the first of the pairs that isn't passed
abbrev pub first_from : Bool → List ℕ → List (List ℕ) → Option (List ℕ)
first_from beyond target [] = None
first_from beyond target (pair ∷ pairs) = if is_passed beyond pair target then first_from beyond target pairs else Some pair
