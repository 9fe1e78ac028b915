-- A change of a tuple or of a chain, and what stands in a body before the values.
use Rattle.std.specs.Prelude.{◌≡◌, ℕ, List, ◌∷◌, ◌++◌, length, Option, option_map}
use Rattle.rss_base.specs.Prefixes.{prefix_size}
use Rattle.rss_base.specs.Listings.{Listing}
use Rattle.rss_base.specs.declared.change.Change as told
use Rattle.rss_base.specs.declared.change.Change.TheVariants as changes
use Rattle.rss_access.specs.declared.edit.Alteration.{Alteration}
use Rattle.rss_access.specs.declared.edit.Alteration.TheVariants.{Tuple, Connect, Disconnect}
use Rattle.rss_access.specs.Edits.{told_by}
use Rattle.rss_access.specs.Told.{number_told, values_before, IsPrefix}

-- the change that it is
abbrev pub told_as : Alteration → told.Change
told_as (Tuple change) = told_by change
told_as (Connect membership) =
    changes.Connect membership.link membership.parent membership.child membership.left
told_as (Disconnect membership) =
    changes.Disconnect membership.link membership.parent membership.child membership.left

-- a number and as many bytes as a relation of this number has in links
pub record BeginsWith (listing : Listing) (number : ℕ) (front : List ℕ) : Type 0 where
  pub prefix : List ℕ
  pub is : front ≡ number ∷ prefix
  pub long : length prefix ≡ prefix_size listing.links number

-- This may stand before the values in the body of the change's tuple: the number of its relation, and the blocks of its links.
pub record IsFront (listing : Listing) (change : told.Change) (front : List ℕ) : Type 0 where
  pub prefix : List ℕ
  pub fitting : IsPrefix listing change prefix
  pub is : front ≡ number_told change ∷ prefix

-- a body that begins so, if there are values
abbrev pub with_front : List ℕ → Option (List ℕ) → Option (List ℕ)
with_front front values = option_map (λ bytes. front ++ bytes) values

-- the tuple is as the change finds it, where this stands before the values
abbrev pub IsFound : told.Change → Option (List ℕ) → List ℕ → Type 0
IsFound change found front = found ≡ with_front front (values_before change)

-- it isn't, whatever stands there
abbrev pub IsNotFound : Listing → told.Change → Option (List ℕ) → Type 0
IsNotFound listing change found =
    (front : List ℕ) → IsFront listing change front → IsFound change found front → ⊥
