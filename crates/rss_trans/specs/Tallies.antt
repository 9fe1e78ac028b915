-- Counts that are kept beside the changes of a transaction.
use Rattle.std.specs.Prelude.{◌≡◌, ℕ, ◌+◌, ◌-◌, ◌<◌, ◌≤◌, Bool, if◌then◌else◌, List, length, slice_index_or, count_by, ◌&&◌}
use Rattle.rss_trans.specs.declared.noted.Noted.{Noted}
use Rattle.rss_trans.specs.declared.tally.Tally.{Tally}
use Rattle.rss_trans.specs.Transactions.{Transaction, any, of_relation, changes_most}

-- a transaction, and how many more of its changes need no memory
pub record Kept : Type 0 where
  pub transaction : Transaction
  pub room : ℕ

abbrev pub zero_tally : Tally
zero_tally = record { changes = 0; deletes = 0 }

abbrev pub more_by : Bool → Tally → Tally
more_by is_delete tally = record { changes = tally.changes + 1; deletes = tally.deletes + (if is_delete then 1 else 0) }

abbrev pub less_by : Bool → Tally → Tally
less_by is_delete tally = record { changes = tally.changes - 1; deletes = tally.deletes - (if is_delete then 1 else 0) }

-- it counts the changes of this kind
pub record IsTally (which : Noted → Bool) (changes : List Noted) (tally : Tally) : Type 0 where
  pub changes_are : tally.changes ≡ count_by which changes
  pub deletes_are : tally.deletes ≡ count_by (λ c. which c && c.is_delete) changes

-- they count all changes, and those in each relation
pub record AreTallies (changes : List Noted) (all : Tally) (of_relations : List Tally) : Type 0 where
  pub few : length changes ≤ changes_most
  pub total : IsTally any changes all
  pub numbers : length of_relations ≡ 256
  pub each : (relation : ℕ) → relation < 256 → IsTally (of_relation relation) changes (slice_index_or of_relations relation zero_tally)
