-- The relation machine's state, and the tables now. The machine has no pages, maps or log.
use Rattle.std.specs.Prelude.{◌≡◌, ℕ, List, [], is_some, Bool}
use Rattle.std.specs.Ordering.{nat_cmp}
use Rattle.std.specs.FinMap as map
use Rattle.std.specs.FinMap.{FinMap}
use Rattle.rss_model.specs.Tables.{Tables}
use Rattle.rss_model.specs.Changes.{Change, after}
use Rattle.rss_model.specs.Locks.{Locks}
use Rattle.rss_model.specs.Scans.{Scans}
use Rattle.rss_model.specs.Meter.{Meter, at_rest}

-- how large a store is: how many slots and log pages it has
pub record StoreSize : Type 0 where
  pub slots : ℕ
  pub log_pages : ℕ

-- size: that of the store. The page of an identifier has a number below the number of slots.
-- base: the committed tables.
-- changes: those of the open transactions, in one list, the newest first.
-- marks: the open transactions, and for each save point of one how many changes it had made before.
-- locks: the modes in which they hold items.
-- scans: their open scans.
-- meter: what the rules read that keep room for all pages and for the log.
pub record State : Type 0 where
  pub size : StoreSize
  pub base : Tables
  pub changes : List Change
  pub marks : FinMap nat_cmp (List ℕ)
  pub locks : Locks
  pub scans : Scans
  pub meter : Meter

-- these are the tables, and nothing is open
pub record IsIdle (size : StoreSize) (tables : Tables) (state : State) : Type 0 where
  pub same_size : state.size ≡ size
  pub committed : state.base ≡ tables
  pub none_changed : state.changes ≡ []
  pub none_open : state.marks ≡ map.empty
  pub none_locked : state.locks ≡ map.empty
  pub none_scanned : state.scans ≡ map.empty

-- and a checkpoint was just taken
pub record IsAtRest (size : StoreSize) (tables : Tables) (state : State) : Type 0 where
  pub idle : IsIdle size tables state
  pub meter : state.meter ≡ at_rest size.slots tables state.meter.over state.meter.head state.meter.end

-- the committed tables with these changes
abbrev pub with_changes : Tables → List Change → Tables
with_changes tables changes = record tables { contents = after tables.contents changes }

-- the tables as the open transactions see them
abbrev pub now : State → Tables
now state = with_changes state.base state.changes

abbrev pub is_open : State → ℕ → Bool
is_open state transaction = is_some (map.get state.marks transaction)
