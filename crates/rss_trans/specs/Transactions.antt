-- Open transactions: what they have changed, their save points, and sums over them.
use Rattle.std.specs.Prelude.{◌≡◌, ℕ, ◌+◌, ◌-◌, ◌^◌, ◌==◌, ◌&&◌, min, nat_lt, Bool, true, false, if◌then◌else◌, List, [], ◌∷◌, ◌++◌, length, take, sum_by, count_by, slice_index_or, slice_get, Option, Some, None, option_map, unwrap_or}
use Rattle.std.specs.List.{filter_map}
use Rattle.std.specs.Ordering.{nat_cmp}
use Rattle.std.specs.FinMap as map
use Rattle.std.specs.FinMap.{FinMap}
use Rattle.rss_trans.specs.declared.noted.Noted.{Noted}
use Rattle.rss_trans.specs.declared.sums.Sums.{Sums}

-- changes: those that it hasn't undone, the oldest first.
-- saves: for each of its save points how many there were.
pub record Transaction : Type 0 where
  pub changes : List Noted
  pub saves : List ℕ

-- one that has just begun
abbrev pub nothing : Transaction
nothing = record { changes = []; saves = [] }

-- so many changes one transaction may have
abbrev pub changes_most : ℕ
changes_most = 288230376151711744

-- ---- since a save point

-- how many changes there were at a save point, of which 0 is the begin
abbrev pub count_at : Transaction → ℕ → ℕ
count_at transaction save = slice_index_or (0 ∷ transaction.saves) save 0

-- the newest change, if it was made after that save point
abbrev pub newest_after : Transaction → ℕ → Option ℕ
newest_after transaction save =
    if nat_lt (count_at transaction save) (length transaction.changes)
    then option_map (λ change. change.position) (slice_get transaction.changes (length transaction.changes - 1))
    else None

-- the position of the first change
abbrev pub first_position : Transaction → Option ℕ
first_position transaction = option_map (λ change. change.position) (slice_get transaction.changes 0)

-- ---- steps

abbrev pub with_change : Noted → Transaction → Transaction
with_change change transaction = record transaction { changes = transaction.changes ++ change ∷ [] }

abbrev pub without_newest : Transaction → Transaction
without_newest transaction =
    record transaction { changes = take (length transaction.changes - 1) transaction.changes }

abbrev pub with_save : Transaction → Transaction
with_save transaction =
    record transaction { saves = transaction.saves ++ length transaction.changes ∷ [] }

-- the save points up to this one
abbrev pub cut_at : ℕ → Transaction → Transaction
cut_at save transaction = record transaction { saves = take save transaction.saves }

-- ---- counts

abbrev pub any : Noted → Bool
any change = true

abbrev pub is_in : ℕ → Option ℕ → Bool
is_in relation None = false
is_in relation (Some other) = other == relation

abbrev pub of_relation : ℕ → Noted → Bool
of_relation relation change = is_in relation change.relation

-- all changes, or those in a relation
abbrev pub kind : Option ℕ → Noted → Bool
kind None = any
kind (Some relation) = of_relation relation

abbrev pub change_count : (Noted → Bool) → Transaction → ℕ
change_count which transaction = count_by which transaction.changes

abbrev pub delete_count : (Noted → Bool) → Transaction → ℕ
delete_count which transaction = count_by (λ c. which c && c.is_delete) transaction.changes

-- ---- the open transactions

-- transactions: each by its number.
-- since: how many changes were made since the last checkpoint; since_of: in a relation.
-- room: for how many more changes of a transaction there is room.
pub record OpenView : Type 0 where
  pub transactions : FinMap nat_cmp Transaction
  pub since : ℕ
  pub since_of : ℕ → ℕ
  pub room : ℕ → ℕ

abbrev pub is_open : OpenView → ℕ → Bool
is_open view t = map.contains_key view.transactions t

-- what t has done
abbrev pub transaction_in : OpenView → ℕ → Transaction
transaction_in view t = unwrap_or (map.get view.transactions t) nothing

pub record IsSame (old new : OpenView) : Type 0 where
  pub transactions : new.transactions ≡ old.transactions
  pub since : new.since ≡ old.since
  pub since_of : new.since_of ≡ old.since_of

pub record Begins (t : ℕ) (old new : OpenView) : Type 0 where
  pub transactions : new.transactions ≡ map.insert old.transactions t nothing
  pub since : new.since ≡ old.since
  pub since_of : new.since_of ≡ old.since_of

-- t took this step
pub record Steps (t : ℕ) (step : Transaction → Transaction) (old new : OpenView) : Type 0 where
  pub transactions : new.transactions ≡ map.insert old.transactions t (step (transaction_in old t))
  pub since : new.since ≡ old.since
  pub since_of : new.since_of ≡ old.since_of

-- one more, as far as a u64 counts
abbrev pub counted : ℕ → Bool → ℕ
counted count more = min (count + (if more then 1 else 0)) (2 ^ 64 - 1)

-- t made this change
pub record Notes (t : ℕ) (change : Noted) (old new : OpenView) : Type 0 where
  pub transactions : new.transactions
      ≡ map.insert old.transactions t (with_change change (transaction_in old t))
  pub since : new.since ≡ counted old.since true
  pub since_of : (relation : ℕ) → new.since_of relation
      ≡ counted (old.since_of relation) (of_relation relation change)

-- t is gone
pub record Ends (t : ℕ) (old new : OpenView) : Type 0 where
  pub transactions : new.transactions ≡ map.remove old.transactions t
  pub since : new.since ≡ old.since
  pub since_of : new.since_of ≡ old.since_of

-- no change was made since
pub record Checkpoints (old new : OpenView) : Type 0 where
  pub transactions : new.transactions ≡ old.transactions
  pub since : new.since ≡ 0
  pub since_of : (relation : ℕ) → new.since_of relation ≡ 0

-- ---- sums

abbrev pub sums_of : (Noted → Bool) → ℕ → List Transaction → Sums
sums_of which since transactions = record {
  p = sum_by (change_count which) transactions;
  q = count_by (λ x. nat_lt 0 (change_count which x)) transactions;
  s = since;
  d = sum_by (delete_count which) transactions;
}

-- each transaction that has a change, with the position of its first one
abbrev pub marks_of : List (ℕ × Transaction) → List (ℕ × ℕ)
marks_of transactions =
    filter_map (λ e. option_map (λ position. (e.0, position)) (first_position e.1)) transactions
