-- The open transactions, by the keys of their records.
use Rattle.std.specs.Prelude.{◌≡◌, ◌≢◌, ℕ, ◌-◌, ◌^◌, ◌≤◌, Bool, if◌then◌else◌, List, [], ◌∷◌, length, slice_index, slice_index_or, Option, None, IsSome, option_map, unwrap_or}
use Rattle.std.specs.BTreeMap.{is_at}
use Rattle.std.specs.List.{AllByRecursion}
use Rattle.std.specs.List.Sorted.{IsStrictlySortedBy}
use Rattle.std.specs.Map.{keys_of, lookup}
use Rattle.std.specs.Ordering.{nat_cmp}
use Rattle.std.specs.FinMap as map
use Rattle.rss_trans.specs.Transactions.{Transaction, OpenView, nothing}
use Rattle.rss_trans.specs.Tallies.{Kept}

-- the key of each transaction, the records, and how many changes there were since the last checkpoint
pub record Table : Type 0 where
  pub keys : List (ℕ × ℕ)
  pub slots : List (Option Kept)
  pub since : ℕ
  pub since_of : List ℕ

abbrev pub table : List (ℕ × ℕ) → List (Option Kept) → ℕ → List ℕ → Table
table keys slots since since_of = record { keys = keys; slots = slots; since = since; since_of = since_of }

-- whether it is the same number, as std's maps compare
abbrev pub at : ℕ → ℕ → Bool
at t = is_at (nat_cmp t)

abbrev pub find : ℕ → List (ℕ × Transaction) → Option Transaction
find t transactions = lookup (at t) transactions

-- the same, but for what t has done
abbrev pub changed : ℕ → (Transaction → Transaction) → List (ℕ × Transaction) → List (ℕ × Transaction)
changed t step [] = []
changed t step (e ∷ es) = if at t e.0 then (e.0, step e.1) ∷ es else e ∷ changed t step es

-- the record under a key
abbrev pub kept_at : List (Option Kept) → ℕ → Kept
kept_at slots key = unwrap_or (slice_index_or slots key None) (record { transaction = nothing; room = 0 })

abbrev pub shown : List (ℕ × ℕ) → List (Option Kept) → List (ℕ × Transaction)
shown [] slots = []
shown (e ∷ es) slots = (e.0, (kept_at slots e.1).transaction) ∷ shown es slots

abbrev pub room_of : Table → ℕ → ℕ
room_of t n = unwrap_or (option_map (λ key. (kept_at t.slots key).room) (lookup (at n) t.keys)) 0

abbrev pub told : Table → OpenView
told t = record {
  transactions = map.from_sorted (shown t.keys t.slots);
  since = t.since;
  since_of = λ relation. slice_index t.since_of relation;
  room = room_of t;
}

-- no two transactions have one record
abbrev pub IsApart : List (ℕ × ℕ) → Type 0
IsApart [] = Unit {0}
IsApart (e ∷ es) = AllByRecursion (λ f. f.1 ≢ e.1) es × IsApart es

pub record IsTable (t : Table) : Type 0 where
  pub few : length t.keys ≤ 32
  pub order : IsStrictlySortedBy nat_cmp (keys_of t.keys)
  pub there : AllByRecursion (λ e. IsSome (slice_index_or t.slots e.1 None)) t.keys
  pub apart : IsApart t.keys
  pub relations : length t.since_of ≡ 256
  pub below : (relation : ℕ) → slice_index t.since_of relation ≤ 2 ^ 64 - 1
