-- The records of a log, as far as they decide which changes are kept.
use Rattle.std.specs.Prelude.{ℕ, ◌-◌, ◌^◌, ◌==◌, if◌then◌else◌, nat_le, nat_lt, List, [], ◌∷◌, ◌++◌, filter, map, reverse, min, nat_eq, unwrap_or}
use Rattle.std.specs.HashMap.{get}
use Rattle.rss_restart.specs.declared.survey.bounds.Bounds.{Bounds}
use Rattle.rss_restart.specs.declared.survey.bounds.Event.{Event}
use Rattle.rss_restart.specs.declared.survey.bounds.Event.TheVariants.{Change, Restore, End, Abort, Checkpoint}
use Rattle.rss_restart.specs.declared.survey.walk.Kept.{Kept}
use Rattle.rss_restart.specs.declared.survey.walk.Placed.{Placed}

-- ---- the positions below which the changes of transactions are kept

-- a position that is behind all others
abbrev pub every : ℕ
every = 2 ^ 64 - 1

abbrev pub bound : Bounds → ℕ → ℕ
bound bounds t = unwrap_or (get nat_eq bounds.met t) bounds.unmet

-- In front of a record: an End record keeps its transaction's changes below a position, an Abort record none.
abbrev pub passed : ℕ → Event → ℕ → ℕ → ℕ
passed ended (Change by) t behind = behind
passed ended (Restore by first) t behind = if t == by then min behind first else behind
passed ended (End by) t behind = if t == by then ended else behind
passed ended (Abort by) t behind = if t == by then 0 else behind
passed ended Checkpoint t behind = behind

-- in front of records, where these are the positions behind them
abbrev pub front : ℕ → (ℕ → ℕ) → List Placed → ℕ → ℕ
front ended behind [] t = behind t
front ended behind (p ∷ ps) t = passed ended p.event t (front ended behind ps t)

-- ---- the changes that are kept

abbrev pub kept_at : ℕ → Event → (ℕ → ℕ) → List Kept
kept_at at (Change by) behind = if nat_lt at (behind by) then record { at = at; by = by } ∷ [] else []
kept_at at (Restore by first) behind = []
kept_at at (End by) behind = []
kept_at at (Abort by) behind = []
kept_at at Checkpoint behind = []

-- the newest first
abbrev pub kept_in : ℕ → (ℕ → ℕ) → List Placed → List Kept
kept_in ended behind [] = []
kept_in ended behind (p ∷ ps) = kept_in ended behind ps ++ kept_at p.at p.event (front ended behind ps)

abbrev pub position : Kept → ℕ
position change = change.at

-- the changes that don't survive, where those of each transaction do below these positions
abbrev pub lost : (ℕ → ℕ) → List Kept → List Kept
lost surviving changes = filter (λ change. nat_le (surviving change.by) change.at) changes

-- ---- what is done with them

-- the changes behind a checkpoint that survive
abbrev pub surviving_in : List Placed → List Kept
surviving_in newer = kept_in every (λ t. 0) newer

-- where the changes of each transaction that were made before the checkpoint survive
abbrev pub surviving_below : List Placed → ℕ → ℕ
surviving_below newer = front every (λ t. 0) newer

-- the changes that are listed at a checkpoint
abbrev pub listed_in : List Placed → List Kept
listed_in older = kept_in 0 (λ t. every) older

abbrev pub redone_in : List Placed → List ℕ
redone_in newer = map position (reverse (surviving_in newer))

abbrev pub undone_in : List Placed → List Placed → List ℕ
undone_in older newer = map position (lost (surviving_below newer) (listed_in older))
