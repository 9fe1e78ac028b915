-- A queue for the lines of each owner, and the lines of all by their numbers.
use Rattle.std.specs.Prelude.{◌≡◌, ◌≤◌, ◌<◌, ℕ, nat_lt, if◌then◌else◌, List, [], ◌∷◌, ◌++◌, length, Option, Some, None, slice_get, slice_index_or, option_map, option_and_then, is_some}
use Rattle.rss_wait.specs.declared.wait.Wait.{Wait}
use Rattle.rss_wait.specs.declared.held.Held.{Held}
use Rattle.rss_wait.specs.Waits.{holder_of, IsOnce}

abbrev pub Each : {X : Type 0} → (X → Type 0) → List X → Type 0
Each P [] = Unit {0}
Each P (x ∷ xs) = P x × Each P xs

-- ---- all lines

-- with one more line, before the first of a greater number
abbrev pub put_line : Held → List Held → List Held
put_line line [] = line ∷ []
put_line line (other ∷ lines) =
    if nat_lt line.number other.number then line ∷ other ∷ lines else other ∷ put_line line lines

abbrev pub in_order : List Held → List Held
in_order [] = []
in_order (line ∷ lines) = put_line line (in_order lines)

abbrev pub lines_of : List (List Held) → List Held
lines_of [] = []
lines_of (queue ∷ queues) = queue ++ lines_of queues

-- the lines of all queues, by their numbers
abbrev pub held_in : List (List Held) → List Held
held_in queues = in_order (lines_of queues)

-- ---- the queues

abbrev pub owner_of : List Held → Option ℕ
owner_of queue = option_map (λ (line : Held). line.owner) (slice_get queue 0)

abbrev pub number_of : List Held → Option ℕ
number_of queue = option_map (λ (line : Held). line.number) (slice_get queue 0)

-- these lines are an owner's, and their numbers rise
abbrev pub AreRising : ℕ → List Held → Type 0
AreRising t [] = Unit {0}
AreRising t (line ∷ lines) =
    (line.owner ≡ t) × Each (λ (other : Held). line.number < other.number) lines × AreRising t lines

-- some lines of one owner, by their numbers
pub record IsQueue (queue : List Held) : Type 0 where
  pub first : Held
  pub rest : List Held
  pub is : queue ≡ first ∷ rest
  pub rising : AreRising first.owner queue

abbrev pub owners : List (List Held) → List ℕ
owners [] = []
owners ([] ∷ queues) = owners queues
owners ((line ∷ lines) ∷ queues) = line.owner ∷ owners queues

abbrev pub numbers : List Held → List ℕ
numbers [] = []
numbers (line ∷ lines) = line.number ∷ numbers lines

-- one queue for each owner, and no number twice
pub record AreQueues (queues : List (List Held)) : Type 0 where
  pub each : Each IsQueue queues
  pub owners_once : IsOnce (owners queues)
  pub numbers_once : IsOnce (numbers (lines_of queues))

-- ---- the least of them

-- the lesser of a key and that which was least so far, each with its place
abbrev pub lesser : Option (ℕ × ℕ) → Option ℕ → ℕ → Option (ℕ × ℕ)
lesser best None place = best
lesser None (Some key) place = Some (key, place)
lesser (Some best) (Some key) place = if nat_lt key best.0 then Some (key, place) else Some best

-- of the first so many queues the one in this place has the least key, of those that have one
abbrev pub IsLeast : (List Held → Option ℕ) → List (List Held) → ℕ → Option (ℕ × ℕ) → Type 0
IsLeast key queues end None = (k : ℕ) → k < end → k < length queues → key (slice_index_or queues k []) ≡ None
IsLeast key queues end (Some best) =
    (best.1 < length queues) × (key (slice_index_or queues best.1 []) ≡ Some best.0)
    × ((k m : ℕ) → k < end → k < length queues → key (slice_index_or queues k []) ≡ Some m → best.0 ≤ m)

-- the owner of a queue, if it doesn't wait
abbrev pub if_free : List Wait → ℕ → Option ℕ
if_free waits t = if is_some (holder_of waits t) then None else Some t

abbrev pub free_owner : List Wait → List Held → Option ℕ
free_owner waits queue = option_and_then (if_free waits) (owner_of queue)
