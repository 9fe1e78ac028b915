-- Which transaction waits for which, and the cycles of those that wait for one another.
use Rattle.std.specs.Prelude.{◌≡◌, ℕ, Bool, true, false, ◌==◌, not, if◌then◌else◌, List, [], ◌∷◌, Option, Some, option_map, find, filter, reverse}
use Rattle.std.specs.List.{list_any}
use Rattle.rss_wait.specs.declared.wait.Wait.{Wait}

-- the open transactions in the order of their begins, and those that wait, in waiting order
pub record WaitsView : Type 0 where
  pub opened : List ℕ
  pub waits : List Wait

abbrev pub is_in : List ℕ → ℕ → Bool
is_in us t = list_any (λ u. u == t) us

-- none is there twice
abbrev pub IsOnce : List ℕ → Type 0
IsOnce [] = Unit {0}
IsOnce (t ∷ ts) = (is_in ts t ≡ false) × IsOnce ts

-- ---- who waits

-- for whom t waits
abbrev pub holder_of : List Wait → ℕ → Option ℕ
holder_of waits t = option_map (λ wait. wait.holder) (find (λ wait. wait.by == t) waits)

-- the first one that is to be tried again
abbrev pub first_again : List Wait → Option Wait
first_again waits = find (λ wait. wait.again) waits

-- ---- what the calls make of it

abbrev pub without : ℕ → List ℕ → List ℕ
without t opened = filter (λ u. not (u == t)) opened

abbrev pub without_wait : ℕ → List Wait → List Wait
without_wait t waits = filter (λ wait. not (wait.by == t)) waits

-- all are to be tried again
abbrev pub all_again : List Wait → List Wait
all_again [] = []
all_again (wait ∷ waits) = record wait { again = true } ∷ all_again waits

-- t waits for holder, at its old place, or else last
abbrev pub waiting_for : ℕ → ℕ → List Wait → List Wait
waiting_for t holder [] = record { by = t; holder = holder; again = false } ∷ []
waiting_for t holder (wait ∷ waits) =
    if wait.by == t then record { by = t; holder = holder; again = false } ∷ waits
    else wait ∷ waiting_for t holder waits

-- ---- cycles

abbrev pub first_or : ℕ → List ℕ → ℕ
first_or back [] = back
first_or back (t ∷ ts) = t

-- each waits for the next one, and the last for `back`
abbrev pub Follow : List Wait → List ℕ → ℕ → Type 0
Follow waits [] back = Unit {0}
Follow waits (t ∷ ts) back = (holder_of waits t ≡ Some (first_or back ts)) × Follow waits ts back

-- whoever follows holders from this transaction on comes back to it, by way of these
pub record IsLoop (waits : List Wait) (first : ℕ) (cycle : List ℕ) : Type 0 where
  pub rest : List ℕ
  pub is : cycle ≡ first ∷ rest
  pub each : Follow waits cycle first
  pub once : IsOnce cycle

-- the one of these that began last
abbrev pub latest : List ℕ → List ℕ → Option ℕ
latest opened members = find (λ t. is_in members t) (reverse opened)

-- it begins with the one of its members that began last
pub record IsCycle (opened : List ℕ) (waits : List Wait) (cycle : List ℕ) : Type 0 where
  pub first : ℕ
  pub loop : IsLoop waits first cycle
  pub last : latest opened cycle ≡ Some first
