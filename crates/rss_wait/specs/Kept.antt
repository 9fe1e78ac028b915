-- What holds of the lists of those that wait.
use Rattle.std.specs.Prelude.{◌≡◌, ◌≤◌, ℕ, true, List, [], ◌∷◌, length}
use Rattle.rss_wait.specs.declared.wait.Wait.{Wait}
use Rattle.rss_wait.specs.Waits.{is_in, IsOnce}

abbrev pub waiters : List Wait → List ℕ
waiters [] = []
waiters (wait ∷ waits) = wait.by ∷ waiters waits

-- 32 are open at most; whoever waits is open, and waits once
pub record AreWaiting (opened : List ℕ) (waits : List Wait) : Type 0 where
  pub few : length opened ≤ 32
  pub once : IsOnce (waiters waits)
  pub are_open : (t : ℕ) → is_in (waiters waits) t ≡ true → is_in opened t ≡ true
