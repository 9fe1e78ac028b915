-- The lines that have no answer yet.
use Rattle.std.specs.Prelude.{◌≡◌, ℕ, ◌<◌, ◌≤◌, ◌==◌, not, List, Option, Some, None, All, true, find, filter, is_some}
use Rattle.rss_wait.specs.declared.wait.Wait.{Wait}
use Rattle.rss_wait.specs.declared.held.Held.{Held}
use Rattle.rss_wait.specs.Waits.{holder_of}

-- the first line of an owner
abbrev pub first_of : List Held → ℕ → Option Held
first_of held t = find (λ line. line.owner == t) held

-- all have lesser numbers
abbrev pub AreBefore : ℕ → List Held → Type 0
AreBefore number held = All (λ line. line.number < number) held

-- without the line of a number
abbrev pub without_line : ℕ → List Held → List Held
without_line number held = filter (λ line. not (line.number == number)) held

-- without the line that was answered, if there is one
abbrev pub popped : Option Held → List Held → List Held
popped None held = held
popped (Some line) held = without_line line.number held

-- the owners of all wait
abbrev pub AllWait : List Wait → List Held → Type 0
AllWait waits held = All (λ (line : Held). is_some (holder_of waits line.owner) ≡ true) held

-- the first line of the least owner that doesn't wait
pub record IsLeastFree (waits : List Wait) (held : List Held) (line : Held) : Type 0 where
  pub free : holder_of waits line.owner ≡ None
  pub first : first_of held line.owner ≡ Some line
  pub least : All (λ other. holder_of waits other.owner ≡ None → line.owner ≤ other.owner) held
