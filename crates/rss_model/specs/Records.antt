-- The records of a log, and the lists of changes that they make.
use Rattle.std.specs.Prelude.{ℕ, ◌+◌, ◌≤◌, Bool, not, ◌&&◌, ◌==◌, nat_le, List, [], ◌∷◌, filter}
use Rattle.rss_model.specs.Tables.{Contents}
use Rattle.rss_model.specs.Changes.{Change, after}

-- What a record says. A Restore record cuts its transaction's changes at or after a position. A Checkpoint record names transactions, each with the position of its first change.
pub data LogEntry : Type 0 where
  Changed : Change → LogEntry
  Restore : ℕ → ℕ → LogEntry
  End : ℕ → LogEntry
  Abort : ℕ → LogEntry
  Checkpoint : List (ℕ × ℕ) → LogEntry

-- a record, and the position where it begins; lists of them have the oldest first
pub record Placed : Type 0 where
  pub at : ℕ
  pub is : LogEntry

-- a change in a transaction's list, and the position of its record; lists of them have the newest first
pub record Listed : Type 0 where
  pub at : ℕ
  pub change : Change

abbrev pub changes_in : List Listed → List Change
changes_in [] = []
changes_in (l ∷ ls) = l.change ∷ changes_in ls

-- ---- lists of changes

abbrev pub is_by : ℕ → Listed → Bool
is_by t l = l.change.by == t

abbrev pub own_in : ℕ → List Listed → List Listed
own_in t ls = filter (is_by t) ls

abbrev pub others_in : ℕ → List Listed → List Listed
others_in t ls = filter (λ l. not (is_by t l)) ls

-- its changes at or after a position
abbrev pub is_cut : ℕ → ℕ → Listed → Bool
is_cut t at l = is_by t l && nat_le at l.at

abbrev pub cut : ℕ → ℕ → List Listed → List Listed
cut t at ls = filter (λ l. not (is_cut t at l)) ls

-- ---- one record more

-- the lists after a record
abbrev pub listed : List Listed → ℕ → LogEntry → List Listed
listed ls at (Changed c) = record { at = at; change = c } ∷ ls
listed ls at (Restore t first) = cut t first ls
listed ls at (End t) = others_in t ls
listed ls at (Abort t) = others_in t ls
listed ls at (Checkpoint named) = ls

-- what is committed after it: an End record brings in its transaction's list
abbrev pub committed_by : Contents → List Listed → LogEntry → Contents
committed_by base ls (Changed c) = base
committed_by base ls (Restore t first) = base
committed_by base ls (End t) = after base (changes_in (own_in t ls))
committed_by base ls (Abort t) = base
committed_by base ls (Checkpoint named) = base

-- ---- records in a row

abbrev pub list_after : List Listed → List Placed → List Listed
list_after ls [] = ls
list_after ls (p ∷ ps) = list_after (listed ls p.at p.is) ps

abbrev pub recovered : Contents → List Listed → List Placed → Contents
recovered base ls [] = base
recovered base ls (p ∷ ps) = recovered (committed_by base ls p.is) (listed ls p.at p.is) ps

-- positions rise from one on, and stay below another
abbrev pub Rise : ℕ → List Placed → ℕ → Type 0
Rise from [] until = from ≤ until
Rise from (p ∷ ps) until = (from ≤ p.at) × Rise (p.at + 1) ps until
