-- The positions of the records of a log rise. What restart does on the tables of a store's checkpoint.
use Rattle.std.proofs.Common.{◌≡◌, ℕ, ◌+◌, ◌≤◌, List, [], ◌∷◌, ◌++◌, refl, sym, ap, subst, arith}
use Rattle.rss_base.specs.DiskRule.{Pages}
use Rattle.rss_base.specs.LogRecords as bytes
use Rattle.rss_base.specs.LogRecords.{ArePlaced, record_size}
use Rattle.rss_record.proofs.Parsing.{some_bytes}
use Rattle.rss_model.specs.Tables.{Contents, Tables}
use Rattle.rss_model.specs.Changes.{undone}
use Rattle.rss_model.specs.Fits.{Fits}
use Rattle.rss_model.specs.Machine.{StoreSize}
use Rattle.rss_model.specs.Records.{Placed, Rise, changes_in}
use Rattle.rss_model.specs.Restart.{losers, redo, redone, restarted, FitWith, RedoFits}
use Rattle.rss_model.specs.Recovers.{Restarts}
use Rattle.rss_model.specs.Meanings.{Logged, as_bytes, as_entries}
use Rattle.rss_stored.specs.Store.{Stored, listed_at, HasLog, RestartRecovers, StoresFit}
use Rattle.rss_model.proofs.LogTying.{restarts}

from_before : (before from until : ℕ) (ps : List Placed) → before ≤ from → Rise from ps until → Rise before ps until
from_before before from until [] le rise = omega (arith, le, rise)
from_before before from until (p ∷ ps) le rise = let first = rise.0 in (omega (arith, le, first), rise.1)

pub placed_rise : (from until : ℕ) (ls : List Logged) → ArePlaced from (as_bytes ls) until → Rise from (as_entries ls) until
placed_rise from until [] placed = omega (arith, placed)
placed_rise from until (l ∷ ls) placed =
    let at = placed.0 in
    let some = some_bytes l.told in
    (omega (arith, at), from_before (l.at + 1) (from + record_size l.told) until (as_entries ls) (omega (arith, at, some)) (placed_rise (from + record_size l.told) until ls placed.2))

pub entries_append : (older newer : List Logged) → as_entries (older ++ newer) ≡ as_entries older ++ as_entries newer
entries_append [] newer = refl
entries_append (l ∷ older) newer = ap (λ (ps : List Placed). record { at = l.at; is = l.is } ∷ ps) (entries_append older newer)

redo_last : (slots : ℕ) (tables : Tables) (contents : Contents) (ps : List Placed) → RedoFits slots tables contents ps → FitWith slots tables (redone contents ps)
redo_last slots tables contents [] fits = fits
redo_last slots tables contents (p ∷ ps) fits = redo_last slots tables (redo contents p.at p.is ps) ps fits.1

-- a record with its position, as its bytes tell it
abbrev pub told_at : Logged → bytes.Placed
told_at l = record { at = l.at; is = l.told }

pub bytes_append : (older newer : List Logged) → as_bytes (older ++ newer) ≡ as_bytes older ++ as_bytes newer
bytes_append [] newer = refl
bytes_append (l ∷ older) newer = ap (λ (ps : List bytes.Placed). told_at l ∷ ps) (bytes_append older newer)

-- ---- the log of a store

module _ {pages : Pages} {stored : Stored} (log : HasLog pages stored) where
  -- what restart does on the tables of its checkpoint
  pub restarts_log : Restarts stored.saved.contents (as_entries stored.older) (as_entries stored.newer) stored.tables.contents
  restarts_log =
      let rise : Rise stored.root.head (as_entries (stored.older ++ stored.newer)) stored.root.end = placed_rise stored.root.head stored.root.end (stored.older ++ stored.newer) log.parses.placed in
      restarts stored.root.head stored.root.end stored.saved.contents stored.tables.contents (as_entries stored.older) (as_entries stored.newer)
      (subst (λ (ps : List Placed). Rise stored.root.head ps stored.root.end) (entries_append stored.older stored.newer) rise) log.recovers

  -- the recovered tables are the last on the way of restart
  pub recovered_fit : Fits stored.root.slots stored.tables
  recovered_fit =
      let last = redo_last stored.root.slots stored.saved (undone stored.saved.contents (changes_in (losers (as_entries stored.newer) (listed_at stored)))) (as_entries stored.newer) log.way.redo in
      let same : record stored.saved { contents = restarted stored.saved.contents (listed_at stored) (as_entries stored.newer) } ≡ stored.tables =
      λ i. record { definitions = sym log.definitions i; contents = restarts_log.gives i } in
      subst (Fits stored.root.slots) same last

pub restart_of_store : RestartRecovers
restart_of_store pages stored store = (restarts_log store.log).gives

pub stores_fit : StoresFit
stores_fit pages size tables opens =
    subst (Fits size.slots) (sym opens.holds)
    (subst (λ (s : StoreSize). Fits s.slots opens.stored.tables) (sym opens.same_size) (recovered_fit opens.store.log))
