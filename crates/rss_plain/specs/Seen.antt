-- What an auditor sees of the relation machine's state: all but what only the rules on room read.
use Rattle.std.specs.Prelude.{◌≡◌, ℕ, List, []}
use Rattle.std.specs.Ordering.{nat_cmp}
use Rattle.std.specs.FinMap as map
use Rattle.std.specs.FinMap.{FinMap}
use Rattle.rss_model.specs.Tables.{Tables, no_tables}
use Rattle.rss_model.specs.Changes.{Change}
use Rattle.rss_model.specs.Locks.{Locks}
use Rattle.rss_model.specs.Scans.{Scans}
use Rattle.rss_model.specs.Meter.{Meter}
use Rattle.rss_model.specs.Machine.{State}

-- A state without its meter, and without the size of its log.
pub record Seen : Type 0 where
  pub slots : ℕ
  pub base : Tables
  pub changes : List Change
  pub marks : FinMap nat_cmp (List ℕ)
  pub locks : Locks
  pub scans : Scans

abbrev pub seen_of : State → Seen
seen_of state = record {
  slots = state.size.slots;
  base = state.base;
  changes = state.changes;
  marks = state.marks;
  locks = state.locks;
  scans = state.scans;
}

-- The state is one that is seen so.
abbrev pub IsSeenOf : Seen → State → Type 0
IsSeenOf seen state = seen ≡ seen_of state

-- a store of so many slots where nothing is defined or open
abbrev pub seen_at_first : ℕ → Seen
seen_at_first slots = record {
  slots = slots;
  base = no_tables;
  changes = [];
  marks = map.empty;
  locks = map.empty;
  scans = map.empty;
}

-- ---- one of the states that are seen so

abbrev pub blank_meter : Meter
blank_meter = record {
  heap = 0;
  surviving = 0;
  since = 0;
  traffic = λ relation. record { entries = 0; surviving = 0; since = 0 };
  stamps = [];
  head = 0;
  end = 0;
  over = 0;
}

abbrev pub state_of : Seen → State
state_of seen = record {
  size = record { slots = seen.slots; log_pages = 0 };
  base = seen.base;
  changes = seen.changes;
  marks = seen.marks;
  locks = seen.locks;
  scans = seen.scans;
  meter = blank_meter;
}
