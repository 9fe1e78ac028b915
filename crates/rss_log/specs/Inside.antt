-- The log by its fields.
use Rattle.rss_base.specs.Sizes.{piece_bytes}
use Rattle.std.specs.Prelude.{◌≡◌, ℕ, ◌+◌, ◌-◌, ◌*◌, List, length}
use Rattle.rss_log.specs.Rings.{ring_bytes}
use Rattle.rss_log.specs.Logs.{LogView, IsRing, piece_start}
use Rattle.rss_log.specs.declared.log.Log.TheInside.{Inside}

-- the log of this ring
abbrev pub view_of : ℕ → ℕ → ℕ → List ℕ → LogView
view_of pages head end ring = record {
  pages = pages;
  head = head;
  end = end;
  kept = ring_bytes ring (piece_start head) (end - piece_start head);
}

abbrev pub log_view : Inside → LogView
log_view log = view_of log.pages log.head log.end log.ring.items

-- the ring has room for the pieces of all log pages and the root's tail
pub record IsInside (log : Inside) : Type 0 where
  pub ring : IsRing log.pages log.head log.end
  pub size : length log.ring.items ≡ (log.pages + 1) * piece_bytes
