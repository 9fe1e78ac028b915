-- Those before this place are mended, and the others are as they were.
use Rattle.std.proofs.Common.{◌≡◌, ℕ, ◌≤◌, take, get_or, length, None}
use Rattle.std.specs.Prelude.{map, option_map}
use Rattle.rss_catalog.proofs.entries.mend.Given as goal

abbrev pub invariant-loop-place : goal.invariant-loop-place
invariant-loop-place g l = record {
  long : length l.entries ≡ length l.initial.entries;
  same : take l.place l.entries ≡ take l.place (map (option_map g.E.Placed.mended) l.initial.entries);
  rest : (k : ℕ) → l.place ≤ k → get_or l.entries k None ≡ get_or l.initial.entries k None;
}
