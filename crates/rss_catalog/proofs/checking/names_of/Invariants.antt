-- The names up to this place are those of the entries.
use Rattle.std.proofs.Common.{◌≡◌, take, length}
use Rattle.std.specs.Prelude.{map, option_map}
use Rattle.rss_catalog.proofs.checking.names_of.Given as goal

abbrev pub invariant-loop-place : goal.invariant-loop-place
invariant-loop-place g l = record {
  long : length l.names ≡ length l.entries;
  same : take l.place l.names ≡ take l.place (map (option_map g.E.Entry.named) l.entries);
}
