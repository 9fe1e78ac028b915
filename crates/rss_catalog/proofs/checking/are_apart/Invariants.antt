use Rattle.std.proofs.Common.{◌≡◌, take, length}
use Rattle.rss_catalog.proofs.Tested.{named_fields}
use Rattle.rss_catalog.proofs.checking.are_apart.Given as goal

abbrev pub invariant-loop-place : goal.invariant-loop-place
invariant-loop-place l = record {
  long : length l.names ≡ 16;
  same : take l.place l.names ≡ take l.place (named_fields l.fields);
}
