use Rattle.std.proofs.Common.{◌≡◌, ◌+◌, drop}
use Rattle.rss_plain.specs.Maps.{place_of}
use Rattle.rss_plain.proofs.sorted.place_of.Given as goal

abbrev pub invariant-loop-place : goal.invariant-loop-place
invariant-loop-place g l =
    l.place + place_of g.K.Keyed.order l.key (drop l.place l.list) ≡ place_of g.K.Keyed.order l.key l.list
