-- The links so far are those that were there and those of the places before this one.
use Rattle.std.proofs.Common.{◌≡◌, ◌++◌}
use Rattle.std.specs.Prelude.{map}
use Rattle.rss_catalog.specs.Reading.{pieces, link_of}
use Rattle.rss_catalog.proofs.decoding.read_links.Given as goal

abbrev pub invariant-loop-place : goal.invariant-loop-place
invariant-loop-place l = l.links.items ≡ l.initial.links.items ++ map link_of (pieces 64 l.place l.page)
