use Rattle.std.proofs.Common.{◌≡◌}
use Rattle.std.specs.Prelude.{map}
use Rattle.rss_catalog.specs.Reading.{pieces, segment_of}
use Rattle.rss_catalog.proofs.decoding.read_segments.Given as goal

abbrev pub invariant-loop-place : goal.invariant-loop-place
invariant-loop-place l = l.segments.items ≡ map segment_of (pieces 16 l.place l.page)
