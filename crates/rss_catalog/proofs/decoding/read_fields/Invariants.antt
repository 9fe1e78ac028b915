use Rattle.std.proofs.Common.{◌≡◌}
use Rattle.rss_catalog.specs.Reading.{fields_of}
use Rattle.rss_catalog.proofs.decoding.read_fields.Given as goal

abbrev pub invariant-loop-place : goal.invariant-loop-place
invariant-loop-place l = l.fields ≡ fields_of l.originals l.place l.bytes
