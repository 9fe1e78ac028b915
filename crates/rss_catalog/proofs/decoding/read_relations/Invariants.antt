use Rattle.std.proofs.Common.{◌≡◌, ◌++◌}
use Rattle.std.specs.Prelude.{map}
use Rattle.rss_catalog.specs.Reading.{pieces, relation_of}
use Rattle.rss_catalog.proofs.decoding.read_relations.Given as goal

abbrev pub invariant-loop-place : goal.invariant-loop-place
invariant-loop-place l = l.relations.items ≡ l.initial.relations.items ++ map relation_of (pieces 512 l.place l.page)
