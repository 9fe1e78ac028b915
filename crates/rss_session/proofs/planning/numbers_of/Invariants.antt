use Rattle.std.proofs.Common.{◌≡◌, take}
use Rattle.rss_base.specs.Listings.{padded}
use Rattle.rss_base.specs.TupleTypes.{most_fields}
use Rattle.rss_model.specs.Images.{numbers_of}
use Rattle.rss_session.proofs.planning.numbers_of.Given as goal

abbrev pub invariant-loop-place : goal.invariant-loop-place
invariant-loop-place l = l.numbers ≡ padded most_fields (numbers_of l.fields (take l.place l.names))
