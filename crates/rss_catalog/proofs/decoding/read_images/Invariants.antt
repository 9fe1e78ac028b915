-- The images so far are those that were there and those of the places before this one.
use Rattle.std.proofs.Common.{◌≡◌, ◌++◌}
use Rattle.std.specs.Prelude.{map}
use Rattle.rss_catalog.specs.Reading.{pieces, image_of}
use Rattle.rss_catalog.proofs.decoding.read_images.Given as goal

abbrev pub invariant-loop-place : goal.invariant-loop-place
invariant-loop-place l = l.images.items ≡ l.initial.images.items ++ map image_of (pieces 64 l.place l.page)
