-- The blocks of the links up to the last one looked at stand behind the bytes that were there.
use Rattle.std.proofs.Common.{◌≡◌, ◌++◌, take}
use Rattle.std.specs.Prelude.{flat_map}
use Rattle.rss_members.specs.Members.{blank_listed}
use Rattle.rss_members.proofs.places.push_blank_prefix.Given as goal

abbrev pub invariant-loop-place : goal.invariant-loop-place
invariant-loop-place l = l.front ≡ l.initial.front ++ flat_map (blank_listed l.relation) (take l.place l.catalog.listing.links)
