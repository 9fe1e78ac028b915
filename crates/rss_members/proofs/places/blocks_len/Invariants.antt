-- The sum so far is that over the links up to the last one looked at.
use Rattle.std.proofs.Common.{◌≡◌, ◌≤◌, ◌*◌, take}
use Rattle.rss_base.specs.Prefixes.{prefix_size}
use Rattle.rss_members.proofs.places.blocks_len.Given as goal

abbrev pub invariant-loop-place : goal.invariant-loop-place
invariant-loop-place l = record {
  sum : l.bytes ≡ prefix_size (take l.place l.catalog.listing.links) l.relation;
  small : l.bytes ≤ l.place * 18;
}
