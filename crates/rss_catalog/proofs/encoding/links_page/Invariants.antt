-- The bytes so far are those of the links before this one.
use Rattle.std.proofs.Common.{◌≡◌, ◌*◌, length, take}
use Rattle.std.specs.Prelude.{flat_map}
use Rattle.rss_base.specs.Listings.{link_spelled}
use Rattle.rss_catalog.proofs.encoding.links_page.Given as goal

abbrev pub invariant-loop-item : goal.invariant-loop-item
invariant-loop-item l = record {
  put : l.bytes ≡ flat_map link_spelled (take l.item-index l.items);
  long : length l.bytes ≡ 64 * l.item-index;
}
