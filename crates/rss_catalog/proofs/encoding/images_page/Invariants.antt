-- The bytes so far are those of the images before this one.
use Rattle.std.proofs.Common.{◌≡◌, ◌*◌, length, take}
use Rattle.std.specs.Prelude.{flat_map}
use Rattle.rss_base.specs.Listings.{image_spelled}
use Rattle.rss_catalog.proofs.encoding.images_page.Given as goal

abbrev pub invariant-loop-item : goal.invariant-loop-item
invariant-loop-item l = record {
  put : l.bytes ≡ flat_map image_spelled (take l.item-index l.items);
  long : length l.bytes ≡ 64 * l.item-index;
}
