-- The fields so far that were added are counted.
use Rattle.std.proofs.Common.{◌≡◌, ◌≤◌, take}
use Rattle.rss_base.specs.Listings.{added_count}
use Rattle.rss_catalog.proofs.encoding.added_count.Given as goal

abbrev pub invariant-loop-field : goal.invariant-loop-field
invariant-loop-field l = record {
  counted : l.added ≡ added_count (take l.field-index l.fields);
  few : l.added ≤ l.field-index;
}
