use Rattle.std.proofs.Common.{◌≡◌, ◌+◌, ◌*◌, ◌++◌, length, take}
use Rattle.std.specs.Prelude.{flat_map}
use Rattle.rss_base.specs.Listings.{field_spelled}
use Rattle.rss_catalog.proofs.encoding.put_fields.Given as goal

abbrev pub invariant-loop-field : goal.invariant-loop-field
invariant-loop-field l = record {
  put : l.bytes ≡ l.initial.bytes ++ flat_map field_spelled (take l.field-index l.fields);
  long : length l.bytes ≡ length l.initial.bytes + 18 * l.field-index;
}
