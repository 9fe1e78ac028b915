use Rattle.std.proofs.Common.{drop}
use Rattle.rss_base.specs.TupleTypes.{kinds}
use Rattle.rss_value.proofs.Walking.{Decoding}
use Rattle.rss_value.proofs.codec.decode_into.Given as goal

abbrev pub invariant-loop-field : goal.invariant-loop-field
invariant-loop-field l = Decoding (kinds l.fields) l.fn.bytes (drop l.field-index (kinds l.fields)) l.cursor l.into
