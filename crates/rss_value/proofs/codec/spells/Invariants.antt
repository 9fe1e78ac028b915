use Rattle.std.proofs.Common.{drop}
use Rattle.rss_base.specs.TupleTypes.{kinds}
use Rattle.rss_value.proofs.Spelling.{HasRead}
use Rattle.rss_value.proofs.codec.spells.Given as goal

abbrev pub invariant-loop-field : goal.invariant-loop-field
invariant-loop-field l = HasRead (kinds l.fields) l.fn.bytes (drop l.field-index (kinds l.fields)) l.cursor
