use Rattle.rss_base.proofs.Originals.{AreOriginal}
use Rattle.rss_base.proofs.field.Fields.make_original.Given as goal

abbrev pub invariant-loop-field : goal.invariant-loop-field
invariant-loop-field l = AreOriginal l.initial.field-items l.field-items l.field-index
