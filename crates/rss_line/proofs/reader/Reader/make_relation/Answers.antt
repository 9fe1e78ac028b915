use Rattle.rss_base.specs.declared.call.Call.TheVariants.{MakeRelation}
use Rattle.rss_line.proofs.Combining.{stops_rest, stops_word, then_rest, then_word}
use Rattle.rss_line.proofs.reader.Reader.make_relation.Goals as goal

pub returns-in_err-name : goal.returns-in_err-name
returns-in_err-name c = stops_word _ c.in_err-name.ensures.reads c.from_residual.ensures.1

pub returns-in_err-segment : goal.returns-in_err-segment
returns-in_err-segment c = then_word _ c.in_ok-name.ensures.reads
    (stops_word _ c.in_err-segment.ensures.reads c.from_residual-in_err-segment.ensures.1)

pub returns-in_err-fields : goal.returns-in_err-fields
returns-in_err-fields c = then_word _ c.in_ok-name.ensures.reads
    (then_word _ c.in_ok-segment.ensures.reads
    (stops_rest (MakeRelation c.in_ok-name.name c.in_ok-segment.segment) _ c.in_err-fields.ensures c.from_residual-in_err-fields.ensures.1))

pub returns : goal.returns
returns c = then_word _ c.in_ok-name.ensures.reads
    (then_word _ c.in_ok-segment.ensures.reads
    (then_rest (MakeRelation c.in_ok-name.name c.in_ok-segment.segment) c.in_ok-fields.ensures))
