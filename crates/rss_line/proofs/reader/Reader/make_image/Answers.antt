use Rattle.rss_base.specs.declared.call.Call.TheVariants.{MakeImage}
use Rattle.rss_line.proofs.Combining.{stops_rest, stops_word, then_rest, then_word}
use Rattle.rss_line.proofs.reader.Reader.make_image.Goals as goal

pub returns-in_err-name : goal.returns-in_err-name
returns-in_err-name c = stops_word _ c.in_err-name.ensures.reads c.from_residual.ensures.1

pub returns-in_err-relation : goal.returns-in_err-relation
returns-in_err-relation c = then_word _ c.in_ok-name.ensures.reads
    (stops_word _ c.in_err-relation.ensures.reads c.from_residual-in_err-relation.ensures.1)

pub returns-in_err-fields : goal.returns-in_err-fields
returns-in_err-fields c = then_word _ c.in_ok-name.ensures.reads
    (then_word _ c.in_ok-relation.ensures.reads
    (stops_rest (MakeImage c.in_ok-name.name c.in_ok-relation.relation c.args.is_unique) _ c.in_err-fields.ensures c.from_residual-in_err-fields.ensures.1))

pub returns : goal.returns
returns c = then_word _ c.in_ok-name.ensures.reads
    (then_word _ c.in_ok-relation.ensures.reads
    (then_rest (MakeImage c.in_ok-name.name c.in_ok-relation.relation c.args.is_unique) c.in_ok-fields.ensures))
