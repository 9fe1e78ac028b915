use Rattle.std.proofs.Common.{◌∙◌, sym}
use Rattle.rss_line.proofs.Combining.{stops_word, then_word, needs_word, at_end, goes_on}
use Rattle.rss_line.proofs.Plain.{name_solid}
use Rattle.rss_line.proofs.reader.Reader.make_link.Goals as goal

pub returns-in_err-name-clause-reads : goal.returns-in_err-name-clause-reads
returns-in_err-name-clause-reads c = stops_word _ c.in_err-name.ensures.reads c.from_residual.ensures.1

pub returns-in_err-relation-clause-reads : goal.returns-in_err-relation-clause-reads
returns-in_err-relation-clause-reads c = then_word _ c.in_ok-name.ensures.reads
    (stops_word _ c.in_err-relation.ensures.reads c.from_residual-in_err-relation.ensures.1)

pub returns-then-is_at_end-clause-reads : goal.returns-then-is_at_end-clause-reads
returns-then-is_at_end-clause-reads c = then_word _ c.in_ok-name.ensures.reads
    (then_word _ c.in_ok-relation.ensures.reads
    (at_end (needs_word _ name_solid) (sym c.is_at_end.ensures ∙ c.if-is_at_end.true)))

pub returns-in_err-child-clause-reads : goal.returns-in_err-child-clause-reads
returns-in_err-child-clause-reads c = then_word _ c.in_ok-name.ensures.reads
    (then_word _ c.in_ok-relation.ensures.reads
    (goes_on _ (sym c.is_at_end.ensures ∙ c.if-is_at_end.false) (stops_word _ c.in_err-child.ensures.reads c.from_residual-in_err-child.ensures.1)))

pub returns-clause-reads : goal.returns-clause-reads
returns-clause-reads c = then_word _ c.in_ok-name.ensures.reads
    (then_word _ c.in_ok-relation.ensures.reads
    (goes_on _ (sym c.is_at_end.ensures ∙ c.if-is_at_end.false) (then_word _ c.in_ok-child.ensures.reads c.ended.ensures.reads)))
