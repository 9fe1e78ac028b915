use Rattle.std.proofs.Common.{◌∙◌, sym}
use Rattle.rss_line.proofs.Combining.{stops_word, then_word, needs_word, at_end, goes_on}
use Rattle.rss_line.proofs.Cuts.{plain_solid}
use Rattle.rss_line.proofs.Skipped.{any_tid_plain}
use Rattle.rss_line.proofs.reader.Reader.any_link_scan.Goals as goal

pub returns-in_err-_link-clause-reads : goal.returns-in_err-_link-clause-reads
returns-in_err-_link-clause-reads c = stops_word _ c.in_err-_link.ensures.reads c.from_residual.ensures.1

pub returns-then-is_at_end-clause-reads : goal.returns-then-is_at_end-clause-reads
returns-then-is_at_end-clause-reads c = then_word _ c.in_ok-_link.ensures.reads
    (at_end (needs_word _ (λ word done is. plain_solid word (any_tid_plain word done is))) (sym c.is_at_end.ensures ∙ c.if-is_at_end.true))

pub returns-in_err-any_tid-clause-reads : goal.returns-in_err-any_tid-clause-reads
returns-in_err-any_tid-clause-reads c = then_word _ c.in_ok-_link.ensures.reads
    (goes_on _ (sym c.is_at_end.ensures ∙ c.if-is_at_end.false) (stops_word _ c.in_err-any_tid.ensures.reads c.from_residual-in_err-any_tid.ensures.1))

pub returns-clause-reads : goal.returns-clause-reads
returns-clause-reads c = then_word _ c.in_ok-_link.ensures.reads
    (goes_on _ (sym c.is_at_end.ensures ∙ c.if-is_at_end.false) (then_word _ c.in_ok-any_tid.ensures.reads c.ended.ensures.reads))
