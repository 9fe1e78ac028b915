use Rattle.std.proofs.Common.{◌∙◌, sym}
use Rattle.rss_line.proofs.Combining.{stops_word, then_word, needs_word, at_end, goes_on}
use Rattle.rss_line.proofs.Cuts.{plain_solid}
use Rattle.rss_line.proofs.Plain.{tid_in_plain}
use Rattle.rss_line.proofs.reader.Reader.open_link.Goals as goal

pub returns-in_err-link-clause-reads : goal.returns-in_err-link-clause-reads
returns-in_err-link-clause-reads c = stops_word _ c.in_err-link.ensures.reads c.from_residual.ensures.1

pub returns-then-is_at_end-clause-reads : goal.returns-then-is_at_end-clause-reads
returns-then-is_at_end-clause-reads c = then_word _ c.in_ok-link.ensures.reads
    (at_end (needs_word _ (λ word tid is. plain_solid word (tid_in_plain c.args.names.now.variables word tid is))) (sym c.is_at_end.ensures ∙ c.if-is_at_end.true))

pub returns-in_err-parent-clause-reads : goal.returns-in_err-parent-clause-reads
returns-in_err-parent-clause-reads c = then_word _ c.in_ok-link.ensures.reads
    (goes_on _ (sym c.is_at_end.ensures ∙ c.if-is_at_end.false) (stops_word _ c.in_err-parent.ensures.reads c.from_residual-in_err-parent.ensures.1))

pub returns-clause-reads : goal.returns-clause-reads
returns-clause-reads c = then_word _ c.in_ok-link.ensures.reads
    (goes_on _ (sym c.is_at_end.ensures ∙ c.if-is_at_end.false) (then_word _ c.in_ok-parent.ensures.reads c.ended.ensures.reads))
