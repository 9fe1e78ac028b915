use Rattle.std.proofs.Common.{◌∙◌, Some, None, refl, sym, subst}
use Rattle.rss_line.specs.Reads.{IsPlain}
use Rattle.rss_line.proofs.Numbers.{equal, differ}
use Rattle.rss_line.proofs.Combining.{word_missing, word_found, reads_found}
use Rattle.rss_line.proofs.reader.Reader.fixed.Goals as goal

pub returns-in_err-word-clause-reads : goal.returns-in_err-word-clause-reads
returns-in_err-word-clause-reads c = word_missing (λ word done is. subst IsPlain (sym is) c.requires) c.from_residual.result c.in_err-word.ensures.reads c.from_residual.ensures.1

pub returns-then-eq-clause-reads : goal.returns-then-eq-clause-reads
returns-then-eq-clause-reads c = reads_found (λ word done is. subst IsPlain (sym is) c.requires) (Some tt) tt refl c.in_ok-word.ensures.reads (record {
  some = equal c.in_ok-word.field-0.now c.args.expected.now (sym c.eq.ensures ∙ c.if-eq.true);
  all = λ x has. refl;
})

pub returns-else-eq-clause-reads : goal.returns-else-eq-clause-reads
returns-else-eq-clause-reads c = word_found (λ word done is. subst IsPlain (sym is) c.requires) None refl c.in_ok-word.ensures.reads (record {
  some = tt;
  all = λ x has. absurd (differ c.in_ok-word.field-0.now c.args.expected.now (sym c.eq.ensures ∙ c.if-eq.false) has);
})
