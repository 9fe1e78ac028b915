use Rattle.std.proofs.Common.{refl, Some}
use Rattle.rss_line.proofs.Combining.{none_some, no_word, not_word, is_first, is_second, reads_found, then_word, stops_fixed, then_fixed}
use Rattle.rss_line.specs.Owners.{arguments, owned}
use Rattle.rss_line.proofs.Choosing.{not_row, no_first, with_first}
use Rattle.rss_line.proofs.Plain.{variable_plain, variable_low}
use Rattle.rss_line.proofs.Skipped.{owned_written, needs_owner}
use Rattle.rss_line.proofs.reader.Reader.owner.Goals as goal

pub returns-in_err-first-clause-reads : goal.returns-in_err-first-clause-reads
returns-in_err-first-clause-reads c = no_word needs_owner _ c.in_err-first.ensures.reads c.from_residual.ensures.1

pub returns-in_err-fixed-clause-reads : goal.returns-in_err-fixed-clause-reads
returns-in_err-fixed-clause-reads c = is_second _ (λ words x has form. not_row (owned arguments) owned_written c.in_ok-first.ensures.reads (variable_low _ c.in-Some._variable c.in-Some.ensures.some) words x has form)
    (then_word _ (reads_found variable_plain (Some c.in-Some._variable) c.in-Some._variable refl c.in_ok-first.ensures.reads c.in-Some.ensures)
    (stops_fixed _ c.in_err-fixed.ensures.reads c.from_residual-in_err-fixed.ensures.1))

pub returns-in_err-verb-clause-reads : goal.returns-in_err-verb-clause-reads
returns-in_err-verb-clause-reads c = is_second _ (λ words x has form. not_row (owned arguments) owned_written c.in_ok-first.ensures.reads (variable_low _ c.in-Some._variable c.in-Some.ensures.some) words x has form)
    (then_word _ (reads_found variable_plain (Some c.in-Some._variable) c.in-Some._variable refl c.in_ok-first.ensures.reads c.in-Some.ensures)
    (then_fixed _ c.in_ok-fixed.ensures.reads
    (no_first (owned arguments) owned_written _ c.in_err-verb.ensures.reads c.from_residual-in_err-verb.ensures.1)))

pub returns-in-Some-clause-reads : goal.returns-in-Some-clause-reads
returns-in-Some-clause-reads c = is_second _ (λ words x has form. not_row (owned arguments) owned_written c.in_ok-first.ensures.reads (variable_low _ c.in-Some._variable c.in-Some.ensures.some) words x has form)
    (then_word _ (reads_found variable_plain (Some c.in-Some._variable) c.in-Some._variable refl c.in_ok-first.ensures.reads c.in-Some.ensures)
    (then_fixed _ c.in_ok-fixed.ensures.reads
    (with_first (owned arguments) owned_written _ c.in_ok-verb.ensures.reads c.owner_behind.ensures.reads)))

pub returns-clause-reads : goal.returns-clause-reads
returns-clause-reads c = is_first _ (not_word _ variable_plain c.in_ok-first.ensures.reads (λ y is. none_some (c.in_default.ensures.all y is)))
    (with_first (owned arguments) owned_written _ c.in_ok-first.ensures.reads c.owner_behind-2.ensures.reads)
