use Rattle.std.proofs.Common.{Ok, Err, sym, subst}
use Rattle.rss_model.specs.Spellings.{quote}
use Rattle.rss_line.specs.Reads.{IsOff, Skips}
use Rattle.rss_line.proofs.ValueTexts.{value_plain}
use Rattle.rss_line.proofs.Skipped.{any_quoted, any_of, any_stops}
use Rattle.rss_line.proofs.reader.Reader.any_value.Goals as goal

pub returns-then-opens_text-clause-reads : goal.returns-then-opens_text-clause-reads
returns-then-opens_text-clause-reads c = any_quoted c.any_quoted.result c.skip_spaces.ensures c.if-opens_text.ensures c.any_quoted.ensures.reads

pub returns-in_err-plain_value-clause-reads : goal.returns-in_err-plain_value-clause-reads
returns-in_err-plain_value-clause-reads c = let off = c.if-opens_text.ensures in
    any_stops c.from_residual.result (value_plain (Err _) (subst (Skips c.args.self.now) (sym off.0) c.skip_spaces.ensures) (subst (IsOff quote) (sym off.0) off.1) c.in_err-plain_value.ensures.reads) c.from_residual.ensures.1

pub returns-clause-reads : goal.returns-clause-reads
returns-clause-reads c = let off = c.if-opens_text.ensures in
    any_of (value_plain (Ok _) (subst (Skips c.args.self.now) (sym off.0) c.skip_spaces.ensures) (subst (IsOff quote) (sym off.0) off.1) c.in_ok-plain_value.ensures.reads)
