use Rattle.std.proofs.Common.{sym, subst}
use Rattle.rss_model.specs.Spellings.{quote}
use Rattle.rss_line.specs.Reads.{IsOff, Skips}
use Rattle.rss_line.proofs.ValueTexts.{value_quoted, value_plain}
use Rattle.rss_line.proofs.reader.Reader.value.Goals as goal

pub returns-then-opens_text : goal.returns-then-opens_text
returns-then-opens_text c = value_quoted c.quoted.result c.skip_spaces.ensures c.if-opens_text.ensures c.quoted.ensures

pub returns-else-opens_text : goal.returns-else-opens_text
returns-else-opens_text c = let off = c.if-opens_text.ensures in
    value_plain c.plain_value.result (subst (Skips c.args.self.now) (sym off.0) c.skip_spaces.ensures) (subst (IsOff quote) (sym off.0) off.1) c.plain_value.ensures.reads
