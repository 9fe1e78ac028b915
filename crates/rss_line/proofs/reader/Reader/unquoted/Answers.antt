use Rattle.std.proofs.Common.{◌∙◌}
use Rattle.rss_line.proofs.Unquoted.{unquoted_read}
use Rattle.rss_line.proofs.reader.Reader.unquoted.Goals as goal

pub returns : goal.returns
returns c = unquoted_read _ c.self.view_is c.count_unquoted.ensures.count c.split_at.ensures.front (c.new-behind.ensures ∙ c.split_at.ensures.back) c.in-Ok-None.ensures c.self-2.view_is c.in-Ok-None.field-0-is
