use Rattle.std.proofs.Common.{◌∙◌}
use Rattle.rss_shadow.proofs.Owned.{mapped-answer}
use Rattle.rss_buffer.proofs.pages.BufferPages.has.Goals as goal

pub returns : goal.returns
returns g c = c.is_some.ensures ∙ mapped-answer c.args.self.now.shadow.current c.args.key c.slot_of.result c.slot_of.ensures.some c.slot_of.ensures.none
