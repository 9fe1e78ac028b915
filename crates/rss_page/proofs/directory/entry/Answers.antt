use Rattle.std.proofs.Common.{◌∙◌, ap}
use Rattle.rss_page.specs.Slotted.{entry_from}
use Rattle.rss_page.proofs.Contents.{held_is}
use Rattle.rss_page.proofs.directory.entry.Goals as goal

pub returns-clause-holds : goal.returns-clause-holds
returns-clause-holds c = held_is c.args.page.now c.args.slot _ c.requires (c.decode.ensures ∙ ap entry_from c.entry_bytes_at.ensures)
