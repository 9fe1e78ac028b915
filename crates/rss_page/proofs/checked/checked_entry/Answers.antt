use Rattle.std.proofs.Common.{◌∙◌, ap}
use Rattle.rss_page.specs.Slotted.{entry_from}
use Rattle.rss_page.proofs.Contents.{held_is}
use Rattle.rss_page.proofs.checked.checked_entry.Goals as goal

pub returns-then-is_allowed-clause-holds : goal.returns-then-is_allowed-clause-holds
returns-then-is_allowed-clause-holds c = held_is c.args.page.now c.args.slot _ c.requires (c.in_ok-found.ensures.some ∙ ap entry_from c.entry_bytes_at.ensures)
