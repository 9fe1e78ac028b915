use Rattle.std.proofs.Common.{refl}
use Rattle.rss_top.proofs.Commands.{size_fits}
use Rattle.rss_top.proofs.unread.unread.Goals as goal

pub returns-then-are_sizes : goal.returns-then-are_sizes
returns-then-are_sizes c = size_fits c.in-Some.ensures.sizes (c.if-are_sizes.ensures.0 refl)

pub returns-in-None : goal.returns-in-None
returns-in-None c = λ slots log_pages are. absurd (c.in-None.ensures.none slots log_pages are)
