use Rattle.rss_words.proofs.Named.{format_good_words}
use Rattle.rss_words.proofs.naming.format_sizes.Goals as goal

pub returns-then-not-are_good-clause-none : goal.returns-then-not-are_good-clause-none
returns-then-not-are_good-clause-none c = λ slots log_pages are. cc (c.if-not-are_good.ensures.1 (format_good_words are))
