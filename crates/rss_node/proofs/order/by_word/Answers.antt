use Rattle.rss_node.proofs.Words.{words_less, words_greater}
use Rattle.rss_node.proofs.order.by_word.Goals as goal

pub returns-then-first-second : goal.returns-then-first-second
returns-then-first-second c = words_less c.args.a.now c.args.b.now c.word_of-first.result c.word_of-second.result c.requires.first c.requires.second c.word_of-first.ensures c.word_of-second.ensures c.word_of-first.type_inv c.word_of-second.type_inv c.if-first-second.true

pub returns-then-second-first : goal.returns-then-second-first
returns-then-second-first c = words_greater c.args.a.now c.args.b.now c.word_of-first.result c.word_of-second.result c.requires.first c.requires.second c.word_of-first.ensures c.word_of-second.ensures c.word_of-first.type_inv c.word_of-second.type_inv c.if-second-first.true
