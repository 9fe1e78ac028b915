use Rattle.std.proofs.Common.{arith}
use Rattle.rss_words.proofs.GoodWords.{count_few, count_none}
use Rattle.rss_words.proofs.good.is_count.Goals as goal

pub returns-then-count-ge1 : goal.returns-then-count-ge1
returns-then-count-ge1 c = count_few c.args.word.now c.in-Some.count c.from.result (omega arith) c.in-Some.ensures.some c.from.ensures (omega arith)

pub returns-else-count-ge1 : goal.returns-else-count-ge1
returns-else-count-ge1 c = count_none c.args.word.now c.in-Some.count (omega arith) c.in-Some.ensures.some (omega arith)
