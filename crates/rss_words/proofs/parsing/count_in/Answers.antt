use Rattle.std.proofs.Common.{◌≡◌, arith}
use Rattle.std.proofs.lemmas.Option.{none-some, same_Some}
use Rattle.rss_words.proofs.parsing.count_in.Goals as goal

pub returns-in_err-count : goal.returns-in_err-count
returns-in_err-count c = λ n has few. absurd (none-some n (c.in_err-count.ensures n has))

pub returns-then-count-from : goal.returns-then-count-from
returns-then-count-from c = λ n has few. c.in_ok-count.ensures n has

pub returns-else-count-from : goal.returns-else-count-from
returns-else-count-from c = λ n has few.
    let same : c.in_ok-count.count ≡ n = same_Some c.in_ok-count.count n (c.in_ok-count.ensures n has) in
    absurd (omega (arith, same, few))
