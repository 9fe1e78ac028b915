use Rattle.std.proofs.Common.{sym, arith}
use Rattle.rss_shadow.proofs.Firsts.{at_none, none_behind, first_behind, some_behind}
use Rattle.rss_shadow.proofs.numbers.first_clear.Goals as goal

pub returns-in_err-next-clause-none : goal.returns-in_err-next-clause-none
returns-in_err-next-clause-none c =
    let set = at_none _ (sym c.if-is_some.ensures) c.clear_in_word-here.ensures.none in
    rw c.from_residual.ensures (none_behind c.args.words.now c.args.from set (rw c.in_err-next.was at c.requires.none))

pub returns-clause-some : goal.returns-clause-some
returns-clause-some c =
    let set = at_none _ (sym c.if-is_some.ensures) c.clear_in_word-here.ensures.none in
    first_behind c.args.words.now c.args.from set (rw c.in_ok-next.was at c.requires.some) _ c.clear_in_word.ensures.some

pub returns-clause-none : goal.returns-clause-none
returns-clause-none c =
    let set = at_none _ (sym c.if-is_some.ensures) c.clear_in_word-here.ensures.none in
    some_behind c.args.words.now c.args.from set (rw c.in_ok-next.was at c.requires.some) _ (omega (arith, c.type_inv.words c.in_ok-next.field-0)) c.clear_in_word.ensures.none
