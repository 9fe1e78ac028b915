use Rattle.std.proofs.Common.{◌∙◌, sym, rules, arith}
use Rattle.rss_session.proofs.Admitted.{too_many, may_begin}
use Rattle.rss_session.proofs.session.Session.test_begin.Goals as goal

pub returns-then-count-clause-tests : goal.returns-then-count-clause-tests
returns-then-count-clause-tests g c =
    (λ told state shows. too_many shows c.args.transaction (sym c.is_open.ensures ∙ c.if-is_open.false) (omega (arith, c.count.ensures.is, c.if-count.true)), search rules)

pub returns-clause-tests : goal.returns-clause-tests
returns-clause-tests g c = λ told state shows. may_begin shows c.args.transaction (sym c.is_open.ensures ∙ c.if-is_open.false) (omega (arith, c.count.ensures.is, c.if-count.false))
