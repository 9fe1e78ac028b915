use Rattle.std.proofs.Common.{◌≡◌, ◌≢◌, rules, tests}
use Rattle.std.proofs.lemmas.Iterator.{cases_from_any, YieldsList-from_slice}
use Rattle.rss_base.specs.declared.name.Name.{Name}
use Rattle.rss_session.proofs.KeyFields.{name_of_cases}
use Rattle.rss_session.proofs.planning.stands_in.Goals as goal

pub returns : goal.returns
returns c =
    let name = c.args.name.now in
    name_of_cases name c.args.names.now c.any.result
    (cases_from_any _ _ _ (λ (other : Name). other ≡ name) (λ (other : Name). other ≢ name) c.any.ensures.ran (YieldsList-from_slice c.args.names.now cc) (λ x q k. search (rules, tests)) (λ x q k. search (rules, tests)))
