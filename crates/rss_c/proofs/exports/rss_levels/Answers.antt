use Rattle.std.proofs.Common.{◌≡◌, subst, rules}
use Rattle.std.specs.Prelude.{Option, Some}
use Rattle.rss_c.specs.Stores.{IsLevelsOf}
use Rattle.rss_c.specs.Handles.{held, LevelsIn}
use Rattle.rss_c.specs.declared.open_store.OpenStore.{OpenStore}
use Rattle.rss_c.proofs.exports.rss_levels.Goals as goal

pub returns-clause-levels : goal.returns-clause-levels
returns-clause-levels c =
    let is : Some c.in-Some.open.value ≡ held c.args.store.now = search rules in
    let found : IsLevelsOf c.in-Some.open.value c.args.name.now c.levels-levels.result = subst (λ (store : OpenStore). IsLevelsOf store c.args.name.now c.levels-levels.result) c.deref.ensures c.levels-levels.ensures in
    subst (λ (store : Option OpenStore). LevelsIn c.args.name.now c.levels-levels.result store) is found
