use Rattle.std.proofs.Common.{◌≡◌, true, refl, subst, rules}
use Rattle.std.specs.Prelude.{Option, Some}
use Rattle.rss_c.specs.Stores.{HasCounts}
use Rattle.rss_c.specs.Handles.{held, CountsIn}
use Rattle.rss_c.specs.declared.open_store.OpenStore.{OpenStore}
use Rattle.rss_c.proofs.exports.rss_count.Goals as goal

pub returns-clause-counts : goal.returns-clause-counts
returns-clause-counts c =
    let is : Some c.in-Some.open.value ≡ held c.args.store.now = search rules in
    let counted : HasCounts c.in-Some.open.value c.counts.result = subst (λ (store : OpenStore). HasCounts store c.counts.result) c.deref.ensures c.counts.ensures in
    subst (λ (store : Option OpenStore). CountsIn c.args.counts.now c.counts.result true store) is (refl, counted)
