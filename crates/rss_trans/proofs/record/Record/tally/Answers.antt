use Rattle.std.proofs.Common.{◌<◌, rules, sym, ◌∙◌, ap, arith}
use Rattle.std.specs.Prelude.{Some}
use Rattle.rss_trans.specs.Transactions.{kind, change_count, delete_count}
use Rattle.rss_trans.specs.Tallies.{Kept}
use Rattle.rss_trans.proofs.Counting.{read_tally, tally_few, tells_in, tells_all}
use Rattle.rss_trans.proofs.record.Record.tally.Goals as goal

pub returns-in-Some-clause-changes : goal.returns-in-Some-clause-changes
returns-in-Some-clause-changes c =
    let are = c.self.invariant.1 in
    let within : c.from.result < 256 = search rules in
    let read = read_tally c.self.inside.of_relations.items c.from.result c.index.result.now are.numbers within c.index.ensures in
    let tells = tells_in c.self.inside.changes.items c.self.inside.all c.self.inside.of_relations.items are c.from.result within c.index.result.now read c.args.relation (c.in-Some.is ∙ ap Some (sym c.from.ensures)) in
    tells.changes_are ∙ ap (λ (k : Kept). change_count (kind c.args.relation) k.transaction) c.self.view_is

pub returns-in-Some-clause-deletes : goal.returns-in-Some-clause-deletes
returns-in-Some-clause-deletes c =
    let are = c.self.invariant.1 in
    let within : c.from.result < 256 = search rules in
    let read = read_tally c.self.inside.of_relations.items c.from.result c.index.result.now are.numbers within c.index.ensures in
    let tells = tells_in c.self.inside.changes.items c.self.inside.all c.self.inside.of_relations.items are c.from.result within c.index.result.now read c.args.relation (c.in-Some.is ∙ ap Some (sym c.from.ensures)) in
    tells.deletes_are ∙ ap (λ (k : Kept). delete_count (kind c.args.relation) k.transaction) c.self.view_is

pub returns-in-Some-clause-few : goal.returns-in-Some-clause-few
returns-in-Some-clause-few c =
    let are = c.self.invariant.1 in
    let within : c.from.result < 256 = search rules in
    let read = read_tally c.self.inside.of_relations.items c.from.result c.index.result.now are.numbers within c.index.ensures in
    let tells = tells_in c.self.inside.changes.items c.self.inside.all c.self.inside.of_relations.items are c.from.result within c.index.result.now read c.args.relation (c.in-Some.is ∙ ap Some (sym c.from.ensures)) in
    let few = are.few in
    omega (arith, (tally_few (kind c.args.relation) c.self.inside.changes.items c.index.result.now tells).0)

pub returns-in-Some-clause-fewer : goal.returns-in-Some-clause-fewer
returns-in-Some-clause-fewer c =
    let are = c.self.invariant.1 in
    let within : c.from.result < 256 = search rules in
    let read = read_tally c.self.inside.of_relations.items c.from.result c.index.result.now are.numbers within c.index.ensures in
    let tells = tells_in c.self.inside.changes.items c.self.inside.all c.self.inside.of_relations.items are c.from.result within c.index.result.now read c.args.relation (c.in-Some.is ∙ ap Some (sym c.from.ensures)) in
    let few = are.few in
    omega (arith, (tally_few (kind c.args.relation) c.self.inside.changes.items c.index.result.now tells).1)

pub returns-in-None-clause-changes : goal.returns-in-None-clause-changes
returns-in-None-clause-changes c =
    let are = c.self.invariant.1 in
    let tells = tells_all c.self.inside.changes.items c.self.inside.all c.self.inside.of_relations.items are c.args.relation c.in-None.is in
    tells.changes_are ∙ ap (λ (k : Kept). change_count (kind c.args.relation) k.transaction) c.self.view_is

pub returns-in-None-clause-deletes : goal.returns-in-None-clause-deletes
returns-in-None-clause-deletes c =
    let are = c.self.invariant.1 in
    let tells = tells_all c.self.inside.changes.items c.self.inside.all c.self.inside.of_relations.items are c.args.relation c.in-None.is in
    tells.deletes_are ∙ ap (λ (k : Kept). delete_count (kind c.args.relation) k.transaction) c.self.view_is

pub returns-in-None-clause-few : goal.returns-in-None-clause-few
returns-in-None-clause-few c =
    let are = c.self.invariant.1 in
    let tells = tells_all c.self.inside.changes.items c.self.inside.all c.self.inside.of_relations.items are c.args.relation c.in-None.is in
    let few = are.few in
    omega (arith, (tally_few (kind c.args.relation) c.self.inside.changes.items c.self.inside.all tells).0)

pub returns-in-None-clause-fewer : goal.returns-in-None-clause-fewer
returns-in-None-clause-fewer c =
    let are = c.self.invariant.1 in
    let tells = tells_all c.self.inside.changes.items c.self.inside.all c.self.inside.of_relations.items are c.args.relation c.in-None.is in
    let few = are.few in
    omega (arith, (tally_few (kind c.args.relation) c.self.inside.changes.items c.self.inside.all tells).1)
