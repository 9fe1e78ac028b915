use Rattle.std.proofs.Common.{◌≡◌, ◌+◌, ◌<◌, ◌≤◌, List, ◌++◌, ◌∷◌, [], get_or, length, rules, set, sym, ◌∙◌, ap, subst, arith}
use Rattle.std.specs.Prelude.{Some}
use Rattle.rss_trans.specs.declared.noted.Noted.{Noted}
use Rattle.rss_trans.specs.declared.tally.Tally.{Tally}
use Rattle.rss_trans.specs.Transactions.{of_relation, changes_most}
use Rattle.rss_trans.specs.Tallies.{AreTallies, Kept, more_by, zero_tally}
use Rattle.rss_trans.proofs.Counting.{noted_in, read_tally, tally_few}
use Rattle.rss_trans.proofs.record.Record.note.Goals as goal

pub more-requires-clause-changes : goal.more-requires-clause-changes
more-requires-clause-changes c =
    let are = c.self.invariant.1 in
    let within : c.from-relation.result < 256 = search rules in
    let few = are.few in
    let read = read_tally c.self.inside.of_relations.items c.from-relation.result c.index.result.now are.numbers within c.index.ensures in
    let most = tally_few (of_relation c.from-relation.result) c.self.inside.changes.items (get_or c.self.inside.of_relations.items c.from-relation.result zero_tally) (are.each c.from-relation.result within) in
    let same : c.index.result.now.changes ≡ (get_or c.self.inside.of_relations.items c.from-relation.result zero_tally).changes = ap (λ (t : Tally). t.changes) read in
    omega (arith, most.0)

pub more-requires-clause-deletes : goal.more-requires-clause-deletes
more-requires-clause-deletes c =
    let are = c.self.invariant.1 in
    let within : c.from-relation.result < 256 = search rules in
    let few = are.few in
    let read = read_tally c.self.inside.of_relations.items c.from-relation.result c.index.result.now are.numbers within c.index.ensures in
    let most = tally_few (of_relation c.from-relation.result) c.self.inside.changes.items (get_or c.self.inside.of_relations.items c.from-relation.result zero_tally) (are.each c.from-relation.result within) in
    let same : c.index.result.now.deletes ≡ (get_or c.self.inside.of_relations.items c.from-relation.result zero_tally).deletes = ap (λ (t : Tally). t.deletes) read in
    omega (arith, most.1)

pub invariant_of-self : goal.invariant_of-self
invariant_of-self c =
    let are = c.self.invariant.1 in
    let within : c.from-relation.result < 256 = search rules in
    let number : c.args.change.relation ≡ Some c.from-relation.result = c.in-Some.is ∙ ap Some (sym c.from-relation.ensures) in
    let read = read_tally c.self.inside.of_relations.items c.from-relation.result c.index.result.now are.numbers within c.index.ensures in
    let room : length c.self.inside.changes.items + 1 ≤ changes_most = let room = ap (λ (k : Kept). k.room) c.self.view_is in let count = c.self.inside.changes.ok in omega (arith, c.requires) in
    let all = noted_in c.self.inside.changes.items c.args.change c.self.inside.all c.self.inside.of_relations.items c.from-relation.result number within room are in
    let made : c.more.result ≡ more_by c.args.change.is_delete (get_or c.self.inside.of_relations.items c.from-relation.result zero_tally) = c.more.ensures ∙ ap (more_by c.args.change.is_delete) read in (
      c.self.invariant.0,
      subst (λ (changes : List Noted). AreTallies changes c.more-self-inside.result (set c.self.inside.of_relations.items c.from-relation.result c.more.result)) (sym c.push_reserved.ensures.items)
          (subst (λ (total : Tally). AreTallies (c.self.inside.changes.items ++ c.args.change ∷ []) total (set c.self.inside.of_relations.items c.from-relation.result c.more.result)) (sym c.more-self-inside.ensures)
          (subst (λ (t : Tally). AreTallies (c.self.inside.changes.items ++ c.args.change ∷ []) (more_by c.args.change.is_delete c.self.inside.all) (set c.self.inside.of_relations.items c.from-relation.result t)) (sym made) all)),
    )
