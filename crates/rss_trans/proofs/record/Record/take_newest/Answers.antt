use Rattle.std.proofs.Common.{◌≡◌, ◌<◌, List, get_or, rules, set, sym, ◌∙◌, ap, subst, arith}
use Rattle.std.specs.Prelude.{Some}
use Rattle.rss_trans.specs.declared.noted.Noted.{Noted}
use Rattle.rss_trans.specs.declared.tally.Tally.{Tally}
use Rattle.rss_trans.specs.Tallies.{AreTallies, less_by, zero_tally}
use Rattle.rss_trans.proofs.Counting.{counts_in, taken_in, read_tally}
use Rattle.rss_trans.proofs.record.Record.take_newest.Goals as goal

pub less-requires-clause-changes : goal.less-requires-clause-changes
less-requires-clause-changes c =
    let are = subst (λ (changes : List Noted). AreTallies changes c.self.inside.all c.self.inside.of_relations.items) c.in-Some.ensures.items c.self.invariant.1 in
    let within : c.from-relation.result < 256 = search rules in
    let number = c.in-Some-relation.is ∙ ap Some (sym c.from-relation.ensures) in
    let read = read_tally c.self.inside.of_relations.items c.from-relation.result c.index.result.now are.numbers within c.index.ensures in
    let most = counts_in c.pop.new.self.items c.in-Some.change c.self.inside.all c.self.inside.of_relations.items c.from-relation.result number within are in
    let same : c.index.result.now.changes ≡ (get_or c.self.inside.of_relations.items c.from-relation.result zero_tally).changes = ap (λ (t : Tally). t.changes) read in
    omega (arith, most.0)

pub less-requires-clause-deletes : goal.less-requires-clause-deletes
less-requires-clause-deletes c =
    let are = subst (λ (changes : List Noted). AreTallies changes c.self.inside.all c.self.inside.of_relations.items) c.in-Some.ensures.items c.self.invariant.1 in
    let within : c.from-relation.result < 256 = search rules in
    let number = c.in-Some-relation.is ∙ ap Some (sym c.from-relation.ensures) in
    let read = read_tally c.self.inside.of_relations.items c.from-relation.result c.index.result.now are.numbers within c.index.ensures in
    let most = counts_in c.pop.new.self.items c.in-Some.change c.self.inside.all c.self.inside.of_relations.items c.from-relation.result number within are in
    let same : c.index.result.now.deletes ≡ (get_or c.self.inside.of_relations.items c.from-relation.result zero_tally).deletes = ap (λ (t : Tally). t.deletes) read in
    omega (arith, most.1)

pub invariant_of-self : goal.invariant_of-self
invariant_of-self c =
    let are = subst (λ (changes : List Noted). AreTallies changes c.self.inside.all c.self.inside.of_relations.items) c.in-Some.ensures.items c.self.invariant.1 in
    let within : c.from-relation.result < 256 = search rules in
    let number = c.in-Some-relation.is ∙ ap Some (sym c.from-relation.ensures) in
    let read = read_tally c.self.inside.of_relations.items c.from-relation.result c.index.result.now are.numbers within c.index.ensures in
    let all = taken_in c.pop.new.self.items c.in-Some.change c.self.inside.all c.self.inside.of_relations.items c.from-relation.result number within are in
    let made : c.less.result ≡ less_by c.in-Some.change.is_delete (get_or c.self.inside.of_relations.items c.from-relation.result zero_tally) = c.less.ensures ∙ ap (less_by c.in-Some.change.is_delete) read in (
      c.self.invariant.0,
      subst (λ (total : Tally). AreTallies c.pop.new.self.items total (set c.self.inside.of_relations.items c.from-relation.result c.less.result)) (sym c.less-self-inside.ensures)
          (subst (λ (t : Tally). AreTallies c.pop.new.self.items (less_by c.in-Some.change.is_delete c.self.inside.all) (set c.self.inside.of_relations.items c.from-relation.result t)) (sym made) all),
    )
