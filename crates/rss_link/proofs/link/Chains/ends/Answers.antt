use Rattle.std.proofs.Math.Logic.{∥∥₁_elim}
use mathlib.Core.HLevel.{⊥_prop}
use Rattle.std.proofs.Common.{rules, Option, Some, ◌∙◌, sym, subst, ℕ, List}
use Rattle.rss_base.specs.declared.tid.Tid.{Tid}
use Rattle.rss_link.specs.Blocks.{HasEnds}
use Rattle.rss_link.specs.Calls.{seen}
use Rattle.rss_link.specs.Edits.{SaysSomeEnds}
use Rattle.rss_link.proofs.TupleSteps.{stepped, is_damaged}
use Rattle.rss_link.proofs.Lists.{some_one}
use Rattle.rss_link.proofs.Told.{live_by}
use Rattle.rss_link.proofs.link.Chains.ends.Goals as goal

pub read-requires : goal.read-requires
read-requires g c = record {
  heaps = c.requires.heaps;
  live = λ told. live_by _ (λ (some : SaysSomeEnds c.args.self.now (seen c.args.kept.now (g.T.Tuples.view c.args.tuples.now)) (Some c.in-Some.parent)). some.says.body) (λ some. some.says.there)
      (subst (λ (parent : Option Tid). ∥ SaysSomeEnds c.args.self.now (seen c.args.kept.now (g.T.Tuples.view c.args.tuples.now)) parent ∥₁) c.in-Some.is (c.requires.some told));
}

pub returns-in-None-clause-did : goal.returns-in-None-clause-did
returns-in-None-clause-did g c = is_damaged c.damaged.result c.damaged.ensures (stepped c.in_ok-read.ensures.did) (λ told. ∥∥₁_elim (c.requires.some told) ⊥_prop (λ says.
    let link = c.args.self.now in
    let some = subst (λ (parent : Option Tid). SaysSomeEnds link (seen c.args.kept.now (g.T.Tuples.view c.args.tuples.now)) parent) c.in-Some.is says in
    let same = some_one _ _ (sym some.says.there ∙ c.in_ok-read.ensures.read told) ∙ sym c.as_slice.ensures.bytes in
    c.in-None.ensures (record { first = some.ends.first; last = some.ends.last })
    (subst (λ (at : ℕ). HasEnds c.as_slice.result.now at some.ends) (sym c.from.ensures)
    (subst (λ (body : List ℕ). HasEnds body link.parent_at some.ends) same some.says.block))))

pub returns-in-Some-ends_at-clause-says : goal.returns-in-Some-ends_at-clause-says
returns-in-Some-ends_at-clause-says g c = λ told. search rules
