use Rattle.std.proofs.Common.{◌∙◌, sym, subst, ℕ, List}
use Rattle.std.proofs.Math.Logic.{∥∥₁_elim}
use mathlib.Core.HLevel.{⊥_prop}
use Rattle.rss_link.specs.Blocks.{HasStanding}
use Rattle.rss_link.specs.Edits.{SaysSome}
use Rattle.rss_link.proofs.TupleSteps.{stepped, is_damaged}
use Rattle.rss_link.proofs.Lists.{some_one}
use Rattle.rss_link.proofs.Told.{live_by}
use Rattle.rss_link.proofs.link.Chains.standing.Goals as goal

pub read-requires : goal.read-requires
read-requires g c = record {
  heaps = c.requires.heaps;
  live = λ told. live_by _ (λ (some : SaysSome c.args.self.now (g.T.Tuples.view c.args.tuples.now).bodies c.args.child). some.says.body) (λ some. some.says.there) (c.requires.some told);
}

pub returns-in-None-clause-did : goal.returns-in-None-clause-did
returns-in-None-clause-did g c = is_damaged c.damaged.result c.damaged.ensures (stepped c.in_ok-read.ensures.did) (λ told. ∥∥₁_elim (c.requires.some told) ⊥_prop (λ some.
    let link = c.args.self.now in
    let same = some_one _ _ (sym some.says.there ∙ c.in_ok-read.ensures.read told) ∙ sym c.as_slice.ensures.bytes in
    c.in-None.ensures some.standing
    (subst (λ (at : ℕ). HasStanding link.unary c.as_slice.result.now at some.standing) (sym c.from.ensures)
    (subst (λ (body : List ℕ). HasStanding link.unary body link.child_at some.standing) same some.says.block))))
