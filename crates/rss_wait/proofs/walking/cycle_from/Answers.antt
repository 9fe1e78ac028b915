use Rattle.std.proofs.Common.{◌≢◌, ℕ, List, length, sym, ◌∙◌, ap, subst}
use Rattle.std.specs.Prelude.{Option, IfNone}
use Rattle.rss_wait.specs.Waits.{IsLoop}
use Rattle.rss_wait.proofs.Loops.{IsWalk, walk_more, walk_ends, walk_stops, walk_too_long}
use Rattle.rss_wait.proofs.walking.cycle_from.Goals as goal

pub returns-then-as_slice-waits-clause-none : goal.returns-then-as_slice-waits-clause-none
returns-then-as_slice-waits-clause-none c =
    λ cycle. walk_too_long c.args.waits.now c.args.t c.loop-member.member c.loop-member.cycle cycle c.loop-member.invariant c.loop-member-test.true
    (ap (λ (l : List ℕ). length l) (sym c.as_slice.ensures.members) ∙ c.if-as_slice-waits.true)

pub returns-in_err-member-2-clause-none : goal.returns-in_err-member-2-clause-none
returns-in_err-member-2-clause-none c =
    subst (λ (r : Option (List ℕ)). IfNone r ((cycle : List ℕ) → IsLoop c.args.waits.now c.args.t cycle → ⊥)) (sym c.from_residual-in_err-member-2.ensures)
    (λ cycle. walk_stops c.args.waits.now c.args.t c.loop-member.member c.loop-member.cycle cycle c.loop-member.invariant c.loop-member-test.true (sym c.holder_of-in-loop-member.ensures ∙ c.in_err-member-2.was))

pub loop-member-preserved : goal.loop-member-preserved
loop-member-preserved c =
    let room : length c.loop-member.cycle ≢ length c.args.waits.now = λ long. c.if-as_slice-waits.false (ap (λ (l : List ℕ). length l) c.as_slice.ensures.members ∙ long) in
    subst (λ (l : List ℕ). IsWalk c.args.waits.now c.args.t l c.in_ok-member-2.member) (sym c.push-in-loop-member.ensures)
    (walk_more c.args.waits.now c.args.t c.loop-member.member c.in_ok-member-2.member c.loop-member.cycle c.loop-member.invariant c.loop-member-test.true room (sym c.holder_of-in-loop-member.ensures ∙ c.in_ok-member-2.was))

pub returns-clause-some : goal.returns-clause-some
returns-clause-some c =
    walk_ends c.args.waits.now c.args.t c.loop-member.cycle (subst (IsWalk c.args.waits.now c.args.t c.loop-member.cycle) c.loop-member-test.false c.loop-member.invariant)
