use Rattle.std.proofs.Common.{◌∙◌, ℕ, List, sym, ap, subst, arith}
use Rattle.std.specs.Prelude.{Option, Err, IsSome}
use Rattle.std.proofs.lemmas.Bool.{false≢true}
use Rattle.rss_base.specs.Paged.{Held}
use Rattle.rss_base.proofs.Steps.{all_held, then, then_call, done, fails}
use Rattle.rss_tuple.specs.Directory.{bodies_of}
use Rattle.rss_tuple.proofs.Located.{stands_so}
use Rattle.rss_tuple.proofs.Seen.{heaps_after, tested}
use Rattle.rss_tuple.proofs.walking.next_body.Goals as goal

pub led-requires-clause-heaps : goal.led-requires-clause-heaps
led-requires-clause-heaps g c = heaps_after c.in_ok-tid.ensures.did.step c.requires.heaps

pub returns-in_err-at-clause-did : goal.returns-in_err-at-clause-did
returns-in_err-at-clause-did g c = fails _ c.from_residual-in_err-at.ensures.1 (λ key none. none) (omega arith) (omega arith) (then_call c.in_ok-tid.ensures.did.step c.in_err-at.ensures.did)

pub returns-in-Some-2-clause-next : goal.returns-in-Some-2-clause-next
returns-in-Some-2-clause-next g c = λ told.
    let step = c.in_ok-tid.ensures.did.step in
    let same = ap (λ (h : Held). bodies_of h c.args.segment c.in-Some.tid) (all_held step told) in
    record {
      least = (rw c.in-Some.is at c.in_ok-tid.ensures.next) told;
      stands = stands_so (λ bytes is. sym same ∙ is) ((rw c.in-Some-2.is at c.in_ok-at.ensures.found) (step.passes.leaves.told.0 told));
    }

pub returns-in-Some-2-clause-did : goal.returns-in-Some-2-clause-did
returns-in-Some-2-clause-did g c = done _ (then c.in_ok-tid.ensures.did.step c.in_ok-at.ensures.did.step)

pub returns-in-None-clause-did : goal.returns-in-None-clause-did
returns-in-None-clause-did g c =
    let step = c.in_ok-tid.ensures.did.step in
    tested _ (Err c.damaged.result) c.damaged.ensures (λ told.
    let same = ap (λ (h : Held). bodies_of h c.args.segment c.in-Some.tid) (all_held step told) in
    let none = (rw c.in-None.is at c.in_ok-at.ensures.found) (step.passes.leaves.told.0 told) in
    let least = (rw c.in-Some.is at c.in_ok-tid.ensures.next) told in
    false≢true (subst (λ (body : Option (List ℕ)). IsSome body) (sym same ∙ none) least.has.live)) (then step c.in_ok-at.ensures.did.step)
