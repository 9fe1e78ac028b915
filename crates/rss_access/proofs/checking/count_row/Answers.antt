-- The bytes behind the relation's number are those of the tuple's values, and the pair of their key is the tuple's.
use Rattle.std.proofs.Common.{◌+◌, ◌∙◌, sym, subst, arith}
use Rattle.std.proofs.lemmas.Bool.{false≢true}
use Rattle.std.proofs.Math.Logic.{∥∥₁_map}
use Rattle.rss_base.specs.Paged.{Held}
use Rattle.rss_base.proofs.Steps.{then, then_call, done, fails, all_held}
use Rattle.rss_image.specs.Images.{HasImage, ImageTree}
use Rattle.rss_tuple.proofs.Located.{said_of}
use Rattle.rss_access.proofs.Walked.{none_there, none_spelled, one_there, lacks_there}
use Rattle.rss_access.proofs.checking.count_row.Goals as goal

pub has-requires-clause-there : goal.has-requires-clause-there
has-requires-clause-there g c = λ told_now.
    let step = c.in_ok-at.ensures.did.step in
    let told = step.passes.leaves.told.1 told_now in
    ∥∥₁_map (c.requires.there told) (λ has. subst (HasImage c.args.image.now) (sym (all_held step told)) has)

pub has-requires-clause-long : goal.has-requires-clause-long
has-requires-clause-long g c = (rw c.in-Some-key_in.is at c.key_in.ensures.some).long ∙ sym c.requires.width

pub returns-in_default-clause-counts : goal.returns-in_default-clause-counts
returns-in_default-clause-counts g c = λ told. none_there _ _ _ _ _ _ ((rw c.in_default.is at c.in_ok-at.ensures.finds) told)

pub returns-in_default-key_in-clause-counts : goal.returns-in_default-key_in-clause-counts
returns-in_default-key_in-clause-counts g c = λ told.
    let lent = c.body.ensures.are (c.in_ok-at.ensures.did.step.passes.leaves.told.0 told) in
    none_spelled _ _ _ _ _ _ (said_of ((rw c.in-Some.is at c.in_ok-at.ensures.finds) told) lent) (c.key_in.ensures.none c.in_default-key_in.is)

pub returns-in_default-key_in-clause-did : goal.returns-in_default-key_in-clause-did
returns-in_default-key_in-clause-did g c = (2, done _ c.in_ok-at.ensures.did.step)

pub returns-in_err-has-clause-did : goal.returns-in_err-has-clause-did
returns-in_err-has-clause-did g c = (2 + (c.args.image.now.levels + 1), fails _ c.from_residual-in_err-has.ensures.1 (λ key there. there) (omega arith) (omega arith) (then_call c.in_ok-at.ensures.did.step c.in_err-has.ensures.did))

pub returns-then-not-branch-clause-lacks : goal.returns-then-not-branch-clause-lacks
returns-then-not-branch-clause-lacks g c = λ is told.
    let step = c.in_ok-at.ensures.did.step in
    let now = step.passes.leaves.told.0 told in
    let finds = said_of ((rw c.in-Some.is at c.in_ok-at.ensures.finds) told) (c.body.ensures.are now) in
    lacks_there _ _ _ _ _ _ finds (rw c.in-Some-key_in.is at c.key_in.ensures.some) (λ pairs tree there.
    let still = subst (λ (h : Held). ImageTree c.args.image.now h pairs) (sym (all_held step told)) tree in
    false≢true (sym c.if-not-branch.true ∙ (c.in_ok-has.ensures.found now pairs still).1 there))

pub returns-then-not-branch-clause-did : goal.returns-then-not-branch-clause-did
returns-then-not-branch-clause-did g c = (2 + (c.args.image.now.levels + 1), done _ (then c.in_ok-at.ensures.did.step c.in_ok-has.ensures.did.step))

pub returns-clause-counts : goal.returns-clause-counts
returns-clause-counts g c = λ told.
    let step = c.in_ok-at.ensures.did.step in
    let now = step.passes.leaves.told.0 told in
    let finds = said_of ((rw c.in-Some.is at c.in_ok-at.ensures.finds) told) (c.body.ensures.are now) in
    one_there _ _ _ _ _ _ finds (rw c.in-Some-key_in.is at c.key_in.ensures.some) (λ pairs tree.
    let still = subst (λ (h : Held). ImageTree c.args.image.now h pairs) (sym (all_held step told)) tree in
    (c.in_ok-has.ensures.found now pairs still).0 c.if-not-branch.false)

pub returns-clause-did : goal.returns-clause-did
returns-clause-did g c = (2 + (c.args.image.now.levels + 1), done _ (then c.in_ok-at.ensures.did.step c.in_ok-has.ensures.did.step))
