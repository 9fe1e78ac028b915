use Rattle.std.proofs.Common.{◌≡◌, ◌≢◌, ℕ, ◌<◌, List, [], length, get_or, sym, ◌∙◌, ap, subst}
use Rattle.std.specs.Prelude.{◌==◌, Some, slice_set}
use Rattle.rss_wait.specs.declared.held.Held.{Held}
use Rattle.rss_wait.specs.Held.{first_of, popped}
use Rattle.rss_wait.specs.Queues.{held_in, owner_of, AreQueues}
use Rattle.rss_wait.proofs.Changed.{first_got, none_held, got_put, rest_left, none_rest}
use Rattle.rss_wait.proofs.held_lines.HeldLines.pop.Goals as goal

pub returns-in_err-place-clause-line : goal.returns-in_err-place-clause-line
returns-in_err-place-clause-line c =
    c.from_residual.ensures
    ∙ sym (none_held c.self.inside.queues.items c.args.owner c.self.invariant (subst (λ (l : List (List Held)). (k : ℕ) → k < length l → owner_of (get_or l k []) ≢ Some c.args.owner) c.deref.ensures.value c.in_err-place.ensures.none))
    ∙ ap (λ (l : List Held). first_of l c.args.owner) c.self.view_is

gone : (c : goal.After-drop-remove) → AreQueues c.remove.new.self.items × (held_in c.remove.new.self.items ≡ popped c.pop-line.result c.args.self.now) × (c.pop-line.result ≡ first_of c.args.self.now c.args.owner)
gone c =
    let queues = c.self.inside.queues.items in
    let place = c.in_ok-place.place in
    let got = c.index_mut.result.now in
    let low : place < length queues = subst (λ (l : List (List Held)). place < length l) c.deref.ensures.value c.in_ok-place.ensures.within in
    let here : owner_of (get_or queues place []) ≡ Some c.args.owner = ap (λ (l : List (List Held)). owner_of (get_or l place [])) (sym c.deref.ensures.value) ∙ c.in_ok-place.ensures.here in
    let new : c.index.result.now ≡ c.pop-line.new.self = c.index.ensures ∙ got_put queues place c.pop-line.new.self c.index.result.now low in
    let done = none_rest queues place c.args.owner got c.self.invariant low here c.index_mut.ensures.value c.pop-line.result c.pop-line.new.self c.pop-line.ensures.first c.pop-line.ensures.rest
    (ap (λ (q : List Held). length q == 0) (sym new) ∙ sym c.is_empty.ensures ∙ c.if-is_empty.true) in (
      subst AreQueues (sym c.remove.ensures.items) done.0,
      ap held_in c.remove.ensures.items ∙ done.1 ∙ ap (popped c.pop-line.result) c.self.view_is,
      c.pop-line.ensures.first ∙ first_got queues place c.args.owner got c.self.invariant low here c.index_mut.ensures.value ∙ ap (λ (l : List Held). first_of l c.args.owner) c.self.view_is,
    )

kept : (c : goal.Else-is_empty) → AreQueues (slice_set c.self.inside.queues.items c.in_ok-place.place c.pop-line.new.self) × (held_in (slice_set c.self.inside.queues.items c.in_ok-place.place c.pop-line.new.self) ≡ popped c.pop-line.result c.args.self.now) × (c.pop-line.result ≡ first_of c.args.self.now c.args.owner)
kept c =
    let queues = c.self.inside.queues.items in
    let place = c.in_ok-place.place in
    let got = c.index_mut.result.now in
    let low : place < length queues = subst (λ (l : List (List Held)). place < length l) c.deref.ensures.value c.in_ok-place.ensures.within in
    let here : owner_of (get_or queues place []) ≡ Some c.args.owner = ap (λ (l : List (List Held)). owner_of (get_or l place [])) (sym c.deref.ensures.value) ∙ c.in_ok-place.ensures.here in
    let new : c.index.result.now ≡ c.pop-line.new.self = c.index.ensures ∙ got_put queues place c.pop-line.new.self c.index.result.now low in
    let done = rest_left queues place c.args.owner got c.self.invariant low here c.index_mut.ensures.value c.pop-line.result c.pop-line.new.self c.pop-line.ensures.first c.pop-line.ensures.rest
    (ap (λ (q : List Held). length q == 0) (sym new) ∙ sym c.is_empty.ensures ∙ c.if-is_empty.false) in (
      done.0,
      done.1 ∙ ap (popped c.pop-line.result) c.self.view_is,
      c.pop-line.ensures.first ∙ first_got queues place c.args.owner got c.self.invariant low here c.index_mut.ensures.value ∙ ap (λ (l : List Held). first_of l c.args.owner) c.self.view_is,
    )

pub invariant_of-self : goal.invariant_of-self
invariant_of-self c = (gone c).0

pub invariant_of-self-else-is_empty : goal.invariant_of-self-else-is_empty
invariant_of-self-else-is_empty c = (kept c).0

pub returns-then-is_empty-clause-line : goal.returns-then-is_empty-clause-line
returns-then-is_empty-clause-line c = (gone c).2

pub returns-then-is_empty-clause-rest : goal.returns-then-is_empty-clause-rest
returns-then-is_empty-clause-rest c = (gone c).1

pub returns-else-is_empty-clause-line : goal.returns-else-is_empty-clause-line
returns-else-is_empty-clause-line c = (kept c).2

pub returns-else-is_empty-clause-rest : goal.returns-else-is_empty-clause-rest
returns-else-is_empty-clause-rest c = (kept c).1
