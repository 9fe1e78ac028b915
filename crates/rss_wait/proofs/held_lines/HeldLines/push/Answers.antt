use Rattle.std.proofs.Common.{◌≡◌, ◌≢◌, ℕ, ◌<◌, List, [], ◌∷◌, ◌++◌, length, get_or, refl, sym, ◌∙◌, ap, ap₂, subst}
use Rattle.std.specs.Prelude.{Some, slice_set}
use Rattle.rss_wait.specs.declared.held.Held.{Held}
use Rattle.rss_wait.specs.Held.{AreBefore}
use Rattle.rss_wait.specs.Queues.{held_in, owner_of, AreQueues}
use Rattle.rss_wait.proofs.Changed.{line_pushed, last_pushed}
use Rattle.rss_wait.proofs.held_lines.HeldLines.push.Goals as goal

in_its_queue : (c : goal.In_ok-push-in-Some) → AreQueues (slice_set c.self.inside.queues.items c.in-Some.place c.push.new.self) × (held_in (slice_set c.self.inside.queues.items c.in-Some.place c.push.new.self) ≡ held_in c.self.inside.queues.items ++ record { owner = c.args.owner; number = c.args.number; line = c.in_ok-from_slice.field-0 } ∷ [])
in_its_queue c =
    let queues = c.self.inside.queues.items in
    let place = c.in-Some.place in
    let line : Held = record { owner = c.args.owner; number = c.args.number; line = c.in_ok-from_slice.field-0 } in
    let low : place < length queues = subst (λ (l : List (List Held)). place < length l) c.deref.ensures.value c.in-Some.ensures.within in
    let here : owner_of (get_or queues place []) ≡ Some c.args.owner = ap (λ (l : List (List Held)). owner_of (get_or l place [])) (sym c.deref.ensures.value) ∙ c.in-Some.ensures.here in
    line_pushed queues place c.args.owner c.index_mut.result.now c.self.invariant low here c.index_mut.ensures.value line c.push.new.self refl (subst (AreBefore c.args.number) (sym c.self.view_is) c.requires) c.in_ok-push-in-Some.ensures.pushed

in_a_new_one : (c : goal.In_ok-push-in-None) → AreQueues c.push-in-None.new.self.items × (held_in c.push-in-None.new.self.items ≡ held_in c.self.inside.queues.items ++ record { owner = c.args.owner; number = c.args.number; line = c.in_ok-from_slice.field-0 } ∷ [])
in_a_new_one c =
    let queues = c.self.inside.queues.items in
    let line : Held = record { owner = c.args.owner; number = c.args.number; line = c.in_ok-from_slice.field-0 } in
    let none : (k : ℕ) → k < length queues → owner_of (get_or queues k []) ≢ Some c.args.owner = subst (λ (l : List (List Held)). (k : ℕ) → k < length l → owner_of (get_or l k []) ≢ Some c.args.owner) c.deref.ensures.value c.in-None.ensures.none in
    let now : c.push-in-None.new.self.items ≡ queues ++ (line ∷ []) ∷ [] = c.in_ok-push-in-None.ensures.items ∙ ap (λ (q : List Held). queues ++ q ∷ []) c.in_ok-queue-in-None.ensures in
    let done = last_pushed queues line c.self.invariant none (subst (AreBefore c.args.number) (sym c.self.view_is) c.requires) in
    (subst AreQueues (sym now) done.0, ap held_in now ∙ done.1)

pub invariant_of-self : goal.invariant_of-self
invariant_of-self c = (in_its_queue c).0

pub invariant_of-self-in_ok-push-in-None : goal.invariant_of-self-in_ok-push-in-None
invariant_of-self-in_ok-push-in-None c = (in_a_new_one c).0

pub returns-in_ok-push-in-Some-clause-held : goal.returns-in_ok-push-in-Some-clause-held
returns-in_ok-push-in-Some-clause-held c =
    (in_its_queue c).1 ∙ ap₂ (λ (l : List Held) (w : List ℕ). l ++ record { owner = c.args.owner; number = c.args.number; line = w } ∷ []) c.self.view_is c.in_ok-from_slice.ensures

pub returns-in_ok-push-in-None-clause-held : goal.returns-in_ok-push-in-None-clause-held
returns-in_ok-push-in-None-clause-held c =
    (in_a_new_one c).1 ∙ ap₂ (λ (l : List Held) (w : List ℕ). l ++ record { owner = c.args.owner; number = c.args.number; line = w } ∷ []) c.self.view_is c.in_ok-from_slice.ensures
