use Rattle.std.proofs.Common.{◌≡◌, ℕ, List, true, sym, ◌∙◌, ap, ap₂, subst}
use Rattle.std.specs.Prelude.{Option, Some, None, IfNone}
use Rattle.std.proofs.lemmas.Option.{IfSome_then}
use Rattle.rss_wait.specs.declared.wait.Wait.{Wait}
use Rattle.rss_wait.specs.Waits.{WaitsView, is_in, latest, IsLoop, IsCycle}
use Rattle.rss_wait.proofs.Cycles.{a_cycle, no_loop, some_latest, some_loop, none_then}
use Rattle.rss_wait.proofs.waits.Waits.cycle_with.Goals as goal

abbrev NoLoop : List Wait → ℕ → Type 0
NoLoop waits t = (loop : List ℕ) → IsLoop waits t loop → ⊥

abbrev NoCycle : WaitsView → ℕ → Type 0
NoCycle v t = (cycle : List ℕ) → IsCycle v.opened v.waits cycle → is_in cycle t ≡ true → ⊥

pub returns-in_err-cycle-clause-none : goal.returns-in_err-cycle-clause-none
returns-in_err-cycle-clause-none c =
    let waits : c.deref.result.now ≡ c.args.self.now.waits = c.deref.ensures.0 ∙ ap (λ (v : WaitsView). v.waits) c.self.view_is in
    let none : NoLoop c.args.self.now.waits c.args.t = subst (λ (l : List Wait). NoLoop l c.args.t) waits c.in_err-cycle.ensures.none in
    subst (λ (r : Option (List ℕ)). IfNone r (NoCycle c.args.self.now c.args.t)) (sym c.from_residual.ensures)
    (λ cycle. no_loop c.args.self.now.opened c.args.self.now.waits c.args.t cycle none)

pub returns-in_err-last-clause-none : goal.returns-in_err-last-clause-none
returns-in_err-last-clause-none c =
    let waits : c.deref.result.now ≡ c.args.self.now.waits = c.deref.ensures.0 ∙ ap (λ (v : WaitsView). v.waits) c.self.view_is in
    let opened : c.deref-2.result.now ≡ c.args.self.now.opened = c.deref-2.ensures.0 ∙ ap (λ (v : WaitsView). v.opened) c.self.view_is in
    let loop : IsLoop c.args.self.now.waits c.args.t c.in_ok-cycle.cycle = subst (λ (l : List Wait). IsLoop l c.args.t c.in_ok-cycle.cycle) waits c.in_ok-cycle.ensures.some in
    let none : latest c.args.self.now.opened c.in_ok-cycle.cycle ≡ None = sym (ap₂ latest opened c.as_slice.ensures.members) ∙ sym c.latest.ensures ∙ c.in_err-last.was in
    absurd (some_latest c.args.self.now.opened c.args.self.now.waits c.args.t c.in_ok-cycle.cycle loop c.requires none)

-- the loop, and the one of its members that began last
the_loop : (c : goal.After-cycle_from-2) → IsLoop c.args.self.now.waits c.args.t c.in_ok-cycle.cycle
the_loop c =
    let waits : c.deref.result.now ≡ c.args.self.now.waits = c.deref.ensures.0 ∙ ap (λ (v : WaitsView). v.waits) c.self.view_is in
    subst (λ (l : List Wait). IsLoop l c.args.t c.in_ok-cycle.cycle) waits c.in_ok-cycle.ensures.some

the_last : (c : goal.After-cycle_from-2) → latest c.args.self.now.opened c.in_ok-cycle.cycle ≡ Some c.in_ok-last.last
the_last c =
    let opened : c.deref-2.result.now ≡ c.args.self.now.opened = c.deref-2.ensures.0 ∙ ap (λ (v : WaitsView). v.opened) c.self.view_is in
    sym (ap₂ latest opened c.as_slice.ensures.members) ∙ sym c.latest.ensures ∙ c.in_ok-last.was

pub returns-clause-closed : goal.returns-clause-closed
returns-clause-closed c =
    let waits : c.deref-3.result.now ≡ c.args.self.now.waits = c.deref-3.ensures.0 ∙ ap (λ (v : WaitsView). v.waits) c.self.view_is in
    IfSome_then c.cycle_from-2.result c.cycle_from-2.ensures.some (λ cycle is. a_cycle c.args.self.now.opened c.args.self.now.waits c.args.t c.in_ok-last.last c.in_ok-cycle.cycle cycle (the_loop c) (the_last c)
    (subst (λ (l : List Wait). IsLoop l c.in_ok-last.last cycle) waits is))

pub returns-clause-none : goal.returns-clause-none
returns-clause-none c =
    let waits : c.deref-3.result.now ≡ c.args.self.now.waits = c.deref-3.ensures.0 ∙ ap (λ (v : WaitsView). v.waits) c.self.view_is in
    none_then c.cycle_from-2.result c.cycle_from-2.ensures.none (λ none. absurd (some_loop c.args.self.now.opened c.args.self.now.waits c.args.t c.in_ok-last.last c.in_ok-cycle.cycle (the_loop c) (the_last c)
    (subst (λ (l : List Wait). NoLoop l c.in_ok-last.last) waits none)))
