use Rattle.std.proofs.Common.{ℕ, List, length, sym, ◌∙◌, subst}
use Rattle.std.specs.Prelude.{Some, None}
use Rattle.rss_wait.specs.declared.held.Held.{Held}
use Rattle.rss_wait.specs.Held.{AllWait, IsLeastFree}
use Rattle.rss_wait.specs.Queues.{free_owner, IsLeast}
use Rattle.rss_wait.proofs.Least.{free_found, none_free, if_copied, if_none}
use Rattle.rss_wait.proofs.held_lines.HeldLines.least_but.Goals as goal

pub returns-in_err-place-clause-none : goal.returns-in_err-place-clause-none
returns-in_err-place-clause-none c =
    let queues = c.self.inside.queues.items in
    let waits = c.args.waits.now.waits in
    let least : IsLeast (free_owner waits) queues (length queues) None = subst (λ (l : List (List Held)). IsLeast (free_owner waits) l (length l) None) c.deref.ensures.value c.in_err-place.ensures in
    if_none c.from_residual.result (subst (AllWait waits) c.self.view_is (none_free waits queues c.self.invariant.each least))

pub returns-clause-least : goal.returns-clause-least
returns-clause-least c =
    let queues = c.self.inside.queues.items in
    let waits = c.args.waits.now.waits in
    let found : ℕ × ℕ = (c.in_ok-place.field-0-0, c.in_ok-place.place) in
    let least : IsLeast (free_owner waits) queues (length queues) (Some found) = subst (λ (l : List (List Held)). IsLeast (free_owner waits) l (length l) (Some found)) c.deref.ensures.value c.in_ok-place.ensures in
    if_copied c.first.result (IsLeastFree waits c.args.self.now) (λ line is. subst (λ (l : List Held). IsLeastFree waits l line) c.self.view_is
    (free_found waits queues found.0 found.1 c.index.result.now c.self.invariant least c.index.ensures line (sym c.first.ensures ∙ is)))
