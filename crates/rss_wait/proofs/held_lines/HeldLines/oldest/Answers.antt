use Rattle.std.proofs.Common.{ℕ, List, length, ◌∙◌, ap, subst}
use Rattle.std.specs.Prelude.{Some, slice_get}
use Rattle.rss_wait.specs.declared.held.Held.{Held}
use Rattle.rss_wait.specs.Queues.{number_of, IsLeast}
use Rattle.rss_wait.proofs.Least.{oldest_found}
use Rattle.rss_wait.proofs.held_lines.HeldLines.oldest.Goals as goal

pub returns : goal.returns
returns c =
    let queues = c.self.inside.queues.items in
    let found : ℕ × ℕ = (c.in_ok-place.field-0-0, c.in_ok-place.place) in
    let least : IsLeast number_of queues (length queues) (Some found) = subst (λ (l : List (List Held)). IsLeast number_of l (length l) (Some found)) c.deref.ensures.value c.in_ok-place.ensures in
    c.first.ensures ∙ oldest_found queues found.0 found.1 c.index.result.now c.self.invariant least c.index.ensures ∙ ap (λ (l : List Held). slice_get l 0) c.self.view_is
