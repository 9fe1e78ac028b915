use Rattle.std.proofs.Common.{◌≡◌, ℕ, ◌+◌, ◌*◌, ◌∙◌, ap}
use Rattle.std.specs.Fn.{iterate}
use Rattle.std.specs.Int.{div_ceil}
use Rattle.rss_model.specs.Generator.{next_state}
use Rattle.rss_line.proofs.Draws.{draws_before, state_drawn}
use Rattle.rss_line.proofs.drawing.state_before.Goals as goal

pub returns : goal.returns
returns c =
    let i = c.args.employee in
    let ceil : c.div_ceil.result ≡ div_ceil i 8 = c.div_ceil.ensures ∙ ap (λ (n : ℕ). div_ceil n 8) c.from-employee.ensures in
    let draws : 2 * c.from-employee.result + c.div_ceil.result ≡ draws_before i = ap (λ (n : ℕ). 2 * n + c.div_ceil.result) c.from-employee.ensures ∙ ap (λ (n : ℕ). 2 * i + n) ceil in
    c.state_after.ensures ∙ ap (λ (n : ℕ). iterate next_state n c.args.number) draws ∙ state_drawn c.args.number i
