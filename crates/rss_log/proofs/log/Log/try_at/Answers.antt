use Rattle.std.proofs.Common.{◌≡◌, ◌≤◌, ◌-◌, take, length, sym, ◌∙◌, ap, arith}
use Rattle.rss_log.specs.Logs.{LogView, bytes_from, piece_start}
use Rattle.rss_log.proofs.LogViews.{front_in, length-bytes_from, long_enough, found_in, refused_in}
use Rattle.rss_log.proofs.log.Log.try_at.Goals as goal

pub returns-in_err-found-clause-none : goal.returns-in_err-found-clause-none
returns-in_err-found-clause-none c =
    let low = rw (← c.self.view_is) at c.requires.low in
    let high = rw (← c.self.view_is) at c.requires.high in
    let at_start : piece_start c.self.inside.head ≤ c.args.position = omega (arith, low) in
    let copied : take c.min-size.result c.copy_front.new.into ≡ take c.min-size.result (bytes_from c.args.self.now c.args.position) =
    (rw c.deref.ensures.value at c.copy_front.ensures)
    ∙ front_in c.self.inside c.args.position c.min-size.result at_start (omega (arith, high, c.min-size.ensures))
    ∙ ap (λ (v : LogView). take c.min-size.result (bytes_from v c.args.position)) c.self.view_is in
    let long : length (bytes_from c.args.self.now c.args.position) ≡ c.self.inside.end - c.args.position = ap (λ (v : LogView). length (bytes_from v c.args.position)) (sym c.self.view_is) ∙ length-bytes_from c.self.inside c.args.position at_start high in
    rw c.from_residual.ensures (refused_in (bytes_from c.args.self.now c.args.position) (take c.min-size.result c.copy_front.new.into) c.min-size.result copied (long_enough _ _ (omega (arith, long, c.min-size.ensures))) c.in_err-found.ensures.none)

pub returns-clause-found : goal.returns-clause-found
returns-clause-found c =
    let low = rw (← c.self.view_is) at c.requires.low in
    let high = rw (← c.self.view_is) at c.requires.high in
    let copied : take c.min-size.result c.copy_front.new.into ≡ take c.min-size.result (bytes_from c.args.self.now c.args.position) =
    (rw c.deref.ensures.value at c.copy_front.ensures)
    ∙ front_in c.self.inside c.args.position c.min-size.result (omega (arith, low)) (omega (arith, high, c.min-size.ensures))
    ∙ ap (λ (v : LogView). take c.min-size.result (bytes_from v c.args.position)) c.self.view_is in
    found_in c.args.self.now c.args.position c.min-size.result c.from.result (take c.min-size.result c.copy_front.new.into) c.in_ok-found.found _ (omega (arith, c.requires.low)) copied c.in_ok-found.ensures.found (c.from.ensures ∙ c.in_ok-found.ensures.size)
