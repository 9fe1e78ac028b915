use Rattle.std.proofs.Common.{◌≤◌, drop, length, sym, ◌∙◌, arith, length-drop}
use Rattle.rss_plain.proofs.Repeats.{alone}
use Rattle.rss_plain.proofs.images.repeated.Goals as goal

pub returns : goal.returns
returns c =
    let rest = drop c.loop-place.place c.args.list.now in
    let long = length-drop c.loop-place.place c.args.list.now in
    let one : length rest ≤ 1 = omega (arith, long, c.loop-place-test.false, c.saturating_sub-place-end.ensures) in
    sym (alone rest one) ∙ c.loop-place.invariant
