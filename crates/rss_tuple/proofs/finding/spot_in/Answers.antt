use Rattle.std.proofs.Common.{rules, ◌+◌, ◌≤◌, arith}
use Rattle.rss_page.specs.Slotted.{entries, body_bytes}
use Rattle.rss_tuple.proofs.Spots.{spot_unbarred}
use Rattle.rss_tuple.proofs.finding.spot_in.Goals as goal

pub returns-then-is_empty : goal.returns-then-is_empty
returns-then-is_empty c =
    let few : body_bytes (entries c.args.page.now) + c.args.length ≤ 3056 = omega (arith, c.requires.free) in
    spot_unbarred (entries c.args.page.now) c.args.length c.args.number c.args.barred.now c.args.found.now.first_empty (search rules) few c.requires.empty
