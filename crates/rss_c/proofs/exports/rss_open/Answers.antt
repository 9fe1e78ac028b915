use Rattle.std.proofs.Common.{rules}
use Rattle.rss_c.specs.Handles.{opened, refused, already}
use Rattle.rss_c.proofs.exports.rss_open.Goals as goal

pub returns-then-is_open : goal.returns-then-is_open
returns-then-is_open c = already (search rules) (search rules) c.clear.ensures c.number.ensures

pub returns-in-Ok : goal.returns-in-Ok
returns-in-Ok c =
    opened c.in-Ok.opened.value (search rules) c.put.ensures c.in-Ok.ensures.opened c.clear.ensures (search rules)

pub returns-in-Err : goal.returns-in-Err
returns-in-Err c =
    refused c.in-Err.refused c.tell.result (search rules) (search rules) c.in-Err.ensures.refused (search rules) (search rules)
