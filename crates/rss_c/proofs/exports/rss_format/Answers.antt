use Rattle.std.proofs.Common.{rules}
use Rattle.rss_c.specs.Handles.{made, unmade}
use Rattle.rss_c.proofs.exports.rss_format.Goals as goal

pub returns-in-Ok : goal.returns-in-Ok
returns-in-Ok c = made c.in-Ok.made.value (search rules) c.put.ensures c.in-Ok.ensures.made (search rules)

pub returns-in-Err : goal.returns-in-Err
returns-in-Err c = unmade c.in-Err.refused (search rules) (search rules) c.in-Err.ensures.unmade (search rules)
