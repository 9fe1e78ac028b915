use Rattle.std.proofs.Common.{refl, ap, rules}
use Rattle.rss_base.specs.Streams.{Stream}
use Rattle.rss_c.specs.Handles.{written, cut}
use Rattle.rss_c.proofs.exports.rss_generated_line.Goals as goal

pub returns-in-Ok : goal.returns-in-Ok
returns-in-Ok c =
    written c.as_slice.result.now (search rules) (c.in-Ok.ensures.takes.appends _ (ap (λ (text : Stream). text.bytes) c.clear.ensures)) refl

pub returns : goal.returns
returns c = cut c.as_slice.result.now (search rules) (search rules) (search rules) (search rules)
