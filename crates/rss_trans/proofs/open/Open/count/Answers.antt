use Rattle.std.proofs.Common.{sym, ◌∙◌, ap}
use Rattle.std.specs.FinMap as finite
use Rattle.rss_trans.specs.Tables.{Table, table, told, shown}
use Rattle.rss_trans.proofs.Showing.{length-shown}
use Rattle.rss_trans.proofs.Mapping.{len_made}
use Rattle.rss_trans.proofs.Stepping.{in_order}
use Rattle.rss_trans.proofs.open.Open.count.Goals as goal

pub returns-clause-is : goal.returns-clause-is
returns-clause-is c =
    let old : Table = table c.self.inside.keys.entries c.self.inside.records.slots c.self.inside.since c.self.inside.since_of in
    c.len.ensures.len
    ∙ sym (length-shown c.self.inside.keys.entries c.self.inside.records.slots)
    ∙ sym (len_made (shown c.self.inside.keys.entries c.self.inside.records.slots) (in_order old c.self.invariant))
    ∙ ap (λ (t : Table). finite.len (told t).transactions) c.self.view_is
