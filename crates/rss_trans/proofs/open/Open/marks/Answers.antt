use Rattle.std.proofs.Common.{◌≡◌, sym, ◌∙◌, ap, rules}
use Rattle.std.specs.FinMap as finite
use Rattle.rss_trans.specs.Transactions.{marks_of}
use Rattle.rss_trans.specs.Tables.{Table, table, told, shown}
use Rattle.rss_trans.proofs.Mapping.{entries_made}
use Rattle.rss_trans.proofs.Stepping.{in_order}
use Rattle.rss_trans.proofs.open.Open.marks.Goals as goal

pub returns : goal.returns
returns c =
    let old : Table = table c.self.inside.keys.entries c.self.inside.records.slots c.self.inside.since c.self.inside.since_of in
    let all : c.loop-transaction.into ≡ marks_of (shown c.self.inside.keys.entries c.self.inside.records.slots) = search rules in
    all
    ∙ ap marks_of (sym (entries_made (shown c.self.inside.keys.entries c.self.inside.records.slots) (in_order old c.self.invariant)))
    ∙ ap (λ (t : Table). marks_of (finite.entries (told t).transactions)) c.self.view_is
