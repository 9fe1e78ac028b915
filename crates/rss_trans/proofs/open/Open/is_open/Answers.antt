use Rattle.std.proofs.Common.{sym, ◌∙◌, ap}
use Rattle.rss_trans.specs.Transactions.{is_open}
use Rattle.rss_trans.specs.Tables.{Table, table, told}
use Rattle.rss_trans.proofs.Stepping.{open_test}
use Rattle.rss_trans.proofs.open.Open.is_open.Goals as goal

pub returns : goal.returns
returns c =
    let old : Table = table c.self.inside.keys.entries c.self.inside.records.slots c.self.inside.since c.self.inside.since_of in
    c.contains_key.ensures ∙ sym (open_test old c.self.invariant c.args.transaction) ∙ ap (λ (t : Table). is_open (told t) c.args.transaction) c.self.view_is
