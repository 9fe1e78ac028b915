use Rattle.std.proofs.Common.{true, ◌≡◌, ◌≤◌, length, sym, ◌∙◌, ap, subst}
use Rattle.rss_trans.specs.Transactions.{Transaction, transaction_in, newest_after, is_open}
use Rattle.rss_trans.specs.Tables.{Table, table, told}
use Rattle.rss_trans.proofs.Stepping.{open_key, not_none, opened_kept}
use Rattle.rss_trans.proofs.open.Open.newest.Goals as goal

pub key_of-key-requires : goal.key_of-key-requires
key_of-key-requires c =
    let old : Table = table c.self.inside.keys.entries c.self.inside.records.slots c.self.inside.since c.self.inside.since_of in
    open_key old c.self.invariant c.args.transaction (subst (λ (t : Table). is_open (told t) c.args.transaction ≡ true) (sym c.self.view_is) c.requires.open)

pub unreachable-requires : goal.unreachable-requires
unreachable-requires c =
    let old : Table = table c.self.inside.keys.entries c.self.inside.records.slots c.self.inside.since c.self.inside.since_of in
    not_none old c.self.invariant c.args.transaction c.key_of-key.result c.key_of-key.ensures (sym c.in_default.ensures)

pub newest-requires : goal.newest-requires
newest-requires c =
    let old : Table = table c.self.inside.keys.entries c.self.inside.records.slots c.self.inside.since c.self.inside.since_of in
    let is = opened_kept old c.self.invariant c.args.transaction c.key_of-key.result c.key_of-key.ensures c.in-Some.record.now (sym c.in-Some.ensures) in
    subst (λ (x : Transaction). c.args.save ≤ length x.saves) is (subst (λ (t : Table). c.args.save ≤ length (transaction_in (told t) c.args.transaction).saves) (sym c.self.view_is) c.requires.save)

pub returns : goal.returns
returns c =
    let old : Table = table c.self.inside.keys.entries c.self.inside.records.slots c.self.inside.since c.self.inside.since_of in
    let is = opened_kept old c.self.invariant c.args.transaction c.key_of-key.result c.key_of-key.ensures c.in-Some.record.now (sym c.in-Some.ensures) in
    c.newest.ensures ∙ ap (λ (x : Transaction). newest_after x c.args.save) (sym is) ∙ ap (λ (t : Table). newest_after (transaction_in (told t) c.args.transaction) c.args.save) c.self.view_is
