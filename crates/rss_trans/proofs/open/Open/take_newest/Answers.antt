use Rattle.std.proofs.Common.{true, ◌≡◌, ◌≤◌, length, set, sym, subst}
use Rattle.std.specs.Prelude.{Some}
use Rattle.rss_trans.specs.Transactions.{Transaction, Steps, transaction_in, without_newest, is_open}
use Rattle.rss_trans.specs.Tables.{Table, table, told}
use Rattle.rss_trans.proofs.Stepping.{open_key, not_none, opened_kept, stepped_table, stepped}
use Rattle.rss_trans.proofs.open.Open.take_newest.Goals as goal

pub key_of-key-requires : goal.key_of-key-requires
key_of-key-requires c =
    let old : Table = table c.self.inside.keys.entries c.self.inside.records.slots c.self.inside.since c.self.inside.since_of in
    open_key old c.self.invariant c.args.transaction (subst (λ (t : Table). is_open (told t) c.args.transaction ≡ true) (sym c.self.view_is) c.requires.open)

pub unreachable-requires : goal.unreachable-requires
unreachable-requires c =
    let old : Table = table c.self.inside.keys.entries c.self.inside.records.slots c.self.inside.since c.self.inside.since_of in
    not_none old c.self.invariant c.args.transaction c.key_of-key.result c.key_of-key.ensures (sym c.in_default.ensures.value)

pub take_newest-requires : goal.take_newest-requires
take_newest-requires c =
    let old : Table = table c.self.inside.keys.entries c.self.inside.records.slots c.self.inside.since c.self.inside.since_of in
    let is = opened_kept old c.self.invariant c.args.transaction c.key_of-key.result c.key_of-key.ensures c.in-Some.record.now (sym c.in-Some.ensures.value) in
    subst (λ (x : Transaction). 1 ≤ length x.changes) is (subst (λ (t : Table). 1 ≤ length (transaction_in (told t) c.args.transaction).changes) (sym c.self.view_is) c.requires.some)

pub invariant_of-self : goal.invariant_of-self
invariant_of-self c =
    let old : Table = table c.self.inside.keys.entries c.self.inside.records.slots c.self.inside.since c.self.inside.since_of in
    stepped_table old c.self.invariant c.args.transaction c.key_of-key.result c.key_of-key.ensures c.in-Some.record.now (sym c.in-Some.ensures.value) c.take_newest.new.self

pub returns : goal.returns
returns c =
    let old : Table = table c.self.inside.keys.entries c.self.inside.records.slots c.self.inside.since c.self.inside.since_of in
    subst (λ (t : Table). Steps c.args.transaction (without_newest) (told t) (told (table c.self.inside.keys.entries (set c.self.inside.records.slots c.key_of-key.result (Some c.take_newest.new.self)) c.self.inside.since c.self.inside.since_of))) c.self.view_is
    (stepped old c.self.invariant c.args.transaction c.key_of-key.result c.key_of-key.ensures c.in-Some.record.now (sym c.in-Some.ensures.value) c.take_newest.new.self (without_newest) c.take_newest.ensures)
