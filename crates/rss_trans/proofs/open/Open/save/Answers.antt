use Rattle.std.proofs.Common.{true, ◌≡◌, ◌+◌, ◌^◌, ◌<◌, length, set, sym, ◌∙◌, ap, subst}
use Rattle.std.specs.Prelude.{Some}
use Rattle.rss_trans.specs.Transactions.{Transaction, IsSame, Steps, transaction_in, with_save, is_open}
use Rattle.rss_trans.specs.Tables.{Table, table, told}
use Rattle.std.proofs.lemmas.Result.{IfOk-weaker, on_ok_weaker, on_err_weaker}
use Rattle.rss_trans.proofs.Stepping.{open_key, not_none, opened_kept, stepped_table, stepped, kept_same}
use Rattle.rss_trans.proofs.open.Open.save.Goals as goal

pub key_of-key-requires : goal.key_of-key-requires
key_of-key-requires c =
    let old : Table = table c.self.inside.keys.entries c.self.inside.records.slots c.self.inside.since c.self.inside.since_of in
    open_key old c.self.invariant c.args.transaction (subst (λ (t : Table). is_open (told t) c.args.transaction ≡ true) (sym c.self.view_is) c.requires.open)

pub unreachable-requires : goal.unreachable-requires
unreachable-requires c =
    let old : Table = table c.self.inside.keys.entries c.self.inside.records.slots c.self.inside.since c.self.inside.since_of in
    not_none old c.self.invariant c.args.transaction c.key_of-key.result c.key_of-key.ensures (sym c.in_default.ensures.value)

pub save-requires : goal.save-requires
save-requires c =
    let old : Table = table c.self.inside.keys.entries c.self.inside.records.slots c.self.inside.since c.self.inside.since_of in
    let is = opened_kept old c.self.invariant c.args.transaction c.key_of-key.result c.key_of-key.ensures c.in-Some.record.now (sym c.in-Some.ensures.value) in
    subst (λ (x : Transaction). length x.saves + 1 < 2 ^ 32) is (subst (λ (t : Table). length (transaction_in (told t) c.args.transaction).saves + 1 < 2 ^ 32) (sym c.self.view_is) c.requires.few)

pub invariant_of-self : goal.invariant_of-self
invariant_of-self c =
    let old : Table = table c.self.inside.keys.entries c.self.inside.records.slots c.self.inside.since c.self.inside.since_of in
    stepped_table old c.self.invariant c.args.transaction c.key_of-key.result c.key_of-key.ensures c.in-Some.record.now (sym c.in-Some.ensures.value) c.save.new.self

pub returns-clause-number : goal.returns-clause-number
returns-clause-number c =
    let old : Table = table c.self.inside.keys.entries c.self.inside.records.slots c.self.inside.since c.self.inside.since_of in
    let is = opened_kept old c.self.invariant c.args.transaction c.key_of-key.result c.key_of-key.ensures c.in-Some.record.now (sym c.in-Some.ensures.value) in
    IfOk-weaker c.save.result (λ n. n ≡ length c.in-Some.record.now.transaction.saves + 1) (λ n. n ≡ length (transaction_in (told c.args.self.now) c.args.transaction).saves + 1) (λ n e. e ∙ ap (λ (x : Transaction). length x.saves + 1) (sym is) ∙ ap (λ (t : Table). length (transaction_in (told t) c.args.transaction).saves + 1) c.self.view_is) c.save.ensures.number

pub returns-clause-ok : goal.returns-clause-ok
returns-clause-ok c =
    let old : Table = table c.self.inside.keys.entries c.self.inside.records.slots c.self.inside.since c.self.inside.since_of in
    let new : Table = table c.self.inside.keys.entries (set c.self.inside.records.slots c.key_of-key.result (Some c.save.new.self)) c.self.inside.since c.self.inside.since_of in
    on_ok_weaker c.save.result (λ made. subst (λ (t : Table). Steps c.args.transaction with_save (told t) (told new)) c.self.view_is (stepped old c.self.invariant c.args.transaction c.key_of-key.result c.key_of-key.ensures c.in-Some.record.now (sym c.in-Some.ensures.value) c.save.new.self with_save made)) c.save.ensures.ok

pub returns-clause-err : goal.returns-clause-err
returns-clause-err c =
    let old : Table = table c.self.inside.keys.entries c.self.inside.records.slots c.self.inside.since c.self.inside.since_of in
    let new : Table = table c.self.inside.keys.entries (set c.self.inside.records.slots c.key_of-key.result (Some c.save.new.self)) c.self.inside.since c.self.inside.since_of in
    on_err_weaker c.save.result (λ made. subst (λ (t : Table). IsSame (told t) (told new)) c.self.view_is (kept_same old c.self.invariant c.args.transaction c.key_of-key.result c.key_of-key.ensures c.in-Some.record.now (sym c.in-Some.ensures.value) c.save.new.self made)) c.save.ensures.err
