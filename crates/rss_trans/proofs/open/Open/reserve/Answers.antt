use Rattle.std.proofs.Common.{true, ◌≡◌, set, sym, subst, arith}
use Rattle.std.specs.Prelude.{Some}
use Rattle.rss_trans.specs.Transactions.{IsSame, is_open}
use Rattle.rss_trans.specs.Tables.{Table, table, told, room_of}
use Rattle.std.proofs.lemmas.Result.{on_ok_weaker}
use Rattle.rss_trans.proofs.Stepping.{open_key, not_none, stepped_table, kept_same, room_after}
use Rattle.rss_trans.proofs.open.Open.reserve.Goals as goal

pub key_of-key-requires : goal.key_of-key-requires
key_of-key-requires c =
    let old : Table = table c.self.inside.keys.entries c.self.inside.records.slots c.self.inside.since c.self.inside.since_of in
    open_key old c.self.invariant c.args.transaction (subst (λ (t : Table). is_open (told t) c.args.transaction ≡ true) (sym c.self.view_is) c.requires)

pub unreachable-requires : goal.unreachable-requires
unreachable-requires c =
    let old : Table = table c.self.inside.keys.entries c.self.inside.records.slots c.self.inside.since c.self.inside.since_of in
    not_none old c.self.invariant c.args.transaction c.key_of-key.result c.key_of-key.ensures (sym c.in_default.ensures.value)

pub invariant_of-self : goal.invariant_of-self
invariant_of-self c =
    let old : Table = table c.self.inside.keys.entries c.self.inside.records.slots c.self.inside.since c.self.inside.since_of in
    stepped_table old c.self.invariant c.args.transaction c.key_of-key.result c.key_of-key.ensures c.in-Some.record.now (sym c.in-Some.ensures.value) c.reserve.new.self

pub returns-clause-ok : goal.returns-clause-ok
returns-clause-ok c =
    let old : Table = table c.self.inside.keys.entries c.self.inside.records.slots c.self.inside.since c.self.inside.since_of in
    let new : Table = table c.self.inside.keys.entries (set c.self.inside.records.slots c.key_of-key.result (Some c.reserve.new.self)) c.self.inside.since c.self.inside.since_of in
    on_ok_weaker c.reserve.result (λ made. let room : room_of new c.args.transaction ≡ c.reserve.new.self.room = room_after old c.self.invariant c.args.transaction c.key_of-key.result c.key_of-key.ensures c.in-Some.record.now (sym c.in-Some.ensures.value) c.reserve.new.self in omega arith) c.reserve.ensures.ok

pub returns-clause-same : goal.returns-clause-same
returns-clause-same c =
    let old : Table = table c.self.inside.keys.entries c.self.inside.records.slots c.self.inside.since c.self.inside.since_of in
    let new : Table = table c.self.inside.keys.entries (set c.self.inside.records.slots c.key_of-key.result (Some c.reserve.new.self)) c.self.inside.since c.self.inside.since_of in
    subst (λ (t : Table). IsSame (told t) (told new)) c.self.view_is (kept_same old c.self.invariant c.args.transaction c.key_of-key.result c.key_of-key.ensures c.in-Some.record.now (sym c.in-Some.ensures.value) c.reserve.new.self c.reserve.ensures.same)
