use Rattle.std.proofs.Common.{◌<◌, set, rules, length-set, sym, ◌∙◌, ap, subst, arith}
use Rattle.std.specs.Prelude.{Some}
use Rattle.rss_trans.specs.Transactions.{Notes}
use Rattle.rss_trans.specs.Tables.{Table, table, told}
use Rattle.rss_trans.proofs.Stepping.{noted_table, noted, counts_none, counts_in, below_more}
use Rattle.rss_trans.proofs.open.Open.note.Goals as goal

pub invariant_of-self : goal.invariant_of-self
invariant_of-self c =
    let old : Table = table c.self.inside.keys.entries c.self.inside.records.slots c.self.inside.since c.self.inside.since_of in
    let within : c.from-relation.result < 256 = search rules in
    let long = c.self.invariant.relations in
    let more = c.saturating_add.ensures in
    let counts = counts_in c.self.inside.since_of (record { position = c.args.position; relation = c.args.relation; is_delete = c.args.delete }) c.from-relation.result c.saturating_add.result c.self.invariant.below (c.in-Some-relation.is ∙ ap Some (sym c.from-relation.ensures)) (omega arith) (omega arith) in
    noted_table old c.self.invariant c.args.transaction c.key_of-key.result c.key_of-key.ensures c.in-Some.record.now (sym c.in-Some.ensures.value) (record { position = c.args.position; relation = c.args.relation; is_delete = c.args.delete }) c.note.new.self c.saturating_add-self-inside.result (set c.self.inside.since_of c.from-relation.result c.saturating_add.result) c.note.ensures (length-set c.self.inside.since_of c.from-relation.result c.saturating_add.result ∙ c.self.invariant.relations) (below_more c.self.inside.since_of (set c.self.inside.since_of c.from-relation.result c.saturating_add.result) (record { position = c.args.position; relation = c.args.relation; is_delete = c.args.delete }) counts)

pub invariant_of-self-in_default-relation : goal.invariant_of-self-in_default-relation
invariant_of-self-in_default-relation c =
    let old : Table = table c.self.inside.keys.entries c.self.inside.records.slots c.self.inside.since c.self.inside.since_of in
    noted_table old c.self.invariant c.args.transaction c.key_of-key.result c.key_of-key.ensures c.in-Some.record.now (sym c.in-Some.ensures.value) (record { position = c.args.position; relation = c.args.relation; is_delete = c.args.delete }) c.note.new.self c.saturating_add-self-inside.result c.self.inside.since_of c.note.ensures c.self.invariant.relations c.self.invariant.below

pub returns-in-Some-relation : goal.returns-in-Some-relation
returns-in-Some-relation c =
    let old : Table = table c.self.inside.keys.entries c.self.inside.records.slots c.self.inside.since c.self.inside.since_of in
    let within : c.from-relation.result < 256 = search rules in
    let long = c.self.invariant.relations in
    let more = c.saturating_add.ensures in
    let all = c.saturating_add-self-inside.ensures in
    let counts = counts_in c.self.inside.since_of (record { position = c.args.position; relation = c.args.relation; is_delete = c.args.delete }) c.from-relation.result c.saturating_add.result c.self.invariant.below (c.in-Some-relation.is ∙ ap Some (sym c.from-relation.ensures)) (omega arith) (omega arith) in
    subst (λ (t : Table). Notes c.args.transaction (record { position = c.args.position; relation = c.args.relation; is_delete = c.args.delete }) (told t) (told (table c.self.inside.keys.entries (set c.self.inside.records.slots c.key_of-key.result (Some c.note.new.self)) c.saturating_add-self-inside.result (set c.self.inside.since_of c.from-relation.result c.saturating_add.result)))) c.self.view_is
    (noted old c.self.invariant c.args.transaction c.key_of-key.result c.key_of-key.ensures c.in-Some.record.now (sym c.in-Some.ensures.value) (record { position = c.args.position; relation = c.args.relation; is_delete = c.args.delete }) c.note.new.self c.saturating_add-self-inside.result (set c.self.inside.since_of c.from-relation.result c.saturating_add.result) c.note.ensures (omega arith) counts)

pub returns-in_default-relation : goal.returns-in_default-relation
returns-in_default-relation c =
    let old : Table = table c.self.inside.keys.entries c.self.inside.records.slots c.self.inside.since c.self.inside.since_of in
    let all = c.saturating_add-self-inside.ensures in
    let counts = counts_none c.self.inside.since_of (record { position = c.args.position; relation = c.args.relation; is_delete = c.args.delete }) c.self.invariant.below c.in_default-relation.is in
    subst (λ (t : Table). Notes c.args.transaction (record { position = c.args.position; relation = c.args.relation; is_delete = c.args.delete }) (told t) (told (table c.self.inside.keys.entries (set c.self.inside.records.slots c.key_of-key.result (Some c.note.new.self)) c.saturating_add-self-inside.result c.self.inside.since_of))) c.self.view_is
    (noted old c.self.invariant c.args.transaction c.key_of-key.result c.key_of-key.ensures c.in-Some.record.now (sym c.in-Some.ensures.value) (record { position = c.args.position; relation = c.args.relation; is_delete = c.args.delete }) c.note.new.self c.saturating_add-self-inside.result c.self.inside.since_of c.note.ensures (omega arith) counts)
