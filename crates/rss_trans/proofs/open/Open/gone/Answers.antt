use Rattle.std.proofs.Common.{true, ◌≡◌, set, sym, ◌∙◌, ap, subst, arith}
use Rattle.std.specs.Prelude.{None, IsSome, is_some}
use Rattle.std.specs.Map.{lookup}
use Rattle.rss_trans.specs.Transactions.{Ends, is_open}
use Rattle.rss_trans.specs.Tables.{at, Table, table, told}
use Rattle.rss_trans.proofs.Stepping.{open_key, there, of_some, ended_as}
use Rattle.rss_trans.proofs.open.Open.gone.Goals as goal
use mathlib.Core.Bool.{true≢false}

pub unreachable-requires : goal.unreachable-requires
unreachable-requires c =
    let old : Table = table c.self.inside.keys.entries c.self.inside.records.slots c.self.inside.since c.self.inside.since_of in
    let some : IsSome (lookup (at c.args.transaction) c.self.inside.keys.entries) = open_key old c.self.invariant c.args.transaction (subst (λ (t : Table). is_open (told t) c.args.transaction ≡ true) (sym c.self.view_is) c.requires) in
    true≢false (sym some ∙ ap is_some (sym c.in_default.ensures.value))

pub invariant_of-self : goal.invariant_of-self
invariant_of-self c =
    let old : Table = table c.self.inside.keys.entries c.self.inside.records.slots c.self.inside.since c.self.inside.since_of in
    let found = there old c.self.invariant c.args.transaction c.in-Some.key (sym c.in-Some.ensures.value) in
    let removed = of_some c.try_remove.result (c.try_remove.new.self.slots ≡ set c.self.inside.records.slots c.in-Some.key None) (ap is_some c.try_remove.ensures.value ∙ found) c.try_remove.ensures.slots in
    let fewer = c.in-Some.ensures.len in
    let few = c.self.invariant.few in
    let all = ended_as old c.self.invariant c.args.transaction c.in-Some.key (sym c.in-Some.ensures.value) c.remove.new.self.entries c.try_remove.new.self.slots c.in-Some.ensures.entries removed c.in-Some.ensures.ordered (omega arith) in
    all.0

pub returns : goal.returns
returns c =
    let old : Table = table c.self.inside.keys.entries c.self.inside.records.slots c.self.inside.since c.self.inside.since_of in
    let found = there old c.self.invariant c.args.transaction c.in-Some.key (sym c.in-Some.ensures.value) in
    let removed = of_some c.try_remove.result (c.try_remove.new.self.slots ≡ set c.self.inside.records.slots c.in-Some.key None) (ap is_some c.try_remove.ensures.value ∙ found) c.try_remove.ensures.slots in
    let fewer = c.in-Some.ensures.len in
    let few = c.self.invariant.few in
    let all = ended_as old c.self.invariant c.args.transaction c.in-Some.key (sym c.in-Some.ensures.value) c.remove.new.self.entries c.try_remove.new.self.slots c.in-Some.ensures.entries removed c.in-Some.ensures.ordered (omega arith) in
    subst (λ (t : Table). Ends c.args.transaction (told t) (told (table c.remove.new.self.entries c.try_remove.new.self.slots c.self.inside.since c.self.inside.since_of))) c.self.view_is all.1
