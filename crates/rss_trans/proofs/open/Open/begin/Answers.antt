use Rattle.std.proofs.Common.{◌≡◌, ◌≢◌, ℕ, ◌<◌, ◌≤◌, Bool, true, false, cond, List, get_or, length, sym, ◌∙◌, ap, subst, arith}
use Rattle.std.specs.Prelude.{Option, Some, None, is_some}
use Rattle.rss_trans.specs.Transactions.{Begins}
use Rattle.rss_trans.specs.Tallies.{Kept}
use Rattle.rss_trans.specs.Tables.{Table, table, told, shown}
use Rattle.slab.specs.Slab.{Slab}
use Rattle.rss_trans.proofs.Showing.{length-shown}
use Rattle.std.specs.FinMap as finite
use Rattle.rss_trans.proofs.Mapping.{len_made}
use Rattle.rss_trans.proofs.Stepping.{begun_as, in_order}
use Rattle.rss_trans.proofs.open.Open.begin.Goals as goal

at_most_one : (b : Bool) → cond b 0 1 ≤ 1
at_most_one true = omega arith
at_most_one false = omega arith

pub invariant_of-self-2 : goal.invariant_of-self-2
invariant_of-self-2 c =
    let old : Table = table c.self.inside.keys.entries c.self.inside.records.slots c.self.inside.since c.self.inside.since_of in
    let slots = ap (λ (s : Slab Kept). s.slots) c.reserve.ensures.rest_kept in
    let key : c.insert_reserved.result ≡ c.vacant_key.result = c.insert_reserved.ensures.key ∙ sym c.vacant_key.ensures.value in
    let vacant : get_or c.self.inside.records.slots c.vacant_key.result None ≡ None = ap (λ (ss : List (Option Kept)). get_or ss c.vacant_key.result None) (sym slots) ∙ c.vacant_key.ensures.vacant in
    let put : get_or c.insert_reserved.new.self.slots c.vacant_key.result None ≡ Some c.in_ok-record.record = ap (λ (k : ℕ). get_or c.insert_reserved.new.self.slots k None) (sym key) ∙ c.insert_reserved.ensures.updates.changed in
    let same : (other : ℕ) → other ≢ c.vacant_key.result → get_or c.insert_reserved.new.self.slots other None ≡ get_or c.self.inside.records.slots other None = λ other off.
    c.insert_reserved.ensures.updates.others other (λ e. off (e ∙ key)) ∙ ap (λ (ss : List (Option Kept)). get_or ss other None) slots in
    let more = c.in_ok-insert.ensures.len in
    let room : finite.len (told old).transactions < 32 = subst (λ (t : Table). finite.len (told t).transactions < 32) (sym c.self.view_is) c.requires.few in
    let made = len_made (shown c.self.inside.keys.entries c.self.inside.records.slots) (in_order old c.self.invariant) in
    let few : length c.insert.new.self.entries ≤ 32 = let long = length-shown c.self.inside.keys.entries c.self.inside.records.slots in let least = at_most_one (is_some c.in_ok-insert.field-0) in omega arith in
    let all = begun_as old c.self.invariant c.args.transaction c.vacant_key.result c.insert.new.self.entries c.insert_reserved.new.self.slots c.in_ok-record.record c.in_ok-insert.ensures.entries vacant same put c.in_ok-record.ensures c.in_ok-insert.ensures.ordered few in
    all.0

pub returns-clause-ok : goal.returns-clause-ok
returns-clause-ok c =
    let old : Table = table c.self.inside.keys.entries c.self.inside.records.slots c.self.inside.since c.self.inside.since_of in
    let slots = ap (λ (s : Slab Kept). s.slots) c.reserve.ensures.rest_kept in
    let key : c.insert_reserved.result ≡ c.vacant_key.result = c.insert_reserved.ensures.key ∙ sym c.vacant_key.ensures.value in
    let vacant : get_or c.self.inside.records.slots c.vacant_key.result None ≡ None = ap (λ (ss : List (Option Kept)). get_or ss c.vacant_key.result None) (sym slots) ∙ c.vacant_key.ensures.vacant in
    let put : get_or c.insert_reserved.new.self.slots c.vacant_key.result None ≡ Some c.in_ok-record.record = ap (λ (k : ℕ). get_or c.insert_reserved.new.self.slots k None) (sym key) ∙ c.insert_reserved.ensures.updates.changed in
    let same : (other : ℕ) → other ≢ c.vacant_key.result → get_or c.insert_reserved.new.self.slots other None ≡ get_or c.self.inside.records.slots other None = λ other off.
    c.insert_reserved.ensures.updates.others other (λ e. off (e ∙ key)) ∙ ap (λ (ss : List (Option Kept)). get_or ss other None) slots in
    let more = c.in_ok-insert.ensures.len in
    let room : finite.len (told old).transactions < 32 = subst (λ (t : Table). finite.len (told t).transactions < 32) (sym c.self.view_is) c.requires.few in
    let made = len_made (shown c.self.inside.keys.entries c.self.inside.records.slots) (in_order old c.self.invariant) in
    let few : length c.insert.new.self.entries ≤ 32 = let long = length-shown c.self.inside.keys.entries c.self.inside.records.slots in let least = at_most_one (is_some c.in_ok-insert.field-0) in omega arith in
    let all = begun_as old c.self.invariant c.args.transaction c.vacant_key.result c.insert.new.self.entries c.insert_reserved.new.self.slots c.in_ok-record.record c.in_ok-insert.ensures.entries vacant same put c.in_ok-record.ensures c.in_ok-insert.ensures.ordered few in
    subst (λ (t : Table). Begins c.args.transaction (told t) (told (table c.insert.new.self.entries c.insert_reserved.new.self.slots c.self.inside.since c.self.inside.since_of))) c.self.view_is all.1
