use Rattle.std.proofs.Common.{rules, ◌≡◌, true, false, arith}
use Rattle.std.specs.Option.{is_some}
use Rattle.rss_base.specs.TupleTypes.{kinds}
use Rattle.rss_value.proofs.Spelling.{read_more, none_read, all_fields_read, is_that_test}
use Rattle.rss_value.proofs.codec.spells.Goals as goal

pub loop-field-preserved : goal.loop-field-preserved
loop-field-preserved c =
    let some : is_some c.read.result ≡ true = search rules in
    read_more c.args.fields.now _ c.loop-field.field-index _ _ _ c.read.result (omega arith) c.loop-field.invariant (rw c.form.ensures at c.read.ensures) some

pub returns-then-is_none-clause-exact : goal.returns-then-is_none-clause-exact
returns-then-is_none-clause-exact c =
    let none : is_some c.read.result ≡ false = search rules in
    (λ wrong. absurd (search rules), λ some. absurd (none_read c.args.fields.now _ c.loop-field.field-index _ _ _ c.read.result (omega arith) c.loop-field.invariant (rw c.form.ensures at c.read.ensures) none some))

pub returns-then-is_none-clause-read : goal.returns-then-is_none-clause-read
returns-then-is_none-clause-read c = is_that_test (kinds c.args.fields.now) c.args.bytes.now false (returns-then-is_none-clause-exact c)

pub returns-clause-exact : goal.returns-clause-exact
returns-clause-exact c =
    let all = all_fields_read c.args.fields.now _ c.loop-field.field-index _ (omega arith) c.loop-field.invariant in
    (λ holds. all.0 (c.is_at_end.ensures.0 holds), λ some. c.is_at_end.ensures.1 (all.1 some))

pub returns-clause-read : goal.returns-clause-read
returns-clause-read c = is_that_test (kinds c.args.fields.now) c.args.bytes.now c.is_at_end.result (returns-clause-exact c)
