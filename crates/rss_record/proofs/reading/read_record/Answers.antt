use Rattle.std.proofs.Common.{sym, ◌∙◌, ap, arith}
use Rattle.rss_record.specs.Reading.{record_at}
use Rattle.rss_record.proofs.Records.{refuses, begins, record_most}
use Rattle.rss_record.proofs.reading.read_record.Goals as goal

pub returns-in_err-record-clause-none : goal.returns-in_err-record-clause-none
returns-in_err-record-clause-none c = rw c.from_residual.ensures (refuses c.args.bytes.now (ap record_at (sym c.new-fields.ensures) ∙ c.in_err-record.ensures))

pub overflow_sub-size : goal.overflow_sub-size
overflow_sub-size c = (begins c.args.bytes.now c.in_ok-record.record c.read.new.fields c.len.result (λ i. omega (arith, c.type_inv.bytes i)) (ap record_at (sym c.new-fields.ensures) ∙ c.in_ok-record.ensures) c.len.ensures).2

pub overflow_cast-size : goal.overflow_cast-size
overflow_cast-size c =
    let found = begins c.args.bytes.now c.in_ok-record.record c.read.new.fields c.len.result (λ i. omega (arith, c.type_inv.bytes i)) (ap record_at (sym c.new-fields.ensures) ∙ c.in_ok-record.ensures) c.len.ensures in
    omega (arith, found.1, record_most c.in_ok-record.record found.0.spellable.bounded)

pub returns-clause-found : goal.returns-clause-found
returns-clause-found c = (begins c.args.bytes.now c.in_ok-record.record c.read.new.fields c.len.result (λ i. omega (arith, c.type_inv.bytes i)) (ap record_at (sym c.new-fields.ensures) ∙ c.in_ok-record.ensures) c.len.ensures).0

pub returns-clause-size : goal.returns-clause-size
returns-clause-size c = (begins c.args.bytes.now c.in_ok-record.record c.read.new.fields c.len.result (λ i. omega (arith, c.type_inv.bytes i)) (ap record_at (sym c.new-fields.ensures) ∙ c.in_ok-record.ensures) c.len.ensures).1
