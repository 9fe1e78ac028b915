use Rattle.std.proofs.Common.{[], ◌∷◌, arith}
use Rattle.std.proofs.lemmas.List.{length-append}
use Rattle.rss_record.specs.Reading.{marks_at}
use Rattle.rss_record.proofs.Marks.{goes_on, stops, is_done}
use Rattle.rss_record.proofs.fields.Fields.marks.Goals as goal

pub returns-in_err-mark : goal.returns-in_err-mark
returns-in_err-mark c = rw c.from_residual-in_err-mark.ensures (stops c.loop.marks c.from-count.result c.loop.counter c.loop.self (marks_at c.args.self.now) c.loop-test.true (c.in_err-mark.ensures) c.loop.invariant.read)

pub loop-preserved : goal.loop-preserved
loop-preserved c = rw c.push.ensures (record {
  few = c.loop.invariant.few;
  long = omega (arith, c.loop.invariant.long, length-append c.loop.marks (c.in_ok-mark.mark ∷ []));
  read = goes_on c.loop.marks c.from-count.result c.loop.counter c.loop.self c.in_ok-mark.mark c.mark.new.self (marks_at c.args.self.now) c.loop-test.true (c.in_ok-mark.ensures) c.loop.invariant.read;
})

pub returns : goal.returns
returns c = is_done c.loop.marks c.from-count.result c.loop.counter c.loop.self (marks_at c.args.self.now) c.loop-test.false c.loop.invariant.read
