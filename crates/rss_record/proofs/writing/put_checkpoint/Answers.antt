use Rattle.std.proofs.Common.{length, ap, arith}
use Rattle.rss_record.proofs.Marks.{mark_put, mark_fits, length-marks_bytes}
use Rattle.rss_record.proofs.writing.put_checkpoint.Goals as goal

pub loop-by-preserved : goal.loop-by-preserved
loop-by-preserved c = record {
  long = omega arith;
  end = omega arith;
  puts = mark_put c.as_slice-marks.result.now c.loop-by.by-index _ _ _ c.loop-by-test.true (omega (arith, ap length c.as_slice-marks.ensures.marks)) c.loop-by.invariant.end (omega arith) (omega arith) (omega arith) c.loop-by.invariant.puts c.put_u32-end.ensures.written c.put_u64-end.ensures.written;
  fits = mark_fits c.as_slice-marks.result.now c.loop-by.by-index (0, 0) c.loop-by-test.true c.loop-by.invariant.fits (omega arith, omega arith);
}

pub returns-clause-end : goal.returns-clause-end
returns-clause-end c = omega (arith, length-marks_bytes c.args.marks.now, ap length c.as_slice-marks.ensures.marks)
