use Rattle.std.proofs.Common.{take, drop, sym, rules, take-append-drop}
use Rattle.rss_base.proofs.Flows.{takes_kept, takes_more}
use Rattle.rss_base.proofs.sink.write_all.Goals as goal

pub returns-in_err-done-clause-front : goal.returns-in_err-done-clause-front
returns-in_err-done-clause-front g c = record {
  front = take c.loop-done.done c.args.bytes.now;
  back = drop c.loop-done.done c.args.bytes.now;
  parts = sym (take-append-drop c.loop-done.done c.args.bytes.now);
  takes = takes_kept _ _ _ _ c.loop-done.invariant.takes c.in_err-done.ensures.failed;
}

pub loop-done-preserved : goal.loop-done-preserved
loop-done-preserved g c = record {
  in_range = search rules;
  takes = takes_more _ _ _ c.args.bytes.now c.loop-done.done c.in_ok-done.field-0 c.loop-done.invariant.takes c.in_ok-done.ensures.takes;
  no_fewer = search rules;
}

pub returns-clause-front : goal.returns-clause-front
returns-clause-front g c = record {
  front = take c.loop-done.done c.args.bytes.now;
  back = drop c.loop-done.done c.args.bytes.now;
  parts = sym (take-append-drop c.loop-done.done c.args.bytes.now);
  takes = c.loop-done.invariant.takes;
}
