use Rattle.std.proofs.Common.{◌≤◌, ◌-◌, length, take}
use Rattle.rss_base.specs.Streams.{Takes}
use Rattle.rss_base.proofs.sink.write_all.Given as goal

abbrev pub invariant-loop-done : goal.invariant-loop-done
invariant-loop-done g l = record {
  in_range : l.done ≤ length l.bytes;
  takes : Takes (g.K.Sink.view l.initial.sink).bytes (take l.done l.bytes) (g.K.Sink.view l.sink).bytes;
  no_fewer : (g.K.Sink.view l.initial.sink).faults ≤ (g.K.Sink.view l.sink).faults;
}

abbrev pub decreases-loop-done : goal.decreases-loop-done
decreases-loop-done g l = length l.initial.bytes - l.done
