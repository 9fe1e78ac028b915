use Rattle.std.proofs.Common.{◌≡◌, length}
use Rattle.rss_model.specs.Generator.{generated}
use Rattle.rss_top.proofs.Written.{Wrote}
use Rattle.rss_top.proofs.generating.write_script.Given as goal

abbrev pub invariant-loop-index : goal.invariant-loop-index
invariant-loop-index g l = record {
  end : l.index-end ≡ length (generated l.fn.number l.fn.count);
  wrote : Wrote (generated l.fn.number l.fn.count) l.index (g.K.Sink.view l.fn.sink) (g.K.Sink.view l.sink);
}
