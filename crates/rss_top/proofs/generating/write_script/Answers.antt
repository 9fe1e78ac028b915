use Rattle.std.proofs.Common.{refl, ◌∙◌, arith}
use Rattle.rss_top.proofs.Written.{wrote_lacks, wrote_more, wrote_cut}
use Rattle.rss_top.proofs.generating.write_script.Goals as goal

pub returns-in_default : goal.returns-in_default
returns-in_default g c = wrote_lacks c.loop-index.index c.loop-index.invariant.wrote

pub returns-in_default-write_all : goal.returns-in_default-write_all
returns-in_default-write_all g c =
    wrote_cut c.loop-index.index (omega (arith, c.loop-index.invariant.end, c.loop-index-test.true)) c.as_slice.result.now (c.as_slice.ensures ∙ c.in-Ok.ensures) c.loop-index.invariant.wrote
    c.write_all.ensures.cause.later c.write_all.ensures.front (c.in_default-write_all.ensures.cause.failed refl)

pub loop-index-preserved : goal.loop-index-preserved
loop-index-preserved g c = record {
  end = c.loop-index.invariant.end;
  wrote = wrote_more c.loop-index.index (omega (arith, c.loop-index.invariant.end, c.loop-index-test.true)) c.as_slice.result.now (c.as_slice.ensures ∙ c.in-Ok.ensures) c.loop-index.invariant.wrote
      c.write_all.ensures.cause.later c.in-Ok-write_all.ensures.takes;
}
