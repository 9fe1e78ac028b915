use Rattle.std.proofs.Common.{rules, ◌≡◌, ◌+◌, arith, set}
use Rattle.rss_base.specs.DiskRule.{page}
use Rattle.rss_device.proofs.Runs.{touches_more, holds_more}
use Rattle.rss_device.proofs.step_device.StepDeviceDevice.write_run.Goals as goal

pub returns-then-is_err-clause-did : goal.returns-then-is_err-clause-did
returns-then-is_err-clause-did c =
    let touched = touches_more (omega arith, omega arith) c.loop-k.invariant.only c.put.ensures.only in
    record { only = touched.only; size = touched.size; writes = search rules; cause = search rules }

pub loop-k-preserved : goal.loop-k-preserved
loop-k-preserved c = record {
  only = touches_more (omega arith, omega arith) c.loop-k.invariant.only c.put.ensures.only;
  holds =
      let wrote : c.put.new.self.pages.items ≡ set c.loop-k.self.pages.items (c.args.at + c.loop-k.k) (page c.args.from.now c.loop-k.k) = search rules in
      holds_more _ _ c.args.from.now c.args.at c.loop-k.k (omega arith) wrote c.loop-k.invariant.holds;
}
