use Rattle.std.proofs.Common.{rules, ◌≡◌, ◌+◌, arith, subst, sym, set}
use Rattle.rss_base.specs.DiskRule.{page}
use Rattle.rss_device.specs.Memory.{OnlyTouches}
use Rattle.rss_device.specs.MemDevice.{view_of}
use Rattle.rss_device.specs.declared.memory.MemDevice.{MemDevice}
use Rattle.rss_device.proofs.Runs.{touches_more, holds_more}
use Rattle.rss_device.proofs.memory.MemDeviceDevice.write_run.Goals.{then-fails, else-fails+else-is_err}
use Rattle.rss_device.proofs.memory.MemDeviceDevice.write_run.Goals as goal

pub returns-then-is_err-clause-did : goal.returns-then-is_err-clause-did
returns-then-is_err-clause-did c =
    let touched = touches_more (omega arith, omega arith) c.loop-k.invariant.only c.put.ensures.only in
    record { only = touched.only; size = touched.size; writes = search rules; cause = search rules }

pub loop-k-preserved : goal.loop-k-preserved
loop-k-preserved c = elim c.if-fails.branch [
  | then-fails w ↦ record {
    only = subst (λ (m : MemDevice). OnlyTouches _ _ (view_of m)) (sym w.self-is) (touches_more (omega arith, omega arith) c.loop-k.invariant.only w.tear.ensures.only);
    calls = search rules;
    holds = λ fine. search rules;
  }
  | else-fails+else-is_err w ↦ record {
    only = subst (λ (m : MemDevice). OnlyTouches _ _ (view_of m)) (sym w.self-is) (touches_more (omega arith, omega arith) c.loop-k.invariant.only w.put.ensures.only);
    calls = search rules;
    holds = λ fine.
        let wrote : c.if-fails.self.pages.items ≡ set c.loop-k.self.pages.items (c.args.at + c.loop-k.k) (page c.args.from.now c.loop-k.k) = search rules in
        holds_more _ _ c.args.from.now c.args.at c.loop-k.k (omega arith) wrote (c.loop-k.invariant.holds fine);
  }
]
