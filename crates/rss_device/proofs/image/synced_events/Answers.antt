use Rattle.std.proofs.Common.{ℕ, inl, inr, take, sym, subst, refl, arith}
use Rattle.std.proofs.lemmas.Bool.{cases_lt}
use Rattle.rss_device.specs.Stop.{IsSettled, nothing}
use Rattle.rss_device.specs.declared.event.Event.TheVariants.{Synced}
use Rattle.rss_device.proofs.Images.{synced_now, unsynced_at, unsynced_rest}
use Rattle.rss_device.proofs.image.synced_events.Goals.{then-syncs, else-syncs}
use Rattle.rss_device.proofs.image.synced_events.Goals as goal

pub loop-i-init : goal.loop-i-init
loop-i-init c = record { within = omega arith; settled = nothing; unsynced = λ k ge lt. absurd (omega arith) }

pub loop-i-preserved : goal.loop-i-preserved
loop-i-preserved c = elim c.if-syncs.branch [
  | then-syncs w ↦ record {
    within = omega (arith, w.synced-is);
    settled = synced_now c.args.events.now c.loop-i.i c.if-syncs.synced _ w.synced-is c.loop-i-test.true (w.if-syncs.ensures.sync refl);
    unsynced = λ k ge lt. absurd (omega (arith, w.synced-is));
  }
  | else-syncs w ↦ record {
    within = omega (arith, w.synced-is, c.loop-i.invariant.within);
    settled = subst (λ (n : ℕ). IsSettled (take n c.args.events.now)) (sym w.synced-is) c.loop-i.invariant.settled;
    unsynced = λ k ge lt. elim (cases_lt k c.loop-i.i) [
      | inl before ↦ c.loop-i.invariant.unsynced k (omega (arith, w.synced-is)) before
      | inr here ↦ unsynced_at c.args.events.now k c.loop-i.i _ Synced (omega arith) c.loop-i-test.true (w.if-syncs.ensures.other refl)
    ];
  }
]

pub returns-clause-unsynced : goal.returns-clause-unsynced
returns-clause-unsynced c = unsynced_rest c.args.events.now c.loop-i.synced (λ k ge lt. c.loop-i.invariant.unsynced k ge (omega arith))
