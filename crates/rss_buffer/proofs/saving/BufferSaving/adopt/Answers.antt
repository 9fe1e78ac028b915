use Rattle.std.proofs.Common.{refl, arith}
use Rattle.rss_base.specs.DiskRule.{Leaves}
use Rattle.rss_base.proofs.Moments.{started}
use Rattle.rss_buffer.proofs.Elsewhere.{buffer_adopted}
use Rattle.rss_buffer.proofs.saving.BufferSaving.adopt.Goals as goal

pub invariant_of-self : goal.invariant_of-self
invariant_of-self g c = record {
  saved_area = λ area is. absurd (cc);
  holds = rw c.adopt.ensures (buffer_adopted c.requires.stage c.requires.half c.args.self.now.holds);
}

pub returns-clause-adopted : goal.returns-clause-adopted
returns-clause-adopted g c =
    let disk = (g.D.Device.view c.args.self.now.device).disk in
    rw c.adopt.ensures (record {
      shadow = refl;
      area = refl;
      settled = refl;
      contents = refl;
      moments = λ told. started disk (Leaves disk);
      writes = refl;
      faults = refl;
    })

pub returns-clause-did : goal.returns-clause-did
returns-clause-did g c =
    rw c.adopt.ensures (record {
      current = refl;
      waiting = λ key is. is;
      held = λ told. refl;
      notes = refl;
      log_pages = refl;
      frames = refl;
      asks = refl;
      told = (λ is. is, λ is. is);
      later = omega arith;
    })
