use Rattle.std.proofs.Common.{◌≡◌, ℕ, ◌<◌, ◌≤◌, length, rules, arith}
use Rattle.rss_base.specs.Layout.{log_at}
use Rattle.rss_buffer.specs.Devices.{buffer_view}
use Rattle.rss_buffer.proofs.Elsewhere.{buffer_after, unsynced-area, unsynced-at}
use Rattle.rss_buffer.proofs.Turns.{KeepsPages-rests}
use Rattle.rss_buffer.proofs.Saves.{saving_wrote}
use Rattle.rss_buffer.proofs.saving.BufferSaving.write_piece.Goals as goal

pub invariant_of-self : goal.invariant_of-self
invariant_of-self g c =
    let buffer = c.args.self.now in
    let did = c.write.ensures.did in
    let below : (q : ℕ) → q ≡ c.args.at → q < buffer.first_slot = λ q is. omega (arith, buffer.holds.laid_out.place) in
    let past : (q : ℕ) → q ≡ c.args.at → log_at (length buffer.shadow.current) ≤ q = λ q is. omega arith in
    record {
      saved_area = rw c.unsynced-self.ensures (unsynced-area buffer.stage buffer.saved_area);
      holds = rw c.unsynced-self.ensures (buffer_after buffer.holds did.size below did.only (unsynced-at {b = buffer_view buffer} (g.D.Device.view c.write.new.self) past buffer.saved_area did.only buffer.holds.at_stage));
    }

pub returns-in_err-write-clause-did : goal.returns-in_err-write-clause-did
returns-in_err-write-clause-did g c =
    let buffer = c.args.self.now in
    let did = c.write.ensures.did in
    saving_wrote (g.D.Device.view c.write.new.self) (KeepsPages-rests (buffer_view buffer)) (λ q is. omega (arith, is, buffer.holds.laid_out.place)) did.only did.cause (search rules) (search rules)

pub returns-clause-did : goal.returns-clause-did
returns-clause-did g c =
    let buffer = c.args.self.now in
    let did = c.write.ensures.did in
    saving_wrote (g.D.Device.view c.write.new.self) (KeepsPages-rests (buffer_view buffer)) (λ q is. omega (arith, is, buffer.holds.laid_out.place)) did.only did.cause tt (search rules)
