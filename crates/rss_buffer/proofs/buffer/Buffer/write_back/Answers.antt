use Rattle.std.proofs.Common.{rules, ℕ, ◌+◌, ◌≤◌, length, refl, ap, arith}
use Rattle.rss_buffer.proofs.Runs.{run_of, holds-run, run_waits, run_settled, waits-settled, IsBuffer-failed, KeepsPages-failed, IsBuffer-written, KeepsPages-written}
use Rattle.rss_buffer.proofs.Turns.{WritesPages-none}
use Rattle.rss_buffer.proofs.Waits.{settles-run, writes-run}
use Rattle.rss_buffer.specs.Devices.{buffer_view}
use Rattle.rss_frames.specs.Frames.{frame_in}
use Rattle.rss_buffer.specs.Gathered.{AreSettled}
use Rattle.rss_buffer.proofs.buffer.Buffer.write_back.Goals as goal

-- ---- the page of the slot isn't in memory, or wasn't changed

pub returns-then-count-eq0-clause-did : goal.returns-then-count-eq0-clause-did
returns-then-count-eq0-clause-did g c = WritesPages-none _ refl

-- ---- the write fails

pub invariant_of-self-in-Break-1 : goal.invariant_of-self-in-Break-1
invariant_of-self-in-Break-1 g c =
    let self = c.args.self.now in
    let run = c.gather-count.new.self.pages.items in
    let few : c.gather-count.result ≤ length run = omega (arith, c.gather-count.new.self.room, c.gather-count.ensures.few) in
    let place = ap (λ (n : ℕ). self.first_slot + n) c.from.ensures in
    let did = c.write_run.ensures.did in
    let writes = run_of {b = buffer_view self} run c.current-owners.ensures.current c.gather-count.ensures.gathered (omega (arith, c.if-count-eq0.false)) few c.first.ensures place did in
    record { saved_area = self.saved_area; holds = IsBuffer-failed self.holds writes did.size }

pub returns-in_err-write_run-clause-did : goal.returns-in_err-write_run-clause-did
returns-in_err-write_run-clause-did g c =
    let self = c.args.self.now in
    let run = c.gather-count.new.self.pages.items in
    let few : c.gather-count.result ≤ length run = omega (arith, c.gather-count.new.self.room, c.gather-count.ensures.few) in
    let place = ap (λ (n : ℕ). self.first_slot + n) c.from.ensures in
    let did = c.write_run.ensures.did in
    let writes = run_of {b = buffer_view self} run c.current-owners.ensures.current c.gather-count.ensures.gathered (omega (arith, c.if-count-eq0.false)) few c.first.ensures place did in
    record {
      keeps = KeepsPages-failed self.holds writes (omega (arith, g.met.D.Device.limited self.device, c.write_run.ensures.counts)) did.cause.later;
      outs = refl;
      settles = search rules;
      few = writes-run _ _ (run_waits self.holds writes) writes.few;
      fault = search rules;
      cause = search rules;
    }

-- ---- it is written

pub invariant_of-self-2 : goal.invariant_of-self-2
invariant_of-self-2 g c =
    let self = c.args.self.now in
    let run = c.gather-count.new.self.pages.items in
    let few : c.gather-count.result ≤ length run = omega (arith, c.gather-count.new.self.room, c.gather-count.ensures.few) in
    let place = ap (λ (n : ℕ). self.first_slot + n) c.from.ensures in
    let did = c.write_run.ensures.did in
    let writes = run_of {b = buffer_view self} run c.current-owners.ensures.current c.gather-count.ensures.gathered (omega (arith, c.if-count-eq0.false)) few c.first.ensures place did in
    let settled : AreSettled self.shadow.current c.args.slot c.gather-count.result (frame_in self.frames) (frame_in c.settle.new.frames) = rw (← c.current-owners.ensures.current) c.settle.ensures.settled in
    record {
      saved_area = self.saved_area;
      holds = rw c.settle.ensures.room (IsBuffer-written self.holds writes settled did.size (holds-run run c.first.ensures few place did.only.told.1 c.in_ok-write_run.ensures.written));
    }

pub returns-clause-did : goal.returns-clause-did
returns-clause-did g c =
    let self = c.args.self.now in
    let run = c.gather-count.new.self.pages.items in
    let few : c.gather-count.result ≤ length run = omega (arith, c.gather-count.new.self.room, c.gather-count.ensures.few) in
    let place = ap (λ (n : ℕ). self.first_slot + n) c.from.ensures in
    let did = c.write_run.ensures.did in
    let writes = run_of {b = buffer_view self} run c.current-owners.ensures.current c.gather-count.ensures.gathered (omega (arith, c.if-count-eq0.false)) few c.first.ensures place did in
    let settled : AreSettled self.shadow.current c.args.slot c.gather-count.result (frame_in self.frames) (frame_in c.settle.new.frames) = rw (← c.current-owners.ensures.current) c.settle.ensures.settled in
    let waits = run_waits self.holds writes in
    record {
      keeps = rw c.settle.ensures.room (KeepsPages-written self.holds writes settled (omega (arith, g.met.D.Device.limited self.device, c.write_run.ensures.counts)) did.cause.later);
      outs = refl;
      settles = settles-run waits (run_settled self.holds writes settled) (waits-settled self.holds writes settled) writes.few;
      few = writes-run _ _ waits writes.few;
      fault = tt;
      cause = search rules;
    }
