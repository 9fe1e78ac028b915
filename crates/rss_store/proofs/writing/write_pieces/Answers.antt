use Rattle.std.proofs.Common.{◌≡◌, ℕ, ◌+◌, ◌/◌, ◌%◌, ◌<◌, ◌≤◌, List, take, drop, set, Some, refl, sym, ◌∙◌, ap, subst, arith}
use Rattle.std.proofs.Math.Nat.{mod-lt}
use Rattle.rss_base.specs.DiskRule.{IsAt, WritesIn, Told}
use Rattle.rss_base.specs.Sizes.{piece_bytes}
use Rattle.rss_base.specs.Layout.{log_at}
use Rattle.rss_base.specs.LogPages.{IsNewPiece}
use Rattle.rss_base.specs.Paged.{Backing}
use Rattle.rss_base.proofs.Moments.{writes_none, writes_then, writes_one}
use Rattle.rss_buffer.proofs.SavingSteps.{saving_then}
use Rattle.rss_log.specs.Logs.{piece_of}
use Rattle.rss_store.proofs.Pieces.{front_piece, head_low, at_new, none_held, one_more, no_step, saving_failed, slots_still, unsynced_still}
use Rattle.rss_store.proofs.writing.write_pieces.Goals as goal

pub loop-number-init : goal.loop-number-init
loop-number-init g c = record {
  first = c.log_at-first.ensures;
  ring = c.from-ring.ensures;
  low = omega arith;
  written = λ pages told. none_held c.args.root.now c.args.log.now pages;
  only = writes_none _;
  stage = λ other. refl;
  backing = refl;
  writes = omega arith;
  did = no_step _ _;
}

pub pieces-requires-clause-low : goal.pieces-requires-clause-low
pieces-requires-clause-low g c = omega (arith, c.loop-number.invariant.low, head_low c.requires.formed c.requires.behind)

pub write_piece-requires-clause-low : goal.write_piece-requires-clause-low
write_piece-requires-clause-low g c =
    let slots = slots_still c.loop-number.invariant.did (g.met.S.Saving.saveable c.args.pages.now) (g.met.S.Saving.saveable c.loop-number.pages) in
    omega (arith, c.loop-number.invariant.first, ap log_at (slots ∙ c.requires.slots))

pub write_piece-requires-clause-high : goal.write_piece-requires-clause-high
write_piece-requires-clause-high g c =
    let slots = slots_still c.loop-number.invariant.did (g.met.S.Saving.saveable c.args.pages.now) (g.met.S.Saving.saveable c.loop-number.pages) in
    let log_pages = ap (λ (b : Backing). b.log_pages) c.loop-number.invariant.backing ∙ c.requires.log_pages in
    let some : 0 < c.from-ring.result = omega (arith, c.loop-number.invariant.ring, c.requires.formed.log_least) in
    omega (arith, c.loop-number.invariant.first, ap log_at (slots ∙ c.requires.slots), c.loop-number.invariant.ring, log_pages, mod-lt c.loop-number.number some)

pub returns-in_err-write_piece-clause-only : goal.returns-in_err-write_piece-clause-only
returns-in_err-write_piece-clause-only g c =
    let root = c.args.root.now in
    let number : ℕ = c.loop-number.number in
    let at : c.log_at-first.result + number % c.from-ring.result ≡ log_at root.slots + number % root.log_pages = λ i. c.loop-number.invariant.first i + number % c.loop-number.invariant.ring i in
    let high : number < c.args.log.now.end / piece_bytes = omega (arith, c.end-number-end.ensures.end, c.loop-number-test.true) in
    writes_then c.loop-number.invariant.only (writes_one (subst (IsNewPiece root c.args.log.now.end) (sym at) (at_new c.requires.formed c.requires.behind number c.loop-number.invariant.low high)) c.write_piece.ensures.only)

pub returns-in_err-write_piece-clause-writes : goal.returns-in_err-write_piece-clause-writes
returns-in_err-write_piece-clause-writes g c = omega (arith, c.loop-number.invariant.writes, c.write_piece.ensures.writes, c.end-number-end.ensures.end, c.loop-number-test.true, c.loop-number.invariant.low)

pub returns-in_err-write_piece-clause-did : goal.returns-in_err-write_piece-clause-did
returns-in_err-write_piece-clause-did g c = saving_failed _ c.from_residual.ensures.1 c.loop-number.invariant.did c.in_err-write_piece.ensures.did

pub returns-clause-writes : goal.returns-clause-writes
returns-clause-writes g c =
    let order : c.args.root.now.end / 4000 ≤ c.end-number-end.result / 4000 = omega (arith, c.end-number-end.ensures.end, c.requires.behind.later) in
    omega (arith, c.loop-number.invariant.writes, c.loop-number.auto.number-end order, c.end-number-end.ensures.end, order)

pub loop-number-preserved : goal.loop-number-preserved
loop-number-preserved g c =
    let root = c.args.root.now in
    let log = c.args.log.now in
    let before = c.loop-number.invariant in
    let write = c.in_ok-write_piece.ensures in
    let number : ℕ = c.loop-number.number in
    let at : c.log_at-first.result + number % c.from-ring.result ≡ log_at root.slots + number % root.log_pages = λ i. before.first i + number % before.ring i in
    let high : number < log.end / piece_bytes = omega (arith, c.end-number-end.ensures.end, c.loop-number-test.true) in
    let page : List ℕ = c.pieces.new.into in
    let front : take piece_bytes page ≡ piece_of log number = front_piece log number (drop piece_bytes c.loop-number.page) page c.requires.behind.is_log (omega (arith, before.low, head_low c.requires.formed c.requires.behind)) high c.pieces.ensures in
    record {
      first = before.first;
      ring = before.ring;
      low = omega (arith, before.low);
      written = one_more c.requires.formed c.requires.behind number page before.low high front
          (subst (λ (n : ℕ). WritesIn (IsAt n) (g.S.Pages.view c.loop-number.pages).disk (g.S.Pages.view c.write_piece.new.self).disk) at write.only)
          (subst (λ (n : ℕ). Told (g.S.Pages.view c.loop-number.pages).disk (λ pages. (g.S.Pages.view c.write_piece.new.self).disk.contents ≡ Some (set pages n page))) at write.written)
          before.written;
      only = writes_then before.only (writes_one (subst (IsNewPiece root log.end) (sym at) (at_new c.requires.formed c.requires.behind number before.low high)) write.only);
      stage = λ other.
          let is = before.stage other in
          write.stage ∙ unsynced_still _ (λ switched. other (sym is ∙ switched)) ∙ is;
      backing = write.backing ∙ before.backing;
      writes = omega (arith, before.writes, write.writes, before.low);
      did = saving_then before.did write.did.step;
    }
