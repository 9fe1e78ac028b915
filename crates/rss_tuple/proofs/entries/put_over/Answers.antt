use Rattle.std.proofs.Common.{◌≡◌, ◌≤◌, ℕ, List, length, subst, arith}
use Rattle.rss_base.proofs.Steps.{done, widens}
use Rattle.rss_page.specs.Content.{Here}
use Rattle.rss_tuple.proofs.Sets.{entry_set, sets_written, set_some, edits_fails, read_copied}
use Rattle.rss_tuple.proofs.entries.put_over.Goals as goal

pub returns-in_err-write : goal.returns-in_err-write
returns-in_err-write g c = edits_fails _ c.from_residual.ensures.1 (λ key none. absurd none) (omega arith) (omega arith) c.in_err-write.ensures.did

pub returns : goal.returns
returns g c =
    let may = c.requires.may in
    let wrote = c.in_ok-write.ensures in
    record {
      sets = λ told.
          let read = read_copied may.header.space may.formed may.copied told in
          let sets = (c.overwrite.ensures read.formed.slotted (c.requires.own.beside read.formed.slotted)).becomes in
          let here = entry_set c.args.page.now c.overwrite.new.page c.args.slot (Here c.args.body.now) may.low sets.holds in
          sets_written c.args.key c.args.slot (Here c.args.body.now) c.args.page.now c.overwrite.new.page _ _ read may.low sets
          (set_some c.overwrite.new.page c.args.slot (Here c.args.body.now) (λ is. absurd (cc)) here)
          (λ body is. let same : c.args.body.now ≡ body = cc in subst (λ (b : List ℕ). length b ≤ 2400) same c.requires.length.most)
          wrote.written wrote.did.step (may.formed told) told;
      did = widens (λ key there. there) (omega arith) (omega arith) (done _ wrote.did.step);
    }
