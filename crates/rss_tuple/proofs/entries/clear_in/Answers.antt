use Rattle.std.proofs.Common.{◌≡◌, true, false, arith}
use Rattle.rss_base.proofs.Steps.{done, widens}
use Rattle.rss_page.specs.Content.{Empty}
use Rattle.rss_tuple.proofs.Sets.{sets_written, sets_given, edits_fails, read_copied}
use Rattle.rss_tuple.proofs.entries.clear_in.Goals as goal

pub returns-then-is_vacant : goal.returns-then-is_vacant
returns-then-is_vacant g c =
    let gave = c.in_ok-give.ensures in
    record {
      sets = λ told.
          let read = read_copied c.requires.header.space c.requires.formed c.requires.copied told in
          sets_given c.args.key c.args.slot Empty c.args.page.now c.remove.new.page _ _ read c.requires.low (c.remove.ensures.becomes read.formed.slotted)
          (c.is_vacant.ensures.vacant c.if-is_vacant.true) gave.given gave.did.step (c.requires.formed told) told;
      did = widens (λ key there. there) (omega arith) (omega arith) (done _ gave.did.step);
    }

pub returns-in_err-write : goal.returns-in_err-write
returns-in_err-write g c = edits_fails _ c.from_residual-in_err-write.ensures.1 (λ key none. absurd none) (omega arith) (omega arith) c.in_err-write.ensures.did

pub returns : goal.returns
returns g c =
    let wrote = c.in_ok-write.ensures in
    record {
      sets = λ told.
          let read = read_copied c.requires.header.space c.requires.formed c.requires.copied told in
          sets_written c.args.key c.args.slot Empty c.args.page.now c.remove.new.page _ _ read c.requires.low (c.remove.ensures.becomes read.formed.slotted)
          (λ vacant. let never : c.is_vacant.result ≡ true = c.is_vacant.ensures.exact (c.remove.ensures.becomes read.formed.slotted).slotted vacant in let not : c.is_vacant.result ≡ false = c.if-is_vacant.false in absurd (cc))
          (λ body is. absurd (cc))
          wrote.written wrote.did.step (c.requires.formed told) told;
      did = widens (λ key there. there) (omega arith) (omega arith) (done _ wrote.did.step);
    }

pub returns-in_err-give : goal.returns-in_err-give
returns-in_err-give g c = edits_fails _ c.from_residual.ensures.1 (λ key none. absurd none) (omega arith) (omega arith) c.in_err-give.ensures.did
