use Rattle.std.proofs.Common.{arith}
use Rattle.rss_base.proofs.Steps.{done, widens}
use Rattle.rss_page.specs.Content.{Content, Forward}
use Rattle.rss_page.specs.Slotted.{Sets}
use Rattle.rss_tuple.proofs.Sets.{entry_set, sets_written, set_some, edits_fails}
use Rattle.rss_tuple.proofs.entries.put_forward.Goals as goal

pub returns : goal.returns
returns g c =
    let may = c.requires.may in
    let wrote = c.in_ok-write.ensures in
    let to : Content = Forward c.args.to.page c.args.to.slot in
    let sets : Sets c.args.page.now c.forward_at.new.page c.args.slot to = c.forward_at.ensures.becomes in
    let here = entry_set c.args.page.now c.forward_at.new.page c.args.slot to may.low sets.holds in
    record {
      sets = λ told. sets_written c.args.key c.args.slot to c.args.page.now c.forward_at.new.page _ _ may.read may.low sets
          (set_some c.forward_at.new.page c.args.slot to (λ is. absurd (cc)) here)
          (λ body is. absurd (cc))
          wrote.written wrote.did.step (may.formed told) told;
      did = widens (λ key there. there) (omega arith) (omega arith) (done _ wrote.did.step);
    }

pub returns-in_err-write : goal.returns-in_err-write
returns-in_err-write g c = edits_fails _ c.from_residual.ensures.1 (λ key none. absurd none) (omega arith) (omega arith) c.in_err-write.ensures.did
