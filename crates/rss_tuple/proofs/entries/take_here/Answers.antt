use Rattle.std.proofs.Common.{◌∙◌, arith}
use Rattle.rss_base.proofs.Steps.{then, then_call, widens}
use Rattle.rss_tuple.proofs.Seen.{on_ok_then}
use Rattle.rss_tuple.proofs.Sets.{sets_taken, none_held, edits_fails}
use Rattle.rss_tuple.proofs.entries.take_here.Goals as goal

pub returns : goal.returns
returns g c =
    let old = g.P.Pages.view c.args.pages.now in
    let took = c.in_ok-take_at.ensures.did.step in
    record {
      sets = on_ok_then c.fill.result (λ fills told.
          let none = none_held (old.held c.args.key) (g.met.P.Pages.holds c.args.pages.now told c.args.key ∙ c.requires.unmapped) in
          sets_taken c.args.key c.args.slot c.args.body.now old (g.P.Pages.view c.take_at.new.self) (g.P.Pages.view c.fill.new.pages) none fills (took.passes.leaves.told.0 told) (then took c.fill.ensures.did.step) (c.requires.may.formed told) told)
          c.fill.ensures.fills;
      did = widens (λ key there. there) (omega arith) (omega arith) (then_call took c.fill.ensures.did);
    }

pub returns-in_err-take_at : goal.returns-in_err-take_at
returns-in_err-take_at g c = edits_fails _ c.from_residual.ensures.1 (λ key none. absurd none) (omega arith) (omega arith) c.in_err-take_at.ensures.did
