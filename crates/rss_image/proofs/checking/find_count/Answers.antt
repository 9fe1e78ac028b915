use Rattle.std.proofs.Common.{ℕ, sym, subst}
use Rattle.rss_base.proofs.Steps.{done}
use Rattle.rss_levels.specs.Rows.{HoldsAt}
use Rattle.rss_image.specs.Trees.{cells_of}
use Rattle.rss_image.specs.Fitting.{IsFine}
use Rattle.rss_image.proofs.Calls.{lent_page}
use Rattle.rss_image.proofs.Fits.{fine_holds, never_fits}
use Rattle.rss_image.proofs.Results.{in_some}
use Rattle.rss_image.proofs.checking.find_count.Goals as goal

pub returns-clause-some : goal.returns-clause-some
returns-clause-some g c = in_some c.count_in.result (λ count fits told.
    let of = c.args.of in
    let old = g.P.Pages.view c.args.pages.now in
    let there = lent_page of c.args.number c.node_key-key.result c.loaded.result.now old _ c.in_ok-load.ensures.did.step c.node_key-key.ensures c.loaded.ensures told in
    let node = fits.node in
    record {
      next = node.next;
      entries = node.entries;
      holds = subst (λ (n : ℕ). HoldsAt (IsFine of n) (cells_of of old.held) c.args.level c.args.number node.next node.entries) c.slots-slots.ensures (fine_holds of c.slots-slots.result c.args.level c.args.number old.held c.loaded.result.now node there fits.spelled fits.is fits.fit);
      filled = fits.filled;
      count_is = fits.count_is;
    }) c.count_in.ensures.some

pub returns-clause-none : goal.returns-clause-none
returns-clause-none g c = λ is told next entries holds many.
    let of = c.args.of in
    let old = g.P.Pages.view c.args.pages.now in
    let there = lent_page of c.args.number c.node_key-key.result c.loaded.result.now old _ c.in_ok-load.ensures.did.step c.node_key-key.ensures c.loaded.ensures told in
    never_fits of c.slots-slots.result c.args.level c.args.number c.args.fewest old.held c.loaded.result.now there (c.count_in.ensures.none is) next entries
    (subst (λ (n : ℕ). HoldsAt (IsFine of n) (cells_of of old.held) c.args.level c.args.number next entries) (sym c.slots-slots.ensures) holds) many

pub returns-clause-did : goal.returns-clause-did
returns-clause-did g c = done _ c.in_ok-load.ensures.did.step
