use Rattle.std.proofs.Common.{sym, subst}
use Rattle.rss_session.specs.Parts.{view as session_view}
use Rattle.rss_rsi.specs.Views.{AllMayGoOn}
use Rattle.rss_rsi.proofs.Scans.{ready_scans}
use Rattle.rss_rsi.proofs.Taken.{ready_locks}
use Rattle.rss_lock.specs.Table.{told}
use Rattle.rss_rsi.proofs.engine.Rss.new.Goals as goal

pub invariant_of-result : goal.invariant_of-result
invariant_of-result g c = record {
  ready = λ up.
      let may = subst (AllMayGoOn c.args.session.store.catalog.listing (session_view g.S.Pages.view c.args.session).opened) (sym c.requires.none_scanned) c.requires.ready.scans in
      ready_scans _ may (ready_locks (told c.new.result) c.new.ensures c.requires.ready);
}
