use Rattle.std.proofs.Common.{length}
use Rattle.rss_trans.specs.Tables.{told}
use Rattle.rss_trans.specs.Transactions.{transaction_in}
use Rattle.rss_session.specs.Parts.{view}
use Rattle.rss_session.proofs.Backwards.{WayBack}
use Rattle.rss_session.proofs.session.Session.undo_after.Given as goal

abbrev pub invariant-loop-position : goal.invariant-loop-position
invariant-loop-position g l = WayBack l.transaction l.save (view g.S.Pages.view l.initial.self) (view g.S.Pages.view l.self) l.first

abbrev pub decreases-loop-position : goal.decreases-loop-position
decreases-loop-position g l = length (transaction_in (told l.self.open) l.transaction).changes
