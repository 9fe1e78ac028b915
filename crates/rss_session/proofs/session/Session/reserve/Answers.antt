use Rattle.rss_session.specs.Parts.{view}
use Rattle.rss_trans.specs.Tables.{told}
use Rattle.rss_session.proofs.Shown.{ready_still, shows_still, weighed_still}
use Rattle.rss_session.proofs.SavePoints.{same_saves}
use Rattle.rss_session.proofs.StaysOpen.{same_stay}
use Rattle.rss_session.proofs.session.Session.reserve.Goals as goal

pub returns-clause-ready : goal.returns-clause-ready
returns-clause-ready g c = ready_still {view = view g.S.Pages.view c.args.self.now} (told c.reserve.new.self) c.reserve.ensures.same c.requires.ready

pub returns-clause-shows : goal.returns-clause-shows
returns-clause-shows g c = shows_still {view = view g.S.Pages.view c.args.self.now} (told c.reserve.new.self) c.reserve.ensures.same

pub returns-clause-weighs : goal.returns-clause-weighs
returns-clause-weighs g c = weighed_still (view g.S.Pages.view c.args.self.now) (told c.reserve.new.self) c.reserve.ensures.same c.args.transaction

pub returns-clause-saves : goal.returns-clause-saves
returns-clause-saves g c = same_saves _ c.reserve.ensures.same.transactions

pub returns-clause-stay : goal.returns-clause-stay
returns-clause-stay g c = same_stay _ c.reserve.ensures.same.transactions
