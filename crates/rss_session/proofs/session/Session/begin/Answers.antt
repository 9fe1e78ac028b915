use Rattle.std.proofs.Common.{arith}
use Rattle.std.proofs.lemmas.Result.{on_ok_weaker, on_err_weaker}
use Rattle.rss_trans.specs.Tables.{told}
use Rattle.rss_trans.specs.Transactions.{nothing}
use Rattle.rss_trans.proofs.Told.{begin_tells}
use Rattle.rss_session.specs.Parts.{view}
use Rattle.rss_session.proofs.Shown.{either, done_nothing, shows_opened, shows_still, ready_with, ready_still}
use Rattle.rss_session.proofs.SavePoints.{same_saves, keeps_saves}
use Rattle.rss_session.proofs.StaysOpen.{same_stay, put_stay}
use Rattle.rss_session.proofs.session.Session.begin.Goals as goal

pub returns-clause-ready : goal.returns-clause-ready
returns-clause-ready g c =
    let old = view g.S.Pages.view c.args.self.now in
    let opened = told c.begin.new.self in
    either c.begin.result c.begin.ensures.ok c.begin.ensures.err
    (λ begins. ready_with {view = old} opened c.args.transaction nothing c.requires.ready c.ranges.transaction.fits begins.transactions begins.since begins.since_of (done_nothing old.opened c.args.transaction c.requires.closed))
    (λ same. ready_still {view = old} opened same c.requires.ready)

pub returns-clause-begins : goal.returns-clause-begins
returns-clause-begins g c =
    let old = view g.S.Pages.view c.args.self.now in
    let opened = told c.begin.new.self in
    on_ok_weaker c.begin.result (λ begins state shows.
    shows_opened {view = old} opened _ shows
    (begin_tells old.store.catalog.listing old.opened opened state.marks shows.listed c.args.transaction shows.told c.requires.closed begins)
    begins.since begins.since_of) c.begin.ensures.ok

pub returns-clause-same : goal.returns-clause-same
returns-clause-same g c =
    on_err_weaker c.begin.result (shows_still {view = view g.S.Pages.view c.args.self.now} (told c.begin.new.self)) c.begin.ensures.err

pub returns-clause-saves : goal.returns-clause-saves
returns-clause-saves g c =
    either c.begin.result c.begin.ensures.ok c.begin.ensures.err
    (λ begins. keeps_saves _ c.args.transaction nothing begins.transactions (omega arith))
    (λ same. same_saves _ same.transactions)

pub returns-clause-stay : goal.returns-clause-stay
returns-clause-stay g c =
    either c.begin.result c.begin.ensures.ok c.begin.ensures.err
    (λ begins. put_stay _ c.args.transaction nothing begins.transactions)
    (λ same. same_stay _ same.transactions)
