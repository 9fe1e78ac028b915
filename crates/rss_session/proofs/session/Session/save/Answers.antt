use Rattle.std.proofs.Common.{ℕ, List, [], ◌∷◌, ◌++◌, length, refl, ap, subst, arith}
use Rattle.std.specs.FinMap.{insert}
use Rattle.std.proofs.lemmas.Result.{on_err_weaker}
use Rattle.rss_model.specs.Changes.{Change, own}
use Rattle.rss_trans.specs.Told.{TellsOpen}
use Rattle.rss_trans.specs.Tables.{told}
use Rattle.rss_trans.specs.Transactions.{transaction_in, with_save}
use Rattle.rss_trans.proofs.Told.{save_tells}
use Rattle.rss_trans.proofs.Asked.{saves_told}
use Rattle.rss_session.specs.Parts.{view}
use Rattle.rss_session.proofs.Shown.{either, if_ok_with, shows_opened, shows_still, ready_with, ready_still}
use Rattle.rss_session.proofs.SavePoints.{same_saves, put_saves, one_more}
use Rattle.rss_session.proofs.StaysOpen.{same_stay, put_stay}
use Rattle.rss_session.proofs.session.Session.save.Goals as goal

pub returns-clause-ready : goal.returns-clause-ready
returns-clause-ready g c =
    let old = view g.S.Pages.view c.args.self.now in
    let opened = told c.save.new.self in
    either c.save.result c.save.ensures.ok c.save.ensures.err
    (λ steps. ready_with {view = old} opened c.args.transaction (with_save (transaction_in old.opened c.args.transaction)) c.requires.ready c.ranges.transaction.fits steps.transactions steps.since steps.since_of refl)
    (λ same. ready_still {view = old} opened same c.requires.ready)

pub returns-clause-saves : goal.returns-clause-saves
returns-clause-saves g c =
    let old = view g.S.Pages.view c.args.self.now in
    let opened = told c.save.new.self in
    if_ok_with c.save.result c.save.ensures.number c.save.ensures.ok (λ save number steps state marks has shows.
    let saves = saves_told old.store.catalog.listing old.opened state.marks shows.listed c.args.transaction marks shows.told has in (
      omega (arith, number, ap (λ (ms : List ℕ). length ms) saves),
      shows_opened {view = old} opened _ shows
          (subst (λ (cs : List Change). TellsOpen old.store.catalog.listing opened (insert state.marks c.args.transaction (marks ++ length (own c.args.transaction cs) ∷ [])) shows.listed) shows.list.changes_are
          (save_tells old.store.catalog.listing old.opened opened state.marks shows.listed c.args.transaction marks shows.told has steps))
          steps.since steps.since_of,
    ))

pub returns-clause-same : goal.returns-clause-same
returns-clause-same g c =
    on_err_weaker c.save.result (shows_still {view = view g.S.Pages.view c.args.self.now} (told c.save.new.self)) c.save.ensures.err

pub returns-clause-more : goal.returns-clause-more
returns-clause-more g c =
    let old = told c.args.self.now.open in
    either c.save.result c.save.ensures.ok c.save.ensures.err
    (λ steps. put_saves _ c.args.transaction 1 _ steps.transactions (one_more (transaction_in old c.args.transaction)))
    (λ same t. omega (arith, same_saves _ same.transactions t))

pub returns-clause-stay : goal.returns-clause-stay
returns-clause-stay g c =
    either c.save.result c.save.ensures.ok c.save.ensures.err
    (λ steps. put_stay _ c.args.transaction _ steps.transactions)
    (λ same. same_stay _ same.transactions)
