use Rattle.std.proofs.Common.{refl, ap}
use Rattle.rss_model.specs.Spares.{page_counts}
use Rattle.rss_model.specs.Steps.{left_at}
use Rattle.rss_trans.specs.Tables.{told}
use Rattle.rss_store.specs.Parts.{view as store_view}
use Rattle.rss_store.proofs.Altered.{fault_passed}
use Rattle.rss_session.specs.Parts.{view}
use Rattle.rss_session.specs.Sessions.{SessionView}
use Rattle.rss_session.proofs.Restored.{still_open, save_there, restore_room, ready_restored, ready_unchanged, restores_some, restores_none, undone_own, none_own}
use Rattle.rss_session.proofs.Passing.{goes_still}
use Rattle.rss_session.proofs.SavePoints.{cut_saves}
use Rattle.rss_catalog.specs.Catalogs.{CatalogView}
use Rattle.rss_store.proofs.Definitions.{same_then}
use Rattle.rss_session.proofs.StaysOpen.{put_stay, same_listed}
use Rattle.rss_session.proofs.session.Session.restore.Goals as goal

pub cut-requires-clause-open : goal.cut-requires-clause-open
cut-requires-clause-open g c = still_open (view g.S.Pages.view c.args.self.now) (view g.S.Pages.view c.undo_after.new.self) c.args.transaction c.args.save c.in_ok-first.first c.requires.ready c.requires.open c.in_ok-first.ensures.takes

pub cut-requires-clause-save : goal.cut-requires-clause-save
cut-requires-clause-save g c = save_there (view g.S.Pages.view c.args.self.now) (view g.S.Pages.view c.undo_after.new.self) c.args.transaction c.args.save c.in_ok-first.first c.requires.ready c.requires.open c.in_ok-first.ensures.takes c.requires.save

pub cut-requires-in-Some-clause-room : goal.cut-requires-in-Some-clause-room
cut-requires-in-Some-clause-room g c =
    restore_room (view g.S.Pages.view c.args.self.now) (view g.S.Pages.view c.undo_after.new.self) c.args.transaction c.args.save c.in_ok-first.first c.requires.ready c.requires.open c.in_ok-first.ensures.takes
    c.in-Some.first c.in-Some.is c.requires.early

pub returns-in-Some-clause-ready : goal.returns-in-Some-clause-ready
returns-in-Some-clause-ready g c =
    let mid = view g.S.Pages.view c.undo_after.new.self in
    let new : SessionView = record { store = store_view g.S.Pages.view c.cut-in-Some.new.self; opened = told c.cut.new.self; heap = mid.heap; surviving = mid.surviving; entries = mid.entries; survived = mid.survived } in
    ready_restored (view g.S.Pages.view c.args.self.now) mid c.args.transaction c.args.save c.in_ok-first.first c.requires.ready c.requires.open c.in_ok-first.ensures.takes
    new c.in_ok-first.ensures.ready (record { heap = refl; surviving = refl; entries = refl; survived = refl }) c.cut-in-Some.ensures.catalog (ap (λ p. page_counts (g.S.Pages.view p)) c.cut-in-Some.ensures.pages) c.cut-in-Some.ensures.ready c.cut.ensures c.in-Some.first c.in-Some.is c.cut-in-Some.ensures.log

pub returns-in-Some-clause-shows : goal.returns-in-Some-clause-shows
returns-in-Some-clause-shows g c = λ on state marks kept has shows.
    let old = view g.S.Pages.view c.args.self.now in
    let mid = view g.S.Pages.view c.undo_after.new.self in
    let new : SessionView = record { store = store_view g.S.Pages.view c.cut-in-Some.new.self; opened = told c.cut.new.self; heap = mid.heap; surviving = mid.surviving; entries = mid.entries; survived = mid.survived } in
    let back = c.in_ok-first.ensures.back on state marks kept has shows in
    restores_some old mid new c.args.transaction c.args.save c.in_ok-first.first state marks kept has shows back c.cut.ensures (record { heap = refl; surviving = refl; entries = refl; survived = refl }) c.cut-in-Some.ensures.catalog
    c.in-Some.first c.in-Some.is (undone_own old mid c.args.transaction c.args.save c.in_ok-first.first state marks has shows c.in_ok-first.ensures.takes c.in-Some.first c.in-Some.is) (c.cut-in-Some.ensures.cuts (c.in_ok-first.ensures.goes.told.0 on))

pub returns-in_default-clause-ready : goal.returns-in_default-clause-ready
returns-in_default-clause-ready g c =
    let mid = view g.S.Pages.view c.undo_after.new.self in
    let new : SessionView = record { store = mid.store; opened = told c.cut.new.self; heap = mid.heap; surviving = mid.surviving; entries = mid.entries; survived = mid.survived } in
    ready_unchanged (view g.S.Pages.view c.args.self.now) mid c.args.transaction c.args.save c.in_ok-first.first c.requires.ready c.requires.open c.in_ok-first.ensures.takes
    new c.in_ok-first.ensures.ready (record { heap = refl; surviving = refl; entries = refl; survived = refl }) refl refl c.in_ok-first.ensures.ready.store c.cut.ensures refl

pub returns-in_default-clause-shows : goal.returns-in_default-clause-shows
returns-in_default-clause-shows g c = λ on state marks kept has shows.
    let old = view g.S.Pages.view c.args.self.now in
    let mid = view g.S.Pages.view c.undo_after.new.self in
    let new : SessionView = record { store = mid.store; opened = told c.cut.new.self; heap = mid.heap; surviving = mid.surviving; entries = mid.entries; survived = mid.survived } in
    let back = c.in_ok-first.ensures.back on state marks kept has shows in
    let takes = c.in_ok-first.ensures.takes in
    restores_none old mid new c.args.transaction c.args.save c.in_ok-first.first state marks kept has shows back c.cut.ensures (record { heap = refl; surviving = refl; entries = refl; survived = refl }) refl
    (none_own mid c.args.transaction (left_at marks c.args.save) c.in_ok-first.first state back c.in_default.is) refl takes.root takes.backing

pub returns-in-Some-clause-goes : goal.returns-in-Some-clause-goes
returns-in-Some-clause-goes g c =
    goes_still _ c.in_ok-first.ensures.goes (λ i. g.S.Pages.view (c.cut-in-Some.ensures.pages i)) c.cut-in-Some.ensures.root
    (cut_saves _ c.args.transaction c.args.save c.cut.ensures.transactions)

pub returns-in_default-clause-goes : goal.returns-in_default-clause-goes
returns-in_default-clause-goes g c = goes_still _ c.in_ok-first.ensures.goes refl refl (cut_saves _ c.args.transaction c.args.save c.cut.ensures.transactions)

pub returns-in-Some-clause-stay : goal.returns-in-Some-clause-stay
returns-in-Some-clause-stay g c = λ u is. put_stay _ c.args.transaction _ c.cut.ensures.transactions u (put_stay _ c.args.transaction _ c.in_ok-first.ensures.takes.opened.transactions u is)

pub returns-in_default-clause-stay : goal.returns-in_default-clause-stay
returns-in_default-clause-stay g c = λ u is. put_stay _ c.args.transaction _ c.cut.ensures.transactions u (put_stay _ c.args.transaction _ c.in_ok-first.ensures.takes.opened.transactions u is)

pub returns-in_err-first-clause-sound : goal.returns-in_err-first-clause-sound
returns-in_err-first-clause-sound g c = λ place is on. c.in_err-first.ensures.sound place (fault_passed c.from_residual.ensures.1 is) on

pub returns-in-Some-clause-listed : goal.returns-in-Some-clause-listed
returns-in-Some-clause-listed g c = same_then c.in_ok-first.ensures.takes.listed (same_listed (ap (λ (catalog : CatalogView). catalog.listing) c.cut-in-Some.ensures.catalog))
