use Rattle.std.proofs.Common.{refl, arith}
use Rattle.rss_model.proofs.Sparing.{takes_two}
use Rattle.rss_trans.specs.Tables.{told}
use Rattle.rss_store.specs.Parts.{view as store_view}
use Rattle.rss_store.proofs.Altered.{fault_passed}
use Rattle.rss_session.specs.Parts.{view}
use Rattle.rss_session.specs.Sessions.{SessionView}
use Rattle.rss_session.proofs.Fewer.{placed_at}
use Rattle.rss_session.proofs.Undone.{ready_undone, back_one}
use Rattle.rss_session.proofs.SavePoints.{keeps_saves}
use Rattle.rss_session.proofs.Taken.{mapped_two}
use Rattle.rss_session.proofs.session.Session.undo_newest.Goals as goal

pub undo-requires-clause-low : goal.undo-requires-clause-low
undo-requires-clause-low g c = (placed_at _ _ c.requires.newest.older c.args.position _ c.requires.newest.place (c.requires.ready.placed c.args.transaction)).0

pub undo-requires-clause-high : goal.undo-requires-clause-high
undo-requires-clause-high g c = let at = placed_at _ _ c.requires.newest.older c.args.position _ c.requires.newest.place (c.requires.ready.placed c.args.transaction) in omega (arith, at.1)

pub returns-clause-ready : goal.returns-clause-ready
returns-clause-ready g c =
    let old = view g.S.Pages.view c.args.self.now in
    let new : SessionView = record { store = store_view g.S.Pages.view c.undo.new.self; opened = told c.take_newest.new.self; heap = old.heap; surviving = old.surviving; entries = old.entries; survived = old.survived } in
    let did = c.in_ok-undo.ensures.did in
    ready_undone old new c.args.transaction c.args.position c.requires.ready c.requires.open c.requires.newest c.take_newest.ensures (record { heap = refl; surviving = refl; entries = refl; survived = refl }) did.definitions c.in_ok-undo.ensures.ready c.undo.ensures.log
    (takes_two did.step (g.met.S.Pages.are_counted c.undo.new.self.tuples.pages) (mapped_two old.store new.store c.requires.ready.store c.in_ok-undo.ensures.ready did.takes))

pub returns-clause-back : goal.returns-clause-back
returns-clause-back g c = λ on state n count own shows.
    let old = view g.S.Pages.view c.args.self.now in
    let new : SessionView = record { store = store_view g.S.Pages.view c.undo.new.self; opened = told c.take_newest.new.self; heap = old.heap; surviving = old.surviving; entries = old.entries; survived = old.survived } in
    back_one old new c.args.transaction c.args.position c.requires.ready c.requires.open c.requires.newest c.take_newest.ensures (record { heap = refl; surviving = refl; entries = refl; survived = refl }) state n count c.in_ok-undo.ensures.did.definitions (c.in_ok-undo.ensures.takes on) own shows

pub returns-clause-saves : goal.returns-clause-saves
returns-clause-saves g c = keeps_saves _ c.args.transaction _ c.take_newest.ensures.transactions (omega arith)

pub returns-in_err-undo-clause-sound : goal.returns-in_err-undo-clause-sound
returns-in_err-undo-clause-sound g c = λ place is on. c.in_err-undo.ensures.sound place (fault_passed c.from_residual.ensures.1 is) on
