use Rattle.std.proofs.Common.{refl, sym, arith}
use Rattle.rss_model.proofs.Sparing.{takes_two}
use Rattle.rss_record.proofs.Parsing.{some_bytes}
use Rattle.rss_record.proofs.Records.{record_most}
use Rattle.rss_base.specs.declared.log_record.LogRecord.TheVariants as records
use Rattle.rss_store.specs.Parts.{view as store_view}
use Rattle.rss_store.proofs.Altered.{fault_passed}
use Rattle.rss_session.proofs.SavePoints.{keeps_saves}
use Rattle.rss_session.proofs.StaysOpen.{put_stay}
use Rattle.rss_session.proofs.Taken.{room_next, mapped_two}
use Rattle.rss_session.proofs.Noted.{weighed_goes}
use Rattle.rss_session.proofs.Changed.{ready_noted, makes_noted}
use Rattle.rss_session.proofs.Passing.{keeps_altered, goes_altered, fault_same}
use Rattle.rss_session.proofs.session.Session.change.Goals as goal

pub returns-in_err-position-clause-moments : goal.returns-in_err-position-clause-moments
returns-in_err-position-clause-moments g c = λ told state kept shows. keeps_altered c.requires.ready.store c.in_err-position.ensures.did told state shows.store

pub returns-in_err-position-clause-goes : goal.returns-in_err-position-clause-goes
returns-in_err-position-clause-goes g c = goes_altered c.from_residual.result c.requires.ready.store (fault_same refl c.from_residual.ensures.1) (fault_same refl c.from_residual.ensures.1) c.in_err-position.ensures.did (λ t. omega arith)

pub returns-clause-moments : goal.returns-clause-moments
returns-clause-moments g c = λ told state kept shows. keeps_altered c.requires.ready.store c.in_ok-position.ensures.did told state shows.store

pub returns-clause-goes : goal.returns-clause-goes
returns-clause-goes g c = goes_altered _ c.requires.ready.store (λ is. absurd (cc)) (λ is. absurd (cc)) c.in_ok-position.ensures.did
    (keeps_saves _ c.args.transaction _ c.note.ensures.transactions (omega arith))

pub returns-in_err-position-clause-sound : goal.returns-in_err-position-clause-sound
returns-in_err-position-clause-sound g c = λ place is told state change by kept shows may. c.in_err-position.ensures.sound place (fault_passed c.from_residual.ensures.1 is) told
    (room_next c.args.change c.requires.ready (weighed_goes _ _ _ _ c.requires.weighed) shows) state change by shows.store may

pub returns-clause-ready : goal.returns-clause-ready
returns-clause-ready g c =
    let store = c.in_ok-position.ensures in
    ready_noted c.requires.ready c.requires.«open» (weighed_goes _ _ _ _ c.requires.weighed) store.ready c.note.ensures (sym store.at) store.log (some_bytes (records.Change c.args.transaction c.args.change))
    (takes_two store.did.step (g.met.S.Pages.are_counted c.change.new.self.tuples.pages) (mapped_two (store_view g.S.Pages.view c.args.self.now.store) (store_view g.S.Pages.view c.change.new.self) c.requires.ready.store store.ready store.did.takes)) c.relation_of-relation.ensures store.did.definitions (record { heap = refl; surviving = refl; entries = refl; survived = refl }) store.did.root

pub returns-clause-makes : goal.returns-clause-makes
returns-clause-makes g c = λ told state change by kept shows may.
    let store = c.in_ok-position.ensures in
    makes_noted c.requires.ready c.requires.«open» c.requires.weighed c.note.ensures store.at c.relation_of-relation.ensures c.is_delete-is_delete.ensures store.did.definitions (record { heap = refl; surviving = refl; entries = refl; survived = refl }) state change by shows may
    (store.makes told state change by shows.store may)

pub returns-clause-stay : goal.returns-clause-stay
returns-clause-stay g c = put_stay _ c.args.transaction _ c.note.ensures.transactions

pub returns-clause-appends : goal.returns-clause-appends
returns-clause-appends g c = omega (arith, c.in_ok-position.ensures.log.end, record_most (records.Change c.args.transaction c.args.change) c.requires.bounded)
