use Rattle.rss_base.specs.declared.place.Place.TheVariants.{Log as LogPlace}
use Rattle.rss_store.specs.Parts.{view}
use Rattle.rss_store.proofs.Begun.{changed_view, mid_system, mid_ready, went_back, begins_damaged, begins_unrestarted, finds_no_room, begins_saved, is_true, not_true}
use Rattle.rss_store.proofs.RoomsAtRest.{room_twice}
use Rattle.rss_store.proofs.Spelled.{can_alter}
use Rattle.rss_store.proofs.store.DurableStore.recover.Goals as goal

pub restart-requires-clause-may : goal.restart-requires-clause-may
restart-requires-clause-may g c = can_alter c.requires.ready

-- ---- restart fails

pub returns-in_err-restart : goal.returns-in_err-restart
returns-in_err-restart g c = begins_unrestarted c.from_residual.result c.from_residual.ensures.1 c.requires.ready c.in_err-restart.ensures.did (λ place is told. c.in_err-restart.ensures.sound place is told)

-- ---- there is no room

pub returns-then-not-has_room : goal.returns-then-not-has_room
returns-then-not-has_room g c =
    begins_damaged (LogPlace c.args.self.now.root.checkpoint) (went_back c.requires.ready c.in_ok-restart.ensures.did)
    (finds_no_room c.requires.ready c.in_ok-restart.ensures.did (g.met.S.Pages.holds c.restart.new.tuples.pages) c.in_ok-restart.ensures.recovers (λ room. not_true (c.has_room.ensures.1 room) c.if-not-has_room.true))

-- ---- a checkpoint is taken

pub checkpoint-requires-clause-ready : goal.checkpoint-requires-clause-ready
checkpoint-requires-clause-ready g c = mid_ready c.requires.ready c.in_ok-restart.ensures.did c.in_ok-restart.ensures.still

pub checkpoint-requires-clause-half : goal.checkpoint-requires-clause-half
checkpoint-requires-clause-half g c = room_twice {view = changed_view (view g.S.Pages.view c.args.self.now) (g.S.Pages.view c.restart.new.tuples.pages) c.restart.new.catalog} (mid_system c.requires.ready c.in_ok-restart.ensures.did) (c.has_room.ensures.0 (is_true c.if-not-has_room.false))

pub has_room-requires : goal.has_room-requires
has_room-requires g c = mid_ready c.requires.ready c.in_ok-restart.ensures.did c.in_ok-restart.ensures.still

pub returns : goal.returns
returns g c =
    begins_saved c.requires.ready c.in_ok-restart.ensures.did (g.met.S.Pages.holds c.restart.new.tuples.pages)
    (c.has_room.ensures.0 (is_true c.if-not-has_room.false)) c.in_ok-restart.ensures.recovers c.new.result c.new.ensures (view g.S.Pages.view c.checkpoint.new.self) c.checkpoint.result
    (λ told image left settled. g.met.S.Pages.stays c.checkpoint.new.self.tuples.pages settled told image left)
    c.checkpoint.ensures.ready c.checkpoint.ensures.saved c.checkpoint.ensures.shows c.checkpoint.ensures.moments c.checkpoint.ensures.saves c.checkpoint.ensures.listing c.checkpoint.ensures.did
