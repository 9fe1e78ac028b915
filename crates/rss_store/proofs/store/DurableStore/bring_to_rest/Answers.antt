use Rattle.rss_base.specs.declared.place.Place.TheVariants.{Log as LogPlace}
use Rattle.rss_store.specs.Parts.{view}
use Rattle.rss_store.proofs.Begun.{read_rests, went_nowhere, begins_damaged, begins_rested, finds_none, finds_full, is_true, not_true}
use Rattle.rss_store.proofs.store.DurableStore.bring_to_rest.Goals as goal

pub returns-then-has_room-clause-did : goal.returns-then-has_room-clause-did
returns-then-has_room-clause-did g c =
    begins_rested c.requires.ready c.requires.saved (g.met.S.Pages.holds c.args.self.now.tuples.pages) (g.met.S.Pages.stays c.args.self.now.tuples.pages c.requires.ready.settled_now)
    (c.has_room.ensures.0 (is_true c.if-has_room.true)) (c.in-Some-true.ensures.some.0 (is_true c.in-Some-true.field-0-test))

pub returns-else-has_room-clause-did : goal.returns-else-has_room-clause-did
returns-else-has_room-clause-did g c =
    begins_damaged (LogPlace c.args.self.now.root.checkpoint) (went_nowhere (view g.S.Pages.view c.args.self.now))
    (λ told. finds_full c.requires.ready c.requires.saved (g.met.S.Pages.holds c.args.self.now.tuples.pages) (g.met.S.Pages.stays c.args.self.now.tuples.pages c.requires.ready.settled_now)
    (c.in-Some-true.ensures.some.0 (is_true c.in-Some-true.field-0-test)) (λ room. not_true (c.has_room.ensures.1 room) c.if-has_room.false))

pub returns-in-Some-false-clause-rested : goal.returns-in-Some-false-clause-rested
returns-in-Some-false-clause-rested g c = λ stored read rested. absurd (not_true (c.in-Some-false.ensures.some.1 (read_rests read rested)) c.in-Some-false.field-0-test)

pub returns-in-None-clause-did : goal.returns-in-None-clause-did
returns-in-None-clause-did g c = begins_damaged (LogPlace c.args.self.now.root.checkpoint) (went_nowhere (view g.S.Pages.view c.args.self.now)) (λ told. finds_none c.requires.ready c.in-None.ensures.none)
