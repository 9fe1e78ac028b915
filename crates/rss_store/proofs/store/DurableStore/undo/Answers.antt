use Rattle.std.proofs.Common.{refl, subst}
use Rattle.rss_base.specs.declared.change.Change as told
use Rattle.rss_stored.proofs.LogTurning.{changes_turn_back}
use Rattle.rss_access.specs.Changes.{HasRoomFor}
use Rattle.rss_restart.proofs.Moving.{told_once}
use Rattle.rss_store.specs.Changing.{access}
use Rattle.rss_store.specs.Stores.{StoreView}
use Rattle.rss_store.specs.Parts.{view}
use Rattle.rss_store.proofs.Altered.{alters_made, alters_nothing, ready_by}
use Rattle.rss_store.proofs.Turning.{may_be_undone, takes_by}
use Rattle.rss_store.proofs.Spelled.{can_alter}
use Rattle.rss_store.proofs.store.DurableStore.undo.Goals as goal

pub undo-requires : goal.undo-requires
undo-requires g c = record { may = can_alter c.requires.ready }

pub returns-in_default-clause-sound : goal.returns-in_default-clause-sound
returns-in_default-clause-sound g c = λ place is told told_change tells room state t n own way. c.in_default.ensures.none told_change tells

pub returns-in_default-clause-did : goal.returns-in_default-clause-did
returns-in_default-clause-did g c = alters_nothing (view g.S.Pages.view c.args.self.now) _

pub returns-clause-ready : goal.returns-clause-ready
returns-clause-ready g c =
    let new : StoreView = record { pages = g.S.Pages.view c.undo.new.tuples.pages; catalog = c.undo.new.catalog; log = c.args.self.now.log; root = c.args.self.now.root; number = c.args.self.now.number } in
    ready_by (view g.S.Pages.view c.args.self.now) new c.undo.result c.undo.ensures.makes refl refl c.requires.ready c.requires.ready.log

pub returns-clause-takes : goal.returns-clause-takes
returns-clause-takes g c =
    let new : StoreView = record { pages = g.S.Pages.view c.undo.new.tuples.pages; catalog = c.undo.new.catalog; log = c.args.self.now.log; root = c.args.self.now.root; number = c.args.self.now.number } in
    takes_by (view g.S.Pages.view c.args.self.now) new c.args.position c.undo.result changes_turn_back c.requires.ready c.in-Some.ensures.some c.undo.ensures.makes c.undo.ensures.undoes refl refl refl (g.met.S.Pages.are_counted c.undo.new.tuples.pages)

pub returns-clause-sound : goal.returns-clause-sound
returns-clause-sound g c = λ place is on told_change tells room state t n own way.
    let there = subst (λ (one : told.Change). HasRoomFor (access (view g.S.Pages.view c.args.self.now)) one) (told_once tells c.in-Some.ensures.some) room in
    may_be_undone changes_turn_back c.requires.ready state t n c.args.position own way c.in-Some.ensures.some (c.undo.ensures.sound place is on there)

pub returns-clause-did : goal.returns-clause-did
returns-clause-did g c = alters_made c.undo.ensures.makes refl refl
