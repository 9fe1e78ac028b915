use Rattle.std.proofs.Common.{inl, inr, ⊎_elim, sym, subst}
use Rattle.rss_base.proofs.Moments.{widened}
use Rattle.rss_model.specs.Machine.{StoreSize}
use Rattle.rss_model.specs.Steps.{redefined}
use Rattle.rss_store.specs.Shown.{HoldsTables}
use Rattle.rss_session.specs.Parts.{view}
use Rattle.rss_store.proofs.Nexts.{on_ok_both}
use Rattle.rss_session.proofs.Passing.{on_ok_behind}
use Rattle.rss_session.proofs.Redefined.{may_redefine, can_redefine, room_redefined, shows_redefined}
use Rattle.rss_session.proofs.session.Session.redefine.Goals as goal

pub save_all-requires-clause-may : goal.save_all-requires-clause-may
save_all-requires-clause-may g c = may_redefine c.requires.ready c.requires.closed

pub returns-clause-shows : goal.returns-clause-shows
returns-clause-shows g c =
    let self = c.args.self.now in
    let all = c.save_all.ensures in
    on_ok_both c.save_all.result (λ store behind told state next is.
    let held = g.met.S.Pages.holds self.store.tuples.pages told in
    let can = can_redefine c.requires.ready c.requires.closed is held in
    shows_redefined c.requires.ready c.requires.closed is held (store told is.behind.stored (redefined next state) can).shows
    behind.saved behind.checkpoints behind.anew behind.ready.store.size)
    all.shows (on_ok_behind (view g.S.Pages.view self) (view g.S.Pages.view c.save_all.new.self) c.save_all.result all.ready all.saved all.checkpoints all.anew)

pub returns-clause-moments : goal.returns-clause-moments
returns-clause-moments g c = λ told state next is.
    let self = c.args.self.now in
    let store = is.behind in
    let can = can_redefine c.requires.ready c.requires.closed is (g.met.S.Pages.holds self.store.tuples.pages told) in
    widened (c.save_all.ensures.moments told store.stored (redefined next state) can)
    (λ image. ⊎_elim
    (λ was. inl (record { stored = store.stored; store = was; same_size = store.tied.size; holds = sym store.tied.tables }))
    (λ saved. inr (subst (λ (size : StoreSize). HoldsTables size next image) (sym can.size) saved)))

pub returns-clause-sound : goal.returns-clause-sound
returns-clause-sound g c = λ place is told state next redefined_so.
    c.save_all.ensures.sound place is told (room_redefined c.requires.ready c.requires.closed redefined_so (g.met.S.Pages.holds c.args.self.now.store.tuples.pages told))
