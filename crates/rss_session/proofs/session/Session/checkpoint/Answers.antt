use Rattle.std.proofs.Common.{⊎_elim, sym, subst}
use Rattle.std.proofs.lemmas.Result.{on_ok_weaker}
use Rattle.rss_base.proofs.Moments.{widened}
use Rattle.rss_model.specs.Machine.{StoreSize}
use Rattle.rss_model.specs.Rules.{saved_now}
use Rattle.rss_store.specs.Shown.{HoldsTables}
use Rattle.rss_session.specs.Parts.{view}
use Rattle.rss_store.proofs.Nexts.{on_ok_both}
use Rattle.rss_session.proofs.Saved.{saves_ready, can_save, shows_saved}
use Rattle.rss_session.proofs.Passing.{on_ok_behind}
use Rattle.rss_session.proofs.Weighed.{has_saved_room}
use Rattle.rss_session.proofs.session.Session.checkpoint.Goals as goal

pub returns-clause-shows : goal.returns-clause-shows
returns-clause-shows g c =
    let self = c.args.self.now in
    let all = c.save_all.ensures in
    on_ok_both c.save_all.result (λ store behind told state kept shows.
    let held = g.met.S.Pages.holds self.store.tuples.pages told in
    let can = can_save (saves_ready c.requires.ready) all.few c.requires.ready c.requires.may kept shows held in
    shows_saved (saves_ready c.requires.ready) all.few c.requires.ready c.requires.may kept shows held (store told shows.store.stored (record state { meter = saved_now state }) can).shows
    behind.saved behind.checkpoints behind.anew behind.ready.store.size)
    all.shows (on_ok_behind (view g.S.Pages.view self) (view g.S.Pages.view c.save_all.new.self) c.save_all.result all.ready all.saved all.checkpoints all.anew)

pub returns-clause-stands : goal.returns-clause-stands
returns-clause-stands g c =
    let self = c.args.self.now in
    on_ok_weaker c.save_all.result (λ stands told state kept shows.
    let can = can_save (saves_ready c.requires.ready) c.save_all.ensures.few c.requires.ready c.requires.may kept shows (g.met.S.Pages.holds self.store.tuples.pages told) in
    stands told shows.store.stored (record state { meter = saved_now state }) can)
    c.save_all.ensures.shows

pub returns-clause-moments : goal.returns-clause-moments
returns-clause-moments g c = λ told state kept shows.
    let self = c.args.self.now in
    let can = can_save (saves_ready c.requires.ready) c.save_all.ensures.few c.requires.ready c.requires.may kept shows (g.met.S.Pages.holds self.store.tuples.pages told) in
    widened (c.save_all.ensures.moments told shows.store.stored (record state { meter = saved_now state }) can)
    (λ image. ⊎_elim
    (λ was. record { stored = shows.store.stored; store = was; same_size = shows.store.tied.size; holds = sym shows.store.tied.tables })
    (λ saved. subst (λ (size : StoreSize). HoldsTables size state.base image) (sym can.size) saved))

pub returns-clause-sound : goal.returns-clause-sound
returns-clause-sound g c = λ place is told state kept shows.
    let self = c.args.self.now in
    c.save_all.ensures.sound place is told (has_saved_room c.requires.ready shows (g.met.S.Pages.holds self.store.tuples.pages told) c.requires.may)
