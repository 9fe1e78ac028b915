use Rattle.std.proofs.Common.{◌≡◌, ◌∙◌, ℕ, Bool, true, ap, arith}
use Rattle.std.specs.Prelude.{Ok}
use Rattle.std.proofs.lemmas.Result.{on_ok_weaker}
use Rattle.rss_base.specs.declared.root.Root.{Root}
use Rattle.rss_base.proofs.Moments.{then}
use Rattle.rss_model.specs.Rules.{saved_now}
use Rattle.rss_model.proofs.OpenKeeping.{keeps_meter}
use Rattle.rss_store.proofs.Altered.{fault_passed}
use Rattle.rss_session.proofs.Made.{weighed_again, may_then, makes_then}
use Rattle.rss_session.proofs.Passing.{goes_if, goes_then, checks_failed, checkpoint_later}
use Rattle.rss_store.proofs.Definitions.{same_then}
use Rattle.rss_session.proofs.StaysOpen.{same_listed, same_stay}
use Rattle.rss_session.proofs.session.Session.make.Goals as goal

pub change-requires-2-clause-place : goal.change-requires-2-clause-place
change-requires-2-clause-place g c = omega (arith, c.requires.place, ap (λ (room : ℕ → ℕ). room c.args.transaction) c.in_ok-checkpoint.ensures.anew.places)

pub change-requires-2-clause-weighed : goal.change-requires-2-clause-weighed
change-requires-2-clause-weighed g c =
    let saves : c.args.saves_first ≡ true = c.if-not-saves_first.false in
    weighed_again c.in_ok-checkpoint.ensures.anew c.in_ok-checkpoint.ensures.goes.slots c.args.transaction _ _ (c.requires.weighed ∙ ap (λ (b : Bool). Ok b) saves)

pub returns-clause-makes : goal.returns-clause-makes
returns-clause-makes g c =
    let saves : c.args.saves_first ≡ true = c.if-not-saves_first.false in
    let checkpoint = c.in_ok-checkpoint.ensures in
    let weighed_so = c.requires.weighed ∙ ap (λ (b : Bool). Ok b) saves in
    let goes = weighed_again checkpoint.anew checkpoint.goes.slots c.args.transaction _ _ weighed_so in
    on_ok_weaker c.change-2.result (λ makes told state change by kept shows may.
    let mid = checkpoint.shows told state kept shows in
    let may_mid = may_then checkpoint.anew c.requires.ready checkpoint.ready weighed_so goes state change by shows may mid in
    makes_then checkpoint.anew c.requires.ready checkpoint.ready weighed_so goes state change by shows may mid
    (makes (checkpoint.goes.told.0 told) (record state { meter = saved_now state }) change by (keeps_meter kept (saved_now state)) mid may_mid)) c.change-2.ensures.makes

pub returns-clause-sound : goal.returns-clause-sound
returns-clause-sound g c = λ place is told state change by kept shows may.
    let saves : c.args.saves_first ≡ true = c.if-not-saves_first.false in
    let checkpoint = c.in_ok-checkpoint.ensures in
    let weighed_so = c.requires.weighed ∙ ap (λ (b : Bool). Ok b) saves in
    let goes = weighed_again checkpoint.anew checkpoint.goes.slots c.args.transaction _ _ weighed_so in
    let mid = checkpoint.shows told state kept shows in
    c.change-2.ensures.sound place is (checkpoint.goes.told.0 told) (record state { meter = saved_now state }) change by (keeps_meter kept (saved_now state)) mid
    (may_then checkpoint.anew c.requires.ready checkpoint.ready weighed_so goes state change by shows may mid)

pub returns-clause-moments : goal.returns-clause-moments
returns-clause-moments g c = λ told state kept shows.
    let checkpoint = c.in_ok-checkpoint.ensures in
    then (checkpoint.moments told state kept shows)
    (c.change-2.ensures.moments (checkpoint.goes.told.0 told) (record state { meter = saved_now state }) (keeps_meter kept (saved_now state)) (checkpoint.shows told state kept shows)) (λ image holds. holds)

pub returns-clause-goes : goal.returns-clause-goes
returns-clause-goes g c =
    let change = c.change-2.ensures.goes in
    let moved = ap (λ (r : Root). r.checkpoint) (change.unsaved tt).root ∙ c.in_ok-checkpoint.ensures.anew.checkpoint in
    goes_then (goes_if (λ still. absurd (checkpoint_later c.requires.ready.store _ moved still.1)) c.in_ok-checkpoint.ensures.goes) (goes_if (λ still. tt) change)

pub returns-then-not-saves_first-clause-goes : goal.returns-then-not-saves_first-clause-goes
returns-then-not-saves_first-clause-goes g c = goes_if (λ still. tt) c.change.ensures.goes

pub returns-in_err-checkpoint-clause-goes : goal.returns-in_err-checkpoint-clause-goes
returns-in_err-checkpoint-clause-goes g c = checks_failed c.from_residual.result c.from_residual.ensures.1 c.in_err-checkpoint.ensures.goes

pub returns-clause-stay : goal.returns-clause-stay
returns-clause-stay g c =
    on_ok_weaker c.change-2.result (λ stays u is. stays u (same_stay _ c.in_ok-checkpoint.ensures.anew.transactions u is)) c.change-2.ensures.stay

pub returns-in_err-checkpoint-clause-sound : goal.returns-in_err-checkpoint-clause-sound
returns-in_err-checkpoint-clause-sound g c = λ place is told state change by kept shows may. c.in_err-checkpoint.ensures.sound place (fault_passed c.from_residual.ensures.1 is) told state kept shows

pub returns-clause-listed : goal.returns-clause-listed
returns-clause-listed g c =
    on_ok_weaker c.change-2.result (λ listed. same_then (same_listed c.in_ok-checkpoint.ensures.anew.listing) listed) c.change-2.ensures.listed
