use Rattle.std.proofs.Common.{◌≤◌, length, refl, sym, ◌∙◌, subst, arith}
use Rattle.rss_base.proofs.Calls.{leaves_then}
use Rattle.rss_base.proofs.Moments.{rises_since, drives_then}
use Rattle.rss_trans.specs.Tables.{told}
use Rattle.rss_trans.specs.Transactions.{Transaction}
use Rattle.rss_session.specs.Parts.{view}
use Rattle.rss_session.proofs.Backwards.{begins_back, there, turns_back, none_shown, takes_back, goes_back, keeps_left, goes_left}
use Rattle.rss_session.proofs.Fewer.{put_open}
use Rattle.rss_session.proofs.Passing.{fault_same}
use Rattle.rss_session.proofs.SavePoints.{keeps_saves}
use Rattle.rss_session.proofs.Undone.{taken_shorter}
use Rattle.rss_session.proofs.session.Session.undo_after.Goals as goal

pub loop-position-init : goal.loop-position-init
loop-position-init g c = begins_back (view g.S.Pages.view c.args.self.now) c.args.transaction c.args.save c.requires.ready c.requires.open

pub newest-requires-clause-open : goal.newest-requires-clause-open
newest-requires-clause-open g c = put_open (told c.args.self.now.open) (told c.loop-position.self.open) c.args.transaction _ c.requires.open c.loop-position.invariant.opened.transactions

pub newest-requires-clause-save : goal.newest-requires-clause-save
newest-requires-clause-save g c =
    subst (λ (x : Transaction). c.args.save ≤ length x.saves)
    (sym (there (view g.S.Pages.view c.args.self.now) (view g.S.Pages.view c.loop-position.self) c.args.transaction c.args.save c.loop-position.first c.requires.open c.loop-position.invariant)) c.requires.save

pub returns-in_err-undo_newest-clause-sound : goal.returns-in_err-undo_newest-clause-sound
returns-in_err-undo_newest-clause-sound g c = λ place is on.
    none_shown (view g.S.Pages.view c.args.self.now) (view g.S.Pages.view c.loop-position.self) c.args.transaction c.args.save c.loop-position.first c.requires.open c.loop-position.invariant
    c.in-Some.position (sym c.newest.ensures ∙ c.in-Some.is) on
    (c.in_err-undo_newest.ensures.sound place (fault_same refl c.from_residual.ensures.1 is) (c.loop-position.invariant.leaves.told.0 on))

pub returns-in_err-undo_newest-clause-moments : goal.returns-in_err-undo_newest-clause-moments
returns-in_err-undo_newest-clause-moments g c =
    keeps_left (view g.S.Pages.view c.args.self.now) (view g.S.Pages.view c.undo_newest.new.self) c.requires.ready (leaves_then c.loop-position.invariant.leaves c.undo_newest.ensures.did.step.passes.leaves)

pub returns-in_err-undo_newest-clause-goes : goal.returns-in_err-undo_newest-clause-goes
returns-in_err-undo_newest-clause-goes g c =
    let way = c.loop-position.invariant in
    let did = c.in_err-undo_newest.ensures.did in
    goes_left (view g.S.Pages.view c.args.self.now) (view g.S.Pages.view c.undo_newest.new.self) c.from_residual.result c.requires.ready (leaves_then way.leaves did.step.passes.leaves)
    (drives_then way.drives did.step.passes.drives) (omega (arith, way.later, did.step.passes.later)) (did.root ∙ way.root) (did.step.passes.backing ∙ way.backing)
    (λ is. rises_since way.later (did.failed (fault_same refl c.from_residual.ensures.1 is))) (λ is. did.memory (fault_same refl c.from_residual.ensures.1 is))
    (λ t. omega (arith, keeps_saves _ c.args.transaction _ way.opened.transactions (omega arith) t, c.in_err-undo_newest.ensures.saves t))

pub loop-position-smaller : goal.loop-position-smaller
loop-position-smaller g c = taken_shorter (told c.loop-position.self.open) (told c.undo_newest.new.self.open) c.args.transaction c.args.save c.in-Some.position
    (put_open (told c.args.self.now.open) (told c.loop-position.self.open) c.args.transaction _ c.requires.open c.loop-position.invariant.opened.transactions) (sym c.newest.ensures ∙ c.in-Some.is) c.in_ok-undo_newest.ensures.takes.opened

pub loop-position-preserved : goal.loop-position-preserved
loop-position-preserved g c =
    turns_back (view g.S.Pages.view c.args.self.now) (view g.S.Pages.view c.loop-position.self) c.args.transaction c.args.save c.loop-position.first c.requires.open c.loop-position.invariant
    c.in-Some.position (sym c.newest.ensures ∙ c.in-Some.is) (view g.S.Pages.view c.undo_newest.new.self)
    c.in_ok-undo_newest.ensures.ready c.in_ok-undo_newest.ensures.takes c.in_ok-undo_newest.ensures.back c.undo_newest.ensures.log c.in_ok-undo_newest.ensures.did

pub returns-clause-takes : goal.returns-clause-takes
returns-clause-takes g c =
    takes_back (view g.S.Pages.view c.args.self.now) (view g.S.Pages.view c.loop-position.self) c.args.transaction c.args.save c.loop-position.first c.requires.open c.loop-position.invariant
    (sym c.newest.ensures ∙ c.in_default.is)

pub returns-clause-back : goal.returns-clause-back
returns-clause-back g c = λ on state marks kept has shows.
    goes_back (view g.S.Pages.view c.args.self.now) (view g.S.Pages.view c.loop-position.self) c.args.transaction c.args.save c.loop-position.first c.requires.open c.loop-position.invariant
    (sym c.newest.ensures ∙ c.in_default.is) on state marks has shows

pub returns-clause-moments : goal.returns-clause-moments
returns-clause-moments g c = keeps_left (view g.S.Pages.view c.args.self.now) (view g.S.Pages.view c.loop-position.self) c.requires.ready c.loop-position.invariant.leaves

pub returns-clause-goes : goal.returns-clause-goes
returns-clause-goes g c =
    let way = c.loop-position.invariant in
    goes_left (view g.S.Pages.view c.args.self.now) (view g.S.Pages.view c.loop-position.self) _ c.requires.ready way.leaves way.drives way.later way.root way.backing
    (λ is. absurd (cc (is))) (λ is. absurd (cc (is))) (keeps_saves _ c.args.transaction _ way.opened.transactions (omega arith))
