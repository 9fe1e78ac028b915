use Rattle.std.proofs.Common.{refl}
use Rattle.rss_model.specs.Refusals.{unless_spot}
use Rattle.rss_model.specs.Machine.{State}
use Rattle.rss_rsi.specs.Parts.{parts_of, session_of}
use Rattle.rss_rsi.proofs.LinkEnds.{passed_test, test_damaged, test_fails, test_passes, test_refused}
use Rattle.rss_rsi.proofs.Looks.{ready_looked}
use Rattle.rss_rsi.proofs.Places.{spot_left, spot_named, spot_none, spot_there}
use Rattle.rss_rsi.proofs.engine.Rss.find_spot.Goals as goal

pub returns-in_err-found-clause-ends : goal.returns-in_err-found-clause-ends
returns-in_err-found-clause-ends g c = passed_test c.from_residual.result c.from_residual.ensures.1 (test_fails (λ (state : State). unless_spot state c.args.link.now c.args.parent c.args.spot.now) _ c.in_err-found.ensures.looks (λ up. absurd (cc (up))))

pub invariant_of-self-in_default : goal.invariant_of-self-in_default
invariant_of-self-in_default g c = record { ready = λ up. ready_looked (parts_of c.args.self.now) _ {found = c.in_ok-found.found} (c.args.self.now.ready c.requires.up) c.in_ok-found.ensures.looks (record { locks = refl; scans = refl }) }

pub returns-in_default-clause-ends : goal.returns-in_default-clause-ends
returns-in_default-clause-ends g c = test_refused (λ (state : State). unless_spot state c.args.link.now c.args.parent c.args.spot.now) c.not_connected.result c.not_connected.ensures.is c.in_ok-found.ensures.looks refl
    (spot_none (session_of c.args.self.now) c.args.link.now c.args.number c.requires.known c.args.parent c.args.spot.now c.in_ok-found.found c.in_ok-found.ensures.finds c.in_default.is) c.not_connected.ensures.short refl

pub returns-in_err-test_slot-clause-ends : goal.returns-in_err-test_slot-clause-ends
returns-in_err-test_slot-clause-ends g c = passed_test c.from_residual-in_err-test_slot.result c.from_residual-in_err-test_slot.ensures.1
    (test_damaged (λ (state : State). unless_spot state c.args.link.now c.args.parent c.args.spot.now) c.in_ok-found.ensures.looks (λ up. absurd (cc (up))) c.in_err-test_slot.ensures.damaged
    (spot_named (session_of c.args.self.now) c.args.link.now c.args.number c.requires.known c.args.parent c.args.spot.now c.in_ok-found.found c.in_ok-found.ensures.finds c.in-Some.left c.in-Some.is))

pub invariant_of-self-2 : goal.invariant_of-self-2
invariant_of-self-2 g c = record { ready = λ up. ready_looked (parts_of c.args.self.now) _ {found = c.in_ok-found.found} (c.args.self.now.ready c.requires.up) c.in_ok-found.ensures.looks (record { locks = refl; scans = refl }) }

pub returns-clause-ends : goal.returns-clause-ends
returns-clause-ends g c = test_passes (λ (state : State). unless_spot state c.args.link.now c.args.parent c.args.spot.now) _ c.in_ok-found.ensures.looks refl
    (spot_there (session_of c.args.self.now) c.args.link.now c.args.number c.requires.known c.args.parent c.args.spot.now c.in_ok-found.found c.in_ok-found.ensures.finds c.in-Some.left c.in-Some.is)

pub returns-clause-left : goal.returns-clause-left
returns-clause-left g c = spot_left (session_of c.args.self.now) c.args.link.now c.args.number c.requires.known c.args.parent c.args.spot.now c.in_ok-found.found c.in_ok-found.ensures.finds c.in-Some.left c.in-Some.is
