use Rattle.std.proofs.Common.{refl}
use Rattle.rss_rsi.specs.Linking.{passes_all}
use Rattle.rss_rsi.specs.Parts.{parts_of, session_of}
use Rattle.rss_rsi.proofs.LinkEnds.{passed_test, test_damaged, test_fails}
use Rattle.rss_rsi.proofs.Looks.{ready_looked}
use Rattle.rss_rsi.proofs.Places.{place_child, place_left, place_parent}
use Rattle.rss_rsi.proofs.engine.Rss.place_of.Goals as goal

pub returns-in_err-found-clause-ends : goal.returns-in_err-found-clause-ends
returns-in_err-found-clause-ends g c = passed_test c.from_residual.result c.from_residual.ensures.1 (test_fails passes_all _ c.in_err-found.ensures.looks (λ up. absurd (cc (up))))

pub returns-in_err-test_slot-clause-ends : goal.returns-in_err-test_slot-clause-ends
returns-in_err-test_slot-clause-ends g c = passed_test c.from_residual-in_err-test_slot.result c.from_residual-in_err-test_slot.ensures.1
    (test_damaged passes_all c.in_ok-found.ensures.looks (λ up. absurd (cc (up))) c.in_err-test_slot.ensures.damaged
    (λ told state kept shows. place_child (session_of c.args.self.now) c.args.number c.args.child c.in_ok-found.found _ c.in-Some.is c.in_ok-found.ensures.finds c.requires.known told state kept shows))

pub returns-in_err-test_slot-2-clause-ends : goal.returns-in_err-test_slot-2-clause-ends
returns-in_err-test_slot-2-clause-ends g c = passed_test c.from_residual-in_err-test_slot-2.result c.from_residual-in_err-test_slot-2.ensures.1
    (test_damaged passes_all c.in_ok-found.ensures.looks (λ up. absurd (cc (up))) c.in_err-test_slot-2.ensures.damaged
    (λ told state kept shows. place_parent (session_of c.args.self.now) c.args.number c.args.child c.in_ok-found.found _ c.in-Some.is c.in_ok-found.ensures.finds c.requires.known told state kept shows))

pub returns-in_err-test_slot-3-clause-ends : goal.returns-in_err-test_slot-3-clause-ends
returns-in_err-test_slot-3-clause-ends g c = passed_test c.from_residual-in_err-test_slot-3.result c.from_residual-in_err-test_slot-3.ensures.1
    (test_damaged passes_all c.in_ok-found.ensures.looks (λ up. absurd (cc (up))) c.in_err-test_slot-3.ensures.damaged
    (λ told state kept shows. place_left (session_of c.args.self.now) c.args.number c.args.child c.in_ok-found.found _ c.in-Some.is c.in_ok-found.ensures.finds c.requires.known told state kept shows))

pub invariant_of-self-2 : goal.invariant_of-self-2
invariant_of-self-2 g c = record { ready = λ up. ready_looked (parts_of c.args.self.now) _ {found = c.in_ok-found.found} (c.args.self.now.ready c.requires.up) c.in_ok-found.ensures.looks (record { locks = refl; scans = refl }) }
