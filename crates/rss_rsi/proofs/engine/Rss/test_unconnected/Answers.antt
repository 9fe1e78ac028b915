use Rattle.std.proofs.Common.{sym, ◌∙◌, ap, refl}
use Rattle.std.specs.Prelude.{option_map}
use Rattle.rss_base.specs.declared.refusal.Refusal.TheVariants.{Connected}
use Rattle.rss_model.specs.Machine.{State}
use Rattle.rss_model.specs.Refusals.{if_connected}
use Rattle.rss_rsi.specs.Parts.{parts_of}
use Rattle.rss_rsi.proofs.LinkEnds.{passed_test, test_fails, test_passes, test_refused}
use Rattle.rss_rsi.proofs.Looks.{ready_looked}
use Rattle.rss_rsi.proofs.engine.Rss.test_unconnected.Goals as goal

pub returns-in_err-found-clause-ends : goal.returns-in_err-found-clause-ends
returns-in_err-found-clause-ends g c = λ relation at. passed_test c.from_residual.result c.from_residual.ensures.1 (test_fails (λ (state : State). if_connected state relation.name c.args.tid) _ c.in_err-found.ensures.looks (λ up. absurd (cc (up))))

pub invariant_of-self-2 : goal.invariant_of-self-2
invariant_of-self-2 g c = record { ready = λ up. ready_looked (parts_of c.args.self.now) _ {found = c.in_ok-found.found} (c.args.self.now.ready c.requires.up) c.in_ok-found.ensures.looks (record { locks = refl; scans = refl }) }

pub returns-in-Some-clause-ends : goal.returns-in-Some-clause-ends
returns-in-Some-clause-ends g c = λ relation at. test_refused (λ (state : State). if_connected state relation.name c.args.tid) c.connected.result c.connected.ensures.is c.in_ok-found.ensures.looks refl
    (λ told state kept shows. ap (option_map Connected) (sym (c.in_ok-found.ensures.finds told state kept shows relation at) ∙ c.in-Some.is)) c.connected.ensures.short refl

pub returns-in-None-clause-ends : goal.returns-in-None-clause-ends
returns-in-None-clause-ends g c = λ relation at. test_passes (λ (state : State). if_connected state relation.name c.args.tid) (tt {0}) c.in_ok-found.ensures.looks refl
    (λ told state kept shows. ap (option_map Connected) (sym (c.in_ok-found.ensures.finds told state kept shows relation at) ∙ c.in-None.is))
