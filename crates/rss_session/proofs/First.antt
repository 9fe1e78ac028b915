-- The first of the tests of a call, and tests by their results.
use Rattle.std.proofs.Common.{◌≡◌, List, [], ◌∷◌, refl, sym, subst}
use Rattle.std.specs.Prelude.{Option, Some, None, Result, Ok, Err, IsErrAnd}
use Rattle.rss_base.specs.declared.refusal.Refusal.{Refusal}
use Rattle.rss_model.specs.Machine.{State}
use Rattle.rss_model.specs.Steps.{first_of}
use Rattle.rss_session.specs.Sessions.{SessionView}
use Rattle.rss_session.specs.Admissions.{Refuses, Tests}

-- ---- two tests that come first

pub first_stops : (a b : Option Refusal) (rest : List (Option Refusal)) {why : Refusal} → first_of (a ∷ b ∷ []) ≡ Some why → first_of (a ∷ b ∷ rest) ≡ Some why
first_stops (Some x) b rest is = is
first_stops None (Some x) rest is = is
first_stops None None rest is = absurd (cc)

pub first_passes : (a b : Option Refusal) (rest : List (Option Refusal)) → first_of (a ∷ b ∷ []) ≡ None → first_of (a ∷ b ∷ rest) ≡ first_of rest
first_passes (Some x) b rest is = absurd (cc)
first_passes None (Some x) rest is = absurd (cc)
first_passes None None rest is = refl

-- ---- by the results

-- what the first test refuses, the whole refuses so
pub fails_first : {T : Type 0} (view : SessionView) (first test : State → Option Refusal) {why : Refusal} (result : Result T Refusal) → IsErrAnd result (λ (other : Refusal). other ≡ why)
    → ((state : State) → first state ≡ Some why → test state ≡ Some why) → Refuses view first why → Tests view test result
fails_first view first test (Ok value) is stops tests = absurd is
fails_first view first test (Err other) is stops tests =
    subst (Refuses view test) (sym is) ((λ told state shows. stops state (tests.0 told state shows)), tests.1)
