use Rattle.std.proofs.Common.{◌≡◌, refl, sym, ap, ◌∙◌, subst, rules}
use Rattle.std.specs.Prelude.{Bool, true, false, Option, Some, IfSome, IsTrue}
use Rattle.rss_c.specs.Stores.{HasNoStep, TakesStep}
use Rattle.rss_c.specs.Handles.{TakesIn, taken, none}
use Rattle.rss_c.specs.declared.open_store.OpenStore.{OpenStore}
use Rattle.rss_c.specs.declared.step.RssStep.{RssStep}
use Rattle.rss_c.proofs.exports.rss_next_step.Goals as goal

-- by whether one was found
takes : (step : RssStep) (found : Bool) (before after : Option OpenStore) (old new : OpenStore)
    → before ≡ Some old → after ≡ Some new
    → (IsTrue found → TakesStep old new step) → (found ≡ false → new ≡ old) → (found ≡ false → HasNoStep old)
    → TakesIn step found before after
takes step true before after old new was is some same lacks = taken old new was is (some refl) refl
takes step false before after old new was is some same lacks =
    none (is ∙ ap Some (same refl) ∙ sym was) (subst (λ (store : Option OpenStore). IfSome store HasNoStep) (sym was) (lacks refl)) refl

pub returns : goal.returns
returns c =
    takes c.take_step-taken.new.step c.take_step-taken.result _ _ c.deref_mut.result.now c.take_step-taken.new.self
    (search rules) c.put.ensures c.take_step-taken.ensures.taken c.take_step-taken.ensures.same c.take_step-taken.ensures.none
