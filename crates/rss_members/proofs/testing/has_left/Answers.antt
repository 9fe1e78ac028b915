use Rattle.std.proofs.Common.{refl, sym, ◌∙◌}
use Rattle.std.proofs.lemmas.Result.{IfOk-weaker}
use Rattle.rss_base.proofs.Steps.{done, rests}
use Rattle.rss_members.proofs.testing.has_left.Goals as goal

pub returns-in-Some-clause-has : goal.returns-in-Some-clause-has
returns-in-Some-clause-has g c = IfOk-weaker c.stands_under.result _ _ (λ found answers told tables link spells at.
    let is = answers told tables link spells at in
    rw c.in-Some.is ((λ yes. sym is ∙ yes), (λ there. is ∙ there))) c.stands_under.ensures.stands

pub returns-in-None-clause-has : goal.returns-in-None-clause-has
returns-in-None-clause-has g c = λ told tables link spells at. rw c.in-None.is ((λ yes. tt), (λ there. refl))

pub returns-in-None-clause-did : goal.returns-in-None-clause-did
returns-in-None-clause-did g c = record {
  below = done _ (rests _);
  heaps = c.requires.heaps;
  others = λ told segment tid other. refl;
}
