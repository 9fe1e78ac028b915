use Rattle.std.proofs.Common.{◌≡◌, List, not, sym, ◌∙◌, ap, subst, rules}
use Rattle.std.specs.Prelude.{◌==◌}
use Rattle.arrayvec.proofs.ArrayVecLemmas.{filter-from_retain}
use Rattle.rss_wait.specs.declared.wait.Wait.{Wait}
use Rattle.rss_wait.specs.Waits.{WaitsView, without_wait}
use Rattle.rss_wait.specs.Kept.{AreWaiting}
use Rattle.rss_wait.proofs.Keeping.{answered_kept}
use Rattle.rss_wait.proofs.waits.Waits.answered.Goals as goal

left : (c : goal.After-retain) → c.retain.new.self.items ≡ without_wait c.args.t c.self.inside.waits.items
left c = filter-from_retain _ (λ (wait : Wait). not (wait.by == c.args.t)) _ (λ x b f' y called. search rules) _ _ c.retain.ensures.filtered

pub invariant_of-self : goal.invariant_of-self
invariant_of-self c =
    subst (AreWaiting c.self.inside.opened.items) (sym (left c)) (answered_kept c.self.inside.opened.items c.self.inside.waits.items c.args.t c.self.invariant)

pub returns : goal.returns
returns c =
    ap (λ (l : List Wait). record { opened = c.self.inside.opened.items; waits = l }) (left c)
    ∙ ap (λ (v : WaitsView). record { opened = v.opened; waits = without_wait c.args.t v.waits }) c.self.view_is
