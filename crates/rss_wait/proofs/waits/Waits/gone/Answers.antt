use Rattle.std.proofs.Common.{◌≡◌, ℕ, List, not, length, sym, ◌∙◌, ap, ap₂, subst, rules}
use Rattle.std.specs.Prelude.{◌==◌}
use Rattle.std.specs.List.{refill}
use Rattle.arrayvec.proofs.ArrayVecLemmas.{filter-from_retain}
use Rattle.rss_wait.specs.declared.wait.Wait.{Wait}
use Rattle.rss_wait.specs.Waits.{WaitsView, without, without_wait, all_again}
use Rattle.rss_wait.specs.Kept.{AreWaiting}
use Rattle.rss_wait.proofs.Keeping.{gone_kept, refilled, length-again}
use Rattle.rss_wait.proofs.waits.Waits.gone.Goals as goal

left : (c : goal.After-self-1) → c.retain.new.self.items ≡ without c.args.t c.self.inside.opened.items
left c = filter-from_retain _ (λ (u : ℕ). not (u == c.args.t)) _ (λ x b f' y called. search rules) _ _ c.retain.ensures.filtered

again : (c : goal.After-self-1) → refill (length c.self.inside.waits.items) c.self.inside.waits.items c.set_again.new.waits ≡ all_again c.self.inside.waits.items
again c =
    let waits = c.self.inside.waits.items in
    let is : c.set_again.new.waits ≡ all_again waits = c.set_again.ensures ∙ ap all_again c.as_mut_slice.ensures.value in
    refilled waits c.set_again.new.waits (ap (λ (l : List Wait). length l) is ∙ length-again waits) ∙ is

pub invariant_of-self : goal.invariant_of-self
invariant_of-self c =
    let waits = c.args.self.now.waits in
    let is : c.self.inside.waits.items ≡ without_wait c.args.t waits = ap (λ (v : WaitsView). v.waits) (c.self.view_is ∙ c.answered.ensures) in
    let are : AreWaiting c.self.inside.opened.items (without_wait c.args.t waits) = subst (AreWaiting c.self.inside.opened.items) is c.self.invariant in
    subst (λ (l : List ℕ). AreWaiting l (refill (length c.self.inside.waits.items) c.self.inside.waits.items c.set_again.new.waits)) (sym (left c))
    (subst (AreWaiting (without c.args.t c.self.inside.opened.items)) (sym (again c ∙ ap all_again is)) (gone_kept c.self.inside.opened.items waits c.args.t are))

pub returns : goal.returns
returns c =
    ap₂ (λ (os : List ℕ) (ws : List Wait). record { opened = os; waits = ws }) (left c) (again c)
    ∙ ap (λ (v : WaitsView). record { opened = without c.args.t v.opened; waits = all_again v.waits }) (c.self.view_is ∙ c.answered.ensures)
