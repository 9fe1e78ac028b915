use Rattle.std.proofs.Common.{rules, ◌≡◌, ◌≤◌, ◌-◌, ℕ, [], ◌∷◌, ◌++◌, true, length, take, replicate, vec_len, ◌∙◌, ap}
use Rattle.std.specs.Prelude.{is_ok, vec_capacity}
use Rattle.rss_base.specs.DiskRule.{Pages}
use Rattle.rss_device.specs.Steps.{all_steps}
use Rattle.rss_device.specs.declared.event.Event.TheVariants.{Sized}
use Rattle.rss_device.specs.declared.step.Step.TheVariants.{Resize}
use Rattle.rss_device.proofs.Events.{kept_after, at_true}
use Rattle.rss_device.proofs.Noted.{one_event}
use Rattle.rss_device.proofs.step_device.StepDeviceDevice.set_size.Goals as goal

pub invariant_of-self-2-clause-kept : goal.invariant_of-self-2-clause-kept
invariant_of-self-2-clause-kept c =
    let added : all_steps c.note.new.self ≡ all_steps c.args.self.now.steps ++ Resize c.args.pages ∷ [] = search rules in
    let noted = one_event c.args.self.now.steps c.note.new.self (Resize c.args.pages) added in
    let room : c.args.pages ≤ vec_capacity c.reserve.new.self = search rules in
    let fine : is_ok c.resize.result ≡ true = search (rules, c.resize.ensures.succeeds room) in
    let long : vec_len c.reserve.new.self ≡ length c.args.self.now.pages.items = search rules in
    let resized = at_true _ _ _ (is_ok c.resize.result) fine c.resize.ensures.items in
    rw c.note.ensures.first (kept_after _ _ _ c.args.self.now.kept _ (Sized c.args.pages) _ noted
    (resized ∙ ap (λ (p : Pages). take c.args.pages p ++ replicate (c.args.pages - vec_len c.reserve.new.self) (replicate 4096 0)) c.reserve.ensures.items
    ∙ ap (λ (n : ℕ). take c.args.pages c.args.self.now.pages.items ++ replicate (c.args.pages - n) (replicate 4096 0)) long
    ∙ ap (λ (p : Pages). take c.args.pages p ++ replicate (c.args.pages - length p) (replicate 4096 0)) c.args.self.now.kept))
