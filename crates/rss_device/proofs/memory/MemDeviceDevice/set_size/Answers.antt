use Rattle.std.proofs.Common.{rules, ◌≡◌, ◌-◌, ℕ, [], ◌∷◌, ◌++◌, true, length, take, replicate, vec_len, ◌∙◌, ap}
use Rattle.std.specs.Prelude.{is_ok}
use Rattle.rss_base.specs.DiskRule.{Pages}
use Rattle.rss_device.specs.declared.event.Event.TheVariants.{Sized}
use Rattle.rss_device.proofs.Events.{kept_after, at_true}
use Rattle.rss_device.proofs.memory.MemDeviceDevice.set_size.Goals as goal

pub invariant_of-self-else-is_err-2-clause-kept : goal.invariant_of-self-else-is_err-2-clause-kept
invariant_of-self-else-is_err-2-clause-kept c =
    let pushed : c.push.new.self.items ≡ c.args.self.now.events.items ++ Sized c.args.pages ∷ [] = search rules in
    let fine : is_ok c.resize.result ≡ true = search rules in
    let long : vec_len c.args.self.now.pages ≡ length c.args.self.now.pages.items = search rules in
    let resized = at_true _ _ _ (is_ok c.resize.result) fine c.resize.ensures.items in
    kept_after _ _ _ c.args.self.now.kept _ (Sized c.args.pages) _ pushed
    (resized ∙ ap (λ (n : ℕ). take c.args.pages c.args.self.now.pages.items ++ replicate (c.args.pages - n) (replicate 4096 0)) long
    ∙ ap (λ (p : Pages). take c.args.pages p ++ replicate (c.args.pages - length p) (replicate 4096 0)) c.args.self.now.kept)
