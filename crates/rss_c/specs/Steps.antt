-- The steps of a store's device, as C gets them.
use Rattle.std.specs.Prelude.{◌≡◌}
use Rattle.rss_device.specs.declared.step.Step.{Step}
use Rattle.rss_device.specs.declared.step.Step.TheVariants.{Write, Sync, Resize}
use Rattle.rss_c.specs.declared.step.RssStep.{RssStep}

-- it is this step
abbrev pub HasStep : Step → RssStep → Type 0
HasStep (Write at bytes) step = (step.kind ≡ 1) × ((step.at ≡ at) × (step.page.bytes ≡ bytes))
HasStep Sync step = step.kind ≡ 2
HasStep (Resize pages) step = (step.kind ≡ 3) × (step.at ≡ pages)
