use Rattle.std.proofs.Common.{rules}
use Rattle.std.specs.Prelude.{ℕ, Result, Ok, Err, IfOk}
use Rattle.rss_base.specs.DiskRule.{Told}
use Rattle.rss_device.specs.StepDevice.{view_of}
use Rattle.rss_device.specs.declared.step_device.StepDevice.{StepDevice}
use Rattle.rss_model.specs.Tables.{no_tables}
use Rattle.rss_stored.specs.Store.{OpensTo}
use Rattle.rss_store.specs.Formatted.{AreSizes, HoldsFormatted}
use Rattle.rss_c.specs.Stores.{IsMadeOf, IsOver}
use Rattle.rss_c.specs.declared.open_store.OpenStore.{OpenStore}
use Rattle.rss_c.specs.declared.open_store.Refused.{Refused}
use Rattle.rss_c.proofs.Openings.{unmade_on}
use Rattle.rss_c.proofs.open_store.OpenStore.make.Goals as goal

-- a device that was made an empty store was opened, by the result
made_on : {T : Type 0} (store_in : T → OpenStore) (slots log_pages : ℕ) (device : StepDevice)
    → AreSizes slots log_pages → HoldsFormatted slots log_pages (view_of device).disk
    → Told (view_of device).disk (λ pages. OpensTo pages (record { slots = slots; log_pages = log_pages }) no_tables)
    → (result : Result T Refused) → IfOk result (λ opened. IsOver device (store_in opened))
    → IfOk result (λ opened. IsMadeOf slots log_pages (store_in opened))
made_on store_in slots log_pages device sizes made opens (Ok opened) over = record { sizes = sizes; device = device; formatted = made; opens = opens; over = over }
made_on store_in slots log_pages device sizes made opens (Err why) over = tt

pub returns-clause-made : goal.returns-clause-made
returns-clause-made c =
    made_on (λ store. store.value) c.args.slots c.args.log_pages _ (search rules) (search rules) (search rules) c.over.result c.over.ensures.opened

pub returns-clause-unmade : goal.returns-clause-unmade
returns-clause-unmade c =
    unmade_on c.args.slots c.args.log_pages c.format.new.device (search rules) (search rules) c.over.result c.over.ensures.refused c.over.ensures.cause
