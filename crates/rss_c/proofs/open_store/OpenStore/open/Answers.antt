use Rattle.std.proofs.Common.{rules, ℕ, subst}
use Rattle.std.specs.Prelude.{List, Result, Ok, Err, IfOk, IfErr}
use Rattle.rss_device.specs.StepDevice.{view_of, IsFresh}
use Rattle.rss_device.specs.declared.step_device.StepDevice.{StepDevice}
use Rattle.rss_check.specs.Refused.{IsUnopened}
use Rattle.rss_c.specs.Stores.{AreRefused, AreWhole, FailsFor, HasFailed, IsOpenedOn, IsOver, pages_in}
use Rattle.rss_c.specs.declared.open_store.OpenStore.{OpenStore}
use Rattle.rss_c.specs.declared.open_store.Refused.{Refused}
use Rattle.rss_c.proofs.open_store.OpenStore.open.Goals as goal

-- A device of the pages of these bytes was opened, by the result.
module _ {T : Type 0} (store_in : T → OpenStore) (bytes : List ℕ) (device : StepDevice) (fresh : IsFresh (pages_in bytes) device) (whole : AreWhole bytes) where
  opened_on : (result : Result T Refused) → IfOk result (λ opened. IsOver device (store_in opened)) → IfOk result (λ opened. IsOpenedOn bytes (store_in opened))
  opened_on (Ok opened) over = record { whole = whole; device = device; fresh = fresh; over = over }
  opened_on (Err why) over = tt

  refused_on : (result : Result T Refused) → IfErr result (λ why. IsUnopened (view_of device) why.fault) → IfErr result (FailsFor device) → IfErr result (AreRefused bytes)
  refused_on (Ok opened) unopened cause = tt
  refused_on (Err why) unopened cause = record {
    torn = λ torn. absurd (torn whole);
    refused = λ _. unopened.refused (pages_in bytes) fresh.contents;
    right_size = unopened.right_size;
    cause = λ is. subst (λ (faults : ℕ). HasFailed faults why.device) fresh.faults (cause is);
  }

pub returns-clause-opened : goal.returns-clause-opened
returns-clause-opened c =
    let fresh : IsFresh (pages_in c.args.bytes.now) c.new-device.result = search rules in
    opened_on _ c.args.bytes.now _ fresh (search rules) c.over.result c.over.ensures.opened

pub returns-clause-refused : goal.returns-clause-refused
returns-clause-refused c =
    let fresh : IsFresh (pages_in c.args.bytes.now) c.new-device.result = search rules in
    refused_on (λ store. store.value) c.args.bytes.now _ fresh (search rules) c.over.result c.over.ensures.refused c.over.ensures.cause
