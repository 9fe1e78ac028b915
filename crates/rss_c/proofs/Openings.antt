-- Why no store was opened, by how it was tried.
use Rattle.std.proofs.Common.{◌≡◌, ℕ, ◌⊎◌, inl, inr, refl, sym, ap, subst, arith}
use Rattle.std.specs.Prelude.{Option, Some, None, Result, Ok, Err, IfErr, IsErrOf}
use Rattle.rss_base.specs.Devices.{DeviceView}
use Rattle.rss_base.specs.DiskRule.{Pages, Told}
use Rattle.rss_base.specs.Faults.{Rises}
use Rattle.rss_base.specs.declared.fault.OpenFault.{OpenFault}
use Rattle.rss_base.specs.declared.fault.OpenFault.TheVariants.{Device as DeviceFailed, NotAStore, Damaged, WrongSize, NoMemory}
use Rattle.rss_base.specs.declared.place.Place.{Place}
use Rattle.rss_base.proofs.Moments.{rises_since}
use Rattle.rss_device.specs.StepDevice.{view_of}
use Rattle.rss_device.specs.declared.step_device.StepDevice.{StepDevice}
use Rattle.rss_model.specs.Tables.{no_tables}
use Rattle.rss_stored.specs.Store.{OpensTo}
use Rattle.rss_check.specs.Refused.{IsRefused, IsUnopened}
use Rattle.rss_check.proofs.Refused.{found_none, unopened_memory}
use Rattle.rss_store.specs.Formatted.{AreSizes}
use Rattle.rss_c.specs.Stores.{FailsFor, HasFailed, IsUnmade}
use Rattle.rss_c.specs.declared.open_store.Refused.{Refused}

-- memory may run out over any pages
pub lacks_over : (device : DeviceView) (fault : OpenFault) → fault ≡ NoMemory → IsUnopened device fault
lacks_over device fault is = subst (λ (f : OpenFault). IsUnopened device f) (sym is) (unopened_memory device)

-- a count that rose later has risen from the beginning
failed_since : (faults : ℕ) (back : Option StepDevice) → HasFailed faults back → HasFailed 0 back
failed_since faults None failed = failed
failed_since faults (Some back) (inl rises) = inl (rises_since {old = 0} {mid = faults} (omega arith) rises)
failed_since faults (Some back) (inr gone) = inr gone

-- ---- over a store that was just made

module _ {slots log_pages : ℕ} {pages : Pages} (opens : OpensTo pages (record { slots = slots; log_pages = log_pages }) no_tables) where
  -- nothing is found in it
  only_fails : (fault : OpenFault) → IsRefused pages fault → (fault ≡ WrongSize → ⊥) → (fault ≡ NoMemory) ⊎ (fault ≡ DeviceFailed)
  only_fails DeviceFailed refused right = inr refl
  only_fails NoMemory refused right = inl refl
  only_fails WrongSize refused right = absurd (right refl)
  only_fails (NotAStore place) refused right = absurd (found_none (refused.named place refl) opens.stored opens.store)
  only_fails (Damaged place) refused right = absurd (refused.no_store place refl opens.stored opens.store)

-- it was made, and isn't opened
pub unmade_on : {T : Type 0} (slots log_pages : ℕ) (device : StepDevice) → AreSizes slots log_pages
    → Told (view_of device).disk (λ pages. OpensTo pages (record { slots = slots; log_pages = log_pages }) no_tables)
    → (result : Result T Refused) → IfErr result (λ why. IsUnopened (view_of device) why.fault) → IfErr result (FailsFor device)
    → IfErr result (IsUnmade slots log_pages)
unmade_on slots log_pages device sizes opens (Ok store) unopened cause = tt
unmade_on slots log_pages device sizes opens (Err why) unopened cause = record {
  wrong = λ none. absurd (none sizes);
  right = λ _. only_fails (opens _ refl) why.fault (unopened.refused _ refl) unopened.right_size;
  cause = λ is. failed_since _ why.device (cause is);
}
