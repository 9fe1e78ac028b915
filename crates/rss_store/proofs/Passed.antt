-- What a checkpoint passes on.
use Rattle.std.proofs.Common.{◌≡◌, inl, inr, ℕ, ◌+◌, ◌*◌, ◌≤◌, Bool, true, false, ◌||◌, List, refl, sym, ◌∙◌, ap, subst, arith}
use Rattle.std.specs.Prelude.{Result, Ok, Err, IsErrAnd, IsErrOf}
use Rattle.std.proofs.lemmas.Result.{err_from_is_err_and}
use Rattle.rss_base.specs.DiskRule.{IsTold, Continues}
use Rattle.rss_base.specs.Faults.{Rises}
use Rattle.rss_base.specs.PageMap.{IsKey, page_count}
use Rattle.rss_base.specs.Runs.{run_pages}
use Rattle.rss_base.specs.Layout.{map_pages}
use Rattle.rss_base.specs.Paged.{Mapped, Backing, HasEach, WritesWaiting, mapped_pages}
use Rattle.rss_base.specs.Steps.{PagesView, PagesStep}
use Rattle.rss_base.specs.declared.key.PageKey.{PageKey}
use Rattle.rss_base.specs.declared.place.Place.{Place}
use Rattle.rss_base.specs.declared.fault.PageFault.{PageFault}
use Rattle.rss_base.specs.declared.fault.PageFault.TheVariants.{Device as DeviceFailed, Damaged, NoMemory}
use Rattle.rss_base.proofs.Counts.{mapped_pages-owners}
use Rattle.rss_base.proofs.Moments.{continues, continues_then, rises_since}
use Rattle.rss_buffer.specs.Saving.{SavingView, AreSaveable, SavingStep}
use Rattle.rss_catalog.specs.Catalogs.{CatalogView, pending_pages, StoresListing}
use Rattle.rss_access.specs.Written.{is_pending}
use Rattle.rss_access.proofs.Writing.{pending_is}
use Rattle.rss_store.specs.Commits.{CommitsPages, changed_with}
use Rattle.rss_store.proofs.Pieces.{slots_still, mapped_still}

-- ---- what it writes

-- one of two tests
either_left : (a b : Bool) → a ≡ true → (a || b) ≡ true
either_left true b is = refl
either_left false b is = absurd (cc)

either_right : (a b : Bool) → b ≡ true → (a || b) ≡ true
either_right true b is = refl
either_right false b is = is

module _ {old mid : PagesView} {catalog : CatalogView} {count : ℕ} {before : SavingView} (step : PagesStep (pending_pages catalog) 0 count old mid) (saveable : AreSaveable mid before) where
  waits : (keys : List PageKey) → HasEach keys (changed_with old catalog) → HasEach keys before.waiting
  waits keys has key waiting = has key (elim (step.changed_off key (saveable.waiting key waiting)) [
    | inl was ↦ either_left (old.changed key) (is_pending catalog key) was
    | inr written ↦ either_right (old.changed key) (is_pending catalog key) (pending_is written)
  ])

  -- the catalog, the pages and the map
  pub writes_all : {between : ℕ} → WritesWaiting before.waiting (map_pages mid.slots) mid.writes between → WritesWaiting (changed_with old catalog) (run_pages * count + map_pages old.slots) old.writes between
  writes_all writes keys has = omega (arith, writes keys (waits keys has), step.passes.writes_high, ap map_pages step.passes.slots)

-- ---- what it passes on

module _ {old mid new : PagesView} {catalog : CatalogView} {count : ℕ} {before after : SavingView} (step : PagesStep (pending_pages catalog) 0 count old mid) (saveable : AreSaveable mid before) (saves : SavingStep mid new before after) (saveable_now : AreSaveable new after) where
  commits : {T : Type 0} (result : Result T PageFault) → old.settled ≡ true → (IsTold mid.disk → Continues mid.disk new.disk) → (IsErrOf result DeviceFailed → Rises old.faults new.faults) → ((place : Place) → result ≡ Err (Damaged place) → ⊥) → (IsErrOf result NoMemory → ⊥) → CommitsPages old new result
  commits result settled history failed sound memory = record {
    asks = omega (arith, saves.asks, step.passes.asks_low, step.passes.asks_high);
    slots = slots_still saves saveable saveable_now ∙ step.passes.slots;
    frames = saves.frames ∙ ap (λ (b : Backing). b.frames) step.passes.backing;
    told = (λ told. saves.told.0 (step.passes.leaves.told.0 told), λ told. step.passes.leaves.told.1 (saves.told.1 told));
    history = λ told. continues_then (continues (step.passes.leaves.moments settled told)) (history (step.passes.leaves.told.0 told));
    later = omega (arith, step.passes.later, saves.later);
    failed = failed;
    sound = λ place is told. sound place is;
    memory = memory;
  }

  -- the pages could not be saved, or the root not be selected
  pub unsaved : {U : Type 0} {fault : PageFault} (result : Result U PageFault) → IsErrAnd result (λ why. why ≡ fault) → fault ≡ DeviceFailed → old.settled ≡ true → (IsTold mid.disk → Continues mid.disk new.disk) → Rises mid.faults new.faults → CommitsPages old new result
  unsaved result is device settled history rises =
      let why = err_from_is_err_and result is in
      let so : result ≡ Err DeviceFailed = why.1 ∙ ap Err (why.2 ∙ device) in
      commits result settled history (λ failed. rises_since step.passes.later rises) (λ place damaged. let same = sym so ∙ damaged in absurd (cc)) (λ lacks. let same : Err DeviceFailed ≡ Err NoMemory = sym so ∙ lacks in absurd (cc))

  -- all was done
  pub saved_so : {T : Type 0} (value : T) → old.settled ≡ true → (IsTold mid.disk → Continues mid.disk new.disk) → CommitsPages old new (Ok value)
  saved_so value settled history = commits (Ok value) settled history (λ failed. absurd (cc)) (λ place damaged. absurd (cc)) (λ lacks. absurd (cc))

  -- each page has room in two slots
  pub half_saved : StoresListing catalog old mid → 2 * mapped_pages old.slots old.mapped ≤ old.slots → 2 * page_count after.current ≤ new.slots
  half_saved stores half =
      let slots : new.slots ≡ old.slots = slots_still saves saveable saveable_now ∙ step.passes.slots in
      let mapped : new.mapped ≡ old.mapped = mapped_still saves saveable saveable_now ∙ stores.mapped in
      let count : mapped_pages new.slots new.mapped ≡ page_count after.current = mapped_pages-owners new.slots after.current new.mapped (λ slot key owned. subst (λ (n : ℕ). IsKey n key) (sym saveable_now.slots) (saveable_now.table.allowed slot key owned)) saveable_now.table.distinct (λ key. ap (λ (m : Mapped). m key) saveable_now.mapped) in
      let same : mapped_pages new.slots new.mapped ≡ mapped_pages old.slots old.mapped = λ i. mapped_pages (slots i) (mapped i) in
      omega (arith, half, count, same, slots)
