-- What a change leaves of a durable store, whatever is in its tables.
use Rattle.std.proofs.Common.{◌≡◌, true, refl, sym, ◌∙◌, ap, subst, arith}
use Rattle.std.specs.Prelude.{Result, Ok, Err, IsErrAnd, OnOk}
use Rattle.std.proofs.lemmas.Result.{err_from_is_err_and, on_ok_weaker}
use Rattle.rss_base.specs.DiskRule.{IsTold}
use Rattle.rss_base.specs.Paged.{Fixed, Backing, HasFixed}
use Rattle.rss_base.specs.Layout.{IsWellFormed}
use Rattle.rss_base.specs.Listings.{Listing}
use Rattle.rss_base.specs.Steps.{PagesStep, AreCounted}
use Rattle.rss_base.specs.declared.change.Change as told
use Rattle.rss_base.specs.declared.fault.PageFault.{PageFault}
use Rattle.rss_base.specs.declared.fault.PageFault.TheVariants.{Device as DeviceFailed, Damaged, NoMemory}
use Rattle.rss_base.specs.declared.place.Place.{Place}
use Rattle.rss_base.specs.declared.root.Root.{Root}
use Rattle.rss_base.proofs.Steps.{rests, among}
use Rattle.rss_model.specs.Meanings.{SameDefinitions}
use Rattle.rss_model.specs.Spares.{page_counts, TakesTwo}
use Rattle.rss_stored.specs.Store.{Stored}
use Rattle.rss_model.proofs.Sparing.{takes_two}
use Rattle.rss_stored.proofs.StorePages.{pages_split}
use Rattle.rss_catalog.specs.Catalogs.{HasSystemPages}
use Rattle.rss_access.specs.Changes.{alter_cost, Makes}
use Rattle.rss_access.specs.Written.{content_of, AreWritten}
use Rattle.rss_access.proofs.Relisting.{relists_same}
use Rattle.rss_restart.specs.Restarting.{KeepsCatalog}
use Rattle.rss_restart.proofs.Keeping.{keeps_itself, keeps_made}
use Rattle.rss_restart.proofs.Leading.{content_told}
use Rattle.rss_check.specs.Layouts.{IsLogBehind}
use Rattle.rss_store.specs.Changing.{AltersPages, access}
use Rattle.rss_store.specs.Shown.{LeavesStore}
use Rattle.rss_store.specs.Stores.{StoreView, IsReady}
use Rattle.rss_store.proofs.Definitions.{same_then}
use Rattle.rss_store.proofs.Spelled.{system_kept}

-- ---- which pages are touched

module _ {T : Type 0} {change : told.Change} (old new : StoreView) {result : Result T PageFault} (makes : Makes change (access old) (access new) result) where
  content_step : PagesStep (content_of old.catalog.listing) (alter_cost old.pages.slots) (alter_cost old.pages.slots) old.pages new.pages
  content_step = among (λ key is. content_told old.catalog.listing change key is) makes.step

  keeps : KeepsCatalog (access old) (access new)
  keeps = keeps_made (access old) (access new) content_step result makes

  same_definitions : OnOk result (SameDefinitions old.catalog.listing new.catalog.listing)
  same_definitions = on_ok_weaker result (λ relists. relists_same relists) makes.relists

-- ---- what a call passes on

pub alters_made : {T : Type 0} {change : told.Change} {old new : StoreView} {result : Result T PageFault} → Makes change (access old) (access new) result → new.root ≡ old.root → new.number ≡ old.number → AltersPages old new result
alters_made {old = old} {new = new} makes root number = record {
  step = content_step old new makes;
  takes = makes.takes;
  keeps = keeps old new makes;
  definitions = same_definitions old new makes;
  failed = makes.failed;
  memory = makes.memory;
  root = root;
  number = number;
}

-- and answers something else
pub alters_done : {T U : Type 0} {change : told.Change} {old new : StoreView} {value : T} (answer : U) → Makes change (access old) (access new) (Ok value) → new.root ≡ old.root → new.number ≡ old.number → AltersPages old new (Ok answer)
alters_done {old = old} {new = new} answer makes root number = record {
  step = content_step old new makes;
  takes = makes.takes;
  keeps = keeps old new makes;
  definitions = same_definitions old new makes;
  failed = λ is. absurd (cc);
  memory = λ is. absurd (cc);
  root = root;
  number = number;
}

-- the error is passed on
pub alters_fail : {T U : Type 0} {change : told.Change} {old new : StoreView} {fault : PageFault} (result : Result U PageFault) → IsErrAnd result (λ why. why ≡ fault) → Makes {T = T} change (access old) (access new) (Err fault) → new.root ≡ old.root → new.number ≡ old.number → AltersPages old new result
alters_fail {U = U} {old = old} {new = new} {fault = fault} result is makes root number =
    let why = err_from_is_err_and result is in
    subst (λ (r : Result U PageFault). AltersPages old new r) (sym (why.1 ∙ ap Err why.2)) (record {
      step = content_step old new makes;
      takes = tt;
      keeps = keeps old new makes;
      definitions = tt;
      failed = λ is. let same : fault ≡ DeviceFailed = cc in makes.failed (ap Err same);
      memory = λ is. let same : fault ≡ NoMemory = cc in makes.memory (ap Err same);
      root = root;
      number = number;
    })

-- nothing is done
pub alters_nothing : {T : Type 0} (view : StoreView) (place : Place) → AltersPages {T = T} view view (Err (Damaged place))
alters_nothing view place = record {
  step = rests view.pages;
  takes = tt;
  keeps = keeps_itself (access view);
  definitions = tt;
  failed = λ is. absurd (cc);
  memory = λ is. absurd (cc);
  root = refl;
  number = refl;
}

-- the place of a fault that is passed on
pub fault_passed : {T U : Type 0} {result : Result U PageFault} {fault : PageFault} {place : Place} → IsErrAnd result (λ why. why ≡ fault) → result ≡ Err (Damaged place) → ◌≡◌ {A = Result T PageFault} (Err fault) (Err (Damaged place))
fault_passed {U = U} {result = result} {fault = fault} {place = place} is damaged =
    let why = err_from_is_err_and result is in
    let same : ◌≡◌ {A = Result U PageFault} (Err fault) (Err (Damaged place)) = sym (why.1 ∙ ap Err why.2) ∙ damaged in
    let one : fault ≡ Damaged place = cc (same) in
    ap Err one

-- ---- a call may be made again

module _ {T : Type 0} {change : told.Change} (old new : StoreView) {value : T} (makes : Makes change (access old) (access new) (Ok value)) (root : new.root ≡ old.root) where
  system_made : IsReady old → HasSystemPages new.pages.mapped
  system_made ready = system_kept (content_step old new makes) ready.system

  pub ready_made : new.number ≡ old.number → IsReady old → IsLogBehind new.root new.log → IsReady new
  ready_made number ready behind = record {
    number_low = omega (arith, ready.number_low, number);
    number_high = omega (arith, ready.number_high, number);
    formed = subst IsWellFormed (sym root) ready.formed;
    size = makes.step.passes.slots ∙ ready.size ∙ ap (λ (r : Root). r.slots) (sym root);
    log_pages = ap (λ (b : Backing). b.log_pages) makes.step.passes.backing ∙ ready.log_pages ∙ ap (λ (r : Root). r.log_pages) (sym root);
    area = ap (λ (b : Backing). b.area) makes.step.passes.backing ∙ ready.area ∙ ap (λ (r : Root). r.area) (sym root);
    log = behind;
    system = system_made ready;
    pending_places = (keeps old new makes).places ∙ ready.pending_places;
    settled_now = makes.step.passes.leaves.stays_settled ready.settled_now;
    heaps = makes.still.heaps;
    tables = makes.still.tables;
  }

  -- ---- what a stop leaves, and the rest of what is shown

  module _ (told : IsTold old.pages.disk) where
    pub leaves_made : {stored : Stored} → new.number ≡ old.number → old.pages.settled ≡ true → LeavesStore old stored → LeavesStore new stored
    leaves_made number settled disk = record {
      number_is = disk.number_is ∙ sym number;
      root_is = disk.root_is ∙ sym root;
      owners_are = disk.owners_are ∙ ap (λ (b : Backing). b.shadow) (sym makes.step.passes.backing);
      fixes = λ image has. disk.fixes image (subst (λ (fixed : Fixed). HasFixed fixed image) (makes.step.passes.leaves.same settled told) has);
    }

    pub written_made : IsReady old → AreWritten old.pages.held old.catalog → AreWritten new.pages.held new.catalog
    written_made ready written = (keeps old new makes).written told ready.pending_places written

  pub definitions_made : {listing : Listing} → SameDefinitions listing old.catalog.listing → SameDefinitions listing new.catalog.listing
  definitions_made same = same_then same (relists_same makes.relists)

  -- two home or overflow pages more are mapped at most
  pub two_made : IsReady old → AreCounted new.pages → TakesTwo (page_counts old.pages) (page_counts new.pages)
  two_made ready counted = takes_two makes.step counted (omega (
    arith,
    makes.takes.heap,
    pages_split old.pages.mapped old.pages.slots ready.system,
    pages_split new.pages.mapped new.pages.slots (system_made ready),
  ))

-- by the result
pub ready_by : {T : Type 0} {change : told.Change} (old new : StoreView) (result : Result T PageFault) → Makes change (access old) (access new) result → new.root ≡ old.root → new.number ≡ old.number → IsReady old → IsLogBehind new.root new.log → OnOk result (IsReady new)
ready_by old new (Ok value) makes root number ready behind = ready_made old new makes root number ready behind
ready_by old new (Err fault) makes root number ready behind = tt
