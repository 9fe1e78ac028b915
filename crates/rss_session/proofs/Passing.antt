-- What a call of the store passes on to the session.
use Rattle.std.proofs.Common.{◌≡◌, ℕ, ◌≤◌, true, refl, sym, ◌∙◌, ap, subst, arith}
use Rattle.std.specs.Prelude.{◌↔◌, Result, Ok, Err, IsErrOf, IsErrAnd, OnOk}
use Rattle.std.proofs.lemmas.Bool.{true≢false}
use Rattle.std.proofs.lemmas.Result.{err_from_is_err_and, on_ok_weaker}
use Rattle.rss_base.specs.DiskRule.{IsTold, Passes, Continues}
use Rattle.rss_base.specs.Faults.{Rises}
use Rattle.rss_base.specs.Paged.{Backing}
use Rattle.rss_base.specs.Devices.{DrivesOut}
use Rattle.rss_base.specs.Steps.{PagesView, Keys, PassesOn, PagesCall, AreCounted, driven}
use Rattle.rss_base.specs.declared.fault.PageFault.{PageFault}
use Rattle.rss_base.specs.declared.fault.PageFault.TheVariants.{Device as DeviceFailed, Damaged, NoMemory}
use Rattle.rss_base.specs.declared.place.Place.{Place}
use Rattle.rss_base.specs.declared.root.Root.{Root}
use Rattle.rss_base.proofs.Moments.{started, widened, continues, continues_then, rises_since, drives_nothing, drives_then}
use Rattle.rss_tuple.specs.Heaps.{AreHeaps}
use Rattle.rss_model.specs.Machine.{State, StoreSize}
use Rattle.rss_stored.specs.Store.{size_of}
use Rattle.rss_store.specs.Stores.{StoreView}
use Rattle.rss_store.specs.Stores.{IsReady as IsStoreReady}
use Rattle.rss_store.specs.Shown.{Shows as StoreShows, HoldsTables}
use Rattle.rss_store.specs.Changing.{AltersPages}
use Rattle.rss_store.specs.Stores.{IsSaved}
use Rattle.rss_store.specs.Commits.{CommitsPages}
use Rattle.rss_trans.specs.Transactions.{OpenView, Checkpoints}
use Rattle.rss_session.specs.Sessions.{SessionView, IsReady}
use Rattle.rss_session.specs.Calls.{NoMoreSaves, SavesNothing, GoesOn, GoesOnIf, ChecksOn, CountsAnew}
use Rattle.rss_session.specs.Looks.{LooksOn}
use Rattle.rss_session.proofs.Looked.{with_pages, ready_looked, shows_looked, keeps_looked}
use Rattle.rss_session.proofs.Shown.{with_opened}

-- a step of pages leaves what is fixed, and so the committed tables
pub keeps_altered : {T : Type 0} {result : Result T PageFault} {old new : StoreView} → IsStoreReady old → AltersPages old new result → IsTold old.pages.disk → (state : State) → StoreShows old state → Passes old.pages.disk new.pages.disk (HoldsTables state.size state.base)
keeps_altered ready alters told state shows =
    widened (alters.step.passes.leaves.moments ready.settled_now told) (λ image has. record {
      stored = shows.stored;
      store = shows.disk.fixes image has;
      same_size = shows.tied.size;
      holds = sym shows.tied.tables;
    })

-- nothing is saved by one call, nor by another
pub saves_nothing : (view : SessionView) → SavesNothing view view
saves_nothing view = record { root = refl; drives = drives_nothing (driven view.store.pages) }

pub saves_nothing_then : {old mid new : SessionView} → SavesNothing old mid → SavesNothing mid new → SavesNothing old new
saves_nothing_then one two = record { root = two.root ∙ one.root; drives = drives_then one.drives two.drives }

-- where another fact holds
pub goes_if : {T : Type 0} {result : Result T PageFault} {still other : Type 0} {old new : SessionView} → (other → still) → GoesOnIf still old new result → GoesOnIf other old new result
goes_if is on = record {
  told = on.told;
  history = on.history;
  later = on.later;
  failed = on.failed;
  memory = on.memory;
  slots = on.slots;
  log_pages = on.log_pages;
  frames = on.frames;
  saves = on.saves;
  unsaved = λ other. on.unsaved (is other);
}

-- by another result, which fails only where the first did
pub goes_altered : {T U : Type 0} {result : Result T PageFault} {old new : SessionView} (other : Result U PageFault) → IsStoreReady old.store → (IsErrOf other DeviceFailed → IsErrOf result DeviceFailed) → (IsErrOf other NoMemory → IsErrOf result NoMemory) → AltersPages old.store new.store result → NoMoreSaves old new → GoesOn old new other
goes_altered other ready device memory alters saves = record {
  told = alters.step.passes.leaves.told;
  history = λ told. continues (alters.step.passes.leaves.moments ready.settled_now told);
  later = alters.step.passes.later;
  failed = λ is. alters.failed (device is);
  memory = λ is. alters.memory (memory is);
  slots = ap (λ (r : Root). r.slots) alters.root;
  log_pages = ap (λ (r : Root). r.log_pages) alters.root;
  frames = ap (λ (b : Backing). b.frames) alters.step.passes.backing;
  saves = saves;
  unsaved = λ still. record { root = alters.root; drives = alters.step.passes.drives };
}

-- a fault that is passed on is the one that came
pub fault_same : {T U : Type 0} {result : Result U PageFault} {fault other : PageFault} {first : Result T PageFault} → first ≡ Err fault → IsErrAnd result (λ why. why ≡ fault) → IsErrOf result other → IsErrOf first other
fault_same {U = U} {result = result} {fault = fault} {other = other} was is of =
    let why = err_from_is_err_and result is in
    let same : ◌≡◌ {A = Result U PageFault} (Err fault) (Err other) = sym (why.1 ∙ ap Err why.2) ∙ of in
    let one : fault ≡ other = cc (same) in
    was ∙ ap Err one

-- one call behind another
pub goes_then : {T U : Type 0} {first : Result T PageFault} {second : Result U PageFault} {still : Type 0} {old mid new : SessionView} → GoesOnIf still old mid first → GoesOnIf still mid new second → GoesOnIf still old new second
goes_then one two = record {
  told = (λ told. two.told.0 (one.told.0 told), λ told. one.told.1 (two.told.1 told));
  history = λ told. continues_then (one.history told) (two.history (one.told.0 told));
  later = omega (arith, one.later, two.later);
  failed = λ is. rises_since one.later (two.failed is);
  memory = two.memory;
  slots = two.slots ∙ one.slots;
  log_pages = two.log_pages ∙ one.log_pages;
  frames = two.frames ∙ one.frames;
  saves = λ t. omega (arith, one.saves t, two.saves t);
  unsaved = λ still. saves_nothing_then (one.unsaved still) (two.unsaved still);
}

-- and then the pages stay
pub goes_still : {T U : Type 0} {first : Result T PageFault} {still : Type 0} {old mid new : SessionView} (value : U) → GoesOnIf still old mid first → new.store.pages ≡ mid.store.pages → new.store.root ≡ mid.store.root → NoMoreSaves mid new → GoesOnIf still old new (Ok value)
goes_still {old = old} value one pages root saves = record {
  told = subst (λ (p : PagesView). IsTold old.store.pages.disk ↔ IsTold p.disk) (sym pages) one.told;
  history = λ told. subst (λ (p : PagesView). Continues old.store.pages.disk p.disk) (sym pages) (one.history told);
  later = subst (λ (p : PagesView). old.store.pages.faults ≤ p.faults) (sym pages) one.later;
  failed = λ is. absurd (cc (is));
  memory = λ is. absurd (cc (is));
  slots = ap (λ (r : Root). r.slots) root ∙ one.slots;
  log_pages = ap (λ (r : Root). r.log_pages) root ∙ one.log_pages;
  frames = ap (λ (p : PagesView). p.backing.frames) pages ∙ one.frames;
  saves = λ t. omega (arith, one.saves t, saves t);
  unsaved = λ still.
      let was = one.unsaved still in
      record { root = root ∙ was.root; drives = subst (λ (p : PagesView). DrivesOut (driven old.store.pages) (driven p)) (sym pages) was.drives };
}

-- a root was selected, or was to be
pub goes_committed : {T : Type 0} {result : Result T PageFault} {still : Type 0} {old new : SessionView} → CommitsPages old.store.pages new.store.pages result → size_of new.store.root ≡ size_of old.store.root → NoMoreSaves old new → (still → ⊥) → GoesOnIf still old new result
goes_committed did size saves not = record {
  told = did.told;
  history = did.history;
  later = did.later;
  failed = did.failed;
  memory = did.memory;
  slots = ap (λ (s : StoreSize). s.slots) size;
  log_pages = ap (λ (s : StoreSize). s.log_pages) size;
  frames = did.frames;
  saves = saves;
  unsaved = λ still. absurd (not still);
}

-- a fault ends a call that may take a checkpoint
pub checks_failed : {T U : Type 0} {fault : PageFault} {old new : SessionView} (result : Result U PageFault) → IsErrAnd result (λ why. why ≡ fault) → ChecksOn {T = T} old new (Err fault) → ChecksOn old new result
checks_failed {T = T} {U = U} {fault = fault} {old = old} {new = new} result is on =
    let why = err_from_is_err_and result is in
    subst (ChecksOn old new) (sym (why.1 ∙ ap Err why.2)) (record {
      told = on.told;
      history = on.history;
      later = on.later;
      failed = λ of. on.failed (fault_same {T = T} {result = Err fault} refl refl of);
      memory = λ of. on.memory (fault_same {T = T} {result = Err fault} refl refl of);
      slots = on.slots;
      log_pages = on.log_pages;
      frames = on.frames;
      saves = on.saves;
      unsaved = λ still. absurd (true≢false (sym still.0));
    })

-- the record of a checkpoint stands at the end of the log before it
pub checkpoint_later : {view : StoreView} → IsStoreReady view → (checkpoint : ℕ) → checkpoint ≡ view.log.end → checkpoint ≡ view.root.checkpoint → ⊥
checkpoint_later ready checkpoint at same = omega (arith, at, same, ready.formed.before_end, ready.log.later)

-- nothing was done to the store
pub goes_opened : {U : Type 0} {still : Type 0} {old : SessionView} {opened : OpenView} (value : U) → NoMoreSaves old (with_opened old opened) → GoesOnIf still old (with_opened old opened) (Ok value)
goes_opened {old = old} value saves = record {
  told = (λ told. told, λ told. told);
  history = λ told. started old.store.pages.disk _;
  later = omega arith;
  failed = λ is. absurd (cc (is));
  memory = λ is. absurd (cc (is));
  slots = refl;
  log_pages = refl;
  frames = refl;
  saves = saves;
  unsaved = λ still. record { root = refl; drives = drives_nothing (driven old.store.pages) };
}

-- nothing was done, and a fault is answered that is none of the device
pub goes_damaged : {T : Type 0} {still : Type 0} (view : SessionView) (place : Place) → GoesOnIf {T = T} still view view (Err (Damaged place))
goes_damaged view place = record {
  told = (λ told. told, λ told. told);
  history = λ told. started view.store.pages.disk _;
  later = omega arith;
  failed = λ is. absurd (cc (is));
  memory = λ is. absurd (cc (is));
  slots = refl;
  log_pages = refl;
  frames = refl;
  saves = λ t. omega arith;
  unsaved = λ still. saves_nothing view;
}

-- ---- behind a checkpoint

pub record IsBehind (old new : SessionView) : Type 0 where
  pub ready : IsReady new
  pub saved : IsSaved new.store
  pub checkpoints : Checkpoints old.opened new.opened
  pub anew : CountsAnew old new

pub on_ok_behind : {T : Type 0} (old new : SessionView) (result : Result T PageFault) → OnOk result (IsReady new) → OnOk result (IsSaved new.store) → OnOk result (Checkpoints old.opened new.opened) → OnOk result (CountsAnew old new) → OnOk result (IsBehind old new)
on_ok_behind old new (Ok value) ready saved checkpoints anew = record { ready = ready; saved = saved; checkpoints = checkpoints; anew = anew }
on_ok_behind old new (Err fault) ready saved checkpoints anew = tt

-- ---- a call on pages alone

pub goes_called : {T : Type 0} {result : Result T PageFault} {old : SessionView} {pages : PagesView} {asks writes : ℕ} → PassesOn asks writes old.store.pages pages → old.store.pages.settled ≡ true → (IsErrOf result DeviceFailed → Rises old.store.pages.faults pages.faults) → (IsErrOf result NoMemory → ⊥) → GoesOn old (with_pages pages old) result
goes_called passes settled failed memory = record {
  told = passes.leaves.told;
  history = λ told. continues (passes.leaves.moments settled told);
  later = passes.later;
  failed = failed;
  memory = memory;
  slots = refl;
  log_pages = refl;
  frames = ap (λ (b : Backing). b.frames) passes.backing;
  saves = λ t. omega arith;
  unsaved = λ still. record { root = refl; drives = passes.drives };
}

-- a look by which no page was mapped, and none holds anything else
pub looks_on : {T : Type 0} {result : Result T PageFault} {touched : Keys} {asks outs : ℕ} {pages : PagesView} (old : SessionView) → IsReady old → AreCounted old.store.pages → AreCounted pages → PagesCall touched asks outs old.store.pages pages result → pages.mapped ≡ old.store.pages.mapped
    → (IsTold old.store.pages.disk → pages.held ≡ old.store.pages.held) → OnOk result (IsTold old.store.pages.disk → AreHeaps pages) → LooksOn old (with_pages pages old) result
looks_on {result = result} old ready counted_old counted did mapped held heaps = record {
  ready = on_ok_weaker result (λ are. ready_looked old did.step.passes mapped counted_old counted ready held (λ told. are (did.step.passes.leaves.told.1 told))) heaps;
  shows = λ told state shows. shows_looked old did.step.passes mapped counted_old counted ready.store.settled_now told (held told) shows;
  catalog = refl;
  log = refl;
  opened = refl;
  sound = did.sound;
  moments = keeps_looked did.step.passes ready.store.settled_now;
  goes = goes_called did.step.passes ready.store.settled_now did.failed did.memory;
}
