-- A change that is made: the state that follows is shown.
use Rattle.std.proofs.Common.{◌≡◌, ℕ, ◌+◌, ◌<◌, ◌≤◌, List, [], ◌∷◌, length, refl, sym, ◌∙◌, ap, subst, arith}
use Rattle.std.specs.Prelude.{true, false, nat_le, Ok}
use Rattle.std.proofs.lemmas.Bool.Decides.{nat_tests}
use Rattle.rss_base.specs.DiskRule.{IsTold}
use Rattle.rss_base.specs.Paged.{mapped_of}
use Rattle.rss_base.specs.Steps.{AreCounted}
use Rattle.rss_base.specs.declared.change.Change as told
use Rattle.rss_base.specs.declared.key.Space.TheVariants.{Overflow}
use Rattle.rss_base.specs.declared.log_record.LogRecord.TheVariants as records
use Rattle.rss_base.specs.declared.root.Root.{Root}
use Rattle.rss_model.specs.Changes.{Change, own}
use Rattle.rss_model.specs.Fits.{Fits}
use Rattle.rss_model.specs.Machine.{StoreSize, State, with_changes, now}
use Rattle.rss_model.specs.Meter.{MayLead}
use Rattle.rss_model.specs.Kept.{up_to, FitMixed}
use Rattle.rss_model.specs.Records.{Changed}
use Rattle.rss_model.specs.Spares.{ChangeCounts, change_counts, page_counts, with_one, IsInSession}
use Rattle.rss_model.specs.EngineLogs.{appended}
use Rattle.rss_stored.specs.LogLaws.{IsStoredOf, ChangeTies, noted}
use Rattle.rss_model.proofs.LogLists.{by_same}
use Rattle.rss_model.proofs.Mixing.{own_here, own_off, up_skip, up_take}
use Rattle.rss_model.proofs.Sparing.{session_changes}
use Rattle.rss_access.proofs.Altering.{alters_leads}
use Rattle.rss_access.specs.Changes.{Applies, CanApply, NoneApplies, Makes}
use Rattle.rss_store.specs.Changing.{access, MayMake, MakesOne}
use Rattle.rss_store.specs.Shown.{ShowsWith, Shows}
use Rattle.rss_store.specs.Stores.{StoreView, IsReady}
use Rattle.rss_store.proofs.Definitions.{same_back, told_same}
use Rattle.rss_store.proofs.Growing.{Appends, logged_appended}
use Rattle.rss_store.proofs.Altered.{leaves_made, written_made, definitions_made, two_made}

-- ---- all changes are among those that may be mixed

less_own : (u : ℕ) (c : Change) (cs : List Change) → length (own u cs) ≤ length (own u (c ∷ cs))
less_own u c cs = by_same c.by u
    (λ is. omega (arith, ap (λ (l : List Change). length l) (own_here u c cs is)))
    (λ off. omega (arith, ap (λ (l : List Change). length l) (own_off u c cs off)))

up_own : (counts : ℕ → ℕ) (cs : List Change) → ((u : ℕ) → length (own u cs) ≤ counts u) → up_to counts cs ≡ cs
up_own counts [] many = refl
up_own counts (c ∷ cs) many =
    let one : length (own c.by cs) < counts c.by = omega (arith, many c.by, ap (λ (l : List Change). length l) (own_here c.by c cs refl)) in
    let none : nat_le (counts c.by) (length (own c.by cs)) ≡ false = grind (arith, nat_tests) in
    up_take counts c cs none ∙ ap (λ (l : List Change). c ∷ l) (up_own counts cs (λ u. omega (arith, many u, less_own u c cs)))

module _ (state : State) (change : Change) (mixed : FitMixed (noted change state.meter.over state)) where
  abbrev all_own : List Change → ℕ → ℕ
  all_own cs u = length (own u cs)

  -- with the change
  fits_then : Fits state.size.slots (with_changes state.base (change ∷ state.changes))
  fits_then = subst (λ (cs : List Change). Fits state.size.slots (with_changes state.base cs)) (up_own (all_own (change ∷ state.changes)) (change ∷ state.changes) (λ u. omega arith)) (mixed (all_own (change ∷ state.changes)))

  -- and without it
  fits_before : Fits state.size.slots (now state)
  fits_before =
      let skipped : nat_le (length (own change.by state.changes)) (length (own change.by state.changes)) ≡ true = grind (arith, nat_tests) in
      subst (λ (cs : List Change). Fits state.size.slots (with_changes state.base cs)) (up_skip (all_own state.changes) change state.changes skipped ∙ up_own (all_own state.changes) state.changes (λ u. omega arith)) (mixed (all_own state.changes))

-- ---- where it may be made

-- the slots of the store
pub slots_shown : {view : StoreView} {state : State} {there : List Change} {over : ℕ} → IsReady view → ShowsWith view state there over → state.size.slots ≡ view.pages.slots
slots_shown ready shown = ap (λ (s : StoreSize). s.slots) shown.tied.size ∙ ap (λ (r : Root). r.slots) shown.disk.root_is ∙ sym ready.size

module _ {old : StoreView} {told_change : told.Change} (ready : IsReady old) where
  pub can_make : (state : State) (change : Change) → Shows old state → MayMake old state told_change change → CanApply (access old) told_change (now state) change
  can_make state change shown may = record {
    spells = shown.spells;
    tells = record { maker = refl; item = may.told.tells.item };
    means = may.told.means;
    holds = sym may.finds;
    fit = subst (λ (slots : ℕ). Fits slots (now state)) (slots_shown ready shown) (fits_before state change may.mixed);
    fit_next = subst (λ (slots : ℕ). Fits slots (with_changes state.base (change ∷ state.changes))) (slots_shown ready shown) (fits_then state change may.mixed);
  }

-- ---- what follows

module _ {T : Type 0} (told_change : told.Change) (old new : StoreView) {value : T} (change_ties : ChangeTies) (makes : Makes told_change (access old) (access new) (Ok value)) (applies : Applies told_change (access old) (access new)) (root : new.root ≡ old.root) (number : new.number ≡ old.number)
    (counted : AreCounted new.pages) (ready : IsReady old) (told : IsTold old.pages.disk) (at t : ℕ) (appends : Appends (records.Change t told_change) at old.log new.log)
    (state : State) (change : Change) (by : change.by ≡ t) (shown : Shows old state) (may : MayMake old state told_change change) where
  abbrev over : ℕ
  over = mapped_of new.pages.mapped Overflow new.pages.slots

  can : CanApply (access old) told_change (now state) change
  can = can_make ready state change shown may

  appends_by : Appends (records.Change change.by told_change) at old.log new.log
  appends_by = subst (λ (u : ℕ). Appends (records.Change u told_change) at old.log new.log) (sym by) appends

  tied : IsStoredOf shown.stored (appended shown.log (records.Change change.by told_change) (Changed change)) (noted change over state)
  tied = record {
    ties = change_ties shown.stored.listing shown.stored.saved shown.log state told_change change over shown.tied.ties (told_same (same_back shown.definitions) may.told) may.finds may.alone may.mixed;
    older = shown.tied.older;
    newer = shown.tied.newer;
    size = shown.tied.size;
    tables = shown.tied.tables;
  }

  abbrev next : State
  next = noted change over state

  session : IsInSession (change_counts next.base.definitions next.meter) (length next.changes) (page_counts new.pages)
  session =
      let counts : ChangeCounts = change_counts state.base.definitions state.meter in
      let images : ℕ = (change_counts next.base.definitions next.meter).images in
      let more : length state.changes + 1 ≡ length (change ∷ state.changes) = omega arith in
      subst (λ (n : ℕ). IsInSession (with_one images counts) n (page_counts new.pages)) more
      (session_changes counts images (length state.changes) (page_counts old.pages) (page_counts new.pages) shown.session (two_made old new makes root ready counted))

  pub makes_one : MakesOne new state change
  makes_one = record {
    over = over;
    allowed = subst (λ (before : ℕ). MayLead (now state) (with_changes state.base (change ∷ state.changes)) change.item before over) (sym shown.over_is) (alters_leads (access old) (access new) told_change makes.step makes.alters told (now state) change can);
    shows = record {
      log = appended shown.log (records.Change change.by told_change) (Changed change);
      stored = shown.stored;
      disk = leaves_made old new makes root told number ready.settled_now shown.disk;
      tied = tied;
      logged = logged_appended (Changed change) root appends_by shown.logged;
      definitions = definitions_made old new makes root shown.definitions;
      spells = applies told (now state) change can;
      written = written_made old new makes root told ready shown.written;
      heap = shown.heap;
      session = session;
      over_is = refl;
    };
  }

-- it can't be refused
pub may_not_make : {old : StoreView} (told_change : told.Change) → IsReady old → NoneApplies told_change (access old) → (state : State) (change : Change) → Shows old state → MayMake old state told_change change → ⊥
may_not_make told_change ready none state change shown may = none (now state) change (can_make ready state change shown may)
