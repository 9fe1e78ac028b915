-- A look that may lack memory: the entries of an image that is planned.
use mathlib.Core.HLevel.{⊥_prop}
use Rattle.std.proofs.Common.{◌≡◌, ℕ, ◌≤◌, List, length, refl, sym, ◌∙◌, ap, subst, arith}
use Rattle.std.specs.Prelude.{Some, All, Result, Ok, Err, IfOk, OnOk, IsErrOf}
use Rattle.std.proofs.Math.Logic.{∥∥₁_elim}
use Rattle.std.proofs.lemmas.Option.{same_Some}
use Rattle.rss_base.specs.DiskRule.{IsTold}
use Rattle.rss_base.specs.Listings.{field_numbers, relation_at}
use Rattle.rss_base.specs.Steps.{PagesView, PagesStep, AreCounted, no_page}
use Rattle.rss_base.specs.declared.fault.PageFault.{PageFault}
use Rattle.rss_base.specs.declared.fault.PageFault.TheVariants.{Device as DeviceFailed, Damaged, NoMemory}
use Rattle.rss_base.specs.declared.image.ImageEntry.{ImageEntry}
use Rattle.rss_base.specs.declared.place.Place.{Place}
use Rattle.rss_base.specs.declared.relation.RelationEntry.{RelationEntry}
use Rattle.rss_base.specs.declared.tid.Tid.{Tid}
use Rattle.rss_base.proofs.Steps.{all_mapped, all_held}
use Rattle.rss_tuple.specs.Heaps.{AreHeaps}
use Rattle.rss_model.specs.Fits.{tuple_limit}
use Rattle.rss_entries.specs.Building.{AreRising}
use Rattle.rss_entries.specs.Moving.{KeyKinds}
use Rattle.rss_access.specs.Changes.{both}
use Rattle.rss_access.specs.Filling.{keys_by, IsEntryLong, AreEntries, HasNoTables, SearchesPages}
use Rattle.rss_access.proofs.Heaped.{heaps_alike}
use Rattle.rss_access.proofs.ImageTables.{entries_still}
use Rattle.rss_access.proofs.ImageTouched.{spelled_shown}
use Rattle.rss_session.specs.Filling.{AreImageEntries}
use Rattle.rss_session.specs.Looks.{but_memory, SearchesOn}
use Rattle.rss_session.specs.Sessions.{SessionView, IsReady}
use Rattle.rss_session.proofs.Looked.{with_pages}
use Rattle.rss_session.proofs.Passing.{looks_on}

-- ---- what came of it, but for want of memory

device_failed : {T : Type 0} (result : Result T PageFault) → IsErrOf (but_memory result) DeviceFailed → IsErrOf result DeviceFailed
device_failed (Ok value) is = absurd (cc (is))
device_failed (Err DeviceFailed) is = refl
device_failed (Err (Damaged place)) is = absurd (cc (is))
device_failed (Err NoMemory) is = absurd (cc (is))

was_damaged : {T : Type 0} (result : Result T PageFault) (place : Place) → but_memory result ≡ Err (Damaged place) → result ≡ Err (Damaged place)
was_damaged (Ok value) place is = absurd (cc (is))
was_damaged (Err DeviceFailed) place is = absurd (cc (is))
was_damaged (Err (Damaged other)) place is = let same : other ≡ place = cc (is) in ap (λ (p : Place). Err (Damaged p)) same
was_damaged (Err NoMemory) place is = absurd (cc (is))

never_lacks : {T : Type 0} (result : Result T PageFault) → IsErrOf (but_memory result) NoMemory → ⊥
never_lacks (Ok value) is = absurd (cc (is))
never_lacks (Err DeviceFailed) is = absurd (cc (is))
never_lacks (Err (Damaged place)) is = absurd (cc (is))
never_lacks (Err NoMemory) is = absurd (cc (is))

-- what is so in any case
in_any_case : {T E P : Type 0} (result : Result T E) → P → OnOk result P
in_any_case (Ok value) is = is
in_any_case (Err e) is = tt

-- ---- the session

heaps_searched : {asks outs : ℕ} {old new : PagesView} → PagesStep no_page asks outs old new → IsTold old.disk → AreHeaps old → AreHeaps new
heaps_searched step told heaps = heaps_alike (λ key heap. step.held_off told key (λ none. none)) (λ key heap. step.notes_off key (λ none. none)) heaps

pub searches_on : {T : Type 0} {result : Result T PageFault} {pages : PagesView} (old : SessionView) → IsReady old → AreCounted old.store.pages → AreCounted pages → SearchesPages old.store.pages pages result
    → ((place : Place) → result ≡ Err (Damaged place) → IsTold old.store.pages.disk → ⊥) → SearchesOn old (with_pages pages old) result
searches_on {result = result} old ready counted_old counted did sound =
    looks_on old ready counted_old counted
    (record {
      step = did.step;
      failed = λ is. did.failed (device_failed result is);
      sound = λ place is. sound place (was_damaged result place is);
      memory = never_lacks result;
    })
    (all_mapped did.step) (all_held did.step) (in_any_case (but_memory result) (λ told. heaps_searched did.step told (ready.store.heaps told)))

-- the pages spell tables in which a relation has no more tuples than it may
pub has_tables_of : {view : SessionView} (number : ℕ) {relation : RelationEntry} → IsReady view → IsTold view.store.pages.disk → relation_at view.store.catalog.listing number ≡ Some relation → HasNoTables (both view.store.pages view.store.catalog) number relation → ⊥
has_tables_of number {relation = relation} ready told at none = ∥∥₁_elim (ready.store.tables told) ⊥_prop (λ has.
    none has.tables (spelled_shown has.spells has.tuples has.tids) at (omega (arith, has.spells.counts number relation at, has.few relation.name)))

-- ---- the entries

module _ (old : SessionView) {pages : PagesView} (image : ImageEntry) (relation : RelationEntry) (at : relation_at old.store.catalog.listing image.relation ≡ Some relation) {which : List ℕ} (numbers : which ≡ field_numbers image) {asks outs : ℕ} (step : PagesStep no_page asks outs old.store.pages pages) where
  image_entries : (entries : List (List ℕ × Tid)) → (length entries ≤ relation.live) × (length entries ≤ tuple_limit) → All (IsEntryLong (keys_by relation which)) entries → AreRising entries
      → (IsTold old.store.pages.disk → AreEntries (both old.store.pages old.store.catalog) image.relation relation which entries) → AreImageEntries (with_pages pages old) image entries
  image_entries entries few long rising are = record {
    most = few.1;
    rising = rising;
    of = λ other there.
        let same : relation ≡ other = same_Some _ _ (sym at ∙ there) in record {
          few = subst (λ (r : RelationEntry). length entries ≤ r.live) same few.0;
          long = subst (λ (key : KeyKinds). All (IsEntryLong key) entries) (λ i. keys_by (same i) (numbers i)) long;
          are = λ now.
              let told = step.passes.leaves.told.1 now in
              subst (λ (its : RelationEntry × List ℕ). AreEntries (both pages old.store.catalog) image.relation its.0 its.1 entries) (λ i. (same i, numbers i))
              (entries_still old.store.catalog image.relation relation which entries step told (are told));
        };
  }

  pub entries_found : {V : Type 0} (items : V → List (List ℕ × Tid)) (result : Result V PageFault)
      → IfOk result (λ v. (length (items v) ≤ relation.live) × (length (items v) ≤ tuple_limit)) → IfOk result (λ v. All (IsEntryLong (keys_by relation which)) (items v)) → IfOk result (λ v. AreRising (items v))
      → IfOk result (λ v. IsTold old.store.pages.disk → AreEntries (both old.store.pages old.store.catalog) image.relation relation which (items v))
      → IfOk result (λ v. AreImageEntries (with_pages pages old) image (items v))
  entries_found items (Ok v) few long rising are = image_entries (items v) few long rising are
  entries_found items (Err fault) few long rising are = tt
