-- A device that is handed back, and what an opening passes on, both seen from an earlier moment.
use Rattle.std.proofs.Common.{◌≡◌, inl, inr, ⊎_elim, ℕ, ◌<◌, List, Option, sym, ◌∙◌, ap, subst, arith}
use Rattle.std.specs.Prelude.{Some, Result, Ok, Err}
use Rattle.rss_base.specs.Answers.{open_error}
use Rattle.rss_base.specs.declared.fault.OpenFault.{OpenFault}
use Rattle.rss_base.specs.declared.fault.OpenFault.TheVariants.{Device as DeviceFailed}
use Rattle.rss_base.specs.declared.fault.PageFault.{PageFault}
use Rattle.rss_base.specs.declared.fault.PageFault.TheVariants.{Damaged as PageDamaged}
use Rattle.rss_base.specs.declared.key.PageKey.{PageKey}
use Rattle.rss_base.specs.declared.place.Place.{Place}
use Rattle.rss_base.specs.declared.place.Place.TheVariants.{Room, Log as LogPlace}
use Rattle.rss_base.specs.declared.root.Root.{Root}
use Rattle.rss_base.specs.Devices.{DeviceView, OnlyReads}
use Rattle.rss_base.specs.DiskRule.{Pages, IsTold}
use Rattle.rss_base.specs.Faults.{Rises}
use Rattle.rss_base.specs.Layout.{HasRoot}
use Rattle.rss_base.specs.Steps.{device_below}
use Rattle.rss_base.proofs.Moments.{then, widened, now, continues, continues_then, reads_then, rises_since}
use Rattle.rss_stored.specs.Store.{Stored}
use Rattle.rss_stored.specs.LogLaws.{IsRested}
use Rattle.rss_stored.proofs.Stores.{one_root}
use Rattle.rss_check.specs.Layouts.{HasLayout, position_most}
use Rattle.rss_check.specs.Refused.{IsNoStore, IsEarlyPlace, IsUnopened}
use Rattle.rss_check.proofs.Refused.{layout_room, found_passed, refused_fault, fault_no_size, fault_device, fault_damaged, fault_has_layout, unopened_after}
use Rattle.rss_store.specs.Stores.{StoreView}
use Rattle.rss_store.specs.Opening.{IsSpent, PassesOpening, IsHandedBack, IsReadFrom, FindsDamage, Begins, ReadsFrom, OpensStore}

-- ---- a layout that is sound

-- a sound layout has the end of the log
layout_end : {pages : Pages} {root : Root} {number : ℕ} {owners : List (Option PageKey)} → HasLayout pages root number owners → {other : Root} {others : ℕ} → HasRoot pages others other → root.end ≡ other.end
layout_end has there = ap (λ (r : Root). r.end) (one_root has.root_there there).1

layout_unspent : {pages : Pages} {root : Root} {number : ℕ} {owners : List (Option PageKey)} → HasLayout pages root number owners → root.end < position_most → IsSpent pages → ⊥
layout_unspent has early spent = omega (arith, early, spent.end, layout_end has spent.root_there)

-- ---- what an opening passes on

-- one that writes nothing
pub passes_reading : {old new : DeviceView} → OnlyReads old new → PassesOpening old new
passes_reading reads = record {
  told = λ told. record { pages = told.pages; is = reads.contents ∙ told.is };
  history = λ told. continues (reads.moments told);
  moments = λ pages told stored store. widened (reads.moments (record { pages = pages; is = told })) (λ image left. inl left);
  rested = λ pages told stored store rested. reads;
  later = reads.later;
}

pub passes_before : {old mid new : DeviceView} → OnlyReads old mid → PassesOpening mid new → PassesOpening old new
passes_before {old = old} {mid = mid} first rest =
    let then_told : IsTold old.disk → IsTold mid.disk = λ told. record { pages = told.pages; is = first.contents ∙ told.is } in
    record {
      told = λ told. rest.told (then_told told);
      history = λ told. continues_then (continues (first.moments told)) (rest.history (then_told told));
      moments = λ pages told stored store.
          let read = first.moments (record { pages = pages; is = told }) in
          then (widened read (λ image left. inl left)) (rest.moments pages (first.contents ∙ told) stored store) (λ image. ⊎_elim (λ left. inl (⊎_elim (λ was. was) (λ was. was) (now read image left))) (λ like. inr like));
      rested = λ pages told stored store rested. reads_then first (rest.rested pages (first.contents ∙ told) stored store rested);
      later = omega (arith, first.later, rest.later);
    }

-- ---- handed back

-- by an opening that wrote nothing
pub handed_back : {old back : DeviceView} {fault : OpenFault} → IsUnopened old fault → (fault ≡ DeviceFailed → Rises old.faults back.faults) → OnlyReads old back → IsHandedBack old back fault
handed_back refused cause reads = record {
  refused = refused;
  cause = cause;
  passes = passes_reading reads;
  reads = λ place is. reads;
  broken = λ place pages told broken. reads;
  overfull = λ pages told over. reads;
  spent = λ pages told is. reads;
  tables = λ pages told none. reads;
  keeps = λ position is pages told. widened (reads.moments (record { pages = pages; is = told })) (λ image left. inl left);
}

pub handed_before : {old mid back : DeviceView} {fault : OpenFault} → OnlyReads old mid → IsHandedBack mid back fault → IsHandedBack old back fault
handed_before {old = old} {mid = mid} reads is = record {
  refused = unopened_after reads is.refused;
  cause = λ failed. rises_since reads.later (is.cause failed);
  passes = passes_before reads is.passes;
  reads = λ place named. reads_then reads (is.reads place named);
  broken = λ place pages told broken. reads_then reads (is.broken place pages (reads.contents ∙ told) broken);
  overfull = λ pages told over. reads_then reads (is.overfull pages (reads.contents ∙ told) over);
  spent = λ pages told spent. reads_then reads (is.spent pages (reads.contents ∙ told) spent);
  tables = λ pages told none. reads_then reads (is.tables pages (reads.contents ∙ told) none);
  keeps = λ position at pages told.
      let read = reads.moments (record { pages = pages; is = told }) in
      then (widened read (λ image left. inl left)) (is.keeps position at pages (reads.contents ∙ told)) (λ image. ⊎_elim (λ left. inl (⊎_elim (λ was. was) (λ was. was) (now read image left))) (λ has. inr has));
}

pub opens_before : {old mid : DeviceView} {new : StoreView} → OnlyReads old mid → OpensStore mid new → OpensStore old new
opens_before reads is = record {
  ready = is.ready;
  saved = is.saved;
  room = is.room;
  early = is.early;
  begins = λ pages told. is.begins pages (reads.contents ∙ told);
  passes = passes_before reads is.passes;
  unbroken = λ place pages told. is.unbroken place pages (reads.contents ∙ told);
  not_overfull = λ pages told. is.not_overfull pages (reads.contents ∙ told);
  not_spent = λ pages told. is.not_spent pages (reads.contents ∙ told);
  tables = λ pages told. is.tables pages (reads.contents ∙ told);
}

-- whatever the size
sized_reads : {old new : DeviceView} (size : ℕ) → OnlyReads old new → OnlyReads old (record new { size = size })
sized_reads size reads = record { contents = reads.contents; moments = reads.moments; same_writes = reads.same_writes; later = reads.later }

pub passes_sized : {old new : DeviceView} (size : ℕ) → PassesOpening old new → PassesOpening old (record new { size = size })
passes_sized size is = record {
  told = is.told;
  history = is.history;
  moments = is.moments;
  rested = λ pages told stored store rested. sized_reads size (is.rested pages told stored store rested);
  later = is.later;
}

pub handed_sized : {old back : DeviceView} {fault : OpenFault} (size : ℕ) → IsHandedBack old back fault → IsHandedBack old (record back { size = size }) fault
handed_sized size is = record {
  refused = is.refused;
  cause = is.cause;
  passes = passes_sized size is.passes;
  reads = λ place named. sized_reads size (is.reads place named);
  broken = λ place pages told broken. sized_reads size (is.broken place pages told broken);
  overfull = λ pages told over. sized_reads size (is.overfull pages told over);
  spent = λ pages told spent. sized_reads size (is.spent pages told spent);
  tables = λ pages told none. sized_reads size (is.tables pages told none);
  keeps = is.keeps;
}

-- ---- a store that was read, and then brought to rest

module _ {T : Type 0} {old : DeviceView} {mid new : StoreView} {result : Result T PageFault} (read : ReadsFrom old mid) (begins : Begins mid new result) where
  -- where the device tells its contents
  told_mid : IsTold old.disk → IsTold mid.pages.disk
  told_mid told = record { pages = told.pages; is = read.reads.contents ∙ told.is }

  told_old : (pages : Pages) → mid.pages.disk.contents ≡ Some pages → old.disk.contents ≡ Some pages
  told_old pages told = sym read.reads.contents ∙ told

  pub passes_begun : ((stored : Stored) → IsReadFrom stored mid → IsRested stored → OnlyReads (device_below mid.pages) (device_below new.pages)) → PassesOpening old (device_below new.pages)
  passes_begun rested = passes_before read.reads (record {
    told = begins.told;
    history = begins.history;
    moments = λ pages told stored store. widened (begins.moments stored (read.read pages (told_old pages told) stored store)) (λ image holds. inr holds);
    rested = λ pages told stored store is. rested stored (read.read pages (told_old pages told) stored store) is;
    later = begins.later;
  })

-- it is open
pub opens_store : {T : Type 0} {value : T} {old : DeviceView} {mid new : StoreView} → ReadsFrom old mid → Begins mid new (Ok value) → ((stored : Stored) → IsReadFrom stored mid → IsRested stored → OnlyReads (device_below mid.pages) (device_below new.pages)) → OpensStore old new
opens_store read begins rested = record {
  ready = begins.ready;
  saved = begins.saved;
  room = begins.room;
  early = omega (arith, read.early, read.saved.log, begins.appends);
  begins = λ pages told stored store. begins.begins stored (read.read pages told stored store);
  passes = passes_begun read begins rested;
  unbroken = λ place pages told found. found_passed (read.passed pages told) found;
  not_overfull = λ pages told. layout_room (read.layout pages told) read.half;
  not_spent = λ pages told. layout_unspent (read.layout pages told) read.early;
  tables = read.tables;
}

-- it is refused
module _ {T : Type 0} {old : DeviceView} {mid new : StoreView} (fault : PageFault) (read : ReadsFrom old mid) (begins : Begins {T = T} mid new (Err fault)) where
  damage : (place : Place) → fault ≡ PageDamaged place → IsTold old.disk → FindsDamage mid new place
  damage place is told = begins.damaged place (ap Err is) (told_mid read begins told)

  no_store : (pages : Pages) → old.disk.contents ≡ Some pages → (place : Place) → fault ≡ PageDamaged place → IsNoStore pages
  no_store pages told place is stored store = (damage place is (record { pages = pages; is = told })).why stored (read.read pages told stored store)

  at_log : (place : Place) → fault ≡ PageDamaged place → IsTold old.disk → IsEarlyPlace place → ⊥
  at_log place is told early = subst IsEarlyPlace (damage place is told).at.is early

  not_room : (pages : Pages) → old.disk.contents ≡ Some pages → (place : Place) → fault ≡ PageDamaged place
      → place ≡ Room → ⊥
  not_room pages told place is room =
      let at = (damage place is (record { pages = pages; is = told })).at in
      let clash : LogPlace at.at ≡ Room = sym at.is ∙ room in cc (clash)

  pub refuses_store : ((stored : Stored) → IsReadFrom stored mid → IsRested stored → OnlyReads (device_below mid.pages) (device_below new.pages)) → IsHandedBack old (device_below new.pages) (open_error fault)
  refuses_store rested = record {
    refused = record {
      refused = λ pages told.
          refused_fault fault (layout_room (read.layout pages told) read.half) (read.passed pages told)
          (no_store pages told) (not_room pages told);
      late = λ place is. at_log place (fault_damaged fault place is);
      right_size = fault_no_size fault;
    };
    cause = λ failed. rises_since read.reads.later (begins.failed (ap Err (fault_device fault failed)));
    passes = passes_begun read begins rested;
    reads = λ place is. absurd (fault_has_layout fault place is);
    broken = λ place pages told found. absurd (found_passed (read.passed pages told) found);
    overfull = λ pages told over. absurd (layout_room (read.layout pages told) read.half over);
    spent = λ pages told is. absurd (layout_unspent (read.layout pages told) read.early is);
    tables = λ pages told none. absurd (none (read.tables pages told));
    keeps = λ position is pages told.
        let told_is : IsTold old.disk = record { pages = pages; is = told } in
        then (widened (read.reads.moments told_is) (λ image left. inl left)) (damage (LogPlace position) (fault_damaged fault (LogPlace position) is) told_is).keeps (λ image has. inr (read.named pages told image has));
  }
