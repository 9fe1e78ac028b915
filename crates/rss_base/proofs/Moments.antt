-- How calls of a device follow one another.
use Rattle.std.proofs.Common.{◌≡◌, ◌⊎◌, inl, inr, ⊎_elim, ℕ, ◌+◌, ◌≤◌, Some, refl, sym, ◌∙◌, subst, arith}
use Rattle.std.specs.Prelude.{Result, IsErr}
use Rattle.std.proofs.lemmas.Bool.{cases_lt}
use Rattle.rss_base.specs.DiskRule.{Disk, Pages, Leaves, LeavesOnly, Places, IsAt, SameOff, TornIn, Passes, Continues, GoesOn, WritesIn}
use Rattle.rss_base.specs.Devices.{DeviceView, OnlyReads, SameDevice, ReadsPages, WritesPages, DrivenView, DrivesOut}
use Rattle.rss_base.specs.Faults.{Rises}
use Rattle.rss_base.specs.declared.fault.Failed.{Failed}

-- before the first call
pub started : (disk : Disk) (P : Pages → Type 0) → Passes disk disk P
started disk P = record {
  later = omega arith;
  past = λ t image le. ((λ left. left), (λ left. left));
  each = λ t image lt le left. absurd (omega arith);
}

-- one call after others
pub then : {P Q : Pages → Type 0} {old mid new : Disk} → Passes old mid P → Passes mid new Q → ((image : Pages) → Q image → P image) → Passes old new P
then {mid = mid} first second is = record {
  later = omega (arith, first.later, second.later);
  past = λ t image le. (
    (λ left. (first.past t image le).0 ((second.past t image (omega (arith, first.later))).0 left)),
    (λ left. (second.past t image (omega (arith, first.later))).1 ((first.past t image le).1 left)),
  );
  each = λ t image lt le left. elim (cases_lt mid.moment t) [
    | inl after ↦ is image (second.each t image after le left)
    | inr before ↦ first.each t image lt before ((second.past t image before).0 left)
  ];
}

-- more images are allowed
pub widened : {P Q : Pages → Type 0} {old new : Disk} → Passes old new P → ((image : Pages) → P image → Q image) → Passes old new Q
widened passes is = record {
  later = passes.later;
  past = passes.past;
  each = λ t image lt le left. is image (passes.each t image lt le left);
}

-- ---- pages that change in some places

pub none_changed : {places : Places} (pages : Pages) → SameOff places pages pages
none_changed pages = record { size = refl; others = λ q off. refl }

pub changed_then : {places : Places} {old mid new : Pages} → SameOff places old mid → SameOff places mid new → SameOff places old new
changed_then first second = record { size = second.size ∙ first.size; others = λ q off. second.others q off ∙ first.others q off }

-- more places may have changed
pub changed_among : {places wider : Places} {old new : Pages} → ((q : ℕ) → places q → wider q) → SameOff places old new → SameOff wider old new
changed_among is same = record { size = same.size; others = λ q off. same.others q (λ inside. off (is q inside)) }

-- ---- what a stop leaves

-- what a stop after a call leaves was left before it, or within it
pub now : {P : Pages → Type 0} {old new : Disk} → Passes old new P → (image : Pages) → Leaves new image → Leaves old image ⊎ P image
now {old = old} {new = new} passes image left = elim (cases_lt old.moment new.moment) [
  | inl after ↦ inr (passes.each new.moment image after (omega arith) left)
  | inr same ↦ inl (subst (λ (t : ℕ). old.images t image) (same_moment passes.later same) ((passes.past new.moment image same).0 left))
]
  where
    same_moment : {a b : ℕ} → a ≤ b → b ≤ a → b ≡ a
    same_moment p q = omega arith

-- nothing of some places was written
pub none_torn : {places : Places} {P : Pages → Type 0} (image : Pages) → P image → TornIn places P image
none_torn image has = record { before = image; was = has; same = none_changed image }

-- a call that leaves no more than could be left before it
pub no_more : {old new : Disk} → Passes old new (Leaves old) → (image : Pages) → Leaves new image → Leaves old image
no_more passes image left = ⊎_elim (λ before. before) (λ within. within) (now passes image left)

pub only_stays : {old new : Disk} (pages : Pages) → LeavesOnly old pages → Passes old new (Leaves old) → LeavesOnly new pages
only_stays pages only passes image left = only image (no_more passes image left)

-- time goes on from call to call
pub continues : {P : Pages → Type 0} {old new : Disk} → Passes old new P → Continues old new
continues passes = widened passes (λ image has. tt)

pub continues_then : {old mid new : Disk} → Continues old mid → Continues mid new → Continues old new
continues_then first second = then first second (λ image has. tt)

-- two such calls
pub no_more_then : {old mid new : Disk} → Passes old mid (Leaves old) → Passes mid new (Leaves mid) → Passes old new (Leaves old)
no_more_then first second = then first second (no_more first)

-- ---- calls of a device

-- a count that rose has risen since an earlier time
pub rises_since : {old mid new : ℕ} → old ≤ mid → Rises mid new → Rises old new
rises_since early rises = omega (arith, early, rises)

pub reads_none : (device : DeviceView) → OnlyReads device device
reads_none device = record { contents = refl; moments = λ told. started device.disk (Leaves device.disk); same_writes = refl; later = omega arith }

-- a call that reads, after others
pub reads_then : {old mid new : DeviceView} → OnlyReads old mid → OnlyReads mid new → OnlyReads old new
reads_then first second = record {
  contents = second.contents ∙ first.contents;
  moments = λ told. no_more_then (first.moments told) (second.moments (record { pages = told.pages; is = first.contents ∙ told.is }));
  same_writes = second.same_writes ∙ first.same_writes;
  later = omega (arith, first.later, second.later);
}

pub same_device : (device : DeviceView) → SameDevice device device
same_device device = record { contents = refl; moment = refl; images = λ t image. ((λ left. left), (λ left. left)); size = refl; writes = refl; faults = refl }

pub same_then : {old mid new : DeviceView} → SameDevice old mid → SameDevice mid new → SameDevice old new
same_then first second = record {
  contents = second.contents ∙ first.contents;
  moment = second.moment ∙ first.moment;
  images = λ t image. (
    (λ left. (first.images t image).0 ((second.images t image).0 left)),
    (λ left. (second.images t image).1 ((first.images t image).1 left)),
  );
  size = second.size ∙ first.size;
  writes = second.writes ∙ first.writes;
  faults = second.faults ∙ first.faults;
}

-- a device that is as it was was only read
pub same_reads : {old new : DeviceView} → SameDevice old new → OnlyReads old new
same_reads same = record {
  contents = same.contents;
  moments = λ told. record {
    later = omega (arith, same.moment);
    past = λ t image le. same.images t image;
    each = λ t image lt le left. absurd (omega (arith, lt, le, same.moment));
  };
  same_writes = same.writes;
  later = omega (arith, same.faults);
}

-- after calls that only read a stop leaves what it left before them
pub only_read : {old new : DeviceView} (pages : Pages) → old.disk.contents ≡ Some pages → LeavesOnly old.disk pages → OnlyReads old new → LeavesOnly new.disk pages
only_read pages told only reads = only_stays pages only (reads.moments (record { pages = pages; is = told }))

pub writes_none : {places : Places} (disk : Disk) → WritesIn places disk disk
writes_none disk = record {
  told = (λ told. told, λ told. told);
  kept = λ pages told. record { after = pages; told = told; same = none_changed pages };
  moments = λ told. started disk (TornIn _ (Leaves disk));
}

-- a call that only reads writes in no place
pub writes_nothing : {places : Places} {old new : DeviceView} → OnlyReads old new → WritesIn places old.disk new.disk
writes_nothing reads = record {
  told = (λ told. record { pages = told.pages; is = reads.contents ∙ told.is }, λ told. record { pages = told.pages; is = sym reads.contents ∙ told.is });
  kept = λ pages told. record { after = pages; told = reads.contents ∙ told; same = none_changed pages };
  moments = λ told. widened (reads.moments told) none_torn;
}

-- a call that writes, after others
pub writes_then : {places : Places} {old mid new : Disk} → WritesIn places old mid → WritesIn places mid new → WritesIn places old new
writes_then {places = places} {old = old} first second = record {
  told = (λ told. second.told.0 (first.told.0 told), λ told. first.told.1 (second.told.1 told));
  kept = λ pages told.
      let one = first.kept pages told in
      let two = second.kept one.after one.told in
      record { after = two.after; told = two.told; same = changed_then one.same two.same };
  moments = λ told. then (first.moments told) (second.moments (first.told.0 told)) (λ image torn.
      let earlier : TornIn places (Leaves old) torn.before = ⊎_elim (none_torn torn.before) (λ within. within) (now (first.moments told) torn.before torn.was) in
      record { before = earlier.before; was = earlier.was; same = changed_then earlier.same torn.same });
}

-- more places may be written
pub writes_among : {places wider : Places} {old new : Disk} → ((q : ℕ) → places q → wider q) → WritesIn places old new → WritesIn wider old new
writes_among is writes = record {
  told = writes.told;
  kept = λ pages told. let kept = writes.kept pages told in record { after = kept.after; told = kept.told; same = changed_among is kept.same };
  moments = λ told. widened (writes.moments told) (λ image torn. record { before = torn.before; was = torn.was; same = changed_among is torn.same });
}

-- nothing is written, and no page is driven out
pub drives_nothing : (view : DrivenView) → DrivesOut view view
drives_nothing view = record {
  only = writes_none view.disk;
  still = λ q is. is;
  later = omega arith;
  few = λ low. omega arith;
}

-- pages are driven out by one call, and then by another
pub drives_then : {old mid new : DrivenView} → DrivesOut old mid → DrivesOut mid new → DrivesOut old new
drives_then one two = record {
  only = writes_then one.only (writes_among one.still two.only);
  still = λ q is. one.still q (two.still q is);
  later = omega (arith, one.later, two.later);
  few = λ low. omega (arith, one.few (omega (arith, low, two.later)), two.few low);
}

-- the page that is written is one of these
pub writes_one : {places : Places} {at : ℕ} {old new : Disk} → places at → WritesIn (IsAt at) old new → WritesIn places old new
writes_one {places = places} inside writes = writes_among (λ q is. subst places (sym is) inside) writes

-- one call, and then others
pub goes_on : {places : Places} {old new : Disk} → WritesIn places old new → GoesOn old new
goes_on writes = record { told = writes.told; history = λ told. continues (writes.moments told) }

pub goes_then : {old mid new : Disk} → GoesOn old mid → GoesOn mid new → GoesOn old new
goes_then first second = record {
  told = (λ told. second.told.0 (first.told.0 told), λ told. first.told.1 (second.told.1 told));
  history = λ told. continues_then (first.history told) (second.history (first.told.0 told));
}

-- ---- calls that write pages, by their results

-- a call that read after one that wrote
pub wrote_reads : {T U : Type 0} {places : Places} {count : ℕ} {old mid new : DeviceView} {first : Result T Failed} {second : Result U Failed} → WritesPages places count old mid first → ReadsPages mid new second → WritesPages places count old new second
wrote_reads one two = record {
  only = writes_then one.only (writes_nothing two.reads);
  size = two.size ∙ one.size;
  writes = omega (arith, one.writes, two.reads.same_writes);
  cause = record { later = omega (arith, one.cause.later, two.reads.later); failed = λ is. rises_since one.cause.later (two.failed is) };
}

-- a call that wrote after another one
pub wrote_then : {T U : Type 0} {places : Places} {count more : ℕ} {old mid new : DeviceView} {first : Result T Failed} {second : Result U Failed} → WritesPages places count old mid first → WritesPages places more mid new second → WritesPages places (count + more) old new second
wrote_then one two = record {
  only = writes_then one.only two.only;
  size = two.size ∙ one.size;
  writes = omega (arith, one.writes, two.writes);
  cause = record { later = omega (arith, one.cause.later, two.cause.later); failed = λ is. rises_since one.cause.later (two.cause.failed is) };
}

-- more places may be written
pub wrote_among : {T : Type 0} {places wider : Places} {count : ℕ} {old new : DeviceView} {result : Result T Failed} → ((q : ℕ) → places q → wider q) → WritesPages places count old new result → WritesPages wider count old new result
wrote_among is wrote = record { only = writes_among is wrote.only; size = wrote.size; writes = wrote.writes; cause = wrote.cause }

-- another result, which is no error unless the first is
pub wrote_as : {T U : Type 0} {places : Places} {count : ℕ} {old new : DeviceView} {first : Result T Failed} {second : Result U Failed} → (IsErr second → IsErr first) → WritesPages places count old new first → WritesPages places count old new second
wrote_as is wrote = record { only = wrote.only; size = wrote.size; writes = wrote.writes; cause = record { later = wrote.cause.later; failed = λ error. wrote.cause.failed (is error) } }
