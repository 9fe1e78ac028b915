-- The next root of a store, and what is so once it is selected.
use Rattle.std.proofs.Common.{◌≡◌, ℕ, ◌-◌, ◌%◌, ◌≤◌, true, List, [], ◌++◌, length, drop, Some, sym, ◌∙◌, ap, subst, arith}
use Rattle.std.specs.Prelude.{Result, Ok, Err, OnOk}
use Rattle.std.proofs.lemmas.List.{length-drop, append-nil}
use Rattle.std.proofs.Math.Seq.{drop-append_seam}
use Rattle.rss_base.specs.DiskRule.{Pages, Told, IsTold, Leaves}
use Rattle.rss_base.specs.Sizes.{piece_bytes, system_pages}
use Rattle.rss_base.specs.Layout.{slots_at, IsWellFormed}
use Rattle.rss_base.specs.Paged.{Fixed, HasFixed, mapped_of, mapped_pages}
use Rattle.rss_base.specs.PageMap.{page_count}
use Rattle.rss_base.specs.Steps.{PagesView, AreCounted}
use Rattle.rss_base.specs.StoredPages.{mapped_by}
use Rattle.rss_base.specs.declared.key.Space.TheVariants.{Image}
use Rattle.rss_base.specs.declared.root.Root.{Root}
use Rattle.rss_log.specs.Logs.{LogView, IsLog, bytes_from, piece_start, tail_of}
use Rattle.rss_buffer.specs.Slots.{fixed_by}
use Rattle.rss_buffer.specs.Saving.{SavingView, AreSaveable}
use Rattle.rss_model.specs.Spares.{page_counts}
use Rattle.rss_stored.specs.Store.{Stored, IsStore}
use Rattle.rss_access.specs.Changes.{CanAlter}
use Rattle.rss_check.specs.Layouts.{IsLogBehind}
use Rattle.rss_store.specs.Changing.{access}
use Rattle.rss_catalog.specs.Catalogs.{HasSystemPages}
use Rattle.rss_store.specs.Stores.{StoreView, IsReady}
use Rattle.rss_store.proofs.Places.{store_fixed}

-- what holds where two facts do that a value brings
pub on_ok_both : {T E : Type 0} {P Q R : Type 0} (result : Result T E) → (P → Q → R) → OnOk result P → OnOk result Q → OnOk result R
on_ok_both (Ok value) both one other = both one other
on_ok_both (Err e) both one other = tt

-- ---- the root of a log

-- how many bytes stand behind the last full piece
pub length-tail_of : (log : LogView) → IsLog log → length (tail_of log) ≡ log.end % piece_bytes
length-tail_of log is =
    let order : log.head ≤ log.end = is.ring.order in
    let rest : length (tail_of log) ≡ length log.kept - (piece_start log.end - piece_start log.head) = length-drop (piece_start log.end - piece_start log.head) log.kept in
    omega (arith, rest, is.long)

-- what stands behind its front
pub seamed : (all front more : List ℕ) → all ≡ front ++ more → all ≡ front ++ drop (length front) all
seamed all front more is = is ∙ ap (λ (l : List ℕ). front ++ l) (sym (ap (drop (length front)) is ∙ drop-append_seam front more))

-- the log in memory is all of the root's
pub behind_itself : {next : Root} {log : LogView} → IsLog log → log.pages ≡ next.log_pages → log.head ≡ next.head → next.end ≡ log.end → next.tail ≡ tail_of log → IsLogBehind next log
behind_itself {next = next} {log = log} is pages head end tail = record {
  is_log = is;
  pages = pages;
  head = head;
  later = omega (arith, end);
  bytes = seamed (bytes_from log (piece_start next.end)) next.tail [] (ap (λ (n : ℕ). bytes_from log (piece_start n)) end ∙ sym tail ∙ no_more next.tail);
}
  where
    no_more : (bytes : List ℕ) → bytes ≡ bytes ++ []
    no_more bytes = sym (append-nil bytes)

-- ---- what is fixed

-- where the images are a store, all that has what is fixed is
pub fixes_now : {pages : PagesView} {saving : SavingView} {stored : Stored} → AreSaveable pages saving → pages.slots ≡ stored.root.slots → pages.backing.log_pages ≡ stored.root.log_pages → pages.backing.shadow ≡ stored.owners
    → IsTold pages.disk → Told pages.disk (Leaves pages.disk) → ((image : Pages) → Leaves pages.disk image → IsStore image stored) → (image : Pages) → HasFixed pages.fixed image → IsStore image stored
fixes_now {pages = pages} {stored = stored} saveable slots log_pages shadow told reads left image has =
    let fixed : pages.fixed ≡ fixed_by (slots_at stored.root.slots stored.root.log_pages) stored.owners (Some told.pages) =
    saveable.fixed ∙ (λ i. fixed_by (slots_at (slots i) (log_pages i)) (shadow i) (told.is i)) in
    store_fixed (left told.pages (reads told.pages told.is)) (subst (λ (f : Fixed). HasFixed f image) fixed has)

-- ---- pages that were counted

-- as many as before
pub counts_still : (old new : PagesView) → AreCounted old → AreCounted new → new.slots ≡ old.slots → new.mapped ≡ old.mapped → new.backing.shadow ≡ old.backing.shadow → page_counts new ≡ page_counts old
counts_still old new counted counted_now slots mapped shadow =
    let same : mapped_pages new.slots new.mapped ≡ mapped_pages old.slots old.mapped = λ i. mapped_pages (slots i) (mapped i) in
    let saved : page_count new.backing.shadow ≡ page_count old.backing.shadow = ap page_count shadow in
    let spare : new.spare ≡ old.spare = omega (arith, counted, counted_now, same, saved, slots) in
    λ i. record {
      slots = slots i;
      saved = saved i;
      saved_images = mapped_of (mapped_by (shadow i)) Image (slots i);
      mapped = same i;
      images = mapped_of (mapped i) Image (slots i);
      spare = spare i;
    }

-- a call may be made again
pub ready_now : {old new : StoreView} {next : Root} → IsReady old → IsWellFormed next → next.slots ≡ old.root.slots → next.log_pages ≡ old.root.log_pages → new.root ≡ next → new.number ≡ 3 - old.number → new.pages.backing.area ≡ next.area → new.pages.settled ≡ true → IsLogBehind next new.log
    → new.pages.slots ≡ old.pages.slots → new.pages.mapped ≡ old.pages.mapped → new.pages.backing.log_pages ≡ old.pages.backing.log_pages → length new.catalog.pending ≡ system_pages → CanAlter (access new) → IsReady new
ready_now {old = old} {new = new} {next = next} ready formed same_slots same_pages root number area settled log slots mapped log_pages pending can = record {
  number_low = omega (arith, number, ready.number_high);
  number_high = omega (arith, number, ready.number_low);
  formed = subst IsWellFormed (sym root) formed;
  size = slots ∙ ready.size ∙ sym same_slots ∙ ap (λ (r : Root). r.slots) (sym root);
  log_pages = log_pages ∙ ready.log_pages ∙ sym same_pages ∙ ap (λ (r : Root). r.log_pages) (sym root);
  area = area ∙ ap (λ (r : Root). r.area) (sym root);
  log = subst (λ (r : Root). IsLogBehind r new.log) (sym root) log;
  system = subst HasSystemPages (sym mapped) ready.system;
  pending_places = pending;
  settled_now = settled;
  heaps = can.heaps;
  tables = can.tables;
}
