-- Why pages don't open, by the fault, and a device that didn't.
use Rattle.std.proofs.Common.{◌≡◌, inl, inr, ℕ, ◌*◌, ◌≤◌, List, Option, refl, sym, ◌∙◌, ap, subst, arith}
use Rattle.std.specs.Prelude.{is_some, count_by, Result, Err}
use Rattle.rss_base.specs.Answers.{open_error}
use Rattle.rss_base.specs.declared.fault.OpenFault.{OpenFault}
use Rattle.rss_base.specs.declared.fault.OpenFault.TheVariants.{Device as DeviceFailed, NotAStore, Damaged, WrongSize, NoMemory as LacksMemory}
use Rattle.rss_base.specs.declared.fault.PageFault.{PageFault}
use Rattle.rss_base.specs.declared.fault.PageFault.TheVariants.{Device as PageDevice, Damaged as PageDamaged, NoMemory as PageNoMemory}
use Rattle.rss_base.specs.declared.key.PageKey.{PageKey}
use Rattle.rss_base.specs.declared.place.Place.{Place}
use Rattle.rss_base.specs.declared.place.Place.TheVariants.{Room}
use Rattle.rss_base.specs.declared.root.Root.{Root}
use Rattle.rss_base.specs.Devices.{DeviceView, OnlyReads, ReadsStore}
use Rattle.rss_base.specs.DiskRule.{Pages, Told}
use Rattle.rss_base.specs.Layout.{map_at, IsLayoutFault}
use Rattle.rss_base.specs.Listings.{Listing}
use Rattle.rss_base.specs.PageMap.{page_count, IsMap}
use Rattle.rss_base.specs.Paged.{Held}
use Rattle.rss_base.proofs.Moments.{reads_then, rises_since}
use Rattle.rss_stored.specs.Store.{IsBrokenAt, IsOverfull}
use Rattle.rss_stored.proofs.Stores.{one_root, one_map, not_overfull, sound_unbroken, broken_once}
use Rattle.rss_check.specs.Faults.{Breaks, layout, unmapped, undefined, heap_page, entry, unled, count, image, unused, link, no_record, marks, shared, no_way, no_room, IsFirstFault, ArePassed}
use Rattle.rss_check.specs.Layouts.{HasLayout}
use Rattle.rss_check.specs.Lines.{Line, Layout, Links, line_number, ComesBefore, IsFirst}
use Rattle.rss_check.specs.Refused.{IsNoStore, IsFoundAt, IsEarlyPlace, look_error, IsRefused, IsUnopened}
use Rattle.rss_check.specs.Tuples.{BreaksIn, page_in, entry_in, unled_in, count_in, BreaksTuples, BreaksPaths, image_in, unused_in, link_in}
use Rattle.rss_check.proofs.FirstFaults.{faults_are_one}
use Rattle.rss_check.proofs.Firsts.{not_before}
use Rattle.rss_check.proofs.NoFaults.{stores_have_none}

-- ---- places before the log

-- no line of the log has one
early_line : {pages : Pages} {line : Line} {place : Place} → IsEarlyPlace place → Breaks pages line place
    → line_number line ≤ line_number Links
early_line early (layout broken) = omega arith
early_line early (unmapped laid page low none) = omega arith
early_line early (undefined laid page low not) = omega arith
early_line early (heap_page at key bytes heap there not) = omega arith
early_line early (entry at segment tid not) = omega arith
early_line early (unled at segment page slot some not) = omega arith
early_line early (count at number relation listed wrong) = omega arith
early_line early (image at number of relation listed not) = omega arith
early_line early (unused at key space there not) = omega arith
early_line early (link at number of listed not) = omega arith
early_line early (no_record laid position front rest less placed is none) = absurd early
early_line early (marks at not) = absurd early
early_line early (shared at older newer front behind change its split crowded) = absurd early
early_line early (no_way at not) = absurd early
early_line early (no_room at stored over log less) = absurd early

pub found_at : {pages : Pages} {place : Place} → IsEarlyPlace place → IsFirstFault pages place → IsFoundAt pages place
found_at early first = record { first = first; early = early_line early first.breaks }

-- no line of tuples has another place
tuple_place : {held : Held} {slots : ℕ} {listing : Listing} {segment : ℕ} {line : Line} {place : Place}
    → BreaksIn held slots listing segment line place → IsEarlyPlace place
tuple_place (page_in key bytes of there not) = tt
tuple_place (entry_in tid not) = tt
tuple_place (unled_in page slot some not) = tt
tuple_place (count_in number relation listed within wrong) = tt

pub early_tuples : {held : Held} {slots : ℕ} {listing : Listing} {place : Place}
    → IsFirst (BreaksTuples held slots listing) place → IsEarlyPlace place
early_tuples first = tuple_place first.breaks.breaks

-- nor has a line of images and links
path_place : {held : Held} {slots : ℕ} {listing : Listing} {line : Line} {place : Place}
    → BreaksPaths held slots listing line place → IsEarlyPlace place
path_place (image_in number of relation listed not) = tt
path_place (unused_in key space there not) = tt
path_place (link_in number of listed not) = tt

pub early_paths : {held : Held} {slots : ℕ} {listing : Listing} {place : Place}
    → IsFirst (BreaksPaths held slots listing) place → IsEarlyPlace place
early_paths first = path_place first.breaks

-- ---- where pages are found to be no store

layout_least : {pages : Pages} {place other : Place} → IsBrokenAt place pages → Breaks pages Layout other
    → ComesBefore other place → ⊥
layout_least {place} {other} broken (layout there) before = not_before other place (broken_once there broken) before

-- a layout that is out of form comes first
found_layout : {pages : Pages} {place : Place} → IsBrokenAt place pages → IsFoundAt pages place
found_layout broken = record {
  first = record {
    line = Layout;
    breaks = layout broken;
    earlier = λ other elsewhere less breaks. absurd (omega (arith, less));
    least = λ other breaks before. layout_least broken breaks before;
  };
  early = omega arith;
}

-- there is one such place at most
pub found_once : {pages : Pages} {place other : Place} → IsFoundAt pages place → IsFoundAt pages other → place ≡ other
found_once {pages} {place} {other} one two = faults_are_one pages place other one.first two.first

-- none in a store
pub found_none : {pages : Pages} {place : Place} → IsFoundAt pages place → IsNoStore pages
found_none {pages} {place} found stored store =
    stores_have_none pages place (record { stored = stored; is = store }) found.first

-- and none where the lines are passed
pub found_passed : {pages : Pages} {place : Place} → ArePassed pages Links → IsFoundAt pages place → ⊥
found_passed {place = place} passed found = passed found.first.line place found.early found.first.breaks

-- ---- why pages don't open

-- pages with a root and a map aren't out of form
overfull_unbroken : {pages : Pages} (place : Place) → IsOverfull pages → IsBrokenAt place pages → ⊥
overfull_unbroken place over broken = sound_unbroken over.root_there over.map place broken

refused_found : {pages : Pages} (place : Place) → (IsOverfull pages → ⊥) → IsFoundAt pages place
    → IsRefused pages (NotAStore place)
refused_found {pages = pages} place room found = record {
  named = λ other is. let same : place ≡ other = cc in subst (IsFoundAt pages) same found;
  names = λ other there. inl (ap NotAStore (found_once found there));
  no_store = λ other is. absurd (cc);
  only_overfull = λ is. absurd (cc);
  overfull = λ over. absurd (room over);
}

refused_broken : {pages : Pages} (place : Place) → IsBrokenAt place pages → IsRefused pages (NotAStore place)
refused_broken place broken = refused_found place (λ over. overfull_unbroken place over broken) (found_layout broken)

pub refused_device : (pages : Pages) → IsRefused pages DeviceFailed
refused_device pages = record {
  named = λ place is. absurd (cc);
  names = λ place there. inr (inl refl);
  no_store = λ place is. absurd (cc);
  only_overfull = λ is. absurd (cc);
  overfull = λ over. inr (inl refl);
}

pub refused_memory : (pages : Pages) → IsRefused pages LacksMemory
refused_memory pages = record {
  named = λ place is. absurd (cc);
  names = λ place there. inr (inr (inl refl));
  no_store = λ place is. absurd (cc);
  only_overfull = λ is. absurd (cc);
  overfull = λ over. inr (inr refl);
}

-- a fault of the layout that names the place
pub refused_layout : {pages : Pages} (fault : OpenFault) → IsLayoutFault fault → ((place : Place) → fault ≡ NotAStore place → IsBrokenAt place pages) → IsRefused pages fault
refused_layout (NotAStore place) is broken = refused_broken place (broken place refl)
refused_layout {pages = pages} DeviceFailed is broken = refused_device pages
refused_layout (Damaged place) is broken = absurd is
refused_layout WrongSize is broken = absurd is
refused_layout {pages = pages} LacksMemory is broken = refused_memory pages

-- there isn't room for each page in two slots
pub refused_room : {pages : Pages} → IsOverfull pages → IsRefused pages (Damaged Room)
refused_room over = record {
  named = λ place is. absurd (cc);
  names = λ place there. inr (inr (inr over));
  no_store = λ place is stored store. not_overfull store over;
  only_overfull = λ is. over;
  overfull = λ other. inl refl;
}

-- a sound layout has room
pub layout_room : {pages : Pages} {root : Root} {number : ℕ} {owners : List (Option PageKey)} → HasLayout pages root number owners → 2 * page_count owners ≤ root.slots → IsOverfull pages → ⊥
layout_room {pages = pages} has half over =
    let roots = (one_root has.root_there over.root_there).1 in
    let maps = one_map has.root_there.there.formed has.map (subst (λ (r : Root). IsMap r.slots pages (map_at r.slots r.area) over.owners) (sym roots) over.map) in
    omega (arith, half, over.over, ap (λ (r : Root). r.slots) roots, ap (λ (o : List (Option PageKey)). count_by is_some o) maps)

-- something is damaged where the lines up to the links are passed
refused_damaged : {pages : Pages} (place : Place) → (IsOverfull pages → ⊥) → ArePassed pages Links → IsNoStore pages
    → (place ≡ Room → ⊥) → IsRefused pages (Damaged place)
refused_damaged place room passed none elsewhere = record {
  named = λ other is. absurd (cc);
  names = λ other there. absurd (found_passed passed there);
  no_store = λ other is. none;
  only_overfull = λ is. let same : place ≡ Room = cc in absurd (elsewhere same);
  overfull = λ over. absurd (room over);
}

-- by the fault of the pages
pub refused_fault : {pages : Pages} (fault : PageFault) → (IsOverfull pages → ⊥) → ArePassed pages Links
    → ((place : Place) → fault ≡ PageDamaged place → IsNoStore pages)
    → ((place : Place) → fault ≡ PageDamaged place → place ≡ Room → ⊥) → IsRefused pages (open_error fault)
refused_fault {pages = pages} PageDevice room passed none elsewhere = refused_device pages
refused_fault (PageDamaged place) room passed none elsewhere =
    refused_damaged place room passed (none place refl) (elsewhere place refl)
refused_fault {pages = pages} PageNoMemory room passed none elsewhere = refused_memory pages

-- by that of a look
refused_look : {pages : Pages} (fault : PageFault) → (IsOverfull pages → ⊥)
    → ((place : Place) → fault ≡ PageDamaged place → IsFoundAt pages place) → IsRefused pages (look_error fault)
refused_look {pages = pages} PageDevice room found = refused_device pages
refused_look (PageDamaged place) room found = refused_found place room (found place refl)
refused_look {pages = pages} PageNoMemory room found = refused_memory pages

-- ---- a device that didn't open

-- a fault of the layout is none of the size
pub unopened_layout : {device : DeviceView} (fault : OpenFault) → IsLayoutFault fault → Told device.disk (λ pages. IsRefused pages fault) → IsUnopened device fault
unopened_layout fault is why = record {
  refused = why;
  late = λ place at told early. subst IsLayoutFault at is;
  right_size = λ size. subst IsLayoutFault size is;
}

pub unopened_memory : (device : DeviceView) → IsUnopened device LacksMemory
unopened_memory device = unopened_layout LacksMemory tt (λ pages told. refused_memory pages)

-- nor is damage
pub unopened_room : {device : DeviceView} → Told device.disk IsOverfull → IsUnopened device (Damaged Room)
unopened_room over = record {
  refused = λ pages told. refused_room (over pages told);
  late = λ place is told early. let same : place ≡ Room = cc (is) in subst IsEarlyPlace same early;
  right_size = λ is. cc (is);
}

-- nor is a fault of the pages
pub fault_no_size : (fault : PageFault) → open_error fault ≡ WrongSize → ⊥
fault_no_size PageDevice is = cc (is)
fault_no_size (PageDamaged place) is = cc (is)
fault_no_size PageNoMemory is = cc (is)

-- it is the device's where that of the pages is
pub fault_device : (fault : PageFault) → open_error fault ≡ DeviceFailed → fault ≡ PageDevice
fault_device PageDevice is = refl
fault_device (PageDamaged place) is = absurd (cc (is))
fault_device PageNoMemory is = absurd (cc (is))

pub fault_damaged : (fault : PageFault) (place : Place) → open_error fault ≡ Damaged place → fault ≡ PageDamaged place
fault_damaged PageDevice place is = absurd (cc (is))
fault_damaged (PageDamaged found) place is = let same : found ≡ place = cc (is) in ap PageDamaged same
fault_damaged PageNoMemory place is = absurd (cc (is))

pub fault_has_layout : (fault : PageFault) (place : Place) → open_error fault ≡ NotAStore place → ⊥
fault_has_layout PageDevice place is = cc (is)
fault_has_layout (PageDamaged found) place is = cc (is)
fault_has_layout PageNoMemory place is = cc (is)

-- a look has failed as the opening has
look_no_size : (fault : PageFault) → look_error fault ≡ WrongSize → ⊥
look_no_size PageDevice is = cc (is)
look_no_size (PageDamaged place) is = cc (is)
look_no_size PageNoMemory is = cc (is)

look_undamaged : (fault : PageFault) (place : Place) → look_error fault ≡ Damaged place → ⊥
look_undamaged PageDevice place is = cc (is)
look_undamaged (PageDamaged found) place is = cc (is)
look_undamaged PageNoMemory place is = cc (is)

pub look_device : (fault : PageFault) → look_error fault ≡ DeviceFailed → fault ≡ PageDevice
look_device PageDevice is = refl
look_device (PageDamaged place) is = absurd (cc (is))
look_device PageNoMemory is = absurd (cc (is))

-- the pages were looked through, and are no store
pub unopened_look : {device : DeviceView} {root : Root} {number : ℕ} {owners : List (Option PageKey)} (fault : PageFault) → Told device.disk (λ pages. HasLayout pages root number owners) → 2 * page_count owners ≤ root.slots
    → ((place : Place) → fault ≡ PageDamaged place → Told device.disk (λ pages. IsFoundAt pages place))
    → IsUnopened device (look_error fault)
unopened_look fault has half found = record {
  refused = λ pages told.
      refused_look fault (layout_room (has pages told) half) (λ place is. found place is pages told);
  late = λ place is told early. look_undamaged fault place is;
  right_size = look_no_size fault;
}

-- seen from an earlier moment
pub unopened_after : {old mid : DeviceView} {fault : OpenFault} → OnlyReads old mid → IsUnopened mid fault → IsUnopened old fault
unopened_after reads is = record {
  refused = λ pages told. is.refused pages (reads.contents ∙ told);
  late = λ place at told early. is.late place at (record { pages = told.pages; is = reads.contents ∙ told.is }) early;
  right_size = is.right_size;
}

-- ---- a call of an opening, after others

-- another answer, which is no fault unless the first is
pub opens_then : {T U : Type 0} {old mid new : DeviceView} {first : Result T OpenFault} {second : Result U OpenFault} → OnlyReads old mid → ReadsStore mid new first → ((fault : OpenFault) → second ≡ Err fault → first ≡ Err fault) → ReadsStore old new second
opens_then before did is = record {
  reads = reads_then before did.reads;
  failed = λ failed. rises_since before.later (did.failed (is DeviceFailed failed));
}
