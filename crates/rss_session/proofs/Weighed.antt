-- What a session weighs is what the machine rules: its numbers are those of the meter.
use Rattle.std.proofs.Common.{◌≡◌, ℕ, suc, ◌+◌, ◌^◌, ◌<◌, ◌≤◌, Bool, true, false, ◌==◌, ◌&&◌, nat_le, if◌then◌else◌, List, [], ◌∷◌, length, map, min, refl, sym, ◌∙◌, ap, subst, arith}
use Rattle.std.specs.Prelude.{Option, Some, None, is_some, nat_lt, Result, Ok, Err}
use Rattle.std.specs.List.{AllByRecursion, list_any}
use Rattle.std.proofs.lemmas.Bool.{eq-eqb}
use Rattle.std.proofs.lemmas.Bool.Decides.{nat_tests}
use Rattle.std.proofs.lemmas.List.{length-map}
use Rattle.std.proofs.lemmas.Option.{same_Some}
use Rattle.rss_base.specs.DiskRule.{IsTold}
use Rattle.rss_base.specs.LogRecords.{record_size}
use Rattle.rss_base.specs.Paged.{mapped_of}
use Rattle.rss_base.specs.declared.key.PageKey.{PageKey}
use Rattle.rss_base.specs.declared.key.Space.TheVariants.{Home, Image as ImageSpace}
use Rattle.rss_base.specs.declared.log_record.LogRecord.TheVariants as records
use Rattle.rss_base.specs.declared.refusal.Refusal.{Refusal}
use Rattle.rss_base.specs.declared.refusal.Refusal.TheVariants.{Full, LogFull}
use Rattle.rss_base.specs.declared.root.Root.{Root}
use Rattle.rss_record.proofs.Marks.{length-marks_bytes}
use Rattle.rss_log.specs.Logs.{free_of}
use Rattle.rss_model.specs.Tables.{Definitions}
use Rattle.rss_model.specs.Changes.{Change, own}
use Rattle.rss_model.specs.Fits.{Fits}
use Rattle.rss_model.specs.Kept.{AreStamps}
use Rattle.rss_model.specs.Machine.{StoreSize, State, now}
use Rattle.rss_model.specs.Meter.{Stamp, change_size, checkpoint_size, changers, owed, free_between, log_room, least_position}
use Rattle.rss_model.specs.Records.{Listed, changes_in}
use Rattle.rss_model.specs.Recovers.{AreRising, older_of, first_in, named_in, NamesLists}
use Rattle.rss_model.specs.EngineLogs.{stamp_of}
use Rattle.rss_model.specs.Rules.{GoesOn, SavesFirst, NoRoom, NoLogRoom, goes_on, with_change, saved_now, room_with, log_needed, ruling, if_no_log_room}
use Rattle.rss_model.specs.Spares.{live_of}
use Rattle.rss_model.specs.Records.{is_by}
use Rattle.rss_model.proofs.BothRooms.{checkpoints_keep_rooms}
use Rattle.rss_stored.proofs.ImageRooms.{bound_rises, images_few}
use Rattle.rss_stored.proofs.Listed.{heap_is}
use Rattle.rss_stored.proofs.LogGrowing.{fits_now}
use Rattle.rss_model.proofs.LogLists.{by_test}
use Rattle.rss_model.proofs.LogWay.{mixed_now}
use Rattle.rss_trans.specs.Told.{IsNumbered}
use Rattle.rss_trans.specs.Transactions.{transaction_in}
use Rattle.rss_trans.proofs.Asked.{changes_told}
use Rattle.rss_trans.proofs.Summing.{sums_told, changers_told, owed_told, names_told, names_counted}
use Rattle.rss_access.specs.Written.{heap_now}
use Rattle.rss_store.specs.Commits.{least_mark}
use Rattle.rss_session.specs.Sessions.{SessionView, IsReady, sums_in, owed_by}
use Rattle.rss_session.specs.Shown.{Shows}
use Rattle.rss_session.specs.Weighing as weighing
use Rattle.rss_session.specs.Weighing.{named, saved_end, saved_most, saved_images_with, HasSavedRoom, MaySave, weighed, outcome, RulesSo}
use Rattle.rss_session.proofs.Traffic.{images_with_same, saved_images_same, saved_with_same}

-- ---- the first change of all

mark_least : (end : ℕ) (marks : List (ℕ × ℕ)) → least_mark end marks ≤ end
mark_least end [] = omega arith
mark_least end (mark ∷ marks) = omega (arith, mark_least (min end mark.1) marks)

-- no mark has a position before the least
least_below : (end : ℕ) (marks : List (ℕ × ℕ)) (t place : ℕ) → named_in t marks ≡ Some place → least_mark end marks ≤ place
least_below end [] t place is = absurd (cc (is))
least_below end (mark ∷ marks) t place is = by_test (mark.0 == t)
    (λ e. let here : mark.1 ≡ place = same_Some mark.1 place (rw e at is) in omega (arith, here, mark_least (min end mark.1) marks))
    (λ e. least_below (min end mark.1) marks t place (rw e at is))

least_above : (low end : ℕ) (marks : List (ℕ × ℕ)) → low ≤ end → AllByRecursion (λ mark. low ≤ mark.1) marks → low ≤ least_mark end marks
least_above low end [] before all = before
least_above low end (mark ∷ marks) before all = least_above low (min end mark.1) marks (omega (arith, before, all.0)) all.1

-- what holds of each name that is found holds of all
each_named : (P : ℕ × ℕ → Type 0) (least : ℕ) (marks : List (ℕ × ℕ)) → AreRising least marks → ((t place : ℕ) → least ≤ t → named_in t marks ≡ Some place → P (t, place)) → AllByRecursion P marks
each_named P least [] rising each = tt
each_named P least (mark ∷ marks) rising each =
    let here : (mark.0 == mark.0) ≡ true = eq-eqb mark.0 mark.0 refl in (
      each mark.0 mark.1 rising.0 (rw here refl),
      each_named P (mark.0 + 1) marks rising.1 (λ t place above is.
          let off : (mark.0 == t) ≡ false = grind (arith, nat_tests, above) in
          each t place (omega (arith, above, rising.0)) (rw off is)),
    )

position_low : (end : ℕ) (stamps : List Stamp) → least_position end stamps ≤ end
position_low end [] = omega arith
position_low end (stamp ∷ stamps) = omega (arith, position_low end stamps)

-- the first change with one more before those that are listed
abbrev with_newer : ℕ → Listed → Option ℕ → Option ℕ
with_newer t l o = older_of o (if is_by t l then Some l.at else None)

own_place : (t : ℕ) (l : Listed) (place : ℕ) (ls : List Listed) → first_in t ls ≡ None → first_in t (l ∷ ls) ≡ Some place → l.at ≡ place
own_place t l place ls found is = by (is_by t l) (sym (ap (with_newer t l) found) ∙ is)
  where
    by : (b : Bool) → (if b then Some l.at else None) ≡ Some place → l.at ≡ place
    by true same = same_Some l.at place same
    by false same = absurd (cc (same))

older_place : (t : ℕ) (l : Listed) (place first : ℕ) (ls : List Listed) → first_in t ls ≡ Some first → first_in t (l ∷ ls) ≡ Some place → first_in t ls ≡ Some place
older_place t l place first ls found is = found ∙ (sym (ap (with_newer t l) found) ∙ is)

by_first : {G : Type 0} (o : Option ℕ) → (o ≡ None → G) → ((first : ℕ) → o ≡ Some first → G) → G
by_first None none some = none refl
by_first (Some first) none some = some first refl

-- a transaction's first change is no earlier than the first of all, and before the end
first_after : (end : ℕ) (ls : List Listed) (t place : ℕ) → first_in t ls ≡ Some place → least_position end (map stamp_of ls) ≤ place
first_after end [] t place is = absurd (cc (is))
first_after end (l ∷ ls) t place is = by_first (first_in t ls)
    (λ found. omega (arith, own_place t l place ls found is))
    (λ first found. omega (arith, first_after end ls t place (older_place t l place first ls found is)))

first_before : (head end : ℕ) (ls : List Listed) (t place : ℕ) → AreStamps head end (map stamp_of ls) → first_in t ls ≡ Some place → place < end
first_before head end [] t place stamps is = absurd (cc (is))
first_before head end (l ∷ ls) t place stamps is =
    let at = stamps.0 in by_first (first_in t ls)
    (λ found. omega (arith, at, own_place t l place ls found is))
    (λ first found. omega (arith, at, first_before head l.at ls t place stamps.1 (older_place t l place first ls found is)))

-- what is no later than each transaction's first change is no later than any
first_of_all : (low head until end : ℕ) (ls : List Listed) → low ≤ end → AreStamps head until (map stamp_of ls) → ((t place : ℕ) → first_in t ls ≡ Some place → low ≤ place) → low ≤ least_position end (map stamp_of ls)
first_of_all low head until end [] before stamps each = before
first_of_all low head until end (l ∷ ls) before stamps each =
    let rest = first_of_all low head l.at end ls before stamps.1 (λ t place is. each t place (ap (with_newer t l) is)) in
    let own_by : is_by l.change.by l ≡ true = eq-eqb l.change.by l.change.by refl in
    let here : low ≤ l.at = by_first (first_in l.change.by ls)
    (λ found. each l.change.by l.at (ap (with_newer l.change.by l) found ∙ ap (λ (b : Bool). if b then Some l.at else None) own_by))
    (λ first found. omega (arith, first_before head l.at ls l.change.by first stamps.1 found, each l.change.by first (ap (with_newer l.change.by l) found))) in
    omega (arith, rest, here)

heads_same : (head end : ℕ) (marks : List (ℕ × ℕ)) (ls : List Listed) → NamesLists marks ls → AreStamps head end (map stamp_of ls) → least_mark end marks ≡ least_position end (map stamp_of ls)
heads_same head end marks ls names stamps =
    let one = first_of_all (least_mark end marks) head end end ls (mark_least end marks) stamps (λ t place is. least_below end marks t place (names.firsts t ∙ is)) in
    let other = least_above (least_position end (map stamp_of ls)) end marks (position_low end (map stamp_of ls))
    (each_named (λ mark. least_position end (map stamp_of ls) ≤ mark.1) 0 marks names.rising (λ t place low is. first_after end ls t place (sym (names.firsts t) ∙ is))) in
    omega (arith, one, other)

-- ---- how many have changes

has_own : (t : ℕ) (ls : List Listed) → list_any (λ other. other.by == t) (map stamp_of ls) ≡ nat_lt 0 (length (own t (changes_in ls)))
has_own t [] = refl
has_own t (l ∷ ls) = by_test (l.change.by == t) (λ e. rw e (sym (some (length (own t (changes_in ls)))))) (λ e. rw e (has_own t ls))
  where
    some : (n : ℕ) → nat_lt 0 (suc n) ≡ true
    some n = grind (arith, nat_tests)

length-changes_in : (ls : List Listed) → length (changes_in ls) ≡ length ls
length-changes_in [] = refl
length-changes_in (l ∷ ls) = ap suc (length-changes_in ls)

-- ---- the verdict by its tests

judged : (on full fits : Bool) (slots needed free log_needed : ℕ)
    → outcome (if on then GoesOn else (if full then NoRoom slots needed else (if fits then SavesFirst else NoLogRoom free log_needed)))
    ≡ (if on then Ok false else (if full then Err (Full slots needed) else (if fits then Ok true else Err (LogFull free log_needed))))
judged true full fits slots needed free log_needed = refl
judged false true fits slots needed free log_needed = refl
judged false false true slots needed free log_needed = refl
judged false false false slots needed free log_needed = refl

-- ---- the numbers

pub slots_are : {view : SessionView} {state : State} → Shows view state → state.size.slots ≡ view.store.root.slots
slots_are shows = ap (λ (s : StoreSize). s.slots) shows.store.tied.size ∙ ap (λ (r : Root). r.slots) shows.store.disk.root_is

module _ {view : SessionView} {state : State} (ready : IsReady view) (shows : Shows view state) where
  pub slots_same : state.size.slots ≡ view.store.root.slots
  slots_same = slots_are shows

  pub log_pages_same : state.size.log_pages ≡ view.store.log.pages
  log_pages_same = ap (λ (s : StoreSize). s.log_pages) shows.store.tied.size ∙ ap (λ (r : Root). r.log_pages) shows.store.disk.root_is ∙ sym ready.store.log.pages

  pub end_same : state.meter.end ≡ view.store.log.end
  end_same = shows.store.tied.ties.meter.end ∙ sym shows.store.logged.end_is

  pub log_room_same : log_room state.size.log_pages state.meter ≡ free_of view.store.log
  log_room_same = λ i. free_between (log_pages_same i) ((shows.store.tied.ties.meter.head ∙ sym shows.store.logged.head_is) i) (end_same i)

  pub few_slots : state.size.slots < 2 ^ 32
  few_slots = omega (arith, slots_same, ready.store.formed.slots_most)

  pub room_same : (change : Change) (number : Option ℕ) → IsNumbered view.store.catalog.listing change.item number → room_with state change state.meter ≡ weighing.room_with view number
  room_same change number is = omega (
    arith,
    images_with_same shows few_slots change number is,
    shows.counted.heap,
    shows.counted.surviving,
    shows.counted.since.all,
  )

  -- what is owed
  pub owed_same : owed_by view.opened ≡ owed state.meter.stamps
  owed_same = sym (owed_told view.store.catalog.listing view.opened state.marks shows.listed view.opened.since shows.told) ∙ ap owed shows.list.stamps_are

  -- how many changes there are, and how many transactions have some
  pub count_same : (sums_in view.opened).p ≡ length state.changes
  count_same =
      sums_told view.store.catalog.listing view.opened state.marks shows.listed view.opened.since shows.told
      ∙ sym (length-changes_in shows.listed) ∙ ap (λ (cs : List Change). length cs) shows.list.changes_are

  pub changers_same : (sums_in view.opened).q ≡ changers state.meter.stamps
  changers_same = changers_told view.store.catalog.listing view.opened state.marks shows.listed view.opened.since shows.told ∙ ap changers shows.list.stamps_are

  has_same : (t : ℕ) → list_any (λ other. other.by == t) state.meter.stamps ≡ nat_lt 0 (length (transaction_in view.opened t).changes)
  has_same t =
      ap (list_any (λ (other : Stamp). other.by == t)) (sym shows.list.stamps_are)
      ∙ has_own t shows.listed
      ∙ ap (nat_lt 0) (sym (changes_told view.store.catalog.listing view.opened state.marks shows.listed shows.told t))

  with_one : (change : Change) → changers (with_change state.base.definitions change state.meter).stamps ≡ weighing.changers_with view.opened change.by
  with_one change = ap (λ (b : Bool). if b then changers state.meter.stamps else 1 + changers state.meter.stamps) (has_same change.by)
      ∙ (λ i. if nat_lt 0 (length (transaction_in view.opened change.by).changes) then sym changers_same i else 1 + sym changers_same i)
      ∙ more (nat_lt 0 (length (transaction_in view.opened change.by).changes)) (sums_in view.opened).q
    where
      more : (b : Bool) (n : ℕ) → (if b then n else 1 + n) ≡ (if b then n else n + 1)
      more true n = refl
      more false n = omega arith

  pub needed_same : (change : Change) (size : ℕ) → change_size state.base.definitions change ≡ size → log_needed state.base.definitions change state.meter ≡ weighing.needed_with view change.by size
  needed_same change size is =
      omega (arith, is, with_one change, count_same, length-map shows.listed stamp_of, length-changes_in shows.listed, ap (λ (cs : List Change). length cs) shows.list.changes_are, ap (λ (ss : List Stamp). length ss) shows.list.stamps_are)

  -- ---- behind a checkpoint

  pub record_same : record_size (records.Checkpoint (named view.opened)) ≡ checkpoint_size (changers state.meter.stamps)
  record_same =
      omega (arith, length-marks_bytes (named view.opened), names_counted view.store.catalog.listing view.opened state.marks shows.listed shows.told, ap changers shows.list.stamps_are)

  pub saved_head_same : weighing.saved_head view ≡ least_position state.meter.end state.meter.stamps
  saved_head_same =
      ap (λ (n : ℕ). least_mark n (named view.opened)) (sym end_same)
      ∙ heads_same state.meter.head state.meter.end (named view.opened) shows.listed
      (names_told view.store.catalog.listing view.opened state.marks shows.listed shows.told)
      (subst (AreStamps state.meter.head state.meter.end) (sym shows.list.stamps_are) shows.counted.rooms.metered.positions)
      ∙ ap (least_position state.meter.end) shows.list.stamps_are

  pub saved_end_same : saved_end view ≡ (saved_now state).end
  saved_end_same = omega (arith, end_same, record_same)

  pub saved_free_same : weighing.saved_free view ≡ log_room state.size.log_pages (saved_now state)
  saved_free_same = λ i. free_between (sym log_pages_same i) (saved_head_same i) (saved_end_same i)

  -- a checkpoint that may be taken isn't refused
  pub may_save : MaySave view → if_no_log_room state ≡ None
  may_save may =
      let enough : owed state.meter.stamps ≤ log_room state.size.log_pages (saved_now state) = omega (arith, may, owed_same, saved_free_same) in
      let room : nat_lt (log_room state.size.log_pages (saved_now state)) (owed state.meter.stamps) ≡ false = grind (arith, nat_tests, enough) in
      rw room refl

  -- one that may not be taken is, with what is free behind it and what is owed
  pub may_not_save : weighing.saved_free view < owed_by view.opened → if_no_log_room state ≡ Some (LogFull (weighing.saved_free view) (owed_by view.opened))
  may_not_save short =
      let lacks : log_room state.size.log_pages (saved_now state) < owed state.meter.stamps = omega (arith, short, owed_same, saved_free_same) in
      let room : nat_lt (log_room state.size.log_pages (saved_now state)) (owed state.meter.stamps) ≡ true = grind (arith, nat_tests, lacks) in
      rw room (λ i. Some (LogFull (sym saved_free_same i) (sym owed_same i)))

  -- the tables now fit, so that as many pages have tuples as home pages are there
  pub fit_now : Fits state.size.slots (now state)
  fit_now =
      let tied = shows.store.tied.ties in
      subst (λ (d : Definitions). Fits state.size.slots (record { definitions = d; contents = (now state).contents })) (sym tied.definitions)
      (mixed_now state.size.slots shows.store.stored.saved state.base.contents state.changes
      (fits_now shows.store.stored.listing shows.store.stored.saved shows.store.log state tied))

  module _ (held_are : (key : PageKey) → is_some (view.store.pages.held key) ≡ view.store.pages.mapped key) where
    pub saved_heap_same : (saved_now state).heap ≡ heap_now view.store.pages
    saved_heap_same = omega (
      arith,
      heap_is shows.store.spells fit_now view.store.pages.mapped held_are,
      ap (λ (n : ℕ). mapped_of view.store.pages.mapped Home n) (slots_same ∙ sym ready.store.size),
      shows.store.over_is,
    )

    pub saved_room_same : (change : Change) (number : Option ℕ) → IsNumbered view.store.catalog.listing change.item number → room_with state change (saved_now state) ≡ weighing.saved_room_with view number
    saved_room_same change number is =
        omega (arith, saved_with_same shows few_slots change number is, saved_heap_same, count_same)

    -- no more image pages are there than images may have by the tuples of their relations
    few_images : (slots : ℕ) → mapped_of view.store.pages.mapped ImageSpace slots ≤ saved_images_with view None
    few_images slots =
        let some = images_few shows.store.spells held_are slots in
        let more = bound_rises view.store.catalog.listing (live_of view.store.catalog.listing) (saved_most view) (λ number relation at. omega arith) in
        omega (arith, some, more)

    -- so there is room behind a checkpoint that may be taken
    pub has_saved_room : MaySave view → HasSavedRoom view
    has_saved_room may =
        let metered = (checkpoints_keep_rooms state shows.counted.rooms.metered (may_save may)).metered in record {
          slots = omega (arith, metered.room, saved_images_same shows few_slots, saved_heap_same, count_same, slots_same);
          images = few_images view.store.pages.slots;
        }

-- ---- what comes of a change

-- As it is, a change goes on exactly where the machine lets it.
pub goes_on_right : (view : SessionView) (state : State) (change : Change) (number : Option ℕ) (size : ℕ) → IsReady view → Shows view state → IsNumbered view.store.catalog.listing change.item number → change_size state.base.definitions change ≡ size → goes_on state change ≡ weighing.goes_on view change.by number size
goes_on_right view state change number size ready shows its is =
    λ i. nat_le (room_same ready shows change number its i) (slots_same ready shows i) && nat_le (needed_same ready shows change size is i) (log_room_same ready shows i)

-- where the pages that are mapped are those that hold something, as on each device that tells its contents
pub weighs_right : (view : SessionView) (state : State) (change : Change) (number : Option ℕ) (size : ℕ) → IsReady view → Shows view state → ((key : PageKey) → is_some (view.store.pages.held key) ≡ view.store.pages.mapped key) → IsNumbered view.store.catalog.listing change.item number → change_size state.base.definitions change ≡ size
    → outcome (ruling state change) ≡ weighed view change.by number size
weighs_right view state change number size ready shows held_are its is =
    let slots = slots_same ready shows in
    let room = saved_room_same ready shows held_are change number its in
    let needed = needed_same ready shows change size is in
    let free = sym (saved_free_same ready shows) in
    judged (goes_on state change) (nat_lt state.size.slots (room_with state change (saved_now state))) (nat_le (log_needed state.base.definitions change state.meter) (log_room state.size.log_pages (saved_now state)))
    state.size.slots (room_with state change (saved_now state)) (log_room state.size.log_pages (saved_now state)) (log_needed state.base.definitions change state.meter)
    ∙ (λ i. if goes_on_right view state change number size ready shows its is i then Ok false
    else (if nat_lt (slots i) (room i) then Err (Full (slots i) (room i))
    else (if nat_le (needed i) (free i) then Ok true else Err (LogFull (free i) (needed i)))))

-- what was weighed is so in each state
pub rules_so : (view : SessionView) (t : ℕ) (number : Option ℕ) (size : ℕ) (result : Result Bool Refusal) → IsReady view
    → (IsTold view.store.pages.disk → (key : PageKey) → is_some (view.store.pages.held key) ≡ view.store.pages.mapped key)
    → result ≡ weighed view t number size → RulesSo view t number size result
rules_so view t number size result ready held_are is told state change by its size_is shows =
    weighs_right view state change number size ready shows (held_are told) its size_is ∙ ap (λ (n : ℕ). weighed view n number size) by ∙ sym is
