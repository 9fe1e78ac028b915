-- On a way back of a transaction: what holds after each change that was undone, and at the end.
use Rattle.std.proofs.Common.{◌≡◌, ℕ, suc, ◌+◌, ◌-◌, ◌<◌, ◌≤◌, true, List, [], length, take, refl, sym, ◌∙◌, ap, subst, arith}
use Rattle.std.specs.Prelude.{Option, Some, None, IfSome, IfNone, min, option_map, slice_get, Result, Ok, IsErrOf}
use Rattle.std.proofs.lemmas.Option.{slice_get-map, slice_get_past}
use Rattle.rss_base.specs.DiskRule.{IsTold}
use Rattle.rss_base.specs.Devices.{DrivesOut}
use Rattle.rss_base.specs.Faults.{Rises}
use Rattle.rss_base.specs.Paged.{Backing, LeavesFixed}
use Rattle.rss_base.specs.Steps.{driven}
use Rattle.rss_base.specs.declared.fault.PageFault.{PageFault}
use Rattle.rss_base.specs.declared.fault.PageFault.TheVariants.{Device as DeviceFailed, NoMemory}
use Rattle.rss_base.specs.declared.root.Root.{Root}
use Rattle.rss_base.proofs.Calls.{leaves_then, leaves_rests}
use Rattle.rss_base.proofs.Moments.{widened, continues, drives_nothing, drives_then}
use Rattle.rss_model.specs.Changes.{Change, maker, own, kept_to, cut_off}
use Rattle.rss_model.specs.Machine.{State, now}
use Rattle.rss_model.specs.Meter.{Stamp}
use Rattle.rss_model.specs.Records.{Listed}
use Rattle.rss_model.specs.Steps.{MayUndo, left_at}
use Rattle.rss_model.specs.Steps.MayUndo.{none}
use Rattle.rss_model.proofs.Stamps.{kept_and_cut}
use Rattle.rss_trans.specs.declared.noted.Noted.{Noted}
use Rattle.rss_trans.specs.Transactions.{Transaction, is_open, transaction_in, count_at, newest_after, Steps}
use Rattle.rss_trans.specs.Told.{TellsOpen}
use Rattle.rss_trans.proofs.Asked.{changes_told, positions_told, saves_told}
use Rattle.rss_trans.proofs.Noting.{all_stay}
use Rattle.rss_store.specs.Changing.{own_positions, IsOwnAt, AltersPages, MayNotTakeBack}
use Rattle.rss_store.specs.Shown.{ShowsWith}
use Rattle.rss_session.specs.Sessions.{SessionView, CountsStill, IsReady}
use Rattle.rss_store.proofs.Definitions.{same_again, same_then}
use Rattle.rss_session.specs.Shown.{Shows, ShowsBack}
use Rattle.rss_session.specs.Calls.{NoMoreSaves, StaysListed, GoesOn, KeepsTables, ShowsNone, HasMarks, taken_to, TakesNewest, TakesBackOne, TakesBack, GoesBack}
use Rattle.rss_session.proofs.Fewer.{IsLastAt, put_here, put_open, taken_all, taken_then, newest_at, newest_none, taken_get, length_taken, none_from}
use Rattle.rss_session.proofs.Steady.{changes_kept, none_there}
use Rattle.rss_session.proofs.ToldBack.{turned_back, tells_back}
use Rattle.rss_session.proofs.Undone.{room_back}

abbrev pub position_of : Noted → ℕ
position_of note = note.position

-- its changes, and how many of them a save point leaves
abbrev pub changes_in_all : SessionView → ℕ → List Noted
changes_in_all view t = (transaction_in view.opened t).changes

-- So many of its changes are left, and at least as many as at the save point. What is fixed of the device's pages stays, and others are written only as pages are driven out.
pub record WayBack (t save : ℕ) (old new : SessionView) (first : Option ℕ) : Type 0 where
  pub left : ℕ
  pub low : count_at (transaction_in old.opened t) save ≤ left
  pub high : count_at (transaction_in old.opened t) save < left → left ≤ length (changes_in_all old t)
  pub opened : Steps t (taken_to left) old.opened new.opened
  pub oldest : first ≡ option_map position_of (slice_get (changes_in_all old t) left)
  pub ready : IsReady new
  pub still : CountsStill old new
  pub log : new.store.log ≡ old.store.log
  pub root : new.store.root ≡ old.store.root
  pub number : new.store.number ≡ old.store.number
  pub backing : new.store.pages.backing ≡ old.store.pages.backing
  pub leaves : LeavesFixed (old.store.pages.settled ≡ true) (new.store.pages.settled ≡ true) old.store.pages.disk new.store.pages.disk old.store.pages.fixed new.store.pages.fixed
  pub drives : DrivesOut (driven old.store.pages) (driven new.store.pages)
  pub later : old.store.pages.faults ≤ new.store.pages.faults
  pub listed : StaysListed old new
  pub shows : IsTold old.store.pages.disk → (state : State) → Shows old state → ShowsBack new state t left

-- ---- what is shown at the beginning

pub own_count : {view : SessionView} {state : State} (t : ℕ) → Shows view state → length (own t state.changes) ≡ length (changes_in_all view t)
own_count {view = view} {state = state} t shows =
    ap (λ (cs : List Change). length (own t cs)) (sym shows.list.changes_are) ∙ sym (changes_told view.store.catalog.listing view.opened state.marks shows.listed shows.told t)

pub none_cut : {changes : List Change} (t n : ℕ) → kept_to maker t n changes ≡ changes → cut_off maker t n changes ≡ []
none_cut {changes = changes} t n all = none_there (cut_off maker t n changes) (omega (arith, kept_and_cut maker t n changes, ap (λ (cs : List Change). length cs) all))

pub all_shown : (view : SessionView) (state : State) (t n : ℕ) → length (changes_in_all view t) ≤ n → Shows view state → ShowsBack view state t n
all_shown view state t n few shows =
    let count = own_count t shows in
    let all : kept_to maker t n state.changes ≡ state.changes = changes_kept shows.list t n (omega (arith, count, few)) in
    record {
      store = record {
        over = state.meter.over;
        shows = subst (λ (cs : List Change). ShowsWith view.store state cs state.meter.over) (sym all) shows.store;
        way = subst (λ (cs : List Change). MayUndo (now state) cs state.meter.over state.meter.over) (sym (none_cut t n all)) none;
      };
      listed = shows.listed;
      list = shows.list;
      told = subst (λ (ls : List Listed). TellsOpen view.store.catalog.listing view.opened state.marks ls)
          (sym (all_stay shows.listed t n (subst (λ (cs : List Change). length (own t cs) ≤ n) (sym shows.list.changes_are) (omega (arith, count, few))))) shows.told;
      counted = shows.counted;
    }

-- where one of its changes stands
pub own_at : (view : SessionView) (state : State) (t n position : ℕ) → Shows view state → option_map position_of (slice_get (changes_in_all view t) n) ≡ Some position → IsOwnAt state t n position
own_at view state t n position shows is =
    ap (λ (stamps : List Stamp). slice_get (own_positions t stamps) n) (sym shows.list.stamps_are)
    ∙ ap (λ (ps : List ℕ). slice_get ps n) (sym (positions_told view.store.catalog.listing view.opened state.marks shows.listed shows.told t))
    ∙ slice_get-map position_of (changes_in_all view t) n ∙ is

pub begins_back : (view : SessionView) (t save : ℕ) → IsReady view → is_open view.opened t ≡ true → WayBack t save view view None
begins_back view t save ready opened =
    let count = count_at (transaction_in view.opened t) save in
    let changes = changes_in_all view t in
    let whole = count + (length changes - count) in
    record {
      left = whole;
      low = omega arith;
      high = λ more. omega (arith, more);
      opened = taken_all view.opened t whole opened (omega arith);
      oldest = sym (ap (option_map position_of) (slice_get_past changes whole (omega arith)));
      ready = ready;
      still = record { heap = refl; surviving = refl; entries = refl; survived = refl };
      log = refl;
      root = refl;
      number = refl;
      backing = refl;
      leaves = leaves_rests _ view.store.pages.disk view.store.pages.fixed;
      drives = drives_nothing (driven view.store.pages);
      later = omega arith;
      listed = same_again view.store.catalog.listing;
      shows = λ told state shows. all_shown view state t whole (omega arith) shows;
    }

-- ---- a turn

module _ (old mid : SessionView) (t save : ℕ) (first : Option ℕ) (opened : is_open old.opened t ≡ true) (way : WayBack t save old mid first) where
  pub there : transaction_in mid.opened t ≡ taken_to way.left (transaction_in old.opened t)
  there = put_here old.opened mid.opened t (taken_to way.left (transaction_in old.opened t)) opened way.opened.transactions

  module _ (position : ℕ) (newest : newest_after (transaction_in mid.opened t) save ≡ Some position) where
    pub last : IsLastAt (taken_to way.left (transaction_in old.opened t)) save position
    last = subst (λ (x : Transaction). IsLastAt x save position) there (newest_at (transaction_in mid.opened t) save position newest)

    left_is : way.left ≡ suc last.older
    left_is =
        let count = last.count in
        let long = length_taken way.left (changes_in_all old t) in
        let more = last.more in
        let enough = way.high (omega (arith, count, long, more)) in
        omega (arith, count, long, enough)

    older_less : suc last.older ≤ length (changes_in_all old t)
    older_less = let count = last.count in let long = length_taken way.left (changes_in_all old t) in omega (arith, count, long)

    pub place_is : option_map position_of (slice_get (changes_in_all old t) last.older) ≡ Some position
    place_is = ap (option_map position_of) (sym (taken_get way.left last.older (changes_in_all old t) (omega (arith, left_is)))) ∙ last.place

    mid_count : length (changes_in_all mid t) ≡ last.older + 1
    mid_count = ap (λ (x : Transaction). length x.changes) there ∙ last.count

    shown_mid : IsTold old.store.pages.disk → (state : State) → Shows old state → ShowsBack mid state t (last.older + 1)
    shown_mid told state shows = subst (λ (n : ℕ). ShowsBack mid state t n) (omega (arith, left_is)) (way.shows told state shows)

    pub turns_back : {T : Type 0} {value : T} (new : SessionView) → IsReady new → TakesNewest t mid new → (IsTold mid.store.pages.disk → TakesBackOne mid new t position)
        → new.store.log ≡ mid.store.log → AltersPages {T = T} mid.store new.store (Ok value) → WayBack t save old new (Some position)
    turns_back new ready takes back log did = record {
      left = last.older;
      low = last.more;
      high = λ more. omega (arith, older_less);
      opened = taken_then old.opened mid.opened new.opened t last.older opened older_less (subst (λ (n : ℕ). Steps t (taken_to n) old.opened mid.opened) left_is way.opened) takes.opened;
      oldest = sym place_is;
      ready = ready;
      still = record {
        heap = takes.still.heap ∙ way.still.heap;
        surviving = takes.still.surviving ∙ way.still.surviving;
        entries = takes.still.entries ∙ way.still.entries;
        survived = takes.still.survived ∙ way.still.survived;
      };
      log = log ∙ way.log;
      root = did.root ∙ way.root;
      number = did.number ∙ way.number;
      backing = did.step.passes.backing ∙ way.backing;
      leaves = leaves_then way.leaves did.step.passes.leaves;
      drives = drives_then way.drives did.step.passes.drives;
      later = omega (arith, way.later, did.step.passes.later);
      listed = same_then way.listed did.definitions;
      shows = λ told state shows. back (way.leaves.told.0 told) state last.older mid_count (own_at old state t last.older position shows place_is) (shown_mid told state shows);
    }

    -- nothing is found damaged
    pub none_shown : IsTold old.store.pages.disk → MayNotTakeBack mid.store position → ShowsNone old
    none_shown told not state kept shows =
        let own = own_at old state t last.older position shows place_is in
        let back = shown_mid told state shows in
        let open_still = put_open old.opened mid.opened t (taken_to way.left (transaction_in old.opened t)) opened way.opened.transactions in
        not (turned_back mid.store state t last.older position own back.store).told_change (tells_back mid.store state t last.older position own back.store)
        (room_back mid state t last.older position way.ready open_still (omega (arith, mid_count)) kept own back) state t last.older own back.store

  -- ---- at the end

  module _ (none_newer : newest_after (transaction_in mid.opened t) save ≡ None) where
    left_save : way.left ≡ count_at (transaction_in old.opened t) save
    left_save =
        let few = subst (λ (x : Transaction). length x.changes ≤ count_at x save) there (newest_none (transaction_in mid.opened t) save none_newer) in
        let long = length_taken way.left (changes_in_all old t) in
        by few long
      where
        by : length (take way.left (changes_in_all old t)) ≤ count_at (transaction_in old.opened t) save → length (take way.left (changes_in_all old t)) ≡ min way.left (length (changes_in_all old t)) → way.left ≡ count_at (transaction_in old.opened t) save
        by few long = equal way.left (count_at (transaction_in old.opened t) save) (length (changes_in_all old t)) way.low way.high (omega (arith, few, long))
          where
            equal : (left count most : ℕ) → count ≤ left → (count < left → left ≤ most) → min left most ≤ count → left ≡ count
            equal left count most low high few = grind (arith, low, few, high)

    pub takes_back : TakesBack t save old mid first
    takes_back = record {
      opened = subst (λ (n : ℕ). Steps t (taken_to n) old.opened mid.opened) left_save way.opened;
      oldest = subst (λ (n : ℕ). first ≡ option_map position_of (slice_get (changes_in_all old t) n)) left_save way.oldest;
      still = way.still;
      log = way.log;
      root = way.root;
      number = way.number;
      backing = way.backing;
      listed = way.listed;
    }

    pub goes_back : IsTold old.store.pages.disk → (state : State) (marks : List ℕ) → HasMarks state t marks → Shows old state → GoesBack mid state t (left_at marks save) first
    goes_back told state marks has shows =
        subst (λ (n : ℕ). GoesBack mid state t n first) is (record {
          shows = way.shows told state shows;
          some = some first way.oldest;
          none = no_more first way.oldest;
        })
      where
        is : way.left ≡ left_at marks save
        is = left_save ∙ ap (λ (saves : List ℕ). left_at saves save) (saves_told old.store.catalog.listing old.opened state.marks shows.listed t marks shows.told has)

        some : (o : Option ℕ) → o ≡ option_map position_of (slice_get (changes_in_all old t) way.left) → IfSome o (IsOwnAt state t way.left)
        some None at = tt
        some (Some position) at = own_at old state t way.left position shows (sym at)

        no_more : (o : Option ℕ) → o ≡ option_map position_of (slice_get (changes_in_all old t) way.left) → IfNone o (length (own t state.changes) ≤ way.left)
        no_more None at = let few = none_from way.left (changes_in_all old t) at in let count = own_count t shows in omega (arith, few, count)
        no_more (Some position) at = tt

-- ---- what each turn passes on

pub keeps_left : (old new : SessionView) → IsReady old → LeavesFixed (old.store.pages.settled ≡ true) (new.store.pages.settled ≡ true) old.store.pages.disk new.store.pages.disk old.store.pages.fixed new.store.pages.fixed → KeepsTables old new
keeps_left old new ready leaves = λ told state kept shows.
    widened (leaves.moments ready.store.settled_now told) (λ image has. record {
      stored = shows.store.stored;
      store = shows.store.disk.fixes image has;
      same_size = shows.store.tied.size;
      holds = sym shows.store.tied.tables;
    })

pub goes_left : {T : Type 0} (old new : SessionView) (result : Result T PageFault) → IsReady old → LeavesFixed (old.store.pages.settled ≡ true) (new.store.pages.settled ≡ true) old.store.pages.disk new.store.pages.disk old.store.pages.fixed new.store.pages.fixed
    → DrivesOut (driven old.store.pages) (driven new.store.pages) → old.store.pages.faults ≤ new.store.pages.faults → new.store.root ≡ old.store.root → new.store.pages.backing ≡ old.store.pages.backing
    → (IsErrOf result DeviceFailed → Rises old.store.pages.faults new.store.pages.faults) → (IsErrOf result NoMemory → ⊥) → NoMoreSaves old new → GoesOn old new result
goes_left old new result ready leaves drives later root backing failed memory saves = record {
  told = leaves.told;
  history = λ told. continues (leaves.moments ready.store.settled_now told);
  later = later;
  failed = failed;
  memory = memory;
  slots = ap (λ (r : Root). r.slots) root;
  log_pages = ap (λ (r : Root). r.log_pages) root;
  frames = ap (λ (b : Backing). b.frames) backing;
  saves = saves;
  unsaved = λ still. record { root = root; drives = drives };
}
