-- A transaction's newest change that is undone: the session is ready again, and shows one change less.
use Rattle.std.proofs.Common.{◌≡◌, ℕ, zero, suc, ◌+◌, ◌-◌, ◌^◌, ◌<◌, ◌≤◌, Bool, true, false, cond, if◌then◌else◌, ◌==◌, length, take, List, [], ◌∷◌, ◌++◌, refl, sym, ◌∙◌, ap, subst, arith}
use Rattle.std.specs.Prelude.{nat_lt, Option, Some}
use Rattle.std.proofs.lemmas.Bool.{eq-eqb, eqb-true}
use Rattle.std.proofs.lemmas.Bool.Decides.{nat_tests}
use Rattle.std.proofs.lemmas.List.{length-take}
use Rattle.std.proofs.lemmas.List.Sums.{sum_by-cons, sum_by-append}
use Rattle.std.proofs.lemmas.Option.{none-some}
use Rattle.rss_base.specs.declared.change.Change as told
use Rattle.rss_base.specs.declared.change.Change.TheVariants.{Insert, Delete, Update, Connect, Disconnect}
use Rattle.rss_base.specs.declared.item.Item.{Item}
use Rattle.rss_base.specs.declared.item.Item.TheVariants.{Segment, Relation, Tuple, Chain, Key}
use Rattle.rss_base.specs.declared.name.Name.{Name}
use Rattle.rss_base.specs.declared.relation.RelationEntry.{RelationEntry}
use Rattle.rss_base.specs.declared.root.Root.{Root}
use Rattle.rss_base.specs.Listings.{Listing, numbered, relation_at}
use Rattle.rss_log.specs.Logs.{LogView, free_of}
use Rattle.rss_model.specs.Changes.{Change, maker, after, kept_to, cut_off}
use Rattle.rss_model.specs.Kept.{Kept}
use Rattle.rss_stored.specs.LogLaws.{TakesBack}
use Rattle.rss_model.specs.Machine.{StoreSize, State}
use Rattle.rss_model.specs.Meanings.{SameDefinitions}
use Rattle.rss_model.specs.Meter.{counts_for, changes_of}
use Rattle.rss_model.specs.Spares.{page_counts, TakesTwo, IsInSession}
use Rattle.rss_model.specs.Tables.{tuple_count}
use Rattle.rss_model.proofs.Metering.{cut_counts, back_tuples}
use Rattle.rss_stored.proofs.Relisted.{number_of}
use Rattle.rss_model.proofs.Sparing.{session_goes_back, spare_for_all}
use Rattle.rss_trans.specs.declared.noted.Noted.{Noted}
use Rattle.rss_trans.specs.Transactions.{Transaction, OpenView, is_open, transaction_in, any, change_count, without_newest, newest_after, Steps}
use Rattle.rss_trans.specs.Told.{IsNumbered, TellsSince}
use Rattle.rss_trans.proofs.Summing.{count_any, in_relation}
use Rattle.rss_trans.proofs.Told.{taken_tells, recounted_tells, same_names}
use Rattle.rss_entries.proofs.Rooms.{room_within}
use Rattle.rss_access.specs.Changes.{HasRoom, HasRoomFor}
use Rattle.rss_store.specs.Changing.{access, IsOwnAt}
use Rattle.rss_store.specs.Changing.{TakesBackOne as StoreTakesBackOne}
use Rattle.rss_store.specs.Shown.{ShowsWith}
use Rattle.rss_store.specs.Stores.{IsReady as IsStoreReady}
use Rattle.rss_session.specs.Changes.{relation_told}
use Rattle.rss_session.specs.Sessions.{SessionView, CountsStill, most_in, AreRising, IsReady, sums_in, owed_for, owed_by}
use Rattle.rss_session.specs.Sessions as sessions
use Rattle.rss_session.specs.Shown.{ShowsBack}
use Rattle.rss_session.specs.Calls.{HasNewest}
use Rattle.rss_session.proofs.Fewer.{changers, newest_at, put_here, put_p, put_q, put_opened, put_placed, taken_placed}
use Rattle.rss_session.proofs.Sums.{gone_sum, get_open}
use Rattle.rss_session.proofs.Bounds.{bound_still, session_of}
use Rattle.rss_session.proofs.Changed.{numbered_told}
use Rattle.rss_session.proofs.ToldBack.{turned_back}
use Rattle.rss_session.proofs.Traffic.{most_counted, each_still, images_still}

-- the changes of one transaction are among all
pub listed_some : (view : OpenView) (t : ℕ) → is_open view t ≡ true → length (transaction_in view t).changes ≤ (sums_in view).p
listed_some view t opened =
    let parted = gone_sum (change_count any) view.transactions t (transaction_in view t) (get_open view t opened) in
    omega (arith, parted, count_any (transaction_in view t).changes)

-- ---- there is room for its undoing

-- a note of a tuple's change is one under each listing of the same definitions
numbered_too : {listing other : Listing} → SameDefinitions listing other → (item : Item) (noted : Option ℕ) → IsNumbered listing item noted → IsNumbered other item noted
numbered_too same (Segment name) noted is = is
numbered_too same (Relation name) noted is = is
numbered_too same (Chain link parent) noted is = is
numbered_too same (Key image values) noted is = is
numbered_too {listing = listing} {other = other} same (Tuple relation tid) noted is =
    (is.0, is.1, subst (λ (names : List (Option Name)). numbered names is.0 ≡ Some relation) (same_names listing other same) is.2)

-- where its newest change is one of a relation's tuples, the changes that are still there have it
one_there : (state : State) (t n : ℕ) (change : Change) (relation : Name) → cut_off maker t n state.changes ≡ cut_off maker t (n + 1) state.changes ++ change ∷ [] → counts_for change.item relation ≡ true → 1 ≤ changes_of (kept_to maker t (n + 1) state.changes) relation
one_there state t n change relation last of =
    let more = sum_by-append (λ (c : Change). cond (counts_for c.item relation) 1 0) (cut_off maker t (n + 1) state.changes) (change ∷ []) in
    omega (
      arith,
      cut_counts t n relation state.changes,
      cut_counts t (n + 1) relation state.changes,
      ap (λ (cs : List Change). changes_of cs relation) last,
      more,
      sum_by-cons (λ (c : Change). cond (counts_for c.item relation) 1 0) change [],
      ap {B = ℕ} (λ (b : Bool). cond b 1 0) of,
    )

module _ (view : SessionView) (state : State) (t n position : ℕ) (ready : IsReady view) (opened : is_open view.opened t ≡ true) (some : 1 ≤ length (transaction_in view.opened t).changes) (kept : Kept state) (own : IsOwnAt state t n position) (back : ShowsBack view state t (n + 1)) where
  abbrev shown : ShowsWith view.store state (kept_to maker t (n + 1) state.changes) back.store.over
  shown = back.store.shows

  abbrev its : TakesBack shown.stored.listing shown.log state t n position
  its = turned_back view.store state t n position own back.store

  few_slots : state.size.slots < 2 ^ 32
  few_slots = omega (
    arith,
    ap (λ (size : StoreSize). size.slots) shown.tied.size,
    ap (λ (root : Root). root.slots) shown.disk.root_is,
    ready.store.formed.slots_most,
  )

  -- where it is one of a relation's tuples, this is the relation
  its_number : IsNumbered view.store.catalog.listing its.change.item (relation_told its.told_change)
  its_number = numbered_too shown.definitions its.change.item (relation_told its.told_change) (numbered_told shown.stored.listing its.change.by its.change its.told_change its.told.tells its.told.means)

  module _ (m : ℕ) (relation : RelationEntry) (at : relation_at view.store.catalog.listing m ≡ Some relation) where
    -- the tuples that are there, with the changes that may still be undone
    all_there : tuple_count (after state.base.contents (kept_to maker t (n + 1) state.changes)) relation.name + changes_of (kept_to maker t (n + 1) state.changes) relation.name ≤ most_in view m
    all_there = omega (
      arith,
      back_tuples kept back.counted.rooms.metered t (n + 1) 0 back.store.over back.store.way relation.name,
      most_counted back.counted few_slots m relation at,
    )

    one_more : (number : ℕ) → IsNumbered view.store.catalog.listing its.change.item (Some number) → (b : Bool) → (m == number) ≡ b → (if b then relation.live + 1 else relation.live) ≤ most_in view m
    one_more number is_one true is =
        let named = number_of view.store.catalog.listing m relation at in
        let of = in_relation view.store.catalog.listing shown.spells.listed.relations_once relation.name m named its.change.item (Some number) is_one in
        let same : (number == m) ≡ true = eq-eqb number m (sym (eqb-true m number is)) in
        omega (arith, all_there, shown.spells.counts m relation at, one_there state t n its.change relation.name its.last (sym of ∙ same))
    one_more number is_one false is = omega (arith, all_there, shown.spells.counts m relation at)

    -- no relation has the number 0
    none_more : (b : Bool) → (m == 0) ≡ b → (if b then relation.live + 1 else relation.live) ≤ most_in view m
    none_more true is = absurd (none-some relation (ap (relation_at view.store.catalog.listing) (sym (eqb-true m 0 is)) ∙ at))
    none_more false is = omega (arith, all_there, shown.spells.counts m relation at)

  room_within_most : (number : ℕ) → ((m : ℕ) (relation : RelationEntry) → relation_at view.store.catalog.listing m ≡ Some relation → (if m == number then relation.live + 1 else relation.live) ≤ most_in view m) → HasRoom (access view.store) number
  room_within_most number more =
      let spare = spare_for_all (sessions.counts view) (sums_in view.opened).p (page_counts view.store.pages) ready.room ready.pages ready.saved in
      let within = room_within view.store.catalog.listing number (most_in view) more in
      omega (arith, spare, within, listed_some view.opened t opened, some)

  room_of : (number : ℕ) → IsNumbered view.store.catalog.listing its.change.item (Some number) → HasRoom (access view.store) number
  room_of number is_one = room_within_most number (λ m relation at. one_more m relation at number is_one (m == number) refl)

  room_of_chain : HasRoom (access view.store) 0
  room_of_chain = room_within_most 0 (λ m relation at. none_more m relation at (m == 0) refl)

  room_for : (told_change : told.Change) → IsNumbered view.store.catalog.listing its.change.item (relation_told told_change) → HasRoomFor (access view.store) told_change
  room_for (Insert relation tid values) is_one = room_of relation is_one
  room_for (Delete relation tid values) is_one = room_of relation is_one
  room_for (Update relation tid was next) is_one = room_of relation is_one
  room_for (Connect link parent child left) is_one = room_of_chain
  room_for (Disconnect link parent child left) is_one = room_of_chain

  pub room_back : HasRoomFor (access view.store) its.told_change
  room_back = room_for its.told_change its_number

-- the counts of fewer changes
pub fewer_changers : (some more : ℕ) → some ≤ more → changers some ≤ changers more
fewer_changers zero more le = omega arith
fewer_changers (suc some) more le =
    let yes : nat_lt 0 (suc some) ≡ true = grind (arith, nat_tests) in
    let also : nat_lt 0 more ≡ true = grind (arith, nat_tests, le) in
    rw (yes, also) (omega arith)

shorter : (notes : List Noted) (n : ℕ) → length notes ≡ n + 1 → length (take (length notes - 1) notes) ≡ n
shorter notes n count = grind (arith, length-take)

module _ (old new : SessionView) (t position : ℕ) (ready : IsReady old) (opened : is_open old.opened t ≡ true) (newest : HasNewest old.opened t position) (steps : Steps t without_newest old.opened new.opened) (still : CountsStill old new) where
  left : length (without_newest (transaction_in old.opened t)).changes ≡ newest.older
  left = shorter (transaction_in old.opened t).changes newest.older newest.count

  one_less : (sums_in old.opened).p ≡ (sums_in new.opened).p + 1
  one_less = let less = put_p old.opened new.opened t _ opened steps.transactions in omega (arith, less, newest.count, left)

  no_more_changers : (sums_in new.opened).q ≤ (sums_in old.opened).q
  no_more_changers =
      let count = put_q old.opened new.opened t _ opened steps.transactions in
      omega (arith, count, fewer_changers (length (without_newest (transaction_in old.opened t)).changes) (length (transaction_in old.opened t).changes) (omega (arith, left, newest.count)))

  same_images : SameDefinitions old.store.catalog.listing new.store.catalog.listing → (sessions.counts new).images ≡ (sessions.counts old).images
  same_images same = bound_still same (most_in new) ∙ images_still old.store.catalog.listing still steps.since_of

  pub ready_undone : SameDefinitions old.store.catalog.listing new.store.catalog.listing → IsStoreReady new.store → new.store.log ≡ old.store.log → TakesTwo (page_counts old.store.pages) (page_counts new.store.pages) → IsReady new
  ready_undone same store log two = record {
    store = store;
    pages = session_of still.heap still.surviving steps.since
        (session_goes_back (sessions.counts old) (sums_in new.opened).p (page_counts old.store.pages) (page_counts new.store.pages)
        (subst (λ (n : ℕ). IsInSession (sessions.counts old) n (page_counts old.store.pages)) one_less ready.pages) two);
    room = omega (arith, ready.room, still.heap, still.surviving, steps.since, same_images same, two.slots);
    saved = omega (arith, ready.saved, two.saved_images, same_images same);
    log = omega (arith, ready.log, one_less, no_more_changers, ap free_of log);
    placed = λ u. subst (λ (l : LogView). AreRising l.head l.end (transaction_in new.opened u).changes) (sym log)
        (put_placed old.opened new.opened t _ opened steps.transactions old.store.log.head old.store.log.end
        (taken_placed old.store.log.head old.store.log.end (length (transaction_in old.opened t).changes - 1) (transaction_in old.opened t) (ready.placed t)) ready.placed u);
    numbers = λ u is. ready.numbers u (put_opened old.opened new.opened t _ opened steps.transactions u is);
  }

  pub back_one : (state : State) (n : ℕ) → length (transaction_in old.opened t).changes ≡ n + 1 → SameDefinitions old.store.catalog.listing new.store.catalog.listing
      → StoreTakesBackOne old.store new.store position → IsOwnAt state t n position → ShowsBack old state t (n + 1) → ShowsBack new state t n
  back_one state n count same takes own shows = record {
    store = takes state t n own shows.store;
    listed = shows.listed;
    list = shows.list;
    told = recounted_tells old.store.catalog.listing new.store.catalog.listing new.opened state.marks _ (taken_tells old.store.catalog.listing old.opened new.opened state.marks shows.listed t n shows.told opened count steps) same;
    counted = record {
      since = since_still shows.counted.since;
      each = each_still same still.entries still.survived shows.counted.each;
      heap = shows.counted.heap ∙ sym still.heap;
      surviving = shows.counted.surviving ∙ sym still.surviving;
      rooms = shows.counted.rooms;
    };
  }
    where
      since_still : TellsSince old.store.catalog.listing old.opened state.meter → TellsSince new.store.catalog.listing new.opened state.meter
      since_still since = record {
        all = steps.since ∙ since.all;
        each = λ relation number is. ap (λ (f : ℕ → ℕ). f number) steps.since_of ∙ since.each relation number
            (ap (λ (names : List (Option Name)). numbered names number) (same_names old.store.catalog.listing new.store.catalog.listing same) ∙ is);
        fewer = since.fewer;
      }

-- it has fewer changes then
pub taken_shorter : (old new : OpenView) (t save position : ℕ) → is_open old t ≡ true → newest_after (transaction_in old t) save ≡ Some position → Steps t without_newest old new → length (transaction_in new t).changes < length (transaction_in old t).changes
taken_shorter old new t save position opened newest steps =
    let last = newest_at (transaction_in old t) save position newest in
    let now = ap (λ (x : Transaction). length x.changes) (put_here old new t _ opened steps.transactions) in
    omega (arith, now, last.count, shorter (transaction_in old t).changes last.older last.count)
