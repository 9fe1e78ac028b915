-- A change that goes on as it is: the session is ready again, and in the machine's next state.
use Rattle.std.proofs.Common.{◌≡◌, ℕ, ◌+◌, ◌-◌, ◌^◌, ◌<◌, ◌≤◌, Bool, true, false, if◌then◌else◌, List, ◌∷◌, refl, sym, ◌∙◌, ap, subst, arith}
use Rattle.std.specs.Prelude.{Option, Some, None, is_some, is_none, unwrap_or, ◌&&◌, Ok}
use Rattle.rss_base.specs.declared.change.Change as told
use Rattle.rss_base.specs.declared.change.Change.TheVariants.{Insert, Delete, Update, Connect, Disconnect}
use Rattle.rss_base.specs.declared.item.Item.{Item}
use Rattle.rss_base.specs.declared.name.Name.{Name}
use Rattle.rss_base.specs.declared.refusal.Kind.TheVariants.{Relation as RelationKind}
use Rattle.rss_base.specs.declared.log_record.LogRecord.TheVariants as records
use Rattle.rss_base.specs.declared.root.Root.{Root}
use Rattle.rss_base.specs.Listings.{Listing, numbered, IsNumberOf}
use Rattle.rss_base.specs.LogRecords.{record_size}
use Rattle.rss_log.specs.Logs.{room_end, free_of}
use Rattle.rss_model.specs.Items.{Content}
use Rattle.rss_model.specs.Changes.{Change}
use Rattle.rss_model.specs.Machine.{State}
use Rattle.rss_model.specs.Meter.{Stamp, Meter, counted, change_size}
use Rattle.rss_model.specs.Meanings.{name_at, nameless, IsChangeTold, TellsValues, Means, SameDefinitions}
use Rattle.rss_model.specs.Records.{Listed}
use Rattle.rss_stored.specs.LogLaws.{noted}
use Rattle.rss_model.specs.Rules.{ruling, refusal_by, goes_on}
use Rattle.rss_model.specs.Ruled.{HasBothRooms, ruled}
use Rattle.rss_model.specs.Spares.{page_counts, TakesTwo, IsInSession}
use Rattle.rss_model.proofs.BothRooms.{changes_keep_rooms}
use Rattle.rss_stored.proofs.ImageRooms.{bound_rises}
use Rattle.rss_stored.proofs.Listed.{fields_listed}
use Rattle.rss_stored.proofs.LogCounting.{change_told_size}
use Rattle.rss_stored.proofs.Relisted.{number_of}
use Rattle.rss_model.proofs.Ruling.{behind}
use Rattle.rss_model.proofs.Sparing.{session_changes}
use Rattle.rss_trans.specs.declared.noted.Noted.{Noted}
use Rattle.rss_trans.specs.Transactions.{OpenView, is_open, transaction_in, is_in, Notes, counted as counted_more}
use Rattle.rss_trans.specs.Told.{IsNumbered, is_tuple, takes_away, IsNoteOf, TellsSince}
use Rattle.rss_trans.proofs.Told.{change_tells, recounted_tells, same_names}
use Rattle.rss_trans.proofs.Summing.{since_told}
use Rattle.rss_store.specs.Stores.{Grows}
use Rattle.rss_store.specs.Stores.{IsReady as IsStoreReady}
use Rattle.rss_store.specs.Changing.{MayMake}
use Rattle.rss_store.specs.Changing.{MakesOne as StoreMakesOne}
use Rattle.rss_session.specs.Changes.{is_delete_told, relation_told}
use Rattle.rss_session.specs.Sessions.{SessionView, CountsStill, most_in, AreRising, IsReady, sums_in, owed_for, owed_by}
use Rattle.rss_session.specs.Sessions as sessions
use Rattle.rss_session.specs.Shown.{Shows}
use Rattle.rss_session.specs.Weighing.{most_with, images_with, weighed}
use Rattle.rss_session.specs.Calls.{MakesOne}
use Rattle.rss_session.proofs.Bounds.{bound_still, session_of}
use Rattle.rss_session.proofs.Noted.{Goes, noted_p, noted_q, noted_placed, noted_open, weighed_on}
use Rattle.rss_session.proofs.Traffic.{each_still, each_with, with_is}
use Rattle.rss_session.proofs.Weighed.{goes_on_right}

-- ---- a call may be made again

module _ {old new : SessionView} {t : ℕ} {number : Option ℕ} {size : ℕ} {note : Noted} (ready : IsReady old) (opened : is_open old.opened t ≡ true) (goes : Goes old t number size) (store : IsStoreReady new.store) (notes : Notes t note old.opened new.opened)
    (at : old.store.log.end ≡ note.position) (grows : Grows size old.store.log new.store.log) (some : 0 < size) (two : TakesTwo (page_counts old.store.pages) (page_counts new.store.pages)) (relation : note.relation ≡ number) (definitions : SameDefinitions old.store.catalog.listing new.store.catalog.listing) (still : CountsStill old new) (root : new.store.root ≡ old.store.root) where
  since_now : new.opened.since ≡ old.opened.since + 1
  since_now = let few = ready.room in let most = ready.store.formed.slots_most in omega (arith, notes.since, few, most, ready.store.size)

  free_now : free_of new.store.log ≡ free_of old.store.log - size
  free_now =
      let same : room_end new.store.log.pages new.store.log.head ≡ room_end old.store.log.pages old.store.log.head = λ i. room_end (grows.pages i) (grows.head i) in
      omega (arith, same, grows.end)

  -- a change more counts for its relation, as far as is counted
  few_more : (other : ℕ) → (most_in old other ≤ most_in new other) × (most_in new other ≤ most_with number (most_in old) other)
  few_more other =
      let entries = ap (λ (f : ℕ → ℕ). f other) still.entries in
      let survived = ap (λ (f : ℕ → ℕ). f other) still.survived in
      by (is_in other number) (with_is number (most_in old) other) (notes.since_of other ∙ ap (λ (o : Option ℕ). counted_more (old.opened.since_of other) (is_in other o)) relation) entries survived
    where
      by : (b : Bool) → most_with number (most_in old) other ≡ (if b then most_in old other + 2 else most_in old other) → new.opened.since_of other ≡ counted_more (old.opened.since_of other) b → new.entries other ≡ old.entries other → new.survived other ≡ old.survived other
          → (most_in old other ≤ most_in new other) × (most_in new other ≤ most_with number (most_in old) other)
      by true is since entries survived = (omega (arith, is, since, entries, survived), omega (arith, is, since, entries, survived))
      by false is since entries survived = (omega (arith, is, since, entries, survived), omega (arith, is, since, entries, survived))

  images_least : (sessions.counts old).images ≤ (sessions.counts new).images
  images_least =
      let rises = bound_rises old.store.catalog.listing (most_in old) (most_in new) (λ other relation at. (few_more other).0) in
      omega (arith, rises, bound_still definitions (most_in new))

  images_most : (sessions.counts new).images ≤ images_with old number
  images_most =
      let rises = bound_rises old.store.catalog.listing (most_in new) (most_with number (most_in old)) (λ other relation at. (few_more other).1) in
      omega (arith, rises, bound_still definitions (most_in new))

  pub ready_noted : IsReady new
  ready_noted = record {
    store = store;
    pages = subst (λ (n : ℕ). IsInSession (sessions.counts new) n (page_counts new.store.pages)) (sym (noted_p opened notes))
        (session_of still.heap still.surviving since_now (session_changes (sessions.counts old) (images_with old number) (sums_in old.opened).p (page_counts old.store.pages) (page_counts new.store.pages) ready.pages two));
    room = omega (arith, goes.room, still.heap, still.surviving, since_now, images_most, store.size, ap (λ (r : Root). r.slots) root);
    saved = omega (arith, ready.saved, two.saved_images, images_least);
    log = omega (arith, goes.log, free_now, noted_p opened notes, noted_q opened notes);
    placed = λ u. subst (λ (n : ℕ). AreRising n new.store.log.end (transaction_in new.opened u).changes) (sym grows.head) (noted_placed opened notes old.store.log.head old.store.log.end new.store.log.end at (omega (arith, grows.end, some)) ready.placed u);
    numbers = λ u is. ready.numbers u (noted_open opened notes u is);
  }

-- ---- what is noted of it

-- the relation of its number, whose name the item has
listed_name : (listing : Listing) (number : ℕ) → {spelled : List ℕ} {held : Option Content} → TellsValues listing number spelled held → IsNumberOf RelationKind listing (name_at RelationKind listing number) number
listed_name listing number tells =
    let is = number_of listing number tells.relation tells.at in
    is ∙ ap Some (sym (ap (λ (o : Option Name). unwrap_or o (nameless number)) is))

abbrev takes : Item → Option Content → Option Content → Bool
takes item old new = is_tuple item && is_some old && is_none new

module _ (listing : Listing) (by : ℕ) (change : Change) where
  pub numbered_told : (told_change : told.Change) → IsChangeTold listing by told_change change → Means listing told_change change → IsNumbered listing change.item (relation_told told_change)
  numbered_told (Insert number tid values) tells means = subst (λ (item : Item). IsNumbered listing item (Some number)) (sym tells.item) (number, refl, listed_name listing number means.1)
  numbered_told (Delete number tid values) tells means = subst (λ (item : Item). IsNumbered listing item (Some number)) (sym tells.item) (number, refl, listed_name listing number means.0)
  numbered_told (Update number tid was next) tells means = subst (λ (item : Item). IsNumbered listing item (Some number)) (sym tells.item) (number, refl, listed_name listing number means.0)
  numbered_told (Connect link parent child left) tells means = subst (λ (item : Item). IsNumbered listing item None) (sym tells.item) refl
  numbered_told (Disconnect link parent child left) tells means = subst (λ (item : Item). IsNumbered listing item None) (sym tells.item) refl

  taken_told : (told_change : told.Change) → IsChangeTold listing by told_change change → Means listing told_change change → is_delete_told told_change ≡ takes_away change
  taken_told (Insert number tid values) tells means = sym (λ i. takes (tells.item i) (means.0 i) (means.1.is i))
  taken_told (Delete number tid values) tells means = sym (λ i. takes (tells.item i) (means.0.is i) (means.1 i))
  taken_told (Update number tid was next) tells means = sym (λ i. takes (tells.item i) (means.0.is i) (means.1.is i))
  taken_told (Connect link parent child left) tells means = sym (ap (λ (item : Item). takes item change.old change.new) tells.item)
  taken_told (Disconnect link parent child left) tells means = sym (ap (λ (item : Item). takes item change.old change.new) tells.item)

-- ---- the next state

-- the counts go by the relations' numbers, which stay
pub since_relisted : {listing other : Listing} {view : OpenView} {meter : Meter} → SameDefinitions listing other → TellsSince listing view meter → TellsSince other view meter
since_relisted {listing = listing} {other = other} same is = record {
  all = is.all;
  each = λ relation number at. is.each relation number (subst (λ (names : List (Option Name)). numbered names number ≡ Some relation) (sym (same_names listing other same)) at);
  fewer = is.fewer;
}

module _ {told_change : told.Change} {old new : SessionView} {t : ℕ} {note : Noted} (ready : IsReady old) (opened : is_open old.opened t ≡ true) (weighed_so : weighed old t (relation_told told_change) (record_size (records.Change t told_change)) ≡ Ok false) (notes : Notes t note old.opened new.opened)
    (at : note.position ≡ old.store.log.end) (relation : note.relation ≡ relation_told told_change) (is_delete : note.is_delete ≡ is_delete_told told_change) (definitions : SameDefinitions old.store.catalog.listing new.store.catalog.listing) (still : CountsStill old new)
    (state : State) (change : Change) (by : change.by ≡ t) (shows : Shows old state) (may : MayMake old.store state told_change change) (store : StoreMakesOne new.store state change) where
  abbrev listing : Listing
  listing = old.store.catalog.listing

  size_is : change_size state.base.definitions change ≡ record_size (records.Change change.by told_change)
  size_is = sym (change_told_size listing state.base.definitions (fields_listed shows.store.spells.listed shows.store.spells.defines) change.by told_change change may.told.tells may.told.means)

  its : IsNumbered listing change.item (relation_told told_change)
  its = numbered_told listing change.by change told_change may.told.tells may.told.means

  on : goes_on state change ≡ true
  on =
      goes_on_right old state change (relation_told told_change) (record_size (records.Change change.by told_change)) ready shows its size_is
      ∙ weighed_on old change.by (relation_told told_change) (record_size (records.Change change.by told_change)) (subst (λ (u : ℕ). weighed old u (relation_told told_change) (record_size (records.Change u told_change)) ≡ Ok false) (sym by) weighed_so)

  let_through : refusal_by (ruling state change) ≡ None
  let_through = rw on refl

  ruled_is : ruled change store.over state ≡ noted change store.over state
  ruled_is = λ i. record state { changes = change ∷ state.changes; meter = counted state.base.definitions change store.over (ap (behind state) on i) }

  abbrev l : Listed
  l = record { at = state.meter.end; change = change }

  notes_by : Notes change.by note old.opened new.opened
  notes_by = subst (λ (u : ℕ). Notes u note old.opened new.opened) (sym by) notes

  is_note : IsNoteOf listing note l
  is_note = record {
    position = at ∙ shows.store.logged.end_is ∙ sym shows.store.tied.ties.meter.end;
    relation = subst (IsNumbered listing change.item) (sym relation) its;
    is_delete = is_delete ∙ taken_told listing change.by change told_change may.told.tells may.told.means;
  }

  few : state.meter.since < 2 ^ 64 - 1
  few = let room = ready.room in let most = ready.store.formed.slots_most in omega (arith, shows.counted.since.all, room, most, ready.store.size)

  pub shows_noted : Shows new (noted change store.over state)
  shows_noted = record {
    store = store.shows;
    listed = l ∷ shows.listed;
    list = record {
      changes_are = ap (λ (cs : List Change). change ∷ cs) shows.list.changes_are;
      stamps_are = ap (λ (ss : List Stamp). record { by = change.by; at = state.meter.end } ∷ ss) shows.list.stamps_are;
    };
    told = recounted_tells listing new.store.catalog.listing new.opened state.marks (l ∷ shows.listed)
        (change_tells listing old.opened new.opened state.marks shows.listed note l shows.told (ap (is_open old.opened) by ∙ opened) is_note notes_by) definitions;
    counted = record {
      since = since_relisted definitions (since_told listing old.opened new.opened state.base.definitions state.meter note l store.over shows.counted.since shows.store.spells.listed.relations_once is_note notes_by few);
      each = each_still definitions still.entries still.survived (each_with change.item shows.counted.each);
      heap = shows.counted.heap ∙ sym still.heap;
      surviving = shows.counted.surviving ∙ sym still.surviving;
      rooms = subst HasBothRooms ruled_is (changes_keep_rooms state change store.over state.locks shows.counted.rooms.metered let_through store.allowed);
    };
    rested = λ none. absurd (omega (arith, none));
  }

  pub makes_noted : MakesOne new state change
  makes_noted = record {
    over = store.over;
    allowed = store.allowed;
    shows = subst (Shows new) (sym ruled_is) shows_noted;
  }
