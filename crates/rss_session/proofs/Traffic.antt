-- What a session counts of each relation is what the meter does, and so are the pages that images may have.
use Rattle.std.proofs.Common.{◌≡◌, ℕ, ◌+◌, ◌*◌, ◌^◌, ◌<◌, ◌≤◌, Bool, true, false, if◌then◌else◌, List, length, refl, sym, ◌∙◌, ap, subst, arith}
use Rattle.std.specs.Prelude.{Option, Some, None, option_map, unwrap_or}
use Rattle.std.proofs.lemmas.List.Sums.{count_by-le-length}
use Rattle.rss_base.specs.Listings.{Listing, IsNumberOf, numbered, relation_at}
use Rattle.rss_base.specs.Paged.{Held}
use Rattle.rss_base.specs.declared.item.Item.{Item}
use Rattle.rss_base.specs.declared.name.Name.{Name}
use Rattle.rss_base.specs.declared.refusal.Kind.TheVariants.{Relation as RelationKind}
use Rattle.rss_base.specs.declared.relation.RelationEntry.{RelationEntry}
use Rattle.rss_catalog.specs.Catalogs.{CatalogView}
use Rattle.rss_model.specs.Changes.{Change}
use Rattle.rss_model.specs.Machine.{State}
use Rattle.rss_model.specs.Meanings.{SameDefinitions}
use Rattle.rss_model.specs.Meter.{Traffic, Meter, entries_most, with_traffic, counts_for, changes_of}
use Rattle.rss_model.specs.Rules.{with_change, saved_now}
use Rattle.rss_model.specs.Spares.{change_counts, live_of, listed_bound}
use Rattle.rss_stored.specs.Store.{SpellsTables}
use Rattle.rss_model.specs.Tables.{Tables, tuple_count}
use Rattle.rss_stored.proofs.ImageRooms.{most_of, listed_same}
use Rattle.rss_stored.proofs.Relisted.{number_of}
use Rattle.rss_access.proofs.Numbered.{entry_at}
use Rattle.rss_trans.specs.Told.{IsNumbered}
use Rattle.rss_trans.specs.Transactions.{is_in}
use Rattle.rss_trans.proofs.Summing.{in_relation, relation_told}
use Rattle.rss_trans.proofs.Told.{same_names}
use Rattle.rss_session.specs.Sessions.{SessionView, CountsStill, few, most_in, counts}
use Rattle.rss_session.specs.Shown.{CountsEach, Counts, Shows}
use Rattle.rss_session.specs.Weighing.{most_with, images_with, survived_now, saved_most, saved_images_with}
use Rattle.rss_session.proofs.Bounds.{few_is, bound_same}

-- ---- counts stay

pub each_still : {listing other : Listing} {entries survived entries_too survived_too : ℕ → ℕ} {traffic : Name → Traffic} → SameDefinitions listing other → entries_too ≡ entries → survived_too ≡ survived → CountsEach listing entries survived traffic → CountsEach other entries_too survived_too traffic
each_still {listing = listing} {other = other} same entries_same survived_same each = record {
  entries = λ relation number at. each.entries relation number (back relation number at) ∙ ap (λ (f : ℕ → ℕ). f number) (sym entries_same);
  survived = λ relation number at. each.survived relation number (back relation number at) ∙ ap (λ (f : ℕ → ℕ). f number) (sym survived_same);
}
  where
    back : (relation : Name) (number : ℕ) → IsNumberOf RelationKind other relation number → IsNumberOf RelationKind listing relation number
    back relation number at = subst (λ (names : List (Option Name)). numbered names number ≡ Some relation) (sym (same_names listing other same)) at

pub each_again : {old new : SessionView} {traffic : Name → Traffic} → new.store.catalog ≡ old.store.catalog → CountsStill old new → CountsEach old.store.catalog.listing old.entries old.survived traffic → CountsEach new.store.catalog.listing new.entries new.survived traffic
each_again {old = old} {new = new} {traffic = traffic} catalog still each =
    subst (λ (c : CatalogView). CountsEach c.listing new.entries new.survived traffic) (sym catalog)
    (subst (λ (entries : ℕ → ℕ). CountsEach old.store.catalog.listing entries new.survived traffic) (sym still.entries)
    (subst (λ (survived : ℕ → ℕ). CountsEach old.store.catalog.listing old.entries survived traffic) (sym still.survived) each))

-- a change more counts since the checkpoint alone
abbrev one_since : Traffic → Traffic
one_since traffic = record { entries = traffic.entries; surviving = traffic.surviving; since = traffic.since + 1 }

pub each_with : {listing : Listing} {entries survived : ℕ → ℕ} {traffic : Name → Traffic} (item : Item) → CountsEach listing entries survived traffic → CountsEach listing entries survived (with_traffic item traffic)
each_with {traffic = traffic} item each = record {
  entries = λ relation number at. same_entries (counts_for item relation) (traffic relation) ∙ each.entries relation number at;
  survived = λ relation number at. same_surviving (counts_for item relation) (traffic relation) ∙ each.survived relation number at;
}
  where
    same_entries : (b : Bool) (t : Traffic) → (if b then one_since t else t).entries ≡ t.entries
    same_entries true t = refl
    same_entries false t = refl

    same_surviving : (b : Bool) (t : Traffic) → (if b then one_since t else t).surviving ≡ t.surviving
    same_surviving true t = refl
    same_surviving false t = refl

-- and so do the pages that images may have
pub images_still : {old new : SessionView} (listing : Listing) → CountsStill old new → new.opened.since_of ≡ old.opened.since_of → listed_bound listing (most_in new) ≡ listed_bound listing (most_in old)
images_still listing still since_of = λ i. listed_bound listing (λ number. still.entries i number + still.survived i number + 2 * few (since_of i number))

-- ---- how many entries the images of a relation may have

pub most_is : (listing : Listing) (traffic : Name → Traffic) (number : ℕ) (relation : RelationEntry) → relation_at listing number ≡ Some relation → most_of listing traffic number ≡ entries_most (traffic relation.name)
most_is listing traffic number relation at = ap (λ (o : Option RelationEntry). unwrap_or (option_map (λ r. entries_most (traffic r.name)) o) 0) at

pub live_is : (listing : Listing) (number : ℕ) (relation : RelationEntry) → relation_at listing number ≡ Some relation → live_of listing number ≡ relation.live
live_is listing number relation at = ap (λ (o : Option RelationEntry). unwrap_or (option_map (λ r. r.live) o) 0) at

-- with a change more, by whether it is one of the relation
pub with_is : (number : Option ℕ) (most : ℕ → ℕ) (other : ℕ) → most_with number most other ≡ (if is_in other number then most other + 2 else most other)
with_is None most other = refl
with_is (Some number) most other = refl

pub with_more : (number : Option ℕ) (most : ℕ → ℕ) (other : ℕ) → most other ≤ most_with number most other
with_more number most other = by (is_in other number) (with_is number most other)
  where
    by : (b : Bool) → most_with number most other ≡ (if b then most other + 2 else most other) → most other ≤ most_with number most other
    by true is = omega (arith, is)
    by false is = omega (arith, is)

pub with_same : (number : Option ℕ) (one other : ℕ → ℕ) (n : ℕ) → one n ≡ other n → most_with number one n ≡ most_with number other n
with_same number one other n same = with_is number one n ∙ (λ i. if is_in n number then same i + 2 else same i) ∙ sym (with_is number other n)

pub most_counted : {view : SessionView} {state : State} → Counts view state → state.size.slots < 2 ^ 32 → (number : ℕ) (relation : RelationEntry) → relation_at view.store.catalog.listing number ≡ Some relation → entries_most (state.meter.traffic relation.name) ≡ most_in view number
most_counted {view = view} {state = state} counted few_slots number relation at =
    let named = number_of view.store.catalog.listing number relation at in
    let since = counted.since.each relation.name number named in
    let few_since : state.meter.since < 2 ^ 32 = omega (arith, few_slots, counted.rooms.metered.room) in
    let low : view.opened.since_of number < 2 ^ 32 = omega (arith, since, counted.since.fewer relation.name, few_since) in
    omega (arith, counted.each.entries relation.name number named, counted.each.survived relation.name number named, since, few_is (view.opened.since_of number) low)

-- behind a checkpoint images may have as many pages as was said before it
pub images_anew : (old new : SessionView) → new.store.catalog.listing ≡ old.store.catalog.listing → ((number : ℕ) → new.opened.since_of number ≡ 0) → ((number : ℕ) → new.entries number ≡ live_of old.store.catalog.listing number)
    → ((number : ℕ) (relation : RelationEntry) → relation_at old.store.catalog.listing number ≡ Some relation → new.survived number ≡ survived_now old.opened number)
    → (number : Option ℕ) → images_with new number ≡ saved_images_with old number
images_anew old new same since_of entries survived number =
    ap (λ (l : Listing). listed_bound l (most_with number (most_in new))) same
    ∙ bound_same old.store.catalog.listing (most_with number (most_in new)) (most_with number (saved_most old)) (λ other relation at.
    with_same number (most_in new) (saved_most old) other (omega (arith, entries other, survived other relation at, since_of other)))

-- what is counted then is what the meter of a checkpoint does
pub each_anew : (new : SessionView) {tables : Tables} {traffic : Name → Traffic} {counted : Name → ℕ} {held : Held} → SpellsTables held new.store.catalog.listing tables
    → ((relation : Name) → (traffic relation).entries ≡ tuple_count tables.contents relation) → ((relation : Name) → (traffic relation).surviving ≡ counted relation)
    → ((number : ℕ) → new.entries number ≡ live_of new.store.catalog.listing number)
    → ((number : ℕ) (relation : RelationEntry) → relation_at new.store.catalog.listing number ≡ Some relation → new.survived number ≡ counted relation.name)
    → CountsEach new.store.catalog.listing new.entries new.survived traffic
each_anew new {tables = tables} {traffic = traffic} {counted = counted} spells its_entries its_survived entries survived = record {
  entries = λ relation number numbered.
      let has = entry_at new.store.catalog.listing relation number numbered in
      its_entries relation ∙ ap (tuple_count tables.contents) (sym has.named) ∙ spells.counts number has.entry has.at ∙ sym (live_is new.store.catalog.listing number has.entry has.at) ∙ sym (entries number);
  survived = λ relation number numbered.
      let has = entry_at new.store.catalog.listing relation number numbered in
      its_survived relation ∙ ap counted (sym has.named) ∙ sym (survived number has.entry has.at);
}

module _ {view : SessionView} {state : State} (shows : Shows view state) (few_slots : state.size.slots < 2 ^ 32) where
  abbrev listing : Listing
  listing = view.store.catalog.listing

  its_number : (number : ℕ) (relation : RelationEntry) → relation_at listing number ≡ Some relation → IsNumberOf RelationKind listing relation.name number
  its_number number relation at = number_of listing number relation at

  few_changes : length state.changes < 2 ^ 32
  few_changes = omega (arith, few_slots, shows.counted.rooms.metered.room, shows.counted.rooms.metered.heap)

  most_same : (number : ℕ) (relation : RelationEntry) → relation_at listing number ≡ Some relation → most_of listing state.meter.traffic number ≡ most_in view number
  most_same number relation at = most_is listing state.meter.traffic number relation at ∙ most_counted shows.counted few_slots number relation at

  pub survived_same : (number : ℕ) (relation : RelationEntry) → relation_at listing number ≡ Some relation → survived_now view.opened number ≡ changes_of state.changes relation.name
  survived_same number relation at =
      let told = relation_told listing shows.store.spells.listed.relations_once relation.name number (its_number number relation at) view.opened state.marks shows.listed 0 shows.told in
      let same = ap (λ (cs : List Change). changes_of cs relation.name) shows.list.changes_are in
      let some = count_by-le-length (λ (c : Change). counts_for c.item relation.name) state.changes in
      ap few (told ∙ same) ∙ few_is (changes_of state.changes relation.name) (omega (arith, some, few_changes))

  pub saved_same : (number : ℕ) (relation : RelationEntry) → relation_at listing number ≡ Some relation → most_of listing (saved_now state).traffic number ≡ saved_most view number
  saved_same number relation at = omega (
    arith,
    most_is listing (saved_now state).traffic number relation at,
    shows.store.spells.counts number relation at,
    live_is listing number relation at,
    survived_same number relation at,
  )

  -- a change more, of this number
  module _ (change : Change) (number : Option ℕ) (is : IsNumbered listing change.item number) (meter : Meter) (most : ℕ → ℕ) (same : (other : ℕ) (relation : RelationEntry) → relation_at listing other ≡ Some relation → most_of listing meter.traffic other ≡ most other) where
    more : (other : ℕ) (relation : RelationEntry) → relation_at listing other ≡ Some relation → most_of listing (with_change state.base.definitions change meter).traffic other ≡ most_with number most other
    more other relation at =
        let its = in_relation listing shows.store.spells.listed.relations_once relation.name other (its_number other relation at) change.item number is in
        let was = sym (most_is listing meter.traffic other relation at) ∙ same other relation at in
        most_is listing (with_change state.base.definitions change meter).traffic other relation at
        ∙ by (counts_for change.item relation.name) (meter.traffic relation.name)
        ∙ (λ i. if sym its i then was i + 2 else was i)
        ∙ sym (with_is number most other)
      where
        by : (b : Bool) (t : Traffic) → entries_most (if b then one_since t else t) ≡ (if b then entries_most t + 2 else entries_most t)
        by true t = omega arith
        by false t = refl

    pub images_more : (change_counts state.base.definitions (with_change state.base.definitions change meter)).images ≡ listed_bound listing (most_with number most)
    images_more =
        listed_same shows.store.spells.defines shows.store.spells.listed (with_change state.base.definitions change meter)
        ∙ bound_same listing (most_of listing (with_change state.base.definitions change meter).traffic) (most_with number most) more

  -- ---- and so how many pages images may have

  pub images_same : (change_counts state.base.definitions state.meter).images ≡ (counts view).images
  images_same = listed_same shows.store.spells.defines shows.store.spells.listed state.meter ∙ bound_same listing (most_of listing state.meter.traffic) (most_in view) most_same

  pub images_with_same : (change : Change) (number : Option ℕ) → IsNumbered listing change.item number → (change_counts state.base.definitions (with_change state.base.definitions change state.meter)).images ≡ images_with view number
  images_with_same change number is = images_more change number is state.meter (most_in view) most_same

  pub saved_images_same : (change_counts state.base.definitions (saved_now state)).images ≡ saved_images_with view None
  saved_images_same = listed_same shows.store.spells.defines shows.store.spells.listed (saved_now state) ∙ bound_same listing (most_of listing (saved_now state).traffic) (saved_most view) saved_same

  pub saved_with_same : (change : Change) (number : Option ℕ) → IsNumbered listing change.item number → (change_counts state.base.definitions (with_change state.base.definitions change (saved_now state))).images ≡ saved_images_with view number
  saved_with_same change number is = images_more change number is (saved_now state) (saved_most view) saved_same
