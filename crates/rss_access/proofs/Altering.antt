-- A change of a tuple that was made: the tables that the pages spell then.
use Rattle.std.proofs.Common.{◌≡◌, ◌≢◌, inl, inr, ℕ, ◌+◌, ◌≤◌, Bool, true, false, List, refl, sym, ◌∙◌, ap, subst, arith, [], true≢false, ◌<◌}
use Rattle.std.specs.Prelude.{Option, Some, None, is_some, option_map, unwrap_or, nat_lt, length, count_by, OnOk, Result, Ok, Err}
use Rattle.std.proofs.lemmas.Bool.{cases_Bool, cases_eq, and_from, true_from_ne_false, lt-ltb}
use Rattle.std.proofs.lemmas.List.Sums.{sum_by-cons}
use Rattle.std.proofs.lemmas.Option.{same_Some}
use Rattle.rss_base.specs.DiskRule.{IsTold}
use Rattle.rss_base.specs.Paged.{Mapped, page_key, mapped_in, mapped_of}
use Rattle.rss_base.specs.Steps.{PagesStep, Keys}
use Rattle.rss_base.specs.TupleTypes.{kinds, tuple_bytes}
use Rattle.rss_base.specs.Listings.{Listing, numbered, segment_at, relation_at}
use Rattle.rss_base.specs.declared.name.Name.{Name}
use Rattle.rss_base.specs.declared.tid.Tid.{Tid}
use Rattle.rss_base.specs.declared.item.Item.{Item}
use Rattle.rss_base.specs.declared.item.Item.TheVariants.{Tuple as TupleItem}
use Rattle.rss_base.specs.declared.fault.PageFault.{PageFault}
use Rattle.rss_base.specs.declared.place.Place.{Place}
use Rattle.rss_base.specs.declared.key.PageKey.{PageKey}
use Rattle.rss_base.specs.declared.key.Space.{Space}
use Rattle.rss_base.specs.declared.key.Space.TheVariants.{Overflow}
use Rattle.rss_base.specs.declared.relation.RelationEntry.{RelationEntry}
use Rattle.rss_base.specs.declared.value.FieldForm.{FieldForm}
use Rattle.rss_base.specs.declared.value.Value.{Value}
use Rattle.rss_base.specs.declared.change.Change as told
use Rattle.rss_base.specs.declared.change.Change.TheVariants.{Insert, Delete, Update, Connect, Disconnect}
use Rattle.rss_tuple.specs.Directory.{Bodies, bodies_of}
use Rattle.rss_entries.specs.Images.{TupleMove, CanMove, with_tuple, after_move}
use Rattle.rss_model.specs.Items.{Content, Values}
use Rattle.rss_model.specs.Tables.{Contents, Tables, content, put, segment_of, tuple_count, is_tuple_of}
use Rattle.rss_model.specs.Changes.{Change}
use Rattle.rss_model.specs.Meter.{MayLead, body_size, held_size, bytes_on, is_beyond, overfills, touched}
use Rattle.rss_stored.specs.Store.{SpellsTables, SpellsContents, AreCounts, IsStorePage, prefix_of}
use Rattle.rss_model.proofs.Codes.{name_total, name_apart}
use Rattle.rss_model.proofs.Contents.{content_here, tied, not_tied}
use Rattle.rss_model.proofs.Counts.{one_if, counts_same, counts_put}
use Rattle.rss_stored.proofs.Listed.{listed, stands_within}
use Rattle.rss_stored.proofs.Prefixes.{size_is}
use Rattle.rss_access.specs.Told.{IsTupleRecord, number_told, tid_told, values_before, values_after, body_before, body_after, count_after, reversed, turned}
use Rattle.rss_access.specs.Changes.{AccessView, HasRoomFor, CanApply, Applies, Undoes, NoneUndoes, AltersTuple, Alters, Makes, Misfits, pages_of_relation, pages_told, applied, CanAlter, HasTables}
use Rattle.rss_access.specs.Tuples.{body_at, size_of_body, SetsBody}
use Rattle.rss_access.specs.Written.{content_of}
use Rattle.rss_access.proofs.Counting.{overflows_one}
use Rattle.rss_access.proofs.Numbered.{names_apart, counted_or_old}
use Rattle.rss_access.proofs.Recounting.{Recounts, recounts_itself, contents_changed}
use Rattle.rss_access.proofs.Rerooting.{recounts_by, defines_still}
use Rattle.rss_access.proofs.ChainTables.{chain_applies, chain_applies_off, chain_leads}
use Rattle.rss_access.proofs.Prefixed.{members_by, spelled_with, bodies_told, prefix_told}
use Rattle.rss_access.proofs.Telling.{some_body, no_body, count_of_some, count_of_none, Reads, reads, shows_move, can_turned, none_applies, reversed_room, can_become}
use Rattle.rss_access.proofs.TupleChanges.{range-le}
use Rattle.rss_access.proofs.Weighing.{bytes_less}
use Rattle.rss_access.proofs.Bodied.{body_is}
use Rattle.rss_base.specs.Sizes.{bodies_room}

-- ---- how many tuples there are

-- by what the tuple was and becomes
count_by_values : (fields : List FieldForm) (told_change : told.Change) (was next : Option (List Value)) (before live after : ℕ) → values_before told_change ≡ option_map (tuple_bytes fields) was → values_after told_change ≡ option_map (tuple_bytes fields) next → after + one_if (is_some (option_map Values was)) ≡ before + one_if (is_some (option_map Values next)) → before ≡ live → after ≡ count_after told_change live
count_by_values fields (Insert relation tid values) was next before live after old new both same = omega (arith, both, same, count_of_none was (no_body _ was old), count_of_some next (some_body _ next new))
count_by_values fields (Delete relation tid values) was next before live after old new both same = omega (arith, both, same, count_of_some was (some_body _ was old), count_of_none next (no_body _ next new))
count_by_values fields (Update relation tid from to) was next before live after old new both same = omega (arith, both, same, count_of_some was (some_body _ was old), count_of_some next (some_body _ next new))
count_by_values fields (Connect link parent child left) was next before live after old new both same = omega (arith, both, same, count_of_none was (no_body _ was old), count_of_none next (no_body _ next new))
count_by_values fields (Disconnect link parent child left) was next before live after old new both same = omega (arith, both, same, count_of_none was (no_body _ was old), count_of_none next (no_body _ next new))

-- ---- the pages of the relation

-- those that the change may touch
same_pages : (listing : Listing) (told_change : told.Change) → IsTupleRecord told_change → pages_told listing told_change ≡ pages_of_relation listing (relation_at listing (number_told told_change))
same_pages listing (Insert relation tid values) is = refl
same_pages listing (Delete relation tid values) is = refl
same_pages listing (Update relation tid from to) is = refl
same_pages listing (Connect link parent child left) is = absurd is
same_pages listing (Disconnect link parent child left) is = absurd is

told_pages : (listing : Listing) (told_change : told.Change) → IsTupleRecord told_change → {relation : RelationEntry} → relation_at listing (number_told told_change) ≡ Some relation → (key : PageKey) → pages_told listing told_change key → (key.segment ≡ relation.segment) × content_of listing key
told_pages listing told_change of at key is =
    subst (λ (found : Option RelationEntry). pages_of_relation listing found key) at (subst (λ (pages : Keys). pages key) (same_pages listing told_change of) is)

pub pages_are_told : (listing : Listing) (told_change : told.Change) → IsTupleRecord told_change → {relation : RelationEntry} → relation_at listing (number_told told_change) ≡ Some relation → (key : PageKey) → key.segment ≡ relation.segment → content_of listing key → pages_told listing told_change key
pages_are_told listing told_change of at key segment content =
    subst (λ (pages : Keys). pages key) (sym (same_pages listing told_change of)) (subst (λ (found : Option RelationEntry). pages_of_relation listing found key) (sym at) (segment, content))

-- ---- the tables

-- where no page of a space was taken, no more are mapped
over_less : (old new : Mapped) (space : Space) (limit : ℕ) → ((key : PageKey) → key.space ≡ space → new key ≡ true → old key ≡ true) → mapped_of new space limit ≤ mapped_of old space limit
over_less old new space limit same = range-le (mapped_in new space limit) (mapped_in old space limit) 1 8 (λ segment. range-le (λ n. one_if (new (page_key segment space n))) (λ n. one_if (old (page_key segment space n))) 0 limit (λ n. one_less _ _ (same (page_key segment space n) refl)))
  where
    one_less : (a b : Bool) → (a ≡ true → b ≡ true) → one_if a ≤ one_if b
    one_less true b is = omega (arith, ap one_if (is refl))
    one_less false b is = omega arith

module _ {cost : ℕ} {old new : AccessView} {told_change : told.Change} (is : IsTupleRecord told_change) (step : PagesStep (pages_told old.catalog.listing told_change) cost cost old.pages new.pages) (alters : AltersTuple told_change old new) (told : IsTold old.pages.disk) {tables : Tables} (spells : SpellsTables old.pages.held old.catalog.listing tables) (mine : prefix_of old.catalog.listing tables.contents (number_told told_change) (tid_told told_change) ≡ alters.prefix) (was next : Option (List Value)) where
  abbrev number : ℕ
  number = number_told told_change

  abbrev tid : Tid
  tid = tid_told told_change

  abbrev relation : RelationEntry
  relation = alters.relation

  abbrev item : Item
  item = TupleItem relation.name tid

  abbrev fields : List FieldForm
  fields = kinds relation.fields

  -- the change as one of a tuple of the tables
  abbrev pub move : TupleMove
  move = record { number = number; relation = relation; tid = tid; was = was; next = next }

  abbrev next_tables : Tables
  next_tables = after_move move tables

  module _ (before : values_before told_change ≡ option_map (tuple_bytes fields) was) (after : values_after told_change ≡ option_map (tuple_bytes fields) next) (can : CanMove old.catalog.listing move tables) where
    body_was : body_before alters.prefix told_change ≡ option_map (spelled_with fields number alters.prefix) was
    body_was = bodies_told fields number alters.prefix (values_before told_change) was before

    body_now : body_after alters.prefix told_change ≡ option_map (spelled_with fields number alters.prefix) next
    body_now = bodies_told fields number alters.prefix (values_after told_change) next after

    sets : SetsBody relation.segment tid (option_map (spelled_with fields number alters.prefix) next) old.pages new.pages
    sets = subst (λ (body : Option (List ℕ)). SetsBody relation.segment tid body old.pages new.pages) body_now (alters.changes.sets told)

    absent : was ≡ None → body_at old.pages relation.segment tid ≡ None
    absent none = alters.found told ∙ body_was ∙ ap (option_map (spelled_with fields number alters.prefix)) none

    -- a page of another segment is as it was
    held_off : (key : PageKey) → key.segment ≢ relation.segment → new.pages.held key ≡ old.pages.held key
    held_off key off = step.held_off told key (λ touched. off (told_pages old.catalog.listing told_change is alters.listed key touched).0)

    recounts : Recounts number relation old.catalog.listing new.catalog.listing
    recounts = recounts_by alters.counts alters.listed

    -- the bodies are those of the tuples after the change
    contents_by : {listing : Listing} → Recounts number relation old.catalog.listing listing → SpellsContents listing (bodies_of new.pages.held) next_tables.contents
    contents_by {listing = listing} recounted =
        subst (λ (bodies : Bodies). SpellsContents listing bodies next_tables.contents) (sym sets.bodies)
        (contents_changed spells.listed.relations_once alters.listed recounted spells.contents tid alters.prefix mine was next can.holds absent can.next_storable)

    -- so many tuples are there afterwards
    pub count_is : tuple_count next_tables.contents relation.name ≡ count_after told_change relation.live
    count_is =
        let mine : is_tuple_of relation.name item ≡ true = tied name_total name_apart relation.name in
        let both = counts_put tables.contents item (option_map Values next) relation.name mine in
        let was_there : one_if (is_some (content tables.contents item)) ≡ one_if (is_some (option_map Values was)) = ap (λ (o : Option Content). one_if (is_some o)) can.holds in
        count_by_values fields told_change was next (tuple_count tables.contents relation.name) relation.live (tuple_count next_tables.contents relation.name) before after (omega (arith, both, was_there)) (spells.counts number relation alters.listed)

    pub others_same : (other : Name) → other ≢ relation.name → tuple_count next_tables.contents other ≡ tuple_count tables.contents other
    others_same other apart = counts_same tables.contents item (option_map Values next) other (not_tied name_total name_apart other relation.name apart)

    counts_are : AreCounts new.catalog.listing next_tables.contents
    counts_are k entry there = elim (counted_or_old old.catalog.listing number (count_after told_change relation.live) relation alters.listed k entry (ap (λ (l : List (Option RelationEntry)). numbered l k) (sym alters.counts.relations) ∙ there)) [
      | inl here ↦ ap (λ (e : RelationEntry). tuple_count next_tables.contents e.name) (sym here.1) ∙ count_is ∙ ap (λ (e : RelationEntry). e.live) here.1
      | inr kept ↦ others_same entry.name (names_apart spells.listed k number entry relation kept.1 alters.listed kept.0) ∙ spells.counts k entry kept.1
    ]

    segment_still : (segment : ℕ) → segment_at new.catalog.listing segment ≡ segment_at old.catalog.listing segment
    segment_still segment = ap (λ (names : List (Option Name)). numbered names segment) alters.counts.segments

    still_listed : (key : PageKey) → IsStorePage old.catalog.listing key → IsStorePage new.catalog.listing key
    still_listed key (inl system) = inl system
    still_listed key (inr segment) = inr (ap is_some (segment_still key.segment) ∙ segment)

    -- the pages spell the tables with the change
    pub altered_spells : SpellsTables new.pages.held new.catalog.listing next_tables
    altered_spells = record {
      only = λ key there. elim (cases_eq key.segment relation.segment) [
        | inl own ↦ inr (ap is_some (segment_still key.segment ∙ ap (segment_at old.catalog.listing) own) ∙ (spells.listed.relations number relation alters.listed).segment)
        | inr off ↦ still_listed key (spells.only key (ap is_some (sym (held_off key off)) ∙ there))
      ];
      formed = λ key bytes heap there.
          let formed = sets.heaps.formed key bytes heap there in
          record { formed = formed.formed; some = formed.some; short = formed.short; noted = tt };
      linked = sets.heaps.linked;
      listed = alters.counts.fits spells.listed;
      defines = defines_still alters.counts alters.listed spells.defines;
      counts = counts_are;
      contents = contents_by recounts;
      images = alters.images told move tables (record {
        tells = record { number = refl; tid = refl; before = before; after = after };
        can = can;
        images = spells.images;
        room = omega (arith, alters.room);
      });
    }

    -- there may be as many overflow pages then
    pub may_lead : new.pages.slots ≡ old.pages.slots → MayLead tables next_tables item (mapped_of old.pages.mapped Overflow old.pages.slots) (mapped_of new.pages.mapped Overflow new.pages.slots)
    may_lead slots = elim (cases_Bool (overfills tables next_tables (relation.name, tid))) [
      | inl on ↦ omega (arith, overflows_one old.pages.mapped new.pages.mapped alters.changes.one new.pages.slots, same_slots, counted on)
      | inr off ↦
          let less : mapped_of new.pages.mapped Overflow new.pages.slots ≤ mapped_of old.pages.mapped Overflow new.pages.slots = over_less old.pages.mapped new.pages.mapped Overflow new.pages.slots (λ key space there. true_from_ne_false (old.pages.mapped key) (λ none. true≢false (sym (taken key space there none) ∙ off))) in
          omega (arith, less, same_slots)
    ]
      where
        counted : overfills tables next_tables (relation.name, tid) ≡ true → count_by (overfills tables next_tables) (touched tables next_tables item) ≡ 1
        counted on = sum_by-cons (λ (t : Name × Tid). one_if (overfills tables next_tables t)) (relation.name, tid) [] ∙ ap (λ (b : Bool). one_if b + 0) on

        same_slots : mapped_of old.pages.mapped Overflow new.pages.slots ≡ mapped_of old.pages.mapped Overflow old.pages.slots
        same_slots = ap (mapped_of old.pages.mapped Overflow) slots

        size_of : (w : Option (List Value)) → size_of_body (option_map (spelled_with fields number alters.prefix) w) ≡ unwrap_or (option_map (body_size tables.definitions relation.name) (option_map Values w)) 0
        size_of None = refl
        size_of (Some values) =
            ap (λ (prefix : List ℕ). size_of_body (Some (spelled_with fields number prefix values))) (sym mine)
            ∙ ap (λ (body : List ℕ). length body) (sym (body_is old.catalog.listing tables.contents number relation alters.listed tid values))
            ∙ sym (size_is spells.listed spells.defines number relation alters.listed tables.contents tid values)

        -- what the tuple held, by its body
        size_was : size_of_body (body_at old.pages relation.segment tid) ≡ held_size tables relation.name tid
        size_was = ap size_of_body (alters.found told ∙ body_was) ∙ size_of was ∙ ap (λ (held : Option Content). unwrap_or (option_map (body_size tables.definitions relation.name) held) 0) (sym can.holds)

        -- and what it holds
        size_now : size_of_body (option_map (spelled_with fields number alters.prefix) next) ≡ held_size next_tables relation.name tid
        size_now = size_of next ∙ ap (λ (held : Option Content). unwrap_or (option_map (body_size tables.definitions relation.name) held) 0) (sym (content_here tables.contents item (option_map Values next)))

        -- an overflow page was taken
        taken : (key : PageKey) → key.space ≡ Overflow → new.pages.mapped key ≡ true → old.pages.mapped key ≡ false → overfills tables next_tables (relation.name, tid) ≡ true
        taken key space there none =
            let so = listed spells.listed spells.defines number relation alters.listed in
            let stands = stands_within next_tables spells.listed spells.defines number relation alters.listed so.0 so.1.within in
            let beyond : bodies_room < bytes_on next_tables so.0 tid.page = omega (arith, sets.over key space there none, bytes_less next_tables spells.listed spells.defines (contents_by (recounts_itself alters.listed)) relation.segment so.0 so.1.within tid.page) in
            and_from (nat_lt (held_size tables relation.name tid) (held_size next_tables relation.name tid)) (is_beyond next_tables (segment_of next_tables relation.name) tid.page)
            (lt-ltb _ _ (omega (arith, sets.grows key space there none, size_was, size_now)))
            (ap (λ (segment : Option Name). is_beyond next_tables segment tid.page) stands ∙ lt-ltb _ _ beyond)

-- ---- from all tables in which it may be applied

module _ {cost : ℕ} {old new : AccessView} {told_change : told.Change} (is : IsTupleRecord told_change) (step : PagesStep (pages_told old.catalog.listing told_change) cost cost old.pages new.pages) (alters : AltersTuple told_change old new) (told : IsTold old.pages.disk) (tables : Tables) (change : Change) (can : CanApply old told_change tables change) where
  r : Reads old.catalog.listing told_change change
  r = reads told_change change is can.tells can.means

  one : r.relation ≡ alters.relation
  one = same_Some _ _ (sym r.at ∙ alters.listed)

  moves : CanMove old.catalog.listing (record { number = number_told told_change; relation = alters.relation; tid = tid_told told_change; was = r.was; next = r.next }) tables
  moves = subst (λ (entry : RelationEntry). CanMove old.catalog.listing (record { number = number_told told_change; relation = entry; tid = tid_told told_change; was = r.was; next = r.next }) tables) one (shows_move can r alters.small (can_become told_change can r).named alters.room).can

  -- what the change tells, by the fields of the relation that is listed
  told_before : values_before told_change ≡ option_map (tuple_bytes (kinds alters.relation.fields)) r.was
  told_before = r.before ∙ ap (λ (entry : RelationEntry). option_map (tuple_bytes (kinds entry.fields)) r.was) one

  told_after : values_after told_change ≡ option_map (tuple_bytes (kinds alters.relation.fields)) r.next
  told_after = r.after ∙ ap (λ (entry : RelationEntry). option_map (tuple_bytes (kinds entry.fields)) r.next) one

  -- what stands before the values is what the tables say
  mine : prefix_of old.catalog.listing tables.contents (number_told told_change) (tid_told told_change) ≡ alters.prefix
  mine = prefix_told (members_by alters.small can.spells can.fit.tuples can.fit.links can.fit.tids) told_change alters.relation alters.listed r.was moves.holds told_before alters.fitting (alters.found told)

  item_is : TupleItem alters.relation.name (tid_told told_change) ≡ change.item
  item_is = ap (λ (entry : RelationEntry). TupleItem entry.name (tid_told told_change)) (sym one) ∙ sym r.item

  -- the tables with the tuple that the change leaves
  applied_tuple : with_tuple tables alters.relation.name (tid_told told_change) r.next ≡ applied tables change
  applied_tuple = ap (λ (c : Contents). record { definitions = tables.definitions; contents = c }) same_contents
    where
      same_contents : put tables.contents (TupleItem alters.relation.name (tid_told told_change)) (option_map Values r.next) ≡ put tables.contents change.item change.new
      same_contents = ap (λ (item : Item). put tables.contents item (option_map Values r.next)) item_is ∙ ap (put tables.contents change.item) (sym r.new)

  -- the pages spell the tables with the change applied
  pub tuple_applies : SpellsTables new.pages.held new.catalog.listing (applied tables change)
  tuple_applies = subst (λ (t : Tables). SpellsTables new.pages.held new.catalog.listing t) applied_tuple (altered_spells is step alters told can.spells mine r.was r.next told_before told_after moves)

  abbrev before : ℕ
  before = mapped_of old.pages.mapped Overflow old.pages.slots

  abbrev after : ℕ
  after = mapped_of new.pages.mapped Overflow new.pages.slots

  abbrev left_tables : Tables
  left_tables = with_tuple tables alters.relation.name (tid_told told_change) r.next

  -- there may be as many overflow pages then
  pub tuple_leads : MayLead tables (applied tables change) change.item before after
  tuple_leads =
      subst (λ (t : Tables). MayLead tables t change.item before after) applied_tuple
      (subst (λ (item : Item). MayLead tables left_tables item before after) item_is
      (may_lead is step alters told can.spells mine r.was r.next told_before told_after moves step.passes.slots))

-- ---- by the kinds of changes

-- the pages spell the tables with the change applied
pub alters_tables : {cost : ℕ} (old new : AccessView) (told_change : told.Change) → PagesStep (pages_told old.catalog.listing told_change) cost cost old.pages new.pages → Alters told_change old new → IsTold old.pages.disk → (tables : Tables) (change : Change) → CanApply old told_change tables change
    → SpellsTables new.pages.held new.catalog.listing (applied tables change)
alters_tables old new (Insert n t values) = tuple_applies tt
alters_tables old new (Delete n t values) = tuple_applies tt
alters_tables old new (Update n t from to) = tuple_applies tt
alters_tables old new (Connect link parent child left) = chain_applies
alters_tables old new (Disconnect link parent child left) = chain_applies_off

-- there may be as many overflow pages then
pub alters_leads : {cost : ℕ} (old new : AccessView) (told_change : told.Change) → PagesStep (pages_told old.catalog.listing told_change) cost cost old.pages new.pages → Alters told_change old new → IsTold old.pages.disk → (tables : Tables) (change : Change) → CanApply old told_change tables change
    → MayLead tables (applied tables change) change.item (mapped_of old.pages.mapped Overflow old.pages.slots) (mapped_of new.pages.mapped Overflow new.pages.slots)
alters_leads old new (Insert n t values) = tuple_leads tt
alters_leads old new (Delete n t values) = tuple_leads tt
alters_leads old new (Update n t from to) = tuple_leads tt
alters_leads old new (Connect link parent child left) = λ step alters told tables change can. chain_leads step alters told tables (applied tables change) change.item
alters_leads old new (Disconnect link parent child left) = λ step alters told tables change can. chain_leads step alters told tables (applied tables change) change.item

-- ---- by the result

module _ {T : Type 0} {old new : AccessView} (told_change : told.Change) (result : Result T PageFault) where
  pub applies_by : Makes told_change old new result → OnOk result (Applies told_change old new)
  applies_by makes = by result makes.alters
    where
      by : (r : Result T PageFault) → OnOk r (Alters told_change old new) → OnOk r (Applies told_change old new)
      by (Ok value) done = alters_tables old new told_change makes.step done
      by (Err e) done = tt

  pub undoes_by : Makes (reversed told_change) old new result → OnOk result (Undoes told_change old new)
  undoes_by makes = by result makes.alters
    where
      by : (r : Result T PageFault) → OnOk r (Alters (reversed told_change) old new) → OnOk r (Undoes told_change old new)
      by (Ok value) done = λ told tables change can. alters_tables old new (reversed told_change) makes.step done told tables (turned change) (can_turned can)
      by (Err e) done = tt

-- of a change that is turned round
pub none_undoes : {at : AccessView} {told_change : told.Change} {place : Place} → CanAlter at → IsTold at.pages.disk → (HasTables at → Misfits (reversed told_change) at place) → HasRoomFor at told_change → NoneUndoes told_change at
none_undoes {at = at} {told_change = told_change} may disk misfits room tables change can =
    none_applies may disk misfits (reversed_room at told_change room) tables (turned change) (can_turned can)
