-- What the record of a change of a tuple means, and its reverse.
use Rattle.std.proofs.Common.{◌≡◌, ◌≢◌, ◌⊎◌, inl, inr, ℕ, ◌+◌, ◌^◌, ◌≤◌, true, false, ◌&&◌, List, refl, sym, ◌∙◌, ap, subst, arith, ◌<◌}
use Rattle.std.specs.Prelude.{Option, Some, None, is_some, option_map, unwrap_or, All, IfSome}
use Rattle.std.proofs.lemmas.Bool.{true≢false}
use Rattle.std.proofs.lemmas.Option.{none-some, same_Some}
use Rattle.rss_base.specs.DiskRule.{IsTold}
use Rattle.rss_base.specs.TupleTypes.{kinds, misfit, tuple_bytes, IsStorable, SpellsSome}
use Rattle.rss_base.specs.Listings.{Listing, segment_at, relation_at}
use Rattle.rss_base.specs.declared.name.Name.{Name}
use Rattle.rss_base.specs.declared.tid.Tid.{Tid}
use Rattle.rss_base.specs.declared.value.Value.{Value}
use Rattle.rss_base.specs.declared.item.Item.{Item}
use Rattle.rss_base.specs.declared.item.Item.TheVariants.{Tuple as TupleItem}
use Rattle.rss_base.specs.declared.place.Place.{Place}
use Rattle.rss_base.specs.declared.refusal.Kind.TheVariants.{Relation as RelationKind}
use Rattle.rss_base.specs.declared.relation.RelationEntry.{RelationEntry}
use Rattle.rss_base.specs.declared.change.Change as told
use Rattle.rss_base.specs.declared.change.Change.TheVariants.{Insert, Delete, Update, Connect, Disconnect}
use Rattle.rss_model.specs.Items.{Content, Values}
use Rattle.rss_model.specs.Tables.{Contents, Tables, content, put, tuple_count, is_tuple_of}
use Rattle.rss_model.specs.Changes.{Change}
use Rattle.rss_model.specs.Fits.{IsLive, IsIdentifier, Fits}
use Rattle.rss_model.specs.Meanings.{IsChangeTold, Means, TellsValues, name_at, nameless, item_told}
use Rattle.rss_stored.specs.Store.{SpellsTables, prefix_of}
use Rattle.rss_stored.proofs.Blocks.{prefix_long}
use Rattle.rss_stored.proofs.Prefixes.{HaveSameChains, chains_kept, prefix_same}
use Rattle.rss_model.proofs.Codes.{name_total, name_apart}
use Rattle.rss_model.proofs.Contents.{tied, content_here, content_elsewhere}
use Rattle.rss_model.proofs.Counts.{one_if, counts_put}
use Rattle.rss_stored.proofs.Listed.{listed, stands_within}
use Rattle.rss_model.proofs.Putting.{same_parts}
use Rattle.rss_stored.proofs.Relisted.{number_of}
use Rattle.rss_members.specs.declared.membership.Membership.{Membership}
use Rattle.rss_members.specs.Calls.{NoneConnects, NoneDisconnects}
use Rattle.rss_access.specs.Told.{IsTupleRecord, number_told, tid_told, values_before, values_after, body_before, IsPrefix, reversed, turned, ReverseMeans, AreValuesOf, MayBecome, MayCount}
use Rattle.rss_access.specs.Changes.{AccessView, members, HasRoom, HasRoomFor, CanApply, CanUndo, ShowsMove, Misfits, applied, HasTables, CanAlter}
use Rattle.rss_access.specs.Changes.Misfits.{tuple as tuple_misfits, room as room_misfits, count as count_misfits, unlisted, chain_room, connect as connect_misfits, disconnect as disconnect_misfits}
use Rattle.rss_access.specs.Tuples.{body_at}
use Rattle.rss_access.proofs.ChainTables.{chain_none, chain_none_off}
use Rattle.rss_access.proofs.Prefixed.{spelled_with, bodies_told, blank_gone, prefix_few}
use Rattle.rss_access.proofs.Spelling.{all_storable}
use Rattle.rss_access.proofs.Within.{nodes_within}
use Rattle.rss_access.proofs.Bodied.{body_is}

-- ---- the change that is told

-- The change is one of a tuple of this relation: what it held, and what it holds afterwards, with the bytes of these.
pub record Reads (listing : Listing) (told_change : told.Change) (change : Change) : Type 0 where
  pub relation : RelationEntry
  pub was : Option (List Value)
  pub next : Option (List Value)
  pub at : relation_at listing (number_told told_change) ≡ Some relation
  pub item : change.item ≡ TupleItem relation.name (tid_told told_change)
  pub old : change.old ≡ option_map Values was
  pub new : change.new ≡ option_map Values next
  pub before : values_before told_change ≡ option_map (tuple_bytes (kinds relation.fields)) was
  pub after : values_after told_change ≡ option_map (tuple_bytes (kinds relation.fields)) next
  pub fit : IfSome next (λ values. misfit (kinds relation.fields) values ≡ None)
  pub storable : IfSome next (All IsStorable)
  pub some : was ≡ None → next ≡ None → ⊥

-- the relation of a number has its name
named : (listing : Listing) (number : ℕ) (relation : RelationEntry) → relation_at listing number ≡ Some relation → name_at RelationKind listing number ≡ relation.name
named listing number relation at = ap (λ (name : Option Name). unwrap_or name (nameless number)) (number_of listing number relation at)

item_of : (listing : Listing) (number : ℕ) (tid : Tid) (relation : RelationEntry) {item : Item} → relation_at listing number ≡ Some relation → item ≡ TupleItem (name_at RelationKind listing number) tid → item ≡ TupleItem relation.name tid
item_of listing number tid relation at is = is ∙ ap (λ (name : Name). TupleItem name tid) (named listing number relation at)

bytes_are : {listing : Listing} {number : ℕ} {bytes : List ℕ} {held : Option Content} (tells : TellsValues listing number bytes held) (relation : RelationEntry) → relation_at listing number ≡ Some relation → Some bytes ≡ Some (tuple_bytes (kinds relation.fields) tells.values)
bytes_are tells relation at = ap Some (tells.spells.same ∙ ap (λ (entry : RelationEntry). tuple_bytes (kinds entry.fields) tells.values) (same_Some _ _ (sym tells.at ∙ at)))

-- the values fit the fields of the relation with this number
fit_of : {listing : Listing} {number : ℕ} {bytes : List ℕ} {held : Option Content} (tells : TellsValues listing number bytes held) (relation : RelationEntry) → relation_at listing number ≡ Some relation → misfit (kinds relation.fields) tells.values ≡ None
fit_of tells relation at = subst (λ (entry : RelationEntry). misfit (kinds entry.fields) tells.values ≡ None) (same_Some _ _ (sym tells.at ∙ at)) tells.spells.fit

pub reads : {listing : Listing} (told_change : told.Change) (change : Change) → IsTupleRecord told_change → IsChangeTold listing change.by told_change change → Means listing told_change change → Reads listing told_change change
reads {listing = listing} (Insert number tid values) change is tells means =
    let next = means.1 in
    record { relation = next.relation; was = None; next = Some next.values; at = next.at; item = item_of listing number tid next.relation next.at tells.item; old = means.0; new = next.is; before = refl; after = bytes_are next next.relation next.at; fit = next.spells.fit; storable = next.spells.storable; some = λ none never. absurd (cc) }
reads {listing = listing} (Delete number tid values) change is tells means =
    let was = means.0 in
    record { relation = was.relation; was = Some was.values; next = None; at = was.at; item = item_of listing number tid was.relation was.at tells.item; old = was.is; new = means.1; before = bytes_are was was.relation was.at; after = refl; fit = tt; storable = tt; some = λ none never. absurd (cc) }
reads {listing = listing} (Update number tid from to) change is tells means =
    let was = means.0 in
    let next = means.1 in
    record { relation = was.relation; was = Some was.values; next = Some next.values; at = was.at; item = item_of listing number tid was.relation was.at tells.item; old = was.is; new = next.is; before = bytes_are was was.relation was.at; after = bytes_are next was.relation was.at; fit = fit_of next was.relation was.at; storable = next.spells.storable; some = λ none never. absurd (cc) }
reads (Connect link parent child left) change is tells means = absurd is
reads (Disconnect link parent child left) change is tells means = absurd is

-- its bytes are such as spell a tuple of the relation
spelled_by : {listing : Listing} {number : ℕ} {bytes : List ℕ} {held : Option Content} (tells : TellsValues listing number bytes held) (relation : RelationEntry) → relation_at listing number ≡ Some relation → SpellsSome (kinds relation.fields) bytes
spelled_by {bytes = bytes} tells relation at = subst (λ (entry : RelationEntry). SpellsSome (kinds entry.fields) bytes) (same_Some _ _ (sym tells.at ∙ at)) (tells.values, tells.spells)

-- ---- its reverse

pub reverse_means : (told_change : told.Change) → ReverseMeans told_change (reversed told_change)
reverse_means (Insert number tid values) listing change means = (means.1, means.0)
reverse_means (Delete number tid values) listing change means = (means.1, means.0)
reverse_means (Update number tid from to) listing change means = (means.1, means.0)
reverse_means (Connect link parent child left) listing change means = means
reverse_means (Disconnect link parent child left) listing change means = means

item_same : (listing : Listing) (told_change : told.Change) → item_told listing (reversed told_change) ≡ item_told listing told_change
item_same listing (Insert number tid values) = refl
item_same listing (Delete number tid values) = refl
item_same listing (Update number tid from to) = refl
item_same listing (Connect link parent child left) = refl
item_same listing (Disconnect link parent child left) = refl

pub same_number : (told_change : told.Change) → number_told (reversed told_change) ≡ number_told told_change
same_number (Insert number tid values) = refl
same_number (Delete number tid values) = refl
same_number (Update number tid from to) = refl
same_number (Connect link parent child left) = refl
same_number (Disconnect link parent child left) = refl

-- what can be undone, can be applied turned round
pub can_turned : {at : AccessView} {told_change : told.Change} {tables : Tables} {change : Change} → CanUndo at told_change tables change → CanApply at (reversed told_change) tables (turned change)
can_turned {at = at} {told_change = told_change} {change = change} can = record {
  spells = can.spells;
  tells = record { maker = refl; item = can.tells.item ∙ sym (item_same at.catalog.listing told_change) };
  means = reverse_means told_change at.catalog.listing change can.means;
  holds = can.holds;
  fit = can.fit;
  fit_next = can.fit_next;
}

-- there is room for it turned round where there is for it
pub reversed_room : (at : AccessView) (told_change : told.Change) → HasRoomFor at told_change → HasRoomFor at (reversed told_change)
reversed_room at (Insert number tid values) room = room
reversed_room at (Delete number tid values) room = room
reversed_room at (Update number tid from to) room = room
reversed_room at (Connect link parent child left) room = room
reversed_room at (Disconnect link parent child left) room = room

room_told : (at : AccessView) (told_change : told.Change) → IsTupleRecord told_change → HasRoomFor at told_change → HasRoom at (number_told told_change)
room_told at (Insert number tid values) is room = room
room_told at (Delete number tid values) is room = room
room_told at (Update number tid from to) is room = room
room_told at (Connect link parent child left) is room = absurd is
room_told at (Disconnect link parent child left) is room = absurd is

-- ---- where it can be applied

-- the tuple is one of its relation
of_its_own : (relation : Name) (tid : Tid) → is_tuple_of relation (TupleItem relation tid) ≡ true
of_its_own relation tid = tied name_total name_apart relation

module _ {at : AccessView} {told_change : told.Change} {tables : Tables} {change : Change} (can : CanApply at told_change tables change) (r : Reads at.catalog.listing told_change change) where
  abbrev item : Item
  item = TupleItem r.relation.name (tid_told told_change)

  abbrev next_contents : Contents
  next_contents = put tables.contents change.item change.new

  pub holds_old : content tables.contents item ≡ option_map Values r.was
  holds_old = ap (content tables.contents) (sym r.item) ∙ can.holds ∙ r.old

  holds_new : content next_contents item ≡ option_map Values r.next
  holds_new = ap (content next_contents) (sym r.item) ∙ content_here tables.contents change.item change.new ∙ r.new

  -- a tuple stands there afterwards, where none did before
  live_new : r.was ≡ None → IsLive (applied tables change) r.relation.name (tid_told told_change)
  live_new none = by r.next refl
    where
      by : (next : Option (List Value)) → r.next ≡ next → IsLive (applied tables change) r.relation.name (tid_told told_change)
      by None is = absurd (r.some none is)
      by (Some values) is = ap is_some holds_new ∙ ap (λ (n : Option (List Value)). is_some (option_map Values n)) is

  -- no tuple of the segment has the identifier where the change finds none
  none_stands : r.was ≡ None → (found : Option (List ℕ)) → body_at at.pages r.relation.segment (tid_told told_change) ≡ found → found ≡ None
  none_stands none None is = refl
  none_stands none (Some body) is =
      let of = can.spells.contents.bodies_are r.relation.segment (tid_told told_change) body is in
      let so = listed can.spells.listed can.spells.defines (number_told told_change) r.relation r.at in
      let mine = stands_within tables can.spells.listed can.spells.defines (number_told told_change) r.relation r.at so.0 so.1.within in
      let its = stands_within tables can.spells.listed can.spells.defines of.number of.relation of.at so.0 (ap (segment_at at.catalog.listing) of.within ∙ so.1.within) in
      let other : of.relation.name ≢ r.relation.name = λ same. none_some (sym (ap (λ (name : Name). content tables.contents (TupleItem name (tid_told told_change))) same ∙ holds_old ∙ ap (option_map Values) none) ∙ of.holds) in
      let apart : TupleItem of.relation.name (tid_told told_change) ≢ change.item = λ same. other (same_parts of.relation.name r.relation.name (tid_told told_change) (tid_told told_change) (same ∙ r.item)).0 in
      let live : IsLive (applied tables change) of.relation.name (tid_told told_change) = ap is_some (content_elsewhere tables.contents change.item change.new (TupleItem of.relation.name (tid_told told_change)) apart ∙ of.holds) in
      absurd (other (sym (can.fit_next.alone r.relation.name of.relation.name (tid_told told_change) (live_new none) live (mine ∙ sym its))))
    where
      none_some : {c : Content} → None ≡ Some c → ⊥
      none_some is = absurd (cc)

  -- what stands between the number and the values
  abbrev prefix : List ℕ
  prefix = prefix_of at.catalog.listing tables.contents (number_told told_change) (tid_told told_change)

  -- the tuple is as the change finds it
  pub body_there : body_at at.pages r.relation.segment (tid_told told_change) ≡ body_before prefix told_change
  body_there = by r.was refl ∙ sym (bodies_told (kinds r.relation.fields) (number_told told_change) prefix (values_before told_change) r.was r.before)
    where
      by : (was : Option (List Value)) → r.was ≡ was → body_at at.pages r.relation.segment (tid_told told_change) ≡ option_map (spelled_with (kinds r.relation.fields) (number_told told_change) prefix) r.was
      by None is = none_stands is _ refl ∙ sym (ap (option_map (spelled_with (kinds r.relation.fields) (number_told told_change) prefix)) is)
      by (Some values) is = can.spells.contents.stands (number_told told_change) r.relation (tid_told told_change) values r.at (holds_old ∙ ap (option_map Values) is) ∙ ap Some (body_is at.catalog.listing tables.contents (number_told told_change) r.relation r.at (tid_told told_change) values) ∙ sym (ap (option_map (spelled_with (kinds r.relation.fields) (number_told told_change) prefix)) is)

  -- and these are the bytes between
  pub prefix_there : IsPrefix at.catalog.listing told_change prefix
  prefix_there = record {
    long = prefix_long at.catalog.listing tables.contents (number_told told_change) (tid_told told_change);
    blank = λ off. elim (one_none r.was r.next (values_before told_change) (values_after told_change) r.before r.after off) [
      | inl none ↦ blank_gone can.spells.listed can.spells.defines can.fit.links (number_told told_change) r.at (tid_told told_change) (ap is_some holds_old ∙ ap (λ (w : Option (List Value)). is_some (option_map Values w)) none)
      | inr none ↦
          let gone = blank_gone {contents = next_contents} can.spells.listed can.spells.defines can.fit_next.links (number_told told_change) r.at (tid_told told_change) (ap is_some holds_new ∙ ap (λ (w : Option (List Value)). is_some (option_map Values w)) none) in
          sym (prefix_same next_contents tables.contents same_chains at.catalog.listing (number_told told_change) (tid_told told_change)) ∙ gone
    ];
  }
    where
      same_chains : HaveSameChains next_contents tables.contents
      same_chains = subst (λ (item : Item). HaveSameChains (put tables.contents item change.new) tables.contents) (sym r.item) (chains_kept tables.contents r.relation.name (tid_told told_change) change.new)

      one_none : (was next : Option (List Value)) (old new : Option (List ℕ)) → old ≡ option_map (tuple_bytes (kinds r.relation.fields)) was → new ≡ option_map (tuple_bytes (kinds r.relation.fields)) next → (is_some old && is_some new) ≡ false → (was ≡ None) ⊎ (next ≡ None)
      one_none None next old new before after off = inl refl
      one_none (Some w) None old new before after off = inr refl
      one_none (Some w) (Some n) old new before after off = absurd (true≢false ((λ i. is_some (sym before i) && is_some (sym after i)) ∙ off))

  counted : tuple_count tables.contents r.relation.name ≡ r.relation.live
  counted = can.spells.counts (number_told told_change) r.relation r.at

  -- the tuples of the relation before and afterwards
  pub counts_both : tuple_count next_contents r.relation.name + one_if (is_some (option_map Values r.was)) ≡ r.relation.live + one_if (is_some (option_map Values r.next))
  counts_both =
      let mine : is_tuple_of r.relation.name change.item ≡ true = ap (is_tuple_of r.relation.name) r.item ∙ of_its_own r.relation.name (tid_told told_change) in
      let both = counts_put tables.contents change.item change.new r.relation.name mine in
      omega (arith, both, ap (λ (o : Option Content). one_if (is_some o)) (can.holds ∙ r.old), ap (λ (o : Option Content). one_if (is_some o)) r.new, counted)

  few : tuple_count next_contents r.relation.name ≤ 2 ^ 20
  few = can.fit_next.few r.relation.name

  -- a tuple stands there before it, where the change tells of one
  live_old : is_some r.was ≡ true → IsLive tables r.relation.name (tid_told told_change)
  live_old some = ap is_some holds_old ∙ by r.was some
    where
      by : (was : Option (List Value)) → is_some was ≡ true → is_some (option_map Values was) ≡ true
      by None is = absurd (cc)
      by (Some values) is = refl

  -- it is what it tells of in the image pages
  pub shows_move : at.pages.slots < 2 ^ 32 → IsIdentifier at.pages.slots (tid_told told_change) → HasRoom at (number_told told_change) → ShowsMove at told_change (record { number = number_told told_change; relation = r.relation; tid = tid_told told_change; was = r.was; next = r.next }) tables
  shows_move small named room = record {
    tells = record { number = refl; tid = refl; before = r.before; after = r.after };
    can = record {
      listed = r.at;
      fits = can.spells.listed;
      defines = can.spells.defines;
      counts = can.spells.counts;
      tuples = can.fit.tuples;
      storable = all_storable can.spells;
      tids = λ name t there. let id = can.fit.tids name t there in record { page = omega (arith, id.page, small); slot = omega (arith, id.slot) };
      holds = holds_old;
      tid = record { page = omega (arith, named.page, small); slot = omega (arith, named.slot) };
      fit = r.fit;
      next_storable = r.storable;
      few = λ number relation there. omega (arith, can.fit.few relation.name, can.spells.counts number relation there);
    };
    images = can.spells.images;
    room = omega (arith, room);
  }

-- ---- by the kinds of changes

pub some_body : {A B : Type 0} (f : A → B) (o : Option A) {b : B} → Some b ≡ option_map f o → is_some o ≡ true
some_body f None is = absurd (cc)
some_body f (Some a) is = refl

pub no_body : {A B : Type 0} (f : A → B) (o : Option A) → None ≡ option_map f o → o ≡ None
no_body f None is = refl
no_body f (Some a) is = absurd (cc)

pub count_of_some : (o : Option (List Value)) → is_some o ≡ true → one_if (is_some (option_map Values o)) ≡ 1
count_of_some None is = absurd (cc)
count_of_some (Some values) is = refl

pub count_of_none : (o : Option (List Value)) → o ≡ None → one_if (is_some (option_map Values o)) ≡ 0
count_of_none None is = refl
count_of_none (Some values) is = absurd (cc)

can_count : {at : AccessView} (told_change : told.Change) {tables : Tables} {change : Change} → (can : CanApply at told_change tables change) (r : Reads at.catalog.listing told_change change) → MayCount told_change r.relation.live
can_count (Insert number tid values) can r = omega (arith, counts_both can r, few can r, count_of_none r.was (no_body _ r.was r.before), count_of_some r.next (some_body _ r.next r.after))
can_count (Delete number tid values) can r = omega (arith, counts_both can r, count_of_some r.was (some_body _ r.was r.before), count_of_none r.next (no_body _ r.next r.after))
can_count (Update number tid from to) can r = tt
can_count (Connect link parent child left) can r = tt
can_count (Disconnect link parent child left) can r = tt

pub can_become : {at : AccessView} (told_change : told.Change) {tables : Tables} {change : Change} → (can : CanApply at told_change tables change) (r : Reads at.catalog.listing told_change change) → MayBecome at.pages.slots at.catalog.listing r.relation.fields told_change
can_become {at = at} told_change {tables = tables} {change = change} can r = record { named = named_by told_change can r; values = values_by told_change can.means r; short = prefix_few can.spells.listed (number_told told_change) }
  where
    named_by : (told_change : told.Change) (can : CanApply at told_change tables change) (r : Reads at.catalog.listing told_change change) → IsIdentifier at.pages.slots (tid_told told_change)
    named_by (Insert number tid values) can r = can.fit_next.tids r.relation.name tid (live_new can r (no_body _ r.was r.before))
    named_by (Delete number tid values) can r = can.fit.tids r.relation.name tid (live_old can r (some_body _ r.was r.before))
    named_by (Update number tid from to) can r = can.fit.tids r.relation.name tid (live_old can r (some_body _ r.was r.before))
    named_by (Connect link parent child left) can r = absurd (r.some (no_body _ r.was r.before) (no_body _ r.next r.after))
    named_by (Disconnect link parent child left) can r = absurd (r.some (no_body _ r.was r.before) (no_body _ r.next r.after))

    values_by : (told_change : told.Change) → Means at.catalog.listing told_change change → (r : Reads at.catalog.listing told_change change) → AreValuesOf r.relation.fields told_change
    values_by (Insert number tid values) means r = spelled_by means.1 r.relation r.at
    values_by (Delete number tid values) means r = spelled_by means.0 r.relation r.at
    values_by (Update number tid from to) means r = (spelled_by means.0 r.relation r.at, spelled_by means.1 r.relation r.at)
    values_by (Connect link parent child left) means r = tt
    values_by (Disconnect link parent child left) means r = tt

-- pages that may be changed and spell tables that fit
has_tables : {at : AccessView} {tables : Tables} → CanAlter at → IsTold at.pages.disk → SpellsTables at.pages.held at.catalog.listing tables → Fits at.pages.slots tables → HasTables at
has_tables {tables = tables} may told spells fit = record {
  tables = tables;
  spells = spells;
  tuples = fit.tuples;
  tids = fit.tids;
  few = fit.few;
  links = fit.links;
  nodes = nodes_within (may.tables told);
}

-- where it doesn't go with what is there, and there is room, there are no tables from which it can be applied
none_tuple : {at : AccessView} {told_change : told.Change} {place : Place} → IsTupleRecord told_change → Misfits told_change at place → HasRoom at (number_told told_change) → (tables : Tables) (change : Change) → CanApply at told_change tables change → ⊥
none_tuple {at = at} {told_change = told_change} is misfits room tables change can = by misfits
  where
    r : Reads at.catalog.listing told_change change
    r = reads told_change change is can.tells can.means

    same : {relation : RelationEntry} → relation_at at.catalog.listing (number_told told_change) ≡ Some relation → r.relation ≡ relation
    same there = same_Some _ _ (sym r.at ∙ there)

    by : {place : Place} → Misfits told_change at place → ⊥
    by (tuple_misfits of there not) =
        not (prefix can r) (prefix_there can r) (ap (λ (entry : RelationEntry). body_at at.pages entry.segment (tid_told told_change)) (sym (same there)) ∙ body_there can r)
        (subst (λ (entry : RelationEntry). MayBecome at.pages.slots at.catalog.listing entry.fields told_change) (same there) (can_become told_change can r))
    by (room_misfits of there not) = not room
    by (count_misfits of there fitting found not) = not (subst (λ (entry : RelationEntry). MayCount told_change entry.live) (same there) (can_count told_change can r))
    by (unlisted of none) = absurd (none-some _ (sym none ∙ r.at))
    by (chain_room of none) = of is
    by (connect_misfits of small not) = subst IsTupleRecord of is
    by (disconnect_misfits of small not) = subst IsTupleRecord of is

none_connect : {at : AccessView} {link : ℕ} {parent left : Option Tid} {child : Tid} {place : Place} → Misfits (Connect link parent child left) at place → HasRoom at 0 → (tables : Tables) (change : Change) → CanApply at (Connect link parent child left) tables change → ⊥
none_connect (tuple_misfits of there not) room tables change can = absurd of
none_connect (room_misfits of there not) room tables change can = absurd of
none_connect (count_misfits of there fitting found not) room tables change can = absurd of
none_connect (unlisted of none) room tables change can = absurd of
none_connect (chain_room of none) room tables change can = none room
none_connect {at = at} {link = link} {parent = parent} {left = left} {child = child} (connect_misfits is small not) room tables change can = chain_none small can (subst (NoneConnects (members at)) (same is) not)
  where
    same : {l : ℕ} {p f : Option Tid} {c : Tid} → Connect link parent child left ≡ Connect l p c f → ◌≡◌ {A = Membership} (record { link = l; parent = p; child = c; left = f }) (record { link = link; parent = parent; child = child; left = left })
    same is = cc
none_connect (disconnect_misfits is small not) room tables change can = absurd (cc)

none_disconnect : {at : AccessView} {link : ℕ} {parent left : Option Tid} {child : Tid} {place : Place} → Misfits (Disconnect link parent child left) at place → HasRoom at 0 → (tables : Tables) (change : Change) → CanApply at (Disconnect link parent child left) tables change → ⊥
none_disconnect (tuple_misfits of there not) room tables change can = absurd of
none_disconnect (room_misfits of there not) room tables change can = absurd of
none_disconnect (count_misfits of there fitting found not) room tables change can = absurd of
none_disconnect (unlisted of none) room tables change can = absurd of
none_disconnect (chain_room of none) room tables change can = none room
none_disconnect (connect_misfits is small not) room tables change can = absurd (cc)
none_disconnect {at = at} {link = link} {parent = parent} {left = left} {child = child} (disconnect_misfits is small not) room tables change can = chain_none_off small can (subst (NoneDisconnects (members at)) (same is) not)
  where
    same : {l : ℕ} {p f : Option Tid} {c : Tid} → Disconnect link parent child left ≡ Disconnect l p c f → ◌≡◌ {A = Membership} (record { link = l; parent = p; child = c; left = f }) (record { link = link; parent = parent; child = child; left = left })
    same is = cc

none_by : {at : AccessView} (told_change : told.Change) {place : Place} → Misfits told_change at place → HasRoomFor at told_change → (tables : Tables) (change : Change) → CanApply at told_change tables change → ⊥
none_by (Insert number tid values) misfits room = none_tuple tt misfits room
none_by (Delete number tid values) misfits room = none_tuple tt misfits room
none_by (Update number tid from to) misfits room = none_tuple tt misfits room
none_by (Connect link parent child left) misfits room = none_connect misfits room
none_by (Disconnect link parent child left) misfits room = none_disconnect misfits room

pub none_applies : {at : AccessView} {told_change : told.Change} {place : Place} → CanAlter at → IsTold at.pages.disk → (HasTables at → Misfits told_change at place) → HasRoomFor at told_change → (tables : Tables) (change : Change) → CanApply at told_change tables change → ⊥
none_applies {told_change = told_change} may disk misfits room tables change can = none_by told_change (misfits (has_tables may disk can.spells can.fit)) room tables change can
