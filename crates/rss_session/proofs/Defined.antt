-- What the calls that define are refused for in the states in which a session may be, and what they make of it.
use Rattle.std.proofs.Common.{◌≡◌, ◌≢◌, ℕ, ◌+◌, ◌<◌, ◌≤◌, true, false, cond, List, [], length, map, refl, sym, ◌∙◌, ap, subst, Bool, arith}
use Rattle.std.specs.Prelude.{nat_le, flat_map, slice_get, Option, Some, None, is_some, IfSome, IfNone, Ok, Err, Result, IsErrAnd, option_map, ◌||◌}
use Rattle.std.specs.Ordering.{nat_cmp}
use Rattle.std.specs.FinMap as finite
use Rattle.std.specs.FinMap.{FinMap, len-empty, empty_of_len}
use Rattle.std.proofs.lemmas.Bool.{true≢false, le-leb, lt-leb, or_from, ne_eqb}
use Rattle.rss_base.specs.Sizes.{page_bytes, relations_most, system_pages}
use Rattle.rss_base.specs.TupleTypes.{kinds, width, most_width, are_kinds, field_names}
use Rattle.rss_base.specs.Listings.{Listing, ListingFits, IsNumberOf, IsUnlisted, AreAllUsed, relation_at, image_at, roles_of, with_number, with_segment, with_relation, padded, segment_spelled, relation_spelled, relations_on, image_spelled, images_on, link_spelled, relation_pages, image_pages, catalog_page}
use Rattle.rss_base.specs.Steps.{PagesView}
use Rattle.rss_base.specs.declared.name.Name.{Name}
use Rattle.rss_base.specs.declared.field.FieldDef.{FieldDef}
use Rattle.rss_base.specs.declared.relation.RelationEntry.{RelationEntry}
use Rattle.rss_base.specs.declared.image.ImageEntry.{ImageEntry}
use Rattle.rss_base.specs.declared.call.Call.{Call}
use Rattle.rss_base.specs.declared.call.Call.TheVariants.{MakeSegment, MakeRelation, DropSegment, DropRelation}
use Rattle.rss_base.specs.declared.refusal.Kind.TheVariants.{Segment as SegmentKind, Relation as RelationKind}
use Rattle.rss_base.specs.declared.refusal.LimitKind.TheVariants.{Segments as SegmentLimit, Relations as RelationLimit}
use Rattle.rss_base.specs.declared.refusal.Refusal.{Refusal}
use Rattle.rss_base.specs.declared.refusal.Refusal.TheVariants.{NoSuch, NameTaken, Limit, NotEmpty, TransactionsOpen}
use Rattle.rss_catalog.specs.Catalogs.{HasRelationIn, HasImageOf, HasLinkOf, Lists, page_of}
use Rattle.rss_catalog.proofs.Numbered.{with_other}
use Rattle.rss_model.specs.Chains.{parts_of}
use Rattle.rss_model.specs.Tables.{tuple_count}
use Rattle.rss_model.specs.Changes.{Change, after}
use Rattle.rss_model.specs.Machine.{State, now}
use Rattle.rss_model.specs.Records.{changes_in}
use Rattle.rss_model.specs.Defining.{has_twice, is_relation, has_image, has_link, holds_tuples, if_any_open, least_open, originals}
use Rattle.rss_model.specs.Steps.{first_of, refusal}
use Rattle.rss_model.specs.ReplyText.{IsShort}
use Rattle.rss_stored.specs.Store.{SpellsTables}
use Rattle.rss_stored.proofs.ByNumber.{segment_named, segment_unnamed, relation_named, relation_unnamed, segments_full, segments_left, relations_full, relations_left, segment_used, segment_unused}
use Rattle.rss_model.proofs.Heap.{nothing}
use Rattle.rss_stored.proofs.Prefixes.{parts_are}
use Rattle.rss_model.proofs.Tests.{goes_on, passes_if, passes_unless, refuses_at, refuses_if, make_segment_taken, make_segment_many, make_segment_passes, drop_segment_lacks, drop_segment_full, drop_segment_passes, drop_relation_lacks, drop_relation_full, make_relation_lacks, make_relation_taken, make_relation_many, make_relation_passes}
use Rattle.rss_trans.specs.Transactions.{Transaction}
use Rattle.rss_trans.specs.Tables.{told}
use Rattle.rss_trans.proofs.Asked.{count_told}
use Rattle.rss_trans.proofs.Summing.{sums_told}
use Rattle.rss_session.specs.Sessions.{SessionView}
use Rattle.rss_session.specs.Shown.{Shows}
use Rattle.rss_session.specs.Admissions.{Says, Refuses}
use Rattle.rss_session.specs.Definitions.{Relists, IsBut, Redefines, Defining}
use Rattle.rss_session.specs.FieldTests.{fields_tests}
use Rattle.rss_session.specs.Parts.{view}
use Rattle.rss_session.specs.declared.session.Session.{Session}
use Rattle.rss_session.proofs.Admitted.{least_same}
use Rattle.rss_session.proofs.Fresh.{no_entries, none_counted}
use Rattle.rss_session.proofs.Imaged.{image_named, none_named}
use Rattle.rss_session.proofs.Linked.{role_there, role_absent}

-- ---- what was found

pub found : {P : ℕ → Type 0} (number : Option ℕ) → IfSome number P → is_some number ≡ true → (n : ℕ) × P n
found None is there = absurd (true≢false (sym there))
found (Some n) is there = (n, is)

pub not_found : {P : Type 0} (number : Option ℕ) → IfNone number P → is_some number ≡ false → P
not_found None is absent = is
not_found (Some n) is absent = absurd (true≢false absent)

-- ---- a refusal

pub refused_for : {S : Type 0} (pages_view : S → PagesView) (session : Session S) (call : Call) {why : Refusal} (result : Result (Unit {0}) Refusal) → IsErrAnd result (λ (other : Refusal). other ≡ why)
    → Says (view pages_view session) (λ state. refusal state call) (Some why) → IsShort (Err why) → Defining pages_view session session call result
refused_for pages_view session call (Ok done) is says short = absurd is
refused_for pages_view session call (Err other) is says short = record {
  tests = subst (Refuses (view pages_view session) (λ state. refusal state call)) (sym is) (says, short);
  redefines = tt;
  same = refl;
}

-- where the refusal that came is this one
pub refused_as : {S : Type 0} (pages_view : S → PagesView) (session : Session S) (call : Call) {fault why : Refusal} (result : Result (Unit {0}) Refusal) → IsErrAnd result (λ (other : Refusal). other ≡ fault) → fault ≡ why
    → Says (view pages_view session) (λ state. refusal state call) (Some why) → IsShort (Err why) → Defining pages_view session session call result
refused_as pages_view session call result is same says short =
    refused_for pages_view session call result is (subst (λ (w : Refusal). Says (view pages_view session) (λ state. refusal state call) (Some w)) (sym same) says)
    (subst (λ (w : Refusal). IsShort (Err w)) (sym same) short)

-- what a first test refuses
pub refused : {S : Type 0} (pages_view : S → PagesView) (session : Session S) (call : Call) (first : State → Option Refusal) {why : Refusal} (result : Result (Unit {0}) Refusal) → IsErrAnd result (λ (other : Refusal). other ≡ why)
    → ((state : State) → first state ≡ Some why → refusal state call ≡ Some why) → Refuses (view pages_view session) first why → Defining pages_view session session call result
refused pages_view session call first result is stops refuses =
    refused_for pages_view session call result is (λ told state shows. stops state (refuses.0 told state shows)) refuses.1

-- ---- where no transaction is open

module _ {view : SessionView} {state : State} (shows : Shows view state) (closed : view.opened.transactions ≡ finite.empty) where
  spells : SpellsTables view.store.pages.held view.store.catalog.listing (now state)
  spells = shows.store.spells

  least : least_open state ≡ None
  least =
      sym (least_same shows)
      ∙ ap (λ (m : FinMap nat_cmp Transaction). slice_get (finite.keys m) 0) closed
      ∙ ap (λ (es : List (ℕ × Transaction)). slice_get (map (λ (e : ℕ × Transaction). e.0) es) 0) no_entries

  pub none_is_open : if_any_open state ≡ None
  none_is_open = ap (option_map TransactionsOpen) least

  none_listed : length shows.listed ≡ 0
  none_listed = sym (sums_told view.store.catalog.listing view.opened state.marks shows.listed view.opened.since shows.told) ∙ none_counted view.opened closed

  -- no change waits
  pub none_changed : state.changes ≡ []
  none_changed = sym shows.list.changes_are ∙ ap changes_in (nothing shows.listed none_listed)

  -- nor has any transaction a save point
  pub none_marked : state.marks ≡ finite.empty
  none_marked = empty_of_len state.marks (
      sym (count_told view.store.catalog.listing view.opened state.marks shows.listed shows.told)
      ∙ ap (λ (m : FinMap nat_cmp Transaction). finite.len m) closed
      ∙ len-empty nat_cmp Transaction
      )

  -- the committed counts are those now
  pub base_live : (number : ℕ) (entry : RelationEntry) → relation_at view.store.catalog.listing number ≡ Some entry → tuple_count state.base.contents entry.name ≡ entry.live
  base_live number entry at = ap (λ (changes : List Change). tuple_count (after state.base.contents changes) entry.name) (sym none_changed) ∙ spells.counts number entry at

  -- ---- a segment

  pub segment_taken : (name : Name) (number : ℕ) → IsNumberOf SegmentKind view.store.catalog.listing name number → refusal state (MakeSegment name) ≡ Some NameTaken
  segment_taken name number is = make_segment_taken state least name (segment_named spells.listed spells.defines name number is)

  module _ (name : Name) (fresh : IsUnlisted SegmentKind view.store.catalog.listing name) where
    pub segment_many : AreAllUsed SegmentKind view.store.catalog.listing → refusal state (MakeSegment name) ≡ Some (Limit SegmentLimit)
    segment_many full = make_segment_many state least name (segment_unnamed spells.listed spells.defines name fresh) (segments_full spells.listed spells.defines full)

    pub segment_may : (AreAllUsed SegmentKind view.store.catalog.listing → ⊥) → refusal state (MakeSegment name) ≡ None
    segment_may room = make_segment_passes state least name (segment_unnamed spells.listed spells.defines name fresh) (segments_left spells.listed spells.defines room)

    pub segment_lacks : refusal state (DropSegment name) ≡ Some (NoSuch SegmentKind)
    segment_lacks = drop_segment_lacks state least name (segment_unnamed spells.listed spells.defines name fresh)

    pub within_lacks : (relation : Name) (fields : List FieldDef) → refusal state (MakeRelation relation name fields) ≡ Some (NoSuch SegmentKind)
    within_lacks relation fields = make_relation_lacks state least relation name fields (segment_unnamed spells.listed spells.defines name fresh)

  module _ (name : Name) (number : ℕ) (is : IsNumberOf SegmentKind view.store.catalog.listing name number) where
    pub segment_full : HasRelationIn view.store.catalog.listing number → refusal state (DropSegment name) ≡ Some NotEmpty
    segment_full has = drop_segment_full state least name (segment_named spells.listed spells.defines name number is) (segment_used state.base spells.listed spells.defines number name is has.number has.relation has.at has.within)

    pub segment_drops : (HasRelationIn view.store.catalog.listing number → ⊥) → refusal state (DropSegment name) ≡ None
    segment_drops empty = drop_segment_passes state least name (segment_named spells.listed spells.defines name number is) (segment_unused state.base spells.listed spells.defines number name is (λ k r at within. empty (record { number = k; relation = r; at = at; within = within })))

  -- ---- a relation

  pub relation_lacks : (name : Name) → IsUnlisted RelationKind view.store.catalog.listing name → refusal state (DropRelation name) ≡ Some (NoSuch RelationKind)
  relation_lacks name fresh = drop_relation_lacks state least name (relation_unnamed spells.listed spells.defines name fresh)

  module _ (name : Name) (number : ℕ) (is : IsNumberOf RelationKind view.store.catalog.listing name number) (entry : RelationEntry) (at : relation_at view.store.catalog.listing number ≡ Some entry) (named : entry.name ≡ name) where
    as_many : tuple_count state.base.contents name ≡ entry.live
    as_many = ap (tuple_count state.base.contents) (sym named) ∙ base_live number entry at

    pub relation_full : 0 < entry.live → refusal state (DropRelation name) ≡ Some NotEmpty
    relation_full some = drop_relation_full state least name (relation_named spells.listed spells.defines name number is) (le-leb 1 (tuple_count state.base.contents name) (omega (arith, as_many, some)))

    there : is_relation state name ≡ true
    there = relation_named spells.listed spells.defines name number is

    pub relation_imaged : HasImageOf view.store.catalog.listing number → refusal state (DropRelation name) ≡ Some NotEmpty
    relation_imaged has =
        let imaged : has_image state name ≡ true = subst (λ (n : Name). has_image state n ≡ true) named (image_named spells.listed spells.defines number entry at has) in
        goes_on _ none_is_open ∙ goes_on _ (passes_unless (NoSuch RelationKind) there)
        ∙ refuses_at _ (refuses_if NotEmpty (or_second (holds_tuples state name) (has_link state name) imaged))
      where
        or_second : {b : Bool} (a c : Bool) → b ≡ true → (a || b || c) ≡ true
        or_second true c on = refl
        or_second false c on = ap (λ (x : Bool). x || c) on

    -- its parts in links, by its number
    roles_are : parts_of state.base.definitions name ≡ roles_of view.store.catalog.listing number
    roles_are = ap (parts_of state.base.definitions) (sym named) ∙ parts_are spells.listed spells.defines number entry at

    pub relation_linked : HasLinkOf view.store.catalog.listing number → refusal state (DropRelation name) ≡ Some NotEmpty
    relation_linked has =
        let linked : has_link state name ≡ true = le-leb 1 (parts_of state.base.definitions name) (omega (arith, roles_are, role_there has)) in
        goes_on _ none_is_open ∙ goes_on _ (passes_unless (NoSuch RelationKind) there)
        ∙ refuses_at _ (refuses_if NotEmpty (or_last (holds_tuples state name) (has_image state name) linked))
      where
        or_last : {c : Bool} (a b : Bool) → c ≡ true → (a || b || c) ≡ true
        or_last true b on = refl
        or_last false true on = refl
        or_last false false on = on

    pub relation_drops : entry.live ≡ 0 → (HasImageOf view.store.catalog.listing number → ⊥) → (HasLinkOf view.store.catalog.listing number → ⊥) → refusal state (DropRelation name) ≡ None
    relation_drops empty none unlinked =
        let imaged : has_image state name ≡ false = subst (λ (n : Name). has_image state n ≡ false) named (none_named spells.listed spells.defines number entry at none) in
        let tuples : holds_tuples state name ≡ false = lt-leb 1 (tuple_count state.base.contents name) (omega (arith, as_many, empty)) in
        let linked : has_link state name ≡ false = lt-leb 1 (parts_of state.base.definitions name) (omega (arith, roles_are, role_absent unlinked)) in
        goes_on _ none_is_open ∙ goes_on _ (passes_unless (NoSuch RelationKind) there)
        ∙ goes_on _ (passes_if NotEmpty (λ i. tuples i || imaged i || linked i))

  module _ (name within : Name) (fields : List FieldDef) (segment : ℕ) (there : IsNumberOf SegmentKind view.store.catalog.listing within segment) where
    segment_there : is_some (finite.get state.base.definitions.segments within) ≡ true
    segment_there = segment_named spells.listed spells.defines within segment there

    relation_taken : (is_relation state name || has_twice (field_names fields)) ≡ true → refusal state (MakeRelation name within fields) ≡ Some NameTaken
    relation_taken taken = make_relation_taken state least name within fields segment_there taken

    pub relation_known : (number : ℕ) → IsNumberOf RelationKind view.store.catalog.listing name number → refusal state (MakeRelation name within fields) ≡ Some NameTaken
    relation_known number is = relation_taken (ap (λ b. b || has_twice (field_names fields)) (relation_named spells.listed spells.defines name number is))

    module _ (fresh : IsUnlisted RelationKind view.store.catalog.listing name) where
      unnamed : is_relation state name ≡ false
      unnamed = relation_unnamed spells.listed spells.defines name fresh

      pub fields_taken : has_twice (field_names fields) ≡ true → refusal state (MakeRelation name within fields) ≡ Some NameTaken
      fields_taken twice = relation_taken (ap (λ b. b || has_twice (field_names fields)) unnamed ∙ twice)

      module _ (once : has_twice (field_names fields) ≡ false) where
        pub relation_many : AreAllUsed RelationKind view.store.catalog.listing → refusal state (MakeRelation name within fields) ≡ Some (Limit RelationLimit)
        relation_many full = make_relation_many state least name within fields segment_there unnamed once (relations_full spells.listed spells.defines full)

        module _ (room : AreAllUsed RelationKind view.store.catalog.listing → ⊥) where
          -- all but the tests of its fields are passed
          pub relation_by_fields : refusal state (MakeRelation name within fields) ≡ first_of (fields_tests (originals fields))
          relation_by_fields =
              goes_on _ none_is_open
              ∙ goes_on _ (passes_unless (NoSuch SegmentKind) segment_there)
              ∙ goes_on _ (passes_if NameTaken (or_from (is_relation state name) (has_twice (field_names fields)) unnamed once))
              ∙ goes_on _ (passes_if (Limit RelationLimit) (relations_left spells.listed spells.defines room))

          pub relation_may : are_kinds (kinds (originals fields)) ≡ true → width (kinds (originals fields)) ≤ most_width → refusal state (MakeRelation name within fields) ≡ None
          relation_may formed narrow = make_relation_passes state least name within fields segment_there unnamed once (relations_left spells.listed spells.defines room) formed (le-leb (width (kinds (originals fields))) most_width narrow)

-- ---- what they make of the session

pub redefines : {S : Type 0} {call : Call} {old new : Session S} {listing : Listing} (page : ℕ) → (ListingFits old.store.catalog.listing → page < system_pages) → Relists old.store.catalog.listing call listing → Lists listing page old.store.catalog new.store.catalog → ((k : ℕ) → k < system_pages → k ≢ page → catalog_page listing k ≡ catalog_page old.store.catalog.listing k) → (ListingFits old.store.catalog.listing → ListingFits new.store.catalog.listing) → ((number : ℕ) (image : ImageEntry) → image_at old.store.catalog.listing number ≡ Some image → relation_at listing image.relation ≡ relation_at old.store.catalog.listing image.relation)
    → (told old.«open»).transactions ≡ finite.empty → IsBut old new → Redefines call old new
redefines {call = call} {old = old} page low relists lists others fits imaged closed but = record {
  page = page;
  low = low;
  relists = subst (Relists old.store.catalog.listing call) (sym lists.is) relists;
  lists = record { is = refl; pending = lists.pending };
  others = λ k low other. ap (λ (l : Listing). catalog_page l k) lists.is ∙ others k low other;
  fits = fits;
  imaged = λ number image at. ap (λ (l : Listing). relation_at l image.relation) lists.is ∙ imaged number image at;
  closed = closed;
  rest = but;
}

-- only the first page has the segments
pub segment_pages : (listing : Listing) (number : ℕ) (segment : Option Name) (k : ℕ) → k ≢ 0 → catalog_page (with_segment listing number segment) k ≡ catalog_page listing k
segment_pages listing number segment k other = without (with_number listing.segments number segment) ∙ sym (without listing.segments)
  where
    rest : List ℕ
    rest = cond (nat_le k relation_pages) (flat_map relation_spelled (relations_on listing k)) (cond (nat_le k (relation_pages + image_pages)) (flat_map image_spelled (images_on listing k)) (flat_map link_spelled listing.links))

    without : (segments : List (Option Name)) → catalog_page (record listing { segments = segments }) k ≡ padded page_bytes rest
    without segments = ap (λ (b : Bool). padded page_bytes (cond b (flat_map segment_spelled segments) rest)) (ne_eqb k 0 other)

-- the page of a relation is one of the system space
pub relation_page : (number : ℕ) → number ≤ relations_most → page_of RelationKind number < system_pages
relation_page number high = omega (arith, high)

-- a relation that no image has comes or goes
pub imaged_still : (listing : Listing) (number : ℕ) (relation : Option RelationEntry) → 1 ≤ number → (HasImageOf listing number → ⊥) → (k : ℕ) (image : ImageEntry) → image_at listing k ≡ Some image
    → relation_at (with_relation listing number relation) image.relation ≡ relation_at listing image.relation
imaged_still listing number relation low none k image at = with_other listing.relations number image.relation relation low (λ same. none (record { number = k; image = image; at = at; of = same }))
