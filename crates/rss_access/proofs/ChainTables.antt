-- Tables that pages spell, where a tuple comes into a chain or goes out of it.
use Rattle.std.proofs.Common.{◌≡◌, ◌≢◌, ◌⊎◌, inl, inr, ⊎_elim, ℕ, ◌^◌, ◌<◌, ◌≤◌, Bool, true, false, List, [], ◌∷◌, length, refl, sym, ◌∙◌, ap, subst, arith}
use Rattle.std.specs.Prelude.{Option, Some, None, IfSome, is_some, not, unwrap_or}
use Rattle.std.proofs.lemmas.Bool.{cases_eq, true≢false}
use Rattle.std.proofs.lemmas.Option.{same_Some}
use Rattle.rss_base.specs.DiskRule.{IsTold}
use Rattle.rss_base.specs.Paged.{Mapped, page_key, mapped_in, mapped_of}
use Rattle.rss_base.specs.Prefixes.{is_tid}
use Rattle.rss_base.specs.Steps.{PagesView, PagesStep, no_page}
use Rattle.rss_base.specs.Listings.{Listing, ListingFits, LinkFits, numbered, segment_at, relation_at, image_at, link_at}
use Rattle.rss_base.specs.declared.change.Change.TheVariants.{Connect, Disconnect}
use Rattle.rss_base.specs.declared.image.ImageEntry.{ImageEntry}
use Rattle.rss_base.specs.declared.item.Item.{Item}
use Rattle.rss_base.specs.declared.item.Item.TheVariants.{Tuple as TupleItem, Chain as ChainItem}
use Rattle.rss_base.specs.declared.key.PageKey.{PageKey}
use Rattle.rss_base.specs.declared.key.Space.{Space}
use Rattle.rss_base.specs.declared.key.Space.TheVariants.{Overflow}
use Rattle.rss_base.specs.declared.link.LinkEntry.{LinkEntry}
use Rattle.rss_base.specs.declared.name.Name.{Name}
use Rattle.rss_base.specs.declared.refusal.Kind.TheVariants.{Link as LinkKind}
use Rattle.rss_base.specs.declared.relation.RelationEntry.{RelationEntry}
use Rattle.rss_base.specs.declared.tid.Tid.{Tid}
use Rattle.rss_entries.specs.Images.{AreTuples}
use Rattle.rss_tuple.specs.Placing.{TakesOnly}
use Rattle.rss_model.specs.Changes.{Change}
use Rattle.rss_model.specs.Chains.{tuples_in, chain_content, chain, stands_in, with_behind, without, is_there, HasParent, IsChainOf, LinksFit}
use Rattle.rss_model.specs.Fits.{IsLive, IsIdentifier}
use Rattle.rss_model.specs.Images.{image_list}
use Rattle.rss_model.specs.Items.{Content, Tuples}
use Rattle.rss_model.specs.Meanings.{TellsPlace, nameless, name_at}
use Rattle.rss_model.specs.Meter.{MayLead}
use Rattle.rss_stored.specs.Store.{SpellsTables, AreNodesWithin, IsListedImage, IsListedLink, IsStorePage, image_definition, link_definition}
use Rattle.rss_model.specs.Tables.{LinkDef, Contents, Tables, content, put, tuple_count}
use Rattle.rss_model.proofs.Contents.{content_here, content_elsewhere}
use Rattle.rss_model.proofs.Counts.{one_if, counts_same}
use Rattle.rss_model.proofs.LogChanging.{by_item}
use Rattle.rss_model.proofs.LogLists.{by_test, false_true}
use Rattle.rss_model.proofs.Mixing.{In, each_of}
use Rattle.rss_model.proofs.Refitting.{chain_parts}
use Rattle.rss_stored.proofs.Relisted.{KeepsImages, images_kept as images_relisted}
use Rattle.rss_model.proofs.SeenAlike.{entries_same}
use Rattle.rss_stored.proofs.Spelled.{name_numbered, listed_link}
use Rattle.rss_model.proofs.Standing.{tid_itself, tid_same, tid_apart, or_first, or_none, some_behind, stands_behind, tuples_of}
use Rattle.rss_link.specs.Calls.{IsSegmentOf, link_pages}
use Rattle.rss_members.specs.Members.{chains_of, of_parents, segment_in, segment_of, with_chain}
use Rattle.rss_members.specs.Calls.{MembersView, Spells, CanConnect, CanDisconnect, Connects, Disconnects, NoneConnects, NoneDisconnects, with_child, without_child, pages_in_link, pages_of_link}
use Rattle.rss_access.specs.Changes.{AccessView, members, HasTables, CanApply, AltersChain, applied}
use Rattle.rss_access.proofs.Imaged.{SameImages, images_kept, nodes_kept}
use Rattle.rss_access.proofs.Between.{heap_no_image}
use Rattle.rss_access.proofs.Prefixed.{members_by}
use Rattle.rss_access.proofs.TupleChanges.{range-le}

-- ---- what pages spell of tuples and chains

-- Tables that are spelled, with tuples of their relations, chains such as links have and identifiers of the store, are spelled as far as tuples and chains go.
pub members_of : (at : AccessView) {tables : Tables} → at.pages.slots < 2 ^ 32 → SpellsTables at.pages.held at.catalog.listing tables → AreTuples tables → LinksFit tables → ((relation : Name) (tid : Tid) → IsLive tables relation tid → IsIdentifier at.pages.slots tid) → Spells (members at) tables
members_of at small spells tuples links tids = members_by small spells tuples links tids

pub members_has : (at : AccessView) → at.pages.slots < 2 ^ 32 → (has : HasTables at) → Spells (members at) has.tables
members_has at small has = members_of at small has.spells has.tuples has.links has.tids

-- ---- the tuples of a chain

tuples_some : (tids : List Tid) → 1 ≤ length tids → chain_content tids ≡ Some (Tuples tids)
tuples_some [] some = absurd (omega (arith, some))
tuples_some (tid ∷ tids) some = refl

stands_is_in : (tids : List Tid) (x : Tid) → stands_in x tids ≡ true → In x tids
stands_is_in [] x is = absurd (cc (is))
stands_is_in (tid ∷ tids) x is = by_test (is_tid x tid)
    (λ e. inl (sym (tid_same x tid e)))
    (λ e. inr (stands_is_in tids x (rw e at is)))

apart_first : (child tid : Tid) (tids : List Tid) → stands_in child (tid ∷ tids) ≡ false → (is_tid tid child ≡ false) × (stands_in child tids ≡ false)
apart_first child tid tids off =
    let parts = or_none (is_tid child tid) (stands_in child tids) off in
    (tid_apart tid child (λ same. false_true (subst (λ (x : Tid). is_tid child x ≡ true) (sym same) (tid_itself child)) parts.0), parts.1)

off_again : (child : Tid) (tids : List Tid) → stands_in child tids ≡ false → without child tids ≡ tids
off_again child [] off = refl
off_again child (tid ∷ tids) off =
    let parts = apart_first child tid tids off in
    let other : is_tid tid child ≡ false = parts.0 in
    rw other (ap (λ (l : List Tid). tid ∷ l) (off_again child tids parts.1))

-- a tuple that comes and goes leaves the chain as it was
without_behind : (left : Option Tid) (child : Tid) (tids : List Tid) → stands_in child tids ≡ false → without child (with_behind left child tids) ≡ tids
without_behind None child tids off = let here : is_tid child child ≡ true = tid_itself child in rw here (off_again child tids off)
without_behind (Some left) child [] off = let here : is_tid child child ≡ true = tid_itself child in rw here
without_behind (Some left) child (tid ∷ tids) off =
    let here : is_tid child child ≡ true = tid_itself child in
    let parts = apart_first child tid tids off in
    let other : is_tid tid child ≡ false = parts.0 in
    by_test (is_tid tid left)
    (λ e. rw (e, other, here) (ap (λ (l : List Tid). tid ∷ l) (off_again child tids parts.1)))
    (λ e. rw (e, other) (ap (λ (l : List Tid). tid ∷ l) (without_behind (Some left) child tids parts.1)))

-- it stands where it came
its_place : (left : Option Tid) (child : Tid) (tids : List Tid) → stands_in child (with_behind left child tids) ≡ true
its_place left child tids = stands_behind left child tids child ∙ or_first (is_tid child child) (stands_in child tids) (tid_itself child)

parent_same : (a b : Contents) → ((relation : Name) (tid : Tid) → is_there a relation tid ≡ true → is_there b relation tid ≡ true) → (above : Option Name) (parent : Option Tid) → HasParent a above parent → HasParent b above parent
parent_same a b same None None has = tt
parent_same a b same None (Some parent) has = absurd has
parent_same a b same (Some relation) None has = absurd has
parent_same a b same (Some relation) (Some parent) has = same relation parent has

-- ---- the chain that a change tells of

-- the link of a number has its name
named : (listing : Listing) (number : ℕ) (link : LinkEntry) (parent : Option Tid) {item : Item} → link_at listing number ≡ Some link → item ≡ ChainItem (name_at LinkKind listing number) parent → item ≡ ChainItem link.name parent
named listing number link parent at is = is ∙ ap (λ (name : Option Name). ChainItem (unwrap_or name (nameless number)) parent) (name_numbered (λ (l : LinkEntry). l.name) listing.links number link at)

-- where an item holds these tuples, they are those of its chain
its_chain : (contents : Contents) (name : Name) (parent : Option Tid) (item : Item) (held : Option Content) (tids : List Tid) → item ≡ ChainItem name parent → content contents item ≡ held → held ≡ chain_content tids → chain contents name parent ≡ tids
its_chain contents name parent item held tids is holds are = ap (λ (i : Item). tuples_in (content contents i)) (sym is) ∙ ap tuples_in (holds ∙ are) ∙ tuples_of tids

-- the tables with a list as that of the chain
same_applied : (tables : Tables) (name : Name) (parent : Option Tid) (list tids : List Tid) (change : Change) → change.item ≡ ChainItem name parent → change.new ≡ chain_content tids → list ≡ tids → with_chain tables name parent list ≡ applied tables change
same_applied tables name parent list tids change is new same = λ i. record tables { contents = contents i }
  where
    contents : put tables.contents (ChainItem name parent) (chain_content list) ≡ put tables.contents change.item change.new
    contents = ap (λ (item : Item). put tables.contents item (chain_content list)) (sym is) ∙ ap (put tables.contents change.item) (ap chain_content same ∙ sym new)

-- a tuple that comes into a chain, where the tables fit before and after
module _ {at : AccessView} {number : ℕ} {parent left : Option Tid} {child : Tid} {tables : Tables} {change : Change} (can : CanApply at (Connect number parent child left) tables change) where
  told_place : TellsPlace at.catalog.listing number parent child left change.old change.new
  told_place = can.means

  abbrev name : Name
  name = told_place.link.name

  abbrev now : List Tid
  now = with_behind left child told_place.tids

  item_is : change.item ≡ ChainItem name parent
  item_is = named at.catalog.listing number told_place.link parent told_place.at can.tells.item

  chain_was : chain tables.contents name parent ≡ told_place.tids
  chain_was = its_chain tables.contents name parent change.item change.old told_place.tids item_is can.holds told_place.without

  chain_now : content (applied tables change).contents (ChainItem name parent) ≡ Some (Tuples now)
  chain_now = ap (content (applied tables change).contents) (sym item_is) ∙ content_here tables.contents change.item change.new ∙ told_place.with ∙ tuples_some now (some_behind left child told_place.tids)

  -- another item holds what it held
  other_item : (item : Item) → (item ≡ ChainItem name parent → ⊥) → content (applied tables change).contents item ≡ content tables.contents item
  other_item item off = content_elsewhere tables.contents change.item change.new item (λ same. off (same ∙ item_is))

  tuples_stay : (relation : Name) (tid : Tid) → is_there (applied tables change).contents relation tid ≡ is_there tables.contents relation tid
  tuples_stay relation tid = ap is_some (other_item (TupleItem relation tid) (λ same. cc (same)))

  of_chain : IsChainOf (applied tables change) name parent (Tuples now)
  of_chain = can.fit_next.links.chains name parent (Tuples now) chain_now

  its_child : (entry : RelationEntry) × IsListedLink at.catalog.listing number told_place.link entry
  its_child = listed_link can.spells.listed number told_place.link told_place.at

  its_definition : of_chain.definition ≡ link_definition at.catalog.listing told_place.link its_child.0
  its_definition = same_Some _ _ (sym of_chain.defined ∙ can.spells.defines.paths.links number told_place.link its_child.0 its_child.1)

  outside : (other : Option Tid) → stands_in child (chain tables.contents name other) ≡ false
  outside other = by_test (stands_in child (chain tables.contents name other)) (λ stands. absurd (never stands)) (λ no. no)
    where
      same_place : other ≡ parent → stands_in child (chain tables.contents name other) ≡ false
      same_place same = ap (λ (p : Option Tid). stands_in child (chain tables.contents name p)) same ∙ ap (stands_in child) chain_was ∙ told_place.apart

      never : stands_in child (chain tables.contents name other) ≡ true → ⊥
      never stands = by_item (ChainItem name other) (ChainItem name parent)
          (λ same. true≢false (sym stands ∙ same_place (chain_parts same).1))
          (λ off. true≢false (sym stands ∙ same_place (can.fit_next.links.alone name other parent child
          (ap (λ (held : Option Content). stands_in child (tuples_in held)) (other_item (ChainItem name other) off) ∙ stands)
          (ap (λ (held : Option Content). stands_in child (tuples_in held)) chain_now ∙ its_place left child told_place.tids))))

  pub can_connect : CanConnect at.catalog.listing tables (record { link = number; parent = parent; child = child; left = left })
  can_connect = record {
    link = told_place.link;
    child = its_child.0;
    listed = its_child.1;
    there = sym (tuples_stay its_child.0.name child) ∙ subst (λ (d : LinkDef). is_there (applied tables change).contents d.child child ≡ true) its_definition member;
    under = parent_same (applied tables change).contents tables.contents (λ relation tid there. sym (tuples_stay relation tid) ∙ there) (link_definition at.catalog.listing told_place.link its_child.0).parent parent
        (subst (λ (d : LinkDef). HasParent (applied tables change).contents d.parent parent) its_definition of_chain.under);
    outside = outside;
    behind = subst (λ (l : List Tid). IfSome left (λ tid. stands_in tid l ≡ true)) (sym chain_was) told_place.behind;
  }
    where
      tids_are : of_chain.tids ≡ now
      tids_are = unwrap (sym of_chain.is)
        where
          unwrap : {a b : List Tid} → Tuples a ≡ Tuples b → a ≡ b
          unwrap same = cc (same)

      member : is_there (applied tables change).contents of_chain.definition.child child ≡ true
      member = each_of (λ tid. is_there (applied tables change).contents of_chain.definition.child tid ≡ true) of_chain.tids of_chain.members child
          (subst (In child) (sym tids_are) (stands_is_in now child (its_place left child told_place.tids)))

  -- the tables with the change are those with the child in the chain
  pub with_child_is : (link : LinkEntry) → link_at at.catalog.listing number ≡ Some link → with_child tables link.name (record { link = number; parent = parent; child = child; left = left }) ≡ applied tables change
  with_child_is link listed =
      let one : told_place.link ≡ link = same_Some _ _ (sym told_place.at ∙ listed) in
      subst (λ (l : LinkEntry). with_child tables l.name (record { link = number; parent = parent; child = child; left = left }) ≡ applied tables change) one
      (same_applied tables name parent (with_behind left child (chain tables.contents name parent)) now change item_is told_place.with (ap (with_behind left child) chain_was))

-- and one that goes out of it
module _ {at : AccessView} {number : ℕ} {parent left : Option Tid} {child : Tid} {tables : Tables} {change : Change} (can : CanApply at (Disconnect number parent child left) tables change) where
  told_spot : TellsPlace at.catalog.listing number parent child left change.new change.old
  told_spot = can.means

  abbrev link_name : Name
  link_name = told_spot.link.name

  chain_item : change.item ≡ ChainItem link_name parent
  chain_item = named at.catalog.listing number told_spot.link parent told_spot.at can.tells.item

  chain_before : chain tables.contents link_name parent ≡ with_behind left child told_spot.tids
  chain_before = its_chain tables.contents link_name parent change.item change.old (with_behind left child told_spot.tids) chain_item can.holds told_spot.with

  chain_after : without child (chain tables.contents link_name parent) ≡ told_spot.tids
  chain_after = ap (without child) chain_before ∙ without_behind left child told_spot.tids told_spot.apart

  pub can_disconnect : CanDisconnect at.catalog.listing tables (record { link = number; parent = parent; child = child; left = left })
  can_disconnect =
      let so = listed_link can.spells.listed number told_spot.link told_spot.at in
      record {
        link = told_spot.link;
        child = so.0;
        listed = so.1;
        place = record {
          stands = ap (stands_in child) chain_before ∙ its_place left child told_spot.tids;
          behind = subst (λ (l : List Tid). IfSome left (λ tid. stands_in tid l ≡ true)) (sym chain_after) told_spot.behind;
          is = chain_before ∙ ap (with_behind left child) (sym chain_after);
        };
      }

  pub without_child_is : (link : LinkEntry) → link_at at.catalog.listing number ≡ Some link → without_child tables link.name (record { link = number; parent = parent; child = child; left = left }) ≡ applied tables change
  without_child_is link listed =
      let one : told_spot.link ≡ link = same_Some _ _ (sym told_spot.at ∙ listed) in
      subst (λ (l : LinkEntry). without_child tables l.name (record { link = number; parent = parent; child = child; left = left }) ≡ applied tables change) one
      (same_applied tables link_name parent (without child (chain tables.contents link_name parent)) told_spot.tids change chain_item told_spot.without chain_after)

-- ---- where none can be

pub chain_none : {at : AccessView} {number : ℕ} {parent left : Option Tid} {child : Tid} {tables : Tables} {change : Change} → at.pages.slots < 2 ^ 32 → CanApply at (Connect number parent child left) tables change → NoneConnects (members at) (record { link = number; parent = parent; child = child; left = left }) → ⊥
chain_none {at = at} {tables = tables} small can none = none tables (members_of at small can.spells can.fit.tuples can.fit.links can.fit.tids) (can_connect can)

pub chain_none_off : {at : AccessView} {number : ℕ} {parent left : Option Tid} {child : Tid} {tables : Tables} {change : Change} → at.pages.slots < 2 ^ 32 → CanApply at (Disconnect number parent child left) tables change → NoneDisconnects (members at) (record { link = number; parent = parent; child = child; left = left }) → ⊥
chain_none_off {at = at} {tables = tables} small can none = none tables (members_of at small can.spells can.fit.tuples can.fit.links can.fit.tids) (can_disconnect can)

-- ---- what the pages spell then

-- the segment of a relation is listed
its_segment : (listing : Listing) (number : ℕ) → ListingFits listing → is_some (relation_at listing number) ≡ true → is_some (segment_at listing (segment_of listing number)) ≡ true
its_segment listing number fits there = by (relation_at listing number) refl
  where
    by : (found : Option RelationEntry) → relation_at listing number ≡ found → is_some (segment_at listing (segment_of listing number)) ≡ true
    by None is = absurd (true≢false (sym there ∙ ap is_some is))
    by (Some relation) is = ap (λ (r : Option RelationEntry). is_some (segment_at listing (segment_in r))) is ∙ (fits.relations number relation is).segment

module _ {result : MembersView → MembersView → Type 0} {number cost : ℕ} {old new : AccessView} (step : PagesStep (pages_of_link old.catalog.listing number) cost cost old.pages new.pages) (alters : AltersChain result number old new) (told : IsTold old.pages.disk) where
  abbrev link : LinkEntry
  link = alters.link

  abbrev was : Listing
  was = old.catalog.listing

  abbrev is_now : Listing
  is_now = new.catalog.listing

  -- the pages that are touched
  of_link : (key : PageKey) → pages_of_link was number key → link_pages (chains_of was number link) key
  of_link key touched = subst (λ (found : Option LinkEntry). pages_in_link was number found key) alters.listed touched

  same_images : SameImages old.pages.held new.pages.held
  same_images key image = step.held_off told key (λ touched. heap_no_image key (of_link key touched).1.1 image)

  -- a page is one of a listed segment, or as it was
  listed_or_same : ListingFits was → (key : PageKey) → (is_some (segment_at was key.segment) ≡ true) ⊎ (new.pages.held key ≡ old.pages.held key)
  listed_or_same fits key = elim (cases_eq key.segment (segment_of was link.child)) [
    | inl own ↦ inl (ap (λ (s : ℕ). is_some (segment_at was s)) own ∙ its_segment was link.child fits its.child)
    | inr off ↦ above off link.parent refl
  ]
    where
      its : LinkFits was link
      its = fits.paths.links number link alters.listed

      above : key.segment ≢ segment_of was link.child → (parent : Option ℕ) → link.parent ≡ parent → (is_some (segment_at was key.segment) ≡ true) ⊎ (new.pages.held key ≡ old.pages.held key)
      above off None is = inr (step.held_off told key (λ touched. none (of_link key touched).0))
        where
          none : IsSegmentOf (chains_of was number link) key.segment → ⊥
          none (inl own) = off own
          none (inr (binary, own)) = true≢false (ap (λ (p : Option ℕ). not (is_some p)) (sym is) ∙ binary)
      above off (Some parent) is = elim (cases_eq key.segment (segment_of was parent)) [
        | inl own ↦ inl (ap (λ (s : ℕ). is_some (segment_at was s)) own ∙ its_segment was parent fits (subst (λ (p : Option ℕ). IfSome p (λ n. (is_some (relation_at was n) ≡ true) × (n ≢ link.child))) is its.parent).0)
        | inr other ↦ inr (step.held_off told key (λ touched. none other (of_link key touched).0))
      ]
        where
          none : key.segment ≢ segment_of was parent → IsSegmentOf (chains_of was number link) key.segment → ⊥
          none other (inl own) = off own
          none other (inr (binary, own)) = other (own ∙ ap (of_parents (segment_of was)) is)

  -- what is listed beside the link is the same
  segments_same : is_now.segments ≡ was.segments
  segments_same = ap (λ (l : Listing). l.segments) alters.ends.is

  relations_same : is_now.relations ≡ was.relations
  relations_same = ap (λ (l : Listing). l.relations) alters.ends.is

  listed_images : is_now.images ≡ was.images
  listed_images = ap (λ (l : Listing). l.images) alters.ends.is

  relation_back : (k : ℕ) → relation_at is_now k ≡ relation_at was k
  relation_back k = ap (λ (l : List (Option RelationEntry)). numbered l k) relations_same

  image_back : (k : ℕ) → image_at is_now k ≡ image_at was k
  image_back k = ap (λ (l : List (Option ImageEntry)). numbered l k) listed_images

  images_into : KeepsImages was is_now
  images_into k image relation l = record { at = image_back k ∙ l.at; within = relation_back image.relation ∙ l.within }

  images_from : KeepsImages is_now was
  images_from k image relation l = record { at = sym (image_back k) ∙ l.at; within = sym (relation_back image.relation) ∙ l.within }

  module _ {tables : Tables} (spells : SpellsTables old.pages.held was tables) (name : Name) (parent : Option Tid) (list : List Tid) (now_spells : Spells (members new) (with_chain tables name parent list)) where
    tuple_stays : (relation : Name) (tid : Tid) → content (with_chain tables name parent list).contents (TupleItem relation tid) ≡ content tables.contents (TupleItem relation tid)
    tuple_stays relation tid = content_elsewhere tables.contents (ChainItem name parent) (chain_content list) (TupleItem relation tid) (λ same. cc (same))

    count_stays : (relation : Name) → tuple_count (with_chain tables name parent list).contents relation ≡ tuple_count tables.contents relation
    count_stays relation = counts_same tables.contents (ChainItem name parent) (chain_content list) relation refl

    list_stays : (number : ℕ) (image : ImageEntry) (relation : RelationEntry) → IsListedImage was number image relation → image_list (with_chain tables name parent list) (image_definition image relation) ≡ image_list tables (image_definition image relation)
    list_stays number image relation l = entries_same tables.definitions relation.name (image_definition image relation).fields (with_chain tables name parent list).contents tables.contents (tuple_stays relation.name)

    -- the pages spell the tables with the other chain
    pub chain_spells : SpellsTables new.pages.held is_now (with_chain tables name parent list)
    chain_spells = record {
      only = λ key there. elim (listed_or_same spells.listed key) [
        | inl own ↦ inr (segment_there key own)
        | inr same ↦ still key (spells.only key (ap is_some (sym same) ∙ there))
      ];
      formed = λ key bytes heap there.
          let formed = (alters.heaps told).formed key bytes heap there in
          record { formed = formed.formed; some = formed.some; short = formed.short; noted = tt };
      linked = (alters.heaps told).linked;
      listed = now_spells.listed;
      defines = now_spells.defines;
      counts = λ k relation at. count_stays relation.name ∙ spells.counts k relation (sym (relation_back k) ∙ at);
      contents = now_spells.contents;
      images = images_relisted images_into images_from list_stays (images_kept same_images spells.images);
    }
      where
        segment_there : (key : PageKey) → is_some (segment_at was key.segment) ≡ true → is_some (segment_at is_now key.segment) ≡ true
        segment_there key own = ap (λ (l : List (Option Name)). is_some (numbered l key.segment)) segments_same ∙ own

        still : (key : PageKey) → IsStorePage was key → IsStorePage is_now key
        still key (inl system) = inl system
        still key (inr own) = inr (segment_there key own)

  -- such tables the pages have then
  pub chain_still : (has : HasTables old) (name : Name) (parent : Option Tid) (list : List Tid) → Spells (members new) (with_chain has.tables name parent list) → HasTables new
  chain_still has name parent list now_spells = record {
    tables = with_chain has.tables name parent list;
    spells = chain_spells has.spells name parent list now_spells;
    tuples = now_spells.tuples;
    tids = λ relation tid live. subst (λ (n : ℕ). IsIdentifier n tid) (sym step.passes.slots) (has.tids relation tid (ap is_some (sym (tuple_stays has.spells name parent list now_spells relation tid)) ∙ live));
    few = λ relation. omega (arith, has.few relation, count_stays has.spells name parent list now_spells relation);
    links = now_spells.links;
    nodes = nodes;
  }
    where
      nodes : AreNodesWithin new.pages.slots new.pages.held is_now
      nodes = subst (λ (n : ℕ). AreNodesWithin n new.pages.held is_now) (sym step.passes.slots)
          (λ k image relation l page node at. nodes_kept same_images has.nodes k image relation (images_from k image relation l) page node at)

-- ---- how many overflow pages there are

-- where no page of a space was taken, no more are mapped
pub fewer_of : (old new : Mapped) (space : Space) (limit : ℕ) → ((key : PageKey) → key.space ≡ space → new key ≡ true → old key ≡ true) → mapped_of new space limit ≤ mapped_of old space limit
fewer_of old new space limit same = range-le (mapped_in new space limit) (mapped_in old space limit) 1 8 (λ segment. range-le (λ n. one_if (new (page_key segment space n))) (λ n. one_if (old (page_key segment space n))) 0 limit (λ n. one_less _ _ (same (page_key segment space n) refl)))
  where
    one_less : (a b : Bool) → (a ≡ true → b ≡ true) → one_if a ≤ one_if b
    one_less true b is = omega (arith, ap one_if (is refl))
    one_less false b is = omega arith

pub none_taken : {old new : PagesView} → TakesOnly no_page old new → (key : PageKey) → new.mapped key ≡ true → old.mapped key ≡ true
none_taken takes key is = ⊎_elim (λ was. was) (λ no. absurd no) (takes.each key is)

module _ {result : MembersView → MembersView → Type 0} {number cost : ℕ} {old new : AccessView} (step : PagesStep (pages_of_link old.catalog.listing number) cost cost old.pages new.pages) (alters : AltersChain result number old new) (told : IsTold old.pages.disk) where
  pub chain_leads : (before after : Tables) (item : Item) → MayLead before after item (mapped_of old.pages.mapped Overflow old.pages.slots) (mapped_of new.pages.mapped Overflow new.pages.slots)
  chain_leads before after item = omega (arith, less)
    where
      less : mapped_of new.pages.mapped Overflow new.pages.slots ≤ mapped_of old.pages.mapped Overflow old.pages.slots
      less = omega (
        arith,
        fewer_of old.pages.mapped new.pages.mapped Overflow new.pages.slots (λ key space. none_taken (alters.takes told) key),
        ap (mapped_of old.pages.mapped Overflow) step.passes.slots,
      )

-- ---- from all tables in which it may be applied

pub chain_applies : {number cost : ℕ} {parent left : Option Tid} {child : Tid} {old new : AccessView} → PagesStep (pages_of_link old.catalog.listing number) cost cost old.pages new.pages
    → AltersChain (λ was now. Connects was now (record { link = number; parent = parent; child = child; left = left })) number old new → IsTold old.pages.disk
    → (tables : Tables) (change : Change) → CanApply old (Connect number parent child left) tables change → SpellsTables new.pages.held new.catalog.listing (applied tables change)
chain_applies {parent = parent} {left = left} {child = child} {old = old} {new = new} step alters told tables change can =
    let connected = alters.chains told tables (members_of old alters.small can.spells can.fit.tuples can.fit.links can.fit.tids) in
    subst (SpellsTables new.pages.held new.catalog.listing) (with_child_is can connected.can.link connected.can.listed.at)
    (chain_spells step alters told can.spells connected.can.link.name parent (with_behind left child (chain tables.contents connected.can.link.name parent)) connected.spells)

pub chain_applies_off : {number cost : ℕ} {parent left : Option Tid} {child : Tid} {old new : AccessView} → PagesStep (pages_of_link old.catalog.listing number) cost cost old.pages new.pages
    → AltersChain (λ was now. Disconnects was now (record { link = number; parent = parent; child = child; left = left })) number old new → IsTold old.pages.disk
    → (tables : Tables) (change : Change) → CanApply old (Disconnect number parent child left) tables change → SpellsTables new.pages.held new.catalog.listing (applied tables change)
chain_applies_off {parent = parent} {left = left} {child = child} {old = old} {new = new} step alters told tables change can =
    let gone = alters.chains told tables (members_of old alters.small can.spells can.fit.tuples can.fit.links can.fit.tids) in
    subst (SpellsTables new.pages.held new.catalog.listing) (without_child_is can gone.can.link gone.can.listed.at)
    (chain_spells step alters told can.spells gone.can.link.name parent (without child (chain tables.contents gone.can.link.name parent)) gone.spells)
