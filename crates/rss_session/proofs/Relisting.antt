-- What a call that defines makes of the pages, of the machine's state and of the session.
use Rattle.std.proofs.Common.{◌≡◌, inl, inr, ℕ, ◌≤◌, true, false, Bool, List, [], ◌∷◌, length, get_or, refl, sym, ◌∙◌, ap, subst, arith}
use Rattle.std.specs.Prelude.{Option, Some, None, is_some, option_map, slice_index, slice_set, All}
use Rattle.std.specs.FinMap.{empty, get}
use Rattle.std.proofs.lemmas.Bool.{cases_eq, eq-eqb, true≢false}
use Rattle.std.proofs.lemmas.List.{get_or-set_same, get_or-set_other, length-set}
use Rattle.std.proofs.lemmas.Option.{none-some, same_Some}
use Rattle.std.proofs.Math.Logic.{∥∥₁_map}
use Rattle.rss_base.specs.Paged.{Held}
use Rattle.rss_base.specs.Sizes.{log_pages_least, system_pages}
use Rattle.rss_base.specs.Steps.{PagesView}
use Rattle.rss_base.specs.Listings.{Listing, ListingFits, numbered, relation_at, image_at, link_at, has_role}
use Rattle.rss_base.specs.TupleTypes.{kinds}
use Rattle.rss_base.specs.declared.image.ImageEntry.{ImageEntry}
use Rattle.rss_base.specs.declared.link.LinkEntry.{LinkEntry}
use Rattle.rss_base.specs.declared.item.Item.TheVariants.{Tuple as TupleItem, Chain as ChainItem}
use Rattle.rss_base.specs.declared.name.Name.{Name}
use Rattle.rss_base.specs.declared.tid.Tid.{Tid}
use Rattle.rss_base.specs.declared.value.FieldForm.{FieldForm}
use Rattle.rss_base.specs.declared.call.Call.{Call}
use Rattle.rss_model.specs.Chains.{is_there, LinksFit}
use Rattle.rss_model.specs.Tables.{RelationDef, LinkDef, Definitions, Tables, content, tuple_count}
use Rattle.rss_model.specs.Changes.{Change}
use Rattle.rss_model.specs.Machine.{StoreSize, State, with_changes}
use Rattle.rss_model.specs.Fits.{Fits, IsLive}
use Rattle.rss_model.specs.Kept.{Kept}
use Rattle.rss_model.specs.Defining.{defined, with_definitions, originals, relation_def, DefinesNames}
use Rattle.rss_model.specs.Steps.{refusal}
use Rattle.rss_stored.specs.Store.{SpellsTables, AreNodesWithin, link_definition, size_of}
use Rattle.rss_model.proofs.BothRooms.{definitions_keep_rooms}
use Rattle.rss_stored.proofs.ByNumber.{relation_unnamed}
use Rattle.rss_model.proofs.Counts.{none_counted}
use Rattle.rss_stored.proofs.LinkMade.{HasNoTuples, link_made_spells, link_gone_spells}
use Rattle.rss_model.proofs.LogLists.{some_of}
use Rattle.rss_model.proofs.Named.{made_other, gone_other}
use Rattle.rss_model.proofs.Redefining.{defined_fits, live_defined}
use Rattle.rss_stored.proofs.Relisted.{segment_made_spells, segment_gone_spells, relation_made_spells, relation_gone_spells}
use Rattle.rss_stored.proofs.Spelled.{listed_link}
use Rattle.rss_model.proofs.StepKeeping.{kept_fit}
use Rattle.rss_trans.specs.Tables.{told}
use Rattle.rss_catalog.specs.Catalogs.{CatalogView}
use Rattle.rss_entries.specs.Images.{AreTuples}
use Rattle.rss_access.specs.Changes.{both, HasTables}
use Rattle.rss_access.specs.Written.{AreWritten}
use Rattle.rss_session.specs.Calls.{IsRedefined}
use Rattle.rss_session.specs.Definitions.{entry_of, link_entry, AreEmpty, Relists, Redefines}
use Rattle.rss_session.specs.Definitions.Relists.{segment, relation, drop_segment, drop_relation, link, drop_link}
use Rattle.rss_session.specs.Parts.{view}
use Rattle.rss_session.specs.Sessions.{SessionView, IsReady, CanSave, IsEarly}
use Rattle.rss_session.specs.Shown.{Shows}
use Rattle.rss_session.specs.declared.session.Session.{Session}
use Rattle.rss_session.proofs.Defined.{none_changed, none_marked}
use Rattle.rss_session.proofs.Linked.{link_free, link_high, link_unnamed}
use Rattle.rss_session.proofs.Rebuilt.{IsRebuilt, stands_behind}

-- ---- the pages

-- the link has a chain below this parent, or without one
abbrev HasChain : Tables → Name → Option Tid → Type 0
HasChain tables name parent = is_some (content tables.contents (ChainItem name parent)) ≡ true

-- The call defines so, and the pages spell its tables, whose definitions are listed anew. A relation that has a tuple is defined as it was, and so is a link that has a chain.
pub record IsRelisted (held : Held) (call : Call) (listing : Listing) (tables : Tables) : Type 0 where
  pub definitions : Definitions
  pub so : defined call tables ≡ Some (with_definitions definitions tables)
  pub spells : SpellsTables held listing (with_definitions definitions tables)
  pub still : (relation : Name) (tid : Tid) → IsLive tables relation tid → get definitions.relations relation ≡ get tables.definitions.relations relation
  pub linked : (name : Name) (parent : Option Tid) → HasChain tables name parent → get definitions.links name ≡ get tables.definitions.links name

-- the relation of each tuple is defined
abbrev AreDefined : Tables → Type 0
AreDefined tables = (relation : Name) (tid : Tid) → IsLive tables relation tid → is_some (get tables.definitions.relations relation) ≡ true

-- where no relation of a listed link has tuples, it has no chain
no_chain : {held : Held} {tables : Tables} {listing : Listing} → SpellsTables held listing tables → LinksFit tables → (number : ℕ) (entry : LinkEntry) → link_at listing number ≡ Some entry → HasNoTuples listing tables.contents entry
    → (parent : Option Tid) → HasChain tables entry.name parent → ⊥
no_chain {tables = tables} {listing = listing} spells links number entry at none parent there =
    let held = some_of (content tables.contents (ChainItem entry.name parent)) there in
    let of = links.chains entry.name parent held.0 held.1 in
    let so = listed_link spells.listed number entry at in
    let same : of.definition ≡ link_definition listing entry so.0 = same_Some _ _ (sym of.defined ∙ spells.defines.paths.links number entry so.0 so.1) in
    let role : has_role entry.child (Some entry) ≡ true = rw (eq-eqb entry.child entry.child refl) refl in
    member so.0.name (none_counted tables.contents so.0.name (none entry.child so.0 role so.1.within)) of.tids of.some
    (subst (λ (d : LinkDef). All (λ tid. is_there tables.contents d.child tid ≡ true) of.tids) same of.members)
  where
    member : (name : Name) → ((tid : Tid) → content tables.contents (TupleItem name tid) ≡ None) → (tids : List Tid) → 1 ≤ length tids → All (λ tid. is_there tables.contents name tid ≡ true) tids → ⊥
    member name absent [] some members = omega (arith, some)
    member name absent (tid ∷ tids) some members = true≢false (sym (members 0 tid (omega arith)) ∙ ap is_some (absent tid))

-- a link that has a chain is defined
chain_defined : {tables : Tables} → LinksFit tables → (name : Name) (parent : Option Tid) → HasChain tables name parent → is_some (get tables.definitions.links name) ≡ true
chain_defined {tables = tables} links name parent there =
    let held = some_of (content tables.contents (ChainItem name parent)) there in
    ap is_some (links.chains name parent held.0 held.1).defined

-- no relation of the link has tuples by the counts of the listing
none_counted_in : {held : Held} {tables : Tables} {listing : Listing} → SpellsTables held listing tables → (entry : LinkEntry) → AreEmpty listing entry → HasNoTuples listing tables.contents entry
none_counted_in spells entry none number its role at = spells.counts number its at ∙ none number its role at

pub relisted : {held : Held} {tables : Tables} {old new : Listing} {call : Call} → SpellsTables held old tables → AreDefined tables → LinksFit tables → Relists old call new → ListingFits new → IsRelisted held call new tables
relisted spells live links (segment name number fresh least) fits = record {
  definitions = _;
  so = refl;
  spells = segment_made_spells spells number name least fits;
  still = λ q tid lives. refl;
  linked = λ q parent there. refl;
}
relisted {tables = tables} spells live links (relation name in_segment fields at number within fresh least) fits =
    let new = relation_unnamed spells.listed spells.defines name fresh in
    record {
      definitions = _;
      so = refl;
      spells = relation_made_spells spells number (entry_of name at (originals fields)) (live name) in_segment least fits within refl new;
      still = λ q tid lives. made_other tables.definitions.relations name (relation_def in_segment fields) q (λ same.
          true≢false (sym (live q tid lives) ∙ ap (λ (n : Name). is_some (get tables.definitions.relations n)) same ∙ new));
      linked = λ q parent there. refl;
    }
relisted spells live links (drop_segment name number at none) fits = record {
  definitions = _;
  so = refl;
  spells = segment_gone_spells spells number name at (λ k r is within. none (record { number = k; relation = r; at = is; within = within })) fits;
  still = λ q tid lives. refl;
  linked = λ q parent there. refl;
}
relisted {tables = tables} spells live links (drop_relation number entry at empty none) fits =
    let no_tuples : tuple_count tables.contents entry.name ≡ 0 = spells.counts number entry at ∙ empty in
    record {
      definitions = _;
      so = refl;
      spells = relation_gone_spells spells number entry at no_tuples (λ k image is same. none (record { number = k; image = image; at = is; of = same })) fits;
      still = λ q tid lives. gone_other tables.definitions.relations entry.name q (λ same.
          true≢false (sym lives ∙ ap is_some (ap (λ (n : Name). content tables.contents (TupleItem n tid)) same ∙ none_counted tables.contents entry.name no_tuples tid)));
      linked = λ q parent there. refl;
    }
relisted {tables = tables} {old = listed_old} spells live links (link name parent child number its at fresh least none) fits =
    let entry : LinkEntry = link_entry name parent child in
    let new = link_unnamed spells.listed spells.defines name fresh in
    record {
      definitions = _;
      so = refl;
      spells = link_made_spells spells number least.low (link_high least spells.listed) (link_free least) entry its at refl refl (none_counted_in spells entry none) fits;
      still = λ q tid lives. refl;
      linked = λ q above there. made_other tables.definitions.links name (link_definition listed_old entry its) q (λ same.
          true≢false (sym (chain_defined links q above there) ∙ ap (λ (n : Name). is_some (get tables.definitions.links n)) same ∙ new));
    }
relisted {tables = tables} spells live links (drop_link number entry at empty_now) fits =
    let none = none_counted_in spells entry empty_now in
    record {
      definitions = _;
      so = refl;
      spells = link_gone_spells spells number entry at links none fits;
      still = λ q tid lives. refl;
      linked = λ q parent there. gone_other tables.definitions.links entry.name q (λ same.
          no_chain spells links number entry at none parent (subst (λ (n : Name). HasChain tables n parent) same there));
    }

-- ---- where an image is listed, the pages spell tables

tuples_defined : {tables : Tables} → AreTuples tables → AreDefined tables
tuples_defined {tables = tables} tuples q tid lives =
    let held = some_of _ lives in
    by (get tables.definitions.relations q) (tuples q tid held.0 held.1).defined
  where
    by : {fields : List FieldForm} (found : Option RelationDef) → option_map (λ (r : RelationDef). kinds r.fields) found ≡ Some fields → is_some found ≡ true
    by {fields = fields} None is = absurd (none-some fields is)
    by (Some def) is = refl

-- the images are those that were listed
images_kept : {old new : Listing} {call : Call} → Relists old call new → new.images ≡ old.images
images_kept (segment name number fresh least) = refl
images_kept (relation name in_segment fields at number within fresh least) = refl
images_kept (drop_segment name number at none) = refl
images_kept (drop_relation number entry at live none) = refl
images_kept (link name parent child number its at fresh least none) = refl
images_kept (drop_link number entry at none) = refl

-- each of them is one of the relation that it was one of
abbrev KeepRelations : Listing → Listing → Type 0
KeepRelations old new = (number : ℕ) (image : ImageEntry) → image_at old number ≡ Some image → relation_at new image.relation ≡ relation_at old image.relation

-- so their nodes are those that there were
nodes_relisted : {held : Held} {old new : Listing} (slots : ℕ) → new.images ≡ old.images → KeepRelations old new → AreNodesWithin slots held old → AreNodesWithin slots held new
nodes_relisted {old = old} slots images keeps nodes number image its listed =
    let at : image_at old number ≡ Some image = ap (λ (l : List (Option ImageEntry)). numbered l number) (sym images) ∙ listed.at in
    nodes number image its (record { at = at; within = sym (keeps number image at) ∙ listed.within })

-- the chains are such as links have still
links_relisted : {held : Held} {call : Call} {listing : Listing} {tables : Tables} (now : IsRelisted held call listing tables) → LinksFit tables → LinksFit (with_definitions now.definitions tables)
links_relisted now links = record {
  chains = λ name parent held at.
      let of = links.chains name parent held at in
      record {
        definition = of.definition;
        tids = of.tids;
        defined = now.linked name parent (ap is_some at) ∙ of.defined;
        is = of.is;
        some = of.some;
        members = of.members;
        once = of.once;
        under = of.under;
      };
  alone = links.alone;
}

tables_relisted : {pages : PagesView} {old new : CatalogView} {call : Call} → Relists old.listing call new.listing → (ListingFits old.listing → ListingFits new.listing) → KeepRelations old.listing new.listing → HasTables (both pages old) → HasTables (both pages new)
tables_relisted {pages = pages} relists fits keeps has =
    let now = relisted has.spells (tuples_defined has.tuples) has.links relists (fits has.spells.listed) in
    record {
      tables = with_definitions now.definitions has.tables;
      spells = now.spells;
      tuples = λ q tid held at.
          let of = has.tuples q tid held at in
          record {
            fields = of.fields;
            values = of.values;
            defined = ap (option_map (λ (r : RelationDef). kinds r.fields)) (now.still q tid (ap is_some at)) ∙ of.defined;
            tuple = of.tuple;
            fit = of.fit;
          };
      tids = has.tids;
      few = has.few;
      links = links_relisted now has.links;
      nodes = nodes_relisted pages.slots (images_kept relists) keeps has.nodes;
    }

-- ---- the session

-- it with another catalog
abbrev pub with_catalog : CatalogView → SessionView → SessionView
with_catalog catalog view = record view { store = record view.store { catalog = catalog } }

module _ {S : Type 0} (pages_view : S → PagesView) {call : Call} {old new : Session S} (redefines : Redefines call old new) where
  abbrev before : SessionView
  before = view pages_view old

  abbrev after : SessionView
  after = view pages_view new

  -- it has another catalog, and is else as it was
  pub but_catalog : with_catalog new.store.catalog before ≡ after
  but_catalog = λ i. record {
    store = record {
      pages = pages_view (sym redefines.rest.tuples i).pages;
      catalog = new.store.catalog;
      log = sym redefines.rest.log i;
      root = sym redefines.rest.root i;
      number = sym redefines.rest.number i;
    };
    opened = told (sym redefines.rest.opened i);
    heap = sym redefines.rest.heap i;
    surviving = sym redefines.rest.surviving i;
    entries = λ number. slice_index (sym redefines.rest.entries i) number;
    survived = λ number. slice_index (sym redefines.rest.survived i) number;
  }

  -- no page was touched
  relisted_only : (catalog : CatalogView) → IsRebuilt before.store (with_catalog catalog before).store
  relisted_only catalog = record {
    log = refl;
    root = refl;
    leaves = λ stored disk. record { number_is = disk.number_is; root_is = disk.root_is; owners_are = disk.owners_are; fixes = disk.fixes };
    over = refl;
  }

  -- as many pages may have changed
  as_many : length old.store.catalog.pending ≡ system_pages → length new.store.catalog.pending ≡ system_pages
  as_many places = ap (λ (pending : List Bool). length pending) redefines.lists.pending ∙ length-set old.store.catalog.pending redefines.page true ∙ places

  -- what is defined may be committed
  pub saves_redefined : IsReady before → CanSave after
  saves_redefined ready = subst CanSave but_catalog (record {
    store = record {
      number_low = ready.store.number_low;
      number_high = ready.store.number_high;
      formed = ready.store.formed;
      size = ready.store.size;
      log_pages = ready.store.log_pages;
      area = ready.store.area;
      log = ready.store.log;
      system = ready.store.system;
      pending_places = as_many ready.store.pending_places;
      settled_now = ready.store.settled_now;
      heaps = ready.store.heaps;
      tables = λ told. ∥∥₁_map (ready.store.tables told) (tables_relisted redefines.relists redefines.fits redefines.imaged);
    };
    log = ready.log;
    placed = ready.placed;
    numbers = ready.numbers;
  })

  pub closed_redefined : after.opened.transactions ≡ empty
  closed_redefined = ap (λ opened. (told opened).transactions) redefines.rest.opened ∙ redefines.closed

  pub early_redefined : (bytes : ℕ) → IsEarly before bytes → IsEarly after bytes
  early_redefined bytes early = subst (λ (v : SessionView). IsEarly v bytes) but_catalog early

  module _ {state : State} (ready : IsReady before) (kept : Kept state) (shows : Shows before state) where
    -- the committed tables are those now
    spells : SpellsTables before.store.pages.held old.store.catalog.listing state.base
    spells = subst (λ (changes : List Change). SpellsTables before.store.pages.held old.store.catalog.listing (with_changes state.base changes)) (none_changed shows redefines.closed) shows.store.spells

    fits_new : ListingFits new.store.catalog.listing
    fits_new = redefines.fits spells.listed

    now_relisted : IsRelisted before.store.pages.held call new.store.catalog.listing state.base
    now_relisted = relisted spells (live_defined (kept_fit state kept).0) (kept_fit state kept).0.links redefines.relists fits_new

    -- the tables that are to be committed
    abbrev next : Tables
    next = with_definitions now_relisted.definitions state.base

    -- a page that isn't to be written is spelled as it was
    written : AreWritten before.store.pages.held new.store.catalog
    written page low not = elim (cases_eq page redefines.page) [
      | inl here ↦ absurd (not (
          ap (λ (pending : List Bool). get_or pending page false) redefines.lists.pending
          ∙ ap (λ (q : ℕ). get_or (slice_set old.store.catalog.pending redefines.page true) q false) here
          ∙ get_or-set_same old.store.catalog.pending redefines.page true false (omega (arith, redefines.low spells.listed, ready.store.pending_places))
          ))
      | inr other ↦
          let was = shows.store.written page low (λ pending. not (ap (λ (l : List Bool). get_or l page false) redefines.lists.pending ∙ get_or-set_other old.store.catalog.pending redefines.page page true false other ∙ pending)) in
          was ∙ ap Some (sym (redefines.others page low other))
    ]

    size_same : state.size ≡ size_of before.store.root
    size_same = shows.store.tied.size ∙ ap size_of shows.store.disk.root_is

    module _ (passed : refusal state call ≡ None) (names : DefinesNames call) where
      many : log_pages_least ≤ state.size.log_pages
      many = omega (arith, ap (λ (s : StoreSize). s.log_pages) size_same, ready.store.formed.log_least)

      redefined_before : IsRedefined (with_catalog new.store.catalog before) state next
      redefined_before = record {
        behind = stands_behind (relisted_only new.store.catalog) shows.store;
        metered = shows.counted.rooms.metered;
        none_open = none_marked shows redefines.closed;
        none_changed = none_changed shows redefines.closed;
        spells = now_relisted.spells;
        written = written;
        fit = subst (λ (s : StoreSize). Fits s.slots next) size_same (defined_fits state (kept_fit state kept).0 call next passed names now_relisted.so);
        rooms = definitions_keep_rooms state call next kept shows.counted.rooms.metered many passed names now_relisted.so;
      }

      -- the tables that the call makes may be committed
      pub is_redefined : (tables : Tables) → defined call state.base ≡ Some tables → IsRedefined after state tables
      is_redefined tables so = subst (λ (t : Tables). IsRedefined after state t) (same_Some _ _ (sym now_relisted.so ∙ so))
          (subst (λ (v : SessionView). IsRedefined v state next) but_catalog redefined_before)

      -- which there are
      pub defines_some : (tables : Tables) × (defined call state.base ≡ Some tables)
      defines_some = (next, now_relisted.so)
