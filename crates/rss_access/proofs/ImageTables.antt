-- An image was listed, and its tree built of the entries of its relation's tuples: the pages spell the tables with it.
use Rattle.std.proofs.Common.{◌≡◌, ◌≢◌, ◌-◌, ◌<◌, ◌≤◌, ◌⊎◌, inl, inr, ⊎_elim, ℕ, true, Bool, List, [], ◌∷◌, length, get_or, refl, sym, ◌∙◌, ap, subst, arith}
use Rattle.std.specs.Prelude.{Option, Some, None, All, is_some, slice_set}
use Rattle.std.specs.FinMap as map
use Rattle.std.proofs.lemmas.List.{set-set}
use Rattle.std.proofs.lemmas.Option.{none-some, same_Some}
use Rattle.rss_base.specs.DiskRule.{IsTold}
use Rattle.rss_base.specs.Nodes.{Node}
use Rattle.rss_base.specs.Paged.{Held, page_key}
use Rattle.rss_base.specs.Sizes.{images_most, system_pages}
use Rattle.rss_base.specs.Steps.{PagesView, PagesStep, no_page, pages_in}
use Rattle.rss_base.specs.Trees.{IsNodeAt}
use Rattle.rss_base.specs.TupleTypes.{kinds, chosen, key_bytes}
use Rattle.rss_base.specs.Listings.{Listing, ListingFits, ImageFits, field_numbers, image_at, relation_at, with_image, with_root}
use Rattle.rss_base.specs.declared.key.Space.TheVariants.{Image as ImageSpace}
use Rattle.rss_base.specs.declared.image.ImageEntry.{ImageEntry}
use Rattle.rss_base.specs.declared.refusal.Kind.TheVariants.{Image as ImageKind}
use Rattle.rss_base.specs.declared.relation.RelationEntry.{RelationEntry}
use Rattle.rss_base.specs.declared.tid.Tid.{Tid}
use Rattle.rss_base.specs.declared.value.FieldForm.{FieldForm}
use Rattle.rss_base.proofs.Steps.{all_held}
use Rattle.rss_value.specs.Numbers.{IsNumberOf}
use Rattle.rss_levels.specs.Entries.{Each, IsIn}
use Rattle.rss_node.specs.Nodes.{AreNodes}
use Rattle.rss_image.specs.Images.{Becomes, has_page, nodes_of as image_nodes, pages_of}
use Rattle.rss_image.specs.declared.image.Image.{Image}
use Rattle.rss_image.proofs.Kept.{page_pair}
use Rattle.rss_image.proofs.Laid.{zeros_page}
use Rattle.rss_image.proofs.Putting.{spell_one}
use Rattle.rss_tuple.specs.Directory.{bodies_of}
use Rattle.rss_catalog.specs.Catalogs.{CatalogView, Lists, page_of}
use Rattle.rss_model.specs.Tables.{Tables}
use Rattle.rss_model.specs.Defining.{with_definitions, with_image as with_image_def}
use Rattle.rss_stored.specs.Store.{AreNodesWithin, IsListedImage, IsReached, SpellsContents, SpellsTables, image_definition, nodes_of}
use Rattle.rss_stored.proofs.ImageMade.{HoldsNewImage, image_made_spells}
use Rattle.rss_model.proofs.LogLists.{by_same}
use Rattle.rss_stored.proofs.Relisted.{number_set, number_kept}
use Rattle.rss_entries.specs.Building.{pair_list}
use Rattle.rss_entries.specs.Images.{image_of}
use Rattle.rss_entries.specs.Rooms.{width_of}
use Rattle.rss_entries.proofs.Entries.{length-key}
use Rattle.rss_entries.proofs.Fitting.{fitting_nodes}
use Rattle.rss_entries.proofs.Kept.{HoldsNode, image_node}
use Rattle.rss_entries.proofs.NewImage.{HaveSpelledTids, TouchesImages, holds_new_image, segment_kept}
use Rattle.rss_entries.proofs.Orders.{each_of_in}
use Rattle.rss_entries.proofs.Showing.{same_entry, at_same}
use Rattle.rss_entries.proofs.Shown.{Shows, IsSpelledTuple, byte_list, key_fits, pair_is, tuple_pair}
use Rattle.rss_entries.proofs.Standing.{IsRowed, contained, low_cells, rowed}
use Rattle.rss_access.specs.Changes.{AccessView, HasTables, both}
use Rattle.rss_access.specs.Checking.{ShowsTuples}
use Rattle.rss_access.specs.Filling.{AreEntries}
use Rattle.rss_access.specs.Trees.{BuildsTree, FillsImage}
use Rattle.rss_access.specs.Written.{AreWritten}
use Rattle.rss_access.proofs.Checked.{all_spelled}
use Rattle.rss_access.proofs.ImageTouched.{AreLawful, are_low, touches, system_stays, one_owner, written_beside, spelled_shown, tables_imaged}
use Rattle.rss_access.proofs.NodesWithin.{nodes_below}
use Rattle.rss_access.proofs.RelationEntries.{shown, kept_bytes}

-- ---- what was done

-- The catalog listed the entry by a number that had none, and its tree was built of these pairs, in image pages of its relation's segment.
pub record Filled (old : AccessView) (listed : CatalogView) (new : AccessView) (number : ℕ) (entry : ImageEntry) (relation : RelationEntry) (pairs : List (List ℕ)) : Type 0 where
  pub free : image_at old.catalog.listing number ≡ None
  pub low : 1 ≤ number
  pub high : number ≤ images_most
  pub within : relation_at old.catalog.listing entry.relation ≡ Some relation
  pub lists : Lists (with_image old.catalog.listing number (Some entry)) (page_of ImageKind number) old.catalog listed
  pub fits : ListingFits old.catalog.listing → ListingFits listed.listing
  pub fills : FillsImage number pairs (both old.pages listed) new
  pub asks : ℕ
  pub outs : ℕ
  pub step : PagesStep (pages_in relation.segment ImageSpace) asks outs old.pages new.pages
  pub before : AreLawful old.pages
  pub after : AreLawful new.pages

-- In all tables that the pages of tuples spell, these are the pairs of an image of the relation.
abbrev pub AreBytes : AccessView → ImageEntry → RelationEntry → List (List ℕ) → Type 0
AreBytes at entry relation pairs = (tables : Tables) → ShowsTuples at tables → pairs ≡ byte_list tables entry relation

module _ {old : AccessView} {listed : CatalogView} {new : AccessView} {number : ℕ} {entry : ImageEntry} {relation : RelationEntry} {pairs : List (List ℕ)} (filled : Filled old listed new number entry relation pairs) where
  -- the entry that is listed then
  abbrev pub entry_now : ImageEntry
  entry_now = with_root filled.fills.root filled.fills.levels entry

  abbrev image : Image
  image = image_of number entry_now relation

  told_now : IsTold old.pages.disk → IsTold new.pages.disk
  told_now told = filled.step.passes.leaves.told.0 told

  touched : IsTold old.pages.disk → TouchesImages relation.segment old.pages new.pages
  touched told = touches filled.step filled.before filled.after told

  -- ---- the listing

  module _ (fit : ListingFits old.catalog.listing) where
    within_list : number ≤ length old.catalog.listing.images
    within_list = omega (arith, filled.high, fit.paths.image_places)

    listed_there : image_at listed.listing number ≡ Some entry
    listed_there = ap (λ (l : Listing). image_at l number) filled.lists.is ∙ number_set old.catalog.listing.images number (Some entry) filled.low within_list

    -- the catalog lists the entry with its root, and its page alone may have changed
    pub filled_lists : Lists (with_image old.catalog.listing number (Some entry_now)) (page_of ImageKind number) old.catalog new.catalog
    filled_lists =
        let set = filled.fills.lists entry listed_there in
        let twice : with_image (with_image old.catalog.listing number (Some entry)) number (Some entry_now) ≡ with_image old.catalog.listing number (Some entry_now) =
        λ i. record old.catalog.listing { images = set-set old.catalog.listing.images (number - 1) (Some entry) (Some entry_now) i } in
        record {
          is = set.is ∙ ap (λ (l : Listing). with_image l number (Some entry_now)) filled.lists.is ∙ twice;
          pending = set.pending ∙ ap (λ (l : List Bool). slice_set l (page_of ImageKind number) true) filled.lists.pending ∙ set-set old.catalog.pending (page_of ImageKind number) true true;
        }

    pub filled_fits : ListingFits new.catalog.listing
    filled_fits = filled.fills.fits (filled.fits fit)

    pub filled_listed : IsListedImage new.catalog.listing number entry_now relation
    filled_listed = record {
      at = ap (λ (l : Listing). image_at l number) filled_lists.is ∙ number_set old.catalog.listing.images number (Some entry_now) filled.low within_list;
      within = ap (λ (l : Listing). relation_at l entry.relation) filled_lists.is ∙ filled.within;
    }

    -- another image was listed so
    listed_back : {k : ℕ} {other : ImageEntry} {its : RelationEntry} → k ≢ number → IsListedImage new.catalog.listing k other its → IsListedImage old.catalog.listing k other its
    listed_back {k = k} {other = other} apart l = record {
      at = sym (ap (λ (l : Listing). image_at l k) filled_lists.is ∙ number_kept old.catalog.listing.images number (Some entry_now) filled.low k apart) ∙ l.at;
      within = sym (ap (λ (l : Listing). relation_at l other.relation) filled_lists.is) ∙ l.within;
    }

    nodes_fit : AreNodes (image_nodes image)
    nodes_fit = fitting_nodes new.catalog.listing filled_fits number entry_now relation filled_listed

    builds : IsTold old.pages.disk → BuildsTree image pairs old.pages new.pages
    builds told = filled.fills.builds told entry_now relation filled_listed

    -- the pages of the catalog
    pub filled_written : IsTold old.pages.disk → length old.catalog.pending ≡ system_pages → AreWritten old.pages.held old.catalog → AreWritten new.pages.held new.catalog
    filled_written told places written = written_beside number (Some entry_now) filled_lists filled.high places old.pages.held new.pages.held (system_stays filled.step told) written

  -- ---- the tables

  module _ (told : IsTold old.pages.disk) {tables : Tables} (spells : SpellsTables old.pages.held old.catalog.listing tables) (tids : HaveSpelledTids tables) (are : pairs ≡ byte_list tables entry relation) where
    abbrev tables_now : Tables
    tables_now = with_definitions (with_image_def tables.definitions entry.name (image_definition entry relation)) tables

    becomes : Becomes image image old.pages new.pages [] (byte_list tables entry_now relation)
    becomes = subst (λ (ps : List (List ℕ)). Becomes image image old.pages new.pages [] ps) are (builds spells.listed told).becomes

    holds : HoldsNewImage old.pages.held new.pages.held old.catalog.listing tables number entry_now relation
    holds = holds_new_image number entry_now relation spells.images tids (touched told) becomes

    -- The pages spell the tables with the image.
    pub filled_spells : SpellsTables new.pages.held new.catalog.listing (with_definitions (with_image_def tables.definitions entry.name (image_definition entry relation)) tables)
    filled_spells =
        let lists = filled_lists spells.listed in
        subst (λ (l : Listing). SpellsTables new.pages.held l tables_now) (sym lists.is)
        (image_made_spells spells number filled.low filled.high filled.free entry_now relation filled.within (subst ListingFits lists.is (filled_fits spells.listed)) holds)

    -- ---- identifiers in nodes

    -- each page of the tree holds one of its nodes
    tree_node : (page : ℕ) → IsIn (pages_of becomes.tree) page → HoldsNode new.pages.held (nodes_of number entry_now relation) page
    tree_node page own =
        let rows : IsRowed new.pages.held tables number entry_now relation holds.pages = rowed (are_low filled.after (told_now told)) (nodes_fit spells.listed) holds.spells in
        let pairs_now = byte_list tables entry_now relation in
        let same = (spell_one image new.pages.held pairs_now pairs_now becomes.tree rows.tree).pages_are in
        image_node holds.spells.tree page (rows.same.into page (subst (λ (ns : List ℕ). IsIn ns page) same own))

    -- a page of the segment is as it was, or one of the tree's
    was_or_own : (page : ℕ) (bytes : List ℕ) → new.pages.held (page_key relation.segment ImageSpace page) ≡ Some bytes
        → (old.pages.held (page_key relation.segment ImageSpace page) ≡ Some bytes) ⊎ IsIn (pages_of becomes.tree) page
    was_or_own page bytes there = by (old.pages.held (page_key relation.segment ImageSpace page)) refl
      where
        by : (was : Option (List ℕ)) → old.pages.held (page_key relation.segment ImageSpace page) ≡ was → (old.pages.held (page_key relation.segment ImageSpace page) ≡ Some bytes) ⊎ IsIn (pages_of becomes.tree) page
        by (Some before) is = inl (is ∙ sym (becomes.keeps.same page before (λ none. none) is) ∙ there)
        by None is = ⊎_elim
            (λ (own : IsIn (pages_of becomes.tree) page). inr own)
            (λ (gone : new.pages.held (page_key relation.segment ImageSpace page) ≡ None). absurd (none-some bytes (sym gone ∙ there)))
            (becomes.loses_none page (inr is))

    -- no page held a node of the image before
    never : (page : ℕ) (node : Node) → IsNodeAt old.pages.held (nodes_of number entry_now relation) page node → ⊥
    never page node at =
        let one : IsReached old.pages.held old.catalog.listing tables (page_key relation.segment ImageSpace page) = spells.images.reached (page_key relation.segment ImageSpace page) refl (ap is_some at.there) in
        let same : one.number ≡ number = one_owner (sym one.segment) (image_node one.spells.tree page (contained one.pages page one.among)) at in
        none-some one.image (sym filled.free ∙ ap (image_at old.catalog.listing) (sym same) ∙ one.at.at)

    -- a node of another image stands where it stood
    other_node : (k : ℕ) (other : ImageEntry) (its : RelationEntry) → k ≢ number → (page : ℕ) (node : Node) → IsNodeAt new.pages.held (nodes_of k other its) page node → IsNodeAt old.pages.held (nodes_of k other its) page node
    other_node k other its apart page node at = record { bytes = at.bytes; there = there; is = at.is }
      where
        there : old.pages.held (page_key its.segment ImageSpace page) ≡ Some at.bytes
        there = by_same its.segment relation.segment
            (λ same. ap (λ (s : ℕ). old.pages.held (page_key s ImageSpace page)) same ∙ ⊎_elim
            (λ (was : old.pages.held (page_key relation.segment ImageSpace page) ≡ Some at.bytes). was)
            (λ (own : IsIn (pages_of becomes.tree) page). absurd (apart (sym (one_owner (sym same) (tree_node page own) at))))
            (was_or_own page at.bytes (ap (λ (s : ℕ). new.pages.held (page_key s ImageSpace page)) (sym same) ∙ at.there)))
            (λ off. sym (segment_kept (touched told) (page_key its.segment ImageSpace page) off) ∙ at.there)

    module _ (good : Each (λ p. has_page (width_of entry relation) new.pages.slots p ≡ true) pairs) where
      -- its own nodes
      own_within : (page : ℕ) (node : Node) → IsNodeAt new.pages.held (nodes_of number entry_now relation) page node → All (λ e. e.tid.page < new.pages.slots) node.entries
      own_within page node at = ⊎_elim
          (λ (was : old.pages.held (page_key relation.segment ImageSpace page) ≡ Some at.bytes). absurd (never page node (record { bytes = at.bytes; there = was; is = at.is })))
          (λ (own : IsIn (pages_of becomes.tree) page). nodes_below new.pages.held (image_nodes image) (nodes_fit spells.listed) (low_cells new.pages.held (are_low filled.after (told_now told)) (image_nodes image)) new.pages.slots (zeros_page (width_of entry relation) new.pages.slots some)
          (byte_list tables entry_now relation) (becomes.tree.top ∷ []) becomes.tree.lower ((builds spells.listed told).within good (byte_list tables entry_now relation) becomes.tree) becomes.tree.tree.stack page own node at)
          (was_or_own page at.bytes at.there)
        where
          some : 0 < new.pages.slots
          some =
              let key = page_key relation.segment ImageSpace page in
              let low : page < new.pages.slots = (filled.after.allowed key (sym (filled.after.holds (told_now told) key) ∙ ap is_some at.there)).number in
              omega (arith, low)

      -- The identifiers in the nodes of images have pages below the number of slots, where those of the pairs have.
      pub filled_nodes : AreNodesWithin old.pages.slots old.pages.held old.catalog.listing → AreNodesWithin new.pages.slots new.pages.held new.catalog.listing
      filled_nodes within k other its l page node at = by_same k number
          (λ here. own_within page node (at_same (λ n e r. IsNodeAt new.pages.held (nodes_of n e r) page node) here (same_entry l (filled_listed spells.listed) here) at))
          (λ apart. subst (λ (slots : ℕ). All (λ e. e.tid.page < slots) node.entries) (sym filled.step.passes.slots) (within k other its (listed_back spells.listed apart l) page node (other_node k other its apart page node at)))

  -- ---- pairs of the tables

  numbers_fit : ListingFits old.catalog.listing → All (IsNumberOf relation.fields) (field_numbers entry)
  numbers_fit fit =
      let its : ImageFits listed.listing entry = (filled.fits fit).paths.images number entry (listed_there fit) in
      let same : its.relation ≡ relation = same_Some _ _ (sym its.listed ∙ ap (λ (l : Listing). relation_at l entry.relation) filled.lists.is ∙ filled.within) in
      λ k d low.
      let is = its.within k d low in
      (is.low, subst (λ (r : RelationEntry). get_or (field_numbers entry) k d ≤ length r.fields) same is.high)

  -- the entries of the relation's tuples are such
  pub entries_bytes : (entries : List (List ℕ × Tid)) → AreEntries old entry.relation relation (field_numbers entry) entries → AreBytes old entry relation (pair_list entries)
  entries_bytes entries are tables shows =
      ap pair_list (are tables entry shows filled.within refl) ∙ kept_bytes filled.before.small shows entry.relation filled.within entry (numbers_fit shows.listed)

  abbrev good : List ℕ → Bool
  good pair = has_page (width_of entry relation) old.pages.slots pair

  -- their identifiers have pages below the number of slots
  bytes_good : {tables : Tables} (shows : ShowsTuples old tables) → Each (λ p. good p ≡ true) (byte_list tables entry relation)
  bytes_good {tables = tables} shows = each_of_in (λ p. good p ≡ true) (byte_list tables entry relation) (λ p is.
      let of = tuple_pair its_tuples p is in
      let fields : List FieldForm = kinds (chosen (field_numbers entry) relation.fields) in
      let key : List ℕ = key_bytes fields (chosen (field_numbers entry) of.values) in
      let spelled : IsSpelledTuple relation of.tid of.values = its_tuples.tuples of.tid of.values of.there in
      let long : length key ≡ width_of entry relation = length-key fields (chosen (field_numbers entry) of.values) key (key_fits entry relation of.tid of.values spelled) in
      ap good (sym of.is) ∙ ap good (sym (pair_is entry relation of.tid of.values))
      ∙ page_pair (width_of entry relation) old.pages.slots key of.tid long spelled.spelled (shows.tids relation.name of.tid (ap is_some of.there)).page)
    where
      its_tuples : Shows tables entry relation
      its_tuples = shown filled.before.small shows entry.relation filled.within entry (numbers_fit shows.listed)

  -- ---- where pages spell tables

  module _ (told : IsTold old.pages.disk) (bytes : AreBytes old entry relation pairs) where
    -- from each such tables they come to spell those with the image
    pub filled_shows : {tables : Tables} → SpellsTables old.pages.held old.catalog.listing tables → ShowsTuples old tables
        → SpellsTables new.pages.held new.catalog.listing (with_definitions (with_image_def tables.definitions entry.name (image_definition entry relation)) tables)
    filled_shows {tables = tables} spells shows = filled_spells told spells (all_spelled filled.before.small shows) (bytes tables shows)

    pairs_good : {tables : Tables} → ShowsTuples old tables → Each (λ p. has_page (width_of entry relation) new.pages.slots p ≡ true) pairs
    pairs_good {tables = tables} shows =
        subst (λ (ps : List (List ℕ)). Each (λ p. has_page (width_of entry relation) new.pages.slots p ≡ true) ps) (sym (bytes tables shows))
        (subst (λ (slots : ℕ). Each (λ p. has_page (width_of entry relation) slots p ≡ true) (byte_list tables entry relation)) (sym filled.step.passes.slots) (bytes_good shows))

    -- so there are such
    pub filled_tables : HasTables old → HasTables new
    filled_tables has =
        let shows : ShowsTuples old has.tables = spelled_shown has.spells has.tuples has.tids in
        tables_imaged (map.insert has.tables.definitions.images entry.name (image_definition entry relation)) filled.step.passes.slots has (filled_shows has.spells shows)
        (filled_nodes told has.spells (all_spelled filled.before.small shows) (bytes has.tables shows) (pairs_good shows) has.nodes)

-- ---- entries that were gathered

-- after a search they are those that they were
pub entries_still : {asks outs : ℕ} {old new : PagesView} (catalog : CatalogView) (number : ℕ) (relation : RelationEntry) (which : List ℕ) (entries : List (List ℕ × Tid)) → PagesStep no_page asks outs old new → IsTold old.disk → AreEntries (both old catalog) number relation which entries → AreEntries (both new catalog) number relation which entries
entries_still {old = old} {new = new} catalog number relation which entries step told are tables other shows = are tables other (record {
  listed = shows.listed;
  defines = shows.defines;
  counts = shows.counts;
  contents = subst (λ (h : Held). SpellsContents catalog.listing (bodies_of h) tables.contents) (all_held step told) shows.contents;
  tuples = shows.tuples;
  tids = λ name tid live.
      let id = shows.tids name tid live in
      record { page = omega (arith, id.page, step.passes.slots); slot = id.slot };
})
