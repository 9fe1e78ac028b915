-- The tables that bodies spell are gathered: those of the tuples that the bodies are, with the chains that are found of each listed link.
use Rattle.std.proofs.Common.{◌≡◌, ◌⊎◌, inl, inr, ⊎_elim, ℕ, suc, ◌+◌, ◌-◌, ◌<◌, ◌≤◌, Bool, true, false, List, [], ◌∷◌, ◌++◌, length, get_or, take, drop, Option, Some, None, refl, sym, ◌∙◌, ap, subst, arith}
use Rattle.std.specs.Prelude.{◌≢◌, not, is_some, IfSome, flat_map, map as list_map, option_map, option_and_then}
use Rattle.std.specs.FinMap as map
use Rattle.std.proofs.lemmas.Bool.{cases_eq}
use Rattle.std.proofs.lemmas.Option.{same_Some}
use Rattle.std.proofs.lemmas.List.Sums.{sum_by_more_le}
use Rattle.rss_base.specs.Listings.{Listing, relation_at, link_at}
use Rattle.rss_base.specs.Prefixes.{Ends, Part, early_part, lower_part, block_size, listed_block_size, prefix_size, first_of, last_of, ends_of, parent_block}
use Rattle.rss_base.specs.TupleTypes.{tuple_bytes}
use Rattle.rss_base.specs.declared.name.Name.{Name}
use Rattle.rss_base.specs.declared.tid.Tid.{Tid}
use Rattle.rss_base.specs.declared.value.Value.{Value}
use Rattle.rss_base.specs.declared.item.Item.{Item}
use Rattle.rss_base.specs.declared.item.Item.TheVariants.{Segment as SegmentItem, Relation as RelationItem, Tuple as TupleItem, Chain as ChainItem, Key as KeyItem}
use Rattle.rss_base.specs.declared.relation.RelationEntry.{RelationEntry}
use Rattle.rss_base.specs.declared.link.LinkEntry.{LinkEntry}
use Rattle.rss_tuple.specs.Directory.{Bodies}
use Rattle.rss_tuple.specs.TupleSteps.{TuplesView}
use Rattle.rss_model.specs.Items.{Content}
use Rattle.rss_model.specs.Tables.{LinkDef, Contents, Tables, content, put}
use Rattle.rss_model.specs.Chains.{tuples_in, chain_content, chain, stands_in, is_there, HasParent, LinksFit}
use Rattle.rss_stored.specs.Store.{fields_at, SpellsContents, IsListedLink, IsTupleItem, IsChainItem, block_of, listed_block, body_of, relation_name, link_definition}
use Rattle.rss_model.proofs.Codes.{item_apart, name_apart}
use Rattle.rss_stored.proofs.Listed.{at_place}
use Rattle.rss_model.proofs.Locking.{in_entries, in_keys}
use Rattle.rss_model.proofs.LogChanging.{by_item, put_here, put_other}
use Rattle.rss_model.proofs.LogLists.{some_of, none_some}
use Rattle.rss_model.proofs.Mixing.{In, all_of}
use Rattle.rss_stored.proofs.Spelled.{name_numbered, named_link, listed_link}
use Rattle.rss_model.proofs.Standing.{stands_of, tuples_of, content_of}
use Rattle.rss_model.proofs.Testing.{in_flat}
use Rattle.rss_link.specs.Blocks.{HasBytes}
use Rattle.rss_link.specs.Calls.{seen_with}
use Rattle.rss_link.specs.Chains.{Lists, IsParent}
use Rattle.rss_link.specs.Checking.{HasChains}
use Rattle.rss_link.specs.Links.{SpellChains}
use Rattle.rss_link.specs.Prefixed.{IsLowerBlock, BodyHas, AreLists, IsPrefixed}
use Rattle.rss_link.proofs.Prefixed.{prefixed}
use Rattle.rss_members.specs.Members.{block_at, segment_in, segment_of, of_parents, chains_of, listed_ends, is_parent, SpellsMembers}
use Rattle.rss_members.proofs.Prefixed.{long_block}
use Rattle.rss_members.proofs.Chained.{lower_block, full}
use Rattle.rss_members.proofs.Linked.{one_lower_block}
use Rattle.rss_members.proofs.Spelled.{part_of_child, part_of_parent, part_outside}
use Rattle.rss_members.proofs.Gathered.{HoldsValues, SpellsTuples, relations_of, linked, linked_read, linkage_same}
use Rattle.rss_members.proofs.GatheredBytes.{prefix_is, within_prefix}

-- ---- lists

in_image : {A B : Type 0} (f : A → B) (xs : List A) (a : A) → In a xs → In (f a) (list_map f xs)
in_image f [] a is = absurd is
in_image f (x ∷ xs) a (inl e) = inl (ap f e)
in_image f (x ∷ xs) a (inr is) = inr (in_image f xs a is)

-- a list in which nothing stands, and one in which something does
none_stands : (tids : List Tid) → ((x : Tid) → stands_in x tids ≡ true → ⊥) → tids ≡ []
none_stands [] off = refl
none_stands (x ∷ tids) off = absurd (off x (stands_of (x ∷ tids) x (inl refl)))

some_stands : (tids : List Tid) → 1 ≤ length tids → (x : Tid) × (stands_in x tids ≡ true)
some_stands [] some = absurd (omega (arith, some))
some_stands (x ∷ tids) some = (x, stands_of (x ∷ tids) x (inl refl))

-- a link has a parent where its definition has one
same_kind : (listing : Listing) (child : ℕ) (above : Option ℕ) → IfSome above (λ n. (is_some (relation_at listing n) ≡ true) × (n ≢ child)) → is_some (option_and_then (relation_name listing) above) ≡ is_some above
same_kind listing child None fit = refl
same_kind listing child (Some n) fit = ap (λ (o : Option RelationEntry). is_some (option_map (λ relation. relation.name) o)) (some_of (relation_at listing n) fit.0).1

as_under : (contents : Contents) (above : Option Name) (parent : Option Tid) → IsParent (not (is_some above)) (is_parent contents above) parent → HasParent contents above parent
as_under contents None None is = tt
as_under contents None (Some parent) is = is
as_under contents (Some relation) None is = is
as_under contents (Some relation) (Some parent) is = is

-- ---- contents with more items

-- these items hold what they are to hold, and all others what they held
abbrev filled : (Item → Option Content) → Contents → List Item → Contents
filled what contents [] = contents
filled what contents (item ∷ items) = put (filled what contents items) item (what item)

filled_at : (what : Item → Option Content) (contents : Contents) (items : List Item) (item : Item) → In item items ⊎ (content contents item ≡ what item) → content (filled what contents items) item ≡ what item
filled_at what contents [] item (inl among) = absurd among
filled_at what contents [] item (inr is) = is
filled_at what contents (first ∷ items) item where' = by_item item first
    (λ same. put_here (filled what contents items) first item (what first) same ∙ ap what (sym same))
    (λ off. put_other (filled what contents items) first item (what first) off
    ∙ filled_at what contents items item (⊎_elim (λ among. ⊎_elim (λ same. absurd (off (sym same))) (λ rest. inl rest) among) (λ is. inr is) where'))

-- what is held of chains is what these lists say, and of tuples what these contents hold
abbrev what_of : Contents → (Name → Lists) → Item → Option Content
what_of contents lists (SegmentItem name) = None
what_of contents lists (RelationItem name) = None
what_of contents lists (TupleItem relation tid) = content contents (TupleItem relation tid)
what_of contents lists (ChainItem name parent) = chain_content (lists name parent)
what_of contents lists (KeyItem image values) = None

-- the parent that a tuple may be
abbrev above_in : Item → Option Tid
above_in (SegmentItem name) = None
above_in (RelationItem name) = None
above_in (TupleItem relation tid) = Some tid
above_in (ChainItem name parent) = None
above_in (KeyItem image values) = None

-- the chains that a link may have
abbrev chains_in : Contents → Name → List Item
chains_in contents name = ChainItem name None ∷ list_map (λ item. ChainItem name (above_in item)) (map.keys contents)

-- ---- tables with chains

module _ {listing : Listing} {bodies : Bodies} {tables : Tables} (spells : SpellsTuples listing bodies tables)
    (alone : (item : Item) → is_some (content tables.contents item) ≡ true → IsTupleItem listing item) (lists : Name → Lists)
    (chained : (number : ℕ) (link : LinkEntry) → link_at listing number ≡ Some link → SpellChains (chains_of listing number link) (listed_ends link) bodies (linked_read listing bodies number link (lists link.name)))
    (no_ends : (number : ℕ) (link : LinkEntry) → link_at listing number ≡ Some link → is_some link.parent ≡ true → (link.first ≡ None) × (link.last ≡ None))
    (none : (name : Name) → map.get tables.definitions.links name ≡ None → (parent : Option Tid) → lists name parent ≡ []) where
  -- ---- the lists of a link

  its : (number : ℕ) (link : LinkEntry) (child : RelationEntry) → IsListedLink listing number link child
      → IsPrefixed (chains_of listing number link) (listed_ends link) bodies (linked tables.contents (link_definition listing link child) (lists link.name))
  its number link child is =
      subst (IsPrefixed (chains_of listing number link) (listed_ends link) bodies) (linkage_same spells number link is.at child is.within (lists link.name)) (prefixed (chained number link is.at))

  kind : (number : ℕ) (link : LinkEntry) (child : RelationEntry) → IsListedLink listing number link child → is_some (link_definition listing link child).parent ≡ is_some link.parent
  kind number link child is = same_kind listing link.child link.parent (spells.listed.paths.links number link is.at).parent

  -- a defined link is listed
  record IsListedAs (name : Name) (definition : LinkDef) : Type 0 where
    number : ℕ
    link : LinkEntry
    child : RelationEntry
    is : IsListedLink listing number link child
    named : link.name ≡ name
    defined : link_definition listing link child ≡ definition

  listed_as : (name : Name) (definition : LinkDef) → map.get tables.definitions.links name ≡ Some definition → IsListedAs name definition
  listed_as name definition is =
      let has = named_link listing name (spells.defines.paths.only_links name (ap is_some is)) in
      let so = listed_link spells.listed has.number has.link has.at in
      record {
        number = has.number;
        link = has.link;
        child = so.0;
        is = so.1;
        named = has.named;
        defined = same_Some _ _ (sym (spells.defines.paths.links has.number has.link so.0 so.1) ∙ ap (map.get tables.definitions.links) has.named ∙ is);
      }

  are_lists : (name : Name) (definition : LinkDef) → map.get tables.definitions.links name ≡ Some definition → AreLists (not (is_some definition.parent)) (linked tables.contents definition (lists name))
  are_lists name definition is =
      let had = listed_as name definition is in
      subst (λ (n : Name). AreLists (not (is_some definition.parent)) (linked tables.contents definition (lists n))) had.named
      (subst (λ (d : LinkDef). AreLists (not (is_some d.parent)) (linked tables.contents d (lists had.link.name))) had.defined
      (subst (λ (u : Bool). AreLists u (linked tables.contents (link_definition listing had.link had.child) (lists had.link.name))) (ap not (sym (kind had.number had.link had.child had.is)))
      (its had.number had.link had.child had.is).lists))

  -- where something stands in a list, its link is defined
  defined_by : (name : Name) (parent : Option Tid) (x : Tid) → stands_in x (lists name parent) ≡ true → (definition : LinkDef) × (map.get tables.definitions.links name ≡ Some definition)
  defined_by name parent x stands = by (map.get tables.definitions.links name) refl
    where
      by : (found : Option LinkDef) → map.get tables.definitions.links name ≡ found → (definition : LinkDef) × (map.get tables.definitions.links name ≡ Some definition)
      by None is = let bare : stands_in x [] ≡ true = subst (λ (l : List Tid). stands_in x l ≡ true) (none name is parent) stands in absurd (cc (bare))
      by (Some definition) is = (definition, is)

  -- ---- the contents

  abbrev pub now : Contents
  now = filled (what_of tables.contents lists) tables.contents (flat_map (chains_in tables.contents) (map.keys tables.definitions.links))

  abbrev pub tables_now : Tables
  tables_now = record { definitions = tables.definitions; contents = now }

  no_tuple_no_item : (item : Item) → ((relation : Name) (tid : Tid) → item ≡ TupleItem relation tid → ⊥) → content tables.contents item ≡ None
  no_tuple_no_item item off = by (content tables.contents item) refl
    where
      by : (found : Option Content) → content tables.contents item ≡ found → found ≡ None
      by None is = refl
      by (Some held) is = let of = alone item (ap is_some is) in absurd (off of.relation.name of.tid of.is)

  chain_among : (name : Name) (parent : Option Tid) (definition : LinkDef) → HasParent tables.contents definition.parent parent → In (ChainItem name parent) (chains_in tables.contents name)
  chain_among name parent definition under = by definition.parent parent under
    where
      by : (above : Option Name) (p : Option Tid) → HasParent tables.contents above p → In (ChainItem name p) (chains_in tables.contents name)
      by None None has = inl refl
      by None (Some p) has = absurd has
      by (Some relation) None has = absurd has
      by (Some relation) (Some p) has =
          let held = some_of (content tables.contents (TupleItem relation p)) has in
          inr (in_image (λ item. ChainItem name (above_in item)) (map.keys tables.contents) (TupleItem relation p)
          (in_keys (map.entries tables.contents) (TupleItem relation p) held.0 (in_entries item_apart tables.contents (TupleItem relation p) held.0 held.1)))

  chain_put : (name : Name) (parent : Option Tid) (x : Tid) → stands_in x (lists name parent) ≡ true → In (ChainItem name parent) (flat_map (chains_in tables.contents) (map.keys tables.definitions.links))
  chain_put name parent x stands =
      let its_link = defined_by name parent x stands in
      in_flat (chains_in tables.contents) (map.keys tables.definitions.links) name (ChainItem name parent)
      (in_keys (map.entries tables.definitions.links) name its_link.0 (in_entries name_apart tables.definitions.links name its_link.0 its_link.1))
      (chain_among name parent its_link.0 (as_under tables.contents its_link.0.parent parent ((are_lists name its_link.0 its_link.1).parents parent x stands)))

  now_holds : (item : Item) → In item (flat_map (chains_in tables.contents) (map.keys tables.definitions.links)) ⊎ (content tables.contents item ≡ what_of tables.contents lists item) → content now item ≡ what_of tables.contents lists item
  now_holds item is = filled_at (what_of tables.contents lists) tables.contents (flat_map (chains_in tables.contents) (map.keys tables.definitions.links)) item is

  now_is : (item : Item) → content now item ≡ what_of tables.contents lists item
  now_is (SegmentItem name) = now_holds (SegmentItem name) (inr (no_tuple_no_item (SegmentItem name) (λ relation tid e. cc (e))))
  now_is (RelationItem name) = now_holds (RelationItem name) (inr (no_tuple_no_item (RelationItem name) (λ relation tid e. cc (e))))
  now_is (TupleItem relation tid) = now_holds (TupleItem relation tid) (inr refl)
  now_is (ChainItem name parent) = now_holds (ChainItem name parent) (by (lists name parent) refl)
    where
      by : (found : List Tid) → lists name parent ≡ found → In (ChainItem name parent) (flat_map (chains_in tables.contents) (map.keys tables.definitions.links)) ⊎ (content tables.contents (ChainItem name parent) ≡ chain_content (lists name parent))
      by [] is = inr (no_tuple_no_item (ChainItem name parent) (λ relation tid e. cc (e)) ∙ sym (ap chain_content is))
      by (x ∷ tids) is = inl (chain_put name parent x (ap (stands_in x) is ∙ stands_of (x ∷ tids) x (inl refl)))
  now_is (KeyItem image values) = now_holds (KeyItem image values) (inr (no_tuple_no_item (KeyItem image values) (λ relation tid e. cc (e))))

  -- the tuples are the same, and the chains those of the lists
  pub tuple_is : (relation : Name) (tid : Tid) → content now (TupleItem relation tid) ≡ content tables.contents (TupleItem relation tid)
  tuple_is relation tid = now_is (TupleItem relation tid)

  there_is : (relation : Name) (tid : Tid) → is_there now relation tid ≡ is_there tables.contents relation tid
  there_is relation tid = ap is_some (tuple_is relation tid)

  chain_is : (name : Name) (parent : Option Tid) → chain now name parent ≡ lists name parent
  chain_is name parent = ap tuples_in (now_is (ChainItem name parent)) ∙ tuples_of (lists name parent)

  under_now : (above : Option Name) (parent : Option Tid) → HasParent tables.contents above parent → HasParent now above parent
  under_now None None has = tt
  under_now None (Some p) has = has
  under_now (Some relation) None has = has
  under_now (Some relation) (Some p) has = there_is relation p ∙ has

  -- ---- the links fit

  stood : (name : Name) (parent : Option Tid) (x : Tid) → stands_in x (chain now name parent) ≡ true → stands_in x (lists name parent) ≡ true
  stood name parent x is = subst (λ (l : List Tid). stands_in x l ≡ true) (chain_is name parent) is

  pub links_now : LinksFit tables_now
  links_now = record {
    chains = λ name parent held is.
        let of = content_of (lists name parent) held (sym (now_is (ChainItem name parent)) ∙ is) in
        let first = some_stands (lists name parent) of.1 in
        let link = defined_by name parent first.0 first.1 in
        let are = are_lists name link.0 link.1 in record {
          definition = link.0;
          tids = lists name parent;
          defined = link.1;
          is = of.0;
          some = of.1;
          members = all_of (λ x. is_there now link.0.child x ≡ true) (lists name parent) (λ x among. there_is link.0.child x ∙ are.children parent x (stands_of (lists name parent) x among));
          once = are.once parent;
          under = under_now link.0.parent parent (as_under tables.contents link.0.parent parent (are.parents parent first.0 first.1));
        };
    alone = λ name one other x first second.
        let stands = stood name one x first in
        let link = defined_by name one x stands in
        (are_lists name link.0 link.1).alone one other x stands (stood name other x second);
  }

  -- ---- the blocks of a body

  module _ (k : ℕ) (link : LinkEntry) (child : RelationEntry) (is : IsListedLink listing k link child) where
    abbrev definition : LinkDef
    definition = link_definition listing link child

    abbrev blocks : IsPrefixed (chains_of listing k link) (listed_ends link) bodies (linked tables.contents definition (lists link.name))
    blocks = its k link child is

    lists_now : chain now link.name ≡ lists link.name
    lists_now = λ i parent. chain_is link.name parent i

    -- of a child
    child_bytes : (tid : Tid) (bytes : List ℕ) → IsLowerBlock (not (is_some link.parent)) (lists link.name) tid bytes → bytes ≡ block_of now link.name tid (early_part link link.child)
    child_bytes tid bytes lower =
        one_lower_block (lists link.name) tid (λ p q. blocks.lists.alone p q tid) (not (is_some link.parent)) bytes (block_of now link.name tid (lower_part link.parent)) lower
        (subst (λ (l : Lists). IsLowerBlock (not (is_some link.parent)) l tid (block_of now link.name tid (lower_part link.parent))) lists_now
        (lower_block links_now link.name definition (spells.defines.paths.links k link child is) link.parent (sym (kind k link child is)) tid))
        ∙ ap (block_of now link.name tid) (sym (part_of_child link (spells.listed.paths.links k link is.at).early))

    of_child : (tid : Tid) (body : List ℕ) → is_there tables.contents child.name tid ≡ true → bodies (segment_of listing link.child) tid ≡ Some body
        → HasBytes body (block_at listing k link.child) (block_of now link.name tid (early_part link link.child))
    of_child tid body stands there =
        let lower = blocks.blocks.children tid stands in
        let same : lower.has.body ≡ body = same_Some _ _ (sym lower.has.there ∙ there) in
        subst (λ (b : List ℕ). HasBytes b (block_at listing k link.child) (block_of now link.name tid (early_part link link.child))) same
        (subst (HasBytes lower.has.body (block_at listing k link.child)) (child_bytes tid lower.bytes lower.is) lower.has.has)

    -- of a parent
    of_parent : (number : ℕ) (entry : RelationEntry) (tid : Tid) (body : List ℕ) → link.parent ≡ Some number → relation_at listing number ≡ Some entry → (number ≡ link.child → ⊥)
        → is_there tables.contents entry.name tid ≡ true → bodies (segment_of listing number) tid ≡ Some body
        → HasBytes body (block_at listing k number) (block_of now link.name tid (early_part link number))
    of_parent number entry tid body above at off stands there =
        let named : definition.parent ≡ Some entry.name = ap (option_and_then (relation_name listing)) above ∙ ap (option_map (λ (r : RelationEntry). r.name)) at in
        let upper = blocks.blocks.parents tid (ap (λ (o : Option ℕ). not (is_some o)) above) (subst (λ (o : Option Name). is_parent tables.contents o tid ≡ true) (sym named) stands) in
        let has = subst (λ (o : Option ℕ). BodyHas bodies (of_parents (segment_of listing) o) tid (of_parents (block_at listing k) o) (parent_block (ends_of (lists link.name (Some tid))))) above upper in
        let same : has.body ≡ body = same_Some _ _ (sym has.there ∙ there) in
        let block : parent_block (ends_of (lists link.name (Some tid))) ≡ block_of now link.name tid (early_part link number) =
        ap (λ (l : List Tid). parent_block (ends_of l)) (sym (chain_is link.name (Some tid))) ∙ ap (block_of now link.name tid) (sym (part_of_parent link (spells.listed.paths.links k link is.at).early number above off)) in
        subst (λ (b : List ℕ). HasBytes b (block_at listing k number) (block_of now link.name tid (early_part link number))) same
        (subst (HasBytes has.body (block_at listing k number)) block has.has)

    -- of each relation
    block_there : (number : ℕ) (entry : RelationEntry) (tid : Tid) (body : List ℕ) → relation_at listing number ≡ Some entry → is_there tables.contents entry.name tid ≡ true → bodies (segment_of listing number) tid ≡ Some body
        → HasBytes body (block_at listing k number) (block_of now link.name tid (early_part link number))
    block_there number entry tid body at stands there = elim (cases_eq number link.child) [
      | inl here ↦ child_by number here entry at stands there
      | inr off ↦ by link.parent refl off
    ]
      where
        child_by : (n : ℕ) → n ≡ link.child → (e : RelationEntry) → relation_at listing n ≡ Some e → is_there tables.contents e.name tid ≡ true → bodies (segment_of listing n) tid ≡ Some body
            → HasBytes body (block_at listing k n) (block_of now link.name tid (early_part link n))
        child_by n here = subst (λ (m : ℕ). (e : RelationEntry) → relation_at listing m ≡ Some e → is_there tables.contents e.name tid ≡ true → bodies (segment_of listing m) tid ≡ Some body
            → HasBytes body (block_at listing k m) (block_of now link.name tid (early_part link m))) (sym here)
            (λ e e_at stands there. of_child tid body (subst (λ (r : RelationEntry). is_there tables.contents r.name tid ≡ true) (same_Some _ _ (sym e_at ∙ is.within)) stands) there)

        none_there : (link.parent ≡ Some number → ⊥) → (number ≡ link.child → ⊥) → HasBytes body (block_at listing k number) (block_of now link.name tid (early_part link number))
        none_there off_above off = subst (λ (part : Part). HasBytes body (block_at listing k number) (block_of now link.name tid part)) (sym (part_outside link number off off_above)) refl

        by : (above : Option ℕ) → link.parent ≡ above → (number ≡ link.child → ⊥) → HasBytes body (block_at listing k number) (block_of now link.name tid (early_part link number))
        by None above_is off = none_there (λ e. none_some (sym above_is ∙ e)) off
        by (Some p) above_is off = elim (cases_eq number p) [
          | inl here ↦ of_parent number entry tid body (above_is ∙ ap (λ (r : ℕ). Some r) (sym here)) at off stands there
          | inr differ ↦ none_there (λ e. differ (same_Some _ _ (sym e ∙ above_is))) off
        ]

  -- ---- a body

  body_now : (number : ℕ) (entry : RelationEntry) (tid : Tid) (values : List Value) (body : List ℕ) → relation_at listing number ≡ Some entry → is_there tables.contents entry.name tid ≡ true
      → bodies (segment_of listing number) tid ≡ Some body → HoldsValues listing number values body → body ≡ body_of listing now number tid values
  body_now number entry tid values body at stands there holds =
      holds.is ∙ ap (λ (l : List ℕ). number ∷ (l ++ tuple_bytes (fields_at listing number) values)) (prefix_is (listed_block now number tid) (listed_block_size number) None listing.links holds.prefix holds.long (λ k low. each k low (get_or listing.links k None) refl))
    where
      each : (k : ℕ) → k < length listing.links → (found : Option LinkEntry) → get_or listing.links k None ≡ found
          → take (listed_block_size number found) (drop (prefix_size (take k listing.links) number) holds.prefix) ≡ listed_block now number tid found
      each k low None is = refl
      each k low (Some link) is =
          let at_k : link_at listing (suc k) ≡ Some link = at_place listing.links k ∙ is in
          let so = listed_link spells.listed (suc k) link at_k in
          let less : suc k - 1 ≡ k = omega arith in
          let has = block_there (suc k) link so.0 so.1 number entry tid body at stands there in
          let room : prefix_size (take k listing.links) number + block_size (early_part link number) ≤ length holds.prefix =
          omega (arith, holds.long, sum_by_more_le (listed_block_size number) listing.links k None low, ap (listed_block_size number) is) in
          within_prefix number holds.prefix (tuple_bytes (fields_at listing number) values) (block_of now link.name tid (early_part link number)) (prefix_size (take k listing.links) number) (block_size (early_part link number))
          (subst (λ (n : ℕ). HasBytes (number ∷ (holds.prefix ++ tuple_bytes (fields_at listing number) values)) (1 + prefix_size (take n listing.links) number) (block_of now link.name tid (early_part link number))) less
          (subst (λ (b : List ℕ). HasBytes b (block_at listing (suc k) number) (block_of now link.name tid (early_part link number))) holds.is has))
          (sym (long_block now link.name tid (early_part link number))) room

  -- ---- the tables are spelled

  chain_listed : (name : Name) (parent : Option Tid) → is_some (chain_content (lists name parent)) ≡ true → IsChainItem listing (ChainItem name parent)
  chain_listed name parent some =
      let held = some_of (chain_content (lists name parent)) some in
      let first = some_stands (lists name parent) (content_of (lists name parent) held.0 held.1).1 in
      let link = defined_by name parent first.0 first.1 in
      let had = listed_as name link.0 link.1 in
      record { number = had.number; link = had.link; parent = parent; at = had.is.at; is = ap (λ (n : Name). ChainItem n parent) (sym had.named) }

  only_now : (item : Item) → is_some (content now item) ≡ true → IsTupleItem listing item ⊎ IsChainItem listing item
  only_now (SegmentItem name) some = absurd (let bare : false ≡ true = ap is_some (sym (now_is (SegmentItem name))) ∙ some in cc (bare))
  only_now (RelationItem name) some = absurd (let bare : false ≡ true = ap is_some (sym (now_is (RelationItem name))) ∙ some in cc (bare))
  only_now (TupleItem relation tid) some = inl (alone (TupleItem relation tid) (ap is_some (sym (tuple_is relation tid)) ∙ some))
  only_now (ChainItem name parent) some = inr (chain_listed name parent (ap is_some (sym (now_is (ChainItem name parent))) ∙ some))
  only_now (KeyItem image values) some = absurd (let bare : false ≡ true = ap is_some (sym (now_is (KeyItem image values))) ∙ some in cc (bare))

  ends_now : (number : ℕ) (link : LinkEntry) → link_at listing number ≡ Some link → (link.first ≡ first_of (chain now link.name None)) × (link.last ≡ last_of (chain now link.name None))
  ends_now number link at = by (is_some link.parent) refl
    where
      so : (child : RelationEntry) × IsListedLink listing number link child
      so = listed_link spells.listed number link at

      none_parent : (above : Option Name) → is_some above ≡ true → IsParent (not (is_some above)) (is_parent tables.contents above) None → ⊥
      none_parent None some is = absurd (cc (some))
      none_parent (Some relation) some is = is

      by : (binary : Bool) → is_some link.parent ≡ binary → (link.first ≡ first_of (chain now link.name None)) × (link.last ≡ last_of (chain now link.name None))
      by false is =
          let ends : listed_ends link ≡ ends_of (lists link.name None) = (its number link so.0 so.1).blocks.kept (ap not is) in (
            ap (λ (e : Ends). e.first) ends ∙ sym (ap first_of (chain_is link.name None)),
            ap (λ (e : Ends). e.last) ends ∙ sym (ap last_of (chain_is link.name None)),
          )
      by true is =
          let are = are_lists link.name (link_definition listing link so.0) (spells.defines.paths.links number link so.0 so.1) in
          let bare : lists link.name None ≡ [] = none_stands (lists link.name None) (λ x stands. none_parent (link_definition listing link so.0).parent (kind number link so.0 so.1 ∙ is) (are.parents None x stands)) in
          let ends = no_ends number link at is in (
            ends.0 ∙ sym (ap first_of (chain_is link.name None ∙ bare)),
            ends.1 ∙ sym (ap last_of (chain_is link.name None ∙ bare)),
          )

  contents_now : SpellsContents listing bodies now
  contents_now = record {
    stands = λ number relation tid values at is.
        let was = sym (tuple_is relation.name tid) ∙ is in
        let stands = spells.stands number relation tid values at was in
        let there : bodies (segment_of listing number) tid ≡ Some stands.body = ap (λ (o : Option RelationEntry). bodies (segment_in o) tid) at ∙ stands.there in
        stands.there ∙ ap (λ (l : List ℕ). Some l) (body_now number relation tid values stands.body at (ap is_some was) there stands.holds);
    bodies_are = λ segment tid body is.
        let of = spells.bodies_are segment tid body is in
        let there : bodies (segment_of listing of.number) tid ≡ Some body = ap (λ (o : Option RelationEntry). bodies (segment_in o) tid) of.at ∙ ap (λ (s : ℕ). bodies s tid) of.within ∙ is in record {
          number = of.number;
          relation = of.relation;
          values = of.values;
          at = of.at;
          within = of.within;
          is = body_now of.number of.relation tid of.values body of.at (ap is_some of.holds) there of.is;
          storable = of.storable;
          holds = tuple_is of.relation.name tid ∙ of.holds;
        };
    only = only_now;
    ends = ends_now;
  }

  pub members_now : SpellsMembers listing bodies tables_now
  members_now = record {
    listed = spells.listed;
    defines = spells.defines;
    contents = contents_now;
    tuples = λ relation tid held is. let of = spells.tuples relation tid held (sym (tuple_is relation tid) ∙ is) in record { fields = of.fields; values = of.values; defined = of.defined; tuple = of.tuple; fit = of.fit };
    links = links_now;
    tids = λ relation tid is. spells.tids relation tid (sym (there_is relation tid) ∙ is);
  }

-- ---- chains that bodies have

-- Tables with the same tuples, and the chains that the bodies spell.
pub record Gathered (listing : Listing) (bodies : Bodies) (tables : Tables) : Type 0 where
  pub contents : Contents
  pub spells : SpellsMembers listing bodies (record { definitions = tables.definitions; contents = contents })
  pub tuples : (relation : Name) (tid : Tid) → content contents (TupleItem relation tid) ≡ content tables.contents (TupleItem relation tid)

module _ {listing : Listing} {view : TuplesView} {tables : Tables} (spells : SpellsTuples listing view.bodies tables)
    (alone : (item : Item) → is_some (content tables.contents item) ≡ true → IsTupleItem listing item)
    (has : (number : ℕ) (link : LinkEntry) → link_at listing number ≡ Some link → HasChains (chains_of listing number link) (relations_of link) (seen_with (listed_ends link) view))
    (no_ends : (number : ℕ) (link : LinkEntry) → link_at listing number ≡ Some link → is_some link.parent ≡ true → (link.first ≡ None) × (link.last ≡ None)) where
  -- the lists of a link by its name
  abbrev lists_in : (name : Name) (found : Option LinkDef) → map.get tables.definitions.links name ≡ found → Lists
  lists_in name None is = λ parent. []
  lists_in name (Some link_def) is = let of = named_link listing name (spells.defines.paths.only_links name (ap is_some is)) in (has of.number of.link of.at).lists

  abbrev chosen : Name → Lists
  chosen name = lists_in name (map.get tables.definitions.links name) refl

  chosen_spelled : (number : ℕ) (link : LinkEntry) → link_at listing number ≡ Some link → SpellChains (chains_of listing number link) (listed_ends link) view.bodies (linked_read listing view.bodies number link (chosen link.name))
  chosen_spelled number link at = by (map.get tables.definitions.links link.name) refl
    where
      by : (found : Option LinkDef) (is : map.get tables.definitions.links link.name ≡ found) → SpellChains (chains_of listing number link) (listed_ends link) view.bodies (linked_read listing view.bodies number link (lists_in link.name found is))
      by None is = let so = listed_link spells.listed number link at in none_some (sym is ∙ spells.defines.paths.links number link so.0 so.1)
      by (Some link_def) is =
          let of = named_link listing link.name (spells.defines.paths.only_links link.name (ap is_some is)) in
          let numbers : of.number ≡ number = spells.listed.paths.links_once of.number number link.name
          (name_numbered (λ (e : LinkEntry). e.name) listing.links of.number of.link of.at ∙ ap (λ (n : Name). Some n) of.named) (name_numbered (λ (e : LinkEntry). e.name) listing.links number link at) in
          let links : of.link ≡ link = same_Some _ _ (sym of.at ∙ ap (link_at listing) numbers ∙ at) in
          let lists : Lists = (has of.number of.link of.at).lists in
          subst (λ (l : LinkEntry). SpellChains (chains_of listing number l) (listed_ends l) view.bodies (linked_read listing view.bodies number l lists)) links
          (subst (λ (n : ℕ). SpellChains (chains_of listing n of.link) (listed_ends of.link) view.bodies (linked_read listing view.bodies n of.link lists)) numbers (has of.number of.link of.at).spells)

  chosen_none : (name : Name) → map.get tables.definitions.links name ≡ None → (parent : Option Tid) → chosen name parent ≡ []
  chosen_none name none parent = by (map.get tables.definitions.links name) refl
    where
      by : (found : Option LinkDef) (is : map.get tables.definitions.links name ≡ found) → lists_in name found is parent ≡ []
      by None is = refl
      by (Some link_def) is = none_some (sym none ∙ is)

  -- Where each listed link has its chains, and those with parents have no ends listed, there are such tables.
  pub gathered : Gathered listing view.bodies tables
  gathered = record {
    contents = now spells alone chosen chosen_spelled no_ends chosen_none;
    spells = members_now spells alone chosen chosen_spelled no_ends chosen_none;
    tuples = tuple_is spells alone chosen chosen_spelled no_ends chosen_none;
  }

-- Where tables are spelled, a link with parents has no ends listed.
pub no_ends_had : {listing : Listing} {bodies : Bodies} {tables : Tables} → SpellsMembers listing bodies tables → (number : ℕ) (link : LinkEntry) (child : RelationEntry) → IsListedLink listing number link child
    → is_some link.parent ≡ true → (link.first ≡ None) × (link.last ≡ None)
no_ends_had {listing = listing} {tables = tables} spells number link child is binary =
    let ends = spells.contents.ends number link is.at in (
      ends.0 ∙ ap first_of bare,
      ends.1 ∙ ap last_of bare,
    )
  where
    no_chain : (above : Option Name) → is_some above ≡ true → HasParent tables.contents above None → ⊥
    no_chain None some has = absurd (cc (some))
    no_chain (Some relation) some has = has

    bare : chain tables.contents link.name None ≡ []
    bare = none_stands (chain tables.contents link.name None) (λ x stands. no_chain (link_definition listing link child).parent (same_kind listing link.child link.parent (spells.listed.paths.links number link is.at).parent ∙ binary)
        (full spells.links link.name (link_definition listing link child) (spells.defines.paths.links number link child is) None x stands).under)
