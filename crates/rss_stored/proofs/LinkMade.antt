-- Pages that spell tables, where a link comes or goes whose relations have no tuples: they spell what the call makes of the tables, by the listing with that link or without it.
use Rattle.std.proofs.Common.{◌≡◌, ◌≢◌, ◌⊎◌, inl, inr, ℕ, zero, suc, ◌-◌, ◌≤◌, true, false, List, [], ◌∷◌, ◌++◌, length, get_or, refl, sym, ◌∙◌, ap, subst, arith, Bool}
use Rattle.std.specs.Prelude.{Option, Some, None, is_some, slice_set, flat_map, ◌==◌, All, if◌then◌else◌}
use Rattle.std.specs.FinMap as map
use Rattle.std.specs.List.{list_any}
use Rattle.std.proofs.lemmas.Bool.{cases_eq, eq-eqb, leb-false, true≢false}
use Rattle.std.proofs.lemmas.Option.{none-some, same_Some}
use Rattle.rss_base.specs.Paged.{Held}
use Rattle.rss_base.specs.Sizes.{links_most}
use Rattle.rss_base.specs.Listings.{Listing, ListingFits, IsNumberOf, relation_at, link_at, has_role, is_parent_in, with_link}
use Rattle.rss_base.specs.Prefixes.{first_of, last_of, Part, Outside, part_in}
use Rattle.rss_base.specs.declared.name.Name.{Name}
use Rattle.rss_base.specs.declared.tid.Tid.{Tid}
use Rattle.rss_base.specs.declared.item.Item.TheVariants.{Tuple, Chain}
use Rattle.rss_base.specs.declared.relation.RelationEntry.{RelationEntry}
use Rattle.rss_base.specs.declared.link.LinkEntry.{LinkEntry}
use Rattle.rss_base.specs.declared.refusal.Kind.TheVariants.{Link as LinkKind}
use Rattle.rss_tuple.specs.Directory.{bodies_of}
use Rattle.rss_model.specs.Items.{Content, name_cmp}
use Rattle.rss_model.specs.Tables.{LinkDef, Contents, Tables, content, tuple_count}
use Rattle.rss_model.specs.Chains.{chain, tuples_in, is_there, LinksFit}
use Rattle.rss_model.specs.Defining.{with_definitions, relations_of_link, holds_tuples}
use Rattle.rss_model.specs.Machine.{State}
use Rattle.rss_stored.specs.Store.{AreEnds, DefinesPaths, IsChainItem, IsTupleItem, SpellsContents, SpellsTables, link_definition, listed_block, prefix_of, block_of}
use Rattle.rss_model.proofs.Counts.{none_counted}
use Rattle.rss_model.proofs.LogLists.{by_test, some_of}
use Rattle.rss_model.proofs.Named.{made, made_here, made_other, gone, gone_other}
use Rattle.rss_model.proofs.Refitting.{chain_parts}
use Rattle.rss_stored.proofs.Relisted.{IsTupleThere, KeepsChains, KeepsImages, KeepsPrefixes, contents_renumbered, images_kept, number_at, number_set, number_kept, number_within_list}
use Rattle.rss_stored.proofs.Spelled.{listed_link, name_numbered, named_link}
use Rattle.rss_model.proofs.Standing.{or_none}

-- ---- a prefix, where a link comes or goes

-- no relation of the link has tuples
abbrev pub HasNoTuples : Listing → Contents → LinkEntry → Type 0
HasNoTuples listing contents link =
    (number : ℕ) (relation : RelationEntry) → has_role number (Some link) ≡ true
    → relation_at listing number ≡ Some relation → tuple_count contents relation.name ≡ 0

-- so it is where the call finds none, by the names of the relations
module _ (state : State) (listing : Listing) (link : LinkEntry) (child : RelationEntry) (at : relation_at listing link.child ≡ Some child) where
  none_held : (name : Name) → holds_tuples state name ≡ false → tuple_count state.base.contents name ≡ 0
  none_held name none = let few = leb-false 1 (tuple_count state.base.contents name) none in omega (arith, few)

  child_held : (parent : Option Name) → list_any (holds_tuples state) (relations_of_link parent child.name) ≡ false → holds_tuples state child.name ≡ false
  child_held None none = (or_none (holds_tuples state child.name) false none).0
  child_held (Some parent) none = (or_none (holds_tuples state child.name) false (or_none (holds_tuples state parent) _ none).1).0

-- a relation that has tuples is in no such link
no_role : (listing : Listing) (contents : Contents) (link : LinkEntry) → HasNoTuples listing contents link → (number : ℕ) (relation : RelationEntry) (tid : Tid) → relation_at listing number ≡ Some relation → IsTupleThere contents relation tid → has_role number (Some link) ≡ false
no_role listing contents link empty number relation tid at there = by_test (has_role number (Some link))
    (λ e. absurd (true≢false (sym there ∙ ap is_some (none_counted contents relation.name (empty number relation e at) tid))))
    (λ e. e)

no_block : (contents : Contents) (number : ℕ) (tid : Tid) (link : Option LinkEntry) → has_role number link ≡ false → listed_block contents number tid link ≡ []
no_block contents number tid None none = refl
no_block contents number tid (Some link) none =
    let parts = or_none (link.child == number) (is_parent_in link.parent number) none in
    ap (block_of contents link.name tid) (outside link.late (part_in link number) (rw (parts.0, parts.1) refl))
  where
    outside : (late : Bool) (part : Part) → part ≡ Outside → (if late then Outside else part) ≡ Outside
    outside true part is = refl
    outside false part is = is

flat_map_set : {A : Type 0} (f : A → List ℕ) (items : List A) (k : ℕ) (item other : A) → f item ≡ f (get_or items k other) → flat_map f (slice_set items k item) ≡ flat_map f items
flat_map_set f [] k item other same = refl
flat_map_set f (first ∷ items) zero item other same = ap (λ (l : List ℕ). l ++ flat_map f items) same
flat_map_set f (first ∷ items) (suc k) item other same = ap (λ (l : List ℕ). f first ++ l) (flat_map_set f items k item other same)

-- where the relation is neither in the link that was there nor in the one that comes
prefix_kept : (listing : Listing) (contents : Contents) (at : ℕ) (link : Option LinkEntry) (low : 1 ≤ at) (number : ℕ) (tid : Tid) → has_role number link ≡ false → has_role number (link_at listing at) ≡ false → prefix_of (with_link listing at link) contents number tid ≡ prefix_of listing contents number tid
prefix_kept listing contents at link low number tid none none_before = flat_map_set (listed_block contents number tid) listing.links (at - 1) link None
    (no_block contents number tid link none ∙ sym (no_block contents number tid (link_at listing at) none_before)
    ∙ ap (listed_block contents number tid) (number_at listing.links at low))

-- ---- a link comes or goes

-- a chain that holds something is one of a listed link
chain_listed : {listing : Listing} (link : Name) (parent : Option Tid) → IsTupleItem listing (Chain link parent) ⊎ IsChainItem listing (Chain link parent) → IsChainItem listing (Chain link parent)
chain_listed link parent (inl tuple) = absurd (none tuple.is)
  where
    none : {relation : Name} {tid : Tid} → Chain link parent ≡ Tuple relation tid → ⊥
    none is = cc (is)
chain_listed link parent (inr is) = is

module _ {held : Held} {listing : Listing} {tables : Tables} (spells : SpellsTables held listing tables) (number : ℕ) (link : Option LinkEntry) (fits : ListingFits (with_link listing number link)) where
  abbrev listed_now : Listing
  listed_now = with_link listing number link

  images_into : KeepsImages listing listed_now
  images_into k image relation l = record { at = l.at; within = l.within }

  images_back : KeepsImages listed_now listing
  images_back k image relation l = record { at = l.at; within = l.within }

  -- the pages spell the tables with these links
  spelled_beside : (links : map.FinMap name_cmp LinkDef) → DefinesPaths listed_now (record tables.definitions { links = links }) → SpellsContents listed_now (bodies_of held) tables.contents
      → SpellsTables held listed_now (with_definitions (record tables.definitions { links = links }) tables)
  spelled_beside links paths contents = record {
    only = spells.only;
    formed = spells.formed;
    linked = spells.linked;
    listed = fits;
    defines = record {
      segments = spells.defines.segments;
      relations = λ k relation segment l. spells.defines.relations k relation segment (record { at = l.at; within = l.within });
      only_relations = spells.defines.only_relations;
      paths = paths;
    };
    counts = spells.counts;
    contents = contents;
    images = images_kept images_into images_back (λ k image relation l. refl) spells.images;
  }

-- ---- a link is made

module _ {held : Held} {listing : Listing} {tables : Tables} (spells : SpellsTables held listing tables) (number : ℕ) (low : 1 ≤ number) (high : number ≤ links_most) (free : link_at listing number ≡ None) (link : LinkEntry) (child : RelationEntry) (at : relation_at listing link.child ≡ Some child)
    (no_first : link.first ≡ None) (no_last : link.last ≡ None) (empty : HasNoTuples listing tables.contents link) (fits : ListingFits (with_link listing number (Some link))) where
  abbrev listed_more : Listing
  listed_more = with_link listing number (Some link)

  abbrev links_more : map.FinMap name_cmp LinkDef
  links_more = map.insert tables.definitions.links link.name (link_definition listing link child)

  here : link_at listed_more number ≡ Some link
  here = number_set listing.links number (Some link) low (omega (arith, high, spells.listed.paths.link_places))

  else_kept : (k : ℕ) → k ≢ number → link_at listed_more k ≡ link_at listing k
  else_kept k other = number_kept listing.links number (Some link) low k other

  -- the number was free
  was_other : (k : ℕ) (other : LinkEntry) → link_at listing k ≡ Some other → k ≢ number
  was_other k other is same = none-some other (sym free ∙ ap (link_at listing) (sym same) ∙ is)

  -- what has a number now is the new one, or had it
  now_or_then : (k : ℕ) (other : LinkEntry) → link_at listed_more k ≡ Some other → (link ≡ other) ⊎ (k ≢ number) × (link_at listing k ≡ Some other)
  now_or_then k other is = elim (cases_eq k number) [
    | inl same ↦ inl (same_Some _ _ (sym here ∙ ap (link_at listed_more) (sym same) ∙ is))
    | inr apart ↦ inr (apart, sym (else_kept k apart) ∙ is)
  ]

  number_of_link : (k : ℕ) (other : LinkEntry) → link_at listed_more k ≡ Some other → IsNumberOf LinkKind listed_more other.name k
  number_of_link k other is = name_numbered (λ (l : LinkEntry). l.name) listed_more.links k other is

  -- another one has another name
  other_name : (k : ℕ) (other : LinkEntry) → k ≢ number → link_at listed_more k ≡ Some other → other.name ≢ link.name
  other_name k other apart is same = apart (fits.paths.links_once k number link.name (number_of_link k other is ∙ ap Some same) (number_of_link number link here))

  paths_made : DefinesPaths listed_more (record tables.definitions { links = links_more })
  paths_made = record {
    images = λ k image relation l. spells.defines.paths.images k image relation (record { at = l.at; within = l.within });
    only_images = spells.defines.paths.only_images;
    links = λ k other its l. elim (now_or_then k other l.at) [
      | inl new ↦
          let children : child ≡ its = same_Some _ _ (sym at ∙ ap (λ (e : LinkEntry). relation_at listing e.child) new ∙ l.within) in
          ap (λ (e : LinkEntry). map.get links_more e.name) (sym new) ∙ made_here tables.definitions.links link.name (link_definition listing link child)
          ∙ (λ i. Some (link_definition listing (new i) (children i)))
      | inr was ↦
          made_other tables.definitions.links link.name (link_definition listing link child) other.name (other_name k other was.0 l.at)
          ∙ spells.defines.paths.links k other its (record { at = was.1; within = l.within })
    ];
    only_links = λ name there. elim (made tables.definitions.links link.name (link_definition listing link child) name) [
      | inl same ↦ (number, number_of_link number link here ∙ ap Some (sym same))
      | inr was ↦
          let had = named_link listing name (spells.defines.paths.only_links name (ap is_some (sym was) ∙ there)) in
          (had.number, number_of_link had.number had.link (else_kept had.number (was_other had.number had.link had.at) ∙ had.at) ∙ ap Some had.named)
    ];
  }

  prefixes_kept : KeepsPrefixes listing listed_more tables.contents
  prefixes_kept k relation tid is there = prefix_kept listing tables.contents number (Some link) low k tid (no_role listing tables.contents link empty k relation tid is there) (ap (has_role k) free)

  chains_kept : KeepsChains listing listed_more tables.contents
  chains_kept item there on = record { number = on.number; link = on.link; parent = on.parent; at = else_kept on.number (was_other on.number on.link on.at) ∙ on.at; is = on.is }

  -- the new link has no chain
  no_chain : chain tables.contents link.name None ≡ []
  no_chain = by (content tables.contents (Chain link.name None)) refl
    where
      by : (held : Option Content) → content tables.contents (Chain link.name None) ≡ held → chain tables.contents link.name None ≡ []
      by None is = ap tuples_in is
      by (Some held) is =
          let on = chain_listed link.name None (spells.contents.only (Chain link.name None) (ap is_some is)) in
          let apart = was_other on.number on.link on.at in
          absurd (other_name on.number on.link apart (else_kept on.number apart ∙ on.at) (sym (chain_parts on.is).0))

  ends_made : AreEnds listed_more tables.contents
  ends_made k other is = elim (now_or_then k other is) [
    | inl new ↦ subst (λ (e : LinkEntry). (e.first ≡ first_of (chain tables.contents e.name None)) × (e.last ≡ last_of (chain tables.contents e.name None))) new
        (no_first ∙ ap first_of (sym no_chain), no_last ∙ ap last_of (sym no_chain))
    | inr was ↦ spells.contents.ends k other was.1
  ]

  pub link_made_contents : SpellsContents listed_more (bodies_of held) tables.contents
  link_made_contents = contents_renumbered listing listed_more (bodies_of held) tables.contents (λ k relation tid is there. is) (λ k relation tid is there. is) prefixes_kept chains_kept ends_made spells.contents

  -- The pages spell the tables with the link.
  pub link_made_spells : SpellsTables held listed_more (with_definitions (record tables.definitions { links = map.insert tables.definitions.links link.name (link_definition listing link child) }) tables)
  link_made_spells = spelled_beside spells number (Some link) fits links_more paths_made link_made_contents

-- ---- a link is dropped

module _ {held : Held} {listing : Listing} {tables : Tables} (spells : SpellsTables held listing tables) (number : ℕ) (link : LinkEntry) (at : link_at listing number ≡ Some link) (chains : LinksFit tables) (empty : HasNoTuples listing tables.contents link)
    (fits : ListingFits (with_link listing number None)) where
  abbrev listed_less : Listing
  listed_less = with_link listing number None

  abbrev links_less : map.FinMap name_cmp LinkDef
  links_less = map.remove tables.definitions.links link.name

  within : (1 ≤ number) × (number ≤ length listing.links)
  within = number_within_list listing.links number link at

  none_here : link_at listed_less number ≡ None
  none_here = number_set listing.links number None within.0 within.1

  rest_kept : (k : ℕ) → k ≢ number → link_at listed_less k ≡ link_at listing k
  rest_kept k other = number_kept listing.links number None within.0 k other

  -- what has a number now had it
  had_it : (k : ℕ) (other : LinkEntry) → link_at listed_less k ≡ Some other → (k ≢ number) × (link_at listing k ≡ Some other)
  had_it k other is =
      let apart : k ≢ number = λ same. none-some other (sym none_here ∙ ap (link_at listed_less) (sym same) ∙ is) in
      (apart, sym (rest_kept k apart) ∙ is)

  number_named : (k : ℕ) (other : LinkEntry) → link_at listing k ≡ Some other → IsNumberOf LinkKind listing other.name k
  number_named k other is = name_numbered (λ (l : LinkEntry). l.name) listing.links k other is

  paths_gone : DefinesPaths listed_less (record tables.definitions { links = links_less })
  paths_gone = record {
    images = λ k image relation l. spells.defines.paths.images k image relation (record { at = l.at; within = l.within });
    only_images = spells.defines.paths.only_images;
    links = λ k other its l.
        let was = had_it k other l.at in
        gone_other tables.definitions.links link.name other.name (λ same. was.0 (spells.listed.paths.links_once k number link.name (number_named k other was.1 ∙ ap Some same) (number_named number link at)))
        ∙ spells.defines.paths.links k other its (record { at = was.1; within = l.within });
    only_links = λ name there.
        let was = gone tables.definitions.links link.name name there in
        let had = named_link listing name (spells.defines.paths.only_links name (ap is_some (sym was.1) ∙ there)) in
        let apart : had.number ≢ number = λ same. was.0 (sym had.named ∙ ap (λ (l : LinkEntry). l.name) (same_Some _ _ (sym had.at ∙ ap (link_at listing) same ∙ at))) in
        (had.number, name_numbered (λ (l : LinkEntry). l.name) listed_less.links had.number had.link (rest_kept had.number apart ∙ had.at) ∙ ap Some had.named);
  }

  prefixes_left : KeepsPrefixes listing listed_less tables.contents
  prefixes_left k relation tid is there = prefix_kept listing tables.contents number None within.0 k tid refl (ap (has_role k) at ∙ no_role listing tables.contents link empty k relation tid is there)

  -- it has no chains
  no_chains : (parent : Option Tid) (held : Content) → content tables.contents (Chain link.name parent) ≡ Some held → ⊥
  no_chains parent held is =
      let of = chains.chains link.name parent held is in
      let so = listed_link spells.listed number link at in
      let definition : of.definition ≡ link_definition listing link so.0 = same_Some _ _ (sym of.defined ∙ spells.defines.paths.links number link so.0 so.1) in
      let role : has_role link.child (Some link) ≡ true = rw (eq-eqb link.child link.child refl) refl in
      member so.0.name (none_counted tables.contents so.0.name (empty link.child so.0 role so.1.within)) of.tids of.some
      (subst (λ (d : LinkDef). All (λ tid. is_there tables.contents d.child tid ≡ true) of.tids) definition of.members)
    where
      member : (relation : Name) → ((tid : Tid) → content tables.contents (Tuple relation tid) ≡ None) → (tids : List Tid) → 1 ≤ length tids → All (λ tid. is_there tables.contents relation tid ≡ true) tids → ⊥
      member relation absent [] some members = omega (arith, some)
      member relation absent (tid ∷ tids) some members = true≢false (sym (members 0 tid (omega arith)) ∙ ap is_some (absent tid))

  chains_left : KeepsChains listing listed_less tables.contents
  chains_left item there on = record { number = on.number; link = on.link; parent = on.parent; at = rest_kept on.number apart ∙ on.at; is = on.is }
    where
      apart : on.number ≢ number
      apart same =
          let some = some_of (content tables.contents item) there in
          let one : on.link ≡ link = same_Some _ _ (sym on.at ∙ ap (link_at listing) same ∙ at) in
          no_chains on.parent some.0 (ap (λ (l : LinkEntry). content tables.contents (Chain l.name on.parent)) (sym one) ∙ ap (content tables.contents) (sym on.is) ∙ some.1)

  pub link_gone_contents : SpellsContents listed_less (bodies_of held) tables.contents
  link_gone_contents = contents_renumbered listing listed_less (bodies_of held) tables.contents (λ k relation tid is there. is) (λ k relation tid is there. is) prefixes_left chains_left
      (λ k other is. spells.contents.ends k other (had_it k other is).1) spells.contents

  -- The pages spell the tables without the link.
  pub link_gone_spells : SpellsTables held listed_less (with_definitions (record tables.definitions { links = map.remove tables.definitions.links link.name }) tables)
  link_gone_spells = spelled_beside spells number None fits links_less paths_gone link_gone_contents
