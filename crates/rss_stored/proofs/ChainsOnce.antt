-- Bodies spell one contents under a listing: the same tuples, and the same chains.
use Rattle.std.proofs.Common.{◌≡◌, ◌≢◌, ◌⊎◌, inl, inr, ℕ, zero, suc, ◌^◌, ◌≤◌, true, List, [], ◌∷◌, ◌++◌, length, refl, sym, ◌∙◌, ap, subst, arith, false}
use Rattle.std.specs.Prelude.{Option, Some, None, IfSome, is_some, option_map, option_and_then, All}
use Rattle.std.specs.FinMap as map
use Rattle.std.specs.FinMap.{same_map}
use Rattle.std.proofs.lemmas.Bool.{eq-eqb, ne_eqb}
use Rattle.std.proofs.lemmas.Option.{none-some, same_Some}
use Rattle.rss_base.specs.Paged.{Held}
use Rattle.rss_base.specs.TupleTypes.{misfit, tuple_bytes, IsStorable}
use Rattle.rss_base.specs.Listings.{Listing, ListingFits, IsSpelled, relation_at, link_at}
use Rattle.rss_base.specs.Prefixes.{Neighbours, Part, Member, Child, Parent, first_of, lower_part, neighbours_in, early_part, prefix_size, ends_of}
use Rattle.rss_base.specs.declared.name.Name.{Name}
use Rattle.rss_base.specs.declared.tid.Tid.{Tid}
use Rattle.rss_base.specs.declared.item.Item.{Item}
use Rattle.rss_base.specs.declared.item.Item.TheVariants.{Tuple, Chain}
use Rattle.rss_base.specs.declared.value.Value.{Value}
use Rattle.rss_base.specs.declared.value.FieldForm.{FieldForm}
use Rattle.rss_base.specs.declared.relation.RelationEntry.{RelationEntry}
use Rattle.rss_base.specs.declared.link.LinkEntry.{LinkEntry}
use Rattle.rss_tuple.specs.Directory.{Bodies}
use Rattle.rss_model.specs.Items.{Content, Values, parent_of}
use Rattle.rss_model.specs.Tables.{LinkDef, Contents, Tables, content}
use Rattle.rss_model.specs.Chains.{chain_content, chain, chain_with, stands_in, is_there, HasParent}
use Rattle.rss_model.specs.Fits.{Fits}
use Rattle.rss_stored.specs.Store.{Defines, IsListedLink, IsTupleItem, IsChainItem, SpellsContents, SpellsTables, body_of, block_of, link_definition, place_below, place_of, prefix_of, relation_name, fields_at}
use Rattle.rss_stored.proofs.Blocks.{Leads, IsNextSpelled, IsPlaceSpelled, block_same, child_says, first_is, leads_in, leads_too, member_says, next_among, next_at, next_is, parent_says, prefix_long, walk_same}
use Rattle.rss_model.proofs.ChainKeeping.{chain_back, chain_found, chain_once, in_chain}
use Rattle.rss_model.proofs.ChangeKeeping.{in_no_chain}
use Rattle.rss_model.proofs.Codes.{item_total, item_apart}
use Rattle.rss_stored.proofs.Listed.{at_place, fields_defined, fields_at_is}
use Rattle.rss_model.proofs.LogLists.{by_test, false_true, some_of}
use Rattle.rss_model.proofs.Mixing.{In}
use Rattle.rss_base.proofs.Fronts.{front_parts}
use Rattle.rss_stored.proofs.Spelled.{defines_once, listed_link, same_options, same_values, tuple_bytes_same}
use Rattle.rss_model.proofs.Standing.{stands_of}

-- ---- tuples

-- the values of a tuple that is there
record TupleHeld (listing : Listing) (bodies : Bodies) (tables : Tables) (number : ℕ) (relation : RelationEntry) (tid : Tid) : Type 0 where
  values : List Value
  fit : misfit (fields_at listing number) values ≡ None
  holds : content tables.contents (Tuple relation.name tid) ≡ Some (Values values)
  stands : bodies relation.segment tid ≡ Some (body_of listing tables.contents number tid values)

module _ {listing : Listing} {bodies : Bodies} {tables : Tables} {slots : ℕ} (fits_listing : ListingFits listing) (defines : Defines listing tables.definitions) (spells : SpellsContents listing bodies tables.contents) (fit : Fits slots tables) where
  -- a tuple of a listed relation fits the fields that are listed
  listed_fit : (number : ℕ) (relation : RelationEntry) (tid : Tid) (values : List Value) → relation_at listing number ≡ Some relation → content tables.contents (Tuple relation.name tid) ≡ Some (Values values) → misfit (fields_at listing number) values ≡ None
  listed_fit number relation tid values at holds =
      let of = fit.tuples relation.name tid (Values values) holds in
      let fields : of.fields ≡ fields_at listing number = same_Some _ _ (sym of.defined ∙ fields_defined tables fits_listing defines number relation at ∙ ap Some (sym (fields_at_is listing number relation at))) in
      subst (λ (v : List Value). misfit (fields_at listing number) v ≡ None) (sym (same_values _ _ of.tuple)) (ap (λ (f : List FieldForm). misfit f of.values) (sym fields) ∙ of.fit)

  tuple_held : (number : ℕ) (relation : RelationEntry) (tid : Tid) (held : Content) → relation_at listing number ≡ Some relation → content tables.contents (Tuple relation.name tid) ≡ Some held → TupleHeld listing bodies tables number relation tid
  tuple_held number relation tid held at is =
      let of = fit.tuples relation.name tid held is in
      let holds = is ∙ ap Some of.tuple in
      record { values = of.values; fit = listed_fit number relation tid of.values at holds; holds = holds; stands = spells.stands number relation tid of.values at holds }

  -- what a body says of a tuple that is there
  storable : (number : ℕ) (relation : RelationEntry) (tid : Tid) (values : List Value) → relation_at listing number ≡ Some relation → content tables.contents (Tuple relation.name tid) ≡ Some (Values values) → All IsStorable values
  storable number relation tid values at holds =
      let body = spells.bodies_are relation.segment tid _ (spells.stands number relation tid values at holds) in
      let same : number ≡ body.number = heads _ _ body.is in
      let one : body.relation ≡ relation = same_Some _ _ (sym body.at ∙ ap (relation_at listing) (sym same) ∙ at) in
      subst (All IsStorable) (same_values _ _ (same_Some _ _ (sym body.holds ∙ ap (λ (r : RelationEntry). content tables.contents (Tuple r.name tid)) one ∙ holds))) body.storable
    where
      heads : {j k : ℕ} (x y : List ℕ) → j ∷ x ≡ k ∷ y → j ≡ k
      heads x y same = cc

-- of two bodies, the number, the prefixes and the values
pub body_parts : (listing : Listing) (a b : Contents) (j k : ℕ) (tid : Tid) (v w : List Value) → body_of listing a j tid v ≡ body_of listing b k tid w → (j ≡ k) × (prefix_of listing a j tid ≡ prefix_of listing b k tid) × (tuple_bytes (fields_at listing j) v ≡ tuple_bytes (fields_at listing k) w)
body_parts listing a b j k tid v w same =
    let parts = split j k (prefix_of listing a j tid ++ tuple_bytes (fields_at listing j) v) (prefix_of listing b k tid ++ tuple_bytes (fields_at listing k) w) same in
    let long : length (prefix_of listing a j tid) ≡ length (prefix_of listing b k tid) = prefix_long listing a j tid ∙ ap (prefix_size listing.links) parts.0 ∙ sym (prefix_long listing b k tid) in
    let both = front_parts (prefix_of listing a j tid) (prefix_of listing b k tid) (tuple_bytes (fields_at listing j) v) (tuple_bytes (fields_at listing k) w) long parts.1 in
    (parts.0, both.0, both.1)
  where
    split : (j k : ℕ) (x y : List ℕ) → j ∷ x ≡ k ∷ y → (j ≡ k) × (x ≡ y)
    split j k x y same = (cc, cc)

module _ {listing : Listing} {bodies : Bodies} {a b : Tables} {m n : ℕ} (fits_listing : ListingFits listing) (defines : Defines listing a.definitions) (defines_too : Defines listing b.definitions) (one : SpellsContents listing bodies a.contents) (other : SpellsContents listing bodies b.contents) (fit : Fits m a) (fits : Fits n b) where
  tuple_too : (number : ℕ) (relation : RelationEntry) (tid : Tid) (held : Content) → relation_at listing number ≡ Some relation → content a.contents (Tuple relation.name tid) ≡ Some held → content b.contents (Tuple relation.name tid) ≡ Some held
  tuple_too number relation tid held at is =
      let mine = tuple_held fits_listing defines one fit number relation tid held at is in
      let body = other.bodies_are relation.segment tid _ mine.stands in
      let parts = body_parts listing a.contents b.contents number body.number tid mine.values body.values body.is in
      let relations : body.relation ≡ relation = same_Some _ _ (sym body.at ∙ ap (relation_at listing) (sym parts.0) ∙ at) in
      let holds : content b.contents (Tuple relation.name tid) ≡ Some (Values body.values) = ap (λ (r : RelationEntry). content b.contents (Tuple r.name tid)) (sym relations) ∙ body.holds in
      let theirs = listed_fit fits_listing defines_too other fits number relation tid body.values at holds in
      let same : tuple_bytes (fields_at listing number) mine.values ≡ tuple_bytes (fields_at listing number) body.values = parts.2 ∙ ap (λ (n : ℕ). tuple_bytes (fields_at listing n) body.values) (sym parts.0) in
      let values = tuple_bytes_same 1 (fields_at listing number) mine.values body.values mine.fit theirs (storable fits_listing defines one fit number relation tid mine.values at mine.holds) body.storable same in
      holds ∙ ap (λ (v : List Value). Some (Values v)) (sym values) ∙ sym mine.holds ∙ is

-- ---- what can be spelled

module _ {slots : ℕ} {tables : Tables} (fit : Fits slots tables) (few : slots ≤ 2 ^ 32) where
  -- a tuple that is there has an identifier that can be spelled
  there_spelled : (relation : Name) (tid : Tid) → is_there tables.contents relation tid ≡ true → IsSpelled tid
  there_spelled relation tid there = let is = fit.tids relation tid there in (omega (arith, is.page, few), is.slot)

  module _ (link : Name) (definition : LinkDef) (defined : map.get tables.definitions.links link ≡ Some definition) where
    member_there : (parent : Option Tid) (tid : Tid) → In tid (chain tables.contents link parent) → is_there tables.contents definition.child tid ≡ true
    member_there parent tid is = (in_chain fit link parent tid definition defined (stands_of (chain tables.contents link parent) tid is)).0 tid is

    member_spelled : (parent : Option Tid) (tid : Tid) → In tid (chain tables.contents link parent) → IsSpelled tid
    member_spelled parent tid is = there_spelled definition.child tid (member_there parent tid is)

    neighbours_spelled : (parent : Option Tid) (tid : Tid) → IfSome (neighbours_in (chain tables.contents link parent) tid) IsNextSpelled
    neighbours_spelled parent tid = next_is IsSpelled None (chain tables.contents link parent) tid (member_spelled parent)

    first_spelled : (parent : Option Tid) → IfSome (first_of (chain tables.contents link parent)) IsSpelled
    first_spelled parent = first_is IsSpelled (chain tables.contents link parent) (member_spelled parent)

    -- a chain that could have no parent is empty
    none_under : (parent : Option Tid) → (HasParent tables.contents definition.parent parent → ⊥) → chain tables.contents link parent ≡ []
    none_under parent none = by (chain tables.contents link parent) refl
      where
        by : (tids : List Tid) → chain tables.contents link parent ≡ tids → chain tables.contents link parent ≡ []
        by [] is = is
        by (tid ∷ tids) is =
            let first : In tid (chain tables.contents link parent) = subst (In tid) (sym is) (inl refl) in
            absurd (none (in_chain fit link parent tid definition defined (stands_of (chain tables.contents link parent) tid first)).1)

    module _ (upper : Name) (parents : definition.parent ≡ Some upper) where
      -- where a tuple stands
      place_spelled : (tid : Tid) (item : Option Item) → chain_with tables.contents link tid ≡ item → IfSome (place_of tables.contents tid item) IsPlaceSpelled
      place_spelled tid None is = tt
      place_spelled tid (Some item) is =
          let of = chain_found tables.contents link tid item is in
          subst (λ (i : Item). IfSome (place_below tables.contents tid i (parent_of i)) IsPlaceSpelled) (sym of.1)
          (below of.0 (in_chain fit link of.0 tid definition defined of.2).1)
        where
          said : (parent : Tid) (neighbours : Option Neighbours) → IsSpelled parent → IfSome neighbours IsNextSpelled → IfSome (option_map (λ (n : Neighbours). record { parent = parent; neighbours = n }) neighbours) IsPlaceSpelled
          said parent None above next = tt
          said parent (Some neighbours) above next = record { parent = above; next = next }

          below : (parent : Option Tid) → HasParent tables.contents definition.parent parent → IfSome (place_below tables.contents tid (Chain link parent) parent) IsPlaceSpelled
          below None under = tt
          below (Some parent) under =
              said parent (neighbours_in (chain tables.contents link (Some parent)) tid)
              (there_spelled upper parent (subst (λ (p : Option Name). HasParent tables.contents p (Some parent)) parents under))
              (neighbours_spelled (Some parent) tid)

      -- the place of a child of this parent leads on in its chain
      leads_below : (parent : Tid) → Leads (λ tid. next_at (place_of tables.contents tid (chain_with tables.contents link tid))) (chain tables.contents link (Some parent))
      leads_below parent = leads_too (λ tid. next_among (neighbours_in tids tid)) (λ tid. next_at (place_of tables.contents tid (chain_with tables.contents link tid))) tids
          (λ tid is. sym (next_below (neighbours_in tids tid)) ∙ ap (λ (item : Option Item). next_at (place_of tables.contents tid item)) (sym (found tid (stands_of tids tid is) (chain_with tables.contents link tid) refl)))
          (leads_in tids (chain_once fit link (Some parent)))
        where
          tids : List Tid
          tids = chain tables.contents link (Some parent)

          next_below : (neighbours : Option Neighbours) → next_at (option_map (λ (n : Neighbours). record { parent = parent; neighbours = n }) neighbours) ≡ next_among neighbours
          next_below None = refl
          next_below (Some neighbours) = refl

          found : (tid : Tid) → stands_in tid (chain tables.contents link (Some parent)) ≡ true → (item : Option Item) → chain_with tables.contents link tid ≡ item → chain_with tables.contents link tid ≡ Some (Chain link (Some parent))
          found tid on None is = false_true on (in_no_chain tables.contents link tid is (Some parent))
          found tid on (Some item) is =
              let of = chain_found tables.contents link tid item is in
              is ∙ ap Some (of.1 ∙ ap (Chain link) (fit.links.alone link of.0 (Some parent) tid of.2 on))

-- ---- the parts of a link's relations

child_part : (link : LinkEntry) → link.late ≡ false → early_part link link.child ≡ lower_part link.parent
child_part link early = rw (early, eq-eqb link.child link.child refl) refl

parent_part : (link : LinkEntry) → link.late ≡ false → (upper : ℕ) → link.parent ≡ Some upper → upper ≢ link.child → early_part link upper ≡ Parent
parent_part link early upper parents two = rw (early, ne_eqb link.child upper (λ same. two (sym same)), parents, eq-eqb upper upper refl) refl

-- ---- chains

module _ {listing : Listing} {bodies : Bodies} {a b : Tables} {m n : ℕ} (fits_listing : ListingFits listing) (defines : Defines listing a.definitions) (defines_too : Defines listing b.definitions) (one : SpellsContents listing bodies a.contents) (other : SpellsContents listing bodies b.contents) (fit : Fits m a) (fits : Fits n b) (few : m ≤ 2 ^ 32) (few_too : n ≤ 2 ^ 32) where
  tuple_same : (number : ℕ) (relation : RelationEntry) (tid : Tid) → relation_at listing number ≡ Some relation → content a.contents (Tuple relation.name tid) ≡ content b.contents (Tuple relation.name tid)
  tuple_same number relation tid at = same_options _ _
      (λ held is. tuple_too fits_listing defines defines_too one other fit fits number relation tid held at is)
      (λ held is. tuple_too fits_listing defines_too defines other one fits fit number relation tid held at is)

  -- a tuple that is there has the same blocks
  blocks_alike : (number : ℕ) (relation : RelationEntry) (tid : Tid) → relation_at listing number ≡ Some relation → is_there a.contents relation.name tid ≡ true → (k : ℕ) (link : LinkEntry) → link_at listing k ≡ Some link
      → block_of a.contents link.name tid (early_part link number) ≡ block_of b.contents link.name tid (early_part link number)
  blocks_alike number relation tid at there zero link is = absurd (none-some link is)
  blocks_alike number relation tid at there (suc k) link is =
      let some = some_of (content a.contents (Tuple relation.name tid)) there in
      let mine = tuple_held fits_listing defines one fit number relation tid some.0 at some.1 in
      let theirs = other.stands number relation tid mine.values at (sym (tuple_same number relation tid at) ∙ mine.holds) in
      let parts = body_parts listing a.contents b.contents number number tid mine.values mine.values (same_Some _ _ (sym mine.stands ∙ theirs)) in
      block_same listing a.contents b.contents number tid parts.1 k link (sym (at_place listing.links k) ∙ is)

  module _ (k : ℕ) (link : LinkEntry) (is : link_at listing k ≡ Some link) where
    abbrev its : (child : RelationEntry) × IsListedLink listing k link child
    its = listed_link fits_listing k link is

    abbrev definition : LinkDef
    definition = link_definition listing link its.0

    early : link.late ≡ false
    early = (fits_listing.paths.links k link is).early

    here : map.get a.definitions.links link.name ≡ Some definition
    here = defines.paths.links k link its.0 its.1

    there : map.get b.definitions.links link.name ≡ Some definition
    there = defines_too.paths.links k link its.0 its.1

    child_blocks : (part : Part) → lower_part link.parent ≡ part → (tid : Tid) → is_there a.contents its.0.name tid ≡ true → block_of a.contents link.name tid part ≡ block_of b.contents link.name tid part
    child_blocks part lower tid lives = subst (λ (p : Part). block_of a.contents link.name tid p ≡ block_of b.contents link.name tid p) (child_part link early ∙ lower) (blocks_alike link.child its.0 tid its.1.within lives k link is)

    -- the one chain of a link without parents
    only_chain : link.parent ≡ None → chain a.contents link.name None ≡ chain b.contents link.name None
    only_chain none = walk_same (λ tid. next_among (neighbours_in (chain a.contents link.name None) tid)) (λ tid. next_among (neighbours_in (chain b.contents link.name None) tid))
        (chain a.contents link.name None) (chain b.contents link.name None)
        (leads_in (chain a.contents link.name None) (chain_once fit link.name None)) (leads_in (chain b.contents link.name None) (chain_once fits link.name None))
        (λ tid on. member_says (neighbours_in (chain a.contents link.name None) tid) (neighbours_in (chain b.contents link.name None) tid)
        (neighbours_spelled fit few link.name definition here None tid) (neighbours_spelled fits few_too link.name definition there None tid)
        (child_blocks Member (ap lower_part none) tid (member_there fit few link.name definition here None tid on)))
        (sym (one.ends k link is).0 ∙ (other.ends k link is).0)

    module _ (upper : ℕ) (parents : link.parent ≡ Some upper) where
      abbrev above : (relation : RelationEntry) × (relation_at listing upper ≡ Some relation)
      above = some_of (relation_at listing upper) (subst (λ (p : Option ℕ). IfSome p (λ number. (is_some (relation_at listing number) ≡ true) × (number ≢ link.child))) parents (fits_listing.paths.links k link is).parent).0

      two : upper ≢ link.child
      two = (subst (λ (p : Option ℕ). IfSome p (λ number. (is_some (relation_at listing number) ≡ true) × (number ≢ link.child))) parents (fits_listing.paths.links k link is).parent).1

      upper_named : definition.parent ≡ Some above.0.name
      upper_named = ap (option_and_then (relation_name listing)) parents ∙ ap (option_map (λ (r : RelationEntry). r.name)) above.1

      -- the chain below a parent that is there
      chain_below : (parent : Tid) → is_there a.contents above.0.name parent ≡ true → chain a.contents link.name (Some parent) ≡ chain b.contents link.name (Some parent)
      chain_below parent lives = walk_same (λ tid. next_at (place_of a.contents tid (chain_with a.contents link.name tid))) (λ tid. next_at (place_of b.contents tid (chain_with b.contents link.name tid)))
          (chain a.contents link.name (Some parent)) (chain b.contents link.name (Some parent))
          (leads_below fit few link.name definition here above.0.name upper_named parent) (leads_below fits few_too link.name definition there above.0.name upper_named parent)
          (λ tid on. child_says (place_of a.contents tid (chain_with a.contents link.name tid)) (place_of b.contents tid (chain_with b.contents link.name tid))
          (place_spelled fit few link.name definition here above.0.name upper_named tid (chain_with a.contents link.name tid) refl) (place_spelled fits few_too link.name definition there above.0.name upper_named tid (chain_with b.contents link.name tid) refl)
          (child_blocks Child (ap lower_part parents) tid (member_there fit few link.name definition here (Some parent) tid on)))
          (parent_says (ends_of (chain a.contents link.name (Some parent))) (ends_of (chain b.contents link.name (Some parent)))
          (first_spelled fit few link.name definition here (Some parent)) (first_spelled fits few_too link.name definition there (Some parent))
          (subst (λ (p : Part). block_of a.contents link.name parent p ≡ block_of b.contents link.name parent p) (parent_part link early upper parents two) (blocks_alike upper above.0 parent above.1 lives k link is)))

      -- and below one that isn't
      none_below : (parent : Option Tid) → (HasParent a.contents (Some above.0.name) parent → ⊥) → (HasParent b.contents (Some above.0.name) parent → ⊥) → chain a.contents link.name parent ≡ chain b.contents link.name parent
      none_below parent none none_too =
          none_under fit few link.name definition here parent (λ under. none (subst (λ (p : Option Name). HasParent a.contents p parent) upper_named under))
          ∙ sym (none_under fits few_too link.name definition there parent (λ under. none_too (subst (λ (p : Option Name). HasParent b.contents p parent) upper_named under)))

      chain_of_parent : (parent : Option Tid) → chain a.contents link.name parent ≡ chain b.contents link.name parent
      chain_of_parent None = none_below None (λ under. under) (λ under. under)
      chain_of_parent (Some parent) = by_test (is_there a.contents above.0.name parent)
          (λ lives. chain_below parent lives)
          (λ gone. none_below (Some parent) (λ lives. false_true lives gone) (λ lives. false_true (ap is_some (tuple_same upper above.0 parent above.1) ∙ lives) gone))

    same_chain : (upper : Option ℕ) → link.parent ≡ upper → (parent : Option Tid) → chain a.contents link.name parent ≡ chain b.contents link.name parent
    same_chain None none None = only_chain none
    same_chain None none (Some parent) =
        none_under fit few link.name definition here (Some parent) (λ under. subst (λ (p : Option Name). HasParent a.contents p (Some parent)) (ap (option_and_then (relation_name listing)) none) under)
        ∙ sym (none_under fits few_too link.name definition there (Some parent) (λ under. subst (λ (p : Option Name). HasParent b.contents p (Some parent)) (ap (option_and_then (relation_name listing)) none) under))
    same_chain (Some upper) parents parent = chain_of_parent upper parents parent

    chain_content_same : (parent : Option Tid) → content a.contents (Chain link.name parent) ≡ content b.contents (Chain link.name parent)
    chain_content_same parent = sym (chain_back fit link.name parent) ∙ ap chain_content (same_chain link.parent refl parent) ∙ chain_back fits link.name parent

  -- each item that the first holds, the second one holds
  item_same : (item : Item) → IsTupleItem listing item ⊎ IsChainItem listing item → content a.contents item ≡ content b.contents item
  item_same item (inl on) = ap (content a.contents) on.is ∙ tuple_same on.number on.relation on.tid on.at ∙ ap (content b.contents) (sym on.is)
  item_same item (inr on) = ap (content a.contents) on.is ∙ chain_content_same on.number on.link on.at on.parent ∙ ap (content b.contents) (sym on.is)

  -- no two contents are spelled alike
  pub contents_once : a.contents ≡ b.contents
  contents_once = same_map item_total item_apart _ _ (λ item. same_options _ _
      (λ held is. sym (item_same item (one.only item (ap is_some is))) ∙ is)
      (λ held is. item_same item (other.only item (ap is_some is)) ∙ is))

module _ {held : Held} {listing : Listing} {a b : Tables} {m n : ℕ} (one : SpellsTables held listing a) (other : SpellsTables held listing b) (fit : Fits m a) (fits : Fits n b) (few : m ≤ 2 ^ 32) (few_too : n ≤ 2 ^ 32) where
  -- no two tables are spelled alike
  pub spells_once : a ≡ b
  spells_once =
      let definitions : a.definitions ≡ b.definitions = defines_once one.listed one.defines other.defines in
      let contents : a.contents ≡ b.contents = contents_once one.listed one.defines other.defines one.contents other.contents fit fits few few_too in
      λ i. record { definitions = definitions i; contents = contents i }
