-- The chains of each listed link are spelled, where tables are.
use Rattle.std.proofs.Common.{◌≡◌, ℕ, Bool, true, false, List, Option, Some, None, refl, sym, ◌∙◌, ap, subst, get_or, ◌<◌, ◌^◌, arith}
use Rattle.std.specs.Prelude.{◌≢◌, ◌==◌, not, if◌then◌else◌, is_some, IfSome, option_map, option_and_then}
use Rattle.std.specs.FinMap as map
use Rattle.std.proofs.lemmas.Option.{same_Some}
use Rattle.std.proofs.lemmas.Bool.{cond-true, cond-false, ne_eqb}
use Rattle.rss_base.specs.Sizes.{page_entries}
use Rattle.rss_base.specs.Listings.{IsSpelled, Listing, LinkFits, relation_at, link_at, is_parent_in}
use Rattle.rss_base.specs.Prefixes.{Part, Outside, Parent, part_in, early_part, lower_part, ends_of, parent_block}
use Rattle.rss_base.specs.declared.name.Name.{Name}
use Rattle.rss_base.specs.declared.tid.Tid.{Tid}
use Rattle.rss_base.specs.declared.value.Value.{Value}
use Rattle.rss_base.specs.declared.item.Item.TheVariants.{Tuple as TupleItem}
use Rattle.rss_base.specs.declared.relation.RelationEntry.{RelationEntry}
use Rattle.rss_base.specs.declared.link.LinkEntry.{LinkEntry}
use Rattle.rss_tuple.specs.Directory.{Bodies}
use Rattle.rss_model.specs.Items.{Content}
use Rattle.rss_model.specs.Tables.{LinkDef, Tables, content}
use Rattle.rss_model.specs.Chains.{chain, is_there}
use Rattle.rss_stored.specs.Store.{block_of, body_of, relation_name, link_definition}
use Rattle.rss_model.proofs.LogLists.{some_of}
use Rattle.rss_link.specs.Blocks.{IsNamed}
use Rattle.rss_link.specs.Links.{AreNamed, AreApart, SpellChains}
use Rattle.rss_link.specs.Prefixed.{IsLowerBlock, BodyHas, HaveBlocks, IsPrefixed}
use Rattle.rss_link.proofs.Lists.{eqb_itself}
use Rattle.rss_link.proofs.Prefixed.{spelled}
use Rattle.rss_members.specs.Members.{block_at, segment_in, segment_of, of_parents, chains_of, listed_ends, is_parent, linkage_of, SpellsMembers}
use Rattle.rss_members.proofs.Prefixed.{has_block}
use Rattle.rss_members.proofs.Chained.{its_lists, lower_block}

-- ---- the part of a relation in a link

pub eqb_off : (a b : ℕ) → (a ≡ b → ⊥) → (a == b) ≡ false
eqb_off a b off = ne_eqb a b off

-- one that isn't late has the block of its part in the prefix
pub part_of_early : (link : LinkEntry) (relation : ℕ) (part : Part) → link.late ≡ false → part_in link relation ≡ part → early_part link relation ≡ part
part_of_early link relation part early is = cond-false link.late Outside (part_in link relation) early ∙ is

pub part_of_child : (link : LinkEntry) → link.late ≡ false → early_part link link.child ≡ lower_part link.parent
part_of_child link early = part_of_early link link.child (lower_part link.parent) early (cond-true (link.child == link.child) (lower_part link.parent) _ (eqb_itself link.child))

-- one that has no part in the link has no block
pub part_outside : (link : LinkEntry) (relation : ℕ) → (relation ≡ link.child → ⊥) → (link.parent ≡ Some relation → ⊥) → early_part link relation ≡ Outside
part_outside link relation off off_above = either link.late
    (cond-false (link.child == relation) (lower_part link.parent) _ (eqb_off link.child relation (λ e. off (sym e)))
    ∙ cond-false (is_parent_in link.parent relation) Parent Outside (by link.parent refl))
  where
    by : (above : Option ℕ) → link.parent ≡ above → is_parent_in link.parent relation ≡ false
    by None is = ap (λ (o : Option ℕ). is_parent_in o relation) is
    by (Some p) is = ap (λ (o : Option ℕ). is_parent_in o relation) is ∙ eqb_off p relation (λ e. off_above (is ∙ ap (λ (r : ℕ). Some r) e))

    either : (late : Bool) {part : Part} → part ≡ Outside → (if late then Outside else part) ≡ Outside
    either true is = refl
    either false is = is

pub part_of_parent : (link : LinkEntry) → link.late ≡ false → (relation : ℕ) → link.parent ≡ Some relation → (relation ≡ link.child → ⊥) → early_part link relation ≡ Parent
part_of_parent link early relation is other = part_of_early link relation Parent early (
    cond-false (link.child == relation) (lower_part link.parent) _ (eqb_off link.child relation (λ same. other (sym same)))
    ∙ cond-true (is_parent_in link.parent relation) Parent Outside (ap (λ (o : Option ℕ). is_parent_in o relation) is ∙ eqb_itself relation))

-- ---- tuples

-- six bytes spell an identifier that a store may have
named_by : (tid : Tid) → IsSpelled tid → IsNamed tid
named_by tid is =
    let page : tid.page < 2 ^ 32 = is.0 in
    let slot : tid.slot < page_entries = is.1 in
    record {
      page = page;
      slot = omega (arith, slot);
      some = λ none. let far : tid.slot ≡ 65535 = ap (λ (t : Tid). t.slot) none in absurd (omega (arith, slot, far));
    }

module _ {listing : Listing} {bodies : Bodies} {tables : Tables} (spells : SpellsMembers listing bodies tables) where
  -- a tuple of a relation has a body
  pub record HasBody (number : ℕ) (tid : Tid) : Type 0 where
    pub values : List Value
    pub there : bodies (segment_of listing number) tid ≡ Some (body_of listing tables.contents number tid values)

  pub body_there : (number : ℕ) (relation : RelationEntry) (tid : Tid) → relation_at listing number ≡ Some relation → is_there tables.contents relation.name tid ≡ true → HasBody number tid
  body_there number relation tid at is =
      let held = some_of (content tables.contents (TupleItem relation.name tid)) is in
      let of = spells.tuples relation.name tid held.0 held.1 in
      record {
        values = of.values;
        there = ap (λ (o : Option RelationEntry). bodies (segment_in o) tid) at
            ∙ spells.contents.stands number relation tid of.values at (held.1 ∙ ap (λ (c : Content). Some c) of.tuple);
      }

  -- the tuples of two relations have two bodies
  pub one_relation : (segment one other : ℕ) (tid : Tid) → segment ≡ segment_of listing one → segment ≡ segment_of listing other → HasBody one tid → HasBody other tid → one ≡ other
  one_relation segment one other tid is is_too first second =
      ap (λ (l : List ℕ). get_or l 0 0) (same_Some _ _ (sym first.there ∙ ap (λ (s : ℕ). bodies s tid) (sym is ∙ is_too) ∙ second.there))

  -- ---- a link and its relations

  -- the relation of its parents
  pub record HasAbove (link : LinkEntry) : Type 0 where
    pub number : ℕ
    pub relation : RelationEntry
    pub is : link.parent ≡ Some number
    pub at : relation_at listing number ≡ Some relation
    pub other : number ≡ link.child → ⊥

  module _ (number : ℕ) (link : LinkEntry) (at : link_at listing number ≡ Some link) where
    fits : LinkFits listing link
    fits = spells.listed.paths.links number link at

    pub child_listed : (child : RelationEntry) × (relation_at listing link.child ≡ Some child)
    child_listed = some_of (relation_at listing link.child) fits.child

    pub above_listed : not (is_some link.parent) ≡ false → HasAbove link
    above_listed kind = by link.parent refl kind fits.parent
      where
        by : (above : Option ℕ) → link.parent ≡ above → not (is_some above) ≡ false → IfSome above (λ n. (is_some (relation_at listing n) ≡ true) × (n ≢ link.child)) → HasAbove link
        by None is kind fit = absurd (cc (kind))
        by (Some n) is kind fit = let there = some_of (relation_at listing n) fit.0 in record { number = n; relation = there.0; is = is; at = there.1; other = fit.1 }

    same_kind : (above : Option ℕ) → IfSome above (λ n. (is_some (relation_at listing n) ≡ true) × (n ≢ link.child)) → is_some (option_and_then (relation_name listing) above) ≡ is_some above
    same_kind None fit = refl
    same_kind (Some n) fit = ap (λ (o : Option RelationEntry). is_some (option_map (λ relation. relation.name) o)) (some_of (relation_at listing n) fit.0).1

    module _ (child : RelationEntry) (child_at : relation_at listing link.child ≡ Some child) where
      abbrev definition : LinkDef
      definition = link_definition listing link child

      pub defined : map.get tables.definitions.links link.name ≡ Some definition
      defined = spells.defines.paths.links number link child (record { at = at; within = child_at })

      pub kind : is_some definition.parent ≡ is_some link.parent
      kind = same_kind link.parent fits.parent

      pub parent_named : (above : HasAbove link) → definition.parent ≡ Some above.relation.name
      parent_named above = ap (option_and_then (relation_name listing)) above.is ∙ ap (option_map (λ (r : RelationEntry). r.name)) above.at

      pub is_above : (above : HasAbove link) (tid : Tid) → is_parent tables.contents definition.parent tid ≡ true → is_there tables.contents above.relation.name tid ≡ true
      is_above above tid is = subst (λ (o : Option Name). is_parent tables.contents o tid ≡ true) (parent_named above) is

      -- its block in the body of a tuple of some relation
      block_there : (relation : ℕ) (tid : Tid) → HasBody relation tid → BodyHas bodies (segment_of listing relation) tid (block_at listing number relation) (block_of tables.contents link.name tid (early_part link relation))
      block_there relation tid has = record { body = body_of listing tables.contents relation tid has.values; there = has.there; has = has_block tables.contents relation tid listing number link has.values at }

      named : AreNamed (linkage_of tables.contents link.name definition)
      named = record { children = λ tid is. named_by tid (spells.tids child.name tid is); parents = λ tid is. by definition.parent tid is }
        where
          by : (above : Option Name) (tid : Tid) → is_parent tables.contents above tid ≡ true → IsNamed tid
          by None tid is = absurd (cc (is))
          by (Some relation) tid is = named_by tid (spells.tids relation tid is)

      apart : AreApart (chains_of listing number link) (linkage_of tables.contents link.name definition)
      apart binary same tid is_child is_parent =
          let above = above_listed binary in
          above.other (sym (one_relation (segment_of listing link.child) link.child above.number tid refl (same ∙ ap (of_parents (segment_of listing)) above.is) (body_there link.child child tid child_at is_child) (body_there above.number above.relation tid above.at (is_above above tid is_parent))))

      blocks : HaveBlocks (chains_of listing number link) (listed_ends link) bodies (linkage_of tables.contents link.name definition)
      blocks = record {
        children = λ tid is. record {
          bytes = block_of tables.contents link.name tid (early_part link link.child);
          is = subst (λ (part : Part). lower part tid) (sym (part_of_child link fits.early)) (lower_block spells.links link.name definition defined link.parent (sym kind) tid);
          has = block_there link.child tid (body_there link.child child tid child_at is);
        };
        parents = λ tid binary is.
            let above = above_listed binary in
            let has = subst (λ (part : Part). BodyHas bodies (segment_of listing above.number) tid (block_at listing number above.number) (block_of tables.contents link.name tid part)) (part_of_parent link fits.early above.number above.is above.other)
            (block_there above.number tid (body_there above.number above.relation tid above.at (is_above above tid is))) in
            subst (λ (o : Option ℕ). BodyHas bodies (of_parents (segment_of listing) o) tid (of_parents (block_at listing number) o) (parent_block (ends_of (chain tables.contents link.name (Some tid))))) (sym above.is) has;
        kept = λ unary. let ends = spells.contents.ends number link at in λ i. record { first = ends.0 i; last = ends.1 i };
      }
        where
          lower : Part → Tid → Type 0
          lower part tid = IsLowerBlock (not (is_some link.parent)) (chain tables.contents link.name) tid (block_of tables.contents link.name tid part)

      pub prefixed : IsPrefixed (chains_of listing number link) (listed_ends link) bodies (linkage_of tables.contents link.name definition)
      prefixed = record { named = named; apart = apart; lists = its_lists spells.links link.name definition defined (not (is_some link.parent)) (ap not (sym kind)); blocks = blocks }

      pub spells_chains : SpellChains (chains_of listing number link) (listed_ends link) bodies (linkage_of tables.contents link.name definition)
      spells_chains = spelled prefixed
