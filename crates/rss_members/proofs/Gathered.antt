-- Tuples and the bodies that are theirs, whatever their chains are; and the chains that bodies spell, in the words of tables.
use Rattle.std.proofs.Common.{◌≡◌, ℕ, Bool, true, false, List, [], ◌∷◌, ◌++◌, length, Option, Some, None, refl, sym, ◌∙◌, ap, subst}
use Rattle.std.specs.Prelude.{◌≢◌, if◌then◌else◌, not, is_some, All, IfSome, option_map, option_and_then}
use Rattle.std.proofs.lemmas.Bool.{eqb-true}
use Rattle.std.proofs.lemmas.Option.{same_Some}
use Rattle.rss_base.specs.Listings.{IsSpelled, Listing, ListingFits, relation_at, link_at}
use Rattle.rss_base.specs.Prefixes.{prefix_size}
use Rattle.rss_base.specs.TupleTypes.{tuple_bytes, IsStorable}
use Rattle.rss_base.specs.declared.name.Name.{Name}
use Rattle.rss_base.specs.declared.tid.Tid.{Tid}
use Rattle.rss_base.specs.declared.value.Value.{Value}
use Rattle.rss_base.specs.declared.item.Item.TheVariants.{Tuple as TupleItem}
use Rattle.rss_base.specs.declared.relation.RelationEntry.{RelationEntry}
use Rattle.rss_base.specs.declared.link.LinkEntry.{LinkEntry}
use Rattle.rss_tuple.specs.Directory.{Bodies}
use Rattle.rss_tuple.specs.TupleSteps.{TuplesView}
use Rattle.rss_model.specs.Items.{Content, Values}
use Rattle.rss_model.specs.Tables.{LinkDef, Contents, Tables, content}
use Rattle.rss_model.specs.Chains.{chain, is_there}
use Rattle.rss_model.specs.Fits.{IsTupleOf}
use Rattle.rss_stored.specs.Store.{fields_at, Defines, IsListedLink, prefix_of, relation_name, link_definition}
use Rattle.rss_model.proofs.LogLists.{some_of}
use Rattle.rss_link.specs.declared.link.Relations.{Relations}
use Rattle.rss_link.specs.Calls.{seen_with}
use Rattle.rss_link.specs.Chains.{Lists, Linkage}
use Rattle.rss_link.specs.Checking.{begins_with, children_of, parents_of, HasChains, linkage_of as linkage_read}
use Rattle.rss_link.specs.Links.{SpellChains}
use Rattle.rss_link.proofs.Lists.{eqb_itself}
use Rattle.rss_members.specs.Members.{segment_in, segment_of, of_parents, chains_of, listed_ends, is_parent, SpellsMembers}
use Rattle.rss_members.proofs.Prefixed.{long_prefix}
use Rattle.rss_members.proofs.Spelled.{spells_chains}

-- ---- bodies and tuples

-- these values stand in a body behind the number of a relation and as many bytes as its prefixes have
pub record HoldsValues (listing : Listing) (number : ℕ) (values : List Value) (body : List ℕ) : Type 0 where
  pub prefix : List ℕ
  pub long : length prefix ≡ prefix_size listing.links number
  pub is : body ≡ number ∷ (prefix ++ tuple_bytes (fields_at listing number) values)

-- the tuple's body holds its values
pub record StandsIn (listing : Listing) (bodies : Bodies) (segment : ℕ) (tid : Tid) (number : ℕ) (values : List Value) : Type 0 where
  pub body : List ℕ
  pub there : bodies segment tid ≡ Some body
  pub holds : HoldsValues listing number values body

-- the body is that of a tuple of a relation of this segment, whatever its chains are
pub record IsBodyOfTuple (listing : Listing) (contents : Contents) (segment : ℕ) (tid : Tid) (body : List ℕ) : Type 0 where
  pub number : ℕ
  pub relation : RelationEntry
  pub values : List Value
  pub at : relation_at listing number ≡ Some relation
  pub within : relation.segment ≡ segment
  pub is : HoldsValues listing number values body
  pub storable : All IsStorable values
  pub holds : content contents (TupleItem relation.name tid) ≡ Some (Values values)

-- The bodies are those of the tuples of these tables, and nothing is said of chains.
pub record SpellsTuples (listing : Listing) (bodies : Bodies) (tables : Tables) : Type 0 where
  pub listed : ListingFits listing
  pub defines : Defines listing tables.definitions
  pub stands : (number : ℕ) (relation : RelationEntry) (tid : Tid) (values : List Value)
      → relation_at listing number ≡ Some relation → content tables.contents (TupleItem relation.name tid) ≡ Some (Values values)
      → StandsIn listing bodies relation.segment tid number values
  pub bodies_are : (segment : ℕ) (tid : Tid) (body : List ℕ) → bodies segment tid ≡ Some body → IsBodyOfTuple listing tables.contents segment tid body
  pub tuples : (relation : Name) (tid : Tid) (held : Content) → content tables.contents (TupleItem relation tid) ≡ Some held → IsTupleOf tables relation held
  pub tids : (relation : Name) (tid : Tid) → is_there tables.contents relation tid ≡ true → IsSpelled tid

-- it is so of tables with chains
pub tuples_spelled : {listing : Listing} {bodies : Bodies} {tables : Tables} → SpellsMembers listing bodies tables → SpellsTuples listing bodies tables
tuples_spelled {listing = listing} {bodies = bodies} {tables = tables} spells = record {
  listed = spells.listed;
  defines = spells.defines;
  stands = λ number relation tid values at is. record {
    body = number ∷ (prefix_of listing tables.contents number tid ++ tuple_bytes (fields_at listing number) values);
    there = spells.contents.stands number relation tid values at is;
    holds = record { prefix = prefix_of listing tables.contents number tid; long = long_prefix tables.contents number tid listing.links; is = refl };
  };
  bodies_are = λ segment tid body is. let of = spells.contents.bodies_are segment tid body is in record {
    number = of.number;
    relation = of.relation;
    values = of.values;
    at = of.at;
    within = of.within;
    is = record { prefix = prefix_of listing tables.contents of.number tid; long = long_prefix tables.contents of.number tid listing.links; is = of.is };
    storable = of.storable;
    holds = of.holds;
  };
  tuples = spells.tuples;
  tids = spells.tids;
}

-- ---- the tuples of a link's relations

-- the numbers of its relations, and 0 where it has no parents
abbrev pub relations_of : LinkEntry → Relations
relations_of link = record { child = link.child; parent = of_parents (λ number. number) link.parent }

-- its tuples, with some chains
abbrev pub linked : Contents → LinkDef → Lists → Linkage
linked contents link lists = record { children = is_there contents link.child; parents = is_parent contents link.parent; lists = lists }

-- its tuples as bodies say them
abbrev pub linked_read : Listing → Bodies → ℕ → LinkEntry → Lists → Linkage
linked_read listing bodies number link lists = linkage_read (chains_of listing number link) (relations_of link) bodies lists

same_bools : (a b : Bool) → (a ≡ true → b ≡ true) → (b ≡ true → a ≡ true) → a ≡ b
same_bools true b to from = sym (to refl)
same_bools false true to from = from refl
same_bools false false to from = refl

module _ {listing : Listing} {bodies : Bodies} {tables : Tables} (spells : SpellsTuples listing bodies tables) where
  same_entry : (m n : ℕ) (a b : RelationEntry) → relation_at listing m ≡ Some a → relation_at listing n ≡ Some b → m ≡ n → a ≡ b
  same_entry m n a b one other same = same_Some _ _ (sym one ∙ ap (relation_at listing) same ∙ other)

  -- a tuple that is there has a body
  pub body_stands : (number : ℕ) (relation : RelationEntry) (tid : Tid) → relation_at listing number ≡ Some relation → is_there tables.contents relation.name tid ≡ true
      → (values : List Value) × StandsIn listing bodies (segment_of listing number) tid number values
  body_stands number relation tid at is =
      let held = some_of (content tables.contents (TupleItem relation.name tid)) is in
      let of = spells.tuples relation.name tid held.0 held.1 in
      let stands = spells.stands number relation tid of.values at (held.1 ∙ ap (λ (c : Content). Some c) of.tuple) in
      (of.values, record { body = stands.body; there = ap (λ (o : Option RelationEntry). bodies (segment_in o) tid) at ∙ stands.there; holds = stands.holds })

  -- a body begins with the number of a relation exactly where it is that of one of its tuples
  pub begins_there : (number : ℕ) (relation : RelationEntry) (tid : Tid) → relation_at listing number ≡ Some relation → begins_with number (bodies (segment_of listing number) tid) ≡ is_there tables.contents relation.name tid
  begins_there number relation tid at = same_bools _ _ (to (bodies (segment_of listing number) tid) refl) from
    where
      to : (found : Option (List ℕ)) → bodies (segment_of listing number) tid ≡ found → begins_with number found ≡ true → is_there tables.contents relation.name tid ≡ true
      to None is begins = absurd (cc (begins))
      to (Some []) is begins = absurd (cc (begins))
      to (Some (first ∷ rest)) is begins =
          let of = spells.bodies_are (segment_of listing number) tid (first ∷ rest) is in
          let whole : first ∷ rest ≡ of.number ∷ (of.is.prefix ++ tuple_bytes (fields_at listing of.number) of.values) = of.is.is in
          let head : first ≡ of.number = cc in
          let same : of.relation ≡ relation = same_entry of.number number of.relation relation of.at at (sym head ∙ eqb-true first number begins) in
          ap is_some (ap (λ (r : RelationEntry). content tables.contents (TupleItem r.name tid)) (sym same) ∙ of.holds)

      from : is_there tables.contents relation.name tid ≡ true → begins_with number (bodies (segment_of listing number) tid) ≡ true
      from is =
          let stands = (body_stands number relation tid at is).1 in
          ap (begins_with number) (stands.there ∙ ap (λ (l : List ℕ). Some l) stands.holds.is) ∙ eqb_itself number

  module _ (number : ℕ) (link : LinkEntry) (at : link_at listing number ≡ Some link) (child : RelationEntry) (child_at : relation_at listing link.child ≡ Some child) (lists : Lists) where
    children_there : (tid : Tid) → children_of (chains_of listing number link) (relations_of link) bodies tid ≡ is_there tables.contents child.name tid
    children_there tid = begins_there link.child child tid child_at

    parents_there : (tid : Tid) → parents_of (chains_of listing number link) (relations_of link) bodies tid ≡ is_parent tables.contents (link_definition listing link child).parent tid
    parents_there tid = by link.parent (spells.listed.paths.links number link at).parent
      where
        by : (above : Option ℕ) → IfSome above (λ n. (is_some (relation_at listing n) ≡ true) × (n ≢ link.child))
            → (if not (is_some above) then false else begins_with (of_parents (λ n. n) above) (bodies (of_parents (segment_of listing) above) tid)) ≡ is_parent tables.contents (option_and_then (relation_name listing) above) tid
        by None fit = refl
        by (Some n) fit =
            let there = some_of (relation_at listing n) fit.0 in
            begins_there n there.0 tid there.1 ∙ sym (ap (λ (o : Option RelationEntry). is_parent tables.contents (option_map (λ relation. relation.name) o) tid) there.1)

    -- a link's tuples are those that bodies say
    pub linkage_same : linked_read listing bodies number link lists ≡ linked tables.contents (link_definition listing link child) lists
    linkage_same = λ i. record { children = λ tid. children_there tid i; parents = λ tid. parents_there tid i; lists = lists }

-- ---- chains of tables that are spelled

-- Where tables are spelled, the bodies have the chains of each listed link.
pub chains_had : {listing : Listing} {view : TuplesView} {tables : Tables} → SpellsMembers listing view.bodies tables → (number : ℕ) (link : LinkEntry) (child : RelationEntry) → IsListedLink listing number link child
    → HasChains (chains_of listing number link) (relations_of link) (seen_with (listed_ends link) view)
chains_had {listing = listing} {view = view} {tables = tables} spells number link child is = record {
  lists = chain tables.contents link.name;
  spells = subst (SpellChains (chains_of listing number link) (listed_ends link) view.bodies) (sym (linkage_same (tuples_spelled spells) number link is.at child is.within (chain tables.contents link.name)))
      (spells_chains spells number link is.at child is.within);
}
