-- Links as a catalog lists them: where their blocks stand in bodies, and the tables that these spell.
use Rattle.std.specs.Prelude.{◌≡◌, ℕ, ◌+◌, ◌-◌, ◌*◌, Bool, true, false, not, List, [], take, flat_map, Option, Some, None, is_some}
use Rattle.rss_base.specs.Sizes.{roles_most}
use Rattle.rss_base.specs.Listings.{Listing, ListingFits, IsSpelled, relation_at, link_at}
use Rattle.rss_base.specs.Prefixes.{Ends, Part, Outside, Member, Child, Parent, early_part, ends_of, member_block, child_block, parent_block, prefix_size}
use Rattle.rss_base.specs.declared.name.Name.{Name}
use Rattle.rss_base.specs.declared.tid.Tid.{Tid}
use Rattle.rss_base.specs.declared.item.Item.TheVariants.{Tuple as TupleItem, Chain as ChainItem}
use Rattle.rss_base.specs.declared.relation.RelationEntry.{RelationEntry}
use Rattle.rss_base.specs.declared.link.LinkEntry.{LinkEntry}
use Rattle.rss_tuple.specs.Directory.{Bodies}
use Rattle.rss_model.specs.Items.{Content}
use Rattle.rss_model.specs.Tables.{LinkDef, Contents, Tables, content, put}
use Rattle.rss_model.specs.Chains.{chain, chain_content, stands_in, is_there, LinksFit}
use Rattle.rss_model.specs.Fits.{IsTupleOf}
use Rattle.rss_stored.specs.Store.{Defines, SpellsContents, link_definition}
use Rattle.rss_link.specs.declared.link.Chains.{Chains}
use Rattle.rss_link.specs.Chains.{Linkage}

-- ---- a link by its number

-- where the block of a link begins in a body of this relation: behind the relation's number and the blocks of the links with lesser numbers
abbrev pub block_at : Listing → ℕ → ℕ → ℕ
block_at listing number relation = 1 + prefix_size (take (number - 1) listing.links) relation

-- the segment of a relation, and 0 where there is none
abbrev pub segment_in : Option RelationEntry → ℕ
segment_in None = 0
segment_in (Some relation) = relation.segment

abbrev pub segment_of : Listing → ℕ → ℕ
segment_of listing relation = segment_in (relation_at listing relation)

-- the same of the parents' relation, if there is one
abbrev pub of_parents : (ℕ → ℕ) → Option ℕ → ℕ
of_parents what None = 0
of_parents what (Some relation) = what relation

-- the link of this number, with the places of its blocks
abbrev pub chains_of : Listing → ℕ → LinkEntry → Chains
chains_of listing number link = record {
  link = number;
  unary = not (is_some link.parent);
  parent_segment = of_parents (segment_of listing) link.parent;
  child_segment = segment_of listing link.child;
  parent_at = of_parents (block_at listing number) link.parent;
  child_at = block_at listing number link.child;
}

-- the ends of its one chain, where it is unary
abbrev pub listed_ends : LinkEntry → Ends
listed_ends link = record { first = link.first; last = link.last }

-- ---- its tuples and its chains

abbrev pub is_parent : Contents → Option Name → Tid → Bool
is_parent contents None tid = false
is_parent contents (Some relation) tid = is_there contents relation tid

-- the tuples of its relations, and its chains
abbrev pub linkage_of : Contents → Name → LinkDef → Linkage
linkage_of contents name link = record {
  children = is_there contents link.child;
  parents = is_parent contents link.parent;
  lists = chain contents name;
}

-- those of a listed link, whose children's relation is this one
abbrev pub linkage_in : Listing → Tables → LinkEntry → RelationEntry → Linkage
linkage_in listing tables link child = linkage_of tables.contents link.name (link_definition listing link child)

-- ---- tables

-- The bodies spell these tables, as far as tuples and chains go, by a listing: the chains are such as links have, and the identifiers are such as a store may have.
pub record SpellsMembers (listing : Listing) (bodies : Bodies) (tables : Tables) : Type 0 where
  pub listed : ListingFits listing
  pub defines : Defines listing tables.definitions
  pub contents : SpellsContents listing bodies tables.contents
  pub tuples : (relation : Name) (tid : Tid) (held : Content)
      → content tables.contents (TupleItem relation tid) ≡ Some held → IsTupleOf tables relation held
  pub links : LinksFit tables
  pub tids : (relation : Name) (tid : Tid) → is_there tables.contents relation tid ≡ true → IsSpelled tid

-- the tables with another list as the chain of a parent
abbrev pub with_chain : Tables → Name → Option Tid → List Tid → Tables
with_chain tables link parent list = record tables {
  contents = put tables.contents (ChainItem link parent) (chain_content list);
}

-- ---- tuples outside of all chains

-- the tuple, of the relation of this number, stands in no chain of a link and has none
pub record IsAlone (listing : Listing) (contents : Contents) (number : ℕ) (tid : Tid) : Type 0 where
  pub child : (k : ℕ) (link : LinkEntry) → link_at listing k ≡ Some link → link.child ≡ number
      → (parent : Option Tid) → stands_in tid (chain contents link.name parent) ≡ false
  pub parent : (k : ℕ) (link : LinkEntry) → link_at listing k ≡ Some link → link.parent ≡ Some number
      → chain contents link.name (Some tid) ≡ []

-- the block of such a tuple
abbrev pub blank_block : Part → List ℕ
blank_block Outside = []
blank_block Member = member_block None
blank_block Child = child_block None
blank_block Parent = parent_block (ends_of [])

abbrev pub blank_listed : ℕ → Option LinkEntry → List ℕ
blank_listed relation None = []
blank_listed relation (Some link) = blank_block (early_part link relation)

-- the prefix of such a tuple, by the number of its relation
abbrev pub blank_prefix : Listing → ℕ → List ℕ
blank_prefix listing relation = flat_map (blank_listed relation) listing.links

-- no prefix has more bytes, by the parts that a relation may have in links
abbrev pub prefix_most : ℕ
prefix_most = roles_most * 18

-- and with the number of the relation before it
abbrev pub front_most : ℕ
front_most = 1 + prefix_most
