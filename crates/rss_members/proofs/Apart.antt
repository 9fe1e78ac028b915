-- The blocks of two links lie apart in each body.
use Rattle.std.proofs.Common.{◌≡◌, inl, inr, ℕ, ◌+◌, ◌-◌, ◌<◌, ◌≤◌, List, length, get_or, take, Option, Some, None, refl, sym, ◌∙◌, ap, subst, arith}
use Rattle.std.specs.Prelude.{not, is_some, sum_by}
use Rattle.std.proofs.lemmas.Bool.{cases_lt}
use Rattle.std.proofs.lemmas.List.{take-take, length-take, get_or-take}
use Rattle.std.proofs.lemmas.List.Sums.{sum_by_more_le}
use Rattle.rss_base.specs.Listings.{Listing, numbered, relation_at, link_at}
use Rattle.rss_base.specs.Prefixes.{early_part, lower_part, block_size, listed_block_size, prefix_size}
use Rattle.rss_base.specs.declared.tid.Tid.{Tid}
use Rattle.rss_base.specs.declared.relation.RelationEntry.{RelationEntry}
use Rattle.rss_base.specs.declared.link.LinkEntry.{LinkEntry}
use Rattle.rss_catalog.proofs.Numbered.{numbered_at, numbered_within}
use Rattle.rss_tuple.specs.Directory.{Bodies}
use Rattle.rss_model.specs.Tables.{Tables}
use Rattle.rss_stored.specs.Store.{link_definition}
use Rattle.rss_link.specs.Blocks.{child_size}
use Rattle.rss_link.specs.Links.{HasBlock, as_child, as_parent, AreDisjoint}
use Rattle.rss_members.specs.Members.{block_at, segment_of, of_parents, chains_of, linkage_of, SpellsMembers}
use Rattle.rss_members.proofs.Spelled.{part_of_child, part_of_parent, HasBody, body_there, one_relation, above_listed, is_above}

-- ---- blocks in one body

lesser_first : (items : List (Option LinkEntry)) (relation one other : ℕ) (link : LinkEntry) → numbered items one ≡ Some link → one < other
    → prefix_size (take (one - 1) items) relation + block_size (early_part link relation) ≤ prefix_size (take (other - 1) items) relation
lesser_first items relation one other link at less =
    let bounds = numbered_within items one link at in
    let low : 1 ≤ one = bounds.0 in
    let high : one ≤ length items = bounds.1 in
    let rest : List (Option LinkEntry) = take (other - 1) items in
    let here : get_or rest (one - 1) None ≡ Some link = get_or-take (other - 1) items (one - 1) None (omega (arith, low, less)) ∙ sym (numbered_at items one low high) ∙ at in
    let front : take (one - 1) rest ≡ take (one - 1) items = take-take (one - 1) (other - 1) items (omega (arith, less)) in
    let sum : sum_by (listed_block_size relation) (take (one - 1) rest) + listed_block_size relation (get_or rest (one - 1) None) ≤ sum_by (listed_block_size relation) rest =
    sum_by_more_le (listed_block_size relation) rest (one - 1) None (omega (arith, length-take (other - 1) items, low, high, less)) in
    subst (λ (l : List (Option LinkEntry)). prefix_size l relation + block_size (early_part link relation) ≤ prefix_size rest relation) front
    (subst (λ (o : Option LinkEntry). sum_by (listed_block_size relation) (take (one - 1) rest) + listed_block_size relation o ≤ sum_by (listed_block_size relation) rest) here sum)

pub size_of_child : (parent : Option ℕ) → child_size (not (is_some parent)) ≡ block_size (lower_part parent)
size_of_child None = refl
size_of_child (Some parent) = refl

-- ---- the blocks of a link

module _ {listing : Listing} {bodies : Bodies} {tables : Tables} (spells : SpellsMembers listing bodies tables) where
  -- the tuple has a body, of this relation, and the block is the link's there
  record IsBlock (number : ℕ) (link : LinkEntry) (segment : ℕ) (tid : Tid) (at size : ℕ) : Type 0 where
    relation : ℕ
    within : segment ≡ segment_of listing relation
    has : HasBody spells relation tid
    place : at ≡ block_at listing number relation
    long : size ≡ block_size (early_part link relation)

  module _ (number : ℕ) (link : LinkEntry) (at : link_at listing number ≡ Some link) (child : RelationEntry) (child_at : relation_at listing link.child ≡ Some child) where
    is_block : (segment : ℕ) (tid : Tid) (from size : ℕ) → HasBlock (chains_of listing number link) (linkage_of tables.contents link.name (link_definition listing link child)) segment tid from size → IsBlock number link segment tid from size
    is_block segment tid from size (as_child here is place long) = record {
      relation = link.child;
      within = here;
      has = body_there spells link.child child tid child_at is;
      place = place;
      long = long ∙ size_of_child link.parent ∙ sym (ap block_size (part_of_child link (spells.listed.paths.links number link at).early));
    }
    is_block segment tid from size (as_parent kind here is place long) =
        let above = above_listed spells number link at kind in record {
          relation = above.number;
          within = here ∙ ap (of_parents (segment_of listing)) above.is;
          has = body_there spells above.number above.relation tid above.at (is_above spells number link at child child_at above tid is);
          place = place ∙ ap (of_parents (block_at listing number)) above.is;
          long = long ∙ sym (ap block_size (part_of_parent link (spells.listed.paths.links number link at).early above.number above.is above.other));
        }

  lesser_apart : (one other : ℕ) (link link_too : LinkEntry) → link_at listing one ≡ Some link → one < other → (segment : ℕ) (tid : Tid) (at size from count : ℕ)
      → IsBlock one link segment tid at size → IsBlock other link_too segment tid from count → at + size ≤ from
  lesser_apart one other link link_too at_one less segment tid at size from count first second =
      let same : first.relation ≡ second.relation = one_relation spells segment first.relation second.relation tid first.within second.within first.has second.has in
      let place : from ≡ block_at listing other first.relation = second.place ∙ ap (block_at listing other) (sym same) in
      omega (arith, first.place, first.long, place, lesser_first listing.links first.relation one other link at_one less)

  pub apart_blocks : (one other : ℕ) (link link_too : LinkEntry) (child child_too : RelationEntry) → link_at listing one ≡ Some link → link_at listing other ≡ Some link_too
      → relation_at listing link.child ≡ Some child → relation_at listing link_too.child ≡ Some child_too → (one ≡ other → ⊥)
      → AreDisjoint (chains_of listing one link) (linkage_of tables.contents link.name (link_definition listing link child))
      (chains_of listing other link_too) (linkage_of tables.contents link_too.name (link_definition listing link_too child_too))
  apart_blocks one other link link_too child child_too at_one at_other child_at child_at_too off segment tid at size from count block block_too =
      let first = is_block one link at_one child child_at segment tid at size block in
      let second = is_block other link_too at_other child_too child_at_too segment tid from count block_too in
      elim (cases_lt one other) [
        | inl less ↦ inl (lesser_apart one other link link_too at_one less segment tid at size from count first second)
        | inr not_less ↦ inr (lesser_apart other one link_too link at_other (omega (arith, not_less, off)) segment tid from count at size second first)
      ]
