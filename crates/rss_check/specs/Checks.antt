-- What an opening finds in the pages of one segment, and of links.
use Rattle.std.specs.Prelude.{◌≡◌, ◌⊎◌, ◌==◌, ℕ, ◌^◌, ◌-◌, ◌≤◌, Bool, true, false, Some, None, is_some, min, List, [], ◌∷◌, length, count_by, slice_index_or}
use Rattle.rss_base.specs.DiskRule.{IsTold}
use Rattle.rss_base.specs.Sizes.{relations_most}
use Rattle.rss_base.specs.Steps.{PagesView, Keys}
use Rattle.rss_base.specs.Paged.{Held, Mapped}
use Rattle.rss_base.specs.Listings.{Listing, segment_at, relation_at, link_at}
use Rattle.rss_base.specs.declared.link.LinkEntry.{LinkEntry}
use Rattle.rss_base.specs.declared.relation.RelationEntry.{RelationEntry}
use Rattle.rss_base.specs.declared.key.PageKey.{PageKey}
use Rattle.rss_base.specs.declared.place.Place.{Place}
use Rattle.rss_base.specs.declared.place.Place.TheVariants.{Room}
use Rattle.rss_tuple.specs.Checked.{Row, Rows, tuples_of, IsSound, AreNoted}
use Rattle.rss_tuple.specs.TupleSteps.{tuples_in}
use Rattle.rss_model.specs.Fits.{tuple_limit}
use Rattle.rss_stored.specs.Store.{IsStorePage}
use Rattle.rss_link.specs.declared.link.Relations.{Relations}
use Rattle.rss_link.specs.Calls.{seen_with}
use Rattle.rss_link.specs.Checking.{HasChains}
use Rattle.rss_members.specs.Members.{of_parents, chains_of, listed_ends}
use Rattle.rss_access.specs.Bodies.{is_body}
use Rattle.rss_access.specs.Changes.{AccessView}

-- the body is that of a tuple of the relation of this number
abbrev pub begins_with : ℕ → List ℕ → Bool
begins_with number [] = false
begins_with number (first ∷ rest) = first == number

-- how many of the tuples are those of a relation
abbrev pub count_of : ℕ → Rows → ℕ
count_of number rows = count_by (λ (row : Row). begins_with number row.1) rows

-- how many of them a visitor counts: up to 2^32 - 1
abbrev pub seen_of : ℕ → Rows → ℕ
seen_of number rows = min (count_of number rows) (2 ^ 32 - 1)

-- There is a count for each number of a relation, and it is that of the tuples.
pub record AreSeen (counts : List ℕ) (rows : Rows) : Type 0 where
  pub places : length counts ≡ relations_most
  pub right : (number : ℕ) → 1 ≤ number → number ≤ relations_most
      → slice_index_or counts (number - 1) 0 ≡ seen_of number rows

-- each relation of the segment has as many tuples as it counts, and no more than it may have
abbrev pub AreSegmentCounts : Listing → ℕ → Held → ℕ → Type 0
AreSegmentCounts listing segment held slots =
    (number : ℕ) (relation : RelationEntry) → relation_at listing number ≡ Some relation
    → relation.segment ≡ segment
    → (count_of number (tuples_of held segment slots) ≡ relation.live) × (relation.live ≤ tuple_limit)

-- The pages of a segment that is listed are in form, its tuples are those of its relations, and their counts are right.
pub record IsSegmentOf (held : Held) (slots : ℕ) (listing : Listing) (segment : ℕ) : Type 0 where
  pub sound : IsSound held segment (is_body listing segment)
  pub counts : AreSegmentCounts listing segment held slots

pub record ChecksSegment (listing : Listing) (segment : ℕ) (old new : PagesView) : Type 0 where
  pub is : IsTold old.disk → IsSegmentOf old.held old.slots listing segment
  pub noted : IsTold old.disk → AreNoted segment new

-- They aren't, which shows at this place.
pub record MissesSegment (listing : Listing) (segment : ℕ) (old : PagesView) (place : Place) : Type 0 where
  pub is_not : IsTold old.disk → IsSegmentOf old.held old.slots listing segment → ⊥
  pub elsewhere : place ≡ Room → ⊥

-- The relation of this number, if it is one of the segment, has as many tuples as were seen, and no more than it may have.
abbrev pub IsCountOf : Listing → ℕ → ℕ → ℕ → Type 0
IsCountOf listing segment number seen =
    (relation : RelationEntry) → relation_at listing number ≡ Some relation
    → relation.segment ≡ segment → (relation.live ≡ seen) × (relation.live ≤ tuple_limit)

-- The segments that are listed are in form.
abbrev pub ChecksSegments : Listing → PagesView → PagesView → Type 0
ChecksSegments listing old new =
    (segment : ℕ) → is_some (segment_at listing segment) ≡ true → ChecksSegment listing segment old new

-- One of them isn't, which shows at this place.
pub record MissesOne (listing : Listing) (old : PagesView) (place : Place) : Type 0 where
  pub segment : ℕ
  pub listed : is_some (segment_at listing segment) ≡ true
  pub misses : MissesSegment listing segment old place

-- A page is there that no store with these definitions has, which shows at this place.
pub record IsForeign (listing : Listing) (old : PagesView) (place : Place) : Type 0 where
  pub key : PageKey
  pub there : old.mapped key ≡ true
  pub is_not : IsStorePage listing key → ⊥
  pub elsewhere : place ≡ Room → ⊥

-- each page of this kind that is mapped is one of a segment that is listed
abbrev pub AreListed : Keys → Listing → Mapped → Type 0
AreListed kind listing mapped =
    (key : PageKey) → kind key → mapped key ≡ true → is_some (segment_at listing key.segment) ≡ true

-- The pages of tuples aren't in form, which shows at this place.
abbrev pub MissesTuples : Listing → PagesView → Place → Type 0
MissesTuples listing old place = MissesOne listing old place ⊎ IsForeign listing old place

-- ---- links

-- the numbers of a link's relations; there are no parents where it is unary
abbrev pub relations_of : LinkEntry → Relations
relations_of link = record { child = link.child; parent = of_parents (λ number. number) link.parent }

-- where a link has parents, no ends of a chain are listed
abbrev pub HasOwnEnds : LinkEntry → Type 0
HasOwnEnds link = is_some link.parent ≡ true → (link.first ≡ None) × (link.last ≡ None)

-- The bodies of a link's tuples spell its chains, with the ends that are listed where it has one chain.
pub record HasLink (at : AccessView) (number : ℕ) (link : LinkEntry) : Type 0 where
  pub chains : HasChains (chains_of at.catalog.listing number link) (relations_of link)
      (seen_with (listed_ends link) (tuples_in at.pages))
  pub no_ends : HasOwnEnds link

-- it is so of each link that is listed
abbrev pub ChecksLinks : AccessView → Type 0
ChecksLinks at =
    (number : ℕ) (link : LinkEntry) → link_at at.catalog.listing number ≡ Some link → HasLink at number link
