-- The rows of an image: the tuples of its relation with their keys, as the bodies say them. Nothing is said of tables.
use Rattle.std.specs.Prelude.{◌≡◌, ◌≢◌, ◌↔◌, ℕ, ◌<◌, true, List, length, Contains, Some}
use Rattle.rss_base.specs.Listings.{Listing, field_numbers, AreDifferent}
use Rattle.rss_base.specs.Paged.{Held, page_key}
use Rattle.rss_base.specs.Tids.{IsSpelledTid}
use Rattle.rss_base.specs.Trees.{Pair, IsImage}
use Rattle.rss_base.specs.TupleTypes.{kinds, chosen, key_bytes}
use Rattle.rss_base.specs.declared.key.Space.TheVariants.{Image as ImageSpace}
use Rattle.rss_base.specs.declared.tid.Tid.{Tid}
use Rattle.rss_base.specs.declared.value.Value.{Value}
use Rattle.rss_base.specs.declared.relation.RelationEntry.{RelationEntry}
use Rattle.rss_base.specs.declared.image.ImageEntry.{ImageEntry}
use Rattle.rss_levels.specs.Entries.{Pairwise}
use Rattle.rss_node.specs.Pairs.{pair_bytes}
use Rattle.rss_image.specs.Images.{ImageTree}
use Rattle.rss_image.specs.Marks.{MarksAll, MarksOnly}
use Rattle.rss_image.specs.declared.image.Image.{Image}
use Rattle.rss_tuple.specs.Directory.{bodies_of}
use Rattle.rss_stored.specs.Store.{IsListedImage, nodes_of}
use Rattle.rss_entries.specs.Moving.{KeyKinds}
use Rattle.rss_access.specs.Bodies.{IsBodyOf, IsKeyIn}
use Rattle.rss_access.specs.Changes.{AccessView}
use Rattle.rss_access.specs.Checking.{AreWithin}

-- the pair of a tuple in an image of its relation: the bytes of its key, and its identifier
pub record IsPairOfRow (held : Held) (listing : Listing) (image : ImageEntry) (relation : RelationEntry) (pair : Pair) : Type 0 where
  pub body : List ℕ
  pub values : List Value
  pub there : bodies_of held relation.segment pair.tid ≡ Some body
  pub is : IsBodyOf listing image.relation (kinds relation.fields) values body
  pub key : pair.key ≡ key_bytes (kinds (chosen (field_numbers image) relation.fields))
      (chosen (field_numbers image) values)

-- Under the root of an image stand the pairs of its relation's tuples, in these pages, none of them twice. A unique one has no key twice.
pub record HasRows (held : Held) (slots : ℕ) (listing : Listing) (number : ℕ) (image : ImageEntry) (relation : RelationEntry) (nodes : List ℕ) : Type 0 where
  pub pairs : List Pair
  pub tree : IsImage held (nodes_of number image relation) image.root image.levels nodes pairs
  pub once : AreDifferent nodes
  pub within : AreWithin slots held number image relation nodes
  pub rows : (pair : Pair) → Contains pairs pair ↔ IsPairOfRow held listing image relation pair
  pub single : image.is_unique ≡ true → (a b : Pair) → Contains pairs a → Contains pairs b
      → a.key ≡ b.key → a ≡ b

-- ---- what a check answers

-- It has them, in so many pages, which are marked beside those that were.
pub record HasRowsIn (count : ℕ) (old new : List ℕ) (at : AccessView) (number : ℕ) (image : ImageEntry) (relation : RelationEntry) : Type 0 where
  pub nodes : List ℕ
  pub rows : HasRows at.pages.held at.pages.slots at.catalog.listing number image relation nodes
  pub counted : count ≡ length nodes
  pub marked : MarksAll nodes old new

-- so it is of the image of this number
abbrev pub ShowsRows : AccessView → ℕ → ℕ → List ℕ → List ℕ → Type 0
ShowsRows at number count old new =
    (image : ImageEntry) (relation : RelationEntry) → IsListedImage at.catalog.listing number image relation
    → HasRowsIn count old new at number image relation

-- there are no pages in which it has them
abbrev pub ShowsNoRows : AccessView → ℕ → Type 0
ShowsNoRows at number =
    (image : ImageEntry) (relation : RelationEntry) (nodes : List ℕ)
    → IsListedImage at.catalog.listing number image relation
    → HasRows at.pages.held at.pages.slots at.catalog.listing number image relation nodes → ⊥

-- At most pages of its segment's space of images are marked beside those that were.
abbrev pub MarksReached : AccessView → ℕ → List ℕ → List ℕ → Type 0
MarksReached at number old new =
    (image : ImageEntry) (relation : RelationEntry) → IsListedImage at.catalog.listing number image relation
    → MarksOnly (λ page. at.pages.mapped (page_key relation.segment ImageSpace page) ≡ true) old new

-- ---- the walk along the tuples

-- A tuple of the relation of this number has this identifier, and its values this key.
pub record IsRow (listing : Listing) (number : ℕ) (key : KeyKinds) (segment : ℕ) (held : Held) (pair : Pair) : Type 0 where
  pub body : List ℕ
  pub there : bodies_of held segment pair.tid ≡ Some body
  pub is : IsKeyIn listing number key body pair.key

-- the image has the pair
abbrev pub HasPair : Image → Held → Pair → Type 0
HasPair image held pair =
    (pairs : List (List ℕ)) → ImageTree image held pairs → Contains pairs (pair_bytes pair.key pair.tid)

abbrev pub LacksPair : Image → Held → Pair → Type 0
LacksPair image held pair =
    (pairs : List (List ℕ)) → ImageTree image held pairs
    → Contains pairs (pair_bytes pair.key pair.tid) → ⊥

-- of a tuple with this identifier
pub record HasRowAt (listing : Listing) (number : ℕ) (key : KeyKinds) (image : Image) (held : Held) (tid : Tid) : Type 0 where
  pub pair : Pair
  pub at : pair.tid ≡ tid
  pub row : IsRow listing number key image.segment held pair
  pub has : HasPair image held pair

-- There are so many rows with this identifier, one or none, and the image has the pair.
pub record CountsRow (listing : Listing) (number : ℕ) (key : KeyKinds) (image : Image) (held : Held) (tid : Tid) (count : ℕ) : Type 0 where
  pub none : count ≡ 0 → (pair : Pair) → pair.tid ≡ tid → IsRow listing number key image.segment held pair → ⊥
  pub one : 0 < count → HasRowAt listing number key image held tid

-- a row whose pair the image lacks
pub record LacksRow (listing : Listing) (number : ℕ) (key : KeyKinds) (image : Image) (held : Held) : Type 0 where
  pub pair : Pair
  pub row : IsRow listing number key image.segment held pair
  pub lacks : LacksPair image held pair

-- a row whose pair the image has
pub record IsHad (listing : Listing) (number : ℕ) (key : KeyKinds) (image : Image) (held : Held) (pair : Pair) : Type 0 where
  pub tid : IsSpelledTid pair.tid
  pub row : IsRow listing number key image.segment held pair
  pub has : HasPair image held pair

-- These are the rows, so many, and the image has the pair of each.
pub record CountsRows (listing : Listing) (number : ℕ) (key : KeyKinds) (image : Image) (held : Held) (count : ℕ) : Type 0 where
  pub rows : List Pair
  pub each : (pair : Pair) → Contains rows pair → IsHad listing number key image held pair
  pub all : (pair : Pair) → IsRow listing number key image.segment held pair → Contains rows pair
  pub apart : Pairwise (λ a b. a ≢ b) rows
  pub counted : count ≡ length rows
