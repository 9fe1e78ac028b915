-- That an image by its rows is one by its nodes, as `rss_base` has it.
use Rattle.std.specs.Prelude.{◌≡◌, ℕ, ◌<◌, List, map, Some}
use Rattle.rss_base.specs.Paged.{Held}
use Rattle.rss_base.specs.Nodes.{NodesOf}
use Rattle.rss_base.specs.Trees.{Pair, IsImage}
use Rattle.rss_base.specs.Listings.{AreDifferent}
use Rattle.rss_base.specs.Entries.{no_page}
use Rattle.rss_levels.specs.Rows.{Cells}
use Rattle.rss_levels.specs.Nested.{AreSameNumbers}
use Rattle.rss_node.specs.Nodes.{AreNodes}
use Rattle.rss_node.specs.Pairs.{pair_bytes, pair_from}
use Rattle.rss_node.specs.declared.pair.Nodes.{Nodes}
use Rattle.rss_image.specs.Trees.{cells_of}
use Rattle.rss_image.specs.Images.{nodes_of, ImageTree, pages_of}
use Rattle.rss_image.specs.declared.image.Image.{Image}

abbrev pub base_of : Nodes → NodesOf
base_of of = record { segment = of.segment; image = of.image; width = of.width }

-- no image page of the segment has the number that stands for no next leaf, or a greater one
abbrev pub AreNumbered : Cells → Type 0
AreNumbered cells = (number : ℕ) (bytes : List ℕ) → cells number ≡ Some bytes → number < no_page

-- The same image: its pages are these, each once, and its pairs say these keys and identifiers.
pub record IsSameImage {image : Image} {held : Held} {pairs : List (List ℕ)} (tree : ImageTree image held pairs) : Type 0 where
  pub pages : List ℕ
  pub same : AreSameNumbers pages (pages_of tree)
  pub once : AreDifferent pages
  pub is : IsImage held (base_of (nodes_of image)) image.root image.levels pages (map (pair_from image.width) pairs)

-- Where pages spell an image by its rows, they are one by its nodes.
abbrev pub AreImages : Image → Held → Type 0
AreImages image held = AreNumbered (cells_of (nodes_of image) held) → (pairs : List (List ℕ)) (tree : ImageTree image held pairs) → IsSameImage tree

-- The same image by its rows: these pairs, in the same pages.
pub record HasSameTree (image : Image) (held : Held) (numbers : List ℕ) (pairs : List Pair) : Type 0 where
  pub tree : ImageTree image held (map (λ pair. pair_bytes pair.key pair.tid) pairs)
  pub same : AreSameNumbers (pages_of tree) numbers

-- Where pages are an image by its nodes, each of them once, they spell it by its rows.
abbrev pub SpellImages : Image → Held → Type 0
SpellImages image held = AreNodes (nodes_of image) → AreNumbered (cells_of (nodes_of image) held)
    → (numbers : List ℕ) (pairs : List Pair) → IsImage held (base_of (nodes_of image)) image.root image.levels numbers pairs
    → AreDifferent numbers → HasSameTree image held numbers pairs
