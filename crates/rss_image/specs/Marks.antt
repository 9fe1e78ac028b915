-- Marks of pages, by their numbers: a bit for each, in words of 64.
use Rattle.std.specs.Prelude.{◌≡◌, ◌⊎◌, ℕ, ◌*◌, ◌/◌, ◌%◌, ◌<◌, true, List, length, slice_index_or}
use Rattle.std.specs.Int.{bit_at}
use Rattle.rss_base.specs.Paged.{Held, page_key}
use Rattle.rss_base.specs.Steps.{PagesView}
use Rattle.rss_base.specs.declared.key.Space.TheVariants.{Image as ImageSpace}
use Rattle.rss_levels.specs.Entries.{IsIn}
use Rattle.rss_levels.specs.Rows.{Part, Row}
use Rattle.rss_levels.specs.Nested.{IsUnder}
use Rattle.rss_node.specs.declared.pair.Nodes.{Nodes}
use Rattle.rss_image.specs.Trees.{cells_of}
use Rattle.rss_image.specs.Images.{ImageTree, pages_of}
use Rattle.rss_image.specs.Fitting.{IsFine}
use Rattle.rss_image.specs.declared.image.Image.{Image}

-- the page of this number is marked
abbrev pub IsMarked : List ℕ → ℕ → Type 0
IsMarked marks number = bit_at (slice_index_or marks (number / 64) 0) (number % 64) ≡ 1

-- What was marked is marked still, and beside it at most such numbers as these.
pub record MarksOnly (these : ℕ → Type 0) (old new : List ℕ) : Type 0 where
  pub size : length new ≡ length old
  pub kept : (number : ℕ) → IsMarked old number → IsMarked new number
  pub only : (number : ℕ) → IsMarked new number → IsMarked old number ⊎ these number

-- These numbers are marked too, as far as there are bits for them, and no others.
pub record MarksAll (numbers old new : List ℕ) : Type 0 where
  pub only : MarksOnly (IsIn numbers) old new
  pub all : (number : ℕ) → IsIn numbers number → number < 64 * length old → IsMarked new number

-- the image page of this number is mapped
abbrev pub IsMappedIn : Nodes → PagesView → ℕ → Type 0
IsMappedIn of view number = view.mapped (page_key of.segment ImageSpace number) ≡ true

-- Whatever stands under a node of this level in the page of this number, its pages are marked.
abbrev pub MarksUnder : Nodes → PagesView → ℕ → ℕ → List ℕ → List ℕ → Type 0
MarksUnder of view level number old new =
    (part : Part) (ns : List ℕ) (leaves : Row) (end : ℕ) → part.number ≡ number
    → IsUnder (IsFine of view.slots) (cells_of of view.held) of.width level part ns leaves end
    → MarksAll ns old new

-- the pages of the tree that the pages spell are marked
abbrev pub MarksImage : Image → Held → List ℕ → List ℕ → Type 0
MarksImage image held old new =
    (pairs : List (List ℕ)) (tree : ImageTree image held pairs) → MarksAll (pages_of tree) old new
