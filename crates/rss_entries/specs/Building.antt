-- An image, built from pairs that rise.
use Rattle.std.specs.Prelude.{◌≡◌, ℕ, Bool, true, List, map}
use Rattle.rss_base.specs.Steps.{PagesView}
use Rattle.rss_base.specs.declared.tid.Tid.{Tid}
use Rattle.rss_base.specs.Entries.{IsLess}
use Rattle.rss_levels.specs.Entries.{Each, Pairwise, zeros}
use Rattle.rss_node.specs.Pairs.{pair_bytes}
use Rattle.rss_image.specs.Images.{AreAllMade}
use Rattle.rss_image.specs.declared.image.Image.{Image}

-- the pairs as bytes
abbrev pub pair_list : List (List ℕ × Tid) → List (List ℕ)
pair_list pairs = map (λ pair. pair_bytes pair.0 pair.1) pairs

-- each is below those behind it
abbrev pub AreRising : List (List ℕ × Tid) → Type 0
AreRising pairs = Pairwise IsLess (pair_list pairs)

-- The bounds and pairs of its tree pass each test that zeros and these pairs pass.
abbrev pub BuildsMade : Image → List (List ℕ) → PagesView → Type 0
BuildsMade image pairs view =
    (good : List ℕ → Bool) → good (zeros image.width) ≡ true → Each (λ p. good p ≡ true) pairs → AreAllMade good image view.held
