-- The numbers of image pages.
use Rattle.std.proofs.Common.{◌≡◌, ◌^◌, ◌<◌, true, is_some, arith}
use Rattle.rss_base.specs.Paged.{page_key}
use Rattle.rss_base.specs.PageMap.{IsKey}
use Rattle.rss_base.specs.Steps.{PagesView}
use Rattle.rss_base.specs.declared.key.PageKey.{PageKey}
use Rattle.rss_base.specs.declared.key.Space.TheVariants.{Image}
use Rattle.rss_node.specs.declared.pair.Nodes.{Nodes}
use Rattle.rss_image.specs.Trees.{cells_of}
use Rattle.rss_image.specs.Agreement.{AreNumbered}
use Rattle.rss_image.proofs.Calls.{held_mapped}

-- where the mapped pages are those that hold something, and the map may name each of them
pub numbered : (view : PagesView) → view.slots < 2 ^ 32 → ((key : PageKey) → is_some (view.held key) ≡ view.mapped key) → ((key : PageKey) → view.mapped key ≡ true → IsKey view.slots key) → (of : Nodes) → AreNumbered (cells_of of view.held)
numbered view few holds allowed of number bytes is =
    let key : PageKey = page_key of.segment Image number in
    let below = (allowed key (held_mapped view holds key bytes is)).number in
    omega (arith, below, few)
