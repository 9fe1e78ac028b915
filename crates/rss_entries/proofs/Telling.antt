-- An image that shows tables spells their list by rows of pairs.
use Rattle.std.proofs.Common.{◌≡◌, ◌<◌, ℕ, true}
use Rattle.std.specs.Prelude.{is_some}
use Rattle.rss_base.specs.PageMap.{IsKey}
use Rattle.rss_base.specs.Paged.{Held}
use Rattle.rss_base.specs.Steps.{PagesView}
use Rattle.rss_base.specs.Listings.{Listing}
use Rattle.rss_base.specs.declared.key.PageKey.{PageKey}
use Rattle.rss_base.specs.declared.image.ImageEntry.{ImageEntry}
use Rattle.rss_base.specs.declared.relation.RelationEntry.{RelationEntry}
use Rattle.rss_image.specs.Images.{ImageTree, HasImage}
use Rattle.rss_model.specs.Tables.{Tables}
use Rattle.rss_entries.specs.Images.{image_of}
use Rattle.rss_entries.specs.Seeking.{ShowsImage}
use Rattle.rss_entries.proofs.Fitting.{fitting_nodes}
use Rattle.rss_entries.proofs.Lists.{byte_list, listed_shows}
use Rattle.rss_entries.proofs.Shown.{Shows}
use Rattle.rss_entries.proofs.Standing.{low_held, rowed}

module _ {listing : Listing} {tables : Tables} {number : ℕ} {image : ImageEntry} {relation : RelationEntry} where
  pub shown : {held : Held} → ShowsImage held listing tables number image relation → Shows tables image relation
  shown shows = listed_shows tables shows.fits shows.defines shows.at shows.tuples shows.storable shows.tids

  pub shown_tree : (view : PagesView) → ShowsImage view.held listing tables number image relation → view.slots < 4294967296 → ((key : PageKey) → is_some (view.held key) ≡ view.mapped key) → ((key : PageKey) → view.mapped key ≡ true → IsKey view.slots key)
      → ImageTree (image_of number image relation) view.held (byte_list tables image relation)
  shown_tree view shows few holds allowed = (rowed (low_held view few holds allowed) (fitting_nodes listing shows.fits number image relation shows.at) shows.spells).tree

  pub has_shown : (view : PagesView) → ShowsImage view.held listing tables number image relation → view.slots < 4294967296 → ((key : PageKey) → is_some (view.held key) ≡ view.mapped key) → ((key : PageKey) → view.mapped key ≡ true → IsKey view.slots key)
      → HasImage (image_of number image relation) view.held
  has_shown view shows few holds allowed = record { pairs = byte_list tables image relation; tree = shown_tree view shows few holds allowed }
