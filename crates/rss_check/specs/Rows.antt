-- What images and links are over the bodies of tuples.
use Rattle.std.specs.Prelude.{◌≡◌, ℕ, true, List, Contains, is_some}
use Rattle.rss_base.specs.Listings.{Listing}
use Rattle.rss_base.specs.Paged.{Held}
use Rattle.rss_base.specs.declared.image.ImageEntry.{ImageEntry}
use Rattle.rss_base.specs.declared.link.LinkEntry.{LinkEntry}
use Rattle.rss_base.specs.declared.relation.RelationEntry.{RelationEntry}
use Rattle.rss_base.specs.declared.key.PageKey.{PageKey}
use Rattle.rss_base.specs.declared.key.Space.TheVariants.{Image as ImageSpace}
use Rattle.rss_tuple.specs.Directory.{bodies_of}
use Rattle.rss_stored.specs.Store.{IsListedImage}
use Rattle.rss_link.specs.Chains.{Lists}
use Rattle.rss_link.specs.Links.{SpellChains}
use Rattle.rss_link.specs.Checking.{linkage_of}
use Rattle.rss_members.specs.Members.{chains_of, listed_ends}
use Rattle.rss_access.specs.Rows.{HasRows}
use Rattle.rss_check.specs.Checks.{relations_of, HasOwnEnds}

-- ---- images

-- the image has the rows of its relation in these pages
pub record HasSomeRows (held : Held) (slots : ℕ) (listing : Listing) (number : ℕ) (image : ImageEntry) (relation : RelationEntry) : Type 0 where
  pub nodes : List ℕ
  pub rows : HasRows held slots listing number image relation nodes

-- a page of the space of images is one of those in which this image has them
pub record IsUsed (held : Held) (slots : ℕ) (listing : Listing) (key : PageKey) : Type 0 where
  pub number : ℕ
  pub image : ImageEntry
  pub relation : RelationEntry
  pub nodes : List ℕ
  pub listed : IsListedImage listing number image relation
  pub rows : HasRows held slots listing number image relation nodes
  pub segment : key.segment ≡ relation.segment
  pub among : Contains nodes key.number

-- Each image that is listed has the rows of its relation, and each page of the space of images is one of theirs.
pub record HasImages (held : Held) (slots : ℕ) (listing : Listing) : Type 0 where
  pub each : (number : ℕ) (image : ImageEntry) (relation : RelationEntry)
      → IsListedImage listing number image relation
      → HasSomeRows held slots listing number image relation
  pub reached : (key : PageKey) → key.space ≡ ImageSpace → is_some (held key) ≡ true
      → IsUsed held slots listing key

-- ---- links

-- the bodies of a link's relations spell chains, with the ends that are listed where it has one chain
pub record HasLists (held : Held) (listing : Listing) (number : ℕ) (link : LinkEntry) : Type 0 where
  pub lists : Lists
  pub spells : SpellChains (chains_of listing number link) (listed_ends link) (bodies_of held)
      (linkage_of (chains_of listing number link) (relations_of link) (bodies_of held) lists)
  pub no_ends : HasOwnEnds link
