-- What the enums of this crate stand for in the relation machine.
use Rattle.rss_base.specs.declared.item.Item.{Item}
use Rattle.rss_base.specs.declared.item.Item.TheVariants.{Tuple as TupleItem, Chain as ChainItem}
use Rattle.rss_model.specs.Items.{Content, Values, Tuples}
use Rattle.rss_model.specs.Scans.{Path, RelationPath, ImagePath, LinkPath}
use Rattle.rss_plain.specs.declared.places.At.{At}
use Rattle.rss_plain.specs.declared.places.At.TheVariants.{Tuple, Chain}
use Rattle.rss_plain.specs.declared.contents.Held.{Held}
use Rattle.rss_plain.specs.declared.contents.Held.TheVariants.{Values as HeldValues, Tuples as HeldTuples}
use Rattle.rss_plain.specs.declared.scans.Along.{Along}
use Rattle.rss_plain.specs.declared.scans.Along.TheVariants.{Relation, Image, Link}

-- an item that has a content
abbrev pub item_of : At → Item
item_of (Tuple relation tid) = TupleItem relation tid
item_of (Chain link parent) = ChainItem link parent

-- what it holds
abbrev pub content_of : Held → Content
content_of (HeldValues values) = Values values
content_of (HeldTuples tids) = Tuples tids.items

-- along which path a scan goes
abbrev pub path_of : Along → Path
path_of (Relation relation) = RelationPath relation
path_of (Image image start) = ImagePath image start
path_of (Link link parent) = LinkPath link parent
