-- How much room images need, and which tables they show.
use Rattle.std.specs.Prelude.{ℕ, ◌+◌, ◌*◌, ◌==◌, sum_by, if◌then◌else◌, Option, Some, None}
use Rattle.rss_base.specs.Sizes.{images_most}
use Rattle.rss_base.specs.Paged.{mapped_of}
use Rattle.rss_base.specs.Steps.{PagesView}
use Rattle.rss_base.specs.TupleTypes.{kinds, chosen, key_width}
use Rattle.rss_base.specs.Listings.{Listing, field_numbers, relation_at}
use Rattle.rss_base.specs.declared.key.Space.TheVariants.{Image as ImageSpace}
use Rattle.rss_base.specs.declared.image.ImageEntry.{ImageEntry}
use Rattle.rss_base.specs.declared.relation.RelationEntry.{RelationEntry}
use Rattle.rss_image.specs.Images.{page_bound}

-- how many bytes the keys of an image have
abbrev pub width_of : ImageEntry → RelationEntry → ℕ
width_of image relation = key_width (kinds (chosen (field_numbers image) relation.fields))

-- how many pages an image may have, with a pair more where it is one of the relation of this number
abbrev pub room_of : ℕ → ImageEntry → Option RelationEntry → ℕ
room_of number image None = 0
room_of number image (Some relation) =
    page_bound (width_of image relation) (if image.relation == number then relation.live + 1 else relation.live)

abbrev pub image_room : Listing → ℕ → Option ImageEntry → ℕ
image_room listing number None = 0
image_room listing number (Some image) = room_of number image (relation_at listing image.relation)

-- and all images
abbrev pub images_room : Listing → ℕ → ℕ
images_room listing number = sum_by (image_room listing number) listing.images

-- how many pages images have, with those that can be taken
abbrev pub image_places : PagesView → ℕ
image_places pages = pages.spare + mapped_of pages.mapped ImageSpace pages.slots

-- how many pages are asked for at most where the entries of a tuple are moved in all images, and how many may leave memory
abbrev pub images_cost : ℕ
images_cost = images_most * (10 * 255 + 2)
