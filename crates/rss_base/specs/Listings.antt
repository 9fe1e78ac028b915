-- The catalog: which definition each number has, and the bytes of its pages.
use Rattle.std.specs.Prelude.{◌≡◌, ◌≢◌, ℕ, ◌+◌, ◌-◌, ◌*◌, ◌^◌, ◌<◌, ◌≤◌, ◌==◌, ◌||◌, Bool, true, false, nat_le, if◌then◌else◌, List, [], ◌∷◌, ◌++◌, length, replicate, map, flat_map, take, drop, slice_get, slice_set, slice_index, count_by, All, Option, Some, None, is_some, IfSome, option_map, option_and_then}
use Rattle.std.specs.Int.{w32, to_be_bytes}
use Rattle.rss_base.specs.Sizes.{page_bytes, segments, relations_most, images_most, links_most, roles_most, system_pages}
use Rattle.rss_base.specs.LogRecords.{place_bytes, HasSlot, HasPage}
use Rattle.rss_base.specs.Names.{IsName, name_bytes}
use Rattle.rss_base.specs.TupleTypes.{AreFields, kinds, is_added, chosen, key_width, most_key_width, most_fields}
use Rattle.rss_base.specs.Paged.{Held, page_key}
use Rattle.rss_base.specs.declared.name.Name.{Name}
use Rattle.rss_base.specs.declared.value.FieldKind.{FieldKind}
use Rattle.rss_base.specs.declared.value.FieldKind.TheVariants.{Int, Text}
use Rattle.rss_base.specs.declared.field.FieldDef.{FieldDef}
use Rattle.rss_base.specs.declared.tid.Tid.{Tid}
use Rattle.rss_base.specs.declared.relation.RelationEntry.{RelationEntry}
use Rattle.rss_base.specs.declared.image.ImageEntry.{ImageEntry}
use Rattle.rss_base.specs.declared.link.LinkEntry.{LinkEntry}
use Rattle.rss_base.specs.declared.refusal.Kind.{Kind}
use Rattle.rss_base.specs.declared.refusal.Kind.TheVariants.{Segment, Relation, Image, Link, Field, Scan}
use Rattle.rss_base.specs.declared.key.Space.TheVariants.{System}

-- ---- definitions by their numbers

-- what the catalog lists: of each kind a place for each number, the first of which is 1
pub record Listing : Type 0 where
  pub segments : List (Option Name)
  pub relations : List (Option RelationEntry)
  pub images : List (Option ImageEntry)
  pub links : List (Option LinkEntry)

-- what has this number, if anything does
abbrev pub numbered : {A : Type 0} → List (Option A) → ℕ → Option A
numbered items number =
    if number == 0 then None else option_and_then (λ item. item) (slice_get items (number - 1))

-- this has this number now, or nothing does
abbrev pub with_number : {A : Type 0} → List (Option A) → ℕ → Option A → List (Option A)
with_number items number item = slice_set items (number - 1) item

abbrev pub segment_at : Listing → ℕ → Option Name
segment_at listing number = numbered listing.segments number

abbrev pub relation_at : Listing → ℕ → Option RelationEntry
relation_at listing number = numbered listing.relations number

abbrev pub image_at : Listing → ℕ → Option ImageEntry
image_at listing number = numbered listing.images number

abbrev pub link_at : Listing → ℕ → Option LinkEntry
link_at listing number = numbered listing.links number

-- the names of a kind, by their numbers; fields and scans are not listed
abbrev pub names_of : Kind → Listing → List (Option Name)
names_of Segment listing = listing.segments
names_of Relation listing = map (option_map (λ relation. relation.name)) listing.relations
names_of Image listing = map (option_map (λ image. image.name)) listing.images
names_of Link listing = map (option_map (λ link. link.name)) listing.links
names_of Field listing = []
names_of Scan listing = []

-- the number of a kind has this name
abbrev pub IsNumberOf : Kind → Listing → Name → ℕ → Type 0
IsNumberOf kind listing name number = numbered (names_of kind listing) number ≡ Some name

-- the name is that of no number of a kind
abbrev pub IsUnlisted : Kind → Listing → Name → Type 0
IsUnlisted kind listing name = (number : ℕ) → IsNumberOf kind listing name number → ⊥

-- no name of a kind has two numbers
abbrev pub AreListedOnce : Kind → Listing → Type 0
AreListedOnce kind listing =
    (one other : ℕ) (name : Name) → IsNumberOf kind listing name one
    → IsNumberOf kind listing name other → one ≡ other

-- the least number of a kind that has no name
pub record IsLeastUnused (kind : Kind) (listing : Listing) (number : ℕ) : Type 0 where
  pub low : 1 ≤ number
  pub high : number ≤ length (names_of kind listing)
  pub free : numbered (names_of kind listing) number ≡ None
  pub lesser : (k : ℕ) → 1 ≤ k → k < number → is_some (numbered (names_of kind listing) k) ≡ true

-- each number of a kind has a name
abbrev pub AreAllUsed : Kind → Listing → Type 0
AreAllUsed kind listing =
    (number : ℕ) → 1 ≤ number → number ≤ length (names_of kind listing)
    → is_some (numbered (names_of kind listing) number) ≡ true

-- ---- listings of a store

-- a relation may be listed: its segment is, and its fields are such as a relation may have
pub record EntryFits (listing : Listing) (relation : RelationEntry) : Type 0 where
  pub name : IsName relation.name
  pub segment : is_some (segment_at listing relation.segment) ≡ true
  pub fields : AreFields relation.fields
  pub live : relation.live < 2 ^ 32

-- the numbers of an image's fields, counted from 1
abbrev pub field_numbers : ImageEntry → List ℕ
field_numbers image = take image.count image.fields

-- no number stands twice
abbrev pub AreDifferent : List ℕ → Type 0
AreDifferent numbers =
    (j k : ℕ) → j < length numbers → k < length numbers
    → slice_index numbers j ≡ slice_index numbers k → j ≡ k

-- a field of a relation with so many fields
pub record IsFieldNumber (count number : ℕ) : Type 0 where
  pub low : 1 ≤ number
  pub high : number ≤ count

-- an image may be listed: its relation is, it has at least one of its fields and none twice, and its keys are not too wide
pub record ImageFits (listing : Listing) (image : ImageEntry) : Type 0 where
  pub name : IsName image.name
  pub relation : RelationEntry
  pub listed : relation_at listing image.relation ≡ Some relation
  pub some : 1 ≤ image.count
  pub few : image.count ≤ most_fields
  pub long : length image.fields ≡ most_fields
  pub places : image.fields ≡ field_numbers image ++ replicate (most_fields - image.count) 0
  pub within : All (IsFieldNumber (length relation.fields)) (field_numbers image)
  pub different : AreDifferent (field_numbers image)
  pub narrow : key_width (kinds (chosen (field_numbers image) relation.fields)) ≤ most_key_width
  pub some_levels : 1 ≤ image.levels
  pub levels : image.levels < 2 ^ 8
  pub root : image.root < 2 ^ 32

-- an identifier that can be spelled
abbrev pub IsSpelled : Tid → Type 0
IsSpelled tid = HasPage tid × HasSlot tid

-- A link may be listed: its relations are, and they are two. As yet no call makes a late one.
pub record LinkFits (listing : Listing) (link : LinkEntry) : Type 0 where
  pub name : IsName link.name
  pub child : is_some (relation_at listing link.child) ≡ true
  pub parent : IfSome link.parent (λ number. (is_some (relation_at listing number) ≡ true) × (number ≢ link.child))
  pub first : IfSome link.first IsSpelled
  pub last : IfSome link.last IsSpelled
  pub early : link.late ≡ false

-- the relation has a part in the link
abbrev pub is_parent_in : Option ℕ → ℕ → Bool
is_parent_in None number = false
is_parent_in (Some parent) number = parent == number

abbrev pub has_role : ℕ → Option LinkEntry → Bool
has_role number None = false
has_role number (Some link) = (link.child == number) || is_parent_in link.parent number

-- in how many links the relation of a number is
abbrev pub roles_of : Listing → ℕ → ℕ
roles_of listing number = count_by (has_role number) listing.links

-- the images and the links of a listing
pub record PathsFit (listing : Listing) : Type 0 where
  pub image_places : length listing.images ≡ images_most
  pub link_places : length listing.links ≡ links_most
  pub images_once : AreListedOnce Image listing
  pub links_once : AreListedOnce Link listing
  pub images : (number : ℕ) (image : ImageEntry) → image_at listing number ≡ Some image → ImageFits listing image
  pub links : (number : ℕ) (link : LinkEntry) → link_at listing number ≡ Some link → LinkFits listing link
  pub few_roles : (number : ℕ) → roles_of listing number ≤ roles_most

-- there are no links
abbrev pub HasNoLinks : Listing → Type 0
HasNoLinks listing = listing.links ≡ replicate links_most None

-- nor images
pub record IsPlain (listing : Listing) : Type 0 where
  pub no_images : listing.images ≡ replicate images_most None
  pub no_links : HasNoLinks listing

pub record ListingFits (listing : Listing) : Type 0 where
  pub segment_places : length listing.segments ≡ segments
  pub relation_places : length listing.relations ≡ relations_most
  pub segment_names : (number : ℕ) (name : Name) → segment_at listing number ≡ Some name → IsName name
  pub segments_once : AreListedOnce Segment listing
  pub relations_once : AreListedOnce Relation listing
  pub relations : (number : ℕ) (relation : RelationEntry) → relation_at listing number ≡ Some relation → EntryFits listing relation
  pub paths : PathsFit listing

-- nothing is defined
abbrev pub no_listing : Listing
no_listing = record {
  segments = replicate segments None;
  relations = replicate relations_most None;
  images = replicate images_most None;
  links = replicate links_most None;
}

-- a listing with a segment or a relation at this number, or with none
abbrev pub with_segment : Listing → ℕ → Option Name → Listing
with_segment listing number segment =
    record listing { segments = with_number listing.segments number segment }

abbrev pub with_relation : Listing → ℕ → Option RelationEntry → Listing
with_relation listing number relation =
    record listing { relations = with_number listing.relations number relation }

abbrev pub with_image : Listing → ℕ → Option ImageEntry → Listing
with_image listing number image =
    record listing { images = with_number listing.images number image }

abbrev pub with_link : Listing → ℕ → Option LinkEntry → Listing
with_link listing number link =
    record listing { links = with_number listing.links number link }

-- the relation with another count of its tuples
abbrev pub with_count : ℕ → RelationEntry → RelationEntry
with_count live relation = record relation { live = live }

-- the image with another root and other levels
abbrev pub with_root : ℕ → ℕ → ImageEntry → ImageEntry
with_root root levels image = record image { root = root; levels = levels }

-- ---- versions of the format

-- how many of these fields were added
abbrev pub added_count : List FieldDef → ℕ
added_count fields = count_by is_added fields

-- a store of a version may have these definitions: fields are added from version 2 on, and links are late from version 3 on
pub record SuitsVersion (version : ℕ) (listing : Listing) : Type 0 where
  pub fields : version < 2 → (number : ℕ) (relation : RelationEntry)
      → relation_at listing number ≡ Some relation → added_count relation.fields ≡ 0
  pub links : version < 3 → (number : ℕ) (link : LinkEntry)
      → link_at listing number ≡ Some link → link.late ≡ false

-- ---- bytes

-- zeros stand behind the bytes, up to this length
abbrev pub padded : ℕ → List ℕ → List ℕ
padded count bytes = bytes ++ replicate (count - length bytes) 0

-- how many bytes a relation and a field have in the catalog, and how many relations a page has
abbrev pub relation_bytes : ℕ
relation_bytes = 512

abbrev pub field_bytes : ℕ
field_bytes = 18

abbrev pub relations_of_page : ℕ
relations_of_page = 8

abbrev pub segment_spelled : Option Name → List ℕ
segment_spelled None = replicate name_bytes 0
segment_spelled (Some name) = name.bytes

abbrev pub kind_spelled : FieldKind → List ℕ
kind_spelled Int = 1 ∷ 0 ∷ []
kind_spelled (Text n) = 2 ∷ n ∷ []

abbrev pub field_spelled : FieldDef → List ℕ
field_spelled field = field.name.bytes ++ kind_spelled field.kind

abbrev pub relation_spelled : Option RelationEntry → List ℕ
relation_spelled None = replicate relation_bytes 0
relation_spelled (Some relation) =
    padded relation_bytes (relation.name.bytes
    ++ relation.segment ∷ length relation.fields ∷ added_count relation.fields ∷ 0 ∷ []
    ++ to_be_bytes w32 relation.live ++ replicate 8 0 ++ flat_map field_spelled relation.fields)

-- how many bytes an image and a link have in the catalog, and how many images a page has
abbrev pub image_bytes : ℕ
image_bytes = 64

abbrev pub link_bytes : ℕ
link_bytes = 64

abbrev pub images_of_page : ℕ
images_of_page = 64

abbrev pub flag_byte : Bool → ℕ
flag_byte false = 0
flag_byte true = 1

abbrev pub image_spelled : Option ImageEntry → List ℕ
image_spelled None = replicate image_bytes 0
image_spelled (Some image) =
    padded image_bytes (image.name.bytes
    ++ image.relation ∷ flag_byte image.is_unique ∷ image.count ∷ image.levels ∷ []
    ++ to_be_bytes w32 image.root ++ image.fields)

-- whether a link has parents, and the number of their relation
abbrev pub parent_spelled : Option ℕ → List ℕ
parent_spelled None = 1 ∷ 0 ∷ []
parent_spelled (Some parent) = 2 ∷ parent ∷ []

abbrev pub link_spelled : Option LinkEntry → List ℕ
link_spelled None = replicate link_bytes 0
link_spelled (Some link) =
    padded link_bytes (link.name.bytes ++ parent_spelled link.parent
    ++ link.child ∷ flag_byte link.late ∷ []
    ++ place_bytes link.first ++ place_bytes link.last)

-- how many pages of the catalog have relations, and how many images
abbrev pub relation_pages : ℕ
relation_pages = 6

abbrev pub image_pages : ℕ
image_pages = 2

-- the relations of one page of the catalog, of those that have any: pages 1 to 6
abbrev pub relations_on : Listing → ℕ → List (Option RelationEntry)
relations_on listing page =
    take relations_of_page (drop (relations_of_page * (page - 1)) listing.relations)

-- the images of one page of the catalog, of those that have any: pages 7 and 8
abbrev pub images_on : Listing → ℕ → List (Option ImageEntry)
images_on listing page =
    take images_of_page (drop (images_of_page * (page - 1 - relation_pages)) listing.images)

-- the entries of a page of the catalog: the first page has the segments, the next six the relations, two the images, and the last the links
abbrev pub catalog_entries : Listing → ℕ → List ℕ
catalog_entries listing page =
    if page == 0 then flat_map segment_spelled listing.segments else
    if nat_le page relation_pages then flat_map relation_spelled (relations_on listing page) else
    if nat_le page (relation_pages + image_pages) then flat_map image_spelled (images_on listing page) else
    flat_map link_spelled listing.links

-- what the page of this number of the catalog holds
abbrev pub catalog_page : Listing → ℕ → List ℕ
catalog_page listing page = padded page_bytes (catalog_entries listing page)

-- the pages of the system space spell this listing
abbrev pub HoldsListing : Held → Listing → Type 0
HoldsListing held listing =
    (page : ℕ) → page < system_pages
    → held (page_key 0 System page) ≡ Some (catalog_page listing page)
