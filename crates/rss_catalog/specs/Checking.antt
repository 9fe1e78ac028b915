-- What is asked of a listing, by parts.
use Rattle.std.specs.Prelude.{◌≡◌, ℕ, ◌-◌, ◌*◌, ◌<◌, ◌≤◌, ◌++◌, List, [], length, Contains, All, map, replicate, option_map, count_by, Option, Some, is_some, true, false, Bool}
use Rattle.rss_base.specs.Sizes.{roles_most, relations_most, images_most}
use Rattle.rss_base.specs.Names.{IsName}
use Rattle.rss_base.specs.TupleTypes.{kinds, chosen, key_width, most_key_width, most_fields}
use Rattle.rss_base.specs.Listings.{Listing, numbered, EntryFits, ImageFits, LinkFits, IsFieldNumber, AreDifferent, field_numbers, has_role, added_count, relations_of_page, relation_pages, images_of_page}
use Rattle.rss_base.specs.declared.name.Name.{Name}
use Rattle.rss_base.specs.declared.field.FieldDef.{FieldDef}
use Rattle.rss_base.specs.declared.relation.RelationEntry.{RelationEntry}
use Rattle.rss_base.specs.declared.image.ImageEntry.{ImageEntry}
use Rattle.rss_base.specs.declared.link.LinkEntry.{LinkEntry}
use Rattle.rss_catalog.specs.Catalogs.{IsSafeLink}
use Rattle.rss_catalog.specs.Defined.{unrooted, endless, tuples_most, IsRooted, IsEnded, front}

-- these are listed
abbrev pub listing_of : List (Option Name) → List (Option RelationEntry) → List (Option ImageEntry) → List (Option LinkEntry) → Listing
listing_of names entries images links = record {
  segments = names;
  relations = entries;
  images = images;
  links = links;
}

abbrev pub relation_names : List (Option RelationEntry) → List (Option Name)
relation_names entries = map (option_map (λ entry. entry.name)) entries

abbrev pub image_names : List (Option ImageEntry) → List (Option Name)
image_names images = map (option_map (λ image. image.name)) images

abbrev pub link_names : List (Option LinkEntry) → List (Option Name)
link_names links = map (option_map (λ link. link.name)) links

-- each name has the bytes of one
abbrev pub AreNames : List (Option Name) → Type 0
AreNames items = (number : ℕ) (name : Name) → numbered items number ≡ Some name → IsName name

-- no name stands twice
abbrev pub AreOnce : List (Option Name) → Type 0
AreOnce items = (one other : ℕ) (name : Name) → numbered items one ≡ Some name → numbered items other ≡ Some name → one ≡ other

-- this is a name, and one of these
abbrev pub IsTaken : List (Option Name) → Option Name → Type 0
IsTaken items item = (name : Name) × (item ≡ Some name) × Contains items (Some name)

-- the relation fits a listing of these segments
abbrev pub FitsIn : List (Option Name) → RelationEntry → Type 0
FitsIn names entry = EntryFits (listing_of names [] [] []) entry

-- and has no more tuples than a relation may have
pub record IsRelationIn (names : List (Option Name)) (entry : RelationEntry) : Type 0 where
  pub fits : FitsIn names entry
  pub few : entry.live ≤ tuples_most

-- so does the relation at a place, if there is one
abbrev pub MayStand : List (Option Name) → Option RelationEntry → Type 0
MayStand names relation = (entry : RelationEntry) → relation ≡ Some entry → IsRelationIn names entry

-- the image fits a listing of these relations
abbrev pub ImageFitsIn : List (Option RelationEntry) → ImageEntry → Type 0
ImageFitsIn entries image = ImageFits (listing_of [] entries [] []) image

-- and does so whatever its root and its levels
pub record IsImageIn (entries : List (Option RelationEntry)) (image : ImageEntry) : Type 0 where
  pub fits : ImageFitsIn entries (unrooted image)
  pub rooted : IsRooted image

-- so does the image at a place, if there is one
abbrev pub MayIndex : List (Option RelationEntry) → Option ImageEntry → Type 0
MayIndex entries image = (entry : ImageEntry) → image ≡ Some entry → IsImageIn entries entry

-- the link fits a listing of these relations
abbrev pub LinkFitsIn : List (Option RelationEntry) → LinkEntry → Type 0
LinkFitsIn entries link = LinkFits (listing_of [] entries [] []) link

-- and does so whatever its ends
pub record IsLinkIn (entries : List (Option RelationEntry)) (link : LinkEntry) : Type 0 where
  pub fits : LinkFitsIn entries (endless link)
  pub ended : IsEnded link

-- so does the link at a place, if there is one
abbrev pub MayLink : List (Option RelationEntry) → Option LinkEntry → Type 0
MayLink entries link = (entry : LinkEntry) → link ≡ Some entry → IsLinkIn entries entry

-- so do all of these links
abbrev pub AreLinksIn : List (Option RelationEntry) → List (Option LinkEntry) → Type 0
AreLinksIn entries links = (number : ℕ) (link : LinkEntry) → numbered links number ≡ Some link → IsLinkIn entries link

-- the numbers of some of these fields, none of them twice, and their key is not too wide
pub record IsKeyOf (fields : List FieldDef) (numbers : List ℕ) : Type 0 where
  pub within : All (IsFieldNumber (length fields)) numbers
  pub different : AreDifferent numbers
  pub narrow : key_width (kinds (chosen numbers fields)) ≤ most_key_width

-- the image has at least one of these fields, and zeros behind their numbers
pub record HasKeyOf (fields : List FieldDef) (image : ImageEntry) : Type 0 where
  pub some : 1 ≤ image.count
  pub few : image.count ≤ most_fields
  pub places : image.fields ≡ field_numbers image ++ replicate (most_fields - image.count) 0
  pub key : IsKeyOf fields (field_numbers image)

-- the segments and the relations of a listing
pub record TablesFit (names : List (Option Name)) (entries : List (Option RelationEntry)) : Type 0 where
  pub names_fit : AreNames names
  pub names_once : AreOnce names
  pub relations_once : AreOnce (relation_names entries)
  pub relations : (number : ℕ) (entry : RelationEntry) → numbered entries number ≡ Some entry → IsRelationIn names entry

-- the images of a listing
pub record ImagesFit (entries : List (Option RelationEntry)) (images : List (Option ImageEntry)) : Type 0 where
  pub once : AreOnce (image_names images)
  pub each : (number : ℕ) (image : ImageEntry) → numbered images number ≡ Some image → IsImageIn entries image

-- each of these links is safe beside these relations
abbrev pub AreSafeLinks : List (Option RelationEntry) → List (Option LinkEntry) → Type 0
AreSafeLinks entries links = (number : ℕ) (link : LinkEntry) → numbered links number ≡ Some link → IsSafeLink (listing_of [] entries [] []) link

-- no relation has a part in too many of these links
abbrev pub HaveFewRoles : List (Option LinkEntry) → Type 0
HaveFewRoles links = (number : ℕ) → count_by (has_role number) links ≤ roles_most

-- the links of a listing
pub record LinksFit (entries : List (Option RelationEntry)) (links : List (Option LinkEntry)) : Type 0 where
  pub once : AreOnce (link_names links)
  pub each : AreLinksIn entries links
  pub few_roles : HaveFewRoles links

-- no field of these relations was added
abbrev pub AreAllOriginal : List (Option RelationEntry) → Type 0
AreAllOriginal entries = (number : ℕ) (relation : RelationEntry) → numbered entries number ≡ Some relation → added_count relation.fields ≡ 0

-- none of these links is late
abbrev pub AreAllEarly : List (Option LinkEntry) → Type 0
AreAllEarly links = (number : ℕ) (link : LinkEntry) → numbered links number ≡ Some link → link.late ≡ false

-- one of these entries belongs to this number
pub record HasEntryOf {X : Type 0} (belongs : X → ℕ → Bool) (entries : List (Option X)) (number : ℕ) : Type 0 where
  pub place : ℕ
  pub entry : X
  pub at : numbered entries place ≡ Some entry
  pub of : belongs entry number ≡ true

-- an image that may stand beside these relations, as far as its numbers go: what IsSafeImage says of it, without a relation as a part
pub record IsSafeIn (entries : List (Option RelationEntry)) (image : ImageEntry) : Type 0 where
  pub listed : is_some (numbered entries image.relation) ≡ true
  pub some : 1 ≤ image.count
  pub few : image.count ≤ most_fields
  pub within : (relation : RelationEntry) → numbered entries image.relation ≡ Some relation → All (IsFieldNumber (length relation.fields)) (field_numbers image)
  pub narrow : (relation : RelationEntry) → numbered entries image.relation ≡ Some relation → key_width (kinds (chosen (field_numbers image) relation.fields)) ≤ most_key_width
  pub low : 1 ≤ image.levels

-- so may all of these images
abbrev pub AreSafeIn : List (Option RelationEntry) → List (Option ImageEntry) → Type 0
AreSafeIn entries images = (number : ℕ) (image : ImageEntry) → numbered images number ≡ Some image → IsSafeIn entries image

-- ---- up to which page

-- The first number up to which these don't fit, or the end, if they fit up to it.
pub record IsFirstBad (Fits : ℕ → Type 0) (end found : ℕ) : Type 0 where
  pub within : found ≤ end
  pub not : found < end → Fits found → ⊥
  pub before : (k : ℕ) → k < found → Fits k

-- the relations of the pages up to this one fit
abbrev pub TablesFitTo : List (Option Name) → List (Option RelationEntry) → ℕ → Type 0
TablesFitTo names entries page = TablesFit names (front relations_most (relations_of_page * page) entries)

-- the images of the pages up to this one fit
abbrev pub ImagesFitTo : List (Option RelationEntry) → List (Option ImageEntry) → ℕ → Type 0
ImagesFitTo entries images page = ImagesFit entries (front images_most (images_of_page * (page - relation_pages)) images)
