-- The unique images of a relation, one behind the other by their names, and the tuple that has a key in one of them.
use Rattle.std.specs.Prelude.{◌≡◌, ℕ, ◌<◌, true, List, [], ◌∷◌, ◌++◌, Option, Some, None, ⊤}
use Rattle.std.specs.declared.cmp.Ordering.TheVariants.{Less}
use Rattle.rss_base.specs.DiskRule.{IsTold}
use Rattle.rss_base.specs.Listings.{Listing, ListingFits, image_at, relation_at}
use Rattle.rss_base.specs.TupleTypes.{kinds, Spells}
use Rattle.rss_base.specs.declared.image.ImageEntry.{ImageEntry}
use Rattle.rss_base.specs.declared.name.Name.{Name}
use Rattle.rss_base.specs.declared.refusal.Refusal.{Refusal}
use Rattle.rss_base.specs.declared.relation.RelationEntry.{RelationEntry}
use Rattle.rss_base.specs.declared.tid.Tid.{Tid}
use Rattle.rss_base.specs.declared.value.Value.{Value}
use Rattle.rss_model.specs.Images.{unique_images}
use Rattle.rss_model.specs.Items.{name_cmp}
use Rattle.rss_model.specs.Kept.{Kept}
use Rattle.rss_model.specs.Machine.{State}
use Rattle.rss_model.specs.Refusals.{if_duplicate}
use Rattle.rss_stored.specs.Store.{Defines, IsListedImage, image_definition}
use Rattle.rss_model.specs.Tables.{ImageDef, Definitions}
use Rattle.rss_session.specs.Sessions.{SessionView}
use Rattle.rss_session.specs.Shown.{Shows}

-- ---- by their names

-- the name stands behind another one, where there is one
abbrev pub IsBehind : Option Name → Name → Type 0
IsBehind None name = ⊤
IsBehind (Some after) name = name_cmp after name ≡ Less

-- the number is that of a unique image of the relation of a number, whose name stands behind this one
pub record IsUniqueBehind (listing : Listing) (relation : ℕ) (after : Option Name) (number : ℕ) : Type 0 where
  pub image : ImageEntry
  pub at : image_at listing number ≡ Some image
  pub of : image.relation ≡ relation
  pub unique : image.is_unique ≡ true
  pub behind : IsBehind after image.name

-- the name of an image stands before that of another one
abbrev pub AreInOrder : Listing → ℕ → ℕ → Type 0
AreInOrder listing one other =
    (first second : ImageEntry) → image_at listing one ≡ Some first → image_at listing other ≡ Some second
    → name_cmp first.name second.name ≡ Less

-- or there is no other one
abbrev pub IsBefore : Listing → ℕ → Option ℕ → Type 0
IsBefore listing number None = ⊤
IsBefore listing number (Some other) = AreInOrder listing number other

-- The least of them by its name whose number is below this one, if there is one.
pub record IsLeastUnique (listing : Listing) (relation : ℕ) (after : Option Name) (below number : ℕ) : Type 0 where
  pub is : IsUniqueBehind listing relation after number
  pub least : (k : ℕ) → k < below → IsUniqueBehind listing relation after k → AreInOrder listing k number → ⊥

abbrev pub FindsLeast : Listing → ℕ → Option Name → ℕ → Option ℕ → Type 0
FindsLeast listing relation after below None =
    (k : ℕ) → k < below → IsUniqueBehind listing relation after k → ⊥
FindsLeast listing relation after below (Some number) = IsLeastUnique listing relation after below number

-- ---- as the machine lists them

-- the name of the last of these images
abbrev pub last_name : List (Name × ImageDef) → Option Name
last_name [] = None
last_name (image ∷ []) = Some image.0
last_name (image ∷ next ∷ images) = last_name (next ∷ images)

-- what is defined by an image that is listed
abbrev pub defined_image : ImageEntry → RelationEntry → Name × ImageDef
defined_image image relation = (image.name, image_definition image relation)

-- the image of this number is the first of these
pub record IsFirst (listing : Listing) (number : ℕ) (images : List (Name × ImageDef)) : Type 0 where
  pub image : ImageEntry
  pub relation : RelationEntry
  pub others : List (Name × ImageDef)
  pub at : IsListedImage listing number image relation
  pub unique : image.is_unique ≡ true
  pub first : images ≡ defined_image image relation ∷ others

abbrev pub AreLed : Listing → Option ℕ → List (Name × ImageDef) → Type 0
AreLed listing None images = images ≡ []
AreLed listing (Some number) images = IsFirst listing number images

-- The number is that of the next image behind those that end with this name, in each list of the relation's unique images.
abbrev pub IsNextUnique : Listing → ℕ → Option Name → Option ℕ → Type 0
IsNextUnique listing relation after found =
    (definitions : Definitions) (entry : RelationEntry) → ListingFits listing → Defines listing definitions
    → relation_at listing relation ≡ Some entry
    → (passed left : List (Name × ImageDef)) → unique_images definitions entry.name ≡ passed ++ left
    → after ≡ last_name passed → AreLed listing found left

-- ---- keys

-- why a tuple of the relation of this number is refused in each state, if another one than `own` has a key of its values
abbrev pub FindsDuplicate : SessionView → ℕ → List ℕ → Option Tid → Option Refusal → Type 0
FindsDuplicate view number bytes own found =
    IsTold view.store.pages.disk → (state : State) → Kept state → Shows view state
    → (relation : RelationEntry) → relation_at view.store.catalog.listing number ≡ Some relation
    → (values : List Value) → Spells (kinds relation.fields) bytes values
    → found ≡ if_duplicate state relation.name own values
