-- What an image that is to be made is refused for before any tuple is looked at, and its entry in the catalog.
use Rattle.std.specs.Prelude.{◌≡◌, ℕ, ◌^◌, ◌<◌, ◌≤◌, ◌||◌, nat_le, Bool, List, [], ◌∷◌, length, Option, Some}
use Rattle.rss_base.specs.Listings.{Listing, ImageFits, IsUnlisted, AreAllUsed, relation_at, with_root}
use Rattle.rss_base.specs.TupleTypes.{key_width, most_key_width}
use Rattle.rss_base.specs.declared.field.FieldDef.{FieldDef}
use Rattle.rss_base.specs.declared.image.ImageEntry.{ImageEntry}
use Rattle.rss_base.specs.declared.name.Name.{Name}
use Rattle.rss_base.specs.declared.refusal.Kind.TheVariants.{Image as ImageKind}
use Rattle.rss_base.specs.declared.refusal.LimitKind.TheVariants.{Fields as FieldLimit, KeyWidth as KeyWidthLimit}
use Rattle.rss_base.specs.declared.refusal.Refusal.{Refusal}
use Rattle.rss_base.specs.declared.refusal.Refusal.TheVariants.{Limit, NameTaken}
use Rattle.rss_base.specs.declared.relation.RelationEntry.{RelationEntry}
use Rattle.rss_model.specs.Defining.{refused_if, refused_unless, if_any_open, unless_relation, unless_fields, is_image, has_twice, if_images_used_up, unless_narrow, image_def}
use Rattle.rss_model.specs.Images.{key_kinds}
use Rattle.rss_model.specs.Machine.{State}
use Rattle.rss_stored.specs.Store.{image_definition}

-- the tests, in their order
abbrev pub plan_tests : State → Name → Name → List Name → List (Option Refusal)
plan_tests state name relation fields =
    if_any_open state
    ∷ unless_relation state relation
    ∷ unless_fields state relation fields
    ∷ refused_if (is_image state name || has_twice fields) NameTaken
    ∷ if_images_used_up state
    ∷ refused_unless (nat_le 1 (length fields)) (Limit FieldLimit)
    ∷ unless_narrow state relation fields
    ∷ []

-- The entry is that of an image that is defined so. Wherever its tree begins, it may be listed.
pub record PlansImage (listing : Listing) (name relation : Name) (is_unique : Bool) (fields : List Name) (entry : ImageEntry) : Type 0 where
  pub within : RelationEntry
  pub at : relation_at listing entry.relation ≡ Some within
  pub named : entry.name ≡ name
  pub defines : image_definition entry within ≡ image_def relation is_unique fields
  pub fits : (root levels : ℕ) → root < 2 ^ 32 → 1 ≤ levels → levels < 2 ^ 8
      → ImageFits listing (with_root root levels entry)
  pub fresh : IsUnlisted ImageKind listing name
  pub room : AreAllUsed ImageKind listing → ⊥

-- a key of these fields of a relation is wider than a key may be, and refused so
pub record IsTooWide (fields : List FieldDef) (names : List Name) (why : Refusal) : Type 0 where
  pub wide : most_key_width < key_width (key_kinds fields names)
  pub is : why ≡ Limit KeyWidthLimit
