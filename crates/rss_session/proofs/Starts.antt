-- A scan of an image that is to be opened: what it is refused for, and where it starts.
use Rattle.std.proofs.Common.{◌≡◌, ℕ, List, [], ◌∷◌, refl, sym, ◌∙◌, ap}
use Rattle.std.specs.Prelude.{Option, Some, None, is_some, option_map}
use Rattle.std.proofs.lemmas.Option.{none-some, same_Some}
use Rattle.rss_base.specs.Listings.{Listing, image_at, relation_at, ImageFits, IsNumberOf}
use Rattle.rss_base.specs.TupleTypes.{misfit}
use Rattle.rss_base.specs.declared.name.Name.{Name}
use Rattle.rss_base.specs.declared.value.Value.{Value}
use Rattle.rss_base.specs.declared.value.FieldForm.{FieldForm}
use Rattle.rss_base.specs.declared.image.ImageEntry.{ImageEntry}
use Rattle.rss_base.specs.declared.relation.RelationEntry.{RelationEntry}
use Rattle.rss_base.specs.declared.refusal.Kind.TheVariants.{Image as ImageKind}
use Rattle.rss_base.specs.declared.refusal.Refusal.{Refusal}
use Rattle.rss_base.specs.declared.refusal.Refusal.TheVariants.{NoSuch, BadTuple}
use Rattle.rss_model.specs.Machine.{State, now}
use Rattle.rss_model.specs.Refusals.{image_of, unless_key_fits}
use Rattle.rss_model.specs.Steps.{first_of, unless_open}
use Rattle.rss_stored.specs.Store.{IsListedImage, image_definition}
use Rattle.rss_model.specs.Tables.{ImageDef}
use Rattle.rss_model.proofs.Tests.{goes_on, passes_unless}
use Rattle.rss_catalog.proofs.Numbered.{numbered_map}
use Rattle.rss_entries.specs.Seeking.{kinds_in}
use Rattle.rss_entries.proofs.Lists.{kinds_listed}
use Rattle.rss_session.specs.Admissions.{image_admission}
use Rattle.rss_session.specs.Imaging.{KeyFits, IsMisfit}
use Rattle.rss_session.specs.Sessions.{SessionView}
use Rattle.rss_session.specs.Shown.{Shows}

-- ---- the image of a number

-- the image of this number, whose name is known
pub record HasImageEntry (listing : Listing) (name : Name) (number : ℕ) : Type 0 where
  pub entry : ImageEntry
  pub at : image_at listing number ≡ Some entry
  pub named : entry.name ≡ name

pub image_entry : (listing : Listing) (name : Name) (number : ℕ) → IsNumberOf ImageKind listing name number → HasImageEntry listing name number
image_entry listing name number is = by (image_at listing number) refl
  where
    by : (found : Option ImageEntry) → image_at listing number ≡ found → HasImageEntry listing name number
    by None at = absurd (none-some name (sym (numbered_map (λ (entry : ImageEntry). entry.name) listing.images number ∙ ap (option_map (λ (entry : ImageEntry). entry.name)) at) ∙ is))
    by (Some entry) at = record {
      entry = entry;
      at = at;
      named = same_Some _ _ (sym (numbered_map (λ (entry : ImageEntry). entry.name) listing.images number ∙ ap (option_map (λ (entry : ImageEntry). entry.name)) at) ∙ is);
    }

-- no two images, with their relations, have one number
pub one_listed : {listing : Listing} {number : ℕ} {image other : ImageEntry} {relation another : RelationEntry} → image_at listing number ≡ Some image → relation_at listing image.relation ≡ Some relation → IsListedImage listing number other another → (other ≡ image) × (another ≡ relation)
one_listed {listing = listing} {image = image} {other = other} at within listed =
    let same : other ≡ image = same_Some _ _ (sym listed.at ∙ at) in
    (same, same_Some _ _ (sym listed.within ∙ ap (λ (i : ImageEntry). relation_at listing i.relation) same ∙ within))

-- ---- what the machine says of it

module _ {view : SessionView} {state : State} (shows : Shows view state) (t : ℕ) (name : Name) (from : Option (List Value)) (opened : unless_open state t ≡ None) where
  -- there is one
  module _ (number : ℕ) (is : IsNumberOf ImageKind view.store.catalog.listing name number) where
    abbrev here : HasImageEntry view.store.catalog.listing name number
    here = image_entry view.store.catalog.listing name number is

    abbrev its : ImageFits view.store.catalog.listing here.entry
    its = shows.store.spells.listed.paths.images number here.entry here.at

    listed : IsListedImage view.store.catalog.listing number here.entry its.relation
    listed = record { at = here.at; within = its.listed }

    defined_so : image_of state name ≡ Some (image_definition here.entry its.relation)
    defined_so = ap (image_of state) (sym here.named) ∙ shows.store.spells.defines.paths.images number here.entry its.relation listed

    key_tested : image_admission state t name from ≡ first_of (unless_key_fits state (Some (image_definition here.entry its.relation)) from ∷ [])
    key_tested =
        goes_on _ opened ∙ goes_on _ (passes_unless (NoSuch ImageKind) (ap is_some defined_so))
        ∙ ap (λ (o : Option ImageDef). first_of (unless_key_fits state o from ∷ [])) defined_so

    pub starts_first : from ≡ None → image_admission state t name from ≡ None
    starts_first none = key_tested ∙ ap (λ (o : Option (List Value)). first_of (unless_key_fits state (Some (image_definition here.entry its.relation)) o ∷ [])) none

    module _ (key : List Value) (some : from ≡ Some key) where
      by_key : image_admission state t name from ≡ first_of (option_map BadTuple (misfit (kinds_in here.entry its.relation) key) ∷ [])
      by_key =
          key_tested ∙ ap (λ (o : Option (List Value)). first_of (unless_key_fits state (Some (image_definition here.entry its.relation)) o ∷ [])) some
          ∙ ap (λ (fields : List FieldForm). first_of (option_map BadTuple (misfit fields key) ∷ [])) (kinds_listed (now state) shows.store.spells.listed shows.store.spells.defines listed)

      pub starts_from : KeyFits view.store.catalog.listing number key → image_admission state t name from ≡ None
      starts_from fit = by_key ∙ ap (λ (o : Option ℕ). first_of (option_map BadTuple o ∷ [])) (fit here.entry its.relation listed)

      pub starts_badly : {why : Refusal} → IsMisfit view.store.catalog.listing number key why → image_admission state t name from ≡ Some why
      starts_badly bad = by_key ∙ ap (λ (o : Option ℕ). first_of (option_map BadTuple o ∷ [])) (bad.first here.entry its.relation listed) ∙ ap Some (sym bad.is)
