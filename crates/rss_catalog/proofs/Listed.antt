-- What changes of a listing leave of it: it fits a store as before.
use Rattle.std.proofs.Common.{◌≡◌, ℕ, ◌-◌, ◌<◌, ◌≤◌, ◌^◌, Bool, true, get_or, set, List, length, Option, Some, None, refl, sym, ◌∙◌, ap, subst, inl, inr, arith}
use Rattle.std.specs.Prelude.{is_some, map, max, All, option_map, count_by, IfSome, nat_le, ◌&&◌}
use Rattle.std.proofs.lemmas.Bool.{cases_eq, and_parts, leb-true}
use Rattle.std.proofs.lemmas.Option.{none-some, same_Some}
use Rattle.std.proofs.lemmas.List.{length-set, length-map, map-set, get_or_default}
use Rattle.rss_base.specs.Sizes.{segments, images_most, roles_most}
use Rattle.rss_base.specs.Names.{IsName}
use Rattle.rss_base.specs.TupleTypes.{AreFields, form_of, kinds, is_kind, most_fields, chosen, key_width, most_key_width}
use Rattle.std.specs.List.{list_all}
use Rattle.rss_base.specs.declared.field.FieldDef.{FieldDef}
use Rattle.rss_base.specs.declared.value.FieldForm.{FieldForm}
use Rattle.rss_base.specs.Listings.{Listing, numbered, with_number, segment_at, relation_at, image_at, link_at, has_role, names_of, IsNumberOf, IsUnlisted, IsLeastUnused, EntryFits, ImageFits, IsFieldNumber, field_numbers, PathsFit, ListingFits, with_segment, with_relation, with_image, with_count, with_root}
use Rattle.rss_base.specs.declared.name.Name.{Name}
use Rattle.rss_base.specs.declared.relation.RelationEntry.{RelationEntry}
use Rattle.rss_base.specs.declared.image.ImageEntry.{ImageEntry}
use Rattle.rss_base.specs.declared.link.LinkEntry.{LinkEntry}
use Rattle.rss_base.specs.declared.refusal.Kind.{Kind}
use Rattle.rss_base.specs.declared.refusal.Kind.TheVariants.{Segment, Relation, Image}
use Rattle.rss_catalog.specs.Catalogs.{CatalogView, HasRelationIn, HasImageOf, HasLinkOf, IsSafe, IsSafeImage, Lists}
use Rattle.rss_catalog.specs.Checking.{AreOnce, AreSafeIn, relation_names, image_names, link_names, listing_of}
use Rattle.rss_catalog.proofs.Roles.{link_moves, link_stays}
use Rattle.rss_catalog.proofs.Numbered.{numbered_at, numbered_within, with_same, with_other, with_cases, used_has, numbered_map}

-- ---- names

-- the name of a listed relation
pub name_listed : (listing : Listing) (number : ℕ) (relation : RelationEntry) → relation_at listing number ≡ Some relation → IsNumberOf Relation listing relation.name number
name_listed listing number relation is = numbered_map (λ (entry : RelationEntry). entry.name) listing.relations number ∙ ap (option_map (λ (entry : RelationEntry). entry.name)) is

pub image_named : (listing : Listing) (number : ℕ) (image : ImageEntry) → image_at listing number ≡ Some image → IsNumberOf Image listing image.name number
image_named listing number image is = numbered_map (λ (entry : ImageEntry). entry.name) listing.images number ∙ ap (option_map (λ (entry : ImageEntry). entry.name)) is

-- a name of one number still stands once
pub once_put : (items : List (Option Name)) (number : ℕ) (name : Name) → 1 ≤ number → number ≤ length items → AreOnce items → ((k : ℕ) → numbered items k ≡ Some name → k ≡ number) → AreOnce (with_number items number (Some name))
once_put items number name low high once only one other found is_one is_other =
    elim (with_cases items number one (Some name) found low high is_one) [
      | inl here ↦ elim (with_cases items number other (Some name) found low high is_other) [
        | inl there ↦ here.0 ∙ sym there.0
        | inr off ↦ absurd (off.0 (only other (off.1 ∙ sym here.1)))
      ]
      | inr off ↦ elim (with_cases items number other (Some name) found low high is_other) [
        | inl there ↦ absurd (off.0 (only one (off.1 ∙ sym there.1)))
        | inr both ↦ once one other found off.1 both.1
      ]
    ]

pub once_dropped : (items : List (Option Name)) (number : ℕ) → 1 ≤ number → number ≤ length items → AreOnce items → AreOnce (with_number items number None)
once_dropped items number low high once one other found is_one is_other =
    elim (with_cases items number one None found low high is_one) [
      | inl here ↦ absurd (none-some found here.1)
      | inr off ↦ elim (with_cases items number other None found low high is_other) [
        | inl there ↦ absurd (none-some found there.1)
        | inr both ↦ once one other found off.1 both.1
      ]
    ]

-- the names after an entry was put at a place
pub names_put : {X : Type 0} (name : X → Name) (items : List (Option X)) (number : ℕ) (item : Option X) → map (option_map name) (with_number items number item) ≡ with_number (map (option_map name) items) number (option_map name item)
names_put name items number item = map-set (option_map name) items (number - 1) item

-- ---- what stays of a listing

-- a relation fits where the segments are the same
pub entry_moves : (old new : Listing) (entry : RelationEntry) → new.segments ≡ old.segments → EntryFits old entry → EntryFits new entry
entry_moves old new entry same fit = record {
  name = fit.name;
  segment = ap (λ (l : List (Option Name)). is_some (numbered l entry.segment)) same ∙ fit.segment;
  fields = fit.fields;
  live = fit.live;
}

-- a relation of these fields has this number
pub record HasFields (listing : Listing) (number : ℕ) (fields : List FieldDef) : Type 0 where
  pub relation : RelationEntry
  pub listed : relation_at listing number ≡ Some relation
  pub same : relation.fields ≡ fields

-- an image fits where its relation has the same fields
pub image_moves : (old new : Listing) (image : ImageEntry) (fit : ImageFits old image) → HasFields new image.relation fit.relation.fields → ImageFits new image
image_moves old new image fit has = record {
  name = fit.name;
  relation = has.relation;
  listed = has.listed;
  some = fit.some;
  few = fit.few;
  long = fit.long;
  places = fit.places;
  within = subst (λ (fields : List FieldDef). All (IsFieldNumber (length fields)) (field_numbers image)) (sym has.same) fit.within;
  different = fit.different;
  narrow = subst (λ (fields : List FieldDef). key_width (kinds (chosen (field_numbers image) fields)) ≤ most_key_width) (sym has.same) fit.narrow;
  some_levels = fit.some_levels;
  levels = fit.levels;
  root = fit.root;
}

-- and it is safe there
safe_moves : (old new : Listing) (image : ImageEntry) (safe : IsSafeImage old image) → HasFields new image.relation safe.relation.fields → IsSafeImage new image
safe_moves old new image safe has = record {
  relation = has.relation;
  listed = has.listed;
  some = safe.some;
  few = safe.few;
  within = subst (λ (fields : List FieldDef). All (IsFieldNumber (length fields)) (field_numbers image)) (sym has.same) safe.within;
  narrow = subst (λ (fields : List FieldDef). key_width (kinds (chosen (field_numbers image) fields)) ≤ most_key_width) (sym has.same) safe.narrow;
  low = safe.low;
}

-- what an image says of its relation's fields
abbrev KeepsFields : Listing → Listing → Type 0
KeepsFields old new =
    (number : ℕ) (image : ImageEntry) → image_at old number ≡ Some image → (relation : RelationEntry) → relation_at old image.relation ≡ Some relation
    → HasFields new image.relation relation.fields

-- and of a link's relations
abbrev pub KeepsRelations : Listing → Listing → Type 0
KeepsRelations old new =
    (number : ℕ) (link : LinkEntry) → link_at old number ≡ Some link → (relation : ℕ) → has_role relation (Some link) ≡ true
    → is_some (relation_at old relation) ≡ true → is_some (relation_at new relation) ≡ true

-- the images and the links are the same
record IsBeside (old new : Listing) : Type 0 where
  images : new.images ≡ old.images
  links : new.links ≡ old.links
  fields : KeepsFields old new
  relations : KeepsRelations old new

paths_move : (old new : Listing) → PathsFit old → IsBeside old new → PathsFit new
paths_move old new paths beside = record {
  image_places = ap length beside.images ∙ paths.image_places;
  link_places = ap length beside.links ∙ paths.link_places;
  images_once = subst (λ (l : List (Option ImageEntry)). AreOnce (image_names l)) (sym beside.images) paths.images_once;
  links_once = subst (λ (l : List (Option LinkEntry)). AreOnce (link_names l)) (sym beside.links) paths.links_once;
  images = λ number image is.
      let there : image_at old number ≡ Some image = ap (λ (l : List (Option ImageEntry)). numbered l number) (sym beside.images) ∙ is in
      let fit = paths.images number image there in
      image_moves old new image fit (beside.fields number image there fit.relation fit.listed);
  links = λ number link is.
      let there : link_at old number ≡ Some link = ap (λ (l : List (Option LinkEntry)). numbered l number) (sym beside.links) ∙ is in
      link_moves old new link (paths.links number link there) (beside.relations number link there);
  few_roles = λ number. subst (λ (l : List (Option LinkEntry)). count_by (has_role number) l ≤ roles_most) (sym beside.links) (paths.few_roles number);
}

-- where the relations are the same, so are their fields
same_relations : (old new : Listing) → new.relations ≡ old.relations → KeepsFields old new
same_relations old new same number image at relation listed = record {
  relation = relation;
  listed = ap (λ (l : List (Option RelationEntry)). numbered l image.relation) same ∙ listed;
  same = refl;
}

beside_segments : (listing : Listing) (names : List (Option Name)) → IsBeside listing (record listing { segments = names })
beside_segments listing names = record { images = refl; links = refl; fields = same_relations listing _ refl; relations = λ number link at relation has listed. listed }

-- ---- segments

pub fits_with_segment : (listing : Listing) (number : ℕ) (name : Name) → ListingFits listing → 1 ≤ number → number ≤ length listing.segments → IsName name → IsUnlisted Segment listing name → ListingFits (with_segment listing number (Some name))
fits_with_segment listing number name fits low high is_name unlisted = record {
  segment_places = length-set listing.segments (number - 1) (Some name) ∙ fits.segment_places;
  relation_places = fits.relation_places;
  paths = paths_move listing _ fits.paths (beside_segments listing (with_number listing.segments number (Some name)));
  segment_names = λ k found is. elim (with_cases listing.segments number k (Some name) found low high is) [
    | inl here ↦ subst IsName (same_Some name found here.1) is_name
    | inr off ↦ fits.segment_names k found off.1
  ];
  segments_once = once_put listing.segments number name low high fits.segments_once (λ k is. absurd (unlisted k is));
  relations_once = fits.relations_once;
  relations = λ k entry is.
      let fit = fits.relations k entry is in record {
        name = fit.name;
        segment = elim (cases_eq entry.segment number) [
          | inl here ↦ ap is_some (ap (λ (n : ℕ). numbered (with_number listing.segments number (Some name)) n) here ∙ with_same listing.segments number (Some name) low high)
          | inr off ↦ ap is_some (with_other listing.segments number entry.segment (Some name) low off) ∙ fit.segment
        ];
        fields = fit.fields;
        live = fit.live;
      };
}

pub fits_without_segment : (listing : Listing) (number : ℕ) → ListingFits listing → 1 ≤ number → number ≤ length listing.segments → (HasRelationIn listing number → ⊥) → ListingFits (with_segment listing number None)
fits_without_segment listing number fits low high none = record {
  segment_places = length-set listing.segments (number - 1) None ∙ fits.segment_places;
  relation_places = fits.relation_places;
  paths = paths_move listing _ fits.paths (beside_segments listing (with_number listing.segments number None));
  segment_names = λ k found is. elim (with_cases listing.segments number k None found low high is) [
    | inl here ↦ absurd (none-some found here.1)
    | inr off ↦ fits.segment_names k found off.1
  ];
  segments_once = once_dropped listing.segments number low high fits.segments_once;
  relations_once = fits.relations_once;
  relations = λ k entry is.
      let fit = fits.relations k entry is in record {
        name = fit.name;
        segment = ap is_some (with_other listing.segments number entry.segment None low (λ here. none (record { number = k; relation = entry; at = is; within = here }))) ∙ fit.segment;
        fields = fit.fields;
        live = fit.live;
      };
}

-- ---- relations

-- a relation that an image may be of is put at a place, or the place has none
keeps_with : (listing : Listing) (number : ℕ) (relation : RelationEntry) → 1 ≤ number → number ≤ length listing.relations → ((was : RelationEntry) → relation_at listing number ≡ Some was → relation.fields ≡ was.fields) → KeepsFields listing (with_relation listing number (Some relation))
keeps_with listing number relation low high kept k image at was listed = elim (cases_eq image.relation number) [
  | inl here ↦ record {
    relation = relation;
    listed = ap (λ (n : ℕ). numbered (with_number listing.relations number (Some relation)) n) here ∙ with_same listing.relations number (Some relation) low high;
    same = kept was (ap (λ (n : ℕ). numbered listing.relations n) (sym here) ∙ listed);
  }
  | inr off ↦ record { relation = was; listed = with_other listing.relations number image.relation (Some relation) low off ∙ listed; same = refl }
]

-- a relation is there for the links, too
pub some_with : (listing : Listing) (number : ℕ) (relation : RelationEntry) → 1 ≤ number → number ≤ length listing.relations → (other : ℕ) → is_some (relation_at listing other) ≡ true → is_some (relation_at (with_relation listing number (Some relation)) other) ≡ true
some_with listing number relation low high other listed = elim (cases_eq other number) [
  | inl here ↦ ap (λ (n : ℕ). is_some (numbered (with_number listing.relations number (Some relation)) n)) here ∙ ap is_some (with_same listing.relations number (Some relation) low high)
  | inr off ↦ ap is_some (with_other listing.relations number other (Some relation) low off) ∙ listed
]

beside_with : (listing : Listing) (number : ℕ) (relation : RelationEntry) → 1 ≤ number → number ≤ length listing.relations → ((was : RelationEntry) → relation_at listing number ≡ Some was → relation.fields ≡ was.fields) → IsBeside listing (with_relation listing number (Some relation))
beside_with listing number relation low high kept = record {
  images = refl;
  links = refl;
  fields = keeps_with listing number relation low high kept;
  relations = λ k link at other has listed. some_with listing number relation low high other listed;
}

-- whatever is put at the place of a relation that no image is of
keeps_off : (listing : Listing) (number : ℕ) (item : Option RelationEntry) → 1 ≤ number → (HasImageOf listing number → ⊥) → KeepsFields listing (with_relation listing number item)
keeps_off listing number item low none k image at was listed = record {
  relation = was;
  listed = with_other listing.relations number image.relation item low (λ here. none (record { number = k; image = image; at = at; of = here })) ∙ listed;
  same = refl;
}

-- and no link
pub some_off : (listing : Listing) (number : ℕ) (item : Option RelationEntry) → 1 ≤ number → (HasLinkOf listing number → ⊥) → KeepsRelations listing (with_relation listing number item)
some_off listing number item low none k link at other has listed =
    ap is_some (with_other listing.relations number other item low (λ here. none (record { number = k; link = link; at = at; of = ap (λ (n : ℕ). has_role n (Some link)) (sym here) ∙ has }))) ∙ listed

beside_off : (listing : Listing) (number : ℕ) (item : Option RelationEntry) → 1 ≤ number → (HasImageOf listing number → ⊥) → (HasLinkOf listing number → ⊥) → IsBeside listing (with_relation listing number item)
beside_off listing number item low no_image no_link = record { images = refl; links = refl; fields = keeps_off listing number item low no_image; relations = some_off listing number item low no_link }

pub fits_with_relation : (listing : Listing) (number : ℕ) (relation : RelationEntry) → ListingFits listing → 1 ≤ number → number ≤ length listing.relations → EntryFits listing relation → ((k : ℕ) → IsNumberOf Relation listing relation.name k → k ≡ number)
    → ((was : RelationEntry) → relation_at listing number ≡ Some was → relation.fields ≡ was.fields) → ListingFits (with_relation listing number (Some relation))
fits_with_relation listing number relation fits low high entry_fits only kept = record {
  segment_places = fits.segment_places;
  relation_places = length-set listing.relations (number - 1) (Some relation) ∙ fits.relation_places;
  paths = paths_move listing _ fits.paths (beside_with listing number relation low high kept);
  segment_names = fits.segment_names;
  segments_once = fits.segments_once;
  relations_once = subst AreOnce (sym (names_put (λ (entry : RelationEntry). entry.name) listing.relations number (Some relation)))
      (once_put (relation_names listing.relations) number relation.name low (omega (arith, length-map listing.relations (option_map (λ (entry : RelationEntry). entry.name)))) fits.relations_once only);
  relations = λ k found is. elim (with_cases listing.relations number k (Some relation) found low high is) [
    | inl here ↦ entry_moves listing _ found refl (subst (EntryFits listing) (same_Some relation found here.1) entry_fits)
    | inr off ↦ entry_moves listing _ found refl (fits.relations k found off.1)
  ];
}

pub fits_without_relation : (listing : Listing) (number : ℕ) → ListingFits listing → 1 ≤ number → number ≤ length listing.relations → (HasImageOf listing number → ⊥) → (HasLinkOf listing number → ⊥) → ListingFits (with_relation listing number None)
fits_without_relation listing number fits low high no_image no_link = record {
  segment_places = fits.segment_places;
  relation_places = length-set listing.relations (number - 1) None ∙ fits.relation_places;
  paths = paths_move listing _ fits.paths (beside_off listing number None low no_image no_link);
  segment_names = fits.segment_names;
  segments_once = fits.segments_once;
  relations_once = subst AreOnce (sym (names_put (λ (entry : RelationEntry). entry.name) listing.relations number None))
      (once_dropped (relation_names listing.relations) number low (omega (arith, length-map listing.relations (option_map (λ (entry : RelationEntry). entry.name)))) fits.relations_once);
  relations = λ k found is. elim (with_cases listing.relations number k None found low high is) [
    | inl here ↦ absurd (none-some found here.1)
    | inr off ↦ entry_moves listing _ found refl (fits.relations k found off.1)
  ];
}

pub fits_with_count : (listing : Listing) (number live : ℕ) (relation : RelationEntry) → ListingFits listing → relation_at listing number ≡ Some relation → live < 2 ^ 32 → ListingFits (with_relation listing number (Some (with_count live relation)))
fits_with_count listing number live relation fits is low =
    let within = numbered_within listing.relations number relation is in
    let fit = fits.relations number relation is in
    fits_with_relation listing number (with_count live relation) fits within.0 within.1 (record { name = fit.name; segment = fit.segment; fields = fit.fields; live = low })
    (λ k named. fits.relations_once k number relation.name named (name_listed listing number relation is))
    (λ was at. ap (λ (entry : RelationEntry). entry.fields) (same_Some relation was (sym is ∙ at)))

-- ---- images

-- the segments and the relations are the same
pub fits_again : (old new : Listing) → new.segments ≡ old.segments → new.relations ≡ old.relations → ListingFits old → PathsFit new → ListingFits new
fits_again old new same_segments same_relations fits paths = record {
  segment_places = ap length same_segments ∙ fits.segment_places;
  relation_places = ap length same_relations ∙ fits.relation_places;
  segment_names = λ number name is. fits.segment_names number name (ap (λ (l : List (Option Name)). numbered l number) (sym same_segments) ∙ is);
  segments_once = subst AreOnce (sym same_segments) fits.segments_once;
  relations_once = subst (λ (l : List (Option RelationEntry)). AreOnce (relation_names l)) (sym same_relations) fits.relations_once;
  relations = λ number entry is. entry_moves old new entry same_segments (fits.relations number entry (ap (λ (l : List (Option RelationEntry)). numbered l number) (sym same_relations) ∙ is));
  paths = paths;
}

-- an image fits wherever the relations are the same
pub image_stays : (old new : Listing) (image : ImageEntry) → new.relations ≡ old.relations → ImageFits old image → ImageFits new image
image_stays old new image same fit = image_moves old new image fit (record { relation = fit.relation; listed = ap (λ (l : List (Option RelationEntry)). numbered l image.relation) same ∙ fit.listed; same = refl })

paths_with_images : (listing : Listing) (images : List (Option ImageEntry)) → PathsFit listing → length images ≡ images_most → AreOnce (image_names images) → ((number : ℕ) (image : ImageEntry) → numbered images number ≡ Some image → ImageFits listing image) → PathsFit (record listing { images = images })
paths_with_images listing images paths places once each = record {
  image_places = places;
  link_places = paths.link_places;
  images_once = once;
  links_once = paths.links_once;
  images = λ number image is. image_stays listing (record listing { images = images }) image refl (each number image is);
  links = λ number link is. link_stays listing (record listing { images = images }) link refl (paths.links number link is);
  few_roles = paths.few_roles;
}

pub fits_with_image : (listing : Listing) (number : ℕ) (image : ImageEntry) → ListingFits listing → 1 ≤ number → number ≤ length listing.images → ImageFits listing image → ((k : ℕ) → IsNumberOf Image listing image.name k → k ≡ number) → ListingFits (with_image listing number (Some image))
fits_with_image listing number image fits low high image_fits only =
    let images = with_number listing.images number (Some image) in
    fits_again listing (record listing { images = images }) refl refl fits
    (paths_with_images listing images fits.paths (length-set listing.images (number - 1) (Some image) ∙ fits.paths.image_places)
    (subst AreOnce (sym (names_put (λ (entry : ImageEntry). entry.name) listing.images number (Some image)))
    (once_put (image_names listing.images) number image.name low (omega (arith, length-map listing.images (option_map (λ (entry : ImageEntry). entry.name)))) fits.paths.images_once only))
    (λ k found is. elim (with_cases listing.images number k (Some image) found low high is) [
      | inl here ↦ subst (ImageFits listing) (same_Some image found here.1) image_fits
      | inr off ↦ fits.paths.images k found off.1
    ]))

pub fits_without_image : (listing : Listing) (number : ℕ) → ListingFits listing → 1 ≤ number → number ≤ length listing.images → ListingFits (with_image listing number None)
fits_without_image listing number fits low high =
    let images = with_number listing.images number None in
    fits_again listing (record listing { images = images }) refl refl fits
    (paths_with_images listing images fits.paths (length-set listing.images (number - 1) None ∙ fits.paths.image_places)
    (subst AreOnce (sym (names_put (λ (entry : ImageEntry). entry.name) listing.images number None))
    (once_dropped (image_names listing.images) number low (omega (arith, length-map listing.images (option_map (λ (entry : ImageEntry). entry.name)))) fits.paths.images_once))
    (λ k found is. elim (with_cases listing.images number k None found low high is) [
      | inl here ↦ absurd (none-some found here.1)
      | inr off ↦ fits.paths.images k found off.1
    ]))

pub fits_with_root : (listing : Listing) (number root levels : ℕ) (image : ImageEntry) → ListingFits listing → image_at listing number ≡ Some image → root < 2 ^ 32 → 1 ≤ levels → levels < 2 ^ 8 → ListingFits (with_image listing number (Some (with_root root levels image)))
fits_with_root listing number root levels image fits is low_root some_levels low_levels =
    let within = numbered_within listing.images number image is in
    let fit = fits.paths.images number image is in
    fits_with_image listing number (with_root root levels image) fits within.0 within.1 (record {
      name = fit.name;
      relation = fit.relation;
      listed = fit.listed;
      some = fit.some;
      few = fit.few;
      long = fit.long;
      places = fit.places;
      within = fit.within;
      different = fit.different;
      narrow = fit.narrow;
      some_levels = some_levels;
      levels = low_levels;
      root = low_root;
    })
    (λ k named. fits.paths.images_once k number image.name named (image_named listing number image is))

-- ---- safe images

-- each image of a listing is safe
abbrev pub AreSafeImages : Listing → Type 0
AreSafeImages listing = (number : ℕ) (image : ImageEntry) → image_at listing number ≡ Some image → IsSafeImage listing image

-- an image that fits a listing is safe
pub safe_image : (listing : Listing) (image : ImageEntry) → ImageFits listing image → IsSafeImage listing image
safe_image listing image fit = record { relation = fit.relation; listed = fit.listed; some = fit.some; few = fit.few; within = fit.within; narrow = fit.narrow; low = fit.some_levels }

safe_images_keep : (old new : Listing) → new.images ≡ old.images → KeepsFields old new → AreSafeImages old → AreSafeImages new
safe_images_keep old new same keeps safe number image is =
    let there : image_at old number ≡ Some image = ap (λ (l : List (Option ImageEntry)). numbered l number) (sym same) ∙ is in
    let was = safe number image there in
    safe_moves old new image was (keeps number image there was.relation was.listed)

pub safe_off_relation : (listing : Listing) (number : ℕ) (item : Option RelationEntry) → 1 ≤ number → (HasImageOf listing number → ⊥) → AreSafeImages listing → AreSafeImages (with_relation listing number item)
safe_off_relation listing number item low none safe = safe_images_keep listing (with_relation listing number item) refl (keeps_off listing number item low none) safe

pub safe_with_count : (listing : Listing) (number live : ℕ) (relation : RelationEntry) → relation_at listing number ≡ Some relation → AreSafeImages listing → AreSafeImages (with_relation listing number (Some (with_count live relation)))
safe_with_count listing number live relation is safe =
    let within = numbered_within listing.relations number relation is in
    safe_images_keep listing (with_relation listing number (Some (with_count live relation))) refl
    (keeps_with listing number (with_count live relation) within.0 within.1 (λ was at. ap (λ (entry : RelationEntry). entry.fields) (same_Some relation was (sym is ∙ at)))) safe

pub safe_with_image : (listing : Listing) (number : ℕ) (item : Option ImageEntry) → 1 ≤ number → number ≤ length listing.images → IfSome item (IsSafeImage listing) → AreSafeImages listing → AreSafeImages (with_image listing number item)
safe_with_image listing number item low high fine safe k image is =
    let was : IsSafeImage listing image = elim (with_cases listing.images number k item image low high is) [
      | inl here ↦ subst (λ (o : Option ImageEntry). IfSome o (IsSafeImage listing)) here.1 fine
      | inr off ↦ safe k image off.1
    ] in
    safe_moves listing (with_image listing number item) image was (record { relation = was.relation; listed = was.listed; same = refl })

-- no image is of a relation that isn't listed
pub no_image_of : (listing now : Listing) (number n : ℕ) → listing ≡ now → n ≡ number → AreSafeImages listing → (is_some (relation_at now number) ≡ true → HasImageOf now number → ⊥) → HasImageOf listing n → ⊥
no_image_of listing now number n same same_number safe none has =
    let listed = (safe has.number has.image has.at).listed in
    let of : has.image.relation ≡ number = has.of ∙ same_number in
    none (ap (λ (l : Listing). is_some (relation_at l number)) (sym same) ∙ ap (λ (k : ℕ). is_some (relation_at listing k)) (sym of) ∙ ap is_some listed)
    (record { number = has.number; image = has.image; at = ap (λ (l : Listing). image_at l has.number) (sym same) ∙ has.at; of = of })

-- so is each image that is kept beside its relations
pub safe_all : (listing : Listing) → AreSafeIn listing.relations listing.images → AreSafeImages listing
safe_all listing safe number image is =
    let here = safe number image is in
    let has = used_has (relation_at listing image.relation) here.listed in
    record { relation = has.0; listed = has.1; some = here.some; few = here.few; within = here.within has.0 has.1; narrow = here.narrow has.0 has.1; low = here.low }

pub safe_kept : (listing : Listing) → AreSafeImages listing → AreSafeIn listing.relations listing.images
safe_kept listing safe number image is =
    let here = safe number image is in
    record {
      listed = ap is_some here.listed;
      some = here.some;
      few = here.few;
      within = λ relation at. subst (λ (r : RelationEntry). All (IsFieldNumber (length r.fields)) (field_numbers image)) (same_Some here.relation relation (sym here.listed ∙ at)) here.within;
      narrow = λ relation at. subst (λ (r : RelationEntry). key_width (kinds (chosen (field_numbers image) r.fields)) ≤ most_key_width) (same_Some here.relation relation (sym here.listed ∙ at)) here.narrow;
      low = here.low;
    }

-- no image stands behind the last one, or behind the place of one that was put
pub none_behind_put : (images : List (Option ImageEntry)) (last number : ℕ) (item : Option ImageEntry) → 1 ≤ number → ((k : ℕ) → last < k → numbered images k ≡ None) → (k : ℕ) → max last number < k → numbered (with_number images number item) k ≡ None
none_behind_put images last number item low none k past = with_other images number k item low (λ same. omega (arith, past, same)) ∙ none k (omega (arith, past))

-- ---- what a listed relation is

-- the number of its segment is one of the store's
pub segment_within : (listing : Listing) (relation : RelationEntry) → length listing.segments ≡ segments → EntryFits listing relation → (1 ≤ relation.segment) × (relation.segment ≤ segments)
segment_within listing relation places fit =
    let has = used_has (segment_at listing relation.segment) fit.segment in
    let within = numbered_within listing.segments relation.segment has.0 has.1 in
    (within.0, omega (arith, within.1, places))

-- ---- relations in their places

-- a relation has no more fields than it may have
pub few_of : (fields : List FieldDef) → AreFields fields → length fields ≤ most_fields
few_of fields are =
    let count = length (kinds fields) in
    let parts : ((nat_le 1 count && nat_le count most_fields) ≡ true) × (list_all (λ form. is_kind form.kind) (kinds fields) ≡ true) = and_parts _ _ are.formed in
    let few = and_parts (nat_le 1 count) (nat_le count most_fields) parts.0 in
    omega (arith, leb-true count most_fields few.1, length-map {A = FieldDef} {B = FieldForm} fields form_of)

-- a relation that was put at a place is safe, as the others were
pub safe_put : (items : List (Option RelationEntry)) (number : ℕ) (item : Option RelationEntry) → 1 ≤ number → number ≤ length items → ((k : ℕ) (entry : RelationEntry) → numbered items k ≡ Some entry → IsSafe entry) → IfSome item IsSafe
    → (k : ℕ) (entry : RelationEntry) → numbered (set items (number - 1) item) k ≡ Some entry → IsSafe entry
safe_put items number item low high safe fine k entry is = elim (with_cases items number k item entry low high is) [
  | inl here ↦ subst (λ (o : Option RelationEntry). IfSome o IsSafe) here.1 fine
  | inr off ↦ safe k entry off.1
]

-- a relation that fits a listing is safe
pub safe_fit : (listing : Listing) (relation : RelationEntry) → length listing.segments ≡ segments → EntryFits listing relation → IsSafe relation
safe_fit listing relation places fit =
    let within = segment_within listing relation places fit in
    record {
      segment_low = within.0;
      segment_high = within.1;
      few = few_of relation.fields fit.fields;
      narrow = fit.fields.narrow;
      formed = fit.fields.formed;
    }

-- the count of a relation was changed in its place
pub counted_in_place : (names : List (Option Name)) (items : List (Option RelationEntry)) (images : List (Option ImageEntry)) (links : List (Option LinkEntry)) (pending : List Bool) (old : CatalogView) (number n page p live : ℕ) (read : RelationEntry) (d : Option RelationEntry) → record { listing = listing_of names items images links; pending = pending } ≡ old
    → n ≡ number → p ≡ page → d ≡ get_or items (n - 1) d → d ≡ Some read → (relation : RelationEntry) → relation_at old.listing number ≡ Some relation
    → Lists (with_relation old.listing number (Some (with_count live relation))) page old
    (record { listing = listing_of names (set items (n - 1) (Some (with_count live read))) images links; pending = set pending p true })
counted_in_place names items images links pending old number n page p live read d was same_number same_page found is relation at =
    let there : numbered items number ≡ Some relation = ap (λ (v : CatalogView). numbered v.listing.relations number) was ∙ at in
    let within = numbered_within items number relation there in
    let same : relation ≡ read = same_Some relation read (sym there ∙ numbered_at items number within.0 within.1 ∙ ap (λ (k : ℕ). get_or items (k - 1) None) (sym same_number) ∙ get_or_default items (n - 1) None d (omega (arith, within, same_number)) ∙ sym found ∙ is) in
    record {
      is = λ i. record { segments = ap (λ (v : CatalogView). v.listing.segments) was i; images = ap (λ (v : CatalogView). v.listing.images) was i; links = ap (λ (v : CatalogView). v.listing.links) was i; relations = set (ap (λ (v : CatalogView). v.listing.relations) was i) (same_number i - 1) (Some (with_count live ((sym same) i))) };
      pending = λ i. set (ap (λ (v : CatalogView). v.pending) was i) (same_page i) true;
    }

-- ---- what is said of a listing by its parts

-- a segment was taken away
pub removed_segment : (old new : Listing) (kind : Kind) (number : ℕ) → kind ≡ Segment → is_some (numbered (names_of kind old) number) ≡ true → new ≡ with_segment old number None → (kind ≡ Segment → HasRelationIn old number → ⊥) → ListingFits old → ListingFits new
removed_segment old new kind number is used now none fits =
    let has = used_has (segment_at old number) (ap (λ (k : Kind). is_some (numbered (names_of k old) number)) (sym is) ∙ used) in
    let within = numbered_within old.segments number has.0 has.1 in
    subst ListingFits (sym now) (fits_without_segment old number fits within.0 within.1 (none is))

-- a number in use is one of a place
pub used_within : (listing : Listing) (kind same : Kind) (number : ℕ) → kind ≡ same → is_some (numbered (names_of kind listing) number) ≡ true → (1 ≤ number) × (number ≤ length (names_of same listing))
used_within listing kind same number is used =
    let has = used_has (numbered (names_of same listing) number) (ap (λ (k : Kind). is_some (numbered (names_of k listing) number)) (sym is) ∙ used) in
    numbered_within (names_of same listing) number has.0 has.1

-- a relation was taken away
pub removed_relation : (old new : Listing) (kind : Kind) (number : ℕ) → kind ≡ Relation → is_some (numbered (names_of kind old) number) ≡ true → new ≡ with_relation old number None → (HasImageOf old number → ⊥) → (HasLinkOf old number → ⊥) → ListingFits old → ListingFits new
removed_relation old new kind number is used now no_image no_link fits =
    let within = used_within old kind Relation number is used in
    subst ListingFits (sym now) (fits_without_relation old number fits within.0 (omega (arith, within.1, length-map old.relations (option_map (λ (entry : RelationEntry). entry.name)))) no_image no_link)

-- an image was taken away
pub removed_image : (old new : Listing) (kind : Kind) (number : ℕ) → kind ≡ Image → is_some (numbered (names_of kind old) number) ≡ true → new ≡ with_image old number None → ListingFits old → ListingFits new
removed_image old new kind number is used now fits =
    let within = used_within old kind Image number is used in
    subst ListingFits (sym now) (fits_without_image old number fits within.0 (omega (arith, within.1, length-map old.images (option_map (λ (entry : ImageEntry). entry.name)))))

-- a number in use, by the parts of the catalog
pub within_listed : (inside_listing : Listing) (pending : List Bool) (old : CatalogView) (number : ℕ) → record { listing = inside_listing; pending = pending } ≡ old → is_some (relation_at old.listing number) ≡ true → (1 ≤ number) × (number ≤ length inside_listing.relations)
within_listed listing pending old number was used =
    let has = used_has (relation_at listing number) (ap (λ (v : CatalogView). is_some (relation_at v.listing number)) was ∙ used) in
    numbered_within listing.relations number has.0 has.1

-- what was read at a place has its number
pub is_listed : (items : List (Option RelationEntry)) (number n : ℕ) (read : Option RelationEntry) (entry : RelationEntry) → n ≡ number → (1 ≤ number) × (number ≤ length items) → read ≡ get_or items (n - 1) read → read ≡ Some entry → numbered items number ≡ Some entry
is_listed items number n read entry same within at is =
    numbered_at items number within.0 within.1 ∙ ap (λ (k : ℕ). get_or items (k - 1) None) (sym same) ∙ get_or_default items (n - 1) None read (omega (arith, within, same)) ∙ sym at ∙ is

-- the count has no part in it
pub safe_count : {live : ℕ} {relation : RelationEntry} → IsSafe relation → IsSafe (with_count live relation)
safe_count safe = record { segment_low = safe.segment_low; segment_high = safe.segment_high; few = safe.few; narrow = safe.narrow; formed = safe.formed }

-- a segment was added, by the least number that was free
pub added_segment : (old new : Listing) (name : Name) (number : ℕ) (least : Option ℕ) → IfSome least (IsLeastUnused Segment old) → least ≡ Some number → IsName name → IsUnlisted Segment old name → new ≡ with_segment old number (Some name) → ListingFits old → ListingFits new
added_segment old new name number least is found is_name unlisted now fits =
    let free = subst (λ (o : Option ℕ). IfSome o (IsLeastUnused Segment old)) found is in
    subst ListingFits (sym now) (fits_with_segment old number name fits free.low free.high is_name unlisted)

-- no relation has a number that has no name
free_relation : (listing : Listing) (number : ℕ) (relation : RelationEntry) → numbered (names_of Relation listing) number ≡ None → relation_at listing number ≡ Some relation → ⊥
free_relation listing number relation free is = none-some relation.name (sym free ∙ name_listed listing number relation is)

-- a relation was added, by the least number that was free
pub added_relation : (old new : Listing) (relation : RelationEntry) (number : ℕ) (least : Option ℕ) → IfSome least (IsLeastUnused Relation old) → least ≡ Some number → EntryFits old relation → IsUnlisted Relation old relation.name → new ≡ with_relation old number (Some relation) → ListingFits old → ListingFits new
added_relation old new relation number least is found entry unlisted now fits =
    let free = subst (λ (o : Option ℕ). IfSome o (IsLeastUnused Relation old)) found is in
    subst ListingFits (sym now) (fits_with_relation old number relation fits free.low (omega (arith, free.high, length-map old.relations (option_map (λ (entry : RelationEntry). entry.name)))) entry (λ k named. absurd (unlisted k named)) (λ was at. absurd (free_relation old number was free.free at)))

pub unused_relation : (listing : Listing) (number : ℕ) (least : Option ℕ) → IfSome least (IsLeastUnused Relation listing) → least ≡ Some number → is_some (relation_at listing number) ≡ true → ⊥
unused_relation listing number least is found used =
    let free = subst (λ (o : Option ℕ). IfSome o (IsLeastUnused Relation listing)) found is in
    let has = used_has (relation_at listing number) used in
    free_relation listing number has.0 free.free has.1

-- an image was added, by the least number that was free
pub added_image : (old new : Listing) (image : ImageEntry) (number : ℕ) (least : Option ℕ) → IfSome least (IsLeastUnused Image old) → least ≡ Some number → ImageFits old image → IsUnlisted Image old image.name → new ≡ with_image old number (Some image) → ListingFits old → ListingFits new
added_image old new image number least is found fit unlisted now fits =
    let free = subst (λ (o : Option ℕ). IfSome o (IsLeastUnused Image old)) found is in
    subst ListingFits (sym now) (fits_with_image old number image fits free.low (omega (arith, free.high, length-map old.images (option_map (λ (entry : ImageEntry). entry.name)))) fit (λ k named. absurd (unlisted k named)))
