-- Catalogs that list the same but for where images begin and how many tuples one relation has.
use Rattle.std.proofs.Common.{◌≡◌, inl, inr, ℕ, zero, suc, ◌-◌, Bool, true, false, List, [], ◌∷◌, length, get_or, refl, sym, ◌∙◌, ap, subst, arith}
use Rattle.std.specs.Prelude.{Option, Some, None, option_map, slice_set, map as list_map}
use Rattle.std.specs.FinMap as map
use Rattle.std.proofs.lemmas.Bool.{cases_eq, cases_lt, true≢false}
use Rattle.std.proofs.lemmas.List.{length-set, get_or_past, set-get_or, get_or-set_same, get_or-set_other}
use Rattle.std.proofs.lemmas.Option.{none-some, same_Some}
use Rattle.rss_base.specs.Listings.{Listing, ListingFits, numbered, relation_at, with_relation, with_count}
use Rattle.rss_base.specs.declared.name.Name.{Name}
use Rattle.rss_base.specs.declared.image.ImageEntry.{ImageEntry}
use Rattle.rss_base.specs.declared.relation.RelationEntry.{RelationEntry}
use Rattle.rss_base.specs.declared.refusal.Kind.TheVariants.{Relation as RelationKind}
use Rattle.rss_catalog.specs.Catalogs.{CatalogView, Lists, page_of}
use Rattle.rss_model.specs.Meanings.{rootless}
use Rattle.rss_model.specs.Tables.{Definitions}
use Rattle.rss_stored.specs.Store.{Defines, image_definition}
use Rattle.rss_stored.proofs.Listed.{at_place}
use Rattle.rss_access.specs.Relisted.{KeepsSpelled, Rerooted, Recounted}
use Rattle.rss_access.specs.Written.{HasImage}
use Rattle.rss_access.proofs.Numbered.{counted_here, counted_else, counted_defines}
use Rattle.rss_access.proofs.Recounting.{Recounts, still_spelled}

-- ---- pages that are still spelled

pub keeps_itself : (catalog : CatalogView) → KeepsSpelled catalog catalog
keeps_itself catalog = record { places = refl; still = λ page is. is; same = λ places page low not. refl }

pub keeps_then : {old mid new : CatalogView} → KeepsSpelled old mid → KeepsSpelled mid new → KeepsSpelled old new
keeps_then one two = record {
  places = two.places ∙ one.places;
  still = λ page is. two.still page (one.still page is);
  same = λ places page low not. two.same (one.places ∙ places) page low not ∙ one.same places page low (λ was. not (two.still page was));
}

-- a flag that is set leaves those that are
still_set : (flags : List Bool) (place page : ℕ) → get_or flags page false ≡ true → get_or (slice_set flags place true) page false ≡ true
still_set flags place page is = elim (cases_eq page place) [
  | inl here ↦ elim (cases_lt page (length flags)) [
    | inl low ↦ ap (λ (k : ℕ). get_or (slice_set flags place true) k false) here ∙ get_or-set_same flags place true false (omega (arith, here, low))
    | inr past ↦ absurd (true≢false (sym is ∙ get_or_past flags page false past))
  ]
  | inr other ↦ get_or-set_other flags place page true false other ∙ is
]

-- where the catalog lists another count
pub keeps_counted : {before after : CatalogView} (number : ℕ) (entry : RelationEntry) → Lists (with_relation before.listing number (Some entry)) (page_of RelationKind number) before after → KeepsSpelled before after
keeps_counted {before = before} number entry lists = record {
  places = ap (λ (l : List Bool). length l) lists.pending ∙ length-set before.pending (page_of RelationKind number) true;
  still = λ page is. ap (λ (l : List Bool). get_or l page false) lists.pending ∙ still_set before.pending (page_of RelationKind number) page is;
  same = λ places page low not. (still_spelled number entry places lists page low not).1;
}

-- ---- one call after another

pub rerooted_itself : (catalog : CatalogView) → Rerooted catalog catalog
rerooted_itself catalog = record { segments = refl; relations = refl; images = refl; links = refl; keeps = keeps_itself catalog; fits = λ fits. fits }

-- the relation has its own count
pub counted_itself : (listing : Listing) (number live : ℕ) (relation : RelationEntry) → relation_at listing number ≡ Some relation → live ≡ relation.live → listing ≡ with_relation listing number (Some (with_count live relation))
counted_itself listing zero live relation at same = absurd (none-some relation at)
counted_itself listing (suc k) live relation at same =
    let place : suc k - 1 ≡ k = omega arith in
    let here : get_or listing.relations (suc k - 1) None ≡ Some (with_count live relation) = ap (λ (j : ℕ). get_or listing.relations j None) place ∙ sym (at_place listing.relations k) ∙ at ∙ ap (λ (n : ℕ). Some (with_count n relation)) (sym same) in
    let relations : slice_set listing.relations (suc k - 1) (Some (with_count live relation)) ≡ listing.relations = ap (slice_set listing.relations (suc k - 1)) (sym here) ∙ set-get_or listing.relations (suc k - 1) None in
    λ i. record listing { relations = sym relations i }

-- a count is set, after images have moved
pub recounts_rerooted : {old mid new : CatalogView} (number live : ℕ) (relation : RelationEntry) → Rerooted old mid → new.listing ≡ with_relation mid.listing number (Some (with_count live relation)) → KeepsSpelled mid new → (ListingFits mid.listing → ListingFits new.listing) → Recounted number live relation old new
recounts_rerooted number live relation rerooted is keeps fits = record {
  segments = ap (λ (l : Listing). l.segments) is ∙ rerooted.segments;
  relations = ap (λ (l : Listing). l.relations) is ∙ ap (λ (l : List (Option RelationEntry)). slice_set l (number - 1) (Some (with_count live relation))) rerooted.relations;
  images = ap (λ (l : Listing). list_map (option_map rootless) l.images) is ∙ rerooted.images;
  links = ap (λ (l : Listing). l.links) is ∙ rerooted.links;
  keeps = keeps_then rerooted.keeps keeps;
  fits = λ old_fits. fits (rerooted.fits old_fits);
}

-- ---- images that begin elsewhere

abbrev pub unrooted : List (Option ImageEntry) → List (Option ImageEntry)
unrooted images = list_map (option_map rootless) images

-- the names of images, with or without their roots
abbrev image_names : List (Option ImageEntry) → List (Option Name)
image_names images = list_map (option_map (λ (image : ImageEntry). image.name)) images

names_unrooted : (images : List (Option ImageEntry)) → image_names (unrooted images) ≡ image_names images
names_unrooted [] = refl
names_unrooted (None ∷ images) = ap (λ (l : List (Option Name)). None ∷ l) (names_unrooted images)
names_unrooted (Some image ∷ images) = ap (λ (l : List (Option Name)). Some image.name ∷ l) (names_unrooted images)

at_unrooted : (images : List (Option ImageEntry)) (number : ℕ) → numbered (unrooted images) number ≡ option_map rootless (numbered images number)
at_unrooted images zero = refl
at_unrooted images (suc k) = at_place (unrooted images) k ∙ got images k ∙ sym (ap (option_map rootless) (at_place images k))
  where
    got : (images : List (Option ImageEntry)) (k : ℕ) → get_or (unrooted images) k None ≡ option_map rootless (get_or images k None)
    got [] k = refl
    got (image ∷ images) zero = refl
    got (image ∷ images) (suc k) = got images k

-- the image that had this number
record HadImage (images : List (Option ImageEntry)) (number : ℕ) (image : ImageEntry) : Type 0 where
  was : ImageEntry
  at : numbered images number ≡ Some was
  same : rootless was ≡ rootless image

module _ (before after : List (Option ImageEntry)) (same : unrooted after ≡ unrooted before) where
  had_image : (number : ℕ) (image : ImageEntry) → numbered after number ≡ Some image → HadImage before number image
  had_image number image at = by (numbered before number) refl
    where
      both : option_map rootless (numbered before number) ≡ Some (rootless image)
      both = sym (at_unrooted before number) ∙ ap (λ (l : List (Option ImageEntry)). numbered l number) (sym same) ∙ at_unrooted after number ∙ ap (option_map rootless) at

      by : (found : Option ImageEntry) → numbered before number ≡ found → HadImage before number image
      by None is = absurd (none-some (rootless image) (sym (ap (option_map rootless) is) ∙ both))
      by (Some was) is = record { was = was; at = is; same = same_Some _ _ (sym (ap (option_map rootless) is) ∙ both) }

  same_names : image_names after ≡ image_names before
  same_names = sym (names_unrooted after) ∙ ap image_names same ∙ names_unrooted before

-- images are listed where they were
pub same_images : {old new : Listing} → unrooted new.images ≡ unrooted old.images → HasImage new → HasImage old
same_images {old = old} {new = new} same has =
    let had = had_image old.images new.images same has.number has.image has.at in
    record { number = has.number; image = had.was; at = had.at }

-- the same is defined
rerooted_defines : {listing : Listing} {definitions : Definitions} (images : List (Option ImageEntry)) → unrooted images ≡ unrooted listing.images → Defines listing definitions → Defines (record listing { images = images }) definitions
rerooted_defines {listing = listing} {definitions = definitions} images same defines = record {
  segments = defines.segments;
  relations = λ k relation segment l. defines.relations k relation segment (record { at = l.at; within = l.within });
  only_relations = defines.only_relations;
  paths = record {
    images = λ k image relation l.
        let had = had_image listing.images images same k image l.at in
        let within : relation_at listing had.was.relation ≡ Some relation = ap (λ (i : ImageEntry). relation_at listing i.relation) had.same ∙ l.within in
        subst (λ (i : ImageEntry). map.get definitions.images i.name ≡ Some (image_definition i relation)) had.same (defines.paths.images k had.was relation (record { at = had.at; within = within }));
    only_images = λ name there.
        let has = defines.paths.only_images name there in
        (has.0, ap (λ (l : List (Option Name)). numbered l has.0) (same_names listing.images images same) ∙ has.1);
    links = λ k link child l. defines.paths.links k link child (record { at = l.at; within = l.within });
    only_links = defines.paths.only_links;
  };
}

-- ---- what is listed then

module _ {number live : ℕ} {relation : RelationEntry} {old new : CatalogView} (counted : Recounted number live relation old new) (at : relation_at old.listing number ≡ Some relation) where
  pub recounts_by : Recounts number relation old.listing new.listing
  recounts_by = record {
    live = live;
    segments = counted.segments;
    links = counted.links;
    here = ap (λ (l : List (Option RelationEntry)). numbered l number) counted.relations ∙ counted_here old.listing number live relation at;
    others = λ k other. ap (λ (l : List (Option RelationEntry)). numbered l k) counted.relations ∙ counted_else old.listing number live relation at k other;
  }

  pub defines_still : {definitions : Definitions} → Defines old.listing definitions → Defines new.listing definitions
  defines_still {definitions = definitions} defines = subst (λ (l : Listing). Defines l definitions) listed (rerooted_defines new.listing.images counted.images (counted_defines old.listing number live relation at defines))
    where
      listed : record (with_relation old.listing number (Some (with_count live relation))) { images = new.listing.images } ≡ new.listing
      listed = λ i. record { segments = sym counted.segments i; relations = sym counted.relations i; images = new.listing.images; links = sym counted.links i }
