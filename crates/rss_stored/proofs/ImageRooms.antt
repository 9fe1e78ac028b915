-- How many pages the images of a store may have: by the definitions as by the listing, and no fewer than they have.
use Rattle.std.proofs.Common.{◌≡◌, inl, inr, ℕ, zero, suc, ◌+◌, ◌-◌, ◌≤◌, List, [], ◌∷◌, length, get_or, refl, sym, ◌∙◌, ap, subst, arith}
use Rattle.std.specs.Prelude.{Option, Some, None, is_some, option_map, unwrap_or, sum_by, Contains, map as list_map}
use Rattle.std.specs.FinMap as map
use Rattle.std.proofs.lemmas.List.{length-map}
use Rattle.std.proofs.lemmas.List.Sums.{sum_by-cons, sum_by-le-sum_by}
use Rattle.std.proofs.lemmas.Option.{none-some, same_Some}
use Rattle.rss_base.specs.Paged.{Held, Mapped, page_key, mapped_of}
use Rattle.rss_base.specs.TupleTypes.{kinds, chosen, key_width}
use Rattle.rss_base.specs.Listings.{Listing, ListingFits, names_of, relation_at, image_at, field_numbers}
use Rattle.rss_base.specs.declared.key.PageKey.{PageKey}
use Rattle.rss_base.specs.declared.key.Space.TheVariants.{Image as ImageSpace}
use Rattle.rss_base.specs.declared.name.Name.{Name}
use Rattle.rss_base.specs.declared.image.ImageEntry.{ImageEntry}
use Rattle.rss_base.specs.declared.relation.RelationEntry.{RelationEntry}
use Rattle.rss_base.specs.declared.refusal.Kind.TheVariants.{Image as ImageKind}
use Rattle.rss_model.specs.Tables.{ImageDef, Definitions, Tables, tuple_count}
use Rattle.rss_model.specs.Images.{image_list}
use Rattle.rss_model.specs.Meter.{Traffic, Meter, bound_of, entries_most, pages_of_image}
use Rattle.rss_model.specs.Spares.{change_counts, bound_by, bound_at, listed_bound, live_of}
use Rattle.rss_stored.specs.Store.{Defines, HasNumber, IsListedImage, SpellsImage, SpellsImages, IsReached, SpellsTables, AreCounts, image_definition}
use Rattle.rss_model.proofs.ImageCounts.{entries_few}
use Rattle.rss_stored.proofs.ImageFields.{width_is}
use Rattle.rss_stored.proofs.ImagePages.{pages_once, pages_few}
use Rattle.rss_stored.proofs.Listed.{at_place, IsListOf, of_name, sum_found}
use Rattle.rss_model.proofs.MappedKeys.{HasMapped, mapped_at_most, keys_from, among_keys, keys_few}
use Rattle.rss_model.proofs.Mixing.{In}
use Rattle.rss_stored.proofs.Relisted.{number_within_list}
use Rattle.rss_model.proofs.Saving.{more_bound}
use Rattle.rss_stored.proofs.Spelled.{named_image}

-- how many entries the meter allows the images of the relation of a number
abbrev pub most_of : Listing → (Name → Traffic) → ℕ → ℕ
most_of listing traffic number =
    unwrap_or (option_map (λ relation. entries_most (traffic relation.name)) (relation_at listing number)) 0

-- ---- more entries may need more pages

pub bound_rises : (listing : Listing) (few many : ℕ → ℕ) → ((number : ℕ) (relation : RelationEntry) → relation_at listing number ≡ Some relation → few number ≤ many number) → listed_bound listing few ≤ listed_bound listing many
bound_rises listing few many le = sum_by-le-sum_by (bound_at listing few) (bound_at listing many) listing.images one
  where
    one : (found : Option ImageEntry) → bound_at listing few found ≤ bound_at listing many found
    one None = omega arith
    one (Some image) = by (relation_at listing image.relation) refl
      where
        by : (found : Option RelationEntry) → relation_at listing image.relation ≡ found → bound_by few image found ≤ bound_by many image found
        by None is = omega arith
        by (Some relation) is = more_bound (key_width (kinds (chosen (field_numbers image) relation.fields))) (few image.relation) (many image.relation) (le image.relation relation is)

-- a sum over the names of what is listed is one over what has them
pub sum_named : {A : Type 0} (name : A → Name) (h : Name → ℕ) (g : Option A → ℕ) (items : List (Option A)) → g None ≡ 0 → ((k : ℕ) (item : A) → get_or items k None ≡ Some item → h (name item) ≡ g (Some item)) → sum_by (of_name h) (list_map (option_map name) items) ≡ sum_by g items
sum_named name h g [] none each = refl
sum_named name h g (None ∷ items) none each =
    omega (arith, none, sum_named name h g items none (λ k. each (suc k)), sum_by-cons (of_name h) None (list_map (option_map name) items), sum_by-cons g None items)
sum_named name h g (Some item ∷ items) none each =
    omega (arith, each zero item refl, sum_named name h g items none (λ k. each (suc k)), sum_by-cons (of_name h) (Some (name item)) (list_map (option_map name) items), sum_by-cons g (Some item) items)

-- ---- the images that are defined are those that are listed

module _ {listing : Listing} {definitions : Definitions} (defines : Defines listing definitions) (fits : ListingFits listing) where
  -- an image with its relation
  record HasDefinition (number : ℕ) (image : ImageEntry) : Type 0 where
    relation : RelationEntry
    at : IsListedImage listing number image relation
    defined : map.get definitions.images image.name ≡ Some (image_definition image relation)

  definition_at : (number : ℕ) (image : ImageEntry) → image_at listing number ≡ Some image → HasDefinition number image
  definition_at number image at =
      let its = fits.paths.images number image at in
      let listed : IsListedImage listing number image its.relation = record { at = at; within = its.listed } in
      record { relation = its.relation; at = listed; defined = defines.paths.images number image its.relation listed }

  pub images_listed : IsListOf (names_of ImageKind listing) definitions.images
  images_listed = record {
    each = λ k name at.
        let has = named_image listing name (suc k, at_place (names_of ImageKind listing) k ∙ at) in
        ap (λ (q : Name). is_some (map.get definitions.images q)) (sym has.named) ∙ ap is_some (definition_at has.number has.image has.at).defined;
    only = λ name there. place name (defines.paths.only_images name there);
    once = λ j k name one other. less_one j k (fits.paths.images_once (suc j) (suc k) name (at_place (names_of ImageKind listing) j ∙ one) (at_place (names_of ImageKind listing) k ∙ other));
  }
    where
      place : (name : Name) → HasNumber ImageKind listing name → (k : ℕ) × (get_or (names_of ImageKind listing) k None ≡ Some name)
      place name (zero, at) = absurd (none-some name at)
      place name (suc k, at) = (k, sym (at_place (names_of ImageKind listing) k) ∙ at)

      less_one : (j k : ℕ) → suc j ≡ suc k → j ≡ k
      less_one j k same = omega (arith, same)

  -- so they may have as many pages
  pub listed_same : (meter : Meter) → (change_counts definitions meter).images ≡ listed_bound listing (most_of listing meter.traffic)
  listed_same meter =
      sum_found (pages_of_image definitions meter) (λ (e : Name × ImageDef). e.1) of_defined (names_of ImageKind listing) definitions.images images_listed (λ name image is. sym (ap (λ (o : Option ImageDef). unwrap_or (option_map (pages_of_image definitions meter) o) 0) is))
      ∙ sum_named (λ (image : ImageEntry). image.name) of_defined (bound_at listing (most_of listing meter.traffic)) listing.images refl (λ k image is. each (suc k) image (definition_at (suc k) image (at_place listing.images k ∙ is)))
    where
      of_defined : Name → ℕ
      of_defined name = unwrap_or (option_map (pages_of_image definitions meter) (map.get definitions.images name)) 0

      each : (number : ℕ) (image : ImageEntry) → HasDefinition number image → of_defined image.name ≡ bound_at listing (most_of listing meter.traffic) (Some image)
      each number image has =
          ap (λ (o : Option ImageDef). unwrap_or (option_map (pages_of_image definitions meter) o) 0) has.defined
          ∙ ap (λ (width : ℕ). bound_of width (entries_most (meter.traffic has.relation.name))) (width_is fits defines has.at)
          ∙ sym (ap (λ (o : Option RelationEntry). bound_by (λ number. unwrap_or (option_map (λ relation. entries_most (meter.traffic relation.name)) o) 0) image o) has.at.within)

-- ---- each image page is one of a listed image

-- the keys of these pages
abbrev keys_of : RelationEntry → List ℕ → List PageKey
keys_of relation pages = list_map (λ (n : ℕ). page_key relation.segment ImageSpace n) pages

among_keys_of : (relation : RelationEntry) (pages : List ℕ) (number : ℕ) → Contains pages number → In (page_key relation.segment ImageSpace number) (keys_of relation pages)
among_keys_of relation [] number (k, low, at) = absurd (omega (arith, low))
among_keys_of relation (n ∷ pages) number (zero, low, at) = inl (ap (λ (m : ℕ). page_key relation.segment ImageSpace m) at)
among_keys_of relation (n ∷ pages) number (suc k, low, at) = inr (among_keys_of relation pages number (k, omega (arith, low), at))

module _ {held : Held} {listing : Listing} {tables : Tables} (fits : ListingFits listing) (counts : AreCounts listing tables.contents) (images : SpellsImages held listing tables) where
  -- the keys of the pages of the image of a number, none where there is no image
  record HasKeys (m : ℕ) : Type 0 where
    keys : List PageKey
    few : length keys ≤ bound_at listing (live_of listing) (image_at listing m)
    own : (key : PageKey) (of : IsReached held listing tables key) → key.space ≡ ImageSpace → of.number ≡ m → In key keys

  module _ (m : ℕ) (image : ImageEntry) (relation : RelationEntry) (at : IsListedImage listing m image relation) (pages : List ℕ) (spelled : SpellsImage held tables m image relation pages) where
    -- it has no more entries than its relation has tuples
    few_keys : length (keys_of relation pages) ≤ bound_at listing (live_of listing) (image_at listing m)
    few_keys =
        let its = fits.paths.images m image at.at in
        let same : its.relation ≡ relation = same_Some _ _ (sym its.listed ∙ at.within) in
        let width : ℕ = key_width (kinds (chosen (field_numbers image) relation.fields)) in
        let narrow : width ≤ 120 = subst (λ (r : RelationEntry). key_width (kinds (chosen (field_numbers image) r.fields)) ≤ 120) same its.narrow in
        let list : ℕ = length (image_list tables (image_definition image relation)) in
        let entries : list ≤ relation.live = let few = entries_few tables relation.name (image_definition image relation).fields in omega (arith, few, counts image.relation relation at.within) in
        let room : bound_at listing (live_of listing) (image_at listing m) ≡ bound_of width relation.live =
        ap (bound_at listing (live_of listing)) at.at ∙ ap (λ (o : Option RelationEntry). bound_by (λ number. unwrap_or (option_map (λ r. r.live) o) 0) image o) at.within in
        omega (arith, length-map pages (λ (n : ℕ). page_key relation.segment ImageSpace n), pages_few narrow spelled, more_bound width list relation.live entries, room)

    own_key : (key : PageKey) (of : IsReached held listing tables key) → key.space ≡ ImageSpace → of.number ≡ m → In key (keys_of relation pages)
    own_key key of space here =
        let entry : of.image ≡ image = same_Some _ _ (sym of.at.at ∙ ap (image_at listing) here ∙ at.at) in
        let its : of.relation ≡ relation = same_Some _ _ (sym of.at.within ∙ ap (λ (e : ImageEntry). relation_at listing e.relation) entry ∙ at.within) in
        let there : SpellsImage held tables m image relation of.pages =
        subst (λ (r : RelationEntry). SpellsImage held tables m image r of.pages) its
        (subst (λ (e : ImageEntry). SpellsImage held tables m e of.relation of.pages) entry
        (subst (λ (n : ℕ). SpellsImage held tables n of.image of.relation of.pages) here of.spells)) in
        let among = among_keys_of relation pages key.number (subst (λ (ps : List ℕ). Contains ps key.number) (pages_once there spelled) of.among) in
        let key_is : page_key relation.segment ImageSpace key.number ≡ key = λ i. record { segment = sym (of.segment ∙ ap (λ (r : RelationEntry). r.segment) its) i; space = sym space i; number = key.number } in
        subst (λ (k : PageKey). In k (keys_of relation pages)) key_is among

  has_keys : (m : ℕ) → HasKeys m
  has_keys m = by (image_at listing m) refl
    where
      by : (found : Option ImageEntry) → image_at listing m ≡ found → HasKeys m
      by None none = record {
        keys = [];
        few = omega arith;
        own = λ key of space here. absurd (none-some of.image (sym none ∙ ap (image_at listing) (sym here) ∙ of.at.at));
      }
      by (Some image) at =
          let its = fits.paths.images m image at in
          let listed : IsListedImage listing m image its.relation = record { at = at; within = its.listed } in
          let one = images.each m image its.relation listed in
          record {
            keys = keys_of its.relation one.0;
            few = few_keys m image its.relation listed one.0 one.1;
            own = own_key m image its.relation listed one.0 one.1;
          }

  keys_by : ℕ → List PageKey
  keys_by m = (has_keys m).keys

  few_by : (j : ℕ) → length (keys_by (1 + j)) ≤ bound_at listing (live_of listing) (get_or listing.images j None)
  unfolding keys_by
  few_by j = subst (λ (o : Option ImageEntry). length (keys_by (1 + j)) ≤ bound_at listing (live_of listing) o) (ap (image_at listing) (next j) ∙ at_place listing.images j) (has_keys (1 + j)).few
    where
      next : (j : ℕ) → 1 + j ≡ suc j
      next j = omega arith

  has_mapped : {mapped : Mapped} → ((key : PageKey) → is_some (held key) ≡ mapped key) → HasMapped ImageSpace mapped (keys_from keys_by 1 listing.images)
  unfolding keys_by
  has_mapped holds key space is =
      let of = images.reached key space (holds key ∙ is) in
      let within = number_within_list listing.images of.number of.image of.at.at in
      let back : of.number ≡ 1 + (of.number - 1) = omega (arith, within.0) in
      among_keys keys_by 1 listing.images (of.number - 1) key (omega (arith, within.0, within.1)) (subst (λ (m : ℕ). In key (keys_by m)) back ((has_keys of.number).own key of space refl))

  pub mapped_few : {mapped : Mapped} → ((key : PageKey) → is_some (held key) ≡ mapped key) → (slots : ℕ) → mapped_of mapped ImageSpace slots ≤ listed_bound listing (live_of listing)
  mapped_few {mapped = mapped} holds slots =
      let low = mapped_at_most ImageSpace slots (keys_from keys_by 1 listing.images) mapped (has_mapped holds) in
      let high = keys_few keys_by (bound_at listing (live_of listing)) None 1 listing.images (λ j within. few_by j) in
      omega (arith, low, high)

-- no more image pages are mapped than the images may have by the tuples of their relations
pub images_few : {held : Held} {listing : Listing} {tables : Tables} → SpellsTables held listing tables → {mapped : Mapped} → ((key : PageKey) → is_some (held key) ≡ mapped key) → (slots : ℕ) → mapped_of mapped ImageSpace slots ≤ listed_bound listing (live_of listing)
images_few spells holds slots = mapped_few spells.listed spells.counts spells.images holds slots

-- nor more than a meter allows them, where it allows each relation its tuples
pub images_allowed : {held : Held} {listing : Listing} {tables : Tables} → SpellsTables held listing tables → {mapped : Mapped} → ((key : PageKey) → is_some (held key) ≡ mapped key) → (slots : ℕ) (meter : Meter)
    → ((relation : Name) → tuple_count tables.contents relation ≤ entries_most (meter.traffic relation)) → mapped_of mapped ImageSpace slots ≤ (change_counts tables.definitions meter).images
images_allowed {listing = listing} spells holds slots meter covers =
    let rises = bound_rises listing (live_of listing) (most_of listing meter.traffic) (λ number relation at.
    let live : live_of listing number ≡ relation.live = ap (λ (o : Option RelationEntry). unwrap_or (option_map (λ r. r.live) o) 0) at in
    let most : most_of listing meter.traffic number ≡ entries_most (meter.traffic relation.name) = ap (λ (o : Option RelationEntry). unwrap_or (option_map (λ r. entries_most (meter.traffic r.name)) o) 0) at in
    omega (arith, live, most, spells.counts number relation at, covers relation.name)) in
    omega (arith, images_few spells holds slots, rises, listed_same spells.defines spells.listed meter)
