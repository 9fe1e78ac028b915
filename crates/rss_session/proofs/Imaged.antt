-- Whether a relation has an image: by its number as by its name.
use Rattle.std.proofs.Common.{◌≡◌, inl, inr, ℕ, true, false, List, [], ◌∷◌, map, sym, ◌∙◌, ap}
use Rattle.std.specs.Prelude.{Some, is_some}
use Rattle.std.specs.List.{list_any}
use Rattle.std.specs.FinMap as finite
use Rattle.std.specs.Cmp.{Equal-is}
use Rattle.std.proofs.lemmas.Option.{same_Some}
use Rattle.rss_base.specs.Listings.{Listing, ListingFits, relation_at}
use Rattle.rss_base.specs.declared.name.Name.{Name}
use Rattle.rss_base.specs.declared.relation.RelationEntry.{RelationEntry}
use Rattle.rss_catalog.specs.Catalogs.{HasImageOf}
use Rattle.rss_model.specs.Defining.{is_image_of}
use Rattle.rss_model.specs.Items.{name_cmp}
use Rattle.rss_stored.specs.Store.{Defines, IsListedImage, image_definition}
use Rattle.rss_model.specs.Tables.{ImageDef, Definitions}
use Rattle.rss_model.proofs.Codes.{name_total, name_apart}
use Rattle.rss_model.proofs.Contents.{tied}
use Rattle.rss_model.proofs.Locking.{any_in}
use Rattle.rss_model.proofs.LogLists.{by_test, false_true}
use Rattle.rss_model.proofs.Mixing.{In}
use Rattle.rss_model.proofs.Redefining.{none_any, in_values}
use Rattle.rss_stored.proofs.Relisted.{number_of}
use Rattle.rss_model.proofs.SeenAlike.{got_in}
use Rattle.rss_stored.proofs.Spelled.{named_image}

valued : (entries : List (Name × ImageDef)) (image : ImageDef) → In image (map (λ e. e.1) entries) → (name : Name) × In (name, image) entries
valued [] image is = absurd is
valued (entry ∷ entries) image (inl same) = (entry.0, inl (λ i. (entry.0, same i)))
valued (entry ∷ entries) image (inr is) = let rest = valued entries image is in (rest.0, inr rest.1)

module _ {listing : Listing} {definitions : Definitions} (fits : ListingFits listing) (defines : Defines listing definitions) (number : ℕ) (relation : RelationEntry) (at : relation_at listing number ≡ Some relation) where
  abbrev images : List ImageDef
  images = finite.values definitions.images

  pub image_named : HasImageOf listing number → list_any (is_image_of relation.name) images ≡ true
  image_named has =
      let listed : IsListedImage listing has.number has.image relation = record { at = has.at; within = ap (relation_at listing) has.of ∙ at } in
      let there = in_values definitions.images has.image.name (image_definition has.image relation) (defines.paths.images has.number has.image relation listed) in
      by_test (list_any (is_image_of relation.name) images)
      (λ yes. yes)
      (λ none. false_true (tied name_total name_apart relation.name) (none_any (is_image_of relation.name) images none (image_definition has.image relation) there))

  -- an image with its name has its number
  its : (image : ImageDef) → In image images → is_image_of relation.name image ≡ true → HasImageOf listing number
  its image there of =
      let entry = valued (finite.entries definitions.images) image there in
      let got = got_in name_total name_apart definitions.images entry.0 image entry.1 in
      let has = named_image listing entry.0 (defines.paths.only_images entry.0 (ap is_some got)) in
      let fit = fits.paths.images has.number has.image has.at in
      let listed : IsListedImage listing has.number has.image fit.relation = record { at = has.at; within = fit.listed } in
      let same : image_definition has.image fit.relation ≡ image = same_Some _ _ (sym (defines.paths.images has.number has.image fit.relation listed) ∙ ap (finite.get definitions.images) has.named ∙ got) in
      let name : fit.relation.name ≡ relation.name = ap (λ (i : ImageDef). i.relation) same ∙ sym (name_apart relation.name image.relation ((Equal-is (name_cmp relation.name image.relation)).0 of)) in
      record {
        number = has.number;
        image = has.image;
        at = has.at;
        of = fits.relations_once has.image.relation number relation.name (number_of listing has.image.relation fit.relation fit.listed ∙ ap Some name) (number_of listing number relation at);
      }

  pub none_named : (HasImageOf listing number → ⊥) → list_any (is_image_of relation.name) images ≡ false
  none_named none = by_test (list_any (is_image_of relation.name) images)
      (λ yes. let some = any_in (is_image_of relation.name) images yes in absurd (none (its some.0 some.1 some.2)))
      (λ no. no)
