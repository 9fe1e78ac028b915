-- Tables without images and links fit as far as these go.
use Rattle.std.proofs.Common.{◌≡◌, true, Bool, List, [], ◌∷◌, length, refl, sym, ◌∙◌, ap, arith}
use Rattle.std.specs.Prelude.{Option, Some, None, is_some, count_by}
use Rattle.std.specs.FinMap as finite
use Rattle.std.specs.FinMap.{FinMap, get-empty, len-empty, len-entries}
use Rattle.std.proofs.lemmas.Bool.{true≢false}
use Rattle.std.proofs.lemmas.Option.{none-some}
use Rattle.std.proofs.lemmas.List.{length-map}
use Rattle.rss_base.specs.declared.name.Name.{Name}
use Rattle.rss_base.specs.declared.tid.Tid.{Tid}
use Rattle.rss_base.specs.declared.item.Item.TheVariants.{Chain}
use Rattle.rss_model.specs.Items.{Content, name_cmp}
use Rattle.rss_model.specs.Tables.{LinkDef, Definitions, Tables, content}
use Rattle.rss_model.specs.Chains.{has_part, stands_in, tuples_in, LinksFit}
use Rattle.rss_model.specs.Images.{KeysFit}
use Rattle.rss_model.specs.Fits.{PathsFit}

-- nothing is found in an empty map
pub none_found : {X : Type 0} (m : FinMap name_cmp X) (name : Name) (x : X) → m ≡ finite.empty → finite.get m name ≡ Some x → ⊥
none_found {X = X} m name x none is = none-some x (sym (get-empty name_cmp name) ∙ (sym (ap (λ (n : FinMap name_cmp X). finite.get n name) none) ∙ is))

pub none_some : {X : Type 0} (m : FinMap name_cmp X) (name : Name) → m ≡ finite.empty → is_some (finite.get m name) ≡ true → ⊥
none_some {X = X} m name none is = true≢false (sym is ∙ (ap (λ (n : FinMap name_cmp X). is_some (finite.get n name)) none ∙ ap is_some (get-empty name_cmp name)))

none_long : {X : Type 0} (m : FinMap name_cmp X) → m ≡ finite.empty → finite.len m ≡ 0
none_long {X = X} m none = ap finite.len none ∙ len-empty name_cmp X

nothing_counted : {X : Type 0} (p : X → Bool) (xs : List X) → length xs ≡ 0 → count_by p xs ≡ 0
nothing_counted p [] none = refl
nothing_counted p (x ∷ xs) none = absurd (omega (arith, none))

pub plain_paths : (definitions : Definitions) → definitions.images ≡ finite.empty → definitions.links ≡ finite.empty → PathsFit definitions
plain_paths definitions no_images no_links = record {
  image_names = λ name is. absurd (none_some definitions.images name no_images is);
  few_images = let none = none_long definitions.images no_images in omega (arith, none);
  images = λ name image is. absurd (none_found definitions.images name image no_images is);
  link_names = λ name is. absurd (none_some definitions.links name no_links is);
  few_links = let none = none_long definitions.links no_links in omega (arith, none);
  links = λ name link is. absurd (none_found definitions.links name link no_links is);
  few_parts = λ relation.
      let long : length (finite.values definitions.links) ≡ 0 = length-map (finite.entries definitions.links) (λ (e : Name × LinkDef). e.1) ∙ (sym (len-entries definitions.links) ∙ none_long definitions.links no_links) in
      let none = nothing_counted (has_part relation) (finite.values definitions.links) long in
      omega (arith, none);
}

pub plain_keys : (tables : Tables) → tables.definitions.images ≡ finite.empty → KeysFit tables
plain_keys tables none name image one other key there unique first second = absurd (none_found tables.definitions.images name image none there)

-- no chain holds anything
abbrev pub NoChains : Tables → Type 0
NoChains tables = (link : Name) (parent : Option Tid) → content tables.contents (Chain link parent) ≡ None

pub plain_links : (tables : Tables) → NoChains tables → LinksFit tables
plain_links tables none = record {
  chains = λ link parent held is. absurd (none-some held (sym (none link parent) ∙ is));
  alone = λ link one other tid first second. absurd (true≢false (sym first ∙ ap (λ (o : Option Content). stands_in tid (tuples_in o)) (none link one)));
}
