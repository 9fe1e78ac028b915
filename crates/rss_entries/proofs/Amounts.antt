-- How many pages images have in all, where each has no more than it has room for.
use Rattle.std.proofs.Common.{◌≡◌, ◌≤◌, ◌+◌, ◌-◌, ℕ, suc, true, List, [], ◌∷◌, length, get_or, map as list_map, refl, sym, ◌∙◌, ap, subst, arith, inl, inr, ⊎_elim}
use Rattle.std.specs.Prelude.{Option, Some, None, is_some, if◌then◌else◌, ◌==◌}
use Rattle.std.proofs.lemmas.List.{length-map}
use Rattle.std.proofs.lemmas.Option.{none-some}
use Rattle.rss_base.specs.Paged.{Held, Mapped, page_key, mapped_of}
use Rattle.rss_base.specs.Listings.{Listing, ListingFits, image_at}
use Rattle.rss_base.specs.declared.key.PageKey.{PageKey}
use Rattle.rss_base.specs.declared.key.Space.TheVariants.{Image as ImageSpace}
use Rattle.rss_base.specs.declared.image.ImageEntry.{ImageEntry}
use Rattle.rss_base.specs.declared.relation.RelationEntry.{RelationEntry}
use Rattle.rss_levels.specs.Entries.{IsIn}
use Rattle.rss_node.specs.Nodes.{AreNodes}
use Rattle.rss_image.specs.Images.{nodes_of, ImageTree, pages_of}
use Rattle.rss_image.proofs.Halves.{many}
use Rattle.rss_image.proofs.Putting.{few_pages, spell_one}
use Rattle.rss_stored.specs.Store.{IsListedImage}
use Rattle.rss_stored.proofs.Listed.{at_place}
use Rattle.rss_model.proofs.Mixing.{In}
use Rattle.rss_stored.proofs.Relisted.{number_within_list}
use Rattle.rss_model.proofs.Saving.{more_bound}
use Rattle.rss_entries.specs.Rooms.{width_of, room_of, image_room, images_room}
use Rattle.rss_entries.specs.Images.{image_of}
use Rattle.rss_model.proofs.MappedKeys.{HasMapped, mapped_at_most, keys_from, among_keys, keys_few, keys_but}
use Rattle.rss_entries.proofs.Showing.{same_entry, at_same, at_its_place}

-- ---- an image has room for its pages

-- how many pairs it may have
abbrev pub pairs_room : ℕ → ImageEntry → RelationEntry → ℕ
pairs_room number image relation = if image.relation == number then relation.live + 1 else relation.live

pub room_fits : (held : Held) (number m : ℕ) (image : ImageEntry) (relation : RelationEntry) → AreNodes (nodes_of (image_of m image relation)) → (pairs : List (List ℕ)) (tree : ImageTree (image_of m image relation) held pairs) → length pairs ≤ pairs_room number image relation → length (pages_of tree) ≤ room_of number image (Some relation)
room_fits held number m image relation fit pairs tree few =
    let low = few_pages (image_of m image relation) held (many (width_of image relation) fit.narrow) pairs tree in
    let high = more_bound (width_of image relation) (length pairs) (pairs_room number image relation) few in
    omega (arith, low, high)

-- ---- what each image has

-- an image in pages, no more of them than it has room for
pub record IsHeldIn (held : Held) (number m : ℕ) (image : ImageEntry) (relation : RelationEntry) : Type 0 where
  pub pairs : List (List ℕ)
  pub tree : ImageTree (image_of m image relation) held pairs
  pub few : length (pages_of tree) ≤ room_of number image (Some relation)

-- a page is among those of the image of this number
pub record IsPageOf (held : Held) (listing : Listing) (key : PageKey) : Type 0 where
  pub number : ℕ
  pub image : ImageEntry
  pub relation : RelationEntry
  pub at : IsListedImage listing number image relation
  pub segment : key.segment ≡ relation.segment
  pub among : (pairs : List (List ℕ)) (tree : ImageTree (image_of number image relation) held pairs) → IsIn (pages_of tree) key.number

-- each image of a listing stands in pages, and each image page is one of theirs
pub record AreHeld (held : Held) (listing : Listing) (number : ℕ) : Type 0 where
  pub each : (m : ℕ) (image : ImageEntry) (relation : RelationEntry) → IsListedImage listing m image relation → IsHeldIn held number m image relation
  pub reached : (key : PageKey) → key.space ≡ ImageSpace → is_some (held key) ≡ true → IsPageOf held listing key

module _ {held : Held} {listing : Listing} {number : ℕ} (fits : ListingFits listing) (are : AreHeld held listing number) where
  -- the keys of the image of a number, none where there is no image
  record HasKeys (m : ℕ) : Type 0 where
    keys : List PageKey
    few : length keys ≤ image_room listing number (image_at listing m)
    least : (image : ImageEntry) (relation : RelationEntry) → IsListedImage listing m image relation → (pairs : List (List ℕ)) (tree : ImageTree (image_of m image relation) held pairs) → length keys ≤ length (pages_of tree)
    own : (key : PageKey) (page : IsPageOf held listing key) → key.space ≡ ImageSpace → page.number ≡ m → In key keys

  in_keys : (segment : ℕ) (pages : List ℕ) (key : PageKey) → key.segment ≡ segment → key.space ≡ ImageSpace → IsIn pages key.number → In key (list_map (λ (n : ℕ). page_key segment ImageSpace n) pages)
  in_keys segment [] key its space is = absurd is
  in_keys segment (n ∷ pages) key its space is = ⊎_elim
      (λ (here : n ≡ key.number). inl (λ i. record { segment = sym its i; space = sym space i; number = here i }))
      (λ (more : IsIn pages key.number). inr (in_keys segment pages key its space more)) is

  keys_at : (m : ℕ) (image : ImageEntry) (relation : RelationEntry) → IsListedImage listing m image relation → IsHeldIn held number m image relation → HasKeys m
  keys_at m image relation at its = record {
    keys = list_map (λ (n : ℕ). page_key relation.segment ImageSpace n) (pages_of its.tree);
    few =
        let long = length-map (pages_of its.tree) (λ (n : ℕ). page_key relation.segment ImageSpace n) in
        let room : image_room listing number (image_at listing m) ≡ room_of number image (Some relation) = ap (image_room listing number) at.at ∙ ap (room_of number image) at.within in
        omega (arith, long, room, its.few);
    least = λ other others there pairs tree.
        let long = length-map (pages_of its.tree) (λ (n : ℕ). page_key relation.segment ImageSpace n) in
        at_same (λ n e r. (ps : List (List ℕ)) (t : ImageTree (image_of n e r) held ps) → length (list_map (λ (n : ℕ). page_key relation.segment ImageSpace n) (pages_of its.tree)) ≤ length (pages_of t)) refl (same_entry at there refl)
        (λ ps t. omega (arith, long, ap (λ (ns : List ℕ). length ns) (spell_one (image_of m image relation) held its.pairs ps its.tree t).pages_are)) pairs tree;
    own = λ key page space here.
        let same = same_entry page.at at here in
        let among = at_same (λ n e r. (ps : List (List ℕ)) (t : ImageTree (image_of n e r) held ps) → IsIn (pages_of t) key.number) here same page.among its.pairs its.tree in
        in_keys relation.segment (pages_of its.tree) key (page.segment ∙ ap (λ (r : RelationEntry). r.segment) same.relation) space among;
  }

  has_keys : (m : ℕ) → HasKeys m
  has_keys m = by (image_at listing m) refl
    where
      by : (found : Option ImageEntry) → image_at listing m ≡ found → HasKeys m
      by None none = record {
        keys = [];
        few = omega arith;
        least = λ image relation at pairs tree. omega arith;
        own = λ key page space here. absurd (none-some page.image (sym none ∙ ap (image_at listing) (sym here) ∙ page.at.at));
      }
      by (Some image) at =
          let its = fits.paths.images m image at in
          let listed : IsListedImage listing m image its.relation = record { at = at; within = its.listed } in
          keys_at m image its.relation listed (are.each m image its.relation listed)

  keys_by : ℕ → List PageKey
  keys_by m = (has_keys m).keys

  few_by : (j : ℕ) → length (keys_by (1 + j)) ≤ image_room listing number (get_or listing.images j None)
  unfolding keys_by
  few_by j = subst (λ (o : Option ImageEntry). length (keys_by (1 + j)) ≤ image_room listing number o) (ap (image_at listing) (next j) ∙ at_place listing.images j) (has_keys (1 + j)).few
    where
      next : (j : ℕ) → 1 + j ≡ suc j
      next j = omega arith

  -- what keys the lists have
  module _ {mapped : Mapped} (holds : (key : PageKey) → is_some (held key) ≡ mapped key) where
    has_mapped : HasMapped ImageSpace mapped (keys_from keys_by 1 listing.images)
    unfolding keys_by
    has_mapped key space is =
        let page = are.reached key space (holds key ∙ is) in
        let within = number_within_list listing.images page.number page.image page.at.at in
        let back : page.number ≡ 1 + (page.number - 1) = omega (arith, within.0) in
        among_keys keys_by 1 listing.images (page.number - 1) key (omega (arith, within.0, within.1)) (subst (λ (m : ℕ). In key (keys_by m)) back ((has_keys page.number).own key page space refl))

    -- no more image pages are mapped than all images have room for
    pub mapped_few : (limit : ℕ) → mapped_of mapped ImageSpace limit ≤ images_room listing number
    mapped_few limit =
        let low = mapped_at_most ImageSpace limit (keys_from keys_by 1 listing.images) mapped has_mapped in
        let high = keys_few keys_by (image_room listing number) None 1 listing.images (λ j within. few_by j) in
        omega (arith, low, high)

    -- with the pages of one image in place of its room
    pub mapped_but : (limit m : ℕ) (image : ImageEntry) (relation : RelationEntry) → IsListedImage listing m image relation → (pairs : List (List ℕ)) (tree : ImageTree (image_of m image relation) held pairs)
        → mapped_of mapped ImageSpace limit + room_of number image (Some relation) ≤ images_room listing number + length (pages_of tree)
    unfolding keys_by
    mapped_but limit m image relation at pairs tree =
        let within = number_within_list listing.images m image at.at in
        let back : 1 + (m - 1) ≡ m = omega (arith, within.0) in
        let low = mapped_at_most ImageSpace limit (keys_from keys_by 1 listing.images) mapped has_mapped in
        let high = keys_but keys_by (image_room listing number) None 1 listing.images (m - 1) (omega (arith, within.0, within.1)) (λ j inside. few_by j) in
        let room : image_room listing number (get_or listing.images (m - 1) None) ≡ room_of number image (Some relation) = ap (image_room listing number) (at_its_place listing.images m image at.at) ∙ ap (room_of number image) at.within in
        let same : length (keys_by (1 + (m - 1))) ≡ length (keys_by m) = ap (λ (n : ℕ). length (keys_by n)) back in
        let its : length (keys_by m) ≤ length (pages_of tree) = (has_keys m).least image relation at pairs tree in
        omega (arith, low, high, room, same, its)
