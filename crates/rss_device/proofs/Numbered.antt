-- How many pages of images there are, and which numbers pages have.
use Rattle.std.proofs.Common.{◌≡◌, ◌≢◌, ℕ, ◌<◌, true, false, cond, List, [], ◌∷◌, length, Option, Some, None, refl, sym, ◌∙◌, ap, arith}
use Rattle.std.specs.Prelude.{Bool, ◌==◌, is_some, count_by}
use Rattle.std.proofs.lemmas.List.Sums.{sum_by-cons}
use Rattle.rss_base.specs.PageMap.{space_code, number_limit}
use Rattle.rss_base.specs.Paged.{page_key, mapped_of}
use Rattle.rss_base.specs.declared.key.Space.{Space}
use Rattle.rss_base.specs.declared.key.Space.TheVariants.{Home, Overflow, Image, System}
use Rattle.rss_base.specs.declared.key.PageKey.{PageKey}
use Rattle.rss_base.proofs.Counts.{images-owners}
use Rattle.rss_device.specs.MemPages.{stored_in, placed_in, has_image, images_in, ArePlaces}
use Rattle.rss_device.specs.MemPagesLaws.{owners_of, owner_at, mapped_from, allowed_in}
use Rattle.rss_device.specs.declared.stored.Stored.{Stored}

abbrev is_image : Option PageKey → Bool
is_image None = false
is_image (Some key) = space_code key.space == space_code Image

other_space : (space : Space) → space ≢ Image → (space_code space == space_code Image) ≡ false
other_space Home not = refl
other_space Overflow not = refl
other_space System not = refl
other_space Image not = absurd (not refl)

images_of_owners : (places : List (Option Stored)) → images_in places ≡ count_by is_image (owners_of places)
images_of_owners [] = refl
images_of_owners (None ∷ places) = omega (arith, images_of_owners places, sum_by-cons (λ (o : Option Stored). cond (has_image o) 1 0) None places, sum_by-cons (λ (o : Option PageKey). cond (is_image o) 1 0) None (owners_of places))
images_of_owners (Some stored ∷ places) = omega (arith, images_of_owners places, sum_by-cons (λ (o : Option Stored). cond (has_image o) 1 0) (Some stored) places, sum_by-cons (λ (o : Option PageKey). cond (is_image o) 1 0) (Some stored.key) (owners_of places))

pub images_counted : {places : List (Option Stored)} → ArePlaces places → images_in places ≡ mapped_of (placed_in places) Image (length places)
unfolding placed_in
images_counted {places} placed =
    let images = images-owners is_image refl (λ key is. ap (λ (space : Space). space_code space == space_code Image) is) (λ key not. other_space key.space not)
    (length places) (owners_of places) (λ key. is_some (stored_in places key))
    (λ s key is. placed.allowed s key (owner_at places s key is))
    (λ s t key here there. placed.distinct s t key (owner_at places s key here) (owner_at places t key there))
    (mapped_from 0 places) in
    images_of_owners places ∙ sym images

-- the number of a page that is mapped is below the number of places, but in the system space
pub number_below : {places : List (Option Stored)} (segment : ℕ) (space : Space) → ArePlaces places → space ≢ System → (k : ℕ) → placed_in places (page_key segment space k) ≡ true → k < length places
number_below {places} segment space placed apart k is = at space apart (allowed_in placed (page_key segment space k) is).number
  where
    at : (space : Space) → space ≢ System → k < number_limit (length places) space → k < length places
    at Home apart below = below
    at Overflow apart below = below
    at Image apart below = below
    at System apart below = absurd (apart refl)
