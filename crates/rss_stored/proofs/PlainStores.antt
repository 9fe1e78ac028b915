-- Listings without images or without links, and pages without those of images.
use Rattle.std.proofs.Common.{◌≡◌, ℕ, zero, suc, ◌-◌, true, List, replicate, refl, sym, ◌∙◌, ap, arith}
use Rattle.std.specs.Prelude.{Option, Some, None, is_some, option_and_then, slice_get, ◌==◌}
use Rattle.std.proofs.lemmas.Bool.{cond-false, ne_eqb}
use Rattle.std.proofs.lemmas.Option.{none-some}
use Rattle.rss_base.specs.Sizes.{images_most}
use Rattle.rss_base.specs.Paged.{Held}
use Rattle.rss_base.specs.Listings.{Listing, IsPlain, numbered, image_at}
use Rattle.rss_base.specs.declared.key.PageKey.{PageKey}
use Rattle.rss_base.specs.declared.key.Space.TheVariants.{Image as ImageSpace}
use Rattle.rss_base.specs.declared.image.ImageEntry.{ImageEntry}
use Rattle.rss_model.specs.Tables.{Tables}
use Rattle.rss_stored.specs.Store.{SpellsImages, AreNodesWithin}

-- ---- listings

none_numbered : {A : Type 0} (count number : ℕ) → numbered (replicate {A = Option A} count None) number ≡ None
none_numbered count zero = refl
none_numbered {A = A} count (suc k) = cond-false (suc k == 0) None _ (ne_eqb (suc k) 0 (λ e. absurd (omega (arith, e)))) ∙ none count (suc k - 1)
  where
    none : (count k : ℕ) → option_and_then (λ (item : Option A). item) (slice_get (replicate {A = Option A} count None) k) ≡ None
    none zero k = refl
    none (suc count) zero = refl
    none (suc count) (suc k) = none count k

pub no_image_at : {listing : Listing} → IsPlain listing → (number : ℕ) (image : ImageEntry) → image_at listing number ≡ Some image → ⊥
no_image_at plain number image is =
    none-some image (sym (none_numbered images_most number) ∙ sym (ap (λ (l : List (Option ImageEntry)). numbered l number) plain.no_images) ∙ is)

-- ---- pages

-- no page is one of an image
abbrev pub NoImages : Held → Type 0
NoImages held = (key : PageKey) → key.space ≡ ImageSpace → is_some (held key) ≡ true → ⊥

pub plain_images : {held : Held} {listing : Listing} {tables : Tables} → IsPlain listing → NoImages held → SpellsImages held listing tables
plain_images plain none = record {
  each = λ number image relation l. absurd (no_image_at plain number image l.at);
  reached = λ key is there. absurd (none key is there);
}

pub plain_nodes : {held : Held} {listing : Listing} (slots : ℕ) → IsPlain listing → AreNodesWithin slots held listing
plain_nodes slots plain number image relation l = absurd (no_image_at plain number image l.at)
