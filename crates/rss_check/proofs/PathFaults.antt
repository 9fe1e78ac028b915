-- The first fault of pages, where a line of images or links is broken.
use Rattle.std.proofs.Common.{inl, inr, ℕ, ◌≤◌, ◌∙◌, subst, arith}
use Rattle.std.specs.Prelude.{Option}
use Rattle.std.proofs.lemmas.Bool.{cases_lt}
use Rattle.rss_base.specs.DiskRule.{Pages}
use Rattle.rss_base.specs.Listings.{Listing}
use Rattle.rss_base.specs.Paged.{Held}
use Rattle.rss_base.specs.Steps.{PagesView}
use Rattle.rss_base.specs.declared.place.Place.{Place}
use Rattle.rss_base.specs.declared.place.Place.TheVariants.{Page as PagePlace, Image as ImagePlace, Link as LinkPlace}
use Rattle.rss_base.specs.declared.root.Root.{Root}
use Rattle.rss_catalog.specs.Catalogs.{CatalogView}
use Rattle.rss_check.specs.Lines.{Line, Counts, Images, Reached, Links, line_number, IsFirst}
use Rattle.rss_check.specs.Spellings.{Spelling, held_of}
use Rattle.rss_check.specs.Faults.{Breaks, layout, unmapped, undefined, heap_page, entry, unled, count, image, unused, link, no_record, marks, shared, no_way, no_room, IsFirstFault, ArePassed}
use Rattle.rss_check.specs.Tuples.{BreaksPaths, image_in, unused_in, link_in, PathsOf}
use Rattle.rss_check.specs.Passed.{IsViewOf, PassesTuples}
use Rattle.rss_check.proofs.TupleFaults.{held_once, roots_once, moved}

-- ---- what is broken, by the pages and the listing alone

-- where images or links are broken, a line is
paths_break : {pages : Pages} (at : Spelling pages) {line : Line} {place : Place}
    → BreaksPaths (held_of pages at) at.laid.root.slots at.listing line place → Breaks pages line place
paths_break at (image_in number of relation listed not) = image at number of relation listed not
paths_break at (unused_in key space there not) = unused at key space there not
paths_break at (link_in number of listed not) = link at number of listed not

-- and where one of these lines is broken, images or links are
breaks_paths : {pages : Pages} (at : Spelling pages) {line : Line} {place : Place} → 7 ≤ line_number line
    → line_number line ≤ 9
    → Breaks pages line place → BreaksPaths (held_of pages at) at.laid.root.slots at.listing line place
breaks_paths at low high (layout broken) = absurd (omega (arith, low))
breaks_paths at low high (unmapped laid page less none) = absurd (omega (arith, low))
breaks_paths at low high (undefined laid page less not) = absurd (omega (arith, low))
breaks_paths at low high (heap_page other key bytes heap there not) = absurd (omega (arith, low))
breaks_paths at low high (entry other segment tid not) = absurd (omega (arith, low))
breaks_paths at low high (unled other segment page slot some not) = absurd (omega (arith, low))
breaks_paths at low high (count other number relation listed wrong) = absurd (omega (arith, low))
breaks_paths at low high (image other number of relation listed not) =
    moved at other (λ h n l. BreaksPaths h n l Images (ImagePlace number)) (image_in number of relation listed not)
breaks_paths at low high (unused other key space there not) =
    moved at other (λ h n l. BreaksPaths h n l Reached (PagePlace key)) (unused_in key space there not)
breaks_paths at low high (link other number of listed not) =
    moved at other (λ h n l. BreaksPaths h n l Links (LinkPlace number)) (link_in number of listed not)
breaks_paths at low high (no_record laid position front rest early placed is none) = absurd (omega (arith, high))
breaks_paths at low high (marks other not) = absurd (omega (arith, high))
breaks_paths at low high (shared other older newer front behind change its split crowded) = absurd (omega (arith, high))
breaks_paths at low high (no_way other not) = absurd (omega (arith, high))
breaks_paths at low high (no_room other stored over log less) = absurd (omega (arith, high))

-- these lines come behind those of tuples
pub line_of : {held : Held} {slots : ℕ} {listing : Listing} {line : Line} {place : Place}
    → BreaksPaths held slots listing line place
    → (7 ≤ line_number line) × (line_number line ≤ 9)
line_of (image_in number of relation listed not) = (omega arith, omega arith)
line_of (unused_in key space there not) = (omega arith, omega arith)
line_of (link_in number of listed not) = (omega arith, omega arith)

module _ {pages : Pages} (at : Spelling pages) (passed : ArePassed pages Counts) where
  -- what is first of images and links is first of all
  paths_first : {place : Place} → IsFirst (BreaksPaths (held_of pages at) at.laid.root.slots at.listing) place
      → IsFirstFault pages place
  paths_first first =
      let within = line_of first.breaks in
      record {
        line = first.line;
        breaks = paths_break at first.breaks;
        earlier = λ other elsewhere low breaks. elim (cases_lt (line_number other) 7) [
          | inl early ↦ passed other elsewhere (omega (arith, early)) breaks
          | inr late ↦ first.earlier other elsewhere low (breaks_paths at late (omega (arith, low, within.1)) breaks)
        ];
        least = λ other breaks before. first.least other (breaks_paths at within.0 within.1 breaks) before;
      }

  paths_passed : ((line : Line) (place : Place)
      → BreaksPaths (held_of pages at) at.laid.root.slots at.listing line place → ⊥) → ArePassed pages Links
  paths_passed none line place low breaks = elim (cases_lt (line_number line) 7) [
    | inl early ↦ passed line place (omega (arith, early)) breaks
    | inr late ↦ none line place (breaks_paths at late low breaks)
  ]

-- ---- as a view has them

module _ {pages : Pages} {view : PagesView} (of : IsViewOf pages view) {catalog : CatalogView}
    {first_image first_link : Option ℕ} (passes : PassesTuples pages catalog first_image first_link) where
  -- what holds of the view's pages holds of those that are read, and the other way round
  read : (P : Held → ℕ → Type 0) → P view.held view.slots → P (held_of pages passes.at) passes.at.laid.root.slots
  read P is = subst (λ (r : Root). P (held_of pages passes.at) r.slots) (roots_once of.laid passes.at.laid)
      (subst (λ (h : Held). P h of.laid.root.slots) (of.held ∙ held_once of.laid passes.at.laid)
      (subst (P view.held) of.slots is))

  pub path_fault : {place : Place} → IsFirst (PathsOf view passes.at.listing) place → IsFirstFault pages place
  path_fault {place} first = paths_first passes.at passes.passed
      (read (λ h n. IsFirst (BreaksPaths h n passes.at.listing) place) first)

  pub paths_pass : ((line : Line) (place : Place) → PathsOf view passes.at.listing line place → ⊥)
      → ArePassed pages Links
  paths_pass none = paths_passed passes.at passes.passed
      (read (λ h n. (line : Line) (place : Place) → BreaksPaths h n passes.at.listing line place → ⊥) none)
