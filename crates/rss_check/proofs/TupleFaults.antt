-- The first fault of pages, where a line up to the counts is broken.
use Rattle.std.proofs.Common.{◌≡◌, inl, inr, ℕ, ◌<◌, ◌≤◌, true, refl, sym, ◌∙◌, ap, subst, arith}
use Rattle.std.specs.Prelude.{Option, None, is_some}
use Rattle.std.proofs.lemmas.Bool.{cases_lt, true≢false}
use Rattle.std.proofs.lemmas.Option.{none-some}
use Rattle.rss_base.specs.DiskRule.{Pages, IsTold}
use Rattle.rss_base.specs.Layout.{map_at, slots_at}
use Rattle.rss_base.specs.Listings.{Listing, HoldsListing, SuitsVersion, catalog_page}
use Rattle.rss_base.specs.PageMap.{IsMap}
use Rattle.rss_base.specs.Paged.{Held, page_key}
use Rattle.rss_base.specs.Sizes.{system_pages}
use Rattle.rss_base.specs.Steps.{PagesView}
use Rattle.rss_base.specs.StoredPages.{held_at}
use Rattle.rss_base.specs.declared.key.Space.TheVariants.{Overflow, System}
use Rattle.rss_base.specs.declared.place.Place.{Place}
use Rattle.rss_base.specs.declared.place.Place.TheVariants.{Catalog as CatalogPlace, Page as PagePlace, Tuple as TuplePlace, Count as CountPlace}
use Rattle.rss_base.specs.declared.root.Root.{Root}
use Rattle.rss_tuple.specs.Checked.{tuples_of}
use Rattle.rss_catalog.specs.Catalogs.{CatalogView}
use Rattle.rss_catalog.specs.Defined.{endless, completed, up_to, IsListable, AreDefinitions, AreDefined, HasFewTuples, IsFirstFlaw, unmapped as is_unmapped, undefined as is_undefined, LoadsDefined, NamesFirst}
use Rattle.rss_catalog.proofs.Fronts.{has_map}
use Rattle.rss_catalog.proofs.Same.{same_listable, all_defined}
use Rattle.rss_stored.specs.Store.{IsBrokenAt}
use Rattle.rss_stored.proofs.Stores.{one_root, one_map, sound_unbroken}
use Rattle.rss_stored.proofs.Versions.{suits_any}
use Rattle.rss_access.specs.Bodies.{is_body}
use Rattle.rss_check.specs.Checks.{count_of}
use Rattle.rss_check.specs.Layouts.{Laid, held_in}
use Rattle.rss_check.specs.Spellings.{AreSuited, Spelling, held_of}
use Rattle.rss_check.specs.Lines.{Line, SystemPages, Definitions, HeapPages, Entries, Led, Counts, line_number, ComesBefore, IsFirst, AreUnbroken}
use Rattle.rss_check.specs.Faults.{Breaks, layout, unmapped, undefined, heap_page, entry, unled, count, image, unused, link, no_record, marks, shared, no_way, no_room, IsFirstFault, ArePassed}
use Rattle.rss_check.specs.Tuples.{BreaksIn, page_in, entry_in, unled_in, count_in, BreaksTuples, BreaksOf}
use Rattle.rss_check.specs.Passed.{IsViewOf, PassesTuples}
use Rattle.rss_check.proofs.Orders.{before_one, first_as}
use Rattle.rss_check.proofs.Completing.{body_completed, tuples_alike}

-- ---- pages are read in one way

module _ {pages : Pages} (one other : Laid pages) where
  pub roots_once : one.root ≡ other.root
  roots_once = (one_root one.there.root_there other.there.root_there).1

  owners_once : one.owners ≡ other.owners
  owners_once = one_map one.there.root_there.there.formed one.there.map
      (subst (λ (r : Root). IsMap r.slots pages (map_at r.slots r.area) other.owners) (sym roots_once) other.there.map)

  pub held_once : held_in pages one ≡ held_in pages other
  held_once = λ i. held_at (slots_at (roots_once i).slots (roots_once i).log_pages) pages (owners_once i)

module _ {pages : Pages} (at other : Spelling pages) where
  same_listing : at.listing ≡ other.listing
  same_listing = same_listable (held_of pages at) at.listing other.listing at.is.spells
      (subst (λ (h : Held). HoldsListing h other.listing) (sym (held_once at.laid other.laid)) other.is.spells) at.is.listable other.is.listable

  -- what holds of one reading holds of the other
  pub moved : (P : Held → ℕ → Listing → Type 0) → P (held_of pages other) other.laid.root.slots other.listing → P (held_of pages at) at.laid.root.slots at.listing
  moved P is = subst (P (held_of pages at) at.laid.root.slots) (sym same_listing)
      (subst (λ (r : Root). P (held_of pages at) r.slots other.listing) (sym (roots_once at.laid other.laid))
      (subst (λ (h : Held). P h other.laid.root.slots other.listing) (sym (held_once at.laid other.laid)) is))

-- ---- the lines of tuples

breaks_to : {pages : Pages} (at : Spelling pages) {segment : ℕ} {line : Line} {place : Place} → BreaksIn (held_of pages at) at.laid.root.slots at.listing segment line place → Breaks pages line place
breaks_to at (page_in key bytes of there not) = heap_page at key bytes of.1 there not
breaks_to at {segment} (entry_in tid not) = entry at segment tid not
breaks_to at {segment} (unled_in page slot some not) = unled at segment page slot some not
breaks_to {pages} at (count_in number relation listed within wrong) =
    count at number relation listed (λ same. wrong (ap (λ (s : ℕ). count_of number (tuples_of (held_of pages at) s at.laid.root.slots)) (sym within) ∙ same))

-- where tuples are broken, a line is
pub tuples_break : {pages : Pages} (at : Spelling pages) {line : Line} {place : Place} → BreaksTuples (held_of pages at) at.laid.root.slots at.listing line place → Breaks pages line place
tuples_break at is = breaks_to at is.breaks

-- and where one of these lines is broken, tuples are
pub breaks_tuples : {pages : Pages} (at : Spelling pages) {line : Line} {place : Place} → 3 ≤ line_number line → line_number line ≤ 6 → Breaks pages line place → BreaksTuples (held_of pages at) at.laid.root.slots at.listing line place
breaks_tuples at low high (layout broken) = absurd (omega (arith, low))
breaks_tuples at low high (unmapped laid page less none) = absurd (omega (arith, low))
breaks_tuples at low high (undefined laid page less not) = absurd (omega (arith, low))
breaks_tuples at low high (heap_page other key bytes heap there not) =
    record { segment = key.segment; breaks = moved at other (λ h n l. BreaksIn h n l key.segment HeapPages (PagePlace key)) (page_in key bytes (refl, heap) there not) }
breaks_tuples at low high (entry other segment tid not) =
    record { segment = segment; breaks = moved at other (λ h n l. BreaksIn h n l segment Entries (TuplePlace segment tid)) (entry_in tid not) }
breaks_tuples at low high (unled other segment page slot some not) =
    record { segment = segment; breaks = moved at other (λ h n l. BreaksIn h n l segment Led (PagePlace (page_key segment Overflow page))) (unled_in page slot some not) }
breaks_tuples at low high (count other number relation listed wrong) =
    record { segment = relation.segment; breaks = moved at other (λ h n l. BreaksIn h n l relation.segment Counts (CountPlace number)) (count_in number relation listed refl wrong) }
breaks_tuples at low high (image other number of relation listed not) = absurd (omega (arith, high))
breaks_tuples at low high (unused other key space there not) = absurd (omega (arith, high))
breaks_tuples at low high (link other number of listed not) = absurd (omega (arith, high))
breaks_tuples at low high (no_record laid position front rest early placed is none) = absurd (omega (arith, high))
breaks_tuples at low high (marks other not) = absurd (omega (arith, high))
breaks_tuples at low high (shared other older newer front behind change its split crowded) = absurd (omega (arith, high))
breaks_tuples at low high (no_way other not) = absurd (omega (arith, high))
breaks_tuples at low high (no_room other stored over log less) = absurd (omega (arith, high))

line_of : {held : Held} {slots : ℕ} {listing : Listing} {segment : ℕ} {line : Line} {place : Place} → BreaksIn held slots listing segment line place → (3 ≤ line_number line) × (line_number line ≤ 6)
line_of (page_in key bytes of there not) = (omega arith, omega arith)
line_of (entry_in tid not) = (omega arith, omega arith)
line_of (unled_in page slot some not) = (omega arith, omega arith)
line_of (count_in number relation listed within wrong) = (omega arith, omega arith)

module _ {pages : Pages} (at : Spelling pages) (passed : ArePassed pages Definitions) where
  -- what is first of tuples is first of all
  pub tuples_first : {place : Place} → IsFirst (BreaksTuples (held_of pages at) at.laid.root.slots at.listing) place → IsFirstFault pages place
  tuples_first first =
      let within = line_of first.breaks.breaks in
      record {
        line = first.line;
        breaks = tuples_break at first.breaks;
        earlier = λ other elsewhere low breaks. elim (cases_lt (line_number other) 3) [
          | inl early ↦ passed other elsewhere (omega (arith, early)) breaks
          | inr late ↦ first.earlier other elsewhere low (breaks_tuples at late (omega (arith, low, within.1)) breaks)
        ];
        least = λ other breaks before. first.least other (breaks_tuples at within.0 within.1 breaks) before;
      }

  pub tuples_passed : AreUnbroken (BreaksTuples (held_of pages at) at.laid.root.slots at.listing) → ArePassed pages Counts
  tuples_passed none line place low breaks = elim (cases_lt (line_number line) 3) [
    | inl early ↦ passed line place (omega (arith, early)) breaks
    | inr late ↦ none line place (breaks_tuples at late low breaks)
  ]

-- ---- definitions

-- definitions are such as a store of any version may have
suits_listable : (version : ℕ) (listing : Listing) → IsListable listing → SuitsVersion version listing
suits_listable version listing is =
    let suits = suits_any version is.fit in
    record {
      fields = λ low number relation at. suits.fields low number relation at;
      links = λ low number of at. suits.links low number (endless of) (has_map endless listing.links number of at);
    }

suited : (held : Held) (version page : ℕ) → AreDefined held page → AreSuited held version page
suited held version page is = record { defined = is; suit = suits_listable version (up_to page is.listing) is.are.listable }

-- what breaks a line up to the definitions
early_by : {pages : Pages} {line : Line} {place : Place} → line_number line ≤ 2 → Breaks pages line place
    → (line_number line ≡ 0 → IsBrokenAt place pages → ⊥)
    → ((laid : Laid pages) (page : ℕ) → line_number line ≡ 1 → page < system_pages → held_in pages laid (page_key 0 System page) ≡ None → ⊥)
    → ((laid : Laid pages) (page : ℕ) → line_number line ≡ 2 → page < system_pages → (AreSuited (held_in pages laid) laid.root.version page → ⊥) → ⊥)
    → ⊥
early_by high (layout broken) first second third = first refl broken
early_by high (unmapped laid page less none) first second third = second laid page refl less none
early_by high (undefined laid page less not) first second third = third laid page refl less not
early_by high (heap_page at key bytes heap there not) first second third = omega (arith, high)
early_by high (entry at segment tid not) first second third = omega (arith, high)
early_by high (unled at segment page slot some not) first second third = omega (arith, high)
early_by high (count at number relation listed wrong) first second third = omega (arith, high)
early_by high (image at number of relation listed not) first second third = omega (arith, high)
early_by high (unused at key space there not) first second third = omega (arith, high)
early_by high (link at number of listed not) first second third = omega (arith, high)
early_by high (no_record laid position front rest early placed is none) first second third = omega (arith, high)
early_by high (marks at not) first second third = omega (arith, high)
early_by high (shared at older newer front behind change its split crowded) first second third = omega (arith, high)
early_by high (no_way at not) first second third = omega (arith, high)
early_by high (no_room at stored over log less) first second third = omega (arith, high)

module _ {pages : Pages} (laid : Laid pages) where
  abbrev held : Held
  held = held_in pages laid

  layout_sound : {place : Place} → IsBrokenAt place pages → ⊥
  layout_sound {place} broken = sound_unbroken laid.there.root_there laid.there.map place broken

  -- a page of the system space, as another reading has it
  page_none : (other : Laid pages) (page : ℕ) → held_in pages other (page_key 0 System page) ≡ None → held (page_key 0 System page) ≡ None
  page_none other page none = ap (λ (h : Held). h (page_key 0 System page)) (held_once laid other) ∙ none

  page_suited : (other : Laid pages) (page : ℕ) → AreDefined held page → AreSuited (held_in pages other) other.root.version page
  page_suited other page is = suited (held_in pages other) other.root.version page (subst (λ (h : Held). AreDefined h page) (held_once laid other) is)

  -- definitions that a store may have
  pub definitions_passed : (listing : Listing) → HoldsListing held listing → AreDefinitions listing → ArePassed pages Definitions
  definitions_passed listing spells are line place low breaks = early_by low breaks
      (λ first broken. layout_sound broken)
      (λ other page second less none. none-some (catalog_page listing page) (sym (page_none other page none) ∙ spells page less))
      (λ other page third less not. not (page_suited other page (all_defined held listing spells are page less)))

  unmapped_least : (page : ℕ) → ((p : ℕ) → p < page → is_some (held (page_key 0 System p)) ≡ true) → {place : Place} → Breaks pages SystemPages place → ComesBefore place (CatalogPlace page) → ⊥
  unmapped_least page there (unmapped other p less none) before = true≢false (sym (there p (before_one p page before)) ∙ ap is_some (page_none other p none))

  undefined_least : (page : ℕ) → ((p : ℕ) → p < page → AreDefined held p) → {place : Place} → Breaks pages Definitions place → ComesBefore place (CatalogPlace page) → ⊥
  undefined_least page defined (undefined other p less not) before = not (page_suited other p (defined p (before_one p page before)))

  flaw_fault : (page : ℕ) → IsFirstFlaw held page → IsFirstFault pages (CatalogPlace page)
  flaw_fault page (is_unmapped low none there) = record {
    line = SystemPages;
    breaks = unmapped laid page low none;
    earlier = λ other elsewhere less breaks. early_by (omega (arith, less)) breaks
        (λ first broken. layout_sound broken)
        (λ of p second within gone. omega (arith, less, second))
        (λ of p third within not. omega (arith, less, third));
    least = λ other breaks before. unmapped_least page there breaks before;
  }
  flaw_fault page (is_undefined low not there defined) = record {
    line = Definitions;
    breaks = undefined laid page low (λ is. not is.defined);
    earlier = λ other elsewhere less breaks. early_by (omega (arith, less)) breaks
        (λ first broken. layout_sound broken)
        (λ of p second within gone. true≢false (sym (there p within) ∙ ap is_some (page_none of p gone)))
        (λ of p third within other_not. omega (arith, less, third));
    least = λ other breaks before. undefined_least page defined breaks before;
  }

  -- the first page of the system space that isn't right
  pub named_fault : {place : Place} → NamesFirst held place → IsFirstFault pages place
  named_fault names = subst (IsFirstFault pages) (sym names.is) (flaw_fault names.page names.first)

-- ---- as a view has them

module _ {pages : Pages} {view : PagesView} (of : IsViewOf pages view) where
  -- the catalog isn't read
  pub load_fault : {place : Place} → NamesFirst view.held place → IsFirstFault pages place
  load_fault {place} names = named_fault of.laid (subst (λ (h : Held). NamesFirst h place) of.held names)

  module _ {catalog : CatalogView} {first_image first_link : Option ℕ} (loads : LoadsDefined view catalog first_image first_link) (told : IsTold view.disk) where
    abbrev spelled : Spelling pages
    spelled = record {
      laid = of.laid;
      listing = loads.listing;
      is = record { spells = subst (λ (h : Held). HoldsListing h loads.listing) of.held (loads.spells told); listable = loads.are.listable };
    }

    definitions_found : ArePassed pages Definitions
    definitions_found = definitions_passed of.laid loads.listing spelled.is.spells loads.are

    listed_as : catalog.listing ≡ completed loads.listing
    listed_as = ap (λ (v : CatalogView). v.listing) loads.of.is

    -- the catalog's tuples are those of the listing
    tuples_listed : {line : Line} {place : Place} → BreaksOf view catalog.listing line place → BreaksTuples (held_in pages of.laid) of.laid.root.slots loads.listing line place
    tuples_listed {line} {place} is = subst (λ (n : ℕ). BreaksTuples (held_in pages of.laid) n loads.listing line place) of.slots
        (subst (λ (h : Held). BreaksTuples h view.slots loads.listing line place) of.held
        (tuples_alike (ap (λ (l : Listing). l.segments) listed_as) (ap (λ (l : Listing). l.relations) listed_as) (λ segment. ap (λ (l : Listing). is_body l segment) listed_as ∙ body_completed loads.listing segment) is))

    listed_tuples : {line : Line} {place : Place} → BreaksTuples (held_in pages of.laid) of.laid.root.slots loads.listing line place → BreaksOf view catalog.listing line place
    listed_tuples {line} {place} is =
        tuples_alike (ap (λ (l : Listing). l.segments) (sym listed_as)) (ap (λ (l : Listing). l.relations) (sym listed_as)) (λ segment. sym (body_completed loads.listing segment) ∙ ap (λ (l : Listing). is_body l segment) (sym listed_as))
        (subst (λ (h : Held). BreaksTuples h view.slots loads.listing line place) (sym of.held)
        (subst (λ (n : ℕ). BreaksTuples (held_in pages of.laid) n loads.listing line place) (sym of.slots) is))

    -- tuples aren't right
    pub tuple_fault : {place : Place} → IsFirst (BreaksOf view catalog.listing) place → IsFirstFault pages place
    tuple_fault first = tuples_first spelled definitions_found (first_as (λ line at is. tuples_listed is) (λ line at is. listed_tuples is) first)

    -- they are
    pub tuples_pass : AreUnbroken (BreaksOf view catalog.listing) → PassesTuples pages catalog first_image first_link
    tuples_pass none = record {
      passed = tuples_passed spelled definitions_found (λ line place is. none line place (listed_tuples is));
      at = spelled;
      of = loads.of;
    }

-- no relation of the catalog has too many tuples
pub few_loaded : {view : PagesView} {catalog : CatalogView} {first_image first_link : Option ℕ} → LoadsDefined view catalog first_image first_link → HasFewTuples catalog.listing
few_loaded loads = subst HasFewTuples (sym (ap (λ (v : CatalogView). v.listing) loads.of.is)) loads.are.few
