-- How a look at all images of a store goes on, and what it finds.
use Rattle.std.proofs.Common.{◌≡◌, inl, inr, ℕ, zero, suc, ◌+◌, ◌<◌, ◌≤◌, true, false, List, sym, ◌∙◌, ap, subst, arith}
use Rattle.std.specs.Prelude.{Result, Ok, Err, Option, Some, None, is_some}
use Rattle.std.specs.Global.{Vec}
use Rattle.std.proofs.lemmas.Bool.{cases_eq, cases_lt, true≢false}
use Rattle.std.proofs.lemmas.Option.{none-some}
use Rattle.rss_base.specs.DiskRule.{IsTold}
use Rattle.rss_base.specs.PageMap.{IsKey}
use Rattle.rss_base.specs.Paged.{Held, Mapped}
use Rattle.rss_base.specs.Steps.{PagesView, no_page}
use Rattle.rss_base.specs.Looking.{ChecksPages}
use Rattle.rss_base.specs.Listings.{Listing, ListingFits, numbered, names_of, image_at}
use Rattle.rss_base.specs.declared.image.ImageEntry.{ImageEntry}
use Rattle.rss_base.specs.declared.relation.RelationEntry.{RelationEntry}
use Rattle.rss_base.specs.declared.refusal.Kind.TheVariants.{Image as ImageKind}
use Rattle.rss_base.specs.declared.place.Place.{Place}
use Rattle.rss_base.specs.declared.place.Place.TheVariants.{Page as PagePlace, Image as ImagePlace}
use Rattle.rss_base.specs.declared.fault.PageFault.{PageFault}
use Rattle.rss_base.specs.declared.fault.PageFault.TheVariants.{Device as DeviceFailed}
use Rattle.rss_base.specs.declared.key.PageKey.{PageKey}
use Rattle.rss_base.specs.declared.key.Space.TheVariants.{Image as ImageSpace}
use Rattle.rss_base.proofs.Steps.{all_mapped, all_held, none_changed_more}
use Rattle.rss_base.proofs.Looking.{checks_none, checks_then, checks_as}
use Rattle.rss_tuple.specs.Heaps.{AreHeaps}
use Rattle.rss_catalog.specs.Catalogs.{CatalogView}
use Rattle.rss_catalog.proofs.Numbered.{unused_none}
use Rattle.rss_model.proofs.LogLists.{some_of}
use Rattle.rss_stored.specs.Store.{IsListedImage}
use Rattle.rss_access.specs.Changes.{both}
use Rattle.rss_access.specs.Checking.{LooksAt}
use Rattle.rss_access.specs.Rows.{HasRows, HasRowsIn}
use Rattle.rss_access.proofs.ImageRooms.{image_used}
use Rattle.rss_check.specs.Checks.{AreListed}
use Rattle.rss_check.specs.Lines.{IsFirst}
use Rattle.rss_check.specs.Marks.{row_of, AreRows, AreBlank, KeepsRows, MarksRows, AreMarked, AreOwnMarks, IsUnmarked, IsFirstUnmarked}
use Rattle.rss_check.specs.Passed.{OfWrongImage}
use Rattle.rss_check.specs.Rows.{HasImages}
use Rattle.rss_check.specs.Tuples.{PathsOf}
use Rattle.rss_check.proofs.Found.{segment_within}
use Rattle.rss_check.proofs.Marks.{rows_more, own_none, own_more, marked_none, marked_past, marked_more, pages_low}
use Rattle.rss_check.proofs.NamedImages.{IsBadImage, image_named, page_named, no_wrong_image, images_had, images_listed}
use Rattle.rss_check.proofs.SameHeld.{held_back}

-- ---- one image after another

pub checked_pages : {T : Type 0} {old new : PagesView} {result : Result T PageFault} (did : LooksAt old new result)
    → ChecksPages no_page did.most old new result
checked_pages did = record {
  looks = record {
    step = did.step;
    mapped = all_mapped did.step;
    held = λ told. all_held did.step told;
    changed = none_changed_more did.step;
    unwritten = did.step.unwritten (λ key none. none);
  };
  failed = did.failed;
}

-- The images with numbers up to this one were looked at: none of them is named, each has its rows, and these are the marks.
pub record ImagesLooked (catalog : CatalogView) (wrong : Option ℕ) (most : ℕ) (rows : List (Vec ℕ))
    (old now : PagesView) : Type 0 where
  pub asks : ℕ
  pub did : ChecksPages {T = Unit {0}} no_page asks old now (Ok tt)
  pub heaps : IsTold old.disk → AreHeaps now
  pub passed : (k : ℕ) → 1 ≤ k → k ≤ most → wrong ≡ Some k → ⊥
  pub wide : AreRows old.slots rows
  pub own : AreOwnMarks catalog.listing rows
  pub marked : IsTold old.disk → AreMarked most old.held old.slots catalog.listing rows

pub images_none : (catalog : CatalogView) (wrong : Option ℕ) (view : PagesView) (rows : List (Vec ℕ))
    → (IsTold view.disk → AreHeaps view)
    → AreRows view.slots rows → AreBlank rows → ImagesLooked catalog wrong 0 rows view view
images_none catalog wrong view rows heaps wide blank = record {
  asks = 0;
  did = checks_none {T = Unit {0}} view (Ok tt) (λ is. cc);
  heaps = heaps;
  passed = λ k low high is. omega (arith, low, high);
  wide = wide;
  own = own_none rows catalog.listing blank;
  marked = λ told. marked_none blank;
}

module _ {catalog : CatalogView} {wrong : Option ℕ} {most : ℕ} {rows : List (Vec ℕ)} {old mid : PagesView}
    (so : ImagesLooked catalog wrong most rows old mid) where
  told_mid : IsTold old.disk → IsTold mid.disk
  told_mid told = so.did.looks.step.passes.leaves.told.0 told

  passed_more : (wrong ≡ Some (most + 1) → ⊥) → (k : ℕ) → 1 ≤ k → k ≤ most + 1 → wrong ≡ Some k → ⊥
  passed_more other k low high is = elim (cases_eq k (most + 1)) [
    | inl here ↦ other (is ∙ ap Some here)
    | inr off ↦ so.passed k low (omega (arith, high, off)) is
  ]

  -- what holds of the pages held of them from before on
  held_before : IsTold old.disk → (P : Held → ℕ → Type 0) → P mid.held mid.slots → P old.held old.slots
  held_before = held_back so.did

  -- a number that isn't in use
  pub images_past : (wrong ≡ Some (most + 1) → ⊥)
      → is_some (numbered (names_of ImageKind catalog.listing) (most + 1)) ≡ false
      → ImagesLooked catalog wrong (most + 1) rows old mid
  images_past other free = record {
    asks = so.asks;
    did = so.did;
    heaps = so.heaps;
    passed = passed_more other;
    wide = so.wide;
    own = so.own;
    marked = λ told. marked_past (unused_none _ (sym (image_used catalog.listing (most + 1)) ∙ free)) (so.marked told);
  }

  module _ {T : Type 0} {new : PagesView} {result : Result T PageFault} (did : LooksAt mid new result) where
    -- both looks together
    pub did_images : {U : Type 0} (other : Result U PageFault)
        → (other ≡ Err DeviceFailed → result ≡ Err DeviceFailed) → (asks : ℕ) × ChecksPages no_page asks old new other
    did_images other is = (so.asks + did.most, checks_as other is (checks_then so.did (checked_pages did)))

    module _ (fits : ListingFits catalog.listing)
        (holds : IsTold old.disk → (key : PageKey) → is_some (old.held key) ≡ old.mapped key)
        (allowed : (key : PageKey) → old.mapped key ≡ true → IsKey old.slots key)
        (other : wrong ≡ Some (most + 1) → ⊥) (heaps : IsTold mid.disk → AreHeaps new) {count : ℕ}
        {now : List (Vec ℕ)} where
      -- an image that has its rows
      images_add : {image : ImageEntry} {relation : RelationEntry}
          → IsListedImage catalog.listing (most + 1) image relation → KeepsRows relation.segment rows now
          → (IsTold mid.disk → HasRowsIn count (row_of rows relation.segment) (row_of now relation.segment)
          (both mid catalog) (most + 1) image relation)
          → ImagesLooked catalog wrong (most + 1) now old new
      images_add {image} {relation} listed keeps marks =
          let both_did = did_images {U = Unit {0}} (Ok tt) (λ is. cc) in
          record {
            asks = both_did.0;
            did = both_did.1;
            heaps = λ told. heaps (told_mid told);
            passed = passed_more other;
            wide = rows_more so.wide keeps;
            own = own_more catalog.listing (fits.relations image.relation relation listed.within).segment so.own keeps;
            marked = λ told.
                let has = marks (told_mid told) in
                let its : HasRows old.held old.slots catalog.listing
                (most + 1) image relation has.nodes = held_before told
                (λ h n. HasRows h n catalog.listing (most + 1) image relation has.nodes) has.rows in
                let segment = segment_within fits image.relation relation listed.within in
                marked_more (so.marked told) listed its has.marked keeps (λ page among.
                let low = pages_low (λ key is. allowed key (sym (holds told key) ∙ is)) its page among in
                let wide = so.wide.wide relation.segment segment.0 segment.1 in
                omega (arith, low, wide));
          }

      pub images_more : is_some (image_at catalog.listing (most + 1)) ≡ true
          → ((image : ImageEntry) (relation : RelationEntry) → IsListedImage catalog.listing (most + 1) image relation
          → KeepsRows relation.segment rows now)
          → (IsTold mid.disk → MarksRows (both mid catalog) (most + 1) count rows now)
          → ImagesLooked catalog wrong (most + 1) now old new
      images_more there kept marks =
          let some = some_of (image_at catalog.listing (most + 1)) there in
          let fit = fits.paths.images (most + 1) some.0 some.1 in
          let listed : IsListedImage catalog.listing
          (most + 1) some.0 fit.relation = record { at = some.1; within = fit.listed } in
          images_add listed (kept some.0 fit.relation listed) (λ told. marks told some.0 fit.relation listed)

  -- an image isn't right
  pub image_wrong : {place : Place} → (IsTold mid.disk → place ≡ ImagePlace (most + 1))
      → (IsTold mid.disk → IsBadImage mid.held mid.slots catalog.listing wrong (most + 1))
      → IsTold old.disk → OfWrongImage catalog wrong (λ listing. IsFirst (PathsOf old listing) place)
  image_wrong named bad told listing link of =
      subst (IsFirst (PathsOf old listing)) (sym (named (told_mid told)))
      (image_named of (so.marked told) so.passed
      (held_before told (λ h n. IsBadImage h n catalog.listing wrong (most + 1)) (bad (told_mid told))))

  -- ---- they were all looked at

  module _ (last : (number : ℕ) → most < number → image_at catalog.listing number ≡ None) where
    within_all : (number : ℕ) (image : ImageEntry) → image_at catalog.listing number ≡ Some image → number ≤ most
    within_all number image is = elim (cases_lt most number) [
      | inl past ↦ absurd (none-some image (sym (last number past) ∙ is))
      | inr within ↦ within
    ]

    pub marked_all : IsTold old.disk → (m : ℕ) → AreMarked m old.held old.slots catalog.listing rows
    marked_all told m =
        let all = so.marked told in
        record {
          each = λ number image relation low listed. all.each number image relation
              (within_all number image listed.at) listed;
          all = λ number image relation nodes page low listed has among. all.all number image relation nodes page
              (within_all number image listed.at) listed has among;
          used = all.used;
        }

    -- so none that is listed is named
    pub none_named : (number : ℕ) → is_some (image_at catalog.listing number) ≡ true → wrong ≡ Some number → ⊥
    none_named zero there named = true≢false (sym there)
    none_named (suc k) there named =
        let some = some_of (image_at catalog.listing (suc k)) there in
        so.passed (suc k) (omega arith) (within_all (suc k) some.0 some.1) named

-- ---- pages that are that of no image

module _ {asks : ℕ} {old mid : PagesView} {T : Type 0} {result : Result T PageFault} {rows seen : List (Vec ℕ)}
    (did : ChecksPages no_page asks old mid result) (same : seen ≡ rows) where
  -- what is said of the pages that were seen is so from before on
  seen_before : (P : Mapped → List (Vec ℕ) → Type 0) → P mid.mapped seen → P old.mapped rows
  seen_before P is = subst (λ (m : Mapped). P m rows) did.looks.mapped (subst (P mid.mapped) same is)

  none_before : ((key : PageKey) → IsUnmarked mid.mapped seen key → ⊥) → (key : PageKey)
      → IsUnmarked old.mapped rows key → ⊥
  none_before none = seen_before (λ m r. (key : PageKey) → IsUnmarked m r key → ⊥) none

  -- there is none
  pub has_listed : (listing : Listing) → ((key : PageKey) → IsUnmarked mid.mapped seen key → ⊥)
      → AreOwnMarks listing rows → AreListed (λ key. key.space ≡ ImageSpace) listing old.mapped
  has_listed listing none own = images_listed (none_before none) listing own

  module _ (catalog : CatalogView)
      (holds : IsTold old.disk → (key : PageKey) → is_some (old.held key) ≡ old.mapped key)
      (marked : IsTold old.disk → (m : ℕ) → AreMarked m old.held old.slots catalog.listing rows) where
    pub has_images : ((key : PageKey) → IsUnmarked mid.mapped seen key → ⊥) → IsTold old.disk
        → HasImages old.held old.slots catalog.listing
    has_images none told = images_had (none_before none) (holds told) (marked told)

    -- there is one
    pub page_wrong : (wrong : Option ℕ) {key : PageKey} {place : Place}
        → ((number : ℕ) → is_some (image_at catalog.listing number) ≡ true → wrong ≡ Some number → ⊥)
        → IsFirstUnmarked mid.mapped seen key → PagePlace key ≡ place
        → IsTold old.disk → OfWrongImage catalog wrong (λ listing. IsFirst (PathsOf old listing) place)
    page_wrong wrong {key} right first is told listing link of =
        subst (IsFirst (PathsOf old listing)) is
        (page_named of (no_wrong_image of right) (holds told) (marked told)
        (seen_before (λ m r. IsFirstUnmarked m r key) first))
