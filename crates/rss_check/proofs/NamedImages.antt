-- Which image or page of images is named: what was found of a catalog is so of the listing whose catalog it is.
use Rattle.std.proofs.Common.{◌≡◌, ◌⊎◌, inl, inr, ℕ, ◌+◌, ◌/◌, ◌%◌, ◌<◌, ◌≤◌, Bool, true, false, cond, List, get_or, refl, sym, ◌∙◌, ap, subst, arith}
use Rattle.std.specs.Prelude.{Option, Some, None, is_some, Contains}
use Rattle.std.specs.Global.{Vec}
use Rattle.std.specs.Int.{bit_at}
use Rattle.std.proofs.lemmas.Bool.{cases_eq, cond-true, false≢true, le-leb}
use Rattle.std.proofs.lemmas.Option.{none-some}
use Rattle.rss_base.specs.Listings.{Listing, relation_at, image_at}
use Rattle.rss_base.specs.Paged.{Held, Mapped, page_key}
use Rattle.rss_base.specs.declared.image.ImageEntry.{ImageEntry}
use Rattle.rss_base.specs.declared.relation.RelationEntry.{RelationEntry}
use Rattle.rss_base.specs.declared.key.PageKey.{PageKey}
use Rattle.rss_base.specs.declared.key.Space.TheVariants.{Image as ImageSpace}
use Rattle.rss_base.specs.declared.place.Place.{Place}
use Rattle.rss_base.specs.declared.place.Place.TheVariants.{Page as PagePlace, Image as ImagePlace}
use Rattle.rss_catalog.specs.Catalogs.{CatalogView}
use Rattle.rss_catalog.specs.Defined.{has_level, leveled, completed, AreRight, IsCatalogOf}
use Rattle.rss_catalog.proofs.Fronts.{map_has, has_map}
use Rattle.rss_image.specs.Marks.{IsMarked}
use Rattle.rss_model.proofs.LogLists.{some_of}
use Rattle.rss_stored.specs.Store.{IsListedImage}
use Rattle.rss_access.specs.Rows.{HasRows}
use Rattle.rss_check.specs.Checks.{AreListed}
use Rattle.rss_check.specs.Lines.{Line, Images, Reached, line_number, ComesBefore, IsFirst}
use Rattle.rss_check.specs.Marks.{row_of, AreMarked, AreOwnMarks, IsUnmarked, IsFirstUnmarked}
use Rattle.rss_check.specs.Rows.{HasSomeRows, IsUsed, HasImages}
use Rattle.rss_check.specs.Tuples.{BreaksPaths, image_in, unused_in, link_in}
use Rattle.rss_check.proofs.Completing.{rows_completed, rows_listed}
use Rattle.rss_check.proofs.FirstWrong.{listed_as, right_before, none_wrong, named_wrong, later_wrong}
use Rattle.rss_check.proofs.Orders.{before_one}
use Rattle.rss_check.proofs.PathFaults.{line_of}

-- ---- pages that are marked

marked_or : (row : List ℕ) (page : ℕ) → IsMarked row page ⊎ (IsMarked row page → ⊥)
marked_or row page = cases_eq (bit_at (get_or row (page / 64) 0) (page % 64)) 1

module _ {mapped : Mapped} {rows : List (Vec ℕ)} (none : (key : PageKey) → IsUnmarked mapped rows key → ⊥) where
  -- where no page is unmarked, each is marked
  is_marked : (key : PageKey) → key.space ≡ ImageSpace → mapped key ≡ true
      → IsMarked (row_of rows key.segment) key.number
  is_marked key space there = elim (marked_or (row_of rows key.segment) key.number) [
    | inl marked ↦ marked
    | inr not ↦ absurd (none key (record { space = space; there = there; unmarked = not }))
  ]

  pub images_listed : (listing : Listing) → AreOwnMarks listing rows
      → AreListed (λ key. key.space ≡ ImageSpace) listing mapped
  images_listed listing own key space there = own key.segment key.number (is_marked key space there)

  pub images_had : {held : Held} {slots : ℕ} {listing : Listing} → ((key : PageKey) → is_some (held key) ≡ mapped key)
      → ((most : ℕ) → AreMarked most held slots listing rows) → HasImages held slots listing
  images_had {held} {slots} {listing} holds so = record {
    each = λ number image relation its. (so number).each number image relation (omega arith) its;
    reached = λ key space there.
        let key_is : page_key key.segment ImageSpace key.number ≡ key = λ i. record { segment = key.segment; space = sym space i; number = key.number } in
        subst (IsUsed held slots listing) key_is
        ((so 0).used key.segment key.number (is_marked key space (sym (holds key) ∙ there)));
  }

-- ---- images with levels

level_of : {held : Held} {slots number : ℕ} {listing : Listing} {image : ImageEntry} {relation : RelationEntry}
    {nodes : List ℕ}
    → HasRows held slots listing number image relation nodes → has_level image ≡ true
level_of {image = image} rows = le-leb 1 image.levels rows.tree.some

level_same : (image : ImageEntry) → has_level image ≡ true → leveled image ≡ image
level_same image has = cond-true (has_level image) image (record image { levels = 1 }) has

relation_same : (image : ImageEntry) → (leveled image).relation ≡ image.relation
relation_same image = by (has_level image)
  where
    by : (b : Bool) → (cond b image (record image { levels = 1 })).relation ≡ image.relation
    by true = refl
    by false = refl

-- the image of this number is named, or it is listed and has no rows
abbrev pub IsBadImage : Held → ℕ → Listing → Option ℕ → ℕ → Type 0
IsBadImage held slots listing wrong number =
    (wrong ≡ Some number) ⊎ ((is_some (image_at listing number) ≡ true)
    × ((image : ImageEntry) (relation : RelationEntry) (nodes : List ℕ) → IsListedImage listing number image relation
    → HasRows held slots listing number image relation nodes → ⊥))

-- ---- a listing and its catalog

module _ {listing : Listing} {catalog : CatalogView} {wrong other_wrong : Option ℕ}
    (of : IsCatalogOf listing catalog wrong other_wrong) where
  -- an image of the listing is one of the catalog
  at_catalog : (number : ℕ) (image : ImageEntry) → image_at listing number ≡ Some image
      → image_at catalog.listing number ≡ Some (leveled image)
  at_catalog number image at = ap (λ (l : Listing). image_at l number) (listed_as of)
      ∙ has_map leveled listing.images number image at

  to_catalog : {number : ℕ} {image : ImageEntry} {relation : RelationEntry} → has_level image ≡ true
      → IsListedImage listing number image relation → IsListedImage catalog.listing number image relation
  to_catalog {number} {image} has its = record {
    at = at_catalog number image its.at ∙ ap Some (level_same image has);
    within = ap (λ (l : Listing). relation_at l image.relation) (listed_as of) ∙ its.within;
  }

  -- its relation
  of_relation : (number : ℕ) (image : ImageEntry) → image_at listing number ≡ Some image
      → (relation : RelationEntry) × IsListedImage listing number image relation
  of_relation number image at =
      let fit = of.fits.paths.images number (leveled image) (has_map leveled listing.images number image at) in
      (fit.relation, record { at = at; within = ap (relation_at listing) (sym (relation_same image)) ∙ fit.listed })

  -- and an image of the catalog is one of the listing
  from_catalog : (number : ℕ) (image : ImageEntry) → image_at catalog.listing number ≡ Some image
      → (entry : ImageEntry) × (image_at listing number ≡ Some entry) × (leveled entry ≡ image)
  from_catalog number image at = map_has leveled listing.images number image
      (ap (λ (l : Listing). image_at l number) (sym (listed_as of)) ∙ at)

  -- where none is named, each has levels
  all_right : wrong ≡ None → AreRight has_level listing.images
  all_right no_wrong number image at = right_before has_level listing.images wrong of.image_first of.images_right number image
      (λ m is. absurd (none-some m (sym no_wrong ∙ is))) at

  module _ {held : Held} {slots : ℕ} where
    rows_to : {number : ℕ} {image : ImageEntry} {relation : RelationEntry} {nodes : List ℕ}
        → HasRows held slots listing number image relation nodes
        → HasRows held slots catalog.listing number image relation nodes
    rows_to {number} {image} {relation} {nodes} rows =
        subst (λ (l : Listing). HasRows held slots l number image relation nodes) (sym (listed_as of))
        (rows_completed listing rows)

    rows_from : {number : ℕ} {image : ImageEntry} {relation : RelationEntry} {nodes : List ℕ}
        → HasRows held slots catalog.listing number image relation nodes
        → HasRows held slots listing number image relation nodes
    rows_from {number} {image} {relation} {nodes} rows =
        rows_listed listing (subst (λ (l : Listing). HasRows held slots l number image relation nodes)
        (listed_as of) rows)

    -- ---- an image isn't right

    module _ {most : ℕ} {rows : List (Vec ℕ)} (so : AreMarked most held slots catalog.listing rows)
        (passed : (k : ℕ) → 1 ≤ k → k ≤ most → wrong ≡ Some k → ⊥) where
      none_before : {place : Place} → BreaksPaths held slots listing Images place
          → ComesBefore place (ImagePlace (most + 1)) → ⊥
      none_before (image_in number image relation its not) before =
          let low : number < most + 1 = before_one number (most + 1) before in
          let right = right_before has_level listing.images wrong of.image_first of.images_right number image
          (λ m is. let later = later_wrong has_level listing.images wrong of.image_first passed m is in omega
          (arith, low, later)) its.at in
          let some = so.each number image relation (omega (arith, low)) (to_catalog right its) in
          not some.nodes (rows_from some.rows)

      -- it is the one without levels, or doesn't have its rows
      broken : IsBadImage held slots catalog.listing wrong (most + 1)
          → BreaksPaths held slots listing Images (ImagePlace (most + 1))
      broken (inl named) =
          let it = named_wrong has_level listing.images wrong (most + 1) of.image_first named in
          let its = of_relation (most + 1) it.item it.at in
          image_in (most + 1) it.item its.0 its.1 (λ nodes rows. false≢true (sym it.wrong ∙ level_of rows))
      broken (inr bare) =
          let some = some_of (image_at catalog.listing (most + 1)) bare.0 in
          let entry = from_catalog (most + 1) some.0 some.1 in
          let its = of_relation (most + 1) entry.0 entry.1 in
          image_in (most + 1) entry.0 its.0 its.1
          (λ nodes rows. bare.1 entry.0 its.0 nodes (to_catalog (level_of rows) its.1) (rows_to rows))

      pub image_named : IsBadImage held slots catalog.listing wrong (most + 1)
          → IsFirst (BreaksPaths held slots listing) (ImagePlace (most + 1))
      image_named bad = record {
        line = Images;
        breaks = broken bad;
        earlier = λ line at low is. let within = line_of is in omega (arith, low, within.0);
        least = λ at is before. none_before is before;
      }

    -- ---- each has its rows

    module _ (no_wrong : wrong ≡ None) where
      each_unbroken : ((number : ℕ) (image : ImageEntry) (relation : RelationEntry)
          → IsListedImage catalog.listing number image relation
          → HasSomeRows held slots catalog.listing number image relation) → {place : Place}
          → BreaksPaths held slots listing Images place → ⊥
      each_unbroken each (image_in number image relation its not) =
          let some = each number image relation (to_catalog (all_right no_wrong number image its.at) its) in
          not some.nodes (rows_from some.rows)

      -- a page is one of theirs
      not_unused : {key : PageKey} → IsUsed held slots catalog.listing key
          → ((number : ℕ) (image : ImageEntry) (relation : RelationEntry) (nodes : List ℕ)
          → IsListedImage listing number image relation
          → HasRows held slots listing number image relation nodes → key.segment ≡ relation.segment
          → Contains nodes key.number → ⊥) → ⊥
      not_unused one not =
          let entry = from_catalog one.number one.image one.listed.at in
          let same : entry.0 ≡ one.image = sym (level_same entry.0 (all_right no_wrong one.number entry.0 entry.1))
          ∙ entry.2 in
          let its : IsListedImage listing one.number one.image one.relation = record {
            at = entry.1 ∙ ap Some same;
            within = ap (λ (l : Listing). relation_at l one.image.relation) (sym (listed_as of)) ∙ one.listed.within;
          } in
          not one.number one.image one.relation one.nodes its (rows_from one.rows) one.segment one.among

      -- so is each page
      pub images_unbroken : HasImages held slots catalog.listing → {line : Line} {place : Place}
          → line_number line ≤ 8 → BreaksPaths held slots listing line place → ⊥
      images_unbroken has low (image_in number image relation its not) = each_unbroken has.each
          (image_in number image relation its not)
      images_unbroken has low (unused_in key space there not) = not_unused (has.reached key space there) not
      images_unbroken has low (link_in number link at not) = omega (arith, low)

      -- ---- a page is that of no image

      module _ {mapped : Mapped} {rows : List (Vec ℕ)} {key : PageKey}
          (holds : (k : PageKey) → is_some (held k) ≡ mapped k)
          (so : (most : ℕ) → AreMarked most held slots catalog.listing rows)
          (first : IsFirstUnmarked mapped rows key) where
        before_reached : {line : Line} {place : Place} → line_number line < 8
            → BreaksPaths held slots listing line place → ⊥
        before_reached low (image_in number image relation its not) =
            each_unbroken (λ n i r is. (so n).each n i r (omega arith) is) (image_in number image relation its not)
        before_reached low (unused_in other space there not) = omega (arith, low)
        before_reached low (link_in number link at not) = omega (arith, low)

        page_before : {place : Place} → BreaksPaths held slots listing Reached place
            → ComesBefore place (PagePlace key) → ⊥
        page_before (unused_in other space there not) before = first.earlier other (record {
          space = space;
          there = sym (holds other) ∙ there;
          unmarked = λ marked. not_unused ((so 0).used other.segment other.number marked) not;
        }) before

        pub page_named : IsFirst (BreaksPaths held slots listing) (PagePlace key)
        page_named = record {
          line = Reached;
          breaks = unused_in key first.is.space (holds key ∙ first.is.there)
              (λ number image relation nodes its has segment among.
              first.is.unmarked (subst (λ (s : ℕ). IsMarked (row_of rows s) key.number) (sym segment)
              ((so number).all number image relation nodes key.number (omega arith) (to_catalog (level_of has) its)
              (rows_to has) among)));
          earlier = λ line at low is. before_reached low is;
          least = λ at is before. page_before is before;
        }

  -- no image is named
  pub no_wrong_image : ((number : ℕ) → is_some (image_at catalog.listing number) ≡ true → wrong ≡ Some number → ⊥)
      → wrong ≡ None
  no_wrong_image right = none_wrong has_level listing.images wrong of.image_first
      (λ number image at. right number (ap is_some (at_catalog number image at)))
