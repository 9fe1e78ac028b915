-- How a look through all pages of a store ends.
use Rattle.std.proofs.Common.{◌≡◌, inl, inr, ℕ, zero, suc, ◌+◌, ◌-◌, ◌*◌, ◌<◌, ◌≤◌, Bool, true, false, cond, refl, sym, ◌∙◌, ap, subst, arith}
use Rattle.std.specs.Prelude.{Result, Ok, Err, Option, Some, None, IfSome, IfNone, is_some, nat_lt}
use Rattle.std.proofs.lemmas.Bool.{cases_eq, true≢false}
use Rattle.rss_base.specs.DiskRule.{Pages, IsTold}
use Rattle.rss_base.specs.PageMap.{IsKey}
use Rattle.rss_base.specs.Paged.{Held, Mapped, page_key}
use Rattle.rss_base.specs.Sizes.{system_pages}
use Rattle.rss_base.specs.Steps.{PagesView, Keys, no_page}
use Rattle.rss_base.specs.Looking.{ChecksPages}
use Rattle.rss_base.specs.Listings.{Listing, ListingFits, segment_at}
use Rattle.rss_base.specs.declared.place.Place.{Place}
use Rattle.rss_base.specs.declared.place.Place.TheVariants.{Room, Page as PagePlace}
use Rattle.rss_base.specs.declared.fault.PageFault.{PageFault}
use Rattle.rss_base.specs.declared.fault.PageFault.TheVariants.{Device as DeviceFailed}
use Rattle.rss_base.specs.declared.key.PageKey.{PageKey}
use Rattle.rss_base.specs.declared.key.Space.{Space}
use Rattle.rss_base.specs.declared.key.Space.TheVariants.{Home, Overflow, Image as ImageSpace, System}
use Rattle.rss_base.proofs.Looking.{checks_none, checks_then, checks_within, checks_as}
use Rattle.rss_page.specs.Slotted.{IsHeapKey}
use Rattle.rss_tuple.specs.Directory.{homes, overflows}
use Rattle.rss_tuple.specs.Heaps.{AreLinked, AreHeaps}
use Rattle.rss_tuple.specs.Checked.{pages_of, IsNoted, AreNoted}
use Rattle.rss_catalog.specs.Catalogs.{CatalogView, Loads, IsCatalogPlace}
use Rattle.rss_catalog.specs.Defined.{HasFewTuples, LoadsDefined, NamesFirst}
use Rattle.rss_catalog.proofs.Completed.{catalog_fits, stored_same}
use Rattle.rss_catalog.proofs.Same.{fits_no_flaw}
use Rattle.rss_model.specs.Tables.{Tables}
use Rattle.rss_model.specs.Fits.{Fits}
use Rattle.rss_access.specs.Changes.{both}
use Rattle.rss_access.proofs.Looking.{heaps_looked}
use Rattle.rss_stored.specs.Store.{IsStorePage, SpellsTables, AreNodesWithin}
use Rattle.rss_model.proofs.LogLists.{some_of}
use Rattle.rss_stored.proofs.Relisted.{number_within_list}
use Rattle.rss_check.specs.Checks.{IsSegmentOf, ChecksSegment, MissesSegment, ChecksSegments, MissesOne, IsForeign, MissesTuples, AreListed, ChecksLinks}
use Rattle.rss_check.specs.Rows.{HasImages}
use Rattle.rss_check.specs.Faults.{IsFirstFault}
use Rattle.rss_check.specs.Passed.{IsViewOf, PassesTuples}
use Rattle.rss_check.specs.Lines.{HeapPages, IsFirst, IsLeast, AreUnbroken, IsFirstIfAny}
use Rattle.rss_check.specs.Tuples.{BreaksIn, BreaksTuples, BreaksAt, BreaksOf, IsFirstMapped, rank_of, earlier_of}
use Rattle.rss_check.proofs.TupleFaults.{tuple_fault, tuples_pass, few_loaded}
use Rattle.rss_check.proofs.SegmentFirst.{unlisted_unbroken, unlisted_least}
use Rattle.rss_check.proofs.SegmentsFirst.{BreaksBelow, heap_segment, pages_more, first_more, first_past, page_first, first_none, first_all}
use Rattle.rss_check.specs.Looks.{FindsTables, FindsNone, HoldsNone, AreAllNoted}
use Rattle.rss_check.proofs.Found.{linked_found, holds_found, spelled_segment}
use Rattle.rss_check.proofs.LookedLinks.{link_same}
use Rattle.rss_check.proofs.SameHeld.{held_back}

-- ---- pages of no segment that is listed

same_key : (key : PageKey) (segment : ℕ) (space : Space) → key.segment ≡ segment → key.space ≡ space → key ≡ page_key segment space key.number
same_key key segment space one two = λ i. record { segment = one i; space = two i; number = key.number }

-- no page of a segment and a space is mapped
pub none_mapped : (mapped : Mapped) (segment : ℕ) (space : Space) → ((number : ℕ) → 0 ≤ number → mapped (page_key segment space number) ≡ true → ⊥) → (key : PageKey) → key.segment ≡ segment → key.space ≡ space → mapped key ≡ true → ⊥
none_mapped mapped segment space none key one two is = none key.number (omega arith) (ap mapped (sym (same_key key segment space one two)) ∙ is)

-- a page of a segment that isn't listed is that of no store
pub unlisted_foreign : (listing : Listing) (key : PageKey) → (key.space ≡ System → ⊥) → is_some (segment_at listing key.segment) ≡ false → IsStorePage listing key → ⊥
unlisted_foreign listing key other none (inl system) = other system
unlisted_foreign listing key other none (inr listed) = true≢false (sym listed ∙ none)

-- ---- one segment after another

-- so often as many
abbrev pub times : ℕ → ℕ → ℕ
times zero n = 0
times (suc k) n = times k n + n

pub times_most : (k j n : ℕ) → times k n ≤ times (j + k) n
times_most k zero n = let same : zero + k ≡ k = omega arith in omega (arith, ap (λ (m : ℕ). times m n) same)
times_most k (suc j) n = let same : suc j + k ≡ suc (j + k) = omega arith in omega (arith, times_most k j n, ap (λ (m : ℕ). times m n) same)

-- at most eight segments are looked through
pub eight_most : (k n : ℕ) → k ≤ 8 → times k (130 * n) ≤ 1040 * n
eight_most k n few =
    let most = times_most k (8 - k) (130 * n) in
    let eight : (8 - k) + k ≡ 8 = omega arith in
    omega (arith, most, ap (λ (m : ℕ). times m (130 * n)) eight)

-- what succeeds is no fault
pub no_fault : {U : Type 0} (value : U) → ◌≡◌ {A = Result U PageFault} (Ok value) (Err DeviceFailed) → ⊥
no_fault value is = cc

-- the segments with lower numbers are in form
abbrev AreChecked : Listing → ℕ → PagesView → PagesView → Type 0
AreChecked listing number old now = (segment : ℕ) → segment < number → is_some (segment_at listing segment) ≡ true → ChecksSegment listing segment old now

-- The segments with lower numbers were looked through. Their pages are right, and this is wrong first, if anything is.
pub record LookedAt (listing : Listing) (number : ℕ) (wrong : Option Place) (old now : PagesView) : Type 0 where
  pub did : ChecksPages {T = Unit {0}} IsHeapKey (times (number - 1) (130 * old.slots)) old now (Ok tt)
  pub checks : IfNone wrong (AreChecked listing number old now)
  pub misses : IfSome wrong (MissesOne listing old)
  pub pages : IsTold old.disk → (place : Place) → BreaksBelow number old.held old.slots listing HeapPages place → ⊥
  pub first : IsTold old.disk → HasFewTuples listing → IsFirstIfAny (BreaksBelow number old.held old.slots listing) wrong
  pub listed : (key : PageKey) → IsHeapKey key → key.segment < number → old.mapped key ≡ true → is_some (segment_at listing key.segment) ≡ true

-- each page that is there is mapped
abbrev pub HoldsMapped : PagesView → Type 0
HoldsMapped view = IsTold view.disk → (key : PageKey) → is_some (view.held key) ≡ view.mapped key

-- each page that is mapped may be
abbrev pub MapsKeys : PagesView → Type 0
MapsKeys view = (key : PageKey) → view.mapped key ≡ true → IsKey view.slots key

held_keys : (view : PagesView) → HoldsMapped view → MapsKeys view → IsTold view.disk → (key : PageKey) → is_some (view.held key) ≡ true → IsKey view.slots key
held_keys view holds allowed told key there = allowed key (sym (holds told key) ∙ there)

-- ---- of two that are wrong the earlier one

earlier_none : {A B C : Type 0} (wrong found : Option Place) → (A → B → C) → IfNone wrong A → IfNone found B → IfNone (earlier_of wrong found) C
earlier_none None None follows one two = follows one two
earlier_none None (Some q) follows one two = tt
earlier_none (Some p) None follows one two = tt
earlier_none {C = C} (Some p) (Some q) follows one two = by (nat_lt (rank_of q) (rank_of p))
  where
    by : (t : Bool) → IfNone (cond t (Some q) (Some p)) C
    by true = tt
    by false = tt

earlier_some : (P : Place → Type 0) (wrong found : Option Place) → IfSome wrong P → IfSome found P → IfSome (earlier_of wrong found) P
earlier_some P None found one two = two
earlier_some P (Some p) None one two = one
earlier_some P (Some p) (Some q) one two = by (nat_lt (rank_of q) (rank_of p))
  where
    by : (t : Bool) → IfSome (cond t (Some q) (Some p)) P
    by true = two
    by false = one

none_weaker : {T : Type 0} {A B : Type 0} (found : Option T) → (A → B) → IfNone found A → IfNone found B
none_weaker None follows is = follows is
none_weaker (Some value) follows is = tt

some_weaker : {P Q : Place → Type 0} (found : Option Place) → ((place : Place) → P place → Q place) → IfSome found P → IfSome found Q
some_weaker None follows is = tt
some_weaker (Some place) follows is = follows place is

-- ---- one more segment

-- there is no segment 0
none_zero : (listing : Listing) (segment : ℕ) → segment < 1 → is_some (segment_at listing segment) ≡ true → ⊥
none_zero listing zero low there = true≢false (sym there)
none_zero listing (suc segment) low there = omega arith

pub looked_none : (listing : Listing) (view : PagesView) → ListingFits listing → HoldsMapped view → MapsKeys view → LookedAt listing 1 None view view
looked_none listing view fits holds allowed = record {
  did = checks_none {T = Unit {0}} view (Ok tt) (λ is. cc);
  checks = λ segment low there. absurd (none_zero listing segment low there);
  misses = tt;
  pages = λ told place is. none told HeapPages place is;
  first = λ told few. none told;
  listed = λ key heap low there. let within = heap_segment key heap (allowed key there).segment in absurd (omega (arith, low, within.0));
}
  where
    none : IsTold view.disk → AreUnbroken (BreaksBelow 1 view.held view.slots listing)
    none told = first_none {held = view.held} {slots = view.slots} {listing = listing} fits (held_keys view holds allowed told)

module _ {listing : Listing} {number : ℕ} {wrong : Option Place} {old mid : PagesView} (low : 1 ≤ number) (so : LookedAt listing number wrong old mid) where
  told_mid : IsTold old.disk → IsTold mid.disk
  told_mid told = so.did.looks.step.passes.leaves.told.0 told

  -- what holds of the pages held of them from before on
  held_before : IsTold old.disk → (P : Held → ℕ → Type 0) → P mid.held mid.slots → P old.held old.slots
  held_before = held_back so.did

  held_after : IsTold old.disk → (P : Held → ℕ → Type 0) → P old.held old.slots → P mid.held mid.slots
  held_after told P is = subst (λ (h : Held). P h mid.slots) (sym (so.did.looks.held told)) (subst (P old.held) (sym so.did.looks.step.passes.slots) is)

  gone_before : IsTold old.disk → ListingFits listing → is_some (segment_at listing number) ≡ false → HoldsMapped mid → ((key : PageKey) → pages_of number key → mid.mapped key ≡ true → ⊥) → AreUnbroken (BreaksIn old.held old.slots listing number)
  gone_before told fits none holds gone = held_before told (λ h n. AreUnbroken (BreaksIn h n listing number)) (unlisted_unbroken mid.held mid.slots listing number mid.mapped (holds (told_mid told)) fits none gone)

  -- one that is not listed
  pub looked_past : ListingFits listing → is_some (segment_at listing number) ≡ false → HoldsMapped mid → ((key : PageKey) → pages_of number key → mid.mapped key ≡ true → ⊥) → LookedAt listing (number + 1) wrong old mid
  looked_past fits none holds gone = record {
    did = checks_within (λ key is. is) (let more : number + 1 - 1 ≡ suc (number - 1) = omega arith in omega (arith, ap (λ (k : ℕ). times k (130 * old.slots)) more)) so.did;
    checks = none_weaker wrong (λ checked segment below there. elim (cases_eq segment number) [
      | inl here ↦ absurd (true≢false (sym there ∙ ap (λ (n : ℕ). is_some (segment_at listing n)) here ∙ none))
      | inr other ↦ checked segment (omega (arith, other)) there
    ]) so.checks;
    misses = so.misses;
    pages = λ told place is. pages_more (so.pages told) (λ at. gone_before told fits none holds gone HeapPages at) place is;
    first = λ told few. first_past wrong (so.first told few) (gone_before told fits none holds gone);
    listed = λ key heap low there. elim (cases_eq key.segment number) [
      | inl here ↦ absurd (gone key (here, heap) (ap (λ (m : Mapped). m key) so.did.looks.mapped ∙ there))
      | inr other ↦ so.listed key heap (omega (arith, low, other)) there
    ];
  }

  pub misses_one : {place : Place} → is_some (segment_at listing number) ≡ true → MissesSegment listing number mid place → MissesOne listing old place
  misses_one there misses = record {
    segment = number;
    listed = there;
    misses = record { is_not = λ told is. misses.is_not (told_mid told) (held_after told (λ h n. IsSegmentOf h n listing number) is); elsewhere = misses.elsewhere };
  }

  -- a page that no store has was there from before on
  pub foreign_before : {place : Place} (key : PageKey) → mid.mapped key ≡ true → (IsStorePage listing key → ⊥) → (place ≡ Room → ⊥) → MissesTuples listing old place
  foreign_before key there not elsewhere = inr (record { key = key; there = ap (λ (m : Mapped). m key) (sym so.did.looks.mapped) ∙ there; is_not = not; elsewhere = elsewhere })

  -- a page of it isn't right
  pub page_named : {place : Place} → (IsTold mid.disk → IsLeast (BreaksAt mid listing number HeapPages) place) → IsTold old.disk → IsFirst (BreaksOf old listing) place
  page_named {place} here told = page_first (so.pages told) (held_before told (λ h n. IsLeast (BreaksIn h n listing number HeapPages) place) (here (told_mid told)))

  -- or it has one, and isn't listed
  pub foreign_named : {key : PageKey} → is_some (segment_at listing number) ≡ false → HoldsMapped mid → IsFirstMapped mid.mapped number key → IsTold old.disk → IsFirst (BreaksOf old listing) (PagePlace key)
  foreign_named none holds first told = page_named (λ told_now. unlisted_least mid.held mid.slots listing number mid.mapped (holds told_now) none first) told

  module _ {T : Type 0} {new : PagesView} {result : Result T PageFault} (did : ChecksPages (pages_of number) (130 * mid.slots) mid new result) where
    -- both looks together
    pub did_more : {U : Type 0} (other : Result U PageFault) → (other ≡ Err DeviceFailed → result ≡ Err DeviceFailed) → ChecksPages IsHeapKey (times (number + 1 - 1) (130 * old.slots)) old new other
    did_more other is =
        let wide : ChecksPages IsHeapKey (130 * mid.slots) mid new result = checks_within (λ key page. page.1) (omega arith) did in
        let more : number + 1 - 1 ≡ suc (number - 1) = omega arith in
        checks_as other is (checks_within (λ key page. page) (omega (arith, so.did.looks.step.passes.slots, ap (λ (k : ℕ). times k (130 * old.slots)) more)) (checks_then so.did wide))

    -- a note on a page of another segment stays
    noted_still : (segment : ℕ) → (segment ≡ number → ⊥) → IsTold mid.disk → AreNoted segment mid → AreNoted segment new
    noted_still segment other told noted key bytes page is =
        let was : mid.held key ≡ Some bytes = ap (λ (h : Held). h key) (sym (did.looks.held told)) ∙ is in
        let same : new.notes key ≡ mid.notes key = did.looks.step.notes_off key (λ of. other (sym page.0 ∙ of.0)) in
        subst (IsNoted key bytes) (sym same) (noted key bytes page was)

    checked_more : AreChecked listing number old mid → ChecksSegment listing number mid new → AreChecked listing (number + 1) old new
    checked_more checked checks segment below there = elim (cases_eq segment number) [
      | inl here ↦ subst (λ (n : ℕ). ChecksSegment listing n old new) (sym here) (record {
        is = λ told. held_before told (λ h n. IsSegmentOf h n listing number) (checks.is (told_mid told));
        noted = λ told. checks.noted (told_mid told);
      })
      | inr other ↦
          let was = checked segment (omega (arith, other)) there in
          record { is = was.is; noted = λ told. noted_still segment other (told_mid told) (was.noted told) }
    ]

    -- one that is listed, with what is wrong in it
    pub looked_more : (found : Option Place) → is_some (segment_at listing number) ≡ true → IfNone found (ChecksSegment listing number mid new) → IfSome found (MissesSegment listing number mid)
        → (IsTold mid.disk → (place : Place) → BreaksAt mid listing number HeapPages place → ⊥) → (IsTold mid.disk → HasFewTuples listing → IsFirstIfAny (BreaksAt mid listing number) found) → LookedAt listing (number + 1) (earlier_of wrong found) old new
    looked_more found there checks misses right first = record {
      did = did_more (Ok tt) (λ is. absurd (no_fault tt is));
      checks = earlier_none wrong found checked_more so.checks checks;
      misses = earlier_some (MissesOne listing old) wrong found so.misses (some_weaker found (λ place. misses_one there) misses);
      pages = λ told place is. pages_more (so.pages told) (here told) place is;
      first = λ told few. first_more (so.pages told) (here told) wrong found (so.first told few) (held_before told (λ h n. IsFirstIfAny (BreaksIn h n listing number) found) (first (told_mid told) few));
      listed = λ key heap low mapped. elim (cases_eq key.segment number) [
        | inl same ↦ ap (λ (n : ℕ). is_some (segment_at listing n)) same ∙ there
        | inr other ↦ so.listed key heap (omega (arith, low, other)) mapped
      ];
    }
      where
        here : IsTold old.disk → (place : Place) → BreaksIn old.held old.slots listing number HeapPages place → ⊥
        here told = held_before told (λ h n. (place : Place) → BreaksIn h n listing number HeapPages place → ⊥) (right (told_mid told))

-- all of them
pub looked_all : {listing : Listing} {number : ℕ} {old now : PagesView} → ListingFits listing → 9 ≤ number → LookedAt listing number None old now → ChecksSegments listing old now
looked_all {listing = listing} fits all so segment there =
    let name = some_of (segment_at listing segment) there in
    let within = number_within_list listing.segments segment name.0 name.1 in
    so.checks segment (omega (arith, within.1, fits.segment_places)) there

-- the pages of tuples are those of segments that are listed
pub listed_looked : {listing : Listing} {number : ℕ} {wrong : Option Place} {old now : PagesView} → 9 ≤ number → MapsKeys old → LookedAt listing number wrong old now → AreListed IsHeapKey listing old.mapped
listed_looked all allowed so key heap there =
    let within = heap_segment key heap (allowed key there).segment in
    so.listed key heap (omega (arith, all, within.1)) there

-- this is wrong first in all of them, if anything is
pub first_looked : {listing : Listing} {number : ℕ} {wrong : Option Place} {old now : PagesView} → ListingFits listing → 9 ≤ number → HoldsMapped old → MapsKeys old → LookedAt listing number wrong old now → IsTold old.disk → HasFewTuples listing → IsFirstIfAny (BreaksOf old listing) wrong
first_looked {wrong = wrong} {old = old} fits all holds allowed so told few = first_all old.held fits (held_keys old holds allowed told) (omega (arith, all)) wrong (so.first told few)

-- ---- looks at the same pages, behind that at the segments

-- both together
pub looks_on : {T U : Type 0} {asks most : ℕ} {old mid new : PagesView} {first : Result T PageFault} {second : Result U PageFault} → ChecksPages IsHeapKey asks old mid first → ChecksPages no_page most mid new second → ChecksPages IsHeapKey (asks + most) old new second
looks_on one two = checks_then one (checks_within (λ key none. absurd none) (omega arith) two)

-- what was noted still is
pub noted_on : {U : Type 0} {most : ℕ} {listing : Listing} {old mid new : PagesView} {second : Result U PageFault} → (IsTold old.disk → IsTold mid.disk) → ChecksPages no_page most mid new second → ChecksSegments listing old mid → ChecksSegments listing old new
noted_on {mid = mid} {new = new} told_mid did checks segment there = record {
  is = (checks segment there).is;
  noted = λ told key bytes page is.
      let was : mid.held key ≡ Some bytes = ap (λ (h : Held). h key) (sym (did.looks.held (told_mid told))) ∙ is in
      subst (IsNoted key bytes) (sym (did.looks.step.notes_off key (λ none. none))) ((checks segment there).noted told key bytes page was);
}

-- ---- all pages

-- no relation of a store has more tuples than it may
few_told : {held : Held} {slots : ℕ} {listing : Listing} {tables : Tables} → SpellsTables held listing tables → Fits slots tables → HasFewTuples listing
few_told spells fit number relation is = omega (arith, spells.counts number relation is, fit.few relation.name)

-- a page of the system space is no definition
pub none_listed : {old : PagesView} {place : Place} → (IsTold old.disk → NamesFirst old.held place) → IsCatalogPlace place → FindsNone old place
none_listed {old = old} first named = record {
  none = λ told listing tables system spells nodes fit.
      let flaw = first told in
      fits_no_flaw old.held listing flaw.page system spells.listed (few_told spells fit) flaw.first;
  elsewhere = λ told room. let at = named.is in absurd (cc);
}

-- the pages of a catalog's listing spell tables by no other listing
none_loaded : (old : PagesView) (catalog : CatalogView) (image link : Option ℕ) → LoadsDefined old catalog image link → IsTold old.disk → ((tables : Tables) → SpellsTables old.held catalog.listing tables → AreNodesWithin old.slots old.held catalog.listing → Fits old.slots tables → ⊥) → HoldsNone old.held old.slots
none_loaded old catalog image link loads told none listing tables system spells nodes fit =
    let same = sym (stored_same old catalog image link loads told listing system spells.listed) in
    none tables (subst (λ (l : Listing). SpellsTables old.held l tables) same spells) (subst (AreNodesWithin old.slots old.held) same nodes) fit

-- there is a page that no store with these definitions has
pub none_foreign : {old : PagesView} {catalog : CatalogView} {image link : Option ℕ} → HoldsMapped old → LoadsDefined old catalog image link → {place : Place} (key : PageKey) → old.mapped key ≡ true → (IsStorePage catalog.listing key → ⊥) → (place ≡ Room → ⊥) → FindsNone old place
none_foreign {old} {catalog} {image} {link} holds loads key is foreign elsewhere = record {
  none = λ told. none_loaded old catalog image link loads told (λ tables spells nodes fit. foreign (spells.only key (holds told key ∙ is)));
  elsewhere = λ told. elsewhere;
}

-- ---- a catalog, and the segments behind it

module _ {T : Type 0} {old mid : PagesView} {catalog : CatalogView} {image link : Option ℕ} {first : Result T PageFault} (holds : HoldsMapped old) (allowed : MapsKeys old) (loads : LoadsDefined old catalog image link) (did : ChecksPages no_page system_pages old mid first) where
  told_then : IsTold old.disk → IsTold mid.disk
  told_then told = did.looks.step.passes.leaves.told.0 told

  -- what holds of the pages held of them from before on
  held_then : IsTold old.disk → (P : Held → ℕ → Type 0) → P mid.held mid.slots → P old.held old.slots
  held_then = held_back did

  -- so of a page that no store with these definitions has
  pub none_met : {place : Place} → IsForeign catalog.listing mid place → FindsNone old place
  none_met of = none_foreign holds loads of.key (ap (λ (m : Mapped). m of.key) (sym did.looks.mapped) ∙ of.there) of.is_not of.elsewhere

  -- a segment isn't in form
  pub none_sound : {place : Place} → MissesOne catalog.listing mid place → FindsNone old place
  none_sound one = record {
    none = λ told. none_loaded old catalog image link loads told (λ tables spells nodes fit.
        one.misses.is_not (told_then told) (subst (λ (h : Held). IsSegmentOf h mid.slots catalog.listing one.segment) (sym (did.looks.held told))
        (subst (λ (n : ℕ). IsSegmentOf old.held n catalog.listing one.segment) (sym did.looks.step.passes.slots) (spelled_segment (held_keys old holds allowed told) spells fit one.segment))));
    elsewhere = λ told. one.misses.elsewhere;
  }

  -- what is first of tuples is the first fault
  pub fault_then : {place : Place} → (IsTold mid.disk → HasFewTuples catalog.listing → IsFirst (BreaksOf mid catalog.listing) place) → IsTold old.disk → (pages : Pages) → IsViewOf pages old → IsFirstFault pages place
  fault_then {place} here told pages of = tuple_fault of loads told (held_then told (λ h n. IsFirst (BreaksTuples h n catalog.listing) place) (here (told_then told) (few_loaded loads)))

  pub passed_then : (IsTold mid.disk → HasFewTuples catalog.listing → AreUnbroken (BreaksOf mid catalog.listing)) → IsTold old.disk → (pages : Pages) → IsViewOf pages old → PassesTuples pages catalog image link
  passed_then here told pages of = tuples_pass of loads told (held_then told (λ h n. AreUnbroken (BreaksTuples h n catalog.listing)) (here (told_then told) (few_loaded loads)))

  pub listed_then : AreListed IsHeapKey catalog.listing mid.mapped → AreListed IsHeapKey catalog.listing old.mapped
  listed_then = subst (AreListed IsHeapKey catalog.listing) did.looks.mapped

  pub segments_then : {seen : PagesView} → ChecksSegments catalog.listing mid seen → ChecksSegments catalog.listing old seen
  segments_then checks segment there = record {
    is = λ told. held_then told (λ h n. IsSegmentOf h n catalog.listing segment) ((checks segment there).is (told_then told));
    noted = λ told. (checks segment there).noted (told_then told);
  }

  -- both looks together
  pub did_two : {U V : Type 0} {seen : PagesView} {second : Result U PageFault} → ChecksPages IsHeapKey (1040 * mid.slots) mid seen second → (result : Result V PageFault) → (result ≡ Err DeviceFailed → second ≡ Err DeviceFailed) → ChecksPages IsHeapKey (system_pages + 1040 * old.slots) old seen result
  did_two did_then result is =
      let wide : ChecksPages IsHeapKey system_pages old mid first = checks_within (λ key none. absurd none) (omega arith) did in
      checks_as result is (checks_within (λ key page. page) (omega (arith, did.looks.step.passes.slots)) (checks_then wide did_then))

-- ---- behind the segments

module _ {U : Type 0} {asks : ℕ} {old seen : PagesView} {catalog : CatalogView} {image link : Option ℕ} {second : Result U PageFault} (holds : HoldsMapped old) (allowed : MapsKeys old) (loads : LoadsDefined old catalog image link) (did : ChecksPages IsHeapKey asks old seen second) where
  -- both looks together
  pub did_all : {V : Type 0} {most : ℕ} {new : PagesView} {third : Result V PageFault} → ChecksPages no_page most seen new third → {W : Type 0} (result : Result W PageFault) → (result ≡ Err DeviceFailed → third ≡ Err DeviceFailed)
      → (all : ℕ) × ChecksPages IsHeapKey all old new result
  did_all {most = most} did_last result is = (asks + most, checks_as result is (looks_on did did_last))

  told_seen : IsTold old.disk → IsTold seen.disk
  told_seen told = did.looks.step.passes.leaves.told.0 told

  told_back : IsTold seen.disk → IsTold old.disk
  told_back told = did.looks.step.passes.leaves.told.1 told

  held_seen : IsTold old.disk → seen.held ≡ old.held
  held_seen told = did.looks.held told

  -- each link has its chains
  pub links_old : (IsTold seen.disk → ChecksLinks (both seen catalog)) → IsTold old.disk → ChecksLinks (both old catalog)
  links_old checks told number link at = link_same catalog (sym (held_seen told)) (checks (told_seen told) number link at)

  -- each image has its rows
  pub images_old : (IsTold seen.disk → HasImages seen.held seen.slots catalog.listing) → IsTold old.disk → HasImages old.held old.slots catalog.listing
  images_old has told = held_back did told (λ h n. HasImages h n catalog.listing) (has (told_seen told))

  -- their pages are those of segments that are listed
  pub pages_old : {kind : Keys} → AreListed kind catalog.listing seen.mapped → AreListed kind catalog.listing old.mapped
  pages_old {kind} = subst (AreListed kind catalog.listing) did.looks.mapped

  module _ (listed : AreListed IsHeapKey catalog.listing old.mapped) (checks : ChecksSegments catalog.listing old seen) where
    listed_held : IsTold old.disk → (key : PageKey) → IsHeapKey key → is_some (old.held key) ≡ true → is_some (segment_at catalog.listing key.segment) ≡ true
    listed_held told key heap is = listed key heap (sym (holds told key) ∙ is)

    sound_old : IsTold old.disk → (segment : ℕ) → is_some (segment_at catalog.listing segment) ≡ true → IsSegmentOf old.held old.slots catalog.listing segment
    sound_old told segment there = (checks segment there).is told

    noted_seen : IsTold old.disk → AreAllNoted catalog.listing seen
    noted_seen told segment there = (checks segment there).noted told

    heaps_old : IsTold old.disk → AreHeaps seen
    heaps_old told = record {
      formed = λ key bytes heap is.
          let was : old.held key ≡ Some bytes = ap (λ (h : Held). h key) (sym (held_seen told)) ∙ is in
          (noted_seen told key.segment (listed_held told key heap (ap is_some was)) key bytes (refl, heap) is).heap;
      linked = λ segment. subst (λ (h : Held). AreLinked (homes h segment) (overflows h segment)) (sym (held_seen told))
          (linked_found old.held old.slots catalog.listing (catalog_fits old catalog image link loads) (listed_held told) (held_keys old holds allowed told) (sound_old told) segment);
    }

    pub heaps_seen : IsTold seen.disk → AreHeaps seen
    heaps_seen told = heaps_old (told_back told)

    module _ {V : Type 0} {most : ℕ} {new : PagesView} {third : Result V PageFault} (did_last : ChecksPages no_page most seen new third) (small : old.slots < 4294967296) (pages : AreListed (λ key. key.space ≡ ImageSpace) catalog.listing old.mapped)
        (chains : IsTold old.disk → ChecksLinks (both old catalog)) (images : IsTold old.disk → HasImages old.held old.slots catalog.listing) where
      -- each page is one that a store may have
      only : (key : PageKey) → old.mapped key ≡ true → IsStorePage catalog.listing key
      only key there = by key.space refl
        where
          by : (space : Space) → key.space ≡ space → IsStorePage catalog.listing key
          by Home is = inr (listed key (inl is) there)
          by Overflow is = inr (listed key (inr is) there)
          by ImageSpace is = inr (pages key is there)
          by System is = inl is

      noted_now : IsTold old.disk → AreAllNoted catalog.listing new
      noted_now told segment there key bytes page is =
          let was : seen.held key ≡ Some bytes = ap (λ (h : Held). h key) (sym (did_last.looks.held (told_seen told))) ∙ is in
          subst (IsNoted key bytes) (sym (did_last.looks.step.notes_off key (λ none. none))) (noted_seen told segment there key bytes page was)

      -- all are found
      pub finds_tables : Loads old catalog → FindsTables old new catalog
      finds_tables loaded = record {
        loaded = loaded;
        only = only;
        holds = λ told. holds_found (both old catalog) small loaded.fits (λ key is. only key (sym (holds told key) ∙ is)) (held_keys old holds allowed told) (sound_old told) (chains told) (images told) (loaded.holds told);
        heaps = λ told. heaps_looked did_last.looks.step (told_seen told) (heaps_old told);
        noted = noted_now;
      }
