-- How a look at all links of a store goes on, and what it finds.
use Rattle.std.proofs.Common.{◌≡◌, inl, inr, ℕ, zero, suc, ◌+◌, ◌<◌, ◌≤◌, true, false, refl, sym, ◌∙◌, ap, subst, arith}
use Rattle.std.specs.Prelude.{Result, Ok, Err, Option, Some, None, is_some, unwrap_or}
use Rattle.std.proofs.lemmas.Bool.{cases_eq, cases_lt, true≢false}
use Rattle.std.proofs.lemmas.Option.{none-some, same_Some}
use Rattle.rss_base.specs.DiskRule.{IsTold}
use Rattle.rss_base.specs.PageMap.{IsKey}
use Rattle.rss_base.specs.Paged.{Held}
use Rattle.rss_base.specs.Steps.{PagesView, no_page}
use Rattle.rss_base.specs.Looking.{ChecksPages}
use Rattle.rss_base.specs.Listings.{Listing, numbered, names_of, link_at}
use Rattle.rss_base.specs.declared.key.PageKey.{PageKey}
use Rattle.rss_base.specs.declared.link.LinkEntry.{LinkEntry}
use Rattle.rss_base.specs.declared.refusal.Kind.TheVariants.{Link as LinkKind}
use Rattle.rss_base.specs.declared.place.Place.{Place}
use Rattle.rss_base.specs.declared.place.Place.TheVariants.{Link as LinkPlace}
use Rattle.rss_base.specs.declared.fault.PageFault.{PageFault}
use Rattle.rss_base.specs.declared.fault.PageFault.TheVariants.{Device as DeviceFailed}
use Rattle.rss_base.proofs.Steps.{all_mapped, all_held, none_changed_more}
use Rattle.rss_base.proofs.Looking.{checks_none, checks_then, checks_as}
use Rattle.rss_tuple.specs.Directory.{bodies_of}
use Rattle.rss_tuple.specs.Heaps.{AreHeaps}
use Rattle.rss_tuple.specs.TupleSteps.{TuplesCall, tuples_in, no_tuple}
use Rattle.rss_catalog.specs.Catalogs.{CatalogView}
use Rattle.rss_catalog.proofs.Numbered.{unused_none}
use Rattle.rss_link.specs.declared.link.Chains.{Chains}
use Rattle.rss_link.specs.declared.link.Relations.{Relations}
use Rattle.rss_link.specs.Calls.{seen_with}
use Rattle.rss_link.specs.Checking.{HasChains, linkage_of}
use Rattle.rss_link.specs.Links.{SpellChains}
use Rattle.rss_members.specs.Members.{of_parents, chains_of, listed_ends}
use Rattle.rss_members.proofs.Sums.{link_used}
use Rattle.rss_model.proofs.LogLists.{some_of}
use Rattle.rss_access.specs.Changes.{both}
use Rattle.rss_access.proofs.Looking.{heaps_looked}
use Rattle.rss_check.specs.Checks.{relations_of, HasOwnEnds, HasLink, ChecksLinks}
use Rattle.rss_check.specs.Lines.{Links, IsLeast}
use Rattle.rss_check.specs.Passed.{OfWrongLink}
use Rattle.rss_check.specs.Tuples.{PathsOf}
use Rattle.rss_check.proofs.NamedLinks.{IsBadLink, lists_of, link_of, link_named}

-- pages that hold the same have the same links
pub link_same : {old new : PagesView} (catalog : CatalogView) (held : new.held ≡ old.held) {number : ℕ} {link : LinkEntry} → HasLink (both old catalog) number link → HasLink (both new catalog) number link
link_same catalog held {number = number} {link = link} has = record {
  chains = record {
    lists = has.chains.lists;
    spells = subst (λ (h : Held). SpellChains (chains_of catalog.listing number link) (listed_ends link) (bodies_of h) (linkage_of (chains_of catalog.listing number link) (relations_of link) (bodies_of h) has.chains.lists)) (sym held) has.chains.spells;
  };
  no_ends = has.no_ends;
}

-- ---- one link

-- the number of the parents' relation, where there is one
pub parent_read : (above : Option ℕ) → unwrap_or above 0 ≡ of_parents (λ n. n) above
parent_read None = refl
parent_read (Some n) = refl

abbrev read : LinkEntry → ℕ → Relations
read found parent = record { child = found.child; parent = parent }

same_relations : (found : LinkEntry) (parent : ℕ) → parent ≡ of_parents (λ n. n) found.parent → read found parent ≡ relations_of found
same_relations found parent is = λ i. record { child = found.child; parent = is i }

module _ {pages : PagesView} {catalog : CatalogView} {number : ℕ} {found : LinkEntry} (at : link_at catalog.listing number ≡ Some found) (chains : Chains) (is : (link : LinkEntry) → link_at catalog.listing number ≡ Some link → chains ≡ chains_of catalog.listing number link)
    (parent : ℕ) (parent_is : parent ≡ of_parents (λ n. n) found.parent) where
  -- it was found to have its chains
  pub has_link : HasOwnEnds found → HasChains chains (read found parent) (seen_with (listed_ends found) (tuples_in pages)) → (link : LinkEntry) → link_at catalog.listing number ≡ Some link → HasLink (both pages catalog) number link
  has_link own has link link_is = subst (HasLink (both pages catalog) number) (same_Some _ _ (sym at ∙ link_is)) (record {
    chains = subst (λ (c : Chains). HasChains c (relations_of found) (seen_with (listed_ends found) (tuples_in pages))) (is found at)
        (subst (λ (r : Relations). HasChains chains r (seen_with (listed_ends found) (tuples_in pages))) (same_relations found parent parent_is) has);
    no_ends = own;
  })

  -- or not
  pub has_none : (HasChains chains (read found parent) (seen_with (listed_ends found) (tuples_in pages)) → ⊥) → (link : LinkEntry) → link_at catalog.listing number ≡ Some link → HasLink (both pages catalog) number link → ⊥
  has_none never link link_is has =
      let its : HasLink (both pages catalog) number found = subst (HasLink (both pages catalog) number) (same_Some _ _ (sym link_is ∙ at)) has in
      never (subst (λ (r : Relations). HasChains chains r (seen_with (listed_ends found) (tuples_in pages))) (sym (same_relations found parent parent_is))
      (subst (λ (c : Chains). HasChains c (relations_of found) (seen_with (listed_ends found) (tuples_in pages))) (sym (is found at)) its.chains))

-- nor has one with ends that are not its own
pub has_others : {pages : PagesView} {catalog : CatalogView} {number : ℕ} {found : LinkEntry} → link_at catalog.listing number ≡ Some found → (HasOwnEnds found → ⊥) → (link : LinkEntry) → link_at catalog.listing number ≡ Some link → HasLink (both pages catalog) number link → ⊥
has_others {found = found} at others link link_is has = others (subst HasOwnEnds (same_Some _ _ (sym link_is ∙ at)) has.no_ends)

-- ---- one link after another

looked_pages : {T : Type 0} {cost : ℕ} {old new : PagesView} {result : Result T PageFault} → TuplesCall no_page no_tuple cost (tuples_in old) (tuples_in new) result → ChecksPages no_page cost old new result
looked_pages did = record {
  looks = record {
    step = did.below.step;
    mapped = all_mapped did.below.step;
    held = λ told. all_held did.below.step told;
    changed = none_changed_more did.below.step;
    unwritten = did.below.step.unwritten (λ key none. none);
  };
  failed = did.below.failed;
}

-- The links with numbers up to this one were looked at: none of them is named, and each has its chains.
pub record LinksLooked (catalog : CatalogView) (wrong : Option ℕ) (most : ℕ) (old now : PagesView) : Type 0 where
  pub asks : ℕ
  pub did : ChecksPages {T = Unit {0}} no_page asks old now (Ok tt)
  pub heaps : IsTold old.disk → AreHeaps now
  pub passed : (k : ℕ) → 1 ≤ k → k ≤ most → wrong ≡ Some k → ⊥
  pub has : IsTold old.disk → (number : ℕ) (link : LinkEntry) → number ≤ most → link_at catalog.listing number ≡ Some link → HasLink (both old catalog) number link

-- none has the number 0
none_zero : (listing : Listing) (link : LinkEntry) → link_at listing 0 ≡ Some link → ⊥
none_zero listing link is = none-some link is

pub links_none : (catalog : CatalogView) (wrong : Option ℕ) (view : PagesView) → (IsTold view.disk → AreHeaps view) → LinksLooked catalog wrong 0 view view
links_none catalog wrong view heaps = record {
  asks = 0;
  did = checks_none {T = Unit {0}} view (Ok tt) (λ is. cc);
  heaps = heaps;
  passed = λ k low high is. omega (arith, low, high);
  has = λ told number link low at. absurd (none_zero catalog.listing link (ap (link_at catalog.listing) (zero_is number low) ∙ at));
}
  where
    zero_is : (n : ℕ) → n ≤ 0 → 0 ≡ n
    zero_is n low = omega (arith, low)

module _ {catalog : CatalogView} {wrong : Option ℕ} {most : ℕ} {old mid : PagesView} (so : LinksLooked catalog wrong most old mid) where
  told_mid : IsTold old.disk → IsTold mid.disk
  told_mid told = so.did.looks.step.passes.leaves.told.0 told

  pub heaps_mid : IsTold mid.disk → AreHeaps mid
  heaps_mid told = so.heaps (so.did.looks.step.passes.leaves.told.1 told)

  passed_more : (wrong ≡ Some (most + 1) → ⊥) → (k : ℕ) → 1 ≤ k → k ≤ most + 1 → wrong ≡ Some k → ⊥
  passed_more other k low high is = elim (cases_eq k (most + 1)) [
    | inl here ↦ other (is ∙ ap Some here)
    | inr off ↦ so.passed k low (omega (arith, high, off)) is
  ]

  -- a number that isn't in use
  pub links_past : (wrong ≡ Some (most + 1) → ⊥) → is_some (numbered (names_of LinkKind catalog.listing) (most + 1)) ≡ false → LinksLooked catalog wrong (most + 1) old mid
  links_past unnamed free = record {
    asks = so.asks;
    did = so.did;
    heaps = so.heaps;
    passed = passed_more unnamed;
    has = λ told number link low at. elim (cases_eq number (most + 1)) [
      | inl here ↦ absurd (none-some link (sym (unused_none _ (sym (link_used catalog.listing (most + 1)) ∙ free)) ∙ ap (link_at catalog.listing) (sym here) ∙ at))
      | inr other ↦ so.has told number link (omega (arith, low, other)) at
    ];
  }

  module _ {T : Type 0} {cost : ℕ} {new : PagesView} {result : Result T PageFault} (did : TuplesCall no_page no_tuple cost (tuples_in mid) (tuples_in new) result) where
    -- both looks together
    pub did_links : {U : Type 0} (other : Result U PageFault) → (other ≡ Err DeviceFailed → result ≡ Err DeviceFailed) → (asks : ℕ) × ChecksPages no_page asks old new other
    did_links other is = (so.asks + cost, checks_as other is (checks_then so.did (looked_pages did)))

    -- a link that has its chains
    pub links_more : (wrong ≡ Some (most + 1) → ⊥) → (IsTold mid.disk → (link : LinkEntry) → link_at catalog.listing (most + 1) ≡ Some link → HasLink (both mid catalog) (most + 1) link)
        → LinksLooked catalog wrong (most + 1) old new
    links_more unnamed has =
        let both_did = did_links {U = Unit {0}} (Ok tt) (λ is. cc) in
        record {
          asks = both_did.0;
          did = both_did.1;
          heaps = λ told. heaps_looked did.below.step (told_mid told) (so.heaps told);
          passed = passed_more unnamed;
          has = λ told number link low at. elim (cases_eq number (most + 1)) [
            | inl here ↦ subst (λ (n : ℕ). HasLink (both old catalog) n link) (sym here)
                (link_same catalog (sym (so.did.looks.held told)) (has (told_mid told) link (ap (link_at catalog.listing) (sym here) ∙ at)))
            | inr other ↦ so.has told number link (omega (arith, low, other)) at
          ];
        }

  -- what a bad link is before, it is of the pages that were there
  bad_before : IsTold old.disk → IsBadLink mid.held catalog.listing wrong (most + 1) → IsBadLink old.held catalog.listing wrong (most + 1)
  bad_before told = subst (λ (h : Held). IsBadLink h catalog.listing wrong (most + 1)) (so.did.looks.held told)

  -- a link isn't right
  pub link_wrong : (IsTold old.disk → (key : PageKey) → is_some (old.held key) ≡ old.mapped key) → ((key : PageKey) → old.mapped key ≡ true → IsKey old.slots key)
      → {place : Place} → place ≡ LinkPlace (most + 1) → (IsTold mid.disk → IsBadLink mid.held catalog.listing wrong (most + 1))
      → IsTold old.disk → OfWrongLink catalog wrong (λ listing. IsLeast (PathsOf old listing Links) place)
  link_wrong holds allowed named bad told listing image of =
      subst (IsLeast (PathsOf old listing Links)) (sym named)
      (link_named of (λ key is. allowed key (sym (holds told key) ∙ is)) (λ number link low at. lists_of {at = both old catalog} (so.has told number link low at)) so.passed (bad_before told (bad (told_mid told))))

  -- a link that is listed has no chains
  pub bad_link : is_some (link_at catalog.listing (most + 1)) ≡ true → ((link : LinkEntry) → link_at catalog.listing (most + 1) ≡ Some link → HasLink (both mid catalog) (most + 1) link → ⊥)
      → IsBadLink mid.held catalog.listing wrong (most + 1)
  bad_link there none = inr (there, λ link at has. none link at (link_of {at = both mid catalog} has))

  -- ---- they were all looked at

  module _ (last : (number : ℕ) → most < number → link_at catalog.listing number ≡ None) where
    within_all : (number : ℕ) (link : LinkEntry) → link_at catalog.listing number ≡ Some link → number ≤ most
    within_all number link is = elim (cases_lt most number) [
      | inl past ↦ absurd (none-some link (sym (last number past) ∙ is))
      | inr within ↦ within
    ]

    pub checks_links : IsTold old.disk → ChecksLinks (both old catalog)
    checks_links told number link at = so.has told number link (within_all number link at) at

    -- so none that is listed is named
    pub none_named : (number : ℕ) → is_some (link_at catalog.listing number) ≡ true → wrong ≡ Some number → ⊥
    none_named zero there named = true≢false (sym there)
    none_named (suc k) there named =
        let some = some_of (link_at catalog.listing (suc k)) there in
        so.passed (suc k) (omega arith) (within_all (suc k) some.0 some.1) named
