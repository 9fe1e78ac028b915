-- Which link is named: what was found of a catalog is so of the listing whose catalog it is.
use Rattle.std.proofs.Common.{◌≡◌, ◌⊎◌, inl, inr, ℕ, ◌+◌, ◌<◌, ◌≤◌, Bool, true, List, [], ◌∷◌, ◌++◌, refl, sym, ◌∙◌, ap, subst, arith}
use Rattle.std.specs.Prelude.{Option, Some, None, is_some, not as negated, ◌&&◌}
use Rattle.std.proofs.lemmas.Bool.{cond-true, true≢false, false≢true, le-leb}
use Rattle.std.proofs.lemmas.Option.{none-some, same_Some}
use Rattle.rss_base.specs.Listings.{Listing, link_at}
use Rattle.rss_base.specs.PageMap.{IsKey}
use Rattle.rss_base.specs.Paged.{Held}
use Rattle.rss_base.specs.Prefixes.{Ends, first_of, ends_of}
use Rattle.rss_base.specs.declared.key.PageKey.{PageKey}
use Rattle.rss_base.specs.declared.link.LinkEntry.{LinkEntry}
use Rattle.rss_base.specs.declared.place.Place.{Place}
use Rattle.rss_base.specs.declared.place.Place.TheVariants.{Link as LinkPlace}
use Rattle.rss_base.specs.declared.tid.Tid.{Tid}
use Rattle.rss_tuple.specs.Directory.{bodies_of}
use Rattle.rss_catalog.specs.Catalogs.{CatalogView}
use Rattle.rss_catalog.specs.Defined.{is_end, has_ends, mended, completed, IsCatalogOf}
use Rattle.rss_catalog.proofs.Fronts.{map_has, has_map}
use Rattle.rss_link.specs.declared.link.Chains.{Chains}
use Rattle.rss_link.specs.Chains.{Linkage, Stands, IsParent}
use Rattle.rss_link.specs.Checking.{begins_with, linkage_of}
use Rattle.rss_link.proofs.Lists.{last_is}
use Rattle.rss_members.specs.Members.{chains_of, listed_ends}
use Rattle.rss_model.proofs.LogLists.{some_of}
use Rattle.rss_access.specs.Changes.{AccessView}
use Rattle.rss_check.specs.Checks.{HasLink, relations_of}
use Rattle.rss_check.specs.Lines.{Line, Links, line_number, ComesBefore, IsFirst, IsLeast}
use Rattle.rss_check.specs.Rows.{HasLists}
use Rattle.rss_check.specs.Tuples.{BreaksPaths, link_in}
use Rattle.rss_check.proofs.Completing.{lists_completed, lists_listed}
use Rattle.rss_check.proofs.FirstWrong.{listed_as, right_before, none_wrong, named_wrong, later_wrong}
use Rattle.rss_check.proofs.Found.{named_in}
use Rattle.rss_check.proofs.Orders.{before_one}

-- a link's chains, as they are said of pages alone
pub lists_of : {at : AccessView} {number : ℕ} {link : LinkEntry} → HasLink at number link
    → HasLists at.pages.held at.catalog.listing number link
lists_of has = record { lists = has.chains.lists; spells = has.chains.spells; no_ends = has.no_ends }

pub link_of : {at : AccessView} {number : ℕ} {link : LinkEntry}
    → HasLists at.pages.held at.catalog.listing number link → HasLink at number link
link_of has = record { chains = record { lists = has.lists; spells = has.spells }; no_ends = has.no_ends }

-- ---- ends that are identifiers

some_body : (number : ℕ) (found : Option (List ℕ)) → begins_with number found ≡ true
    → (body : List ℕ) × (found ≡ Some body)
some_body number None is = absurd (true≢false (sym is))
some_body number (Some body) is = (body, refl)

first_is : (list : List Tid) (tid : Tid) → first_of list ≡ Some tid → (rest : List Tid) × (list ≡ [] ++ tid ∷ rest)
first_is [] tid is = absurd (none-some tid is)
first_is (other ∷ rest) tid is = (rest, ap (λ (t : Tid). t ∷ rest) (same_Some other tid is))

right_end : (end : Option Tid) → ((tid : Tid) → end ≡ Some tid → tid.slot < 128) → is_end end ≡ true
right_end None low = refl
right_end (Some tid) low = le-leb (1 + tid.slot) 128 (let less = low tid refl in omega (arith, less))

module _ {held : Held} {slots : ℕ} (allowed : (key : PageKey) → is_some (held key) ≡ true → IsKey slots key)
    {listing : Listing} {number : ℕ} {link : LinkEntry} (has : HasLists held listing number link) where
  abbrev chains : Chains
  chains = chains_of listing number link

  abbrev linkage : Linkage
  linkage = linkage_of chains (relations_of link) (bodies_of held) has.lists

  -- what stands in a chain is the entry of a page
  stands_low : (tid : Tid) → Stands has.lists tid → tid.slot < 128
  stands_low tid stands =
      let body = some_body link.child (bodies_of held chains.child_segment tid)
      (has.spells.chains.children tid stands) in
      (named_in held slots allowed chains.child_segment tid body.0 body.1).named.slot

  -- a link with one chain has its ends
  own_ends : link.parent ≡ None → listed_ends link ≡ ends_of (has.lists None)
  own_ends none =
      let unary : true ≡ negated (is_some link.parent) = ap (λ (o : Option ℕ). negated (is_some o)) (sym none) in
      has.spells.chains.ends None (subst (λ (u : Bool). IsParent u linkage.parents None) unary tt)

  -- so no end is listed that is none
  pub ended : has_ends link ≡ true
  ended = by link.parent refl
    where
      by : (above : Option ℕ) → link.parent ≡ above → has_ends link ≡ true
      by (Some parent) is =
          let none = has.no_ends (ap is_some is) in
          λ i. is_end (none.0 i) && is_end (none.1 i)
      by None is =
          let ends = own_ends is in
          let first : is_end link.first ≡ true = right_end link.first (λ tid at.
          let there = first_is (has.lists None) tid (sym (ap (λ (e : Ends). e.first) ends) ∙ at) in
          stands_low tid (record { parent = None; before = []; after = there.0; is = there.1 })) in
          let last : is_end link.last ≡ true = right_end link.last (λ tid at.
          let there = last_is (has.lists None) tid (sym (ap (λ (e : Ends). e.last) ends) ∙ at) in
          stands_low tid (record { parent = None; before = there.0; after = []; is = there.1 })) in
          λ i. first i && last i

ends_same : (link : LinkEntry) → has_ends link ≡ true → mended link ≡ link
ends_same link has = cond-true (has_ends link) _ _ has

-- ---- a listing and its catalog

-- the link of this number is named, or it is listed and has no chains
abbrev pub IsBadLink : Held → Listing → Option ℕ → ℕ → Type 0
IsBadLink held listing wrong number =
    (wrong ≡ Some number) ⊎ ((is_some (link_at listing number) ≡ true)
    × ((link : LinkEntry) → link_at listing number ≡ Some link → HasLists held listing number link → ⊥))

module _ {listing : Listing} {catalog : CatalogView} {other_wrong wrong : Option ℕ}
    (of : IsCatalogOf listing catalog other_wrong wrong) where
  at_catalog : (number : ℕ) (link : LinkEntry) → link_at listing number ≡ Some link
      → link_at catalog.listing number ≡ Some (mended link)
  at_catalog number link at = ap (λ (l : Listing). link_at l number) (listed_as of)
      ∙ has_map mended listing.links number link at

  to_catalog : (number : ℕ) (link : LinkEntry) → has_ends link ≡ true → link_at listing number ≡ Some link
      → link_at catalog.listing number ≡ Some link
  to_catalog number link has at = at_catalog number link at ∙ ap Some (ends_same link has)

  module _ {held : Held} where
    lists_to : {number : ℕ} {link : LinkEntry} → HasLists held listing number link
        → HasLists held catalog.listing number link
    lists_to {number} {link} has = subst (λ (l : Listing). HasLists held l number link) (sym (listed_as of))
        (lists_completed listing has)

    lists_from : {number : ℕ} {link : LinkEntry} → HasLists held catalog.listing number link
        → HasLists held listing number link
    lists_from {number} {link} has = lists_listed listing
        (subst (λ (l : Listing). HasLists held l number link) (listed_as of) has)

    module _ {slots : ℕ} (allowed : (key : PageKey) → is_some (held key) ≡ true → IsKey slots key) where
      -- ---- a link isn't right

      module _ {most : ℕ} (so : (number : ℕ) (link : LinkEntry) → number ≤ most
          → link_at catalog.listing number ≡ Some link → HasLists held catalog.listing number link)
          (passed : (k : ℕ) → 1 ≤ k → k ≤ most → wrong ≡ Some k → ⊥) where
        none_before : {place : Place} → BreaksPaths held slots listing Links place
            → ComesBefore place (LinkPlace (most + 1)) → ⊥
        none_before (link_in number link at not) before =
            let low : number < most + 1 = before_one number (most + 1) before in
            let right = right_before has_ends listing.links wrong of.link_first of.links_right number link
            (λ m is. let later = later_wrong has_ends listing.links wrong of.link_first passed m is in omega
            (arith, low, later)) at in
            not (lists_from (so number link (omega (arith, low)) (to_catalog number link right at)))

        broken : IsBadLink held catalog.listing wrong (most + 1)
            → BreaksPaths held slots listing Links (LinkPlace (most + 1))
        broken (inl named) =
            let it = named_wrong has_ends listing.links wrong (most + 1) of.link_first named in
            link_in (most + 1) it.item it.at (λ has. false≢true (sym it.wrong ∙ ended allowed has))
        broken (inr bare) =
            let some = some_of (link_at catalog.listing (most + 1)) bare.0 in
            let entry = map_has mended listing.links (most + 1) some.0
            (ap (λ (l : Listing). link_at l (most + 1)) (sym (listed_as of)) ∙ some.1) in
            link_in (most + 1) entry.0 entry.1
            (λ has. bare.1 entry.0 (to_catalog (most + 1) entry.0 (ended allowed has) entry.1) (lists_to has))

        pub link_named : IsBadLink held catalog.listing wrong (most + 1)
            → IsLeast (BreaksPaths held slots listing Links) (LinkPlace (most + 1))
        link_named bad = record { breaks = broken bad; least = λ at is before. none_before is before }

    -- ---- each is

    pub links_unbroken : wrong ≡ None
        → ((number : ℕ) (link : LinkEntry) → link_at catalog.listing number ≡ Some link
        → HasLists held catalog.listing number link)
        → {slots : ℕ} {place : Place} → BreaksPaths held slots listing Links place → ⊥
    links_unbroken no_wrong so (link_in number link at not) =
        let right = right_before has_ends listing.links wrong of.link_first of.links_right number link
        (λ m is. absurd (none-some m (sym no_wrong ∙ is))) at in
        not (lists_from (so number link (to_catalog number link right at)))

  -- no link is named
  pub no_wrong_link : ((number : ℕ) → is_some (link_at catalog.listing number) ≡ true → wrong ≡ Some number → ⊥)
      → wrong ≡ None
  no_wrong_link right = none_wrong has_ends listing.links wrong of.link_first
      (λ number link at. right number (ap is_some (at_catalog number link at)))

-- of the places of one line the first is the first of all, where no earlier line is broken
pub least_first : {held : Held} {slots : ℕ} {listing : Listing} {place : Place}
    → ((line : Line) (at : Place) → line_number line ≤ 8 → BreaksPaths held slots listing line at → ⊥)
    → IsLeast (BreaksPaths held slots listing Links) place → IsFirst (BreaksPaths held slots listing) place
least_first none least = record {
  line = Links;
  breaks = least.breaks;
  earlier = λ line at low is. none line at (omega (arith, low)) is;
  least = least.least;
}
