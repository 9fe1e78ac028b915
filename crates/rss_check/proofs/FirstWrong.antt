-- Items before the first one that is wrong by itself, and what a catalog lists, which has each one mended.
use Rattle.std.proofs.Common.{◌≡◌, inl, inr, ℕ, ◌<◌, ◌≤◌, Bool, true, List, refl, ap, subst}
use Rattle.std.specs.Prelude.{Option, Some, None, IfSome, IfNone}
use Rattle.std.proofs.lemmas.Bool.{cases_lt}
use Rattle.rss_base.specs.Listings.{Listing, numbered}
use Rattle.rss_catalog.specs.Catalogs.{CatalogView}
use Rattle.rss_catalog.specs.Defined.{completed, AreRight, IsFirstWrong, IsCatalogOf}
use Rattle.rss_catalog.proofs.Numbered.{numbered_within}

module _ {X : Type 0} (right : X → Bool) (items : List (Option X)) where
  -- an item before the first wrong one is right
  pub right_before : (wrong : Option ℕ) → IfSome wrong (IsFirstWrong right items) → IfNone wrong (AreRight right items)
      → (number : ℕ) (item : X) → ((m : ℕ) → wrong ≡ Some m → number < m) → numbered items number ≡ Some item
      → right item ≡ true
  right_before None first all number item before at = all number item at
  right_before (Some m) first all number item before at = first.lesser number item (before m refl) at

  -- nothing is wrong where no item is named
  pub none_wrong : (wrong : Option ℕ) → IfSome wrong (IsFirstWrong right items)
      → ((number : ℕ) (item : X) → numbered items number ≡ Some item → wrong ≡ Some number → ⊥) → wrong ≡ None
  none_wrong None first not = refl
  none_wrong (Some m) first not = absurd (not m first.item first.at refl)

  -- the item that is named
  pub named_wrong : (wrong : Option ℕ) (number : ℕ) → IfSome wrong (IsFirstWrong right items) → wrong ≡ Some number
      → IsFirstWrong right items number
  named_wrong wrong number first is = subst (λ (o : Option ℕ). IfSome o (IsFirstWrong right items)) is first

  -- it has a number above these, where it has none of them
  pub later_wrong : (wrong : Option ℕ) → IfSome wrong (IsFirstWrong right items) → {most : ℕ}
      → ((k : ℕ) → 1 ≤ k → k ≤ most → wrong ≡ Some k → ⊥) → (m : ℕ) → wrong ≡ Some m → most < m
  later_wrong wrong first {most} passed m is = elim (cases_lt most m) [
    | inl more ↦ more
    | inr few ↦
        let it = named_wrong wrong m first is in
        absurd (passed m (numbered_within items m it.item it.at).0 few is)
  ]

-- what a catalog lists
pub listed_as : {listing : Listing} {catalog : CatalogView} {image link : Option ℕ}
    → IsCatalogOf listing catalog image link → catalog.listing ≡ completed listing
listed_as of = ap (λ (v : CatalogView). v.listing) of.is
