-- The place that a load names is that of the first flaw.
use Rattle.std.proofs.Common.{◌≡◌, ℕ, ◌<◌, true, ◌∙◌}
use Rattle.std.specs.Prelude.{is_some, Result, Err}
use Rattle.rss_base.specs.Paged.{Held, page_key}
use Rattle.rss_base.specs.DiskRule.{IsTold}
use Rattle.rss_base.specs.Steps.{PagesView}
use Rattle.rss_base.specs.declared.key.PageKey.{PageKey}
use Rattle.rss_base.specs.declared.key.Space.TheVariants.{System}
use Rattle.rss_base.specs.declared.place.Place.{Place}
use Rattle.rss_base.specs.declared.place.Place.TheVariants.{Catalog as CatalogPlace}
use Rattle.rss_base.specs.declared.fault.PageFault.{PageFault}
use Rattle.rss_base.specs.declared.fault.PageFault.TheVariants.{Damaged}
use Rattle.rss_catalog.specs.Catalogs.{IsCatalogPlace, HasSystemPages}
use Rattle.rss_catalog.specs.Defined.{IsFirstFlaw, NamesFirst, unmapped}
use Rattle.rss_catalog.specs.Loading.{IsFirstUnmapped}
use Rattle.rss_catalog.proofs.Numbered.{unused_none}

-- what is mapped holds something
abbrev pub HoldsMapped : PagesView → Type 0
HoldsMapped view = IsTold view.disk → (key : PageKey) → is_some (view.held key) ≡ view.mapped key

pub first_unheld : (view : PagesView) (page : ℕ) → HoldsMapped view → IsTold view.disk → IsFirstUnmapped view.mapped page → IsFirstFlaw view.held page
first_unheld view page holds told first = unmapped first.within (unused_none (view.held (page_key 0 System page)) (holds told (page_key 0 System page) ∙ first.is)) (λ p less. holds told (page_key 0 System p) ∙ first.before p less)

pub all_there : (view : PagesView) → HoldsMapped view → IsTold view.disk → HasSystemPages view.mapped → (p : ℕ) → p < 10 → is_some (view.held (page_key 0 System p)) ≡ true
all_there view holds told has p low = holds told (page_key 0 System p) ∙ has p low

-- the page that was named
pub names_page : {T : Type 0} {held : Held} (fault : PageFault) (place : Place) (page : ℕ) → fault ≡ Damaged (CatalogPlace page) → ◌≡◌ {A = Result T PageFault} (Err fault) (Err (Damaged place)) → IsFirstFlaw held page → NamesFirst held place
names_page fault place page is same first = record { page = page; is = cc; first = first }

pub catalog_place : {T : Type 0} (fault : PageFault) (place : Place) (page : ℕ) → fault ≡ Damaged (CatalogPlace page) → page < 10 → ◌≡◌ {A = Result T PageFault} (Err fault) (Err (Damaged place)) → IsCatalogPlace place
catalog_place fault place page is low same = record { page = page; low = low; is = cc }
