-- Fields and links are asked where the version is below the one that may have them.
use Rattle.std.proofs.Common.{◌∙◌, ap, sym, subst, arith}
use Rattle.rss_catalog.specs.Catalogs.{CatalogView}
use Rattle.rss_catalog.specs.Checking.{AreAllOriginal, AreAllEarly}
use Rattle.rss_catalog.proofs.catalog.Catalog.suits_version.Goals.{else-version-lt2-via-then-version-lt2+else-not-are_all_original, else-version-lt2-via-else-version-lt2}
use Rattle.rss_catalog.proofs.catalog.Catalog.suits_version.Goals as goal

pub returns-then-not-are_all_original : goal.returns-then-not-are_all_original
returns-then-not-are_all_original c =
    let same = c.deref.ensures.value ∙ ap (λ (v : CatalogView). v.listing.relations) c.self.view_is in (
      λ it. absurd (cc),
      λ suits. sym c.if-not-are_all_original.true ∙ c.are_all_original.ensures.1 (subst AreAllOriginal (sym same) (suits.fields c.if-version-lt2.true)),
    )

pub returns-else-version-ge3 : goal.returns-else-version-ge3
returns-else-version-ge3 c =
    let links = c.deref-else-version-ge3.ensures.value ∙ ap (λ (v : CatalogView). v.listing.links) c.self.view_is in (
      λ it. record {
        fields = λ low. elim c.else-version-lt2.branch [
          | else-version-lt2-via-then-version-lt2+else-not-are_all_original w ↦
              subst AreAllOriginal (w.deref.ensures.value ∙ ap (λ (v : CatalogView). v.listing.relations) c.self.view_is) (w.are_all_original.ensures.0 w.if-not-are_all_original.false)
          | else-version-lt2-via-else-version-lt2 w ↦ absurd (omega (arith, low, w.if-version-lt2.false))
        ];
        links = λ low. subst AreAllEarly links (c.are_all_early.ensures.0 it);
      },
      λ suits. c.are_all_early.ensures.1 (subst AreAllEarly (sym links) (suits.links (omega (arith, c.if-version-ge3.false)))),
    )
