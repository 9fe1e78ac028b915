use Rattle.std.proofs.Common.{◌≡◌, ℕ, ◌+◌, length, ◌∙◌, sym, ap, arith}
use Rattle.rss_base.specs.PageMap.{page_count}
use Rattle.rss_base.specs.Paged.{mapped_of, mapped_pages}
use Rattle.rss_base.specs.Sizes.{system_pages}
use Rattle.rss_base.specs.Steps.{PagesView}
use Rattle.rss_base.specs.StoredPages.{mapped_by}
use Rattle.rss_base.specs.declared.key.Space.TheVariants.{Image}
use Rattle.rss_shadow.specs.Maps.{Maps}
use Rattle.rss_buffer.specs.Saving.{SavingView, AreSaveable}
use Rattle.rss_catalog.specs.Catalogs.{HasSystemPages}
use Rattle.rss_stored.proofs.StorePages.{pages_split}
use Rattle.rss_access.specs.Written.{heap_now}
use Rattle.rss_store.proofs.Read.{current_counted}
use Rattle.rss_store.proofs.store.DurableStore.heap.Goals as goal

-- the home and overflow pages with those of images and of the system space
counted : {pages : PagesView} {saving : SavingView} (maps : Maps) (mapped images : ℕ) → AreSaveable pages saving → HasSystemPages pages.mapped → maps.current ≡ saving.current → mapped ≡ page_count maps.current → images ≡ mapped_of (mapped_by maps.current) Image (length maps.current) → mapped ≡ heap_now pages + images + system_pages
counted {pages = pages} maps mapped images saveable system same count of_images =
    let all : mapped ≡ mapped_pages pages.slots pages.mapped = count ∙ ap page_count same ∙ sym (current_counted saveable) in
    let image_pages : images ≡ mapped_of pages.mapped Image pages.slots = of_images ∙ (λ i. mapped_of (mapped_by (same i)) Image (length (same i))) ∙ (λ i. mapped_of (sym saveable.mapped i) Image (sym saveable.slots i)) in
    omega (arith, all, image_pages, pages_split pages.mapped pages.slots system)

pub overflow_sub-result : goal.overflow_sub-result
overflow_sub-result g c = omega (arith, counted c.shadow-pages.result.now c.mapped.result c.image_pages.result (g.met.S.Saving.saveable c.args.self.now.tuples.pages) c.requires.system (ap (λ (m : Maps). m.current) c.shadow-pages.ensures) c.mapped.ensures c.image_pages.ensures)

pub overflow_sub-result-2 : goal.overflow_sub-result-2
overflow_sub-result-2 g c = omega (arith, counted c.shadow-pages.result.now c.mapped.result c.image_pages.result (g.met.S.Saving.saveable c.args.self.now.tuples.pages) c.requires.system (ap (λ (m : Maps). m.current) c.shadow-pages.ensures) c.mapped.ensures c.image_pages.ensures)

pub returns : goal.returns
returns g c = omega (arith, counted c.shadow-pages.result.now c.mapped.result c.image_pages.result (g.met.S.Saving.saveable c.args.self.now.tuples.pages) c.requires.system (ap (λ (m : Maps). m.current) c.shadow-pages.ensures) c.mapped.ensures c.image_pages.ensures)
