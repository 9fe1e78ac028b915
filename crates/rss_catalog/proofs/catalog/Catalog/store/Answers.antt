use Rattle.std.proofs.Common.{◌<◌, ◌∙◌, ap, sym, length, get_or, false, arith}
use Rattle.rss_base.specs.Paged.{Mapped, page_key}
use Rattle.rss_base.specs.declared.key.Space.TheVariants.{System}
use Rattle.rss_catalog.specs.Catalogs.{CatalogView}
use Rattle.rss_catalog.proofs.Stored.{stored_skip, stored_one, stored_all, stored_listing, store_fails}
use Rattle.rss_catalog.proofs.catalog.Catalog.store.Goals as goal
use Rattle.rss_catalog.proofs.catalog.Catalog.store.Goals.{then-self-number+in_ok-write, else-self-number}

pub write-requires : goal.write-requires
write-requires g c = ap (g.P.Pages.view c.loop-number.pages).mapped c.key_of.ensures ∙ ap (λ (m : Mapped). m (page_key 0 System c.loop-number.number)) c.loop-number.invariant.mapped ∙ c.requires c.loop-number.number c.loop-number-test.true

pub loop-number-preserved : goal.loop-number-preserved
loop-number-preserved g c =
    let catalog = c.args.self.now in
    let number = c.loop-number.number in
    let low : number < length catalog.pending = omega (arith, c.loop-number-test.true, c.self.told, ap (λ (v : CatalogView). length v.pending) c.self.view_is) in
    let read = ap (λ (v : CatalogView). get_or v.pending number false) (sym c.self.view_is) in
    elim c.if-self-number.branch [
      | then-self-number+in_ok-write w ↦ rw w.pages-is (stored_one catalog number _ _ _ _ _ c.loop-number.invariant low (read ∙ w.if-self-number.true) w.key_of.ensures w.page.ensures w.in_ok-write.ensures.written w.in_ok-write.ensures.did.step)
      | else-self-number w ↦ rw w.pages-is (stored_skip catalog number _ _ c.loop-number.invariant low (read ∙ w.if-self-number.false))
    ]

pub returns-in_err-write-clause-did : goal.returns-in_err-write-clause-did
returns-in_err-write-clause-did g c =
    store_fails c.args.self.now c.loop-number.number _ _ _ _ _ c.loop-number.invariant (omega (arith, c.loop-number-test.true, c.self.told, ap (λ (v : CatalogView). length v.pending) c.self.view_is))
    (ap (λ (v : CatalogView). get_or v.pending c.loop-number.number false) (sym c.self.view_is) ∙ c.if-self-number.true) c.from_residual.ensures.1 c.in_err-write.ensures.did

pub returns-clause-did : goal.returns-clause-did
returns-clause-did g c = stored_all c.args.self.now c.loop-number.number _ _ c.loop-number.invariant (omega (arith, c.loop-number-test.false, c.self.told, ap (λ (v : CatalogView). length v.pending) c.self.view_is))

pub returns-clause-stores : goal.returns-clause-stores
returns-clause-stores g c = stored_listing c.args.self.now c.loop-number.number _ _ c.loop-number.invariant (omega (arith, c.loop-number-test.false, c.self.told, ap (λ (v : CatalogView). length v.pending) c.self.view_is))
