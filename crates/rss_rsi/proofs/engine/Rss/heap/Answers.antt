use Rattle.std.proofs.Common.{arith}
use Rattle.rss_stored.proofs.StorePages.{pages_split}
use Rattle.rss_rsi.proofs.engine.Rss.heap.Goals as goal

pub returns : goal.returns
returns g c = λ up.
    let ready = (c.args.self.now.ready up).session.store in
    let pages = g.S.Pages.view c.args.self.now.session.store.tuples.pages in
    omega (arith, c.mapped.ensures, c.image_pages.ensures, c.saturating_sub.ensures, c.saturating_sub-2.ensures, pages_split pages.mapped pages.slots ready.system)
