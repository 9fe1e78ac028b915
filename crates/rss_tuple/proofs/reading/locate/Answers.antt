use Rattle.std.proofs.Common.{◌≡◌, inl, refl, sym, ap, subst, arith}
use Rattle.std.specs.Prelude.{Option, None, List, ℕ}
use Rattle.rss_base.specs.Paged.{Held, page_key}
use Rattle.rss_base.specs.declared.key.PageKey.{PageKey}
use Rattle.rss_base.specs.declared.key.Space.TheVariants.{Home}
use Rattle.rss_base.proofs.Steps.{all_held, then_call}
use Rattle.rss_page.specs.Content.{Content}
use Rattle.rss_tuple.specs.Directory.{body_by, overflows, bodies_of}
use Rattle.rss_tuple.specs.Finding.{IsHeldBy}
use Rattle.rss_tuple.specs.Located.{IsLocated}
use Rattle.rss_tuple.proofs.Seen.{high_empty, heaps_after, content_after, if_ok_then}
use Rattle.rss_tuple.proofs.reading.locate.Goals as goal

pub returns-then-tid-from-clause-found : goal.returns-then-tid-from-clause-found
returns-then-tid-from-clause-found g c = λ told.
    let view = g.P.Pages.view c.args.pages.now in
    let none = high_empty view.held (page_key c.args.segment Home c.args.tid.page) c.args.tid.slot (omega (arith, c.from.ensures, c.if-tid-from.true)) in
    subst (λ (content : Content). body_by (overflows view.held c.args.segment) content ≡ None) (sym none) refl

pub look-requires : goal.look-requires
look-requires g c = record {
  heap = inl (ap (λ (k : PageKey). k.space) c.home-key.ensures);
  low = omega (arith, c.from.ensures, c.if-tid-from.false);
  formed = λ told. (c.requires told).formed;
}

pub led-requires-clause-heaps : goal.led-requires-clause-heaps
led-requires-clause-heaps g c = heaps_after c.in_ok-found.ensures.did.step c.requires

pub led-requires-clause-holds : goal.led-requires-clause-holds
led-requires-clause-holds g c = λ told.
    let step = c.in_ok-found.ensures.did.step in
    let before = step.passes.leaves.told.1 told in
    subst (λ (content : Content). IsHeldBy (g.P.Pages.view c.look.new.pages).held c.home-key.result content c.in_ok-found.found) (sym (content_after step c.home-key.result c.args.tid.slot before)) (c.in_ok-found.ensures.found before)

pub returns-clause-found : goal.returns-clause-found
returns-clause-found g c =
    let step = c.in_ok-found.ensures.did.step in
    if_ok_then c.led.result (λ found is told.
    subst (λ (body : Option (List ℕ)). IsLocated (g.P.Pages.view c.led.new.pages).held body found) (ap (λ (h : Held). bodies_of h c.args.segment c.args.tid) (all_held step told)) (is (step.passes.leaves.told.0 told))) c.led.ensures.found

pub returns-clause-did : goal.returns-clause-did
returns-clause-did g c = then_call c.in_ok-found.ensures.did.step c.led.ensures.did
