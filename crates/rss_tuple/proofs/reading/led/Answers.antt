use Rattle.std.proofs.Common.{◌≡◌, ◌∙◌, inr, sym, ap, subst}
use Rattle.rss_base.specs.declared.key.PageKey.{PageKey}
use Rattle.rss_page.specs.Content.{Forward}
use Rattle.rss_tuple.specs.Directory.{content_at, body_by, body_in, homes, overflows}
use Rattle.rss_tuple.specs.Heaps.{HasBody}
use Rattle.rss_tuple.specs.Finding.{IsHeldBy, IsInForm}
use Rattle.rss_tuple.proofs.Located.{stands_so}
use Rattle.rss_tuple.proofs.reading.led.Goals as goal

pub returns-in-Empty-clause-found : goal.returns-in-Empty-clause-found
returns-in-Empty-clause-found g c = λ told.
    let held = (g.P.Pages.view c.args.pages.now).held in
    let found = subst (IsHeldBy held c.args.key (content_at held c.args.key c.args.tid.slot)) c.in-Empty.is (c.requires.holds told) in
    ap (body_by (overflows held c.args.segment)) (ap (λ (k : PageKey). content_at held k c.args.tid.slot) (sym c.requires.key) ∙ found)

pub returns-in-Here-clause-found : goal.returns-in-Here-clause-found
returns-in-Here-clause-found g c = λ told.
    let held = (g.P.Pages.view c.args.pages.now).held in
    let found = subst (IsHeldBy held c.args.key (content_at held c.args.key c.args.tid.slot)) c.in-Here.is (c.requires.holds told) in
    stands_so (λ bytes is. ap (body_by (overflows held c.args.segment)) (ap (λ (k : PageKey). content_at held k c.args.tid.slot) (sym c.requires.key) ∙ is)) found

pub returns-in-Here-clause-there : goal.returns-in-Here-clause-there
returns-in-Here-clause-there g c = subst (IsInForm (g.P.Pages.view c.args.pages.now) c.args.key) c.in-Here.is c.requires.formed

pub follow-requires-clause-may : goal.follow-requires-clause-may
follow-requires-clause-may g c = record {
  heap = inr (ap (λ (k : PageKey). k.space) c.overflow.ensures);
  low = subst (IsInForm (g.P.Pages.view c.args.pages.now) c.args.key) c.in-Forward.is c.requires.formed;
  formed = λ told. (c.requires.heaps told).formed;
}

pub follow-requires-clause-body : goal.follow-requires-clause-body
follow-requires-clause-body g c = λ told.
    let held = (g.P.Pages.view c.args.pages.now).held in
    let found = subst (IsHeldBy held c.args.key (content_at held c.args.key c.args.tid.slot)) c.in-Forward.is (c.requires.holds told) in
    let leads : homes held c.args.segment c.args.tid.page c.args.tid.slot ≡ Forward c.in-Forward.page c.in-Forward.slot = sym (ap (λ (k : PageKey). content_at held k c.args.tid.slot) c.requires.key) ∙ found in
    subst HasBody (sym (ap (λ (k : PageKey). content_at held k c.in-Forward.slot) c.overflow.ensures))
    (((c.requires.heaps told).linked c.args.segment).leads c.args.tid.page c.args.tid.slot c.in-Forward.page c.in-Forward.slot leads)

pub returns-in_ok-at-in-Forward-clause-found : goal.returns-in_ok-at-in-Forward-clause-found
returns-in_ok-at-in-Forward-clause-found g c = λ told.
    let held = (g.P.Pages.view c.args.pages.now).held in
    let found = subst (IsHeldBy held c.args.key (content_at held c.args.key c.args.tid.slot)) c.in-Forward.is (c.requires.holds told) in
    let leads : homes held c.args.segment c.args.tid.page c.args.tid.slot ≡ Forward c.in-Forward.page c.in-Forward.slot = sym (ap (λ (k : PageKey). content_at held k c.args.tid.slot) c.requires.key) ∙ found in
    let same = sym (ap (λ (k : PageKey). content_at held k c.in-Forward.slot) c.overflow.ensures) in
    stands_so (λ bytes is. ap (body_by (overflows held c.args.segment)) leads ∙ ap body_in (same ∙ is)) (c.in_ok-at-in-Forward.ensures.body told)
