use Rattle.std.proofs.Common.{rules, ◌≡◌, ◌∙◌, false, Some, sym, ap, subst}
use Rattle.rss_base.specs.DiskRule.{IsTold}
use Rattle.rss_base.specs.Paged.{Held, page_key}
use Rattle.rss_base.specs.declared.key.PageKey.{PageKey}
use Rattle.rss_base.specs.declared.key.Space.TheVariants.{Overflow}
use Rattle.rss_page.specs.Content.{Content}
use Rattle.rss_page.specs.Slotted.{entries}
use Rattle.rss_page.specs.Surveyed.{held_at}
use Rattle.rss_tuple.specs.Checked.{row_of}
use Rattle.rss_tuple.specs.Directory.{overflows, body_in}
use Rattle.rss_tuple.specs.Looks.{Sees}
use Rattle.rss_base.proofs.Looking.{looks_none}
use Rattle.rss_tuple.proofs.Looks.{looks_done}
use Rattle.rss_tuple.proofs.Followed.{holds_moved, content_of_page, leads_somewhere, leads_to_good}
use Rattle.rss_tuple.proofs.checking.follow.Goals as goal
use Rattle.rss_tuple.proofs.checking.follow.Goals.{After-show_moved}

-- the page that was looked at
page_there : (g : _) (c : After-show_moved g) → IsTold (g.P.Pages.view c.args.pages.now).disk → (g.P.Pages.view c.args.pages.now).held (page_key c.args.segment Overflow c.args.to.page) ≡ Some c.loaded.result.now
page_there g c told =
    let looks = c.in_ok-bring.ensures.did.looks in
    ap (λ (h : Held). h (page_key c.args.segment Overflow c.args.to.page)) (sym (looks.held told)) ∙ ap (λ (key : PageKey). (g.P.Pages.view c.bring.new.pages).held key) (sym c.overflow-key.ensures) ∙ c.loaded.ensures (looks.step.passes.leaves.told.0 told)

-- the entry in it
entry_there : (g : _) (c : After-show_moved g) → IsTold (g.P.Pages.view c.args.pages.now).disk → overflows (g.P.Pages.view c.args.pages.now).held c.args.segment c.args.to.page c.args.to.slot ≡ held_at (entries c.loaded.result.now) c.args.to.slot
entry_there g c told = content_of_page (g.P.Pages.view c.args.pages.now).held c.args.segment c.args.to.page c.args.to.slot c.loaded.result.now (page_there g c told)

pub returns-then-not-has-clause-wrong : goal.returns-then-not-has-clause-wrong
returns-then-not-has-clause-wrong g c = λ not told stands.
    let old = g.P.Pages.view c.args.pages.now in
    let unmapped : old.mapped (page_key c.args.segment Overflow c.args.to.page) ≡ false = ap (λ (key : PageKey). old.mapped key) (sym c.overflow-key.ensures) ∙ search rules in
    leads_somewhere old.held c.args.segment c.args.led.now (g.V.Visitor.is_good c.args.visitor.now) c.args.to.page c.args.to.slot stands (g.met.P.Pages.holds c.args.pages.now told (page_key c.args.segment Overflow c.args.to.page) ∙ unmapped)

pub returns-then-not-has-clause-did : goal.returns-then-not-has-clause-did
returns-then-not-has-clause-did g c = looks_done _ (looks_none _)

pub returns-then-not-mark-clause-did : goal.returns-then-not-mark-clause-did
returns-then-not-mark-clause-did g c = looks_done _ (looks_none _)

pub returns-clause-holds : goal.returns-clause-holds
returns-clause-holds g c = λ yes told. holds_moved (overflows (g.P.Pages.view c.args.pages.now).held c.args.segment) c.args.led.now (g.V.Visitor.is_good c.args.visitor.now) c.args.to.page c.args.to.slot _ (entry_there g (goal.at.returns-clause-holds g c).After-show_moved told) (c.mark.ensures.fresh.0 (search rules)) (c.show_moved.ensures.good yes)

pub returns-clause-wrong : goal.returns-clause-wrong
returns-clause-wrong g c = λ not told stands.
    let at = (goal.at.returns-clause-wrong g c).After-show_moved in
    c.show_moved.ensures.wrong not (stands.formed c.args.to.page _ (page_there g at told)) (leads_to_good (g.P.Pages.view c.args.pages.now).held c.args.segment c.args.led.now (g.V.Visitor.is_good c.args.visitor.now) c.args.to.page c.args.to.slot stands _ (entry_there g at told))

pub returns-clause-saw : goal.returns-clause-saw
returns-clause-saw g c = λ yes told. subst (λ (content : Content). Sees g.V.Visitor.is_good g.V.Visitor.saw c.args.visitor.now c.show_moved.new.visitor (row_of c.args.tid (body_in content))) (sym (entry_there g (goal.at.returns-clause-saw g c).After-show_moved told)) (c.show_moved.ensures.saw yes)

pub returns-clause-did : goal.returns-clause-did
returns-clause-did g c = looks_done _ c.in_ok-bring.ensures.did.looks
