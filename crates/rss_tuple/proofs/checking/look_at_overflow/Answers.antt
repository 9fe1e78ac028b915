use Rattle.std.proofs.Common.{◌≡◌, ◌∙◌, List, sym, ap, subst, arith}
use Rattle.rss_base.specs.DiskRule.{IsTold}
use Rattle.rss_base.specs.Paged.{page_key}
use Rattle.rss_base.specs.declared.key.PageKey.{PageKey}
use Rattle.rss_base.specs.declared.key.Space.TheVariants.{Overflow}
use Rattle.rss_base.specs.Steps.{only, no_page}
use Rattle.rss_page.specs.Content.{Content}
use Rattle.rss_page.specs.Slotted.{entries}
use Rattle.rss_tuple.specs.Directory.{contents, contents_in}
use Rattle.rss_base.specs.Looking.{LooksStep}
use Rattle.rss_tuple.specs.Flaws.{NamesPage}
use Rattle.rss_tuple.specs.Looks.{AreMarked, HasUnmarked}
use Rattle.rss_base.proofs.Looking.{looks_none, looks_within}
use Rattle.rss_tuple.proofs.Looks.{looks_done, looks_wider, looks_fails}
use Rattle.rss_tuple.proofs.LookedPages.{noted_still}
use Rattle.rss_tuple.proofs.checking.look_at_overflow.Goals as goal
use Rattle.rss_tuple.proofs.checking.look_at_overflow.Goals.{After-are_marked}

pub returns-in_err-look_at-clause-did : goal.returns-in_err-look_at-clause-did
returns-in_err-look_at-clause-did g c = looks_fails _ c.from_residual.ensures.1 (looks_wider (λ key is. is ∙ c.overflow.ensures) (omega arith) (λ told place names. subst (λ (k : PageKey). NamesPage (g.P.Pages.view c.args.pages.now).held (only k) place) c.overflow.ensures names) c.in_err-look_at.ensures.did)

-- the entries are those of the page
here : (g : _) (c : After-are_marked g) → IsTold (g.P.Pages.view c.args.pages.now).disk → contents (g.P.Pages.view c.args.pages.now).held (page_key c.args.segment Overflow c.args.number) ≡ entries c.look_at.new.into
here g c told = ap (contents (g.P.Pages.view c.args.pages.now).held) (sym c.overflow.ensures) ∙ ap contents_in (c.in_ok-look_at.ensures.looks.held told)

pub returns-clause-noted : goal.returns-clause-noted
returns-clause-noted g c = λ told.
    let still : LooksStep no_page 0 (g.P.Pages.view c.look_at.new.pages) (g.P.Pages.view c.look_at.new.pages) = looks_none _ in
    noted_still c.args.segment c.args.number Overflow c.overflow.result c.look_at.new.into _ _ _ c.overflow.ensures c.in_ok-look_at.ensures.looks still told

pub returns-clause-led : goal.returns-clause-led
returns-clause-led g c = λ all told. subst (λ (l : List Content). AreMarked l c.args.marks) (sym (here g (goal.at.returns-clause-led g c).After-are_marked told)) (c.are_marked.ensures.all all)

pub returns-clause-unled : goal.returns-clause-unled
returns-clause-unled g c = λ not told. subst (λ (l : List Content). HasUnmarked l c.args.marks) (sym (here g (goal.at.returns-clause-unled g c).After-are_marked told)) (c.are_marked.ensures.one not)

pub returns-clause-did : goal.returns-clause-did
returns-clause-did g c = looks_done _ (looks_within (λ key is. is ∙ c.overflow.ensures) (omega arith) c.in_ok-look_at.ensures.did.looks)
