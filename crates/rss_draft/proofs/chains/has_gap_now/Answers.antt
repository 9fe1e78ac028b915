use Rattle.std.proofs.Common.{◌≡◌, true, List, sym, ◌∙◌, ap}
use Rattle.std.specs.Prelude.{◌↔◌, option_copied}
use Rattle.std.proofs.lemmas.Result.{IfOk-weaker}
use Rattle.rss_base.specs.declared.tid.Tid.{Tid}
use Rattle.rss_base.proofs.Steps.{done, rests}
use Rattle.rss_access.specs.Changes.{both}
use Rattle.rss_draft.specs.Views.{said}
use Rattle.rss_draft.specs.Looks.{HasGap}
use Rattle.rss_draft.proofs.ChainsNow.{chain_said_so, chain_saved_so, may_chain}
use Rattle.rss_draft.proofs.chains.has_gap_now.Goals as goal

pub returns-in-Some-clause-has : goal.returns-in-Some-clause-has
returns-in-Some-clause-has g c =
    let m = c.args.membership in
    chain_said_so (both (g.P.Pages.view c.args.tuples.now.pages) c.args.catalog.now) (said c.args.draft.now) m.link c.link.result.now c.link.ensures.is m.parent (λ (tids : List Tid). (c.has_gap.result ≡ true) ↔ HasGap m.child m.left tids)
    c.in-Some.tids.now (sym c.chain.ensures ∙ ap option_copied c.in-Some.is) c.has_gap.ensures

pub returns-in-Some-clause-did : goal.returns-in-Some-clause-did
returns-in-Some-clause-did g c = done _ (rests _)

pub has_saved_gap-requires : goal.has_saved_gap-requires
has_saved_gap-requires g c = may_chain (both (g.P.Pages.view c.args.tuples.now.pages) c.args.catalog.now) (g.met.P.Pages.few_slots c.args.tuples.now.pages) c.requires.may c.args.membership.link c.args.membership.parent c.requires.listed c.requires.form

pub returns-in-None-clause-has : goal.returns-in-None-clause-has
returns-in-None-clause-has g c =
    let m = c.args.membership in
    IfOk-weaker c.has_saved_gap.result _ _ (λ found answers.
    chain_saved_so (both (g.P.Pages.view c.args.tuples.now.pages) c.args.catalog.now) (said c.args.draft.now) m.link c.link.result.now c.link.ensures.is m.parent (λ (tids : List Tid). (found ≡ true) ↔ HasGap m.child m.left tids)
    (g.met.P.Pages.few_slots c.args.tuples.now.pages) (sym c.chain.ensures ∙ ap option_copied c.in-None.is) answers) c.has_saved_gap.ensures.has

pub returns-in-None-clause-did : goal.returns-in-None-clause-did
returns-in-None-clause-did g c = c.has_saved_gap.ensures.did.below
