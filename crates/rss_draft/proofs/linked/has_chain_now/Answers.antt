use Rattle.std.proofs.Common.{◌≡◌, List, sym, ◌∙◌, ap}
use Rattle.std.specs.Prelude.{not, Some, is_some, option_copied}
use Rattle.std.proofs.lemmas.Result.{IfOk-weaker}
use Rattle.rss_base.specs.Prefixes.{first_of}
use Rattle.rss_base.specs.declared.tid.Tid.{Tid}
use Rattle.rss_base.proofs.Steps.{done, rests}
use Rattle.rss_access.specs.Changes.{both}
use Rattle.rss_draft.specs.Views.{said}
use Rattle.rss_draft.proofs.ChainsNow.{chain_said_so, chain_saved_so, may_chain}
use Rattle.rss_draft.proofs.LinkedNow.{any_first}
use Rattle.rss_draft.proofs.linked.has_chain_now.Goals as goal

pub returns-in-Some-clause-has : goal.returns-in-Some-clause-has
returns-in-Some-clause-has g c =
    chain_said_so (both (g.P.Pages.view c.args.tuples.now.pages) c.args.catalog.now) (said c.args.draft.now) c.args.link c.link.result.now c.link.ensures.is (Some c.args.parent) (λ (tids : List Tid). not c.is_empty.result ≡ is_some (first_of tids))
    c.in-Some.tids.now (sym c.chain.ensures ∙ ap option_copied c.in-Some.is) (any_first c.in-Some.tids.now c.is_empty.result c.is_empty.ensures)

pub returns-in-Some-clause-did : goal.returns-in-Some-clause-did
returns-in-Some-clause-did g c = done _ (rests _)

pub has_saved_chain-requires : goal.has_saved_chain-requires
has_saved_chain-requires g c = may_chain (both (g.P.Pages.view c.args.tuples.now.pages) c.args.catalog.now) (g.met.P.Pages.few_slots c.args.tuples.now.pages) c.requires.may c.args.link (Some c.args.parent) c.requires.listed c.requires.form

pub returns-in-None-clause-has : goal.returns-in-None-clause-has
returns-in-None-clause-has g c =
    IfOk-weaker c.has_saved_chain.result _ _ (λ found answers.
    chain_saved_so (both (g.P.Pages.view c.args.tuples.now.pages) c.args.catalog.now) (said c.args.draft.now) c.args.link c.link.result.now c.link.ensures.is (Some c.args.parent) (λ (tids : List Tid). found ≡ is_some (first_of tids))
    (g.met.P.Pages.few_slots c.args.tuples.now.pages) (sym c.chain.ensures ∙ ap option_copied c.in-None.is) answers) c.has_saved_chain.ensures.has

pub returns-in-None-clause-did : goal.returns-in-None-clause-did
returns-in-None-clause-did g c = c.has_saved_chain.ensures.did.below
