use Rattle.std.proofs.Common.{◌≡◌, List, sym, ◌∙◌, ap}
use Rattle.std.specs.Prelude.{option_copied}
use Rattle.std.proofs.lemmas.Result.{IfOk-weaker}
use Rattle.rss_base.specs.declared.tid.Tid.{Tid}
use Rattle.rss_base.proofs.Steps.{done, rests}
use Rattle.rss_access.specs.Changes.{both}
use Rattle.rss_draft.specs.Views.{said}
use Rattle.rss_draft.proofs.ChainsNow.{chain_said_so, chain_read_so}
use Rattle.rss_draft.proofs.Searched.{searches_call, lacks_memory}
use Rattle.rss_draft.proofs.reading.chain_now.Goals as goal

pub returns-in_default-clause-are : goal.returns-in_default-clause-are
returns-in_default-clause-are g c = IfOk-weaker c.saved_chain.result _ _ (λ tids are.
    chain_read_so (both (g.P.Pages.view c.args.tuples.now.pages) c.args.catalog.now) (said c.args.draft.now) c.args.link c.link.result.now c.link.ensures.is c.args.parent tids.items (sym c.chain.ensures ∙ ap option_copied c.in_default.is) are) c.saved_chain.ensures.are

pub returns-in-Ok-clause-are : goal.returns-in-Ok-clause-are
returns-in-Ok-clause-are g c =
    chain_said_so (both (g.P.Pages.view c.args.tuples.now.pages) c.args.catalog.now) (said c.args.draft.now) c.args.link c.link.result.now c.link.ensures.is c.args.parent (λ (tids : List Tid). tids ≡ c.in-Ok.copy.items)
    c.in-Some.tids.now (sym c.chain.ensures ∙ ap option_copied c.in-Some.is) (sym c.in-Ok.ensures.items)

pub returns-in-Ok-clause-did : goal.returns-in-Ok-clause-did
returns-in-Ok-clause-did g c = searches_call {most = 0} (done _ (rests _))

pub returns-in-Err-clause-did : goal.returns-in-Err-clause-did
returns-in-Err-clause-did g c = lacks_memory {most = 0} (rests _)
