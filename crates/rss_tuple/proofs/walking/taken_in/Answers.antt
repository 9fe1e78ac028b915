use Rattle.std.proofs.Common.{◌∙◌, sym, ap}
use Rattle.std.proofs.lemmas.Result.{on_err_weaker}
use Rattle.rss_base.specs.Paged.{Held}
use Rattle.rss_base.proofs.Steps.{all_held}
use Rattle.rss_tuple.proofs.Located.{held_by, taken_in_form}
use Rattle.rss_tuple.proofs.Seen.{content_after, if_ok_then, if_some_then, tested}
use Rattle.rss_tuple.proofs.walking.taken_in.Goals as goal

pub returns-clause-holds : goal.returns-clause-holds
returns-clause-holds g c =
    let key = c.args.key in
    let step = c.in_ok-load.ensures.did.step in
    if_ok_then c.taken_on.result (λ found holds told. if_some_then found (λ taken is.
    held_by (g.P.Pages.view c.load.new.self).held key (c.loaded.ensures (step.passes.leaves.told.0 told)) taken.0 (sym (content_after step key taken.0 told)) taken.1 is) holds) c.taken_on.ensures.holds

pub returns-clause-formed : goal.returns-clause-formed
returns-clause-formed g c = taken_in_form (g.P.Pages.view c.load.new.self) _ c.in_ok-load.ensures.there c.taken_on.result c.taken_on.ensures.allowed c.taken_on.ensures.short

pub returns-clause-did : goal.returns-clause-did
returns-clause-did g c =
    let key = c.args.key in
    let step = c.in_ok-load.ensures.did.step in
    tested _ c.taken_on.result c.taken_on.ensures.damaged (on_err_weaker c.taken_on.result (λ ill told.
    let there = ap (λ (h : Held). h key) (sym (all_held step told)) ∙ c.loaded.ensures (step.passes.leaves.told.0 told) in
    let heap = c.requires.formed told key _ c.requires.heap there in
    ill heap.formed heap.short) c.taken_on.ensures.ill) step
