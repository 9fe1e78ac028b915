use Rattle.std.proofs.Common.{◌∙◌, sym, ap}
use Rattle.std.proofs.lemmas.Result.{on_err_weaker}
use Rattle.rss_base.specs.Paged.{Held}
use Rattle.rss_base.proofs.Steps.{all_held}
use Rattle.rss_tuple.proofs.Located.{held_by, in_form}
use Rattle.rss_tuple.proofs.Seen.{content_after, if_ok_then, tested}
use Rattle.rss_tuple.proofs.reading.look.Goals as goal

pub returns-clause-found : goal.returns-clause-found
returns-clause-found g c =
    let key = c.args.key in
    let step = c.in_ok-load.ensures.did.step in
    if_ok_then c.look_in.result (λ found holds told.
    held_by (g.P.Pages.view c.load.new.self).held key (c.loaded.ensures (step.passes.leaves.told.0 told)) c.args.slot (sym (content_after step key c.args.slot told)) found holds) c.look_in.ensures.holds

pub returns-clause-formed : goal.returns-clause-formed
returns-clause-formed g c = in_form (g.P.Pages.view c.load.new.self) _ c.in_ok-load.ensures.there c.look_in.result c.look_in.ensures.allowed c.look_in.ensures.short

pub returns-clause-did : goal.returns-clause-did
returns-clause-did g c =
    let key = c.args.key in
    let step = c.in_ok-load.ensures.did.step in
    tested _ c.look_in.result c.look_in.ensures.damaged (on_err_weaker c.look_in.result (λ ill told.
    let there = ap (λ (h : Held). h key) (sym (all_held step told)) ∙ c.loaded.ensures (step.passes.leaves.told.0 told) in
    let heap = c.requires.formed told key _ c.requires.heap there in
    ill heap.formed (heap.short c.args.slot)) c.look_in.ensures.ill) step
