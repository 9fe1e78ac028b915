use Rattle.std.proofs.Common.{◌∙◌, sym, ap, subst, arith}
use Rattle.rss_base.specs.Paged.{Mapped}
use Rattle.rss_base.proofs.Steps.{all_mapped}
use Rattle.rss_tuple.specs.Heaps.{HasBody}
use Rattle.rss_tuple.proofs.Seen.{on_ok, formed_after, content_after}
use Rattle.rss_tuple.proofs.Sets.{edits_after, edits_fails}
use Rattle.rss_tuple.proofs.entries.clear.Goals as goal

pub returns-in_err-load_there-clause-edits : goal.returns-in_err-load_there-clause-edits
returns-in_err-load_there-clause-edits g c = edits_fails _ c.from_residual.ensures.1 (λ key none. absurd none) (omega arith) (omega arith) c.in_err-load_there.ensures.did

pub clear_body-requires-clause-copied : goal.clear_body-requires-clause-copied
clear_body-requires-clause-copied g c = record { mapped = c.in_ok-load_there.ensures.mapped; held = c.loaded.ensures }

pub clear_body-requires-clause-formed : goal.clear_body-requires-clause-formed
clear_body-requires-clause-formed g c = formed_after c.in_ok-load_there.ensures.did.step c.requires.may.formed

pub clear_body-requires-clause-body : goal.clear_body-requires-clause-body
clear_body-requires-clause-body g c = λ told.
    let step = c.in_ok-load_there.ensures.did.step in
    let before = step.passes.leaves.told.1 told in
    subst HasBody (sym (content_after step c.args.key c.args.slot before)) (c.requires.body before)

pub returns-clause-there : goal.returns-clause-there
returns-clause-there g c = on_ok c.clear_body.result (sym (ap (λ (m : Mapped). m c.args.key) (all_mapped c.in_ok-load_there.ensures.did.step)) ∙ c.in_ok-load_there.ensures.mapped)

pub returns-clause-edits : goal.returns-clause-edits
returns-clause-edits g c = edits_after c.in_ok-load_there.ensures.did.step c.clear_body.ensures.edits
