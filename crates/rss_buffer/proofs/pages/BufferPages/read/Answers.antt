use Rattle.std.proofs.Common.{◌∙◌, ap, sym}
use Rattle.rss_base.specs.Paged.{Held}
use Rattle.rss_base.proofs.Steps.{all_held}
use Rattle.rss_buffer.proofs.pages.BufferPages.read.Goals as goal

pub returns-clause-page : goal.returns-clause-page
returns-clause-page g c = λ told.
    let step = c.load.ensures.did.step in
    ap (λ (held : Held). held c.args.key) (sym (all_held step told)) ∙ c.loaded.ensures (step.passes.leaves.told.0 told)
