use Rattle.std.proofs.Common.{◌∙◌, ap}
use Rattle.std.specs.FinMap.{entries}
use Rattle.rss_model.specs.Tables.{Contents}
use Rattle.rss_plain.specs.Kept.{Kept, changed}
use Rattle.rss_plain.proofs.items.Items.entries.Goals as goal

pub returns : goal.returns
returns c =
    c.entries.ensures ∙ ap (λ (contents : Contents). entries contents) c.self.invariant
    ∙ ap (λ (kept : Kept). entries (changed kept)) c.self.view_is
