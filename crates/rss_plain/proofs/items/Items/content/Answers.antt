use Rattle.std.proofs.Common.{◌∙◌, ap}
use Rattle.rss_model.specs.Tables.{Contents, content}
use Rattle.rss_plain.specs.Kept.{Kept, changed}
use Rattle.rss_plain.proofs.items.Items.content.Goals as goal

pub returns : goal.returns
returns c =
    c.get.ensures ∙ ap (λ (contents : Contents). content contents c.args.place.now) c.self.invariant
    ∙ ap (λ (kept : Kept). content (changed kept) c.args.place.now) c.self.view_is
