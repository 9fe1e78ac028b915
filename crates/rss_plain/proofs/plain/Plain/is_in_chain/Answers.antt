use Rattle.std.proofs.Common.{sym, ◌∙◌, ap}
use Rattle.std.specs.Prelude.{Option, is_some}
use Rattle.rss_base.specs.declared.tid.Tid.{Tid}
use Rattle.rss_base.specs.declared.item.Item.TheVariants.{Chain}
use Rattle.rss_plain.proofs.Lists.{some_map}
use Rattle.rss_plain.proofs.plain.Plain.is_in_chain.Goals as goal

pub returns : goal.returns
returns c =
    c.is_some.ensures ∙ sym (some_map (λ (parent : Option Tid). Chain c.args.link.now parent) c.parent_in.result)
    ∙ ap is_some (sym c.parent_in.ensures)
