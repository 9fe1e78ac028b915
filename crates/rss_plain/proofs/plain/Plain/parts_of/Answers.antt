use Rattle.std.proofs.Common.{List, sym, ◌∙◌, ap}
use Rattle.std.specs.Prelude.{count_by}
use Rattle.std.specs.FinMap.{entries}
use Rattle.rss_base.specs.declared.name.Name.{Name}
use Rattle.rss_model.specs.Tables.{LinkDef}
use Rattle.rss_model.specs.Chains.{has_part}
use Rattle.rss_plain.specs.View.{machine}
use Rattle.rss_plain.proofs.Lists.{counted_map}
use Rattle.rss_plain.proofs.plain.Plain.parts_of.Goals as goal

pub returns : goal.returns
returns c =
    let relation = c.args.relation.now in
    c.count_parts.ensures
    ∙ ap (λ (l : List (Name × LinkDef)). count_by (λ (link : Name × LinkDef). has_part relation link.1) l)
    c.entries.ensures
    ∙ sym (counted_map (λ (link : Name × LinkDef). link.1) (has_part relation)
    (entries (machine c.args.self.now).base.definitions.links))
