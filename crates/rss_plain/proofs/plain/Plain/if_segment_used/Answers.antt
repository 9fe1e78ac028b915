use Rattle.std.proofs.Common.{ℕ, List, sym, ◌∙◌, ap}
use Rattle.std.specs.Prelude.{count_by, nat_le}
use Rattle.std.specs.FinMap.{entries}
use Rattle.rss_base.specs.declared.name.Name.{Name}
use Rattle.rss_base.specs.declared.refusal.Refusal.TheVariants.{NotEmpty}
use Rattle.rss_model.specs.Tables.{RelationDef}
use Rattle.rss_model.specs.Meter.{is_in_segment}
use Rattle.rss_model.specs.Defining.{refused_if}
use Rattle.rss_plain.specs.View.{machine}
use Rattle.rss_plain.proofs.Lists.{count_map}
use Rattle.rss_plain.proofs.plain.Plain.if_segment_used.Goals as goal

pub returns : goal.returns
returns c =
    let base = (machine c.args.self.now).base in
    let name = c.args.name.now in
    c.refused_if.ensures
    ∙ ap (λ (n : ℕ). refused_if (nat_le 1 n) NotEmpty)
    (c.count_in_segment.ensures
    ∙ ap (λ (l : List (Name × RelationDef)). count_by
    (λ (one : Name × RelationDef). is_in_segment base name one.0) l) c.entries-relations.ensures
    ∙ sym (count_map (λ (one : Name × RelationDef). one.0) (is_in_segment base name)
    (entries base.definitions.relations)))
