use Rattle.std.proofs.Common.{sym, ◌∙◌}
use Rattle.std.specs.Prelude.{filter}
use Rattle.std.specs.List.{list_all}
use Rattle.rss_base.specs.declared.name.Name.{Name}
use Rattle.rss_model.specs.Tables.{RelationDef}
use Rattle.rss_model.specs.Meter.{is_in_segment}
use Rattle.rss_model.specs.Refusals.{is_clear}
use Rattle.rss_plain.specs.View.{machine}
use Rattle.rss_plain.proofs.Free.{free_defined}
use Rattle.rss_plain.proofs.plain.Plain.is_free.Goals as goal

pub returns : goal.returns
returns c =
    let state = machine c.args.self.now in
    c.are_clear.ensures
    ∙ (λ i. list_all (λ (one : Name × RelationDef). is_clear state c.args.t c.args.tid one.0)
    (filter (λ (one : Name × RelationDef). is_in_segment state.base (c.segment.ensures i) one.0)
    (c.entries-relations.ensures i)))
    ∙ sym (free_defined state c.args.t c.args.relation.now c.args.tid c.in-Some.definition.now (sym c.in-Some.ensures))
