use Rattle.std.proofs.Common.{◌∷◌, [], ◌∙◌}
use Rattle.rss_base.specs.declared.item.Item.TheVariants.{Tuple}
use Rattle.rss_base.specs.declared.need.Mode.TheVariants.{X}
use Rattle.rss_model.specs.Needs.{need}
use Rattle.rss_plain.specs.View.{machine}
use Rattle.rss_plain.proofs.Bars.{checked, held_is}
use Rattle.rss_plain.proofs.plain.Plain.is_held.Goals as goal

pub returns : goal.returns
returns c =
    let locks = (machine c.args.self.now).locks in
    let item = Tuple c.args.relation c.args.tid in
    c.is_some.ensures ∙ checked locks c.args.t
    (need item X ∷ []) c.check.result c.check.ensures.some c.check.ensures.none
    ∙ held_is locks c.args.t item
