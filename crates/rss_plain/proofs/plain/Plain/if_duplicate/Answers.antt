use Rattle.std.proofs.Common.{◌+◌, List, drop, sym, ◌∙◌, ap}
use Rattle.std.specs.Prelude.{filter, map as list_map}
use Rattle.rss_base.specs.declared.name.Name.{Name}
use Rattle.rss_model.specs.Tables.{ImageDef}
use Rattle.rss_model.specs.Refusals.{first_of, if_owned}
use Rattle.rss_plain.specs.Tests.{is_unique_of}
use Rattle.rss_plain.specs.View.{machine}
use Rattle.rss_plain.proofs.Lists.{head_of, none_of}
use Rattle.rss_plain.proofs.Uniques.{refused_past}
use Rattle.rss_plain.proofs.plain.Plain.if_duplicate.Goals as goal

pub loop-image-init : goal.loop-image-init
loop-image-init c =
    ap (λ (l : List (Name × ImageDef)). first_of
    (list_map (if_owned (machine c.args.self.now) c.args.but c.args.values.now)
    (filter (λ (image : Name × ImageDef). is_unique_of c.args.relation.now image.1) l))) c.entries-images.ensures

pub loop-image-preserved : goal.loop-image-preserved
loop-image-preserved c =
    let images = c.entries-images.result.now in
    let i = c.loop-image.image-index in
    sym (refused_past (λ (image : Name × ImageDef). is_unique_of c.args.relation.now image.1)
    (drop i images) c.image-item.result (drop (i + 1) images)
    (head_of images i c.image-item.result c.loop-image-test.true c.image-item.is)
    (if_owned (machine c.args.self.now) c.args.but c.args.values.now)
    (sym c.in_ok-owned.ensures ∙ none_of c.in_ok-owned.owned (sym c.is_some.ensures ∙ c.if-is_some.false)))
    ∙ c.loop-image.invariant
