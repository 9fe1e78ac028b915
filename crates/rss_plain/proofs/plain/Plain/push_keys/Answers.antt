use Rattle.std.proofs.Common.{◌∷◌, ◌++◌, ◌+◌, List, drop, ◌∙◌, ap}
use Rattle.std.specs.Prelude.{filter, flat_map, option_copied, option_to_list}
use Rattle.rss_base.specs.declared.name.Name.{Name}
use Rattle.rss_base.specs.declared.need.Need.{Need}
use Rattle.rss_model.specs.Tables.{ImageDef}
use Rattle.rss_model.specs.Machine.{now}
use Rattle.rss_model.specs.Needs.{keys_of_each}
use Rattle.rss_plain.specs.Tests.{is_unique_of}
use Rattle.rss_plain.specs.View.{machine}
use Rattle.rss_plain.proofs.Lists.{head_of}
use Rattle.rss_plain.proofs.Uniques.{made_more}
use Rattle.rss_plain.proofs.plain.Plain.push_keys.Goals as goal

pub loop-image-preserved : goal.loop-image-preserved
loop-image-preserved c =
    let images = c.entries-images.result.now in
    let i = c.loop-image.image-index in
    let unique = λ (image : Name × ImageDef). is_unique_of c.args.relation.now image.1 in
    let keys = keys_of_each (now (machine c.args.self.now))
    (c.args.values.now ∷ option_to_list (option_copied c.args.others)) in
    ap (λ (l : List Need). l ++ flat_map keys (filter unique (drop (i + 1) images))) c.in_ok-push_keys_of.ensures
    ∙ made_more unique (drop i images) c.image-item.result (drop (i + 1) images)
    (head_of images i c.image-item.result c.loop-image-test.true c.image-item.is) keys c.loop-image.needs.items
    ∙ c.loop-image.invariant
