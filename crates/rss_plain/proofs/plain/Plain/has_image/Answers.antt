use Rattle.std.proofs.Common.{List, sym, ◌∙◌, ap}
use Rattle.std.specs.List.{list_any}
use Rattle.std.specs.FinMap.{entries}
use Rattle.rss_base.specs.declared.name.Name.{Name}
use Rattle.rss_model.specs.Tables.{ImageDef}
use Rattle.rss_model.specs.Defining.{is_image_of}
use Rattle.rss_plain.specs.View.{machine}
use Rattle.rss_plain.proofs.Lists.{any_map}
use Rattle.rss_plain.proofs.plain.Plain.has_image.Goals as goal

pub returns : goal.returns
returns c =
    let relation = c.args.relation.now in
    c.is_any_of.ensures
    ∙ ap (λ (l : List (Name × ImageDef)). list_any (λ (image : Name × ImageDef). is_image_of relation image.1) l)
    c.entries.ensures
    ∙ sym (any_map (λ (image : Name × ImageDef). image.1) (is_image_of relation)
    (entries (machine c.args.self.now).base.definitions.images))
