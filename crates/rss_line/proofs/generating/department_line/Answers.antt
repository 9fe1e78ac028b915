use Rattle.std.proofs.Common.{◌≡◌, ◌∙◌, append_assoc}
use Rattle.rss_model.specs.Generator.{department_line}
use Rattle.rss_line.proofs.Parts.{same_as}
use Rattle.rss_line.proofs.generating.department_line.Goals as goal

pub returns : goal.returns
returns c =
    let is : c.as_str.result.now ≡ department_line c.args.number = c.as_str.ensures.value ∙ (c.in_ok-line.ensures.ok ∙ simp append_assoc) in
    same_as c.text.result is c.text.ensures
