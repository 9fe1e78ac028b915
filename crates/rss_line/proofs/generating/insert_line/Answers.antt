use Rattle.std.proofs.Common.{◌≡◌, ◌∙◌, append_assoc}
use Rattle.rss_model.specs.Generator.{insert_line}
use Rattle.rss_line.proofs.Parts.{same_as}
use Rattle.rss_line.proofs.generating.insert_line.Goals as goal

pub returns : goal.returns
returns c =
    let is : c.as_str.result.now ≡ insert_line c.args.employee c.args.pay = c.as_str.ensures.value ∙ (c.in_ok-line.ensures.ok ∙ simp append_assoc) in
    same_as c.text.result is c.text.ensures
