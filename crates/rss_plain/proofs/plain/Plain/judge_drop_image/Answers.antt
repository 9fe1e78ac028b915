use Rattle.std.proofs.Common.{sym}
use Rattle.rss_plain.specs.View.{machine}
use Rattle.rss_plain.proofs.DefinitionTests.{judged_drop_image}
use Rattle.rss_plain.proofs.plain.Plain.judge_drop_image.Goals as goal

pub returns : goal.returns
returns c =
    rw (c.or.ensures, c.if_any_open.ensures, c.unless_image.ensures)
    (sym (judged_drop_image (machine c.args.self.now) c.args.name.now))
