use Rattle.std.proofs.Common.{sym}
use Rattle.rss_plain.specs.View.{machine}
use Rattle.rss_plain.proofs.DefinitionTests.{judged_drop_segment}
use Rattle.rss_plain.proofs.plain.Plain.judge_drop_segment.Goals as goal

pub returns : goal.returns
returns c =
    rw (c.or-2.ensures, c.or.ensures, c.if_any_open.ensures, c.unless_segment.ensures, c.if_segment_used.ensures)
    (sym (judged_drop_segment (machine c.args.self.now) c.args.name.now))
