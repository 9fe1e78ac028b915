use Rattle.std.proofs.Common.{sym}
use Rattle.rss_plain.specs.View.{machine}
use Rattle.rss_plain.proofs.Judged.{judged_begin}
use Rattle.rss_plain.proofs.plain.Plain.judge_begin.Goals as goal

pub returns : goal.returns
returns c =
    rw (c.or.ensures, c.if_open.ensures, c.if_too_many.ensures)
    (sym (judged_begin (machine c.args.self.now) c.args.t))
