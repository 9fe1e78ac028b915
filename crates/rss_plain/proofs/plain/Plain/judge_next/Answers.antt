use Rattle.std.proofs.Common.{sym}
use Rattle.rss_plain.specs.View.{machine}
use Rattle.rss_plain.proofs.Judged.{judged_next}
use Rattle.rss_plain.proofs.plain.Plain.judge_next.Goals as goal

pub returns : goal.returns
returns c =
    rw (c.or-2.ensures, c.or.ensures, c.unless_open.ensures, c.unless_scan.ensures, c.unless_lost.ensures)
    (sym (judged_next (machine c.args.self.now) c.args.t c.args.scan))
