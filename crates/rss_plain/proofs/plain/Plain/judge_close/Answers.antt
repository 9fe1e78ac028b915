use Rattle.std.proofs.Common.{sym}
use Rattle.rss_plain.specs.View.{machine}
use Rattle.rss_plain.proofs.Judged.{judged_close}
use Rattle.rss_plain.proofs.plain.Plain.judge_close.Goals as goal

pub returns : goal.returns
returns c =
    rw (c.or.ensures, c.unless_open.ensures, c.unless_scan.ensures)
    (sym (judged_close (machine c.args.self.now) c.args.t c.args.scan))
