use Rattle.std.proofs.Common.{◌∙◌}
use Rattle.rss_plain.specs.View.{view}
use Rattle.rss_plain.proofs.Alike.{judged_of}
use Rattle.rss_plain.proofs.plain.Plain.judge.Goals as goal

pub returns : goal.returns
returns c = λ state is. c.in_ok-why.ensures ∙ judged_of (view c.args.self.now) state c.args.call.now is
