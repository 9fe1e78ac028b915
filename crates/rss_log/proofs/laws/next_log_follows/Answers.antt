use Rattle.std.proofs.Common.{refl}
use Rattle.rss_log.proofs.LogRing.{next_log}
use Rattle.rss_log.proofs.laws.next_log_follows.Goals as goal

pub returns : goal.returns
returns c = λ pages root next more ps qs gone kept slots log_pages order short grows old new split placed stay. next_log pages pages root next more ps qs gone kept slots log_pages order short (λ q log. refl) grows old new split placed stay
