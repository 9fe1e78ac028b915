use Rattle.rss_log.proofs.LogRing.{new_off, log_same}
use Rattle.rss_log.proofs.laws.old_log_stays.Goals as goal

pub returns : goal.returns
returns c = λ before image root end order room same. log_same image before root (λ q log. same.others q (new_off root end q order room log))
