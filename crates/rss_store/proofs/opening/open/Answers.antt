use Rattle.std.proofs.Common.{Err, ap}
use Rattle.std.proofs.lemmas.Result.{IfOk-weaker, IfErr-weaker}
use Rattle.rss_store.proofs.Unopened.{opens_before, handed_back, handed_before}
use Rattle.rss_store.proofs.opening.open.Goals as goal

pub returns-in-Ok-clause-opened : goal.returns-in-Ok-clause-opened
returns-in-Ok-clause-opened g c = IfOk-weaker c.open_layout.result _ _ (λ store is. opens_before c.read_layout.ensures.did.reads is) c.open_layout.ensures.opened

pub returns-in-Ok-clause-refused : goal.returns-in-Ok-clause-refused
returns-in-Ok-clause-refused g c = IfErr-weaker c.open_layout.result _ _ (λ e is. handed_before c.read_layout.ensures.did.reads is) c.open_layout.ensures.refused

pub returns-in-Err-clause-refused : goal.returns-in-Err-clause-refused
returns-in-Err-clause-refused g c =
    handed_back c.in-Err.ensures.refused (λ is. c.in-Err.ensures.did.failed (ap Err is)) c.in-Err.ensures.did.reads
