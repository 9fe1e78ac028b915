use Rattle.std.proofs.Common.{refl}
use Rattle.rss_base.specs.declared.call.Call.TheVariants.{Begin}
use Rattle.rss_plain.specs.View.{view}
use Rattle.rss_plain.proofs.Makings.{refused_stays, begins_so}
use Rattle.rss_plain.proofs.plain.Plain.begin.Goals as goal

pub returns-in-Some-clause-makes : goal.returns-in-Some-clause-makes
returns-in-Some-clause-makes c =
    refused_stays (view c.args.self.now) (Begin c.args.t) c.in-Some.why (λ state. refl) c.in-Some.ensures

pub returns-clause-makes : goal.returns-clause-makes
returns-clause-makes c =
    begins_so (view c.args.self.now) (view c.open_transaction.new.self) c.args.t c.in_default.ensures
    c.in_ok-open_transaction.ensures.ok
