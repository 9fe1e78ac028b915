use Rattle.rss_draft.proofs.Fitting.{fitting_is_tested}
use Rattle.rss_draft.proofs.laws.changes_keep_fit.Goals as goal

pub returns : goal.returns
returns g = fitting_is_tested
