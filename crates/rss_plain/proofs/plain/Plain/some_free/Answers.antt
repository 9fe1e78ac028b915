use Rattle.rss_model.specs.Refusals.{some_free}
use Rattle.rss_plain.proofs.plain.Plain.some_free.Goals as goal

pub returns : goal.returns
unfolding some_free
returns c = c.any_free.ensures
