use Rattle.rss_model.proofs.Saving.{saves}
use Rattle.rss_model.proofs.laws.room_rule.Goals as goal

pub returns : goal.returns
returns g = saves
