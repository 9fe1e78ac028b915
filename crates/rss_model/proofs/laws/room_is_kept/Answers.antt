use Rattle.rss_model.proofs.DefinitionKeeping.{steps_keep_room}
use Rattle.rss_model.proofs.laws.room_is_kept.Goals as goal

pub returns : goal.returns
returns g = steps_keep_room
