use Rattle.std.proofs.Common.{◌∙◌}
use Rattle.rss_model.proofs.LogChanging.{put_back, put_twice}
use Rattle.rss_model.proofs.laws.undo_turns_back.Goals as goal

pub returns : goal.returns
returns g = λ contents change was. put_twice contents change.item change.new change.old ∙ put_back contents change.item change.old was
