use Rattle.rss_model.proofs.Serially.{is_serial}
use Rattle.rss_model.proofs.laws.runs_are_serial.Goals as goal

pub returns : goal.returns
returns g = is_serial
