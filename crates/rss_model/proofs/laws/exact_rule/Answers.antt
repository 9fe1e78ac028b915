use Rattle.rss_model.proofs.Ruling.{ruling_is_exact, lets_through, meter_follows, saved_goes_on}
use Rattle.rss_model.proofs.BothRooms.{saving_first_passes}
use Rattle.rss_model.proofs.laws.exact_rule.Goals as goal

pub returns-clause-verdicts : goal.returns-clause-verdicts
returns-clause-verdicts g = ruling_is_exact

pub returns-clause-lets_through : goal.returns-clause-lets_through
returns-clause-lets_through g = lets_through

pub returns-clause-meter : goal.returns-clause-meter
returns-clause-meter g = meter_follows

pub returns-clause-saves : goal.returns-clause-saves
returns-clause-saves g = saving_first_passes

pub returns-clause-saved : goal.returns-clause-saved
returns-clause-saved g = saved_goes_on
