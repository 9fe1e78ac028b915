use Rattle.rss_model.proofs.StepKeeping.{kept_fit, each_fits, first_finds_base, last_leaves_now, owners_are_alone}
use Rattle.rss_model.proofs.laws.kept_tables.Goals as goal

pub returns-clause-fit : goal.returns-clause-fit
returns-clause-fit g = kept_fit

pub returns-clause-each : goal.returns-clause-each
returns-clause-each g = each_fits

pub returns-clause-first : goal.returns-clause-first
returns-clause-first g = first_finds_base

pub returns-clause-last : goal.returns-clause-last
returns-clause-last g = last_leaves_now

pub returns-clause-owners : goal.returns-clause-owners
returns-clause-owners g = owners_are_alone
