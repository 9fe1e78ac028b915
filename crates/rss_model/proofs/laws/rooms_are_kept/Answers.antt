use Rattle.rss_model.proofs.BothRooms.{changes_keep_rooms, checkpoints_keep_rooms, checkpoints_pass_at_rest, restores_keep_rooms, aborts_keep_rooms, ends_keep_rooms, definitions_keep_rooms}
use Rattle.rss_model.proofs.StepRooms.{steps_keep_rooms}
use Rattle.rss_model.proofs.laws.rooms_are_kept.Goals as goal

pub returns-clause-changes : goal.returns-clause-changes
returns-clause-changes g = changes_keep_rooms

pub returns-clause-checkpoints : goal.returns-clause-checkpoints
returns-clause-checkpoints g = checkpoints_keep_rooms

pub returns-clause-at_rest : goal.returns-clause-at_rest
returns-clause-at_rest g = checkpoints_pass_at_rest

pub returns-clause-restores : goal.returns-clause-restores
returns-clause-restores g = restores_keep_rooms

pub returns-clause-aborts : goal.returns-clause-aborts
returns-clause-aborts g = aborts_keep_rooms

pub returns-clause-ends : goal.returns-clause-ends
returns-clause-ends g = ends_keep_rooms

pub returns-clause-definitions : goal.returns-clause-definitions
returns-clause-definitions g = definitions_keep_rooms

pub returns-clause-steps : goal.returns-clause-steps
returns-clause-steps g = steps_keep_rooms
