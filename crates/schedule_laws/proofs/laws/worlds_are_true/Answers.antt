use Rattle.schedule_laws.proofs.Whole.{every_later_world_is_true, every_world_is_true}
use Rattle.schedule_laws.proofs.laws.worlds_are_true.Goals as goal

pub returns-clause-whole : goal.returns-clause-whole
returns-clause-whole c = every_world_is_true

pub returns-clause-later : goal.returns-clause-later
returns-clause-later c = every_later_world_is_true
