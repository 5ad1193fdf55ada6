-- The law of the messages that have a shape.
use Rattle.symple_face.proofs.TableLaws.{plans_by_table}
use Rattle.symple_face.proofs.laws.planned_by_table.Goals as goal

pub returns : goal.returns
returns c = plans_by_table
