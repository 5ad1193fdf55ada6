-- The law of the forms of messages.
use Rattle.symple_face.proofs.ShapeLaws as laws
use Rattle.mirror_table.proofs.laws.shapes_agree.Goals as goal

pub returns : goal.returns
returns c = laws.shapes_agree
