-- The law of the order of degrees.
use Rattle.mirror_table.proofs.AscendLaws as laws
use Rattle.mirror_table.proofs.laws.degrees_ascend.Goals as goal

pub returns : goal.returns
returns c = laws.degrees_ascend
