use Rattle.std.proofs.Common.{◌≡◌, ◌≤◌, take}
use Rattle.carry_analysis.specs.Classes.{carried_in}
use Rattle.carry_analysis.proofs.carry.carry_of.Given as goal

abbrev pub invariant-loop-class : goal.invariant-loop-class
invariant-loop-class l = (l.words ≡ carried_in (take l.class-index l.class-items)) × (l.words ≤ l.class-index)
