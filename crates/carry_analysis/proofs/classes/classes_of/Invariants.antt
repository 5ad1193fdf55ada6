use Rattle.std.proofs.Common.{◌≡◌, map, take}
use Rattle.carry_analysis.specs.Walks.{class_seen}
use Rattle.carry_analysis.proofs.classes.classes_of.Given as goal

abbrev pub invariant-loop-i : goal.invariant-loop-i
invariant-loop-i l = l.locals.items ≡ map class_seen (take l.i l.walk.lets)
