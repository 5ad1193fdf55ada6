use Rattle.std.proofs.Common.{◌<◌, ℕ, get_or}
use Rattle.symple_face.specs.declared.part.Part.{Part}
use Rattle.symple_face.specs.Lawful.{CanRun}
use Rattle.symple_face.specs.PartViews.{plain_of}
use Rattle.cluster_run.proofs.start.each_can_run.Given as goal

abbrev pub invariant-loop-part : goal.invariant-loop-part
invariant-loop-part l = (k : ℕ) (d : Part) → k < l.part-index →
    CanRun (plain_of (get_or l.parts k d)) (get_or l.parts k d).split.value
