-- The course of `split`: the part file of each machine, in turn.
use Rattle.std.specs.Prelude.{◌≡◌, ℕ, List, [], ◌∷◌}
use Rattle.command_steps.specs.Commands.{part_name}
use Rattle.command_steps.specs.Orders.{Course, IsOver, Keeps, Play}
use Rattle.machine_runs.specs.RunParts.{IsRunOf}
use Rattle.symple_face.specs.Parts.{PlainPart}
use Rattle.worker_stream.specs.PartFiles.{spelled_part}

-- each part and the program's text are kept under the number of its machine
abbrev pub parted : List ℕ → List ℕ → List PlainPart → Course
parted prefix program [] = IsOver
parted prefix program (part ∷ parts) =
    Keeps (part_name prefix part.at.machine) (spelled_part part program) (parted prefix program parts)

-- the parts are those of the graph
pub record IsParted (play : Play) (program prefix : List ℕ) (course : Course) : Type 0 where
  pub parts : List PlainPart
  pub of_graph : IsRunOf play.machines play.draws play.graph parts
  pub course_is : course ≡ parted prefix program parts
