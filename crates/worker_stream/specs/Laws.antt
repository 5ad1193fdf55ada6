-- The laws of one machine over a stream.
use Rattle.std.specs.Prelude.{◌≡◌, ◌<◌, ◌≤◌, ◌^◌, ℕ, Some, List}
use Rattle.vert_base.specs.declared.message.Name.{Name}
use Rattle.instrument.specs.declared.split.Split.{Split}
use Rattle.body_shape.specs.declared.shape.BodyShape.{BodyShape}
use Rattle.body_shape.specs.Shapes.{longest_of}
use Rattle.symple_face.specs.Lawful.{CanRun}
use Rattle.symple_face.specs.Parts.{PlainPart}
use Rattle.symple_face.specs.Shapes.{shape_of}
use Rattle.symple_face.specs.Work.{Work}
use Rattle.worker_stream.specs.Worker.{served_within, steps_left, worker}

-- no body of a machine's messages is longer than a header can tell
abbrev pub FormsAreShort : Type 0
FormsAreShort =
    (split : Split) (part : PlainPart) (x : Name) (shape : BodyShape) → CanRun part split →
    shape_of split part x ≡ Some shape → longest_of shape < 2 ^ 32

-- what a machine does with a stream is the same with more actions and messages than are enough
abbrev pub MoreStepsChangeNothing : Work → Type 0
MoreStepsChangeNothing work =
    (part : PlainPart) (split : Split) (bytes : List ℕ) (n : ℕ) → CanRun part split →
    steps_left (work.first part split) bytes ≤ n →
    served_within work n 0 (work.first part split) bytes ≡ worker work part split bytes
