-- Messages by their names and forms.
use Rattle.std.specs.Prelude.{◌≡◌, true, [], Some}
use Rattle.vert_base.specs.declared.message.Name.{Name}
use Rattle.vert_base.specs.Letters.{Letter}
use Rattle.instrument.specs.declared.split.Split.{Split}
use Rattle.body_shape.specs.Fit.{is_fit}
use Rattle.body_shape.specs.declared.shape.BodyShape.{BodyShape}
use Rattle.symple_face.specs.Parts.{PlainPart}
use Rattle.symple_face.specs.Shapes.{shape_of}

-- the name stands for its message, whose body is elsewhere or was used
abbrev pub bare : Name → Letter
bare x = record { name = x; body = [] }

-- a message has a form at its receiver, which its body fits
abbrev pub FitsForm : Split → PlainPart → Letter → Type 0
FitsForm split part l = (shape : BodyShape) × (shape_of split part l.name ≡ Some shape) × (is_fit shape l.body ≡ true)
