-- What is wrong with bytes that should spell a message.
use Rattle.std.specs.Prelude.{ℕ, ◌+◌, ◌==◌, not, nat_lt, Option, Some, None, if◌then◌else◌, List, length, drop}
use Rattle.vert_base.specs.declared.message.Name.{Name}
use Rattle.vert_base.specs.HeaderBytes.{is_proper, name_in, size_in}
use Rattle.body_shape.specs.declared.shape.BodyShape.{BodyShape}
use Rattle.symple_face.specs.declared.part.Part.{Part}
use Rattle.symple_face.specs.PartViews.{plain_of}
use Rattle.symple_face.specs.Shapes.{shape_of}
use Rattle.dep_message.specs.declared.fault.MessageFault.{MessageFault}
use Rattle.dep_message.specs.declared.fault.MessageFault.TheVariants as fault
use Rattle.dep_message.specs.declared.header.Header.{Header}
use Rattle.body_shape.specs.Fit.{is_fit}

-- the header at the front of bytes
abbrev pub header_in : List ℕ → Header
header_in bytes = record {
  name = name_in bytes;
  size = size_in bytes;
}

-- the forms of the messages that a machine sends or takes
abbrev pub forms_of : Part → Name → Option BodyShape
forms_of part x = shape_of part.split.value (plain_of part) x

-- a message without a form, then a body that doesn't fit the form
abbrev pub refusal_of_body : Option BodyShape → List ℕ → Option MessageFault
refusal_of_body None body = Some fault.NotPlanned
refusal_of_body (Some shape) body = if is_fit shape body then None else Some fault.Body

-- a kind that is none, then a step that the kind hasn't
abbrev pub refusal_of_named : (Name → Option BodyShape) → Option Name → List ℕ → Option MessageFault
refusal_of_named forms None body = Some fault.Kind
refusal_of_named forms (Some x) body = if is_proper x then refusal_of_body (forms x) body else Some fault.NotPlanned

-- the first fault of bytes, where the messages have these forms: they are fewer than a header has, or not as many
-- as it says; the kind is none; the message has no form, or a step that its kind hasn't; the body doesn't fit the form
abbrev pub refusal_of : (Name → Option BodyShape) → List ℕ → Option MessageFault
refusal_of forms bytes =
    if nat_lt (length bytes) 13 then Some fault.Short
    else if not (13 + (header_in bytes).size == length bytes) then Some fault.Short
    else refusal_of_named forms (header_in bytes).name (drop 13 bytes)
