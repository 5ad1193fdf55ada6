-- Each message has one spelling, each spelling is that of one message, and no body passes the longest of its shape.
use Rattle.std.specs.Prelude.{◌≡◌, ◌<◌, ◌≤◌, ℕ, ◌++◌, ◌^◌, ◌+◌, true, Option, Some, None, List, length}
use Rattle.std.specs.List.{All}
use Rattle.vert_base.specs.declared.message.Name.{Name}
use Rattle.body_shape.specs.declared.shape.BodyShape.{BodyShape}
use Rattle.symple_face.specs.declared.part.Part.{Part}
use Rattle.body_shape.specs.Shapes.{longest_of}
use Rattle.body_shape.specs.Fit.{is_fit}
use Rattle.vert_base.specs.HeaderBytes.{HasSpelling, spelled_header, spelled_message}
use Rattle.dep_message.specs.Messages.{forms_of, header_in, refusal_of, refusal_of_named}

abbrev pub AreBytes : List ℕ → Type 0
AreBytes bytes = All (λ byte. byte < 256) bytes

-- bytes that aren't refused spell a message, which isn't refused
abbrev pub AcceptedIsSpelled : Type 0
AcceptedIsSpelled = (forms : Name → Option BodyShape) (bytes : List ℕ) → AreBytes bytes →
    refusal_of forms bytes ≡ None →
    (x : Name) × (body : List ℕ) × HasSpelling x body × (refusal_of_named forms (Some x) body ≡ None) ×
    (spelled_message x body ≡ bytes)

-- no bytes spell two messages
abbrev pub SpelledOnce : Type 0
SpelledOnce = (x y : Name) (a b : List ℕ) → HasSpelling x a → HasSpelling y b →
    spelled_message x a ≡ spelled_message y b → (x ≡ y) × (a ≡ b)

-- a header is read as it is spelled, whatever follows it
abbrev pub HeaderIsRead : Type 0
HeaderIsRead = (x : Name) (size : ℕ) (rest : List ℕ) → x.round < 2 ^ 32 → size < 2 ^ 32 →
    header_in (spelled_header x size ++ rest) ≡ record { name = Some x; size = size }

-- a spelling has the bytes of the header and those of the body
abbrev pub SpellingIsCounted : Type 0
SpellingIsCounted = (x : Name) (body : List ℕ) → length (spelled_message x body) ≡ 13 + length body

-- the spelling of a message that a machine sends or takes isn't refused there, where the body fits its form
abbrev pub SpelledIsAccepted : Type 0
SpelledIsAccepted = (part : Part) (x : Name) (body : List ℕ) (shape : BodyShape) → HasSpelling x body →
    forms_of part x ≡ Some shape → is_fit shape body ≡ true → refusal_of (forms_of part) (spelled_message x body) ≡ None

-- a body that fits a shape is at most as long as the longest of the shape
abbrev pub FitIsBounded : Type 0
FitIsBounded = (shape : BodyShape) (body : List ℕ) → AreBytes body → is_fit shape body ≡ true →
    length body ≤ longest_of shape
