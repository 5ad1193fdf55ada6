-- What stands at the front of the bytes that a machine reads.
use Rattle.std.specs.Prelude.{◌≡◌, ℕ, ◌+◌, ◌-◌, ◌==◌, ◌<◌, ◌≤◌, nat_lt, min, if◌then◌else◌, Option, Some, None, List, [], ◌++◌, length, take, drop, Result, Ok, Err}
use Rattle.std.specs.declared.alloc.Global.{Global}
use Rattle.std.specs.declared.vec.Vec.{Vec}
use Rattle.vert_base.specs.declared.message.Message.{Message}
use Rattle.vert_base.specs.declared.message.Name.{Name}
use Rattle.vert_base.specs.HeaderBytes.{is_proper}
use Rattle.vert_base.specs.Letters.{Letter, letter_of}
use Rattle.body_shape.specs.declared.shape.BodyShape.{BodyShape}
use Rattle.body_shape.specs.Fit.{is_fit}
use Rattle.body_shape.specs.Shapes.{longest_of}
use Rattle.dep_message.specs.declared.header.Header.{Header}
use Rattle.dep_message.specs.Messages.{header_in}
use Rattle.worker_stream.specs.declared.reading.ReadFault.{ReadFault}
use Rattle.worker_stream.specs.declared.reading.ReadFault.TheVariants.{Ended, Faulty, Source, Want}

-- no byte, a message with the fault M1 to M4 of this number, or a message and the bytes behind it
pub data AtFront : Type 0 where
  NoByte : AtFront
  Wrong : (code : ℕ) → AtFront
  There : (letter : Letter) (rest : List ℕ) → AtFront

-- M1 where the body ends early, and M4 where it doesn't fit
abbrev pub front_with_body : Name → BodyShape → ℕ → List ℕ → AtFront
front_with_body x shape size bytes =
    if nat_lt (length bytes) size then Wrong 1
    else if is_fit shape (take size bytes) then There (record { name = x; body = take size bytes }) (drop size bytes)
    else Wrong 4

-- M3 where the message has no form, and M4 where the length passes the longest of it
abbrev pub front_with_form : Name → Option BodyShape → ℕ → List ℕ → AtFront
front_with_form x None size bytes = Wrong 3
front_with_form x (Some shape) size bytes =
    if nat_lt (longest_of shape) size then Wrong 4 else front_with_body x shape size bytes

-- M2 where the kind is none, and M3 where the kind hasn't the step or the half
abbrev pub front_with_name : (Name → Option BodyShape) → Option Name → ℕ → List ℕ → AtFront
front_with_name forms None size bytes = Wrong 2
front_with_name forms (Some x) size bytes =
    if is_proper x then front_with_form x (forms x) size bytes else Wrong 3

-- the message at the front, where the messages have these forms, or its first fault of M6 and M1 to M4
abbrev pub front_of : (Name → Option BodyShape) → List ℕ → AtFront
front_of forms bytes =
    if length bytes == 0 then NoByte
    else if nat_lt (length bytes) 13 then Wrong 1
    else front_with_name forms (header_in (take 13 bytes)).name (header_in (take 13 bytes)).size (drop 13 bytes)

-- how many bytes of a body are read, where so many are left: none where the header is at fault
abbrev pub read_with_form : Option BodyShape → ℕ → ℕ → ℕ
read_with_form None size left = 0
read_with_form (Some shape) size left = if nat_lt (longest_of shape) size then 0 else min size left

abbrev pub read_with_name : (Name → Option BodyShape) → Option Name → ℕ → ℕ → ℕ
read_with_name forms None size left = 0
read_with_name forms (Some x) size left = if is_proper x then read_with_form (forms x) size left else 0

-- how many bytes are read of the message at the front: its header, and then its body
abbrev pub read_of : (Name → Option BodyShape) → List ℕ → ℕ
read_of forms bytes =
    if nat_lt (length bytes) 13 then length bytes
    else 13 + read_with_name forms (header_in (take 13 bytes)).name (header_in (take 13 bytes)).size
    (length bytes - 13)

-- the bytes that are left, as far as the source tells them
abbrev pub told : Option (List ℕ) → List ℕ
told None = []
told (Some bytes) = bytes

-- what reading a header answers, given the bytes taken and those that are left
abbrev pub ReadsHeader : List ℕ → List ℕ → Result Header ReadFault → Type 0
ReadsHeader front rest (Ok header) = (length front ≡ 13) × (header ≡ header_in front)
ReadsHeader front rest (Err Ended) = (length front ≡ 0) × (rest ≡ [])
ReadsHeader front rest (Err (Faulty code)) = (code ≡ 1) × (0 < length front) × (length front < 13) × (rest ≡ [])
ReadsHeader front rest (Err Source) = length front ≤ 13
ReadsHeader front rest (Err Want) = ⊥

-- what reading so many bytes of a body answers
abbrev pub ReadsBody : ℕ → List ℕ → List ℕ → Result (Vec ℕ Global) ReadFault → Type 0
ReadsBody size front rest (Ok body) = (length front ≡ size) × (body.items ≡ front)
ReadsBody size front rest (Err Ended) = ⊥
ReadsBody size front rest (Err (Faulty code)) = (code ≡ 1) × (length front < size) × (rest ≡ [])
ReadsBody size front rest (Err Source) = length front ≤ size
ReadsBody size front rest (Err Want) = length front ≡ 0

-- the message was read of these bytes, whatever stands behind them
pub record IsRead (forms : Name → Option BodyShape) (front : List ℕ) (letter : Letter) (rest : List ℕ) : Type 0 where
  pub there : front_of forms (front ++ rest) ≡ There letter rest
  pub size : read_of forms (front ++ rest) ≡ length front

-- the message has these bytes, which its header can tell
pub record IsWhole (forms : Name → Option BodyShape) (front : List ℕ) (letter : Letter) : Type 0 where
  pub long : length front ≡ 13 + length letter.body
  pub small : length letter.body < 4294967296
  pub read : (behind : List ℕ) → IsRead forms front letter behind

-- the message has a fault, which these bytes and those that are left show
pub record IsWrong (forms : Name → Option BodyShape) (front rest : List ℕ) (code : ℕ) : Type 0 where
  pub wrong : front_of forms (front ++ rest) ≡ Wrong code
  pub size : read_of forms (front ++ rest) ≡ length front

-- what reading a message answers, given the bytes taken and those that are left
abbrev pub ReadsMessage : (Name → Option BodyShape) → List ℕ → List ℕ → Result Message ReadFault → Type 0
ReadsMessage forms front rest (Ok msg) = IsWhole forms front (letter_of msg)
ReadsMessage forms front rest (Err Ended) = (front_of forms (front ++ rest) ≡ NoByte) × (length front ≡ 0)
ReadsMessage forms front rest (Err (Faulty code)) = IsWrong forms front rest code
ReadsMessage forms front rest (Err Source) = length front ≤ read_of forms (front ++ rest)
ReadsMessage forms front rest (Err Want) = length front ≤ read_of forms (front ++ rest)
