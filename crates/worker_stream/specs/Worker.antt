-- One machine over a stream of bytes: what it writes, how many bytes it uses, and how it ends.
use Rattle.std.specs.Prelude.{ℕ, zero, suc, ◌+◌, ◌==◌, ◌&&◌, not, Bool, if◌then◌else◌, List, [], ◌++◌, length}
use Rattle.vert_base.specs.declared.message.Name.{Name}
use Rattle.circulant_plan.specs.Remaining.{way_left}
use Rattle.instrument.specs.declared.split.Split.{Split}
use Rattle.symple_face.specs.declared.action.Action.{Action}
use Rattle.symple_face.specs.declared.action.Action.TheVariants.{Ready, Waits, Over}
use Rattle.symple_face.specs.Parts.{PlainPart}
use Rattle.symple_face.specs.Plans.{blocks_of}
use Rattle.symple_face.specs.State.{State, action_of, has_taken, machine, shape_at}
use Rattle.symple_face.specs.Work.{Work}
use Rattle.worker_stream.specs.Fronts.{AtFront, NoByte, Wrong, There, front_of, read_of}
use Rattle.worker_stream.specs.Sent.{spelled_letters}

-- How it ends: over, in this state; at a message with the fault M1 to M5 of this number, whose first byte has this
-- place; or where no byte is left, by M6, with the name that it waits for.
pub data End : Type 0 where
  Finishes : (last : State) → End
  Refuses : (code at : ℕ) → End
  Lacks : (x : Name) → End

pub record Served : Type 0 where
  pub used : ℕ
  pub text : List ℕ
  pub end : End

abbrev pub ends_at : ℕ → End → Served
ends_at used end = record { used = used; text = []; end = end }

-- a text, and then the rest
abbrev pub behind_text : List ℕ → Served → Served
behind_text text w = record { used = w.used; text = text ++ w.text; end = w.end }

-- what comes from a place among the bytes on, for a machine in a state and the bytes that are left
abbrev pub Onwards : Type 0
Onwards = ℕ → State → List ℕ → Served

-- a message of this name can be taken: it is addressed here, wasn't taken, and is of the round of the spot
abbrev pub is_due : State → Name → Bool
is_due s x = x.to == machine s && (not (has_taken s x) && x.round == s.at.round)

-- at the front of the bytes, of which so many are read: M6, M1 to M4, the message is taken, or M5
abbrev pub takes_front : Work → Onwards → ℕ → State → Name → ℕ → AtFront → Served
takes_front work next at s waited size NoByte = ends_at at (Lacks waited)
takes_front work next at s waited size (Wrong code) = ends_at (at + size) (Refuses code at)
takes_front work next at s waited size (There l rest) =
    if is_due s l.name then next (at + size) (work.take s l) rest else ends_at (at + size) (Refuses 5 at)

abbrev pub reads : Work → Onwards → ℕ → State → Name → List ℕ → Served
reads work next at s waited bytes =
    takes_front work next at s waited (read_of (shape_at s) bytes) (front_of (shape_at s) bytes)

-- where it is over it ends and leaves the bytes; where it is ready it acts; else it reads a message
abbrev pub acts : Work → Onwards → ℕ → State → List ℕ → Action → Served
acts work next at s bytes Over = ends_at at (Finishes s)
acts work next at s bytes Ready = behind_text (spelled_letters (work.sent s)) (next at (work.go s) bytes)
acts work next at s bytes (Waits x) = reads work next at s x bytes

-- with so many actions and messages at most
abbrev pub served_within : Work → ℕ → Onwards
served_within work zero at s bytes = ends_at at (Finishes s)
served_within work (suc n) at s bytes = acts work (served_within work n) at s bytes (action_of s)

-- so many are enough: each action shortens the way of the machine, and each message the bytes
abbrev pub steps_left : State → List ℕ → ℕ
steps_left s bytes = way_left (blocks_of s.split) s.at + length bytes + 1

unfoldable pub served_from : Work → Onwards
served_from work at s bytes = served_within work (steps_left s bytes) at s bytes

-- the machine of a part, from its first action on
abbrev pub worker : Work → PlainPart → Split → List ℕ → Served
worker work part split bytes = served_from work 0 (work.first part split) bytes
