-- A machine of any kind as plain data, and what it can do next.
use Rattle.std.specs.Prelude.{◌≡◌, ℕ, ℤ, Bool, true, false, List, [], ◌∷◌, Option, None, Some, is_some, if◌then◌else◌}
use Rattle.vert_base.specs.declared.message.Name.{Name}
use Rattle.vert_base.specs.declared.value.Row.{Row}
use Rattle.vert_base.specs.declared.value.Ruling.{Ruling}
use Rattle.vert_base.specs.Letters.{Letter, found}
use Rattle.slot_merge.specs.declared.partial.Partial.{Partial}
use Rattle.dep_layout.specs.Spelling.{State as LoopState}
use Rattle.instrument.specs.declared.split.Split.{Split}
use Rattle.circulant_plan.specs.Skeleton.{is_over}
use Rattle.circulant_plan.specs.Standing.{Standing}
use Rattle.circulant_plan.specs.Table.{needs_of}
use Rattle.body_shape.specs.declared.shape.BodyShape.{BodyShape}
use Rattle.body_shape.specs.Fit.{is_fit}
use Rattle.body_shape.specs.Verdict.{judged_read}
use Rattle.symple_face.specs.declared.action.Action.{Action}
use Rattle.symple_face.specs.declared.action.Action.TheVariants.{Ready, Waits, Over}
use Rattle.symple_face.specs.declared.report.Report.{Report}
use Rattle.symple_face.specs.Parts.{PlainPart}
use Rattle.symple_face.specs.Plans.{ring_of}
use Rattle.symple_face.specs.Shapes.{shape_of}

-- what a judge summed: active vertices, active edges, and totals
pub record Sums : Type 0 where
  pub active : ℕ
  pub edges : ℕ
  pub totals : List ℤ

pub record State : Type 0 where
  pub part : PlainPart
  pub split : Split
  -- the spot, and its round also at the end
  pub at : Standing
  -- of the round of the spot, once it is known
  pub ruling : Ruling
  -- the messages taken in the round, in the order of names; a body that was merged or dropped has no byte
  pub held : List Letter
  -- of the own vertices, ascending, and so the two below
  pub rows : List Row
  -- one for each slot, then one for each reduced let
  pub partials : List (List Partial)
  -- what the last machine of the own chunk left
  pub ring : List LoopState
  -- the sources read in this round and in the last closed one: a list for each target of the part's scan, ascending
  pub reading : List (List ℕ)
  pub reads : List (List ℕ)
  -- of the last judge
  pub judged : Sums
  pub report : Report
  -- for a kind of machine that has more to keep
  pub more : List ℕ

abbrev pub machine : State → ℕ
machine s = s.part.at.machine

-- how many machines there are
abbrev pub p_of : State → ℕ
p_of s = s.part.at.machines

-- whether a message of this name was taken in the round
abbrev pub has_taken : State → Name → Bool
has_taken s x = is_some (found x s.held)

-- what a machine needs at its spot
abbrev pub needs : State → List Name
needs s = needs_of (ring_of s.split (p_of s)) (machine s) s.at.spot

-- the first name under which no message was taken
abbrev pub first_missing : List Name → List Letter → Option Name
first_missing [] held = None
first_missing (x ∷ xs) held = if is_some (found x held) then first_missing xs held else Some x

abbrev pub waiting_for : Option Name → Action
waiting_for None = Ready
waiting_for (Some x) = Waits x

abbrev pub action_of : State → Action
action_of s = if is_over s.at.spot then Over else waiting_for (first_missing (needs s) s.held)

-- the ruling that the body of a verdict tells
abbrev pub ruling_read : List ℕ → Ruling
ruling_read body = (judged_read 0 body).ruling

-- the form of a message's body at this machine
abbrev pub shape_at : State → Name → Option BodyShape
shape_at s x = shape_of s.split s.part x

-- a message that the machine can take: it is addressed here, wasn't taken, is of the round of the spot, and fits its
-- form
pub record IsTakeable (s : State) (l : Letter) : Type 0 where
  pub here : l.name.to ≡ machine s
  pub going : is_over s.at.spot ≡ false
  pub new : found l.name s.held ≡ None
  pub round : l.name.round ≡ s.at.round
  pub shape : BodyShape
  pub has : shape_at s l.name ≡ Some shape
  pub fits : is_fit shape l.body ≡ true
