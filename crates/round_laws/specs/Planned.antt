-- What the plan says of the names of messages.
use Rattle.std.specs.Prelude.{◌≡◌, ℕ, true}
use Rattle.vert_base.specs.declared.message.Name.{Name}
use Rattle.instrument.specs.declared.split.Split.{Split}
use Rattle.symple_face.specs.Plans.{is_planned}
use Rattle.double_buffer.specs.Taking.{CanTake}

-- the receiver of a planned message can take it, so that its buffer has a place for it
abbrev pub PlannedCanBeTaken : Type 0
PlannedCanBeTaken = (split : Split) (p m : ℕ) (x : Name) → is_planned split p m x ≡ true → CanTake p x
