-- The wire of a run: its traffic, and the names that can be sent again.
use Rattle.std.specs.Prelude.{◌≡◌, if◌then◌else◌}
use Rattle.vert_base.specs.declared.message.Name.{Name}
use Rattle.link_core.specs.declared.wire.Wire.{Wire}
use Rattle.link_core.specs.Piles.{count_of}
use Rattle.link_core.specs.Traffic.{Traffic, can_repeat}

abbrev pub traffic_of : Wire → Traffic
traffic_of w = record { copies = w.copies; acks = w.acks; kept = w.kept }

-- the name is repeatable, once, where it can be sent again
abbrev pub IsRight : Wire → Name → Type 0
IsRight w x = count_of x w.repeatable ≡ (if can_repeat (traffic_of w) x then 1 else 0)

abbrev pub IsSettled : Wire → Type 0
IsSettled w = (x : Name) → IsRight w x

-- the wire is settled, and has this traffic
pub record Carries (w : Wire) (t : Traffic) : Type 0 where
  pub settled : IsSettled w
  pub traffic : traffic_of w ≡ t
