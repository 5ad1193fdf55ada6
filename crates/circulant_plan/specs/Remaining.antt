-- What is left of a run, a bound of the events to come.
use Rattle.std.specs.Prelude.{ℕ, ◌+◌, ◌-◌, ◌*◌, if◌then◌else◌, List, [], ◌∷◌, length}
use Rattle.circulant_plan.specs.Standing.{Standing, place_of}
use Rattle.circulant_plan.specs.Skeleton.{Skeleton, Blocks, is_over}

-- the way left of a machine, 0 where it is over: places are 256 to a round, and no machine passes the begin of
-- the round after the limit
abbrev pub way_left : Blocks → Standing → ℕ
way_left blocks s = if is_over s.spot then 0 else 256 * (blocks.limit + 1) + 1 - place_of s

abbrev pub ways_left : Blocks → List Standing → ℕ
ways_left blocks [] = 0
ways_left blocks (s ∷ ss) = way_left blocks s + ways_left blocks ss

-- a bound of the events that are left: a go sends fewer than 66 messages
abbrev pub events_left : Blocks → Skeleton → ℕ
events_left blocks k = 66 * ways_left blocks k.standings + length k.under_way
