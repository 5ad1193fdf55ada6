-- The messages under way, in the order of their names.
use Rattle.std.specs.Prelude.{◌≤◌, ◌^◌, List, length}
use Rattle.vert_base.specs.Letters.{Letter, Ascends}

pub record IsInOrder (ms : List Letter) : Type 0 where
  pub ascends : Ascends ms
  pub count : length ms ≤ 2 ^ 31
