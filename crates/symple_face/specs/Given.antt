-- What a feed has given and what it has left.
use Rattle.std.specs.Prelude.{List}
use Rattle.vert_base.specs.declared.graph.Neighbour.{Neighbour}
use Rattle.vert_base.specs.declared.value.Row.{Row}

-- the neighbours that a feed has given and those that it has left, each with its row
pub record Given : Type 0 where
  pub given : List (Neighbour × Row)
  pub left : List (Neighbour × Row)
