-- The stop test at the end of a round.
use Rattle.std.specs.Prelude.{Option, Some, None, IsTrue}
use Rattle.vert_tree.specs.declared.expression.Expr.{Expr}
use Rattle.vert_tree.specs.Places.{expr_placed}
use Rattle.vert_eval.specs.declared.environment.Env.{Env}
use Rattle.vert_eval.specs.Values.{counts_of}

-- each name of a stop test has its place in an environment
abbrev pub IsStopPlaced : Option Expr → Env → Type 0
IsStopPlaced None env = Unit {0}
IsStopPlaced (Some test) env = IsTrue (expr_placed (counts_of env) test)
