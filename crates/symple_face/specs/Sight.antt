-- What a machine sees in a round: numbers, totals, and the rows and degrees of the vertices that it knows.
use Rattle.std.specs.Prelude.{ℕ, ℤ, pos, false, List, [], Option, map}
use Rattle.vert_base.specs.declared.graph.Edge.{Edge}
use Rattle.vert_base.specs.declared.graph.Neighbour.{Neighbour}
use Rattle.vert_base.specs.declared.value.Row.{Row}
use Rattle.vert_base.specs.Neighbours.{source}
use Rattle.vert_tree.specs.declared.statement.Stmt.{Stmt}
use Rattle.vert_eval.specs.declared.environment.Env.{Env}
use Rattle.vert_eval.specs.Rounds.{reading}
use Rattle.vert_eval.specs.Runs.{Act, in_turn, run}

pub record Sight : Type 0 where
  pub n : ℕ
  pub round : ℕ
  pub draws : ℕ
  pub totals : List ℤ
  pub row : ℕ → Row
  pub ins : ℕ → ℕ
  pub outs : ℕ → ℕ

abbrev pub seen_neighbour : Sight → ℕ → ℤ → Neighbour
seen_neighbour g u weight = record { id = record { 0 = u }; weight = weight; indeg = g.ins u; outdeg = g.outs u }

-- the environment of a vertex, with the key under which it emits and these values of the slots
abbrev pub seen_env : Sight → ℕ → ℕ → List (Option ℤ) → Env
seen_env g v key slots = record {
  id = record { 0 = v };
  n = g.n;
  round = g.round;
  indeg = g.ins v;
  outdeg = g.outs v;
  draws = g.draws;
  row = g.row v;
  next_active = false;
  locals = record { items = [] };
  touched = 0;
  other = seen_neighbour g v (pos 0);
  other_row = g.row v;
  sends = record { items = [] };
  slots = record { items = slots };
  totals = record { items = g.totals };
  key = key;
}

-- the environment at a member of the neighbours
abbrev pub seen_at : Sight → Edge → Env → Env
seen_at g e env = record env { other = seen_neighbour g (source e) e.weight; other_row = g.row (source e) }

-- the loop body on one member, which is read
abbrev pub seen_act : Sight → List Stmt → Edge → Act
seen_act g body e env = reading (source e) (run body (seen_at g e env))

-- the loop over a list of members, up to a break
abbrev pub seen_loop : Sight → List Stmt → List Edge → Act
seen_loop g body members = in_turn (map (seen_act g body) members)
