-- The environment of a machine, which goes from vertex to vertex.
use Rattle.std.specs.Prelude.{◌≡◌, ℕ, ℤ, pos, false, List, [], Option}
use Rattle.vert_eval.specs.declared.environment.Env.{Env}
use Rattle.symple_face.specs.declared.degree.Degree.{Degree}
use Rattle.symple_face.specs.Sight.{Sight}

-- the environment at another vertex, whose row is there already
abbrev pub entered : ℕ → Degree → ℕ → Env → Env
entered v degree key env = record env {
  id = record { 0 = v };
  indeg = degree.ins;
  outdeg = degree.outs;
  next_active = false;
  locals = record { items = [] };
  touched = 0;
  other = record { id = record { 0 = v }; weight = pos 0; indeg = degree.ins; outdeg = degree.outs };
  sends = record { items = [] };
  key = key;
}

-- an environment that has the numbers and totals of a sight, these values of the slots, and a vertex's row and degrees
-- at hand
pub record IsReadyFor (g : Sight) (v : ℕ) (degree : Degree) (values : List (Option ℤ)) (env : Env) : Type 0 where
  pub n : env.n ≡ g.n
  pub round : env.round ≡ g.round
  pub draws : env.draws ≡ g.draws
  pub totals : env.totals.items ≡ g.totals
  pub slots : env.slots.items ≡ values
  pub row : env.row ≡ g.row v
  pub other : env.other_row ≡ g.row v
  pub ins : degree.ins ≡ g.ins v
  pub outs : degree.outs ≡ g.outs v
