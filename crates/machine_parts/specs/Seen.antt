-- The own vertices as a machine sees them.
use Rattle.std.specs.Prelude.{◌≡◌, ◌<◌, ◌+◌, ℕ, ℤ, List, Option, if◌then◌else◌, length, map, slice_index_or, sum}
use Rattle.std.specs.List.{range_with_len}
use Rattle.vert_base.specs.declared.value.Row.{Row}
use Rattle.vert_tree.specs.declared.program.TotalDecl.{TotalDecl}
use Rattle.slot_merge.specs.Combine.{total_of}
use Rattle.vert_eval.specs.declared.environment.Env.{Env}
use Rattle.vert_eval.specs.Rounds.{row_at}
use Rattle.vert_eval.specs.Values.{value_of}
use Rattle.symple_face.specs.declared.degree.Degree.{Degree}
use Rattle.symple_face.specs.Sight.{Sight, seen_env}
use Rattle.machine_parts.specs.Counting.{edges_at, own_env, own_total}
use Rattle.machine_parts.specs.Neighbours.{no_degree}

-- a sight has these rows and degrees at the own vertices, and the numbers, totals and values of an environment
pub record ShowsOwn (g : Sight) (rows : List Row) (degrees : List Degree) (start : ℕ) (values : List (Option ℤ))
    (env : Env) : Type 0 where
  pub n : env.n ≡ g.n
  pub round : env.round ≡ g.round
  pub draws : env.draws ≡ g.draws
  pub totals : env.totals.items ≡ g.totals
  pub slots : env.slots.items ≡ values
  pub row : (i : ℕ) → i < length rows → row_at rows i ≡ g.row (start + i)
  pub ins : (i : ℕ) → i < length rows → (slice_index_or degrees i no_degree).ins ≡ g.ins (start + i)
  pub outs : (i : ℕ) → i < length rows → (slice_index_or degrees i no_degree).outs ≡ g.outs (start + i)

-- then the environment of an own vertex is the one that is seen there
abbrev pub OwnIsSeen : Type 0
OwnIsSeen =
    (g : Sight) (rows : List Row) (degrees : List Degree) (start i : ℕ) (values : List (Option ℤ)) (env : Env) →
    ShowsOwn g rows degrees start values env → i < length rows →
    own_env rows degrees start env i ≡ seen_env g (start + i) 0 values

-- and a total over the own vertices is that of their values as they are seen
abbrev pub OwnTotalIsSeen : Type 0
OwnTotalIsSeen =
    (g : Sight) (rows : List Row) (degrees : List Degree) (start : ℕ) (values : List (Option ℤ)) (env : Env)
    (t : TotalDecl) →
    ShowsOwn g rows degrees start values env →
    own_total rows degrees start env t
    ≡ total_of t.op (map (λ v. value_of t.value (seen_env g v 0 values)) (range_with_len start (length rows)))

-- so are the edges that leave active ones
abbrev pub OwnEdgesAreSeen : Type 0
OwnEdgesAreSeen =
    (g : Sight) (rows : List Row) (degrees : List Degree) (start : ℕ) (values : List (Option ℤ)) (env : Env) →
    ShowsOwn g rows degrees start values env →
    sum (map (edges_at rows degrees) (range_with_len 0 (length rows)))
    ≡ sum (map (λ v. if (g.row v).active then g.outs v else 0) (range_with_len start (length rows)))
