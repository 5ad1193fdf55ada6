-- The run of a program by one machine over the whole graph.
use Rattle.std.specs.Prelude.{ℕ, zero, suc, ℤ, ◌+◌, ◌-◌, Bool, false, List, [], ◌∷◌, length, map, filter, sum, Option, Some, None, if◌then◌else◌}
use Rattle.vert_base.specs.declared.value.Row.{Row}
use Rattle.vert_base.specs.declared.value.Ruling.{Ruling}
use Rattle.vert_base.specs.declared.value.Ruling.TheVariants as ruling
use Rattle.vert_tree.specs.declared.expression.Expr.{Expr}
use Rattle.vert_tree.specs.declared.program.Program.{Program}
use Rattle.vert_tree.specs.declared.program.TotalDecl.{TotalDecl}
use Rattle.mode_switch.specs.Ruling.{ruling_of}
use Rattle.slot_merge.specs.Combine.{total_of}
use Rattle.vert_eval.specs.declared.environment.Env.{Env}
use Rattle.vert_eval.specs.Words.{is_set}
use Rattle.vert_eval.specs.Values.{value_of}
use Rattle.vert_eval.specs.Rounds.{Graph, Scene, env_at, outdegree, reads_of, row_at, rows_after, vertices_of}

-- what a run works on
pub record Job : Type 0 where
  pub program : Program
  pub graph : Graph
  pub draws : ℕ

abbrev pub scene_of : Job → ℕ → List Row → List ℤ → Scene
scene_of job round rows totals = record {
  graph = job.graph;
  draws = job.draws;
  round = round;
  rows = rows;
  totals = totals;
}

-- the environment of a vertex that has this row
abbrev pub with_row : Row → Env → Env
with_row row env = record env { row = row; other_row = row }

-- a vertex before the first round: each field is its expression, and `active` is the value of start
abbrev pub first_row : Job → ℕ → Row
first_row job v =
    let env = env_at (scene_of job 0 [] []) v [] in
    let row : Row = record {
      words = record { items = map (λ d. value_of d.value env) job.program.fields.items };
      active = false;
    } in
    record row { active = is_set (value_of job.program.start (with_row row env)) }

abbrev pub first_rows : Job → List Row
first_rows job = map (first_row job) (vertices_of job.graph)

-- one total of the rows after a round
abbrev pub total_after : Job → ℕ → List Row → TotalDecl → ℤ
total_after job round rows t =
    total_of t.op (map (λ v. value_of t.value (env_at (scene_of job round rows []) v [])) (vertices_of job.graph))

-- the totals of the rows after a round
abbrev pub totals_after : Job → ℕ → List Row → List ℤ
totals_after job round rows = map (total_after job round rows) job.program.totals.items

-- the stop test after a round, which is false where there is none
abbrev pub stops : Option Expr → Env → Bool
stops None env = false
stops (Some test) env = is_set (value_of test env)

abbrev pub stops_after : Job → ℕ → List ℤ → Bool
stops_after job round totals = stops job.program.stop (env_at (scene_of job round [] totals) 0 [])

-- how many vertices are active
abbrev pub active_vertices : List Row → ℕ
active_vertices rows = length (filter (λ r. r.active) rows)

-- how many edges leave active vertices
abbrev pub active_edges : Graph → List Row → ℕ
active_edges g rows = sum (map (λ v. if (row_at rows v).active then outdegree g v else 0) (vertices_of g))

-- what stands before a round: the rows and their totals, whether and in which mode the round takes
-- place, and the two numbers that the ruling was made from
pub record Standing : Type 0 where
  pub rows : List Row
  pub totals : List ℤ
  pub ruling : Ruling
  pub active : ℕ
  pub edges : ℕ

-- no round after the stop test, else by the rule of modes
abbrev pub ruling_after : Job → ℕ → List Row → List ℤ → Ruling
ruling_after job round rows totals =
    if stops_after job round totals
    then ruling.Stop
    else ruling_of (active_vertices rows) (active_edges job.graph rows) (length job.graph.edges) (round + 1)
    job.program.limit job.program.mode

-- what stands before the round that follows this one
abbrev pub standing_after : Job → ℕ → List Row → Standing
standing_after job round rows =
    let totals = totals_after job round rows in
    record {
      rows = rows;
      totals = totals;
      ruling = ruling_after job round rows totals;
      active = active_vertices rows;
      edges = active_edges job.graph rows;
    }

-- a round that took place: what stood before it, and the reads at each vertex
pub record Played : Type 0 where
  pub round : ℕ
  pub before : Standing
  pub reads : List (List ℕ)

-- the rounds of a run, and what stands after the last
pub record Run : Type 0 where
  pub rounds : List Played
  pub last : Standing

abbrev pub by_ruling : Ruling → Run → Run → Run
by_ruling ruling.Stop ended going = ended
by_ruling _ ended going = going

abbrev pub then_runs : Played → Run → Run
then_runs played rest = record rest { rounds = played ∷ rest.rounds }

abbrev pub scene_before : Job → ℕ → Standing → Scene
scene_before job round s = scene_of job round s.rows s.totals

abbrev pub played_at : Job → ℕ → Standing → Played
played_at job round s = record {
  round = round;
  before = s;
  reads = reads_of job.program s.ruling (scene_before job round s);
}

-- the rows after a round, and what stands then
abbrev pub next_standing : Job → ℕ → Standing → Standing
next_standing job round s = standing_after job round (rows_after job.program s.ruling (scene_before job round s))

-- at most so many rounds, from one before which this stands
abbrev pub rounds_from : ℕ → Job → ℕ → Standing → Run
rounds_from zero job round s = record { rounds = []; last = s }
rounds_from (suc more) job round s =
    by_ruling s.ruling
    (record { rounds = []; last = s })
    (then_runs (played_at job round s) (rounds_from more job (round + 1) (next_standing job round s)))

-- a run that goes on at a round before which this stands, whatever the rows would give
abbrev pub resumed_run : Job → ℕ → Standing → Run
resumed_run job round s = rounds_from (job.program.limit + 1 - round) job round s

-- the whole run, from the first rows
abbrev pub source_run : Job → Run
source_run job = resumed_run job 1 (standing_after job 0 (first_rows job))
