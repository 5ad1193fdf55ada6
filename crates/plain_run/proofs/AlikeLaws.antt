-- Runs over graphs that are alike: of each vertex the same members and degrees.
use Rattle.std.proofs.Common.{◌≡◌, ℕ, ℤ, pos, false, zero, suc, ◌+◌, ◌-◌, ◌&&◌, List, [], map, length, refl, ap, ◌∙◌, Option, Some, None}
use Rattle.std.specs.Prelude.{if◌then◌else◌, sum}
use Rattle.std.specs.List.{flat_map, range_with_len}
use Rattle.vert_base.specs.declared.graph.Edge.{Edge}
use Rattle.vert_base.specs.declared.value.Combine.{Combine}
use Rattle.vert_base.specs.declared.value.Row.{Row}
use Rattle.vert_base.specs.declared.value.Ruling.{Ruling}
use Rattle.vert_base.specs.declared.value.Ruling.TheVariants as ruling
use Rattle.vert_base.specs.Neighbours.{source}
use Rattle.vert_tree.specs.declared.program.Dense.{Dense}
use Rattle.vert_tree.specs.declared.program.Program.{Program}
use Rattle.vert_tree.specs.declared.program.Sparse.{Sparse}
use Rattle.vert_tree.specs.declared.statement.Stmt.{Stmt}
use Rattle.mode_switch.specs.Ruling.{ruling_of}
use Rattle.slot_merge.specs.Combine.{slot_values, total_of}
use Rattle.vert_eval.specs.declared.environment.Env.{Env}
use Rattle.vert_eval.specs.Words.{is_set}
use Rattle.vert_eval.specs.Values.{value_of}
use Rattle.vert_eval.specs.Runs.{after, in_turn, leaves, run}
use Rattle.vert_eval.specs.Rounds.{Graph, Scene, at_member, dense_block, dense_part, emitted_over, env_at, gathered, indegree, loop, members_of, no_values, outdegree, reading, reads_of, row_after, row_at, rows_after, sent_by, slot_ops, sparse_part, updated, with_lets}
use Rattle.vert_eval.specs.SourceRun.{Job, Standing, active_edges, active_vertices, by_ruling, first_rows, next_standing, played_at, resumed_run, rounds_from, ruling_after, scene_before, scene_of, source_run, standing_after, stops, then_runs, totals_after, with_row}

-- graphs whose loops read the same
pub record AreAlike (g h : Graph) : Type 0 where
  pub vertices : g.vertices ≡ h.vertices
  pub members : (v : ℕ) → members_of g v ≡ members_of h v
  pub indegrees : (v : ℕ) → indegree g v ≡ indegree h v
  pub outdegrees : (v : ℕ) → outdegree g v ≡ outdegree h v
  pub count : length g.edges ≡ length h.edges

-- a scene over another graph
abbrev on : Graph → Scene → Scene
on g s = record s { graph = g }

-- ---- a round
module _ (g h : Graph) (are : AreAlike g h) (s : Scene) where
  env_same : (v : ℕ) (slots : List (Option ℤ)) → env_at (on g s) v slots ≡ env_at (on h s) v slots
  env_same v slots = λ i. record (env_at (on g s) v slots) {
    n = are.vertices i;
    indeg = are.indegrees v i;
    outdeg = are.outdegrees v i;
    other = record { id = record { 0 = v }; weight = pos 0; indeg = are.indegrees v i; outdeg = are.outdegrees v i };
  }

  member_same : (e : Edge) (env : Env) → at_member (on g s) e env ≡ at_member (on h s) e env
  member_same e env = λ i. record env {
    other = record {
      id = record { 0 = source e };
      weight = e.weight;
      indeg = are.indegrees (source e) i;
      outdeg = are.outdegrees (source e) i;
    };
    other_row = row_at s.rows (source e);
  }

  loop_same : (body : List Stmt) (members : List Edge) (env : Env) →
      loop (on g s) body members env ≡ loop (on h s) body members env
  loop_same body members env = λ i. in_turn
      (map (λ e start. reading (source e) (run body (member_same e start i))) members) env

  block_same : (d : Dense) (members : List Edge) (env : Env) →
      dense_block (on g s) d members env ≡ dense_block (on h s) d members env
  block_same d members env = ap (λ looped. after looped (run d.tail.items looped.env))
      (loop_same d.body.items members (with_lets d.lets.items env))

  dense_same : (o : Option Dense) (members : List Edge) (env : Env) →
      dense_part (on g s) o members env ≡ dense_part (on h s) o members env
  dense_same None members env = refl
  dense_same (Some d) members env = ap (λ r. if is_set (value_of d.when_test env) then r else leaves env)
      (block_same d members env)

  sent_same : (ops : List Combine) (sparse : Sparse) (env : Env) (e : Edge) →
      emitted_over (on g s) ops sparse env e ≡ emitted_over (on h s) ops sparse env e
  sent_same ops sparse env e = λ i.
      let sender : Env = env_same (source e) (no_values ops) i in
      let entered : Env = member_same e env i in
      if sender.row.active && is_set (value_of sparse.when_test sender)
      then (run sparse.body.items (record entered { sends = record { items = sent_by sparse sender } })).emitted
      else []

  sparse_same : (ops : List Combine) (o : Option Sparse) (members : List Edge) (env : Env) →
      sparse_part (on g s) ops o members env ≡ sparse_part (on h s) ops o members env
  sparse_same ops None members env = refl
  sparse_same ops (Some sparse) members env = λ i.
      record (leaves env) { emitted = flat_map (λ e. sent_same ops sparse env e i) members }

  module _ (p : Program) where
    bare_same : (v : ℕ) → env_at (on g s) v (no_values (slot_ops p)) ≡ env_at (on h s) v (no_values (slot_ops p))
    bare_same v = env_same v (no_values (slot_ops p))

    gathered_same : (r : Ruling) (v : ℕ) → gathered p r (on g s) v ≡ gathered p r (on h s) v
    gathered_same ruling.Stop v = ap leaves (bare_same v)
    gathered_same ruling.Dense v =
        let env = env_at (on g s) v (no_values (slot_ops p)) in
        dense_same p.dense (members_of g v) env
        ∙ ap (λ ms. dense_part (on h s) p.dense ms env) (are.members v)
        ∙ ap (dense_part (on h s) p.dense (members_of h v)) (bare_same v)
    gathered_same ruling.Sparse v =
        let env = env_at (on g s) v (no_values (slot_ops p)) in
        sparse_same (slot_ops p) p.sparse (members_of g v) env
        ∙ ap (λ ms. sparse_part (on h s) (slot_ops p) p.sparse ms env) (are.members v)
        ∙ ap (sparse_part (on h s) (slot_ops p) p.sparse (members_of h v)) (bare_same v)

    row_same : (r : Ruling) (v : ℕ) → row_after p r (on g s) v ≡ row_after p r (on h s) v
    row_same r v =
        ap (λ x. updated p.update.items (env_at (on g s) v (slot_values 0 (slot_ops p) x.emitted))) (gathered_same r v)
        ∙ ap (updated p.update.items) (env_same v (slot_values 0 (slot_ops p) (gathered p r (on h s) v).emitted))

    rows_same : (r : Ruling) → rows_after p r (on g s) ≡ rows_after p r (on h s)
    rows_same r = λ i. map (λ v. row_same r v i) (range_with_len 0 (are.vertices i))

    reads_same : (r : Ruling) → reads_of p r (on g s) ≡ reads_of p r (on h s)
    reads_same r = λ i. map (λ v. (gathered_same r v i).reads) (range_with_len 0 (are.vertices i))

-- ---- a run
module _ (p : Program) (draws : ℕ) (g h : Graph) (are : AreAlike g h) where
  abbrev job : Graph → Job
  job x = record { program = p; graph = x; draws = draws }

  abbrev begun : Env → Row
  begun env =
      let row : Row = record {
        words = record { items = map (λ d. value_of d.value env) p.fields.items };
        active = false;
      } in
      record row { active = is_set (value_of p.start (with_row row env)) }

  first_same : first_rows (job g) ≡ first_rows (job h)
  first_same = λ i. map (λ v. begun (env_same g h are (scene_of (job g) 0 [] []) v [] i))
      (range_with_len 0 (are.vertices i))

  totals_same : (round : ℕ) (rows : List Row) → totals_after (job g) round rows ≡ totals_after (job h) round rows
  totals_same round rows = λ i.
      map (λ t. total_of t.op (map (λ v. value_of t.value (env_same g h are (scene_of (job g) round rows []) v [] i))
      (range_with_len 0 (are.vertices i)))) p.totals.items

  edges_same : (rows : List Row) → active_edges g rows ≡ active_edges h rows
  edges_same rows = λ i. sum (map (λ v. if (row_at rows v).active then are.outdegrees v i else 0)
      (range_with_len 0 (are.vertices i)))

  ruling_same : (round : ℕ) (rows : List Row) (totals : List ℤ) →
      ruling_after (job g) round rows totals ≡ ruling_after (job h) round rows totals
  ruling_same round rows totals = λ i.
      if stops p.stop (env_same g h are (scene_of (job g) round [] totals) 0 [] i)
      then ruling.Stop
      else ruling_of (active_vertices rows) (edges_same rows i) (are.count i) (round + 1) p.limit p.mode

  standing_same : (round : ℕ) (rows : List Row) → standing_after (job g) round rows ≡ standing_after (job h) round rows
  standing_same round rows =
      let ruled = ap (ruling_after (job g) round rows) (totals_same round rows)
      ∙ ruling_same round rows (totals_after (job h) round rows) in
      λ i. record {
        rows = rows;
        totals = totals_same round rows i;
        ruling = ruled i;
        active = active_vertices rows;
        edges = edges_same rows i;
      }

  played_same : (round : ℕ) (s : Standing) → played_at (job g) round s ≡ played_at (job h) round s
  played_same round s = λ i. record {
    round = round;
    before = s;
    reads = reads_same g h are (scene_before (job g) round s) p s.ruling i;
  }

  next_same : (round : ℕ) (s : Standing) → next_standing (job g) round s ≡ next_standing (job h) round s
  next_same round s =
      ap (standing_after (job g) round) (rows_same g h are (scene_before (job g) round s) p s.ruling)
      ∙ standing_same round (rows_after p s.ruling (scene_before (job h) round s))

  rounds_same : (more round : ℕ) (s : Standing) → rounds_from more (job g) round s ≡ rounds_from more (job h) round s
  rounds_same zero round s = refl
  rounds_same (suc more) round s =
      let rest = ap (rounds_from more (job g) (round + 1)) (next_same round s)
      ∙ rounds_same more (round + 1) (next_standing (job h) round s) in
      λ i. by_ruling s.ruling (record { rounds = []; last = s }) (then_runs (played_same round s i) (rest i))

  -- runs over graphs that are alike are one
  pub source_same : source_run (job g) ≡ source_run (job h)
  source_same =
      ap (resumed_run (job g) 1) (ap (standing_after (job g) 0) first_same ∙ standing_same 0 (first_rows (job h)))
      ∙ rounds_same (p.limit + 1 - 1) 1 (standing_after (job h) 0 (first_rows (job h)))
