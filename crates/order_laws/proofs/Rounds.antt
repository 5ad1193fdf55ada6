-- Rounds and whole runs over two lists of ends: an induction over rounds.
use Rattle.std.proofs.Common.{◌≡◌, ℕ, ℤ, zero, suc, ◌+◌, ◌-◌, Bool, true, false, ◌&&◌, IsTrue, List, [], ◌∷◌, ◌++◌, map, IsPermutation, refl, sym, ap, ◌∙◌, Option, Some, None}
use Rattle.std.specs.Prelude.{if◌then◌else◌, is_some}
use Rattle.std.specs.List.{AllByRecursion, flat_map, list_all}
use Rattle.std.proofs.lemmas.List.{append-nil}
use Rattle.std.proofs.lemmas.Bool.{and_parts}
use Rattle.vert_base.specs.declared.graph.Edge.{Edge}
use Rattle.vert_base.specs.declared.value.Combine.{Combine}
use Rattle.vert_base.specs.declared.value.Ruling.{Ruling}
use Rattle.vert_base.specs.declared.value.Ruling.TheVariants as ruling
use Rattle.vert_base.specs.Neighbours.{source}
use Rattle.vert_tree.specs.declared.program.Dense.{Dense}
use Rattle.vert_tree.specs.declared.program.Program.{Program}
use Rattle.vert_tree.specs.declared.program.Sparse.{Sparse}
use Rattle.vert_tree.specs.Places.{option_all}
use Rattle.vert_tree.specs.Readable.{body_read, decls_read, dense_read, expr_read, in_loop, in_tests}
use Rattle.vert_tree.proofs.ReadLaws.{blocks_read}
use Rattle.slot_merge.specs.Combine.{Emission, slot_values}
use Rattle.vert_eval.specs.declared.environment.Env.{Env}
use Rattle.vert_eval.specs.Rounds.{Scene, at_member, dense_block, dense_part, emitted_over, env_at, gathered, loop, members_of, no_values, received, row_after, rows_after, sender_at, sent_by, slot_ops, sparse_part, updated, vertices_of, with_lets}
use Rattle.vert_eval.specs.Runs.{Ran, leaves, run}
use Rattle.vert_eval.specs.SourceRun.{Job, Run, Standing, by_ruling, first_rows, next_standing, played_at, resumed_run, rounds_from, scene_before, source_run, standing_after, then_runs}
use Rattle.vert_eval.specs.Values.{value_of}
use Rattle.vert_eval.specs.Words.{is_set}
use Rattle.order_laws.specs.Agreement.{LoopAgrees}
use Rattle.order_laws.specs.OrderFree.{AnyLoopAgrees, IsOrderFree, ResumesAlike, RunsAlike, Told, no_first, told, with_ends}
use Rattle.order_laws.proofs.Blindness.{run_blind}
use Rattle.order_laws.proofs.Emissions.{Combines, all-flat_map, loop_fine, run_fine, slot_values-alike}
use Rattle.order_laws.proofs.Members.{flat_map-permutation, neighbours_of-permutation}

-- a scene whose vertices are cut into chunks with these ends
abbrev over : List ℕ → Scene → Scene
over ends s = record s { graph = record s.graph { ends = ends } }

-- the values of the slots after a run
abbrev values : List Combine → Ran → List (Option ℤ)
values ops ran = slot_values 0 ops ran.emitted

-- ---- a dense round at a vertex
module _ (ops : List Combine) (d : Dense) (s : Scene) (first second : List ℕ) (ms ns : List Edge)
    (moved : IsPermutation ms ns)
    (agrees : LoopAgrees d.body.items) (none : IsTrue (no_first ops d.body.items))
    (tests : IsTrue (body_read in_tests d.tail.items)) (env : Env) where
  block_alike : values ops (dense_block (over first s) d ms env) ≡ values ops (dense_block (over second s) d ns env)
  block_alike =
      let start = with_lets d.lets.items env in
      let a = loop s d.body.items ms start in
      let b = loop s d.body.items ns start in
      let same = agrees s ms ns start moved in
      let tails = run_blind d.tail.items tests a.env b.env same.env in
      slot_values-alike 0 ops a.emitted b.emitted (run d.tail.items a.env).emitted
      (loop_fine ops s d.body.items none ms start) (loop_fine ops s d.body.items none ns start) same.emitted
      ∙ ap (λ es. slot_values 0 ops (b.emitted ++ es)) (sym tails.emitted)

  choice_alike : (t : Bool) →
      values ops (if t then dense_block (over first s) d ms env else leaves env) ≡ values ops
      (if t then dense_block (over second s) d ns env else leaves env)
  choice_alike true = block_alike
  choice_alike false = refl

tail_tests : (d : Dense) → IsTrue (dense_read d) → IsTrue (body_read in_tests d.tail.items)
tail_tests d h =
    let lets = decls_read in_tests d.lets.items in
    let body = body_read in_loop d.body.items in
    let tail = body_read in_tests d.tail.items in
    (and_parts body tail (and_parts lets (body && tail)
    (and_parts (expr_read in_tests d.when_test) (lets && (body && tail)) h).1).1).1

module _ (ops : List Combine) (s : Scene) (first second : List ℕ) (ms ns : List Edge) (env : Env) where
  dense_part_alike : (o : Option Dense) → IsPermutation ms ns → AnyLoopAgrees o →
      IsTrue (option_all (λ d. no_first ops d.body.items) o) → IsTrue (option_all dense_read o) →
      values ops (dense_part (over first s) o ms env) ≡ values ops (dense_part (over second s) o ns env)
  dense_part_alike None moved agrees none reads = refl
  dense_part_alike (Some d) moved agrees none reads =
      choice_alike ops d s first second ms ns moved agrees none (tail_tests d reads) env
      (is_set (value_of d.when_test env))

-- ---- a sparse round at a vertex
module _ (ops : List Combine) (sparse : Sparse) (s : Scene) (none : IsTrue (no_first ops sparse.body.items))
    (env : Env) where
  choice_fine : (t : Bool) (es : List Emission) → AllByRecursion (Combines 0 ops) es →
      AllByRecursion (Combines 0 ops) (if t then es else [])
  choice_fine true es h = h
  choice_fine false es h = tt

  abbrev received_from : Edge → Ran
  received_from e = received s sparse e (sender_at s ops (source e)) env

  over_fine : (e : Edge) → AllByRecursion (Combines 0 ops) (emitted_over s ops sparse env e)
  over_fine e =
      let sender = sender_at s ops (source e) in
      let receiver : Env = record (at_member s e env) { sends = record { items = sent_by sparse sender } } in
      choice_fine (sender.row.active && is_set (value_of sparse.when_test sender)) (received_from e).emitted
      (run_fine ops sparse.body.items none receiver)

  sent_alike : (ms ns : List Edge) → IsPermutation ms ns →
      slot_values 0 ops (flat_map (emitted_over s ops sparse env) ms) ≡ slot_values 0 ops
      (flat_map (emitted_over s ops sparse env) ns)
  sent_alike ms ns moved =
      let a = flat_map (emitted_over s ops sparse env) ms in
      let b = flat_map (emitted_over s ops sparse env) ns in
      ap (slot_values 0 ops) (sym (append-nil a))
      ∙ slot_values-alike 0 ops a b []
      (all-flat_map (Combines 0 ops) (emitted_over s ops sparse env) over_fine ms)
      (all-flat_map (Combines 0 ops) (emitted_over s ops sparse env) over_fine ns)
      (flat_map-permutation (emitted_over s ops sparse env) ms ns moved)
      ∙ ap (slot_values 0 ops) (append-nil b)

module _ (ops : List Combine) (s : Scene) (first second : List ℕ) (ms ns : List Edge) (env : Env) where
  sparse_part_alike : (o : Option Sparse) → IsPermutation ms ns →
      IsTrue (option_all (λ d. no_first ops d.body.items) o) →
      values ops (sparse_part (over first s) ops o ms env) ≡ values ops (sparse_part (over second s) ops o ns
      env)
  sparse_part_alike None moved none = refl
  sparse_part_alike (Some sparse) moved none = sent_alike ops sparse s none env ms ns moved

-- ---- a round
module _ (p : Program) (free : IsOrderFree p) (s : Scene) (first second : List ℕ) where
  members_moved : (v : ℕ) → IsPermutation (members_of (over first s).graph v) (members_of (over second s).graph v)
  members_moved v = neighbours_of-permutation s.graph.vertices first second s.graph.edges v

  none_dense : IsTrue (option_all (λ d. no_first (slot_ops p) d.body.items) p.dense)
  none_dense = (and_parts (option_all (λ d. no_first (slot_ops p) d.body.items) p.dense)
      (option_all (λ d. no_first (slot_ops p) d.body.items) p.sparse) free.slots).0

  none_sparse : IsTrue (option_all (λ d. no_first (slot_ops p) d.body.items) p.sparse)
  none_sparse = (and_parts (option_all (λ d. no_first (slot_ops p) d.body.items) p.dense)
      (option_all (λ d. no_first (slot_ops p) d.body.items) p.sparse) free.slots).1

  gathered_alike : (r : Ruling) (v : ℕ) →
      values (slot_ops p) (gathered p r (over first s) v) ≡ values (slot_ops p) (gathered p r (over second s) v)
  gathered_alike ruling.Stop v = refl
  gathered_alike ruling.Dense v =
      dense_part_alike (slot_ops p) s first second (members_of (over first s).graph v) (members_of (over second
      s).graph v) (env_at s v (no_values (slot_ops p))) p.dense (members_moved v) free.loop none_dense (blocks_read
      p free.typed).0
  gathered_alike ruling.Sparse v =
      sparse_part_alike (slot_ops p) s first second (members_of (over first s).graph v) (members_of (over second
      s).graph v) (env_at s v (no_values (slot_ops p))) p.sparse (members_moved v) none_sparse

  each_row_alike : (r : Ruling) (vs : List ℕ) →
      map (row_after p r (over first s)) vs ≡ map (row_after p r (over second s)) vs
  each_row_alike r [] = refl
  each_row_alike r (v ∷ vs) =
      ap (λ xs. updated p.update.items (env_at s v xs) ∷ map (row_after p r (over first s)) vs) (gathered_alike r v)
      ∙ ap (λ rows. row_after p r (over second s) v ∷ rows) (each_row_alike r vs)

  rows_alike : (r : Ruling) → rows_after p r (over first s) ≡ rows_after p r (over second s)
  rows_alike r = each_row_alike r (vertices_of s.graph)

-- ---- runs
told_by_ruling : (r : Ruling) (ended a b : Run) → told a ≡ told b →
    told (by_ruling r ended a) ≡ told (by_ruling r ended b)
told_by_ruling ruling.Stop ended a b h = refl
told_by_ruling ruling.Dense ended a b h = h
told_by_ruling ruling.Sparse ended a b h = h

-- one round before a run
abbrev told_more : ℕ → Standing → Told → Told
told_more round standing t = record { rounds = (round, standing) ∷ t.rounds; last = t.last }

module _ (job : Job) (free : IsOrderFree job.program) (first second : List ℕ) where
  abbrev one : Job
  one = with_ends first job

  abbrev two : Job
  two = with_ends second job

  next_alike : (round : ℕ) (s : Standing) → next_standing one round s ≡ next_standing two round s
  next_alike round s = ap (standing_after one round)
      (rows_alike job.program free (scene_before job round s) first second s.ruling)

  rounds_alike : (more round : ℕ) (s : Standing) →
      told (rounds_from more one round s) ≡ told (rounds_from more two round s)
  rounds_alike zero round s = refl
  rounds_alike (suc more) round s =
      told_by_ruling s.ruling (record { rounds = []; last = s })
      (then_runs (played_at one round s) (rounds_from more one (round + 1) (next_standing one round s)))
      (then_runs (played_at two round s) (rounds_from more two (round + 1) (next_standing two round s)))
      (ap (λ next. told_more round s (told (rounds_from more one (round + 1) next))) (next_alike round s)
      ∙ ap (told_more round s) (rounds_alike more (round + 1) (next_standing two round s)))

  resumed_alike : (round : ℕ) (s : Standing) → told (resumed_run one round s) ≡ told (resumed_run two round s)
  resumed_alike round s = rounds_alike (job.program.limit + 1 - round) round s

  source_alike : told (source_run one) ≡ told (source_run two)
  source_alike = resumed_alike 1 (standing_after job 0 (first_rows job))

pub runs_alike : (job : Job) → IsOrderFree job.program → RunsAlike job
runs_alike job free first second = source_alike job free first second

pub resumes_alike : (job : Job) → IsOrderFree job.program → ResumesAlike job
resumes_alike job free round standing first second = resumed_alike job free first second round standing
