-- What the machines of a round do by the source's run, and the bodies of their messages.
use Rattle.std.specs.Prelude.{◌==◌, ◌+◌, ◌&&◌, nat_le, nat_lt, ℕ, ℤ, pos, Bool, true, false, if◌then◌else◌, Option, None, Some, List, [], ◌∷◌, length, map, filter, replicate, sum}
use Rattle.std.specs.List.{range_with_len}
use Rattle.vert_base.specs.declared.graph.Edge.{Edge}
use Rattle.vert_base.specs.declared.message.Name.{Name}
use Rattle.vert_base.specs.declared.message.NameKind.{NameKind}
use Rattle.vert_base.specs.declared.message.NameKind.TheVariants as kind
use Rattle.vert_base.specs.declared.value.Ruling.{Ruling}
use Rattle.vert_base.specs.declared.value.Ruling.TheVariants as ruling
use Rattle.vert_base.specs.Neighbours.{ins_of}
use Rattle.vert_tree.specs.declared.program.Dense.{Dense}
use Rattle.vert_tree.specs.declared.program.Sparse.{Sparse}
use Rattle.vert_tree.specs.declared.program.TotalDecl.{TotalDecl}
use Rattle.slot_merge.specs.Combine.{slot_values, total_of}
use Rattle.vert_eval.specs.declared.environment.Env.{Env}
use Rattle.vert_eval.specs.Words.{is_set}
use Rattle.vert_eval.specs.Values.{value_of}
use Rattle.vert_eval.specs.Runs.{Ran, leaves}
use Rattle.vert_eval.specs.Rounds.{Graph, env_at, no_values, outdegree, row_at, sender_at, sent_by, slot_ops, vertices_of}
use Rattle.vert_eval.specs.SourceRun.{Standing, scene_of}
use Rattle.dep_layout.specs.declared.state.Mark.TheVariants as mark
use Rattle.dep_layout.specs.Spelling.{State, spelled}
use Rattle.body_shape.specs.Refresh.{plain_row, refresh_body}
use Rattle.body_shape.specs.Update.{Sent, update_body}
use Rattle.body_shape.specs.Push.{push_body}
use Rattle.body_shape.specs.Tally.{Counted, tally_body}
use Rattle.body_shape.specs.Verdict.{verdict_body}
use Rattle.circulant_plan.specs.Ring.{chunk_of, members_by_steps}
use Rattle.symple_face.specs.Parts.{chunk_vertices, push_list, refresh_list}
use Rattle.symple_face.specs.Plans.{loop_carry}
use Rattle.symple_face.specs.Shapes.{half_in, reduced_in, size_of, words_in}
use Rattle.symple_face.specs.Ring.{RingState, Fresh, Running, Broken, machine_ran, operands, state_of}
use Rattle.symple_face.specs.Source.{Source, scene, stand}

abbrev pub machines_of : Source → ℕ
machines_of src = length src.job.graph.ends

-- the chunk that holds a vertex, given the ends of the chunks
abbrev pub owner_of : List ℕ → ℕ → ℕ
owner_of [] v = 0
owner_of (end ∷ ends) v = if nat_lt v end then 0 else owner_of ends v + 1

-- ---- a dense round at a vertex v of chunk c
-- the environment in which its block begins
abbrev pub block_env : Source → ℕ → ℕ → Env
block_env src round v = env_at (scene src round) v (no_values (slot_ops src.job.program))

abbrev pub members_in : Source → ℕ → List Edge
members_in src v = ins_of src.job.graph.vertices src.job.graph.edges v

-- the members that lie with the machines of the first steps
abbrev pub first_members : Source → ℕ → ℕ → ℕ → List Edge
first_members src v c count =
    members_by_steps src.job.graph.ends (machines_of src) c 0 count (members_in src v)

-- how far its loop has come after them: not begun where the test is false
abbrev pub ring_with : Source → ℕ → ℕ → ℕ → ℕ → Option Dense → RingState
ring_with src round v c count None = Fresh
ring_with src round v c count (Some d) =
    if is_set (value_of d.when_test (block_env src round v))
    then state_of (scene src round) d (block_env src round v) (first_members src v c count)
    else Fresh

abbrev pub ring_at : Source → ℕ → ℕ → ℕ → ℕ → RingState
ring_at src round v c count = ring_with src round v c count src.job.program.dense

-- a ring state of so many words as a body tells it: zeros where the loop hasn't begun
abbrev pub told_state : ℕ → RingState → State
told_state width Fresh = record { mark = mark.Fresh; words = replicate width (pos 0) }
told_state width (Running words) = record { mark = mark.Running; words = words }
told_state width (Broken words) = record { mark = mark.Broken; words = words }

abbrev pub state_at : Source → ℕ → ℕ → ℕ → ℕ → State
state_at src round v c count = told_state (words_in (loop_carry src.split.dense)) (ring_at src round v c count)

-- what the machine of a step does: nothing where the test is false
abbrev pub ran_with : Source → ℕ → ℕ → ℕ → ℕ → Option Dense → Ran
ran_with src round v c step None = leaves (block_env src round v)
ran_with src round v c step (Some d) =
    if is_set (value_of d.when_test (block_env src round v))
    then machine_ran (scene src round) d (block_env src round v) src.job.graph.ends (machines_of src) c
    (members_in src v) step
    else leaves (block_env src round v)

abbrev pub ideal_ran : Source → ℕ → ℕ → ℕ → ℕ → Ran
ideal_ran src round v c step = ran_with src round v c step src.job.program.dense

-- what it sends of the vertex
abbrev pub ideal_sent : Source → ℕ → ℕ → ℕ → ℕ → Sent
ideal_sent src round v c step =
    let ran = ideal_ran src round v c step in
    record {
      values = slot_values 0 (slot_ops src.job.program) ran.emitted;
      operands = operands (reduced_in src.split.dense) ran.env;
    }

-- what machine m reads in a round of this ruling for a vertex: it works on chunk c in step chunk_of m c p
abbrev pub reads_by : Source → Ruling → ℕ → ℕ → ℕ → List ℕ
reads_by src ruling.Dense round m v =
    let c = owner_of src.job.graph.ends v in
    (ideal_ran src round v c (chunk_of m c (machines_of src))).reads
reads_by src _ round m v = []

-- before the first round nothing was read
abbrev pub ideal_reads : Source → ℕ → ℕ → ℕ → List ℕ
ideal_reads src round m v =
    if nat_le src.base round then reads_by src (stand src round).ruling round m v else []

-- ---- a sparse round
-- what a vertex sends, where it is active and the test is true
abbrev pub send_with : Source → ℕ → ℕ → Option Sparse → Option (List ℤ)
send_with src round u None = None
send_with src round u (Some sparse) =
    let env = sender_at (scene src round) (slot_ops src.job.program) u in
    if env.row.active && is_set (value_of sparse.when_test env) then Some (sent_by sparse env) else None

abbrev pub ideal_send : Source → ℕ → ℕ → Option (List ℤ)
ideal_send src round u = send_with src round u src.job.program.sparse

-- ---- after a round
-- the total of a chunk
abbrev pub chunk_total : Source → ℕ → ℕ → TotalDecl → ℤ
chunk_total src round m t =
    let rows = (stand src (round + 1)).rows in
    total_of t.op
    (map (λ v. value_of t.value (env_at (scene_of src.job round rows []) v [])) (chunk_vertices src.job.graph.ends m))

-- what machine m counts of its chunk, and its reads of the round
abbrev pub ideal_count : Source → ℕ → ℕ → Counted
ideal_count src round m =
    let rows = (stand src (round + 1)).rows in
    let active = filter (λ v. (row_at rows v).active) (chunk_vertices src.job.graph.ends m) in
    record {
      active = length active;
      edges = sum (map (outdegree src.job.graph) active);
      reads = sum (map (λ v. length (ideal_reads src round m v)) (vertices_of src.job.graph));
      totals = map (chunk_total src round m) src.job.program.totals.items;
    }

-- ---- bodies
-- the vertices from the first to the second of two
abbrev pub vertices_within : ℕ × ℕ → List ℕ
vertices_within range = range_with_len range.0 (size_of range)

abbrev pub body_of_kind : NameKind → Source → Name → List ℕ
body_of_kind kind.Refresh src x =
    refresh_body
    (map (λ v. plain_row (row_at (stand src x.round).rows v))
    (refresh_list src.job.graph.ends x.from x.to src.job.graph.edges))
body_of_kind kind.Dep src x =
    let c = chunk_of x.from x.step (machines_of src) in
    spelled
    (map (λ v. state_at src x.round v c (x.step + 1)) (vertices_within (half_in src.job.graph.ends c x.half)))
body_of_kind kind.Update src x =
    let range = half_in src.job.graph.ends x.to x.half in
    update_body
    (map (λ v. ideal_sent src x.round v x.to x.step)
    (filter (λ v. nat_le range.0 v && nat_lt v range.1)
    (refresh_list src.job.graph.ends x.to x.from src.job.graph.edges)))
body_of_kind kind.Push src x =
    push_body (map (ideal_send src x.round) (push_list src.job.graph.ends x.from x.to src.job.graph.edges))
body_of_kind kind.Tally src x = tally_body (ideal_count src x.round x.from)
body_of_kind kind.Verdict src x =
    verdict_body (record { ruling = (stand src x.round).ruling; totals = (stand src x.round).totals })

-- the body of a message whose sender is honest. In a loop without a carry no ring states are sent
abbrev pub ideal_body : Source → Name → List ℕ
ideal_body src x = body_of_kind x.kind src x
