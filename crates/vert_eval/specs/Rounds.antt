-- A round: what each vertex gathers from its neighbours, and its row after the update.
use Rattle.std.specs.Prelude.{◌==◌, ℕ, ℤ, pos, ◌&&◌, false, List, [], ◌∷◌, ◌++◌, length, map, filter, Option, Some, None, slice_index_or, if◌then◌else◌}
use Rattle.std.specs.List.{flat_map, range_with_len}
use Rattle.vert_base.specs.declared.graph.Edge.{Edge}
use Rattle.vert_base.specs.declared.graph.Neighbour.{Neighbour}
use Rattle.vert_base.specs.declared.value.Combine.{Combine}
use Rattle.vert_base.specs.declared.value.Row.{Row}
use Rattle.vert_base.specs.declared.value.Ruling.{Ruling}
use Rattle.vert_base.specs.declared.value.Ruling.TheVariants as ruling
use Rattle.vert_base.specs.Neighbours.{source, target, neighbours_of}
use Rattle.vert_tree.specs.declared.program.Decl.{Decl}
use Rattle.vert_tree.specs.declared.program.Dense.{Dense}
use Rattle.vert_tree.specs.declared.program.Program.{Program}
use Rattle.vert_tree.specs.declared.program.Sparse.{Sparse}
use Rattle.vert_tree.specs.declared.statement.Stmt.{Stmt}
use Rattle.slot_merge.specs.Combine.{Emission, slot_values}
use Rattle.vert_eval.specs.declared.environment.Env.{Env}
use Rattle.vert_eval.specs.Words.{is_set}
use Rattle.vert_eval.specs.Values.{value_of}
use Rattle.vert_eval.specs.Runs.{Act, Ran, leaves, after, in_turn, run}

-- a graph and the ends of the chunks that its vertices are cut into
pub record Graph : Type 0 where
  pub vertices : ℕ
  pub ends : List ℕ
  pub edges : List Edge

-- what stands when a round begins: the rows and their totals
pub record Scene : Type 0 where
  pub graph : Graph
  pub draws : ℕ
  pub round : ℕ
  pub rows : List Row
  pub totals : List ℤ

abbrev pub empty_row : Row
empty_row = record { words = record { items = [] }; active = false }

abbrev pub row_at : List Row → ℕ → Row
row_at rows v = slice_index_or rows v empty_row

abbrev pub indegree : Graph → ℕ → ℕ
indegree g v = length (filter (λ e. target e == v) g.edges)

abbrev pub outdegree : Graph → ℕ → ℕ
outdegree g v = length (filter (λ e. source e == v) g.edges)

-- the vertices, ascending
abbrev pub vertices_of : Graph → List ℕ
vertices_of g = range_with_len 0 g.vertices

-- the edges into a vertex in the order in which its loop reads them
abbrev pub members_of : Graph → ℕ → List Edge
members_of g v = neighbours_of g.vertices g.ends g.edges v

abbrev pub neighbour_of : Graph → ℕ → ℤ → Neighbour
neighbour_of g u weight = record {
  id = record { 0 = u };
  weight = weight;
  indeg = indegree g u;
  outdeg = outdegree g u;
}

-- the environment of a vertex with these values of the slots
abbrev pub env_at : Scene → ℕ → List (Option ℤ) → Env
env_at s v slots = record {
  id = record { 0 = v };
  n = s.graph.vertices;
  round = s.round;
  indeg = indegree s.graph v;
  outdeg = outdegree s.graph v;
  draws = s.draws;
  row = row_at s.rows v;
  next_active = false;
  locals = record { items = [] };
  touched = 0;
  other = neighbour_of s.graph v (pos 0);
  other_row = row_at s.rows v;
  sends = record { items = [] };
  slots = record { items = slots };
  totals = record { items = s.totals };
  key = 0;
}

-- the lets, in order
abbrev pub with_lets : List Decl → Env → Env
with_lets [] env = env
with_lets (d ∷ ds) env = with_lets ds (record env
    { locals = record { items = env.locals.items ++ value_of d.value env ∷ [] } })

-- the environment at a member of the neighbours
abbrev pub at_member : Scene → Edge → Env → Env
at_member s e env = record env {
  other = neighbour_of s.graph (source e) e.weight;
  other_row = row_at s.rows (source e);
}

-- a run that read a vertex first
abbrev pub reading : ℕ → Ran → Ran
reading u r = record r { reads = u ∷ r.reads }

-- the loop body on one member, which is read
abbrev pub member_act : Scene → List Stmt → Edge → Act
member_act s body e env = reading (source e) (run body (at_member s e env))

-- the loop over a list of members, up to a break
abbrev pub loop : Scene → List Stmt → List Edge → Act
loop s body members = in_turn (map (member_act s body) members)

-- the lets, the loop and the tail, which runs whether or not the loop broke
abbrev pub dense_block : Scene → Dense → List Edge → Act
dense_block s d members env =
    let looped = loop s d.body.items members (with_lets d.lets.items env) in
    after looped (run d.tail.items looped.env)

-- a dense round at a vertex: nothing where the test is false
abbrev pub dense_at : Scene → Dense → List Edge → Act
dense_at s d members env = if is_set (value_of d.when_test env) then dense_block s d members env else leaves env

-- no value for any slot
abbrev pub no_values : List Combine → List (Option ℤ)
no_values ops = map (λ op. None) ops

-- the environment of a sender
abbrev pub sender_at : Scene → List Combine → ℕ → Env
sender_at s ops u = env_at s u (no_values ops)

-- what the sends are at a sender
abbrev pub sent_by : Sparse → Env → List ℤ
sent_by sparse sender = map (λ d. value_of d.value sender) sparse.sends.items

-- the sparse body at a receiver, over what one member sends it
abbrev pub received : Scene → Sparse → Edge → Env → Env → Ran
received s sparse e sender env =
    run sparse.body.items (record (at_member s e env) { sends = record { items = sent_by sparse sender } })

-- what one member makes a receiver emit, where the member is active and its test is true
abbrev pub emitted_over : Scene → List Combine → Sparse → Env → Edge → List Emission
emitted_over s ops sparse env e =
    let sender = sender_at s ops (source e) in
    if sender.row.active && is_set (value_of sparse.when_test sender) then (received s sparse e sender env).emitted
    else []

-- a sparse round at a vertex, which reads nothing
abbrev pub sparse_at : Scene → List Combine → Sparse → List Edge → Act
sparse_at s ops sparse members env = record (leaves env) { emitted = flat_map (emitted_over s ops sparse env) members }

abbrev pub dense_part : Scene → Option Dense → List Edge → Act
dense_part s None members env = leaves env
dense_part s (Some dense) members env = dense_at s dense members env

abbrev pub sparse_part : Scene → List Combine → Option Sparse → List Edge → Act
sparse_part s ops None members env = leaves env
sparse_part s ops (Some sparse) members env = sparse_at s ops sparse members env

abbrev pub slot_ops : Program → List Combine
slot_ops p = map (λ s. s.op) p.slots.items

-- what a vertex emits and reads in a round of this ruling
abbrev pub gathered : Program → Ruling → Scene → ℕ → Ran
gathered p ruling.Stop s v = leaves (env_at s v (no_values (slot_ops p)))
gathered p ruling.Dense s v = dense_part s p.dense (members_of s.graph v) (env_at s v (no_values (slot_ops p)))
gathered p ruling.Sparse s v = sparse_part s (slot_ops p) p.sparse (members_of s.graph v)
    (env_at s v (no_values (slot_ops p)))

-- the row after the update block, whose flag is the one last assigned
abbrev pub updated : List Stmt → Env → Row
updated update env = let left = (run update env).env in record left.row { active = left.next_active }

-- the row of a vertex after the round
abbrev pub row_after : Program → Ruling → Scene → ℕ → Row
row_after p r s v = updated p.update.items (env_at s v (slot_values 0 (slot_ops p) (gathered p r s v).emitted))

-- the rows after the round
abbrev pub rows_after : Program → Ruling → Scene → List Row
rows_after p r s = map (row_after p r s) (vertices_of s.graph)

-- the reads of the round at each vertex
abbrev pub reads_of : Program → Ruling → Scene → List (List ℕ)
reads_of p r s = map (λ v. (gathered p r s v).reads) (vertices_of s.graph)
