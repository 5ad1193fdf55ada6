use Rattle.std.proofs.Common.{◌≡◌, IfOk, List, ℕ, map, subst, rules}
use Rattle.std.specs.List.{All}
use Rattle.chunk_split.specs.Chunks.{AreEnds}
use Rattle.edge_reader.specs.Gives.{graph_of_edges}
use Rattle.instrument.specs.declared.split.Split.{Split}
use Rattle.mirror_table.specs.Weights.{HasWeights}
use Rattle.symple_face.specs.PartViews.{plain_of as plain_part}
use Rattle.symple_face.specs.PartsOf.{parts_of}
use Rattle.machine_runs.specs.RunParts.{IsRunOf}
use Rattle.machine_runs.proofs.PartsFrom.{both_ok, run_of}
use Rattle.machine_runs.proofs.machines.parts_from.Goals as goal

pub returns-clause-of_graph : goal.returns-clause-of_graph
returns-clause-of_graph c =
    let list = c.args.edges.list.items in
    let n = c.args.edges.vertices in
    both_ok (λ parts. (m : ℕ) (edges : List _) → _ → _ → map plain_part parts.items ≡
    parts_of c.cuts_of-cuts.result c.args.draws edges) (λ parts. HasWeights c.in_ok-table.table) (λ parts.
    IsRunOf c.args.machines c.args.draws (graph_of_edges c.args.edges) (map plain_part parts.items))
    (λ parts made weights. run_of c.args.draws n list c.in_ok-table.table c.cuts_of-cuts.result c.in_ok-table.ensures
    c.args.edges.within c.args.edges.few c.args.edges.below
    (subst (λ (es : List ℕ). AreEnds 64 es) c.ends-ends.ensures.value c.ends-ends.ensures.ends)
    c.cuts_of-cuts.ensures.whole c.args.machines (map plain_part parts.items)
    (made n list c.in_ok-table.ensures c.args.edges.below) weights
    (c.cuts_of-cuts.ensures.graph n list c.in_ok-table.ensures))
    c.parts.result c.parts.ensures.graph c.parts.ensures.weights

pub returns-clause-split : goal.returns-clause-split
returns-clause-split c = subst (λ (split : Split). IfOk c.parts.result (λ parts.
    All (λ part. part.split.value ≡ split) parts.items)) (search rules) c.parts.ensures.split
