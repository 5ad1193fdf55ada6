use Rattle.std.proofs.Common.{◌≡◌, IfOk, List, ℕ, map, subst, rules}
use Rattle.std.specs.List.{All}
use Rattle.chunk_split.specs.Chunks.{AreEnds, vertices_of}
use Rattle.instrument.specs.declared.split.Split.{Split}
use Rattle.mirror_table.specs.Weights.{HasWeights}
use Rattle.symple_face.specs.Cluster.{IsOneRun}
use Rattle.symple_face.specs.PartViews.{plain_of}
use Rattle.symple_face.specs.PartsOf.{parts_of}
use Rattle.run_tests.proofs.PartsFrom.{both_ok, run_of}
use Rattle.run_tests.proofs.machines.parts_of.Goals as goal

pub returns-clause-one_run : goal.returns-clause-one_run
returns-clause-one_run c =
    let list = c.args.edges.list.items in
    let n = c.args.edges.vertices in
    both_ok (λ parts. (m : ℕ) (edges : List _) → _ → _ → map plain_of parts.items ≡
    parts_of c.cuts_of-cuts.result 42 edges) (λ parts. HasWeights c.in_ok-table.table) (λ parts.
    (one : IsOneRun (map plain_of parts.items)) × (vertices_of one.ends ≡ n))
    (λ parts made weights. run_of 42 n list c.in_ok-table.table c.cuts_of-cuts.result c.in_ok-table.ensures
    c.args.edges.within c.args.edges.few c.args.edges.below
    (subst (λ (es : List ℕ). AreEnds 64 es) c.ends-ends.ensures.value c.ends-ends.ensures.ends)
    c.cuts_of-cuts.ensures.whole (map plain_of parts.items)
    (made n list c.in_ok-table.ensures c.args.edges.below) weights)
    c.parts.result c.parts.ensures.graph c.parts.ensures.weights

pub returns-clause-one_split : goal.returns-clause-one_split
returns-clause-one_split c = subst (λ (split : Split). IfOk c.parts.result (λ parts.
    All (λ part. part.split.value ≡ split) parts.items)) (search rules) c.parts.ensures.split
