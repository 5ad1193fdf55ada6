-- The tallies of a round, summed.
use Rattle.std.specs.Prelude.{◌≡◌, ◌+◌, ℕ, true, length, map, sum}
use Rattle.vert_tree.specs.Typed.{is_typed}
use Rattle.vert_eval.specs.Rounds.{vertices_of}
use Rattle.vert_eval.specs.SourceRun.{active_edges, active_vertices, totals_after}
use Rattle.chunk_split.specs.Chunks as chunks
use Rattle.circulant_plan.specs.Table.{others_of}
use Rattle.body_shape.specs.Tally.{Counted}
use Rattle.symple_face.specs.CoreJudge.{all_joined}
use Rattle.symple_face.specs.Ideal.{ideal_count, ideal_reads, machines_of}
use Rattle.symple_face.specs.Source.{Source, stand}
use Rattle.round_laws.specs.Sums.{each}

-- the counts and totals of all vertices after a round, and how many members all machines read in it
abbrev pub source_count : Source → ℕ → Counted
source_count src round =
    let rows = (stand src (round + 1)).rows in
    record {
      active = active_vertices rows;
      edges = active_edges src.job.graph rows;
      reads = sum (each (machines_of src)
          (λ m. sum (map (λ v. length (ideal_reads src round m v)) (vertices_of src.job.graph))));
      totals = totals_after src.job round rows;
    }

-- the own counts of machine 0 and the ideal tallies of the others come to them
abbrev pub TalliesAreSummed : Type 0
TalliesAreSummed =
    (src : Source) (most round : ℕ) → is_typed src.job.program ≡ true → chunks.AreEnds most src.job.graph.ends →
    src.job.graph.vertices ≡ chunks.vertices_of src.job.graph.ends →
    length (stand src (round + 1)).rows ≡ src.job.graph.vertices →
    all_joined src.job.program.totals.items (ideal_count src round 0)
    (map (ideal_count src round) (others_of (machines_of src) 0)) ≡
    source_count src round
