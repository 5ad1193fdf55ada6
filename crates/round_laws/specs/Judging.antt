-- Counts, totals and rulings of ideal contents are the source's.
use Rattle.std.specs.Prelude.{◌≡◌, ◌+◌, ◌<◌, ℕ, List, length, map, sum}
use Rattle.vert_base.specs.declared.value.Row.{Row}
use Rattle.vert_base.specs.declared.graph.Edge.{Edge}
use Rattle.vert_eval.specs.Rounds.{row_at}
use Rattle.vert_eval.specs.SourceRun.{active_edges, active_vertices, ruling_after}
use Rattle.chunk_split.specs.Chunks.{AreEnds}
use Rattle.instrument.specs.declared.split.Split.{Split}
use Rattle.body_shape.specs.Tally.{Counted}
use Rattle.symple_face.specs.CoreJudge.{counted, ruling_by}
use Rattle.symple_face.specs.Ideal.{ideal_count, ideal_reads}
use Rattle.symple_face.specs.Parts.{chunk_vertices}
use Rattle.symple_face.specs.PartsOf.{part_of}
use Rattle.symple_face.specs.Source.{Source, job_of, stand}
use Rattle.symple_face.specs.State.{State}
use Rattle.vert_eval.specs.Rounds as meaning

-- what a machine counts of the source's rows and of its ideal reads is its ideal tally
abbrev pub CountsAreIdeal : Type 0
CountsAreIdeal =
    (src : Source) (most m round : ℕ) (split : Split) (ends : List ℕ) (draws : ℕ) (edges : List Edge)
    (reads : List (List ℕ)) →
    src.job ≡ job_of split ends draws edges → AreEnds most ends → m < length ends →
    sum (map length reads) ≡ sum (map (λ v. length (ideal_reads src round m v)) (meaning.vertices_of src.job.graph)) →
    counted (part_of ends draws edges m) split
    (map (row_at (stand src (round + 1)).rows) (chunk_vertices ends m)) reads round ≡
    ideal_count src round m

-- a judge that has summed the source's counts and totals rules as the source
abbrev pub JudgesAsTheSource : Type 0
JudgesAsTheSource =
    (s : State) (ends : List ℕ) (draws m round : ℕ) (edges : List Edge) (rows : List Row) (sums : Counted) →
    s.part ≡ part_of ends draws edges m →
    sums.active ≡ active_vertices rows → sums.edges ≡ active_edges (job_of s.split ends draws edges).graph rows →
    ruling_by s round sums ≡ ruling_after (job_of s.split ends draws edges) round rows sums.totals
