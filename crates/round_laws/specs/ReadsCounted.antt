-- What all machines read in a round is what the source's run reads in it.
use Rattle.std.specs.Prelude.{◌≡◌, ◌<◌, ◌≤◌, ℕ, Some, length, map, sum}
use Rattle.vert_tree.specs.declared.program.Dense.{Dense}
use Rattle.vert_eval.specs.Rounds.{reads_of}
use Rattle.chunk_split.specs.Chunks.{AreEnds, vertices_of}
use Rattle.instrument.specs.Continued.{IsSplit}
use Rattle.symple_face.specs.Ideal.{block_env}
use Rattle.symple_face.specs.Source.{Source, scene, stand}
use Rattle.round_laws.specs.Tallies.{source_count}

abbrev pub ReadsAreCounted : Type 0
ReadsAreCounted =
    (src : Source) (most round : ℕ) → AreEnds most src.job.graph.ends →
    src.job.graph.vertices ≡ vertices_of src.job.graph.ends → src.base ≤ round →
    ((d : Dense) (v : ℕ) → v < src.job.graph.vertices → src.job.program.dense ≡ Some d →
    IsSplit src.job.program d (block_env src round v)) →
    (source_count src round).reads ≡
    sum (map length (reads_of src.job.program (stand src round).ruling (scene src round)))
