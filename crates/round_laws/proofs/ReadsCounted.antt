-- What all machines read in a round is what the source's run reads in it.
use Rattle.std.proofs.Common.{◌≡◌, ◌<◌, ◌≤◌, ℕ, Bool, true, false, List, [], ◌++◌, length, map, sum, refl, sym, ap, subst, ◌∙◌, Option, None, Some, append-nil, arith}
use Rattle.std.specs.Prelude.{if◌then◌else◌}
use Rattle.std.specs.List.{flat_map, range_with_len}
use Rattle.vert_base.specs.declared.graph.Edge.{Edge}
use Rattle.vert_base.specs.declared.value.Ruling.{Ruling}
use Rattle.vert_base.specs.declared.value.Ruling.TheVariants as ruling
use Rattle.vert_tree.specs.declared.program.Dense.{Dense}
use Rattle.vert_tree.specs.declared.program.Sparse.{Sparse}
use Rattle.vert_eval.specs.declared.environment.Env.{Env}
use Rattle.vert_eval.specs.Rounds.{Scene, dense_block, dense_part, gathered, members_of, slot_ops, sparse_part}
use Rattle.vert_eval.specs.Rounds as meaning
use Rattle.vert_eval.specs.Runs.{Ran, leaves}
use Rattle.vert_eval.specs.Values.{value_of}
use Rattle.vert_eval.specs.Words.{is_set}
use Rattle.vert_eval.proofs.FrameLaws.{run_reads}
use Rattle.chunk_split.specs.Chunks.{AreEnds, vertices_of}
use Rattle.circulant_plan.specs.Ring.{AreEndsUpTo, IsCirculant, IsInChunk, chunk_of, lies_in, order_of}
use Rattle.circulant_plan.proofs.CircleLaws.{each_ring_turns, step_of_chunk}
use Rattle.circulant_plan.proofs.ReadingLaws.{reads_in_turn}
use Rattle.graph_table.proofs.FilterLaws.{all_range, all_true, flat_map_none, map-map, map_same}
use Rattle.instrument.specs.Continued.{IsSplit, whole}
use Rattle.symple_face.specs.Ideal.{block_env, ideal_ran, ideal_reads, machines_of, members_in, owner_of, ran_with, reads_by}
use Rattle.symple_face.specs.Ring.{machine_ran}
use Rattle.symple_face.specs.Source.{Source, scene, stand}
use Rattle.symple_face.proofs.ChunkLaws.{lies_high, lies_low}
use Rattle.round_laws.specs.ReadsCounted.{ReadsAreCounted}
use Rattle.round_laws.specs.Sums.{each}
use Rattle.round_laws.proofs.Chunks.{ends_reach}
use Rattle.round_laws.proofs.FoldCloses.{at_most}
use Rattle.round_laws.proofs.FoldScanHalves.{owner_holds}
use Rattle.round_laws.proofs.IdealSparse.{owner_low}
use Rattle.round_laws.proofs.Steps.{by_machines}
use Rattle.round_laws.proofs.Sums.{length-each, steps_are_machines, sum_none, sum_swap}

module _ (src : Source) (most round : ℕ) (are : AreEnds most src.job.graph.ends)
    (sized : src.job.graph.vertices ≡ vertices_of src.job.graph.ends)
  where
    abbrev ends : List ℕ
    ends = src.job.graph.ends

    abbrev p : ℕ
    p = machines_of src

    abbrev sc : Scene
    sc = scene src round

    abbrev steps : List ℕ
    steps = range_with_len 0 p

    abbrev IsSplitAt : ℕ → Type 0
    IsSplitAt v = (d : Dense) → src.job.program.dense ≡ Some d → IsSplit src.job.program d (block_env src round v)

    turns : IsCirculant p
    turns = each_ring_turns p are.0

    upto : AreEndsUpTo src.job.graph.vertices p ends
    upto = subst (λ n. AreEndsUpTo n p ends) (sym sized) (ends_reach most ends are)

    module _ (v c : ℕ) (chunk : c < p) (here : IsInChunk ends c v) (split : IsSplitAt v) where
      abbrev env : Env
      env = block_env src round v

      abbrev all : List Edge
      all = members_of src.job.graph v

      -- what the machines of the steps read, one after another
      pub steps_read : (o : Option Dense) → src.job.program.dense ≡ o →
          flat_map (λ step. (ran_with src round v c step o).reads) steps ≡ (dense_part sc o all env).reads
      steps_read None none = flat_map_none (λ step. []) steps (all_true _ (λ step. refl) steps)
      steps_read (Some d) some = by (is_set (value_of d.when_test env))
        where
          looped : Ran
          looped = whole sc d env all

          by : (b : Bool) →
              flat_map (λ step. (if b then machine_ran sc d env ends p c (members_in src v) step else leaves env).reads)
              steps ≡ (if b then dense_block sc d all env else leaves env).reads
          by true =
              sym (by_machines sc d env src.job.program (split d some) ends p c p (members_in src v)).reads
              ∙ ap (λ l. (whole sc d env l).reads)
              (reads_in_turn src.job.graph.vertices p c v ends src.job.graph.edges upto chunk here)
              ∙ sym (append-nil looped.reads)
              ∙ ap (λ l. looped.reads ++ l) (sym (run_reads d.tail.items looped.env))
          by false = flat_map_none (λ step. []) steps (all_true _ (λ step. refl) steps)

    module _ (v : ℕ) (low : v < vertices_of ends) where
      abbrev c : ℕ
      c = owner_of ends v

      pub chunk_low : c < p
      chunk_low = owner_low ends v are.0 low

      lies : lies_in ends c v ≡ true
      lies = owner_holds ends v are.0 low

      pub lies_here : IsInChunk ends c v
      lies_here = (lies_low ends c v lies, lies_high ends c v lies)

      -- the machine of a step works on the chunk in that step
      pub step_is : (step : ℕ) → step < p → chunk_of (order_of c step p) c p ≡ step
      step_is step early =
          ap (λ k. chunk_of (order_of c step p) k p) (sym (turns.chunk c step chunk_low early))
          ∙ step_of_chunk (order_of c step p) step p (turns.within c step) early

      module _ (split : IsSplitAt v) where
        dense_read : sum (each p (λ m. length (reads_by src ruling.Dense round m v))) ≡
            length (gathered src.job.program ruling.Dense sc v).reads
        dense_read =
            sym (steps_are_machines p c (λ m. length (reads_by src ruling.Dense round m v)) chunk_low)
            ∙ ap sum (map_same (λ step. length (reads_by src ruling.Dense round (order_of c step p) v))
            (λ step. length (ideal_ran src round v c step).reads) steps
            (all_range (λ step. length (reads_by src ruling.Dense round (order_of c step p) v) ≡
            length (ideal_ran src round v c step).reads) 0 p
            (λ step from to. ap (λ k. length (ideal_ran src round v c k).reads) (step_is step (omega (arith, to))))))
            ∙ sym (length-each (λ step. (ideal_ran src round v c step).reads) steps)
            ∙ ap length (steps_read v c chunk_low lies_here split src.job.program.dense refl)

        sparse_reads : (o : Option Sparse) →
            length (sparse_part sc (slot_ops src.job.program) o (members_of sc.graph v) (block_env src round v)).reads
            ≡ 0
        sparse_reads None = refl
        sparse_reads (Some sparse) = refl

        by_ruling : (q : Ruling) → sum (each p (λ m. length (reads_by src q round m v))) ≡
            length (gathered src.job.program q sc v).reads
        by_ruling ruling.Stop = sum_none steps
        by_ruling ruling.Dense = dense_read
        by_ruling ruling.Sparse = sum_none steps ∙ sym (sparse_reads src.job.program.sparse)

        all_read : src.base ≤ round → sum (each p (λ m. length (ideal_reads src round m v))) ≡
            length (gathered src.job.program (stand src round).ruling sc v).reads
        all_read le =
            ap (λ b. sum (each p (λ m. length (if b then reads_by src (stand src round).ruling round m v else []))))
            (at_most src.base round le)
            ∙ by_ruling (stand src round).ruling

    abbrev vertices : List ℕ
    vertices = meaning.vertices_of src.job.graph

    abbrev read : ℕ → List ℕ
    read v = (gathered src.job.program (stand src round).ruling sc v).reads

    counted : ((d : Dense) (v : ℕ) → v < src.job.graph.vertices → src.job.program.dense ≡ Some d →
        IsSplit src.job.program d (block_env src round v)) → src.base ≤ round →
        sum (each p (λ m. sum (map (λ v. length (ideal_reads src round m v)) vertices)))
        ≡ sum (map length (map read vertices))
    counted split le =
        sum_swap (λ m v. length (ideal_reads src round m v)) steps vertices
        ∙ ap sum (map_same (λ v. sum (each p (λ m. length (ideal_reads src round m v)))) (λ v. length (read v)) vertices
        (all_range (λ v. sum (each p (λ m. length (ideal_reads src round m v))) ≡ length (read v)) 0
        src.job.graph.vertices
        (λ v from to.
        let small : v < src.job.graph.vertices = omega (arith, to) in
        all_read v (subst (λ n. v < n) sized small) (λ d some. split d v small some) le)))
        ∙ ap sum (sym (map-map length read vertices))

pub reads_are_counted : ReadsAreCounted
reads_are_counted src most round are sized le split = counted src most round are sized split le
