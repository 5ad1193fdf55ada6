-- What the machines of the steps read for a vertex, one after another, is what its loop reads.
use Rattle.std.proofs.Common.{◌≡◌, ◌<◌, ◌≤◌, ℕ, Bool, true, false, List, [], refl, sym, ap, ◌∙◌, Option, None, Some, arith}
use Rattle.std.specs.Prelude.{◌==◌, ◌&&◌, if◌then◌else◌, map}
use Rattle.std.specs.List.{flat_map, list_any, range_with_len}
use Rattle.vert_base.specs.declared.graph.Edge.{Edge}
use Rattle.vert_base.specs.declared.value.Ruling.{Ruling}
use Rattle.vert_base.specs.declared.value.Ruling.TheVariants as ruling
use Rattle.vert_base.specs.Neighbours.{target}
use Rattle.vert_tree.specs.declared.program.Dense.{Dense}
use Rattle.vert_tree.specs.declared.program.Sparse.{Sparse}
use Rattle.vert_eval.specs.Rounds.{Scene, gathered, members_of, slot_ops, sparse_part}
use Rattle.chunk_split.specs.Chunks.{AreEnds, vertices_of}
use Rattle.circulant_plan.specs.Ring.{order_of}
use Rattle.graph_table.proofs.FilterLaws.{all_range, all_true, flat_map_none, flat_map_same}
use Rattle.instrument.specs.Continued.{IsSplit}
use Rattle.symple_face.specs.CoreSight.{beside, targets_of}
use Rattle.symple_face.specs.Ideal.{block_env, ideal_ran, ideal_reads, machines_of, owner_of, reads_by}
use Rattle.symple_face.specs.PartsOf.{part_of, scan_of}
use Rattle.symple_face.specs.Source.{Source, scene, stand}
use Rattle.round_laws.proofs.FoldCloses.{at_most}
use Rattle.round_laws.proofs.FoldUpdates.{among_kept, beside_none}
use Rattle.round_laws.proofs.Lists.{any_range}
use Rattle.round_laws.proofs.Sights.{beside_is}
use Rattle.round_laws.proofs.ReadsTargets.{unread}
use Rattle.round_laws.proofs.ReadsCounted.{steps_read, step_is, chunk_low, lies_here}

module _ (src : Source) (round : ℕ) (are : AreEnds 64 src.job.graph.ends)
    (sized : src.job.graph.vertices ≡ vertices_of src.job.graph.ends) (v : ℕ)
    (low : v < vertices_of src.job.graph.ends) where
  abbrev ends : List ℕ
  ends = src.job.graph.ends

  abbrev edges : List Edge
  edges = src.job.graph.edges

  abbrev p : ℕ
  p = machines_of src

  abbrev sc : Scene
  sc = scene src round

  abbrev steps : List ℕ
  steps = range_with_len 0 p

  abbrev c : ℕ
  c = owner_of ends v

  -- ---- one machine
  module _ (m : ℕ) (machine : m < p) where
    abbrev is_target : ℕ → Bool
    is_target u = list_any (λ e. target e == u) (scan_of ends edges m)

    abbrev targets : List ℕ
    targets = targets_of (part_of ends src.job.draws edges m)

    among : (b : Bool) → is_target v ≡ b → list_any (λ u. u == v) targets ≡ b
    among b is =
        among_kept is_target v (range_with_len 0 (vertices_of ends)) b is
        ∙ ap (λ x. b && x) (any_range v 0 (vertices_of ends) (omega arith) (omega (arith, low)))
        ∙ whole_of b
      where
        whole_of : (a : Bool) → (a && true) ≡ a
        whole_of true = refl
        whole_of false = refl

    -- what a machine holds of its reads for the vertex
    pub held_reads : beside [] v targets (map (ideal_reads src round m) targets) ≡ ideal_reads src round m v
    held_reads = by (is_target v) refl
      where
        by : (b : Bool) → is_target v ≡ b →
            beside [] v targets (map (ideal_reads src round m) targets) ≡ ideal_reads src round m v
        by true is = beside_is [] (ideal_reads src round m) targets v (among true is)
        by false is =
            beside_none [] targets v (map (ideal_reads src round m) targets) (among false is) ∙
            sym (unread src 64 m round are sized machine v low is)

  -- ---- all machines
  module _ (split : (d : Dense) → src.job.program.dense ≡ Some d → IsSplit src.job.program d (block_env src round v))
    where
      sparse_reads : (o : Option Sparse) →
          (sparse_part sc (slot_ops src.job.program) o (members_of sc.graph v) (block_env src round v)).reads ≡ []
      sparse_reads None = refl
      sparse_reads (Some sparse) = refl

      turns_read : (q : Ruling) → flat_map (λ step. reads_by src q round (order_of c step p) v) steps ≡
          (gathered src.job.program q sc v).reads
      turns_read ruling.Stop = flat_map_none (λ step. []) steps (all_true _ (λ step. refl) steps)
      turns_read ruling.Sparse =
          flat_map_none (λ step. []) steps (all_true _ (λ step. refl) steps)
          ∙ sym (sparse_reads src.job.program.sparse)
      turns_read ruling.Dense =
          flat_map_same (λ step. reads_by src ruling.Dense round (order_of c step p) v)
          (λ step. (ideal_ran src round v c step).reads) steps
          (all_range (λ step. reads_by src ruling.Dense round (order_of c step p) v ≡
          (ideal_ran src round v c step).reads) 0 p
          (λ step from to. ap (λ k. (ideal_ran src round v c k).reads)
          (step_is src 64 round are sized v low step (omega (arith, to)))))
          ∙ steps_read src 64 round are sized v c (chunk_low src 64 round are sized v low)
          (lies_here src 64 round are sized v low) split src.job.program.dense refl

      pub read_in_turn : src.base ≤ round →
          flat_map (λ step. ideal_reads src round (order_of c step p) v) steps ≡
          (gathered src.job.program (stand src round).ruling sc v).reads
      read_in_turn le =
          ap (λ b. flat_map (λ step. if b then reads_by src (stand src round).ruling round (order_of c step p) v
          else []) steps) (at_most src.base round le)
          ∙ turns_read (stand src round).ruling
