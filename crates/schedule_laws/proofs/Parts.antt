-- The machines of a run can run a program whose literals fit.
use Rattle.std.proofs.Common.{◌<◌, ◌^◌, ℕ, List, length, map, sym, subst, arith}
use Rattle.std.specs.Prelude.{Bool, ◌==◌}
use Rattle.std.specs.Int.{w32}
use Rattle.std.specs.Int.RustNames.{FitsSigned}
use Rattle.std.specs.List.{All, filter, range_with_len}
use Rattle.std.proofs.lemmas.List.Elements.{All-filter, All-from_recursion, All-map}
use Rattle.vert_base.specs.declared.graph.Edge.{Edge}
use Rattle.vert_base.specs.Neighbours.{in_order, source, target}
use Rattle.vert_base.proofs.Orders.{All-in_order}
use Rattle.word_kinds.specs.Fits.{HaveWeights, IsFitting}
use Rattle.value_laws.proofs.Rounds.{degree_small}
use Rattle.chunk_split.specs.Chunks.{vertices_of}
use Rattle.circulant_plan.specs.Ring.{lies_in}
use Rattle.graph_table.proofs.FilterLaws.{all_range, all_true}
use Rattle.instrument.specs.declared.split.Split.{Split}
use Rattle.symple_face.specs.Cluster.{IsOneRun}
use Rattle.symple_face.specs.Lawful.{AreCounts, CanRun}
use Rattle.symple_face.specs.Parts.{PlainPart, degree_in}
use Rattle.symple_face.specs.PartsOf.{known_of, part_of}
use Rattle.mirror_table.proofs.PartLaws.{part_is}

module _ (split : Split) (parts : List PlainPart) (one : IsOneRun parts) (fits : IsFitting split.program.program)
  where
    few : length one.edges < 2 ^ 32
    few = let most = one.few in omega (arith, most)

    weights_in : (first then : Edge → ℕ) (test : Edge → Bool) →
        HaveWeights
        (in_order first (vertices_of one.ends) (in_order then (vertices_of one.ends) (filter test one.edges)))
    weights_in first then test =
        All-in_order (λ e. FitsSigned w32 e.weight) first (vertices_of one.ends)
        (in_order then (vertices_of one.ends) (filter test one.edges))
        (All-in_order (λ e. FitsSigned w32 e.weight) then (vertices_of one.ends) (filter test one.edges)
        (All-filter test (λ e. FitsSigned w32 e.weight) one.edges one.weights))

    degrees_small : (m : ℕ) → All AreCounts (map (degree_in one.edges one.edges) (known_of one.ends one.edges m))
    degrees_small m =
        All-map AreCounts (degree_in one.edges one.edges) (known_of one.ends one.edges m)
        (All-from_recursion (λ v. AreCounts (degree_in one.edges one.edges v)) (known_of one.ends one.edges m)
        (all_true (λ v. AreCounts (degree_in one.edges one.edges v)) (λ v. record {
          ins = degree_small (λ e. target e == v) one.edges few;
          outs = degree_small (λ e. source e == v) one.edges few;
        }) (known_of one.ends one.edges m)))

    part_runs : (m : ℕ) → m < length one.ends → CanRun (part_of one.ends one.draws one.edges m) split
    part_runs m low = record {
      whole = part_is 64 one.ends one.edges one.chunks one.below m low one.draws one.within one.few;
      ends = one.chunks;
      place = low;
      scan = weights_in target source (λ e. lies_in one.ends m (source e));
      push = weights_in source target (λ e. lies_in one.ends m (target e));
      degrees = degrees_small m;
      program = fits;
    }

    pub parts_run : All (λ part. CanRun part split) parts
    parts_run =
        subst (All (λ part. CanRun part split)) (sym one.parts_are)
        (All-map (λ part. CanRun part split) (part_of one.ends one.draws one.edges) (range_with_len 0 (length one.ends))
        (All-from_recursion (λ m. CanRun (part_of one.ends one.draws one.edges m) split)
        (range_with_len 0 (length one.ends))
        (all_range (λ m. CanRun (part_of one.ends one.draws one.edges m) split) 0 (length one.ends)
        (λ m from to. part_runs m (omega (arith, to))))))
