-- The parts of a graph are those of one run, and what follows where all is well.
use Rattle.std.proofs.Common.{◌≡◌, ℕ, ◌≤◌, List, length, Result, Ok, Err, sym, subst, ◌∙◌}
use Rattle.std.specs.Prelude.{IfOk}
use Rattle.chunk_split.specs.Chunks.{AreEnds, vertices_of}
use Rattle.edge_reader.specs.EdgeList.{Graph}
use Rattle.graph_table.specs.Tables.{IsTableOf}
use Rattle.mirror_table.specs.Weights.{HasWeights}
use Rattle.symple_face.specs.Cluster.{IsOneRun}
use Rattle.symple_face.specs.Parts.{PlainPart}
use Rattle.symple_face.specs.PartsOf.{parts_of}
use Rattle.vert_base.specs.declared.graph.Edge.{Edge}
use Rattle.vert_base.specs.declared.limits.TheConstants.{EDGES, VERTICES}
use Rattle.vert_base.specs.Neighbours.{AreBelow}

-- what follows of two facts, where all is well
pub both_ok : {T E : Type 0} (P Q R : T → Type 0) → ((t : T) → P t → Q t → R t) → (r : Result T E) → IfOk r P →
    IfOk r Q → IfOk r R
both_ok P Q R step (Ok t) p q = step t p q
both_ok P Q R step (Err e) p q = tt

-- what follows of one fact, where all is well
pub ok_more : {A E : Type 0} {P Q : A → Type 0} (result : Result A E) → ((a : A) → P a → Q a) → IfOk result P →
    IfOk result Q
ok_more (Ok a) step fact = step a fact
ok_more (Err why) step fact = tt

module _ (draws n : ℕ) (list : List Edge) (table : Graph) (ends : List ℕ) (is : IsTableOf n list table)
    (within : n ≤ VERTICES) (few : length list ≤ EDGES) (below : AreBelow n list) (are : AreEnds 64 ends)
    (whole : vertices_of ends ≡ table.vertices) where
  size : vertices_of ends ≡ n
  size = whole ∙ is.vertices

  pub run_of : (parts : List PlainPart) → parts ≡ parts_of ends draws list → HasWeights table →
      (one : IsOneRun parts) × (vertices_of one.ends ≡ n)
  run_of parts same weights = (
    record {
      ends = ends;
      edges = list;
      draws = draws;
      chunks = are;
      within = subst (λ (k : ℕ). k ≤ VERTICES) (sym size) within;
      below = subst (λ (k : ℕ). AreBelow k list) (sym size) below;
      weights = weights n list is below;
      few = few;
      parts_are = same;
    },
    size,
  )
