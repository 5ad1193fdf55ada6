-- The numbers of a part in memory fit their bytes.
use Rattle.std.proofs.Common.{ℕ, List, arith, subst}
use Rattle.std.specs.List.{All}
use Rattle.vert_base.specs.declared.graph.Edge.{Edge}
use Rattle.vert_tree.specs.Views.{view_program}
use Rattle.word_kinds.specs.Fits.{HaveWeights}
use Rattle.chunk_split.specs.Chunks.{AreEnds}
use Rattle.symple_face.specs.declared.degree.Degree.{Degree}
use Rattle.symple_face.specs.Lawful.{AreCounts}
use Rattle.worker_stream.proofs.spelling.write_part.Goals as goal

pub returns-clause-fits : goal.returns-clause-fits
returns-clause-fits c =
    let part = c.args.part.now in
    let below = c.number-machine.ensures.below in
    let number = c.number-machine.ensures.number in
    record {
      whole = part.whole;
      ends = subst (λ (q : List ℕ). AreEnds 64 q) c.ends-ends.ensures.value c.ends-ends.ensures.ends;
      place = omega (arith, below, number);
      draws = omega arith;
      scan = subst (λ (q : List Edge). HaveWeights q) c.deref.ensures.value c.edges_have_weights.ensures;
      push = subst (λ (q : List Edge). HaveWeights q) c.deref-2.ensures.value c.edges_have_weights-2.ensures;
      degrees = subst (λ (q : List Degree). All AreCounts q) c.deref-3.ensures.value c.degrees_are_counts.ensures;
      accepted = (view_program part.split.value.program.program, c.requires.tree, c.requires.accepted);
    }
