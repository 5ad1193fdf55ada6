use Rattle.std.proofs.Common.{◌≡◌, ◌<◌, true, subst}
use Rattle.std.specs.List.{All}
use Rattle.chunk_split.specs.Chunks.{AreEnds}
use Rattle.symple_face.specs.Lawful.{AreCounts}
use Rattle.instrument.specs.declared.split.Split.{Split}
use Rattle.word_kinds.specs.Fits.{HaveWeights, literals_fit}
use Rattle.state_laws.proofs.running.tells_can_run.Goals as goal

pub returns : goal.returns
returns c = record {
  whole = c.args.part.now.whole;
  ends = subst (λ ends. AreEnds 64 ends) c.ends-ends.ensures.value c.ends-ends.ensures.ends;
  place = subst (λ m. m < c.args.part.now.at.machines) c.number-machine.ensures.number c.number-machine.ensures.below;
  scan = subst HaveWeights c.deref.ensures.value c.edges_have_weights.ensures;
  push = subst HaveWeights c.deref-2.ensures.value c.edges_have_weights-2.ensures;
  degrees = subst (λ degrees. All AreCounts degrees) c.deref-3.ensures.value c.degrees_are_counts.ensures;
  program = record {
    typed = c.args.part.now.split.value.program.typed;
    fits = subst (λ (q : Split). literals_fit q.program.program ≡ true) c.deref-split.ensures
        c.literals_are_words.ensures;
  };
}
