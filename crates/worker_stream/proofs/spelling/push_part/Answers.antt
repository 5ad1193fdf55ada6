-- A part has few degrees.
use Rattle.std.proofs.Common.{List, ℕ, ap, arith, length, subst}
use Rattle.chunk_split.specs.Chunks.{AreEnds}
use Rattle.symple_face.specs.PartViews.{plain_of}
use Rattle.worker_stream.proofs.FewDegrees.{degrees_few}
use Rattle.worker_stream.proofs.spelling.push_part.Goals as goal

pub push_counted_degrees-requires : goal.push_counted_degrees-requires
push_counted_degrees-requires c =
    let part = c.args.part.now in
    let are : AreEnds 64 part.cuts = subst (λ (q : List ℕ). AreEnds 64 q) c.ends.ensures.value c.ends.ensures.ends in
    let few = degrees_few (plain_of part) are part.whole in
    let same = ap length c.deref-3.ensures.value in
    omega (arith, few, same)
