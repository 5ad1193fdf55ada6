-- A part has few edges, degrees and chunks.
use Rattle.std.proofs.Common.{List, ℕ, arith, subst}
use Rattle.chunk_split.specs.Chunks.{AreEnds}
use Rattle.symple_face.specs.PartViews.{plain_of}
use Rattle.worker_stream.proofs.FewDegrees.{degrees_few}
use Rattle.worker_stream.proofs.spelling.file_len.Goals as goal

pub overflow_mul-result-2 : goal.overflow_mul-result-2
overflow_mul-result-2 c =
    let part = c.args.part.now in
    let are : AreEnds 64 part.cuts = subst (λ (q : List ℕ). AreEnds 64 q) c.ends.ensures.value c.ends.ensures.ends in
    let few = degrees_few (plain_of part) are part.whole in
    omega (
      arith,
      few,
      part.whole.few,
      part.whole.few_scan,
      part.whole.few_push,
      part.scan.ok.0,
      part.push.ok.0,
      part.degrees.ok.0,
      c.len.ensures,
      c.len-2.ensures,
      c.len-3.ensures,
    )

pub overflow_add-result-3 : goal.overflow_add-result-3
overflow_add-result-3 c =
    let part = c.args.part.now in
    let are : AreEnds 64 part.cuts = subst (λ (q : List ℕ). AreEnds 64 q) c.ends.ensures.value c.ends.ensures.ends in
    let few = degrees_few (plain_of part) are part.whole in
    let most = c.ends.ensures.ends.1 in
    omega (
      arith,
      few,
      most,
      part.whole.few,
      part.whole.few_scan,
      part.whole.few_push,
      part.scan.ok.0,
      part.push.ok.0,
      part.degrees.ok.0,
      c.len.ensures,
      c.len-2.ensures,
      c.len-3.ensures,
      c.requires,
    )
