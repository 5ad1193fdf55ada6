-- The bytes that a take gives stand behind those so far.
use Rattle.std.proofs.Common.{◌∙◌, ◌-◌, arith, drop, length, length-drop}
use Rattle.std.proofs.lemmas.List.{length-take}
use borrow.Rule.Slice.PartMut.{same_len_mid}
use Rattle.worker_stream.proofs.FillLaws.{filled_more}
use Rattle.worker_stream.proofs.reading.fill.Goals as goal

pub loop-count-preserved : goal.loop-count-preserved
loop-count-preserved g c =
    let into = c.loop-count.into in
    let count = c.loop-count.count in
    let left = length into - count in
    let within = c.in_ok-more.ensures.within in
    let same = c.take.auto.into in
    let whole = same_len_mid count left into c.take.new.into same in
    let front = length-take left (drop count into) in
    let behind = length-drop count into in
    let before = c.loop-count.invariant.within in
    record {
      within = omega (arith, within, whole, front, behind, before);
      taken = filled_more count left c.in_ok-more.more into c.take.new.into _ _ _ before
          (omega (arith, within, same)) c.loop-count.invariant.taken c.in_ok-more.ensures.left;
      counted = c.in_ok-more.ensures.counted ∙ c.loop-count.invariant.counted;
    }
