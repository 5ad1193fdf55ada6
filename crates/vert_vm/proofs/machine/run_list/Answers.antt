use Rattle.std.proofs.Common.{◌∙◌, arith}
use Rattle.vert_eval.proofs.FrameLaws.{SameFrame-trans}
use Rattle.vert_vm.proofs.EndLaws.{SameEnd-trans}
use Rattle.vert_vm.proofs.machine.run_list.Goals as goal

pub loop-place-smaller : goal.loop-place-smaller
loop-place-smaller c = let ahead = c.in-Some.ensures.ahead in omega arith

pub loop-place-preserved : goal.loop-place-preserved
loop-place-preserved c =
    let l = c.loop-place in
    let h = c.run_next.ensures in
    record {
      ends = SameEnd-trans _ _ _ _ _ _ _ _ _ c.in-Some.ensures.ends l.invariant.ends;
      entered = c.in-Some.ensures.entered;
      within = c.in-Some.ensures.within;
      kept = SameFrame-trans _ _ _ l.invariant.kept h.kept;
      partials = h.partials ∙ l.invariant.partials;
    }
