use Rattle.std.proofs.Common.{◌+◌, ◌<◌, ◌≤◌, List, drop, length, ap, sym, ◌∙◌, arith, slice_get}
use Rattle.symple_face.specs.Cluster.{ready_from}
use Rattle.symple_face.specs.State.{State}
use Rattle.link_core.proofs.WireChoiceLaws.{behind_first, ready_not, ready_yes}
use Rattle.link_core.proofs.choosing.nth_ready.Goals as goal
use Rattle.link_core.proofs.choosing.nth_ready.Goals.{else-possible, then-possible+else-left-eq0}

pub returns-then-left-eq0-clause-there : goal.returns-then-left-eq0-clause-there
returns-then-left-eq0-clause-there g c =
    let sites : List State = c.args.cluster.now.world.sites in
    let m = c.loop-machine.machine in
    let lt : m < length sites =
    (let test = c.loop-machine-test.true in let n = c.machines-machine-end.ensures.count in omega arith) in
    sym c.loop-machine.invariant.rest
    ∙ ap (slice_get (ready_from m (drop m sites))) c.if-left-eq0.true
    ∙ ap (λ ns. slice_get ns 0) (ready_yes sites m lt (sym c.possible.ensures.is ∙ c.if-possible.true))

pub loop-machine-preserved : goal.loop-machine-preserved
loop-machine-preserved g c =
    let sites : List State = c.args.cluster.now.world.sites in
    let m = c.loop-machine.machine in
    let lt : m < length sites =
    (let test = c.loop-machine-test.true in let n = c.machines-machine-end.ensures.count in omega arith) in
    elim c.if-possible.branch [
      | then-possible+else-left-eq0 w ↦
          let yes = ready_yes sites m lt (sym c.possible.ensures.is ∙ w.if-possible.true) in
          let more = ap length yes in
          let is = w.left-is in
          let old = c.loop-machine.invariant.count in
          let some : 1 ≤ c.loop-machine.left = (let not_none = w.if-left-eq0.false in omega arith) in
          record {
            rest =
                ap (slice_get (ready_from (m + 1) (drop (m + 1) sites))) is
                ∙ sym (behind_first m (ready_from (m + 1) (drop (m + 1) sites)) c.loop-machine.left some)
                ∙ sym (ap (λ ns. slice_get ns c.loop-machine.left) yes)
                ∙ c.loop-machine.invariant.rest;
            count = omega arith;
          }
      | else-possible w ↦
          let not_one = ready_not sites m lt (sym c.possible.ensures.is ∙ w.if-possible.false) in
          let same = ap length not_one in
          let is = w.left-is in
          let old = c.loop-machine.invariant.count in
          record {
            rest =
                ap (slice_get (ready_from (m + 1) (drop (m + 1) sites))) is
                ∙ sym (ap (λ ns. slice_get ns c.loop-machine.left) not_one)
                ∙ c.loop-machine.invariant.rest;
            count = omega arith;
          }
    ]
