use Rattle.std.proofs.Common.{◌<◌, List, length, ap, sym, ◌∙◌, arith}
use Rattle.symple_face.specs.State.{State}
use Rattle.link_core.proofs.WireChoiceLaws.{ready_not, ready_yes}
use Rattle.link_core.proofs.choosing.ready_count.Goals as goal
use Rattle.link_core.proofs.choosing.ready_count.Goals.{else-possible, then-possible}

pub loop-machine-preserved : goal.loop-machine-preserved
loop-machine-preserved g c =
    let sites : List State = c.args.cluster.now.world.sites in
    let lt : c.loop-machine.machine < length sites =
    (let test = c.loop-machine-test.true in let n = c.machines-machine-end.ensures.count in omega arith) in
    elim c.if-possible.branch [
      | then-possible w ↦
          let more = ap length (ready_yes sites c.loop-machine.machine lt (sym c.possible.ensures.is
          ∙ w.if-possible.true))
          in
          let is = w.count-is in
          let old = c.loop-machine.invariant.rest in
          let few = c.loop-machine.invariant.few in
          record { few = omega arith; rest = omega arith }
      | else-possible w ↦
          let same = ap length (ready_not sites c.loop-machine.machine lt (sym c.possible.ensures.is
          ∙ w.if-possible.false))
          in
          let is = w.count-is in
          let old = c.loop-machine.invariant.rest in
          let few = c.loop-machine.invariant.few in
          record { few = omega arith; rest = omega arith }
    ]
