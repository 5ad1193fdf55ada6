-- The machines before this one, and those behind it.
use Rattle.machine_steps.proofs.DropLaws.{dropped_all}
use Rattle.machine_steps.proofs.pushes.drop_pushes.Goals as goal

pub returns : goal.returns
returns c = record {
  dropped = dropped_all c.args.round c.args.ground.now.part.at.machine c.machine-machine.result
      c.machines-machines.result c.args.ground.now.part.at.machines c.args.held.now c.drop_some.new.held
      c.drop_some-2.new.held c.machine-machine.ensures.number c.machines-machines.ensures.count
      c.drop_some.ensures.dropped c.drop_some-2.ensures.dropped;
  together = c.drop_some-2.ensures.together;
}
