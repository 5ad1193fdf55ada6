-- Each edge leads to an own vertex.
use Rattle.std.proofs.Common.{length}
use Rattle.symple_face.specs.PartViews.{plain_of}
use Rattle.vertex_work.proofs.ReceiverLaws.{all_received, few_all, few_own, size_is}
use Rattle.vertex_work.proofs.receivers.Receivers.of.Goals as goal

pub invariant_of-result-clause-received : goal.invariant_of-result-clause-received
invariant_of-result-clause-received c =
    let ground = c.args.ground.now in
    all_received (plain_of ground.part) ground.part.split.value ground.can c.machine-machine.result
    c.machines-machines.result c.start.result c.end-2.result c.end.result c.machine-machine.ensures.number
    c.machines-machines.ensures.ends c.start.ensures c.end-2.ensures.value c.end.ensures.value c.deref.result.now
    (length c.degrees.result.now) (length c.args.rows.now.rows) c.deref.ensures.value c.degrees.ensures.each c.requires

pub invariant_of-result-clause-whole : goal.invariant_of-result-clause-whole
invariant_of-result-clause-whole c =
    let ground = c.args.ground.now in
    size_is (plain_of ground.part) ground.part.split.value ground.can c.machine-machine.result
    c.machines-machines.result c.start.result c.end-2.result c.end.result c.machine-machine.ensures.number
    c.machines-machines.ensures.ends c.start.ensures c.end-2.ensures.value c.end.ensures.value
    (length c.args.rows.now.rows) c.requires

pub invariant_of-result-clause-own : goal.invariant_of-result-clause-own
invariant_of-result-clause-own c =
    let ground = c.args.ground.now in
    few_own (plain_of ground.part) ground.part.split.value ground.can c.machine-machine.result
    c.machines-machines.result c.start.result c.end-2.result c.end.result c.machine-machine.ensures.number
    c.machines-machines.ensures.ends c.start.ensures c.end-2.ensures.value c.end.ensures.value
    (length c.args.rows.now.rows) c.requires

pub invariant_of-result-clause-few : goal.invariant_of-result-clause-few
invariant_of-result-clause-few c =
    let ground = c.args.ground.now in
    few_all (plain_of ground.part) ground.part.split.value ground.can c.machine-machine.result
    c.machines-machines.result c.start.result c.end-2.result c.end.result c.machine-machine.ensures.number
    c.machines-machines.ensures.ends c.start.ensures c.end-2.ensures.value c.end.ensures.value
