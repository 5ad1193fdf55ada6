-- One body after another.
use Rattle.std.proofs.Common.{◌≡◌, ℕ, ◌-◌, ◌∙◌, ap, arith, map, subst, sym}
use Rattle.std.specs.List.{range_with_len}
use Rattle.vert_base.specs.declared.message.Name.{Name}
use Rattle.circulant_plan.specs.Names.{push_name}
use Rattle.double_buffer.specs.Held.{AreOfRound, Held}
use Rattle.double_buffer.specs.Taking.{CanTake}
use Rattle.symple_face.specs.CoreTakes.{emptied}
use Rattle.machine_steps.proofs.DropLaws.{dropped_more, dropped_none, push_taken}
use Rattle.machine_steps.proofs.pushes.drop_some.Goals as goal

pub machines-init : goal.machines-init
machines-init c =
    dropped_none c.args.round c.args.ground.now.part.at.machine c.args.first c.args.held.now c.requires.together

pub drop_body-requires : goal.drop_body-requires
drop_body-requires c =
    let part = c.args.ground.now.part in
    let held = c.machines.invariant.held in
    let machines = ap (λ (h : Held). h.machines) held ∙ c.requires.machines in
    let low = c.machines-test.true in
    let place = c.args.ground.now.can.place in
    let count : c.args.ground.now.part.at.machines ≡ c.machines.held.machines = sym machines in
    record {
      one = subst (λ (p : ℕ). CanTake p c.push_name.result) count
          (push_taken part.at.machines c.args.round c.machines.from part.at.machine c.push_name.result
          (omega (arith, low, c.requires.within)) place
          (c.requires.others c.machines.from c.machines.auto.from c.machines-test.true) c.push_name.ensures);
      together = subst (λ (x : Name). AreOfRound x.round x.to c.machines.held.letters) (sym c.push_name.ensures)
          c.machines.invariant.together;
    }

pub machines-preserved : goal.machines-preserved
machines-preserved c =
    dropped_more c.args.round c.args.ground.now.part.at.machine c.args.first c.args.held.now c.machines.from
    c.push_name.result c.machines.held c.drop_body.new.held c.machines.auto.from c.machines.invariant
    c.push_name.ensures c.drop_body.ensures

pub returns : goal.returns
returns c =
    let count : c.machines.from - c.args.first ≡ c.args.end - c.args.first =
    omega (arith, c.machines-test.false, c.machines.auto.from-end c.requires.rises) in
    record {
      dropped = c.machines.invariant.held
          ∙ ap
          (λ n.
          let first = c.args.held.now in
          record first {
            letters =
                emptied
                (map (λ k. push_name c.args.round k c.args.ground.now.part.at.machine) (range_with_len c.args.first n))
                first.letters;
          })
          count;
      together = c.machines.invariant.together;
    }
