-- One push after another.
use Rattle.std.proofs.Common.{◌≡◌, ◌-◌, ◌∙◌, ap, arith, map}
use Rattle.std.specs.List.{range_with_len}
use Rattle.symple_face.specs.CoreSparse.{all_worked, kept_sends}
use Rattle.machine_steps.proofs.KeptLaws.{kept_more, kept_none}
use Rattle.machine_steps.proofs.begin.work_all_kept.Goals as goal

pub machines-init : goal.machines-init
machines-init c =
    kept_none c.args.ground.now c.args.receivers.now c.args.held.now.letters c.args.first c.args.env.now
    c.args.partials.now c.requires.can

pub work_kept-requires-clause-other : goal.work_kept-requires-clause-other
work_kept-requires-clause-other c =
    c.requires.others c.machines.from c.machines.auto.from c.machines-test.true

pub machines-preserved : goal.machines-preserved
machines-preserved c =
    kept_more c.args.ground.now c.args.receivers.now c.args.held.now.letters c.args.first c.args.env.now
    c.args.partials.now c.machines.from c.machines.env c.work_kept.new.env c.machines.partials
    c.work_kept.new.partials c.machines.auto.from c.machines.invariant c.work_kept.ensures.worked
    c.work_kept.ensures.width c.work_kept.ensures.settled c.work_kept.ensures.can

pub returns : goal.returns
returns c =
    let done = c.machines.invariant in
    let count : c.machines.from - c.args.first ≡ c.args.end - c.args.first =
    omega (arith, c.machines-test.false, c.machines.auto.from-end c.requires.rises) in
    record {
      worked = λ s shows held.
          done.rows s shows held
          ∙ ap
          (λ n.
          all_worked s c.args.env.now.round
          (map (kept_sends s c.args.env.now.round) (range_with_len c.args.first n)) c.args.partials.now.rows)
          count;
      width = done.width;
      settled = done.kept;
      can = done.can;
    }
