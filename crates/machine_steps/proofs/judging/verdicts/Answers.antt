use Rattle.std.proofs.Common.{ℕ, List, ap, arith}
use Rattle.body_shape.specs.Verdict.{verdict_body}
use Rattle.machine_steps.proofs.JudgeLaws.{verdict_letter, verdicts_all, verdicts_more}
use Rattle.machine_steps.proofs.judging.verdicts.Goals as goal

pub machines-preserved : goal.machines-preserved
machines-preserved c =
    let body = verdict_body (record { ruling = c.args.ruling; totals = c.args.totals.now }) in
    verdicts_more c.args.round body c.machines.sent.items c.push.new.self.items _ c.machines.to c.machines.auto.to
    c.machines.invariant c.in_ok-push.ensures.items
    (ap (λ (b : List ℕ). verdict_letter c.args.round b c.machines.to) c.in_ok-verdict_body.ensures)

pub returns : goal.returns
returns c =
    let p = c.args.machines in
    verdicts_all c.args.round (verdict_body (record { ruling = c.args.ruling; totals = c.args.totals.now }))
    c.machines.sent.items c.machines.to p _ (omega (
      arith,
      c.machines-test.false,
      c.machines.auto.to-end
          c.requires.some,
    ))
    (omega arith) c.machines.invariant
