-- The verdicts so far.
use Rattle.std.proofs.Common.{◌≡◌, ◌-◌, map}
use Rattle.std.specs.List.{range_with_len}
use Rattle.body_shape.specs.Verdict.{verdict_body}
use Rattle.vert_base.specs.Letters.{letter_of}
use Rattle.machine_steps.proofs.JudgeLaws.{verdict_letter}
use Rattle.machine_steps.proofs.judging.verdicts.Given as goal

abbrev pub invariant-machines : goal.invariant-machines
invariant-machines l = map letter_of l.sent.items
    ≡ map (verdict_letter l.round (verdict_body (record { ruling = l.ruling; totals = l.totals })))
    (range_with_len 1 (l.to - 1))
