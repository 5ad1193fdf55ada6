use Rattle.std.proofs.Common.{◌++◌, ℕ, length, ap}
use Rattle.array_text.proofs.WritesLaws.{writes_failed, writes_same, writes_then}
use Rattle.command_steps.specs.Outputs.{chunks_text, steps_text}
use Rattle.command_steps.proofs.plan.write_plan.Goals as goal

pub returns : goal.returns
returns g c =
    writes_same (ap (λ (n : ℕ). chunks_text c.args.cuts.now ++ steps_text n) c.count.ensures.value)
    (writes_then _ c.in_ok-write_chunks.ensures c.write_steps.ensures)

pub returns-in_err-write_chunks : goal.returns-in_err-write_chunks
returns-in_err-write_chunks g c = writes_failed (steps_text (length c.args.cuts.now)) c.from_residual.result
    c.from_residual.ensures.0 c.in_err-write_chunks.ensures
