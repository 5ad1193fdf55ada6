use Rattle.machine_parts.proofs.SpanLaws.{spans_rise}
use Rattle.machine_parts.proofs.TargetLaws.{targets_are_told}
use Rattle.machine_parts.proofs.laws.rising_spans.Goals as goal

pub returns-clause-rise : goal.returns-clause-rise
returns-clause-rise c = spans_rise

pub returns-clause-told : goal.returns-clause-told
returns-clause-told c = targets_are_told
