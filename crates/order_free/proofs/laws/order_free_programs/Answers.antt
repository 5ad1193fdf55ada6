use Rattle.order_free.proofs.Apart.{forms_apart}
use Rattle.order_free.proofs.FreeLaws.{free_is_order_free}
use Rattle.order_free.proofs.laws.order_free_programs.Goals as goal

pub returns-clause-apart : goal.returns-clause-apart
returns-clause-apart c = forms_apart

pub returns-clause-conditions : goal.returns-clause-conditions
returns-clause-conditions c = free_is_order_free

pub returns-clause-runs : goal.returns-clause-runs
returns-clause-runs c = λ job typed free. c.order_free_runs.ensures.runs job (free_is_order_free job.program typed free)

pub returns-clause-resumes : goal.returns-clause-resumes
returns-clause-resumes c =
    λ job typed free. c.order_free_runs.ensures.resumes job (free_is_order_free job.program typed free)
