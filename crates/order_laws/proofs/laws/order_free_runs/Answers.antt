use Rattle.order_laws.proofs.Rounds.{runs_alike, resumes_alike}
use Rattle.order_laws.proofs.laws.order_free_runs.Goals as goal

pub returns-clause-runs : goal.returns-clause-runs
returns-clause-runs c = runs_alike

pub returns-clause-resumes : goal.returns-clause-resumes
returns-clause-resumes c = resumes_alike
