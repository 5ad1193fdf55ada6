use Rattle.link_runs.proofs.recording.add.Goals as goal

pub returns-in-Ok-clause-ok : goal.returns-in-Ok-clause-ok
returns-in-Ok-clause-ok c = λ machines events records. c.in-Ok.ensures.added machines events records
