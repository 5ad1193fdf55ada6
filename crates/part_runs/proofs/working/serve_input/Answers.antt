-- The answer of serving, with its fault named.
use Rattle.part_runs.proofs.working.serve_input.Goals as goal

pub returns-in-Ok : goal.returns-in-Ok
returns-in-Ok g c = c.in-Ok.ensures

pub returns-in-Err : goal.returns-in-Err
returns-in-Err g c =
    let served = c.in-Err.ensures in
    (served.0, served.1, record { fault = c.in-Err.fault; serves = served.2; why_is = c.unserved.ensures })
