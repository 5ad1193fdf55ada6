use Rattle.std.proofs.lemmas.Result.{err_from_is_err_and}
use Rattle.command_steps.proofs.read.load_graph.Goals as goal

pub returns-in_err-_bytes-clause-graph : goal.returns-in_err-_bytes-clause-graph
returns-in_err-_bytes-clause-graph g c =
    let p = err_from_is_err_and c.from_residual.result c.from_residual.ensures.1 in
    rw (p.1, p.2) c.in_err-_bytes.ensures.graph

pub returns-clause-graph : goal.returns-clause-graph
returns-clause-graph g c = c.in_ok-_bytes.ensures.graph.0
