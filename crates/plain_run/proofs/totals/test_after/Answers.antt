use Rattle.std.proofs.Common.{ap, ◌∙◌, arith}
use Rattle.vert_tree.specs.Places.{expr_placed}
use Rattle.vert_eval.specs.Values.{counts_of}
use Rattle.plain_run.specs.Jobs.{job_of}
use Rattle.plain_run.proofs.StartLaws.{stop_counts_are}
use Rattle.vert_tree.proofs.TypedLaws.{few_totals}
use Rattle.plain_run.proofs.totals.test_after.Goals as goal

pub enter_vertex-requires-clause-totals : goal.enter_vertex-requires-clause-totals
enter_vertex-requires-clause-totals c =
    omega (arith, c.requires.totals, few_totals c.args.job.now.program.now.program c.args.job.now.program.now.typed)

pub holds-requires-clause-names : goal.holds-requires-clause-names
holds-requires-clause-names c =
    let j = job_of c.args.job.now in
    ap (λ k. expr_placed k c.args.test.now) (ap counts_of c.enter_vertex.ensures.env
    ∙ stop_counts_are j c.args.round c.args.totals.now c.requires.totals) ∙ c.requires.names
