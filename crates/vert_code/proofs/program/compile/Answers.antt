use Rattle.std.proofs.Common.{ap, ◌∙◌}
use Rattle.vert_code.specs.Valid.{is_valid}
use Rattle.vert_code.proofs.Programs.{code_names, code_runs, code_valid}
use Rattle.vert_code.proofs.program.compile.Goals as goal

pub invariant_of-result : goal.invariant_of-result
invariant_of-result c = record {
  valid = ap is_valid c.in_ok-blocks.ensures
      ∙ code_valid c.args.split.now.program.program c.args.split.now.program.typed;
}

pub returns-clause-names : goal.returns-clause-names
returns-clause-names c = code_names c.args.split.now.program.program c.args.split.now.program.typed _
    c.in_ok-blocks.ensures

pub returns-clause-runs : goal.returns-clause-runs
returns-clause-runs c = code_runs c.args.split.now.program.program c.args.split.now.program.typed _
    c.in_ok-blocks.ensures
