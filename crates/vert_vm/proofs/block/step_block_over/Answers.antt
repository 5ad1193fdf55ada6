use Rattle.std.proofs.Common.{sym, subst}
use Rattle.vert_code.specs.Blocks.{lists_of}
use Rattle.vert_vm.specs.Steps.{IsEntered}
use Rattle.vert_vm.proofs.StepLaws.{code_entered}
use Rattle.vert_vm.proofs.block.step_block_over.Goals as goal

pub run_list-requires-clause-level : goal.run_list-requires-clause-level
run_list-requires-clause-level c =
    subst (IsEntered 0 0) (sym c.list_at.ensures)
    (code_entered (lists_of c.args.code.now) c.args.code.now.valid c.args.block)
