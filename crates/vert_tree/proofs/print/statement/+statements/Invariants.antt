use Rattle.std.proofs.Common.{◌≡◌, ◌++◌, take}
use Rattle.std.specs.String.{string_bytes}
use Rattle.vert_tree.specs.Printed.{printed_block}
use Rattle.vert_tree.specs.Views.{view_block}
use Rattle.vert_tree.proofs.print.statement.+statements.Given as goal

abbrev pub invariant-print_block-lines : goal.invariant-print_block-lines
invariant-print_block-lines l = string_bytes l.out ≡ string_bytes l.initial.out
    ++ printed_block (view_block l.names (take l.statement-index l.statements))
