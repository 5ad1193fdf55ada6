use Rattle.std.proofs.Common.{◌≡◌, ◌++◌, flat_map, map, take}
use Rattle.std.specs.String.{string_bytes}
use Rattle.vert_tree.specs.Printed.{printed_total}
use Rattle.vert_tree.specs.Views.{view_total}
use Rattle.vert_tree.proofs.print.declaration.print_totals.Given as goal

abbrev pub invariant-lines : goal.invariant-lines
invariant-lines l = string_bytes l.out ≡ string_bytes l.initial.out
    ++ flat_map printed_total (map (view_total l.names) (take l.total-index l.totals))
