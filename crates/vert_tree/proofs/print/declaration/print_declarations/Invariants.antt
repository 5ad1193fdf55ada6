use Rattle.std.proofs.Common.{◌≡◌, ◌++◌, flat_map, map, take}
use Rattle.std.specs.String.{string_bytes}
use Rattle.vert_tree.specs.Printed.{printed_declaration}
use Rattle.vert_tree.specs.Views.{view_declaration}
use Rattle.vert_tree.proofs.print.declaration.print_declarations.Given as goal

abbrev pub invariant-lines : goal.invariant-lines
invariant-lines l = string_bytes l.out ≡ string_bytes l.initial.out
    ++ flat_map (printed_declaration l.keyword)
    (map (view_declaration l.names) (take l.declaration-index l.declarations))
