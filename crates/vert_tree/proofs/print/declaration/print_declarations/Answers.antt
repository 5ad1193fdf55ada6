use Rattle.std.proofs.Common.{◌≡◌, ◌+◌, ◌∷◌, [], ◌++◌, flat_map, map, take, sym, ap, ◌∙◌}
use Rattle.std.proofs.lemmas.List.{take_more, take_all}
use Rattle.std.specs.String.{string_bytes}
use Rattle.vert_tree.specs.Printed.{printed_declaration}
use Rattle.vert_tree.specs.Views.{view_declaration}
use Rattle.vert_tree.proofs.Printing.{more_of}
use Rattle.vert_tree.proofs.print.declaration.print_declarations.Goals as goal

pub lines-preserved : goal.lines-preserved
lines-preserved c =
    let more : take (c.lines.declaration-index + 1) c.args.declarations.now
    ≡ take c.lines.declaration-index c.args.declarations.now ++ c.declaration-item.result
    ∷ [] = take_more c.args.declarations.now c.lines.declaration-index c.declaration-item.result c.lines-test.true
    ∙ ap (λ s. take c.lines.declaration-index c.args.declarations.now ++ s ∷ []) (sym c.declaration-item.is) in
    more_of (printed_declaration c.args.keyword.now) (view_declaration c.args.names.now) _ _ _ _ _ _ more
    c.lines.invariant c.in_ok-print_declaration.ensures

pub returns : goal.returns
returns c = c.lines.invariant ∙ ap (λ l. string_bytes c.args.out.now
    ++ flat_map (printed_declaration c.args.keyword.now) (map (view_declaration c.args.names.now) l))
    (take_all _ _ c.lines-test.false)
