use Rattle.std.proofs.Common.{◌≡◌, ◌+◌, ◌∷◌, [], ◌++◌, flat_map, map, take, sym, ap, ◌∙◌}
use Rattle.std.proofs.lemmas.List.{take_more, take_all}
use Rattle.std.specs.String.{string_bytes}
use Rattle.vert_tree.specs.Printed.{printed_total}
use Rattle.vert_tree.specs.Views.{view_total}
use Rattle.vert_tree.proofs.Printing.{more_of}
use Rattle.vert_tree.proofs.print.declaration.print_totals.Goals as goal

pub lines-preserved : goal.lines-preserved
lines-preserved c =
    let more : take (c.lines.total-index + 1) c.args.totals.now ≡ take c.lines.total-index c.args.totals.now
    ++ c.total-item.result ∷ [] = take_more c.args.totals.now c.lines.total-index c.total-item.result
    c.lines-test.true ∙ ap (λ s. take c.lines.total-index c.args.totals.now ++ s ∷ []) (sym c.total-item.is) in
    more_of printed_total (view_total c.args.names.now) _ _ _ _ _ _ more c.lines.invariant c.in_ok-print_total.ensures

pub returns : goal.returns
returns c = c.lines.invariant ∙ ap (λ l. string_bytes c.args.out.now
    ++ flat_map printed_total (map (view_total c.args.names.now) l)) (take_all _ _ c.lines-test.false)
